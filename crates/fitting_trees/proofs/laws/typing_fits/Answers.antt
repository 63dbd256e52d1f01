use Rattle.std.proofs.Common.{◌≡◌, true}
use Rattle.data_set_trees.specs.declared.operand.Operand.TheVariants as operand
use Rattle.fitting_trees.proofs.Expressions.{typed-fits}
use Rattle.fitting_trees.proofs.laws.typing_fits.Goals as goal

pub returns : goal.returns
returns c = λ structures among naming e d names rulesets ranged h. typed-fits structures (λ s. among s ≡ true) naming names rulesets e ranged (operand.DataSet d) h

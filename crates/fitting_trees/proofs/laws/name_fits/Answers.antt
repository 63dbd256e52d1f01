use Rattle.std.proofs.Common.{◌≡◌, true}
use Rattle.fitting_trees.proofs.Applied.{name-fits}
use Rattle.fitting_trees.proofs.laws.name_fits.Goals as goal

pub returns : goal.returns
returns c = λ structures among source structure has may. name-fits structures (λ s. among s ≡ true) source structure has may

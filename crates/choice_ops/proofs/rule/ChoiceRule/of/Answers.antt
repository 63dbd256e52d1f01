use Rattle.data_set_trees.specs.checked.Operators.{an_operator}
use Rattle.choice_ops.proofs.Chosen.{typed-choice}
use Rattle.choice_ops.proofs.rule.ChoiceRule.of.Goals as goal

pub of-requires : goal.of-requires
of-requires c = let node = c.args.node.now in typed-choice (an_operator node.operator node.operands node.structure) c.requires.typed c.requires.choice

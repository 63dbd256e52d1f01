use Rattle.std.proofs.Common.{sym, subst, ◌∙◌}
use Rattle.data_set_trees.specs.declared.tree.Source.{Source}
use Rattle.round_core.specs.Steps.{IsFirstNews}
use Rattle.round_core.proofs.StepLemmas.{first_none}
use Rattle.round_core.proofs.moves.first_change.Goals as goal

pub returns-in_ok-same-in-None : goal.returns-in_ok-same-in-None
returns-in_ok-same-in-None c = subst (λ (s : Source). IsFirstNews c.args.changes.now c.in_ok-same-in-None.same s) (sym c.in-Input.is) (first_none c.args.changes.now c.in-Input.n c.in_ok-same-in-None.same c.index-changes-n.result (c.in_ok-same-in-None.ensures.cases ∙ c.requires) c.index-changes-n.is c.in-None.is)

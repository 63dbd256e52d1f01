use Rattle.std.proofs.Common.{sym, ap, ◌∙◌, not, map}
use Rattle.std.specs.Option.{is_some}
use Rattle.operator_meaning.specs.sets.Sets.{stays}
use Rattle.data_set_trees.specs.declared.tree.SetOperation.{SetOperation}
use Rattle.set_ops.proofs.Taken.{all-stay, first-stays}
use Rattle.set_ops.proofs.chosen.stays.Goals as goal

pub returns-in-Intersect : goal.returns-in-Intersect
returns-in-Intersect c =
    c.are_all_there.ensures ∙ all-stay c.args.points.now
    ∙ sym (ap (λ (o : SetOperation). stays o (map is_some c.args.points.now)) c.in-Intersect.is)

pub returns-in-Some : goal.returns-in-Some
returns-in-Some c =
    ap not c.is_any_there.ensures ∙ first-stays c.args.points.now c.in-Some._first.now c.in-Some.others.now c.in-Some.ensures.cases.0
    ∙ sym (ap (λ (o : SetOperation). stays o (map is_some c.args.points.now)) c.in-Setdiff.is)

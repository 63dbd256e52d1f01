use Rattle.std.proofs.Common.{◌∙◌, ap, subst, List, ◌≡◌}
use Rattle.std.specs.Option.{IfSome}
use Rattle.vtl_values.specs.declared.value.Value.{Value}
use Rattle.data_model.specs.Outcomes.{Answer}
use Rattle.point_sets.specs.Changes.{Changes}
use Rattle.held_index.specs.Rules.{answer_of}
use Rattle.held_index.proofs.Notes.{range_of, finished-range, finished-settled}
use Rattle.held_index.proofs.draft.Draft.finish.Goals as goal

pub returns-in_ok-new-in-Some : goal.returns-in_ok-new-in-Some
returns-in_ok-new-in-Some c = ap range_of c.in_ok-new-in-Some.ensures.ok ∙ finished-range c.self.inside.changes c.self.inside.beyond c.args.self c.args.before c.self.view_is c.in-Some.key c.in-Some.is

pub returns-in-None : goal.returns-in-None
returns-in-None c =
    subst (λ (t : Answer (List Value) Changes). IfSome (answer_of c.delta_of.result) (λ a. a ≡ t)) (finished-settled c.self.inside.changes c.self.inside.beyond c.args.self c.args.before c.self.view_is c.in-None.is) c.delta_of.ensures

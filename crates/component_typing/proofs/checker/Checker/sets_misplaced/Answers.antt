use Rattle.std.proofs.Common.{◌∷◌, map, ◌∙◌}
use Rattle.scalar_trees.specs.typing.Scopes.{kinds_of}
use Rattle.scalar_trees.specs.typing.Scalars.{meaning, visited}
use Rattle.component_typing.proofs.Steps.{misplaced_there}
use Rattle.component_typing.proofs.Visits.{visited_two}
use Rattle.component_typing.proofs.checker.Checker.sets_misplaced.Goals as goal

pub returns : goal.returns
returns g c =
    let scope = c.args.self.now.scope.now in
    let basis = c.args.self.now.basis in
    let others = map meaning c.args.others.now in
    let before = visited_two scope basis (meaning c.args.first.now) (meaning c.args.second.now) others c.in_ok-part.field-0 c.in_ok-part-2.field-0 c.in_ok-part.ensures.ok c.in_ok-part-2.ensures.ok in
    misplaced_there (kinds_of scope.columns basis) (visited (meaning c.args.first.now ∷ meaning c.args.second.now ∷ others) scope basis) c.args.place c.at.result (before ∙ (c.in_ok-visit.ensures {u = tt}).ok) c.at.ensures

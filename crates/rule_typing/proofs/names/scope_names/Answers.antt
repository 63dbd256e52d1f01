use Rattle.std.proofs.Common.{◌++◌, drop, ◌+◌, List, ap, ◌∙◌, sym}
use Rattle.std.specs.Prelude.{filter_map}
use Rattle.scalar_trees.specs.declared.typing.scope.ScopeName.{ScopeName}
use Rattle.clause_typing.proofs.Walks.{kept, passed}
use Rattle.rule_typing.specs.Named.{variable_on}
use Rattle.rule_typing.proofs.names.scope_names.Goals as goal
use Rattle.rule_typing.proofs.names.scope_names.Goals.{in-Some+in_ok-push, in_default}

pub loop-variable-preserved : goal.loop-variable-preserved
loop-variable-preserved c =
    let name = variable_on c.args.frame.now in
    let variables = c.args.variables.now in
    let i = c.loop-variable.variable-index in
    let x = c.variable-item.result in
    let names = c.loop-variable.names in
    let rest = filter_map name (drop (i + 1) variables) in
    elim c.match-branch-2.branch [
      | in-Some+in_ok-push w ↦ kept name variables i x w.in-Some.name names c.loop-variable-test.true c.variable-item.is (sym w.in-Some.is ∙ c.in_ok-name.ensures) c.loop-variable.invariant ∙ ap (λ (q : List ScopeName). q ++ rest) (sym (w.names-is ∙ w.in_ok-push.ensures.ok))
      | in_default w ↦ passed name variables i x names c.loop-variable-test.true c.variable-item.is (sym w.in_default.is ∙ c.in_ok-name.ensures) c.loop-variable.invariant ∙ ap (λ (q : List ScopeName). q ++ rest) (sym w.names-is)
    ]

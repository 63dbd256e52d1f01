use Rattle.std.proofs.Common.{List, ◌++◌, map, ap, ◌∙◌}
use Rattle.std.proofs.lemmas.List.{take_all}
use Rattle.vtl_values.specs.declared.value.Value.{Value}
use Rattle.point_sets.specs.declared.delta.Change.{Change}
use Rattle.operator_meaning.specs.joins.Joins.{join_key}
use Rattle.join_eval.specs.Plans.{structure_of}
use Rattle.outer_joins.proofs.Looked.{keys-all}
use Rattle.outer_joins.proofs.notes.push_keys.Goals as goal

pub returns-clause-keys : goal.returns-clause-keys
returns-clause-keys c =
    let changes : List Change = c.changes-change-items.result.now in
    let j = c.args.plan.now in
    let s = structure_of j c.args.operand in
    c.loop-change.invariant
    ∙ ap (λ (cs : List Change). c.args.keys.now.items ++ map (λ d. join_key j s d.key) cs) (take_all c.loop-change.change-index changes c.loop-change-test.false)
    ∙ ap (λ (ks : List (List Value)). c.args.keys.now.items ++ ks) (keys-all (join_key j s) changes c.args.news.now c.changes-change-items.ensures.entries)

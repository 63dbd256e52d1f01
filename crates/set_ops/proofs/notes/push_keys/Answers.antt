use Rattle.std.proofs.Common.{List, ◌++◌, map, ap, ◌∙◌}
use Rattle.std.proofs.lemmas.List.{take_all}
use Rattle.vtl_values.specs.declared.value.Value.{Value}
use Rattle.point_sets.specs.declared.delta.Change.{Change}
use Rattle.clause_meaning.specs.Clauses.{values_at}
use Rattle.set_ops.proofs.Looked.{keys-all}
use Rattle.set_ops.proofs.notes.push_keys.Goals as goal

pub returns-clause-keys : goal.returns-clause-keys
returns-clause-keys c =
    let changes : List Change = c.changes-change-items.result.now in
    let r = c.args.reading.now in
    c.loop-change.invariant
    ∙ ap (λ (cs : List Change). c.args.keys.now.items ++ map (λ d. values_at r.key d.key) cs) (take_all c.loop-change.change-index changes c.loop-change-test.false)
    ∙ ap (λ (ks : List (List Value)). c.args.keys.now.items ++ ks) (keys-all r changes c.args.news.now c.changes-change-items.ensures.entries)

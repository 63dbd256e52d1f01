use Rattle.std.proofs.Common.{◌++◌, drop, ◌+◌, List, ℕ, ap, ◌∙◌, sym}
use Rattle.std.specs.Prelude.{filter_map}
use Rattle.data_set_trees.specs.clauses.Clauses.{bare_number_of}
use Rattle.clause_typing.proofs.Walks.{kept, passed}
use Rattle.window_typing.proofs.parts.named_numbers.Goals as goal
use Rattle.window_typing.proofs.parts.named_numbers.Goals.{in-Some+in_ok-push, in_default}

pub loop-name-preserved : goal.loop-name-preserved
loop-name-preserved c =
    let find = bare_number_of c.args.frame.now in
    let names = c.args.names.now in
    let i = c.loop-name.name-index in
    let x = c.name-item.result in
    let numbers = c.loop-name.numbers in
    let rest = filter_map find (drop (i + 1) names) in
    elim c.match-bare_number_of.branch [
      | in-Some+in_ok-push w ↦ kept find names i x w.in-Some.number numbers c.loop-name-test.true c.name-item.is (sym w.in-Some.is ∙ c.bare_number_of.ensures) c.loop-name.invariant ∙ ap (λ (q : List ℕ). q ++ rest) (sym (w.numbers-is ∙ w.in_ok-push.ensures.ok))
      | in_default w ↦ passed find names i x numbers c.loop-name-test.true c.name-item.is (sym w.in_default.is ∙ c.bare_number_of.ensures) c.loop-name.invariant ∙ ap (λ (q : List ℕ). q ++ rest) (sym w.numbers-is)
    ]

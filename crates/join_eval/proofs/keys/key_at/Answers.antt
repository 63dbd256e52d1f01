use Rattle.std.proofs.Common.{◌≡◌, List, length, refl, sym, ap, ◌∙◌}
use Rattle.std.proofs.lemmas.Result.{IfOk-weaker}
use Rattle.std.specs.List.{range_with_len}
use Rattle.vtl_values.specs.declared.value.Value.{Value}
use Rattle.clause_meaning.specs.Clauses.{values_at}
use Rattle.pair_eval.proofs.Places.{all-numbered}
use Rattle.join_eval.proofs.keys.key_at.Goals as goal

pub returns-then-are_all : goal.returns-then-are_all
returns-then-are_all c =
    let key = c.args.key.now in
    let all : c.args.numbers.now ≡ range_with_len 0 (length c.values.result.now) = c.if-are_all.ensures.0 refl in
    let same : values_at c.args.numbers.now key ≡ key = ap (λ ns. values_at ns key) (all ∙ ap (λ (vs : List Value). range_with_len 0 (length vs)) c.values.ensures) ∙ all-numbered key in
    IfOk-weaker c.copy.result _ _ (λ picked h. h ∙ sym same) c.copy.ensures

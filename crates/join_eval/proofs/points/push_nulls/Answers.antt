use Rattle.std.proofs.Common.{List, ℕ, [], ◌∷◌, ◌++◌, map, take, get_or, sym, ap, ◌∙◌, append_assoc}
use Rattle.std.proofs.lemmas.List.{map-append, take_more}
use Rattle.vtl_values.specs.declared.value.Value.{Value}
use Rattle.vtl_values.specs.declared.value.Value.TheVariants.{Null}
use Rattle.join_eval.proofs.points.push_nulls.Goals as goal

pub loop-number-preserved : goal.loop-number-preserved
loop-number-preserved c =
    let numbers : List ℕ = c.args.numbers.now in
    let i = c.loop-number.number-index in
    let before : List Value = c.args.values.now in
    let null : ℕ → Value = λ number. Null in
    c.in_ok-push.ensures.ok
    ∙ ap (λ (vs : List Value). vs ++ Null ∷ []) c.loop-number.invariant
    ∙ append_assoc before (map null (take i numbers)) (Null ∷ [])
    ∙ ap (λ (vs : List Value). before ++ vs) (sym (ap (λ (ns : List ℕ). map null ns) (take_more numbers i 0 c.loop-number-test.true) ∙ map-append null (take i numbers) (get_or numbers i 0 ∷ [])))

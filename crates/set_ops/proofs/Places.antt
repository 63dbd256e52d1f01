-- Values that stay in their places.
use Rattle.std.proofs.Common.{◌≡◌, ℕ, suc, ◌+◌, ◌<◌, List, [], ◌∷◌, ◌++◌, length, get_or, Some, slice_get, refl, sym, ap, ◌∙◌, append_assoc, arith}
use Rattle.std.specs.List.{cons_option}
use Rattle.std.proofs.lemmas.List.{length_push}
use Rattle.vtl_values.specs.declared.value.Value.{Value}
use Rattle.clause_meaning.specs.Clauses.{values_at}
use Rattle.set_ops.specs.Orders.{AreInPlace}

slice_get_after : (before : List Value) (v : Value) (vs : List Value) → slice_get (before ++ v ∷ vs) (length before) ≡ Some v
slice_get_after [] v vs = refl
slice_get_after (b ∷ bs) v vs = slice_get_after bs v vs

from-place : (before vs : List Value) (ns : List ℕ) → length vs ≡ length ns → ((k : ℕ) → k < length ns → get_or ns k 0 ≡ length before + k) → values_at ns (before ++ vs) ≡ vs
from-place before [] [] long at = refl
from-place before [] (n ∷ ns) long at = absurd (omega (arith, long))
from-place before (v ∷ vs) [] long at = absurd (omega (arith, long))
from-place before (v ∷ vs) (n ∷ ns) long at =
    let first : n ≡ length before = let own = at 0 (omega arith) in omega (arith, own) in
    let here : slice_get (before ++ v ∷ vs) n ≡ Some v = ap (slice_get (before ++ v ∷ vs)) first ∙ slice_get_after before v vs in
    let later : values_at ns ((before ++ v ∷ []) ++ vs) ≡ vs = from-place (before ++ v ∷ []) vs ns (omega (arith, long)) (λ k l. let own = at (suc k) (omega (arith, l)) in let more = length_push before v in omega (arith, own, more)) in
    let rest : values_at ns (before ++ v ∷ vs) ≡ vs = ap (values_at ns) (sym (append_assoc before (v ∷ []) vs)) ∙ later in
    λ i. cons_option (here i) (rest i)

pub in-place : (ns : List ℕ) (vs : List Value) → AreInPlace ns → length vs ≡ length ns → values_at ns vs ≡ vs
in-place ns vs at long = from-place [] vs ns long (λ k l. at k l ∙ (omega arith))

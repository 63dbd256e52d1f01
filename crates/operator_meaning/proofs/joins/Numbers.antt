-- Values with the numbers of components are those of their names.
use Rattle.std.proofs.Common.{◌≡◌, ℕ, suc, ◌+◌, List, [], ◌∷◌, length, Bool, true, false, cond, not, Option, Some, None, option_map, nat_lt, refl, ap, ◌∙◌, arith}
use Rattle.std.specs.Prelude.{slice_get, option_and_then}
use Rattle.std.specs.List.{cons_option, position, position_or_len}
use Rattle.std.proofs.lemmas.Bool.Decides.{nat_tests}
use Rattle.vtl_values.specs.Texts.{same_text}
use Rattle.vtl_values.specs.declared.structure.Component.{Component}
use Rattle.vtl_values.specs.declared.value.Value.{Value}
use Rattle.clause_meaning.specs.Clauses.{values_at}
use Rattle.data_set_trees.specs.Components.{has_name}
use Rattle.operator_meaning.proofs.pairs.Names.{named, picked}
use Rattle.operator_meaning.proofs.pairs.Keys.{names}
use Rattle.operator_meaning.specs.joins.Joins.{numbers_among}

-- the first that passes is the first one, or comes one later than among the others
position-cons : {A : Type 0} (p : A → Bool) (x : A) (xs : List A) → position p (x ∷ xs) ≡ cond (p x) (Some 0) (option_map suc (position p xs))
position-cons p x xs = by_test (p x)
  where
    next : (b : Bool) (n : ℕ) → cond b (Some (1 + n)) None ≡ option_map suc (cond b (Some n) None)
    next true n = ap Some (omega arith)
    next false n = refl

    later : (n m : ℕ) → nat_lt (1 + n) (suc m) ≡ nat_lt n m
    later n m = grind (arith, nat_tests)

    first : (m : ℕ) → nat_lt 0 (suc m) ≡ true
    first m = grind (arith, nat_tests)

    by_test : (b : Bool) → cond (nat_lt (cond (not b) (1 + position_or_len p xs) 0) (suc (length xs))) (Some (cond (not b) (1 + position_or_len p xs) 0)) None ≡ cond b (Some 0) (option_map suc (position p xs))
    by_test true = ap (λ b. cond b (Some 0) None) (first (length xs))
    by_test false = ap (λ b. cond b (Some (1 + position_or_len p xs)) None) (later (position_or_len p xs) (length xs)) ∙ next (nat_lt (position_or_len p xs) (length xs)) (position_or_len p xs)

abbrev value_in : List Value → Option ℕ → Option Value
value_in vs place = option_and_then (slice_get vs) place

none-in : (place : Option ℕ) → value_in [] place ≡ None
none-in None = refl
none-in (Some number) = refl

value-named : (n : List ℕ) (cs : List Component) (vs : List Value) → value_in vs (position (has_name n) cs) ≡ named (names cs) vs n
value-named n [] vs = refl
value-named n (c ∷ cs) [] = none-in (position (has_name n) (c ∷ cs))
value-named n (c ∷ cs) (v ∷ vs) = ap (value_in (v ∷ vs)) (position-cons (has_name n) c cs) ∙ by_test (same_text n c.name) (value-named n cs vs)
  where
    among_others : (place : Option ℕ) → value_in (v ∷ vs) (option_map suc place) ≡ value_in vs place
    among_others None = refl
    among_others (Some number) = refl

    by_test : (b : Bool) → value_in vs (position (has_name n) cs) ≡ named (names cs) vs n → value_in (v ∷ vs) (cond b (Some 0) (option_map suc (position (has_name n) cs))) ≡ cond b (Some v) (named (names cs) vs n)
    by_test true is = refl
    by_test false is = among_others (position (has_name n) cs) ∙ is

pub values-picked : (all cs : List Component) (vs : List Value) → values_at (numbers_among all cs) vs ≡ picked (names all) (names cs) vs
values-picked all [] vs = refl
values-picked all (c ∷ cs) vs = one (position (has_name c.name) all) (numbers_among all cs) ∙ (λ i. cons_option (value-named c.name all vs i) (values-picked all cs vs i))
  where
    one : (place : Option ℕ) (numbers : List ℕ) → values_at (cons_option place numbers) vs ≡ cons_option (value_in vs place) (values_at numbers vs)
    one None numbers = refl
    one (Some number) numbers = refl

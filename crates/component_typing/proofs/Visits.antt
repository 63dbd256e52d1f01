-- Operands that are looked at one after the other.
use Rattle.std.proofs.Common.{◌≡◌, ℕ, ◌+◌, ◌<◌, List, [], ◌∷◌, ◌++◌, length, map, take, drop, get_or, Result, Ok, Err, refl, sym, ap, ◌∙◌, add-one}
use Rattle.std.proofs.Math.Seq.{take-suc}
use Rattle.std.proofs.lemmas.List.{map-append, take-append-drop}
use Rattle.scalar_trees.specs.declared.typing.scope.Basis.{Basis}
use Rattle.scalar_trees.specs.declared.typing.scope.Scope.{Scope}
use Rattle.scalar_trees.specs.declared.typing.stop.Refusal.{Refusal}
use Rattle.scalar_trees.specs.declared.typing.stop.TypeStop.{TypeStop}
use Rattle.scalar_trees.specs.declared.typing.stop.TypeStop.TheVariants.{Refused, Memory}
use Rattle.scalar_trees.specs.declared.typing.typed.Typed.{Typed}
use Rattle.scalar_trees.specs.typing.Steps.{◌>>=◌, Refuses}
use Rattle.scalar_trees.specs.typing.Scalars.{Answer, Meaning, visited}

module _ (scope : Scope) (basis : Basis) where
  abbrev pub Visit : Type 0
  Visit = Result (Unit {0}) Refusal

  -- further operands, after those in which no fault was found
  goes_on : (ms ns : List Meaning) → visited ms scope basis ≡ Ok tt → visited (ms ++ ns) scope basis ≡ visited ns scope basis
  goes_on [] ns e = refl
  goes_on (m ∷ ms) ns e = at (m.typed scope basis) refl e (goes_on ms ns)
    where
      at : (r : Answer) → m.typed scope basis ≡ r → (r >>= (λ a. visited ms scope basis)) ≡ Ok tt → (visited ms scope basis ≡ Ok tt → visited (ms ++ ns) scope basis ≡ visited ns scope basis) → (m.typed scope basis >>= (λ a. visited (ms ++ ns) scope basis)) ≡ visited ns scope basis
      at (Ok t) i j rest = ap (λ (q : Answer). q >>= (λ a. visited (ms ++ ns) scope basis)) i ∙ rest j
      at (Err refusal) i j rest = cc

  -- further operands, after the first fault
  ended : (ms ns : List Meaning) (refusal : Refusal) → visited ms scope basis ≡ Err refusal → visited (ms ++ ns) scope basis ≡ Err refusal
  ended [] ns refusal e = cc
  ended (m ∷ ms) ns refusal e = at (m.typed scope basis) refl e (ended ms ns refusal)
    where
      at : (r : Answer) → m.typed scope basis ≡ r → (r >>= (λ a. visited ms scope basis)) ≡ Err refusal → (visited ms scope basis ≡ Err refusal → visited (ms ++ ns) scope basis ≡ Err refusal) → (m.typed scope basis >>= (λ a. visited (ms ++ ns) scope basis)) ≡ Err refusal
      at (Ok t) i j rest = ap (λ (q : Answer). q >>= (λ a. visited (ms ++ ns) scope basis)) i ∙ rest j
      at (Err other) i j rest = ap (λ (q : Answer). q >>= (λ a. visited (ms ++ ns) scope basis)) i ∙ j

  -- operands after two in which no fault was found
  pub visited_two : (a b : Meaning) (ms : List Meaning) (x y : Typed) → a.typed scope basis ≡ Ok x → b.typed scope basis ≡ Ok y → visited (a ∷ b ∷ ms) scope basis ≡ visited ms scope basis
  visited_two a b ms x y first second = ap (λ (q : Answer). q >>= (λ t. visited (b ∷ ms) scope basis)) first ∙ ap (λ (q : Answer). q >>= (λ t. visited ms scope basis)) second

  module _ {A : Type 0} (f : A → Meaning) (xs : List A) (i : ℕ) (x : A) (within : i < length xs) (here : x ≡ get_or xs i x) where
    one_more : map f (take (i + 1) xs) ≡ map f (take i xs) ++ f x ∷ []
    one_more =
        let more : take (i + 1) xs ≡ take i xs ++ x ∷ [] = ap (λ k. take k xs) (add-one i) ∙ take-suc xs i x within ∙ ap (λ e. take i xs ++ e ∷ []) (sym here) in
        ap (map f) more ∙ map-append f (take i xs) (x ∷ [])

    first_ones : visited (map f (take i xs)) scope basis ≡ Ok tt → visited (map f (take (i + 1) xs)) scope basis ≡ visited (f x ∷ []) scope basis
    first_ones before = ap (λ (ms : List Meaning). visited ms scope basis) one_more ∙ goes_on (map f (take i xs)) (f x ∷ []) before

    -- one more in which no fault is found
    pub visited_next : visited (map f (take i xs)) scope basis ≡ Ok tt → visited (f x ∷ []) scope basis ≡ Ok tt → visited (map f (take (i + 1) xs)) scope basis ≡ Ok tt
    visited_next before is = first_ones before ∙ is

    all_ended : (refusal : Refusal) → visited (map f (take (i + 1) xs)) scope basis ≡ Err refusal → visited (map f xs) scope basis ≡ Err refusal
    all_ended refusal e =
        let whole : map f (take (i + 1) xs) ++ map f (drop (i + 1) xs) ≡ map f xs = sym (map-append f (take (i + 1) xs) (drop (i + 1) xs)) ∙ ap (map f) (take-append-drop (i + 1) xs) in
        ap (λ (ms : List Meaning). visited ms scope basis) (sym whole) ∙ ended (map f (take (i + 1) xs)) (map f (drop (i + 1) xs)) refusal e

    -- the first fault
    pub visited_stops : (stop : TypeStop) → visited (map f (take i xs)) scope basis ≡ Ok tt → Refuses (visited (f x ∷ []) scope basis) stop → Refuses (visited (map f xs) scope basis) stop
    visited_stops (Refused refusal) before is = all_ended refusal (first_ones before ∙ is)
    visited_stops Memory before is = tt

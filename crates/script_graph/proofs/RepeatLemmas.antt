-- Names that are given twice, one after the other.
use Rattle.std.proofs.Common.{Bor, ◌≡◌, ℕ, ◌+◌, ◌<◌, Bool, true, false, ◌||◌, not, List, [], ◌∷◌, ◌++◌, Option, Some, None, Ok, Err, subst, if◌then◌else◌, cond, length, map, take, drop, get_or, refl, sym, ap, ◌∙◌, append_assoc}
use Rattle.std.specs.Prelude.{is_some, IfOk, Result, ⊤}
use Rattle.std.specs.declared.alloc.AllocError.{AllocError}
use Rattle.std.specs.List.{list_any}
use Rattle.std.specs.Option.{option_copied}
use Rattle.std.specs.Map.{keys_of}
use Rattle.std.proofs.lemmas.List.{at_drop_more, take_more, map-append}
use Rattle.std.proofs.lemmas.List.Folds.{list_any-append}
use Rattle.std.proofs.lemmas.Map.Made.{is_some-lookup}
use Rattle.vtl_values.specs.declared.place.Place.{Place}
use Rattle.vtl_values.specs.Structures.{NamedStructures, structure_of}
use Rattle.script_graph.specs.declared.fault.PlacedFault.{PlacedFault}
use Rattle.script_graph.specs.Words.{is_same, has_word}
use Rattle.script_graph.specs.declared.fault.GraphStop.{GraphStop}
use Rattle.script_graph.specs.Scopes.{Answers}
use Rattle.script_graph.proofs.Answering.{stops}
use Rattle.script_graph.specs.Faults.{repeated, repeated_at}

-- the next one, which repeats a name or doesn't

repeated-open : {A : Type 0} (name : A → List ℕ) (place : A → Place) (given : List (List ℕ)) (xs : List A) (i : ℕ) (x : A) → i < length xs → repeated name place given (drop i xs) ≡ repeated name place given (get_or xs i x ∷ drop (i + 1) xs)
repeated-open name place given xs i x within = at_drop_more (λ ys. repeated name place given ys) xs i x within

pub repeats-here : {A : Type 0} (name : A → List ℕ) (place : A → Place) (given : List (List ℕ)) (xs : List A) (i : ℕ) (x : A) → i < length xs → has_word given (name (get_or xs i x)) ≡ true → repeated name place given (drop i xs) ≡ Some (repeated_at (place (get_or xs i x)))
repeats-here name place given xs i x within twice = repeated-open name place given xs i x within ∙ rw twice refl

pub repeats-later : {A : Type 0} (name : A → List ℕ) (place : A → Place) (given : List (List ℕ)) (xs : List A) (i : ℕ) (x : A) → i < length xs → has_word given (name (get_or xs i x)) ≡ false → repeated name place given (drop i xs) ≡ repeated name place (given ++ name (get_or xs i x) ∷ []) (drop (i + 1) xs)
repeats-later name place given xs i x within new = repeated-open name place given xs i x within ∙ rw new refl

-- the names of one more
pub map_more : {A B : Type 0} (f : A → B) (xs : List A) (i : ℕ) (x : A) → i < length xs → map f (take (i + 1) xs) ≡ map f (take i xs) ++ f (get_or xs i x) ∷ []
map_more f xs i x within = ap (map f) (take_more xs i x within) ∙ map-append f (take i xs) (get_or xs i x ∷ [])

-- an input's name
pub is_input : (inputs : NamedStructures) (w : List ℕ) → is_some (structure_of inputs w) ≡ has_word (keys_of inputs) w
is_input inputs w = is_some-lookup (is_same w) inputs

pub has_word-append : (xs ys : List (List ℕ)) (w : List ℕ) → has_word (xs ++ ys) w ≡ (has_word xs w || has_word ys w)
has_word-append xs ys w = list_any-append (is_same w) xs ys

-- ---- one item after the other

module _ {A : Type 0} (name : A → List ℕ) (place : A → Place) (inputs names : List (List ℕ)) (xs : List A) (i : ℕ) (x : A) (again : Bool) (total : Option PlacedFault) where
  -- the names so far, none of them repeated, and whether the next one is
  pub record Next : Type 0 where
    pub within : i < length xs
    pub item : x ≡ get_or xs i x
    pub named : names ≡ map name (take i xs)
    pub rest : total ≡ repeated name place (inputs ++ map name (take i xs)) (drop i xs)
    pub tells : again ≡ has_word (inputs ++ names) (name x)

  at_next : Next → (b : Bool) → again ≡ b → has_word (inputs ++ map name (take i xs)) (name (get_or xs i x)) ≡ b
  at_next n b is =
      ap (λ (y : A). has_word (inputs ++ map name (take i xs)) (name y)) (sym n.item)
      ∙ ap (λ (ws : List (List ℕ)). has_word (inputs ++ ws) (name x)) (sym n.named)
      ∙ sym n.tells ∙ is

  pub told_here : {T : Type 0} (Q : T → Type 0) (s : GraphStop) → Next → again ≡ true → Answers {T = Unit {0}} (Some (repeated_at (place x))) (λ _. ⊤) (Err s) → Answers total Q (Err s)
  told_here {T} Q s n is answer =
      let e : total ≡ Some (repeated_at (place x)) =
      n.rest ∙ repeats-here name place (inputs ++ map name (take i xs)) xs i x n.within (at_next n true is)
      ∙ ap (λ (y : A). Some (repeated_at (place y))) (sym n.item) in
      subst (λ (o : Option PlacedFault). Answers {T = T} o Q (Err s)) (sym e) (stops (Some (repeated_at (place x))) (λ (_ : Unit {0}). ⊤) Q s answer)

  pub kept_names : (new : List (List ℕ)) → Next → again ≡ false → new ≡ (if again then names else names ++ name x ∷ []) → new ≡ map name (take (i + 1) xs)
  kept_names new n is put =
      put ∙ ap (λ (b : Bool). if b then names else names ++ name x ∷ []) is
      ∙ ap (λ (ws : List (List ℕ)). ws ++ name x ∷ []) n.named
      ∙ ap (λ (y : A). map name (take i xs) ++ name y ∷ []) n.item
      ∙ sym (map_more name xs i x n.within)

  pub kept_rest : Next → again ≡ false → total ≡ repeated name place (inputs ++ map name (take (i + 1) xs)) (drop (i + 1) xs)
  kept_rest n is =
      n.rest ∙ repeats-later name place (inputs ++ map name (take i xs)) xs i x n.within (at_next n false is)
      ∙ ap (λ (ws : List (List ℕ)). repeated name place ws (drop (i + 1) xs))
      (append_assoc inputs (map name (take i xs)) (name (get_or xs i x) ∷ []) ∙ ap (λ (ws : List (List ℕ)). inputs ++ ws) (sym (map_more name xs i x n.within)))

-- ---- an input's name, or another

pub again_input : (inputs : NamedStructures) (words : List (List ℕ)) (w : List ℕ) → is_some (structure_of inputs w) ≡ true → true ≡ has_word (keys_of inputs ++ words) w
again_input inputs words w here = sym (has_word-append (keys_of inputs) words w ∙ ap (λ (b : Bool). b || has_word words w) (sym (is_input inputs w) ∙ here))

pub again_other : (inputs : NamedStructures) (words : List (List ℕ)) (w : List ℕ) → is_some (structure_of inputs w) ≡ false → has_word words w ≡ has_word (keys_of inputs ++ words) w
again_other inputs words w other = sym (has_word-append (keys_of inputs) words w ∙ ap (λ (b : Bool). b || has_word words w) (sym (is_input inputs w) ∙ other))

pub ok_again : (r : Result Bool AllocError) (a b : Bool) → a ≡ b → IfOk r (λ x. x ≡ a) → IfOk r (λ x. x ≡ b)
ok_again (Ok x) a b same h = h ∙ same
ok_again (Err e) a b same h = tt

-- a reference is there where what it refers to is
pub some_copied : {A : Type 0} (o : Option (Bor A)) → is_some (option_copied o) ≡ is_some o
some_copied None = refl
some_copied (Some r) = refl

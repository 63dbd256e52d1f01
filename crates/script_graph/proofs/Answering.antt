-- Answers of steps that are taken one after the other.
use Rattle.std.proofs.Common.{◌≡◌, ℕ, ◌+◌, ◌<◌, Bool, true, false, List, [], ◌∷◌, ◌++◌, Option, Some, None, Result, Ok, Err, length, take, drop, get_or, refl, sym, ap, subst, ◌∙◌, append_assoc}
use Rattle.std.specs.Prelude.{find, IsErrAnd}
use Rattle.std.specs.List.{flat_map}
use Rattle.std.specs.Option.{option_map, option_or}
use Rattle.std.proofs.lemmas.List.{take-append-drop, take_more, at_drop_more}
use Rattle.std.proofs.lemmas.List.Folds.{find-append}
use Rattle.std.proofs.lemmas.Grind.{flat_map-append}
use Rattle.std.proofs.lemmas.List.{append-nil}
use Rattle.script_graph.specs.declared.fault.PlacedFault.{PlacedFault}
use Rattle.script_graph.specs.declared.fault.GraphStop.{GraphStop}
use Rattle.script_graph.specs.declared.fault.GraphStop.TheVariants.{Fault, Memory}
use Rattle.script_graph.specs.Mentions.{Mention, Mentions, each}
use Rattle.script_graph.specs.Scopes.{Names, Answers, PutsUses, uses, uses_of, first_unknown, is_unknown, unknown_at}

-- ---- of any sort

-- a step without a fault, and then another
pub after : {T : Type 0} (e f g : Option PlacedFault) (P Q : T → Type 0) (r : Result T GraphStop) → g ≡ option_or e f → e ≡ None → Answers f P r → ((v : T) → P v → Q v) → Answers g Q r
after e f g P Q (Ok v) is none r q = (is ∙ ap (λ (o : Option PlacedFault). option_or o f) none ∙ r.0, q v r.1)
after e f g P Q (Err (Fault p)) is none r q = is ∙ ap (λ (o : Option PlacedFault). option_or o f) none ∙ r
after e f g P Q (Err Memory) is none r q = tt

-- a step with a fault, whatever would come after it
pub fails : {S T : Type 0} (e f g : Option PlacedFault) (P : S → Type 0) (Q : T → Type 0) (s : GraphStop) → g ≡ option_or e f → Answers e P (Err s) → Answers g Q (Err s)
fails e f g P Q (Fault p) is r = is ∙ ap (λ (o : Option PlacedFault). option_or o f) r
fails e f g P Q Memory is r = tt

-- the same fault, whatever was wanted
pub stops : {S T : Type 0} (e : Option PlacedFault) (P : S → Type 0) (Q : T → Type 0) (s : GraphStop) → Answers e P (Err s) → Answers e Q (Err s)
stops e P Q (Fault p) r = r
stops e P Q Memory r = tt

-- what the exit of a `?` answers
pub exits : {T : Type 0} (g : Option PlacedFault) (Q : T → Type 0) (r : Result T GraphStop) (s : GraphStop) → IsErrAnd r (λ (y : GraphStop). y ≡ s) → Answers g Q (Err s) → Answers g Q r
exits g Q (Ok v) s h a = absurd h
exits {T} g Q (Err y) s h a = subst (λ (z : GraphStop). Answers {T = T} g Q (Err z)) (sym h) a

-- ---- mentions

option_map-or : {A B : Type 0} (f : A → B) (a b : Option A) → option_map f (option_or a b) ≡ option_or (option_map f a) (option_map f b)
option_map-or f None b = refl
option_map-or f (Some x) b = refl

pub unknown-append : (n : Names) (xs ys : List Mention) → first_unknown n (xs ++ ys) ≡ option_or (first_unknown n xs) (first_unknown n ys)
unknown-append n xs ys = ap (option_map unknown_at) (find-append (is_unknown n) xs ys) ∙ option_map-or unknown_at (find (is_unknown n) xs) (find (is_unknown n) ys)

pub uses-append : (n : Names) (xs ys : List Mention) → uses n (xs ++ ys) ≡ uses n xs ++ uses n ys
uses-append n xs ys = flat_map-append (λ (m : Mention). uses_of n m.sort m.name) xs ys

pub puts_then : (n : Names) (xs ys : List Mention) (a b c : List ℕ) (r : Result (Unit {0}) GraphStop) → PutsUses n xs a b (Ok tt) → PutsUses n ys b c r → PutsUses n (xs ++ ys) a c r
puts_then n xs ys a b c r first second =
    after (first_unknown n xs) (first_unknown n ys) (first_unknown n (xs ++ ys)) (λ _. c ≡ b ++ uses n ys) (λ _. c ≡ a ++ uses n (xs ++ ys)) r
    (unknown-append n xs ys) first.0 second
    (λ (v : Unit {0}) (e : c ≡ b ++ uses n ys). e ∙ ap (λ (k : List ℕ). k ++ uses n ys) first.1 ∙ append_assoc a (uses n xs) (uses n ys) ∙ ap (λ (k : List ℕ). a ++ k) (sym (uses-append n xs ys)))

pub puts_fails : (n : Names) (xs ys : List Mention) (a b c : List ℕ) (s : GraphStop) → PutsUses n xs a b (Err s) → PutsUses n (xs ++ ys) a c (Err s)
puts_fails n xs ys a b c s first = fails (first_unknown n xs) (first_unknown n ys) (first_unknown n (xs ++ ys)) (λ (_ : Unit {0}). b ≡ a ++ uses n xs) (λ (_ : Unit {0}). c ≡ a ++ uses n (xs ++ ys)) s (unknown-append n xs ys) first

-- the same mentions
pub puts_same : (n : Names) (xs ys : List Mention) (a b : List ℕ) (r : Result (Unit {0}) GraphStop) → xs ≡ ys → PutsUses n ys a b r → PutsUses n xs a b r
puts_same n xs ys a b r same = subst (λ (ms : List Mention). PutsUses n ms a b r) (sym same)

pub puts_exit : (n : Names) (ms : List Mention) (a b : List ℕ) (r : Result (Unit {0}) GraphStop) (s : GraphStop) → IsErrAnd r (λ (y : GraphStop). y ≡ s) → PutsUses n ms a b (Err s) → PutsUses n ms a b r
puts_exit n ms a b r s h p = exits (first_unknown n ms) (λ (_ : Unit {0}). b ≡ a ++ uses n ms) r s h p

-- nothing is mentioned
pub puts_none : (n : Names) (a : List ℕ) → PutsUses n [] a a (Ok tt)
puts_none n a = (refl, sym (append-nil a))

-- ---- the mentions of each item

pub flat_map_more : {A B : Type 0} (f : A → List B) (xs : List A) (i : ℕ) (x : A) → i < length xs → flat_map f (take (i + 1) xs) ≡ flat_map f (take i xs) ++ f (get_or xs i x)
flat_map_more f xs i x within =
    ap (flat_map f) (take_more xs i x within)
    ∙ flat_map-append f (take i xs) (get_or xs i x ∷ [])
    ∙ ap (λ ys. flat_map f (take i xs) ++ ys) (append-nil (f (get_or xs i x)))

pub flat_map_split : {A B : Type 0} (f : A → List B) (xs : List A) (i : ℕ) → flat_map f (take i xs) ++ flat_map f (drop i xs) ≡ flat_map f xs
flat_map_split f xs i = sym (flat_map-append f (take i xs) (drop i xs)) ∙ ap (flat_map f) (take-append-drop i xs)

-- ---- one item after the other

module _ {A : Type 0} (n : Names) (g : A → List Mention) (xs : List A) (i : ℕ) (x : A) where
  abbrev here : Type 0
  here = (i < length xs) × (x ≡ get_or xs i x)

  one_more : here → flat_map g (take (i + 1) xs) ≡ flat_map g (take i xs) ++ g x
  one_more at = flat_map_more g xs i x at.0 ∙ ap (λ (y : A). flat_map g (take i xs) ++ g y) (sym at.1)

  -- those up to it have no fault: its answer is that of those up to the next
  pub unknown_then : {T : Type 0} (P Q : T → Type 0) (r : Result T GraphStop) → here → first_unknown n (flat_map g (take i xs)) ≡ None → Answers (first_unknown n (g x)) P r → ((v : T) → P v → Q v) → Answers (first_unknown n (flat_map g (take (i + 1) xs))) Q r
  unknown_then P Q r at none answer to =
      after (first_unknown n (flat_map g (take i xs))) (first_unknown n (g x)) (first_unknown n (flat_map g (take (i + 1) xs))) P Q r
      (ap (first_unknown n) (one_more at) ∙ unknown-append n (flat_map g (take i xs)) (g x)) none answer to

  -- and its fault is that of all
  pub unknown_fails : {S T : Type 0} (P : S → Type 0) (Q : T → Type 0) (s : GraphStop) → here → first_unknown n (flat_map g (take i xs)) ≡ None → Answers (first_unknown n (g x)) P (Err s) → Answers (first_unknown n (flat_map g xs)) Q (Err s)
  unknown_fails P Q s at none answer =
      fails (first_unknown n (flat_map g (take (i + 1) xs))) (first_unknown n (flat_map g (drop (i + 1) xs))) (first_unknown n (flat_map g xs)) P Q s
      (ap (first_unknown n) (sym (flat_map_split g xs (i + 1))) ∙ unknown-append n (flat_map g (take (i + 1) xs)) (flat_map g (drop (i + 1) xs)))
      (unknown_then P P (Err s) at none answer (λ v p. p))

  pub items_then : (a b c : List ℕ) (r : Result (Unit {0}) GraphStop) → here → PutsUses n (flat_map g (take i xs)) a b (Ok tt) → PutsUses n (g x) b c r → PutsUses n (flat_map g (take (i + 1) xs)) a c r
  items_then a b c r at first second = puts_same n (flat_map g (take (i + 1) xs)) (flat_map g (take i xs) ++ g x) a c r (one_more at) (puts_then n (flat_map g (take i xs)) (g x) a b c r first second)

  pub items_fail : (a b c d : List ℕ) (s : GraphStop) → here → PutsUses n (flat_map g (take i xs)) a b (Ok tt) → PutsUses n (g x) b c (Err s) → PutsUses n (flat_map g xs) a d (Err s)
  items_fail a b c d s at first second = unknown_fails (λ (_ : Unit {0}). c ≡ b ++ uses n (g x)) (λ (_ : Unit {0}). d ≡ a ++ uses n (flat_map g xs)) s at first.0 second

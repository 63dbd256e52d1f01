-- The first of several faults.
use Rattle.std.proofs.Common.{◌≡◌, refl, ℕ, ◌+◌, ◌<◌, ◌≤◌, Bool, true, false, cond, ◌||◌, List, [], ◌∷◌, ◌++◌, length, get_or, take, Option, Some, None, Ok, nat_eq, ap, sym, ◌∙◌, subst, arith, lit<, if◌then◌else◌}
use Rattle.std.specs.Prelude.{find, nat_le, ⊤}
use Rattle.std.proofs.lemmas.Bool.Decides.{nat_tests}
use Rattle.std.proofs.lemmas.List.{take_more}
use Rattle.std.proofs.lemmas.List.Elements.{filter_map-append}
use Rattle.std.proofs.lemmas.List.Folds.{list_any-append}
use Rattle.vtl_values.specs.declared.place.Place.{Place}
use Rattle.scalar_trees.specs.declared.typing.stop.Fault.{Fault}
use Rattle.scalar_trees.specs.declared.typing.stop.Fault.TheVariants as fault
use Rattle.scalar_trees.specs.typing.Steps.{◌>>=◌}
use Rattle.data_set_trees.specs.rules.Rules.{all_faults, fault_number, first_fault, is_among, unmet, value_or}
use Rattle.rule_typing.specs.Faults.{earlier, first_of}

-- ---- two faults

first_of-low : (f g : Fault) → fault_number f ≤ fault_number g → first_of f g ≡ f
first_of-low f g low = let test : nat_le (fault_number f) (fault_number g) ≡ true = grind (arith, nat_tests) in ap (λ (b : Bool). if b then f else g) test

first_of-high : (f g : Fault) → fault_number g < fault_number f → first_of f g ≡ g
first_of-high f g high = let test : nat_le (fault_number f) (fault_number g) ≡ false = grind (arith, nat_tests) in ap (λ (b : Bool). if b then f else g) test

pub earlier-none : (o : Option Fault) → earlier o None ≡ o
earlier-none None = refl
earlier-none (Some f) = refl

-- ---- the first of them

-- the numbers rise, from above this one
abbrev Rising : ℕ → List Fault → Type 0
Rising n [] = ⊤
Rising n (f ∷ fs) = (n < fault_number f) × Rising (fault_number f) fs

found-above : (q : Fault → Bool) (fs : List Fault) (n : ℕ) (g : Fault) → Rising n fs → find q fs ≡ Some g → n < fault_number g
found-above q [] n g rising h = cc
found-above q (f ∷ fs) n g rising h = by_test (q f) (found-above q fs (fault_number f) g rising.1) h
  where
    by_test : (b : Bool) → (find q fs ≡ Some g → fault_number f < fault_number g) → cond b (Some f) (find q fs) ≡ Some g → n < fault_number g
    by_test true later i = let same : f ≡ g = cc in subst (λ (x : Fault). n < fault_number x) same rising.0
    by_test false later i = let more : fault_number f < fault_number g = later i in let first : n < fault_number f = rising.0 in omega arith

-- what passes either test is found as the earlier of what passes each
find-either : (p q : Fault → Bool) (fs : List Fault) (n : ℕ) → Rising n fs → find (λ f. p f || q f) fs ≡ earlier (find p fs) (find q fs)
find-either p q [] n rising = refl
find-either p q (f ∷ fs) n rising = by_tests (p f) (q f) (find-either p q fs (fault_number f) rising.1)
  where
    not_before : (o : Option Fault) → find q fs ≡ o → Some f ≡ earlier (Some f) o
    not_before None is = refl
    not_before (Some g) is = let above : fault_number f < fault_number g = found-above q fs (fault_number f) g rising.1 is in ap (λ (x : Fault). Some x) (sym (first_of-low f g (omega arith)))

    after_all : (o : Option Fault) → find p fs ≡ o → Some f ≡ earlier o (Some f)
    after_all None is = refl
    after_all (Some g) is = ap (λ (x : Fault). Some x) (sym (first_of-high g f (found-above p fs (fault_number f) g rising.1 is)))

    by_tests : (a b : Bool) → find (λ x. p x || q x) fs ≡ earlier (find p fs) (find q fs) → cond (a || b) (Some f) (find (λ x. p x || q x) fs) ≡ earlier (cond a (Some f) (find p fs)) (cond b (Some f) (find q fs))
    by_tests true true later = ap (λ (x : Fault). Some x) (sym (first_of-low f f (omega arith)))
    by_tests true false later = not_before (find q fs) refl
    by_tests false true later = after_all (find p fs) refl
    by_tests false false later = later

rising_all : Rising 0 all_faults
rising_all = (lit< tt, (lit< tt, (lit< tt, (lit< tt, (lit< tt, (lit< tt, (lit< tt, (lit< tt, (lit< tt, tt)))))))))

-- further faults
pub first_fault-append : (xs ys : List Fault) → first_fault (xs ++ ys) ≡ earlier (first_fault xs) (first_fault ys)
first_fault-append xs ys =
    (λ i. find (λ (f : Fault). list_any-append (λ (g : Fault). nat_eq (fault_number f) (fault_number g)) xs ys i) all_faults)
    ∙ find-either (is_among xs) (is_among ys) all_faults 0 rising_all

-- one fault
pub first_fault-single : (f : Fault) → first_fault (f ∷ []) ≡ Some f
first_fault-single fault.UnknownComponent = refl
first_fault-single fault.WrongType = refl
first_fault-single fault.WrongStructure = refl
first_fault-single fault.WrongRole = refl
first_fault-single fault.NameTwice = refl
first_fault-single fault.TooManyComponents = refl
first_fault-single fault.BadConstant = refl
first_fault-single fault.BadPattern = refl
first_fault-single fault.BadRuleset = refl

-- ---- what isn't met

pub unmet-append : (ds es : List (Bool × Fault)) → first_fault (unmet (ds ++ es)) ≡ earlier (first_fault (unmet ds)) (first_fault (unmet es))
unmet-append ds es = ap first_fault (filter_map-append (λ (d : Bool × Fault). if d.0 then None else Some d.1) ds es) ∙ first_fault-append (unmet ds) (unmet es)

-- one demand more
module _ (ds : List (Bool × Fault)) (i : ℕ) (none : Bool × Fault) (found : Option Fault) (within : i < length ds) (so_far : found ≡ first_fault (unmet (take i ds))) where
  abbrev next : Bool × Fault
  next = get_or ds i none

  unmet_pushed : earlier found (first_fault (unmet (next ∷ []))) ≡ first_fault (unmet (take (i + 1) ds))
  unmet_pushed =
      ap (λ (o : Option Fault). earlier o (first_fault (unmet (next ∷ [])))) so_far
      ∙ sym (unmet-append (take i ds) (next ∷ []))
      ∙ ap (λ (es : List (Bool × Fault)). first_fault (unmet es)) (sym (take_more ds i none within))

  pub unmet_more : next.0 ≡ false → earlier found (Some next.1) ≡ first_fault (unmet (take (i + 1) ds))
  unmet_more not_met = ap (earlier found) (sym (ap (λ (b : Bool). first_fault (unmet ((b, next.1) ∷ []))) not_met ∙ first_fault-single next.1)) ∙ unmet_pushed

  pub met_more : next.0 ≡ true → found ≡ first_fault (unmet (take (i + 1) ds))
  met_more is_met = sym (earlier-none found) ∙ ap (earlier found) (sym (ap (λ (b : Bool). first_fault (unmet ((b, next.1) ∷ []))) is_met)) ∙ unmet_pushed

-- ---- answers

-- a value that is told unless there is a fault
pub value_or-after : {A : Type 0} (place : Place) (value : A) (o : Option Fault) → value_or place value o ≡ (value_or place tt o >>= (λ (met : Unit {0}). Ok value))
value_or-after place value None = refl
value_or-after place value (Some f) = refl

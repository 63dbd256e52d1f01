-- A component that is placed among others leaves a structure.
use Rattle.std.proofs.Common.{◌≡◌, ◌≢◌, ℕ, zero, suc, ◌+◌, ◌<◌, ◌≤◌, Bool, true, false, ◌||◌, List, [], ◌∷◌, length, get_or, All, AllPairs, nat_le, nat_eq, count_by, insert, refl, sym, ap, ◌∙◌, ⊎_elim, cond, true≢false, arith}
use Rattle.std.proofs.lemmas.Bool.{cases_lt}
use Rattle.std.proofs.lemmas.Bool.Decides.{nat_tests}
use Rattle.std.proofs.lemmas.List.Elements.{All-nil, All-cons}
use Rattle.std.proofs.lemmas.List.Sums.{count_by-le-length, sum_by-cons}
use Rattle.std.specs.Cmp.Lexicographic.{pointwise, nat_list_eq_equiv}
use Rattle.std.specs.List.{list_any}
use Rattle.vtl_values.specs.declared.kind.Role.TheVariants.{Viral}
use Rattle.vtl_values.specs.declared.structure.Codes.TheVariants.{Any}
use Rattle.vtl_values.specs.declared.structure.Component.{Component}
use Rattle.vtl_values.specs.Structures.{IsStructure, FitsCodes, place_of}
use Rattle.structure_files.specs.Fits.{IsFit}
use Rattle.structure_files.specs.Reading.{has_name, placed}

all_pairs_cons : {X : Type 0} (R : X → X → Type 0) (x : X) (xs : List X) → All (R x) xs → AllPairs R xs → AllPairs R (x ∷ xs)
all_pairs_cons R x xs first others zero zero d h l = absurd (omega arith)
all_pairs_cons R x xs first others zero (suc j) d h l = first j d (omega arith)
all_pairs_cons R x xs first others (suc i) zero d h l = absurd (omega arith)
all_pairs_cons R x xs first others (suc i) (suc j) d h l = others i j d (omega arith) (omega arith)

-- what holds of each item holds of each once a further one is among them
all_insert : {X : Type 0} (P : X → Type 0) (xs : List X) (n : ℕ) (y : X) → n ≤ length xs → All P xs → P y → All P (insert xs n y)
all_insert P xs zero y within all here = All-cons P y xs here all
all_insert P [] (suc n) y within all here = absurd (omega arith)
all_insert P (x ∷ xs) (suc n) y within all here = All-cons P x (insert xs n y) (all 0 x (omega arith)) (all_insert P xs n y (omega arith) (λ k d l. all (suc k) d (omega arith)) here)

-- the same of pairs
all_pairs_insert : {X : Type 0} (R : X → X → Type 0) (xs : List X) (n : ℕ) (y : X) → n ≤ length xs → AllPairs R xs
    → ((k : ℕ) (d : X) → k < n → R (get_or xs k d) y) → ((k : ℕ) (d : X) → n ≤ k → k < length xs → R y (get_or xs k d)) → AllPairs R (insert xs n y)
all_pairs_insert R xs zero y within pairs below above = all_pairs_cons R y xs (λ k d l. above k d (omega arith) l) pairs
all_pairs_insert R [] (suc n) y within pairs below above = absurd (omega arith)
all_pairs_insert R (x ∷ xs) (suc n) y within pairs below above = all_pairs_cons R x (insert xs n y)
    (all_insert (R x) xs n y (omega arith) (λ k d l. pairs 0 (suc k) d (omega arith) (omega arith)) (below 0 x (omega arith)))
    (all_pairs_insert R xs n y (omega arith) (λ i j d h l. pairs (suc i) (suc j) d (omega arith) (omega arith)) (λ k d h. below (suc k) d (omega arith)) (λ k d h l. above (suc k) d (omega arith) (omega arith)))

abbrev AreOrdered : List Component → Type 0
AreOrdered components = AllPairs (λ a b. place_of a.role ≤ place_of b.role) components

-- how many stand up to a role
abbrev up_to : ℕ → List Component → ℕ
up_to top components = count_by (λ other. nat_le (place_of other.role) top) components

up_to-in : (c : Component) (cs : List Component) (top : ℕ) → place_of c.role ≤ top → up_to top (c ∷ cs) ≡ 1 + up_to top cs
up_to-in c cs top low =
    let in' : nat_le (place_of c.role) top ≡ true = grind (arith, nat_tests) in
    sum_by-cons (λ (other : Component). cond (nat_le (place_of other.role) top) 1 0) c cs ∙ ap (λ b. cond b 1 0 + up_to top cs) in'

up_to-out : (c : Component) (cs : List Component) (top : ℕ) → top < place_of c.role → up_to top (c ∷ cs) ≡ 0 + up_to top cs
up_to-out c cs top high =
    let out : nat_le (place_of c.role) top ≡ false = grind (arith, nat_tests) in
    sum_by-cons (λ (other : Component). cond (nat_le (place_of other.role) top) 1 0) c cs ∙ ap (λ b. cond b 1 0 + up_to top cs) out

tail_ordered : (c : Component) (cs : List Component) → AreOrdered (c ∷ cs) → AreOrdered cs
tail_ordered c cs ordered i j d h l = ordered (suc i) (suc j) d (omega arith) (omega arith)

up_to-le : (top : ℕ) (cs : List Component) → up_to top cs ≤ length cs
up_to-le top cs = count_by-le-length (λ (other : Component). nat_le (place_of other.role) top) cs

-- the components that stand up to a role are those at the front
stands_below : (components : List Component) (top k : ℕ) (d : Component) → AreOrdered components → k < up_to top components → place_of (get_or components k d).role ≤ top
stands_below [] top k d ordered below = absurd (omega arith)
stands_below (c ∷ cs) top zero d ordered below = ⊎_elim
    (λ (high : top < place_of c.role). let out = up_to-out c cs top high in
    let later : place_of (get_or cs 0 d).role ≤ top = stands_below cs top 0 d (tail_ordered c cs ordered) (omega arith) in
    let more : place_of c.role ≤ place_of (get_or cs 0 d).role = ordered 0 1 d (omega arith) (omega (arith, up_to-le top cs)) in absurd (omega arith))
    (λ (low : place_of c.role ≤ top). low)
    (cases_lt top (place_of c.role))
stands_below (c ∷ cs) top (suc k) d ordered below = ⊎_elim
    (λ (high : top < place_of c.role). let out = up_to-out c cs top high in stands_below cs top k d (tail_ordered c cs ordered) (let h : suc k < up_to top cs = omega arith in omega arith))
    (λ (low : place_of c.role ≤ top). let in' = up_to-in c cs top low in stands_below cs top k d (tail_ordered c cs ordered) (omega arith))
    (cases_lt top (place_of c.role))

stands_above : (components : List Component) (top k : ℕ) (d : Component) → AreOrdered components → up_to top components ≤ k → k < length components → top ≤ place_of (get_or components k d).role
stands_above [] top k d ordered above within = absurd (omega arith)
stands_above (c ∷ cs) top zero d ordered above within = ⊎_elim
    (λ (high : top < place_of c.role). omega arith)
    (λ (low : place_of c.role ≤ top). let in' = up_to-in c cs top low in absurd (omega arith))
    (cases_lt top (place_of c.role))
stands_above (c ∷ cs) top (suc k) d ordered above within = ⊎_elim
    (λ (high : top < place_of c.role). let more : place_of c.role ≤ place_of (get_or cs k d).role = ordered 0 (suc k) d (omega arith) (omega arith) in omega arith)
    (λ (low : place_of c.role ≤ top). let in' = up_to-in c cs top low in stands_above cs top k d (tail_ordered c cs ordered) (omega arith) (omega arith))
    (cases_lt top (place_of c.role))

-- a test that no item passes fails at each
none_passes : {X : Type 0} (p : X → Bool) (xs : List X) → list_any p xs ≡ false → All (λ x. p x ≡ false) xs
none_passes p [] none = All-nil (λ x. p x ≡ false)
none_passes p (x ∷ xs) none = All-cons (λ y. p y ≡ false) x xs (or_false_left (p x) (list_any p xs) none) (none_passes p xs (or_false_right (p x) (list_any p xs) none))
  where
    or_false_left : (a b : Bool) → (a || b) ≡ false → a ≡ false
    or_false_left true b h = h
    or_false_left false b h = refl

    or_false_right : (a b : Bool) → (a || b) ≡ false → b ≡ false
    or_false_right true b h = absurd (true≢false h)
    or_false_right false b h = h

-- where no component has the name, each has another
other_names : (components : List Component) (name : List ℕ) → list_any (has_name name) components ≡ false → All (λ c. c.name ≢ name) components
other_names components name none k d within same =
    true≢false (sym (nat_list_eq_equiv.refl name) ∙ ap (λ n. pointwise nat_eq n name) (sym same) ∙ none_passes (has_name name) components none k d within)

pub placed-IsStructure : (components : List Component) (component : Component) → IsStructure components → IsFit component → list_any (has_name component.name) components ≡ false → IsStructure (placed component components)
placed-IsStructure components component is fit none =
    let n : ℕ = up_to (place_of component.role) components in
    let within : n ≤ length components = up_to-le (place_of component.role) components in
    record {
      in_order = all_pairs_insert (λ (a b : Component). place_of a.role ≤ place_of b.role) components n component within is.in_order
          (λ k d h. stands_below components (place_of component.role) k d is.in_order h)
          (λ k d h l. stands_above components (place_of component.role) k d is.in_order h l);
      names_differ = all_pairs_insert (λ (a b : Component). a.name ≢ b.name) components n component within is.names_differ
          (λ k d h. other_names components component.name none k d (omega arith))
          (λ k d h l e. other_names components component.name none k d l (sym e));
      viral_listed = all_insert (λ (c : Component). c.role ≡ Viral → c.codes ≢ Any) components n component within is.viral_listed fit.viral;
      codes_fit = all_insert (λ (c : Component). FitsCodes c.kind c.codes) components n component within is.codes_fit fit.codes_fit;
    }

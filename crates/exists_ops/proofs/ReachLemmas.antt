-- How many steps are taken at most.
use Rattle.std.proofs.Common.{◌≡◌, ℕ, ◌+◌, ◌*◌, ◌≤◌, List, [], ◌∷◌, ◌++◌, map, length, Bool, true, false, not, ◌&&◌, ◌||◌, cond, Option, Some, None, option_map, unwrap_or, refl, sym, ap, subst, ◌∙◌, arith, add-one}
use Rattle.std.specs.Prelude.{filter, slice_get, zip, nat_eq}
use Rattle.std.specs.Option.{is_some}
use Rattle.std.specs.List.{All, cons_option, count_by, find, list_all, sum_by}
use Rattle.std.specs.Ordering.{eq_by_cmp}
use Rattle.std.specs.FinMap.{empty, entries, keys, len, len-entries}
use Rattle.std.specs.BTreeMap.{BTreeMap}
use Rattle.std.proofs.lemmas.List.{map-append}
use Rattle.std.proofs.lemmas.List.Elements.{All-head, All-tail}
use Rattle.std.proofs.lemmas.List.Sums.{sum_by-append, sum_by-cons}
use Rattle.vtl_values.specs.Order.{key_cmp, value_cmp}
use Rattle.vtl_values.specs.Texts.{same_text}
use Rattle.vtl_values.specs.declared.kind.Role.TheVariants.{Identifier}
use Rattle.vtl_values.specs.declared.structure.Component.{Component}
use Rattle.vtl_values.specs.declared.value.Value.{Value}
use Rattle.vtl_values.specs.declared.value.Value.TheVariants.{Null}
use Rattle.vtl_values.proofs.Values.{value_cmp-IsTotalOrder, key_cmp-IsTotalOrder, key_cmp-IsAntisymmetric}
use Rattle.data_model.specs.Deltas.{Pair}
use Rattle.data_model.proofs.DeltaLemmas.{contradicted}
use Rattle.data_model.proofs.MapLemmas.{tied, tied_to_itself}
use Rattle.point_sets.specs.Changes.{Changes}
use Rattle.structured_sets.specs.Fitting as fitting
use Rattle.structured_sets.specs.Fitting.{others}
use Rattle.data_set_trees.specs.clauses.Frames.{has_role}
use Rattle.clause_meaning.proofs.ByRole.{of-identifiers}
use Rattle.clause_meaning.proofs.First.{identifiers-first}
use Rattle.data_set_trees.specs.Components.{identifiers, has_name}
use Rattle.held_index.specs.Holdings.{Holding, part_of}
use Rattle.held_index.specs.Walks.{PointValues, component_of, part_key}
use Rattle.held_index.specs.WalkLaws.{place_cmp-IsTotalOrder}
use Rattle.held_index.proofs.OrderLemmas.{length-in_order}
use Rattle.structured_sets.proofs.Lists.{position-cons}
use Rattle.operator_meaning.proofs.pairs.Joined.{Has, own-role}
use Rattle.operator_meaning.proofs.pairs.Keys.{names, names-apart}
use Rattle.operator_meaning.proofs.pairs.Names.{same-true, same-refl, named, is_in, Apart, either-left, either-right}
use Rattle.scalar_trees.proofs.typing.Sound.{both, left, right}
use Rattle.operator_meaning.specs.exists.Exists.{ExistsOn, common}
use Rattle.operator_meaning.specs.exists.Typed.{IsTypedExistsOn}
use Rattle.operator_meaning.proofs.exists.Agreed.{both-have, named-in, taken-in}
use Rattle.exists_ops.specs.Parts.{AreShifts, number_of, numbers_in, left_numbers, left_want, right_numbers, key_part}
use Rattle.pair_ops.specs.Reach.{NamedValue, named_values, agrees, agree, held_of, met_keys, main_points, pairs_with, matching_reach}
use Rattle.exists_ops.specs.Walked.{part_cost, cost}
use Rattle.exists_ops.specs.declared.parts.Shift.{Shift}
use Rattle.exists_ops.proofs.NumberLemmas.{number-some, first-part, is_called}

-- ---- counts

few-filtered : {A B : Type 0} (q : A → Bool) (r : B → Bool) (g : A → B) → ((x : A) → q x ≡ true → r (g x) ≡ true) → (xs : List A) → length (filter q xs) ≤ count_by r (map g xs)
few-filtered q r g each [] = omega arith
few-filtered {A = A} {B = B} q r g each (x ∷ xs) =
    let later = few-filtered q r g each xs in
    let all = sum_by-cons (λ y. cond (r y) 1 0) (g x) (map g xs) in
    by_test (q x) (r (g x)) (each x) later all
  where
    by_test : (b c : Bool) → (b ≡ true → c ≡ true) → length (filter q xs) ≤ count_by r (map g xs) → count_by r (map g (x ∷ xs)) ≡ cond c 1 0 + count_by r (map g xs) → length (cond b (x ∷ filter q xs) (filter q xs)) ≤ count_by r (map g (x ∷ xs))
    by_test true true h later all = omega (arith, later, all)
    by_test true false h later all = let bad : false ≡ true = h refl in cc
    by_test false true h later all = omega (arith, later, all)
    by_test false false h later all = omega (arith, later, all)

map-twice : {A B C : Type 0} (f : A → B) (g : B → C) (xs : List A) → map (λ x. g (f x)) xs ≡ map g (map f xs)
map-twice f g [] = refl
map-twice {C = C} f g (x ∷ xs) = ap (λ (ys : List C). g (f x) ∷ ys) (map-twice f g xs)

weights : (F G : List Value → ℕ) → ((k : List Value) → F k ≤ 2 + 2 * G k) → (es : List (List Value × Pair (List Value))) → sum_by (λ (c : List Value × Pair (List Value)). F c.0) es ≤ 2 * length es + 2 * sum_by G (map (λ (c : List Value × Pair (List Value)). c.0) es)
weights F G each [] = omega arith
weights F G each (c ∷ cs) =
    let later = weights F G each cs in
    let one = each c.0 in
    let own = sum_by-cons (λ (c : List Value × Pair (List Value)). F c.0) c cs in
    let its = sum_by-cons G c.0 (map (λ (c : List Value × Pair (List Value)). c.0) cs) in
    omega (arith, later, one, own, its)

-- ---- values with names

zip-all : (p : NamedValue → Bool) (ns : List (List ℕ)) (vs : List Value) → Apart ns → ((n : List ℕ) (v : Value) → named ns vs n ≡ Some v → p (n, v) ≡ true) → list_all p (zip ns vs) ≡ true
zip-all p [] vs apart each = refl
zip-all p (n ∷ ns) [] apart each = refl
zip-all p (n ∷ ns) (v ∷ vs) apart each =
    both (p (n, v)) (list_all p (zip ns vs)) (each n v (ap (λ b. cond b (Some v) (named ns vs n)) (same-refl n)))
    (zip-all p ns vs apart.1 (λ m w at. each m w (later m w at (same_text m n) refl)))
  where
    later : (m : List ℕ) (w : Value) → named ns vs m ≡ Some w → (b : Bool) → same_text m n ≡ b → cond b (Some v) (named ns vs m) ≡ Some w
    later m w at true same = contradicted (is_in ns n) (subst (λ (k : List ℕ). is_in ns k ≡ true) (same-true m n same) (named-in ns vs m w at)) apart.0
    later m w at false same = at

-- the number of a name, and the value with it
placed : (n : List ℕ) (cs os : List Component) → All (Has Identifier) cs → (key : List Value) (v : Value) → named (names cs) key n ≡ Some v → (i : ℕ) × (number_of n (cs ++ os) ≡ Some i) × (slice_get key i ≡ Some v)
placed n [] os own key v h = cc
placed n (c ∷ cs) os own [] v h = cc
placed n (c ∷ cs) os own (u ∷ us) v h = by_name (has_name n c) refl h (λ i. placed n cs os (All-tail (Has Identifier) c cs own) us v i)
  where
    at : (b : Bool) → has_name n c ≡ b → number_of n (c ∷ cs ++ os) ≡ cond b (Some 0) (option_map (λ i. i + 1) (number_of n (cs ++ os)))
    at b e = position-cons (is_called n) c (cs ++ os) ∙ (λ i. cond (All-head (Has Identifier) c cs own i && e i) (Some 0) (option_map (λ i. i + 1) (number_of n (cs ++ os))))

    by_name : (b : Bool) → has_name n c ≡ b → cond b (Some u) (named (names cs) us n) ≡ Some v → (named (names cs) us n ≡ Some v → (i : ℕ) × (number_of n (cs ++ os) ≡ Some i) × (slice_get us i ≡ Some v)) → (i : ℕ) × (number_of n (c ∷ cs ++ os) ≡ Some i) × (slice_get (u ∷ us) i ≡ Some v)
    by_name true e i later = (0, at true e, i)
    by_name false e i later = let found = later i in (found.0 + 1, at false e ∙ ap (option_map (λ i. i + 1)) found.1, rw add-one found.2)

-- lists of values by numbers are equal value by value
same-values : (F G : ℕ → Value) (l r : List Component) (cs : List Component) → ((n : List ℕ) → is_in (names cs) n ≡ true → (is_some (number_of n l) ≡ true) × (is_some (number_of n r) ≡ true)) → map F (numbers_in l cs) ≡ map G (numbers_in r cs)
    → (n : List ℕ) → is_in (names cs) n ≡ true → option_map F (number_of n l) ≡ option_map G (number_of n r)
same-values F G l r [] there same n h = cc
same-values F G l r (c ∷ cs) there same n h =
    let own = there c.name (either-left (same_text c.name c.name) (is_in (names cs) c.name) (same-refl c.name)) in
    by_numbers (number_of c.name l) (number_of c.name r) refl refl own.0 own.1 same (λ s m i. same-values F G l r cs (λ k j. there k (either-right (same_text k c.name) (is_in (names cs) k) j)) s m i)
  where
    IsSame : List ℕ → Type 0
    IsSame m = option_map F (number_of m l) ≡ option_map G (number_of m r)

    by_name : (i j : ℕ) → number_of c.name l ≡ Some i → number_of c.name r ≡ Some j → F i ≡ G j → (is_in (names cs) n ≡ true → IsSame n) → (b : Bool) → same_text n c.name ≡ b → (b || is_in (names cs) n) ≡ true → IsSame n
    by_name i j at to heads later true e k = subst IsSame (sym (same-true n c.name e)) (ap (option_map F) at ∙ ap Some heads ∙ sym (ap (option_map G) to))
    by_name i j at to heads later false e k = later k

    by_numbers : (o p : Option ℕ) → number_of c.name l ≡ o → number_of c.name r ≡ p → is_some o ≡ true → is_some p ≡ true → map F (cons_option o (numbers_in l cs)) ≡ map G (cons_option p (numbers_in r cs)) → (map F (numbers_in l cs) ≡ map G (numbers_in r cs) → (m : List ℕ) → is_in (names cs) m ≡ true → IsSame m) → IsSame n
    by_numbers None p at to some also all later = cc
    by_numbers (Some i) None at to some also all later = cc
    by_numbers (Some i) (Some j) at to some also all later =
        let heads : F i ≡ G j = cc in
        let tails : map F (numbers_in l cs) ≡ map G (numbers_in r cs) = cc in
        by_name i j at to heads (later tails n) (same_text n c.name) refl h

-- ---- points that agree

module _ (e : ExistsOn) (typed : IsTypedExistsOn e) (k : List Value) (p : PointValues) (same : part_key (left_numbers e) p ≡ key_part (right_numbers e) k) where
  numbered-there : (n : List ℕ) → is_in (names (identifiers (common e))) n ≡ true → (is_some (number_of n e.left) ≡ true) × (is_some (number_of n e.right) ≡ true)
  numbered-there n h =
      let have = sym (both-have e n) ∙ h in (
        number-some n e.left ∙ taken-in n (identifiers e.left) ∙ left (is_in (names (identifiers e.left)) n) (is_in (names (identifiers e.right)) n) have,
        number-some n e.right ∙ taken-in n (identifiers e.right) ∙ right (is_in (names (identifiers e.left)) n) (is_in (names (identifiers e.right)) n) have,
      )

  its-place : (cs : List Component) → identifiers cs ++ others cs ≡ cs → (key : List Value) (n : List ℕ) (v : Value) → named (names (identifiers cs)) key n ≡ Some v → (i : ℕ) × (number_of n cs ≡ Some i) × (slice_get key i ≡ Some v)
  its-place cs whole key n v at = let found = placed n (identifiers cs) (others cs) (own-role Identifier cs) key v at in (found.0, ap (number_of n) (sym whole) ∙ found.1, found.2)

  first-identifiers : (cs : List Component) → cs ≡ fitting.identifiers cs ++ others cs → identifiers cs ++ others cs ≡ cs
  first-identifiers cs split = ap (λ (is : List Component). is ++ others cs) (of-identifiers cs) ∙ sym split

  one-value : (n : List ℕ) (v w : Value) → named (names (identifiers e.right)) k n ≡ Some v → named (names (identifiers e.left)) p.0 n ≡ Some w → w ≡ v
  one-value n v w at to =
      let here = its-place e.right (first-identifiers e.right (identifiers-first e.right typed.right_is)) k n v at in
      let there = its-place e.left (first-identifiers e.left (identifiers-first e.left typed.left_is)) p.0 n w to in
      let shared : is_in (names (identifiers (common e))) n ≡ true = both-have e n ∙ both (is_in (names (identifiers e.left)) n) (is_in (names (identifiers e.right)) n) (named-in (names (identifiers e.left)) p.0 n w to) (named-in (names (identifiers e.right)) k n v at) in
      let F : ℕ → Value = λ i. component_of i p in
      let G : ℕ → Value = λ i. unwrap_or (slice_get k i) Null in
      let found = same-values F G e.left e.right (identifiers (common e)) numbered-there same n shared in
      let equal : Some (F there.0) ≡ Some (G here.0) = sym (ap (option_map F) there.1) ∙ found ∙ ap (option_map G) here.1 in
      let its : F there.0 ≡ w = ap (λ (o : Option Value). unwrap_or o Null) (first-part p.0 p.1 there.0 w there.2) in
      let own : G here.0 ≡ v = ap (λ (o : Option Value). unwrap_or o Null) here.2 in
      let of_somes : F there.0 ≡ G here.0 = cc in
      sym its ∙ of_somes ∙ own

  by-names : (cs : List Component) (vs : List Value) → named_values cs vs ≡ zip (names (identifiers cs)) vs
  by-names cs vs = ap (λ (is : List Component). zip (names is) vs) (sym (of-identifiers cs))

  pub part-agrees : agree (named_values e.right k) (named_values e.left p.0) ≡ true
  part-agrees =
      (λ i. agree (by-names e.right k i) (by-names e.left p.0 i))
      ∙ zip-all (λ a. list_all (agrees a) (zip (names (identifiers e.left)) p.0)) (names (identifiers e.right)) k (names-apart (has_role Identifier) e.right typed.right_is.names_differ)
      (λ n v at. zip-all (agrees (n, v)) (names (identifiers e.left)) p.0 (names-apart (has_role Identifier) e.left typed.left_is.names_differ) (λ m w to. by_name n v at m w to (same_text n m) refl))
    where
      by_name : (n : List ℕ) (v : Value) → named (names (identifiers e.right)) k n ≡ Some v → (m : List ℕ) (w : Value) → named (names (identifiers e.left)) p.0 m ≡ Some w → (b : Bool) → same_text n m ≡ b → (not b || eq_by_cmp value_cmp v w) ≡ true
      by_name n v at m w to true is =
          let equal = one-value n v w at (ap (named (names (identifiers e.left)) p.0) (same-true n m is) ∙ to) in
          subst (λ (u : Value). eq_by_cmp value_cmp v u ≡ true) (sym equal) (tied_to_itself value_cmp-IsTotalOrder v)
      by_name n v at m w to false is = refl

-- ---- steps

module _ (e : ExistsOn) (typed : IsTypedExistsOn e) (a b : Holding) (d f : Changes) (held : a.want ≡ left_want e) where
  abbrev structures : List (List Component)
  structures = e.left ∷ e.right ∷ []

  abbrev both_held : List Holding
  both_held = a ∷ b ∷ []

  abbrev news : List Changes
  news = d ∷ f ∷ []

  abbrev points : List (List NamedValue)
  points = main_points structures 0 both_held news

  its-content : held_of 0 both_held ≡ a.content
  its-content = ap (λ t. unwrap_or (option_map (λ (h : Holding). h.content) (cond t (Some a) (find (λ (h : Holding). nat_eq h.want.operand 0) (b ∷ [])))) empty) (ap (λ w. nat_eq w.operand 0) held)

  abbrev coming : List (List Value)
  coming = map (λ (c : List Value × Pair (List Value)). c.0) (filter (λ (c : List Value × Pair (List Value)). is_some c.1.1) (entries d))

  points-in : (k : List Value) → length (part_of a.want (key_part (right_numbers e) k) a.content) ≤ count_by (agree (named_values e.right k)) points
  points-in k =
      let part = key_part (right_numbers e) k in
      let q : PointValues → Bool = λ p. eq_by_cmp key_cmp (part_key (left_numbers e) p) part in
      let r = agree (named_values e.right k) in
      let ordered : length (part_of (left_want e) part a.content) ≤ length (filter q (entries a.content)) = length-in_order (place_cmp-IsTotalOrder (left_want e)) (filter q (entries a.content)) in
      let same : length (part_of a.want part a.content) ≡ length (part_of (left_want e) part a.content) = ap (λ w. length (part_of w part a.content)) held in
      let few : length (filter q (entries a.content)) ≤ count_by r (map (λ (p : PointValues). named_values e.left p.0) (entries a.content)) =
      few-filtered q r (λ (p : PointValues). named_values e.left p.0) (λ p t. part-agrees e typed k p (tied key_cmp-IsTotalOrder key_cmp-IsAntisymmetric (part_key (left_numbers e) p) part t)) (entries a.content) in
      let twice : count_by r (map (λ (p : PointValues). named_values e.left p.0) (entries a.content)) ≡ count_by r (map (named_values e.left) (keys a.content)) = ap (count_by r) (map-twice (λ (p : PointValues). p.0) (named_values e.left) (entries a.content)) in
      let all : count_by r points ≡ count_by r (map (named_values e.left) (keys a.content)) + count_by r (map (named_values e.left) coming) =
      ap (λ content. count_by r (map (named_values e.left) (met_keys content d))) its-content
      ∙ ap (count_by r) (map-append (named_values e.left) (keys a.content) coming)
      ∙ sum_by-append (λ y. cond (r y) 1 0) (map (named_values e.left) (keys a.content)) (map (named_values e.left) coming) in
      omega (arith, ordered, same, few, twice, all)

  abbrev weight : List Value → ℕ
  weight k = count_by (agree (named_values e.right k)) points

  -- the looks for the changes of the first operand, and those for parts
  pub cost-within : (shifts : BTreeMap (List Value) Shift) → AreShifts (right_numbers e) (entries f) shifts → len d + cost a shifts.entries ≤ matching_reach structures 0 both_held news
  cost-within shifts kept =
      let parts = kept.few (part_cost a) in
      let all = weights (λ k. part_cost a (key_part (right_numbers e) k)) weight (λ k. let few = points-in k in omega (arith, few)) (entries f) in
      let long = len-entries f in
      let changes = sum_by-cons len d (f ∷ []) in
      let last_changes = sum_by-cons len f [] in
      let pairs = sum_by-cons (λ (p : List Component × Changes). pairs_with points p.0 p.1) (e.left, d) ((e.right, f) ∷ []) in
      let last_pairs = sum_by-cons (λ (p : List Component × Changes). pairs_with points p.0 p.1) (e.right, f) [] in
      let six : matching_reach structures 0 both_held news ≡ 6 * (sum_by len news + sum_by (λ (p : List Component × Changes). pairs_with points p.0 p.1) ((e.left, d) ∷ (e.right, f) ∷ [])) = refl in
      omega (arith, parts, all, long, changes, last_changes, pairs, last_pairs, six)

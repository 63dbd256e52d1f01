-- The points of the main operand in the part of a key of its partner agree with the key on the identifiers in common.
use Rattle.std.proofs.Common.{◌≡◌, ℕ, ◌+◌, ◌*◌, ◌≤◌, List, [], ◌∷◌, map, length, Bool, true, false, ◌||◌, cond, Option, Some, None, option_map, refl, sym, ap, subst, ◌∙◌, arith, add-one}
use Rattle.std.specs.Prelude.{filter, filter_map, zip}
use Rattle.std.specs.List.{cons_option, count_by, list_all, list_any, position, sum_by}
use Rattle.std.specs.Option.{is_some}
use Rattle.std.specs.Ordering.{eq_by_cmp}
use Rattle.std.specs.FinMap.{entries, keys, len, len-entries}
use Rattle.std.proofs.lemmas.List.{length-map}
use Rattle.std.proofs.lemmas.List.Sums.{length-filter, sum_by-append, sum_by-cons, sum_by-le-sum_by}
use Rattle.vtl_values.specs.Order.{key_cmp}
use Rattle.vtl_values.specs.Texts.{same_text}
use Rattle.vtl_values.proofs.Values.{key_cmp-IsTotalOrder, key_cmp-IsAntisymmetric, value_cmp-IsTotalOrder}
use Rattle.vtl_values.specs.declared.structure.Component.{Component}
use Rattle.vtl_values.specs.declared.value.Value.{Value}
use Rattle.data_model.specs.Deltas.{Pair}
use Rattle.data_model.proofs.MapLemmas.{neither, tied, tied_to_itself}
use Rattle.point_sets.specs.Changes.{Changes}
use Rattle.point_sets.specs.DataSets.{DataSet}
use Rattle.structured_sets.specs.Fitting as fitting
use Rattle.structured_sets.proofs.Lists.{position-cons}
use Rattle.scalar_trees.proofs.typing.Sound.{left, right}
use Rattle.clause_meaning.proofs.ByRole.{of-identifiers}
use Rattle.data_set_trees.specs.Components.{has_name, identifiers, include, is_same}
use Rattle.held_index.specs.Holdings.{Holding, part_of}
use Rattle.held_index.specs.WalkLaws.{place_cmp-IsTotalOrder}
use Rattle.held_index.specs.Walks.{PointValues, component_of, part_key}
use Rattle.held_index.specs.declared.want.Want.{Want}
use Rattle.held_index.proofs.OrderLemmas.{length-in_order}
use Rattle.operator_meaning.proofs.pairs.Keys.{names, same-in}
use Rattle.operator_meaning.proofs.pairs.Names.{Apart, is_in, same-true}
use Rattle.pair_eval.specs.Plans.{numbers_between}
use Rattle.pair_ops.specs.Noted.{part_steps}
use Rattle.pair_ops.specs.Reach.{NamedValue, agree, agrees, met_keys, named_values, pairs_with}

-- ---- one identifier

none_agrees : (n : List ℕ) (v : Value) (cs : List Component) (key : List Value) → is_in (names cs) n ≡ false → list_all (agrees (n, v)) (zip (names cs) key) ≡ true
none_agrees n v [] key apart = refl
none_agrees n v (c ∷ cs) [] apart = refl
none_agrees n v (c ∷ cs) (u ∷ us) apart =
    let both = neither (same_text n c.name) (is_in (names cs) n) apart in
    rw (both.0, none_agrees n v cs us both.1) refl

no_number : (n : List ℕ) (cs : List Component) → is_in (names cs) n ≡ true → position (has_name n) cs ≡ None → ⊥
no_number n [] there none = cc
no_number n (c ∷ cs) there none = by_test (same_text n c.name) (no_number n cs) there (sym (position-cons (has_name n) c cs) ∙ none)
  where
    by_place : (o : Option ℕ) → option_map (λ i. i + 1) o ≡ None → o ≡ None
    by_place None e = refl
    by_place (Some i) e = cc

    by_test : (b : Bool) → (is_in (names cs) n ≡ true → position (has_name n) cs ≡ None → ⊥) → (b || is_in (names cs) n) ≡ true → cond b (Some 0) (option_map (λ i. i + 1) (position (has_name n) cs)) ≡ None → ⊥
    by_test true later i e = cc
    by_test false later i e = later i (by_place (position (has_name n) cs) e)

-- the value that the number of the name stands for agrees with all values of the key
abbrev NumberAgrees : List ℕ → List Component → List Value → List Value → Type 0
NumberAgrees n cs key rest = (i : ℕ) → position (has_name n) cs ≡ Some i → list_all (agrees (n, component_of i (key, rest))) (zip (names cs) key) ≡ true

one_agrees : (n : List ℕ) (cs : List Component) (key rest : List Value) → Apart (names cs) → NumberAgrees n cs key rest
one_agrees n [] key rest apart i at = refl
one_agrees n (c ∷ cs) [] rest apart i at = refl
one_agrees n (c ∷ cs) (v ∷ vs) rest apart i at = by_test (one_agrees n cs vs rest apart.1) (same_text n c.name) refl (sym (position-cons (has_name n) c cs) ∙ at)
  where
    here : (j : ℕ) → 0 ≡ j → same_text n c.name ≡ true → list_all (agrees (n, component_of j (v ∷ vs, rest))) ((c.name, v) ∷ zip (names cs) vs) ≡ true
    here j e same = subst (λ k. list_all (agrees (n, component_of k (v ∷ vs, rest))) ((c.name, v) ∷ zip (names cs) vs) ≡ true) e (
        let none : is_in (names cs) n ≡ false = ap (is_in (names cs)) (same-true n c.name same) ∙ apart.0 in
        rw (same, tied_to_itself value_cmp-IsTotalOrder v, none_agrees n v cs vs none) refl)

    later : NumberAgrees n cs vs rest → (o : Option ℕ) → position (has_name n) cs ≡ o → option_map (λ k. k + 1) o ≡ Some i → same_text n c.name ≡ false → list_all (agrees (n, component_of i (v ∷ vs, rest))) ((c.name, v) ∷ zip (names cs) vs) ≡ true
    later earlier None e is other = cc
    later earlier (Some k) e is other =
        let next : k + 1 ≡ i = cc in
        let value : component_of k (vs, rest) ≡ component_of i (v ∷ vs, rest) = subst (λ j. component_of k (vs, rest) ≡ component_of j (v ∷ vs, rest)) next (rw add-one refl) in
        rw other (subst (λ (u : Value). list_all (agrees (n, u)) (zip (names cs) vs) ≡ true) value (earlier k e))

    by_test : NumberAgrees n cs vs rest → (b : Bool) → same_text n c.name ≡ b → cond b (Some 0) (option_map (λ k. k + 1) (position (has_name n) cs)) ≡ Some i → list_all (agrees (n, component_of i (v ∷ vs, rest))) ((c.name, v) ∷ zip (names cs) vs) ≡ true
    by_test earlier true same is = here i (cc) same
    by_test earlier false other is = later earlier (position (has_name n) cs) refl is other

-- ---- all identifiers in common

-- the values that the numbers of these identifiers stand for agree with all values of the key
all_agree : (cs ds : List Component) (point : PointValues) → Apart (names cs) → include cs ds ≡ true → agree (zip (names ds) (map (λ n. component_of n point) (filter_map (λ d. position (has_name d.name) cs) ds))) (zip (names cs) point.0) ≡ true
all_agree cs [] point apart has = refl
all_agree cs (d ∷ ds) point apart has =
    by_number (position (has_name d.name) cs) refl (all_agree cs ds point apart (right (list_any (is_same d) cs) (include cs ds) has))
  where
    by_number : (o : Option ℕ) → position (has_name d.name) cs ≡ o → agree (zip (names ds) (map (λ n. component_of n point) (filter_map (λ d. position (has_name d.name) cs) ds))) (zip (names cs) point.0) ≡ true
        → agree (zip (names (d ∷ ds)) (map (λ n. component_of n point) (cons_option o (filter_map (λ d. position (has_name d.name) cs) ds)))) (zip (names cs) point.0) ≡ true
    by_number None e later = absurd (no_number d.name cs (same-in d cs (left (list_any (is_same d) cs) (include cs ds) has)) e)
    by_number (Some n) e later = rw (one_agrees d.name cs point.0 point.1 apart n e) later

-- a point of the part of its partner's key agrees with it
pub part-agrees : (from to : List Component) (part : List Value) (point : PointValues) → Apart (names (identifiers from)) → include (identifiers from) (identifiers to) ≡ true → part_key (numbers_between from to) point ≡ part → agree (named_values to part) (named_values from point.0) ≡ true
part-agrees from to part point apart has in_it =
    let same : (cs : List Component) → fitting.identifiers cs ≡ identifiers cs = λ cs. sym (of-identifiers cs) in
    subst (λ (key : List Value). agree (named_values to key) (named_values from point.0) ≡ true) in_it
    (subst (λ (cs : List Component). agree (zip (names cs) (part_key (numbers_between from to) point)) (named_values from point.0) ≡ true) (sym (same to))
    (subst (λ (cs : List Component). agree (zip (names (identifiers to)) (part_key (numbers_between from to) point)) (zip (names cs) point.0) ≡ true) (sym (same from))
    (all_agree (identifiers from) (identifiers to) point apart has)))

-- ---- how many there are

sum_by-map : {X Y : Type 0} (f : Y → ℕ) (g : X → Y) (xs : List X) → sum_by f (map g xs) ≡ sum_by (λ x. f (g x)) xs
sum_by-map f g [] = refl
sum_by-map f g (x ∷ xs) = sum_by-cons f (g x) (map g xs) ∙ ap (λ n. f (g x) + n) (sum_by-map f g xs) ∙ sym (sum_by-cons (λ x. f (g x)) x xs)

one_less : (b c : Bool) → (b ≡ true → c ≡ true) → cond b 1 0 ≤ cond c 1 0
one_less true c h = rw (h refl) (omega arith)
one_less false c h = omega arith

-- no more points are in a part than pass a test that all of them pass
pub few_in_part : (w : Want) (part : List Value) (m : DataSet) (test : List Value → Bool) → ((p : PointValues) → part_key w.part p ≡ part → test p.0 ≡ true) → length (part_of w part m) ≤ count_by test (keys m)
few_in_part w part m test passes =
    let is_in : PointValues → Bool = λ p. eq_by_cmp key_cmp (part_key w.part p) part in
    let ordered = length-in_order (place_cmp-IsTotalOrder w) (filter is_in (entries m)) in
    let counted = length-filter is_in (entries m) in
    let fewer = sum_by-le-sum_by (λ p. cond (is_in p) 1 0) (λ p. cond (test p.0) 1 0) (entries m) (λ p. one_less (is_in p) (test p.0) (λ e. passes p (tied key_cmp-IsTotalOrder key_cmp-IsAntisymmetric (part_key w.part p) part e))) in
    let named = sum_by-map (λ k. cond (test k) 1 0) (λ (p : PointValues). p.0) (entries m) in
    omega (arith, ordered, counted, fewer, named)

-- the steps through the parts of these keys, where each has no more points than are counted
pub few_steps : (h : Holding) (count : List Value → ℕ) → ((k : List Value) → length (part_of h.want k h.content) ≤ count k) → (ks : List (List Value)) → sum_by (part_steps h) ks ≤ length ks + 2 * sum_by count ks
few_steps h count few [] = omega arith
few_steps h count few (k ∷ ks) =
    let all = sum_by-cons (part_steps h) k ks in
    let counted = sum_by-cons count k ks in
    let one = few k in
    let others = few_steps h count few ks in
    omega (arith, all, counted, one, others)

-- the points that were there are counted
pub met-counted : (test : List NamedValue → Bool) (cs : List Component) (m : DataSet) (d : Changes) → count_by (λ k. test (named_values cs k)) (keys m) ≤ count_by test (map (named_values cs) (met_keys m d))
met-counted test cs m d =
    let named = sum_by-map (λ k. cond (test k) 1 0) (named_values cs) (met_keys m d) in
    let both = sum_by-append (λ k. cond (test (named_values cs k)) 1 0) (keys m) (map (λ e. e.0) (filter (λ e. is_some e.1.1) (entries d))) in
    omega (arith, named, both)

-- ---- the steps of a change of the partner

module _ (from to : List Component) (h : Holding) (d : Changes) (apart : Apart (names (identifiers from))) (has : include (identifiers from) (identifiers to) ≡ true) (parts : h.want.part ≡ numbers_between from to) where
  abbrev points : List (List NamedValue)
  points = map (named_values from) (met_keys h.content d)

  part-counted : (k : List Value) → length (part_of h.want k h.content) ≤ count_by (agree (named_values to k)) points
  part-counted k =
      let agreeing : (p : PointValues) → part_key h.want.part p ≡ k → agree (named_values to k) (named_values from p.0) ≡ true = λ p e. part-agrees from to k p apart has (ap (λ numbers. part_key numbers p) (sym parts) ∙ e) in
      let few = few_in_part h.want k h.content (λ key. agree (named_values to k) (named_values from key)) agreeing in
      let counted = met-counted (agree (named_values to k)) from h.content d in
      omega (arith, few, counted)

  pub walk-within : (e : Changes) → sum_by (part_steps h) (keys e) ≤ len e + 2 * pairs_with points to e
  walk-within e =
      let steps = few_steps h (λ k. count_by (agree (named_values to k)) points) part-counted (keys e) in
      let count = length-map (entries e) (λ (c : List Value × Pair (List Value)). c.0) in
      let all = len-entries e in
      omega (arith, steps, count, all)

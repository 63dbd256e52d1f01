-- What the rule of an inner join wants of its operands.
use Rattle.std.proofs.Common.{◌≡◌, ℕ, ◌+◌, ◌<◌, ◌≤◌, ◌++◌, not, List, [], ◌∷◌, map, length, get_or, Option, Some, None, refl, sym, ap, subst, ◌∙◌, append_assoc, zero-add, arith}
use Rattle.std.specs.Prelude.{filter_map}
use Rattle.std.specs.List.{All, position, range_with_len}
use Rattle.std.proofs.lemmas.List.{get_or_default, map_push}
use Rattle.std.proofs.lemmas.List.Elements.{All-nil, All-cons}
use Rattle.std.proofs.lemmas.List.Filters.{length-filter_both}
use Rattle.std.proofs.lemmas.List.FromFn.{map-range_with_len_more}
use Rattle.std.proofs.lemmas.List.Quantifiers.{position-Some}
use Rattle.vtl_values.specs.declared.kind.Role.TheVariants.{Identifier}
use Rattle.vtl_values.specs.declared.structure.Component.{Component}
use Rattle.data_set_trees.specs.clauses.Frames.{has_role}
use Rattle.data_set_trees.specs.Components.{identifiers, has_name}
use Rattle.data_set_trees.specs.declared.tree.DataSetOperator.{DataSetOperator}
use Rattle.data_set_trees.specs.checked.Operators.{an_operator, Operator, IsTyped, TakesOperands}
use Rattle.held_index.specs.Holdings.{FitsStructure}
use Rattle.held_index.specs.declared.want.Want.{Want}
use Rattle.held_index.proofs.WantLemmas.{in_parts-fits, whole-fits}
use Rattle.operator_meaning.specs.joins.Joins.{JoinOn, numbers_among}
use Rattle.join_eval.specs.Plans.{structure_of}
use Rattle.inner_joins.specs.Rules.{join_in, main_number, number_at, partner_numbers, wanted_of, wants_on, IsInner, IsInnerOn}
use Rattle.inner_joins.proofs.Keys.{main-within}
use Rattle.inner_joins.proofs.Places.{wants-each}

-- the join of an inner join that is well typed
pub inner-on : (o : Operator) → IsTyped o → IsInner o.operator → IsInnerOn (join_in o)
inner-on o typed inner = record {
  inner = refl;
  typed = record {
    structures = typed.structures;
    structure_is = typed.result;
    join = subst (λ (operator : DataSetOperator). TakesOperands (an_operator operator o.operands o.structure)) inner typed.takes;
  };
}

-- and what is wanted of it
pub wanted-is : (o : Operator) → IsInner o.operator → wanted_of o ≡ wants_on (join_in o)
wanted-is o inner = subst (λ (operator : DataSetOperator). wanted_of (an_operator operator o.operands o.structure) ≡ wants_on (join_in o)) (sym inner) refl

-- numbers by name are those of components
number-below : (s : List Component) (c : Component) (cs : List Component) (n : ℕ) → length s ≤ n → (o : Option ℕ) → position (has_name c.name) s ≡ o
    → All (λ k. k < n) (filter_map (λ d. position (has_name d.name) s) cs) → All (λ k. k < n) (filter_map (λ d. position (has_name d.name) s) (c ∷ cs))
number-below s c cs n within None e others = rw e others
number-below s c cs n within (Some k) e others =
    let below = (position-Some (has_name c.name) s k c e).0 in
    rw e (All-cons (λ i. i < n) k (filter_map (λ d. position (has_name d.name) s) cs) (omega (arith, below, within)) others)

numbers-below : (s names : List Component) (n : ℕ) → length s ≤ n → All (λ k. k < n) (numbers_among s names)
numbers-below s [] n within = All-nil (λ k. k < n)
numbers-below s (c ∷ cs) n within = number-below s c cs n within (position (has_name c.name) s) refl (numbers-below s cs n within)

-- there are no more identifiers than components
few-identifiers : (s : List Component) → length (identifiers s) ≤ length s
few-identifiers s = let both = length-filter_both (has_role Identifier) (λ c. not (has_role Identifier c)) (λ c. refl) s in omega (arith, both)

module _ (j : JoinOn) (on : IsInnerOn j) where
  pub wants-there : All (λ w. w.operand < length j.operands) (wants_on j)
  wants-there = wants-each j (λ w. w.operand < length j.operands) (λ number within. within) (λ number within. main-within j on)

  pub wants-fit : All (λ w. (s : List Component) → FitsStructure w (get_or j.operands w.operand s)) (wants_on j)
  wants-fit =
      wants-each j (λ w. (s : List Component) → FitsStructure w (get_or j.operands w.operand s)) (λ number within s. whole-fits number (get_or j.operands number s))
      (λ number within s.
      let main : List Component = get_or j.operands (main_number j) s in
      let few : length (identifiers (structure_of j (main_number j))) ≤ length main =
      subst (λ (t : List Component). length (identifiers (structure_of j (main_number j))) ≤ length t) (get_or_default j.operands (main_number j) [] s (main-within j on)) (few-identifiers (structure_of j (main_number j))) in
      in_parts-fits (main_number j) (partner_numbers j number) main (numbers-below (identifiers (structure_of j (main_number j))) (identifiers (structure_of j number)) (length main) few))

-- ---- one want more

module _ (f : ℕ → Want) (main : ℕ) where
  pub wants-more : (place : ℕ) (before now next : List Want) (w : Want) → now ≡ before ++ map f (map (number_at main) (range_with_len 0 place)) → next ≡ now ++ w ∷ [] → w ≡ f (number_at main place)
      → next ≡ before ++ map f (map (number_at main) (range_with_len 0 (place + 1)))
  wants-more place before now next w so_far pushed is =
      let done : List ℕ = map (number_at main) (range_with_len 0 place) in
      let longer : map f (map (number_at main) (range_with_len 0 (place + 1))) ≡ map f done ++ w ∷ [] =
      ap (map f) (map-range_with_len_more (number_at main) 0 place place (zero-add place)) ∙ map_push f done (number_at main place) ∙ ap (λ (v : Want). map f done ++ v ∷ []) (sym is) in
      pushed ∙ ap (λ (ws : List Want). ws ++ w ∷ []) so_far ∙ append_assoc before (map f done) (w ∷ []) ∙ ap (λ (ws : List Want). before ++ ws) (sym longer)

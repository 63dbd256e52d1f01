-- What is wanted names components of a structure.
use Rattle.std.proofs.Common.{◌≡◌, ℕ, ◌+◌, ◌<◌, List, [], ◌∷◌, length, Bool, true, false, cond, Option, Some, None, option_map, refl, sym, ◌∙◌, arith}
use Rattle.std.specs.List.{All, cons_option}
use Rattle.std.proofs.lemmas.List.Elements.{All-nil, All-cons}
use Rattle.vtl_values.specs.declared.structure.Component.{Component}
use Rattle.data_set_trees.specs.Components.{identifiers}
use Rattle.held_index.specs.Holdings.{FitsStructure}
use Rattle.held_index.proofs.WantLemmas.{in_parts-fits}
use Rattle.structured_sets.proofs.Lists.{position-cons}
use Rattle.operator_meaning.specs.exists.Exists.{ExistsOn, common}
use Rattle.exists_ops.specs.Parts.{number_of, numbers_in, left_numbers, left_want, right_numbers, right_want}
use Rattle.exists_ops.proofs.NumberLemmas.{is_called}

number-within : (n : List ℕ) (cs : List Component) (i : ℕ) → number_of n cs ≡ Some i → i < length cs
number-within n [] i e = cc
number-within n (c ∷ cs) i e = by_test (is_called n c) (sym (position-cons (is_called n) c cs) ∙ e) (number-within n cs)
  where
    by_place : (o : Option ℕ) → ((j : ℕ) → o ≡ Some j → j < length cs) → option_map (λ j. j + 1) o ≡ Some i → i < length (c ∷ cs)
    by_place None within h = cc
    by_place (Some j) within h = let same : j + 1 ≡ i = cc in let below = within j refl in omega (arith, same, below)

    by_test : (b : Bool) → cond b (Some 0) (option_map (λ j. j + 1) (number_of n cs)) ≡ Some i → ((j : ℕ) → number_of n cs ≡ Some j → j < length cs) → i < length (c ∷ cs)
    by_test true h within = let same : 0 ≡ i = cc in omega (arith, same)
    by_test false h within = by_place (number_of n cs) within h

numbers-within : (s cs : List Component) → All (λ i. i < length s) (numbers_in s cs)
numbers-within s [] = All-nil (λ i. i < length s)
numbers-within s (c ∷ cs) = by_number (number_of c.name s) (number-within c.name s) (numbers-within s cs)
  where
    by_number : (o : Option ℕ) → ((j : ℕ) → o ≡ Some j → j < length s) → All (λ i. i < length s) (numbers_in s cs) → All (λ i. i < length s) (cons_option o (numbers_in s cs))
    by_number None within later = later
    by_number (Some i) within later = All-cons (λ j. j < length s) i (numbers_in s cs) (within i refl) later

pub left-fits : (e : ExistsOn) → FitsStructure (left_want e) e.left
left-fits e = in_parts-fits 0 (left_numbers e) e.left (numbers-within e.left (identifiers (common e)))

pub right-fits : (e : ExistsOn) → FitsStructure (right_want e) e.right
right-fits e = in_parts-fits 1 (right_numbers e) e.right (numbers-within e.right (identifiers (common e)))

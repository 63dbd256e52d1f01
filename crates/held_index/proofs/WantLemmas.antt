-- What is held of operands that are wanted whole or in parts.
use Rattle.std.proofs.Common.{◌≡◌, ℕ, ◌<◌, List, [], map, length, refl, sym, ◌∙◌, subst, zero-add, arith}
use Rattle.std.specs.FinMap.{empty}
use Rattle.std.specs.List.{All, range_with_len}
use Rattle.std.proofs.lemmas.List.Elements.{All-nil, All-map}
use Rattle.std.proofs.lemmas.List.FromFn.{fill_by_all, get_or-map-range_with_len, length-map-range_with_len}
use Rattle.std.proofs.lemmas.Option.{unwrap_or-slice_get}
use Rattle.std.proofs.lemmas.Simd.{map-map}
use Rattle.vtl_values.specs.declared.structure.Component.{Component}
use Rattle.point_sets.specs.DataSets.{DataSet}
use Rattle.held_index.specs.declared.want.Want.{Want}
use Rattle.held_index.specs.Holdings.{AllPlain, FitsStructure, IsPlain, contents, holding_of, operand}
use Rattle.held_index.specs.Wants.{all_whole, in_parts, whole}

-- a want of parts fits a structure that has the components
pub in_parts-fits : (n : ℕ) (components : List ℕ) (structure : List Component) → All (λ c. c < length structure) components → FitsStructure (in_parts n components) structure
in_parts-fits n components structure within = record { part = within; order = λ k d none. absurd (omega (arith, none)); sums = λ k d none. absurd (omega (arith, none)) }

pub whole-fits : (n : ℕ) (structure : List Component) → FitsStructure (whole n) structure
whole-fits n structure = in_parts-fits n [] structure (All-nil (λ c. c < length structure))

-- what is wanted whole is held in the order of its keys
pub whole-plain : (n : ℕ) → IsPlain (whole n)
whole-plain n = record { one_part = refl; by_key = refl }

pub length-all_whole : (count : ℕ) → length (all_whole count) ≡ count
length-all_whole count = length-map-range_with_len whole 0 count

-- what is so of each operand whole is so of all
pub all_whole-each : (P : Want → Type 0) (count : ℕ) → ((n : ℕ) → n < count → P (whole n)) → All P (all_whole count)
all_whole-each P count each k d within =
    let there : k < count = omega (arith, within, length-all_whole count) in
    subst P (sym (get_or-map-range_with_len whole 0 count k k d there (zero-add k))) (each k there)

pub all_whole-plain : (xs : List DataSet) (count : ℕ) → AllPlain (map (holding_of xs) (all_whole count))
all_whole-plain xs count =
    All-map (λ h. IsPlain h.want) (holding_of xs) (all_whole count)
    (all_whole-each IsPlain count (λ n within. whole-plain n))

-- what is held of all operands is the operands
pub contents-all_whole : (xs : List DataSet) (count : ℕ) → length xs ≡ count → contents (map (holding_of xs) (all_whole count)) ≡ xs
contents-all_whole xs count long =
    map-map (λ h. h.content) (holding_of xs) (all_whole count)
    ∙ map-map (λ w. operand w.operand xs) whole (range_with_len 0 count)
    ∙ sym (fill_by_all (λ k. operand k xs) xs count empty long (λ k within. sym (unwrap_or-slice_get xs k empty)))

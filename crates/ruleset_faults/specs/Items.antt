-- Which items of a hierarchical ruleset are worked out from which (docs/language.md, "A ruleset by itself").
use Rattle.std.specs.Prelude.{ℕ, ◌+◌, Bool, true, false, ◌&&◌, List, [], ◌∷◌, map, filter_map, flat_map, nat_eq, position, Option, Some, None, if◌then◌else◌}
use Rattle.std.specs.Option.{option_map_or}
use Rattle.vtl_values.specs.Texts.{same_text}
use Rattle.vtl_syntax.specs.declared.ruleset.HierarchyRule.{HierarchyRule}
use Rattle.vtl_syntax.specs.declared.ruleset.SignedName.{SignedName}
use Rattle.vtl_syntax.specs.declared.words.Relation.{Relation}
use Rattle.vtl_syntax.specs.declared.words.Relation.TheVariants.{Equal, Less, Greater, AtMost, AtLeast}
use Rattle.shortest_cycles.specs.Paths.{Graph}
use Rattle.shortest_cycles.specs.Cycles.{first_cycle}

abbrev pub is_equal : Relation → Bool
is_equal Equal = true
is_equal Less = false
is_equal Greater = false
is_equal AtMost = false
is_equal AtLeast = false

-- an `=` rule works its left item out
abbrev pub works_out : List ℕ → HierarchyRule → Bool
works_out item r = is_equal r.relation && same_text item r.left

-- the number of the first rule that works the item out
abbrev pub first_for : List HierarchyRule → List ℕ → Option ℕ
first_for rules item = position (works_out item) rules

-- the rule with this number is the first that works its left item out
abbrev pub is_first : List HierarchyRule → ℕ → HierarchyRule → Bool
is_first rules n r = option_map_or (nat_eq n) (first_for rules r.left) false

abbrev pub right_items : HierarchyRule → List (List ℕ)
right_items r = r.first ∷ map (λ (s : SignedName). s.name) r.others

-- the items from which this one is worked out
abbrev pub items_for : List HierarchyRule → List ℕ → List (List ℕ)
items_for rules item = flat_map (λ r. if works_out item r then right_items r else []) rules

-- The first rule that works an item out leads to the first rules that work out what it is worked out from; other rules lead
-- nowhere.
abbrev pub rules_for : List HierarchyRule → ℕ → HierarchyRule → List ℕ
rules_for rules n r = if is_first rules n r then filter_map (first_for rules) (items_for rules r.left) else []

abbrev pub graph_from : List HierarchyRule → ℕ → List HierarchyRule → Graph
graph_from all n [] = []
graph_from all n (r ∷ rs) = rules_for all n r ∷ graph_from all (n + 1) rs

abbrev pub graph_of : List HierarchyRule → Graph
graph_of rules = graph_from rules 0 rules

abbrev pub first_of : Option (List ℕ) → Option ℕ
first_of None = None
first_of (Some []) = None
first_of (Some (n ∷ ns)) = Some n

-- the first rule whose left item depends on itself
abbrev pub depending : List HierarchyRule → Option ℕ
depending rules = first_of (first_cycle (graph_of rules))

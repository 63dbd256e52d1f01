-- What is wrong with rulesets by themselves, wherever they are used (docs/language.md, "A ruleset by itself").
use Rattle.std.specs.Prelude.{ℕ, ◌+◌, ◌++◌, Bool, true, false, not, ◌&&◌, ◌||◌, List, [], ◌∷◌, map, nat_eq, Option, Ok}
use Rattle.std.specs.Option.{option_map_or}
use Rattle.vtl_syntax.specs.declared.ruleset.DatapointRule.{DatapointRule}
use Rattle.vtl_syntax.specs.declared.ruleset.DatapointRules.{DatapointRules}
use Rattle.vtl_syntax.specs.declared.ruleset.HierarchyRule.{HierarchyRule}
use Rattle.vtl_syntax.specs.declared.ruleset.HierarchyRules.{HierarchyRules}
use Rattle.vtl_syntax.specs.declared.ruleset.Ruleset.{Ruleset}
use Rattle.vtl_syntax.specs.declared.ruleset.Ruleset.TheVariants.{Datapoint, Hierarchy}
use Rattle.vtl_syntax.specs.declared.ruleset.Variable.{Variable}
use Rattle.scalar_trees.specs.declared.typing.stop.Fault.TheVariants.{NameTwice, BadRuleset}
use Rattle.scalar_trees.specs.typing.Steps.{◌>>=◌, demanded}
use Rattle.data_set_trees.specs.aggregates.Groups.{is_one_of}
use Rattle.data_set_trees.specs.clauses.Clauses.{demands}
use Rattle.data_set_trees.specs.rules.Hierarchies.{variables_of}
use Rattle.data_set_trees.specs.rules.Rules.{name_in_rules, rule_name}
use Rattle.ruleset_faults.specs.Expressions.{Seen, seen, seen_if}
use Rattle.ruleset_faults.specs.Items.{is_equal, is_first, depending}

-- ---- variables

-- what rules call their variables
abbrev pub names_of : List Variable → List (List ℕ)
names_of variables = map name_in_rules variables

-- no two of these are one
abbrev pub all_differ : List (List ℕ) → Bool
all_differ [] = true
all_differ (n ∷ ns) = not (is_one_of ns n) && all_differ ns

-- ---- rules, by their number from 0; one without a name is called by its place from 1

-- a rule of this name, after rules of those names
abbrev pub point_rule_seen : List (List ℕ) → List (List ℕ) → List ℕ → DatapointRule → Seen
point_rule_seen names earlier name r =
    seen_if names r.condition >>= (λ met. seen names r.expr >>= (λ met. demanded (not (is_one_of earlier name)) NameTwice r.place))

abbrev pub point_rules_seen : List (List ℕ) → List (List ℕ) → ℕ → List DatapointRule → Seen
point_rules_seen names earlier n [] = Ok tt
point_rules_seen names earlier n (r ∷ rs) =
    point_rule_seen names earlier (rule_name (n + 1) r.name) r >>= (λ met. point_rules_seen names (earlier ++ rule_name (n + 1) r.name ∷ []) (n + 1) rs)

-- no `=` rule before it works its left item out too, and it isn't the first whose left item depends on itself
abbrev pub may_work_out : List HierarchyRule → Option ℕ → ℕ → HierarchyRule → Bool
may_work_out rules cyclic n r = (not (is_equal r.relation) || is_first rules n r) && not (option_map_or (nat_eq n) cyclic false)

abbrev pub item_rule_seen : List (List ℕ) → List (List ℕ) → List ℕ → Bool → HierarchyRule → Seen
item_rule_seen names earlier name may r =
    seen_if names r.condition >>= (λ met. demands r.place ((not (is_one_of earlier name), NameTwice) ∷ (may, BadRuleset) ∷ []))

abbrev pub item_rules_seen : List (List ℕ) → List HierarchyRule → Option ℕ → List (List ℕ) → ℕ → List HierarchyRule → Seen
item_rules_seen names rules cyclic earlier n [] = Ok tt
item_rules_seen names rules cyclic earlier n (r ∷ rs) =
    item_rule_seen names earlier (rule_name (n + 1) r.name) (may_work_out rules cyclic n r) r
    >>= (λ met. item_rules_seen names rules cyclic (earlier ++ rule_name (n + 1) r.name ∷ []) (n + 1) rs)

-- ---- rulesets: their rules in order, and then their variables, at `define`

abbrev pub datapoint_seen : DatapointRules → Seen
datapoint_seen r = point_rules_seen (names_of r.variables) [] 0 r.rules >>= (λ met. demanded (all_differ (names_of r.variables)) NameTwice r.place)

abbrev pub hierarchy_seen : HierarchyRules → Seen
hierarchy_seen r =
    item_rules_seen (names_of (variables_of r)) r.rules (depending r.rules) [] 0 r.rules >>= (λ met. demanded (all_differ (names_of (variables_of r))) NameTwice r.place)

abbrev pub ruleset_seen : Ruleset → Seen
ruleset_seen (Datapoint r) = datapoint_seen r
ruleset_seen (Hierarchy r) = hierarchy_seen r

-- the first fault of the first in the script that has one
abbrev pub rulesets_seen : List Ruleset → Seen
rulesets_seen [] = Ok tt
rulesets_seen (r ∷ rs) = ruleset_seen r >>= (λ met. rulesets_seen rs)

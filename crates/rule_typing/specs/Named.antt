-- Variables of rulesets on a frame.
use Rattle.std.specs.Prelude.{ℕ, Bool, false, not, ◌&&◌, List, map, filter_map, nat_eq, Option, option_map, is_some}
use Rattle.std.specs.List.{list_all}
use Rattle.std.specs.Option.{option_map_or}
use Rattle.vtl_values.specs.declared.kind.Role.TheVariants.{Identifier}
use Rattle.vtl_syntax.specs.declared.ruleset.Variable.{Variable}
use Rattle.scalar_trees.specs.declared.typing.scope.Scope.{Scope}
use Rattle.scalar_trees.specs.declared.typing.scope.ScopeName.{ScopeName}
use Rattle.scalar_trees.specs.typing.Scopes.{column_of}
use Rattle.data_set_trees.specs.declared.clauses.frame.Frame.{Frame}
use Rattle.data_set_trees.specs.clauses.Clauses.{bare_number_of, passes_at}
use Rattle.data_set_trees.specs.clauses.Frames.{bare, has_role}
use Rattle.data_set_trees.specs.rules.Rules.{name_in_rules}

abbrev pub variable_on : Frame → Variable → Option ScopeName
variable_on frame v = option_map (bare (name_in_rules v)) (bare_number_of frame v.name)

abbrev pub known_on : Frame → List Variable → Bool
known_on frame variables = list_all (λ (v : Variable). is_some (bare_number_of frame v.name)) variables

abbrev pub scope_on : Frame → List Variable → Scope
scope_on frame variables = record { names = filter_map (variable_on frame) variables; columns = map column_of frame.components }

-- conditions go by identifiers other than the rule component
abbrev pub conditions_on : Frame → ℕ → Variable → Bool
conditions_on frame item v = option_map_or (λ number. passes_at (has_role Identifier) frame number && not (nat_eq number item)) (bare_number_of frame v.name) false

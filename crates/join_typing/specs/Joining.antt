-- What a join comes to, step by step.
use Rattle.std.specs.Prelude.{◌≡◌, ℕ, Bool, true, false, ◌&&◌, List, [], ◌∷◌, map, Option, Some, None, Result, Ok}
use Rattle.std.specs.List.{list_any, list_all}
use Rattle.vtl_values.specs.Texts.{same_text}
use Rattle.vtl_values.specs.declared.kind.Role.TheVariants.{Identifier}
use Rattle.vtl_values.specs.declared.place.Place.{Place}
use Rattle.vtl_values.specs.declared.structure.Component.{Component}
use Rattle.vtl_syntax.specs.declared.expr.Clause.{Clause}
use Rattle.vtl_syntax.specs.declared.words.JoinFunction.{JoinFunction}
use Rattle.vtl_syntax.specs.declared.words.JoinFunction.TheVariants as function
use Rattle.scalar_trees.specs.declared.typing.scope.ScopeName.{ScopeName}
use Rattle.scalar_trees.specs.declared.typing.stop.Fault.TheVariants.{WrongStructure, NameTwice, TooManyComponents}
use Rattle.scalar_trees.specs.declared.typing.stop.Refusal.{Refusal}
use Rattle.scalar_trees.specs.typing.Steps.{◌>>=◌, demanded, or_refused}
use Rattle.data_set_trees.specs.declared.clauses.frame.Frame.{Frame}
use Rattle.data_set_trees.specs.clauses.Frames.{has_role}
use Rattle.data_set_trees.specs.clauses.Clauses as clauses
use Rattle.data_set_trees.specs.declared.operand.DataSet.{DataSet}
use Rattle.data_set_trees.specs.declared.operand.Operand.{Operand}
use Rattle.data_set_trees.specs.declared.operand.Operand.TheVariants as operand
use Rattle.data_set_trees.specs.Components.{virals, include, has_name, names_differ}
use Rattle.data_set_trees.specs.Joins as meant
use Rattle.expression_rules.specs.JoinClauses as rules
use Rattle.data_set_trees.specs.Sets.{all_data_sets}
use Rattle.data_set_trees.specs.Trees.{SetAnswer}
use Rattle.join_typing.specs.declared.joining.Joining.{Joining}
use Rattle.join_typing.specs.declared.joining.Placed.{Placed}
use Rattle.join_typing.specs.declared.operands.Aliased.{Aliased}

-- ---- what stands for the definitions' own

abbrev pub aliased : Aliased → meant.Aliased
aliased o = record { alias = o.alias; structure = o.structure }

abbrev pub placed : Placed → rules.Placed
placed c = record { clause = c.clause; place = c.place }

-- ---- operands

abbrev pub is_set : Operand → Bool
is_set (operand.DataSet d) = true
is_set (operand.Scalar t) = false

abbrev pub is_identifier_named : List ℕ → Component → Bool
is_identifier_named name c = has_role Identifier c && has_name name c

-- no two aliases are the same
abbrev pub aliases_differ : List Aliased → Bool
aliases_differ operands = clauses.all_differ (λ (a : Aliased) (b : Aliased). same_text a.alias b.alias) operands

-- the identifiers of operands are those that the join wants
abbrev pub lists_fit : JoinFunction → List (List Component) → Bool
lists_fit function.Inner all = list_any (λ s. list_all (include s) all) all
lists_fit function.Left all = list_all (λ s. list_all (include s) all) all
lists_fit function.Full all = list_all (λ s. list_all (include s) all) all
lists_fit function.Cross all = true

-- ---- titles, by the structures of the operands

abbrev pub common_titles : JoinFunction → List meant.Aliased → List (List Component) → List meant.Titles
common_titles f operands structures = map (λ (c : Component). meant.shared (meant.owners operands c)) (meant.join_identifiers f structures)

abbrev pub viral_titles : List (List Component) → List meant.Titles
viral_titles structures = map (λ (c : Component). None ∷ []) (meant.gathered [] (map virals structures))

-- the names of the component with this number, where it has aliases
abbrev pub names_of : ℕ → List ℕ → Option meant.Titles → List ScopeName
names_of number name None = []
names_of number name (Some titles) = meant.names_at number name titles

-- ---- before the clauses

-- where the operands may be joined, or not
abbrev pub demanded_of : Place → Bool → List meant.Aliased → Frame → Result (Unit {0}) Refusal
demanded_of place may operands frame =
    clauses.demands place ((may, WrongStructure) ∷ (meant.aliases_differ operands && clauses.names_differ frame, NameTwice) ∷ (clauses.has_room frame, TooManyComponents) ∷ [])

abbrev pub framed : JoinFunction → Place → List meant.Aliased → Result Frame Refusal
framed f place operands = demanded_of place (meant.may_join f (meant.structures_of operands)) operands (meant.join_frame f operands) >>= (λ met. Ok (meant.join_frame f operands))

abbrev pub begun : JoinFunction → Place → List (Option (List ℕ)) → List Operand → Result Joining Refusal
begun f place aliases operands =
    or_refused (all_data_sets operands) WrongStructure place
    >>= (λ ds. or_refused (meant.all_aliased aliases ds) WrongStructure place
    >>= (λ aliased. framed f place aliased
    >>= (λ frame. Ok (record { function = f; place = place; sets = ds; frame = frame }))))

-- ---- after the clauses

-- at the end no name stands twice
abbrev pub DifferAtEnd : List rules.Placed → Frame → Type 0
DifferAtEnd cs frame = names_differ (rules.after_all cs frame).components ≡ true

abbrev pub joined_of : Joining → List rules.Placed → DataSet
joined_of join cs = rules.joined join.function join.place join.sets cs join.frame

abbrev pub finished : Joining → List rules.Placed → SetAnswer
finished join cs = demanded (names_differ (rules.after_all cs join.frame).components) NameTwice join.place >>= (λ differ. Ok (operand.DataSet (joined_of join cs)))

-- ---- the join is these steps

abbrev pub JoinsBySteps : Type 0
JoinsBySteps = (f : JoinFunction) (place : Place) (aliases : List (Option (List ℕ))) (cs : List Clause) (operands : List Operand)
    → rules.join_typed f place aliases cs operands ≡ (begun f place aliases operands >>= (λ join. rules.inside cs join.frame >>= finished join))

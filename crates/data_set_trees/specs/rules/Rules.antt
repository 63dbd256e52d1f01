-- What the names in a rule stand for, and which of several faults is told at a use of its ruleset (docs/language.md,
-- "Rulesets", "Faults of rulesets").
use Rattle.std.specs.Prelude.{ℕ, Bool, List, [], ◌∷◌, map, filter_map, find, decimal, codes, nat_eq, Option, Some, None, option_map, is_some, unwrap_or, Result, Ok, Err, if◌then◌else◌}
use Rattle.std.specs.List.{list_all, list_any}
use Rattle.vtl_values.specs.declared.kind.Kind.TheVariants.{Integer, Text, Truth}
use Rattle.vtl_values.specs.declared.kind.Role.TheVariants.{Measure}
use Rattle.vtl_values.specs.declared.place.Place.{Place}
use Rattle.vtl_values.specs.declared.structure.Component.{Component}
use Rattle.vtl_syntax.specs.declared.expr.Expr.{Expr}
use Rattle.vtl_syntax.specs.declared.ruleset.FaultPart.{FaultPart}
use Rattle.vtl_syntax.specs.declared.ruleset.Variable.{Variable}
use Rattle.scalar_trees.specs.declared.tree.CheckedExpr.{CheckedExpr}
use Rattle.scalar_trees.specs.declared.typing.scope.Basis.TheVariants.{Point}
use Rattle.scalar_trees.specs.declared.typing.scope.Scope.{Scope}
use Rattle.scalar_trees.specs.declared.typing.scope.ScopeName.{ScopeName}
use Rattle.scalar_trees.specs.declared.typing.stop.Fault.{Fault}
use Rattle.scalar_trees.specs.declared.typing.stop.Fault.TheVariants as fault
use Rattle.scalar_trees.specs.declared.typing.stop.Refusal.{Refusal}
use Rattle.scalar_trees.specs.typing.Scalars.{typed, wanted}
use Rattle.scalar_trees.specs.typing.Scopes.{column_of}
use Rattle.scalar_trees.specs.typing.Steps.{◌>>=◌, refused}
use Rattle.data_set_trees.specs.clauses.After.{made}
use Rattle.data_set_trees.specs.clauses.Clauses.{bare_number_of}
use Rattle.data_set_trees.specs.clauses.Frames.{bare, frame_of}
use Rattle.data_set_trees.specs.declared.rules.rules.RuleError.{RuleError}

-- ---- names

-- a variable goes by its alias alone, if it has one
abbrev pub name_in_rules : Variable → List ℕ
name_in_rules v = unwrap_or v.alias v.name

abbrev pub variable_named : List Component → Variable → Option ScopeName
variable_named components v = option_map (bare (name_in_rules v)) (bare_number_of (frame_of components) v.name)

-- in a rule only the ruleset's variables may be named
abbrev pub scope_of_rules : List Variable → List Component → Scope
scope_of_rules variables components = record { names = filter_map (variable_named components) variables; columns = map column_of components }

-- each variable is a component
abbrev pub are_known : List Variable → List Component → Bool
are_known variables components = list_all (λ (v : Variable). is_some (bare_number_of (frame_of components) v.name)) variables

-- the rule at this place, from 1, is called by it where it has no name
abbrev pub rule_name : ℕ → Option (List ℕ) → List ℕ
rule_name place stated = unwrap_or stated (decimal place)

abbrev pub error_of : FaultPart → RuleError
error_of f = record { code = f.code; level = f.level }

-- ---- expressions

-- a condition, and the value of a rule, are booleans
abbrev pub boolean_typed : Scope → Place → Expr → Result CheckedExpr Refusal
boolean_typed scope place e = typed scope Point e >>= wanted place Truth

abbrev pub condition_typed : Scope → Place → Option Expr → Result (Option CheckedExpr) Refusal
condition_typed scope place None = Ok None
condition_typed scope place (Some e) = boolean_typed scope place e >>= (λ c. Ok (Some c))

-- ---- faults

-- their order
abbrev pub fault_number : Fault → ℕ
fault_number fault.UnknownComponent = 1
fault_number fault.WrongType = 2
fault_number fault.WrongStructure = 3
fault_number fault.WrongRole = 4
fault_number fault.NameTwice = 5
fault_number fault.TooManyComponents = 6
fault_number fault.BadConstant = 7
fault_number fault.BadPattern = 8
fault_number fault.BadRuleset = 9

abbrev pub all_faults : List Fault
all_faults = fault.UnknownComponent ∷ fault.WrongType ∷ fault.WrongStructure ∷ fault.WrongRole ∷ fault.NameTwice ∷ fault.TooManyComponents ∷ fault.BadConstant ∷ fault.BadPattern ∷ fault.BadRuleset ∷ []

abbrev pub is_among : List Fault → Fault → Bool
is_among faults f = list_any (λ g. nat_eq (fault_number f) (fault_number g)) faults

-- the first in the order of faults that is among these
abbrev pub first_fault : List Fault → Option Fault
first_fault faults = find (is_among faults) all_faults

-- the fault of an expression, if it has one
abbrev pub fault_in : {A : Type 0} → Result A Refusal → List Fault
fault_in (Ok value) = []
fault_in (Err refusal) = refusal.fault ∷ []

-- what isn't met
abbrev pub unmet : List (Bool × Fault) → List Fault
unmet demanded = filter_map (λ d. if d.0 then None else Some d.1) demanded

abbrev pub value_or : {A : Type 0} → Place → A → Option Fault → Result A Refusal
value_or place value None = Ok value
value_or place value (Some f) = refused f place

-- without a fault the value, and else the first fault at the word of the call
abbrev pub unless_faulty : {A : Type 0} → Place → List Fault → A → Result A Refusal
unless_faulty place faults value = value_or place value (first_fault faults)

-- what was answered, if it was
abbrev pub given : {A : Type 0} → Result A Refusal → Option A
given (Ok value) = Some value
given (Err refusal) = None

-- ---- components of rows

abbrev pub RULE_ID : List ℕ
RULE_ID = codes "ruleid"

-- what rows say of a broken rule
abbrev pub error_components : List Component
error_components = made Measure Text (codes "errorcode") ∷ made Measure Integer (codes "errorlevel") ∷ []

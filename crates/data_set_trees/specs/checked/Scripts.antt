-- Checked scripts (docs/language.md, "Checked scripts").
use Rattle.std.specs.Prelude.{◌≡◌, ◌==◌, ◌≤◌, ◌<◌, ℕ, Bool, false, not, filter, count_by, List, [], ◌∷◌, ◌++◌, length, slice_get, Option, Some, None, Contains, AllPairs, ◌≢◌, ⊤, refl}
use Rattle.std.specs.Option.{option_map}
use Rattle.std.specs.List.{All, list_all}
use Rattle.std.specs.Coded.{Coded, code_by, coded×, coded_list, coded_ℕ}
use Rattle.vtl_values.specs.declared.structure.Component.{Component}
use Rattle.vtl_values.specs.Structures.{NamedStructures}
use Rattle.data_set_trees.specs.declared.checked.script.CheckedStatement.{CheckedStatement}
use Rattle.vtl_values.specs.contracts.structures.Structures as structures
use Rattle.data_set_trees.specs.contracts.checked.script.CheckedStatement as statement
use Rattle.data_set_trees.specs.declared.tree.Source.{Source}
use Rattle.data_set_trees.specs.declared.tree.Source.TheVariants.{Input, Result}
use Rattle.data_set_trees.specs.checked.Expressions.{Expression, Expressions, Named, Applied, none, more, expression_of}
use Rattle.data_set_trees.specs.checked.Operators.{Operator, IsTyped, TakesOperands}
use Rattle.data_set_trees.specs.checked.Typing.{Fits}

-- the inputs' structures, the statements as the script has them, and an order of their numbers
pub record Script : Type 0 where
  pub inputs : NamedStructures
  pub statements : List CheckedStatement
  pub order : List ℕ

-- the structure of what a name stands for
abbrev pub structure_of_source : Script → Source → Option (List Component)
structure_of_source s (Input n) = option_map (λ named. named.1) (slice_get s.inputs n)
structure_of_source s (Result i) = option_map (λ statement. statement.structure) (slice_get s.statements i)

abbrev mutual
  -- what an expression names, from the first name to the last
  pub names_in : {N : Type 0} → Expression N → List N
  names_in (Named n) = n ∷ []
  names_in (Applied o place es) = names_in_all es

  pub names_in_all : {N : Type 0} → Expressions N → List N
  names_in_all none = []
  names_in_all (more e es) = names_in e ++ names_in_all es

-- what statement i names
abbrev pub names_of : Script → ℕ → List Source
names_of s i = from (slice_get s.statements i)
  where
    from : Option CheckedStatement → List Source
    from None = []
    from (Some statement) = names_in (expression_of statement.tree)

-- two names stand for the same
abbrev pub is_same : Source → Source → Bool
is_same (Input n) (Input m) = n == m
is_same (Input n) (Result j) = false
is_same (Result i) (Input m) = false
is_same (Result i) (Result j) = i == j

-- each item once, where it stands first
abbrev pub once_each : List Source → List Source
once_each [] = []
once_each (n ∷ ns) = n ∷ filter (λ m. not (is_same n m)) (once_each ns)

-- what statement i names, each once
abbrev pub sources_of : Script → ℕ → List Source
sources_of s i = once_each (names_of s i)

-- whether an expression names the result of statement i
abbrev pub names_result : ℕ → CheckedStatement → Bool
names_result i statement = not (list_all (λ n. not (is_same (Result i) n)) (names_in (expression_of statement.tree)))

-- how many statements name the result of statement i
abbrev pub uses_of : Script → ℕ → ℕ
uses_of s i = count_by (names_result i) s.statements

-- a result that is named is that of one of these statements
abbrev pub IsOneOf : List ℕ → Source → Type 0
IsOneOf is (Input n) = ⊤
IsOneOf is (Result i) = Contains is i

-- after these statements come those, each after the statements whose results it names
abbrev pub FollowOperands : Script → List ℕ → List ℕ → Type 0
FollowOperands s done [] = ⊤
FollowOperands s done (i ∷ is) = All (IsOneOf done) (names_of s i) × FollowOperands s (done ++ i ∷ []) is

-- each statement stands once in the order, after those whose results it names
pub record IsOrder (s : Script) : Type 0 where
  pub all : length s.order ≡ length s.statements
  pub below : All (λ i. i < length s.statements) s.order
  pub once : AllPairs (λ i j. i ≢ j) s.order
  pub follows : FollowOperands s [] s.order

-- the operators of the statement's tree fit, and it has the statement's structure
abbrev pub FitsStatement : (Operator → Type 0) → Script → CheckedStatement → Type 0
FitsStatement fit s statement = Fits fit (structure_of_source s) (expression_of statement.tree) statement.structure

pub record IsScriptOf (fit : Operator → Type 0) (s : Script) : Type 0 where
  pub few : length s.statements ≤ 256
  pub typed : All (FitsStatement fit s) s.statements
  pub ordered : IsOrder s

-- the structures of a script's statements are worked out, and its operators are well typed
abbrev pub IsTypedScript : Script → Type 0
IsTypedScript = IsScriptOf TakesOperands

-- all operators of a script are well typed, and on structures
abbrev pub IsChecked : Script → Type 0
IsChecked = IsScriptOf IsTyped

abbrev pub script_coded : Coded Script
script_coded = code_by (NamedStructures × (List CheckedStatement × List ℕ)) (coded× (structures.the_row).coded (coded× (coded_list (statement.the_row).coded) (coded_list coded_ℕ))) (λ s. (s.inputs, (s.statements, s.order))) (λ p. record { inputs = p.0; statements = p.1.0; order = p.1.1 }) (λ _. refl)

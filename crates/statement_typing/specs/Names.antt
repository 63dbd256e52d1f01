-- What names stand for, where some of a script's statements have their results.
use Rattle.std.specs.Prelude.{◌≡◌, ℕ, List, Option, Some, None, if◌then◌else◌, refl}
use Rattle.std.specs.Coded.{Coded, code_by, coded×, coded_list, coded_ℕ}
use Rattle.std.specs.Map.{lookup}
use Rattle.vtl_values.specs.Texts.{same_text}
use Rattle.vtl_values.specs.declared.structure.Component.{Component}
use Rattle.vtl_values.specs.Structures.{NamedStructures, structure_of, number_of}
use Rattle.vtl_values.specs.contracts.structures.Structures as structures
use Rattle.vtl_syntax.specs.declared.ruleset.Ruleset.{Ruleset}
use Rattle.vtl_syntax.specs.contracts.ruleset.Ruleset as of_rules
use Rattle.data_set_trees.specs.declared.operand.DataSet.{DataSet}
use Rattle.data_set_trees.specs.declared.tree.DataSetTree.TheVariants as tree
use Rattle.data_set_trees.specs.declared.tree.Source.{Source}
use Rattle.data_set_trees.specs.declared.tree.Source.TheVariants as source
use Rattle.expression_rules.specs.Expressions.{Naming}
use Rattle.statement_typing.specs.contracts.names.StatementResult as statement_result
use Rattle.statement_typing.specs.declared.names.StatementResult.{StatementResult}

-- the inputs by name, the rulesets, and the results so far by their names
pub record Known : Type 0 where
  pub inputs : NamedStructures
  pub rulesets : List Ruleset
  pub results : List (List ℕ × StatementResult)

abbrev pub known_coded : Coded Known
known_coded =
    code_by (NamedStructures × (List Ruleset × List (List ℕ × StatementResult))) (coded× (structures.the_row).coded (coded× (coded_list (of_rules.the_row).coded) (coded_list (coded× (coded_list coded_ℕ) (statement_result.the_row).coded)))) (λ k. (k.inputs, (k.rulesets, k.results))) (λ p. record { inputs = p.0; rulesets = p.1.0; results = p.1.1 }) (λ _. refl)

-- a data set that stands under a name
abbrev pub from : Source → List Component → DataSet
from s structure = record { tree = tree.Name s; structure = structure }

abbrev pub from_result : StatementResult → DataSet
from_result r = from (source.Result r.number) r.structure

-- an input, by its number among the inputs
abbrev pub input_from : Option ℕ → Option (List Component) → Option DataSet
input_from (Some number) (Some structure) = Some (from (source.Input number) structure)
input_from _ _ = None

abbrev pub input_of : NamedStructures → List ℕ → Option DataSet
input_of inputs name = input_from (number_of inputs name) (structure_of inputs name)

-- the result of this name, and else the other thing
abbrev pub result_or : Option StatementResult → Option DataSet → Option DataSet
result_or (Some r) other = Some (from_result r)
result_or None other = other

abbrev pub result_of : List (List ℕ × StatementResult) → List ℕ → Option StatementResult
result_of results name = lookup (same_text name) results

-- a name stands for the result of that name, and else for the input of that name
abbrev pub naming_of : Known → Naming
naming_of known = record { data_set = λ name. result_or (result_of known.results name) (input_of known.inputs name); rulesets = known.rulesets }

-- afterwards a name stands for this data set, and each other name for what it stood for
pub record StandsFor (name : List ℕ) (set : DataSet) (before after : Known) : Type 0 where
  pub naming : (other : List ℕ) → (naming_of after).data_set other ≡ (if same_text name other then Some set else (naming_of before).data_set other)
  pub inputs : after.inputs ≡ before.inputs
  pub rulesets : after.rulesets ≡ before.rulesets

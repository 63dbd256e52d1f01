-- Operators whose bodies reach their own calls.
use Rattle.std.specs.Prelude.{ℕ, List, [], ◌∷◌, Option, Some, None, map, fold, position, slice_get}
use Rattle.std.specs.List.{flat_map}
use Rattle.std.specs.Option.{option_map, option_and_then, option_to_list}
use Rattle.vtl_syntax.specs.declared.operator.DefinedOperator.{DefinedOperator}
use Rattle.operator_faults.specs.declared.outline.CallSite.{CallSite}
use Rattle.operator_faults.specs.declared.outline.What.{What}
use Rattle.operator_faults.specs.declared.outline.Outline.{Outline}
use Rattle.operator_faults.specs.declared.fault.PlacedFault.{PlacedFault}
use Rattle.operator_faults.specs.declared.fault.OperatorFault.TheVariants as fault
use Rattle.operator_faults.specs.Names.{same_word}
use Rattle.operator_faults.specs.Calls.{sites, own_call}
use Rattle.shortest_cycles.specs.Paths.{Graph, put_once}
use Rattle.shortest_cycles.specs.Cycles.{first_cycle}

-- the number of the first operator of that name
abbrev pub number_of : List DefinedOperator → List ℕ → Option ℕ
number_of operators w = position (λ (o : DefinedOperator). same_word o.name w) operators

abbrev put_found : List ℕ → Option ℕ → List ℕ
put_found ns None = ns
put_found ns (Some n) = put_once ns n

abbrev pub put_site : List DefinedOperator → List ℕ → CallSite → List ℕ
put_site operators ns c = put_found ns (number_of operators c.name)

abbrev pub put_sites : List DefinedOperator → List ℕ → List CallSite → List ℕ
put_sites operators ns cs = fold (put_site operators) ns cs

abbrev pub put_call : List DefinedOperator → List ℕ → What → List ℕ
put_call operators ns w = put_sites operators ns (option_to_list (own_call w))

-- the operators that each body calls, in the order in which they are first mentioned
abbrev pub graph_of : List DefinedOperator → List Outline → Graph
graph_of operators bodies = map (λ o. put_sites operators [] (sites o)) bodies

abbrev pub name_at : List DefinedOperator → ℕ → List (List ℕ)
name_at operators n = option_to_list (option_map (λ (o : DefinedOperator). o.name) (slice_get operators n))

abbrev pub names_of : List DefinedOperator → List ℕ → List (List ℕ)
names_of operators ns = flat_map (name_at operators) ns

abbrev pub told_at : List DefinedOperator → ℕ → List (List ℕ) → Option PlacedFault
told_at operators i names = option_map (λ (o : DefinedOperator). record { fault = fault.Recursion names; place = o.place }) (slice_get operators i)

abbrev told : List DefinedOperator → List ℕ → Option PlacedFault
told operators [] = None
told operators (i ∷ ks) = told_at operators i (names_of operators (i ∷ ks))

-- at the first operator that reaches its own call, with the names of the cycle
abbrev pub recursion : List DefinedOperator → List Outline → Option PlacedFault
recursion operators bodies = option_and_then (told operators) (first_cycle (graph_of operators bodies))

-- Names that are given twice.
use Rattle.std.specs.Prelude.{ℕ, List, [], ◌∷◌, ◌++◌, Bool, Option, Some, None, nat_eq, if◌then◌else◌}
use Rattle.std.specs.List.{list_any}
use Rattle.std.specs.Option.{option_map}
use Rattle.std.specs.Cmp.Lexicographic.{pointwise}
use Rattle.vtl_syntax.specs.declared.operator.DefinedOperator.{DefinedOperator}
use Rattle.vtl_syntax.specs.declared.operator.Param.{Param}
use Rattle.operator_faults.specs.declared.fault.PlacedFault.{PlacedFault}
use Rattle.operator_faults.specs.declared.fault.OperatorFault.TheVariants as fault
use Rattle.shortest_cycles.specs.Firsts.{first_some}

-- whether the two words are one
abbrev pub same_word : List ℕ → List ℕ → Bool
same_word a b = pointwise nat_eq a b

abbrev pub is_named : {A : Type 0} → (A → List ℕ) → List A → List ℕ → Bool
is_named name_of xs w = list_any (λ x. same_word (name_of x) w) xs

-- the first with a name that another has before it, or one of these
abbrev pub again : {A : Type 0} → (A → List ℕ) → List A → List A → Option A
again name_of before [] = None
again name_of before (x ∷ xs) = if is_named name_of before (name_of x) then Some x else again name_of (before ++ x ∷ []) xs

abbrev pub defined_twice : List DefinedOperator → Option PlacedFault
defined_twice operators = option_map (λ o. record { fault = fault.DefinedTwice o.name; place = o.place }) (again (λ (o : DefinedOperator). o.name) [] operators)

abbrev pub twice_in : DefinedOperator → Option PlacedFault
twice_in o = option_map (λ p. record { fault = fault.ParameterTwice p.name; place = p.place }) (again (λ (p : Param). p.name) [] o.params)

abbrev pub parameter_twice : List DefinedOperator → Option PlacedFault
parameter_twice operators = first_some twice_in operators

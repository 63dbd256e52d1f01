-- Calls of defined operators that aren't right.
use Rattle.std.specs.Prelude.{ℕ, ◌+◌, List, [], ◌∷◌, ◌++◌, Bool, true, false, ◌&&◌, ◌||◌, not, ◌==◌, nat_lt, Option, Some, None, length, find, slice_get, unwrap_or, if◌then◌else◌}
use Rattle.std.specs.List.{list_any, flat_map}
use Rattle.std.specs.Option.{option_map, option_to_list}
use Rattle.vtl_values.specs.declared.place.Place.{Place}
use Rattle.vtl_syntax.specs.declared.words.Sort.{Sort}
use Rattle.vtl_syntax.specs.declared.words.Sort.TheVariants as sort
use Rattle.vtl_syntax.specs.declared.operator.DefinedOperator.{DefinedOperator}
use Rattle.vtl_syntax.specs.declared.operator.Param.{Param}
use Rattle.operator_faults.specs.declared.outline.CallSite.{CallSite}
use Rattle.operator_faults.specs.declared.outline.What.{What}
use Rattle.operator_faults.specs.declared.outline.What.TheVariants as what
use Rattle.operator_faults.specs.declared.outline.Outline.{Outline, fold-Outline}
use Rattle.operator_faults.specs.declared.outline.Outline.TheOpen.{Outline-F}
use Rattle.operator_faults.specs.declared.sketch.Sketch.{Sketch}
use Rattle.operator_faults.specs.declared.calls.CallFault.{CallFault}
use Rattle.operator_faults.specs.declared.calls.CallFault.TheVariants as call_fault
use Rattle.operator_faults.specs.declared.fault.PlacedFault.{PlacedFault}
use Rattle.operator_faults.specs.declared.fault.OperatorFault.{OperatorFault}
use Rattle.operator_faults.specs.declared.fault.OperatorFault.TheVariants as fault
use Rattle.operator_faults.specs.Names.{same_word}

-- ---- the calls in an outline, in the order of the text

abbrev pub own_call : What → Option CallSite
own_call (what.Name s) = None
own_call (what.Call c) = Some c
own_call what.Plain = None
own_call what.Level = None
own_call what.Inside = None
own_call what.InsideJoin = None

abbrev it : List CallSite → List CallSite
it cs = cs

abbrev pub sites_step : Outline-F (List CallSite) → List CallSite
sites_step r = option_to_list (own_call r.what) ++ flat_map it r.parts

abbrev pub sites : Outline → List CallSite
sites = fold-Outline (List CallSite) sites_step

abbrev pub all_sites : List Outline → List CallSite
all_sites os = flat_map sites os

-- ---- what can be wrong with a call

abbrev pub operator_of : List DefinedOperator → List ℕ → Option DefinedOperator
operator_of operators w = find (λ (o : DefinedOperator). same_word o.name w) operators

abbrev pub is_dataset : Sort → Bool
is_dataset sort.Dataset = true
is_dataset sort.Integer = false
is_dataset sort.Number = false
is_dataset sort.Text = false
is_dataset sort.Truth = false

abbrev pub has_dataset : List Param → Bool
has_dataset params = list_any (λ (p : Param). is_dataset p.sort) params

abbrev pub gives_dataset : Option Sort → Bool
gives_dataset None = false
gives_dataset (Some s) = is_dataset s

-- a parameter or what it returns is a data set
abbrev pub is_of_sets : DefinedOperator → Bool
is_of_sets o = gives_dataset o.returns || has_dataset o.params

abbrev pub has_name : List Bool → ℕ → Bool
has_name named i = unwrap_or (slice_get named i) false

-- an argument has a name in it and its parameter is a scalar, from that number of parameters on
abbrev pub names_scalar : List Bool → ℕ → List Param → Bool
names_scalar named i [] = false
names_scalar named i (p ∷ ps) = (has_name named i && not (is_dataset p.sort)) || names_scalar named (i + 1) ps

abbrev pub is_wrong_for : CallFault → CallSite → Option DefinedOperator → Bool
is_wrong_for call_fault.Unknown c None = true
is_wrong_for call_fault.Count c None = false
is_wrong_for call_fault.Sort c None = false
is_wrong_for call_fault.Unknown c (Some o) = false
is_wrong_for call_fault.Count c (Some o) = not (length c.named == length o.params)
is_wrong_for call_fault.Sort c (Some o) = is_of_sets o && names_scalar c.named 0 o.params

abbrev pub is_wrong : CallFault → List DefinedOperator → CallSite → Bool
is_wrong f operators c = is_wrong_for f c (operator_of operators c.name)

-- ---- the first in the script

abbrev pub is_before : Place → Place → Bool
is_before a b = nat_lt a.line b.line || (a.line == b.line && nat_lt a.column b.column)

abbrev pub earlier : Option CallSite → Option CallSite → Option CallSite
earlier None b = b
earlier (Some a) None = Some a
earlier (Some a) (Some b) = Some (if is_before b.place a.place then b else a)

abbrev pub first_call : CallFault → List DefinedOperator → Sketch → Option CallSite
first_call f operators s =
    let wrong : CallSite → Bool = is_wrong f operators in
    earlier (earlier (find wrong (all_sites s.statements)) (find wrong (all_sites s.rulesets))) (find wrong (all_sites s.bodies))

abbrev pub told : CallFault → List ℕ → OperatorFault
told call_fault.Unknown w = fault.UnknownOperator w
told call_fault.Count w = fault.ArgumentCount
told call_fault.Sort w = fault.ArgumentSort

abbrev pub wrong_in_script : CallFault → List DefinedOperator → Sketch → Option PlacedFault
wrong_in_script f operators s = option_map (λ (c : CallSite). record { fault = told f c.name; place = c.place }) (first_call f operators s)

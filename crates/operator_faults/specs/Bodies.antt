-- Names in bodies that are no parameters.
use Rattle.std.specs.Prelude.{ℕ, ◌+◌, List, [], ◌∷◌, ◌++◌, Bool, true, false, not, Option, Some, None, find, slice_get, if◌then◌else◌}
use Rattle.std.specs.List.{flat_map}
use Rattle.std.specs.Option.{option_map, option_and_then, option_to_list}
use Rattle.vtl_syntax.specs.declared.operator.DefinedOperator.{DefinedOperator}
use Rattle.vtl_syntax.specs.declared.operator.Param.{Param}
use Rattle.operator_faults.specs.declared.outline.Site.{Site}
use Rattle.operator_faults.specs.declared.outline.What.{What}
use Rattle.operator_faults.specs.declared.outline.What.TheVariants as what
use Rattle.operator_faults.specs.declared.outline.Outline.{Outline, fold-Outline, out-Outline}
use Rattle.operator_faults.specs.declared.outline.Outline.TheOpen.{Outline-F}
use Rattle.operator_faults.specs.declared.fault.PlacedFault.{PlacedFault}
use Rattle.operator_faults.specs.declared.fault.OperatorFault.TheVariants as fault
use Rattle.shortest_cycles.specs.Firsts.{or_else}
use Rattle.operator_faults.specs.Names.{is_named}

abbrev pub own_name : What → Option Site
own_name (what.Name s) = Some s
own_name (what.Call c) = None
own_name what.Plain = None
own_name what.Level = None
own_name what.Inside = None
own_name what.InsideJoin = None

-- names further in are those of components
abbrev pub is_inside : What → Bool
is_inside (what.Name s) = false
is_inside (what.Call c) = false
is_inside what.Plain = false
is_inside what.Level = false
is_inside what.Inside = true
is_inside what.InsideJoin = true

abbrev it : List Site → List Site
it ss = ss

abbrev pub data_names_step : Outline-F (List Site) → List Site
data_names_step r = option_to_list (own_name r.what) ++ (if is_inside r.what then [] else flat_map it r.parts)

-- the parts in which names stand as data sets
abbrev pub data_parts : Outline → List Outline
data_parts o = if is_inside (out-Outline o).what then [] else (out-Outline o).parts

-- the names that stand as data sets, in the order of the text
abbrev pub data_names : Outline → List Site
data_names = fold-Outline (List Site) data_names_step

abbrev pub is_free : List Param → Site → Bool
is_free params s = not (is_named (λ (p : Param). p.name) params s.name)

abbrev pub free_in : DefinedOperator → Outline → Option Site
free_in o body = find (is_free o.params) (data_names body)

abbrev pub free_at : DefinedOperator → List Outline → ℕ → Option Site
free_at o bodies i = option_and_then (free_in o) (slice_get bodies i)

abbrev told : Site → PlacedFault
told s = record { fault = fault.FreeName s.name; place = s.place }

-- the first in the bodies, of which these are the outlines, from that number of operators on
abbrev pub free_in_bodies : List Outline → ℕ → List DefinedOperator → Option PlacedFault
free_in_bodies bodies i [] = None
free_in_bodies bodies i (o ∷ os) = or_else (option_map told (free_at o bodies i)) (free_in_bodies bodies (i + 1) os)

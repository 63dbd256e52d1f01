-- Outlines in which calls of defined operators are replaced.
use Rattle.std.specs.Prelude.{ℕ, zero, suc, ◌+◌, List, [], ◌∷◌, Option, Some, None, map, length, unwrap_or, position, slice_get, if◌then◌else◌}
use Rattle.std.specs.Option.{option_map, option_and_then}
use Rattle.vtl_values.specs.declared.place.Place.{Place}
use Rattle.vtl_syntax.specs.declared.words.Sort.{Sort}
use Rattle.vtl_syntax.specs.declared.operator.DefinedOperator.{DefinedOperator}
use Rattle.vtl_syntax.specs.declared.operator.Param.{Param}
use Rattle.operator_faults.specs.declared.outline.What.{What}
use Rattle.operator_faults.specs.declared.outline.What.TheVariants as what
use Rattle.operator_faults.specs.declared.outline.Outline.{Outline, fold-Outline}
use Rattle.operator_faults.specs.declared.outline.Outline.TheOpen.{Outline-F}
use Rattle.operator_faults.specs.Names.{same_word}
use Rattle.operator_faults.specs.Calls.{operator_of, is_dataset}
use Rattle.operator_faults.specs.Outlines.{outline, has_name, outlined}

-- ---- an outline made anew, where names and calls become something else

-- what a name at its place becomes
abbrev pub Names : Type 0
Names = List ℕ → Place → Outline

-- what a call at its place becomes, whose arguments are made already
abbrev pub Calls : Type 0
Calls = List ℕ → List Outline → Place → Outline

abbrev pub same_name : Names
same_name w p = outline (what.Name (record { name = w; place = p })) []

abbrev pub same_call : Calls
same_call w parts p = outline (what.Call (record { name = w; place = p; named = map has_name parts })) parts

abbrev pub remade_by : Names → Calls → What → List Outline → Outline
remade_by name call (what.Name s) parts = name s.name s.place
remade_by name call (what.Call c) parts = call c.name parts c.place
remade_by name call what.Plain parts = outline what.Plain parts
remade_by name call what.Level parts = outline what.Level parts
remade_by name call what.Inside parts = outline what.Inside parts
remade_by name call what.InsideJoin parts = outline what.InsideJoin parts

abbrev pub remade_step : Names → Calls → Outline-F Outline → Outline
remade_step name call r = remade_by name call r.what r.parts

abbrev pub remade : Names → Calls → Outline → Outline
remade name call = fold-Outline Outline (remade_step name call)

-- ---- sorts

-- what has to be of the sort; nothing is said of a data set
abbrev pub typed : Sort → Outline → Outline
typed s o = if is_dataset s then o else outline what.Plain (o ∷ [])

abbrev pub returned : Option Sort → Outline → Outline
returned None o = o
returned (Some s) o = typed s o

abbrev pub sorted_argument : Option Param → Outline → Outline
sorted_argument None o = o
sorted_argument (Some p) o = typed p.sort o

-- the arguments, each with the sort of its parameter, from that number of parameters on
abbrev pub sorted_from : List Param → ℕ → List Outline → List Outline
sorted_from params i [] = []
sorted_from params i (o ∷ os) = sorted_argument (slice_get params i) o ∷ sorted_from params (i + 1) os

-- ---- calls

abbrev pub argument_of : List Param → List Outline → List ℕ → Option Outline
argument_of params parts w = option_and_then (slice_get parts) (position (λ (p : Param). same_word p.name w) params)

-- a parameter becomes its argument
abbrev pub bound : List Param → List Outline → Names
bound params parts w p = unwrap_or (argument_of params parts w) (same_name w p)

-- a call with the sorts of its operator, where this becomes of it in between
abbrev pub with_sorts : Calls → List ℕ → List Outline → Place → DefinedOperator → Outline
with_sorts call w parts p o = returned o.returns (call w (sorted_from o.params 0 parts) p)

-- the operator's body with arguments for parameters
abbrev pub body_with : Calls → DefinedOperator → Calls
body_with call o w parts p = remade (bound o.params parts) call (outlined o.body)

-- a call becomes its operator's body, and so do the calls in that; so many may stand inside each other, and those
-- further in stay
abbrev pub opened : List DefinedOperator → ℕ → Calls
opened operators zero w parts p = unwrap_or (option_map (with_sorts same_call w parts p) (operator_of operators w)) (same_call w parts p)
opened operators (suc n) w parts p = unwrap_or (option_map (λ (o : DefinedOperator). with_sorts (body_with (opened operators n) o) w parts p o) (operator_of operators w)) (same_call w parts p)

-- the outline of what is written out; no more calls than there are operators stand inside each other
abbrev pub replaced : List DefinedOperator → Outline → Outline
replaced operators = remade same_name (opened operators (length operators))

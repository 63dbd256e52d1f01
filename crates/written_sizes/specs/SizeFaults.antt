-- Scripts that would be written out too deep or too long.
use Rattle.std.specs.Prelude.{ℕ, ◌+◌, List, [], ◌∷◌, ◌++◌, Bool, Option, Some, None, map, find, nat_lt, slice_get, unwrap_or, if◌then◌else◌}
use Rattle.std.specs.Option.{option_map}
use Rattle.vtl_values.specs.declared.place.Place.{Place}
use Rattle.vtl_syntax.specs.declared.operator.DefinedOperator.{DefinedOperator}
use Rattle.vtl_syntax.specs.declared.script.Script.{Script}
use Rattle.operator_faults.specs.declared.outline.Outline.{Outline}
use Rattle.operator_faults.specs.declared.sketch.Sketch.{Sketch}
use Rattle.operator_faults.specs.declared.fault.PlacedFault.{PlacedFault}
use Rattle.operator_faults.specs.declared.fault.OperatorFault.{OperatorFault}
use Rattle.operator_faults.specs.declared.fault.OperatorFault.TheVariants as fault
use Rattle.operator_faults.specs.Calls.{is_before}
use Rattle.shortest_cycles.specs.Firsts.{or_else}
use Rattle.operator_faults.specs.Sketches.{sketch_of}
use Rattle.written_sizes.specs.declared.outermost.Outermost.{Outermost}
use Rattle.written_sizes.specs.Sizes.{expressions, levels}
use Rattle.written_sizes.specs.Arithmetic.{most_levels, most_expressions}
use Rattle.written_sizes.specs.Replaced.{replaced}
use Rattle.written_sizes.specs.Outermost.{calls_in, outside_in}
use Rattle.written_sizes.specs.Places.{places_of}

-- the outlines of statements and of the expressions in rulesets
abbrev pub all_outlines : Sketch → List Outline
all_outlines s = s.statements ++ s.rulesets

abbrev pub levels_in : List DefinedOperator → Sketch → List ℕ
levels_in operators s = map (λ (o : Outline). levels (replaced operators o)) (all_outlines s)

abbrev pub expressions_in : List DefinedOperator → Sketch → List ℕ
expressions_in operators s = map (λ (o : Outline). expressions (replaced operators o)) (all_outlines s)

-- what has no place stands at the script's first
abbrev pub script_start : Place
script_start = record { line = 1; column = 1 }

-- where the expression with that number stands
abbrev pub place_at : List Place → Option ℕ → Option Place
place_at places n = option_map (λ (i : ℕ). unwrap_or (slice_get places i) script_start) n

-- ---- too many levels

abbrev pub is_too_deep : Outermost → Bool
is_too_deep c = nat_lt most_levels (c.above + c.levels)

abbrev pub earlier : Option Outermost → Option Outermost → Option Outermost
earlier None b = b
earlier (Some a) None = Some a
earlier (Some a) (Some b) = Some (if is_before b.place a.place then b else a)

-- the first outermost call with a path below it that is too long
abbrev pub deep_call : List Outermost → List Outermost → Option Outermost
deep_call in_statements in_rulesets = earlier (find is_too_deep in_statements) (find is_too_deep in_rulesets)

abbrev pub place_of : Option Outermost → Option Place
place_of c = option_map (λ (o : Outermost). o.place) c

-- the first outline with too many levels, from that number on
abbrev pub deep_number : ℕ → List ℕ → Option ℕ
deep_number i [] = None
deep_number i (l ∷ ls) = if nat_lt most_levels l then Some i else deep_number (i + 1) ls

-- at a call, or where no call is to blame at the statement or rule
abbrev pub deep_place : List DefinedOperator → List Place → Sketch → Option Place
deep_place operators places s = or_else (place_of (deep_call (calls_in operators 0 s.statements) (calls_in operators 0 s.rulesets))) (place_at places (deep_number 0 (levels_in operators s)))

-- ---- too many expressions

-- those that stand before a place, as far as they follow each other, and those that are left
abbrev pub before : Place → List Outermost → List Outermost
before p [] = []
before p (d ∷ ds) = if is_before d.place p then d ∷ before p ds else []

abbrev pub after : Place → List Outermost → List Outermost
after p [] = []
after p (d ∷ ds) = if is_before d.place p then after p ds else d ∷ ds

-- the calls of two lists in the order of the text
abbrev pub merged : List Outermost → List Outermost → List Outermost
merged [] ds = ds
merged (c ∷ cs) ds = before c.place ds ++ c ∷ merged cs (after c.place ds)

-- the first call with which there are too many, where there are so many before
abbrev pub passing : ℕ → List Outermost → Option Place
passing n [] = None
passing n (c ∷ cs) = if nat_lt most_expressions (n + c.expressions) then Some c.place else passing (n + c.expressions) cs

-- the first outline with which there are too many
abbrev pub full_number : ℕ → ℕ → List ℕ → Option ℕ
full_number n i [] = None
full_number n i (k ∷ ks) = if nat_lt most_expressions (n + k) then Some i else full_number (n + k) (i + 1) ks

-- what stands outside calls comes first, and then the calls; where there is none to blame it is the statement or rule
abbrev pub many_place : List DefinedOperator → List Place → Sketch → Option Place
many_place operators places s = or_else
    (passing (outside_in operators s.statements + outside_in operators s.rulesets) (merged (calls_in operators 0 s.statements) (calls_in operators 0 s.rulesets)))
    (place_at places (full_number 0 0 (expressions_in operators s)))

-- ---- the fault

abbrev pub told : OperatorFault → Option Place → Option PlacedFault
told f p = option_map (λ (q : Place). record { fault = f; place = q }) p

abbrev pub in_sketch : List DefinedOperator → List Place → Sketch → Option PlacedFault
in_sketch operators places s = or_else (told fault.WrittenTooDeep (deep_place operators places s)) (told fault.WrittenTooMany (many_place operators places s))

abbrev pub size_fault : Script → Option PlacedFault
size_fault s = in_sketch s.operators (places_of s) (sketch_of s)

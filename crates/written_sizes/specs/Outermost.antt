-- The calls of an outline that stand in no other call, with what they become.
use Rattle.std.specs.Prelude.{ℕ, ◌+◌, List, [], ◌∷◌, map, min, sum, length}
use Rattle.std.specs.List.{flat_map}
use Rattle.vtl_values.specs.declared.place.Place.{Place}
use Rattle.vtl_syntax.specs.declared.operator.DefinedOperator.{DefinedOperator}
use Rattle.operator_faults.specs.declared.outline.What.{What}
use Rattle.operator_faults.specs.declared.outline.What.TheVariants as what
use Rattle.operator_faults.specs.declared.outline.Outline.{Outline, fold-Outline, out-Outline}
use Rattle.operator_faults.specs.declared.outline.Outline.TheOpen.{Outline-F}
use Rattle.written_sizes.specs.declared.form.Tables.{Tables}
use Rattle.written_sizes.specs.declared.measure.Measure.TheVariants as measure
use Rattle.written_sizes.specs.declared.outermost.Calls.{Calls}
use Rattle.written_sizes.specs.declared.outermost.Outermost.{Outermost}
use Rattle.written_sizes.specs.Sizes.{own_expressions, own_levels, expressions, levels}
use Rattle.written_sizes.specs.Arithmetic.{most_levels, capped, limited}
use Rattle.written_sizes.specs.Weights.{forms}
use Rattle.written_sizes.specs.Replaced.{remade_by, same_name, opened, replaced}

-- what an outline becomes, how many of its expressions stand outside calls, and its outermost calls in the order of the
-- text, below so many levels
pub record Seen : Type 0 where
  pub becomes : Outline
  pub outside : ℕ
  pub calls : ℕ → List Outermost

-- below this too; of levels beyond the limit only the first counts
abbrev pub raised : ℕ → What → ℕ
raised above w = min (above + own_levels w) (most_levels + 1)

abbrev pub outermost_call : Place → Outline → ℕ → Outermost
outermost_call p becomes above = record { place = p; above = above; levels = levels becomes; expressions = expressions becomes }

abbrev all_becoming : List Seen → List Outline
all_becoming xs = map (λ (x : Seen). x.becomes) xs

abbrev pub seen_within : List DefinedOperator → What → List Seen → Seen
seen_within operators w xs = record { becomes = remade_by same_name (opened operators (length operators)) w (all_becoming xs); outside = own_expressions w + sum (map (λ (x : Seen). x.outside) xs); calls = λ above. flat_map (λ (x : Seen). x.calls (raised above w)) xs }

abbrev pub seen_call : Place → Outline → Seen
seen_call p becomes = record { becomes = becomes; outside = 0; calls = λ above. outermost_call p becomes above ∷ [] }

abbrev pub seen_by : List DefinedOperator → What → List Seen → Seen
seen_by operators (what.Name s) xs = record { becomes = same_name s.name s.place; outside = 1; calls = λ above. [] }
seen_by operators (what.Call c) xs = seen_call c.place (opened operators (length operators) c.name (all_becoming xs) c.place)
seen_by operators what.Plain xs = seen_within operators what.Plain xs
seen_by operators what.Level xs = seen_within operators what.Level xs
seen_by operators what.Inside xs = seen_within operators what.Inside xs
seen_by operators what.InsideJoin xs = seen_within operators what.InsideJoin xs

abbrev pub seen_step : List DefinedOperator → Outline-F Seen → Seen
seen_step operators r = seen_by operators r.what r.parts

abbrev pub seen : List DefinedOperator → Outline → Seen
seen operators = fold-Outline Seen (seen_step operators)

abbrev pub calls_in : List DefinedOperator → ℕ → List Outline → List Outermost
calls_in operators above os = flat_map (λ (o : Outline). (seen operators o).calls above) os

abbrev pub outside_in : List DefinedOperator → List Outline → ℕ
outside_in operators os = sum (map (λ (o : Outline). (seen operators o).outside) os)

-- what stands in one that is no call itself
abbrev pub outside_within : List DefinedOperator → Outline → ℕ
outside_within operators o = own_expressions (out-Outline o).what + outside_in operators (out-Outline o).parts

abbrev pub calls_within : List DefinedOperator → ℕ → Outline → List Outermost
calls_within operators above o = calls_in operators (raised above (out-Outline o).what) (out-Outline o).parts

-- ---- as they are told: none is more than one beyond its limit

abbrev pub told_levels : List DefinedOperator → Outline → ℕ
told_levels operators o = min (levels (replaced operators o)) (most_levels + 1)

abbrev pub told_expressions : List DefinedOperator → Outline → ℕ
told_expressions operators o = capped measure.Expressions (expressions (replaced operators o))

abbrev pub told : Outermost → Outermost
told c = record c { levels = min c.levels (most_levels + 1); expressions = capped measure.Expressions c.expressions }

abbrev pub told_calls : List DefinedOperator → ℕ → List Outline → List Outermost
told_calls operators above os = map told (calls_in operators above os)

-- the forms by which they are told
abbrev pub tables_of : List DefinedOperator → Tables
tables_of operators = record { expressions = forms (limited measure.Expressions) measure.Expressions operators (length operators); levels = forms (limited measure.Levels) measure.Levels operators (length operators) }

-- calls, and how many expressions stand outside them
abbrev pub told_in : List DefinedOperator → List Outline → Calls
told_in operators os = record { outside = capped measure.Expressions (outside_in operators os); calls = told_calls operators 0 os }

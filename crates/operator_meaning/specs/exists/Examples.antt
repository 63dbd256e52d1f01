-- `exists_in` on what was sold and given back, by area and year, and on prices by area.
use Rattle.std.specs.Prelude.{List, [], ◌∷◌}
use Rattle.vtl_values.specs.declared.kind.Kind.TheVariants.{Truth}
use Rattle.vtl_values.specs.declared.kind.Role.TheVariants.{Measure}
use Rattle.vtl_values.specs.declared.structure.Component.{Component}
use Rattle.vtl_syntax.specs.declared.words.ExistsRows.TheVariants as rows
use Rattle.data_set_trees.specs.clauses.After.{made}
use Rattle.data_set_trees.specs.Components.{BOOL_VAR}
use Rattle.operator_meaning.specs.pairs.Examples.{area, year, number, status}
use Rattle.operator_meaning.specs.exists.Exists.{ExistsOn}

-- what was given back, and whether something agrees with it
abbrev pub told : List Component
told = year ∷ area ∷ made Measure Truth BOOL_VAR ∷ status ∷ []

-- `exists_in(back, price, all)`: of what was given back, whether its area has a price
abbrev pub priced : ExistsOn
priced = record { rows = rows.All; left = year ∷ area ∷ number ∷ status ∷ []; right = area ∷ number ∷ []; structure = told }

-- `exists_in(back, sold, false)`: what was given back where nothing was sold
abbrev pub unsold : ExistsOn
unsold = record { rows = rows.False; left = year ∷ area ∷ number ∷ status ∷ []; right = area ∷ year ∷ number ∷ status ∷ []; structure = told }

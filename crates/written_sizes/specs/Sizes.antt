-- How many expressions an outline has, and how many levels.
use Rattle.std.specs.Prelude.{ℕ, ◌+◌, List, [], ◌∷◌, sum, max}
use Rattle.operator_faults.specs.declared.outline.What.{What}
use Rattle.operator_faults.specs.declared.outline.What.TheVariants as what
use Rattle.operator_faults.specs.declared.outline.Outline.{Outline, fold-Outline}
use Rattle.operator_faults.specs.declared.outline.Outline.TheOpen.{Outline-F}

-- what stands in a clause is no expression of its own
abbrev pub own_expressions : What → ℕ
own_expressions (what.Name s) = 1
own_expressions (what.Call c) = 1
own_expressions what.Plain = 1
own_expressions what.Level = 1
own_expressions what.Inside = 0
own_expressions what.InsideJoin = 0

-- a clause of a join is one level more than the join
abbrev pub own_levels : What → ℕ
own_levels (what.Name s) = 0
own_levels (what.Call c) = 1
own_levels what.Plain = 0
own_levels what.Level = 1
own_levels what.Inside = 0
own_levels what.InsideJoin = 1

-- below a name nothing stands
abbrev pub inner : What → List ℕ → List ℕ
inner (what.Name s) ns = []
inner (what.Call c) ns = ns
inner what.Plain ns = ns
inner what.Level ns = ns
inner what.Inside ns = ns
inner what.InsideJoin ns = ns

abbrev pub largest : List ℕ → ℕ
largest [] = 0
largest (n ∷ ns) = max n (largest ns)

abbrev pub expressions_step : Outline-F ℕ → ℕ
expressions_step r = own_expressions r.what + sum (inner r.what r.parts)

abbrev pub levels_step : Outline-F ℕ → ℕ
levels_step r = own_levels r.what + largest (inner r.what r.parts)

-- the expressions in it, `Typed` among them
abbrev pub expressions : Outline → ℕ
expressions = fold-Outline ℕ expressions_step

-- the levels on the longest path, `Typed` aside
abbrev pub levels : Outline → ℕ
levels = fold-Outline ℕ levels_step

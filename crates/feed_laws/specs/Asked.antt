-- What the rows of a revision ask for, and what stands where that was done (docs/formats.md, "Judging").
use Rattle.std.specs.Prelude.{◌≡◌, ◌≢◌, ◌==◌, ℕ, List, [], if◌then◌else◌, Option, Some, None}
use Rattle.std.specs.List.{All, Any, flat_map}
use Rattle.std.specs.Result.{IsOkAnd}
use Rattle.std.specs.FinMap.{get}
use Rattle.vtl_values.specs.declared.structure.Component.{Component}
use Rattle.vtl_values.specs.declared.value.Value.{Value}
use Rattle.vtl_values.specs.Structures.{NamedStructures, number_of}
use Rattle.point_sets.specs.DataSets.{DataSet}
use Rattle.point_sets.specs.declared.revision.Part.{Part}
use Rattle.point_sets.specs.declared.revision.RawRow.{RawRow}
use Rattle.revision_judge.specs.Rows.{Ask, Put, Remove, asked}

-- the rows, where they are of the data set with the number n
abbrev pub rows_if : ℕ → List RawRow → Option ℕ → List RawRow
rows_if n rows None = []
rows_if n rows (Some m) = if m == n then rows else []

-- the rows of all parts that name the data set with this number, in their order
abbrev pub rows_for : NamedStructures → ℕ → List Part → List RawRow
rows_for structures n parts = flat_map (λ part. rows_if n part.rows (number_of structures part.set)) parts

-- the key that is asked for
abbrev pub key_asked : Ask → List Value
key_asked (Put key rest) = key
key_asked (Remove key) = key

-- the row's key is this one
abbrev pub Names : List Component → List Value → RawRow → Type 0
Names components key row = IsOkAnd (asked components row) (λ ask. key_asked ask ≡ key)

-- what was asked for stands: the key of a put has just the values of its row, that of a removal has no point
abbrev pub Stands : DataSet → Ask → Type 0
Stands after (Put key rest) = get after key ≡ Some rest
Stands after (Remove key) = get after key ≡ None

-- a data set after the rows that are for it
pub record IsAsAsked (components : List Component) (rows : List RawRow) (before after : DataSet) : Type 0 where
  -- each row asks for something, and that stands
  pub stands : All (λ row. IsOkAnd (asked components row) (Stands after)) rows
  -- a key changes only where a row names it
  pub named : (key : List Value) → get after key ≢ get before key → Any (Names components key) rows
  -- a key that no row names stays as it was
  pub others : (key : List Value) → All (λ row. ¬ (Names components key row)) rows → get after key ≡ get before key

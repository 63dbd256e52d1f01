-- Tables (docs/formats.md, "Tables").
use Rattle.std.specs.Prelude.{ℕ, List, ◌++◌, map}
use Rattle.std.specs.List.{flat_map}
use Rattle.std.specs.FinMap.{entries}
use Rattle.vtl_values.specs.Texts.{text_of}
use Rattle.vtl_values.specs.declared.structure.Component.{Component}
use Rattle.vtl_values.specs.declared.value.Value.{Value}
use Rattle.point_sets.specs.DataSets.{DataSet}
use Rattle.release_text.specs.Rows.{row}

-- the values as a row
unfoldable pub values_row : List Value → List ℕ
values_row values = row (map text_of values)

-- the names of the components, in structure order
unfoldable pub header_row : List Component → List ℕ
header_row components = row (map (λ c. c.name) components)

-- a point: the values of its key, and its other values
unfoldable pub point_row : List Value × List Value → List ℕ
point_row point = values_row (point.0 ++ point.1)

-- the header row, and a row for each point in the order of the keys
unfoldable pub table : List Component → DataSet → List ℕ
table components set = header_row components ++ flat_map point_row (entries set)

-- The texts in the fields of records, and names of columns.
use Rattle.std.specs.Prelude.{◌≡◌, ℕ, Bool, ◌&&◌, List, ◌∷◌, map, chars}
use Rattle.std.specs.List.{list_all}
use Rattle.csv.specs.Records.{Row, fields_of}
use Rattle.vtl_values.specs.declared.structure.Component.{Component}
use Rattle.revision_files.specs.Columns.{ACTION, all_differ, is_among, names_of}

-- the characters in the fields of a record
abbrev pub texts_of : Row → List (List ℕ)
texts_of row = map chars (fields_of row)

-- the names of the columns of a known data set
abbrev pub wanted_of : List Component → List (List ℕ)
wanted_of components = ACTION ∷ names_of components

-- no name stands twice in the header, and each is wanted
abbrev pub is_of : List (List ℕ) → List (List ℕ) → Bool
is_of wanted header = all_differ header && list_all (is_among wanted) header

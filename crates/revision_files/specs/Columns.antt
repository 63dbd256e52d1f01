-- The columns of a block (docs/formats.md, "Feeds").
use Rattle.std.specs.Prelude.{◌==◌, ℕ, Bool, true, not, ◌&&◌, ◌||◌, if◌then◌else◌, List, [], ◌∷◌, length, map, filter, Option, Some, None, codes}
use Rattle.std.specs.List.{list_all, list_any, position_or_len, range_with_len}
use Rattle.vtl_values.specs.declared.structure.Component.{Component}
use Rattle.vtl_values.specs.Texts.{same_text}
use Rattle.revision_files.specs.declared.columns.Columns.{Columns}

-- the column that says what a row asks for
abbrev pub ACTION : List ℕ
ACTION = codes ":action"

-- the names of components
abbrev pub names_of : List Component → List (List ℕ)
names_of components = map (λ component. component.name) components

-- no name stands twice
abbrev pub all_differ : List (List ℕ) → Bool
all_differ [] = true
all_differ (name ∷ names) = not (list_any (same_text name) names) && all_differ names

-- this name is one of these
abbrev pub is_among : List (List ℕ) → List ℕ → Bool
is_among names name = list_any (same_text name) names

-- each of these names stands in the header once, and nothing else does
abbrev pub has_just : List (List ℕ) → List (List ℕ) → Bool
has_just wanted header = all_differ header && list_all (is_among wanted) header && list_all (is_among header) wanted

-- this name stands in the header once
abbrev pub has_once : List ℕ → List (List ℕ) → Bool
has_once name header = length (filter (same_text name) header) == 1

-- the first column of this name
abbrev pub column_of : List (List ℕ) → List ℕ → ℕ
column_of header name = position_or_len (same_text name) header

-- all columns but this one
abbrev pub other_columns : List (List ℕ) → ℕ → List ℕ
other_columns header column = filter (λ other. not (other == column)) (range_with_len 0 (length header))

abbrev pub columns_with : List (List ℕ) → List ℕ → Columns
columns_with header fields = record { width = length header; action = column_of header ACTION; fields = fields }

-- of a known data set the header has the column of the action and each component once, and nothing else, and the fields
-- of a row stand in structure order; of another it has that column once, and they stand in the order of the file
abbrev pub columns_of : Option (List Component) → List (List ℕ) → Option Columns
columns_of (Some components) header =
    if has_just (ACTION ∷ names_of components) header
    then Some (columns_with header (map (column_of header) (names_of components)))
    else None
columns_of None header =
    if has_once ACTION header
    then Some (columns_with header (other_columns header (column_of header ACTION)))
    else None

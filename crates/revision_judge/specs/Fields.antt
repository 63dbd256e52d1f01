-- What the fields of a row give (docs/formats.md, "Judging").
use Rattle.std.specs.Prelude.{ℕ, List, [], ◌∷◌, map, Bool, true, false, not, ◌&&◌, if◌then◌else◌, Option, Some, None, Result, Ok, Err}
use Rattle.std.specs.List.{filter}
use Rattle.std.specs.Result.{result_map_both}
use Rattle.vtl_values.specs.declared.structure.Component.{Component}
use Rattle.vtl_values.specs.declared.value.Value.{Value}
use Rattle.vtl_values.specs.declared.value.Value.TheVariants.{Null, Truth, Integer, Number, Text}
use Rattle.vtl_values.specs.Texts.{value_of}
use Rattle.point_sets.specs.declared.revision.RawField.{RawField}
use Rattle.point_sets.specs.declared.revision.RawField.TheVariants.{Empty, Given}
use Rattle.structured_sets.specs.Fitting.{is_identifier, is_in_codes}
use Rattle.revision_judge.specs.declared.cause.Cause.{Cause}
use Rattle.revision_judge.specs.declared.cause.Cause.TheVariants.{NullIdentifier, BadText, NotInCodes}
use Rattle.revision_judge.specs.Steps.{◌>>=◌}

-- a component, and the field that a row has for it
abbrev pub Cell : Type 0
Cell = Component × RawField

-- each component with its field; a field that is missing is empty, and those beyond the components are passed over
abbrev pub cells : List Component → List RawField → List Cell
cells [] fields = []
cells (c ∷ cs) [] = (c, Empty) ∷ cells cs []
cells (c ∷ cs) (field ∷ fields) = (c, field) ∷ cells cs fields

-- the cells of the identifiers, and the others; identifiers stand first in a structure
abbrev pub key_cells : List Component → List RawField → List Cell
key_cells components fields = filter (λ cell. is_identifier cell.0) (cells components fields)

abbrev pub rest_cells : List Component → List RawField → List Cell
rest_cells components fields = filter (λ cell. not (is_identifier cell.0)) (cells components fields)

-- the fields of a row's key, as they were written
abbrev pub key_fields : List Component → List RawField → List RawField
key_fields components fields = map (λ cell. cell.1) (key_cells components fields)

-- a field, where there may be none
abbrev pub field_or_empty : Option RawField → RawField
field_or_empty None = Empty
field_or_empty (Some field) = field

abbrev pub text_in : RawField → List ℕ
text_in Empty = []
text_in (Given text) = text

abbrev pub is_null : Value → Bool
is_null Null = true
is_null (Truth b) = false
is_null (Integer n) = false
is_null (Number n) = false
is_null (Text text) = false

-- the value, unless it is null in an identifier, or a text outside the code list
abbrev pub fitting : Component → Value → Result Value Cause
fitting c v =
    if is_identifier c && is_null v then Err NullIdentifier
    else if is_in_codes c.codes v then Ok v
    else Err NotInCodes

-- the value that a cell means, or its cause
abbrev pub value_in : Cell → Result Value Cause
value_in cell = result_map_both (λ v. v) BadText (value_of cell.0.kind (text_in cell.1)) >>= fitting cell.0

-- the values of the cells, or the first cause
abbrev pub values_in : List Cell → Result (List Value) Cause
values_in [] = Ok []
values_in (cell ∷ cells) = value_in cell >>= (λ v. values_in cells >>= (λ vs. Ok (v ∷ vs)))

-- The rows of a part of a revision, one after the other (docs/formats.md, "Judging").
use Rattle.std.specs.Prelude.{ℕ, ◌+◌, List, [], ◌∷◌, ◌++◌, fold, nat_le, is_some, if◌then◌else◌, Result, Ok, Err}
use Rattle.std.specs.FinMap.{get, insert, remove, len}
use Rattle.vtl_values.specs.declared.structure.Component.{Component}
use Rattle.vtl_values.specs.declared.value.Value.{Value}
use Rattle.vtl_values.specs.Order.{key_cmp}
use Rattle.data_model.specs.Maps.{is_listed}
use Rattle.data_model.specs.declared.TheConstants.{POINT_LIMIT}
use Rattle.point_sets.specs.DataSets.{DataSet}
use Rattle.point_sets.specs.declared.revision.Action.{Action}
use Rattle.point_sets.specs.declared.revision.Action.TheVariants as action
use Rattle.point_sets.specs.declared.revision.RawRow.{RawRow}
use Rattle.revision_judge.specs.declared.cause.Cause.{Cause}
use Rattle.revision_judge.specs.declared.cause.Cause.TheVariants.{KeyTwice, NoSuchPoint, SetFull}
use Rattle.revision_judge.specs.declared.ruling.Refusal.{Refusal}
use Rattle.revision_judge.specs.Fields.{key_cells, rest_cells, key_fields, values_in}
use Rattle.revision_judge.specs.Steps.{◌>>=◌}

-- what a row asks for: a point at the key with these other values, or none
pub data Ask : Type 0 where
  Put : List Value → List Value → Ask
  Remove : List Value → Ask

-- what a row asks for, or the first cause among its fields; of a row that removes only the identifiers are read
abbrev pub asked : List Component → RawRow → Result Ask Cause
asked components row = for row.action
  where
    for : Action → Result Ask Cause
    for action.Put = values_in (key_cells components row.fields) >>= (λ key. values_in (rest_cells components row.fields) >>= (λ rest. Ok (Put key rest)))
    for action.Remove = values_in (key_cells components row.fields) >>= (λ key. Ok (Remove key))

-- the keys of a data set's rows so far, the data set after them, and how many of these rows are of the part
pub record Progress : Type 0 where
  pub keys : List (List Value)
  pub set : DataSet
  pub rows : ℕ

-- no row yet
abbrev pub at_first : DataSet → Progress
at_first set = record { keys = []; set = set; rows = 0 }

-- a further part begins
abbrev pub in_new_part : Progress → Progress
in_new_part p = record p { rows = 0 }

-- one row more, with its key and the data set after it
abbrev pub grown : Progress → List Value → DataSet → Progress
grown p key set = record { keys = p.keys ++ key ∷ []; set = set; rows = p.rows + 1 }

-- a key may stand once; a put keeps the limit of points, and a remove needs a point
abbrev pub granted : Progress → Ask → Result Progress Cause
granted p (Put key rest) =
    let next = insert p.set key rest in
    if is_listed key_cmp p.keys key then Err KeyTwice
    else if nat_le (len next) POINT_LIMIT then Ok (grown p key next)
    else Err SetFull
granted p (Remove key) =
    if is_listed key_cmp p.keys key then Err KeyTwice
    else if is_some (get p.set key) then Ok (grown p key (remove p.set key))
    else Err NoSuchPoint

-- what stands after one row more, or the first cause that the row has
abbrev pub row_judged : List Component → Progress → RawRow → Result Progress Cause
row_judged components p row = asked components row >>= granted p

-- the refusal, in the part with this number, for the row that comes after these
abbrev pub refused_at : List Component → ℕ → Progress → RawRow → Cause → Refusal
refused_at components part p row cause = record { part = part; row = p.rows + 1; key = key_fields components row.fields; cause = cause }

abbrev pub or_refused : {A : Type 0} → (Cause → Refusal) → Result A Cause → Result A Refusal
or_refused refusal (Ok value) = Ok value
or_refused refusal (Err cause) = Err (refusal cause)

-- the rows of a part one after the other: what stands after them, or the refusal for the first that has a cause
abbrev pub rows_judged : List Component → ℕ → Progress → List RawRow → Result Progress Refusal
rows_judged components part p rows = fold (λ so_far row. so_far >>= (λ q. or_refused (refused_at components part q row) (row_judged components q row))) (Ok p) rows

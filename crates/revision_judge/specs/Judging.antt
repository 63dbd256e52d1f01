-- Judgements on revisions (docs/formats.md, "Judging").
use Rattle.std.specs.Prelude.{◌≡◌, ◌+◌, ℕ, List, [], map, fold, Option, Some, None, Result, Ok, Err, slice_get, slice_set, unwrap_or, option_map}
use Rattle.std.specs.List.{AllZip}
use Rattle.std.specs.FinMap.{empty}
use Rattle.vtl_values.specs.declared.structure.Component.{Component}
use Rattle.vtl_values.specs.Structures.{NamedStructures, number_of}
use Rattle.point_sets.specs.DataSets.{DataSet}
use Rattle.point_sets.specs.declared.revision.Part.{Part}
use Rattle.point_sets.specs.declared.revision.RawRow.{RawRow}
use Rattle.point_sets.specs.declared.revision.Revision.{Revision}
use Rattle.structured_sets.specs.Fitting.{IsBoundedSetOf}
use Rattle.revision_judge.specs.declared.cause.Cause.TheVariants.{NoSuchSet}
use Rattle.revision_judge.specs.declared.ruling.Refusal.{Refusal}
use Rattle.revision_judge.specs.Steps.{◌>>=◌}
use Rattle.revision_judge.specs.Rows.{Progress, at_first, in_new_part, rows_judged}

-- the revision fits, and these are the data sets after it; or it is refused
pub data Judgement : Type 0 where
  Fit : List DataSet → Judgement
  Refused : Refusal → Judgement

-- the components of the structure with this number
abbrev pub components_of : NamedStructures → ℕ → List Component
components_of structures n = unwrap_or (option_map (λ named. named.1) (slice_get structures n)) []

-- the data set with this number
abbrev pub input : List DataSet → ℕ → DataSet
input inputs n = unwrap_or (slice_get inputs n) empty

-- the data sets, with this one in the place of that with the number
abbrev pub inputs_with : List DataSet → ℕ → DataSet → List DataSet
inputs_with inputs n set = slice_set inputs n set

-- how many parts there are so far, and how far their rows have brought each data set
pub record Standing : Type 0 where
  pub parts : ℕ
  pub sets : List Progress

-- no part yet
abbrev pub before_parts : List DataSet → Standing
before_parts inputs = record { parts = 0; sets = map at_first inputs }

-- how far the data set with this number is
abbrev pub progress_at : Standing → ℕ → Progress
progress_at s n = unwrap_or (slice_get s.sets n) (at_first empty)

-- one part more, which has brought the data set with this number so far
abbrev pub and_part : Standing → ℕ → Progress → Standing
and_part s n p = record { parts = s.parts + 1; sets = slice_set s.sets n p }

-- no data set has the name of the part with this number
abbrev pub no_such_set : ℕ → Refusal
no_such_set part = record { part = part; row = 0; key = []; cause = NoSuchSet }

-- one part more, of the data set with this number, if there is one: its rows go on from where the data set is
abbrev pub part_judged_at : NamedStructures → Standing → List RawRow → Option ℕ → Result Standing Refusal
part_judged_at structures s rows None = Err (no_such_set (s.parts + 1))
part_judged_at structures s rows (Some n) = rows_judged (components_of structures n) (s.parts + 1) (in_new_part (progress_at s n)) rows >>= (λ p. Ok (and_part s n p))

abbrev pub part_judged : NamedStructures → Standing → Part → Result Standing Refusal
part_judged structures s part = part_judged_at structures s part.rows (number_of structures part.set)

-- the parts one after the other: where the data sets stand after them, or the first refusal
abbrev pub parts_judged : NamedStructures → List DataSet → List Part → Result Standing Refusal
parts_judged structures inputs parts = fold (λ so_far part. so_far >>= (λ s. part_judged structures s part)) (Ok (before_parts inputs)) parts

-- the data sets where the parts have brought them
abbrev pub sets_at : Standing → List DataSet
sets_at s = map (λ p. p.set) s.sets

abbrev pub judgement_of : Result Standing Refusal → Judgement
judgement_of (Ok s) = Fit (sets_at s)
judgement_of (Err refusal) = Refused refusal

-- the judgement on a revision, against the data sets of the structures
abbrev pub judged : NamedStructures → List DataSet → Revision → Judgement
judged structures inputs revision = judgement_of (parts_judged structures inputs revision.parts)

-- one data set for each structure
abbrev pub AreInputs : NamedStructures → List DataSet → Type 0
AreInputs structures inputs = AllZip (λ named. IsBoundedSetOf named.1) structures inputs

-- before any revision all are empty
abbrev pub no_points : NamedStructures → List DataSet
no_points structures = map (λ named. empty) structures

-- a revision that fits leaves its data sets, and a refused one changes nothing
abbrev pub settled : List DataSet → Judgement → List DataSet
settled inputs (Fit nexts) = nexts
settled inputs (Refused refusal) = inputs

-- the data sets after one revision more
abbrev pub inputs_then : NamedStructures → List DataSet → Revision → List DataSet
inputs_then structures inputs revision = settled inputs (judged structures inputs revision)

-- the data sets after these revisions, from empty ones
abbrev pub inputs_after : NamedStructures → List Revision → List DataSet
inputs_after structures revisions = fold (inputs_then structures) (no_points structures) revisions

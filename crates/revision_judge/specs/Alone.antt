-- Revisions without parts of some data set, and of one part alone.
use Rattle.std.specs.Prelude.{◌≢◌, ℕ, List, Some, Result, Ok, Err}
use Rattle.std.specs.List.{All}
use Rattle.vtl_values.specs.Structures.{NamedStructures, number_of}
use Rattle.point_sets.specs.DataSets.{DataSet}
use Rattle.point_sets.specs.declared.revision.Part.{Part}
use Rattle.point_sets.specs.declared.revision.RawRow.{RawRow}
use Rattle.revision_judge.specs.declared.ruling.Refusal.{Refusal}
use Rattle.revision_judge.specs.Judging.{Judgement, Fit, Refused, components_of, input, inputs_with}
use Rattle.revision_judge.specs.Rows.{Progress, at_first, rows_judged}

-- no part names the data set with this number
abbrev pub NamedByNone : NamedStructures → ℕ → List Part → Type 0
NamedByNone structures n = All (λ part. number_of structures part.set ≢ Some n)

-- the data set with this number is that after the rows, and all others stay; or they are refused
abbrev pub alone : List DataSet → ℕ → Result Progress Refusal → Judgement
alone inputs n (Ok after) = Fit (inputs_with inputs n after.set)
alone inputs n (Err refusal) = Refused refusal

-- the judgement on rows for the data set with this number alone
abbrev pub judged_alone : NamedStructures → List DataSet → List RawRow → ℕ → Judgement
judged_alone structures inputs rows n = alone inputs n (rows_judged (components_of structures n) 1 (at_first (input inputs n)) rows)

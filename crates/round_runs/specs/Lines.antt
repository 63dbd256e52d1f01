-- The lines of verdicts and of failed rounds (docs/formats.md, "Output").
use Rattle.std.specs.Prelude.{◌==◌, ℕ, List, [], ◌∷◌, ◌++◌, map, codes, decimal, nat_le, encode_utf8_all, if◌then◌else◌}
use Rattle.std.specs.Ffi.{without_last}
use Rattle.point_sets.specs.declared.revision.RawField.{RawField}
use Rattle.release_text.specs.Rows.{row}
use Rattle.revision_judge.specs.Causes.{number_of_cause}
use Rattle.revision_judge.specs.Fields.{text_in}
use Rattle.revision_judge.specs.declared.ruling.Refusal.{Refusal}
use Rattle.round_core.specs.verdict.Verdict.{Verdict}
use Rattle.round_core.specs.verdict.Verdict.TheVariants.{Accepted, Refused}
use Rattle.vtl_values.specs.declared.value.Value.{Value}
use Rattle.release_text.specs.Tables.{values_row}

abbrev pub line : List ℕ → List ℕ
line text = text ++ 10 ∷ []

-- the verdict on an accepted revision, with its receipt
abbrev pub accepted : ℕ → List ℕ
accepted receipt = line (codes "accepted " ++ decimal receipt)

-- the fields of a key as they were written, as a row without its line end
abbrev pub key_text : List RawField → List ℕ
key_text fields = without_last (row (map text_in fields))

-- behind the row of a refused revision: the key, but for row 0
abbrev pub refusal_end : Refusal → List ℕ
refusal_end refusal = if refusal.row == 0 then [] else codes " key " ++ key_text refusal.key

-- the line of a refused revision begins with the name of the refused part's data set
abbrev pub refused_set : List ℕ → List ℕ
refused_set set = codes "refused " ++ encode_utf8_all set

-- then comes the part, where there are several
abbrev pub part_text : ℕ → ℕ → List ℕ
part_text parts part = if nat_le parts 1 then [] else codes " part " ++ decimal part

abbrev pub row_text : ℕ → List ℕ
row_text row = codes " row " ++ decimal row

-- and at its end the cause
abbrev pub cause_end : ℕ → List ℕ
cause_end cause = codes " cause " ++ line (decimal cause)

-- the verdict on a refused revision of so many parts: the set, the part, the row and its key, and the cause
unfoldable pub refused : List ℕ → ℕ → Refusal → List ℕ
refused set parts refusal = refused_set set ++ (part_text parts refusal.part ++ (row_text refusal.row ++ (refusal_end refusal ++ cause_end (number_of_cause refusal.cause))))

-- the line of a verdict
abbrev pub verdict_line : Verdict → List ℕ
verdict_line (Accepted receipt) = accepted receipt
verdict_line (Refused set parts refusal) = refused set parts refusal

-- a round that failed at a statement, up to the cause
unfoldable pub failed_at : ℕ → List ℕ → ℕ → ℕ → List ℕ
failed_at prefix name row column =
    codes "failed prefix " ++ (decimal prefix ++ (codes " statement " ++ (encode_utf8_all name
    ++ (codes " line " ++ (decimal row ++ (codes " column " ++ decimal column))))))

-- its cause: an evaluation out of range at a key
abbrev pub range_key : List Value → List ℕ
range_key key = codes " range key " ++ values_row key

-- or more points than a result may have
abbrev pub too_many_points : List ℕ
too_many_points = line (codes " too many points")

-- a round whose operators' results have too many points together
abbrev pub total_points : ℕ → ℕ → List ℕ
total_points prefix points = codes "failed prefix " ++ (decimal prefix ++ (codes " total " ++ (decimal points ++ codes " points\n")))

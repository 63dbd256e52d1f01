-- The causes of refusals (docs/formats.md, "Judging").
use Rattle.std.specs.Prelude.{ℕ}
use Rattle.revision_judge.specs.declared.cause.Cause.{Cause}
use Rattle.revision_judge.specs.declared.cause.Cause.TheVariants.{NoSuchSet, NullIdentifier, BadText, NotInCodes, KeyTwice, NoSuchPoint, SetFull}

-- the number of a cause in verdicts
abbrev pub number_of_cause : Cause → ℕ
number_of_cause NoSuchSet = 1
number_of_cause NullIdentifier = 2
number_of_cause (BadText fault) = 3
number_of_cause NotInCodes = 4
number_of_cause KeyTwice = 5
number_of_cause NoSuchPoint = 6
number_of_cause SetFull = 7

-- How stops tell what a step means.
use Rattle.std.specs.Prelude.{◌≡◌, Result, Err, ⊤}
use Rattle.vtl_values.specs.declared.read.ReadStop.{ReadStop}
use Rattle.vtl_values.specs.declared.read.ReadStop.TheVariants.{Bad, Memory as TextMemory}
use Rattle.revision_judge.specs.declared.cause.Cause.{Cause}
use Rattle.revision_judge.specs.declared.cause.Cause.TheVariants.{BadText}
use Rattle.revision_judge.specs.declared.stop.RowStop.{RowStop}
use Rattle.revision_judge.specs.declared.stop.RowStop.TheVariants.{Refused, Memory}

-- the stop of a row whose text wasn't read
abbrev pub stop_of_text : ReadStop → RowStop
stop_of_text (Bad fault) = Refused (BadText fault)
stop_of_text TextMemory = Memory

-- a stop is the cause, or want of memory
abbrev pub Refuses : {A : Type 0} → Result A Cause → RowStop → Type 0
Refuses meaning (Refused cause) = meaning ≡ Err cause
Refuses meaning Memory = ⊤

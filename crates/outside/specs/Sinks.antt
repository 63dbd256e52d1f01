-- What a sink is seen as, and what a write of a text did.
use Rattle.std.specs.Prelude.{◌≡◌, ◌≤◌, ◌+◌, ℕ, List, [], ◌++◌, length, Option, Result, IsOk, IsErrOf}
use Rattle.std.specs.Io.KnownBytes.{append_known}
use Rattle.outside.specs.declared.sink.SinkStop.{SinkStop}
use Rattle.outside.specs.declared.sink.SinkStop.TheVariants.{Failed, Memory}
use Rattle.outside.specs.Counts.{Rose}

pub record SinkView : Type 0 where
  -- the bytes taken, where the sink tells them
  pub taken : Option (List ℕ)
  -- a text shorter than this is taken without want of memory
  pub room : ℕ
  -- how many writes failed
  pub faults : ℕ

-- the text was taken up to some place, and all of it where `IsWhole`
pub record Took (old new : Option (List ℕ)) (text : List ℕ) (IsWhole : Type 0) : Type 0 where
  pub piece : List ℕ
  pub rest : List ℕ
  pub parts : text ≡ piece ++ rest
  pub whole : IsWhole → rest ≡ []
  pub added : new ≡ append_known old piece

-- a write of a text: all of it at Ok, and else a prefix; a fault only where the count rose, want of memory only for
-- a text that the room was too small for, and the room falls by the text at most
pub record Wrote (old new : SinkView) (result : Result (Unit {0}) SinkStop) (text : List ℕ) : Type 0 where
  pub later : old.faults ≤ new.faults
  pub failed : IsErrOf result Failed → Rose old.faults new.faults
  pub memory : IsErrOf result Memory → old.room ≤ length text
  pub room : IsOk result → old.room ≤ new.room + length text
  pub took : Took old.taken new.taken text (IsOk result)

-- whatever text a run of writes has written, and however it ended, it has now written this after it
abbrev pub Extends : SinkView → SinkView → Result (Unit {0}) SinkStop → Result (Unit {0}) SinkStop → List ℕ → Type 0
Extends old new so_far result text = (start : SinkView) (before : List ℕ) → Wrote start old so_far before → Wrote start new result (before ++ text)

-- Why a pattern is not built.
use Rattle.regex.specs.declared.error.Error.{Error}
use Rattle.regex.specs.declared.error.Error.TheVariants.{Syntax, CompiledTooBig, Internal, OutOfMemory}
use Rattle.scalar_texts.specs.declared.patterns.PatternStop.{PatternStop}
use Rattle.scalar_texts.specs.declared.patterns.PatternStop.TheVariants.{BadPattern, Memory}

-- an error of syntax means that the text is no pattern; a pattern too big for the crate counts as want of memory
abbrev pub stop_of : Error → PatternStop
stop_of (Syntax e) = BadPattern
stop_of CompiledTooBig = Memory
stop_of Internal = Memory
stop_of OutOfMemory = Memory

-- What the calls of the lexer answer.
use Rattle.std.specs.Prelude.{◌≡◌, Result, Ok, Err}
use Rattle.vtl_lexer.specs.declared.stop.LexFault.{LexFault}
use Rattle.vtl_lexer.specs.declared.stop.PieceStop.{PieceStop}
use Rattle.vtl_lexer.specs.declared.stop.PieceStop.TheVariants.{Bad, Memory}

-- the answer is what the definition gives, unless memory ran out
abbrev pub Gives : {X : Type 0} → Result X PieceStop → Result X LexFault → Type 0
Gives (Ok x) read = read ≡ Ok x
Gives (Err (Bad fault)) read = read ≡ Err fault
Gives (Err Memory) read = Unit {0}

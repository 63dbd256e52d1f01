use Rattle.std.proofs.Common.{◌≡◌, ◌+◌, ◌≤◌, drop}
use Rattle.vtl_lexer.specs.Places.{place_after}
use Rattle.vtl_lexer.proofs.lexer.place_after.Given as goal

abbrev pub invariant-loop-byte : goal.invariant-loop-byte
invariant-loop-byte l = record {
  after : place_after l.place (drop l.byte-index l.passed) ≡ place_after l.initial.place l.passed;
  line : 1 ≤ l.place.line;
  column : 1 ≤ l.place.column;
  within : l.place.line + l.place.column ≤ l.initial.place.line + l.initial.place.column + l.byte-index;
}

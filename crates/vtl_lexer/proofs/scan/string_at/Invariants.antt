use Rattle.std.proofs.Common.{◌≡◌, ◌-◌, ◌≤◌, drop, length}
use Rattle.vtl_lexer.specs.Scans.{string_at, ahead}
use Rattle.vtl_lexer.proofs.scan.string_at.Given as goal

abbrev pub invariant-loop-byte : goal.invariant-loop-byte
invariant-loop-byte l = record {
  within : l.at ≤ length l.text;
  so_far : ahead l.bytes.items l.at (string_at (drop l.at l.text)) ≡ string_at l.text;
}

abbrev pub decreases-loop-byte : goal.decreases-loop-byte
decreases-loop-byte l = length l.text - l.at

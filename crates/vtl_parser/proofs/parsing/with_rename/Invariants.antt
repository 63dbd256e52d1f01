use Rattle.std.proofs.Common.{◌≡◌, take}
use Rattle.vtl_parser.proofs.parsing.with_rename.Given as goal

abbrev pub invariant-loop-token : goal.invariant-loop-token
invariant-loop-token l = l.tokens.items ≡ take l.token-index l.front

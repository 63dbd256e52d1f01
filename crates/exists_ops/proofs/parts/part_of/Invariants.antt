use Rattle.std.proofs.Common.{◌≡◌, ◌++◌, drop}
use Rattle.exists_ops.specs.Parts.{key_part}
use Rattle.exists_ops.proofs.parts.part_of.Given as goal

abbrev pub invariant-loop-number : goal.invariant-loop-number
invariant-loop-number l = key_part l.numbers l.key ≡ l.values.items ++ key_part (drop l.number-index l.numbers) l.key

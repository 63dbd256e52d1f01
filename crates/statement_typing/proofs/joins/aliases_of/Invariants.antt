use Rattle.std.proofs.Common.{◌≡◌, ◌++◌, ◌∷◌, map, drop}
use Rattle.data_set_trees.specs.Joins.{alias_of}
use Rattle.statement_typing.proofs.joins.aliases_of.Given as goal

abbrev pub invariant-loop-operand : goal.invariant-loop-operand
invariant-loop-operand l = map alias_of (l.first ∷ l.second ∷ l.others) ≡ l.aliases ++ map alias_of (drop l.operand-index l.others)

use Rattle.std.proofs.Common.{◌≡◌, ◌++◌, ◌∷◌, None, Some, map, drop}
use Rattle.join_typing.proofs.titles.bare_and.Given as goal

abbrev pub invariant-loop-alias : goal.invariant-loop-alias
invariant-loop-alias l = None ∷ map Some l.aliases ≡ l.titles ++ map Some (drop l.alias-index l.aliases)

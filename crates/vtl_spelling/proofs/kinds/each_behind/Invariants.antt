use Rattle.std.proofs.Common.{◌≡◌, ◌++◌, take}
use Rattle.std.specs.List.{flat_map}
use Rattle.vtl_spelling.specs.Kinds.{◌&◌, sig}
use Rattle.vtl_spelling.proofs.kinds.each_behind.Given as goal

abbrev pub invariant-loop-item : goal.invariant-loop-item
invariant-loop-item g l = l.out.items ≡ l.initial.out.items ++ flat_map (λ y. sig l.sign & g.T.Spell.spelled y) (take l.item-index l.items)

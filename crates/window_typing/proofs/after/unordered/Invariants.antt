use Rattle.std.proofs.Common.{◌≡◌, ◌++◌, map, take}
use Rattle.vtl_values.specs.declared.kind.Role.TheVariants.{Identifier, Viral}
use Rattle.data_set_trees.specs.clauses.Frames.{numbers_of}
use Rattle.data_set_trees.specs.aggregates.Results.{with_numbers}
use Rattle.data_set_trees.specs.windows.Results.{made_by}
use Rattle.window_typing.proofs.after.unordered.Given as goal

abbrev pub invariant-loop-item : goal.invariant-loop-item
invariant-loop-item l = l.unordered ≡ with_numbers l.components (numbers_of Identifier l.components ++ numbers_of Viral l.components) ++ map made_by (take l.item-index l.items)

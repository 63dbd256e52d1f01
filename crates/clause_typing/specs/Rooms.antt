-- How many components a result has.
use Rattle.std.specs.Prelude.{Bool, true, false}
use Rattle.data_set_trees.specs.declared.clauses.clause.CheckedItem.{CheckedItem}
use Rattle.data_set_trees.specs.declared.clauses.clause.Target.{Target}
use Rattle.data_set_trees.specs.declared.clauses.clause.Target.TheVariants.{Old, New}

abbrev pub names_new : Target → Bool
names_new (Old number) = false
names_new (New name) = true

-- an item is put into a new component
abbrev pub is_new : CheckedItem → Bool
is_new i = names_new i.target

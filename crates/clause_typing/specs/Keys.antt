-- What names and targets are told apart by.
use Rattle.std.specs.Prelude.{ℕ, List, Option, option_map}
use Rattle.scalar_trees.specs.declared.typing.scope.ScopeName.{ScopeName}
use Rattle.data_set_trees.specs.declared.clauses.clause.Target.{Target}
use Rattle.data_set_trees.specs.declared.clauses.clause.Target.TheVariants.{Old, New}
use Rattle.clause_typing.specs.declared.differ.FullName.{FullName}
use Rattle.clause_typing.specs.declared.differ.TargetRef.{TargetRef}
use Rattle.clause_typing.specs.declared.differ.TargetRef.TheVariants as refers

-- a name's alias and its name
abbrev pub full_name : ScopeName → Option (List ℕ) × List ℕ
full_name n = (n.alias, n.name)

-- the same, as a key refers to them
abbrev pub name_of : FullName → Option (List ℕ) × List ℕ
name_of k = (option_map (λ a. a.now) k.alias, k.name.now)

-- the target that a key refers to
abbrev pub target_of : TargetRef → Target
target_of (refers.Old number) = Old number
target_of (refers.New name) = New name.now

-- What typing answers is well typed.
use Rattle.std.specs.Prelude.{◌≡◌, Option, Some, None, ⊤}
use Rattle.scalar_trees.specs.WellTyped.{Kinds, is_exactly, is_of_kind}
use Rattle.scalar_trees.specs.declared.typing.typed.Typed.{Typed}

-- the tree is of the kind that it is said to be, and of no other; the literal null, which is said to be of none, is of all
abbrev pub IsTyped : Kinds → Typed → Type 0
IsTyped kinds t = is_of_kind kinds t.tree ≡ is_exactly t.kind

-- the same, where there is one
abbrev pub IsTypedIf : Kinds → Option Typed → Type 0
IsTypedIf kinds None = ⊤
IsTypedIf kinds (Some t) = IsTyped kinds t

-- What the names in an expression stand for (docs/language.md, "Names in expressions").
use Rattle.std.specs.Prelude.{ℕ, Bool, true, false, not, ◌&&◌, ◌==◌, ◌+◌, List, [], ◌∷◌, map, Option, Some, None, find, count_by, slice_get, is_some, option_and_then, if◌then◌else◌}
use Rattle.std.specs.Option.{option_map, option_map_or}
use Rattle.vtl_values.specs.Texts.{same_text}
use Rattle.scalar_trees.specs.WellTyped.{Kinds}
use Rattle.vtl_values.specs.declared.kind.Kind.{Kind}
use Rattle.vtl_values.specs.declared.structure.Component.{Component}
use Rattle.scalar_trees.specs.declared.typing.scope.Basis.{Basis}
use Rattle.scalar_trees.specs.declared.typing.scope.Basis.TheVariants.{Point, Group}
use Rattle.scalar_trees.specs.declared.typing.scope.Column.{Column}
use Rattle.scalar_trees.specs.declared.typing.scope.ScopeName.{ScopeName}
use Rattle.scalar_trees.specs.declared.typing.scope.Scope.{Scope}
use Rattle.scalar_trees.specs.declared.typing.scope.Slot.{Slot}

abbrev pub is_named : List ℕ → ScopeName → Bool
is_named name n = same_text name n.name

abbrev pub is_bare : List ℕ → ScopeName → Bool
is_bare name n = not (is_some n.alias) && is_named name n

abbrev pub is_member : List ℕ → List ℕ → ScopeName → Bool
is_member alias name n = option_map_or (same_text alias) n.alias false && is_named name n

-- the number of the first name that passes
abbrev pub first_number : (ScopeName → Bool) → List ScopeName → Option ℕ
first_number p names = option_map (λ n. n.number) (find p names)

abbrev pub or_else : Option ℕ → Option ℕ → Option ℕ
or_else (Some n) other = Some n
or_else None other = other

-- a bare name is exactly a component's, or else the one name of several operands that is so without its alias
abbrev pub bare_number : List ScopeName → List ℕ → Option ℕ
bare_number names name = or_else (first_number (is_bare name) names) (if count_by (is_named name) names == 1 then first_number (is_named name) names else None)

-- on a group of points only what groups are formed by may be named, aggregates aside
abbrev pub is_seen : Basis → Column → Bool
is_seen Point c = true
is_seen Group c = c.grouped

abbrev pub seen_slot : Basis → ℕ → Column → Option Slot
seen_slot basis number c = if is_seen basis c then Some (record { number = number; kind = c.kind }) else None

-- the component with a number, where it may be named
abbrev pub slot_at : List Column → Basis → ℕ → Option Slot
slot_at columns basis number = option_and_then (seen_slot basis number) (slice_get columns number)

-- what a bare name stands for
abbrev pub named : Scope → Basis → List ℕ → Option Slot
named scope basis name = option_and_then (slot_at scope.columns basis) (bare_number scope.names name)

-- what `alias#name` stands for
abbrev pub member : Scope → Basis → List ℕ → List ℕ → Option Slot
member scope basis alias name = option_and_then (slot_at scope.columns basis) (first_number (is_member alias name) scope.names)

abbrev pub kind_at : List Column → Basis → ℕ → Option Kind
kind_at columns basis number = option_map (λ s. s.kind) (slot_at columns basis number)

-- the kinds of what may be named in a checked expression; aggregates stand on a group, and take any component
abbrev pub kinds_of : List Column → Basis → Kinds
kinds_of columns Point = record { component = kind_at columns Point; aggregated = λ number. None; counted = false }
kinds_of columns Group = record { component = kind_at columns Group; aggregated = kind_at columns Point; counted = true }

-- ---- the scope of a data set

abbrev pub names_from : ℕ → List Component → List ScopeName
names_from number [] = []
names_from number (c ∷ cs) = record { alias = None; name = c.name; number = number } ∷ names_from (number + 1) cs

abbrev pub column_of : Component → Column
column_of c = record { kind = c.kind; role = c.role; grouped = false }

-- names are those of its components
abbrev pub scope_of : List Component → Scope
scope_of components = record { names = names_from 0 components; columns = map column_of components }

-- What a clause works on: components, and the names that they have (docs/language.md, "Clauses").
use Rattle.std.specs.Prelude.{ℕ, Bool, true, false, ◌+◌, ◌++◌, List, [], ◌∷◌, map, length, Option, None, option_map, filter_map, position, nat_eq, slice_get, slice_set, if◌then◌else◌}
use Rattle.std.specs.Option.{option_map_or}
use Rattle.vtl_values.specs.declared.kind.Role.{Role}
use Rattle.vtl_values.specs.declared.kind.Role.TheVariants.{Identifier, Measure, Attribute, Viral}
use Rattle.vtl_values.specs.declared.structure.Component.{Component}
use Rattle.scalar_trees.specs.declared.typing.scope.ScopeName.{ScopeName}
use Rattle.scalar_trees.specs.declared.typing.scope.Scope.{Scope}
use Rattle.scalar_trees.specs.typing.Scopes.{names_from, column_of}
use Rattle.data_set_trees.specs.declared.clauses.frame.Frame.{Frame}

-- a data set's components, each under its bare name
abbrev pub frame_of : List Component → Frame
frame_of components = record { names = names_from 0 components; components = components }

-- what names stand for in expressions on a frame
abbrev pub scope_of_frame : Frame → Scope
scope_of_frame frame = record { names = frame.names; columns = map column_of frame.components }

-- ---- parts

abbrev pub is_role : Role → Role → Bool
is_role Identifier Identifier = true
is_role Measure Measure = true
is_role Attribute Attribute = true
is_role Viral Viral = true
is_role _ _ = false

abbrev pub has_role : Role → Component → Bool
has_role role c = is_role role c.role

-- the numbers of the components that pass, where the first has this number
abbrev pub numbers_from : (ℕ → Component → Bool) → ℕ → List Component → List ℕ
numbers_from passes number [] = []
numbers_from passes number (c ∷ cs) = if passes number c then number ∷ numbers_from passes (number + 1) cs else numbers_from passes (number + 1) cs

-- a name whose component comes to stand where its number is in a list; none where it isn't there
abbrev pub moved_name : List ℕ → ScopeName → Option ScopeName
moved_name numbers n = option_map (λ place. record n { number = place }) (position (nat_eq n.number) numbers)

-- the components with these numbers, in this order, under their names
abbrev pub picked : List ℕ → Frame → Frame
picked numbers frame = record { names = filter_map (moved_name numbers) frame.names; components = filter_map (slice_get frame.components) numbers }

-- the components that pass, in their order
abbrev pub kept : (ℕ → Component → Bool) → Frame → Frame
kept passes frame = picked (numbers_from passes 0 frame.components) frame

abbrev pub numbers_of : Role → List Component → List ℕ
numbers_of role components = numbers_from (λ number. has_role role) 0 components

-- the numbers of identifiers, then of measures, attributes and viral attributes
abbrev pub numbers_by_role : List Component → List ℕ
numbers_by_role cs = ((numbers_of Identifier cs ++ numbers_of Measure cs) ++ numbers_of Attribute cs) ++ numbers_of Viral cs

-- the components by role, and those of one role in their order
abbrev pub by_role : Frame → Frame
by_role frame = picked (numbers_by_role frame.components) frame

-- ---- one component more, or another one

abbrev pub bare : List ℕ → ℕ → ScopeName
bare name number = record { alias = None; name = name; number = number }

-- a component more, under its bare name
abbrev pub added : Frame → Component → Frame
added frame c = record { names = frame.names ++ bare c.name (length frame.components) ∷ []; components = frame.components ++ c ∷ [] }

-- the component with this number, if there is one, becomes another one
abbrev pub changed_at : (Component → Component) → ℕ → List Component → List Component
changed_at change number cs = option_map_or (λ c. slice_set cs number (change c)) (slice_get cs number) cs

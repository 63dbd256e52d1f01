-- Which clauses are well typed on a frame: what they name is there, and what they work out is of its kind
-- (docs/language.md, "Clauses").
use Rattle.std.specs.Prelude.{ℕ, Bool, true, not, ◌&&◌, ◌||◌}
use Rattle.std.specs.List.{list_all}
use Rattle.vtl_values.specs.declared.kind.Kind.{Kind}
use Rattle.vtl_values.specs.declared.kind.Kind.TheVariants.{Truth}
use Rattle.vtl_values.specs.declared.kind.Role.{Role}
use Rattle.vtl_values.specs.declared.kind.Role.TheVariants.{Identifier, Viral}
use Rattle.scalar_trees.specs.declared.tree.CheckedExpr.{CheckedExpr}
use Rattle.scalar_trees.specs.WellTyped.{Kinds, is_of_kind}
use Rattle.scalar_trees.specs.declared.typing.scope.Basis.TheVariants.{Point}
use Rattle.scalar_trees.specs.typing.Scopes.{kinds_of}
use Rattle.data_set_trees.specs.declared.clauses.frame.Frame.{Frame}
use Rattle.data_set_trees.specs.declared.clauses.clause.CheckedClause.{CheckedClause}
use Rattle.data_set_trees.specs.declared.clauses.clause.CheckedClause.TheVariants as clause
use Rattle.data_set_trees.specs.declared.clauses.clause.CheckedItem.{CheckedItem}
use Rattle.data_set_trees.specs.clauses.Frames.{scope_of_frame, is_role}
use Rattle.data_set_trees.specs.clauses.Clauses.{passes_at, may_be_target, may_keep, may_drop, are_comparable, are_identifiers, are_alike}

-- the kinds of a frame's components, which an expression may name on a point
abbrev pub kinds_on : Frame → Kinds
kinds_on frame = kinds_of (scope_of_frame frame).columns Point

-- an expression of this kind
abbrev pub is_of : Frame → Kind → CheckedExpr → Bool
is_of frame kind value = is_of_kind (kinds_on frame) value kind

-- what is worked out is a measure or an attribute
abbrev pub may_be_made : Role → Bool
may_be_made role = not (is_role Identifier role || is_role Viral role)

-- an item whose target may be worked out, and whose value is of its kind
abbrev pub is_item : Frame → CheckedItem → Bool
is_item frame i = (may_be_target frame i.target && may_be_made i.role) && is_of frame i.kind i.value

-- there is a component with this number
abbrev pub is_component : Frame → ℕ → Bool
is_component frame number = passes_at (λ c. true) frame number

abbrev pub is_well_typed : Frame → CheckedClause → Bool
is_well_typed frame (clause.Filter condition) = is_of frame Truth condition
is_well_typed frame (clause.Calc items) = list_all (is_item frame) items
is_well_typed frame (clause.Keep numbers) = may_keep frame numbers
is_well_typed frame (clause.Drop numbers) = may_drop frame numbers
is_well_typed frame (clause.Rename renames) = list_all (λ r. is_component frame r.component) renames
is_well_typed frame (clause.Sub items) = are_comparable frame items && are_identifiers frame items
is_well_typed frame (clause.Unpivot identifier measure) = are_alike frame.components
is_well_typed frame (clause.Measures items) = list_all (λ i. is_of frame i.kind i.value) items

-- Which analytic operators are well typed on a frame (docs/language.md, "Analytic operators").
use Rattle.std.specs.Prelude.{Bool, false, ◌&&◌, List, [], ◌∷◌, Some}
use Rattle.std.specs.List.{list_all}
use Rattle.std.specs.Option.{option_map_or}
use Rattle.vtl_values.specs.declared.kind.Kind.{Kind}
use Rattle.vtl_values.specs.declared.kind.Kind.TheVariants.{Integer}
use Rattle.vtl_values.specs.declared.kind.Role.TheVariants.{Identifier}
use Rattle.vtl_values.specs.declared.structure.Component.{Component}
use Rattle.scalar_trees.specs.Kinds.{ANY, agreed}
use Rattle.scalar_trees.specs.WellTyped.{is_kind}
use Rattle.data_set_trees.specs.declared.clauses.frame.Frame.{Frame}
use Rattle.data_set_trees.specs.clauses.Clauses.{may_be_target, passes_at}
use Rattle.data_set_trees.specs.clauses.Frames.{has_role}
use Rattle.data_set_trees.specs.clauses.WellTyped.{is_component, is_of, may_be_made}
use Rattle.data_set_trees.specs.declared.windows.analytic.Analytic.{Analytic}
use Rattle.data_set_trees.specs.declared.windows.analytic.Analytic.TheVariants as analytic
use Rattle.data_set_trees.specs.declared.windows.analytic.AnalyticItem.{AnalyticItem}
use Rattle.data_set_trees.specs.declared.windows.analytic.AnalyticValue.{AnalyticValue}
use Rattle.data_set_trees.specs.declared.windows.analytic.AnalyticValue.TheVariants as value
use Rattle.data_set_trees.specs.declared.windows.analytic.CheckedAnalytic.{CheckedAnalytic}
use Rattle.data_set_trees.specs.declared.windows.analytic.CheckedWindow.{CheckedWindow}
use Rattle.data_set_trees.specs.declared.windows.analytic.CheckedWindow.TheVariants as window
use Rattle.data_set_trees.specs.declared.windows.analytic.Parts.{Parts}
use Rattle.data_set_trees.specs.windows.Functions.{window_gives, window_takes}

-- parts are made by identifiers, and ordered by components that there are
abbrev pub are_parts : Frame → Parts → Bool
are_parts frame p = list_all (passes_at (has_role Identifier) frame) p.partition && list_all (λ o. is_component frame o.component) p.order

-- a component of a kind that is taken gives this kind
abbrev pub gives_of : List Kind → (Kind → Kind) → Kind → Component → Bool
gives_of takes gives kind c = option_map_or (λ own. is_kind (gives own) kind) (agreed takes (Some c.kind ∷ [])) false

-- the operator's value is of this kind
abbrev pub is_of_kind : Frame → Kind → Analytic → Bool
is_of_kind frame kind (analytic.Window f number from to) = passes_at (gives_of (window_takes f) (window_gives f) kind) frame number
is_of_kind frame kind (analytic.CountAll from to) = is_kind Integer kind
is_of_kind frame kind (analytic.Offset f number offset) = passes_at (gives_of ANY (λ own. own) kind) frame number
is_of_kind frame kind analytic.Rank = is_kind Integer kind

abbrev pub is_analytic : Frame → Kind → CheckedAnalytic → Bool
is_analytic frame kind a = are_parts frame a.parts && is_of_kind frame kind a.analytic

abbrev pub is_value : Frame → Kind → AnalyticValue → Bool
is_value frame kind (value.Scalar e) = is_of frame kind e
is_value frame kind (value.Analytic a) = is_analytic frame kind a

-- an item whose target may be worked out, and whose value is of its kind
abbrev pub is_item : Frame → AnalyticItem → Bool
is_item frame i = (may_be_target frame i.target && may_be_made i.role) && is_value frame i.kind i.value

abbrev pub is_well_typed : Frame → CheckedWindow → Bool
is_well_typed frame (window.Measures items) = list_all (λ i. is_analytic frame i.kind i.value) items
is_well_typed frame (window.Calc items) = list_all (is_item frame) items

-- What `over (..)` is checked to be (docs/language.md, "Analytic operators").
use Rattle.std.specs.Prelude.{ℕ, ℤ, Bool, true, ◌&&◌, List, [], map, filter_map, nat_abs, nat_le, Option, Some, None, option_map, is_some, unwrap_or}
use Rattle.std.specs.List.{list_all}
use Rattle.std.specs.Option.{option_map_or}
use Rattle.vtl_values.specs.declared.kind.Role.TheVariants.{Identifier}
use Rattle.vtl_syntax.specs.declared.expr.OrderItem.{OrderItem}
use Rattle.vtl_syntax.specs.declared.expr.Over.{Over}
use Rattle.vtl_syntax.specs.declared.expr.Points.{Points}
use Rattle.vtl_syntax.specs.declared.words.Direction.TheVariants.{Ascending}
use Rattle.vtl_syntax.specs.declared.words.WindowEnd.{WindowEnd}
use Rattle.vtl_syntax.specs.declared.words.WindowEnd.TheVariants as end
use Rattle.vtl_syntax.specs.declared.words.WindowStart.{WindowStart}
use Rattle.vtl_syntax.specs.declared.words.WindowStart.TheVariants as start
use Rattle.data_set_trees.specs.declared.clauses.frame.Frame.{Frame}
use Rattle.data_set_trees.specs.clauses.After.{is_among}
use Rattle.data_set_trees.specs.clauses.Clauses.{bare_number_of, passes_at}
use Rattle.data_set_trees.specs.clauses.Frames.{has_role, numbers_from}
use Rattle.data_set_trees.specs.declared.windows.analytic.OrderedBy.{OrderedBy}
use Rattle.data_set_trees.specs.declared.windows.analytic.Parts.{Parts}

-- ---- names

abbrev pub partition_names : Over → List (List ℕ)
partition_names over = unwrap_or over.partition []

abbrev pub order_items : Over → List OrderItem
order_items over = unwrap_or over.order []

-- each is the name of a component
abbrev pub are_known : Frame → List (List ℕ) → Bool
are_known frame names = list_all (λ name. is_some (bare_number_of frame name)) names

abbrev pub knows : Frame → Over → Bool
knows frame over = are_known frame (partition_names over) && are_known frame (map (λ (o : OrderItem). o.name) (order_items over))

abbrev pub is_identifier_called : Frame → List ℕ → Bool
is_identifier_called frame name = option_map_or (passes_at (has_role Identifier) frame) (bare_number_of frame name) true

-- parts are made by identifiers
abbrev pub may_part : Frame → Over → Bool
may_part frame over = list_all (is_identifier_called frame) (partition_names over)

-- ---- parts

abbrev pub named_numbers : Frame → List (List ℕ) → List ℕ
named_numbers frame names = filter_map (bare_number_of frame) names

abbrev pub ordered_by : Frame → OrderItem → Option OrderedBy
ordered_by frame o = option_map (λ number. record { component = number; direction = unwrap_or o.direction Ascending }) (bare_number_of frame o.name)

-- the identifiers that are named, in their own order, and then the order as it is written
abbrev pub parts_of : Frame → Over → Parts
parts_of frame over = record {
  partition = numbers_from (λ number c. is_among (named_numbers frame (partition_names over)) number) 0 frame.components;
  order = filter_map (ordered_by frame) (order_items over);
}

-- ---- windows

-- a window reaches at most so many points to either side, and an offset as far
abbrev pub MOST_REACH : ℕ
MOST_REACH = 1000

abbrev pub is_within : ℤ → Bool
is_within n = nat_le (nat_abs n) MOST_REACH

abbrev pub starts_within : WindowStart → Bool
starts_within (start.Preceding n) = is_within n
starts_within start.UnboundedPreceding = true
starts_within start.Current = true

abbrev pub ends_within : WindowEnd → Bool
ends_within (end.Following n) = is_within n
ends_within end.UnboundedFollowing = true
ends_within end.Current = true

abbrev pub points_within : Option Points → Bool
points_within None = true
points_within (Some p) = starts_within p.from && ends_within p.to

-- an offset is at least 1
abbrev pub is_offset : ℤ → Bool
is_offset n = nat_le 1 (nat_abs n) && is_within n

-- without the words a window goes from the part's first point to the current one
abbrev pub start_of : Option Points → WindowStart
start_of points = unwrap_or (option_map (λ (p : Points). p.from) points) start.UnboundedPreceding

abbrev pub end_of : Option Points → WindowEnd
end_of points = unwrap_or (option_map (λ (p : Points). p.to) points) end.Current

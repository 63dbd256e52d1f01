-- Rows: what an operand has at a key, before its news and after them.
use Rattle.std.specs.Prelude.{List, [], ◌++◌, map, filter, zip, Bool, true, false, not, ◌&&◌, Option, Some, is_some, is_none}
use Rattle.std.specs.Arc.{arc_value}
use Rattle.std.specs.FinMap.{entries, get}
use Rattle.std.specs.declared.alloc.Global.{Global}
use Rattle.std.specs.declared.cmp.Ordering.{Ordering}
use Rattle.std.specs.declared.cmp.Ordering.TheVariants.{Less, Equal, Greater}
use Rattle.std.specs.declared.sync.Arc.{Arc}
use Rattle.vtl_values.specs.declared.value.Value.{Value}
use Rattle.data_model.specs.Deltas.{Pair}
use Rattle.point_sets.specs.Changes.{Changes, values_of}
use Rattle.held_index.specs.Holdings.{Holding, part_of}
use Rattle.held_index.specs.Walks.{PointValues}
use Rattle.cross_joins.specs.declared.rows.Row.{Row}
use Rattle.cross_joins.specs.declared.rows.Side.{Side}
use Rattle.cross_joins.specs.declared.rows.Side.TheVariants.{Before, After}

-- A key of an operand, what the operand has there before its news and after them, and whether the news change it.
pub record RowValues : Type 0 where
  pub key : List Value
  pub before : Option (List Value)
  pub after : Option (List Value)
  pub is_changed : Bool

-- ---- rows as the code has them

abbrev pub row_values : Row → RowValues
row_values r = record { key = r.key; before = values_of r.before; after = values_of r.after; is_changed = r.is_changed }

abbrev pub shared_row : Arc Row Global → RowValues
shared_row r = row_values (arc_value r)

abbrev pub rows_in : List (Arc Row Global) → List RowValues
rows_in rows = map shared_row rows

abbrev pub lists_in : List (List (Arc Row Global)) → List (List RowValues)
lists_in lists = map rows_in lists

-- ---- the rows of operands

-- a point that stays as it is
abbrev pub kept_row : PointValues → RowValues
kept_row p = record { key = p.0; before = Some p.1; after = Some p.1; is_changed = false }

-- a change: its key, and the values before and after
abbrev pub changed_row : List Value × Pair (List Value) → RowValues
changed_row c = record { key = c.0; before = c.1.0; after = c.1.1; is_changed = true }

-- those of these points that the news don't change
abbrev pub kept_rows : Changes → List PointValues → List RowValues
kept_rows news points = filter (λ r. is_none (get news r.key)) (map kept_row points)

-- of an operand: of the points that stay as they are, and of all news
abbrev pub rows_of : Holding → Changes → List RowValues
rows_of held news = kept_rows news (part_of held.want [] held.content) ++ map changed_row (entries news)

-- those of each operand
abbrev pub all_rows : List Holding → List Changes → List (List RowValues)
all_rows held news = map (λ q. rows_of q.0 q.1) (zip held news)

-- ---- which rows are chosen

-- what there is on a side
abbrev pub on_side : Side → RowValues → Option (List Value)
on_side Before r = r.before
on_side After r = r.after

abbrev pub is_there : Side → RowValues → Bool
is_there side r = is_some (on_side side r)

-- Before the first operand of which a combination has a changed row it has rows that don't change, and after it any.
abbrev pub may_stand : Ordering → Bool → Bool
may_stand Less is_changed = not is_changed
may_stand Equal is_changed = is_changed
may_stand Greater is_changed = true

-- a point that there is on this side, in such a place
abbrev pub is_chosen : Side → Ordering → RowValues → Bool
is_chosen side place r = is_there side r && may_stand place r.is_changed

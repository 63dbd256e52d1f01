-- Data sets as finite maps, and the lists of points that stand for them (docs/language.md, "Data sets").
use Rattle.std.specs.Prelude.{◌≡◌, List, map, Option, Some, None, T}
use Rattle.std.specs.Arc.{arc_value}
use Rattle.std.specs.Coded.{Coded, coded_list}
use Rattle.std.specs.FinMap.{FinMap, from_entries, is_sorted, code}
use Rattle.std.specs.declared.sync.Arc.{Arc}
use Rattle.std.specs.declared.alloc.Global.{Global}
use Rattle.vtl_values.specs.Order.{key_cmp}
use Rattle.vtl_values.specs.declared.value.Value.{Value}
use Rattle.vtl_values.specs.contracts.value.Value as value
use Rattle.point_sets.specs.declared.point.Point.{Point}

-- from keys to the other values
abbrev pub DataSet : Type 0
DataSet = FinMap key_cmp (List Value)

abbrev pub values_coded : Coded (List Value)
values_coded = coded_list (value.the_row).coded

abbrev pub data_set_coded : Coded DataSet
data_set_coded = code values_coded values_coded

-- a point's key, and its other values
abbrev pub as_entry : Point → List Value × List Value
as_entry p = (p.key, p.rest)

abbrev pub key_of : Arc Point Global → List Value
key_of p = (arc_value p).key

-- the values of a point after its key
abbrev pub rest_of : Arc Point Global → List Value
rest_of p = (arc_value p).rest

abbrev pub entry_of : Arc Point Global → List Value × List Value
entry_of p = as_entry (arc_value p)

-- the data set of a list of points; of two points with one key the first counts
abbrev pub of_points : List Point → DataSet
of_points ps = from_entries (map as_entry ps)

-- each key is below those after it
abbrev pub Ascend : List Point → Type 0
Ascend ps = T (is_sorted key_cmp (map as_entry ps))

-- the point that may be there has the key
abbrev pub HasKey : List Value → Option (Arc Point Global) → Type 0
HasKey k None = Unit {0}
HasKey k (Some p) = key_of p ≡ k

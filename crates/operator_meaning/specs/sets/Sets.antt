-- What a set operator gives on data sets of one structure (VTL 2.0 Reference Manual, set operators; docs/language.md,
-- "Sets"). The components of an operand may stand in another order: its keys and points are read by name.
use Rattle.std.specs.Prelude.{Bool, true, false, not, List, [], ◌∷◌, map, zip, filter_map, flat_map, count_by, nat_eq, Option, None, option_map, is_some, if◌then◌else◌}
use Rattle.std.specs.List.{list_any, list_all}
use Rattle.std.specs.Ordering.{eq_by_cmp}
use Rattle.std.specs.FinMap.{get, keys}
use Rattle.vtl_values.specs.declared.structure.Component.{Component}
use Rattle.vtl_values.specs.declared.value.Value.{Value}
use Rattle.vtl_values.specs.Order.{key_cmp}
use Rattle.data_model.specs.Maps.{leftmost}
use Rattle.data_model.specs.Outcomes.{Outcome}
use Rattle.point_sets.specs.DataSets.{DataSet}
use Rattle.structured_sets.specs.Fitting.{others}
use Rattle.clause_meaning.specs.Workings.{Working, outcome_of}
use Rattle.data_set_trees.specs.Components.{has_name}
use Rattle.data_set_trees.specs.declared.tree.SetOperation.{SetOperation}
use Rattle.data_set_trees.specs.declared.tree.SetOperation.TheVariants.{Union, Intersect, Setdiff, Symdiff}
use Rattle.operator_meaning.specs.pairs.Pairs.{key_between, value_where}

-- The operator with the structures of its operands and of its result.
pub record SetOn : Type 0 where
  pub operation : SetOperation
  pub operands : List (List Component)
  pub structure : List Component

-- a set operator on operands of these structures, with a result of that one
abbrev pub set_on : SetOperation → List (List Component) → List Component → SetOn
set_on operation operands structure = record { operation = operation; operands = operands; structure = structure }

-- ---- points of an operand

-- beside its key: the values of a point of the one structure for the components of the other one, by their names
abbrev pub rest_between : List Component → List Component → List Value → List Value
rest_between from to rest = filter_map (λ c. value_where (has_name c.name) (others from) rest) (others to)

-- what a data set of the one structure has at a key of the other one, its values in the order of that one
abbrev pub read_at : List Component → List Component → DataSet → List Value → Option (List Value)
read_at from to a key = option_map (rest_between from to) (get a (key_between to from key))

-- a key of the result is what its key of an operand comes to
abbrev pub is_key_between : List Component → List Component → List Value → Bool
is_key_between from to key = eq_by_cmp key_cmp key (key_between from to (key_between to from key))

-- an operand has points at keys of the result alone
abbrev pub point_at : List Component → List Component → DataSet → List Value → Option (List Value)
point_at from to a key = if is_key_between from to key then read_at from to a key else None

-- ---- the result

-- whether a point stays, by which of the operands have its key
abbrev pub stays : SetOperation → List Bool → Bool
stays Union there = true
stays Intersect there = list_all (λ b. b) there
stays Setdiff [] = false
stays Setdiff (first ∷ rest) = not (list_any (λ b. b) rest)
stays Symdiff there = nat_eq (count_by (λ b. b) there) 1

-- of the points that the operands have at a key: the leftmost one, if it stays
abbrev pub chosen : SetOperation → List (Option (List Value)) → Option (List Value)
chosen operation points = if stays operation (map is_some points) then leftmost points else None

-- the keys of all operands, as those of the result
abbrev pub set_keys : SetOn → List DataSet → List (List Value)
set_keys s sets = flat_map (λ q. map (key_between q.0 s.structure) (keys q.1)) (zip s.operands sets)

-- what the operands have at a key of the result
abbrev pub points_at : SetOn → List DataSet → List Value → List (Option (List Value))
points_at s sets key = map (λ q. point_at q.0 s.structure q.1 key) (zip s.operands sets)

-- the points that stay; none is out of range
abbrev pub set_working : SetOn → List DataSet → Working
set_working s sets = record {
  evaluated = [];
  beyond = λ key. false;
  keys = set_keys s sets;
  value = λ key. chosen s.operation (points_at s sets key);
}

-- what the operator gives
abbrev pub set_meaning : SetOn → List DataSet → Outcome key_cmp (List Value)
set_meaning s sets = outcome_of (set_working s sets)

-- ---- in words

-- what the operands have at a key with a value for each identifier of the result
abbrev pub points_there : SetOn → List DataSet → List Value → List (Option (List Value))
points_there s sets key = map (λ q. read_at q.0 s.structure q.1 key) (zip s.operands sets)

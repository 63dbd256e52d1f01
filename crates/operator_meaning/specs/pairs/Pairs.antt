-- What a scalar operator gives on two data sets (VTL 2.0 Reference Manual, operators on data sets; docs/language.md,
-- "Pairs"). A point is its key and the other values; one after the other they are the values of its components.
use Rattle.std.specs.Prelude.{ℕ, Bool, false, ◌&&◌, ◌++◌, List, [], ◌∷◌, map, zip, find, filter_map, Option, Some, None, option_map, option_and_then, is_none, if◌then◌else◌}
use Rattle.std.specs.Option.{option_map_or, option_zip}
use Rattle.std.specs.Ordering.{eq_by_cmp}
use Rattle.std.specs.FinMap.{get, keys}
use Rattle.vtl_values.specs.declared.kind.Role.TheVariants.{Viral}
use Rattle.vtl_values.specs.declared.structure.Codes.{Codes}
use Rattle.vtl_values.specs.declared.structure.Codes.TheVariants.{Any, Listed}
use Rattle.vtl_values.specs.declared.structure.Component.{Component}
use Rattle.vtl_values.specs.declared.value.Value.{Value}
use Rattle.vtl_values.specs.declared.value.Value.TheVariants.{Null}
use Rattle.vtl_values.specs.Order.{key_cmp}
use Rattle.data_model.specs.Outcomes.{Outcome}
use Rattle.point_sets.specs.DataSets.{DataSet}
use Rattle.viral_attributes.specs.Combination.{combined}
use Rattle.scalar_meaning.specs.Rows.{point_row}
use Rattle.data_set_trees.specs.declared.clauses.clause.CheckedMeasure.{CheckedMeasure}
use Rattle.data_set_trees.specs.clauses.Frames.{has_role}
use Rattle.clause_meaning.specs.Clauses.{worked_values}
use Rattle.clause_meaning.specs.Workings.{Working, outcome_of}
use Rattle.data_set_trees.specs.Components.{identifiers, virals, has_name, include}

-- The operator with the structures of both operands and of its result. The names in its measures are numbers of the
-- components of both operands, those of the second after those of the first.
pub record PairOn : Type 0 where
  pub measures : List CheckedMeasure
  pub left : List Component
  pub right : List Component
  pub structure : List Component

-- the value of the first component that passes
abbrev pub value_where : (Component → Bool) → List Component → List Value → Option Value
value_where passes cs values = option_map (λ q. q.1) (find (λ q. passes q.0) (zip cs values))

-- ---- keys

-- the values of a key of the one structure for the identifiers of the other one, by their names
abbrev pub key_between : List Component → List Component → List Value → List Value
key_between from to key = filter_map (λ c. value_where (has_name c.name) (identifiers from) key) (identifiers to)

-- the first operand is the main one where its identifiers include those of the second; else the second is
abbrev pub is_left_main : PairOn → Bool
is_left_main p = include (identifiers p.left) (identifiers p.right)

-- the structure of the main operand, and that of the other one
abbrev pub main : PairOn → List Component
main p = if is_left_main p then p.left else p.right

abbrev pub partner : PairOn → List Component
partner p = if is_left_main p then p.right else p.left

-- at a key of the result: the keys of the operands
abbrev pub left_key : PairOn → List Value → List Value
left_key p key = key_between p.structure p.left key

abbrev pub right_key : PairOn → List Value → List Value
right_key p key = key_between p.structure p.right key

abbrev pub main_key : PairOn → List Value → List Value
main_key p key = key_between p.structure (main p) key

-- at a key of the main operand: the key of the result, and that of the other operand
abbrev pub result_key : PairOn → List Value → List Value
result_key p key = key_between (main p) p.structure key

abbrev pub partner_key : PairOn → List Value → List Value
partner_key p key = key_between (main p) (partner p) key

-- a key of the result is what its key of the main operand comes to
abbrev pub is_key : PairOn → List Value → Bool
is_key p key = eq_by_cmp key_cmp key (result_key p (main_key p key))

-- ---- points

-- the main operand's points
abbrev pub main_set : PairOn → DataSet → DataSet → DataSet
main_set p a b = if is_left_main p then a else b

abbrev pub partner_set : PairOn → DataSet → DataSet → DataSet
partner_set p a b = if is_left_main p then b else a

-- all values of the point at a key
abbrev pub values_there : DataSet → List Value → Option (List Value)
values_there a key = option_map (λ rest. key ++ rest) (get a key)

-- all values of the points of both operands, where both are there
abbrev pub both_there : PairOn → DataSet → DataSet → List Value → Option (List Value × List Value)
both_there p a b key = option_zip (values_there a (left_key p key)) (values_there b (right_key p key))

-- they are so at keys of the result alone
abbrev pub pair_at : PairOn → DataSet → DataSet → List Value → Option (List Value × List Value)
pair_at p a b key = if is_key p key then both_there p a b key else None

-- ---- values

-- the value of the viral attribute of this name, if there is one
abbrev pub viral_value : List ℕ → List Component → List Value → Option Value
viral_value name = value_where (λ c. has_role Viral c && has_name name c)

-- the codes, the lowest rank first
abbrev pub codes_of : Codes → List (List ℕ)
codes_of Any = []
codes_of (Listed codes) = codes

-- the combination of both values, or the one that there is
abbrev pub one_or_both : List (List ℕ) → Option Value → Option Value → Value
one_or_both codes (Some x) (Some y) = combined codes (x ∷ y ∷ [])
one_or_both codes (Some x) None = x
one_or_both codes None (Some y) = y
one_or_both codes None None = Null

-- of all values of both points: those of the viral attributes of the result
abbrev pub viral_values : PairOn → List Value → List Value → List Value
viral_values p a b = map (λ c. one_or_both (codes_of c.codes) (viral_value c.name p.left a) (viral_value c.name p.right b)) (virals p.structure)

-- of all values of both points: the measures, and then the viral attributes; none where a measure is out of range
abbrev pub pair_values : PairOn → List Value → List Value → Option (List Value)
pair_values p a b = option_map (λ vs. vs ++ viral_values p a b) (worked_values (point_row a b) p.measures)

-- ---- the result

-- the keys of the result, of points with and without a partner
abbrev pub pair_keys : PairOn → DataSet → DataSet → List (List Value)
pair_keys p a b = map (result_key p) (keys (main_set p a b))

-- each two points that are paired, out of range where one of their measures is
abbrev pub pair_working : PairOn → DataSet → DataSet → Working
pair_working p a b = record {
  evaluated = pair_keys p a b;
  beyond = λ key. option_map_or (λ q. is_none (pair_values p q.0 q.1)) (pair_at p a b key) false;
  keys = pair_keys p a b;
  value = λ key. option_and_then (λ q. pair_values p q.0 q.1) (pair_at p a b key);
}

-- what the operator gives
abbrev pub pair_meaning : PairOn → DataSet → DataSet → Outcome key_cmp (List Value)
pair_meaning p a b = outcome_of (pair_working p a b)

-- How the operands of a set operator are read (docs/language.md, "Sets").
use Rattle.std.specs.Prelude.{List, map, zip, Option, option_map}
use Rattle.std.specs.FinMap.{get}
use Rattle.vtl_values.specs.declared.structure.Component.{Component}
use Rattle.vtl_values.specs.declared.value.Value.{Value}
use Rattle.point_sets.specs.DataSets.{DataSet}
use Rattle.structured_sets.specs.Fitting.{identifiers, others}
use Rattle.clause_meaning.specs.Clauses.{values_at}
use Rattle.set_ops.specs.Orders.{numbers_between}
use Rattle.set_ops.specs.declared.reading.Reading.{Reading}

-- how an operand of the one structure is read where the result has the other one
abbrev pub reading_between : List Component → List Component → Reading
reading_between from to = record {
  key = numbers_between (identifiers from) (identifiers to);
  own = numbers_between (identifiers to) (identifiers from);
  rest = numbers_between (others from) (others to);
}

-- how all operands are read
abbrev pub readings_of : List (List Component) → List Component → List Reading
readings_of operands structure = map (λ from. reading_between from structure) operands

-- what the operands have at a key of the result, in their own order
abbrev pub own_points : List Reading → List DataSet → List Value → List (Option (List Value))
own_points readings sets key = map (λ q. get q.1 (values_at q.0.own key)) (zip readings sets)

-- the same in the order of the result
abbrev pub in_order : List Reading → List (Option (List Value)) → List (Option (List Value))
in_order readings points = map (λ q. option_map (values_at q.0.rest) q.1) (zip readings points)

-- what is read of the operands at a key of the result
abbrev pub read_points : List Reading → List DataSet → List Value → List (Option (List Value))
read_points readings sets key = in_order readings (own_points readings sets key)

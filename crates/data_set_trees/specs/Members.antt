-- `a#c` of a data set (docs/language.md, "Structures of results").
use Rattle.std.specs.Prelude.{ℕ, ◌+◌, List, [], ◌∷◌, length, nat_le, Option, Some, None, Ok, if◌then◌else◌}
use Rattle.vtl_values.specs.declared.kind.Role.TheVariants.{Measure}
use Rattle.vtl_values.specs.declared.place.Place.{Place}
use Rattle.vtl_values.specs.declared.structure.Component.{Component}
use Rattle.scalar_trees.specs.declared.tree.CheckedExpr.TheVariants as tree
use Rattle.scalar_trees.specs.declared.typing.stop.Fault.TheVariants.{UnknownComponent, WrongStructure, NameTwice, TooManyComponents}
use Rattle.scalar_trees.specs.typing.Steps.{◌>>=◌, or_refused, demanded, refused}
use Rattle.data_set_trees.specs.declared.clauses.clause.CheckedMeasure.{CheckedMeasure}
use Rattle.data_set_trees.specs.declared.clauses.clause.CheckedClause.TheVariants as clause
use Rattle.data_set_trees.specs.clauses.Clauses.{MOST_COMPONENTS}
use Rattle.data_set_trees.specs.clauses.Frames.{has_role}
use Rattle.data_set_trees.specs.declared.operand.DataSet.{DataSet}
use Rattle.data_set_trees.specs.declared.operand.Operand.{Operand}
use Rattle.data_set_trees.specs.declared.operand.Operand.TheVariants as operand
use Rattle.data_set_trees.specs.Components.{has_name, name_of_kind}
use Rattle.data_set_trees.specs.Trees.{SetAnswer, with_clause}
use Rattle.data_set_trees.specs.Lifted.{is_free}

-- a component as a measure: under its own name if it is one, else under the name of its kind
abbrev pub as_measure : Component → CheckedMeasure → CheckedMeasure
as_measure c m = if has_role Measure c then m else record m { name = name_of_kind c.kind }

abbrev pub member_at : ℕ → Component → CheckedMeasure
member_at number c = as_measure c (record { name = c.name; kind = c.kind; value = tree.Component number })

-- the component of this name, as a measure; the first of these has this number
abbrev pub member_from : ℕ → List ℕ → List Component → Option CheckedMeasure
member_from number name [] = None
member_from number name (c ∷ cs) = if has_name name c then Some (member_at number c) else member_from (number + 1) name cs

-- a data set within the limit of components: a component that is no measure is one more where it is chosen
abbrev pub in_room : Place → DataSet → SetAnswer
in_room place d = demanded (nat_le (length d.structure) MOST_COMPONENTS) TooManyComponents place >>= (λ met. Ok (operand.DataSet d))

abbrev pub member_typed : List ℕ → Place → Operand → SetAnswer
member_typed name place (operand.Scalar t) = refused WrongStructure place
member_typed name place (operand.DataSet d) =
    or_refused (member_from 0 name d.structure) UnknownComponent place
    >>= (λ m. demanded (is_free (Some m.name) d.structure) NameTwice place
    >>= (λ free. in_room place (with_clause (clause.Measures (m ∷ [])) place d)))

-- What is tried on small data sets.
use Rattle.std.specs.Prelude.{ℕ, List, [], ◌∷◌, codes, None}
use Rattle.vtl_values.specs.declared.kind.Kind.TheVariants.{Text}
use Rattle.vtl_values.specs.declared.kind.Role.TheVariants.{Identifier}
use Rattle.vtl_values.specs.declared.structure.Component.{Component}
use Rattle.vtl_syntax.specs.declared.expr.Over.{Over}
use Rattle.data_set_trees.specs.declared.clauses.clause.CheckedClause.TheVariants.{Rename}
use Rattle.data_set_trees.specs.clauses.After.{made}
use Rattle.data_set_trees.specs.declared.operand.Operand.{Operand}
use Rattle.data_set_trees.specs.Examples.{here, amount, input}
use Rattle.expression_rules.specs.declared.point_clause.PointClause.TheVariants.{Alone}
use Rattle.expression_rules.specs.JoinClauses.{Placed}

-- a clause that renames the first component of a join
abbrev pub renamed_first : List ℕ → List Placed
renamed_first name = record { clause = Alone (Rename (record { component = 0; name = name } ∷ [])); place = here } ∷ []

-- `over ()`
abbrev pub whole : Over
whole = record { partition = None; order = None; points = None; place = here }

abbrev pub made_period : Component
made_period = made Identifier Text (codes "TIME_PERIOD")

-- amounts by period
abbrev pub by_period : Operand
by_period = input 7 (made_period ∷ amount ∷ [])

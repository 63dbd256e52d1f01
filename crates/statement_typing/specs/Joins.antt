-- Joins, from the operands and the clauses that stand in them.
use Rattle.std.specs.Prelude.{◌++◌, List, [], ◌∷◌, map, Option, Some, None, Result, Ok}
use Rattle.std.specs.Option.{option_to_list}
use Rattle.vtl_values.specs.declared.place.Place.{Place}
use Rattle.vtl_syntax.specs.declared.words.JoinFunction.{JoinFunction}
use Rattle.vtl_syntax.specs.declared.expr.Clause.{Clause}
use Rattle.vtl_syntax.specs.declared.expr.JoinOperand.{JoinOperand, out-JoinOperand}
use Rattle.scalar_trees.specs.declared.typing.stop.Refusal.{Refusal}
use Rattle.scalar_trees.specs.typing.Scalars.{place_of}
use Rattle.scalar_trees.specs.typing.Steps.{◌>>=◌}
use Rattle.expression_rules.specs.declared.point_clause.PointClause.{PointClause}
use Rattle.expression_rules.specs.Expressions.{Naming, Typing, typing}
use Rattle.data_set_trees.specs.Joins.{alias_of}
use Rattle.expression_rules.specs.JoinClauses.{join_typed}
use Rattle.expression_rules.specs.OnClauses.{point_checked}
use Rattle.expression_rules.specs.PointClauses.{after}
use Rattle.data_set_trees.specs.Trees.{SetAnswer}
use Rattle.statement_typing.specs.Parts.{after_all}
use Rattle.statement_typing.specs.declared.joins.Inside.{Inside}

-- the clauses that are there, in their order
abbrev pub clauses_in : Option Clause → Option Clause → Option Clause → Option Clause → List Clause
clauses_in filter calc keep rename = ((option_to_list filter ++ option_to_list calc) ++ option_to_list keep) ++ option_to_list rename

abbrev pub typing_of : JoinOperand → Typing
typing_of o = typing (out-JoinOperand o).expr

-- the clauses so far, and one more
abbrev pub put_clause : Clause → Inside → PointClause → Inside
put_clause c s checked = record { clauses = s.clauses ++ record { clause = checked; place = place_of c } ∷ []; frame = after checked s.frame }

abbrev pub with_one : Clause → Inside → Result Inside Refusal
with_one c s = point_checked c s.frame >>= (λ checked. Ok (put_clause c s checked))

abbrev pub with_optional : Option Clause → Inside → Result Inside Refusal
with_optional None s = Ok s
with_optional (Some c) s = with_one c s

-- the clauses that are there, one after the other
abbrev pub with_each : Option Clause → Option Clause → Option Clause → Option Clause → Inside → Result Inside Refusal
with_each filter calc keep rename s = with_optional filter s >>= (λ a. with_optional calc a >>= (λ b. with_optional keep b >>= with_optional rename))

-- a join on these operands
abbrev pub join_on : Naming → JoinFunction → Place → JoinOperand → JoinOperand → List JoinOperand → List Clause → SetAnswer
join_on naming f place a b others cs = after_all naming (map typing_of (a ∷ b ∷ others)) (join_typed f place (map alias_of (a ∷ b ∷ others)) cs)

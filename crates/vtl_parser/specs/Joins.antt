-- Joins, as the parser reads them part by part. Operands are of the rule g of a single one, seen by `of`.
use Rattle.std.specs.Prelude.{List, Option}
use Rattle.vtl_syntax.specs.declared.expr.Clause.{Clause}
use Rattle.vtl_grammar.specs.Rules as rules
use Rattle.vtl_grammar.specs.Rules.{Rule, part, ◌▸◌, option, repeated, clause, keeping, renaming, operands, comma, open_paren, close_paren, Of}
use Rattle.vtl_grammar.specs.Calls.{join_clauses}
use Rattle.vtl_parser.specs.declared.join.JoinPart.{JoinPart}
use Rattle.vtl_parser.specs.declared.join.JoinPart.TheVariants as join_parts
use Rattle.vtl_parser.specs.declared.join.JoinClauses.{JoinClauses}
use Rattle.vtl_parser.specs.Operands.{first_and_others_of}

abbrev pub join_part_of : JoinPart → rules.JoinPart
join_part_of join_parts.Filter = rules.filtering
join_part_of join_parts.Calc = rules.calculating
join_part_of join_parts.Keep = rules.keeping
join_part_of join_parts.Rename = rules.renaming

-- ["keep" .. or "drop" ..] ["rename" ..])
abbrev pub last_clauses : Rule
last_clauses = option (part (clause keeping)) (option (part (clause renaming)) close_paren)

abbrev pub last_clauses_of : Of last_clauses → Option Clause × Option Clause
last_clauses_of v = (v.0, v.1.0)

abbrev pub clauses_of : Of join_clauses → JoinClauses
clauses_of v = record { filter = v.0; calc = v.1.0; keep = v.1.1.0; rename = v.1.1.1.0 }

-- g {"," g} and the clauses
abbrev pub join_rest : Rule → Rule
join_rest g = repeated operands g (comma ▸ g) ▸ join_clauses

abbrev pub join_rest_of : {R : Type 0} (g : Rule) → (Of g → R) → Of (join_rest g) → (R × List R) × JoinClauses
join_rest_of g of v = (first_and_others_of of v.0, clauses_of v.1)

-- "(" g "," and what comes after it
abbrev pub whole_join : Rule → Rule
whole_join g = open_paren ▸ g ▸ comma ▸ join_rest g

abbrev pub whole_join_of : {R : Type 0} (g : Rule) → (Of g → R) → Of (whole_join g) → R × ((R × List R) × JoinClauses)
whole_join_of g of v = (of v.1.0, join_rest_of g of v.1.1.1)

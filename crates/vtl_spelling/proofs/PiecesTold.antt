-- The pieces of a script, as their rules tell them.
use Rattle.vtl_grammar.specs.Scripts.{PieceKind, a_statement, a_ruleset, an_operator, piece_rule, OfKind, piece_tree}
use Rattle.vtl_spelling.specs.Kinds.{Kinds}
use Rattle.vtl_spelling.specs.Rulesets.{ruleset_spelled}
use Rattle.vtl_spelling.specs.Operators.{operator_spelled}
use Rattle.vtl_spelling.specs.Scripts.{statement_spelled}
use Rattle.vtl_spelling.specs.Placeless.{ruleset_placeless, operator_placeless, statement_placeless}
use Rattle.vtl_spelling.proofs.Told.{Told}
use Rattle.vtl_spelling.proofs.RulesetsTold.{ruleset-told, statement-told}
use Rattle.vtl_spelling.proofs.OperatorsTold.{operator-told}

abbrev pub piece_spelled : (k : PieceKind) → OfKind k → Kinds
piece_spelled a_statement x = statement_spelled x
piece_spelled a_ruleset x = ruleset_spelled x
piece_spelled an_operator x = operator_spelled x

abbrev pub piece_placeless : (k : PieceKind) → OfKind k → OfKind k
piece_placeless a_statement x = statement_placeless x
piece_placeless a_ruleset x = ruleset_placeless x
piece_placeless an_operator x = operator_placeless x

pub piece-told : (k : PieceKind) → Told (piece_rule k) (λ v. piece_tree k v) (λ x. piece_spelled k x) (λ x. piece_placeless k x)
piece-told a_statement = statement-told
piece-told a_ruleset = ruleset-told
piece-told an_operator = operator-told

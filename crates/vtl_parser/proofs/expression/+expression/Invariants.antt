use Rattle.vtl_parser.proofs.expression.+expression.Given as goal

-- an expression inside has fewer levels
abbrev pub decreases-expression : goal.decreases-expression
decreases-expression l = l.depth

use Rattle.std.proofs.Common.{◌≡◌, map, length}
use Rattle.expression_rules.specs.JoinClauses as meant
use Rattle.join_typing.specs.Inside.{EachFits}
use Rattle.join_typing.specs.Joining.{placed, DifferAtEnd}
use Rattle.join_typing.proofs.inside.with_clauses.Given as goal

abbrev pub invariant-loop-placed : goal.invariant-loop-placed
invariant-loop-placed l = record {
  value : meant.with_clauses (map placed l.fn.clauses) l.fn.frame l.fn.set ≡ meant.with_clauses (map placed l.clauses) l.frame l.set;
  fits : EachFits (map placed l.clauses) l.frame;
  differ : DifferAtEnd (map placed l.clauses) l.frame;
}

abbrev pub decreases-loop-placed : goal.decreases-loop-placed
decreases-loop-placed l = length l.clauses

use Rattle.std.proofs.Common.{◌≡◌, ◌+◌, ◌*◌, map, take}
use denote.Param.Weighed.{most}
use Rattle.vtl_syntax.specs.declared.expr.Expr.{size-Expr}
use Rattle.defined_operators.specs.Uses.{used_from}
use Rattle.defined_operators.specs.Writers.{flags, writes, far}
use Rattle.defined_operators.proofs.writer.Writer.+written.Given as goal

abbrev pub decreases-written : goal.decreases-written
decreases-written l = far l.writer.now + (5 * (size-Expr l.tree.now) + 2)

abbrev pub decreases-called : goal.decreases-called
decreases-called l = far l.self.now + (5 * (most size-Expr l.arguments.now) + 5)

abbrev pub decreases-call : goal.decreases-call
decreases-call l = far l.self.now + 1

abbrev pub decreases-body_for : goal.decreases-body_for
decreases-body_for l = far l.self.now

abbrev pub decreases-used_arguments : goal.decreases-used_arguments
decreases-used_arguments l = far l.self.now + (5 * (most size-Expr l.arguments.now) + 4)

abbrev pub decreases-argument_if : goal.decreases-argument_if
decreases-argument_if l = far l.self.now + (5 * (size-Expr l.argument.now) + 3)

abbrev pub invariant-used_arguments-loop-i : goal.invariant-used_arguments-loop-i
invariant-used_arguments-loop-i l = l.made ≡ used_from (flags l.self l.name) 0 l.place (map (writes l.self) (take l.i l.arguments))

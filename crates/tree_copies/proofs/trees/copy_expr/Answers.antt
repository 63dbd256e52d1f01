use Rattle.std.specs.Prelude.{IfOk}
use Rattle.std.proofs.Common.{◌≡◌, subst}
use Rattle.vtl_syntax.specs.declared.expr.Expr.{Expr}
use Rattle.tree_copies.proofs.Fused.{stays}
use Rattle.tree_copies.proofs.trees.copy_expr.Goals as goal

pub returns : goal.returns
returns c = subst (λ (z : Expr). IfOk c.copied.result (λ copy. copy ≡ z)) (stays c.args.tree.now) c.copied.ensures

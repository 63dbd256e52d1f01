use Rattle.std.proofs.Common.{◌<◌, subst, sym}
use Rattle.vtl_syntax.specs.declared.expr.Expr.{Expr, size-Expr}
use Rattle.scalar_trees.specs.typing.Scopes.{kinds_of}
use Rattle.scalar_trees.specs.typing.Scalars.{typed}
use Rattle.component_typing.specs.Parts.{Answers}
use Rattle.component_typing.proofs.checker.Checker.part_on.Goals as goal

pub returns : goal.returns
returns g c =
    let scope = c.args.self.now.scope.now in
    let inside : size-Expr c.get.result.now < size-Expr c.args.self.now.tree.now = subst (λ (e : Expr). size-Expr e < size-Expr c.args.self.now.tree.now) (sym c.get.ensures) c.requires.inside in
    subst (λ (e : Expr). Answers (kinds_of scope.columns c.args.basis) (typed scope c.args.basis e) c.expression.result) c.get.ensures (c.requires.types.types c.args.basis c.get.result c.expression.result inside c.expression.ensures)

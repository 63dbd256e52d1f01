use Rattle.scalar_trees.specs.typing.Steps.{◌>>=◌}
use Rattle.scalar_trees.specs.typing.Scopes.{kinds_of}
use Rattle.scalar_trees.specs.typing.Scalars as meant
use Rattle.scalar_trees.proofs.typing.Sound.{if-typed}
use Rattle.component_typing.proofs.Steps.{answers_after, answers_as, ends_there}
use Rattle.component_typing.proofs.checker.Checker.chosen.Goals as goal

pub returns : goal.returns
returns g c =
    let kinds = kinds_of c.args.self.now.scope.now.columns c.args.self.now.basis in
    let x = c.in_ok-condition.condition in
    let a = c.in_ok-holds.holds in
    let b = c.in_ok-fails.fails in
    let next = meant.if_typed c.args.place in
    answers_after kinds (meant.typed c.args.self.now.scope.now c.args.self.now.basis c.args.condition.now) (λ x. (meant.typed c.args.self.now.scope.now c.args.self.now.basis c.args.holds.now) >>= (λ y. (meant.typed c.args.self.now.scope.now c.args.self.now.basis c.args.fails.now) >>= next x y)) x c.if_typed.result c.in_ok-condition.ensures.ok
    (answers_after kinds (meant.typed c.args.self.now.scope.now c.args.self.now.basis c.args.holds.now) (λ y. (meant.typed c.args.self.now.scope.now c.args.self.now.basis c.args.fails.now) >>= next x y) a c.if_typed.result c.in_ok-holds.ensures.ok
    (answers_after kinds (meant.typed c.args.self.now.scope.now c.args.self.now.basis c.args.fails.now) (next x a) b c.if_typed.result c.in_ok-fails.ensures.ok
    (answers_as kinds (next x a b) c.if_typed.result c.if_typed.ensures.ok c.if_typed.ensures.err (if-typed kinds c.args.place x a b c.if_typed.result c.if_typed.ensures.ok c.in_ok-condition.ensures.typed c.in_ok-holds.ensures.typed c.in_ok-fails.ensures.typed))))

pub returns-in_err-fails : goal.returns-in_err-fails
returns-in_err-fails g c =
    let kinds = kinds_of c.args.self.now.scope.now.columns c.args.self.now.basis in
    let x = c.in_ok-condition.condition in
    let y = c.in_ok-holds.holds in
    let next = meant.if_typed c.args.place in
    let r = c.from_residual-in_err-fails.result in
    answers_after kinds (meant.typed c.args.self.now.scope.now c.args.self.now.basis c.args.condition.now) (λ x. (meant.typed c.args.self.now.scope.now c.args.self.now.basis c.args.holds.now) >>= (λ y. (meant.typed c.args.self.now.scope.now c.args.self.now.basis c.args.fails.now) >>= next x y)) x r c.in_ok-condition.ensures.ok
    (answers_after kinds (meant.typed c.args.self.now.scope.now c.args.self.now.basis c.args.holds.now) (λ y. (meant.typed c.args.self.now.scope.now c.args.self.now.basis c.args.fails.now) >>= next x y) y r c.in_ok-holds.ensures.ok
    (ends_there kinds (meant.typed c.args.self.now.scope.now c.args.self.now.basis c.args.fails.now) (next x y) c.in_err-fails.field-0.0 r c.in_err-fails.ensures.err c.from_residual-in_err-fails.ensures.1))

pub returns-in_err-holds : goal.returns-in_err-holds
returns-in_err-holds g c =
    let kinds = kinds_of c.args.self.now.scope.now.columns c.args.self.now.basis in
    let x = c.in_ok-condition.condition in
    let next = meant.if_typed c.args.place in
    let r = c.from_residual-in_err-holds.result in
    answers_after kinds (meant.typed c.args.self.now.scope.now c.args.self.now.basis c.args.condition.now) (λ x. (meant.typed c.args.self.now.scope.now c.args.self.now.basis c.args.holds.now) >>= (λ y. (meant.typed c.args.self.now.scope.now c.args.self.now.basis c.args.fails.now) >>= next x y)) x r c.in_ok-condition.ensures.ok
    (ends_there kinds (meant.typed c.args.self.now.scope.now c.args.self.now.basis c.args.holds.now) (λ y. (meant.typed c.args.self.now.scope.now c.args.self.now.basis c.args.fails.now) >>= next x y) c.in_err-holds.field-0.0 r c.in_err-holds.ensures.err c.from_residual-in_err-holds.ensures.1)

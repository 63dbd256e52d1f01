use Rattle.scalar_trees.specs.typing.Steps.{◌>>=◌}
use Rattle.scalar_trees.specs.typing.Scopes.{kinds_of}
use Rattle.scalar_trees.specs.typing.Scalars as meant
use Rattle.std.specs.Option.{option_map}
use Rattle.scalar_trees.proofs.typing.Sound.{replace-typed}
use Rattle.component_typing.proofs.Steps.{answers_after, answers_as, ends_there}
use Rattle.component_typing.proofs.checker.Checker.replaced.Goals as goal

pub returns : goal.returns
returns g c =
    let kinds = kinds_of c.args.self.now.scope.now.columns c.args.self.now.basis in
    let a = c.in_ok-operand.operand in
    let old = c.in_ok-pattern.pattern in
    let new = c.in_ok-by.by in
    let next = meant.replace_typed c.args.place in
    answers_after kinds (meant.typed c.args.self.now.scope.now c.args.self.now.basis c.args.operand.now) (λ x. (meant.typed c.args.self.now.scope.now c.args.self.now.basis c.args.pattern.now) >>= (λ y. (meant.typed_if (option_map meant.meaning c.args.by.now) c.args.self.now.scope.now c.args.self.now.basis) >>= next x y)) a c.replace_typed.result c.in_ok-operand.ensures.ok
    (answers_after kinds (meant.typed c.args.self.now.scope.now c.args.self.now.basis c.args.pattern.now) (λ y. (meant.typed_if (option_map meant.meaning c.args.by.now) c.args.self.now.scope.now c.args.self.now.basis) >>= next a y) old c.replace_typed.result c.in_ok-pattern.ensures.ok
    (answers_after kinds (meant.typed_if (option_map meant.meaning c.args.by.now) c.args.self.now.scope.now c.args.self.now.basis) (next a old) new c.replace_typed.result c.in_ok-by.ensures.ok
    (answers_as kinds (next a old new) c.replace_typed.result c.replace_typed.ensures.ok c.replace_typed.ensures.err (replace-typed kinds c.args.place a old new c.replace_typed.result c.replace_typed.ensures.ok c.in_ok-operand.ensures.typed c.in_ok-pattern.ensures.typed c.in_ok-by.ensures.typed))))

pub returns-in_err-by : goal.returns-in_err-by
returns-in_err-by g c =
    let kinds = kinds_of c.args.self.now.scope.now.columns c.args.self.now.basis in
    let x = c.in_ok-operand.operand in
    let y = c.in_ok-pattern.pattern in
    let next = meant.replace_typed c.args.place in
    let r = c.from_residual-in_err-by.result in
    answers_after kinds (meant.typed c.args.self.now.scope.now c.args.self.now.basis c.args.operand.now) (λ x. (meant.typed c.args.self.now.scope.now c.args.self.now.basis c.args.pattern.now) >>= (λ y. (meant.typed_if (option_map meant.meaning c.args.by.now) c.args.self.now.scope.now c.args.self.now.basis) >>= next x y)) x r c.in_ok-operand.ensures.ok
    (answers_after kinds (meant.typed c.args.self.now.scope.now c.args.self.now.basis c.args.pattern.now) (λ y. (meant.typed_if (option_map meant.meaning c.args.by.now) c.args.self.now.scope.now c.args.self.now.basis) >>= next x y) y r c.in_ok-pattern.ensures.ok
    (ends_there kinds (meant.typed_if (option_map meant.meaning c.args.by.now) c.args.self.now.scope.now c.args.self.now.basis) (next x y) c.in_err-by.field-0.0 r c.in_err-by.ensures.err c.from_residual-in_err-by.ensures.1))

pub returns-in_err-pattern : goal.returns-in_err-pattern
returns-in_err-pattern g c =
    let kinds = kinds_of c.args.self.now.scope.now.columns c.args.self.now.basis in
    let x = c.in_ok-operand.operand in
    let next = meant.replace_typed c.args.place in
    let r = c.from_residual-in_err-pattern.result in
    answers_after kinds (meant.typed c.args.self.now.scope.now c.args.self.now.basis c.args.operand.now) (λ x. (meant.typed c.args.self.now.scope.now c.args.self.now.basis c.args.pattern.now) >>= (λ y. (meant.typed_if (option_map meant.meaning c.args.by.now) c.args.self.now.scope.now c.args.self.now.basis) >>= next x y)) x r c.in_ok-operand.ensures.ok
    (ends_there kinds (meant.typed c.args.self.now.scope.now c.args.self.now.basis c.args.pattern.now) (λ y. (meant.typed_if (option_map meant.meaning c.args.by.now) c.args.self.now.scope.now c.args.self.now.basis) >>= next x y) c.in_err-pattern.field-0.0 r c.in_err-pattern.ensures.err c.from_residual-in_err-pattern.ensures.1)

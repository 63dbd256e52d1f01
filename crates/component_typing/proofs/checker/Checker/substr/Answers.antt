use Rattle.std.specs.Prelude.{option_and_then}
use Rattle.std.specs.Option.{option_map}
use Rattle.scalar_trees.specs.typing.Steps.{◌>>=◌}
use Rattle.scalar_trees.specs.typing.Scopes.{kinds_of}
use Rattle.scalar_trees.specs.typing.Scalars as meant
use Rattle.scalar_trees.proofs.typing.Sound.{substr-typed}
use Rattle.component_typing.specs.Parts.{range_meaning}
use Rattle.component_typing.proofs.Steps.{answers_after, answers_as, ends_there}
use Rattle.component_typing.proofs.checker.Checker.substr.Goals as goal

pub returns : goal.returns
returns g c =
    let kinds = kinds_of c.args.self.now.scope.now.columns c.args.self.now.basis in
    let a = c.in_ok-operand.operand in
    let from = c.in_ok-start.start in
    let count = c.in_ok-length.length in
    let next = meant.substr_typed c.args.place in
    let r = c.substr_typed.result in
    answers_after kinds (meant.typed c.args.self.now.scope.now c.args.self.now.basis c.args.operand.now) (λ x. (meant.typed_if (option_map (λ r. r.start) (option_map range_meaning c.args.range.now)) c.args.self.now.scope.now c.args.self.now.basis) >>= (λ s. (meant.typed_if (option_and_then (λ r. r.length) (option_map range_meaning c.args.range.now)) c.args.self.now.scope.now c.args.self.now.basis) >>= next x s)) a r c.in_ok-operand.ensures.ok
    (answers_after kinds (meant.typed_if (option_map (λ r. r.start) (option_map range_meaning c.args.range.now)) c.args.self.now.scope.now c.args.self.now.basis) (λ s. (meant.typed_if (option_and_then (λ r. r.length) (option_map range_meaning c.args.range.now)) c.args.self.now.scope.now c.args.self.now.basis) >>= next a s) from r c.in_ok-start.ensures.ok
    (answers_after kinds (meant.typed_if (option_and_then (λ r. r.length) (option_map range_meaning c.args.range.now)) c.args.self.now.scope.now c.args.self.now.basis) (next a from) count r c.in_ok-length.ensures.ok
    (answers_as kinds (next a from count) r c.substr_typed.ensures.ok c.substr_typed.ensures.err (substr-typed kinds c.args.place a from count r c.substr_typed.ensures.ok c.in_ok-operand.ensures.typed c.in_ok-start.ensures.typed c.in_ok-length.ensures.typed))))

pub returns-in_err-length : goal.returns-in_err-length
returns-in_err-length g c =
    let kinds = kinds_of c.args.self.now.scope.now.columns c.args.self.now.basis in
    let x = c.in_ok-operand.operand in
    let y = c.in_ok-start.start in
    let next = meant.substr_typed c.args.place in
    let r = c.from_residual-in_err-length.result in
    answers_after kinds (meant.typed c.args.self.now.scope.now c.args.self.now.basis c.args.operand.now) (λ x. (meant.typed_if (option_map (λ r. r.start) (option_map range_meaning c.args.range.now)) c.args.self.now.scope.now c.args.self.now.basis) >>= (λ s. (meant.typed_if (option_and_then (λ r. r.length) (option_map range_meaning c.args.range.now)) c.args.self.now.scope.now c.args.self.now.basis) >>= next x s)) x r c.in_ok-operand.ensures.ok
    (answers_after kinds (meant.typed_if (option_map (λ r. r.start) (option_map range_meaning c.args.range.now)) c.args.self.now.scope.now c.args.self.now.basis) (λ s. (meant.typed_if (option_and_then (λ r. r.length) (option_map range_meaning c.args.range.now)) c.args.self.now.scope.now c.args.self.now.basis) >>= next x s) y r c.in_ok-start.ensures.ok
    (ends_there kinds (meant.typed_if (option_and_then (λ r. r.length) (option_map range_meaning c.args.range.now)) c.args.self.now.scope.now c.args.self.now.basis) (next x y) c.in_err-length.field-0.0 r c.in_err-length.ensures.err c.from_residual-in_err-length.ensures.1))

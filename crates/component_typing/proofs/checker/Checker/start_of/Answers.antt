use Rattle.std.proofs.Common.{Some, Ok, sym, ◌∙◌}
use Rattle.std.specs.Option.{option_map}
use Rattle.scalar_trees.specs.typing.Steps.{◌>>=◌}
use Rattle.scalar_trees.specs.typing.Scalars as meant
use Rattle.component_typing.specs.Parts.{range_meaning}
use Rattle.component_typing.proofs.Levels.{start_given}
use Rattle.operator_typing.proofs.Steps.{goes_on, stops_there, stops_same, passed_on}
use Rattle.component_typing.proofs.checker.Checker.start_of.Goals as goal

pub returns-in_ok-part-in-Some : goal.returns-in_ok-part-in-Some
returns-in_ok-part-in-Some g c =
    let scope = c.args.self.now.scope.now in
    let basis = c.args.self.now.basis in
    let start = meant.typed scope basis c.in-Some.range.start in
    record {
      ok = start_given scope basis c.args.range.now c.in-Some.range c.in-Some.is ∙ goes_on start (λ a. Ok (Some a)) c.in_ok-part-in-Some.field-0 (c.in_ok-part-in-Some.ensures {u = tt}).ok;
      err = tt;
      typed = (c.in_ok-part-in-Some.ensures {u = tt}).typed;
    }

pub returns-in_err-part-in-Some-clause-err : goal.returns-in_err-part-in-Some-clause-err
returns-in_err-part-in-Some-clause-err g c =
    let scope = c.args.self.now.scope.now in
    let basis = c.args.self.now.basis in
    let start = meant.typed scope basis c.in-Some.range.start in
    let whole = meant.typed_if (option_map (λ r. r.start) (option_map range_meaning c.args.range.now)) scope basis in
    let stop = c.in_err-part-in-Some.field-0.0 in
    passed_on whole c.from_residual.result stop
    (stops_same (start >>= (λ a. Ok (Some a))) whole stop (sym (start_given scope basis c.args.range.now c.in-Some.range c.in-Some.is)) (stops_there start (λ a. Ok (Some a)) stop (c.in_err-part-in-Some.ensures {u = tt}).err))
    c.from_residual.ensures.1

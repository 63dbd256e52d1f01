use Rattle.std.proofs.Common.{Option, Result, Ok, Err, IfOk, IfSome, subst}
use Rattle.vtl_values.specs.Texts.{Fits}
use Rattle.vtl_values.specs.declared.value.Value.{Value}
use Rattle.scalar_meaning.specs.Scalars.{meaning}
use Rattle.scalar_meaning.proofs.Kept.{kinds-kept}
use Rattle.scalar_eval.specs.declared.stop.EvalStop.{EvalStop}
use Rattle.scalar_eval.specs.Stops.{IsMeant}
use Rattle.scalar_eval.proofs.evaluation.eval.Goals as goal

-- what holds of a meaning holds of the answer
told : (P : Value → Type 0) (m : Option Value) (r : Result Value EvalStop) → IsMeant m r → IfSome m P → IfOk r P
told P m (Ok v) e h = subst (λ (o : Option Value). IfSome o P) e h
told P m (Err stop) e h = tt

pub returns-clause-kept : goal.returns-clause-kept
returns-clause-kept g c = λ kinds kind typed fit. told (Fits kind) (meaning (g.R.Row.values c.args.row.now) c.args.expr.now) c.value_of.result c.value_of.ensures (kinds-kept c.args.expr.now kinds (g.R.Row.values c.args.row.now) kind typed fit)

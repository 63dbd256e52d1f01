use Rattle.std.proofs.Common.{◌≡◌, Option, Some, option_map, rules, sym, ap, subst, ◌∙◌}
use Rattle.vtl_values.specs.declared.value.Value.{Value}
use Rattle.scalar_meaning.specs.Texts.{part_of}
use Rattle.scalar_meaning.specs.Scalars.{if_given, meaning}
use Rattle.scalar_eval.specs.declared.stop.EvalStop.{EvalStop}
use Rattle.scalar_eval.specs.declared.stop.EvalStop.TheVariants.{Range, Memory}
use Rattle.scalar_eval.specs.Stops.{Stops}
use Rattle.scalar_eval.proofs.Steps.{substr_is}
use Rattle.scalar_eval.proofs.evaluation.+values.Goals as goal

-- what is made of none is none
stops-made : {A B : Type 0} (f : A → B) (m : Option A) (stop : EvalStop) → Stops m stop → Stops (option_map f m) stop
stops-made f m Range h = ap (option_map f) h
stops-made f m Memory h = tt

pub of_text-returns-in_err-count-in-Substr : goal.of_text-returns-in_err-count-in-Substr
of_text-returns-in_err-count-in-Substr g t c =
    let row = g.R.Row.values c.args.row.now in
    let e1 : meaning row c.in-Substr.operand ≡ Some c.in_ok-value-in-Substr.value = cc (c.in_ok-value-in-Substr.ensures) in
    let e2 : if_given (option_map (meaning row) c.in-Substr.start) ≡ Some c.in_ok-start-in-Substr.start = cc (c.in_ok-start-in-Substr.ensures) in
    let e = substr_is row c.args.expr.now c.in-Substr.operand c.in-Substr.start c.in-Substr.length c.in_ok-value-in-Substr.value c.in_ok-start-in-Substr.start c.in-Substr.is e1 e2 in
    let stops : Stops (if_given (option_map (meaning row) c.in-Substr.length)) c.in_err-count-in-Substr.field-0.0 = c.in_err-count-in-Substr.ensures in
    let made : Stops (meaning row c.args.expr.now) c.in_err-count-in-Substr.field-0.0 =
    subst (λ (o : Option Value). Stops o c.in_err-count-in-Substr.field-0.0) (sym e) (stops-made (part_of c.in_ok-value-in-Substr.value c.in_ok-start-in-Substr.start) (if_given (option_map (meaning row) c.in-Substr.length)) c.in_err-count-in-Substr.field-0.0 stops) in
    search (rules, made)

pub of_text-returns-in_ok-part_of-in-Substr : goal.of_text-returns-in_ok-part_of-in-Substr
of_text-returns-in_ok-part_of-in-Substr g t c =
    let row = g.R.Row.values c.args.row.now in
    let e1 : meaning row c.in-Substr.operand ≡ Some c.in_ok-value-in-Substr.value = cc (c.in_ok-value-in-Substr.ensures) in
    let e2 : if_given (option_map (meaning row) c.in-Substr.start) ≡ Some c.in_ok-start-in-Substr.start = cc (c.in_ok-start-in-Substr.ensures) in
    let e = substr_is row c.args.expr.now c.in-Substr.operand c.in-Substr.start c.in-Substr.length c.in_ok-value-in-Substr.value c.in_ok-start-in-Substr.start c.in-Substr.is e1 e2 in
    let e3 : if_given (option_map (meaning row) c.in-Substr.length) ≡ Some c.in_ok-count-in-Substr.count = cc (c.in_ok-count-in-Substr.ensures) in
    let e4 : part_of c.in_ok-value-in-Substr.value c.in_ok-start-in-Substr.start c.in_ok-count-in-Substr.count ≡ c.in_ok-part_of-in-Substr.field-0 = cc (c.in_ok-part_of-in-Substr.ensures) in
    e ∙ ap (option_map (part_of c.in_ok-value-in-Substr.value c.in_ok-start-in-Substr.start)) e3 ∙ ap Some e4

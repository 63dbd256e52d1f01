use Rattle.std.proofs.Common.{◌≡◌, ℕ, List, [], ◌∷◌, ◌++◌, map, refl, sym, ap, ◌∙◌, subst}
use Rattle.std.specs.Prelude.{IfOk, OnOk}
use Rattle.operator_faults.specs.declared.outline.What.TheVariants as what
use Rattle.written_sizes.specs.declared.measure.Measure.TheVariants as measure
use Rattle.written_sizes.specs.declared.outermost.Outermost.{Outermost}
use Rattle.written_sizes.specs.Arithmetic.{capped}
use Rattle.written_sizes.specs.Outermost.{told}
use Rattle.written_sizes.proofs.SeenLemmas.{call-seen, within-outside, within-calls}
use Rattle.written_sizes.proofs.outermost.+see.Goals as goal

pub put_calls-returns-in_ok-push-in-Call-clause-calls : goal.put_calls-returns-in_ok-push-in-Call-clause-calls
put_calls-returns-in_ok-push-in-Call-clause-calls t c =
    let out = c.args.out.now in
    (c.in_ok-push-in-Call.ensures {u = tt}).ok
    ∙ ap (λ (x : Outermost). out ++ x ∷ []) c.outermost_call.ensures
    ∙ sym (ap (λ (xs : List Outermost). out ++ xs) (call-seen c.args.operators.now c.args.outline.now c.in-Call.call c.args.above c.in-Call.is))

pub put_calls-returns-in-Plain-clause-outside : goal.put_calls-returns-in-Plain-clause-outside
put_calls-returns-in-Plain-clause-outside t c =
    subst (λ (k : ℕ). IfOk c.put_within.result (λ n. n ≡ capped measure.Expressions k)) (within-outside c.args.operators.now c.args.outline.now what.Plain c.in-Plain.is (λ xs. refl)) c.put_within.ensures.outside

pub put_calls-returns-in-Plain-clause-calls : goal.put_calls-returns-in-Plain-clause-calls
put_calls-returns-in-Plain-clause-calls t c =
    subst (λ (xs : List Outermost). OnOk c.put_within.result (c.put_within.new.out ≡ c.args.out.now ++ map told xs)) (within-calls c.args.operators.now c.args.outline.now what.Plain c.args.above c.in-Plain.is (λ xs. refl)) c.put_within.ensures.calls

pub put_calls-returns-in-Level-clause-outside : goal.put_calls-returns-in-Level-clause-outside
put_calls-returns-in-Level-clause-outside t c =
    subst (λ (k : ℕ). IfOk c.put_within-in-Level.result (λ n. n ≡ capped measure.Expressions k)) (within-outside c.args.operators.now c.args.outline.now what.Level c.in-Level.is (λ xs. refl)) c.put_within-in-Level.ensures.outside

pub put_calls-returns-in-Level-clause-calls : goal.put_calls-returns-in-Level-clause-calls
put_calls-returns-in-Level-clause-calls t c =
    subst (λ (xs : List Outermost). OnOk c.put_within-in-Level.result (c.put_within-in-Level.new.out ≡ c.args.out.now ++ map told xs)) (within-calls c.args.operators.now c.args.outline.now what.Level c.args.above c.in-Level.is (λ xs. refl)) c.put_within-in-Level.ensures.calls

pub put_calls-returns-in-Inside-clause-outside : goal.put_calls-returns-in-Inside-clause-outside
put_calls-returns-in-Inside-clause-outside t c =
    subst (λ (k : ℕ). IfOk c.put_within-in-Inside.result (λ n. n ≡ capped measure.Expressions k)) (within-outside c.args.operators.now c.args.outline.now what.Inside c.in-Inside.is (λ xs. refl)) c.put_within-in-Inside.ensures.outside

pub put_calls-returns-in-Inside-clause-calls : goal.put_calls-returns-in-Inside-clause-calls
put_calls-returns-in-Inside-clause-calls t c =
    subst (λ (xs : List Outermost). OnOk c.put_within-in-Inside.result (c.put_within-in-Inside.new.out ≡ c.args.out.now ++ map told xs)) (within-calls c.args.operators.now c.args.outline.now what.Inside c.args.above c.in-Inside.is (λ xs. refl)) c.put_within-in-Inside.ensures.calls

pub put_calls-returns-in-InsideJoin-clause-outside : goal.put_calls-returns-in-InsideJoin-clause-outside
put_calls-returns-in-InsideJoin-clause-outside t c =
    subst (λ (k : ℕ). IfOk c.put_within-in-InsideJoin.result (λ n. n ≡ capped measure.Expressions k)) (within-outside c.args.operators.now c.args.outline.now what.InsideJoin c.in-InsideJoin.is (λ xs. refl)) c.put_within-in-InsideJoin.ensures.outside

pub put_calls-returns-in-InsideJoin-clause-calls : goal.put_calls-returns-in-InsideJoin-clause-calls
put_calls-returns-in-InsideJoin-clause-calls t c =
    subst (λ (xs : List Outermost). OnOk c.put_within-in-InsideJoin.result (c.put_within-in-InsideJoin.new.out ≡ c.args.out.now ++ map told xs)) (within-calls c.args.operators.now c.args.outline.now what.InsideJoin c.args.above c.in-InsideJoin.is (λ xs. refl)) c.put_within-in-InsideJoin.ensures.calls

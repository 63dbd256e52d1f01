use Rattle.std.proofs.Common.{List, [], ◌∷◌, ◌++◌, sym, ap, ◌∙◌}
use Rattle.vtl_syntax.specs.declared.operator.DefinedOperator.{DefinedOperator}
use Rattle.vtl_syntax.specs.declared.operator.Param.{Param}
use Rattle.operator_faults.specs.declared.outline.Outline.{Outline}
use Rattle.written_sizes.specs.declared.form.Form.{Form}
use Rattle.written_sizes.specs.Arithmetic.{limited}
use Rattle.written_sizes.specs.Weights.{form}
use Rattle.written_sizes.proofs.Forms.{next-form, body-there}
use Rattle.written_sizes.proofs.weights.next_forms.Goals as goal
use Rattle.written_sizes.proofs.weights.next_forms.Goals.{in-Some+in_ok-form+in_ok-push, in_default}

pub loop-i-preserved : goal.loop-i-preserved
loop-i-preserved c =
    let m = c.args.measure in
    let os = c.args.operators.now in
    let o = c.index-operators-i.result in
    elim c.match-outline_at.branch [
      | in-Some+in_ok-form+in_ok-push w ↦ next-form (λ (q : DefinedOperator) (b : Outline). form (limited m) m os c.args.forms.now q.params b) os c.args.bodies.now c.loop-i.i o w.in-Some.body.now c.loop-i.next c.match-outline_at.next
          c.loop-i-test.true c.index-operators-i.is c.requires (sym w.in-Some.ensures) c.loop-i.invariant
          (w.next-is ∙ (w.in_ok-push.ensures {u = tt}).ok ∙ ap (λ (f : Form). c.loop-i.next ++ f ∷ []) (w.in_ok-form.ensures ∙ ap (λ (ps : List Param). form (limited m) m os c.args.forms.now ps w.in-Some.body.now) w.as_slice-params.ensures))
      | in_default w ↦ absurd (body-there os c.args.bodies.now c.loop-i.i c.loop-i-test.true c.requires (sym w.in_default.ensures))
    ]

use Rattle.std.proofs.Common.{refl, ◌∙◌}
use Rattle.operator_faults.specs.declared.outline.What.TheVariants as what
use Rattle.written_sizes.specs.Arithmetic.{limited}
use Rattle.written_sizes.proofs.Forms.{weight-call, weight-node}
use Rattle.written_sizes.proofs.weights.+weigh.Goals as goal

pub weight-returns-in-Call : goal.weight-returns-in-Call
weight-returns-in-Call t c =
    weight-call (limited c.args.measure) c.args.measure c.args.operators.now c.args.forms.now c.args.params.now c.args.share c.args.outline.now c.in-Call.call c.call_weight.result c.as_slice.result.now
    c.in-Call.is c.as_slice.ensures c.call_weight.ensures

pub weight-returns-in-Plain : goal.weight-returns-in-Plain
weight-returns-in-Plain t c = c.node.ensures ∙ weight-node (limited c.args.measure) c.args.measure c.args.operators.now c.args.forms.now c.args.params.now c.args.share c.args.outline.now what.Plain c.in-Plain.is (λ ns. refl)

pub weight-returns-in-Level : goal.weight-returns-in-Level
weight-returns-in-Level t c = c.node-in-Level.ensures ∙ weight-node (limited c.args.measure) c.args.measure c.args.operators.now c.args.forms.now c.args.params.now c.args.share c.args.outline.now what.Level c.in-Level.is (λ ns. refl)

pub weight-returns-in-Inside : goal.weight-returns-in-Inside
weight-returns-in-Inside t c = c.node-in-Inside.ensures ∙ weight-node (limited c.args.measure) c.args.measure c.args.operators.now c.args.forms.now c.args.params.now c.args.share c.args.outline.now what.Inside c.in-Inside.is (λ ns. refl)

pub weight-returns-in-InsideJoin : goal.weight-returns-in-InsideJoin
weight-returns-in-InsideJoin t c = c.node-in-InsideJoin.ensures ∙ weight-node (limited c.args.measure) c.args.measure c.args.operators.now c.args.forms.now c.args.params.now c.args.share c.args.outline.now what.InsideJoin c.in-InsideJoin.is (λ ns. refl)

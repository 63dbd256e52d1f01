use Rattle.std.proofs.Common.{refl, ap, ◌∙◌}
use Rattle.data_model.specs.Deltas.{apply}
use Rattle.point_sets.specs.DataSets.{DataSet}
use Rattle.round_core.proofs.NextLemmas.{next_is}
use Rattle.round_core.proofs.inputs.Inputs.next.Goals as goal

pub returns-clause-value : goal.returns-clause-value
returns-clause-value c = λ bases tos nows afters kept is.
    next_is bases tos nows afters c.args.self.now c.args.share _ c.index.result.now c.index-2.result.now kept is refl c.index.ensures (c.in_ok-apply.ensures.ok ∙ ap (λ (x : DataSet). apply c.args.share.delta x) c.in_ok-value.ensures) c.index-2.ensures c.in_ok-newer.ensures

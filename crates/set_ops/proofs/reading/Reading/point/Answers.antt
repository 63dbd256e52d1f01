use Rattle.std.proofs.Common.{sym, ap, ◌∙◌}
use Rattle.vtl_values.proofs.Values.{key_cmp-IsTotalOrder, key_cmp-IsAntisymmetric}
use Rattle.data_model.proofs.MapLemmas.{tied}
use Rattle.point_sets.specs.declared.point.Point.{Point}
use Rattle.set_ops.proofs.reading.Reading.point.Goals as goal

pub returns-then-eq-clause-key : goal.returns-then-eq-clause-key
returns-then-eq-clause-key c =
    ap (λ (p : Point). p.key) (c.in_ok-clone.ensures.cases ∙ sym c.deref-then-keeps.ensures)
    ∙ tied key_cmp-IsTotalOrder key_cmp-IsAntisymmetric c.deref-then-keeps.result.now.key c.args.key.now (sym c.if-eq.ensures)

use Rattle.std.proofs.Common.{◌∙◌, ap, refl}
use Rattle.point_sets.specs.declared.point.Point.{Point}
use Rattle.point_sets.proofs.whole.coming.Goals as goal

pub returns : goal.returns
returns c = record { key = c.in_ok-copy.ensures ∙ ap (λ (p : Point). p.key) c.deref.ensures; old = refl; new = c.in_ok-clone.ensures.cases }

use Rattle.std.proofs.Common.{◌≡◌, None, ◌∙◌, ap, subst}
use Rattle.std.specs.Arc.{arc_value}
use Rattle.operator_meaning.specs.Scripts.{script_wrong}
use Rattle.round_journal.specs.Journals.{inputs}
use Rattle.round_journal.proofs.BoundLemmas.{in_bounds-legal}
use Rattle.round_core.specs.Kept.{state_at}
use Rattle.round_core.specs.Seen.{Seen, state_in}
use Rattle.round_core.proofs.production.Production.latest.Goals as goal

pub returns-clause-in_bounds : goal.returns-clause-in_bounds
returns-clause-in_bounds c =
    let a = c.self.inside.machine in
    let s = state_at a in
    let k = c.self.invariant in
    subst (λ (p : Seen). script_wrong (state_in p).latest.script.script (inputs a.latest.prefix (state_in p)) ≡ None) c.self.view_is (ap (λ m. script_wrong s.latest.script.script (inputs m s)) k.sound.release.prefix_is ∙ in_bounds-legal (arc_value a.first) a.journal.items k.within.checked k.within.legal)

use Rattle.std.proofs.Common.{◌≡◌, true, sym, ◌∙◌, ap, arith, List}
use Rattle.std.specs.Prelude.{count_by}
use Rattle.round_core.specs.Slots.{is_out}
use Rattle.round_core.specs.declared.slot.Slot.{Slot}
use Rattle.std.proofs.Common.{subst}
use Rattle.std.specs.List.{All}
use Rattle.data_set_trees.specs.checked.Scripts.{Script}
use Rattle.round_core.specs.Kept.{state_at}
use Rattle.round_core.specs.Slots.{ReadyIn}
use Rattle.round_core.proofs.ClaimLemmas.{opened_of}
use Rattle.round_core.proofs.AnswerLemmas.{count_works, none_ready_in}
use Rattle.round_core.proofs.production.Production.claim.Goals as goal

pub returns-in-None-clause-none_ready : goal.returns-in-None-clause-none_ready
returns-in-None-clause-none_ready c =
    let a = c.self.inside.machine in
    let run : a.counts.running ≡ true = grind (arith, c.if-not-self.false) in
    let o = opened_of a c.self.invariant.within c.self.invariant.sound run in
    let none = none_ready_in (state_at a) a.slots.items o (subst (λ (q : Script). All (λ i. ¬ (ReadyIn a.slots.items i)) q.order) c.self.invariant.sound.scripts.round (c.next_ready.ensures.none c.in-None.is)) in
    let works = c.count_out.ensures ∙ ap (λ (v : List Slot). count_by is_out v) c.as_slice.ensures.value ∙ count_works (state_at a) a.slots.items o in
    λ out. rw (← c.self.view_is) ((λ e. (o.running, none, (let q : c.count_out.result ≡ out = cc e in sym q ∙ works))), (λ h. let q : c.count_out.result ≡ out = works ∙ sym h.2 in cc q))

use Rattle.std.proofs.Common.{◌≡◌, ◌<◌, ℕ, List, length, drop, sym, ◌∙◌, ap, arith, subst}
use Rattle.std.specs.Prelude.{IfSome}
use Rattle.std.specs.Arc.{arc_value}
use Rattle.std.specs.List.{All}
use Rattle.std.proofs.lemmas.List.Elements.{All-drop}
use Rattle.data_set_trees.specs.checked.Scripts.{Script}
use Rattle.round_core.specs.declared.slot.Slot.{Slot}
use Rattle.round_core.specs.Slots.{ReadyIn, FirstReadyIn}
use Rattle.round_core.proofs.ClaimLemmas.{waits_not, script_below, first_after, none_after, none_over, rest_of, if_some_weaker}
use Rattle.round_core.proofs.machine.Machine.next_ready.Goals as goal

pub returns-then-order-self-clause-none : goal.returns-then-order-self-clause-none
returns-then-order-self-clause-none c e =
    let a = c.args.self.now in
    let order : c.order-order.result.now ≡ (arc_value a.script).order = c.order-order.ensures ∙ ap (λ (q : Script). q.order) c.deref.ensures in
    let long = ap length order in
    none_over a.slots.items (arc_value a.script).order a.passed (omega (arith, long, c.if-order-self.true)) (waits_not a c.requires.kept.sound c.requires.running)

pub first_ready-requires : goal.first_ready-requires
first_ready-requires c =
    let a = c.args.self.now in
    let order : c.order-order.result.now ≡ (arc_value a.script).order = c.order-order.ensures ∙ ap (λ (q : Script). q.order) c.deref.ensures in
    let below = All-drop (λ i. i < length a.slots.items) a.passed (arc_value a.script).order (script_below a c.requires.kept.within c.requires.kept.sound) in
    subst (λ (xs : List ℕ). All (λ i. i < length c.as_slice.result.now) xs) (sym (rest_of c.order-order.result.now a.passed ∙ ap (λ (xs : List ℕ). drop a.passed xs) order))
    (subst (λ (v : List Slot). All (λ i. i < length v) (drop a.passed (arc_value a.script).order)) (sym c.as_slice.ensures.value) below)

pub returns-clause-found : goal.returns-clause-found
returns-clause-found c =
    let a = c.args.self.now in
    let order : c.order-order.result.now ≡ (arc_value a.script).order = c.order-order.ensures ∙ ap (λ (q : Script). q.order) c.deref.ensures in
    let rest = drop a.passed (arc_value a.script).order in
    let found = subst (λ (v : List Slot). IfSome c.first_ready.result (FirstReadyIn v rest)) c.as_slice.ensures.value (subst (λ (xs : List ℕ). IfSome c.first_ready.result (FirstReadyIn c.as_slice.result.now xs)) (rest_of c.order-order.result.now a.passed ∙ ap (λ (xs : List ℕ). drop a.passed xs) order) c.first_ready.ensures.found) in
    if_some_weaker (FirstReadyIn a.slots.items rest) (FirstReadyIn a.slots.items (arc_value a.script).order) c.first_ready.result found (λ i. first_after a.slots.items (arc_value a.script).order a.passed i (waits_not a c.requires.kept.sound c.requires.running))

pub returns-clause-none : goal.returns-clause-none
returns-clause-none c e =
    let a = c.args.self.now in
    let order : c.order-order.result.now ≡ (arc_value a.script).order = c.order-order.ensures ∙ ap (λ (q : Script). q.order) c.deref.ensures in
    let rest = drop a.passed (arc_value a.script).order in
    let none = subst (λ (v : List Slot). All (λ i. ¬ (ReadyIn v i)) rest) c.as_slice.ensures.value (subst (λ (xs : List ℕ). All (λ i. ¬ (ReadyIn c.as_slice.result.now i)) xs) (rest_of c.order-order.result.now a.passed ∙ ap (λ (xs : List ℕ). drop a.passed xs) order) (c.first_ready.ensures.none e)) in
    none_after a.slots.items (arc_value a.script).order a.passed (waits_not a c.requires.kept.sound c.requires.running) none

use Rattle.std.proofs.Common.{Bor, ℕ, List, refl}
use Rattle.vtl_values.specs.Texts.{same_text}
use Rattle.vtl_values.specs.declared.structure.Component.{Component}
use Rattle.clause_typing.proofs.Differing.{Next, one_more, repeated, all_seen}
use Rattle.result_components.proofs.Keys.{names_keyed}
use Rattle.result_components.proofs.asked.names_differ.Goals as goal

pub returns-then-not-new : goal.returns-then-not-new
returns-then-not-new c =
    let next : Next names_keyed c.args.components.now c.loop-component.component-index c.loop-component.seen.keys c.component-item.result (record { ref_ptr = c.args.components.ref_ptr; now = c.component-item.result.name }) c.in_ok-new.new = record {
      within = c.loop-component-test.true;
      item = c.component-item.is;
      key_is = refl;
      seen = c.loop-component.invariant;
      tells = c.in_ok-new.ensures.added;
    } in
    repeated next c.if-not-new.true

pub loop-component-preserved : goal.loop-component-preserved
loop-component-preserved c =
    let next : Next names_keyed c.args.components.now c.loop-component.component-index c.loop-component.seen.keys c.component-item.result _ c.in_ok-new.new = record {
      within = c.loop-component-test.true;
      item = c.component-item.is;
      key_is = refl;
      seen = c.loop-component.invariant;
      tells = c.in_ok-new.ensures.added;
    } in
    one_more next c.if-not-new.false c.in_ok-new.ensures.keys

pub returns : goal.returns
returns c = all_seen (λ (a b : Component). same_text a.name b.name) (λ c. c.name) (λ (k : Bor (List ℕ)). k.now) c.args.components.now c.loop-component.component-index c.loop-component.seen.keys c.loop-component-test.false c.loop-component.invariant

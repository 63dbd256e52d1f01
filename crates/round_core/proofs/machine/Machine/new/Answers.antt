use Rattle.std.proofs.Common.{subst, sym, ◌∙◌, ap, length}
use Rattle.round_core.specs.Inputs.{AreEmpty}
use Rattle.round_core.specs.declared.counts.Counts.{Counts}
use Rattle.round_core.specs.Kept.{KeptMachine}
use Rattle.round_core.proofs.NewLemmas.{kept_new}
use Rattle.round_core.proofs.machine.Machine.new.Goals as goal

pub returns-clause-kept : goal.returns-clause-kept
returns-clause-kept c = subst (λ (k : Counts). KeptMachine (record { first = c.in_ok-first.first; newest = c.in_ok-clone.field-0; script = c.in_ok-clone-2.field-0; limits = c.args.limits; journal = c.new-3.result; counts = k; inputs = c.in_ok-inputs.inputs; slots = c.in_ok-slots.slots; passed = 0; room = c.new-5.result; latest = record { number = 0; prefix = 0; script = 0; pages = c.in_ok-pages.pages }; earlier = c.in_ok-with_capacity.field-0 })) (sym c.new-4.ensures) (kept_new c.args.script c.args.limits c.in_ok-first.first c.in_ok-clone.field-0 c.in_ok-clone-2.field-0 c.new-3.result c.in_ok-inputs.inputs c.in_ok-slots.slots c.new-5.result c.in_ok-pages.pages c.in_ok-with_capacity.field-0 c.requires.checked c.requires.entries c.requires.fields c.requires.some c.requires.scripts c.in_ok-first.ensures.ok (c.in_ok-clone.ensures.cases ∙ c.in_ok-first.ensures.ok) (c.in_ok-clone-2.ensures.cases ∙ c.in_ok-first.ensures.ok) c.new-3.ensures.items (subst (λ n. AreEmpty n c.in_ok-inputs.inputs) (c.len.ensures.len ∙ ap length c.inputs.ensures) c.in_ok-inputs.ensures) c.in_ok-slots.ensures.many c.in_ok-slots.ensures.each c.new-5.ensures.items c.in_ok-pages.ensures c.in_ok-with_capacity.ensures.items c.in_ok-with_capacity.ensures.capacity)

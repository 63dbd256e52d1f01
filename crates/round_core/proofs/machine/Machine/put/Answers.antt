use Rattle.std.proofs.Common.{ap}
use Rattle.std.proofs.Common.{set}
use Rattle.round_core.specs.declared.slot.Slot.{Slot}
use Rattle.round_core.proofs.machine.Machine.put.Goals as goal

pub returns-clause-slots : goal.returns-clause-slots
returns-clause-slots c = (c.index_mut-slot.result.now, c.index_mut-slot.ensures.value, ap (λ (y : Slot). set c.args.self.now.slots.items c.args.statement y) c.put.ensures)

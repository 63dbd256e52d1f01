use Rattle.round_core.proofs.JudgeLemmas.{inputs_fit}
use Rattle.round_core.proofs.machine.Machine.judge_one.Goals as goal

pub judge-requires : goal.judge-requires
judge-requires c = rw c.inputs.ensures (rw c.deref.ensures (inputs_fit c.args.self.now c.as_slice.result.now c.requires.kept.sound c.as_slice.ensures.value))

use Rattle.std.proofs.Common.{sym}
use Rattle.revision_judge.proofs.Judgements.{input-is}
use Rattle.revision_judge.proofs.tallies.input_at.Goals as goal

pub returns : goal.returns
returns c = sym (input-is c.args.inputs.now c.args.number c.index-inputs-number.result c.requires c.index-inputs-number.is)

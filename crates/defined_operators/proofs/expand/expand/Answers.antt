use Rattle.defined_operators.proofs.Plain.{plain_is_faultless}
use Rattle.defined_operators.proofs.Unwritten.{expanded_as_it_is}
use Rattle.defined_operators.proofs.expand.expand.Goals as goal

pub returns-then-is_plain-clause-ok : goal.returns-then-is_plain-clause-ok
returns-then-is_plain-clause-ok c =
    let plain = c.is_plain.ensures.0 c.if-is_plain.true in
    expanded_as_it_is c.args.script (plain_is_faultless c.args.script plain.0 plain.1) plain.0

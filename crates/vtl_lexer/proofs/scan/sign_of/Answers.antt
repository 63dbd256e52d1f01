use Rattle.vtl_lexer.specs.Scans.{sign_of}
use Rattle.vtl_lexer.proofs.ScanLemmas.{sign_of-room}
use Rattle.vtl_lexer.proofs.scan.sign_of.Goals as goal

pub returns-clause-sign : goal.returns-clause-sign
unfolding sign_of
returns-clause-sign c = c.first_sign.ensures

pub returns-clause-room : goal.returns-clause-room
unfolding sign_of
returns-clause-room c = sign_of-room c.args.text.now c.first_sign.result c.first_sign.ensures

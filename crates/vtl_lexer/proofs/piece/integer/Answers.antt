use Rattle.std.proofs.Common.{Err, ℤ, ap, subst}
use Rattle.vtl_lexer.specs.Answers.{Gives}
use Rattle.vtl_lexer.proofs.PieceLemmas.{integer_in-told, integer-fault}
use Rattle.vtl_lexer.proofs.piece.integer.Goals as goal

pub returns-in-Ok : goal.returns-in-Ok
returns-in-Ok c = subst (Gives {X = ℤ} c.integer_in.result) (integer_in-told c.args.text.now c.in-Ok.value c.requires.some c.requires.ascii c.in-Ok.ensures.ok) c.integer_in.ensures

pub returns-in-Err-Bad : goal.returns-in-Err-Bad
returns-in-Err-Bad c =
    let fault = c.in-Err-Bad.field-0-0 in
    integer-fault c.args.text.now fault c.requires.some c.requires.ascii ((c.in-Err-Bad.ensures.bad fault).0 (ap Err c.in-Err-Bad.field-0-is))

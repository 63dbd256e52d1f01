use Rattle.vtl_cursor.proofs.Tables.{some_read, none_read}
use Rattle.vtl_cursor.proofs.choices.choice.Goals as goal

pub returns-in-Some : goal.returns-in-Some
returns-in-Some g c = rw c.skip.ensures (some_read g.C.Choice.words c.args.cursor.now.tokens.now c.in-Some.choice c.in-Some.ensures)

pub returns-in-None : goal.returns-in-None
returns-in-None g c = none_read g.C.Choice.words c.args.cursor.now.tokens.now c.in-None.ensures

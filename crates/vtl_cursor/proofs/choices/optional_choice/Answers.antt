use Rattle.vtl_cursor.proofs.Tables.{some_offered, none_offered}
use Rattle.vtl_cursor.proofs.choices.optional_choice.Goals as goal

pub returns-in-Some : goal.returns-in-Some
returns-in-Some g c = rw c.skip.ensures (some_offered g.C.Choice.words c.args.cursor.now.tokens.now c.in-Some.choice c.in-Some.ensures)

pub returns-in-None : goal.returns-in-None
returns-in-None g c = none_offered g.C.Choice.words c.args.cursor.now.tokens.now c.in-None.ensures

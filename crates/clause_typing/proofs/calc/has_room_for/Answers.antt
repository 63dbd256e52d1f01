use Rattle.clause_typing.proofs.Rooms.{fits, full}
use Rattle.clause_typing.proofs.calc.has_room_for.Goals as goal

pub returns-in-Some : goal.returns-in-Some
returns-in-Some c = fits c.args.items.now c.args.frame.now c.len.result c.in-Some.left c.count_new.result c.len.ensures (c.in-Some.ensures).0 (c.in-Some.ensures).1 c.count_new.ensures

pub returns-in-None : goal.returns-in-None
returns-in-None c = full c.args.items.now c.args.frame.now c.len.result c.len.ensures (c.in-None.ensures)

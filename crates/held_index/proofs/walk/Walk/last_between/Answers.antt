use Rattle.std.proofs.Common.{sym, ◌∙◌, arith}
use Rattle.held_index.proofs.WalkLemmas.{last-stretch}
use Rattle.held_index.proofs.walk.Walk.last_between.Goals as goal

pub returns-then-from-to : goal.returns-then-from-to
returns-then-from-to c = c.nth.ensures ∙ sym (last-stretch c.args.from c.args.to c.args.self.now.points (omega arith) (omega arith))

use Rattle.held_index.proofs.walk.Walk.copy.Goals as goal

pub invariant_of-result : goal.invariant_of-result
invariant_of-result c = rw (c.in_ok-clone.ensures.cases, c.in_ok-copy.ensures) c.self.invariant

pub returns-clause-walk : goal.returns-clause-walk
returns-clause-walk c = rw (← c.self.view_is) c.self.invariant.walk

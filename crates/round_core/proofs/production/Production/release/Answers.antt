use Rattle.round_core.proofs.production.Production.release.Goals as goal

pub returns-clause-gone : goal.returns-clause-gone
returns-clause-gone c = rw (← c.self.view_is) c.release.ensures.gone

pub returns-clause-not_yet : goal.returns-clause-not_yet
returns-clause-not_yet c = rw (← c.self.view_is) c.release.ensures.not_yet

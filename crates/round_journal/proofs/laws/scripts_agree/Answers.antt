use Rattle.round_journal.proofs.ProductionLemmas.{ScriptsAgree-legal, ScriptsInOrder-legal}
use Rattle.round_journal.proofs.laws.scripts_agree.Goals as goal

pub returns-clause-agree : goal.returns-clause-agree
returns-clause-agree c = ScriptsAgree-legal

pub returns-clause-in_order : goal.returns-clause-in_order
returns-clause-in_order c = ScriptsInOrder-legal

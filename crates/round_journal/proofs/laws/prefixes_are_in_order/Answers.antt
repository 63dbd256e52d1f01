use Rattle.round_journal.proofs.InputLemmas.{PrefixesInOrder-legal}
use Rattle.round_journal.proofs.laws.prefixes_are_in_order.Goals as goal

pub returns : goal.returns
returns c = PrefixesInOrder-legal

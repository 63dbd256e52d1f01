use Rattle.round_journal.specs.Journals.{start}
use Rattle.std.proofs.Common.{arith}
use Rattle.round_journal.proofs.WordLemmas.{accepted-said, fields-said, rounds-said, to-said, number-said, prefix-said, script_number-said, script-said, first-said}
use Rattle.round_journal.proofs.laws.journals_say_what_their_entries_do.Goals as goal

pub returns-clause-accepted : goal.returns-clause-accepted
returns-clause-accepted c = λ first. accepted-said (start first)

pub returns-clause-fields : goal.returns-clause-fields
returns-clause-fields c = λ first j. omega (arith, fields-said (start first) j)

pub returns-clause-rounds : goal.returns-clause-rounds
returns-clause-rounds c = λ first j. omega (arith, rounds-said (start first) j)

pub returns-clause-to : goal.returns-clause-to
returns-clause-to c = λ first. to-said (start first)

pub returns-clause-number : goal.returns-clause-number
returns-clause-number c = λ first j. omega (arith, number-said (start first) j)

pub returns-clause-prefix : goal.returns-clause-prefix
returns-clause-prefix c = λ first. prefix-said (start first)

pub returns-clause-script_number : goal.returns-clause-script_number
returns-clause-script_number c = λ first j. omega (arith, script_number-said (start first) j)

pub returns-clause-script : goal.returns-clause-script
returns-clause-script c = λ first. script-said (start first)

pub returns-clause-first : goal.returns-clause-first
returns-clause-first c = λ first. first-said (start first)

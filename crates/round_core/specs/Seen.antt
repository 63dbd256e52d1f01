-- What callers see of a production.
use Rattle.std.specs.Prelude.{ℕ, List, [], ◌∷◌, ◌++◌, length, refl}
use Rattle.std.specs.Coded.{Coded, code_by, coded×, coded_list}
use Rattle.data_set_trees.specs.checked.Scripts.{Script, script_coded}
use Rattle.data_set_trees.specs.declared.checked.script.CheckedStatement.{CheckedStatement}
use Rattle.round_journal.specs.Journals.{State, state_of}
use Rattle.round_journal.specs.declared.entry.Entry.{Entry}
use Rattle.round_journal.specs.declared.entry.What.{What}
use Rattle.round_journal.specs.declared.entry.What.TheVariants.{Opened, Published}
use Rattle.round_core.specs.declared.limits.Limits.{Limits}
use Rattle.round_core.specs.contracts.limits.Limits as limits
use Rattle.round_journal.specs.contracts.entry.Entry as entry

-- a production: its first script, its limits, and all that happened
pub record Seen : Type 0 where
  pub script : Script
  pub limits : Limits
  pub journal : List Entry

abbrev pub seen_coded : Coded Seen
seen_coded = code_by (Script × (Limits × List Entry)) (coded× script_coded (coded× (limits.the_row).coded (coded_list (entry.the_row).coded))) (λ p. (p.script, (p.limits, p.journal))) (λ t. record { script = t.0; limits = t.1.0; journal = t.1.1 }) (λ _. refl)

-- what its journal says
abbrev pub state_in : Seen → State
state_in p = state_of p.script p.journal

-- one entry more
abbrev pub seen_with : Seen → ℕ → What → Seen
seen_with p n w = record p { journal = p.journal ++ (record { by = n; what = w }) ∷ [] }

-- with a round opened over all accepted revisions; where the newest script has no statements it is over, and published at once
abbrev pub opened : Seen → ℕ → Seen
opened p n = at_once (state_in p).newest.script.statements (length (state_in p).accepted)
  where
    at_once : List CheckedStatement → ℕ → Seen
    at_once [] to = seen_with (seen_with p n (Opened to)) n (Published to)
    at_once (s ∷ ss) to = seen_with p n (Opened to)

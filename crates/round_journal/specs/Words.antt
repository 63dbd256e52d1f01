-- What journals say, told from their entries alone (docs/language.md, "Rounds").
use Rattle.std.specs.Prelude.{ℕ, List, [], ◌∷◌}
use Rattle.std.specs.List.{flat_map}
use Rattle.std.specs.Arc.{arc_value}
use Rattle.data_set_trees.specs.checked.Scripts.{Script}
use Rattle.point_sets.specs.declared.revision.Revision.{Revision}
use Rattle.round_journal.specs.declared.entry.Entry.{Entry}
use Rattle.round_journal.specs.declared.entry.What.{What}
use Rattle.round_journal.specs.declared.entry.What.TheVariants.{Judged, Rescripted, Opened, Published}
use Rattle.round_journal.specs.declared.verdict.Verdict.TheVariants.{Accepted}
use Rattle.round_journal.specs.Journals.{fields_of}

-- what the entries say, one after the other
abbrev pub said_by : {X : Type 0} → (What → List X) → List Entry → List X
said_by said j = flat_map (λ e. said e.what) j

-- the last one, if there is one
abbrev pub last_or : {X : Type 0} → X → List X → X
last_or x [] = x
last_or x (y ∷ ys) = last_or y ys

-- the revision that an entry accepts, if it accepts one
abbrev pub accepted_in : What → List Revision
accepted_in (Judged r (Accepted n)) = r ∷ []
accepted_in w = []

-- the fields of the revision that an entry judges
abbrev pub fields_in : What → ℕ
fields_in (Judged r v) = fields_of r
fields_in w = 0

-- the script that an entry brings
abbrev pub scripts_in : What → List Script
scripts_in (Rescripted c) = arc_value c ∷ []
scripts_in w = []

-- the prefixes of the rounds that an entry opens, and of those that it publishes
abbrev pub opened_in : What → List ℕ
opened_in (Opened to) = to ∷ []
opened_in w = []

abbrev pub published_in : What → List ℕ
published_in (Published to) = to ∷ []
published_in w = []

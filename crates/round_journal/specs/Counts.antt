-- What journals count (docs/language.md, "Rounds").
use Rattle.std.specs.Prelude.{◌≡◌, ◌≤◌, ◌<◌, ◌+◌, ℕ, suc, zero, true, length, ⊤}
use Rattle.std.specs.List.{All}
use Rattle.round_journal.specs.declared.entry.What.{What}
use Rattle.round_journal.specs.declared.entry.What.TheVariants.{Judged, Rescripted, Opened, Claimed, Returned, GaveUp, Published, Failed, Dropped}
use Rattle.round_journal.specs.Journals.{State, Status, Waiting, Out, Back, Spoiled, IsOfProduction, number as number_of}

-- the prefixes are of accepted revisions, and the last release's is not above the round's
pub record PrefixesInOrder (s : State) : Type 0 where
  pub earlier_below : All (λ named. named.prefix ≤ length s.accepted) s.earlier
  pub latest_below : s.latest.prefix ≤ s.to
  pub to_below : s.to ≤ length s.accepted

-- all scripts that a journal names are of the production: the newest one, the round's, and those of the releases
pub record ScriptsAgree (s : State) : Type 0 where
  pub newest : IsOfProduction s s.newest.script
  pub round : IsOfProduction s s.round.script
  pub latest : IsOfProduction s s.latest.script.script
  pub earlier : All (λ named. IsOfProduction s named.script.script) s.earlier

-- the latest release is of the last round's script or an earlier one, and that of the newest or an earlier one; those of one number are the same
pub record ScriptsInOrder (s : State) : Type 0 where
  pub round_below : s.round.number ≤ s.newest.number
  pub latest_below : s.latest.script.number ≤ s.round.number
  pub same_round : s.round.number ≡ s.newest.number → s.round ≡ s.newest
  pub same_latest : s.latest.script.number ≡ s.round.number → s.latest.script ≡ s.round

-- of n entries not more are counted than n
pub record CountsWithin (s : State) (n : ℕ) : Type 0 where
  pub accepted : length s.accepted ≤ n
  pub rounds : s.rounds ≤ n
  pub number : number_of s ≤ n
  pub scripts : s.newest.number ≤ n

-- a round that was published is one of the rounds, and not the open one
pub record RoundsInOrder (s : State) : Type 0 where
  pub earlier : s.published ≤ s.rounds
  pub before_open : s.running ≡ true → s.published < s.rounds

-- the latest release of a later state is no earlier one, and where it has the same number it is the same
pub record GoesForward (s later : State) : Type 0 where
  pub number : number_of s ≤ number_of later
  pub prefix : s.latest.prefix ≤ later.latest.prefix
  pub script : s.latest.script.number ≤ later.latest.script.number
  pub same : number_of later ≡ number_of s → later.latest ≡ s.latest

-- the entries that a statement had in its round
abbrev pub entries_of : Status → ℕ
entries_of Waiting = 0
entries_of (Out n) = 1
entries_of Back = 2
entries_of Spoiled = 2

-- those of the first n statements
abbrev pub entries_below : ℕ → (ℕ → Status) → ℕ
entries_below zero status = 0
entries_below (suc n) status = entries_below n status + entries_of (status n)

-- the entry is of a statement
abbrev pub IsOfStatement : What → Type 0
IsOfStatement (Judged r v) = ⊥
IsOfStatement (Rescripted c) = ⊥
IsOfStatement (Opened to) = ⊥
IsOfStatement (Claimed i) = ⊤
IsOfStatement (Returned i) = ⊤
IsOfStatement (GaveUp i) = ⊤
IsOfStatement (Published to) = ⊥
IsOfStatement (Failed to fault) = ⊥
IsOfStatement (Dropped to) = ⊥

-- the entry isn't that of a release
abbrev pub IsNoRelease : What → Type 0
IsNoRelease (Judged r v) = ⊤
IsNoRelease (Rescripted c) = ⊤
IsNoRelease (Opened to) = ⊤
IsNoRelease (Claimed i) = ⊤
IsNoRelease (Returned i) = ⊤
IsNoRelease (GaveUp i) = ⊤
IsNoRelease (Published to) = ⊥
IsNoRelease (Failed to fault) = ⊤
IsNoRelease (Dropped to) = ⊤

-- Statements that are out while something else happens.
use Rattle.std.proofs.Common.{◌≡◌, ℕ, List, [], ◌∷◌, sym, subst}
use Rattle.std.proofs.lemmas.List.Elements.{All-cons, All-nil}
use Rattle.transform_nodes.specs.declared.work.DoneParts.{DoneParts}
use Rattle.round_journal.specs.declared.entry.Entry.{Entry}
use Rattle.round_journal.specs.declared.entry.What.{What}
use Rattle.round_journal.specs.Journals.{IsOutBy, Legal}
use Rattle.round_journal.specs.Stands.{DoneStands, Keeps, AllKeep}
use Rattle.round_journal.proofs.StandLemmas.{IsOutBy-journal, DoneStands-journal}
use Rattle.round_core.specs.Seen.{Seen, state_in, seen_with}

abbrev one_by : ℕ → What → List Entry
one_by m w = (record { by = m; what = w }) ∷ []

keeps_out : (i m : ℕ) (w : What) → Keeps i w → AllKeep i (one_by m w)
keeps_out i m w keeps = let e : Entry = record { by = m; what = w } in All-cons (λ (e : Entry). Keeps i e.what) e [] keeps (All-nil (λ (e : Entry). Keeps i e.what))

-- it is out still
pub out_still : (p q : Seen) (n m i : ℕ) (w : What) → Keeps i w → q ≡ seen_with p m w → Legal q.script q.journal → IsOutBy (state_in p) n i → IsOutBy (state_in q) n i
out_still p q n m i w keeps is legal out =
    let legal' = subst (λ (q : Seen). Legal q.script q.journal) is legal in
    subst (λ (q : Seen). IsOutBy (state_in q) n i) (sym is) (IsOutBy-journal p.script n i p.journal (one_by m w) legal' out (keeps_out i m w keeps))

-- and what it came to stands still
pub done_still : (p q : Seen) (n m : ℕ) (d : DoneParts) (w : What) → Keeps d.statement w → q ≡ seen_with p m w → Legal q.script q.journal → IsOutBy (state_in p) n d.statement
    → DoneStands (state_in p) d → DoneStands (state_in q) d
done_still p q n m d w keeps is legal out stands =
    let legal' = subst (λ (q : Seen). Legal q.script q.journal) is legal in
    subst (λ (q : Seen). DoneStands (state_in q) d) (sym is) (DoneStands-journal p.script n p.journal (one_by m w) d legal' out (keeps_out d.statement m w keeps) stands)

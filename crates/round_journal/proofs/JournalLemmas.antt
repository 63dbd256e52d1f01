-- Journals that go on.
use Rattle.std.proofs.Common.{◌≡◌, List, [], ◌∷◌, ◌++◌, refl}
use Rattle.data_set_trees.specs.checked.Scripts.{Script}
use Rattle.round_journal.specs.declared.entry.Entry.{Entry}
use Rattle.round_journal.specs.Journals.{State, start, after, after_all, state_of, MayCome, LegalFrom, Legal}

pub after_all-append : (s : State) (j k : List Entry) → after_all s (j ++ k) ≡ after_all (after_all s j) k
after_all-append s [] k = refl
after_all-append s (e ∷ j) k = after_all-append (after s e) j k

pub LegalFrom-append : (s : State) (j k : List Entry) → LegalFrom s j → LegalFrom (after_all s j) k → LegalFrom s (j ++ k)
LegalFrom-append s [] k a b = b
LegalFrom-append s (e ∷ j) k a b = (a.0, LegalFrom-append (after s e) j k a.1 b)

pub LegalFrom-parts : (s : State) (j k : List Entry) → LegalFrom s (j ++ k) → LegalFrom s j × LegalFrom (after_all s j) k
LegalFrom-parts s [] k h = (tt, h)
LegalFrom-parts s (e ∷ j) k h = let p = LegalFrom-parts (after s e) j k h.1 in ((h.0, p.0), p.1)

-- what each entry that may come keeps, legal entries keep
pub after_all-keeps : (P : State → Type 0) → ((s : State) (e : Entry) → MayCome s e.by e.what → P s → P (after s e)) → (s : State) (es : List Entry) → LegalFrom s es → P s → P (after_all s es)
after_all-keeps P keeps s [] legal p = p
after_all-keeps P keeps s (e ∷ es) legal p = after_all-keeps P keeps (after s e) es legal.1 (keeps s e legal.0 p)

-- what holds at first and is kept, holds of each legal journal
pub of_legal : (c : Script) (P : State → Type 0) → ((s : State) (e : Entry) → MayCome s e.by e.what → P s → P (after s e)) → P (start c) → (j : List Entry) → Legal c j → P (state_of c j)
of_legal c P keeps p j legal = after_all-keeps P keeps (start c) j legal p

-- one entry more
pub state_of-more : (c : Script) (j : List Entry) (e : Entry) → state_of c (j ++ e ∷ []) ≡ after (state_of c j) e
state_of-more c j e = after_all-append (start c) j (e ∷ [])

pub Legal-more : (c : Script) (j : List Entry) (e : Entry) → Legal c j → MayCome (state_of c j) e.by e.what → Legal c (j ++ e ∷ [])
Legal-more c j e legal may = LegalFrom-append (start c) j (e ∷ []) legal (may, tt)

-- Releases, one entry further.
use Rattle.std.proofs.Common.{◌≡◌, ◌≤◌, ◌+◌, ℕ, zero, suc, List, [], ◌∷◌, ◌++◌, length, get_or, Option, Some, sym, ◌∙◌, ap, refl, arith, subst, length-append}
use Rattle.std.specs.Option.{unwrap_or}
use Rattle.std.specs.List.{slice_get}
use Rattle.std.specs.FinMap.{empty}
use Rattle.point_sets.specs.DataSets.{DataSet}
use Rattle.data_set_trees.specs.declared.checked.script.CheckedStatement.{CheckedStatement}
use Rattle.data_set_trees.specs.declared.tree.Source.TheVariants.{Result as ResultOf}
use Rattle.data_set_trees.specs.checked.Scripts.{Script}
use Rattle.operator_meaning.specs.Results.{Evaluated}
use Rattle.operator_meaning.specs.Scripts.{Has, set_in, states}
use Rattle.release_text.specs.Releases.{Page}
use Rattle.transform_nodes.specs.Nodes.{operand_on, published}
use Rattle.round_journal.specs.declared.entry.Entry.{Entry}
use Rattle.release_text.specs.declared.release.Release.{Release}
use Rattle.round_journal.specs.declared.entry.What.{What}
use Rattle.round_journal.specs.declared.entry.What.TheVariants.{Published}
use Rattle.round_journal.specs.Journals.{State, Named, start, number, after, after_what, after_all, state_of, new_inputs, MayCome, Legal}
use Rattle.round_journal.specs.Releases.{IsReleaseOf, IsRelease, released, and_page, pages_from, pages_on}
use Rattle.round_journal.specs.Counts.{PrefixesInOrder, ScriptsInOrder, GoesForward, IsNoRelease}
use Rattle.round_journal.proofs.JournalLemmas.{after_all-append, LegalFrom-parts, after_all-keeps}
use Rattle.round_journal.proofs.InputLemmas.{inputs-after_what, PrefixesInOrder-keeps, PrefixesInOrder-legal}
use Rattle.round_journal.proofs.ProductionLemmas.{ScriptsInOrder-keeps, ScriptsInOrder-legal}

pub IsRelease-made : (s : State) (n : ℕ) (r : Release) → r.number ≡ number s + 1 → r.prefix ≡ s.to → r.script ≡ s.round.number → r.pages ≡ pages_on s.round.script (new_inputs s) → IsRelease (after_what s n (Published s.to)) r
IsRelease-made s n r number prefix script pages = record { number_is = omega (arith, number, length-append s.earlier (s.latest ∷ [])); prefix_is = prefix; script_is = script; pages_are = pages }

-- a release goes by the inputs there
pub IsReleaseOf-stays : (s : State) (n k : ℕ) (w : What) (named : Named) (r : Release) → named.prefix ≤ length s.accepted → IsReleaseOf s k named r → IsReleaseOf (after_what s n w) k named r
IsReleaseOf-stays s n k w named r l h = record {
  number_is = h.number_is;
  prefix_is = h.prefix_is;
  script_is = h.script_is;
  pages_are = h.pages_are ∙ ap (pages_on named.script.script) (sym (inputs-after_what s named.prefix n w l));
}

pub latest-stays : (s : State) (n : ℕ) (w : What) → IsNoRelease w → ((after_what s n w).latest ≡ s.latest) × ((after_what s n w).earlier ≡ s.earlier)
latest-stays s n (Published to) h = absurd h
latest-stays s n w h = (refl, refl)

pub IsRelease-stays : (s : State) (n : ℕ) (w : What) (r : Release) → PrefixesInOrder s → IsNoRelease w → IsRelease s r → IsRelease (after_what s n w) r
IsRelease-stays s n w r p none h =
    let same = latest-stays s n w none in
    subst (λ (named : Named). IsReleaseOf (after_what s n w) (length (after_what s n w).earlier) named r) (sym same.0)
    (subst (λ (earlier : List Named). IsReleaseOf (after_what s n w) (length earlier) s.latest r) (sym same.1) (IsReleaseOf-stays s n (number s) w s.latest r (omega (arith, p.latest_below, p.to_below)) h))

-- ---- what was released stays so

slice_get-front : {X : Type 0} (xs ys : List X) (n : ℕ) (x : X) → slice_get xs n ≡ Some x → slice_get (xs ++ ys) n ≡ Some x
slice_get-front [] ys n x e = cc
slice_get-front (y ∷ xs) ys zero x e = e
slice_get-front (y ∷ xs) ys (suc n) x e = slice_get-front xs ys n x e

released-one : (s : State) (m : ℕ) (w : What) (n : ℕ) (named : Named) → slice_get (released s) n ≡ Some named → slice_get (released (after_what s m w)) n ≡ Some named
released-one s m (Published to) n named e = slice_get-front (released s) (record { prefix = to; script = s.round } ∷ []) n named e
released-one s m w n named e = e

released-all : (s : State) (k : List Entry) (n : ℕ) (named : Named) → slice_get (released s) n ≡ Some named → slice_get (released (after_all s k)) n ≡ Some named
released-all s [] n named h = h
released-all s (e ∷ k) n named h = released-all (after s e) k n named (released-one s e.by e.what n named h)

pub released-journal : (c : Script) (j k : List Entry) (n : ℕ) (named : Named) → slice_get (released (state_of c j)) n ≡ Some named → slice_get (released (state_of c (j ++ k))) n ≡ Some named
released-journal c j k n named h =
    subst (λ (t : State). slice_get (released t) n ≡ Some named) (sym (after_all-append (start c) j k)) (released-all (state_of c j) k n named h)

-- ---- later releases

record IsLater (first s : State) : Type 0 where
  pub in_order : PrefixesInOrder s
  pub scripts : ScriptsInOrder s
  pub forward : GoesForward first s

GoesForward-one : (first s : State) (n : ℕ) (w : What) → MayCome s n w → IsLater first s → GoesForward first (after_what s n w)
GoesForward-one first s n (Published to) may h =
    let more = length-append s.earlier (s.latest ∷ []) in
    let f = h.forward in
    record {
      number = omega (arith, f.number, more);
      prefix = omega (arith, f.prefix, h.in_order.latest_below, may.0.prefix);
      script = omega (arith, f.script, h.scripts.latest_below);
      same = λ e. absurd (omega (arith, f.number, more, e));
    }
GoesForward-one first s n w may h = record { number = h.forward.number; prefix = h.forward.prefix; script = h.forward.script; same = h.forward.same }

IsLater-one : (first s : State) (e : Entry) → MayCome s e.by e.what → IsLater first s → IsLater first (after s e)
IsLater-one first s e may h = record {
  in_order = PrefixesInOrder-keeps s e.by e.what may h.in_order;
  scripts = ScriptsInOrder-keeps s e.by e.what may h.scripts;
  forward = GoesForward-one first s e.by e.what may h;
}

pub GoesForward-journal : (c : Script) (j k : List Entry) → Legal c (j ++ k) → GoesForward (state_of c j) (state_of c (j ++ k))
GoesForward-journal c j k legal =
    let parts = LegalFrom-parts (start c) j k legal in
    let s : State = state_of c j in
    let first : IsLater s s = record {
      in_order = PrefixesInOrder-legal c j parts.0;
      scripts = ScriptsInOrder-legal c j parts.0;
      forward = record { number = omega arith; prefix = omega arith; script = omega arith; same = λ _. refl };
    } in
    subst (λ (t : State). GoesForward s t) (sym (after_all-append (start c) j k)) (after_all-keeps (IsLater s) (IsLater-one s) s k parts.1 first).forward

-- ---- pages, statement by statement

pub operand_on-has : (c : Script) (xs : List DataSet) (i : ℕ) (e : Evaluated) → states c xs i ≡ Has e → operand_on c xs (ResultOf i) ≡ e.set
operand_on-has c xs i e h = ap (λ v. unwrap_or (set_in v) empty) h

module _ {X : Type 0} (page : X → Option Page) (pages : List X → List Page) (none : pages [] ≡ []) (more : (y : X) (ys : List X) → pages (y ∷ ys) ≡ and_page (page y) (pages ys)) where
  pages_from-each : (c : Script) (xs : List DataSet) (k : ℕ) (statements : List CheckedStatement) (ys : List X) → length ys ≡ length statements
      → ((i : ℕ) (d : X) (statement : CheckedStatement) → slice_get statements i ≡ Some statement → page (get_or ys i d) ≡ published statement (operand_on c xs (ResultOf (k + i)))) → pages ys ≡ pages_from c xs k statements
  pages_from-each c xs k [] [] long h = none
  pages_from-each c xs k [] (y ∷ ys) long h = absurd (omega (arith, long))
  pages_from-each c xs k (statement ∷ rest) [] long h = absurd (omega (arith, long))
  pages_from-each c xs k (statement ∷ rest) (y ∷ ys) long h =
      let here : page y ≡ published statement (operand_on c xs (ResultOf k)) = h 0 y statement refl ∙ ap (λ m. published statement (operand_on c xs (ResultOf m))) (omega arith) in
      let behind : pages ys ≡ pages_from c xs (k + 1) rest = pages_from-each c xs (k + 1) rest ys (omega (arith, long)) (λ i d st e. h (suc i) d st e ∙ ap (λ m. published st (operand_on c xs (ResultOf m))) (omega arith)) in
      more y ys ∙ ap (λ p. and_page p (pages ys)) here ∙ ap (and_page (published statement (operand_on c xs (ResultOf k)))) behind

  -- pages that are those of each statement's data set are the pages of the script's meaning
  pub pages_on-each : (c : Script) (xs : List DataSet) (ys : List X) → length ys ≡ length c.statements
      → ((i : ℕ) (d : X) (statement : CheckedStatement) → slice_get c.statements i ≡ Some statement → page (get_or ys i d) ≡ published statement (operand_on c xs (ResultOf i))) → pages ys ≡ pages_on c xs
  pages_on-each c xs ys long h = pages_from-each c xs 0 c.statements ys long (λ i d st e. h i d st e ∙ ap (λ m. published st (operand_on c xs (ResultOf m))) (omega arith))

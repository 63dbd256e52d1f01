-- The scripts of a production.
use Rattle.std.proofs.Common.{◌≡◌, ℕ, List, sym, ◌∙◌, ap, refl, arith}
use Rattle.std.specs.List.{All}
use Rattle.std.proofs.lemmas.List.Elements.{All-nil, All-push, All-weaker}
use Rattle.data_set_trees.specs.checked.Scripts.{Script, IsChecked}
use Rattle.round_journal.specs.declared.entry.Entry.{Entry}
use Rattle.round_journal.specs.declared.entry.What.{What}
use Rattle.round_journal.specs.declared.entry.What.TheVariants.{Rescripted, Opened, Published}
use Rattle.round_journal.specs.Journals.{State, Named, start, after_what, state_of, MayCome, Legal, IsOfProduction}
use Rattle.round_journal.specs.Counts.{ScriptsAgree, ScriptsInOrder}
use Rattle.round_journal.proofs.JournalLemmas.{of_legal}
use Rattle.round_journal.proofs.InputLemmas.{first-after_what}

-- ---- checked, with the inputs of the first one

-- it goes by the first script
pub IsOfProduction-same : (s t : State) (c : Script) → t.first ≡ s.first → IsOfProduction s c → IsOfProduction t c
IsOfProduction-same s t c same h = record { checked = h.checked; same_inputs = h.same_inputs ∙ ap (λ (first : Script). first.inputs) (sym same) }

abbrev NamedAgrees : State → Named → Type 0
NamedAgrees s named = IsOfProduction s named.script.script

module _ (s : State) (n : ℕ) (w : What) where
  moves : (c : Script) → IsOfProduction s c → IsOfProduction (after_what s n w) c
  moves c = IsOfProduction-same s (after_what s n w) c (first-after_what s n w)

  all_move : All (NamedAgrees s) s.earlier → All (NamedAgrees (after_what s n w)) s.earlier
  all_move = All-weaker (NamedAgrees s) (NamedAgrees (after_what s n w)) (λ named. moves named.script.script) s.earlier

ScriptsAgree-keeps : (s : State) (n : ℕ) (w : What) → MayCome s n w → ScriptsAgree s → ScriptsAgree (after_what s n w)
ScriptsAgree-keeps s n (Rescripted c) may h =
    let w : What = Rescripted c in
    record {
      newest = record { checked = may.1.checked; same_inputs = may.1.same_inputs };
      round = moves s n w s.round.script h.round;
      latest = moves s n w s.latest.script.script h.latest;
      earlier = all_move s n w h.earlier;
    }
ScriptsAgree-keeps s n (Opened to) may h =
    let w : What = Opened to in
    let newest = moves s n w s.newest.script h.newest in
    record { newest = newest; round = newest; latest = moves s n w s.latest.script.script h.latest; earlier = all_move s n w h.earlier }
ScriptsAgree-keeps s n (Published to) may h =
    let w : What = Published to in
    let round = moves s n w s.round.script h.round in
    record {
      newest = moves s n w s.newest.script h.newest;
      round = round;
      latest = round;
      earlier = All-push (NamedAgrees (after_what s n w)) s.earlier s.latest (all_move s n w h.earlier) (moves s n w s.latest.script.script h.latest);
    }
ScriptsAgree-keeps s n w may h = record {
  newest = moves s n w s.newest.script h.newest;
  round = moves s n w s.round.script h.round;
  latest = moves s n w s.latest.script.script h.latest;
  earlier = all_move s n w h.earlier;
}

pub ScriptsAgree-legal : (c : Script) (j : List Entry) → IsChecked c → Legal c j → ScriptsAgree (state_of c j)
ScriptsAgree-legal c j checked =
    let first : IsOfProduction (start c) c = record { checked = checked; same_inputs = refl } in
    of_legal c ScriptsAgree (λ s e. ScriptsAgree-keeps s e.by e.what) (record { newest = first; round = first; latest = first; earlier = All-nil (NamedAgrees (start c)) }) j

-- ---- the scripts' numbers

pub ScriptsInOrder-keeps : (s : State) (n : ℕ) (w : What) → MayCome s n w → ScriptsInOrder s → ScriptsInOrder (after_what s n w)
ScriptsInOrder-keeps s n (Rescripted c) may h = record {
  round_below = omega (arith, h.round_below);
  latest_below = h.latest_below;
  same_round = λ e. absurd (omega (arith, h.round_below, e));
  same_latest = h.same_latest;
}
ScriptsInOrder-keeps s n (Opened to) may h = record {
  round_below = omega arith;
  latest_below = omega (arith, h.round_below, h.latest_below);
  same_round = λ e. refl;
  same_latest = λ e. h.same_latest (omega (arith, h.round_below, h.latest_below, e)) ∙ h.same_round (omega (arith, h.round_below, h.latest_below, e));
}
ScriptsInOrder-keeps s n (Published to) may h = record { round_below = h.round_below; latest_below = omega arith; same_round = h.same_round; same_latest = λ e. refl }
ScriptsInOrder-keeps s n w may h = record { round_below = h.round_below; latest_below = h.latest_below; same_round = h.same_round; same_latest = h.same_latest }

pub ScriptsInOrder-legal : (c : Script) (j : List Entry) → Legal c j → ScriptsInOrder (state_of c j)
ScriptsInOrder-legal c = of_legal c ScriptsInOrder (λ s e. ScriptsInOrder-keeps s e.by e.what) (record { round_below = omega arith; latest_below = omega arith; same_round = λ e. refl; same_latest = λ e. refl })

-- Scripts that have a meaning on the inputs, and releases that show it.
use Rattle.std.proofs.Common.{◌≡◌, ◌<◌, ℕ, Bool, true, false, if◌then◌else◌, nat_eq, eqb-true, List, [], length, None, is_some, inl, inr, sym, ◌∙◌, ap, refl, arith}
use Rattle.std.specs.List.{All}
use Rattle.std.proofs.lemmas.List.Elements.{All-weaker}
use Rattle.vtl_values.specs.Structures.{NamedStructures}
use Rattle.point_sets.specs.DataSets.{DataSet}
use Rattle.revision_judge.specs.Judging.{no_points}
use Rattle.data_set_trees.specs.declared.tree.Source.{Source}
use Rattle.data_set_trees.specs.declared.tree.Source.TheVariants.{Input, Result as ResultOf}
use Rattle.data_set_trees.specs.checked.Scripts.{Script, IsChecked, names_of}
use Rattle.operator_meaning.specs.Scripts.{set_in, states, script_wrong}
use Rattle.operator_meaning.proofs.EmptyLemmas.{script_wrong-empty}
use Rattle.round_journal.specs.declared.entry.Entry.{Entry}
use Rattle.round_journal.specs.declared.entry.What.{What}
use Rattle.round_journal.specs.declared.entry.What.TheVariants.{Judged, Published}
use Rattle.round_journal.specs.Journals.{State, Numbered, after, after_what, state_of, inputs, old_inputs, MayCome, Legal, IsOfProduction}
use Rattle.round_journal.specs.Ends.{HasSet}
use Rattle.round_journal.specs.Counts.{PrefixesInOrder, ScriptsInOrder}
use Rattle.round_journal.proofs.JournalLemmas.{of_legal}
use Rattle.round_journal.proofs.InputLemmas.{inputs-after_what, PrefixesInOrder-keeps, PrefixesInOrder-legal}
use Rattle.round_journal.proofs.ProductionLemmas.{ScriptsAgree-legal, ScriptsInOrder-legal}
use Rattle.round_journal.proofs.ScriptLemmas.{OfResult, along_order, all_named-true, state_cases, worked-from_names, no_wrong-from_bounds}

-- ---- where a script has a meaning, each statement has a data set

module _ (c : Script) (xs : List DataSet) (checked : IsChecked c) (long : length xs ≡ length c.inputs) (bounds : script_wrong c xs ≡ None) where
  set_from_has : (n : Source) → OfResult (HasSet c xs) n → OfResult (λ j. is_some (set_in (states c xs j)) ≡ true) n
  set_from_has (Input n) h = tt
  set_from_has (ResultOf j) h = ap (λ v. is_some (set_in v)) h.1

  has_from_names : (i : ℕ) → i < length c.statements → All (OfResult (HasSet c xs)) (names_of c i) → HasSet c xs i
  has_from_names i l h =
      let named = all_named-true c xs checked long i (All-weaker (OfResult (HasSet c xs)) (OfResult (λ j. is_some (set_in (states c xs j)) ≡ true)) set_from_has (names_of c i) h) in
      elim (state_cases (states c xs i)) [
        | inl has ↦ has
        | inr other ↦ elim other [ inl fails ↦ absurd (no_wrong-from_bounds c xs bounds i l fails.0 fails.1) | inr idle ↦ absurd (worked-from_names c xs checked i l named idle) ]
      ]

  pub HasSet-in_bounds : (i : ℕ) → i < length c.statements → HasSet c xs i
  HasSet-in_bounds i l = along_order c (HasSet c xs) has_from_names checked i l

-- ---- the inputs of the last release

record IsReleased (s : State) : Type 0 where
  pub in_order : PrefixesInOrder s
  pub in_bounds : script_wrong s.latest.script.script (inputs s.latest.prefix s) ≡ None

in_bounds-keeps : (s : State) (n : ℕ) (w : What) → MayCome s n w → IsReleased s → script_wrong (after_what s n w).latest.script.script (inputs (after_what s n w).latest.prefix (after_what s n w)) ≡ None
in_bounds-keeps s n (Judged r v) may h = ap (script_wrong s.latest.script.script) (inputs-after_what s s.latest.prefix n (Judged r v) (omega (arith, h.in_order.latest_below, h.in_order.to_below))) ∙ h.in_bounds
in_bounds-keeps s n (Published to) may h = ap (λ m. script_wrong s.round.script (inputs m s)) may.0.prefix ∙ may.2
in_bounds-keeps s n w may h = h.in_bounds

IsReleased-keeps : (s : State) (e : Entry) → MayCome s e.by e.what → IsReleased s → IsReleased (after s e)
IsReleased-keeps s e may h = record { in_order = PrefixesInOrder-keeps s e.by e.what may h.in_order; in_bounds = in_bounds-keeps s e.by e.what may h }

-- a checked script of the production is in bounds on no revision
in_bounds-nothing : (c : Script) (s : State) → IsOfProduction s c → script_wrong c (inputs 0 s) ≡ None
in_bounds-nothing c s of_it = ap (λ (structures : NamedStructures). script_wrong c (no_points structures)) (sym of_it.same_inputs) ∙ script_wrong-empty c of_it.checked

IsReleased-legal : (c : Script) → IsChecked c → (j : List Entry) → Legal c j → IsReleased (state_of c j)
IsReleased-legal c checked = of_legal c IsReleased IsReleased-keeps (record { in_order = PrefixesInOrder-legal c [] tt; in_bounds = script_wrong-empty c checked })

pub in_bounds-legal : (c : Script) (j : List Entry) → IsChecked c → Legal c j → script_wrong (state_of c j).latest.script.script (inputs (state_of c j).latest.prefix (state_of c j)) ≡ None
in_bounds-legal c j checked legal = (IsReleased-legal c checked j legal).in_bounds

-- ---- the inputs from which the round goes on

old_in_bounds : (s : State) → ScriptsInOrder s → IsOfProduction s s.round.script → script_wrong s.latest.script.script (inputs s.latest.prefix s) ≡ None → script_wrong s.round.script (old_inputs s) ≡ None
old_in_bounds s order of_it bounds = by_test (nat_eq s.round.number s.latest.script.number) refl
  where
    by_test : (b : Bool) → nat_eq s.round.number s.latest.script.number ≡ b → script_wrong s.round.script (inputs (if b then s.latest.prefix else 0) s) ≡ None
    by_test true e = ap (λ (m : Numbered). script_wrong m.script (inputs s.latest.prefix s)) (sym (order.same_latest (sym (eqb-true s.round.number s.latest.script.number e)))) ∙ bounds
    by_test false e = in_bounds-nothing s.round.script s of_it

pub old_in_bounds-legal : (c : Script) (j : List Entry) → IsChecked c → Legal c j → script_wrong (state_of c j).round.script (old_inputs (state_of c j)) ≡ None
old_in_bounds-legal c j checked legal = old_in_bounds (state_of c j) (ScriptsInOrder-legal c j legal) (ScriptsAgree-legal c j checked legal).round (in_bounds-legal c j checked legal)

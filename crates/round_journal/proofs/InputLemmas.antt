-- Prefixes, and the inputs after them.
use Rattle.std.proofs.Common.{◌≡◌, ◌≤◌, ◌+◌, ℕ, List, [], ◌∷◌, ◌++◌, length, take, map, sym, ◌∙◌, ap, refl, arith, subst, length-append}
use Rattle.std.proofs.lemmas.List.{take-append-le, take_all, length-map}
use Rattle.std.specs.FinMap.{empty}
use Rattle.std.specs.List.{All, fold}
use Rattle.std.proofs.lemmas.List.Elements.{All-nil, All-push, All-weaker}
use Rattle.std.proofs.lemmas.List.Sums.{fold-append}
use Rattle.point_sets.specs.DataSets.{DataSet}
use Rattle.point_sets.specs.declared.revision.Revision.{Revision}
use Rattle.operator_meaning.specs.Operators.{AreOperands}
use Rattle.revision_judge.specs.Judging.{AreInputs as AreJudgedInputs, Judgement, Fit, Refused as RefusedFor, judged, settled, inputs_then, inputs_after, no_points}
use Rattle.vtl_values.specs.Structures.{NamedStructures}
use Rattle.revision_judge.proofs.Judgements.{inputs_after-fit, then-long}
use Rattle.transform_nodes.specs.Nodes.{AreInputs}
use Rattle.data_set_trees.specs.checked.Scripts.{Script}
use Rattle.round_journal.specs.declared.entry.Entry.{Entry}
use Rattle.round_journal.specs.declared.entry.What.{What}
use Rattle.round_journal.specs.declared.entry.What.TheVariants.{Judged, Opened, Published}
use Rattle.round_journal.specs.declared.verdict.Verdict.{Verdict}
use Rattle.round_journal.specs.declared.verdict.Verdict.TheVariants.{Accepted, Refused}
use Rattle.round_journal.specs.Journals.{State, Named, start, accepted_after, after, after_what, after_all, state_of, inputs, inputs_now, verdict_for, verdict_on, MayCome, Legal, IsOfProduction}
use Rattle.round_journal.specs.Counts.{PrefixesInOrder}
use Rattle.round_journal.proofs.JournalLemmas.{after_all-append, of_legal}

accepted_after-long : (rs : List Revision) (r : Revision) (v : Verdict) → length rs ≤ length (accepted_after rs r v)
accepted_after-long rs r (Accepted n) = omega (arith, length-append rs (r ∷ []))
accepted_after-long rs r (Refused set parts refusal) = omega arith

take-accepted_after : (m : ℕ) (rs : List Revision) (r : Revision) (v : Verdict) → m ≤ length rs → take m (accepted_after rs r v) ≡ take m rs
take-accepted_after m rs r (Accepted n) l = take-append-le m rs (r ∷ []) l
take-accepted_after m rs r (Refused set parts refusal) l = refl

pub accepted-after_what : (s : State) (n : ℕ) (w : What) → length s.accepted ≤ length (after_what s n w).accepted
accepted-after_what s n (Judged r v) = accepted_after-long s.accepted r v
accepted-after_what s n w = omega arith

pub first-after_what : (s : State) (n : ℕ) (w : What) → (after_what s n w).first ≡ s.first
first-after_what s n (Judged r v) = refl
first-after_what s n w = refl

pub inputs-after_what : (s : State) (m n : ℕ) (w : What) → m ≤ length s.accepted → inputs m (after_what s n w) ≡ inputs m s
inputs-after_what s m n (Judged r v) l = ap (inputs_after s.first.inputs) (take-accepted_after m s.accepted r v l)
inputs-after_what s m n w l = refl

pub inputs-after_all : (s : State) (m : ℕ) (es : List Entry) → m ≤ length s.accepted → inputs m (after_all s es) ≡ inputs m s
inputs-after_all s m [] l = refl
inputs-after_all s m (e ∷ es) l =
    let more = accepted-after_what s e.by e.what in
    inputs-after_all (after s e) m es (omega arith) ∙ inputs-after_what s m e.by e.what l

pub inputs-append : (c : Script) (m : ℕ) (j k : List Entry) → m ≤ length (state_of c j).accepted → inputs m (state_of c (j ++ k)) ≡ inputs m (state_of c j)
inputs-append c m j k l = ap (inputs m) (after_all-append (start c) j k) ∙ inputs-after_all (state_of c j) m k l

pub inputs-all : (s : State) → inputs (length s.accepted) s ≡ inputs_now s
inputs-all s = ap (inputs_after s.first.inputs) (take_all (length s.accepted) s.accepted (omega arith))

pub inputs_after-more : (structures : NamedStructures) (rs : List Revision) (r : Revision) → inputs_after structures (rs ++ r ∷ []) ≡ inputs_then structures (inputs_after structures rs) r
inputs_after-more structures rs r = fold-append (inputs_then structures) (no_points structures) rs (r ∷ [])

-- a judged revision makes of the inputs what its judgement says
judged_so : (structures : NamedStructures) (rs : List Revision) (r : Revision) (n : ℕ) (j : Judgement) → judged structures (inputs_after structures rs) r ≡ j → inputs_after structures (accepted_after rs r (verdict_for r n j)) ≡ settled (inputs_after structures rs) j
judged_so structures rs r n (Fit nexts) e = inputs_after-more structures rs r ∙ ap (settled (inputs_after structures rs)) e
judged_so structures rs r n (RefusedFor refusal) e = refl

pub inputs_now-judged : (s : State) (n : ℕ) (r : Revision) → inputs_now (after_what s n (Judged r (verdict_on s r))) ≡ settled (inputs_now s) (judged s.first.inputs (inputs_now s) r)
inputs_now-judged s n r = judged_so s.first.inputs s.accepted r (length s.accepted + 1) (judged s.first.inputs (inputs_now s) r) refl

-- ---- one data set for each structure

all_settled-long : (structures : NamedStructures) (xs : List DataSet) (rs : List Revision) → length (fold (inputs_then structures) xs rs) ≡ length xs
all_settled-long structures xs [] = refl
all_settled-long structures xs (r ∷ rs) = all_settled-long structures (inputs_then structures xs r) rs ∙ then-long structures xs r

pub inputs_after-long : (structures : NamedStructures) (rs : List Revision) → length (inputs_after structures rs) ≡ length structures
inputs_after-long structures rs = all_settled-long structures (no_points structures) rs ∙ length-map structures (λ named. empty)

-- data sets that fit their structures are operands of them
pub AreInputs-judged : (structures : NamedStructures) (xs : List DataSet) → AreJudgedInputs structures xs → AreOperands (map (λ named. named.1) structures) xs
AreInputs-judged [] [] h = tt
AreInputs-judged [] (x ∷ xs) h = absurd h
AreInputs-judged (named ∷ structures) [] h = absurd h
AreInputs-judged (named ∷ structures) (x ∷ xs) h = (h.0, AreInputs-judged structures xs h.1)

pub AreInputs-at : (c : Script) (n : ℕ) (s : State) → IsOfProduction s c → AreInputs c (inputs n s)
AreInputs-at c n s of_it =
    subst (λ (structures : NamedStructures). AreOperands (map (λ named. named.1) structures) (inputs n s)) (sym of_it.same_inputs)
    (AreInputs-judged s.first.inputs (inputs n s) (inputs_after-fit s.first.inputs (take n s.accepted)))

-- the inputs of a script of the production are as many as the data sets
pub inputs-long : (c : Script) (n : ℕ) (s : State) → c.inputs ≡ s.first.inputs → length (inputs n s) ≡ length c.inputs
inputs-long c n s same = inputs_after-long s.first.inputs (take n s.accepted) ∙ ap length (sym same)

-- ---- prefixes

abbrev IsBelow : ℕ → Named → Type 0
IsBelow n named = named.prefix ≤ n

below_more : (m n : ℕ) → m ≤ n → (xs : List Named) → All (IsBelow m) xs → All (IsBelow n) xs
below_more m n l = All-weaker (IsBelow m) (IsBelow n) (λ named h. omega (arith, h))

pub PrefixesInOrder-keeps : (s : State) (n : ℕ) (w : What) → MayCome s n w → PrefixesInOrder s → PrefixesInOrder (after_what s n w)
PrefixesInOrder-keeps s n (Judged r v) may p =
    let more = accepted_after-long s.accepted r v in
    record { earlier_below = below_more (length s.accepted) (length (accepted_after s.accepted r v)) more s.earlier p.earlier_below; latest_below = p.latest_below; to_below = omega (arith, more, p.to_below) }
PrefixesInOrder-keeps s n (Opened to) may p = record { earlier_below = p.earlier_below; latest_below = omega (arith, may.all, p.latest_below, p.to_below); to_below = omega (arith, may.all) }
PrefixesInOrder-keeps s n (Published to) may p = record {
  earlier_below = All-push (IsBelow (length s.accepted)) s.earlier s.latest p.earlier_below (omega (arith, p.latest_below, p.to_below));
  latest_below = omega (arith, may.0.prefix);
  to_below = p.to_below;
}
PrefixesInOrder-keeps s n w may p = record { earlier_below = p.earlier_below; latest_below = p.latest_below; to_below = p.to_below }

pub PrefixesInOrder-legal : (c : Script) (j : List Entry) → Legal c j → PrefixesInOrder (state_of c j)
PrefixesInOrder-legal c = of_legal c PrefixesInOrder (λ s e. PrefixesInOrder-keeps s e.by e.what) (record { earlier_below = All-nil (IsBelow 0); latest_below = omega arith; to_below = omega arith })

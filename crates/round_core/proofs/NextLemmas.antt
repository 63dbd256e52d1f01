-- Shares that are put in place.
use Rattle.std.proofs.Common.{◌≡◌, ◌≢◌, ℕ, zero, suc, ◌<◌, List, [], ◌∷◌, ◌++◌, length, get_or, set, sym, ◌∙◌, ap, refl, arith, subst, inl, inr}
use Rattle.std.specs.List.{All}
use Rattle.std.specs.FinMap.{empty}
use Rattle.std.proofs.lemmas.Bool.{cases_eq}
use Rattle.std.proofs.lemmas.List.{length-set, get_or-set_same, get_or-set_other}
use Rattle.std.proofs.lemmas.List.Elements.{All-nil, All-cons, All-head, All-tail}
use Rattle.std.proofs.lemmas.Option.{unwrap_or-slice_get}
use Rattle.data_model.specs.Deltas.{apply}
use Rattle.point_sets.specs.DataSets.{DataSet}
use Rattle.revision_judge.specs.declared.ruling.Share.{Share}
use Rattle.revision_judge.specs.Judging.{input, inputs_with}
use Rattle.revision_judge.specs.Shares.{IsShare, AreShares}
use Rattle.revision_judge.proofs.ShareLemmas.{input-with, input-other, same-inputs}
use Rattle.revision_judge.proofs.Finished.{one-more, front}
use Rattle.round_core.specs.declared.inputs.InputChange.{InputChange}
use Rattle.round_core.specs.declared.inputs.Inputs.{Inputs}
use Rattle.round_core.specs.declared.inputs.Next.{Next}
use Rattle.round_core.specs.declared.runs.Runs.{Runs}
use Rattle.round_core.specs.Inputs.{LeadsThrough, LeadAlike, LeadsOrStays, ChangeKept, InputsKept, changes_in, HasInput, IsNext, AreNexts}
use Rattle.round_core.proofs.RunLemmas.{more_through}

pub at_input : (xs : List DataSet) (n : ℕ) → input xs n ≡ get_or xs n empty
at_input xs n = unwrap_or-slice_get xs n empty

pub kept_take : (bases tos nows : List DataSet) (a b : Inputs) (n : ℕ) (next : DataSet) (change : InputChange) (newer : Runs) → InputsKept bases tos nows a → n < length a.sets.items → n < length a.changes.items → b.sets.items ≡ set a.sets.items n next → b.changes.items ≡ set a.changes.items n (record change { newer = newer }) → change ≡ get_or a.changes.items n change → LeadsThrough (changes_in newer) (input tos n) next → InputsKept bases tos (inputs_with nows n next) b
kept_take bases tos nows a b n next change newer k ls lc es ec e leads = record {
  sets = es ∙ ap (λ (xs : List DataSet). set xs n next) k.sets;
  many = ap length ec ∙ length-set a.changes.items n (record change { newer = newer }) ∙ k.many ∙ sym (length-set nows n next);
  each = λ m d l.
      let lm : m < length nows = omega (arith, l, length-set nows n next) in
      let ln : n < length nows = let q = ap length k.sets in omega (arith, ls, q) in
      subst (λ (cs : List InputChange). ChangeKept (input bases m) (input tos m) (input (set nows n next) m) (get_or cs m d)) (sym ec) (elim (cases_eq m n) [
        | inl same ↦
            subst (λ (q : ℕ). ChangeKept (input bases q) (input tos q) (input (set nows n next) q) (get_or (set a.changes.items n (record change { newer = newer })) q d)) (sym same)
            (subst (λ (c : InputChange). ChangeKept (input bases n) (input tos n) (input (set nows n next) n) c) (sym (get_or-set_same a.changes.items n (record change { newer = newer }) d lc))
            (record {
              older = subst (λ (c : InputChange). LeadsOrStays (input bases n) (input tos n) c.older) (sym e) (k.each n change ln).older;
              newer = subst (λ (z : DataSet). LeadsThrough (changes_in newer) (input tos n) z) (sym (at_input (set nows n next) n ∙ get_or-set_same nows n next empty ln)) leads;
            }))
        | inr other ↦
            subst (λ (c : InputChange). ChangeKept (input bases m) (input tos m) (input (set nows n next) m) c) (sym (get_or-set_other a.changes.items n m (record change { newer = newer }) d other))
            (subst (λ (z : DataSet). ChangeKept (input bases m) (input tos m) z (get_or a.changes.items m d)) (at_input nows m ∙ sym (get_or-set_other nows n m next empty other) ∙ sym (at_input (set nows n next) m)) (k.each m d lm))
      ]);
}

-- ---- one share

pub next_is : (bases tos nows afters : List DataSet) (a : Inputs) (share : Share) (next : Next) (old : DataSet) (change : InputChange) → InputsKept bases tos nows a → IsShare nows afters share
    → next.set ≡ share.set → old ≡ get_or a.sets.items share.set old → next.value ≡ apply share.delta old
    → change ≡ get_or a.changes.items share.set change → LeadAlike (changes_in change.newer ++ share.delta ∷ []) (changes_in next.newer) → IsNext tos afters next
next_is bases tos nows afters a share next old change k is en eo ev ec alike =
    let n = share.set in
    let was : input nows n ≡ old = at_input nows n ∙ get_or_in nows n old empty is.below ∙ ap (λ (xs : List DataSet). get_or xs n old) (sym k.sets) ∙ sym eo in
    let before : LeadsThrough (changes_in change.newer) (input tos n) (input nows n) = subst (λ (c : InputChange). LeadsThrough (changes_in c.newer) (input tos n) (input nows n)) (sym ec) (k.each n change is.below).newer in
    record {
      value_is = ev ∙ ap (apply share.delta) (sym was) ∙ is.leads.ends ∙ ap (input afters) (sym en);
      newer = subst (λ m. LeadsThrough (changes_in next.newer) (input tos m) (input afters m)) (sym en) (more_through (changes_in change.newer) (changes_in next.newer) share.delta alike (input tos n) (input nows n) (input afters n) before is.leads);
    }
  where
    get_or_in : {A : Type 0} (xs : List A) (n : ℕ) (d e : A) → n < length xs → get_or xs n e ≡ get_or xs n d
    get_or_in [] n d e l = absurd (omega (arith, l))
    get_or_in (x ∷ xs) zero d e l = refl
    get_or_in (x ∷ xs) (suc n) d e l = get_or_in xs n d e (omega (arith, l))

-- ---- all shares

-- what the shares that were taken so far make of their inputs; the others are left
pub record AreSoFar (tos nows afters : List DataSet) (left : List Share) (nexts : List Next) : Type 0 where
  pub each : All (IsNext tos afters) nexts
  pub coming : All (IsShare nows afters) left
  pub others : (n : ℕ) → All (λ share. share.set ≢ n) left → All (λ next. next.set ≢ n) nexts → input afters n ≡ input nows n

pub none_taken : (tos nows afters : List DataSet) (shares : List Share) → AreShares nows afters shares → AreSoFar tos nows afters shares []
none_taken tos nows afters shares h = record { each = All-nil (IsNext tos afters); coming = h.each; others = λ n none none_made. h.others n none }

pub share_taken : (tos nows afters : List DataSet) (all left : List Share) (share : Share) (nexts : List Next) (next : Next) → all ≡ left ++ share ∷ [] → AreSoFar tos nows afters all nexts → next.set ≡ share.set → (IsShare nows afters share → IsNext tos afters next) → AreSoFar tos nows afters left (nexts ++ next ∷ [])
share_taken tos nows afters all left share nexts next e h en made =
    let coming = front (IsShare nows afters) left share (subst (All (IsShare nows afters)) e h.coming) in
    record {
      each = one-more (IsNext tos afters) nexts next h.each (made coming.1);
      coming = coming.0;
      others = λ n none none_made.
          let made = front (λ (q : Next). q.set ≢ n) nexts next none_made in
          h.others n (subst (All (λ (s : Share). s.set ≢ n)) (sym e) (one-more (λ (s : Share). s.set ≢ n) left share none (λ q. made.1 (en ∙ q)))) made.0;
    }

pub all_taken : (tos nows afters : List DataSet) (left : List Share) (nexts : List Next) → left ≡ [] → AreSoFar tos nows afters left nexts → AreNexts tos nows afters nexts
all_taken tos nows afters left nexts e h = record {
  each = h.each;
  others = λ n none. h.others n (subst (All (λ (s : Share). s.set ≢ n)) (sym e) (All-nil (λ (s : Share). s.set ≢ n))) none;
}

-- ---- put in place

-- the inputs with some put in place: where none is still to come, they are as they are after the revision
pub record IsPutSo (bases tos nows afters : List DataSet) (rest : List Next) (a : Inputs) : Type 0 where
  pub sets : List DataSet
  pub kept : InputsKept bases tos sets a
  pub long : length sets ≡ length afters
  pub coming : All (IsNext tos afters) rest
  pub right : (n : ℕ) → All (λ next. next.set ≢ n) rest → input sets n ≡ input afters n

pub none_put : (bases tos nows afters : List DataSet) (nexts : List Next) (a : Inputs) → InputsKept bases tos nows a → AreNexts tos nows afters nexts → length afters ≡ length nows → IsPutSo bases tos nows afters nexts a
none_put bases tos nows afters nexts a k h long = record { sets = nows; kept = k; long = sym long; coming = h.each; right = λ n none. sym (h.others n none) }

pub next_put : (bases tos nows afters : List DataSet) (all rest : List Next) (next : Next) (a b : Inputs) (change : InputChange) → all ≡ next ∷ rest → IsPutSo bases tos nows afters all a → HasInput a next.set
    → b.sets.items ≡ set a.sets.items next.set next.value → b.changes.items ≡ set a.changes.items next.set (record change { newer = next.newer }) → change ≡ get_or a.changes.items next.set change → IsPutSo bases tos nows afters rest b
next_put bases tos nows afters all rest next a b change e p has es ec en =
    let n = next.set in
    let coming : All (IsNext tos afters) (next ∷ rest) = subst (All (IsNext tos afters)) e p.coming in
    let is = All-head (IsNext tos afters) next rest coming in
    let within : n < length p.sets = let q = ap length p.kept.sets in let l = has.0 in omega (arith, q, l) in
    let leads : LeadsThrough (changes_in next.newer) (input tos n) next.value = subst (λ (x : DataSet). LeadsThrough (changes_in next.newer) (input tos n) x) (sym is.value_is) is.newer in
    record {
      sets = inputs_with p.sets n next.value;
      kept = kept_take bases tos p.sets a b n next.value change next.newer p.kept has.0 has.1 es ec en leads;
      long = length-set p.sets n next.value ∙ p.long;
      coming = All-tail (IsNext tos afters) next rest coming;
      right = λ m none. elim (cases_eq m n) [
        | inl same ↦ subst (λ k. input (inputs_with p.sets n next.value) k ≡ input afters k) (sym same) (input-with p.sets n next.value within ∙ is.value_is)
        | inr other ↦ input-other p.sets n next.value m other ∙ p.right m (subst (All (λ (q : Next). q.set ≢ m)) (sym e) (All-cons (λ (q : Next). q.set ≢ m) next rest (λ q. other (sym q)) none))
      ];
    }

pub nothing_left : {A : Type 0} (xs : List A) → length xs ≡ 0 → xs ≡ []
nothing_left [] e = refl
nothing_left (x ∷ xs) e = absurd (omega (arith, e))

-- the others are still there
pub has_still : (a : Inputs) (i : ℕ) (x : DataSet) (y : InputChange) (all rest : List Next) (next : Next) → all ≡ next ∷ rest → All (λ (n : Next). HasInput a n.set) all → All (λ (n : Next). (n.set < length (set a.sets.items i x)) × (n.set < length (set a.changes.items i y))) rest
has_still a i x y all rest next e h k d l =
    let q = All-tail (λ (n : Next). HasInput a n.set) next rest (subst (All (λ (n : Next). HasInput a n.set)) e h) k d l in
    let long = length-set a.sets.items i x in
    let many = length-set a.changes.items i y in
    (omega (arith, q.0, long), omega (arith, q.1, many))

pub has_next : (a : Inputs) (all rest : List Next) (next : Next) → all ≡ next ∷ rest → All (λ (n : Next). HasInput a n.set) all → HasInput a next.set
has_next a all rest next e h = All-head (λ (n : Next). HasInput a n.set) next rest (subst (All (λ (n : Next). HasInput a n.set)) e h)

pub all_put : (bases tos nows afters : List DataSet) (rest : List Next) (a : Inputs) → rest ≡ [] → IsPutSo bases tos nows afters rest a → InputsKept bases tos afters a
all_put bases tos nows afters rest a e p =
    subst (λ (xs : List DataSet). InputsKept bases tos xs a) (same-inputs p.sets afters p.long (λ n l. p.right n (subst (All (λ (q : Next). q.set ≢ n)) (sym e) (All-nil (λ (q : Next). q.set ≢ n))))) p.kept

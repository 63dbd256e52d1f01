-- Revisions that are judged one after another.
use Rattle.std.proofs.Common.{◌≡◌, ◌≤◌, ◌+◌, ◌*◌, ℕ, false, nat_lt, List, [], ◌∷◌, ◌++◌, length, map, sum, None, refl, sym, ap, ◌∙◌, subst, arith, length-append}
use Rattle.std.specs.List.{AllZip, sum_by}
use Rattle.std.proofs.lemmas.Bool.Decides.{nat_tests}
use Rattle.std.proofs.lemmas.List.Sums.{fold-append, sum-map, sum_by-append}
use Rattle.point_sets.specs.declared.revision.Revision.{Revision}
use Rattle.data_set_trees.specs.checked.Scripts.{Script, IsChecked}
use Rattle.revision_judge.specs.Judging.{Judgement, Fit, Refused as RefusedFor, judged, inputs_after}
use Rattle.round_core.specs.Journals.{State, fields_of, accepted_after, round_need, verdict_for, verdict_on}
use Rattle.round_core.specs.entry.What.TheVariants.{Judged}
use Rattle.round_core.specs.verdict.Verdict.{Verdict}
use Rattle.round_core.specs.declared.limits.Limits.{Limits}
use Rattle.round_core.specs.Answers.{full_for, entries_wanting, fields_wanting}
use Rattle.round_core.specs.Seen.{Seen, state_in, seen_with}
use Rattle.round_runs.specs.declared.eval.Verdicts.{Verdicts}
use Rattle.round_runs.specs.Eval.{Judging, at_first, judge_next, verdict_after}
use Rattle.round_runs.specs.Lines.{verdict_line}
use Rattle.round_runs.specs.Runs.{LIMITS, IsVerdictOn, IsFew, IsFirst, JudgedSo, JudgesNext, count_after}
use Rattle.round_runs.proofs.RoundLemmas.{state_in-more}

-- ---- lists

AllZip-more : {A B : Type 0} (R : A → B → Type 0) (xs : List A) (ys : List B) (x : A) (y : B) → AllZip R xs ys → R x y → AllZip R (xs ++ x ∷ []) (ys ++ y ∷ [])
AllZip-more R [] [] x y h r = (r, tt)
AllZip-more R [] (b ∷ ys) x y h r = absurd h
AllZip-more R (a ∷ xs) [] x y h r = absurd h
AllZip-more R (a ∷ xs) (b ∷ ys) x y h r = (h.0, AllZip-more R xs ys x y h.1 r)

pub AllZip-length : {A B : Type 0} (R : A → B → Type 0) (xs : List A) (ys : List B) → AllZip R xs ys → length ys ≡ length xs
AllZip-length R [] [] h = refl
AllZip-length R [] (b ∷ ys) h = absurd h
AllZip-length R (a ∷ xs) [] h = absurd h
AllZip-length R (a ∷ xs) (b ∷ ys) h = let same = AllZip-length R xs ys h.1 in grind (arith, same)

-- the fields of some revisions, and of others behind them
fields_all : (rs qs : List Revision) → sum (map fields_of (rs ++ qs)) ≡ sum (map fields_of rs) + sum (map fields_of qs)
fields_all rs qs = sum-map fields_of (rs ++ qs) ∙ sum_by-append fields_of rs qs ∙ ap (λ (n : ℕ). n + sum_by fields_of qs) (sym (sum-map fields_of rs)) ∙ ap (λ (n : ℕ). sum (map fields_of rs) + n) (sym (sum-map fields_of qs))

fields_one : (r : Revision) → sum (map fields_of (r ∷ [])) ≡ fields_of r
fields_one r = omega arith

-- ---- room

not_above : (n m : ℕ) → m ≤ n → nat_lt n m ≡ false
not_above n m h = grind (arith, nat_tests)

pub entries_fit : (p : Seen) (kept need : ℕ) → length p.journal + kept + need ≤ p.limits.entries → entries_wanting p kept need ≡ None
entries_fit p kept need h = rw (not_above p.limits.entries (length p.journal + kept + need) h) refl

fields_fit : (p : Seen) (r : Revision) → (state_in p).fields + fields_of r ≤ p.limits.fields → fields_wanting p r ≡ None
fields_fit p r h = rw (not_above p.limits.fields ((state_in p).fields + fields_of r) h) refl

-- a revision more fits
pub fits : (c : Script) (rs qs : List Revision) (r : Revision) (vs : Verdicts) (p : Seen) → JudgedSo c rs vs p → IsFew (rs ++ r ∷ qs) → full_for p r ≡ None
fits c rs qs r vs p h few =
    let many : length (rs ++ r ∷ qs) ≡ length rs + length (r ∷ qs) = length-append rs (r ∷ qs) in
    let long : length p.journal ≡ length rs = AllZip-length IsVerdictOn rs p.journal h.each in
    let entries : p.limits.entries ≡ 4000000 = ap (λ (l : Limits). l.entries) h.limits_are in
    let fields : p.limits.fields ≡ 16000000 = ap (λ (l : Limits). l.fields) h.limits_are in
    let all = fields_all rs (r ∷ qs) in
    let of_rest = fields_all (r ∷ []) qs in
    let one = fields_one r in
    let running = h.rest.running in
    let entries_none : entries_wanting p 0 1 ≡ None = entries_fit p 0 1 (omega (arith, many, long, entries, few.revisions_few)) in
    let fields_none : fields_wanting p r ≡ None = fields_fit p r (omega (arith, fields, all, of_rest, one, few.fields_few, h.fields_are)) in
    rw (running, entries_none) fields_none

-- ---- one revision more

pub judged_first : (c : Script) (p : Seen) (vs : Verdicts) → p ≡ record { script = c; limits = LIMITS; journal = [] } → vs.accepted ≡ 0 → vs.lines.items ≡ [] → JudgedSo c [] vs p
judged_first c p vs is count lines = subst (JudgedSo c [] vs) (sym is) (record {
  script_is = refl;
  limits_are = refl;
  so_far = ap (λ (t : List ℕ). let j : Judging = record { accepted = []; text = t } in j) (sym lines);
  count = count;
  each = tt;
  fields_are = refl;
  rest = record { first = refl; newest = refl; round = refl; latest = refl; earlier = refl; running = refl; to = refl };
})

count_of : (before : List Revision) (r : Revision) (j : Judgement)
    → count_after (length before) (verdict_for r (length before + 1) j) ≡ length (accepted_after before r (verdict_for r (length before + 1) j))
count_of before r (Fit nexts) = sym (length-append before (r ∷ []))
count_of before r (RefusedFor refusal) = refl

more_with : (c : Script) (rs : List Revision) (r : Revision) (vs ws : Verdicts) (p : Seen) (v : Verdict) → JudgedSo c rs vs p → v ≡ verdict_after c (state_in p).accepted r
    → ws.lines.items ≡ vs.lines.items ++ verdict_line v → ws.accepted ≡ count_after vs.accepted v → JudgedSo c (rs ++ r ∷ []) ws (seen_with p 0 (Judged r v))
more_with c rs r vs ws p v h verdict line count =
    let s = state_in p in
    let now = state_in-more p 0 (Judged r v) in
    record {
      script_is = h.script_is;
      limits_are = h.limits_are;
      so_far = fold-append (judge_next c) at_first rs (r ∷ [])
          ∙ ap (λ (j : Judging). judge_next c j r) h.so_far
          ∙ ap (λ (v : Verdict). let j : Judging = record { accepted = accepted_after s.accepted r v; text = vs.lines.items ++ verdict_line v } in j) (sym verdict)
          ∙ ap (λ (t : List ℕ). let j : Judging = record { accepted = accepted_after s.accepted r v; text = t } in j) (sym line)
          ∙ ap (λ (q : State). let j : Judging = record { accepted = q.accepted; text = ws.lines.items } in j) (sym now);
      count = count ∙ ap (λ (n : ℕ). count_after n v) h.count
          ∙ subst (λ (v : Verdict). count_after (length s.accepted) v ≡ length (accepted_after s.accepted r v)) (sym verdict) (count_of s.accepted r (judged c.inputs (inputs_after c.inputs s.accepted) r))
          ∙ ap (λ (q : State). length q.accepted) (sym now);
      each = AllZip-more IsVerdictOn rs p.journal r _ h.each (v, refl);
      fields_are = ap (λ (q : State). q.fields) now ∙ ap (λ (n : ℕ). n + fields_of r) h.fields_are ∙ ap (λ (n : ℕ). sum (map fields_of rs) + n) (sym (fields_one r)) ∙ sym (fields_all rs (r ∷ []));
      rest = subst (IsFirst c) (sym now) (record { first = h.rest.first; newest = h.rest.newest; round = h.rest.round; latest = h.rest.latest; earlier = h.rest.earlier; running = h.rest.running; to = h.rest.to });
    }

-- the verdict is that on the inputs of the first script
verdict_first : (c : Script) (p : Seen) (r : Revision) → (state_in p).first ≡ c → verdict_on (state_in p) r ≡ verdict_after c (state_in p).accepted r
verdict_first c p r first = ap (λ (d : Script). verdict_after d (state_in p).accepted r) first

pub judged_more : (c : Script) (rs : List Revision) (r : Revision) (vs ws : Verdicts) (p q : Seen) → JudgedSo c rs vs p → JudgesNext p vs r q ws → JudgedSo c (rs ++ r ∷ []) ws q
judged_more c rs r vs ws p q h next =
    subst (JudgedSo c (rs ++ r ∷ []) ws) (sym next.entry)
    (more_with c rs r vs ws p next.verdict h (next.verdict_is ∙ verdict_first c p r h.rest.first) next.line next.count)

-- a round has room behind the verdicts
pub room_of : (c : Script) (rs : List Revision) (vs : Verdicts) (p : Seen) → JudgedSo c rs vs p → IsFew rs → IsChecked c → length p.journal + round_need c ≤ p.limits.entries
room_of c rs vs p h few checked =
    let long : length p.journal ≡ length rs = AllZip-length IsVerdictOn rs p.journal h.each in
    let entries : p.limits.entries ≡ 4000000 = ap (λ (l : Limits). l.entries) h.limits_are in
    let statements = checked.few in
    omega (arith, long, entries, statements, few.revisions_few)

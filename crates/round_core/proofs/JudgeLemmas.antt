-- Judging.
use Rattle.std.proofs.Common.{◌≡◌, ℕ, ◌+◌, ◌≤◌, List, [], ◌∷◌, ◌++◌, length, Vec, vec_capacity, sym, ◌∙◌, ap, refl, arith, subst, length-append, set}
use Rattle.std.specs.declared.alloc.Global.{Global}
use Rattle.std.specs.List.{All}
use Rattle.std.specs.Arc.{arc_value}
use Rattle.point_sets.specs.DataSets.{DataSet}
use Rattle.point_sets.specs.declared.revision.Revision.{Revision}
use Rattle.data_set_trees.specs.checked.Scripts.{Script}
use Rattle.revision_judge.specs.declared.ruling.Refusal.{Refusal}
use Rattle.revision_judge.specs.declared.ruling.Ruling.TheVariants as ruling
use Rattle.revision_judge.specs.declared.ruling.Share.{Share}
use Rattle.revision_judge.specs.Shares.{AreShares, StandsForJudgement}
use Rattle.revision_judge.proofs.Judgements.{inputs_after-fit, accepted-long}
use Rattle.revision_judge.proofs.RefusedParts.{one-of-the-parts}
use Rattle.round_journal.proofs.CountLemmas.{CountsWithin-journal}
use Rattle.revision_judge.specs.Judging.{AreInputs as AreJudged, Judgement, Fit, Refused as RefusedFor, judged, settled}
use Rattle.round_journal.specs.declared.entry.Entry.{Entry}
use Rattle.round_journal.specs.declared.entry.What.{What}
use Rattle.round_journal.specs.declared.entry.What.TheVariants.{Judged}
use Rattle.round_journal.specs.declared.verdict.Verdict.{Verdict}
use Rattle.round_journal.specs.declared.verdict.Verdict.TheVariants.{Accepted, Refused}
use Rattle.round_journal.specs.Journals.{State, Status, after_what, state_of, old_inputs, new_inputs, inputs_now, fields_of, name_of_part, Over, verdict_on, verdict_for}
use Rattle.round_journal.specs.Counts.{PrefixesInOrder}
use Rattle.round_journal.proofs.InputLemmas.{inputs_now-judged}
use Rattle.round_journal.proofs.ReadyLemmas.{Over-judged}
use Rattle.round_journal.proofs.ReleaseLemmas.{IsRelease-stays}
use Rattle.round_core.specs.declared.counts.Counts.{Counts}
use Rattle.round_core.specs.declared.inputs.Inputs.{Inputs}
use Rattle.round_core.specs.declared.machine.Machine.{Machine}
use Rattle.round_core.specs.Answers.{told}
use Rattle.round_core.specs.Inputs.{InputsKept, HasInput}
use Rattle.round_core.specs.Kept.{Scene, scene_of, CountsKept, SlotsKept, Within, Sound, KeptMachine, seen_of, state_at}
use Rattle.round_core.specs.Steps.{Judges, HasRoom}
use Rattle.round_core.proofs.KeptLemmas.{fits_in, told-small, state_along, seen_along, GoesTo, within_next, in_order, earlier_stays, olds_stay, news_stay}

abbrev scene : Script → ℕ → ℕ → (ℕ → Status) → List DataSet → List DataSet → Scene
scene c p r f xs ys = record { script = c; published = p; round = r; olds = xs; news = ys; status = f }

-- judging leaves what the slots go by
pub scene_stays : (s : State) (n : ℕ) (r : Revision) (v : Verdict) → PrefixesInOrder s → scene_of s ≡ scene_of (after_what s n (Judged r v))
scene_stays s n r v p =
    let t : State = after_what s n (Judged r v) in
    ap (λ xs. scene s.round.script s.published s.rounds s.status xs (new_inputs s)) (sym (olds_stay s n (Judged r v) p refl)) ∙ ap (λ ys. scene s.round.script s.published s.rounds s.status (old_inputs t) ys) (sym (news_stay s n (Judged r v) p refl))

pub kept_judged : (a : Machine) (j : Vec Entry Global) (k : Counts) (i : Inputs) (n : ℕ) (r : Revision) (v : Verdict) → KeptMachine a → HasRoom a r → v ≡ verdict_on (state_at a) r
    → CountsKept k (after_what (state_at a) n (Judged r v)) → InputsKept (old_inputs (state_at a)) (new_inputs (state_at a)) (inputs_now (after_what (state_at a) n (Judged r v))) i
    → j.items ≡ a.journal.items ++ (record { by = n; what = Judged r v }) ∷ [] → vec_capacity a.journal ≤ vec_capacity j → k.aside ≡ a.counts.aside → k.newest ≡ a.counts.newest
    → Judges a n r v (record a { journal = j; counts = k; inputs = i })
kept_judged a j k i n r v kept has ev counts inputs ej room ek en =
    let s : State = state_at a in
    let w : What = Judged r v in
    let t : State = after_what s n w in
    let b : Machine = record a { journal = j; counts = k; inputs = i } in
    let st : t ≡ state_of (arc_value a.first) j.items = state_along a j.items n w ej in
    let fits = fits_in (seen_of a) r has.fits in
    let p = in_order a kept.within in
    let old = kept.sound in
    let sound : Sound b t = record {
      scripts = record { first = old.scripts.first; newest = old.scripts.newest; round = old.scripts.round };
      counts = counts;
      inputs = subst (λ (xs : List DataSet). InputsKept xs (new_inputs t) (inputs_now t) i) (sym (olds_stay s n w p refl)) (subst (λ (ys : List DataSet). InputsKept (old_inputs s) ys (inputs_now t) i) (sym (news_stay s n w p refl)) inputs);
      slots = subst (λ (q : Scene). SlotsKept q s.running a.slots.items) (scene_stays s n r v p) old.slots;
      passed = old.passed;
      release = IsRelease-stays s n w a.latest p tt old.release;
      earlier = earlier_stays s n w a.earlier.items p tt old.earlier;
      earlier_fit = old.earlier_fit;
      pages = old.pages;
      pages_fit = old.pages_fit;
    } in
    let goes : GoesTo a n w b = record { first = refl; limits = refl; items = ej; may = (kept.live, ev) } in
    record {
      verdict = ev;
      kept = record {
        within = within_next a b n w kept.within goes (omega (arith, fits.entries, ek, old.counts.aside)) (omega (arith, counts.fields, fits.fields)) (omega (arith, en, kept.within.scripts_fit)) (omega (arith, has.room, room, ek));
        sound = subst (λ (u : State). Sound b u) st sound;
        live = subst (λ (u : State). ¬ (Over u)) st (λ over. kept.live ((Over-judged s n r v p).0 over));
      };
      entry = seen_along a j.items n w ej;
    }

-- ---- an accepted revision

pub record FitsSo (xs : List DataSet) (shares : List Share) (j : Judgement) : Type 0 where
  pub afters : List DataSet
  pub judgement : j ≡ Fit afters
  pub shared : AreShares xs afters shares

pub fits_so : (xs : List DataSet) (shares : List Share) (j : Judgement) → StandsForJudgement xs (ruling.Fit shares) j → FitsSo xs shares j
fits_so xs shares (Fit afters) h = record { afters = afters; judgement = refl; shared = h }
fits_so xs shares (RefusedFor refusal) h = absurd h

pub refused_so : (xs : List DataSet) (told : Refusal) (j : Judgement) → StandsForJudgement xs (ruling.Refused told) j → j ≡ RefusedFor told
refused_so xs told (Fit afters) h = absurd h
refused_so xs told (RefusedFor refusal) h = ap RefusedFor (sym h)

-- the numbers that fit
pub count_exact : (a : Machine) (r : Revision) (count : ℕ) → KeptMachine a → HasRoom a r → count ≡ told (fields_of r) → count ≡ fields_of r
count_exact a r count kept has e = let fits = fits_in (seen_of a) r has.fits in e ∙ told-small (fields_of r) (let l : a.limits.fields ≤ 16000000 = kept.within.fields in omega (arith, fits.fields, l))

pub kept_accepted : (a : Machine) (j : Vec Entry Global) (i : Inputs) (n : ℕ) (r : Revision) (shares : List Share) (count : ℕ) → KeptMachine a → HasRoom a r
    → (h : FitsSo (inputs_now (state_at a)) shares (judged (arc_value a.first).inputs (inputs_now (state_at a)) r))
    → InputsKept (old_inputs (state_at a)) (new_inputs (state_at a)) h.afters i
    → j.items ≡ a.journal.items ++ (record { by = n; what = Judged r (Accepted (a.counts.accepted + 1)) }) ∷ [] → vec_capacity a.journal ≤ vec_capacity j → count ≡ told (fields_of r)
    → Judges a n r (Accepted (a.counts.accepted + 1)) (record a { journal = j; counts = record a.counts { accepted = a.counts.accepted + 1; fields = a.counts.fields + count }; inputs = i })
kept_accepted a j i n r shares count kept has h inputs ej room ec =
    let s : State = state_at a in
    let v : Verdict = Accepted (a.counts.accepted + 1) in
    let k : Counts = record a.counts { accepted = a.counts.accepted + 1; fields = a.counts.fields + count } in
    let old = kept.sound.counts in
    let first = ap (λ (q : Script). judged q.inputs (inputs_now s) r) kept.sound.scripts.first in
    let ev : v ≡ verdict_on s r = ap (λ m. Accepted (m + 1)) old.accepted ∙ ap (verdict_for r (length s.accepted + 1)) (sym h.judgement ∙ first) in
    let counts : CountsKept k (after_what s n (Judged r v)) = record {
      accepted = ap (λ m. m + 1) old.accepted ∙ sym (length-append s.accepted (r ∷ []));
      fields = ap (λ m. m + count) old.fields ∙ ap (λ m. s.fields + m) (count_exact a r count kept has ec);
      newest = old.newest;
      published = old.published;
      rounds = old.rounds;
      script = old.script;
      base = old.base;
      running = old.running;
      dropped = old.dropped;
      spoiled = old.spoiled;
      to = old.to;
      aside = old.aside;
    } in
    let along : h.afters ≡ inputs_now (after_what s n (Judged r v)) = sym (ap (λ w. inputs_now (after_what s n (Judged r w))) ev ∙ inputs_now-judged s n r ∙ ap (settled (inputs_now s)) (sym first ∙ h.judgement)) in
    kept_judged a j k i n r v kept has ev counts (subst (λ (xs : List DataSet). InputsKept (old_inputs s) (new_inputs s) xs i) along inputs) ej room refl refl

-- ---- a refused one

pub kept_refused : (a : Machine) (j : Vec Entry Global) (n : ℕ) (r : Revision) (told_refusal : Refusal) (set : List ℕ) (parts count : ℕ) → KeptMachine a → HasRoom a r
    → judged (arc_value a.first).inputs (inputs_now (state_at a)) r ≡ RefusedFor told_refusal → set ≡ name_of_part r.parts told_refusal.part → parts ≡ length r.parts
    → j.items ≡ a.journal.items ++ (record { by = n; what = Judged r (Refused set parts told_refusal) }) ∷ [] → vec_capacity a.journal ≤ vec_capacity j → count ≡ told (fields_of r)
    → Judges a n r (Refused set parts told_refusal) (record a { journal = j; counts = record a.counts { fields = a.counts.fields + count } })
kept_refused a j n r refusal set parts count kept has h es ep ej room ec =
    let s : State = state_at a in
    let v : Verdict = Refused set parts refusal in
    let k : Counts = record a.counts { fields = a.counts.fields + count } in
    let old = kept.sound.counts in
    let first = ap (λ (q : Script). judged q.inputs (inputs_now s) r) kept.sound.scripts.first in
    let ev : v ≡ verdict_on s r = (λ i. Refused (es i) (ep i) refusal) ∙ ap (verdict_for r (length s.accepted + 1)) (sym h ∙ first) in
    let counts : CountsKept k (after_what s n (Judged r v)) = record {
      accepted = old.accepted;
      fields = ap (λ m. m + count) old.fields ∙ ap (λ m. s.fields + m) (count_exact a r count kept has ec);
      newest = old.newest;
      published = old.published;
      rounds = old.rounds;
      script = old.script;
      base = old.base;
      running = old.running;
      dropped = old.dropped;
      spoiled = old.spoiled;
      to = old.to;
      aside = old.aside;
    } in
    kept_judged a j k a.inputs n r v kept has ev counts kept.sound.inputs ej room refl refl

-- ---- inputs

pub kept_inputs : (a : Machine) (i : Inputs) → KeptMachine a → InputsKept (old_inputs (state_at a)) (new_inputs (state_at a)) (inputs_now (state_at a)) i → KeptMachine (record a { inputs = i })
kept_inputs a i k h =
    let o = k.sound in
    let w = k.within in
    record {
      within = record { checked = w.checked; legal = w.legal; entries = w.entries; fields = w.fields; scripts = w.scripts; fits = w.fits; fields_fit = w.fields_fit; scripts_fit = w.scripts_fit; room = w.room };
      sound = record {
        scripts = record { first = o.scripts.first; newest = o.scripts.newest; round = o.scripts.round };
        counts = o.counts;
        inputs = h;
        slots = o.slots;
        passed = o.passed;
        release = o.release;
        earlier = o.earlier;
        earlier_fit = o.earlier_fit;
        pages = o.pages;
        pages_fit = o.pages_fit;
      };
      live = k.live;
    }

-- the shares of an accepted revision are of the inputs
pub shares_below : (a : Machine) (xs afters : List DataSet) (shares : List Share) → Sound a (state_at a) → xs ≡ inputs_now (state_at a) → AreShares xs afters shares → All (λ share. HasInput a.inputs share.set) shares
shares_below a xs afters shares sound e h k d l =
    let below = (h.each k d l).below in
    let long = ap length e in
    let p = ap length sound.inputs.sets in
    let q = sound.inputs.many in
    (omega (arith, below, long, p), omega (arith, below, long, q))

-- the inputs are as many after it
pub afters_long : (a : Machine) (r : Revision) (afters : List DataSet) → judged (arc_value a.first).inputs (inputs_now (state_at a)) r ≡ Fit afters → length afters ≡ length (inputs_now (state_at a))
afters_long a r afters e = accepted-long (arc_value a.first).inputs (inputs_now (state_at a)) r afters e

-- a refused revision is refused in one of its parts
pub part_within : (a : Machine) (r : Revision) (refusal : Refusal) → judged (arc_value a.first).inputs (inputs_now (state_at a)) r ≡ RefusedFor refusal → (1 ≤ refusal.part) × (refusal.part ≤ length r.parts)
part_within a r refusal e = one-of-the-parts (arc_value a.first).inputs (inputs_now (state_at a)) r refusal e

-- inputs that are the same are kept as they were
pub same_inputs : (a : Machine) (i : Inputs) → KeptMachine a → i ≡ a.inputs → KeptMachine (record a { inputs = i })
same_inputs a i kept e = kept_inputs a i kept (subst (InputsKept (old_inputs (state_at a)) (new_inputs (state_at a)) (inputs_now (state_at a))) (sym e) kept.sound.inputs)

pub accepted_few : (a : Machine) → Within a → Sound a (state_at a) → a.counts.accepted ≤ 4000000
accepted_few a w sound = let h = (CountsWithin-journal (arc_value a.first) a.journal.items).accepted in let l : a.limits.entries ≤ 4000000 = w.entries in omega (arith, h, l, w.fits, sound.counts.accepted)

pub rounds_few : (a : Machine) → Within a → Sound a (state_at a) → a.counts.rounds ≤ 4000000
rounds_few a w sound = let h = (CountsWithin-journal (arc_value a.first) a.journal.items).rounds in let l : a.limits.entries ≤ 4000000 = w.entries in omega (arith, h, l, w.fits, sound.counts.rounds)

pub number_few : (a : Machine) → Within a → Sound a (state_at a) → a.latest.number ≤ 4000000
number_few a w sound = let h = (CountsWithin-journal (arc_value a.first) a.journal.items).number in let l : a.limits.entries ≤ 4000000 = w.entries in omega (arith, h, l, w.fits, sound.release.number_is)

pub inputs_fit : (a : Machine) (xs : List DataSet) → Sound a (state_at a) → xs ≡ a.inputs.sets.items → AreJudged (arc_value a.first).inputs xs
inputs_fit a xs sound e = subst (λ (q : List DataSet). AreJudged (arc_value a.first).inputs q) (sym (e ∙ sound.inputs.sets)) (subst (λ (q : Script). AreJudged q.inputs (inputs_now (state_at a))) (sym sound.scripts.first) (inputs_after-fit (state_at a).first.inputs (state_at a).accepted))

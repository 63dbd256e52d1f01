-- What a run comes to.
use Rattle.std.proofs.Common.{◌≡◌, ◌≢◌, ◌==◌, ◌||◌, ◌<◌, ◌+◌, ℕ, Bool, true, false, List, [], ◌∷◌, ◌++◌, length, take, Option, Some, None, refl, sym, ap, ◌∙◌, subst, arith, append_assoc, append-nil, length-append}
use Rattle.std.proofs.Math.Seq.{take-length}
use Rattle.std.proofs.lemmas.Bool.Decides.{nat_tests}
use Rattle.point_sets.specs.declared.revision.Revision.{Revision}
use Rattle.point_sets.specs.DataSets.{DataSet}
use Rattle.data_set_trees.specs.checked.Scripts.{Script, IsChecked}
use Rattle.operator_meaning.specs.Scripts.{ScriptWrong, script_wrong}
use Rattle.release_text.specs.Releases.{Page, release}
use Rattle.release_text.specs.declared.release.Release.{Release}
use Rattle.revision_judge.specs.Judging.{inputs_after}
use Rattle.round_core.specs.Journals.{State, Named, Numbered, numbered_first, start, after_what, state_of, number, inputs, inputs_now, new_inputs, round_wrong, fault_said, MayCome, Legal}
use Rattle.round_core.specs.Releases.{IsRelease, pages_on}
use Rattle.round_core.specs.entry.Entry.{Entry}
use Rattle.round_core.specs.entry.What.{What}
use Rattle.round_core.specs.entry.What.TheVariants.{Opened, Published as PublishedTo, Failed as FailedTo}
use Rattle.round_core.specs.verdict.ScriptFault.{ScriptFault}
use Rattle.round_core.proofs.JournalLemmas.{LegalFrom-parts}
use Rattle.round_core.proofs.InputLemmas.{inputs-all}
use Rattle.round_core.proofs.BoundLemmas.{in_bounds-legal}
use Rattle.round_core.specs.Answers.{nothing_new, cannot_open}
use Rattle.round_core.specs.Seen.{Seen, state_in}
use Rattle.round_core.specs.declared.stops.Given.{Given}
use Rattle.round_core.specs.declared.stops.Given.TheVariants.{Published, Failed}
use Rattle.round_runs.specs.declared.eval.End.{End}
use Rattle.round_runs.specs.declared.eval.End.TheVariants as end
use Rattle.round_runs.specs.declared.eval.Ran.{Ran}
use Rattle.round_runs.specs.declared.eval.Verdicts.{Verdicts}
use Rattle.round_runs.specs.declared.round.RoundEnd.{RoundEnd}
use Rattle.round_runs.specs.declared.round.RoundEnd.TheVariants as round
use Rattle.round_runs.specs.Eval.{Judging, judge_all, answer_on, round_of, end_of, failed_line}
use Rattle.round_runs.specs.Answers.{Answer}
use Rattle.round_runs.specs.Rounds.{RunsRound, RunsWhole, newly_open}
use Rattle.round_runs.specs.Runs.{IsEnd, IsRound, IsRoundOf, IsRunOf, IsFirst, JudgedSo, IsFailed, EndsSo, WritesEnd, IsAtRest, HasFault, LeavesSo, RanSo}
use Rattle.round_runs.proofs.RoundLemmas.{state_in-more}
use Rattle.round_runs.proofs.JudgeLemmas.{room_of}
use Rattle.round_runs.proofs.OpenLemmas.{HasRoom, none_accepted, some_accepted}

-- ---- the inputs of a state

inputs_of_all : (c : Script) (s : State) (n : ℕ) (acc : List Revision) → s.first ≡ c → n ≡ length acc → s.accepted ≡ acc → inputs n s ≡ inputs_after c.inputs acc
inputs_of_all c s n acc first many same =
    ap (λ (d : Script). inputs_after d.inputs (take n s.accepted)) first
    ∙ ap (inputs_after c.inputs) (ap (λ (m : ℕ). take m s.accepted) many ∙ ap (take (length acc)) same ∙ take-length acc)

inputs_now_of : (c : Script) (s : State) (acc : List Revision) → s.first ≡ c → s.accepted ≡ acc → inputs_now s ≡ inputs_after c.inputs acc
inputs_now_of c s acc first same = ap (λ (d : Script). inputs_after d.inputs s.accepted) first ∙ ap (inputs_after c.inputs) same

-- ---- what is answered

-- the only release so far names the first script and all accepted revisions
record NamesAll (c : Script) (n : ℕ) (acc : List Revision) (s : State) : Type 0 where
  first : s.first ≡ c
  latest : s.latest ≡ record { prefix = length acc; script = numbered_first c }
  number_is : number s ≡ n
  accepted : s.accepted ≡ acc

answer_of_release : (c : Script) (n : ℕ) (acc : List Revision) (s : State) (r : Release) → script_wrong c (inputs_after c.inputs acc) ≡ None
    → NamesAll c n acc s → IsRelease s r → round_of c n acc ≡ record { status = 0; text = release r.number r.prefix r.script r.pages }
answer_of_release c n acc s r fine names h =
    let prefix : s.latest.prefix ≡ length acc = ap (λ (l : Named). l.prefix) names.latest in
    let script : s.latest.script.number ≡ 0 = ap (λ (l : Named). l.script.number) names.latest in
    let xs : inputs s.latest.prefix s ≡ inputs_after c.inputs acc = inputs_of_all c s s.latest.prefix acc names.first prefix names.accepted in
    let pages : r.pages ≡ pages_on c (inputs_after c.inputs acc) =
    h.pages_are ∙ ap (λ (l : Named). pages_on l.script.script (inputs s.latest.prefix s)) names.latest ∙ ap (pages_on c) xs in
    ap (answer_on c n acc) fine
    ∙ ap (λ (k : ℕ). let a : Answer = record { status = 0; text = release k (length acc) 0 (pages_on c (inputs_after c.inputs acc)) } in a) (sym (h.number_is ∙ names.number_is))
    ∙ ap (λ (k : ℕ). let a : Answer = record { status = 0; text = release r.number k 0 (pages_on c (inputs_after c.inputs acc)) } in a) (sym (h.prefix_is ∙ prefix))
    ∙ ap (λ (k : ℕ). let a : Answer = record { status = 0; text = release r.number r.prefix k (pages_on c (inputs_after c.inputs acc)) } in a) (sym (h.script_is ∙ script))
    ∙ ap (λ (ps : List Page). let a : Answer = record { status = 0; text = release r.number r.prefix r.script ps } in a) (sym pages)

end_of_some : (c : Script) (acc : List Revision) → 0 < length acc → end_of c acc ≡ round_of c 1 acc
end_of_some c [] h = absurd (omega (arith, h))
end_of_some c (r ∷ rs) h = refl

round_of_some : (acc : List Revision) (es : List Entry) → 0 < length acc → IsRound (length acc) es → IsRoundOf acc es
round_of_some [] es h r = absurd (omega (arith, h))
round_of_some (a ∷ acc) es h r = r

-- ---- a production at rest

same_number : (n : ℕ) → (n == n) ≡ true
same_number n = grind (arith, nat_tests)

or_true : (b : Bool) → (b || true) ≡ true
or_true true = refl
or_true false = refl

-- the last round had all accepted revisions and the newest script
all_had : (s : State) → s.to ≡ length s.accepted → s.dropped ≡ false → s.round ≡ s.newest → nothing_new s ≡ true
all_had s to dropped round = rw (to, dropped, round, same_number (length s.accepted), same_number s.newest.number) (or_true _)

none_had : (s : State) → s.accepted ≡ [] → s.newest.number ≡ 0 → nothing_new s ≡ true
none_had s none newest = rw (none, newest) refl

in_bounds_now : (c : Script) (p : Seen) (acc : List Revision) → p.script ≡ c → (state_in p).first ≡ c → (state_in p).accepted ≡ acc → script_wrong p.script (inputs_now (state_in p)) ≡ script_wrong c (inputs_after c.inputs acc)
in_bounds_now c p acc script first same = ap (λ (d : Script). script_wrong d (inputs_now (state_in p))) script ∙ ap (script_wrong c) (inputs_now_of c (state_in p) acc first same)

-- ---- a run without a round

pub ran_none : (c : Script) (rs : List Revision) (vs : Verdicts) (p q : Seen) (ran : Ran) → JudgedSo c rs vs p → IsChecked c → Legal p.script p.journal
    → q ≡ p → (state_in p).accepted ≡ [] → ran.production ≡ q → ran.lines ≡ vs.lines → ran.end ≡ end.Released → RanSo c rs ran
ran_none c rs vs p q ran h checked legal is none production lines ends =
    let s = state_in p in
    let judged = ap (λ (j : Judging). j.accepted) h.so_far in
    let bounded = in_bounds-legal p.script p.journal (subst IsChecked (sym h.script_is) checked) legal in
    let prefix : s.latest.prefix ≡ 0 = ap (λ (l : Named). l.prefix) h.rest.latest in
    let script : s.latest.script.script ≡ c = ap (λ (l : Named). l.script.script) h.rest.latest in
    let fine : script_wrong c (inputs_after c.inputs []) ≡ None =
    ap (script_wrong c) (sym (inputs_of_all c s s.latest.prefix [] h.rest.first prefix none)) ∙ ap (λ (d : Script). script_wrong d (inputs s.latest.prefix s)) (sym script) ∙ bounded in
    let same : ran.production ≡ p = production ∙ is in
    let names : NamesAll c 0 [] s = record { first = h.rest.first; latest = h.rest.latest; number_is = ap (λ (l : List Named). length l) h.rest.earlier; accepted = none } in
    let rests : IsAtRest p = record {
      closed = h.rest.running;
      prefix = prefix ∙ sym (ap (λ (l : List Revision). length l) none);
      done = none_had s none (ap (λ (m : Numbered). m.number) h.rest.newest);
      in_bounds = in_bounds_now c p [] h.script_is h.rest.first none ∙ fine;
    } in
    record {
      run = subst (IsRunOf c rs) (sym same) (record {
        script_is = h.script_is;
        limits_are = h.limits_are;
        journal_is = record {
          verdicts = p.journal;
          round = [];
          parts = sym (append-nil p.journal);
          each = h.each;
          one_round = subst (λ (acc : List Revision). IsRoundOf acc []) (sym (judged ∙ none)) refl;
        };
      });
      lines = ap (λ v. v.items) lines ∙ sym (ap (λ (j : Judging). j.text) h.so_far);
      end = subst (λ (e : End). WritesEnd ran.production e (end_of c (judge_all c rs).accepted)) (sym ends)
          (λ r made. ap (end_of c) (judged ∙ none) ∙ answer_of_release c 0 [] s r fine names (subst (λ (q : Seen). IsRelease (state_in q) r) same made));
      legal = subst (λ (q : Seen). Legal q.script q.journal) (sym same) legal;
      leaves = subst (λ (e : End). LeavesSo ran.production e) (sym ends) (subst IsAtRest (sym same) rests);
    }

-- ---- a run with a round

-- how a round stands at its last entry: the state before it, of which the entry may come
record Last (c : Script) (acc : List Revision) (w : What) (t u : State) : Type 0 where
  may : MayCome t 0 w
  then : u ≡ after_what t 0 w
  first : t.first ≡ c
  newest : t.newest ≡ numbered_first c
  round : t.round ≡ numbered_first c
  earlier : t.earlier ≡ []
  dropped : t.dropped ≡ false
  accepted : t.accepted ≡ acc
  to : t.to ≡ length acc

last_may : (c : Script) (j : List Entry) (e : Entry) → Legal c (j ++ e ∷ []) → MayCome (state_of c j) e.by e.what
last_may c j e legal = (LegalFrom-parts (start c) j (e ∷ []) legal).1.0

opened_to : (p : Seen) → (state_in (newly_open p 0)).to ≡ length (state_in p).accepted
opened_to p = ap (λ (s : State). s.to) (state_in-more p 0 (Opened (length (state_in p).accepted)))

last_of : (c : Script) (rs : List Revision) (vs : Verdicts) (p q : Seen) (e : Given) → JudgedSo c rs vs p → (ran : RunsRound (newly_open p 0) 0 e q) → Legal q.script q.journal
    → Last c (state_in p).accepted ran.what (state_in ran.worked) (state_in q)
last_of c rs vs p q e h ran legal =
    let opening = state_in-more p 0 (Opened (length (state_in p).accepted)) in
    let ending : Entry = record { by = 0; what = ran.what } in
    let legal' : Legal ran.worked.script (ran.worked.journal ++ ending ∷ []) = subst (λ (s : Seen). Legal s.script s.journal) ran.entry legal in
    let same = ran.works.same in
    record {
      may = last_may ran.worked.script ran.worked.journal ending legal';
      then = ap state_in ran.entry ∙ state_in-more ran.worked 0 ran.what;
      first = same.first ∙ ap (λ (s : State). s.first) opening ∙ h.rest.first;
      newest = same.newest ∙ ap (λ (s : State). s.newest) opening ∙ h.rest.newest;
      round = same.round ∙ ap (λ (s : State). s.round) opening ∙ h.rest.newest;
      earlier = same.earlier ∙ ap (λ (s : State). s.earlier) opening ∙ h.rest.earlier;
      dropped = same.dropped ∙ ap (λ (s : State). s.dropped) opening;
      accepted = same.accepted ∙ ap (λ (s : State). s.accepted) opening;
      to = same.to ∙ ap (λ (s : State). s.to) opening;
    }

-- the round's script is the first one, on all accepted revisions
last_wrong : (c : Script) (acc : List Revision) (w : What) (t u : State) → Last c acc w t u → round_wrong t ≡ script_wrong c (inputs_after c.inputs acc)
last_wrong c acc w t u last =
    ap (λ (m : Numbered). script_wrong m.script (new_inputs t)) last.round ∙ ap (script_wrong c) (inputs_of_all c t t.to acc last.first last.to last.accepted)

behind_all : (a w : List Entry) (x y : Entry) → ((a ++ x ∷ []) ++ w) ++ y ∷ [] ≡ a ++ ((x ∷ w) ++ y ∷ [])
behind_all a w x y = ap (λ (l : List Entry). l ++ y ∷ []) (append_assoc a (x ∷ []) w) ∙ append_assoc a (x ∷ w) (y ∷ [])

run_of : (c : Script) (rs : List Revision) (vs : Verdicts) (p q : Seen) (e : Given) → JudgedSo c rs vs p → 0 < length (state_in p).accepted
    → (ran : RunsRound (newly_open p 0) 0 e q) → (state_in ran.worked).spoiled ≡ false → IsEnd (length (state_in p).accepted) ran.what → IsRunOf c rs q
run_of c rs vs p q e h some ran whole ends =
    let acc = (state_in p).accepted in
    let judged : (judge_all c rs).accepted ≡ acc = ap (λ (j : Judging). j.accepted) h.so_far in
    let opening : Entry = record { by = 0; what = Opened (length acc) } in
    let ending : Entry = record { by = 0; what = ran.what } in
    let worked : ran.worked.journal ≡ (p.journal ++ opening ∷ []) ++ ran.works.works = ap (λ (s : Seen). s.journal) ran.works.more in
    let round : List Entry = (opening ∷ ran.works.works) ++ ending ∷ [] in
    record {
      script_is = ap (λ (s : Seen). s.script) ran.entry ∙ ap (λ (s : Seen). s.script) ran.works.more ∙ h.script_is;
      limits_are = ap (λ (s : Seen). s.limits) ran.entry ∙ ap (λ (s : Seen). s.limits) ran.works.more ∙ h.limits_are;
      journal_is = record {
        verdicts = p.journal;
        round = round;
        parts = ap (λ (s : Seen). s.journal) ran.entry ∙ ap (λ (l : List Entry). l ++ ending ∷ []) worked ∙ behind_all p.journal ran.works.works opening ending;
        each = h.each;
        one_round = subst (λ (acc : List Revision). IsRoundOf acc round) (sym judged)
            (round_of_some acc round some (record { works = ran.works.works; end = ran.what; parts = refl; done = ran.works.done whole; ends = ends }));
      };
    }

-- the state after a published round
record Released (c : Script) (acc : List Revision) (u : State) : Type 0 where
  names : NamesAll c 1 acc u
  closed : u.running ≡ false
  done : nothing_new u ≡ true

released_by : (c : Script) (acc : List Revision) (t : State) (to : ℕ) → t.first ≡ c → t.newest ≡ numbered_first c → t.round ≡ numbered_first c → t.earlier ≡ [] → t.dropped ≡ false → t.accepted ≡ acc → t.to ≡ length acc → to ≡ length acc → Released c acc (after_what t 0 (PublishedTo to))
released_by c acc t to first newest round earlier dropped accepted to_is published = record {
  names = record {
    first = first;
    latest = ap (λ (n : ℕ). let l : Named = record { prefix = n; script = t.round } in l) published ∙ ap (λ (m : Numbered). let l : Named = record { prefix = length acc; script = m } in l) round;
    number_is = length-append t.earlier (t.latest ∷ []) ∙ ap (λ (l : List Named). length l + 1) earlier;
    accepted = accepted;
  };
  closed = refl;
  done = all_had (after_what t 0 (PublishedTo to)) (to_is ∙ sym (ap (λ (l : List Revision). length l) accepted)) dropped (round ∙ sym newest);
}

pub ran_published : (c : Script) (rs : List Revision) (vs : Verdicts) (p q : Seen) (k : ℕ) (ran : Ran) → JudgedSo c rs vs p → 0 < length (state_in p).accepted
    → RunsRound (newly_open p 0) 0 (Published k) q → Legal q.script q.journal
    → ran.production ≡ q → ran.lines ≡ vs.lines → ran.end ≡ end.Released → RanSo c rs ran
ran_published c rs vs p q k ran h some round legal production lines ends =
    let acc = (state_in p).accepted in
    let t = state_in round.worked in
    let to = (state_in (newly_open p 0)).to in
    let last = last_of c rs vs p q (Published k) h round legal in
    let may = subst (MayCome t 0) round.what_is last.may in
    let then : state_in q ≡ after_what t 0 (PublishedTo to) = last.then ∙ ap (after_what t 0) round.what_is in
    let judged : (judge_all c rs).accepted ≡ acc = ap (λ (j : Judging). j.accepted) h.so_far in
    let fine : script_wrong c (inputs_after c.inputs acc) ≡ None = sym (last_wrong c acc round.what t (state_in q) last) ∙ may.2 in
    let run = run_of c rs vs p q (Published k) h some round may.1 (subst (IsEnd (length acc)) (sym round.what_is) (opened_to p)) in
    let after : Released c acc (state_in q) =
    subst (Released c acc) (sym then) (released_by c acc t to last.first last.newest last.round last.earlier last.dropped last.accepted last.to (opened_to p)) in
    let rests : IsAtRest q = record {
      closed = after.closed;
      prefix = ap (λ (l : Named). l.prefix) after.names.latest ∙ sym (ap (λ (l : List Revision). length l) after.names.accepted);
      done = after.done;
      in_bounds = in_bounds_now c q acc run.script_is after.names.first after.names.accepted ∙ fine;
    } in
    record {
      run = subst (IsRunOf c rs) (sym production) run;
      lines = ap (λ v. v.items) lines ∙ sym (ap (λ (j : Judging). j.text) h.so_far);
      end = subst (λ (e : End). WritesEnd ran.production e (end_of c (judge_all c rs).accepted)) (sym ends)
          (λ r made.
          ap (end_of c) judged ∙ end_of_some c acc some
          ∙ answer_of_release c 1 acc (state_in q) r fine after.names (subst (λ (q : Seen). IsRelease (state_in q) r) production made));
      legal = subst (λ (q : Seen). Legal q.script q.journal) (sym production) legal;
      leaves = subst (λ (e : End). LeavesSo ran.production e) (sym ends) (subst IsAtRest (sym production) rests);
    }

failed_end : (q : Seen) (e : End) (line : List ℕ) (meant : Answer) → IsFailed e line → meant ≡ record { status = 5; text = line } → WritesEnd q e meant
failed_end q end.Released line meant same is = absurd same
failed_end q (end.Failed text) line meant same is = is ∙ ap (λ (t : List ℕ). let a : Answer = record { status = 5; text = t } in a) (sym same)

failed_leaves : (q : Seen) (e : End) (line : List ℕ) → IsFailed e line → HasFault q → LeavesSo q e
failed_leaves q end.Released line same h = absurd same
failed_leaves q (end.Failed text) line same h = h

pub ran_failed : (c : Script) (rs : List Revision) (vs : Verdicts) (p q : Seen) (told : ScriptFault) (ran : Ran) → JudgedSo c rs vs p → 0 < length (state_in p).accepted
    → RunsRound (newly_open p 0) 0 (Failed told) q → Legal q.script q.journal
    → ran.production ≡ q → ran.lines ≡ vs.lines → IsFailed ran.end (failed_line q.script vs.accepted (fault_said told)) → RanSo c rs ran
ran_failed c rs vs p q told ran h some round legal production lines ends =
    let acc = (state_in p).accepted in
    let t = state_in round.worked in
    let to = (state_in (newly_open p 0)).to in
    let last = last_of c rs vs p q (Failed told) h round legal in
    let (kept, said, what_is) = round.what_is in
    let may = subst (MayCome t 0) what_is last.may in
    let then : state_in q ≡ after_what t 0 (FailedTo to kept) = last.then ∙ ap (after_what t 0) what_is in
    let judged : (judge_all c rs).accepted ≡ acc = ap (λ (j : Judging). j.accepted) h.so_far in
    let wrong : script_wrong c (inputs_after c.inputs acc) ≡ Some (fault_said told) = sym (last_wrong c acc round.what t (state_in q) last) ∙ may.2 ∙ ap Some (sym said) in
    let run = run_of c rs vs p q (Failed told) h some round may.1 (subst (IsEnd (length acc)) (sym what_is) (opened_to p)) in
    let line : IsFailed ran.end (failed_line c (length acc) (fault_said told)) =
    subst (λ (n : ℕ). IsFailed ran.end (failed_line c n (fault_said told))) h.count (subst (λ (c : Script). IsFailed ran.end (failed_line c vs.accepted (fault_said told))) run.script_is ends) in
    let now = in_bounds_now c q acc run.script_is (ap (λ (s : State). s.first) then ∙ last.first) (ap (λ (s : State). s.accepted) then ∙ last.accepted) in
    let fault : HasFault q = (fault_said told, now ∙ wrong) in
    record {
      run = subst (IsRunOf c rs) (sym production) run;
      lines = ap (λ v. v.items) lines ∙ sym (ap (λ (j : Judging). j.text) h.so_far);
      end = failed_end ran.production ran.end (failed_line c (length acc) (fault_said told)) (end_of c (judge_all c rs).accepted) line
          (ap (end_of c) judged ∙ end_of_some c acc some ∙ ap (answer_on c 1 acc) wrong);
      legal = subst (λ (q : Seen). Legal q.script q.journal) (sym production) legal;
      leaves = failed_leaves ran.production ran.end (failed_line c (length acc) (fault_said told)) line (subst HasFault (sym production) fault);
    }

-- ---- whatever the round came to

pub has_room : (c : Script) (rs : List Revision) (vs : Verdicts) (p : Seen) → JudgedSo c rs vs p → Rattle.round_runs.specs.Runs.IsFew rs → IsChecked c → HasRoom p
has_room c rs vs p h few checked =
    let room = room_of c rs vs p h few checked in
    let newest : (state_in p).newest ≡ numbered_first c = h.rest.newest in
    record {
      running = h.rest.running;
      to = h.rest.to;
      newest = ap (λ (m : Numbered). m.number) newest;
      room = let same : length (state_in p).newest.script.statements ≡ length c.statements = ap (λ (m : Numbered). length m.script.statements) newest in omega (arith, room, same);
    }

pub ran_so : (c : Script) (rs : List Revision) (vs : Verdicts) (p q : Seen) (e : RoundEnd) (ran : Ran) → JudgedSo c rs vs p → IsChecked c → HasRoom p → Legal p.script p.journal
    → RunsWhole p 0 e q → Legal q.script q.journal → EndsSo q.script vs.accepted e ran.end
    → ran.production ≡ q → ran.lines ≡ vs.lines → RanSo c rs ran
ran_so c rs vs p q (round.NothingNew k) ran h checked room legal whole after ends production lines = ran_none c rs vs p q ran h checked legal whole.0 (none_accepted p _ room whole.1).0 production lines ends
ran_so c rs vs p q (round.Full full) ran h checked room legal whole after ends production lines = absurd ends
ran_so c rs vs p q (round.Published k) ran h checked room legal whole after ends production lines = ran_published c rs vs p q k ran h (some_accepted p room whole.0) whole.1 after production lines ends
ran_so c rs vs p q (round.Failed fault) ran h checked room legal whole after ends production lines = ran_failed c rs vs p q fault ran h (some_accepted p room whole.0) whole.1 after production lines ends
ran_so c rs vs p q round.Memory ran h checked room legal whole after ends production lines = absurd ends

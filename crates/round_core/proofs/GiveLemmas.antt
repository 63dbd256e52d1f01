-- Taking works back.
use Rattle.std.proofs.Common.{◌≡◌, ◌≢◌, inl, inr, ℕ, ◌+◌, ◌-◌, ◌<◌, ◌≤◌, Bool, true, false, List, [], ◌∷◌, ◌++◌, length, get_or, Option, Some, Vec, vec_capacity, sym, ◌∙◌, ap, refl, arith, subst, set, take}
use Rattle.std.specs.Option.{is_some}
use Rattle.std.specs.Arc.{arc_value}
use Rattle.std.specs.List.{All, AllPairs, Contains}
use Rattle.std.specs.declared.sync.Arc.{Arc}
use Rattle.std.specs.declared.alloc.Global.{Global}
use Rattle.std.proofs.lemmas.Bool.{cases_eq}
use Rattle.std.proofs.lemmas.List.{length-set, length-take, get_or-take, get_or-set_same, get_or-set_other}
use Rattle.std.proofs.lemmas.Option.{get_or_from_slice_get, slice_get_within}
use Rattle.data_model.specs.Deltas.{Leads}
use Rattle.point_sets.specs.DataSets.{DataSet}
use Rattle.point_sets.specs.Changes.{Changes}
use Rattle.data_set_trees.specs.declared.tree.Source.{Source}
use Rattle.data_set_trees.specs.declared.tree.Source.TheVariants.{Input, Result as ResultOf}
use Rattle.data_set_trees.specs.checked.Scripts.{Script, sources_of, names_of}
use Rattle.operator_meaning.specs.Results.{Wrong as Fault}
use Rattle.operator_meaning.specs.Scripts.{Fails, states, set_in, with_at}
use Rattle.operator_meaning.proofs.ScriptLemmas.{with_at-same, with_at-other}
use Rattle.round_journal.specs.node.Node.{Node}
use Rattle.round_journal.specs.work.DoneParts.{DoneParts}
use Rattle.round_journal.specs.work.Settle.TheVariants.{Forget}
use Rattle.round_journal.specs.Nodes.{operand_on, StandsAs, DoneStandsFor, FinishFor}
use Rattle.round_journal.specs.declared.entry.Entry.{Entry}
use Rattle.round_journal.specs.declared.entry.What.{What}
use Rattle.round_journal.specs.declared.entry.What.TheVariants.{Returned, GaveUp}
use Rattle.round_journal.specs.Journals.{State, Status, Back, Spoiled, after_what, state_of, inputs, old_inputs, new_inputs, aside, IsThere, IsOutBy, MayCome}
use Rattle.round_journal.specs.Counts.{IsOfStatement, IsNoRelease}
use Rattle.round_journal.specs.Releases.{IsRelease}
use Rattle.round_journal.specs.Stands.{DoneStands}
use Rattle.round_journal.proofs.CountLemmas.{IsSpent-legal, aside-out, aside-less}
use Rattle.round_journal.proofs.ReleaseLemmas.{IsRelease-stays}
use Rattle.round_core.specs.declared.machine.Machine.{Machine}
use Rattle.round_core.specs.declared.slot.Slot.{Slot}
use Rattle.round_core.specs.declared.slot.Stage.{Stage}
use Rattle.round_core.specs.declared.slot.Stage.TheVariants as stage
use Rattle.round_core.specs.Kept.{Scene, scene_of, IsHome, NewsKept, NoneWaits, BackKept, StageKept, SlotKept, SlotsKept, CountsKept, EarlierKept, Sound, KeptMachine, state_at}
use Rattle.round_core.specs.Slots.{SameHome, HandedOn, NamesAt, NamesNone}
use Rattle.round_core.specs.Steps.{OpenStill}
use Rattle.round_core.proofs.KeptLemmas.{state_along, GoesTo, within_less, in_order, earlier_stays}
use Rattle.round_core.proofs.ClaimLemmas.{opened_of, none_waits_set, order_below}
use Rattle.round_core.proofs.Lists.{each_set}
use Rattle.round_core.proofs.MoveLemmas.{with_status, slot_moves, same_home, news_before}
use Rattle.round_core.proofs.NameLemmas.{once_each-apart, one_place}
use Rattle.round_core.proofs.SlotLemmas.{many}

-- ---- news

abbrev pub moved : Scene → ℕ → Status → Scene
moved v i z = with_status v (with_at i z v.status)

-- the result of a statement that came back is not there where it has no data set
there_wrong : (c : Script) (ys : List DataSet) (i : ℕ) (f : ℕ → Status) (w : Fault) (n : Source) → states c ys i ≡ Fails w → IsThere c (with_at i Back f) ys n → IsThere c f ys n
there_wrong c ys i f w (Input n) e t = tt
there_wrong c ys i f w (ResultOf j) e t = elim (cases_eq i j) [
  | inl same ↦ absurd (let q : is_some (set_in (states c ys j)) ≡ false = ap (λ st. is_some (set_in st)) (ap (states c ys) (sym same) ∙ e) in let p = t.1 in cc (p, q))
  | inr apart ↦ (sym (with_at-other i Back f j apart) ∙ t.0, t.1)
]

-- that of another statement was there before
there_other : (c : Script) (ys : List DataSet) (i : ℕ) (f : ℕ → Status) (n : Source) → n ≢ ResultOf i → IsThere c (with_at i Back f) ys n → IsThere c f ys n
there_other c ys i f (Input n) ne t = tt
there_other c ys i f (ResultOf j) ne t = (sym (with_at-other i Back f j (λ e. ne (ap ResultOf (sym e)))) ∙ t.0, t.1)

pub news_wrong : (v : Scene) (i : ℕ) (w : Fault) (news : List (Arc Changes Global)) (sources : List Source) → states v.script v.news i ≡ Fails w → NewsKept v news sources → NewsKept (moved v i Back) news sources
news_wrong v i w news sources e k = record {
  many = k.many;
  each = λ m d n l t. k.each m d n l (there_wrong v.script v.news i v.status w (get_or sources m n) e t);
}

contained : (P : Arc Changes Global → Type 0) (ds : List (Arc Changes Global)) → ((k : ℕ) (d : Arc Changes Global) → k < length ds → P (get_or ds k d)) → (d : Arc Changes Global) → Contains ds d → P d
contained P ds h d (k, l, e) = subst P e (h k d l)

news_put : (v : Scene) (i k : ℕ) (delta : Arc Changes Global) (news : List (Arc Changes Global)) (sources : List Source) → AllPairs (λ a b. a ≢ b) sources → NamesAt sources i k → Leads (arc_value delta) (operand_on v.script v.olds (ResultOf i)) (operand_on v.script v.news (ResultOf i)) → NewsKept v news sources → NewsKept (moved v i Back) (set news k delta) sources
news_put v i k delta news sources apart at leads kept = record {
  many = length-set news k delta ∙ kept.many;
  each = λ m d e l.
      let lk = slice_get_within sources k (ResultOf i) at in
      let named : get_or sources k e ≡ ResultOf i = get_or_from_slice_get sources k (ResultOf i) e at in
      elim (cases_eq m k) [
        | inl same ↦ λ t.
            subst (λ (q : ℕ). Leads (arc_value (get_or (set news k delta) q d)) (operand_on v.script v.olds (get_or sources q e)) (operand_on v.script v.news (get_or sources q e))) (sym same)
            (subst (λ (n : Source). Leads (arc_value (get_or (set news k delta) k d)) (operand_on v.script v.olds n) (operand_on v.script v.news n)) (sym named)
            (subst (λ (x : Arc Changes Global). Leads (arc_value x) (operand_on v.script v.olds (ResultOf i)) (operand_on v.script v.news (ResultOf i))) (sym (get_or-set_same news k delta d (let q = kept.many in omega (arith, lk, q)))) leads))
        | inr other ↦ λ t.
            let ne : get_or sources m e ≢ ResultOf i = λ q. other (one_place sources i m k e apart l lk q named) in
            subst (λ (x : Arc Changes Global). Leads (arc_value x) (operand_on v.script v.olds (get_or sources m e)) (operand_on v.script v.news (get_or sources m e))) (sym (get_or-set_other news k m delta d other)) (kept.each m d e l (there_other v.script v.news i v.status (get_or sources m e) ne t))
      ];
}

news_none : (v : Scene) (i : ℕ) (news : List (Arc Changes Global)) (sources : List Source) → NamesNone sources i → NewsKept v news sources → NewsKept (moved v i Back) news sources
news_none v i news sources none kept = record {
  many = kept.many;
  each = λ m d e l t. kept.each m d e l (there_other v.script v.news i v.status (get_or sources m e) (none m e l) t);
}

-- a slot whose news were handed on
pub news_handed : (v : Scene) (i j : ℕ) (deltas : List (Arc Changes Global)) (old new : Slot) → old.sources ≡ sources_of v.script j → HandedOn i deltas old new
    → ((k : ℕ) (d : Arc Changes Global) → k < length deltas → Leads (arc_value (get_or deltas k d)) (operand_on v.script v.olds (ResultOf i)) (operand_on v.script v.news (ResultOf i)))
    → NewsKept v old.news.items old.sources → NewsKept (moved v i Back) new.news.items new.sources
news_handed v i j deltas old new es h leads kept =
    subst (λ (ns : List Source). NewsKept (moved v i Back) new.news.items ns) (sym h.home.sources) (elim h.news [
      | inl none ↦ subst (λ (ds : Vec (Arc Changes Global) Global). NewsKept (moved v i Back) ds.items old.sources) (sym none.1) (news_none v i old.news.items old.sources none.0 kept)
      | inr put ↦ subst (λ (ds : List (Arc Changes Global)). NewsKept (moved v i Back) ds old.sources) (sym put.4) (news_put v i put.0 put.1 old.news.items old.sources (subst (λ (ns : List Source). AllPairs (λ a b. a ≢ b) ns) (sym es) (once_each-apart (names_of v.script j))) put.2 (contained (λ x. Leads (arc_value x) (operand_on v.script v.olds (ResultOf i)) (operand_on v.script v.news (ResultOf i))) deltas leads put.1 put.3) kept)
    ])

-- ---- slots

-- what becomes of the other slots
pub record Passed (v : Scene) (i : ℕ) (z : Status) (slots mid : List Slot) : Type 0 where
  pub many : length mid ≡ length slots
  pub homes : (j : ℕ) (d : Slot) → j < length slots → SameHome (get_or slots j d) (get_or mid j d) × ((get_or mid j d).stage ≡ (get_or slots j d).stage)
  pub news : (j : ℕ) (d : Slot) → j < length slots → NewsKept v (get_or slots j d).news.items (get_or slots j d).sources → NewsKept (moved v i z) (get_or mid j d).news.items (get_or mid j d).sources

pub slots_back : (v : Scene) (slots mid : List Slot) (i : ℕ) (z : Status) (new : Slot) → SlotsKept v true slots → Passed v i z slots mid → i < length slots → new.sources ≡ sources_of v.script i → StageKept (moved v i z) i new new.stage → SlotsKept (moved v i z) true (set mid i new)
slots_back v slots mid i z new k p l es h = record {
  many = length-set mid i new ∙ p.many ∙ k.many;
  each = each_set (λ j y. j ≢ i → SlotKept (moved v i z) true j y) (SlotKept (moved v i z) true) mid i new
      (λ j d m apart.
      let b : j < length slots = let q = p.many in omega (arith, m, q) in
      slot_moves v (with_at i z v.status) j (get_or slots j d) (get_or mid j d) (with_at-other i z v.status j (λ e. apart (sym e))) (p.homes j d b).0 (p.homes j d b).1 (λ _ news. p.news j d b news) (k.each j d b))
      (λ j y m apart f. f apart)
      (record { sources = es; place = h });
}

pub record IsPut (a : Machine) (i : ℕ) (node : Node) (st : Stage) (new : Slot) : Type 0 where
  pub sources : new.sources ≡ sources_of (state_at a).round.script i
  pub stage : new.stage ≡ st
  pub stamp : new.stamp ≡ a.counts.rounds
  pub node_is : new.node ≡ Some node

back_kept : (a : Machine) (i : ℕ) (node : Node) (st : Stage) (new : Slot) (z : Status) → Sound a (state_at a) → IsPut a i node st new → node.statement ≡ i → StandsAs (state_at a).round.script (old_inputs (state_at a)) Forget node → BackKept (moved (scene_of (state_at a)) i z) i new z
back_kept a i node st new z sound put en h =
    let s : State = state_at a in record {
      place = with_at-same i z s.status;
      now = put.stamp ∙ sound.counts.rounds;
      home = subst (λ (o : Option Node). IsHome s.round.script (old_inputs s) i Forget o) (sym put.node_is) (en, h);
    }

-- what comes back
pub record Comes (a : Machine) (n : ℕ) (i : ℕ) (node : Node) : Type 0 where
  pub out : IsOutBy (state_at a) n i
  pub number : node.statement ≡ i
  pub stands : StandsAs (state_at a).round.script (old_inputs (state_at a)) Forget node

pub comes_with : (a : Machine) (n : ℕ) (d : DoneParts) → IsOutBy (state_at a) n d.statement → DoneStands (state_at a) d → Comes a n d.statement d.node × FinishFor (state_at a).round.script d.node (old_inputs (state_at a)) (new_inputs (state_at a)) d.finish
comes_with a n d out h =
    let s : State = state_at a in
    let c = s.round.script in
    let on : DoneStandsFor c d (old_inputs s) (new_inputs s) = subst (λ (q : ℕ). DoneStandsFor c d (old_inputs s) (inputs q s)) h.place.to_is (subst (λ (q : ℕ). DoneStandsFor c d (inputs q s) (inputs d.to s)) h.place.base_is h.on) in
    (record { out = out; number = on.statement_is; stands = on.node_stands }, on.finish_is)

pub running_of : (a : Machine) (n i : ℕ) → Sound a (state_at a) → IsOutBy (state_at a) n i → a.counts.running ≡ true
running_of a n i sound out = sound.counts.running ∙ out.open_round

pub aside_two : (a : Machine) (n i : ℕ) → KeptMachine a → IsOutBy (state_at a) n i → 2 ≤ a.counts.aside
aside_two a n i k out = let h = aside-out (state_at a) n i out (IsSpent-legal (arc_value a.first) a.journal.items k.within.legal) in omega (arith, h, k.sound.counts.aside)

pub below_of : (a : Machine) (n i : ℕ) → Sound a (state_at a) → IsOutBy (state_at a) n i → i < length a.slots.items
below_of a n i sound out = let l = out.below in let m = sound.slots.many in omega (arith, l, m)

-- where the stages stay, what doesn't wait still doesn't
still_none_waits : (slots mid : List Slot) (xs : List ℕ) → length mid ≡ length slots → ((j : ℕ) (d : Slot) → j < length slots → (get_or mid j d).stage ≡ (get_or slots j d).stage) → All (λ i. i < length slots) xs → NoneWaits slots xs → NoneWaits mid xs
still_none_waits slots mid xs long same below h k e l d =
    let j = get_or xs k e in
    subst (λ (st : Stage). st ≢ stage.Waiting) (sym (same j d (below k e l))) (h k e l d)

take_all_below : (P : ℕ → Type 0) (n : ℕ) (xs : List ℕ) → All P xs → All P (take n xs)
take_all_below P n xs h k e l =
    let long = length-take n xs in
    subst P (sym (get_or-take n xs k e (omega (arith, l, long)))) (h k e (omega (arith, l, long)))

-- what a work that is given back leaves of the machine
abbrev pub back_machine : Machine → Vec Entry Global → Vec Slot Global → Bool → Machine
back_machine a j slots spoiled = record a { journal = j; slots = slots; counts = record a.counts { spoiled = spoiled; aside = a.counts.aside - 1 } }

pub record IsBackAs (a : Machine) (n i : ℕ) (w : What) (z : Status) (spoiled : Bool) : Type 0 where
  pub statement : IsOfStatement w
  pub none : IsNoRelease w
  pub may : MayCome (state_at a) n w
  pub state : after_what (state_at a) n w ≡ record (state_at a) { status = with_at i z (state_at a).status; spoiled = spoiled; spent = (state_at a).spent + 1; by = n }

pub still_back : (a : Machine) (j : Vec Entry Global) (slots : Vec Slot Global) (mid : List Slot) (i n : ℕ) (node : Node) (st : Stage) (new : Slot) (w : What) (z : Status) (spoiled : Bool) → KeptMachine a → Comes a n i node → IsBackAs a n i w z spoiled → Passed (scene_of (state_at a)) i z a.slots.items mid → IsPut a i node st new → st ≢ stage.Waiting
    → StageKept (moved (scene_of (state_at a)) i z) i new st
    → slots.items ≡ set mid i new → j.items ≡ a.journal.items ++ (record { by = n; what = w }) ∷ [] → vec_capacity a.journal ≤ vec_capacity j
    → OpenStill (back_machine a j slots spoiled) n
still_back a j slots mid i n node st new w z spoiled k come how passed put moves stage_is es ej room =
    let s : State = state_at a in
    let t : State = record s { status = with_at i z s.status; spoiled = spoiled; spent = s.spent + 1; by = n } in
    let b : Machine = back_machine a j slots spoiled in
    let e : t ≡ state_of (arc_value a.first) j.items = sym how.state ∙ state_along a j.items n w ej in
    let old = k.sound.counts in
    let scripts = k.sound.scripts in
    let p = in_order a k.within in
    let going = come.out.open_round in
    let o = opened_of a k.within k.sound (running_of a n i k.sound come.out) in
    let l = below_of a n i k.sound come.out in
    let two = aside_two a n i k come.out in
    let here : StageKept (moved (scene_of s) i z) i new new.stage = subst (λ (q : Stage). StageKept (moved (scene_of s) i z) i new q) (sym put.stage) stage_is in
    let back : SlotsKept (scene_of t) true (set mid i new) = slots_back (scene_of s) a.slots.items mid i z new o.kept passed l put.sources here in
    let less : aside t ≡ aside s - 1 = ap aside (sym how.state) ∙ aside-less s n w how.statement going in
    let counts : CountsKept b.counts t = record { accepted = old.accepted; fields = old.fields; newest = old.newest; published = old.published; rounds = old.rounds; script = old.script; base = old.base; running = old.running; dropped = old.dropped; spoiled = refl; to = old.to; aside = ap (λ m. m - 1) old.aside ∙ sym less } in
    let order = s.round.script.order in
    let none_wait : s.running ≡ true → NoneWaits (set mid i new) (take a.passed order) = λ r.
    none_waits_set mid (take a.passed order) i new (let q = passed.many in omega (arith, l, q)) (λ q. moves (sym put.stage ∙ q))
    (still_none_waits a.slots.items mid (take a.passed order) passed.many (λ m d q. (passed.homes m d q).1) (take_all_below (λ m. m < length a.slots.items) a.passed order (order_below a k.within k.sound)) (k.sound.passed r)) in
    let sound : Sound b t = record {
      scripts = record { first = scripts.first; newest = scripts.newest; round = scripts.round };
      counts = counts;
      inputs = k.sound.inputs;
      slots = subst (λ (r : Bool). SlotsKept (scene_of t) r slots.items) (sym going) (subst (λ (q : List Slot). SlotsKept (scene_of t) true q) (sym es) back);
      passed = λ r. subst (λ (q : List Slot). NoneWaits q (take a.passed order)) (sym es) (none_wait r);
      release = subst (λ (u : State). IsRelease u a.latest) how.state (IsRelease-stays s n w a.latest p how.none k.sound.release);
      earlier = subst (λ (u : State). EarlierKept u a.earlier.items) how.state (earlier_stays s n w a.earlier.items p how.none k.sound.earlier);
      earlier_fit = k.sound.earlier_fit;
      pages = k.sound.pages;
      pages_fit = λ r. let fit = k.sound.pages_fit r in let same : length slots.items ≡ length a.slots.items = ap length es ∙ length-set mid i new ∙ passed.many in omega (arith, fit, same);
    } in
    let goes : GoesTo a n w b = record { first = refl; limits = refl; items = ej; may = how.may } in
    record {
      within = within_less a b n w k.within goes (omega (arith, two)) refl refl room;
      sound = subst (λ (u : State). Sound b u) e sound;
      running = subst (λ (u : State). u.running ≡ true) e going;
      same_caller = subst (λ (u : State). u.by ≡ n) e refl;
    }

pub still_returned : (a : Machine) (j : Vec Entry Global) (slots : Vec Slot Global) (mid : List Slot) (i n : ℕ) (node : Node) (st : Stage) (new : Slot) → KeptMachine a → Comes a n i node → Passed (scene_of (state_at a)) i Back a.slots.items mid → IsPut a i node st new → st ≢ stage.Waiting
    → (BackKept (moved (scene_of (state_at a)) i Back) i new Back → StageKept (moved (scene_of (state_at a)) i Back) i new st)
    → slots.items ≡ set mid i new → j.items ≡ a.journal.items ++ (record { by = n; what = Returned i }) ∷ [] → vec_capacity a.journal ≤ vec_capacity j
    → OpenStill (back_machine a j slots a.counts.spoiled) n
still_returned a j slots mid i n node st new k come passed put moves stage_is es ej room =
    let w : What = Returned i in
    let spoiled = k.sound.counts.spoiled in
    let how : IsBackAs a n i w Back a.counts.spoiled = record { statement = tt; none = tt; may = come.out; state = ap (λ (q : Bool). let u : State = record (state_at a) { status = with_at i Back (state_at a).status; spoiled = q; spent = (state_at a).spent + 1; by = n } in u) (sym spoiled) } in
    still_back a j slots mid i n node st new w Back a.counts.spoiled k come how passed put moves (stage_is (back_kept a i node st new Back k.sound put come.number come.stands)) es ej room

pub still_gave_up : (a : Machine) (j : Vec Entry Global) (slots : Vec Slot Global) (i n : ℕ) (node : Node) (new : Slot) → KeptMachine a → Comes a n i node → IsPut a i node stage.Spoiled new
    → slots.items ≡ set a.slots.items i new → j.items ≡ a.journal.items ++ (record { by = n; what = GaveUp i }) ∷ [] → vec_capacity a.journal ≤ vec_capacity j
    → OpenStill (back_machine a j slots true) n
still_gave_up a j slots i n node new k come put es ej room =
    let s : State = state_at a in
    let w : What = GaveUp i in
    let how : IsBackAs a n i w Spoiled true = record { statement = tt; none = tt; may = come.out; state = refl } in
    let passed : Passed (scene_of s) i Spoiled a.slots.items a.slots.items = record {
      many = refl;
      homes = λ m d q. (same_home (get_or a.slots.items m d), refl);
      news = λ m d q h. news_before (scene_of s) i Spoiled (get_or a.slots.items m d).news.items (get_or a.slots.items m d).sources (λ x. cc x) h;
    } in
    still_back a j slots a.slots.items i n node stage.Spoiled new w Spoiled true k come how passed put (λ q. cc q) (back_kept a i node stage.Spoiled new Spoiled k.sound put come.number come.stands) es ej room

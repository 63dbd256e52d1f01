-- Handing out.
use Rattle.std.proofs.Common.{◌≡◌, ◌≢◌, inl, inr, ℕ, ◌-◌, ◌<◌, ◌≤◌, Bool, true, List, [], ◌∷◌, ◌++◌, length, get_or, Option, Some, None, Vec, vec_capacity, sym, ◌∙◌, ap, refl, arith, subst, set, map, take, drop, append_assoc}
use Rattle.std.specs.Option.{IsSomeAnd, IsSome}
use Rattle.std.specs.Prelude.{IfSome}
use Rattle.std.specs.Arc.{arc_value}
use Rattle.std.specs.List.{All}
use Rattle.std.specs.declared.sync.Arc.{Arc}
use Rattle.std.specs.declared.alloc.Global.{Global}
use Rattle.std.proofs.lemmas.Bool.{cases_eq}
use Rattle.std.proofs.lemmas.List.{length-set, get_or-set_same, get_or-set_other, take-append-drop, take_all, length-drop}
use Rattle.std.proofs.lemmas.List.Elements.{All-weaker, All-append}
use Rattle.point_sets.specs.DataSets.{DataSet}
use Rattle.point_sets.specs.Changes.{Changes}
use Rattle.data_set_trees.specs.declared.tree.Source.{Source}
use Rattle.data_set_trees.specs.checked.Scripts.{Script, sources_of}
use Rattle.operator_meaning.specs.Scripts.{with_at}
use Rattle.operator_meaning.proofs.ScriptLemmas.{with_at-same, with_at-other}
use Rattle.round_journal.specs.node.Node.{Node}
use Rattle.round_journal.specs.work.Settle.{Settle}
use Rattle.round_journal.specs.work.Work.{Work}
use Rattle.round_journal.specs.Nodes.{WorkStandsFor, StandsAs, AllHave, AllLead}
use Rattle.round_journal.specs.declared.entry.Entry.{Entry}
use Rattle.round_journal.specs.declared.entry.What.{What}
use Rattle.round_journal.specs.declared.entry.What.TheVariants.{Claimed}
use Rattle.round_journal.specs.Journals.{State, Out, after_what, state_of, base, inputs, old_inputs, new_inputs, IsThere, Ready, FirstReady, Over, IsOutBy}
use Rattle.round_journal.specs.Stands.{WorkStands}
use Rattle.round_journal.proofs.ReadyLemmas.{AllHave-ready}
use Rattle.round_journal.proofs.CountLemmas.{IsSpent-legal, aside-ready, aside-less}
use Rattle.round_journal.proofs.ReleaseLemmas.{IsRelease-stays}
use Rattle.round_core.specs.declared.machine.Machine.{Machine}
use Rattle.round_core.specs.declared.slot.Slot.{Slot}
use Rattle.round_core.specs.declared.slot.Stage.{Stage}
use Rattle.round_core.specs.declared.slot.Stage.TheVariants as stage
use Rattle.round_core.specs.Answers.{Claims}
use Rattle.round_core.specs.Kept.{Scene, scene_of, IsHome, NoneWaits, WaitingKept, StageKept, SlotKept, SlotsKept, CountsKept, Within, Sound, KeptMachine, seen_of, state_at}
use Rattle.round_core.specs.Slots.{ReadyIn, FirstReadyIn, HandsOut, settle_by}
use Rattle.round_journal.proofs.InputLemmas.{AreInputs-at}
use Rattle.round_core.proofs.KeptLemmas.{state_along, seen_along, GoesTo, within_less, in_order, agree, earlier_stays}
use Rattle.round_core.proofs.Lists.{each_set, some_of}
use Rattle.round_core.proofs.MoveLemmas.{with_status, slot_moves, same_home, news_before, news_lead}
use Rattle.round_core.proofs.SlotLemmas.{Opened, ready_of, ready_in, slot_kept, slot_sources}

pub opened_of : (a : Machine) → Within a → Sound a (state_at a) → a.counts.running ≡ true → Opened (state_at a) a.slots.items
opened_of a within sound run =
    let s : State = state_at a in
    let going : s.running ≡ true = sym sound.counts.running ∙ run in
    record { agrees = (agree a within).round; running = going; kept = subst (λ (b : Bool). SlotsKept (scene_of s) b a.slots.items) going sound.slots }

waiting_kept : (v : Scene) (i : ℕ) (slot : Slot) (st : Stage) → st ≡ stage.Waiting → StageKept v i slot st → WaitingKept v i slot
waiting_kept v i slot st e k = subst (λ z. StageKept v i slot z) e k

-- the slot that is handed out
pub record Ripe (a : Machine) (i : ℕ) (slot : Slot) : Type 0 where
  pub ready : Ready (state_at a) i
  pub below : i < length a.slots.items
  pub waits : WaitingKept (scene_of (state_at a)) i slot
  pub sources : slot.sources ≡ sources_of (state_at a).round.script i

pub ripe_of : (a : Machine) (i : ℕ) (slot : Slot) → Within a → Sound a (state_at a) → a.counts.running ≡ true → ReadyIn a.slots.items i → slot ≡ get_or a.slots.items i slot → Ripe a i slot
ripe_of a i slot within sound run h e =
    let s : State = state_at a in
    let o = opened_of a within sound run in record {
      ready = ready_of s a.slots.items o i h;
      below = h.below;
      waits = subst (λ (t : Slot). WaitingKept (scene_of s) i t) (sym e) (waiting_kept (scene_of s) i (get_or a.slots.items i slot) (get_or a.slots.items i slot).stage (h.waits slot) (slot_kept s a.slots.items o i slot h.below));
      sources = ap (λ (t : Slot). t.sources) e ∙ slot_sources s a.slots.items o i slot h.below;
    }

is_some_of : (P : Node → Type 0) (o : Option Node) → IsSomeAnd o P → IsSome o
is_some_of P None h = absurd h
is_some_of P (Some n) h = refl

pub has_node : (a : Machine) (i : ℕ) (slot : Slot) → Ripe a i slot → IsSome slot.node
has_node a i slot r = is_some_of _ slot.node r.waits.home

pub aside_some : (a : Machine) (i : ℕ) (slot : Slot) → KeptMachine a → a.counts.running ≡ true → Ripe a i slot → 3 ≤ a.counts.aside
aside_some a i slot k run r =
    let s : State = state_at a in
    let enough = aside-ready s i (sym k.sound.counts.running ∙ run) r.ready (IsSpent-legal (arc_value a.first) a.journal.items k.within.legal) in
    omega (arith, enough, k.sound.counts.aside)

home_node : (c : Script) (xs : List DataSet) (i : ℕ) (settle : Settle) (o : Option Node) (node : Node) → o ≡ Some node → IsHome c xs i settle o → (node.statement ≡ i) × StandsAs c xs settle node
home_node c xs i settle o node e h = subst (λ (p : Option Node). IsHome c xs i settle p) e h

-- the slots with one that is handed out
slots_claimed : (v : Scene) (slots : List Slot) (i n : ℕ) (new : Slot) → SlotsKept v true slots → new.stage ≡ stage.Out → new.sources ≡ sources_of v.script i → i < length slots → SlotsKept (with_status v (with_at i (Out n) v.status)) true (set slots i new)
slots_claimed v slots i n new k out sources l = record {
  many = length-set slots i new ∙ k.many;
  each = each_set (SlotKept v true) (SlotKept (with_status v (with_at i (Out n) v.status)) true) slots i new k.each
      (λ j slot m apart kept. slot_moves v (with_at i (Out n) v.status) j slot slot (with_at-other i (Out n) v.status j (λ e. apart (sym e))) (same_home slot) refl (λ _ news. news_before v i (Out n) slot.news.items slot.sources (λ e. cc e) news) kept)
      (record {
        sources = sources;
        place = subst (λ (st : Stage). StageKept (with_status v (with_at i (Out n) v.status)) i new st) (sym out) (n, with_at-same i (Out n) v.status);
      });
}

-- ---- those that don't wait

-- a statement that is handed out, or comes back, doesn't wait
pub none_waits_set : (slots : List Slot) (xs : List ℕ) (i : ℕ) (new : Slot) → i < length slots → new.stage ≢ stage.Waiting → NoneWaits slots xs → NoneWaits (set slots i new) xs
none_waits_set slots xs i new l moved h = All-weaker (λ j. (d : Slot) → (get_or slots j d).stage ≢ stage.Waiting) (λ j. (d : Slot) → (get_or (set slots i new) j d).stage ≢ stage.Waiting) one xs h
  where
    one : (j : ℕ) → ((d : Slot) → (get_or slots j d).stage ≢ stage.Waiting) → (d : Slot) → (get_or (set slots i new) j d).stage ≢ stage.Waiting
    one j none d = elim (cases_eq j i) [
      | inl same ↦ subst (λ (k : ℕ). (get_or (set slots i new) k d).stage ≢ stage.Waiting) (sym same) (subst (λ (z : Slot). z.stage ≢ stage.Waiting) (sym (get_or-set_same slots i new d l)) moved)
      | inr other ↦ subst (λ (z : Slot). z.stage ≢ stage.Waiting) (sym (get_or-set_other slots i j new d other)) (none d)
    ]

-- none of these is ready
pub none_ready_before : (slots : List Slot) (xs : List ℕ) → NoneWaits slots xs → All (λ i. ¬ (ReadyIn slots i)) xs
none_ready_before slots xs = All-weaker (λ j. (d : Slot) → (get_or slots j d).stage ≢ stage.Waiting) (λ i. ¬ (ReadyIn slots i)) (λ j none ready. let d = some_of slots j ready.below in none d (ready.waits d)) xs

-- the statements in the order are the script's
pub order_below : (a : Machine) → Within a → Sound a (state_at a) → All (λ i. i < length a.slots.items) (state_at a).round.script.order
order_below a within sound = All-weaker (λ i. i < length (state_at a).round.script.statements) (λ i. i < length a.slots.items) (λ i l. let m = sound.slots.many in omega (arith, l, m)) (state_at a).round.script.order (agree a within).round.checked.ordered.below

-- what the statements that are passed over say of the rest of the order
pub waits_not : (a : Machine) → Sound a (state_at a) → a.counts.running ≡ true → NoneWaits a.slots.items (take a.passed (arc_value a.script).order)
waits_not a sound run = subst (λ (q : Script). NoneWaits a.slots.items (take a.passed q.order)) (sym sound.scripts.round) (sound.passed (sym sound.counts.running ∙ run))

pub script_below : (a : Machine) → Within a → Sound a (state_at a) → All (λ i. i < length a.slots.items) (arc_value a.script).order
script_below a within sound = subst (λ (q : Script). All (λ i. i < length a.slots.items) q.order) (sym sound.scripts.round) (order_below a within sound)

pub first_after : (slots : List Slot) (order : List ℕ) (p i : ℕ) → NoneWaits slots (take p order) → FirstReadyIn slots (drop p order) i → FirstReadyIn slots order i
first_after slots order p i none f = record {
  before = take p order ++ f.before;
  behind = f.behind;
  stands = sym (take-append-drop p order) ∙ ap (λ (xs : List ℕ). take p order ++ xs) f.stands ∙ sym (append_assoc (take p order) f.before (i ∷ f.behind));
  ready = f.ready;
  first = All-append (λ j. ¬ (ReadyIn slots j)) (take p order) f.before (none_ready_before slots (take p order) none) f.first;
}

pub none_after : (slots : List Slot) (order : List ℕ) (p : ℕ) → NoneWaits slots (take p order) → All (λ j. ¬ (ReadyIn slots j)) (drop p order) → All (λ j. ¬ (ReadyIn slots j)) order
none_after slots order p none h = subst (λ (xs : List ℕ). All (λ j. ¬ (ReadyIn slots j)) xs) (take-append-drop p order) (All-append (λ j. ¬ (ReadyIn slots j)) (take p order) (drop p order) (none_ready_before slots (take p order) none) h)

pub none_over : (slots : List Slot) (order : List ℕ) (p : ℕ) → length order ≤ p → NoneWaits slots (take p order) → All (λ j. ¬ (ReadyIn slots j)) order
none_over slots order p l none = none_ready_before slots order (subst (λ (xs : List ℕ). NoneWaits slots xs) (take_all p order l) none)

-- the rest of the order, as a slice
pub rest_of : (order : List ℕ) (p : ℕ) → take (length order - p) (drop p order) ≡ drop p order
rest_of order p = take_all (length order - p) (drop p order) (let q = length-drop p order in omega (arith, q))

pub if_some_weaker : {A : Type 0} (P Q : A → Type 0) (o : Option A) → IfSome o P → ((x : A) → P x → Q x) → IfSome o Q
if_some_weaker P Q None h f = tt
if_some_weaker P Q (Some x) h f = f x h

-- ---- the work

pub record HandedOut (a : Machine) (n : ℕ) (w : Work) (b : Machine) : Type 0 where
  pub kept : KeptMachine b
  pub claims : Claims (seen_of a) n w (seen_of b)

abbrev pub claimed_machine : Machine → Vec Entry Global → Vec Slot Global → ℕ → Machine
claimed_machine a j slots passed = record a { journal = j; slots = slots; passed = passed; counts = record a.counts { aside = a.counts.aside - 1 } }

pub kept_claimed : (a : Machine) (j : Vec Entry Global) (slots : Vec Slot Global) (slot new : Slot) (i n passed : ℕ) (settle : Settle) (news : Vec (Arc Changes Global) Global) (node : Node) → KeptMachine a → a.counts.running ≡ true → FirstReadyIn a.slots.items (arc_value a.script).order i → Ripe a i slot
    → HandsOut slot a.counts.published settle news node new → slots.items ≡ set a.slots.items i new → NoneWaits slots.items (take passed (arc_value a.script).order) → j.items ≡ a.journal.items ++ (record { by = n; what = Claimed i }) ∷ [] → vec_capacity a.journal ≤ vec_capacity j
    → HandedOut a n (record { round = a.counts.rounds; statement = i; base = a.counts.base; to = a.counts.to; settle = settle; news = news; node = node }) (claimed_machine a j slots passed)
kept_claimed a j slots slot new i n passed settle news node k run first ripe h es none_wait ej room =
    let s : State = state_at a in
    let c = s.round.script in
    let x : What = Claimed i in
    let t : State = after_what s n x in
    let b : Machine = claimed_machine a j slots passed in
    let st : t ≡ state_of (arc_value a.first) j.items = state_along a j.items n x ej in
    let o = opened_of a k.within k.sound run in
    let going : s.running ≡ true = o.running in
    let old = k.sound.counts in
    let p = in_order a k.within in
    let some = aside_some a i slot k run ripe in
    let scripts = k.sound.scripts in
    let order : (arc_value a.script).order ≡ c.order = ap (λ (q : Script). q.order) scripts.round in
    let first_ready : FirstReady s c.order i = record {
      before = first.before;
      behind = first.behind;
      stands = sym order ∙ first.stands;
      ready = ripe.ready;
      first = All-weaker (λ m. ¬ (ReadyIn a.slots.items m)) (λ m. ¬ (Ready s m)) (λ m no ready. no (ready_in s a.slots.items o m ready)) first.before first.first;
    } in
    let counts : CountsKept b.counts t = record {
      accepted = old.accepted;
      fields = old.fields;
      newest = old.newest;
      published = old.published;
      rounds = old.rounds;
      script = old.script;
      base = old.base;
      running = old.running;
      dropped = old.dropped;
      spoiled = old.spoiled;
      to = old.to;
      aside = ap (λ m. m - 1) old.aside ∙ sym (aside-less s n x tt going);
    } in
    let claimed : SlotsKept (scene_of t) true (set a.slots.items i new) = slots_claimed (scene_of s) a.slots.items i n new o.kept h.stage (h.sources ∙ ripe.sources) ripe.below in
    let sound : Sound b t = record {
      scripts = record { first = scripts.first; newest = scripts.newest; round = scripts.round };
      counts = counts;
      inputs = k.sound.inputs;
      slots = subst (λ (r : Bool). SlotsKept (scene_of t) r slots.items) (sym going) (subst (λ (v : List Slot). SlotsKept (scene_of t) true v) (sym es) claimed);
      passed = λ r. subst (λ (xs : List ℕ). NoneWaits slots.items (take passed xs)) order none_wait;
      release = IsRelease-stays s n x a.latest p tt k.sound.release;
      earlier = earlier_stays s n x a.earlier.items p tt k.sound.earlier;
      earlier_fit = k.sound.earlier_fit;
      pages = k.sound.pages;
      pages_fit = λ r. let fit = k.sound.pages_fit r in let same : length slots.items ≡ length a.slots.items = ap length es ∙ length-set a.slots.items i new in omega (arith, fit, same);
    } in
    let out : IsOutBy t n i = record { open_round = going; below = ripe.ready.below; out = with_at-same i (Out n) s.status } in
    let home = home_node c (old_inputs s) i (settle_by slot.stamp s.published) slot.node node h.node_is ripe.waits.home in
    let es_settle : settle_by slot.stamp s.published ≡ settle = ap (settle_by slot.stamp) (sym old.published) ∙ sym h.settle_is in
    let stands : StandsAs c (old_inputs s) settle node = subst (λ (z : Settle). StandsAs c (old_inputs s) z node) es_settle home.1 in
    let named : node.sources ≡ sources_of c i = stands.shape.sources ∙ ap (sources_of c) home.0 in
    let lead : AllLead c (map arc_value news.items) node.sources (old_inputs s) (new_inputs s) =
    subst (λ (ns : List Source). AllLead c (map arc_value news.items) ns (old_inputs s) (new_inputs s)) (sym named)
    (subst (λ (ds : Vec (Arc Changes Global) Global). AllLead c (map arc_value ds.items) (sources_of c i) (old_inputs s) (new_inputs s)) (sym h.news_are)
    (subst (λ (ns : List Source). AllLead c (map arc_value slot.news.items) ns (old_inputs s) (new_inputs s)) ripe.sources
    (news_lead (scene_of s) slot.news.items slot.sources ripe.waits.news (subst (λ (ns : List Source). All (IsThere c s.status (new_inputs s)) ns) (sym ripe.sources) ripe.ready.operands)))) in
    let w : Work = record { round = a.counts.rounds; statement = i; base = a.counts.base; to = a.counts.to; settle = settle; news = news; node = node } in
    let on : WorkStandsFor c w (old_inputs s) (new_inputs s) = record {
      checked = o.agrees.checked;
      old_inputs = AreInputs-at c (base s) s o.agrees;
      new_inputs = AreInputs-at c s.to s o.agrees;
      statement_is = home.0;
      node_stands = stands;
      have = subst (λ (ns : List Source). AllHave c (new_inputs s) ns) (sym named) (AllHave-ready s i o.agrees ripe.ready);
      news_lead = lead;
    } in
    let work : WorkStands t w = record {
      place = record { running = going; round_is = old.rounds; base_is = old.base; to_is = old.to };
      on = subst (λ m. WorkStandsFor c w (inputs m s) (inputs a.counts.to s)) (sym old.base) (subst (λ m. WorkStandsFor c w (old_inputs s) (inputs m s)) (sym old.to) on);
    } in
    let goes : GoesTo a n x b = record { first = refl; limits = refl; items = ej; may = (going, first_ready) } in
    record {
      kept = record {
        within = within_less a b n x k.within goes (omega (arith, some)) refl refl room;
        sound = subst (λ (u : State). Sound b u) st sound;
        live = subst (λ (u : State). ¬ (Over u)) st (λ over. over.none_out i n ripe.ready.below (with_at-same i (Out n) s.status));
      };
      claims = record {
        first = first_ready;
        entry = seen_along a j.items n x ej;
        out = subst (λ (u : State). IsOutBy u n i) st out;
        stands = subst (λ (u : State). WorkStands u w) st work;
      };
    }

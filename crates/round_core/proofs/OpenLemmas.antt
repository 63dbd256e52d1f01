-- Opening a round.
use Rattle.std.proofs.Common.{◌≡◌, ◌≢◌, ◌⊎◌, inl, inr, ℕ, ◌+◌, ◌*◌, ◌<◌, ◌≤◌, Bool, true, false, cond, not, ◌&&◌, ◌||◌, List, [], ◌∷◌, ◌++◌, length, get_or, map, Option, Some, None, Vec, vec_capacity, nat_lt, ◌==◌, sym, ◌∙◌, ap, refl, arith, subst}
use Rattle.std.specs.Arc.{arc_value}
use Rattle.std.specs.List.{All}
use Rattle.std.specs.declared.sync.Arc.{Arc}
use Rattle.std.specs.declared.alloc.Global.{Global}
use Rattle.std.specs.FinMap.{empty}
use Rattle.std.proofs.lemmas.Bool.{cases_lt, eq-eqb, ne_eqb}
use Rattle.std.proofs.lemmas.List.Elements.{All-nil}
use Rattle.std.proofs.lemmas.Option.{slice_get-get_or}
use Rattle.data_model.specs.Deltas.{Leads}
use Rattle.point_sets.specs.DataSets.{DataSet}
use Rattle.point_sets.specs.Changes.{Changes}
use Rattle.data_set_trees.specs.declared.checked.script.CheckedStatement.{CheckedStatement}
use Rattle.data_set_trees.specs.declared.tree.Source.{Source}
use Rattle.data_set_trees.specs.declared.tree.Source.TheVariants.{Input, Result as ResultOf}
use Rattle.data_set_trees.specs.checked.Scripts.{Script, IsChecked, sources_of}
use Rattle.vtl_values.specs.Structures.{NamedStructures}
use Rattle.revision_judge.specs.Judging.{input}
use Rattle.round_journal.specs.Nodes.{operand_on}
use Rattle.round_journal.specs.declared.entry.Entry.{Entry}
use Rattle.round_journal.specs.declared.entry.What.{What}
use Rattle.round_journal.specs.declared.entry.What.TheVariants.{Opened, Published}
use Rattle.round_journal.specs.Journals.{State, Waiting, Numbered, after_what, state_of, inputs, old_inputs, new_inputs, inputs_now, round_need, IsThere, MayOpen}
use Rattle.round_journal.specs.Counts.{PrefixesInOrder, ScriptsInOrder}
use Rattle.round_journal.proofs.InputLemmas.{inputs-all, inputs_after-long}
use Rattle.round_journal.proofs.ProductionLemmas.{ScriptsInOrder-legal}
use Rattle.round_journal.proofs.ReadyLemmas.{some_ready}
use Rattle.round_journal.proofs.ReleaseLemmas.{IsRelease-stays}
use Rattle.round_core.specs.declared.inputs.InputChange.{InputChange}
use Rattle.round_core.specs.declared.inputs.Inputs.{Inputs}
use Rattle.round_core.specs.declared.limits.Full.{Full}
use Rattle.round_core.specs.declared.machine.Machine.{Machine}
use Rattle.round_core.specs.declared.counts.Counts.{Counts}
use Rattle.round_core.specs.declared.slot.Slot.{Slot}
use Rattle.round_core.specs.declared.slot.Stage.{Stage}
use Rattle.round_core.specs.declared.slot.Stage.TheVariants as stage
use Rattle.round_core.specs.declared.stops.OpenStop.{OpenStop}
use Rattle.round_core.specs.Answers.{nothing_new, no_room, cannot_open}
use Rattle.round_core.specs.Inputs.{ChangeKept, InputsKept, AllCarry, AllBegin}
use Rattle.round_core.specs.Kept.{Scene, scene_of, IsHome, StageKept, SlotsKept, CountsKept, Sound, KeptMachine, seen_of, state_at}
use Rattle.round_core.specs.Seen.{Seen, state_in, seen_with, opened}
use Rattle.round_core.specs.Slots.{EachSlot, settle_by}
use Rattle.round_core.specs.Steps.{IsFirstNews, IsPrepared, IsFirstSlot, GoesOnWith, BeginsWith, HasSlots, HasRound, TakesOn, IsSetAside, OpenStill}
use Rattle.round_core.specs.declared.machine.FirstRound.{FirstRound}
use Rattle.round_core.specs.declared.machine.Setting.{Setting}
use Rattle.round_core.proofs.KeptLemmas.{under, state_along, seen_along, GoesTo, within_next, in_order, agree, earlier_stays}
use Rattle.round_core.proofs.NewLemmas.{input_empty}
use Rattle.round_core.proofs.Lists.{some_of}
use Rattle.round_core.proofs.SlotLemmas.{IsTypedName, sources_typed, input_below}

-- ---- where a round may open

open_none : (b c d : Bool) (x y : OpenStop) (f : Full) → cond b (Some x) (cond c (Some y) (no_room (cond d (Some f) None))) ≡ None → (b ≡ false) × (c ≡ false) × (d ≡ false)
open_none true c d x y f e = cc e
open_none false true d x y f e = cc e
open_none false false true x y f e = cc e
open_none false false false x y f e = (refl, refl, refl)

pub record CanOpen (p : Seen) : Type 0 where
  pub closed : (state_in p).running ≡ false
  pub news : nothing_new (state_in p) ≡ false
  pub entries : length p.journal + 0 + round_need (state_in p).newest.script ≤ p.limits.entries

pub can_open : (p : Seen) → cannot_open p ≡ None → CanOpen p
can_open p e =
    let h = open_none (state_in p).running (nothing_new (state_in p)) (nat_lt p.limits.entries (length p.journal + 0 + round_need (state_in p).newest.script)) _ _ _ e in
    record { closed = h.0; news = h.1; entries = under p.limits.entries (length p.journal + 0 + round_need (state_in p).newest.script) h.2 }

some_news : (accepted newest : ℕ) (rest : Bool) → ((accepted == 0 && newest == 0) || rest) ≡ false → (0 < accepted) ⊎ (0 < newest)
some_news accepted newest rest e = elim (cases_lt 0 accepted) [
  | inl l ↦ inl l
  | inr none ↦ elim (cases_lt 0 newest) [
    | inl l ↦ inr l
    | inr first ↦ absurd (let a = eq-eqb accepted 0 (omega (arith, none)) in let b = eq-eqb newest 0 (omega (arith, first)) in let q : ((accepted == 0 && newest == 0) || rest) ≡ true = rw a (rw b refl) in cc (q, e))
  ]
]

new_news : (start : Bool) (to accepted round newest : ℕ) (dropped : Bool) → (start || (to == accepted && not dropped && round == newest)) ≡ false → to ≤ accepted → round ≤ newest → (to < accepted) ⊎ ((dropped ≡ true) ⊎ (round < newest))
new_news true to accepted round newest dropped e l m = cc e
new_news false to accepted round newest true e l m = inr (inl refl)
new_news false to accepted round newest false e l m = elim (cases_lt to accepted) [
  | inl less ↦ inl less
  | inr all ↦ elim (cases_lt round newest) [
    | inl less ↦ inr (inr less)
    | inr same ↦ absurd (let a = eq-eqb to accepted (omega (arith, all, l)) in let b = eq-eqb round newest (omega (arith, same, m)) in let q : (to == accepted && not false && round == newest) ≡ true = rw a (rw b refl) in cc (q, e))
  ]
]

pub may_open : (s : State) → nothing_new s ≡ false → PrefixesInOrder s → ScriptsInOrder s → s.running ≡ false → MayOpen s (length s.accepted)
may_open s e p o closed = record {
  none_open = closed;
  all = refl;
  some = some_news (length s.accepted) s.newest.number (s.to == length s.accepted && not s.dropped && s.round.number == s.newest.number) e;
  news = new_news (length s.accepted == 0 && s.newest.number == 0) s.to (length s.accepted) s.round.number s.newest.number s.dropped e p.to_below o.round_below;
}

-- ---- inputs

pub inputs_opened : (olds tos nows : List DataSet) (i : Inputs) (changes : Vec InputChange Global) → InputsKept olds tos nows i → AllCarry i.changes.items changes.items → InputsKept olds nows nows (record i { changes = changes })
inputs_opened olds tos nows i changes k h = record {
  sets = k.sets;
  many = h.many ∙ k.many;
  each = λ n d l.
      let m : n < length i.changes.items = let q = k.many in omega (arith, l, q) in
      let e = some_of i.changes.items n m in
      h.each n e d m (input olds n) (input tos n) (input nows n) (k.each n e l);
}

-- from no points
inputs_begun : {A : Type 0} (named : List A) (olds tos nows : List DataSet) (i : Inputs) (changes : Vec InputChange Global) → InputsKept olds tos nows i → AllBegin i.sets.items changes.items → InputsKept (map (λ _. empty) named) nows nows (record i { changes = changes })
inputs_begun named olds tos nows i changes k h =
    let begin : AllBegin nows changes.items = subst (λ (xs : List DataSet). AllBegin xs changes.items) k.sets h in record {
      sets = k.sets;
      many = begin.many;
      each = λ n d l. subst (λ (x : DataSet). ChangeKept x (input nows n) (input nows n) (get_or changes.items n d)) (sym (input_empty named n)) (begin.each n d l);
    }

-- ---- news

first_leads : (c : Script) (olds nows : List DataSet) (i : Inputs) (d : Arc Changes Global) (source : Source) → InputsKept olds nows nows i → length nows ≡ length c.inputs → IsTypedName c source → IsFirstNews i.changes.items d source → IsThere c (λ _. Waiting) nows source → Leads (arc_value d) (operand_on c olds source) (operand_on c nows source)
first_leads c olds nows i d (Input n) k long typed first t =
    let l : n < length nows = let q = input_below c n typed in omega (arith, q, long) in
    let m : n < length i.changes.items = let q = k.many in omega (arith, l, q) in
    let e = some_of i.changes.items n m in
    first (get_or i.changes.items n e) (input olds n) (input nows n) (slice_get-get_or i.changes.items n e m) (k.each n e l).older
first_leads c olds nows i d (ResultOf j) k long typed first t = absurd (let q = t.0 in cc q)

-- the slot was worked in an earlier round, if it was, and has its node
pub record CanWait (v : Scene) (j : ℕ) (slot : Slot) : Type 0 where
  pub sources : slot.sources ≡ sources_of v.script j
  pub earlier : slot.stamp < v.round
  pub home : IsHome v.script v.olds j (settle_by slot.stamp v.published) slot.node

abbrev pub waiting_scene : Script → ℕ → ℕ → List DataSet → List DataSet → Scene
waiting_scene c published round olds nows = record { script = c; published = published; round = round; olds = olds; news = nows; status = λ _. Waiting }

slots_opened : (c : Script) (published round : ℕ) (olds nows : List DataSet) (i : Inputs) (slots : List Slot) → IsChecked c → InputsKept olds nows nows i → length nows ≡ length c.inputs → length slots ≡ length c.statements → EachSlot (CanWait (waiting_scene c published round olds nows)) slots → EachSlot (λ j slot. IsPrepared i.changes.items slot) slots → SlotsKept (waiting_scene c published round olds nows) true slots
slots_opened c published round olds nows i slots checked inputs_kept long count can ready = record {
  many = count;
  each = λ j d m.
      let slot = get_or slots j d in
      let h = can j d m in
      let r = ready j d m in
      let v : Scene = waiting_scene c published round olds nows in
      let kept : StageKept v j slot stage.Waiting = record {
        place = refl;
        earlier = h.earlier;
        home = h.home;
        news = record {
          many = r.news.many;
          each = λ q e n w t. first_leads c olds nows i (get_or slot.news.items q e) (get_or slot.sources q n) inputs_kept long (subst (λ (ns : List Source). All (IsTypedName c) ns) (sym h.sources) (sources_typed c j checked) q n w) (r.news.each q e n w) t;
        };
      } in
      record { sources = h.sources; place = subst (λ (z : Stage). StageKept v j slot z) (sym r.waits) kept };
}

-- ---- what the round has

-- the prefix from which the round of a script goes on
abbrev pub base_with : State → Numbered → ℕ
base_with s round = cond (round.number == s.latest.script.number) s.latest.prefix 0

-- the inputs from which it goes on
abbrev pub olds_with : State → Numbered → List DataSet
olds_with s round = inputs (base_with s round) s

-- the scene of a round that has just been opened
abbrev pub opening : State → Numbered → Scene
opening s round = waiting_scene round.script s.published (s.rounds + 1) (olds_with s round) (inputs_now s)

pub record OpensWith (a b : Machine) (changes : Vec InputChange Global) : Type 0 where
  pub script_is : arc_value b.script ≡ (state_at a).newest.script
  pub number_is : b.counts.script ≡ (state_at a).newest.number
  pub base_is : b.counts.base ≡ base_with (state_at a) (state_at a).newest
  pub inputs_are : InputsKept (olds_with (state_at a) (state_at a).newest) (inputs_now (state_at a)) (inputs_now (state_at a)) (record a.inputs { changes = changes })
  pub slots_are : SlotsKept (opening (state_at a) (state_at a).newest) true b.slots.items

module _ (a b : Machine) (changes : Vec InputChange Global) (k : KeptMachine a) (closed : (state_at a).running ≡ false) where
  abbrev s : State
  s = state_at a

  nows_long : length (inputs_now s) ≡ length s.newest.script.inputs
  nows_long = inputs_after-long s.first.inputs s.accepted ∙ ap length (sym (agree a k.within).newest.same_inputs)

  rest : SlotsKept (scene_of s) false a.slots.items
  rest = subst (λ (r : Bool). SlotsKept (scene_of s) r a.slots.items) closed k.sound.slots

  goes_on : GoesOnWith changes.items a → HasRound None a b → OpensWith a b changes
  goes_on h g =
      let same : s.round.number ≡ s.newest.number = sym k.sound.counts.script ∙ h.same ∙ k.sound.counts.newest in
      let e : s.round ≡ s.newest = (ScriptsInOrder-legal (arc_value a.first) a.journal.items k.within.legal).same_round same in
      let inputs_kept : InputsKept (olds_with s s.newest) (inputs_now s) (inputs_now s) (record a.inputs { changes = changes }) = subst (λ (q : Numbered). InputsKept (olds_with s q) (inputs_now s) (inputs_now s) (record a.inputs { changes = changes })) e (inputs_opened (old_inputs s) (new_inputs s) (inputs_now s) a.inputs changes k.sound.inputs h.carried) in
      let can : EachSlot (CanWait (opening s s.newest)) a.slots.items = subst (λ (q : Numbered). EachSlot (CanWait (opening s q)) a.slots.items) e (λ j d l. let r = rest.each j d l in record { sources = r.sources; earlier = let q = r.place.earlier in omega (arith, q); home = r.place.home }) in
      record {
        script_is = ap arc_value g.0 ∙ k.sound.scripts.round ∙ ap (λ (q : Numbered). q.script) e;
        number_is = g.2 ∙ h.same ∙ k.sound.counts.newest;
        base_is = g.3 ∙ k.sound.counts.base ∙ ap (base_with s) e;
        inputs_are = inputs_kept;
        slots_are = subst (λ (q : Vec Slot Global). SlotsKept (opening s s.newest) true q.items) (sym g.1) (slots_opened s.newest.script s.published (s.rounds + 1) (olds_with s s.newest) (inputs_now s) (record a.inputs { changes = changes }) a.slots.items (agree a k.within).newest.checked inputs_kept nows_long (rest.many ∙ ap (λ (q : Numbered). length q.script.statements) e) can h.slots);
      }

  begins : (first : FirstRound) → BeginsWith changes.items first a → HasRound (Some first) a b → OpensWith a b changes
  begins first h g =
      let c = s.newest.script in
      let checked = (agree a k.within).newest in
      let order = ScriptsInOrder-legal (arc_value a.first) a.journal.items k.within.legal in
      let apart : s.newest.number ≢ s.latest.script.number = λ e. h.other (let below = order.round_below in let latest = order.latest_below in let x = k.sound.counts.script in let y = k.sound.counts.newest in omega (arith, below, latest, x, y, e)) in
      let none : base_with s s.newest ≡ 0 = ap (λ (q : Bool). cond q s.latest.prefix 0) (ne_eqb s.newest.number s.latest.script.number apart) in
      let same : arc_value a.newest ≡ c = k.sound.scripts.newest in
      let from : InputsKept (map (λ _. empty) s.first.inputs) (inputs_now s) (inputs_now s) (record a.inputs { changes = changes }) = inputs_begun s.first.inputs (old_inputs s) (new_inputs s) (inputs_now s) a.inputs changes k.sound.inputs h.from_nothing in
      let inputs_kept : InputsKept (olds_with s s.newest) (inputs_now s) (inputs_now s) (record a.inputs { changes = changes }) = subst (λ m. InputsKept (inputs m s) (inputs_now s) (inputs_now s) (record a.inputs { changes = changes })) (sym none) from in
      let firsts : EachSlot (IsFirstSlot c) first.slots.items = subst (λ (q : Script). EachSlot (IsFirstSlot q) first.slots.items) same h.slots in
      let can : EachSlot (CanWait (opening s s.newest)) first.slots.items = λ j d l.
      let f = firsts j d l in
      let slot = get_or first.slots.items j d in
      let at_start : IsHome c (map (λ _. empty) s.first.inputs) j (settle_by 0 s.published) slot.node = subst (λ (named : NamedStructures). IsHome c (map (λ _. empty) named) j (settle_by 0 s.published) slot.node) checked.same_inputs f.home in
      record {
        sources = f.sources;
        earlier = let q = f.stamp in omega (arith, q);
        home = subst (λ m. IsHome c (inputs m s) j (settle_by slot.stamp s.published) slot.node) (sym none) (subst (λ m. IsHome c (map (λ _. empty) s.first.inputs) j (settle_by m s.published) slot.node) (sym f.stamp) at_start);
      } in
      record {
        script_is = ap arc_value g.0 ∙ h.script ∙ same;
        number_is = g.2 ∙ k.sound.counts.newest;
        base_is = g.3 ∙ sym none;
        inputs_are = inputs_kept;
        slots_are = subst (λ (q : Vec Slot Global). SlotsKept (opening s s.newest) true q.items) (sym g.1) (slots_opened c s.published (s.rounds + 1) (olds_with s s.newest) (inputs_now s) (record a.inputs { changes = changes }) first.slots.items checked.checked inputs_kept nows_long (h.many ∙ ap (λ (q : Script). length q.statements) same) can h.prepared);
      }

  pub opens_with : (first : Option FirstRound) → HasSlots changes.items first a → HasRound first a b → OpensWith a b changes
  opens_with None h g = goes_on h g
  opens_with (Some first) h g = begins first h g

-- ---- the round

abbrev pub opened_counts : Counts → ℕ → Counts
opened_counts k many = record k { rounds = k.rounds + 1; running = true; dropped = false; spoiled = false; to = k.accepted; aside = 2 * many + 1 }

-- the production with the round's script, slots and numbers from b
abbrev pub opened_machine : Machine → Machine → Vec Entry Global → Vec InputChange Global → ℕ → Machine
opened_machine a b j changes m = record a { journal = j; passed = 0; inputs = record a.inputs { changes = changes }; script = b.script; slots = b.slots; counts = opened_counts (record a.counts { script = b.counts.script; base = b.counts.base }) m }

pub still_opened : (a b : Machine) (j : Vec Entry Global) (setting : Setting) (n m : ℕ) → m ≡ length b.slots.items → KeptMachine a → IsSetAside setting a → CanOpen (seen_of a) → HasRound setting.first a b → j.items ≡ a.journal.items ++ (record { by = n; what = Opened a.counts.accepted }) ∷ [] → vec_capacity a.journal ≤ vec_capacity j
    → OpenStill (opened_machine a b j setting.changes m) n
still_opened a b j setting n size size_is k h can g ej room =
    let s : State = state_at a in
    let w : What = Opened a.counts.accepted in
    let t : State = after_what s n (Opened (length s.accepted)) in
    let new : Machine = opened_machine a b j setting.changes size in
    let old = k.sound.counts in
    let scripts = k.sound.scripts in
    let p = in_order a k.within in
    let o = opens_with a b setting.changes k can.closed setting.first h.slots g in
    let same : after_what s n w ≡ t = ap (λ m. after_what s n (Opened m)) old.accepted in
    let st : t ≡ state_of (arc_value a.first) j.items = sym same ∙ state_along a j.items n w ej in
    let nows : inputs_now s ≡ new_inputs t = sym (inputs-all s) in
    let many = o.slots_are.many in
    let need : length (arc_value a.newest).statements ≡ length s.newest.script.statements = ap (λ (q : Script). length q.statements) scripts.newest in
    let counts : CountsKept new.counts t = record {
      accepted = old.accepted;
      fields = old.fields;
      newest = old.newest;
      published = old.published;
      rounds = ap (λ m. m + 1) old.rounds;
      script = o.number_is;
      base = o.base_is;
      running = refl;
      dropped = refl;
      spoiled = refl;
      to = old.accepted;
      aside = omega (arith, many, size_is);
    } in
    let sound : Sound new t = record {
      scripts = record { first = scripts.first; newest = scripts.newest; round = o.script_is };
      counts = counts;
      inputs = subst (λ (ys : List DataSet). InputsKept (olds_with s s.newest) ys (inputs_now s) new.inputs) nows o.inputs_are;
      slots = subst (λ (ys : List DataSet). SlotsKept (waiting_scene s.newest.script s.published (s.rounds + 1) (olds_with s s.newest) ys) true b.slots.items) nows o.slots_are;
      passed = λ r. All-nil (λ i. (d : Slot) → (get_or b.slots.items i d).stage ≢ stage.Waiting);
      release = IsRelease-stays s n (Opened (length s.accepted)) a.latest p tt k.sound.release;
      earlier = earlier_stays s n (Opened (length s.accepted)) a.earlier.items p tt k.sound.earlier;
      earlier_fit = k.sound.earlier_fit;
      pages = k.sound.pages;
      pages_fit = λ r. let fit = h.pages in omega (arith, fit, need, many);
    } in
    let allowed : MayOpen s (length s.accepted) = may_open s can.news p (ScriptsInOrder-legal (arc_value a.first) a.journal.items k.within.legal) can.closed in
    let goes : GoesTo a n w new = record { first = refl; limits = refl; items = ej; may = subst (λ m. MayOpen s m) (sym old.accepted) allowed } in
    record {
      within = within_next a new n w k.within goes (let fits = can.entries in omega (arith, fits, many, size_is)) k.within.fields_fit k.within.scripts_fit (let fits = h.room in omega (arith, fits, need, many, size_is, room));
      sound = subst (λ (u : State). Sound new u) st sound;
      running = subst (λ (u : State). u.running ≡ true) st refl;
      same_caller = subst (λ (u : State). u.by ≡ n) st refl;
    }

-- the production once the entry is noted, from one that has taken on what was set aside
pub record OpensAs (a m : Machine) (setting : Setting) (n size : ℕ) (j : Vec Entry Global) : Type 0 where
  pub same : (record m { journal = j; counts = opened_counts m.counts size }) ≡ opened_machine a m j setting.changes size
  pub items : j.items ≡ a.journal.items ++ (record { by = n; what = Opened a.counts.accepted }) ∷ []
  pub still : OpenStill (opened_machine a m j setting.changes size) n

pub opens_as : (a m : Machine) (setting : Setting) (n size : ℕ) (j : Vec Entry Global) → TakesOn setting a m → KeptMachine a → IsSetAside setting a → cannot_open (seen_of a) ≡ None → size ≡ length m.slots.items → j.items ≡ m.journal.items ++ (record { by = n; what = Opened m.counts.accepted }) ∷ [] → vec_capacity m.journal ≤ vec_capacity j → OpensAs a m setting n size j
opens_as a m setting n size j taken k ready opens size_is ej room =
    let items : j.items ≡ a.journal.items ++ (record { by = n; what = Opened a.counts.accepted }) ∷ [] = ej ∙ ap (λ (z : Machine). z.journal.items ++ (record { by = n; what = Opened z.counts.accepted }) ∷ []) taken.rest in record {
      same = ap (λ (z : Machine). let b : Machine = record z { journal = j; counts = opened_counts z.counts size } in b) taken.rest;
      items = items;
      still = still_opened a m j setting n size size_is k ready (can_open (seen_of a) opens) taken.round items (subst (λ (z : Machine). vec_capacity z.journal ≤ vec_capacity j) taken.rest room);
    }

-- there is room for the entry
pub room_to_open : (a m : Machine) (setting : Setting) → TakesOn setting a m → IsSetAside setting a → length m.journal.items < vec_capacity m.journal
room_to_open a m setting taken ready = subst (λ (z : Machine). length z.journal.items < vec_capacity z.journal) (sym taken.rest) (let q = ready.room in omega (arith, q))

-- in a script with statements one is ready
pub kept_opened : (a b : Machine) (j : Vec Entry Global) (changes : Vec InputChange Global) (n m : ℕ) → OpenStill (opened_machine a b j changes m) n → j.items ≡ a.journal.items ++ (record { by = n; what = Opened a.counts.accepted }) ∷ [] → 0 < length b.slots.items → KeptMachine (opened_machine a b j changes m)
kept_opened a b j changes n size o ej some =
    let s : State = state_at a in
    let new : Machine = opened_machine a b j changes size in
    let st : after_what s n (Opened a.counts.accepted) ≡ state_at new = state_along a j.items n (Opened a.counts.accepted) ej in
    let l : 0 < length (state_at new).round.script.statements = let m = o.sound.slots.many in omega (arith, some, m) in
    record { within = o.within; sound = o.sound; live = λ over. some_ready (state_at new) (agree new o.within).round.checked l (λ i. ap (λ (u : State). u.status i) (sym st)) over.none_ready }

-- ---- what callers see

pub opened_some : (p : Seen) (n : ℕ) → 0 < length (state_in p).newest.script.statements → opened p n ≡ seen_with p n (Opened (length (state_in p).accepted))
opened_some p n l = by_list (state_in p).newest.script.statements refl
  where
    by_list : (ss : List CheckedStatement) → (state_in p).newest.script.statements ≡ ss → opened p n ≡ seen_with p n (Opened (length (state_in p).accepted))
    by_list [] e = absurd (let q = ap length e in omega (arith, l, q))
    by_list (x ∷ ss) e = rw e refl

pub opened_none : (p : Seen) (n : ℕ) → length (state_in p).newest.script.statements ≡ 0 → opened p n ≡ seen_with (seen_with p n (Opened (length (state_in p).accepted))) n (Published (length (state_in p).accepted))
opened_none p n l = by_list (state_in p).newest.script.statements refl
  where
    by_list : (ss : List CheckedStatement) → (state_in p).newest.script.statements ≡ ss → opened p n ≡ seen_with (seen_with p n (Opened (length (state_in p).accepted))) n (Published (length (state_in p).accepted))
    by_list [] e = rw e refl
    by_list (x ∷ ss) e = absurd (let q = ap length e in omega (arith, l, q))

-- the slots are those of the newest script
pub newest_slots : (a b : Machine) (j : Vec Entry Global) (changes : Vec InputChange Global) (n m : ℕ) → OpenStill (opened_machine a b j changes m) n → j.items ≡ a.journal.items ++ (record { by = n; what = Opened a.counts.accepted }) ∷ [] → length b.slots.items ≡ length (state_at a).newest.script.statements
newest_slots a b j changes n size o ej =
    let st : after_what (state_at a) n (Opened a.counts.accepted) ≡ state_of (arc_value a.first) j.items = state_along a j.items n (Opened a.counts.accepted) ej in
    o.sound.slots.many ∙ ap (λ (u : State). length u.round.script.statements) (sym st)

pub seen_opened_none : (a b : Machine) (j : Vec Entry Global) (changes : Vec InputChange Global) (n m : ℕ) (new : Seen) → KeptMachine a → OpenStill (opened_machine a b j changes m) n → j.items ≡ a.journal.items ++ (record { by = n; what = Opened a.counts.accepted }) ∷ [] → length b.slots.items ≡ 0 → new ≡ seen_with (seen_of (opened_machine a b j changes m)) n (Published (state_at (opened_machine a b j changes m)).to) → new ≡ opened (seen_of a) n
seen_opened_none a b j changes n size new k o ej none e =
    let s : State = state_at a in
    let accepted = k.sound.counts.accepted in
    let mid : Seen = seen_of (opened_machine a b j changes size) in
    let l : length s.newest.script.statements ≡ 0 = sym (newest_slots a b j changes n size o ej) ∙ none in
    e ∙ ap (λ q. seen_with mid n (Published q)) (sym o.sound.counts.to ∙ accepted)
    ∙ ap (λ (p : Seen). seen_with p n (Published (length s.accepted))) (seen_along a j.items n (Opened a.counts.accepted) ej ∙ ap (λ q. seen_with (seen_of a) n (Opened q)) accepted)
    ∙ sym (opened_none (seen_of a) n l)

pub seen_opened_some : (a b : Machine) (j : Vec Entry Global) (changes : Vec InputChange Global) (n m : ℕ) → KeptMachine a → OpenStill (opened_machine a b j changes m) n → j.items ≡ a.journal.items ++ (record { by = n; what = Opened a.counts.accepted }) ∷ [] → 0 < length b.slots.items → seen_of (opened_machine a b j changes m) ≡ opened (seen_of a) n
seen_opened_some a b j changes n size k o ej some =
    let l : 0 < length (state_at a).newest.script.statements = let q = newest_slots a b j changes n size o ej in omega (arith, q, some) in
    seen_along a j.items n (Opened a.counts.accepted) ej ∙ ap (λ q. seen_with (seen_of a) n (Opened q)) k.sound.counts.accepted ∙ sym (opened_some (seen_of a) n l)

pub some_slots : (n : ℕ) (b : Bool) → b ≡ (n == 0) → b ≡ false → 0 < n
some_slots n b e f = grind (arith, e, f)

pub no_slots : (n : ℕ) (b : Bool) → b ≡ (n == 0) → b ≡ true → n ≡ 0
no_slots n b e f = grind (arith, e, f)

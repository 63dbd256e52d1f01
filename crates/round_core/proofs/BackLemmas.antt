-- What comes back, by how it ended.
use Rattle.std.proofs.Common.{◌≡◌, ℕ, ◌<◌, ◌≤◌, true, List, ◌∷◌, [], ◌++◌, length, get_or, map, Option, Some, None, Vec, vec_capacity, sym, ◌∙◌, ap, refl, arith, subst, set}
use Rattle.std.specs.Prelude.{count_by}
use Rattle.std.specs.Option.{IsSomeAnd}
use Rattle.std.specs.Arc.{arc_value}
use Rattle.std.specs.List.{slice_get}
use Rattle.std.specs.declared.sync.Arc.{Arc}
use Rattle.std.specs.declared.alloc.Global.{Global}
use Rattle.std.proofs.lemmas.List.{length-map, get_or-map}
use Rattle.data_model.specs.Deltas.{Leads}
use Rattle.point_sets.specs.Changes.{Changes}
use Rattle.data_set_trees.specs.declared.checked.script.CheckedStatement.{CheckedStatement}
use Rattle.data_set_trees.specs.declared.tree.Source.TheVariants.{Result as ResultOf}
use Rattle.data_set_trees.specs.checked.Scripts.{Script, uses_of}
use Rattle.operator_meaning.specs.Scripts.{Fails, states}
use Rattle.release_text.specs.Releases.{Page}
use Rattle.round_journal.specs.node.Node.{Node}
use Rattle.round_journal.specs.fault.NodeFault.{NodeFault}
use Rattle.round_journal.specs.work.Settle.TheVariants.{Apply}
use Rattle.round_journal.specs.Faults.{wrong_of}
use Rattle.round_journal.specs.Nodes.{operand_on, published, IsRight}
use Rattle.round_journal.specs.declared.entry.Entry.{Entry}
use Rattle.round_journal.specs.declared.entry.What.TheVariants.{Returned, GaveUp}
use Rattle.round_journal.specs.Journals.{State, Back, old_inputs, new_inputs}
use Rattle.round_core.specs.declared.machine.Machine.{Machine}
use Rattle.round_core.specs.declared.slot.Slot.{Slot}
use Rattle.round_core.specs.declared.slot.Stage.{Stage}
use Rattle.round_core.specs.declared.slot.Stage.TheVariants as stage
use Rattle.round_core.specs.Kept.{scene_of, IsHome, BackKept, StageKept, KeptMachine, state_at}
use Rattle.round_core.specs.Slots.{HandedOn, names_it, back_with}
use Rattle.round_core.specs.Steps.{OpenStill}
use Rattle.round_core.proofs.ClaimLemmas.{opened_of}
use Rattle.round_core.proofs.MoveLemmas.{same_home}
use Rattle.round_core.proofs.NameLemmas.{count_uses}
use Rattle.round_core.proofs.SlotLemmas.{slot_sources, many}
use Rattle.round_core.proofs.GiveLemmas.{moved, news_wrong, news_handed, Passed, IsPut, Comes, running_of, below_of, back_machine, still_returned, still_gave_up}

abbrev state : Machine → State
state a = state_at a

abbrev script : Machine → Script
script a = (state_at a).round.script

-- the slot that is put
pub is_put : (a : Machine) (n i : ℕ) (node : Node) (st : Stage) (mid : List Slot) (slot : Slot) → KeptMachine a → Comes a n i node → length mid ≡ length a.slots.items → ((j : ℕ) (d : Slot) → j < length a.slots.items → (get_or mid j d).sources ≡ (get_or a.slots.items j d).sources) → slot ≡ get_or mid i slot → IsPut a i node st (back_with a.counts.rounds node st slot)
is_put a n i node st mid slot k come long same e =
    let l = below_of a n i k.sound come.out in
    let o = opened_of a k.within k.sound (running_of a n i k.sound come.out) in record {
      sources = ap (λ (z : Slot). z.sources) e ∙ same i slot l ∙ slot_sources (state a) a.slots.items o i slot l;
      stage = refl;
      stamp = refl;
      node_is = refl;
    }

-- ---- right

-- there is a change for each statement that names the result
pub enough_changes : (a : Machine) (n i : ℕ) (deltas : Vec (Arc Changes Global) Global) (node : Node) (points : ℕ) (pages : Option Page) → KeptMachine a → Comes a n i node → IsRight (script a) node (old_inputs (state a)) (new_inputs (state a)) (map arc_value deltas.items) points pages → count_by (names_it i) a.slots.items ≤ length deltas.items
enough_changes a n i deltas node points pages k come right =
    let o = opened_of a k.within k.sound (running_of a n i k.sound come.out) in
    let uses : count_by (names_it i) a.slots.items ≡ uses_of (script a) i = count_uses (script a) i a.slots.items (many (state a) a.slots.items o) (slot_sources (state a) a.slots.items o) in
    let long : length (map arc_value deltas.items) ≡ length deltas.items = length-map deltas.items arc_value in
    let node_uses : node.uses ≡ uses_of (script a) i = come.stands.shape.uses ∙ ap (uses_of (script a)) come.number in
    let count = right.count in
    omega (arith, uses, long, node_uses, count)

pub passed_right : (a : Machine) (n i : ℕ) (deltas : Vec (Arc Changes Global) Global) (node : Node) (points : ℕ) (pages : Option Page) (mid : List Slot) → KeptMachine a → Comes a n i node → IsRight (script a) node (old_inputs (state a)) (new_inputs (state a)) (map arc_value deltas.items) points pages → length mid ≡ length a.slots.items → ((j : ℕ) (d : Slot) → j < length a.slots.items → HandedOn i deltas.items (get_or a.slots.items j d) (get_or mid j d)) → Passed (scene_of (state a)) i Back a.slots.items mid
passed_right a n i deltas node points pages mid k come right long handed =
    let c = script a in
    let xs = old_inputs (state a) in
    let ys = new_inputs (state a) in
    let o = opened_of a k.within k.sound (running_of a n i k.sound come.out) in
    let leads : (q : ℕ) (d : Arc Changes Global) → q < length deltas.items → Leads (arc_value (get_or deltas.items q d)) (operand_on c xs (ResultOf i)) (operand_on c ys (ResultOf i)) = λ q d l.
    let m : q < length (map arc_value deltas.items) = let w : length (map arc_value deltas.items) ≡ length deltas.items = length-map deltas.items arc_value in omega (arith, l, w) in
    subst (λ (x : ℕ). Leads (arc_value (get_or deltas.items q d)) (operand_on c xs (ResultOf x)) (operand_on c ys (ResultOf x))) come.number
    (subst (λ (x : Changes). Leads x (operand_on c xs (ResultOf node.statement)) (operand_on c ys (ResultOf node.statement))) (get_or-map arc_value deltas.items q d (arc_value d) l) (right.each q (arc_value d) m)) in
    record {
      many = long;
      homes = λ j d l. ((handed j d l).home, (handed j d l).stage);
      news = λ j d l kept. news_handed (scene_of (state a)) i j deltas.items (get_or a.slots.items j d) (get_or mid j d) (slot_sources (state a) a.slots.items o j d l) (handed j d l) leads kept;
    }

pub right_kept : (a : Machine) (n i : ℕ) (deltas : List Changes) (node : Node) (points : ℕ) (pages : Option Page) (new : Slot) → Comes a n i node → IsRight (script a) node (old_inputs (state a)) (new_inputs (state a)) deltas points pages → new.node ≡ Some node
    → BackKept (moved (scene_of (state a)) i Back) i new Back → StageKept (moved (scene_of (state a)) i Back) i new (stage.Right points pages)
right_kept a n i deltas node points pages new come right e back =
    let c = script a in
    let ys = new_inputs (state a) in (
      back,
      record {
        has = right.has;
        state = ap (states c ys) (sym come.number) ∙ right.state;
        points_are = right.points_are;
        pages_are = λ statement there. page_of_some (slice_get c.statements node.statement) statement (ap (slice_get c.statements) come.number ∙ there) right.pages_are;
        pending = subst (λ (q : Option Node). IsHome c ys i Apply q) (sym e) (come.number, right.pending);
      },
    )
  where
    page_of_some : (q : Option CheckedStatement) (statement : CheckedStatement) → q ≡ Some statement → IsSomeAnd q (λ st. pages ≡ published st right.has.set) → pages ≡ published statement right.has.set
    page_of_some None statement es h = absurd h
    page_of_some (Some st) statement es h = let same : st ≡ statement = cc es in h ∙ ap (λ z. published z right.has.set) same

pub still_right : (a : Machine) (j : Vec Entry Global) (slots : Vec Slot Global) (mid : List Slot) (slot : Slot) (i n : ℕ) (node : Node) (deltas : Vec (Arc Changes Global) Global) (points : ℕ) (pages : Option Page) → KeptMachine a → Comes a n i node → IsRight (script a) node (old_inputs (state a)) (new_inputs (state a)) (map arc_value deltas.items) points pages
    → length mid ≡ length a.slots.items → ((m : ℕ) (d : Slot) → m < length a.slots.items → HandedOn i deltas.items (get_or a.slots.items m d) (get_or mid m d)) → slot ≡ get_or mid i slot
    → slots.items ≡ set mid i (back_with a.counts.rounds node (stage.Right points pages) slot) → j.items ≡ a.journal.items ++ (record { by = n; what = Returned i }) ∷ [] → vec_capacity a.journal ≤ vec_capacity j
    → OpenStill (back_machine a j slots a.counts.spoiled) n
still_right a j slots mid slot i n node deltas points pages k come right long handed e es ej room =
    let new : Slot = back_with a.counts.rounds node (stage.Right points pages) slot in
    still_returned a j slots mid i n node (stage.Right points pages) new k come (passed_right a n i deltas node points pages mid k come right long handed) (is_put a n i node (stage.Right points pages) mid slot k come long (λ m d l. (handed m d l).home.sources) e) (λ q. cc q) (right_kept a n i (map arc_value deltas.items) node points pages new come right refl) es ej room

-- ---- wrong

pub still_wrong : (a : Machine) (j : Vec Entry Global) (slots : Vec Slot Global) (slot : Slot) (i n : ℕ) (node : Node) (kept told : NodeFault) → KeptMachine a → Comes a n i node → (wrong_of told ≡ wrong_of kept) × (states (script a) (new_inputs (state a)) node.statement ≡ Fails (wrong_of kept)) → slot ≡ get_or a.slots.items i slot
    → slots.items ≡ set a.slots.items i (back_with a.counts.rounds node (stage.Wrong kept told) slot) → j.items ≡ a.journal.items ++ (record { by = n; what = Returned i }) ∷ [] → vec_capacity a.journal ≤ vec_capacity j
    → OpenStill (back_machine a j slots a.counts.spoiled) n
still_wrong a j slots slot i n node kept told k come h e es ej room =
    let c = script a in
    let st : Stage = stage.Wrong kept told in
    let new : Slot = back_with a.counts.rounds node st slot in
    let fails : states c (new_inputs (state a)) i ≡ Fails (wrong_of kept) = ap (states c (new_inputs (state a))) (sym come.number) ∙ h.1 in
    let passed : Passed (scene_of (state a)) i Back a.slots.items a.slots.items = record {
      many = refl;
      homes = λ m d l. (same_home (get_or a.slots.items m d), refl);
      news = λ m d l news. news_wrong (scene_of (state a)) i (wrong_of kept) (get_or a.slots.items m d).news.items (get_or a.slots.items m d).sources fails news;
    } in
    still_returned a j slots a.slots.items i n node st new k come passed (is_put a n i node st a.slots.items slot k come refl (λ m d l. refl) e) (λ q. cc q) (λ back. (back, h.0, fails)) es ej room

-- ---- given up

pub still_spoiled : (a : Machine) (j : Vec Entry Global) (slots : Vec Slot Global) (slot : Slot) (i n : ℕ) (node : Node) → KeptMachine a → Comes a n i node → slot ≡ get_or a.slots.items i slot
    → slots.items ≡ set a.slots.items i (back_with a.counts.rounds node stage.Spoiled slot) → j.items ≡ a.journal.items ++ (record { by = n; what = GaveUp i }) ∷ [] → vec_capacity a.journal ≤ vec_capacity j
    → OpenStill (back_machine a j slots true) n
still_spoiled a j slots slot i n node k come e es ej room =
    still_gave_up a j slots i n node (back_with a.counts.rounds node stage.Spoiled slot) k come (is_put a n i node stage.Spoiled a.slots.items slot k come refl (λ m d l. refl) e) es ej room

-- What the slots say of the statements of an open round.
use Rattle.std.proofs.Common.{◌≡◌, ℕ, ◌<◌, true, false, List, length, get_or, Option, Some, None, sym, ap, refl, arith, subst}
use Rattle.std.specs.Option.{is_some, IsSomeAnd}
use Rattle.std.specs.List.{All, slice_get}
use Rattle.std.proofs.lemmas.List.Elements.{All-weaker}
use Rattle.std.proofs.lemmas.Option.{slice_get_within}
use Rattle.data_set_trees.specs.declared.tree.Source.{Source}
use Rattle.data_set_trees.specs.declared.tree.Source.TheVariants.{Input, Result as ResultOf}
use Rattle.data_set_trees.specs.checked.Scripts.{Script, IsChecked, sources_of, structure_of_source}
use Rattle.operator_meaning.specs.Scripts.{states, set_in}
use Rattle.round_journal.specs.Journals.{State, Waiting, Out, Back, new_inputs, IsThere, Ready, NoneReady, Over, IsOfProduction}
use Rattle.round_journal.proofs.ScriptLemmas.{sources_of-all, names_of-typed}
use Rattle.round_core.specs.declared.slot.Slot.{Slot}
use Rattle.round_core.specs.declared.slot.Stage.{Stage}
use Rattle.round_core.specs.declared.slot.Stage.TheVariants as stage
use Rattle.round_core.specs.Slots.{IsRight, ThereIn, ReadyIn, AllStill}
use Rattle.round_core.specs.Kept.{Scene, scene_of, StageKept, SlotsKept}
use Rattle.round_core.proofs.Lists.{some_of}

-- a name within the script
abbrev pub IsTypedName : Script → Source → Type 0
IsTypedName c n = is_some (structure_of_source c n) ≡ true

pub sources_typed : (c : Script) (i : ℕ) → IsChecked c → All (IsTypedName c) (sources_of c i)
sources_typed c i checked = sources_of-all c (IsTypedName c) i (names_of-typed c i checked)

is_there : {A B : Type 0} (f : A → B) (o : Option A) → is_some (Rattle.std.specs.Option.option_map f o) ≡ true → (x : A) × (o ≡ Some x)
is_there f None e = cc e
is_there f (Some x) e = (x, refl)

-- a statement that is named is one of the script's
pub result_below : (c : Script) (j : ℕ) → IsTypedName c (ResultOf j) → j < length c.statements
result_below c j e = let h = is_there (λ statement. statement.structure) (slice_get c.statements j) e in slice_get_within c.statements j h.0 h.1

pub input_below : (c : Script) (n : ℕ) → IsTypedName c (Input n) → n < length c.inputs
input_below c n e = let h = is_there (λ named. named.1) (slice_get c.inputs n) e in slice_get_within c.inputs n h.0 h.1

-- ---- one slot

right_back : (v : Scene) (j : ℕ) (slot : Slot) (st : Stage) → StageKept v j slot st → IsRight st → (v.status j ≡ Back) × (is_some (set_in (states v.script v.news j)) ≡ true)
right_back v j slot stage.Waiting k h = absurd h
right_back v j slot stage.Out k h = absurd h
right_back v j slot (stage.Right points pages) k h = (k.0.place, ap (λ st. is_some (set_in st)) k.1.state)
right_back v j slot (stage.Wrong kept told) k h = absurd h
right_back v j slot stage.Spoiled k h = absurd h

back_right : (v : Scene) (j : ℕ) (slot : Slot) (st : Stage) → StageKept v j slot st → v.status j ≡ Back → is_some (set_in (states v.script v.news j)) ≡ true → IsRight st
back_right v j slot stage.Waiting k b h = let e = k.place in cc (e, b)
back_right v j slot stage.Out k b h = let e = k.1 in cc (e, b)
back_right v j slot (stage.Right points pages) k b h = tt
back_right v j slot (stage.Wrong kept told) k b h = let e : is_some (set_in (states v.script v.news j)) ≡ false = ap (λ st. is_some (set_in st)) k.2 in cc (e, h)
back_right v j slot stage.Spoiled k b h = let e = k.place in cc (e, b)

waiting_status : (v : Scene) (j : ℕ) (slot : Slot) (st : Stage) → StageKept v j slot st → st ≡ stage.Waiting → v.status j ≡ Waiting
waiting_status v j slot stage.Waiting k e = k.place
waiting_status v j slot stage.Out k e = cc e
waiting_status v j slot (stage.Right points pages) k e = cc e
waiting_status v j slot (stage.Wrong kept told) k e = cc e
waiting_status v j slot stage.Spoiled k e = cc e

status_waiting : (v : Scene) (j : ℕ) (slot : Slot) (st : Stage) → StageKept v j slot st → v.status j ≡ Waiting → st ≡ stage.Waiting
status_waiting v j slot stage.Waiting k w = refl
status_waiting v j slot stage.Out k w = let e = k.1 in cc (e, w)
status_waiting v j slot (stage.Right points pages) k w = let e = k.0.place in cc (e, w)
status_waiting v j slot (stage.Wrong kept told) k w = let e = k.0.place in cc (e, w)
status_waiting v j slot stage.Spoiled k w = let e = k.place in cc (e, w)

out_status : (v : Scene) (j : ℕ) (slot : Slot) (st : Stage) → StageKept v j slot st → st ≡ stage.Out → (n : ℕ) × (v.status j ≡ Out n)
out_status v j slot stage.Waiting k e = cc e
out_status v j slot stage.Out k e = k
out_status v j slot (stage.Right points pages) k e = cc e
out_status v j slot (stage.Wrong kept told) k e = cc e
out_status v j slot stage.Spoiled k e = cc e

pub status_out : (v : Scene) (j n : ℕ) (slot : Slot) (st : Stage) → StageKept v j slot st → v.status j ≡ Out n → st ≡ stage.Out
status_out v j n slot stage.Waiting k w = let e = k.place in cc (e, w)
status_out v j n slot stage.Out k w = refl
status_out v j n slot (stage.Right points pages) k w = let e = k.0.place in cc (e, w)
status_out v j n slot (stage.Wrong kept told) k w = let e = k.0.place in cc (e, w)
status_out v j n slot stage.Spoiled k w = let e = k.place in cc (e, w)

-- ---- all slots of an open round

pub record Opened (s : State) (slots : List Slot) : Type 0 where
  pub agrees : IsOfProduction s s.round.script
  pub running : s.running ≡ true
  pub kept : SlotsKept (scene_of s) true slots

module _ (s : State) (slots : List Slot) (o : Opened s slots) where
  abbrev c : Script
  c = s.round.script

  abbrev v : Scene
  v = scene_of s

  pub many : length slots ≡ length c.statements
  many = o.kept.many

  pub slot_kept : (i : ℕ) (d : Slot) → i < length slots → StageKept v i (get_or slots i d) (get_or slots i d).stage
  slot_kept i d l = (o.kept.each i d l).place

  pub slot_sources : (i : ℕ) (d : Slot) → i < length slots → (get_or slots i d).sources ≡ sources_of c i
  slot_sources i d l = (o.kept.each i d l).sources

  there_of : (n : Source) → ThereIn slots n → IsThere c s.status (new_inputs s) n
  there_of (Input n) h = tt
  there_of (ResultOf j) h = let d = some_of slots j h.0 in right_back v j (get_or slots j d) (get_or slots j d).stage (slot_kept j d h.0) (h.1 d)

  there_in : (n : Source) → IsTypedName c n → IsThere c s.status (new_inputs s) n → ThereIn slots n
  there_in (Input n) typed h = tt
  there_in (ResultOf j) typed h =
      let l : j < length slots = omega (arith, many, result_below c j typed) in
      (l, λ d. back_right v j (get_or slots j d) (get_or slots j d).stage (slot_kept j d l) h.0 h.1)

  -- what the slots say is ready is ready
  pub ready_of : (i : ℕ) → ReadyIn slots i → Ready s i
  ready_of i h =
      let d = some_of slots i h.below in record {
        below = omega (arith, h.below, many);
        waits = waiting_status v i (get_or slots i d) (get_or slots i d).stage (slot_kept i d h.below) (h.waits d);
        operands = All-weaker (ThereIn slots) (IsThere c s.status (new_inputs s)) there_of (sources_of c i) (subst (λ (ns : List Source). All (ThereIn slots) ns) (slot_sources i d h.below) (h.operands d));
      }

  pub ready_in : (i : ℕ) → Ready s i → ReadyIn slots i
  ready_in i h =
      let l : i < length slots = omega (arith, h.below, many) in
      let typed = sources_typed c i o.agrees.checked in record {
        below = l;
        waits = λ d. status_waiting v i (get_or slots i d) (get_or slots i d).stage (slot_kept i d l) h.waits;
        operands = λ d. subst (λ (ns : List Source). All (ThereIn slots) ns) (sym (slot_sources i d l)) (λ k e m. there_in (get_or (sources_of c i) k e) (typed k e m) (h.operands k e m));
      }

  pub none_ready_of : ((i : ℕ) → ¬ (ReadyIn slots i)) → NoneReady s
  none_ready_of h i ready = h i (ready_in i ready)

  -- no statement is out or ready where the round is over
  pub over_of : AllStill slots → Over s
  over_of still = record {
    open_still = o.running;
    none_ready = none_ready_of still.none_ready;
    none_out = λ i n l e.
        let m : i < length slots = omega (arith, l, many) in
        let d = some_of slots i m in
        still.none_out i d m (status_out v i n (get_or slots i d) (get_or slots i d).stage (slot_kept i d m) e);
  }

  pub still_of : Over s → AllStill slots
  still_of over = record {
    none_out = λ i d l e. let h = out_status v i (get_or slots i d) (get_or slots i d).stage (slot_kept i d l) e in over.none_out i h.0 (omega (arith, l, many)) h.1;
    none_ready = λ i h. over.none_ready i (ready_of i h);
  }

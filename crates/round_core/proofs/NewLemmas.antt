-- New productions.
use Rattle.std.proofs.Common.{◌≡◌, ℕ, zero, suc, ◌<◌, ◌≤◌, false, List, [], ◌∷◌, length, get_or, map, Vec, vec_capacity, sym, ◌∙◌, ap, refl, arith, subst}
use Rattle.std.specs.FinMap.{empty}
use Rattle.std.specs.Arc.{arc_value}
use Rattle.std.specs.declared.sync.Arc.{Arc}
use Rattle.std.specs.declared.alloc.Global.{Global}
use Rattle.std.proofs.lemmas.List.{length-map}
use Rattle.std.proofs.lemmas.Option.{slice_get_within}
use Rattle.point_sets.specs.DataSets.{DataSet}
use Rattle.data_set_trees.specs.checked.Scripts.{Script, IsChecked}
use Rattle.operator_meaning.specs.Results.{without_points}
use Rattle.operator_meaning.proofs.EmptyLemmas.{states-empty}
use Rattle.release_text.specs.Releases.{Page}
use Rattle.release_text.specs.declared.release.Release.{Release}
use Rattle.revision_judge.specs.Judging.{input}
use Rattle.round_journal.specs.Nodes.{published}
use Rattle.round_journal.specs.declared.entry.Entry.{Entry}
use Rattle.round_journal.specs.Journals.{State, start, state_of, Legal, Over}
use Rattle.round_journal.proofs.ReleaseLemmas.{operand_on-has, pages_on-each}
use Rattle.round_core.specs.declared.inputs.Inputs.{Inputs}
use Rattle.round_core.specs.declared.limits.Limits.{Limits}
use Rattle.round_core.specs.declared.limits.TheConstants.{ENTRY_LIMIT, FIELD_LIMIT, SCRIPT_LIMIT, EARLIER_LIMIT}
use Rattle.round_core.specs.declared.machine.Machine.{Machine}
use Rattle.round_core.specs.declared.slot.Slot.{Slot}
use Rattle.round_core.specs.Inputs.{ChangeKept, InputsKept, AreEmpty}
use Rattle.round_core.specs.Kept.{first_counts, scene_of, IsHome, CountsKept, SlotsKept, Sound, KeptMachine, state_at}
use Rattle.round_core.specs.Slots.{EachSlot, pages_by, settle_by}
use Rattle.round_core.specs.Steps.{IsFirstSlot}

all_empty : {A : Type 0} (xs : List DataSet) (ys : List A) → length xs ≡ length ys → ((i : ℕ) (d : DataSet) → i < length xs → get_or xs i d ≡ empty) → xs ≡ map (λ _. empty) ys
all_empty [] [] l h = refl
all_empty [] (y ∷ ys) l h = absurd (omega (arith, l))
all_empty (x ∷ xs) [] l h = absurd (omega (arith, l))
all_empty (x ∷ xs) (y ∷ ys) l h = ap (λ (z : DataSet). z ∷ xs) (h 0 x (omega arith)) ∙ ap (λ (zs : List DataSet). empty ∷ zs) (all_empty xs ys (omega (arith, l)) (λ i d m. h (suc i) d (omega (arith, m))))

pub input_empty : {A : Type 0} (ys : List A) (n : ℕ) → input (map (λ _. empty) ys) n ≡ empty
input_empty [] n = refl
input_empty (y ∷ ys) zero = refl
input_empty (y ∷ ys) (suc n) = input_empty ys n

abbrev pub none_of : Script → List DataSet
none_of c = map (λ _. empty) c.inputs

inputs_new : (c : Script) (i : Inputs) → AreEmpty (length c.inputs) i → InputsKept (none_of c) (none_of c) (none_of c) i
inputs_new c i h =
    let long = length-map c.inputs (λ (_ : List ℕ × List Rattle.vtl_values.specs.declared.structure.Component.Component). let e : DataSet = empty in e) in record {
      sets = all_empty i.sets.items c.inputs h.sets (λ n d l. h.empty_sets n d (let q = h.sets in omega (arith, l, q)));
      many = h.changes ∙ sym long;
      each = λ n d l.
          let e = sym (input_empty c.inputs n) in
          subst (λ (x : DataSet). ChangeKept x x x (get_or i.changes.items n d)) e (h.none_changed n d (omega (arith, l, long)));
    }

slots_new : (c : Script) (slots : List Slot) → length slots ≡ length c.statements → EachSlot (IsFirstSlot c) slots → SlotsKept (scene_of (start c)) false slots
slots_new c slots many each = record {
  many = many;
  each = λ i d l.
      let h = each i d l in
      let slot = get_or slots i d in record {
        sources = h.sources;
        place = record {
          earlier = let q = h.stamp in omega (arith, q);
          home = subst (λ m. IsHome c (none_of c) i (settle_by m 0) slot.node) (sym h.stamp) h.home;
        };
      };
}

pages_new : (c : Script) → IsChecked c → pages_by (λ statement. published statement empty) c.statements ≡ Rattle.round_journal.specs.Releases.pages_on c (none_of c)
pages_new c checked = pages_on-each (λ statement. published statement empty) (pages_by (λ statement. published statement empty)) refl (λ y ys. refl) c (none_of c) c.statements refl (λ i d statement there.
    let l = slice_get_within c.statements i statement there in
    let same : get_or c.statements i d ≡ statement = Rattle.std.proofs.lemmas.Option.get_or_from_slice_get c.statements i statement d there in
    ap (λ st. published st empty) same ∙ ap (published statement) (sym (operand_on-has c (none_of c) i without_points (states-empty c checked i l))))

pub kept_new : (c : Script) (limits : Limits) (first newest script : Arc Script Global) (j : Vec Entry Global) (i : Inputs) (slots : Vec Slot Global) (room : Vec Page Global) (pages : List Page) (earlier : Vec Release Global) → IsChecked c → limits.entries ≤ ENTRY_LIMIT → limits.fields ≤ FIELD_LIMIT → 1 ≤ limits.scripts → limits.scripts ≤ SCRIPT_LIMIT
    → arc_value first ≡ c → arc_value newest ≡ c → arc_value script ≡ c → j.items ≡ [] → AreEmpty (length c.inputs) i
    → length slots.items ≡ length c.statements → EachSlot (IsFirstSlot c) slots.items → room.items ≡ [] → pages ≡ pages_by (λ statement. published statement empty) c.statements → earlier.items ≡ [] → EARLIER_LIMIT ≤ vec_capacity earlier
    → KeptMachine (record { first = first; newest = newest; script = script; limits = limits; journal = j; counts = first_counts; inputs = i; slots = slots; passed = 0; room = room; latest = record { number = 0; prefix = 0; script = 0; pages = pages }; earlier = earlier })
kept_new c limits first newest script j i slots room pages earlier checked le lf some ls ea en es ej ei many each er ep ee fit =
    let r : Release = record { number = 0; prefix = 0; script = 0; pages = pages } in
    let a : Machine = record { first = first; newest = newest; script = script; limits = limits; journal = j; counts = first_counts; inputs = i; slots = slots; passed = 0; room = room; latest = r; earlier = earlier } in
    let s : State = start c in
    let st : s ≡ state_at a = ap start (sym ea) ∙ ap (state_of (arc_value first)) (sym ej) in
    let none : length j.items ≡ 0 = ap length ej in
    let none_earlier : length earlier.items ≡ 0 = ap length ee in
    let counts : CountsKept first_counts s = record { accepted = refl; fields = refl; newest = refl; published = refl; rounds = refl; script = refl; base = refl; running = refl; dropped = refl; spoiled = refl; to = refl; aside = refl } in
    let sound : Sound a s = record {
      scripts = record { first = ea; newest = en; round = es };
      counts = counts;
      inputs = inputs_new c i ei;
      slots = slots_new c slots.items many each;
      passed = λ q. cc q;
      release = record { number_is = refl; prefix_is = refl; script_is = refl; pages_are = ep ∙ pages_new c checked };
      earlier = record { many = none_earlier; each = λ q d x l. absurd (omega (arith, l, none_earlier)) };
      earlier_fit = fit;
      pages = er;
      pages_fit = λ q. cc q;
    } in
    record {
      within = record {
        checked = subst (λ (q : Script). IsChecked q) (sym ea) checked;
        legal = subst (λ (js : List Entry). Legal (arc_value first) js) (sym ej) tt;
        entries = le;
        fields = lf;
        scripts = ls;
        fits = omega (arith, none);
        fields_fit = omega arith;
        scripts_fit = omega (arith, some);
        room = omega (arith, none);
      };
      sound = subst (λ (u : State). Sound a u) st sound;
      live = subst (λ (u : State). ¬ (Over u)) st (λ o. let q = o.open_still in cc q);
    }

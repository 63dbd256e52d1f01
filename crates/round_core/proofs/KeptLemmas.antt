-- What a production keeps, whatever the call.
use Rattle.std.proofs.Common.{◌≡◌, ℕ, ◌+◌, ◌-◌, ◌<◌, ◌≤◌, Bool, true, false, cond, List, [], ◌∷◌, ◌++◌, length, get_or, Option, Some, None, Vec, vec_capacity, nat_lt, ◌==◌, sym, ◌∙◌, ap, refl, arith, subst, length-append}
use Rattle.std.specs.Prelude.{min}
use Rattle.std.specs.Arc.{arc_value}
use Rattle.std.specs.declared.sync.Arc.{Arc}
use Rattle.std.proofs.Math.Nat.{min-eq_left}
use Rattle.std.specs.declared.alloc.Global.{Global}
use Rattle.point_sets.specs.declared.revision.Revision.{Revision}
use Rattle.data_set_trees.specs.checked.Scripts.{Script, IsChecked}
use Rattle.release_text.specs.declared.release.Release.{Release}
use Rattle.round_journal.specs.declared.entry.Entry.{Entry}
use Rattle.round_journal.specs.declared.entry.What.{What}
use Rattle.round_journal.specs.Journals.{State, Named, after_what, state_of, number, base, inputs, old_inputs, new_inputs, fields_of, aside, Legal, MayCome, Over}
use Rattle.round_journal.specs.Counts.{PrefixesInOrder, ScriptsAgree, IsNoRelease}
use Rattle.round_journal.proofs.JournalLemmas.{state_of-more, Legal-more}
use Rattle.round_journal.proofs.InputLemmas.{PrefixesInOrder-legal, inputs-after_what}
use Rattle.round_journal.proofs.ProductionLemmas.{ScriptsAgree-legal}
use Rattle.round_journal.proofs.ReleaseLemmas.{IsReleaseOf-stays, latest-stays}
use Rattle.round_journal.specs.Releases.{IsReleaseOf}
use Rattle.round_core.specs.declared.limits.Full.{Full}
use Rattle.round_core.specs.declared.limits.Limits.{Limits}
use Rattle.round_core.specs.declared.limits.TheConstants.{ENTRY_LIMIT, FIELD_LIMIT, SCRIPT_LIMIT, EARLIER_LIMIT}
use Rattle.round_core.specs.declared.machine.Machine.{Machine}
use Rattle.round_core.specs.Answers.{told, fields_wanting, or_else, full_for}
use Rattle.round_core.specs.Kept.{EarlierKept, Within, Sound, KeptMachine, seen_of, state_at}
use Rattle.round_core.specs.Seen.{Seen, state_in, seen_with}

-- ---- numbers

pub told-small : (n : ℕ) → n ≤ 18446744073709551615 → told n ≡ n
told-small n l = min-eq_left l

pub under : (n m : ℕ) → nat_lt n m ≡ false → m ≤ n
under n m e = grind (arith, e)

-- ---- what fits

pub none_of : (b : Bool) (f : Full) (o : Option Full) → or_else (cond b (Some f) None) o ≡ None → (b ≡ false) × (o ≡ None)
none_of true f o e = cc e
none_of false f o e = (refl, e)

pub record FitsIn (p : Seen) (r : Revision) : Type 0 where
  pub entries : length p.journal + aside (state_in p) + 1 ≤ p.limits.entries
  pub fields : (state_in p).fields + fields_of r ≤ p.limits.fields

pub wanting_none : (b : Bool) (f : Full) → (cond b (Some f) None) ≡ None → b ≡ false
wanting_none true f e = cc e
wanting_none false f e = refl

pub fits_in : (p : Seen) (r : Revision) → full_for p r ≡ None → FitsIn p r
fits_in p r e =
    let h = none_of (nat_lt p.limits.entries (length p.journal + aside (state_in p) + 1)) _ (fields_wanting p r) e in record {
      entries = under p.limits.entries (length p.journal + aside (state_in p) + 1) h.0;
      fields = under p.limits.fields ((state_in p).fields + fields_of r) (wanting_none (nat_lt p.limits.fields ((state_in p).fields + fields_of r)) _ h.1);
    }

-- ---- one entry more

pub state_along : (a : Machine) (j : List Entry) (n : ℕ) (w : What) → j ≡ a.journal.items ++ (record { by = n; what = w }) ∷ [] → after_what (state_at a) n w ≡ state_of (arc_value a.first) j
state_along a j n w e = sym (ap (state_of (arc_value a.first)) e ∙ state_of-more (arc_value a.first) a.journal.items (record { by = n; what = w }))

pub long_along : (a : Machine) (j : List Entry) (n : ℕ) (w : What) → j ≡ a.journal.items ++ (record { by = n; what = w }) ∷ [] → length j ≡ length a.journal.items + 1
long_along a j n w e = ap length e ∙ length-append a.journal.items ((record { by = n; what = w }) ∷ [])

pub legal_along : (a : Machine) (j : List Entry) (n : ℕ) (w : What) → j ≡ a.journal.items ++ (record { by = n; what = w }) ∷ [] → Legal (arc_value a.first) a.journal.items → MayCome (state_at a) n w → Legal (arc_value a.first) j
legal_along a j n w e legal may = subst (λ (js : List Entry). Legal (arc_value a.first) js) (sym e) (Legal-more (arc_value a.first) a.journal.items (record { by = n; what = w }) legal may)

pub seen_along : (a : Machine) (j : List Entry) (n : ℕ) (w : What) → j ≡ a.journal.items ++ (record { by = n; what = w }) ∷ [] → (let p : Seen = record { script = arc_value a.first; limits = a.limits; journal = j } in p) ≡ seen_with (seen_of a) n w
seen_along a j n w e = ap (λ (js : List Entry). let p : Seen = record { script = arc_value a.first; limits = a.limits; journal = js } in p) e

-- a production with the same first script and limits, and one entry more
pub record GoesTo (a : Machine) (n : ℕ) (w : What) (b : Machine) : Type 0 where
  pub first : b.first ≡ a.first
  pub limits : b.limits ≡ a.limits
  pub items : b.journal.items ≡ a.journal.items ++ (record { by = n; what = w }) ∷ []
  pub may : MayCome (state_at a) n w

pub within_next : (a b : Machine) (n : ℕ) (w : What) → Within a → GoesTo a n w b → length a.journal.items + 1 + b.counts.aside ≤ a.limits.entries → b.counts.fields ≤ a.limits.fields → b.counts.newest < a.limits.scripts → length a.journal.items + 1 + b.counts.aside ≤ vec_capacity b.journal → Within b
within_next a b n w m g fits fields_fit scripts_fit room =
    let long = long_along a b.journal.items n w g.items in
    let entries : b.limits.entries ≡ a.limits.entries = ap (λ (l : Limits). l.entries) g.limits in
    let fields : b.limits.fields ≡ a.limits.fields = ap (λ (l : Limits). l.fields) g.limits in
    let scripts : b.limits.scripts ≡ a.limits.scripts = ap (λ (l : Limits). l.scripts) g.limits in record {
      checked = subst (λ (q : Arc Script Global). IsChecked (arc_value q)) (sym g.first) m.checked;
      legal = subst (λ (q : Arc Script Global). Legal (arc_value q) b.journal.items) (sym g.first) (legal_along a b.journal.items n w g.items m.legal g.may);
      entries = subst (λ q. q ≤ ENTRY_LIMIT) (sym entries) m.entries;
      fields = subst (λ q. q ≤ FIELD_LIMIT) (sym fields) m.fields;
      scripts = subst (λ q. q ≤ SCRIPT_LIMIT) (sym scripts) m.scripts;
      fits = omega (arith, long, fits, entries);
      fields_fit = omega (arith, fields_fit, fields);
      scripts_fit = omega (arith, scripts_fit, scripts);
      room = omega (arith, long, room);
    }

-- an entry of a statement, or the end of a round, takes one of those that are set aside
pub within_less : (a b : Machine) (n : ℕ) (w : What) → Within a → GoesTo a n w b → b.counts.aside + 1 ≤ a.counts.aside → b.counts.fields ≡ a.counts.fields → b.counts.newest ≡ a.counts.newest → vec_capacity a.journal ≤ vec_capacity b.journal → Within b
within_less a b n w m g less ef en room = within_next a b n w m g (omega (arith, less, m.fits)) (omega (arith, ef, m.fields_fit)) (omega (arith, en, m.scripts_fit)) (omega (arith, less, m.room, room))

-- ---- what legal journals say

pub in_order : (a : Machine) → Within a → PrefixesInOrder (state_at a)
in_order a w = PrefixesInOrder-legal (arc_value a.first) a.journal.items w.legal

pub agree : (a : Machine) → Within a → ScriptsAgree (state_at a)
agree a w = ScriptsAgree-legal (arc_value a.first) a.journal.items w.checked w.legal

-- ---- the earlier releases

pub earlier_stays : (s : State) (n : ℕ) (w : What) (xs : List Release) → PrefixesInOrder s → IsNoRelease w → EarlierKept s xs → EarlierKept (after_what s n w) xs
earlier_stays s n w xs p none k =
    let t : State = after_what s n w in
    let e : t.earlier ≡ s.earlier = (latest-stays s n w none).1 in record {
      many = k.many ∙ ap (λ (es : List Named). min (length es) EARLIER_LIMIT) (sym e);
      each = λ i d x l.
          let m = k.many in
          let lim : EARLIER_LIMIT ≡ 63 = refl in
          let few : number s - length xs + i < length s.earlier = omega (arith, l, m, lim) in
          subst (λ (es : List Named). IsReleaseOf t (length es - length xs + i) (get_or es (length es - length xs + i) x) (get_or xs i d)) (sym e)
          (IsReleaseOf-stays s n (number s - length xs + i) w (get_or s.earlier (number s - length xs + i) x) (get_or xs i d) (p.earlier_below (number s - length xs + i) x few) (k.each i d x l));
    }

-- ---- reserving room

pub within_room : (a : Machine) (j : Vec Entry Global) → j.items ≡ a.journal.items → vec_capacity a.journal ≤ vec_capacity j → Within a → Within (record a { journal = j })
within_room a j e room w =
    let long : length j.items ≡ length a.journal.items = ap length e in record {
      checked = w.checked;
      legal = subst (λ (js : List Entry). Legal (arc_value a.first) js) (sym e) w.legal;
      entries = w.entries;
      fields = w.fields;
      scripts = w.scripts;
      fits = omega (arith, long, w.fits);
      fields_fit = w.fields_fit;
      scripts_fit = w.scripts_fit;
      room = omega (arith, long, w.room, room);
    }

pub kept_room : (a : Machine) (j : Vec Entry Global) → j.items ≡ a.journal.items → vec_capacity a.journal ≤ vec_capacity j → KeptMachine a → KeptMachine (record a { journal = j })
kept_room a j e room k =
    let b : Machine = record a { journal = j } in
    let o = k.sound in
    let sound : Sound b (state_at a) = record {
      scripts = record { first = o.scripts.first; newest = o.scripts.newest; round = o.scripts.round };
      counts = o.counts;
      inputs = o.inputs;
      slots = o.slots;
      passed = o.passed;
      release = o.release;
      earlier = o.earlier;
      earlier_fit = o.earlier_fit;
      pages = o.pages;
      pages_fit = o.pages_fit;
    } in
    record {
      within = within_room a j e room k.within;
      sound = subst (λ (js : List Entry). Sound b (state_of (arc_value a.first) js)) (sym e) sound;
      live = subst (λ (js : List Entry). ¬ (Over (state_of (arc_value a.first) js))) (sym e) k.live;
    }

-- ---- the prefix from which a round goes on

cond_below : (b : Bool) (x n : ℕ) → x ≤ n → cond b x 0 ≤ n
cond_below true x n l = l
cond_below false x n l = omega arith

pub base_below : (s : State) → PrefixesInOrder s → base s ≤ length s.accepted
base_below s p = cond_below (s.round.number == s.latest.script.number) s.latest.prefix (length s.accepted) (omega (arith, p.latest_below, p.to_below))

-- what is judged and which script comes next leave the inputs of the round
pub olds_stay : (s : State) (n : ℕ) (w : What) → PrefixesInOrder s → base (after_what s n w) ≡ base s → old_inputs (after_what s n w) ≡ old_inputs s
olds_stay s n w p e = ap (λ m. inputs m (after_what s n w)) e ∙ inputs-after_what s (base s) n w (base_below s p)

pub news_stay : (s : State) (n : ℕ) (w : What) → PrefixesInOrder s → (after_what s n w).to ≡ s.to → new_inputs (after_what s n w) ≡ new_inputs s
news_stay s n w p e = ap (λ m. inputs m (after_what s n w)) e ∙ inputs-after_what s s.to n w p.to_below

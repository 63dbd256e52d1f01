-- Replacing the script.
use Rattle.std.proofs.Common.{◌≡◌, ℕ, ◌+◌, ◌≤◌, [], ◌∷◌, ◌++◌, length, None, Vec, vec_capacity, nat_lt, sym, ◌∙◌, ap, refl, arith, subst}
use Rattle.std.specs.Arc.{arc_value}
use Rattle.std.specs.declared.sync.Arc.{Arc}
use Rattle.std.specs.declared.alloc.Global.{Global}
use Rattle.data_set_trees.specs.checked.Scripts.{Script, IsChecked}
use Rattle.round_journal.specs.declared.entry.Entry.{Entry}
use Rattle.round_journal.specs.declared.entry.What.{What}
use Rattle.round_journal.specs.declared.entry.What.TheVariants.{Rescripted}
use Rattle.round_journal.specs.Journals.{State, after_what, aside, Over, IsOfProduction}
use Rattle.round_journal.proofs.ReadyLemmas.{Over-rescripted}
use Rattle.round_journal.proofs.ReleaseLemmas.{IsRelease-stays}
use Rattle.round_core.specs.declared.machine.Machine.{Machine}
use Rattle.round_core.specs.Answers.{entries_wanting, cannot_rescript, Replaces}
use Rattle.round_core.specs.Kept.{CountsKept, Sound, KeptMachine, seen_of, state_at}
use Rattle.round_core.specs.Seen.{Seen, state_in}
use Rattle.round_core.proofs.KeptLemmas.{none_of, wanting_none, under, state_along, seen_along, GoesTo, within_next, in_order, earlier_stays}

pub record CanRescript (p : Seen) : Type 0 where
  pub scripts : (state_in p).newest.number + 2 ≤ p.limits.scripts
  pub entries : length p.journal + aside (state_in p) + 1 ≤ p.limits.entries

pub can_rescript : (p : Seen) → cannot_rescript p ≡ None → CanRescript p
can_rescript p e =
    let h = none_of (nat_lt p.limits.scripts ((state_in p).newest.number + 2)) _ (entries_wanting p (aside (state_in p)) 1) e in record {
      scripts = under p.limits.scripts ((state_in p).newest.number + 2) h.0;
      entries = under p.limits.entries (length p.journal + aside (state_in p) + 1) (wanting_none (nat_lt p.limits.entries (length p.journal + aside (state_in p) + 1)) _ h.1);
    }

abbrev pub rescripted_machine : Machine → Vec Entry Global → Arc Script Global → Machine
rescripted_machine a j newest = record a { journal = j; newest = newest; counts = record a.counts { newest = a.counts.newest + 1 } }

pub record Rescripts (a : Machine) (n : ℕ) (c : Script) (b : Machine) : Type 0 where
  pub kept : KeptMachine b
  pub replaces : Replaces (seen_of a) n c (a.counts.newest + 1) (seen_of b)

pub kept_rescripted : (a : Machine) (j : Vec Entry Global) (newest noted : Arc Script Global) (n : ℕ) (c : Script) → KeptMachine a → IsChecked c → c.inputs ≡ (arc_value a.first).inputs → cannot_rescript (seen_of a) ≡ None → arc_value newest ≡ c → arc_value noted ≡ c
    → j.items ≡ a.journal.items ++ (record { by = n; what = Rescripted noted }) ∷ [] → length a.journal.items + a.counts.aside + 1 ≤ vec_capacity j → Rescripts a n c (rescripted_machine a j newest)
kept_rescripted a j newest noted n c k checked same fits en ed ej room =
    let s : State = state_at a in
    let w : What = Rescripted noted in
    let t : State = after_what s n w in
    let b : Machine = rescripted_machine a j newest in
    let o = k.sound in
    let old = o.counts in
    let p = in_order a k.within in
    let can = can_rescript (seen_of a) fits in
    let st : t ≡ state_at b = state_along a j.items n w ej in
    let may : IsOfProduction s (arc_value noted) = subst (λ (q : Script). IsOfProduction s q) (sym ed) (record { checked = checked; same_inputs = same ∙ ap (λ (q : Script). q.inputs) o.scripts.first }) in
    let counts : CountsKept b.counts t = record {
      accepted = old.accepted;
      fields = old.fields;
      newest = ap (λ m. m + 1) old.newest;
      published = old.published;
      rounds = old.rounds;
      script = old.script;
      base = old.base;
      running = old.running;
      dropped = old.dropped;
      spoiled = old.spoiled;
      to = old.to;
      aside = old.aside;
    } in
    let sound : Sound b t = record {
      scripts = record { first = o.scripts.first; newest = en ∙ sym ed; round = o.scripts.round };
      counts = counts;
      inputs = o.inputs;
      slots = o.slots;
      passed = o.passed;
      release = IsRelease-stays s n w a.latest p tt o.release;
      earlier = earlier_stays s n w a.earlier.items p tt o.earlier;
      earlier_fit = o.earlier_fit;
      pages = o.pages;
      pages_fit = o.pages_fit;
    } in
    let goes : GoesTo a n w b = record { first = refl; limits = refl; items = ej; may = (k.live, may) } in
    record {
      kept = record {
        within = within_next a b n w k.within goes (let q = can.entries in omega (arith, q, old.aside)) k.within.fields_fit (let q = can.scripts in omega (arith, q, old.newest)) (omega (arith, room));
        sound = subst (λ (u : State). Sound b u) st sound;
        live = subst (λ (u : State). ¬ (Over u)) st (λ over. k.live ((Over-rescripted s n noted).0 over));
      };
      replaces = record { number_is = ap (λ m. m + 1) old.newest; script = noted; script_is = ed; entry = seen_along a j.items n w ej };
    }

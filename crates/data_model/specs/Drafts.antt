-- Drafts: what a delta rule notes, key by key, and how it ends.
use Rattle.std.specs.Prelude.{◌≡◌, ℕ, List, Option, Some, None, Bool, false, cond, refl}
use Rattle.std.specs.Option.{option_eq}
use Rattle.std.specs.declared.cmp.Ordering.{Ordering}
use Rattle.std.specs.Coded.{Coded, code_by, coded×, coded_option}
use Rattle.std.specs.FinMap.{empty, insert, get}
use Rattle.data_model.specs.Maps.{is_listed}
use Rattle.data_model.specs.Deltas.{DeltaOf, LeadsAt, count_after, coded_delta}
use Rattle.data_model.specs.Outcomes.{Answer, settled, lesser, IsLeastListed}

-- the changes that were noted, and the least key that was noted as out of range
pub record Draft {K : Type 0} (R : K → K → Ordering) (X : Type 0) : Type 0 where
  pub changes : DeltaOf R X
  pub beyond : Option K

module _ {K X : Type 0} {R : K → K → Ordering} where
  -- nothing is noted yet
  abbrev pub nothing : Draft R X
  nothing = record { changes = empty; beyond = None }

  -- it is noted that at a result's key x is followed by y; repeats do no harm
  abbrev pub note_value : (X → X → Bool) → K → Option X → Option X → Draft R X → Draft R X
  note_value same k x y n = cond (option_eq same x y) n (record { changes = insert n.changes k (x, y); beyond = n.beyond })

  -- it is noted that an evaluation is out of range
  abbrev pub note_beyond : K → Draft R X → Draft R X
  note_beyond k n = record { changes = n.changes; beyond = Some (lesser R k n.beyond) }

  -- both, where the evaluation and the result have one key
  abbrev pub note_key : (X → X → Bool) → K → Bool → Option X → Option X → Draft R X → Draft R X
  note_key same k out x y n = cond out (note_beyond k n) (note_value same k x y n)

  -- how a rule ends, where the result had so many points before
  abbrev pub finished : ℕ → Draft R X → Answer K (DeltaOf R X)
  finished before n = settled n.beyond (count_after before n.changes) n.changes

  -- the draft has the least of the evaluations at these keys that is out of range; and if none is, what changes from old to new at these keys of the result
  pub record IsDraft (beyond : K → Bool) (evaluated : List K) (old new : K → Option X) (noted : List K) (n : Draft R X) : Type 0 where
    pub least : IsLeastListed R beyond evaluated n.beyond
    pub changes : n.beyond ≡ None → (k : K) → LeadsAt (get n.changes k) (old k) (cond (is_listed R noted k) (new k) (old k))

  abbrev pub coded_draft : Coded K → Coded X → Coded (Draft R X)
  coded_draft k x = code_by (DeltaOf R X × Option K) (coded× (coded_delta k x) (coded_option k)) (λ n. (n.changes, n.beyond)) (λ p. record { changes = p.0; beyond = p.1 }) (λ _. refl)

-- at the keys that weren't noted an evaluation is out of range only where it was before, and if none is anywhere, the values stay
pub record IsSameElsewhere {K X : Type 0} (R : K → K → Ordering) (old_beyond beyond : K → Bool) (evaluated : List K) (old new : K → Option X) (noted : List K) : Type 0 where
  pub evaluations : (k : K) → is_listed R evaluated k ≡ false → beyond k ≡ old_beyond k
  pub values : ((j : K) → beyond j ≡ false) → (k : K) → is_listed R noted k ≡ false → new k ≡ old k

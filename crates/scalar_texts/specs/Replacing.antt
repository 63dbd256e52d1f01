-- Texts with another text in place of each occurrence of a part: VTL 2.0 Reference Manual, `replace`.
use Rattle.std.specs.Prelude.{ℕ, zero, suc, ◌-◌, ◌<◌, List, [], ◌∷◌, ◌++◌, length, nat_eq, if◌then◌else◌}
use Rattle.std.specs.List.{starts_with}
use Rattle.scalar_texts.specs.Places.{StandsAt}

module _ (old new : List ℕ) where
  -- each occurrence from the left becomes `new`; the first `passed` characters belong to an occurrence that has
  abbrev pub replaced_from : ℕ → List ℕ → List ℕ
  replaced_from passed [] = []
  replaced_from (suc passed) (c ∷ cs) = replaced_from passed cs
  replaced_from zero (c ∷ cs) =
      if starts_with nat_eq (c ∷ cs) old then new ++ replaced_from (length old - 1) cs else c ∷ replaced_from 0 cs

  -- The law: a text without `old` stays. Else what comes before the first `old` stays, `new` comes in its place, and what
  -- comes after it goes on so.
  pub data Replaces : List ℕ → List ℕ → Type 0 where
    stays : (cs : List ℕ) → ((place : ℕ) → ¬ (StandsAt cs old place)) → Replaces cs cs
    replaces : (before after rest : List ℕ) →
        ((place : ℕ) → StandsAt (before ++ (old ++ after)) old place → length before < place) →
        Replaces after rest → Replaces (before ++ (old ++ after)) (before ++ (new ++ rest))

-- the whole of the operator: nothing changes where `old` is empty
abbrev pub replaced : List ℕ → List ℕ → List ℕ → List ℕ
replaced cs [] new = cs
replaced cs (c ∷ old) new = replaced_from (c ∷ old) new 0 cs

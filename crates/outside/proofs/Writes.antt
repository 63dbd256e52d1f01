-- How a run of writes goes on.
use Rattle.std.proofs.Common.{◌≡◌, ◌++◌, ◌+◌, ◌∙◌, ℕ, length, List, [], Option, Some, None, Result, Ok, Err, IsOk, refl, sym, ap, arith, ◌≤◌}
use Rattle.std.proofs.lemmas.List.{append_assoc, append-nil, length-append}
use Rattle.std.specs.Io.KnownBytes.{append_known}
use Rattle.outside.specs.declared.sink.SinkStop.{SinkStop}
use Rattle.outside.specs.Counts.{Rose}
use Rattle.outside.specs.Sinks.{SinkView, Took, Wrote, Extends}

append_known-append : (known : Option (List ℕ)) (x y : List ℕ) → append_known (append_known known x) y ≡ append_known known (x ++ y)
append_known-append None x y = refl
append_known-append (Some bytes) x y = ap Some (append_assoc bytes x y)

-- all of x, and then y up to some place
took_then : {W : Type 0} {a b c : Option (List ℕ)} {x y : List ℕ} → Took a b x (Unit {0}) → Took b c y W → Took a c (x ++ y) W
took_then {W} {a} {b} {c} {x} {y} first second = record {
  piece = x ++ second.piece;
  rest = second.rest;
  parts = ap (λ (t : List ℕ). x ++ t) second.parts ∙ sym (append_assoc x second.piece second.rest);
  whole = second.whole;
  added = let all : x ≡ first.piece = grind (arith, first.parts, first.whole tt, append-nil {A = ℕ}) in
      second.added ∙ ap (λ (k : Option (List ℕ)). append_known k second.piece) first.added
      ∙ append_known-append a first.piece second.piece ∙ ap (λ (t : List ℕ). append_known a (t ++ second.piece)) (sym all);
}

-- x up to some place is x ++ y up to some place
took_cut : {W : Type 0} {a b : Option (List ℕ)} {x : List ℕ} (y : List ℕ) → Took a b x W → Took a b (x ++ y) ⊥
took_cut {W} {a} {b} {x} y first = record {
  piece = first.piece;
  rest = first.rest ++ y;
  parts = ap (λ (t : List ℕ). t ++ y) first.parts ∙ append_assoc first.piece first.rest y;
  whole = λ no. absurd no;
  added = first.added;
}

-- less is said of what was whole
pub took_as : {V W : Type 0} {a b : Option (List ℕ)} {x : List ℕ} → (W → V) → Took a b x V → Took a b x W
took_as weaker took = record { piece = took.piece; rest = took.rest; parts = took.parts; whole = λ w. took.whole (weaker w); added = took.added }

-- all of a text was taken
pub took_all : {W : Type 0} {old new : Option (List ℕ)} {text : List ℕ} → new ≡ append_known old text → Took old new text W
took_all {W} {old} {new} {text} added = record { piece = text; rest = []; parts = sym (append-nil text); whole = λ w. refl; added = added }

append_known-nil : (known : Option (List ℕ)) → known ≡ append_known known []
append_known-nil None = refl
append_known-nil (Some bytes) = ap Some (sym (append-nil bytes))

-- nothing of a text was taken
pub took_none : (known : Option (List ℕ)) (text : List ℕ) → Took known known text ⊥
took_none known text = record { piece = []; rest = text; parts = refl; whole = λ no. absurd no; added = append_known-nil known }

pub wrote_then : {a b c : SinkView} {x y : List ℕ} {r : Result (Unit {0}) SinkStop} {u : Unit {0}} → Wrote a b (Ok u) x → Wrote b c r y → Wrote a c r (x ++ y)
wrote_then {a} {b} {c} {x} {y} {r} {u} first second = record {
  later = omega (arith, first.later, second.later);
  failed = λ failed. let rose : Rose b.faults c.faults = second.failed failed in omega (arith, first.later, rose);
  memory = λ memory. let left : a.room ≤ b.room + length x = first.room refl in omega (arith, length-append x y, second.memory memory, left);
  room = λ ok. let left : a.room ≤ b.room + length x = first.room refl in omega (arith, length-append x y, second.room ok, left);
  took = took_then (took_as {V = IsOk {T = Unit {0}} {E = SinkStop} (Ok u)} (λ w. refl) first.took) second.took;
}

pub wrote_cut : {a b : SinkView} {x : List ℕ} {e : SinkStop} (y : List ℕ) → Wrote a b (Err e) x → Wrote a b (Err e) (x ++ y)
wrote_cut {x = x} y first = record {
  later = first.later;
  failed = first.failed;
  memory = λ memory. omega (arith, length-append x y, first.memory memory);
  room = λ no. grind arith;
  took = took_as {V = ⊥} (λ no. grind arith) (took_cut y first.took);
}

-- nothing is written yet
pub wrote_none : (a : SinkView) → Wrote a a (Ok tt) []
wrote_none a = record { later = omega arith; failed = λ no. grind arith; memory = λ no. grind arith; room = λ ok. omega arith; took = took_all (append_known-nil a.taken) }

-- a run of two parts is a run of both
pub extends_then : {a b c : SinkView} {r s t : Result (Unit {0}) SinkStop} (x y : List ℕ) → Extends a b r s x → Extends b c s t y → Extends a c r t (x ++ y)
extends_then {a} {b} {c} {r} {s} {t} x y first second = λ start before so_far. rw (← append_assoc before x y) (second start (before ++ x) (first start before so_far))

-- a run that begins here
pub from_start : {a b : SinkView} {r : Result (Unit {0}) SinkStop} {x : List ℕ} → Extends a b (Ok tt) r x → Wrote a b r x
from_start {a} {b} {r} {x} run = run a [] (wrote_none a)

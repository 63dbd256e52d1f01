-- What is told of calls is as good as what they are.
use Rattle.std.proofs.Common.{◌≡◌, inl, inr, ℕ, suc, ◌+◌, ◌≤◌, ◌<◌, Bool, true, false, cond, if◌then◌else◌, List, [], ◌∷◌, ◌++◌, Option, Some, None, map, refl, sym, ap, ◌∙◌, arith}
use Rattle.std.proofs.Math.Path.{ap₂}
use Rattle.std.proofs.lemmas.Bool.{lt-ltb}
use Rattle.std.proofs.lemmas.Bool.Decides.{leb_tells}
use Rattle.std.proofs.lemmas.List.{map-append}
use Rattle.std.specs.Prelude.{find, min, nat_lt}
use Rattle.std.specs.Option.{option_map}
use Rattle.vtl_values.specs.declared.place.Place.{Place}
use Rattle.vtl_syntax.specs.declared.operator.DefinedOperator.{DefinedOperator}
use Rattle.operator_faults.specs.declared.outline.Outline.{Outline}
use Rattle.operator_faults.specs.Calls.{is_before}
use Rattle.written_sizes.specs.declared.measure.Measure.TheVariants as measure
use Rattle.written_sizes.specs.declared.outermost.Outermost.{Outermost}
use Rattle.written_sizes.specs.Sizes.{expressions, levels}
use Rattle.written_sizes.specs.Replaced.{replaced}
use Rattle.written_sizes.specs.Arithmetic.{capped, most_expressions}
use Rattle.written_sizes.specs.Outermost.{told, told_levels, told_expressions}
use Rattle.written_sizes.specs.SizeFaults.{is_too_deep, earlier, deep_call, place_of, before, after, merged, passing, deep_number, full_number}
use Rattle.written_sizes.proofs.Numbers.{capped-plus}

-- ---- whether a number is above a limit

over : (k n : ℕ) → nat_lt k n ≡ nat_lt k (min n (suc k))
over k n = elim (leb_tells (suc k) n) [
  | inl t ↦ let above : suc k ≤ n = t.1 in let e : min n (suc k) ≡ suc k = omega arith in t.0 ∙ sym (ap (nat_lt k) e ∙ lt-ltb k (suc k) (omega arith))
  | inr t ↦ let below : n < suc k = t.1 in let e : n ≡ min n (suc k) = omega arith in ap (nat_lt k) e
]

over_sum : (k a l : ℕ) → nat_lt k (a + min l (suc k)) ≡ nat_lt k (a + l)
over_sum k a l = elim (leb_tells l (suc k)) [
  | inl t ↦ let below : l ≤ suc k = t.1 in let e : a + min l (suc k) ≡ a + l = omega arith in ap (nat_lt k) e
  | inr t ↦ let above : suc k < l = t.1 in lt-ltb k (a + min l (suc k)) (omega arith) ∙ sym (lt-ltb k (a + l) (omega arith))
]

-- ---- too many levels

deep-told : (c : Outermost) → is_too_deep (told c) ≡ is_too_deep c
deep-told c = over_sum 64 c.above c.levels

found-if : (b : Bool) (c : Outermost) (r : Option Outermost) → cond b (Some (told c)) (option_map told r) ≡ option_map told (cond b (Some c) r)
found-if true c r = refl
found-if false c r = refl

find-told : (cs : List Outermost) → find is_too_deep (map told cs) ≡ option_map told (find is_too_deep cs)
find-told [] = refl
find-told (c ∷ cs) = ap₂ (λ (b : Bool) (r : Option Outermost). cond b (Some (told c)) r) (deep-told c) (find-told cs) ∙ found-if (is_too_deep c) c (find is_too_deep cs)

earlier-if : (b : Bool) (c d : Outermost) → Some (if b then told d else told c) ≡ Some (told (if b then d else c))
earlier-if true c d = refl
earlier-if false c d = refl

earlier-told : (a b : Option Outermost) → earlier (option_map told a) (option_map told b) ≡ option_map told (earlier a b)
earlier-told None b = refl
earlier-told (Some c) None = refl
earlier-told (Some c) (Some d) = earlier-if (is_before d.place c.place) c d

place-told : (r : Option Outermost) → place_of (option_map told r) ≡ place_of r
place-told None = refl
place-told (Some c) = refl

pub deep-place : (xs ys as' bs : List Outermost) (a b r : Option Outermost) → as' ≡ map told xs → bs ≡ map told ys → a ≡ find is_too_deep as' → b ≡ find is_too_deep bs → r ≡ earlier a b → place_of r ≡ place_of (deep_call xs ys)
deep-place xs ys as' bs a b r first second in_first in_second is =
    ap place_of (is ∙ ap₂ earlier (in_first ∙ ap (find is_too_deep) first ∙ find-told xs) (in_second ∙ ap (find is_too_deep) second ∙ find-told ys) ∙ earlier-told (find is_too_deep xs) (find is_too_deep ys))
    ∙ place-told (deep_call xs ys)

-- ---- too many expressions

before-if : (b : Bool) (d : Outermost) (ds : List Outermost) → (if b then told d ∷ map told ds else []) ≡ map told (if b then d ∷ ds else [])
before-if true d ds = refl
before-if false d ds = refl

before-told : (p : Place) (ds : List Outermost) → before p (map told ds) ≡ map told (before p ds)
before-told p [] = refl
before-told p (d ∷ ds) = ap (λ (es : List Outermost). if is_before d.place p then told d ∷ es else []) (before-told p ds) ∙ before-if (is_before d.place p) d (before p ds)

after-if : (b : Bool) (d : Outermost) (ds es : List Outermost) → (if b then map told es else told d ∷ map told ds) ≡ map told (if b then es else d ∷ ds)
after-if true d ds es = refl
after-if false d ds es = refl

after-told : (p : Place) (ds : List Outermost) → after p (map told ds) ≡ map told (after p ds)
after-told p [] = refl
after-told p (d ∷ ds) = ap (λ (es : List Outermost). if is_before d.place p then es else told d ∷ map told ds) (after-told p ds) ∙ after-if (is_before d.place p) d ds (after p ds)

merged-told : (cs ds : List Outermost) → merged (map told cs) (map told ds) ≡ map told (merged cs ds)
merged-told [] ds = refl
merged-told (c ∷ cs) ds =
    ap₂ (λ (xs ys : List Outermost). xs ++ told c ∷ ys) (before-told c.place ds) (ap (merged (map told cs)) (after-told c.place ds) ∙ merged-told cs (after c.place ds))
    ∙ sym (map-append told (before c.place ds) (c ∷ merged cs (after c.place ds)))

abbrev cap : ℕ → ℕ
cap n = capped measure.Expressions n

over-cap : (n k : ℕ) → cap n ≡ cap k → nat_lt most_expressions n ≡ nat_lt most_expressions k
over-cap n k same = over 1000000 n ∙ ap (nat_lt most_expressions) same ∙ sym (over 1000000 k)

cap-twice : (l n : ℕ) → min (min n l) l ≡ min n l
cap-twice l n = omega arith

more : (n k e : ℕ) → cap n ≡ cap k → cap (n + cap e) ≡ cap (k + e)
more n k e same =
    capped-plus measure.Expressions n (cap e)
    ∙ ap₂ (λ (x y : ℕ). cap (x + y)) same (cap-twice 1000001 e)
    ∙ sym (capped-plus measure.Expressions k e)

same-if : {A : Type 0} (a b : Bool) (p : A) (x y : Option A) → a ≡ b → x ≡ y → (if a then Some p else x) ≡ (if b then Some p else y)
same-if {A} a b p x y e f = ap₂ (λ (c : Bool) (z : Option A). if c then Some p else z) e f

passing-told : (cs : List Outermost) (n k : ℕ) → cap n ≡ cap k → passing n (map told cs) ≡ passing k cs
passing-told [] n k same = refl
passing-told (c ∷ cs) n k same =
    let e = more n k c.expressions same in
    same-if (nat_lt most_expressions (n + cap c.expressions)) (nat_lt most_expressions (k + c.expressions)) c.place (passing (n + cap c.expressions) (map told cs)) (passing (k + c.expressions) cs)
    (over-cap (n + cap c.expressions) (k + c.expressions) e) (passing-told cs (n + cap c.expressions) (k + c.expressions) e)

pub passing_place : (xs ys : List Outermost) (a b : ℕ) → passing (cap (cap a + cap b)) (merged (map told xs) (map told ys)) ≡ passing (a + b) (merged xs ys)
passing_place xs ys a b =
    ap (passing (cap (cap a + cap b))) (merged-told xs ys)
    ∙ passing-told (merged xs ys) (cap (cap a + cap b)) (a + b) (cap-twice 1000001 (cap a + cap b) ∙ sym (capped-plus measure.Expressions a b))

-- ---- statements and rules

pub deep-numbers : (os : List DefinedOperator) (ps : List Outline) (i : ℕ) → deep_number i (map (told_levels os) ps) ≡ deep_number i (map (λ (o : Outline). levels (replaced os o)) ps)
deep-numbers os [] i = refl
deep-numbers os (o ∷ ps) i =
    let l = levels (replaced os o) in
    same-if (nat_lt 64 (min l 65)) (nat_lt 64 l) i (deep_number (i + 1) (map (told_levels os) ps)) (deep_number (i + 1) (map (λ (p : Outline). levels (replaced os p)) ps)) (sym (over 64 l)) (deep-numbers os ps (i + 1))

full-numbers : (os : List DefinedOperator) (ps : List Outline) (n k i : ℕ) → cap n ≡ cap k → full_number n i (map (told_expressions os) ps) ≡ full_number k i (map (λ (o : Outline). expressions (replaced os o)) ps)
full-numbers os [] n k i same = refl
full-numbers os (o ∷ ps) n k i same =
    let x = expressions (replaced os o) in
    let e = more n k x same in
    same-if (nat_lt most_expressions (n + cap x)) (nat_lt most_expressions (k + x)) i (full_number (n + cap x) (i + 1) (map (told_expressions os) ps)) (full_number (k + x) (i + 1) (map (λ (p : Outline). expressions (replaced os p)) ps))
    (over-cap (n + cap x) (k + x) e) (full-numbers os ps (n + cap x) (k + x) (i + 1) e)

pub all-full : (os : List DefinedOperator) (ps : List Outline) → full_number 0 0 (map (told_expressions os) ps) ≡ full_number 0 0 (map (λ (o : Outline). expressions (replaced os o)) ps)
all-full os ps = full-numbers os ps 0 0 0 refl

pub in-turn : (f : Outline → ℕ) (ps qs : List Outline) (a b c : List ℕ) → a ≡ [] → b ≡ a ++ map f ps → c ≡ b ++ map f qs → c ≡ map f (ps ++ qs)
in-turn f ps qs a b c first second third = third ∙ ap (λ (ns : List ℕ). ns ++ map f qs) (second ∙ ap (λ (ns : List ℕ). ns ++ map f ps) first) ∙ sym (map-append f ps qs)

-- No fault of size is told exactly where the written-out script is within the limits.
use Rattle.std.proofs.Common.{◌≡◌, inl, inr, ℕ, suc, ◌+◌, ◌≤◌, ◌<◌, Bool, true, false, cond, if◌then◌else◌, List, [], ◌∷◌, ◌++◌, Option, Some, None, map, length, refl, sym, ap, ◌∙◌, subst, arith}
use Rattle.std.proofs.Math.Path.{ap₂}
use Rattle.std.proofs.lemmas.Bool.Decides.{leb_tells}
use Rattle.std.proofs.lemmas.List.{map-append}
use Rattle.std.proofs.lemmas.Grind.{flat_map-append}
use Rattle.std.proofs.lemmas.List.Elements.{All-cons, All-nil}
use Rattle.written_sizes.proofs.Sizing.{map-after}
use Rattle.std.specs.Prelude.{All, find, slice_get, unwrap_or, max, nat_lt, sum}
use Rattle.std.specs.List.{flat_map}
use Rattle.vtl_values.specs.declared.place.Place.{Place}
use Rattle.vtl_syntax.specs.declared.operator.DefinedOperator.{DefinedOperator}
use Rattle.vtl_syntax.specs.declared.script.Script.{Script}
use Rattle.operator_faults.specs.declared.fault.OperatorFault.{OperatorFault}
use Rattle.operator_faults.specs.declared.fault.OperatorFault.TheVariants as fault
use Rattle.operator_faults.specs.declared.fault.PlacedFault.{PlacedFault}
use Rattle.operator_faults.specs.declared.outline.What.{What}
use Rattle.operator_faults.specs.declared.outline.What.TheVariants as what
use Rattle.operator_faults.specs.declared.outline.Outline.{Outline, fold-roll-Outline}
use Rattle.operator_faults.specs.declared.sketch.Sketch.{Sketch}
use Rattle.operator_faults.specs.Calls.{is_before}
use Rattle.shortest_cycles.specs.Firsts.{or_else}
use Rattle.operator_faults.specs.Outlines.{outline}
use Rattle.operator_faults.specs.Sketches.{sketch_of}
use Rattle.replaced_calls.specs.Scripts.{written_out}
use Rattle.written_sizes.specs.declared.outermost.Outermost.{Outermost}
use Rattle.written_sizes.specs.Arithmetic.{most_expressions, most_levels}
use Rattle.written_sizes.specs.Sizes.{own_expressions, own_levels, inner, largest, expressions_step, levels_step, expressions, levels}
use Rattle.written_sizes.specs.Replaced.{same_name, opened, remade_by, replaced}
use Rattle.written_sizes.specs.Outermost.{Seen, raised, seen_within, seen_by, seen_step, seen, calls_in, outside_in}
use Rattle.written_sizes.specs.Places.{places_of}
use Rattle.written_sizes.specs.SizeFaults.{all_outlines, levels_in, expressions_in, script_start, place_at, is_too_deep, earlier, deep_call, place_of, deep_number, deep_place, before, after, merged, passing, full_number, many_place, told, in_sketch, size_fault}
use Rattle.written_sizes.specs.Laws.{outlines, IsWithinLimits, FaultsAreExact}
use Rattle.written_sizes.proofs.Folds.{level, by_parts, fold-outline}
use Rattle.written_sizes.proofs.SeenLemmas.{becomes-is}
use Rattle.written_sizes.proofs.SizeLemmas.{sum-cons, sum-append}
use Rattle.written_sizes.proofs.Writing.{outlines_replaced}

-- ---- all expressions of calls, and how deep they reach

abbrev total : List Outermost → ℕ
total [] = 0
total (c ∷ cs) = c.expressions + total cs

abbrev reach : List Outermost → ℕ
reach [] = 0
reach (c ∷ cs) = max (c.above + c.levels) (reach cs)

total-append : (cs ds : List Outermost) → total (cs ++ ds) ≡ total cs + total ds
total-append [] ds = let e : total ds ≡ 0 + total ds = omega arith in e
total-append (c ∷ cs) ds = ap (λ (n : ℕ). c.expressions + n) (total-append cs ds) ∙ (let e : c.expressions + (total cs + total ds) ≡ c.expressions + total cs + total ds = omega arith in e)

reach-append : (cs ds : List Outermost) → reach (cs ++ ds) ≡ max (reach cs) (reach ds)
reach-append [] ds = let e : reach ds ≡ max 0 (reach ds) = omega arith in e
reach-append (c ∷ cs) ds = ap (max (c.above + c.levels)) (reach-append cs ds) ∙ (let e : max (c.above + c.levels) (max (reach cs) (reach ds)) ≡ max (max (c.above + c.levels) (reach cs)) (reach ds) = omega arith in e)

-- ---- of what is seen

abbrev AllSeen : (Seen → Type 0) → List Seen → Type 0
AllSeen P [] = Unit {0}
AllSeen P (x ∷ xs) = P x × AllSeen P xs

-- what stands outside calls and what they become is all that is written
abbrev Counts : Seen → Type 0
Counts x = (above : ℕ) → x.outside + total (x.calls above) ≡ expressions x.becomes

-- no call reaches deeper than what is written
abbrev Reaches : Seen → Type 0
Reaches x = (above : ℕ) → reach (x.calls above) ≤ above + levels x.becomes

counted_parts : (k : ℕ) (xs : List Seen) → AllSeen Counts xs → sum (map (λ (x : Seen). x.outside) xs) + total (flat_map (λ (x : Seen). x.calls k) xs) ≡ sum (map expressions (map (λ (x : Seen). x.becomes) xs))
counted_parts k [] h = refl
counted_parts k (x ∷ xs) h =
    let outs = map (λ (y : Seen). y.outside) xs in
    let calls = flat_map (λ (y : Seen). y.calls k) xs in
    let ns = map expressions (map (λ (y : Seen). y.becomes) xs) in
    let here : x.outside + total (x.calls k) ≡ expressions x.becomes = h.0 k in
    let later : sum outs + total calls ≡ sum ns = counted_parts k xs h.1 in
    ap₂ (λ (a b : ℕ). a + b) (sum-cons x.outside outs) (total-append (x.calls k) calls)
    ∙ (let e : x.outside + sum outs + (total (x.calls k) + total calls) ≡ expressions x.becomes + sum ns = omega arith in e)
    ∙ sym (sum-cons (expressions x.becomes) ns)

reach_parts : (k : ℕ) (xs : List Seen) → AllSeen Reaches xs → reach (flat_map (λ (x : Seen). x.calls k) xs) ≤ k + largest (map levels (map (λ (x : Seen). x.becomes) xs))
reach_parts k [] h = omega arith
reach_parts k (x ∷ xs) h =
    let calls = flat_map (λ (y : Seen). y.calls k) xs in
    let ls = map levels (map (λ (y : Seen). y.becomes) xs) in
    let here : reach (x.calls k) ≤ k + levels x.becomes = h.0 k in
    let later : reach calls ≤ k + largest ls = reach_parts k xs h.1 in
    let both : max (reach (x.calls k)) (reach calls) ≤ k + max (levels x.becomes) (largest ls) = omega arith in
    subst (λ (n : ℕ). n ≤ k + max (levels x.becomes) (largest ls)) (sym (reach-append (x.calls k) calls)) both

module _ (os : List DefinedOperator) where
  abbrev becoming : List Seen → List Outline
  becoming xs = map (λ (x : Seen). x.becomes) xs

  counts_within : (w : What) (xs : List Seen) → ((ns : List ℕ) → inner w ns ≡ ns) → ((ps : List Outline) → remade_by same_name (opened os (length os)) w ps ≡ outline w ps) → AllSeen Counts xs → Counts (seen_within os w xs)
  counts_within w xs all stays h above =
      let outs = map (λ (x : Seen). x.outside) xs in
      let calls = flat_map (λ (x : Seen). x.calls (raised above w)) xs in
      let ns = map expressions (becoming xs) in
      let parts : sum outs + total calls ≡ sum ns = counted_parts (raised above w) xs h in
      (let e : own_expressions w + sum outs + total calls ≡ own_expressions w + sum ns = omega arith in e)
      ∙ sym (ap expressions (stays (becoming xs)) ∙ fold-outline ℕ expressions_step w (becoming xs) ∙ ap (λ (ks : List ℕ). own_expressions w + sum ks) (all ns))

  reaches_within : (w : What) (xs : List Seen) → ((ns : List ℕ) → inner w ns ≡ ns) → ((ps : List Outline) → remade_by same_name (opened os (length os)) w ps ≡ outline w ps) → AllSeen Reaches xs → Reaches (seen_within os w xs)
  reaches_within w xs all stays h above =
      let calls = flat_map (λ (x : Seen). x.calls (raised above w)) xs in
      let ls = map levels (becoming xs) in
      let parts : reach calls ≤ raised above w + largest ls = reach_parts (raised above w) xs h in
      let is : levels (remade_by same_name (opened os (length os)) w (becoming xs)) ≡ own_levels w + largest ls = ap levels (stays (becoming xs)) ∙ fold-outline ℕ levels_step w (becoming xs) ∙ ap (λ (ks : List ℕ). own_levels w + largest ks) (all ls) in
      let bound : reach calls ≤ above + (own_levels w + largest ls) = omega arith in
      subst (λ (n : ℕ). reach calls ≤ above + n) (sym is) bound

  counts_by : (w : What) (xs : List Seen) → AllSeen Counts xs → Counts (seen_by os w xs)
  counts_by (what.Name s) xs h above = sym (fold-outline ℕ expressions_step (what.Name s) [])
  counts_by (what.Call c) xs h above = let n = expressions (opened os (length os) c.name (becoming xs) c.place) in (let e : 0 + (n + 0) ≡ n = omega arith in e)
  counts_by what.Plain xs h above = counts_within what.Plain xs (λ ns. refl) (λ ps. refl) h above
  counts_by what.Level xs h above = counts_within what.Level xs (λ ns. refl) (λ ps. refl) h above
  counts_by what.Inside xs h above = counts_within what.Inside xs (λ ns. refl) (λ ps. refl) h above
  counts_by what.InsideJoin xs h above = counts_within what.InsideJoin xs (λ ns. refl) (λ ps. refl) h above

  reaches_by : (w : What) (xs : List Seen) → AllSeen Reaches xs → Reaches (seen_by os w xs)
  reaches_by (what.Name s) xs h above = omega arith
  reaches_by (what.Call c) xs h above = let n = levels (opened os (length os) c.name (becoming xs) c.place) in (let e : max (above + n) 0 ≤ above + n = omega arith in e)
  reaches_by what.Plain xs h above = reaches_within what.Plain xs (λ ns. refl) (λ ps. refl) h above
  reaches_by what.Level xs h above = reaches_within what.Level xs (λ ns. refl) (λ ps. refl) h above
  reaches_by what.Inside xs h above = reaches_within what.Inside xs (λ ns. refl) (λ ps. refl) h above
  reaches_by what.InsideJoin xs h above = reaches_within what.InsideJoin xs (λ ns. refl) (λ ps. refl) h above

  module _ (P : Seen → Type 0) (by_what : (w : What) (xs : List Seen) → AllSeen P xs → P (seen_by os w xs)) where
    abbrev Holds : Outline → Type 0
    Holds o = P (seen os o)

    gathered : (ys : List ((o : Outline) × Holds o)) → AllSeen P (map (seen os) (map (λ (y : (o : Outline) × Holds o). y.0) ys))
    gathered [] = tt
    gathered (y ∷ ys) = (y.1, gathered ys)

    holds : (o : Outline) → P (seen os o)
    holds o = by_parts Holds (λ w b ys.
        let ps = map (λ (y : (o : Outline) × Holds o). y.0) ys in
        subst P (sym (fold-roll-Outline Seen (seen_step os) (level w b ps))) (by_what w (map (seen os) ps) (gathered ys))) o

  counts : (o : Outline) → Counts (seen os o)
  counts o = holds Counts counts_by o

  reaches : (o : Outline) → Reaches (seen os o)
  reaches o = holds Reaches reaches_by o

  -- ---- of several outlines

  abbrev becomes_all : List Outline → List Outline
  becomes_all ps = map (replaced os) ps

  all_count : (ps : List Outline) → outside_in os ps + total (calls_in os 0 ps) ≡ sum (map expressions (becomes_all ps))
  all_count [] = refl
  all_count (o ∷ ps) =
      let x = seen os o in
      let outs = map (λ (p : Outline). (seen os p).outside) ps in
      let calls = calls_in os 0 ps in
      let ns = map expressions (becomes_all ps) in
      let here : x.outside + total (x.calls 0) ≡ expressions (replaced os o) = counts o 0 ∙ ap expressions (becomes-is os o) in
      let later : sum outs + total calls ≡ sum ns = all_count ps in
      ap₂ (λ (a b : ℕ). a + b) (sum-cons x.outside outs) (total-append (x.calls 0) calls)
      ∙ (let e : x.outside + sum outs + (total (x.calls 0) + total calls) ≡ expressions (replaced os o) + sum ns = omega arith in e)
      ∙ sym (sum-cons (expressions (replaced os o)) ns)

  all_reach : (ps : List Outline) → reach (calls_in os 0 ps) ≤ largest (map levels (becomes_all ps))
  all_reach [] = omega arith
  all_reach (o ∷ ps) =
      let x = seen os o in
      let calls = calls_in os 0 ps in
      let ls = map levels (becomes_all ps) in
      let here : reach (x.calls 0) ≤ 0 + levels (replaced os o) = subst (λ (p : Outline). reach (x.calls 0) ≤ 0 + levels p) (becomes-is os o) (reaches o 0) in
      let later : reach calls ≤ largest ls = all_reach ps in
      let both : max (reach (x.calls 0)) (reach calls) ≤ max (levels (replaced os o)) (largest ls) = omega arith in
      subst (λ (n : ℕ). n ≤ max (levels (replaced os o)) (largest ls)) (sym (reach-append (x.calls 0) calls)) both

-- ---- calls in the order of the text

split-if : (b : Bool) (d : Outermost) (ds es fs : List Outermost) → total es + total fs ≡ total ds → total (if b then d ∷ es else []) + total (if b then fs else d ∷ ds) ≡ d.expressions + total ds
split-if true d ds es fs h = let e : d.expressions + total es + total fs ≡ d.expressions + total ds = omega arith in e
split-if false d ds es fs h = let e : 0 + (d.expressions + total ds) ≡ d.expressions + total ds = omega arith in e

total-split : (p : Place) (ds : List Outermost) → total (before p ds) + total (after p ds) ≡ total ds
total-split p [] = refl
total-split p (d ∷ ds) = split-if (is_before d.place p) d ds (before p ds) (after p ds) (total-split p ds)

total-merged : (cs ds : List Outermost) → total (merged cs ds) ≡ total cs + total ds
total-merged [] ds = let e : total ds ≡ 0 + total ds = omega arith in e
total-merged (c ∷ cs) ds =
    let bs = before c.place ds in
    let es = after c.place ds in
    let split : total bs + total es ≡ total ds = total-split c.place ds in
    let rest : total (merged cs es) ≡ total cs + total es = total-merged cs es in
    total-append bs (c ∷ merged cs es)
    ∙ (let e : total bs + (c.expressions + total (merged cs es)) ≡ c.expressions + total cs + total ds = omega arith in e)

-- ---- no fault

some-none : {A T : Type 0} (x : A) → Some x ≡ None → T
some-none x h = absurd (cc h)

few : {A : Type 0} (k n : ℕ) (p : A) (x : Option A) → (if nat_lt k n then Some p else x) ≡ None → (n ≤ k) × (x ≡ None)
few k n p x h = elim (leb_tells (suc k) n) [
  | inl t ↦ some-none p (sym (ap (λ (b : Bool). if b then Some p else x) t.0) ∙ h)
  | inr t ↦ (let low : n < suc k = t.1 in omega arith, sym (ap (λ (b : Bool). if b then Some p else x) t.0) ∙ h)
]

not_above : (k n : ℕ) → n ≤ k → nat_lt k n ≡ false
not_above k n low = elim (leb_tells (suc k) n) [
  | inl t ↦ let high : suc k ≤ n = t.1 in absurd (omega arith)
  | inr t ↦ t.0
]

few_full : (ks : List ℕ) (n i : ℕ) → n ≤ most_expressions → full_number n i ks ≡ None → n + sum ks ≤ most_expressions
few_full [] n i low h = omega arith
few_full (k ∷ ks) n i low h =
    let r = few most_expressions (n + k) i (full_number (n + k) (i + 1) ks) h in
    let later : n + k + sum ks ≤ most_expressions = few_full ks (n + k) (i + 1) r.0 r.1 in
    let e : sum (k ∷ ks) ≡ k + sum ks = sum-cons k ks in
    subst (λ (m : ℕ). n + m ≤ most_expressions) (sym e) (omega arith)

full-none : (ks : List ℕ) (n i : ℕ) → n + sum ks ≤ most_expressions → full_number n i ks ≡ None
full-none [] n i h = refl
full-none (k ∷ ks) n i h =
    let e : sum (k ∷ ks) ≡ k + sum ks = sum-cons k ks in
    let all : n + (k + sum ks) ≤ most_expressions = subst (λ (m : ℕ). n + m ≤ most_expressions) e h in
    ap (λ (b : Bool). if b then Some i else full_number (n + k) (i + 1) ks) (not_above most_expressions (n + k) (omega arith))
    ∙ full-none ks (n + k) (i + 1) (omega arith)

passing-none : (cs : List Outermost) (n : ℕ) → n + total cs ≤ most_expressions → passing n cs ≡ None
passing-none [] n h = refl
passing-none (c ∷ cs) n h =
    let low : n + c.expressions ≤ most_expressions = omega arith in
    let later : n + c.expressions + total cs ≤ most_expressions = omega arith in
    ap (λ (b : Bool). if b then Some c.place else passing (n + c.expressions) cs) (not_above most_expressions (n + c.expressions) low)
    ∙ passing-none cs (n + c.expressions) later

shallow : (cs : List Outermost) → reach cs ≤ most_levels → find is_too_deep cs ≡ None
shallow [] h = refl
shallow (c ∷ cs) h =
    let here : c.above + c.levels ≤ most_levels = omega arith in
    let later : reach cs ≤ most_levels = omega arith in
    ap (λ (b : Bool). cond b (Some c) (find is_too_deep cs)) (not_above most_levels (c.above + c.levels) here) ∙ shallow cs later

or-none : {A : Type 0} (a b : Option A) → or_else a b ≡ None → (a ≡ None) × (b ≡ None)
or-none None b h = (refl, h)
or-none (Some x) b h = some-none x h

told-none : (f : OperatorFault) (p : Option Place) → told f p ≡ None → p ≡ None
told-none f None h = refl
told-none f (Some p) h = some-none (record { fault = f; place = p }) h

at-none : (places : List Place) (n : Option ℕ) → place_at places n ≡ None → n ≡ None
at-none places None h = refl
at-none places (Some i) h = some-none (unwrap_or (slice_get places i) script_start) h

module _ (os : List DefinedOperator) where
  abbrev FewLevels : List Outline → Type 0
  FewLevels ps = All (λ (o : Outline). levels o ≤ most_levels) (map (replaced os) ps)

  abbrev levels_of : List Outline → List ℕ
  levels_of ps = map (λ (o : Outline). levels (replaced os o)) ps

  none_deep : (ps : List Outline) (i : ℕ) → deep_number i (levels_of ps) ≡ None → FewLevels ps
  none_deep [] i h = All-nil (λ (p : Outline). levels p ≤ most_levels)
  none_deep (o ∷ ps) i h =
      let r = few most_levels (levels (replaced os o)) i (deep_number (i + 1) (levels_of ps)) h in
      All-cons (λ (p : Outline). levels p ≤ most_levels) (replaced os o) (map (replaced os) ps) r.0 (none_deep ps (i + 1) r.1)

  first_few : (o : Outline) (ps : List Outline) → FewLevels (o ∷ ps) → levels (replaced os o) ≤ most_levels
  first_few o ps h = h 0 (replaced os o) (omega arith)

  other_few : (o : Outline) (ps : List Outline) → FewLevels (o ∷ ps) → FewLevels ps
  other_few o ps h = λ k d in_range. h (suc k) d (omega arith)

  deep-none : (ps : List Outline) (i : ℕ) → FewLevels ps → deep_number i (levels_of ps) ≡ None
  deep-none [] i h = refl
  deep-none (o ∷ ps) i h =
      ap (λ (b : Bool). if b then Some i else deep_number (i + 1) (levels_of ps)) (not_above most_levels (levels (replaced os o)) (first_few o ps h))
      ∙ deep-none ps (i + 1) (other_few o ps h)

  largest_few : (ps : List Outline) → FewLevels ps → largest (map levels (map (replaced os) ps)) ≤ most_levels
  largest_few [] h = omega arith
  largest_few (o ∷ ps) h =
      let here : levels (replaced os o) ≤ most_levels = first_few o ps h in
      let later : largest (map levels (map (replaced os) ps)) ≤ most_levels = largest_few ps (other_few o ps h) in
      omega arith

  calls_shallow : (a b : List Outline) → FewLevels (a ++ b) → reach (calls_in os 0 a ++ calls_in os 0 b) ≤ most_levels
  calls_shallow a b h =
      let w : largest (map levels (map (replaced os) (a ++ b))) ≤ most_levels = largest_few (a ++ b) h in
      let r : reach (calls_in os 0 (a ++ b)) ≤ largest (map levels (map (replaced os) (a ++ b))) = all_reach os (a ++ b) in
      subst (λ (cs : List Outermost). reach cs ≤ most_levels) (flat_map-append (λ (o : Outline). (seen os o).calls 0) a b) (omega arith)

  all_expressions : (a b : List Outline) → sum (map expressions (map (replaced os) (a ++ b))) ≡ outside_in os a + outside_in os b + total (merged (calls_in os 0 a) (calls_in os 0 b))
  all_expressions a b =
      let first : outside_in os a + total (calls_in os 0 a) ≡ sum (map expressions (map (replaced os) a)) = all_count os a in
      let second : outside_in os b + total (calls_in os 0 b) ≡ sum (map expressions (map (replaced os) b)) = all_count os b in
      let calls : total (merged (calls_in os 0 a) (calls_in os 0 b)) ≡ total (calls_in os 0 a) + total (calls_in os 0 b) = total-merged (calls_in os 0 a) (calls_in os 0 b) in
      ap (λ (ps : List Outline). sum (map expressions ps)) (map-append (replaced os) a b)
      ∙ ap sum (map-append expressions (map (replaced os) a) (map (replaced os) b))
      ∙ sum-append (map expressions (map (replaced os) a)) (map expressions (map (replaced os) b))
      ∙ (let e : sum (map expressions (map (replaced os) a)) + sum (map expressions (map (replaced os) b)) ≡ outside_in os a + outside_in os b + total (merged (calls_in os 0 a) (calls_in os 0 b)) = omega arith in e)

  sum-in : (ps : List Outline) → sum (map (λ (o : Outline). expressions (replaced os o)) ps) ≡ sum (map expressions (map (replaced os) ps))
  sum-in ps = ap sum (sym (map-after expressions (replaced os) ps))

  none_in : (places : List Place) (s : Sketch) → in_sketch os places s ≡ None → FewLevels (all_outlines s) × (sum (map expressions (map (replaced os) (all_outlines s))) ≤ most_expressions)
  none_in places s h =
      let r = or-none (told fault.WrittenTooDeep (deep_place os places s)) (told fault.WrittenTooMany (many_place os places s)) h in
      let deep = or-none (place_of (deep_call (calls_in os 0 s.statements) (calls_in os 0 s.rulesets))) (place_at places (deep_number 0 (levels_in os s))) (told-none fault.WrittenTooDeep (deep_place os places s) r.0) in
      let calls = passing (outside_in os s.statements + outside_in os s.rulesets) (merged (calls_in os 0 s.statements) (calls_in os 0 s.rulesets)) in
      let many = or-none calls (place_at places (full_number 0 0 (expressions_in os s))) (told-none fault.WrittenTooMany (many_place os places s) r.1) in
      let low : 0 + sum (expressions_in os s) ≤ most_expressions = few_full (expressions_in os s) 0 0 (omega arith) (at-none places (full_number 0 0 (expressions_in os s)) many.1) in
      (none_deep (all_outlines s) 0 (at-none places (deep_number 0 (levels_in os s)) deep.1), subst (λ (k : ℕ). k ≤ most_expressions) (sum-in (all_outlines s)) (omega arith))

  in_none : (places : List Place) (s : Sketch) → FewLevels (all_outlines s) → sum (map expressions (map (replaced os) (all_outlines s))) ≤ most_expressions → in_sketch os places s ≡ None
  in_none places s few_levels few_expressions =
      let a = calls_in os 0 s.statements in
      let b = calls_in os 0 s.rulesets in
      let both : max (reach a) (reach b) ≤ most_levels = subst (λ (k : ℕ). k ≤ most_levels) (reach-append a b) (calls_shallow s.statements s.rulesets few_levels) in
      let no_call : deep_call a b ≡ None = ap₂ earlier (shallow a (omega arith)) (shallow b (omega arith)) in
      let low : outside_in os s.statements + outside_in os s.rulesets + total (merged a b) ≤ most_expressions = subst (λ (k : ℕ). k ≤ most_expressions) (all_expressions s.statements s.rulesets) few_expressions in
      let all : sum (expressions_in os s) ≤ most_expressions = subst (λ (k : ℕ). k ≤ most_expressions) (sym (sum-in (all_outlines s))) few_expressions in
      ap₂ (λ (p q : Option PlacedFault). or_else p q)
      (ap (told fault.WrittenTooDeep) (ap₂ (λ (c : Option Outermost) (n : Option ℕ). or_else (place_of c) (place_at places n)) no_call (deep-none (all_outlines s) 0 few_levels)))
      (ap (told fault.WrittenTooMany) (ap₂ (λ (p : Option Place) (n : Option ℕ). or_else p (place_at places n)) (passing-none (merged a b) (outside_in os s.statements + outside_in os s.rulesets) low) (full-none (expressions_in os s) 0 0 (omega arith))))

written_outlines : (s : Script) → outlines (written_out s) ≡ map (replaced s.operators) ((sketch_of s).statements ++ (sketch_of s).rulesets)
written_outlines s =
    let r = outlines_replaced s in
    ap₂ (λ (a b : List Outline). a ++ b) r.0 r.1 ∙ sym (map-append (replaced s.operators) (sketch_of s).statements (sketch_of s).rulesets)

pub faults_exact : FaultsAreExact
faults_exact s =
    let os = s.operators in
    let e = written_outlines s in (
      (λ (h : size_fault s ≡ None).
          let r = none_in os (places_of s) (sketch_of s) h in
          record {
            few_levels = subst (All (λ (o : Outline). levels o ≤ most_levels)) (sym e) r.0;
            few_expressions = subst (λ (ps : List Outline). sum (map expressions ps) ≤ most_expressions) (sym e) r.1;
          }),
      (λ (w : IsWithinLimits (written_out s)).
          in_none os (places_of s) (sketch_of s)
          (subst (All (λ (o : Outline). levels o ≤ most_levels)) e w.few_levels)
          (subst (λ (ps : List Outline). sum (map expressions ps) ≤ most_expressions) e w.few_expressions)),
    )

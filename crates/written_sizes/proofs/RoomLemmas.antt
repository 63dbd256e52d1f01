-- The room that is left after expressions in which no operator is called.
use Rattle.std.proofs.Common.{◌≡◌, ◌⊎◌, inl, inr, ℕ, suc, ◌+◌, ◌-◌, ◌≤◌, ◌<◌, Bool, true, false, if◌then◌else◌, List, [], ◌∷◌, ◌++◌, Option, Some, None, map, refl, sym, ap, ◌∙◌, arith}
use Rattle.std.proofs.Math.Path.{ap₂}
use Rattle.std.proofs.lemmas.Bool.Decides.{leb_tells}
use Rattle.std.proofs.lemmas.Grind.{fold-append}
use Rattle.std.proofs.lemmas.List.Elements.{All-cons, All-nil}
use Rattle.std.proofs.lemmas.List.Folds.{flat_map-map}
use Rattle.std.specs.Prelude.{All, sum, max}
use Rattle.std.specs.List.{flat_map}
use Rattle.std.specs.Option.{is_some, option_to_list}
use Rattle.vtl_syntax.specs.declared.expr.Expr.{Expr}
use Rattle.vtl_syntax.specs.declared.ruleset.Ruleset.{Ruleset}
use Rattle.vtl_syntax.specs.declared.script.Script.{Script}
use Rattle.vtl_syntax.specs.declared.script.Statement.{Statement}
use Rattle.operator_faults.specs.declared.outline.CallSite.{CallSite}
use Rattle.operator_faults.specs.declared.outline.What.{What}
use Rattle.operator_faults.specs.declared.outline.What.TheVariants as what
use Rattle.operator_faults.specs.declared.outline.Outline.{Outline}
use Rattle.operator_faults.specs.Calls.{own_call, sites, sites_step, all_sites}
use Rattle.operator_faults.specs.Sketches.{of_statement, of_ruleset}
use Rattle.operator_faults.specs.Outlines.{outline, inside, joined, having_if, parts_of, what_of, outlined}
use Rattle.written_sizes.specs.Sizes.{own_expressions, own_levels, inner, largest, expressions_step, levels_step, expressions, levels}
use Rattle.written_sizes.specs.Arithmetic.{most_expressions, most_levels}
use Rattle.written_sizes.specs.Laws.{outlines}
use Rattle.written_sizes.specs.Rooms.{is_empty, fits, room_after, room_after_all, levels_of, FitsAsItStands}
use Rattle.written_sizes.proofs.Folds.{fold-outline}
use Rattle.written_sizes.proofs.SizeLemmas.{sum-cons}
use Rattle.written_sizes.proofs.Tops.{one-expression, inner-parts, outlined-is}

-- ---- whether one fits

empty_tells : (cs : List CallSite) → ((is_empty cs ≡ true) × (cs ≡ [])) ⊎ ((is_empty cs ≡ false) × (cs ≡ [] → ⊥))
empty_tells [] = inl (refl, refl)
empty_tells (c ∷ cs) = inr (refl, λ (h : c ∷ cs ≡ []). absurd (cc h))

fits_tells : (m r : ℕ) (o : Outline) → ((fits m r o ≡ true) × (sites o ≡ []) × (levels o ≤ m) × (expressions o ≤ r)) ⊎ ((fits m r o ≡ false) × (sites o ≡ [] → levels o ≤ m → expressions o ≤ r → ⊥))
fits_tells m r o = elim (empty_tells (sites o)) [
  | inl s ↦ elim (leb_tells (levels o) m) [
    | inl l ↦ elim (leb_tells (expressions o) r) [
      | inl e ↦ inl (rw (s.0, l.0, e.0) refl, s.1, l.1, e.1)
      | inr e ↦ inr (rw (s.0, l.0, e.0) refl, λ plain low few. let above : r < expressions o = e.1 in absurd (omega arith))
    ]
    | inr l ↦ inr (rw (s.0, l.0) refl, λ plain low few. let above : m < levels o = l.1 in absurd (omega arith))
  ]
  | inr s ↦ inr (rw s.0 refl, λ plain low few. s.1 plain)
]

-- ---- of several

-- no call, so many levels at most, and with so many more as many expressions
pub record Leaves (most room left : ℕ) (os : List Outline) : Type 0 where
  pub no_call : all_sites os ≡ []
  pub low : largest (map levels os) ≤ most
  pub few : sum (map expressions os) + left ≡ room

pub no_room : (m : ℕ) (os : List Outline) → room_after_all m None os ≡ None
no_room m [] = refl
no_room m (o ∷ os) = no_room m os

none-some : {A T : Type 0} (x : A) → None ≡ Some x → T
none-some x h = absurd (cc h)

both_empty : {A : Type 0} (xs ys : List A) → xs ++ ys ≡ [] → (xs ≡ []) × (ys ≡ [])
both_empty [] ys h = (refl, h)
both_empty (x ∷ xs) ys h = absurd (cc h)

no_item : {A : Type 0} (a : Option A) → option_to_list a ≡ [] → a ≡ None
no_item None h = refl
no_item (Some x) h = absurd (cc h)

abbrev next : ℕ → ℕ → Outline → List Outline → Bool → Option ℕ
next m r o os b = room_after_all m (if b then Some (r - expressions o) else None) os

pub room-leaves : (m r n : ℕ) (os : List Outline) → room_after_all m (Some r) os ≡ Some n → Leaves m r n os
room-leaves m r n [] h = let e : r ≡ n = cc h in record { no_call = refl; low = omega arith; few = omega arith }
room-leaves m r n (o ∷ os) h = elim (fits_tells m r o) [
  | inl t ↦
      let rest : Leaves m (r - expressions o) n os = room-leaves m (r - expressions o) n os (sym (ap (next m r o os) t.0) ∙ h) in
      let here : levels o ≤ m = t.2 in
      let later : largest (map levels os) ≤ m = rest.low in
      let fits_in : expressions o ≤ r = t.3 in
      let few : sum (map expressions os) + n ≡ r - expressions o = rest.few in
      record {
        no_call = ap₂ (λ (xs ys : List CallSite). xs ++ ys) t.1 rest.no_call;
        low = (let both : max (levels o) (largest (map levels os)) ≤ m = omega arith in both);
        few = ap (λ (k : ℕ). k + n) (sum-cons (expressions o) (map expressions os)) ∙ (let e : expressions o + sum (map expressions os) + n ≡ r = omega arith in e);
      }
  | inr t ↦ none-some n (sym (no_room m os) ∙ sym (ap (next m r o os) t.0) ∙ h)
]

pub leaves-room : (m r n : ℕ) (os : List Outline) → Leaves m r n os → room_after_all m (Some r) os ≡ Some n
leaves-room m r n [] h = let few : 0 + n ≡ r = h.few in let e : r ≡ n = omega arith in ap (λ (k : ℕ). Some k) e
leaves-room m r n (o ∷ os) h =
    let none = both_empty (sites o) (all_sites os) h.no_call in
    let low : max (levels o) (largest (map levels os)) ≤ m = h.low in
    let few : expressions o + sum (map expressions os) + n ≡ r = sym (ap (λ (k : ℕ). k + n) (sum-cons (expressions o) (map expressions os))) ∙ h.few in
    elim (fits_tells m r o) [
      | inl t ↦ ap (next m r o os) t.0 ∙ leaves-room m (r - expressions o) n os (record { no_call = none.1; low = omega arith; few = omega arith })
      | inr t ↦ absurd (t.1 none.0 (omega arith) (omega arith))
    ]

-- ---- of one, from its parts

same_option : (a b : Option ℕ) → ((n : ℕ) → a ≡ Some n → b ≡ Some n) → ((n : ℕ) → b ≡ Some n → a ≡ Some n) → a ≡ b
same_option None None there back = refl
same_option None (Some n) there back = back n refl
same_option (Some n) b there back = sym (there n refl)

sites-outline : (w : What) (os : List Outline) → sites (outline w os) ≡ option_to_list (own_call w) ++ all_sites os
sites-outline w os = fold-outline (List CallSite) sites_step w os ∙ ap (λ (cs : List CallSite). option_to_list (own_call w) ++ cs) (flat_map-map (λ (cs : List CallSite). cs) sites os)

module _ (w : What) (os : List Outline) where
  -- its parts stand below it
  abbrev AllBelow : Type 0
  AllBelow = (f : Outline → ℕ) → inner w (map f os) ≡ map f os

  levels-outline : AllBelow → levels (outline w os) ≡ own_levels w + largest (map levels os)
  levels-outline all = fold-outline ℕ levels_step w os ∙ ap (λ (ns : List ℕ). own_levels w + largest ns) (all levels)

  expressions-outline : AllBelow → expressions (outline w os) ≡ own_expressions w + sum (map expressions os)
  expressions-outline all = fold-outline ℕ expressions_step w os ∙ ap (λ (ns : List ℕ). own_expressions w + sum ns) (all expressions)

  module _ (m r : ℕ) where
    -- where it doesn't fit by itself
    pub too_small : (own_call w ≡ None → own_levels w ≤ m → own_expressions w ≤ r → ⊥) → AllBelow → room_after m (Some r) (outline w os) ≡ None
    too_small not all = elim (fits_tells m r (outline w os)) [
      | inl t ↦
          let none = both_empty (option_to_list (own_call w)) (all_sites os) (sym (sites-outline w os) ∙ t.1) in
          let deep : levels (outline w os) ≡ own_levels w + largest (map levels os) = levels-outline all in
          let many : expressions (outline w os) ≡ own_expressions w + sum (map expressions os) = expressions-outline all in
          let low : levels (outline w os) ≤ m = t.2 in
          let few : expressions (outline w os) ≤ r = t.3 in
          absurd (not (no_item (own_call w) none.0) (omega arith) (omega arith))
      | inr t ↦ ap (λ (b : Bool). if b then Some (r - expressions (outline w os)) else None) t.0
    ]

    -- the room inside it
    pub within : (k l : ℕ) → own_call w ≡ None → AllBelow → own_levels w + k ≡ m → own_expressions w + l ≡ r → room_after m (Some r) (outline w os) ≡ room_after_all k (Some l) os
    within k l none all above before =
        let o = outline w os in
        let deep : levels o ≡ own_levels w + largest (map levels os) = levels-outline all in
        let many : expressions o ≡ own_expressions w + sum (map expressions os) = expressions-outline all in
        let one : sum (map expressions (o ∷ [])) ≡ expressions o + 0 = sum-cons (expressions o) [] in
        let own : option_to_list (own_call w) ≡ [] = ap option_to_list none in
        same_option (room_after m (Some r) o) (room_after_all k (Some l) os)
        (λ n h.
        let all_in : Leaves m r n (o ∷ []) = room-leaves m r n (o ∷ []) h in
        let low : max (levels o) 0 ≤ m = all_in.low in
        let few : sum (map expressions (o ∷ [])) + n ≡ r = all_in.few in
        let no_call = both_empty (option_to_list (own_call w)) (all_sites os) (sym (sites-outline w os) ∙ (both_empty (sites o) [] all_in.no_call).0) in
        leaves-room k l n os (record { no_call = no_call.1; low = omega arith; few = omega arith }))
        (λ n h.
        let inner_in : Leaves k l n os = room-leaves k l n os h in
        let low : largest (map levels os) ≤ k = inner_in.low in
        let few : sum (map expressions os) + n ≡ l = inner_in.few in
        leaves-room m r n (o ∷ []) (record {
          no_call = ap (λ (cs : List CallSite). cs ++ []) (sites-outline w os ∙ ap₂ (λ (xs ys : List CallSite). xs ++ ys) own inner_in.no_call);
          low = (let both : max (levels o) 0 ≤ m = omega arith in both);
          few = (let both : sum (map expressions (o ∷ [])) + n ≡ r = omega arith in both);
        }))

-- ---- an expression

is_call : (w : What) → levels_of w ≡ None → own_call w ≡ None → ⊥
is_call (what.Name s) h none = absurd (cc h)
is_call (what.Call c) h none = absurd (cc none)
is_call what.Plain h none = absurd (cc h)
is_call what.Level h none = absurd (cc h)
is_call what.Inside h none = absurd (cc h)
is_call what.InsideJoin h none = absurd (cc h)

no_call : (w : What) (own : ℕ) → levels_of w ≡ Some own → (own_call w ≡ None) × (own_levels w ≡ own)
no_call (what.Name s) own h = (refl, cc h)
no_call (what.Call c) own h = none-some own h
no_call what.Plain own h = (refl, cc h)
no_call what.Level own h = (refl, cc h)
no_call what.Inside own h = (refl, cc h)
no_call what.InsideJoin own h = (refl, cc h)

module _ (e : Expr) (m r : ℕ) where
  abbrev top : What
  top = what_of e (parts_of e)

  below : AllBelow top (parts_of e)
  below f = inner-parts (parts_of e) f e

  pub expr-call : None ≡ levels_of (what_of e (parts_of e)) → None ≡ room_after m (Some r) (outlined e)
  expr-call h = sym (ap (room_after m (Some r)) (outlined-is e) ∙ too_small top (parts_of e) m r (λ none low few. is_call top (sym h) none) below)

  pub expr-small : (own : ℕ) → Some own ≡ levels_of (what_of e (parts_of e)) → (own ≤ m → 0 < r → ⊥) → None ≡ room_after m (Some r) (outlined e)
  expr-small own h not =
      let is : own_levels top ≡ own = (no_call top own (sym h)).1 in
      let one : own_expressions top ≡ 1 = one-expression (parts_of e) e in
      sym (ap (room_after m (Some r)) (outlined-is e) ∙ too_small top (parts_of e) m r (λ none low few.
      let deep : own_levels top ≤ m = low in
      let many : own_expressions top ≤ r = few in
      not (omega arith) (omega arith)) below)

  pub expr-room : (own : ℕ) → Some own ≡ levels_of (what_of e (parts_of e)) → own ≤ m → 0 < r → room_after_all (m - own) (Some (r - 1)) (parts_of e) ≡ room_after m (Some r) (outlined e)
  expr-room own h low few =
      let t = no_call top own (sym h) in
      let is : own_levels top ≡ own = t.1 in
      let one : own_expressions top ≡ 1 = one-expression (parts_of e) e in
      sym (ap (room_after m (Some r)) (outlined-is e) ∙ within top (parts_of e) m r (m - own) (r - 1) t.0 below (omega arith) (omega arith))

-- ---- what stands in a clause

pub inside-room : (m : ℕ) (r : Option ℕ) (os : List Outline) → room_after m r (inside os) ≡ room_after_all m r os
inside-room m None os = sym (no_room m os)
inside-room m (Some r) os = within what.Inside os m r m r refl (λ f. refl) (omega arith) (omega arith)

pub joined-room : (m : ℕ) (r : Option ℕ) (os : List Outline) → 0 < m → room_after m r (joined os) ≡ room_after_all (m - 1) r os
joined-room m None os some = sym (no_room (m - 1) os)
joined-room m (Some r) os some = within what.InsideJoin os m r (m - 1) r refl (λ f. refl) (omega arith) (omega arith)

pub joined-none : (m : ℕ) (r : Option ℕ) (os : List Outline) → m ≡ 0 → room_after m r (joined os) ≡ None
joined-none m None os none = refl
joined-none m (Some r) os none = too_small what.InsideJoin os m r (λ own low few. let one : 1 ≤ m = low in absurd (omega arith)) (λ f. refl)

pub having-room : (m : ℕ) (r : Option ℕ) (os : List Outline) → room_after_all m r (having_if os) ≡ room_after_all m r os
having-room m r [] = refl
having-room m r (o ∷ os) = inside-room m r (o ∷ os)

-- ---- one after the other

pub in_turn : (m : ℕ) (a b z : Option ℕ) (xs ys : List Outline) → b ≡ room_after_all m a xs → z ≡ room_after_all m b ys → z ≡ room_after_all m a (xs ++ ys)
in_turn m a b z xs ys first second = second ∙ ap (λ (r : Option ℕ). room_after_all m r ys) first ∙ sym (fold-append (room_after m) a xs ys)

-- ---- a script

all_low : (m : ℕ) (os : List Outline) → largest (map levels os) ≤ m → All (λ (o : Outline). levels o ≤ m) os
all_low m [] h = All-nil (λ (o : Outline). levels o ≤ m)
all_low m (o ∷ os) h =
    let both : max (levels o) (largest (map levels os)) ≤ m = h in
    All-cons (λ (p : Outline). levels p ≤ m) o os (omega arith) (all_low m os (omega arith))

largest_low : (m : ℕ) (os : List Outline) → All (λ (o : Outline). levels o ≤ m) os → largest (map levels os) ≤ m
largest_low m [] h = omega arith
largest_low m (o ∷ os) h =
    let here : levels o ≤ m = h 0 o (omega arith) in
    let later : largest (map levels os) ≤ m = largest_low m os (λ k d in_range. h (suc k) d (omega arith)) in
    omega arith

fits-leaves : (s : Script) (n : ℕ) → Leaves most_levels most_expressions n (outlines s) → FitsAsItStands s
fits-leaves s n h =
    let few : sum (map expressions (outlines s)) + n ≡ most_expressions = h.few in
    record { no_call = h.no_call; within_limits = record { few_levels = all_low most_levels (outlines s) h.low; few_expressions = omega arith } }

leaves-fits : (s : Script) → FitsAsItStands s → Leaves most_levels most_expressions (most_expressions - sum (map expressions (outlines s))) (outlines s)
leaves-fits s h =
    let few : sum (map expressions (outlines s)) ≤ most_expressions = h.within_limits.few_expressions in
    record { no_call = h.no_call; low = largest_low most_levels (outlines s) h.within_limits.few_levels; few = omega arith }

some_fits : (s : Script) (z : Option ℕ) → is_some z ≡ true → room_after_all most_levels (Some most_expressions) (outlines s) ≡ z → FitsAsItStands s
some_fits s None h all = absurd (cc h)
some_fits s (Some n) h all = fits-leaves s n (room-leaves most_levels most_expressions n (outlines s) all)

fits_some : (s : Script) → FitsAsItStands s → room_after_all most_levels (Some most_expressions) (outlines s) ≡ Some (most_expressions - sum (map expressions (outlines s)))
fits_some s h = leaves-room most_levels most_expressions (most_expressions - sum (map expressions (outlines s))) (outlines s) (leaves-fits s h)

-- there is room for statements and rulesets exactly where they fit
pub told_fits : (s : Script) (ss : List Statement) (rs : List Ruleset) (b : Bool) (r z : Option ℕ) → ss ≡ s.statements → rs ≡ s.rulesets → r ≡ room_after_all most_levels (Some most_expressions) (map of_statement ss) → z ≡ room_after_all most_levels r (flat_map of_ruleset rs) → b ≡ is_some z → (b ≡ true → FitsAsItStands s) × (FitsAsItStands s → b ≡ true)
told_fits s ss rs b r z statements rulesets first second is =
    let all : z ≡ room_after_all most_levels (Some most_expressions) (outlines s) =
    in_turn most_levels (Some most_expressions) r z (map of_statement s.statements) (flat_map of_ruleset s.rulesets)
    (first ∙ ap (λ (xs : List Statement). room_after_all most_levels (Some most_expressions) (map of_statement xs)) statements)
    (second ∙ ap (λ (xs : List Ruleset). room_after_all most_levels r (flat_map of_ruleset xs)) rulesets) in
    (λ yes. some_fits s z (sym is ∙ yes) (sym all), λ fit. is ∙ ap is_some (all ∙ fits_some s fit))

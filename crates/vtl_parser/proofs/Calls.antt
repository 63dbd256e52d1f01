-- What comes after the operands of a call.
use Rattle.std.proofs.Common.{◌≡◌, ℕ, ◌+◌, ◌<◌, max, List, [], ◌∷◌, ◌++◌, map, Bool, true, false, cond, Option, Some, None, Ok, Err, inl, inr, refl, ap, ◌∙◌, arith}
use Rattle.std.specs.Prelude.{nat_eq, ◌⊎◌, option_map}
use Rattle.vtl_values.specs.declared.place.Place.{Place}
use Rattle.vtl_tokens.specs.declared.sign.Sign.TheVariants as signs
use Rattle.vtl_syntax.specs.declared.expr.Expr.{Expr}
use Rattle.vtl_syntax.specs.declared.expr.Expr.TheVariants as tree
use Rattle.vtl_syntax.specs.declared.expr.Over.{Over}
use Rattle.vtl_syntax.specs.declared.expr.Groups.{Groups}
use Rattle.vtl_syntax.specs.declared.words.AggregateFunction.{AggregateFunction}
use Rattle.vtl_syntax.specs.declared.words.WindowFunction.{WindowFunction}
use Rattle.vtl_grammar.specs.Marks.{Tokens, sign, sort_of}
use Rattle.vtl_grammar.specs.Rules.{Rule, ◌▸◌, either, Part, OfPart, expression, Of, operands, expr, comma}
use Rattle.vtl_grammar.specs.Clauses.{groups, groups_of}
use Rattle.vtl_grammar.specs.Calls.{over, over_of, over_or_groups, aggregate_of, second}
use Rattle.vtl_grammar.specs.Reading.{Kind, Read, Reader, halt, got, mapped, both, maybe, some, member, starts, firsts, read_mark, no_part, below}
use Rattle.vtl_grammar.proofs.Sorts.{member-left}
use Rattle.vtl_cursor.specs.Limits.{limits}
use Rattle.vtl_cursor.specs.Plain.{read_plain}
use Rattle.vtl_cursor.specs.Views.{IsShown, IsShownDeep}

-- ---- one of two, or nothing

member-right_only : (k : ℕ) (js ks : List ℕ) → member k js ≡ false → member k (js ++ ks) ≡ member k ks
member-right_only k [] ks e = refl
member-right_only k (j ∷ js) ks e = by_head (nat_eq k j) (member-right_only k js ks) e
  where
    by_head : (c : Bool) → (member k js ≡ false → member k (js ++ ks) ≡ member k ks) → cond c true (member k js) ≡ false → cond c true (member k (js ++ ks)) ≡ member k ks
    by_head true behind e = absurd cc
    by_head false behind e = behind e

starts-left : (js ks : List ℕ) (ts : Tokens) → starts js ts ≡ true → starts (js ++ ks) ts ≡ true
starts-left js ks [] e = absurd cc
starts-left js ks (t ∷ ts) e = member-left (sort_of t.what) js ks e

starts-right_only : (js ks : List ℕ) (ts : Tokens) → starts js ts ≡ false → starts (js ++ ks) ts ≡ starts ks ts
starts-right_only js ks [] e = refl
starts-right_only js ks (t ∷ ts) e = member-right_only (sort_of t.what) js ks e

module _ (g h : Rule) (inner : (q : Part) → Reader (OfPart q)) (ts : Tokens) where
  abbrev in_left : Of g → Of g ⊎ Of h
  in_left v = inl v

  abbrev in_right : Of h → Of g ⊎ Of h
  in_right v = inr v

  abbrev left_of : Of g → Option (Of g ⊎ Of h)
  left_of v = Some (inl v)

  abbrev right_of : Option (Of h) → Option (Of g ⊎ Of h)
  right_of None = None
  right_of (Some v) = Some (inr v)

  by_left : (x : Read (Of g)) → mapped some (mapped in_left x) ≡ mapped left_of x
  by_left (Ok v) = refl
  by_left (Err e) = refl

  -- the first of the two stands there
  maybe-left : starts (firsts g) ts ≡ true → maybe (firsts (either g h)) (read_plain limits inner (either g h)) ts ≡ mapped left_of (read_plain limits inner g ts)
  maybe-left e =
      let one : starts (firsts g ++ firsts h) ts ≡ true = starts-left (firsts g) (firsts h) ts e in
      rw (one, e) (by_left (read_plain limits inner g ts))

  by_right : (x : Read (Of h)) → mapped some (mapped in_right x) ≡ mapped right_of (mapped some x)
  by_right (Ok v) = refl
  by_right (Err e) = refl

  by_start : (c : Bool) → cond c (mapped some (mapped in_right (read_plain limits inner h ts))) (got None 0 ts) ≡ mapped right_of (cond c (mapped some (read_plain limits inner h ts)) (got None 0 ts))
  by_start true = by_right (read_plain limits inner h ts)
  by_start false = refl

  -- it doesn't
  maybe-right : starts (firsts g) ts ≡ false → maybe (firsts (either g h)) (read_plain limits inner (either g h)) ts ≡ mapped right_of (maybe (firsts h) (read_plain limits inner h) ts)
  maybe-right e =
      let one : starts (firsts g ++ firsts h) ts ≡ starts (firsts h) ts = starts-right_only (firsts g) (firsts h) ts e in
      rw (one, e) (by_start (starts (firsts h) ts))

-- ---- one after the other

module _ {A B : Type 0} (r : Reader A) (q : Reader B) (ts us : Tokens) where
  both-goes : (x : A) (y : B) (h l : ℕ) (vs : Tokens) → r ts ≡ got x h us → q us ≡ got y l vs → both r q ts ≡ got (x, y) (max h l) vs
  both-goes x y h l vs one two = rw (one, two) refl

  second-halts : (x : A) (h : ℕ) (k : Kind) (vs : Tokens) → r ts ≡ got x h us → q us ≡ halt k vs → both r q ts ≡ halt k vs
  second-halts x h k vs one two = rw (one, two) refl

-- ---- a window or groups, and the bracket after them

module _ (d : ℕ) (ts us : Tokens) where
  abbrev inner : (q : Part) → Reader (OfPart q)
  inner = below limits d

  abbrev scope : Reader (Option (Of over ⊎ Of groups))
  scope = maybe (firsts (either over groups)) (read_plain limits inner (either over groups))

  -- a window has no expression in it
  window-plain : (y : Read (Of over)) → read_plain limits no_part over ts ≡ y → read_plain limits inner over ts ≡ y
  window-plain y e = e

  window-is : starts (firsts over) ts ≡ true → (y : Read (Of over)) → read_plain limits no_part over ts ≡ y → scope ts ≡ mapped (left_of over groups inner ts) y
  window-is some y e = maybe-left over groups inner ts some ∙ ap (mapped (left_of over groups inner ts)) (window-plain y e)

  module _ (none : starts (firsts over) ts ≡ false) (x : Option Groups) (h : ℕ) (s : IsShownDeep (λ v. option_map groups_of v) x h us (maybe (firsts groups) (read_plain limits inner groups) ts)) where
    groups-are : scope ts ≡ got (right_of over groups inner ts s.value) h us
    groups-are = maybe-right over groups inner ts none ∙ ap (mapped (right_of over groups inner ts)) s.reads

    pub groups-unclosed : (vs : Tokens) (k : Kind) → read_mark (sign signs.RightParen) us ≡ halt k vs → read_plain limits inner over_or_groups ts ≡ halt k vs
    groups-unclosed vs k e = second-halts scope (read_mark (sign signs.RightParen)) ts us (right_of over groups inner ts s.value) h k vs groups-are e

  module _ (f : AggregateFunction) (w : WindowFunction) (e : Expr) (p q : Place) (vs : Tokens) (closes : read_mark (sign signs.RightParen) us ≡ got q 0 vs) where
    pub window-goes : starts (firsts over) ts ≡ true → (o : Over) → IsShown over_of o us (read_plain limits no_part over ts) → IsShownDeep (λ v. aggregate_of f w e v.0 p) (tree.Window w e o p) 0 vs (read_plain limits inner over_or_groups ts)
    window-goes some o s = record {
      value = (Some (inl s.value), q);
      reads = both-goes scope (read_mark (sign signs.RightParen)) ts us (Some (inl s.value)) q 0 0 vs (window-is some (got s.value 0 us) s.reads) closes;
      shows = ap (λ (x : Over). tree.Window w e x p) s.shows;
    }

    aggregate-is : (v : Option (Of groups)) → aggregate_of f w e (right_of over groups inner ts v) p ≡ tree.Aggregate f e (option_map groups_of v) p
    aggregate-is None = refl
    aggregate-is (Some v) = refl

    pub groups-go : starts (firsts over) ts ≡ false → (x : Option Groups) (h : ℕ) → IsShownDeep (λ v. option_map groups_of v) x h us (maybe (firsts groups) (read_plain limits inner groups) ts) → IsShownDeep (λ v. aggregate_of f w e v.0 p) (tree.Aggregate f e x p) h vs (read_plain limits inner over_or_groups ts)
    groups-go none x h s =
        let levels : max h 0 ≡ h = omega arith in
        record {
          value = (right_of over groups inner ts s.value, q);
          reads = rw levels at (both-goes scope (read_mark (sign signs.RightParen)) ts us (right_of over groups inner ts s.value) q h 0 vs (groups-are none x h s) closes);
          shows = aggregate-is s.value ∙ ap (λ (y : Option Groups). tree.Aggregate f e y p) s.shows;
        }

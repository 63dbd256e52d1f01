-- What comes after the operands of a call, and the clauses of a join.
use Rattle.std.proofs.Common.{◌≡◌, ℕ, zero, suc, ◌-◌, ◌≤◌, ◌<◌, max, true, false, Some, refl, sym, ap, ◌∙◌, arith}
use Rattle.std.proofs.lemmas.Bool.{lt-ltb, le-ltb}
use Rattle.std.specs.Prelude.{nat_lt}
use Rattle.vtl_values.specs.declared.place.Place.{Place}
use Rattle.vtl_tokens.specs.declared.sign.Sign.TheVariants as signs
use Rattle.vtl_syntax.specs.declared.expr.Expr.{Expr}
use Rattle.vtl_syntax.specs.declared.expr.Clause.{Clause}
use Rattle.vtl_grammar.specs.Marks.{Tokens, sign}
use Rattle.vtl_grammar.specs.Rules.{Part, OfPart, expression, clause, JoinPart}
use Rattle.vtl_grammar.specs.Clauses.{join_part_rule, join_part_tree}
use Rattle.vtl_grammar.specs.Reading.{Kind, TooDeep, Reader, halt, got, ◌>>=◌, mapped, maybe, some, starts, join_part_firsts, read_mark, read, part_at, no_part, below}
use Rattle.vtl_cursor.specs.Limits.{limits}
use Rattle.vtl_cursor.specs.Plain.{read_plain}
use Rattle.vtl_cursor.specs.Views.{IsShown, IsShownDeep}
use Rattle.vtl_parser.specs.declared.form.OneOperand.{OneOperand}
use Rattle.vtl_parser.specs.declared.form.OneOperand.TheVariants as one
use Rattle.vtl_parser.specs.declared.form.TwoOperands.{TwoOperands}
use Rattle.vtl_parser.specs.declared.form.TwoOperands.TheVariants as two
use Rattle.vtl_parser.specs.Forms.{read_form, one_rest, one_tree, one_form, two_rest, two_tree, two_form}
use Rattle.vtl_parser.proofs.Below.{below-read}
use Rattle.vtl_parser.proofs.Low.{low-is, read-low}

-- an end holds no expression
one-plain : (inner : (q : Part) → Reader (OfPart q)) (c : OneOperand) (ts : Tokens) → read_plain limits inner (one_rest c) ts ≡ read_plain limits no_part (one_rest c) ts
one-plain inner (one.Unary f) ts = refl
one-plain inner (one.Round f) ts = refl
one-plain inner one.Between ts = refl
one-plain inner one.MatchCharacters ts = refl
one-plain inner (one.Window f) ts = refl
one-plain inner (one.Offset f) ts = refl
one-plain inner (one.Time f) ts = refl
one-plain inner one.Timeshift ts = refl
one-plain inner one.FillTimeSeries ts = refl
one-plain inner one.CheckDatapoint ts = refl
one-plain inner one.Hierarchy ts = refl
one-plain inner one.CheckHierarchy ts = refl

two-plain : (inner : (q : Part) → Reader (OfPart q)) (c : TwoOperands) (ts : Tokens) → read_plain limits inner (two_rest c) ts ≡ read_plain limits no_part (two_rest c) ts
two-plain inner (two.Binary f) ts = refl
two-plain inner (two.Difference f) ts = refl
two-plain inner two.ExistsIn ts = refl

module _ (c : OneOperand) (place : Place) (d : ℕ) (ts us vs ws : Tokens) (p : Place) (e : Expr) (h : ℕ) (opens : read_mark (sign signs.LeftParen) ts ≡ got p 0 us) (operand : below limits d (expression 0) us ≡ got e h vs) where
  pub one-goes : (x : Expr) → IsShown (λ v. one_tree c e v place) x ws (read_plain limits no_part (one_rest c) vs) → read_form limits (below limits d) (one_form c) place ts ≡ got x h ws
  one-goes x s =
      let rest : read_plain limits (below limits d) (one_rest c) vs ≡ got s.value 0 ws = one-plain (below limits d) c vs ∙ s.reads in
      let levels : max 0 (max h 0) ≡ h = omega arith in
      rw (opens, operand, rest, levels) (ap (λ (y : Expr). got y h ws) s.shows)

  pub one-halts : (k : Kind) → read_plain limits no_part (one_rest c) vs ≡ halt k ws → read_form limits (below limits d) (one_form c) place ts ≡ halt k ws
  one-halts k s =
      let rest : read_plain limits (below limits d) (one_rest c) vs ≡ halt k ws = one-plain (below limits d) c vs ∙ s in
      rw (opens, operand, rest) refl

module _ (c : TwoOperands) (place : Place) (d : ℕ) (ts us vs us' vs' ws : Tokens) (p p' : Place) (e e' : Expr) (h h' : ℕ) (opens : read_mark (sign signs.LeftParen) ts ≡ got p 0 us) (left : below limits d (expression 0) us ≡ got e h vs)
    (between : read_mark (sign signs.Comma) vs ≡ got p' 0 us') (right : below limits d (expression 0) us' ≡ got e' h' vs') where
  pub two-goes : (x : Expr) → IsShown (λ v. two_tree c e e' v place) x ws (read_plain limits no_part (two_rest c) vs') → read_form limits (below limits d) (two_form c) place ts ≡ got x (max h h') ws
  two-goes x s =
      let rest : read_plain limits (below limits d) (two_rest c) vs' ≡ got s.value 0 ws = two-plain (below limits d) c vs' ∙ s.reads in
      let levels : max 0 (max h (max 0 (max h' 0))) ≡ max h h' = omega arith in
      rw (opens, left, between, right, rest, levels) (ap (λ (y : Expr). got y (max h h') ws) s.shows)

  pub two-halts : (k : Kind) → read_plain limits no_part (two_rest c) vs' ≡ halt k ws → read_form limits (below limits d) (two_form c) place ts ≡ halt k ws
  two-halts k s =
      let rest : read_plain limits (below limits d) (two_rest c) vs' ≡ halt k ws = two-plain (below limits d) c vs' ∙ s in
      rw (opens, left, between, right, rest) refl

-- ---- a clause in its place in a join

module _ (k : JoinPart) (d : ℕ) (ts us : Tokens) (begins : starts (join_part_firsts k) ts ≡ true) where
  join_part-is : (j : ℕ) → d ≡ suc (suc j) → maybe (join_part_firsts k) (below limits d (clause k)) ts ≡ mapped some (read limits (part_at limits j) (join_part_rule k) ts >>= λ v. got (join_part_tree k v.value) (suc v.levels) v.rest)
  join_part-is j is =
      let room : nat_lt 0 (suc j) ≡ true = lt-ltb 0 (suc j) (omega arith) in
      rw (is, begins, room) refl

  -- there is no room for it
  pub join_part-full : d < 2 → maybe (join_part_firsts k) (below limits d (clause k)) ts ≡ halt TooDeep ts
  join_part-full few = by_depth d few
    where
      by_depth : (d : ℕ) → d < 2 → maybe (join_part_firsts k) (below limits d (clause k)) ts ≡ halt TooDeep ts
      by_depth zero few = rw begins refl
      by_depth (suc zero) few = rw begins refl
      by_depth (suc (suc j)) few = absurd (omega arith)

  pub join_part-halts : 1 < d → (kind : Kind) → read_plain limits (below limits (d - 1)) (join_part_rule k) ts ≡ halt kind us → maybe (join_part_firsts k) (below limits d (clause k)) ts ≡ halt kind us
  join_part-halts some_left kind e =
      let reads : read limits (part_at limits (d - 1 - 1)) (join_part_rule k) ts ≡ halt kind us = sym (below-read limits (d - 1) (join_part_rule k) ts (omega arith)) ∙ e in
      join_part-is (d - 1 - 1) (omega arith) ∙ rw reads refl

  pub join_part-goes : 1 < d → (c : Clause) (h : ℕ) → IsShownDeep (join_part_tree k) c h us (read_plain limits (below limits (d - 1)) (join_part_rule k) ts) → maybe (join_part_firsts k) (below limits d (clause k)) ts ≡ got (Some c) (suc h) us
  join_part-goes some_left c h s =
      let reads : read limits (part_at limits (d - 1 - 1)) (join_part_rule k) ts ≡ got s.value h us = sym (below-read limits (d - 1) (join_part_rule k) ts (omega arith)) ∙ s.reads in
      join_part-is (d - 1 - 1) (omega arith) ∙ rw reads (ap (λ (x : Clause). got (Some x) (suc h) us) s.shows)

-- a clause has no more levels than are left
pub join_part-low : (k : JoinPart) (d : ℕ) (c : Clause) (h : ℕ) (ts us : Tokens) → 0 < d → IsShownDeep (join_part_tree k) c h us (read_plain limits (below limits d) (join_part_rule k) ts) → h < d
join_part-low k d c h ts us some_left s =
    let reads : read limits (part_at limits (d - 1)) (join_part_rule k) ts ≡ got s.value h us = sym (below-read limits d (join_part_rule k) ts some_left) ∙ s.reads in
    let low = low-is (d - 1) (read limits (part_at limits (d - 1)) (join_part_rule k) ts) (record { value = s.value; levels = h; rest = us }) (read-low limits (d - 1) (join_part_rule k) ts) reads in
    omega arith

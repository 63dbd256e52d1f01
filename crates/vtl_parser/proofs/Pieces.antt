-- Reading a script piece by piece.
use Rattle.std.proofs.Common.{◌≡◌, ℕ, suc, ◌+◌, ◌-◌, ◌≤◌, ◌<◌, max, length, List, [], ◌∷◌, ◌++◌, true, false, Ok, Err, refl, sym, ap, ◌∙◌, append_assoc, arith}
use Rattle.std.proofs.lemmas.List.{append-nil, length-append}
use Rattle.vtl_tokens.specs.declared.token.Token.{Token}
use Rattle.vtl_syntax.specs.declared.script.Script.{Script}
use Rattle.vtl_grammar.specs.Marks.{Tokens}
use Rattle.vtl_grammar.specs.Rules.{Of}
use Rattle.vtl_grammar.specs.Scripts.{PieceKind, a_statement, a_ruleset, an_operator, OfKind, piece_rule, piece_tree, Piece, all_of_kind, script_of}
use Rattle.vtl_grammar.specs.Reading.{Kind, Read, halt, got, ◌>>=◌, mapped, both, cons, read, part_at}
use Rattle.vtl_grammar.specs.ScriptReading.{Left, fewer, total, kind_at, limits_of, read_piece, read_pieces}
use Rattle.vtl_cursor.specs.Limits.{limits}
use Rattle.vtl_cursor.specs.Views.{IsShownDeep}
use Rattle.vtl_parser.specs.RuleParts.{rule_read}
use Rattle.vtl_parser.specs.Scripts.{HasRoom, IsStep, added, left_of, levelless, remaining, script_read}
use Rattle.vtl_parser.proofs.Below.{below-read}

-- the script with one more piece
abbrev pub pushed : (k : PieceKind) → OfKind k → Script → Script
pushed a_statement x s = record { statements = s.statements ++ x ∷ []; rulesets = s.rulesets; operators = s.operators }
pushed a_ruleset x s = record { statements = s.statements; rulesets = s.rulesets ++ x ∷ []; operators = s.operators }
pushed an_operator x s = record { statements = s.statements; rulesets = s.rulesets; operators = s.operators ++ x ∷ [] }

-- the counts are the same where each is
same_left : (left left' : Left) → ((k : PieceKind) → left k ≡ left' k) → left ≡ left'
same_left left left' e = λ i k. e k i

-- there is one piece less to come
one_less : (k : PieceKind) (s : Script) → 0 < left_of s k → total (left_of s) ≡ suc (total (fewer k (left_of s)))
one_less a_statement s some = omega arith
one_less a_ruleset s some = omega arith
one_less an_operator s some = omega arith

pushed_left : (k : PieceKind) (x : OfKind k) (s : Script) (j : PieceKind) → fewer k (left_of s) j ≡ left_of (pushed k x s) j
pushed_left a_statement x s a_statement = simp length-append (omega arith)
pushed_left a_statement x s a_ruleset = omega arith
pushed_left a_statement x s an_operator = omega arith
pushed_left a_ruleset x s a_statement = omega arith
pushed_left a_ruleset x s a_ruleset = simp length-append (omega arith)
pushed_left a_ruleset x s an_operator = omega arith
pushed_left an_operator x s a_statement = omega arith
pushed_left an_operator x s a_ruleset = omega arith
pushed_left an_operator x s an_operator = simp length-append (omega arith)

pushed_all : (k : PieceKind) (x : OfKind k) (s : Script) (ps : List Piece) → added s ((k, x) ∷ ps) ≡ added (pushed k x s) ps
pushed_all a_statement x s ps = let e = append_assoc s.statements (x ∷ []) (all_of_kind a_statement ps) in rw e refl
pushed_all a_ruleset x s ps = let e = append_assoc s.rulesets (x ∷ []) (all_of_kind a_ruleset ps) in rw e refl
pushed_all an_operator x s ps = let e = append_assoc s.operators (x ∷ []) (all_of_kind an_operator ps) in rw e refl

module _ (d : ℕ) (s : Script) (k : PieceKind) where
  -- what is read after a piece
  abbrev with_piece : OfKind k → ℕ → Read (List Piece) → Read (List Piece)
  with_piece x h r = mapped cons (r >>= λ b. got ((k, x), b.value) (max h b.levels) b.rest)

  by_rest : (x : OfKind k) (h : ℕ) (r : Read (List Piece)) → levelless (added s) (with_piece x h r) ≡ levelless (added (pushed k x s)) r
  by_rest x h (Ok b) = ap (λ (z : Script). got z 0 b.rest) (pushed_all k x s b.value)
  by_rest x h (Err e) = refl

  module _ (t : Token) (ts rest : Tokens) (begins : kind_at (left_of s) (t ∷ ts) ≡ got k 0 rest) where
    begun : remaining d s (t ∷ ts) ≡ levelless (added s) (mapped cons (both (read_piece limits d k) (read_pieces limits d (total (left_of s)) (fewer k (left_of s))) (t ∷ ts)))
    unfolding remaining
    begun = ap (λ (x : Read PieceKind). levelless (added s) (x >>= λ j. mapped cons (both (read_piece limits d j.value) (read_pieces limits d (total (left_of s)) (fewer j.value (left_of s))) (t ∷ ts)))) begins

    goes : (v : Of (piece_rule k)) (h : ℕ) (us : Tokens) → 0 < left_of s k → read limits (part_at limits d) (piece_rule k) (t ∷ ts) ≡ got v h us → remaining d s (t ∷ ts) ≡ remaining d (pushed k (piece_tree k v) s) us
    unfolding remaining
    goes v h us some is =
        let less = one_less k s some in
        let left = same_left (fewer k (left_of s)) (left_of (pushed k (piece_tree k v) s)) (pushed_left k (piece_tree k v) s) in
        begun
        ∙ rw is (by_rest (piece_tree k v) h (read_pieces limits d (total (left_of s)) (fewer k (left_of s)) us)
        ∙ (ap (λ (n : ℕ). levelless (added (pushed k (piece_tree k v) s)) (read_pieces limits d n (fewer k (left_of s)) us)) less
        ∙ ap (λ (l : Left). levelless (added (pushed k (piece_tree k v) s)) (read_pieces limits d (suc (total l)) l us)) left))

    halts : (kind : Kind) (us : Tokens) → read limits (part_at limits d) (piece_rule k) (t ∷ ts) ≡ halt kind us → remaining d s (t ∷ ts) ≡ halt kind us
    halts kind us is = begun ∙ rw is refl

-- a script has room for one more piece, and then for one less
stepped : (k : PieceKind) (x : OfKind k) (s : Script) → 0 < left_of s k → HasRoom s → HasRoom (pushed k x s)
stepped a_statement x s some r = record { statements = simp length-append (let a = r.statements in omega arith); rulesets = r.rulesets; operators = r.operators }
stepped a_ruleset x s some r = record { statements = r.statements; rulesets = simp length-append (let a = r.rulesets in omega arith); operators = r.operators }
stepped an_operator x s some r = record { statements = r.statements; rulesets = r.rulesets; operators = simp length-append (let a = r.operators in omega arith) }

less_left : (k : PieceKind) (x : OfKind k) (s : Script) → 0 < left_of s k → total (left_of (pushed k x s)) < total (left_of s)
less_left k x s some =
    let less = one_less k s some in
    let left = same_left (fewer k (left_of s)) (left_of (pushed k x s)) (pushed_left k x s) in
    let fewer_still : total (fewer k (left_of s)) ≡ total (left_of (pushed k x s)) = ap total left in
    omega arith

-- for the depth as the code has it
module _ (d : ℕ) (s : Script) (k : PieceKind) (ts rest : Tokens) (some : 0 < d) (begins : kind_at (left_of s) ts ≡ got k 0 rest) where
  pub piece-goes : (x : OfKind k) (h : ℕ) (us : Tokens) → 0 < left_of s k → HasRoom s → IsShownDeep (piece_tree k) x h us (rule_read d (piece_rule k) ts) → IsStep (d - 1) s (pushed k x s) ts us
  unfolding rule_read
  piece-goes x h us more room w =
      let reads : read limits (part_at limits (d - 1)) (piece_rule k) ts ≡ got w.value h us = sym (below-read limits d (piece_rule k) ts some) ∙ w.reads in
      record {
        same = by_tokens ts begins reads ∙ ap (λ (y : OfKind k). remaining (d - 1) (pushed k y s) us) w.shows;
        few = stepped k x s more room;
        less = less_left k x s more;
      }
    where
      by_tokens : (ts : Tokens) → kind_at (left_of s) ts ≡ got k 0 rest → read limits (part_at limits (d - 1)) (piece_rule k) ts ≡ got w.value h us → remaining (d - 1) s ts ≡ remaining (d - 1) (pushed k (piece_tree k w.value) s) us
      by_tokens [] begins reads = absurd cc
      by_tokens (t ∷ ts) begins reads = goes (d - 1) s k t ts rest begins w.value h us more reads

  pub piece-halts : (kind : Kind) (us : Tokens) → rule_read d (piece_rule k) ts ≡ halt kind us → remaining (d - 1) s ts ≡ halt kind us
  unfolding rule_read
  piece-halts kind us e = by_tokens ts begins (sym (below-read limits d (piece_rule k) ts some) ∙ e)
    where
      by_tokens : (ts : Tokens) → kind_at (left_of s) ts ≡ got k 0 rest → read limits (part_at limits (d - 1)) (piece_rule k) ts ≡ halt kind us → remaining (d - 1) s ts ≡ halt kind us
      by_tokens [] begins reads = absurd cc
      by_tokens (t ∷ ts) begins reads = halts (d - 1) s k t ts rest begins kind us reads

-- no piece begins there, or one that is one too many
pub no-piece : (d : ℕ) (s : Script) (ts us : Tokens) (kind : Kind) → 0 < length ts → kind_at (left_of s) ts ≡ halt kind us → remaining d s ts ≡ halt kind us
unfolding remaining
no-piece d s [] us kind some e = absurd (omega arith)
no-piece d s (t ∷ ts) us kind some e = ap (λ (x : Read PieceKind). levelless (added s) (x >>= λ j. mapped cons (both (read_piece limits d j.value) (read_pieces limits d (total (left_of s)) (fewer j.value (left_of s))) (t ∷ ts)))) e

-- ---- the beginning and the end

pub at-end : (d : ℕ) (s : Script) (ts : Tokens) → length ts ≡ 0 → remaining d s ts ≡ got s 0 ts
unfolding remaining
at-end d s [] e =
    let a = append-nil s.statements in
    let b = append-nil s.rulesets in
    let c = append-nil s.operators in
    rw (a, b, c) refl
at-end d s (t ∷ ts) e = absurd (omega arith)

abbrev nothing : Script
nothing = record { statements = []; rulesets = []; operators = [] }

none_before : (k : PieceKind) → left_of nothing k ≡ limits_of limits k
none_before a_statement = refl
none_before a_ruleset = refl
none_before an_operator = refl

pub at-beginning : (d : ℕ) (ts : Tokens) → remaining d nothing ts ≡ script_read d ts
unfolding remaining script_read
at-beginning d ts =
    let left = same_left (left_of nothing) (limits_of limits) none_before in
    ap (λ (l : Left). levelless (added nothing) (read_pieces limits d (suc (total l)) l ts)) left ∙ by_pieces (read_pieces limits d (suc (total (limits_of limits))) (limits_of limits) ts)
  where
    by_pieces : (x : Read (List Piece)) → levelless (added nothing) x ≡ levelless (λ v. v) (mapped script_of x)
    by_pieces (Ok ps) = refl
    by_pieces (Err e) = refl

-- What reading a script answers is explained; what is a script is read; and higher limits agree.
use Rattle.std.proofs.Common.{◌≡◌, ℕ, zero, suc, ◌+◌, ◌-◌, ◌≤◌, ◌<◌, max, length, List, [], ◌∷◌, ◌++◌, Bool, true, false, cond, Ok, Err, inl, inr, refl, sym, ap, subst, ◌∙◌, arith}
use Rattle.std.proofs.lemmas.Bool.{eqb-true, ltb-true, lt-ltb}
use Rattle.std.proofs.lemmas.List.{append-nil, length-append}
use Rattle.std.specs.Prelude.{nat_eq, nat_lt}
use Rattle.vtl_tokens.specs.declared.token.Token.{Token}
use Rattle.vtl_tokens.specs.declared.token.TokenKind.{TokenKind}
use Rattle.vtl_tokens.specs.declared.keyword.Keyword.TheVariants as words
use Rattle.vtl_grammar.specs.Marks.{Tokens, at, key, kind_of, of_mark, sort_of}
use Rattle.vtl_grammar.specs.Rules.{Counts, Limit, lists, rulesets, Rule, ◌▸◌, Of, Spells}
use Rattle.vtl_grammar.specs.Expressions.{IsPart}
use Rattle.vtl_grammar.specs.Rulesets.{semicolon, ruleset_rule}
use Rattle.vtl_grammar.specs.Operators.{operator_rule}
use Rattle.vtl_grammar.specs.Scripts.{PieceKind, a_statement, a_ruleset, an_operator, limit_of, definition, piece_rule, piece_tree, Piece, of_kind, all_of_kind, IsPiece, IsPieces}
use Rattle.vtl_grammar.specs.Reading.{Kind, Expected, TooMany, Got, Read, Reader, halt, got, ◌>>=◌, mapped, both, cons, member, starts, firsts, read, part_at}
use Rattle.vtl_grammar.specs.ScriptReading.{read_piece, Left, same_kind, fewer, total, any_left, statement_firsts, definition_firsts, definitions, kind_firsts, counted, told, kind_at, read_pieces}
use Rattle.vtl_grammar.proofs.Sorts.{by_test, is_mark, member-one, nat_eq-refl}
use Rattle.vtl_grammar.proofs.Explained.{SameHead, SameHead-refl, SameHead-append, starts-same, Spelling, IsMore, Further, Beyond, Goes, Explains, IsGrowing, HasSample, SpellsBoth, both-explained, mapped-explained, refused, refuses_head}
use Rattle.vtl_grammar.proofs.Spellings.{SpellsRule, rule-grows, rule-no_tokens}
use Rattle.vtl_grammar.proofs.RuleLaws.{is_open, rule-opens, PassesSort, mapped-halts, both-passes}
use Rattle.vtl_grammar.proofs.EveryRule.{fits, takes}
use Rattle.vtl_grammar.proofs.PartLaws.{any_rule-explained, any_rule-passes}
use Rattle.vtl_grammar.proofs.Complete.{any_stop, Begins-append, Begins-apart, predictive, ends}
use Rattle.vtl_grammar.proofs.CompleteParts.{rules-read, rules-begin}
use Rattle.vtl_grammar.proofs.Agreement.{SamePieces, Agrees, then-agrees, mapped-agrees, both-agrees, cond-agrees, rules-agree}

-- ---- what the kinds keep, row by row

piece-fits : (k : PieceKind) → fits (piece_rule k) ≡ true
piece-fits a_statement = refl
piece-fits a_ruleset = refl
piece-fits an_operator = refl

piece-open : (k : PieceKind) → is_open (piece_rule k) ≡ true
piece-open a_statement = refl
piece-open a_ruleset = refl
piece-open an_operator = refl

piece-predictive : (k : PieceKind) → predictive (piece_rule k) ≡ true
piece-predictive a_statement = refl
piece-predictive a_ruleset = refl
piece-predictive an_operator = refl

piece-ends : (k : PieceKind) → ends (piece_rule k) ≡ []
piece-ends a_statement = refl
piece-ends a_ruleset = refl
piece-ends an_operator = refl

-- the sort of the first token
first_of : PieceKind → ℕ
first_of a_statement = 0
first_of a_ruleset = of_mark (key words.Define)
first_of an_operator = of_mark (key words.Define)

piece-takes : (k : PieceKind) → takes (first_of k) (piece_rule k) ≡ true
unfolding first_of
piece-takes a_statement = refl
piece-takes a_ruleset = refl
piece-takes an_operator = refl

not_lists : (k : PieceKind) → TooMany (limit_of k) ≡ TooMany lists → ⊥
not_lists a_statement e = cc
not_lists a_ruleset e = cc
not_lists an_operator e = cc

same-self : (k : PieceKind) → same_kind k k ≡ 1
same-self a_statement = refl
same-self a_ruleset = refl
same-self an_operator = refl

-- there are as many of a kind as of what is the same kind
same-left : (left : Left) (j k : PieceKind) → 1 ≤ left k → same_kind j k ≤ left j
same-left left a_statement a_statement le = le
same-left left a_ruleset a_ruleset le = le
same-left left an_operator an_operator le = le
same-left left _ _ le = omega arith

of_kind-length : (j : PieceKind) (p : Piece) → length (of_kind j p) ≡ same_kind j p.0
of_kind-length a_statement (a_statement, x) = refl
of_kind-length a_ruleset (a_ruleset, x) = refl
of_kind-length an_operator (an_operator, x) = refl
of_kind-length _ _ = refl

total-fewer : (left : Left) (k : PieceKind) → 1 ≤ left k → total (fewer k left) < total left
total-fewer left a_statement le = omega arith
total-fewer left a_ruleset le = omega arith
total-fewer left an_operator le = omega arith

all-length : (j : PieceKind) (p : Piece) (ps : List Piece) → length (all_of_kind j (p ∷ ps)) ≡ same_kind j p.0 + length (all_of_kind j ps)
all-length j p ps = let one = of_kind-length j p in omega (arith, one, length-append (of_kind j p) (all_of_kind j ps))

-- ---- pieces

-- a piece of that kind
abbrev pub SpellsPiece : PieceKind → Spelling Piece
SpellsPiece k L h p us = (p.0 ≡ k) × IsPiece L h p us

IsPiece-wider : (L L' : Counts) → IsMore L L' → (h h' : ℕ) → h ≤ h' → (p : Piece) (us : Tokens) → IsPiece L h p us → IsPiece L' h' p us
IsPiece-wider L L' more h h' le p us (v, is, s) = (v, is, (rule-grows (piece_rule p.0)).grows L L' h h' v us more le s)

IsPiece-no_tokens : (L : Counts) (h : ℕ) (p : Piece) → IsPiece L h p [] → ⊥
IsPiece-no_tokens L h p (v, is, s) = rule-no_tokens (piece_rule p.0) L h v s

piece-grows : (k : PieceKind) → IsGrowing (SpellsPiece k)
piece-grows k = record { grows = λ L L' h h' x us more le s. (s.0, IsPiece-wider L L' more h h' le x us s.1) }

piece-explained : (L : Counts) (d : ℕ) (k : PieceKind) (ts : Tokens) → Explains (read_piece L d k) (SpellsPiece k) L d (L lists) ts (read_piece L d k ts)
piece-explained L d k ts = mapped-explained (λ v. (k, piece_tree k v)) (read L (part_at L d) (piece_rule k)) (SpellsRule (piece_rule k)) (SpellsPiece k) L d (L lists) ts (λ L' h v us more s. (refl, (v, refl, s))) (read L (part_at L d) (piece_rule k) ts)
    (any_rule-explained L d (piece_rule k) (piece-fits k) ts)

piece-passes : (L : Counts) (d : ℕ) (k : PieceKind) → PassesSort (first_of k) (read_piece L d k)
piece-passes L d k t ts kind s h = any_rule-passes L d (piece_rule k) (piece-fits k) (first_of k) (piece-takes k) t ts kind s (mapped-halts (λ v. (k, piece_tree k v)) (read L (part_at L d) (piece_rule k) (t ∷ ts)) kind (t ∷ ts) h)

pub IsPieces-wider : (L L' : Counts) → IsMore L L' → (h h' : ℕ) → h ≤ h' → (ps : List Piece) (us : Tokens) → IsPieces L h ps us → IsPieces L' h' ps us
IsPieces-wider L L' more h h' le [] us s = s
IsPieces-wider L L' more h h' le (p ∷ ps) us (a, b, parts, s, t) = (a, b, parts, IsPiece-wider L L' more h h' le p a s, IsPieces-wider L L' more h h' le ps b t)

-- what comes after so many of each kind
abbrev pub SpellsPieces : Left → Spelling (List Piece)
SpellsPieces c L h ps us = ((j : PieceKind) → length (all_of_kind j ps) ≤ L (limit_of j) - c j) × IsPieces L h ps us

pieces-grow : (c : Left) → IsGrowing (SpellsPieces c)
pieces-grow c = record { grows = λ L L' h k ps us more le s. ((λ j. let m = more (limit_of j) in let n = s.0 j in omega arith), IsPieces-wider L L' more h k le ps us s.1) }

pieces-sample : (c : Left) → HasSample (SpellsPieces c)
pieces-sample c = record { value = []; tokens = []; spelled = λ L h. ((λ j. omega arith), refl) }

abbrev one_more : PieceKind → Left → Left
one_more k c j = c j + same_kind j k

-- c pieces came, and so many may still come
abbrev AreAll : Counts → Left → Left → Type 0
AreAll L c left = (j : PieceKind) → c j + left j ≡ L (limit_of j)

after_piece : (L : Counts) (c left : Left) (k : PieceKind) → AreAll L c left → 1 ≤ left k → (L' : Counts) (h : ℕ) (v : Piece × List Piece) (us : Tokens) → IsMore L L' → SpellsBoth (SpellsPiece k) (SpellsPieces (one_more k c)) L' h v us → SpellsPieces c L' h (cons v) us
after_piece L c left k all le L' h v us more (a, b, parts, (is, s), (few, t)) = (fewer_than, (a, b, parts, s, t))
  where
    fewer_than : (j : PieceKind) → length (all_of_kind j (cons v)) ≤ L' (limit_of j) - c j
    fewer_than j =
        let m = more (limit_of j) in
        let n = few j in
        let e = all j in
        let x = same-left left j k le in
        let y : length (all_of_kind j (cons v)) ≡ same_kind j k + length (all_of_kind j v.1) = subst (λ (i : PieceKind). length (all_of_kind j (cons v)) ≡ same_kind j i + length (all_of_kind j v.1)) is (all-length j v.0 v.1) in
        omega arith

all-fewer : (L : Counts) (c left : Left) (k : PieceKind) → AreAll L c left → 1 ≤ left k → AreAll L (one_more k c) (fewer k left)
all-fewer L c left k all le j = let e = all j in let x = same-left left j k le in omega arith

-- ---- one piece alone

abbrev suc_counts : Counts → Counts
suc_counts L j = suc (L j)

alone : (L : Counts) (d : ℕ) (c : Left) (k : PieceKind) (v : Of (piece_rule k)) (us : Tokens) → ((j : PieceKind) → same_kind j k ≤ L (limit_of j) - c j) → SpellsRule (piece_rule k) L d v us → SpellsPieces c L d ((k, piece_tree k v) ∷ []) us
alone L d c k v us few s = ((λ j. let n = few j in let e = all-length j (k, piece_tree k v) [] in omega arith), (us, [], sym (append-nil us), (v, refl, s), refl))

-- one too many of that kind
beyond : (L : Counts) (d : ℕ) (c left : Left) → AreAll L c left → (k : PieceKind) (front : Tokens) (t : Token) (v : Of (piece_rule k)) (more : Tokens) → SpellsRule (piece_rule k) (suc_counts L) d v (front ++ t ∷ more) → Further (SpellsPieces c) L d (TooMany (limit_of k)) front t
beyond L d c left all k front t v more s = record {
  counts = suc_counts L;
  levels = d;
  counts_more = λ j. omega arith;
  levels_more = omega arith;
  only = refl;
  value = (k, piece_tree k v) ∷ [];
  more = more;
  spelled = alone (suc_counts L) d c k v (front ++ t ∷ more) (λ j. let e = all j in let x = same-one j k in omega arith) s;
}
  where
    same-one : (j k : PieceKind) → same_kind j k ≤ 1
    same-one a_statement a_statement = omega arith
    same-one a_ruleset a_ruleset = omega arith
    same-one an_operator an_operator = omega arith
    same-one _ _ = omega arith

-- a definition that goes on with these two tokens
two-open : (g : Rule) → is_open (g ▸ semicolon) ≡ true → (L : Counts) (h : ℕ) (t u : Token) → sort_of t.what ≡ of_mark (key words.Define) → member (sort_of u.what) (firsts g) ≡ true → (v : Of (definition g)) × (more : Tokens) × SpellsRule (definition g) L h v (t ∷ u ∷ more)
two-open g is_open_so L h t u is e =
    let o = rule-opens (g ▸ semicolon) is_open_so L h u e in
    let first : nat_eq (sort_of t.what) (of_mark (key words.Define)) ≡ true = subst (λ (n : ℕ). nat_eq n (of_mark (key words.Define)) ≡ true) (sym is) (nat_eq-refl (of_mark (key words.Define))) in
    ((t.place, o.0), o.1, (t ∷ [], u ∷ o.1, refl, ap (λ (x : TokenKind). at x t.place ∷ []) (is_mark (key words.Define) t.what first), o.2))

kind-opens : (k : PieceKind) (L : Counts) (h : ℕ) (t u : Token) → sort_of t.what ≡ of_mark (key words.Define) → member (sort_of u.what) (kind_firsts k) ≡ true → (v : Of (piece_rule k)) × (more : Tokens) × SpellsRule (piece_rule k) L h v (t ∷ u ∷ more)
kind-opens a_statement L h t u is e = absurd cc
kind-opens a_ruleset L h t u is e = two-open ruleset_rule refl L h t u is e
kind-opens an_operator L h t u is e = two-open operator_rule refl L h t u is e

-- ---- the kind that begins

-- the same answer at other tokens
abbrev moved : {A : Type 0} → Tokens → Read A → Read A
moved us (Ok a) = got a.value a.levels us
moved us (Err e) = halt e.kind us

cond-moved : {A : Type 0} (us : Tokens) (b : Bool) (x x' y y' : Read A) → x' ≡ moved us x → y' ≡ moved us y → cond b x' y' ≡ moved us (cond b x y)
cond-moved us true x x' y y' one two = one
cond-moved us false x x' y y' one two = two

told-same : (left : Left) (ks : List PieceKind) (ts us : Tokens) → SameHead ts us → told left ks us ≡ moved us (told left ks ts)
told-same left [] ts us same = refl
told-same left (k ∷ ks) ts us same = subst (λ (b : Bool). cond b (counted left k us) (told left ks us) ≡ moved us (told left (k ∷ ks) ts)) (starts-same (kind_firsts k) ts us same)
    (cond-moved us (starts (kind_firsts k) ts) (counted left k ts) (counted left k us) (told left ks ts) (told left ks us) (cond-moved us (nat_lt 0 (left k)) (got k 0 ts) (got k 0 us) (halt (TooMany (limit_of k)) ts) (halt (TooMany (limit_of k)) us) refl refl) (told-same left ks ts us same))

-- what is told by the word after `define`
abbrev IsWhy : Left → Tokens → Kind → Type 0
IsWhy left ts Expected = Unit {0}
IsWhy left ts (TooMany l) = (k : PieceKind) × (l ≡ limit_of k) × (starts (kind_firsts k) ts ≡ true)
IsWhy left ts _ = ⊥

abbrev IsTold : Left → Tokens → Read PieceKind → Type 0
IsTold left ts (Ok a) = (1 ≤ left a.value) × (starts (kind_firsts a.value) ts ≡ true)
IsTold left ts (Err e) = (e.rest ≡ ts) × IsWhy left ts e.kind

is-counted : (left : Left) (k : PieceKind) (ts : Tokens) → starts (kind_firsts k) ts ≡ true → IsTold left ts (counted left k ts)
is-counted left k ts e = by_test (λ b. IsTold left ts (cond b (got k 0 ts) (halt (TooMany (limit_of k)) ts))) (nat_lt 0 (left k)) (λ lt. ((let x : 0 < left k = ltb-true _ _ lt in omega arith), e)) (λ full. (refl, (k, refl, e)))

is-told : (left : Left) (ks : List PieceKind) (ts : Tokens) → IsTold left ts (told left ks ts)
is-told left [] ts = (refl, tt)
is-told left (k ∷ ks) ts = by_test (λ b. starts (kind_firsts k) ts ≡ b → IsTold left ts (cond b (counted left k ts) (told left ks ts))) (starts (kind_firsts k) ts) (λ q e. is-counted left k ts e) (λ q e. is-told left ks ts) refl

-- only definitions begin with `define`
defined-first : (k : PieceKind) (ts : Tokens) → starts (kind_firsts k) ts ≡ true → first_of k ≡ of_mark (key words.Define)
unfolding first_of
defined-first a_statement [] e = absurd cc
defined-first a_statement (t ∷ ts) e = absurd cc
defined-first a_ruleset ts e = refl
defined-first an_operator ts e = refl

any-left : (left : Left) → any_left left definitions ≡ true → (k : PieceKind) × (1 ≤ left k) × (firsts (piece_rule k) ≡ definition_firsts)
any-left left = by_test (λ b. cond b true (cond (nat_lt 0 (left an_operator)) true false) ≡ true → (k : PieceKind) × (1 ≤ left k) × (firsts (piece_rule k) ≡ definition_firsts)) (nat_lt 0 (left a_ruleset))
    (λ lt e. (a_ruleset, (let x : 0 < left a_ruleset = ltb-true _ _ lt in omega arith), refl))
    (λ none. by_test (λ b. cond b true false ≡ true → (k : PieceKind) × (1 ≤ left k) × (firsts (piece_rule k) ≡ definition_firsts)) (nat_lt 0 (left an_operator))
    (λ lt e. (an_operator, (let x : 0 < left an_operator = ltb-true _ _ lt in omega arith), refl)) (λ no e. absurd cc))

-- ---- nothing is left after what is read

abbrev NothingLeft : Read (List Piece) → Type 0
NothingLeft (Ok a) = a.rest ≡ []
NothingLeft (Err e) = Unit {0}

then-left : {A : Type 0} (x : Read A) (f : Got A → Read (List Piece)) → ((a : Got A) → NothingLeft (f a)) → NothingLeft (x >>= f)
then-left (Ok a) f h = h a
then-left (Err e) f h = tt

by_second : (a : Got Piece) (y : Read (List Piece)) → NothingLeft y → NothingLeft (mapped cons (y >>= λ b. got (a.value, b.value) (max a.levels b.levels) b.rest))
by_second a (Ok b) e = e
by_second a (Err d) e = tt

piece_left : (x : Read Piece) (q : Reader (List Piece)) → ((us : Tokens) → NothingLeft (q us)) → NothingLeft (mapped cons (x >>= λ a. q a.rest >>= λ b. got (a.value, b.value) (max a.levels b.levels) b.rest))
piece_left (Ok a) q h = by_second a (q a.rest) (h a.rest)
piece_left (Err e) q h = tt

-- a piece of that kind, and those after it
abbrev piece_and_more : Counts → (d f : ℕ) → Left → PieceKind → Reader (List Piece)
piece_and_more L d f left k us = mapped cons (both (read_piece L d k) (read_pieces L d f (fewer k left)) us)

nothing_left : (L : Counts) (d f : ℕ) (left : Left) (ts : Tokens) → NothingLeft (read_pieces L d f left ts)
nothing_left L d f left [] = refl
nothing_left L d zero left (t ∷ ts) = tt
nothing_left L d (suc f) left (t ∷ ts) = then-left (kind_at left (t ∷ ts)) (λ k. piece_and_more L d f left k.value (t ∷ ts))
    (λ k. piece_left (read_piece L d k.value (t ∷ ts)) (read_pieces L d f (fewer k.value left)) (λ us. nothing_left L d f (fewer k.value left) us))

pub all-read : (L : Counts) (d f : ℕ) (left : Left) (ts : Tokens) (a : Got (List Piece)) → read_pieces L d f left ts ≡ Ok a → a.rest ≡ []
all-read L d f left ts a is = subst NothingLeft is (nothing_left L d f left ts)

-- ---- what is read, and what is refused

abbrev PiecesLaw : Counts → ℕ → ℕ → Type 0
PiecesLaw L d f = (c left : Left) → AreAll L c left → total left < f → (ts : Tokens) → Explains (read_pieces L d f left) (SpellsPieces c) L d (L lists) ts (read_pieces L d f left ts)

module _ (L : Counts) (d f : ℕ) (law : PiecesLaw L d f) (c left : Left) (all : AreAll L c left) (fuel : total left < suc f) (t : Token) (ts : Tokens) where
  abbrev whole : Reader (List Piece)
  whole = read_pieces L d (suc f) left

  abbrev Explained : Read (List Piece) → Type 0
  Explained x = Explains whole (SpellsPieces c) L d (L lists) (t ∷ ts) x

  module _ (k : PieceKind) (le : 1 ≤ left k) (first : sort_of t.what ≡ first_of k) (same : (us : Tokens) → SameHead ts us → whole (t ∷ us) ≡ piece_and_more L d f left k (t ∷ us)) where
    later : (us : Tokens) → Explains (read_pieces L d f (fewer k left)) (SpellsPieces (one_more k c)) L d (L lists) us (read_pieces L d f (fewer k left) us)
    later us = law (one_more k c) (fewer k left) (all-fewer L c left k all le) (let x = total-fewer left k le in omega arith) us

    piece_explained : Explains (piece_and_more L d f left k) (SpellsPieces c) L d (L lists) (t ∷ ts) (piece_and_more L d f left k (t ∷ ts))
    piece_explained = mapped-explained cons (both (read_piece L d k) (read_pieces L d f (fewer k left))) (SpellsBoth (SpellsPiece k) (SpellsPieces (one_more k c))) (SpellsPieces c) L d (L lists) (t ∷ ts) (after_piece L c left k all le)
        (both (read_piece L d k) (read_pieces L d f (fewer k left)) (t ∷ ts))
        (both-explained (read_piece L d k) (read_pieces L d f (fewer k left)) (SpellsPiece k) (SpellsPieces (one_more k c)) L d (L lists) (L lists) (L lists) (t ∷ ts) (piece-grows k) (pieces-grow (one_more k c)) (pieces-sample (one_more k c)) (omega arith) (λ h x us s. omega arith)
        (piece-explained L d k (t ∷ ts)) later)

    stays_not : (kind : Kind) → piece_and_more L d f left k (t ∷ ts) ≡ halt kind (t ∷ ts) → ⊥
    stays_not kind h = both-passes (read_piece L d k) (read_pieces L d f (fewer k left)) (SpellsPiece k) (SpellsPieces (one_more k c)) L d (L lists) (L lists) (piece-explained L d k) later (λ h x s. IsPiece-no_tokens L h x s.1) (first_of k) (piece-passes L d k) t ts kind first
        (mapped-halts cons (both (read_piece L d k) (read_pieces L d f (fewer k left)) (t ∷ ts)) kind (t ∷ ts) h)

    again_there : (front rest : Tokens) → t ∷ ts ≡ front ++ rest → (front ≡ [] → ⊥) → (more : Tokens) → SameHead rest more → whole (front ++ more) ≡ piece_and_more L d f left k (front ++ more)
    again_there [] rest parts some more s = absurd (some refl)
    again_there (u ∷ front) rest parts some more s =
        let head : t ≡ u = cc in
        let tail : ts ≡ front ++ rest = cc in
        subst (λ (x : Token). whole (x ∷ (front ++ more)) ≡ piece_and_more L d f left k (x ∷ (front ++ more))) head (same (front ++ more) (subst (λ (us : Tokens). SameHead us (front ++ more)) (sym tail) (SameHead-append front rest more s)))

    there : (x : Read (List Piece)) → piece_and_more L d f left k (t ∷ ts) ≡ x → NothingLeft x → Explains (piece_and_more L d f left k) (SpellsPieces c) L d (L lists) (t ∷ ts) x → Explained x
    there (Ok a) is none e =
        let some : e.front ≡ [] → ⊥ = λ z. let p : t ∷ ts ≡ [] = e.parts ∙ ap (λ (us : Tokens). us ++ a.rest) z ∙ none in cc in
        record { front = e.front; parts = e.parts; low = e.low; spelled = e.spelled; again = λ (more : Tokens) s. again_there e.front a.rest e.parts some more s ∙ e.again more s }
    there (Err b) is none e =
        let some : e.front ≡ [] → ⊥ = λ z. let p : t ∷ ts ≡ b.rest = e.parts ∙ ap (λ (us : Tokens). us ++ b.rest) z in stays_not b.kind (is ∙ ap (halt b.kind) (sym p)) in
        record { front = e.front; parts = e.parts; goes_on = e.goes_on; beyond = e.beyond; long = e.long; again = λ (more : Tokens) s. again_there e.front b.rest e.parts some more s ∙ e.again more s }

    chosen : Explained (whole (t ∷ ts))
    chosen = subst Explained (sym (same ts (SameHead-refl ts))) (there (piece_and_more L d f left k (t ∷ ts)) refl (piece_left (read_piece L d k (t ∷ ts)) (read_pieces L d f (fewer k left)) (λ us. nothing_left L d f (fewer k left) us)) piece_explained)

  -- no more of that kind may come
  full : (k : PieceKind) (v : Of (piece_rule k)) (more : Tokens) → SpellsRule (piece_rule k) (suc_counts L) d v (t ∷ more) → ((us : Tokens) → whole (t ∷ us) ≡ halt (TooMany (limit_of k)) (t ∷ us)) → Explained (whole (t ∷ ts))
  full k v more s h = subst Explained (sym (h ts)) (record {
    front = [];
    parts = refl;
    goes_on = inl refl;
    beyond = inr (beyond L d c left all k [] t v more s);
    long = λ e. absurd (not_lists k e);
    again = λ (rest : Tokens) same. refuses_head (TooMany (limit_of k)) whole t ts rest same h;
  })

  by_statement : member (sort_of t.what) statement_firsts ≡ true → (b : Bool) → nat_lt 0 (left a_statement) ≡ b → Explained (whole (t ∷ ts))
  unfolding first_of
  by_statement e true room = chosen a_statement (let x : 0 < left a_statement = ltb-true _ _ room in omega arith) (eqb-true _ _ (member-one (sort_of t.what) 0 e)) (λ us same. rw (e, room) refl)
  by_statement e false none = let o = rule-opens (piece_rule a_statement) (piece-open a_statement) (suc_counts L) d t e in full a_statement o.0 o.1 o.2 (λ us. rw (e, none) refl)

  module _ (no : member (sort_of t.what) statement_firsts ≡ false) (is_define : member (sort_of t.what) definition_firsts ≡ true) where
    define_sort : sort_of t.what ≡ of_mark (key words.Define)
    define_sort = eqb-true _ _ (member-one (sort_of t.what) (of_mark (key words.Define)) is_define)

    module _ (some : any_left left definitions ≡ true) where
      goes : Goes (SpellsPieces c) L d (t ∷ [])
      goes =
          let k = any-left left some in
          let o = rule-opens (piece_rule k.0) (piece-open k.0) L d t (subst (λ (ks : List ℕ). member (sort_of t.what) ks ≡ true) (sym k.2) is_define) in
          inr (o.1, (k.0, piece_tree k.0 o.0) ∷ [], alone L d c k.0 o.0 (t ∷ o.1) (λ j. let e = all j in let x = same-left left j k.0 k.1 in omega arith) o.2)

      beyond_second : (kind : Kind) (us : Tokens) → IsWhy left us kind → Beyond (SpellsPieces c) L d kind (t ∷ []) us
      beyond_second Expected [] w = refl
      beyond_second Expected (u ∷ us) w = inl refl
      beyond_second (TooMany l) [] (k, is, e) = absurd cc
      beyond_second (TooMany l) (u ∷ us) (k, is, e) =
          let o = kind-opens k (suc_counts L) d t u define_sort e in
          inr (subst (λ (j : Limit). Further (SpellsPieces c) L d (TooMany j) (t ∷ []) u) (sym is) (beyond L d c left all k (t ∷ []) u o.0 o.1 o.2))
      beyond_second _ us w = absurd w

      not_long : (kind : Kind) (us : Tokens) → IsWhy left us kind → kind ≡ TooMany lists → ⊥
      not_long Expected us w e = cc
      not_long (TooMany l) us (k, is, begins) e = not_lists k (ap TooMany (sym is) ∙ e)
      not_long _ us w e = w

      opens : (us : Tokens) → kind_at left (t ∷ us) ≡ told left definitions us
      opens us = rw (no, is_define, some) refl

      by_told : (x : Read PieceKind) → told left definitions ts ≡ x → IsTold left ts x → Explained (whole (t ∷ ts))
      by_told (Ok a) is (le, begins) = chosen a.value le (define_sort ∙ sym (defined-first a.value ts begins))
          (λ us same. let e : kind_at left (t ∷ us) ≡ got a.value a.levels us = opens us ∙ told-same left definitions ts us same ∙ ap (moved us) is in rw e refl)
      by_told (Err b) is (rest, why) =
          let halts : (us : Tokens) → SameHead ts us → whole (t ∷ us) ≡ halt b.kind us = λ us same. let e : kind_at left (t ∷ us) ≡ halt b.kind us = opens us ∙ told-same left definitions ts us same ∙ ap (moved us) is in rw e refl in
          subst Explained (sym (halts ts (SameHead-refl ts))) (record {
            front = t ∷ [];
            parts = refl;
            goes_on = goes;
            beyond = beyond_second b.kind ts why;
            long = λ e. absurd (not_long b.kind ts why e);
            again = λ (us : Tokens) same. halts us same;
          })

    by_define : (b : Bool) → any_left left definitions ≡ b → Explained (whole (t ∷ ts))
    by_define true some = by_told some (told left definitions ts) refl (is-told left definitions ts)
    by_define false none =
        let o = rule-opens (piece_rule a_ruleset) (piece-open a_ruleset) (suc_counts L) d t is_define in
        full a_ruleset o.0 o.1 o.2 (λ us. rw (no, is_define, none) refl)

  by_first : (b b' : Bool) → member (sort_of t.what) statement_firsts ≡ b → member (sort_of t.what) definition_firsts ≡ b' → Explained (whole (t ∷ ts))
  by_first true b' is is' = by_statement is (nat_lt 0 (left a_statement)) refl
  by_first false true is is' = by_define is is' (any_left left definitions) refl
  by_first false false is is' =
      let h : (us : Tokens) → whole (t ∷ us) ≡ halt Expected (t ∷ us) = λ us. rw (is, is') refl in
      subst Explained (sym (h ts)) (refused whole (SpellsPieces c) L d (L lists) (t ∷ ts) (λ rest same. refuses_head Expected whole t ts rest same h))

at_end : (L : Counts) (d f : ℕ) (left c : Left) → Explains (read_pieces L d f left) (SpellsPieces c) L d (L lists) [] (got [] 0 [])
at_end L d f left c = record { front = []; parts = refl; low = omega arith; spelled = ((λ j. omega arith), refl); again = nothing_more }
  where
    nothing_more : (rest : Tokens) → SameHead [] rest → read_pieces L d f left rest ≡ got [] 0 rest
    nothing_more [] s = refl
    nothing_more (u ∷ us) s = absurd s

pub pieces-explained : (L : Counts) (d f : ℕ) → PiecesLaw L d f
pieces-explained L d f c left all fuel [] = at_end L d f left c
pieces-explained L d zero c left all fuel (t ∷ ts) = absurd (omega arith)
pieces-explained L d (suc f) c left all fuel (t ∷ ts) = by_first L d f (λ c' left' all' fuel' us. pieces-explained L d f c' left' all' fuel' us) c left all fuel t ts (member (sort_of t.what) statement_firsts) (member (sort_of t.what) definition_firsts) refl refl

-- ---- what is a script is read

kind-counted : (left : Left) (k : PieceKind) (us : Tokens) → 1 ≤ left k → counted left k us ≡ got k 0 us
kind-counted left k us le = let room : nat_lt 0 (left k) ≡ true = lt-ltb 0 (left k) (omega arith) in rw room refl

any-room : (left : Left) (k : PieceKind) → firsts (piece_rule k) ≡ definition_firsts → 1 ≤ left k → any_left left definitions ≡ true
any-room left a_statement e le = cc
any-room left a_ruleset e le = let room : nat_lt 0 (left a_ruleset) ≡ true = lt-ltb 0 (left a_ruleset) (omega arith) in rw room refl
any-room left an_operator e le = by_test (λ b. cond b true (cond (nat_lt 0 (left an_operator)) true false) ≡ true) (nat_lt 0 (left a_ruleset)) (λ q. refl)
    (λ q. let room : nat_lt 0 (left an_operator) ≡ true = lt-ltb 0 (left an_operator) (omega arith) in rw room refl)

told-ruleset : (left : Left) (us : Tokens) → 1 ≤ left a_ruleset → starts (firsts ruleset_rule) us ≡ true → told left definitions us ≡ got a_ruleset 0 us
told-ruleset left us le e = let room = kind-counted left a_ruleset us le in rw e room

told-operator : (left : Left) (us : Tokens) → 1 ≤ left an_operator → starts (firsts operator_rule) us ≡ true → told left definitions us ≡ got an_operator 0 us
told-operator left us le e =
    let room = kind-counted left an_operator us le in
    let no : starts (firsts ruleset_rule) us ≡ false = Begins-apart (firsts operator_rule) (firsts ruleset_rule) us refl e in
    rw (no, e) room

-- a definition's kind is told by its second token
kind-defined : (L : Counts) (d : ℕ) (left : Left) (k : PieceKind) (g : Rule) → firsts (piece_rule k) ≡ definition_firsts → 1 ≤ left k → ((us : Tokens) → starts (firsts g) us ≡ true → told left definitions us ≡ got k 0 us) → (v : Of (definition g)) (a b : Tokens)
    → Spells L (IsPart L d) (definition g) v a → (w : Read PieceKind) × (kind_at left (a ++ b) ≡ w) × ((h : ℕ) × (us : Tokens) × (w ≡ got k h us))
kind-defined L d left k g first le tells v a b (x, y, parts, s, t) =
    let begins : starts (firsts (g ▸ semicolon)) (y ++ b) ≡ true = Begins-append (firsts g) y b (rules-begin L d (g ▸ semicolon) v.1 y t) in
    let some = any-room left k first le in
    let whole : a ++ b ≡ at (kind_of (key words.Define)) v.0 ∷ (y ++ b) = ap (λ (us : Tokens). us ++ b) parts ∙ ap (λ (us : Tokens). (us ++ y) ++ b) s in
    let opens : kind_at left (at (kind_of (key words.Define)) v.0 ∷ (y ++ b)) ≡ told left definitions (y ++ b) = rw some refl in
    (kind_at left (a ++ b), refl, (0, y ++ b, ap (kind_at left) whole ∙ opens ∙ tells (y ++ b) begins))

piece-kind : (L : Counts) (d : ℕ) (left : Left) (k : PieceKind) → 1 ≤ left k → (v : Of (piece_rule k)) (a b : Tokens) → Spells L (IsPart L d) (piece_rule k) v a → (h : ℕ) × (us : Tokens) × (kind_at left (a ++ b) ≡ got k h us)
piece-kind L d left a_statement le v a b s =
    let begins : starts statement_firsts (a ++ b) ≡ true = Begins-append statement_firsts a b (rules-begin L d (piece_rule a_statement) v a s) in
    (0, a ++ b, by_name (a ++ b) begins)
  where
    by_name : (us : Tokens) → starts statement_firsts us ≡ true → kind_at left us ≡ got a_statement 0 us
    by_name [] e = absurd cc
    by_name (t ∷ us) e = let room = kind-counted left a_statement (t ∷ us) le in rw e room
piece-kind L d left a_ruleset le v a b s = let w = kind-defined L d left a_ruleset ruleset_rule refl le (λ us e. told-ruleset left us le e) v a b s in (w.2.0, w.2.1, w.1 ∙ w.2.2)
piece-kind L d left an_operator le v a b s = let w = kind-defined L d left an_operator operator_rule refl le (λ us e. told-operator left us le e) v a b s in (w.2.0, w.2.1, w.1 ∙ w.2.2)

piece-read : (L : Counts) (d : ℕ) (p : Piece) (a b : Tokens) → IsPiece L d p a → (h : ℕ) × (read_piece L d p.0 (a ++ b) ≡ got p h b)
piece-read L d p a b (v, is, s) =
    let one = rules-read L d d (piece_rule p.0) (omega arith) (piece-predictive p.0) v a b s (subst (λ (ks : List ℕ). starts ks b ≡ false) (sym (piece-ends p.0)) (any_stop b)) in
    let e = one.2 in
    let seen : read_piece L d p.0 (a ++ b) ≡ got (p.0, piece_tree p.0 v) one.0 b = rw e refl in
    (one.0, seen ∙ ap (λ x. got (let q : Piece = (p.0, x) in q) one.0 b) (sym is))

some_first : (L : Counts) (d : ℕ) (p : Piece) (a b : Tokens) → IsPiece L d p a → (t : Token) × (us : Tokens) × (a ++ b ≡ t ∷ us)
some_first L d p [] b s = absurd (IsPiece-no_tokens L d p s)
some_first L d p (t ∷ a) b s = (t, a ++ b, refl)

opened : (L : Counts) (d f : ℕ) (left : Left) (k : PieceKind) (h : ℕ) (vs us : Tokens) → (t : Token) × (ws : Tokens) × (us ≡ t ∷ ws) → kind_at left us ≡ got k h vs → read_pieces L d (suc f) left us ≡ piece_and_more L d f left k us
opened L d f left k h vs us (t, ws, is) e =
    let at_token : kind_at left (t ∷ ws) ≡ got k h vs = ap (kind_at left) (sym is) ∙ e in
    let goes : read_pieces L d (suc f) left (t ∷ ws) ≡ piece_and_more L d f left k (t ∷ ws) = rw at_token refl in
    ap (read_pieces L d (suc f) left) is ∙ goes ∙ ap (piece_and_more L d f left k) (sym is)

pub pieces-read : (L : Counts) (d f : ℕ) (left : Left) → total left < f → (ps : List Piece) (us : Tokens) → ((j : PieceKind) → length (all_of_kind j ps) ≤ left j) → IsPieces L d ps us → (h : ℕ) × (read_pieces L d f left us ≡ got ps h [])
pieces-read L d f left fuel [] us few s = (0, ap (read_pieces L d f left) s)
pieces-read L d zero left fuel (p ∷ ps) us few s = absurd (omega arith)
pieces-read L d (suc f) left fuel (p ∷ ps) us few (a, b, parts, s, t) =
    let le : 1 ≤ left p.0 = (let n = few p.0 in let e = all-length p.0 p ps in let z = same-self p.0 in omega arith) in
    let kind = piece-kind L d left p.0 le s.0 a b s.2 in
    let one = piece-read L d p a b s in
    let two = pieces-read L d f (fewer p.0 left) (let x = total-fewer left p.0 le in omega arith) ps b (λ j. let n = few j in let e = all-length j p ps in omega arith) t in
    let e = one.1 in
    let g = two.1 in
    let both_read : piece_and_more L d f left p.0 (a ++ b) ≡ got (p ∷ ps) (max one.0 two.0) [] = rw (e, g) refl in
    (max one.0 two.0, ap (read_pieces L d (suc f) left) parts ∙ opened L d f left p.0 kind.0 kind.1 (a ++ b) (some_first L d p a b s) kind.2 ∙ both_read)

-- ---- higher limits agree

module _ (L L' : Counts) (more : IsMore L L') (D : Type 0) (d d' : ℕ) (le : d ≤ d') (same : D → d ≡ d') where
  module _ (left left' : Left) (up : (j : PieceKind) → left j ≤ left' j) (alike : SamePieces L L' → (j : PieceKind) → left j ≡ left' j) where
    counted-agrees : (k : PieceKind) (ts : Tokens) → Agrees L L' more D (counted left k ts) (counted left' k ts)
    counted-agrees k ts = by_room (nat_lt 0 (left k)) (nat_lt 0 (left' k)) refl refl
      where
        by_room : (b b' : Bool) → nat_lt 0 (left k) ≡ b → nat_lt 0 (left' k) ≡ b' → Agrees L L' more D (cond b (got k 0 ts) (halt (TooMany (limit_of k)) ts)) (cond b' (got k 0 ts) (halt (TooMany (limit_of k)) ts))
        by_room true true is is' = refl
        by_room true false is is' = let x : 0 < left k = ltb-true _ _ is in let y = up k in let z : nat_lt 0 (left' k) ≡ true = lt-ltb 0 (left' k) (omega arith) in absurd cc
        by_room false true is is' = λ s. let e : left k ≡ left' k = alike s.1 k in let z : nat_lt 0 (left k) ≡ true = ap (nat_lt 0) e ∙ is' in absurd cc
        by_room false false is is' = λ s. refl

    told-agrees : (ks : List PieceKind) (ts : Tokens) → Agrees L L' more D (told left ks ts) (told left' ks ts)
    told-agrees [] ts = λ s. refl
    told-agrees (k ∷ ks) ts = cond-agrees L L' more D (starts (kind_firsts k) ts) (counted left k ts) (counted left' k ts) (told left ks ts) (told left' ks ts) (counted-agrees k ts) (told-agrees ks ts)

    any-more : (ks : List PieceKind) → any_left left ks ≡ true → any_left left' ks ≡ true
    any-more [] e = e
    any-more (k ∷ ks) e = by_test (λ b. nat_lt 0 (left k) ≡ b → cond b true (any_left left ks) ≡ true → any_left left' (k ∷ ks) ≡ true) (nat_lt 0 (left k))
        (λ q is h. let x : 0 < left k = ltb-true _ _ is in let y = up k in let z : nat_lt 0 (left' k) ≡ true = lt-ltb 0 (left' k) (omega arith) in rw z refl)
        (λ q is h. let z = any-more ks h in by_test (λ b. cond b true (any_left left' ks) ≡ true) (nat_lt 0 (left' k)) (λ w. refl) (λ w. z)) refl e

    any-same : SamePieces L L' → (ks : List PieceKind) → any_left left ks ≡ any_left left' ks
    any-same s [] = refl
    any-same s (k ∷ ks) = let e = alike s k in let z = any-same s ks in ap (λ (n : ℕ). cond (nat_lt 0 n) true (any_left left ks)) e ∙ ap (λ (b : Bool). cond (nat_lt 0 (left' k)) true b) z

    define-agrees : (t : Token) (ts : Tokens) (b b' : Bool) → any_left left definitions ≡ b → any_left left' definitions ≡ b'
        → Agrees L L' more D (cond b (told left definitions ts) (halt (TooMany rulesets) (t ∷ ts))) (cond b' (told left' definitions ts) (halt (TooMany rulesets) (t ∷ ts)))
    define-agrees t ts true true is is' = told-agrees definitions ts
    define-agrees t ts true false is is' = let z = any-more definitions is in absurd cc
    define-agrees t ts false true is is' = λ s. let z : any_left left definitions ≡ true = any-same s.1 definitions ∙ is' in absurd cc
    define-agrees t ts false false is is' = λ s. refl

    kind-agrees : (t : Token) (ts : Tokens) → Agrees L L' more D (kind_at left (t ∷ ts)) (kind_at left' (t ∷ ts))
    kind-agrees t ts = cond-agrees L L' more D (member (sort_of t.what) statement_firsts) (counted left a_statement (t ∷ ts)) (counted left' a_statement (t ∷ ts)) _ _ (counted-agrees a_statement (t ∷ ts))
        (cond-agrees L L' more D (member (sort_of t.what) definition_firsts) _ _ (halt Expected (t ∷ ts)) (halt Expected (t ∷ ts)) (define-agrees t ts (any_left left definitions) (any_left left' definitions) refl refl) (λ s. refl))

  -- what is told may still come
  IsLeft : Left → Read PieceKind → Type 0
  IsLeft left (Ok a) = 1 ≤ left a.value
  IsLeft left (Err e) = Unit {0}

  told-left : (left : Left) (ts : Tokens) (x : Read PieceKind) → IsTold left ts x → IsLeft left x
  unfolding IsLeft
  told-left left ts (Ok a) w = w.0
  told-left left ts (Err e) w = tt

  cond-left : (left : Left) (b : Bool) (x y : Read PieceKind) → IsLeft left x → IsLeft left y → IsLeft left (cond b x y)
  cond-left left true x y p q = p
  cond-left left false x y p q = q

  kind-left : (left : Left) (t : Token) (ts : Tokens) → IsLeft left (kind_at left (t ∷ ts))
  unfolding IsLeft
  kind-left left t ts = cond-left left (member (sort_of t.what) statement_firsts) (counted left a_statement (t ∷ ts)) _
      (by_test (λ b. IsLeft left (cond b (got a_statement 0 (t ∷ ts)) (halt (TooMany (limit_of a_statement)) (t ∷ ts)))) (nat_lt 0 (left a_statement)) (λ lt. let x : 0 < left a_statement = ltb-true _ _ lt in omega arith) (λ no. tt))
      (cond-left left (member (sort_of t.what) definition_firsts) _ (halt Expected (t ∷ ts)) (cond-left left (any_left left definitions) (told left definitions ts) (halt (TooMany rulesets) (t ∷ ts)) (told-left left ts (told left definitions ts) (is-told left definitions ts)) tt) tt)

  piece-agrees : (k : PieceKind) (us : Tokens) → Agrees L L' more D (read_piece L d k us) (read_piece L' d' k us)
  piece-agrees k us = mapped-agrees L L' more D (λ v. (k, piece_tree k v)) (read L (part_at L d) (piece_rule k) us) (read L' (part_at L' d') (piece_rule k) us) (rules-agree L L' more D d d' le same (piece_rule k) us)

  pub pieces-agree : (f f' : ℕ) (left left' : Left) → total left < f → total left' < f' → ((j : PieceKind) → left j ≤ left' j) → (SamePieces L L' → (j : PieceKind) → left j ≡ left' j) → (ts : Tokens) → Agrees L L' more D (read_pieces L d f left ts) (read_pieces L' d' f' left' ts)
  unfolding IsLeft
  pieces-agree f f' left left' fuel fuel' up alike [] = refl
  pieces-agree zero f' left left' fuel fuel' up alike (t ∷ ts) = absurd (omega arith)
  pieces-agree (suc f) zero left left' fuel fuel' up alike (t ∷ ts) = absurd (omega arith)
  pieces-agree (suc f) (suc f') left left' fuel fuel' up alike (t ∷ ts) =
      then-agrees L L' more D (λ k. piece_and_more L d f left k.value (t ∷ ts)) (λ k. piece_and_more L' d' f' left' k.value (t ∷ ts)) (kind_at left (t ∷ ts)) (kind_at left' (t ∷ ts))
      (λ k is.
      let one : 1 ≤ left k.value = subst (IsLeft left) is (kind-left left t ts) in
      let one' : 1 ≤ left' k.value = (let u = up k.value in omega arith) in
      mapped-agrees L L' more D cons (both (read_piece L d k.value) (read_pieces L d f (fewer k.value left)) (t ∷ ts)) (both (read_piece L' d' k.value) (read_pieces L' d' f' (fewer k.value left')) (t ∷ ts))
      (both-agrees L L' more D (read_piece L d k.value) (read_piece L' d' k.value) (read_pieces L d f (fewer k.value left)) (read_pieces L' d' f' (fewer k.value left')) (t ∷ ts) (piece-agrees k.value (t ∷ ts))
      (λ us. pieces-agree f f' (fewer k.value left) (fewer k.value left') (let x = total-fewer left k.value one in omega arith) (let x = total-fewer left' k.value one' in omega arith) (λ j. let u = up j in omega arith) (λ s j. let e = alike s j in ap (λ (n : ℕ). n - same_kind j k.value) e) us)))
      (kind-agrees left left' up alike t ts)

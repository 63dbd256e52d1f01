-- Reading from left to right, by one token at a time and two before a name with a colon or a component.
use Rattle.std.specs.Prelude.{ℕ, zero, suc, ℤ, max, List, [], ◌∷◌, ◌++◌, map, Bool, true, false, ◌&&◌, Option, Some, None, Result, Ok, Err, nat_eq, nat_lt, nat_le, if◌then◌else◌}
use Rattle.std.proofs.Common.{inl, inr}
use Rattle.vtl_values.specs.declared.place.Place.{Place}
use Rattle.vtl_tokens.specs.declared.token.TokenKind.{TokenKind}
use Rattle.vtl_tokens.specs.declared.token.TokenKind.TheVariants as what
use Rattle.vtl_tokens.specs.declared.token.Token.{Token}
use Rattle.vtl_tokens.specs.declared.keyword.Keyword.TheVariants as words
use Rattle.vtl_tokens.specs.declared.sign.Sign.TheVariants as signs
use Rattle.vtl_syntax.specs.declared.expr.Expr.{Expr}
use Rattle.vtl_syntax.specs.declared.expr.Clause.{Clause}
use Rattle.vtl_grammar.specs.Marks.{Mark, key, sign, Tokens, of_mark, sort_of, mark_in}
use Rattle.vtl_grammar.specs.Rules.{Rule, mark, name, integer, number, text, part, ◌▸◌, option, suffix, either, repeated, prefixed, here, Prefix, label, component, Part, OfPart, expression, clause, JoinPart, filtering, calculating, keeping, renaming, Limit, Counts, Of, At, Text, first_place}
use Rattle.vtl_grammar.specs.Clauses.{join_part_rule, join_part_tree}
use Rattle.vtl_grammar.specs.Calls.{Form}
use Rattle.vtl_grammar.specs.Forms.{Tail, form_of, tail_of, leaf_in, leaf_precedence}

-- why reading stops: no script of any limits goes on, or a limit is passed
pub data Kind : Type 0 where
  Expected : Kind
  TooDeep : Kind
  TooMany : Limit → Kind

-- what was read, how many levels it has, and the tokens after it
pub record Got (A : Type 0) : Type 0 where
  pub value : A
  pub levels : ℕ
  pub rest : Tokens

-- a fault at the first token of the rest
pub record Halt : Type 0 where
  pub kind : Kind
  pub rest : Tokens

abbrev pub Read : Type 0 → Type 0
Read A = Result (Got A) Halt

abbrev pub Reader : Type 0 → Type 0
Reader A = Tokens → Read A

abbrev pub halt : {A : Type 0} → Kind → Tokens → Read A
halt k ts = Err (record { kind = k; rest = ts })

abbrev pub got : {A : Type 0} → A → ℕ → Tokens → Read A
got x h ts = Ok (record { value = x; levels = h; rest = ts })

infixl 10 ◌>>=◌
abbrev pub ◌>>=◌ : {A B : Type 0} → Read A → (Got A → Read B) → Read B
(Ok x) >>= f = f x
(Err e) >>= f = Err e

-- ---- the tokens with which something begins

abbrev pub member : ℕ → List ℕ → Bool
member k [] = false
member k (x ∷ xs) = if nat_eq k x then true else member k xs

abbrev pub starts : List ℕ → Tokens → Bool
starts ks [] = false
starts ks (t ∷ ts) = member (sort_of t.what) ks

-- the sorts with which an expression of any precedence begins
abbrev pub heads_of_all : List ℕ
heads_of_all = 0 ∷ 1 ∷ 2 ∷ 3 ∷ map of_mark (key words.True ∷ key words.False ∷ key words.Null ∷ sign signs.LeftParen ∷ sign signs.Plus ∷ sign signs.Minus ∷ key words.Not ∷ key words.Abs ∷ key words.Ceil ∷ key words.Floor ∷ key words.Trim ∷ key words.Ltrim ∷ key words.Rtrim ∷ key words.Upper ∷ key words.Lower ∷ key words.Length ∷ key words.Isnull ∷ key words.Round ∷ key words.Trunc ∷ key words.Mod ∷ key words.Nvl ∷ key words.Instr ∷ key words.Between ∷ key words.MatchCharacters ∷ key words.Substr ∷ key words.Replace ∷ key words.ExistsIn ∷ key words.Union ∷ key words.Intersect ∷ key words.Setdiff ∷ key words.Symdiff ∷ key words.InnerJoin ∷ key words.LeftJoin ∷ key words.FullJoin ∷ key words.CrossJoin ∷ key words.Sum ∷ key words.Avg ∷ key words.Count ∷ key words.Min ∷ key words.Max ∷ key words.Median ∷ key words.FirstValue ∷ key words.LastValue ∷ key words.RatioToReport ∷ key words.Lag ∷ key words.Lead ∷ key words.Rank ∷ key words.FlowToStock ∷ key words.StockToFlow ∷ key words.PeriodIndicator ∷ key words.Timeshift ∷ key words.FillTimeSeries ∷ key words.CheckDatapoint ∷ key words.Hierarchy ∷ key words.CheckHierarchy ∷ key words.Check ∷ [])

-- the sorts with which an expression of this precedence begins
abbrev pub heads : ℕ → List ℕ
heads m = heads_of_all ++ (if nat_le m 0 then of_mark (key words.If) ∷ [] else [])

abbrev pub join_part_firsts : JoinPart → List ℕ
join_part_firsts filtering = of_mark (key words.Filter) ∷ []
join_part_firsts calculating = of_mark (key words.Calc) ∷ []
join_part_firsts keeping = of_mark (key words.Keep) ∷ of_mark (key words.Drop) ∷ []
join_part_firsts renaming = of_mark (key words.Rename) ∷ []

abbrev pub part_firsts : Part → List ℕ
part_firsts (expression m) = heads m
part_firsts (clause k) = join_part_firsts k

-- the sorts of the two tokens of a prefix
abbrev pub first_sort : Prefix → ℕ
first_sort label = 0
first_sort component = of_mark (key words.Rule)

abbrev pub second_sort : Prefix → ℕ
second_sort label = of_mark (sign signs.Colon)
second_sort component = 0

abbrev pub firsts : Rule → List ℕ
firsts (mark m) = of_mark m ∷ []
firsts name = 0 ∷ []
firsts integer = 1 ∷ []
firsts number = 2 ∷ []
firsts text = 3 ∷ []
firsts (part q) = part_firsts q
firsts (g ▸ h) = firsts g
firsts (option g h) = firsts g ++ firsts h
firsts (suffix g h) = firsts g
firsts (either g h) = firsts g ++ firsts h
firsts (repeated l g h) = firsts g
firsts (prefixed p g) = first_sort p ∷ firsts g
firsts (here g) = firsts g

-- ---- readers

abbrev pub read_mark : Mark → Reader Place
read_mark m [] = halt Expected []
read_mark m (t ∷ ts) = if nat_eq (sort_of t.what) (of_mark m) then got t.place 0 ts else halt Expected (t ∷ ts)

abbrev pub read_name : Reader (At Text)
read_name [] = halt Expected []
read_name (t ∷ ts) = by_kind t.what
  where
    by_kind : TokenKind → Read (At Text)
    by_kind (what.Name n) = got (record { value = n; place = t.place }) 0 ts
    by_kind _ = halt Expected (t ∷ ts)

abbrev pub read_integer : Reader (At ℤ)
read_integer [] = halt Expected []
read_integer (t ∷ ts) = by_kind t.what
  where
    by_kind : TokenKind → Read (At ℤ)
    by_kind (what.Integer n) = got (record { value = n; place = t.place }) 0 ts
    by_kind _ = halt Expected (t ∷ ts)

abbrev pub read_number : Reader (At ℤ)
read_number [] = halt Expected []
read_number (t ∷ ts) = by_kind t.what
  where
    by_kind : TokenKind → Read (At ℤ)
    by_kind (what.Number n) = got (record { value = n; place = t.place }) 0 ts
    by_kind _ = halt Expected (t ∷ ts)

abbrev pub read_text : Reader (At Text)
read_text [] = halt Expected []
read_text (t ∷ ts) = by_kind t.what
  where
    by_kind : TokenKind → Read (At Text)
    by_kind (what.Text n) = got (record { value = n; place = t.place }) 0 ts
    by_kind _ = halt Expected (t ∷ ts)

-- the same seen by f
abbrev pub mapped : {A B : Type 0} → (A → B) → Read A → Read B
mapped f (Ok a) = got (f a.value) a.levels a.rest
mapped f (Err e) = Err e

-- one after the other
abbrev pub both : {A B : Type 0} → Reader A → Reader B → Reader (A × B)
both r q ts = r ts >>= λ a. q a.rest >>= λ b. got (a.value, b.value) (max a.levels b.levels) b.rest

-- the first where it can begin there, else the second
abbrev pub choice : {A : Type 0} → List ℕ → Reader A → Reader A → Reader A
choice ks r q ts = if starts ks ts then r ts else q ts

abbrev pub cons : {A : Type 0} → A × List A → List A
cons v = v.0 ∷ v.1

abbrev pub some : {A : Type 0} → A → Option A
some x = Some x

-- where it can begin there, it is read
abbrev pub maybe : {A : Type 0} → List ℕ → Reader A → Reader (Option A)
maybe ks r = choice ks (λ ts. mapped some (r ts)) (got None 0)

-- as many as begin there, up to n
abbrev pub read_more : {A : Type 0} → List ℕ → Limit → Reader A → ℕ → Reader (List A)
read_more ks l r zero = choice ks (halt (TooMany l)) (got [] 0)
read_more ks l r (suc n) = choice ks (λ ts. mapped cons (both r (read_more ks l r n) ts)) (got [] 0)

-- whether the two tokens of a prefix stand there
abbrev pub has_prefix : Prefix → Tokens → Bool
has_prefix p (t ∷ u ∷ ts) = nat_eq (sort_of t.what) (first_sort p) && nat_eq (sort_of u.what) (second_sort p)
has_prefix p _ = false

abbrev pub read_prefix : Prefix → Reader (At Text)
read_prefix label ts = mapped (λ v. v.0) (both read_name (read_mark (sign signs.Colon)) ts)
read_prefix component ts = mapped (λ v. v.1) (both (read_mark (key words.Rule)) read_name ts)

abbrev pub with_some : {A B : Type 0} → A × B → Option A × B
with_some v = (Some v.0, v.1)

abbrev pub with_none : {A B : Type 0} → B → Option A × B
with_none v = (None, v)

abbrev pub read_prefixed : {A : Type 0} → Prefix → Reader A → Reader (Option (At Text) × A)
read_prefixed p r ts = if has_prefix p ts then mapped with_some (both (read_prefix p) r ts) else mapped with_none (r ts)

abbrev pub read : Counts → ((q : Part) → Reader (OfPart q)) → (g : Rule) → Reader (Of g)
read L inner (mark m) = read_mark m
read L inner name = read_name
read L inner integer = read_integer
read L inner number = read_number
read L inner text = read_text
read L inner (part q) = inner q
read L inner (g ▸ h) = both (read L inner g) (read L inner h)
read L inner (option g h) = choice (firsts g) (λ ts. mapped with_some (both (read L inner g) (read L inner h) ts)) (λ ts. mapped with_none (read L inner h ts))
read L inner (suffix g h) = both (read L inner g) (maybe (firsts h) (read L inner h))
read L inner (either g h) = choice (firsts g) (λ ts. mapped inl (read L inner g ts)) (λ ts. mapped inr (read L inner h ts))
read L inner (repeated l g h) = both (read L inner g) (read_more (firsts h) l (read L inner h) (L l))
read L inner (prefixed p g) = read_prefixed p (read L inner g)
read L inner (here g) = λ ts. mapped (λ v. (first_place ts, v)) (read L inner g ts)

-- ---- expressions

-- an expression, and the precedence of its outermost form
pub record Front : Type 0 where
  pub expr : Expr
  pub precedence : ℕ

abbrev pub form_at : Option Mark → Option Form
form_at None = None
form_at (Some m) = form_of m

abbrev pub tail_at : Option Mark → Option Tail
tail_at None = None
tail_at (Some m) = tail_of m

-- what goes on after a front of that precedence, in an expression of precedence m
abbrev pub between : (m precedence : ℕ) → Option Tail → Option Tail
between m precedence None = None
between m precedence (Some tail) = if nat_le m tail.precedence && nat_le tail.operand precedence then Some tail else None

-- the front of an expression of precedence m, with at most d levels
abbrev pub front_by : Counts → ((q : Part) → Reader (OfPart q)) → (d m : ℕ) → Token → Tokens → Option Expr → Option Form → Read Front
front_by L inner d m t ts (Some e) f = if nat_le m (leaf_precedence t.what) then got (record { expr = e; precedence = leaf_precedence t.what }) 0 ts else halt Expected (t ∷ ts)
front_by L inner d m t ts None None = halt Expected (t ∷ ts)
front_by L inner d m t ts None (Some form) =
    if nat_le m form.precedence
    then (if nat_lt 0 d then (read L inner form.rule ts >>= λ v. got (record { expr = form.tree v.value t.place; precedence = form.precedence }) (suc v.levels) v.rest) else halt TooDeep (t ∷ ts))
    else halt Expected (t ∷ ts)

abbrev pub read_front : Counts → ((q : Part) → Reader (OfPart q)) → (d m : ℕ) → Reader Front
read_front L inner d m [] = halt Expected []
read_front L inner d m (t ∷ ts) = front_by L inner d m t ts (leaf_in t.what t.place) (form_at (mark_in t.what))

-- one more tail of a front with so many levels, and what comes then
abbrev pub tail_by : Counts → ((q : Part) → Reader (OfPart q)) → (d : ℕ) → (Front → ℕ → Reader Expr) → Front → ℕ → Token → Tokens → Option Tail → Read Expr
tail_by L inner d more f h t ts None = got f.expr h (t ∷ ts)
tail_by L inner d more f h t ts (Some tail) =
    if nat_lt h d
    then (read L inner tail.rule ts >>= λ v. more (record { expr = tail.tree f.expr v.value t.place; precedence = tail.precedence }) (suc (max h v.levels)) v.rest)
    else halt TooDeep (t ∷ ts)

-- the tails, of which there are fewer than n
abbrev pub read_tails : Counts → ((q : Part) → Reader (OfPart q)) → (d m n : ℕ) → Front → ℕ → Reader Expr
read_tails L inner d m zero f h ts = got f.expr h ts
read_tails L inner d m (suc n) f h [] = got f.expr h []
read_tails L inner d m (suc n) f h (t ∷ ts) = tail_by L inner d (read_tails L inner d m n) f h t ts (between m f.precedence (tail_at (mark_in t.what)))

abbrev pub read_expr : Counts → ((q : Part) → Reader (OfPart q)) → (d m : ℕ) → Reader Expr
read_expr L inner d m ts = read_front L inner d m ts >>= λ f. read_tails L inner d m (suc d) f.value f.levels f.rest

-- a clause in a join, which is a level of its own
abbrev pub read_join_part : Counts → ((q : Part) → Reader (OfPart q)) → ℕ → JoinPart → Reader Clause
read_join_part L inner d k ts =
    if starts (join_part_firsts k) ts
    then (if nat_lt 0 d then (read L inner (join_part_rule k) ts >>= λ v. got (join_part_tree k v.value) (suc v.levels) v.rest) else halt TooDeep ts)
    else halt Expected ts

abbrev pub read_part : Counts → ((q : Part) → Reader (OfPart q)) → ℕ → (q : Part) → Reader (OfPart q)
read_part L inner d (expression m) = read_expr L inner d m
read_part L inner d (clause k) = read_join_part L inner d k

-- no levels are left
abbrev pub no_part : (q : Part) → Reader (OfPart q)
no_part q ts = halt TooDeep ts

-- a part with at most d levels
abbrev pub part_at : Counts → ℕ → (q : Part) → Reader (OfPart q)
part_at L zero = read_part L no_part 0
part_at L (suc d) = read_part L (part_at L d) (suc d)

-- one level further in
abbrev pub below : Counts → ℕ → (q : Part) → Reader (OfPart q)
below L zero = no_part
below L (suc d) = part_at L d

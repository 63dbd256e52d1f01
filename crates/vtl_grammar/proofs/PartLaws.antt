-- What reading an expression, or a clause in a join, answers is explained.
use Rattle.std.proofs.Common.{◌≡◌, ℕ, zero, suc, ◌≤◌, ◌<◌, max, List, [], ◌∷◌, ◌++◌, Bool, true, false, cond, Option, Some, None, Ok, Err, inl, inr, refl, sym, ap, subst, ◌∙◌, append_assoc, arith}
use Rattle.std.proofs.lemmas.Bool.{ltb-true, leb-true, le-leb}
use Rattle.std.proofs.lemmas.List.{append-nil, length-append}
use Rattle.std.specs.Prelude.{nat_lt, nat_le, ◌&&◌}
use Rattle.vtl_values.specs.declared.place.Place.{Place}
use Rattle.vtl_tokens.specs.declared.token.Token.{Token}
use Rattle.vtl_tokens.specs.declared.token.TokenKind.{TokenKind}
use Rattle.vtl_tokens.specs.declared.token.TokenKind.TheVariants as what
use Rattle.vtl_syntax.specs.declared.expr.Expr.{Expr}
use Rattle.vtl_syntax.specs.declared.expr.Expr.TheVariants as tree
use Rattle.vtl_syntax.specs.declared.expr.Clause.{Clause}
use Rattle.vtl_grammar.specs.Marks.{Mark, key, sign, Tokens, at, kind_of}
use Rattle.vtl_grammar.specs.Rules.{Counts, lists, Rule, Part, OfPart, expression, clause, JoinPart, Of, Text}
use Rattle.vtl_grammar.specs.Clauses.{join_part_rule, join_part_tree}
use Rattle.vtl_grammar.specs.Calls.{Form}
use Rattle.vtl_grammar.specs.Forms.{Tail, form_of, tail_of, leaf_in, leaf_precedence, top}
use Rattle.vtl_grammar.specs.Expressions.{IsPart}
use Rattle.vtl_grammar.specs.Reading.{Kind, Expected, TooDeep, Got, Halt, Read, Reader, halt, got, ◌>>=◌, starts, join_part_firsts, read, Front, between, front_by, read_front, tail_by, read_tails, read_expr, read_join_part, read_part, no_part, part_at}
use Rattle.vtl_grammar.proofs.Sorts.{is_name}
use Rattle.vtl_grammar.proofs.Explained.{SameHead, SameHead-append, Spelling, IsMore, Further, IsRead, IsHalted, Explains, HasSample, no_more, choice-explained, taken, refused, refuses_head, refuses_end, goes-map, beyond-map, same_levels, same_rises, suc_rises}
use Rattle.vtl_grammar.proofs.Spellings.{SpellsPart, SpellsRule, rule-grows, rule-sample, leaf_is, IsPart-grows, IsPart-lower, and-true}
use Rattle.vtl_grammar.proofs.RuleLaws.{PassesSort, rule-opens, longer as is_front}
use Rattle.vtl_grammar.proofs.EveryRule.{fits, takes, rule-law}
use Rattle.vtl_grammar.proofs.Tables.{form-fits, tail-fits, join_part-fits, join_part-open, join_part-firsts, mark_in-kind_of}

-- ---- refused, or one level further in

module _ {A : Type 0} (r : Reader A) (S : Spelling A) (L : Counts) (limit b : ℕ) (t : Token) (ts : Tokens) where
  same_token : (k : Kind) → ((us : Tokens) → r (t ∷ us) ≡ halt k (t ∷ us)) → (rest : Tokens) → SameHead (t ∷ ts) rest → r rest ≡ halt k rest
  same_token k h rest s = refuses_head k r t ts rest s h

  refused_token : ((us : Tokens) → r (t ∷ us) ≡ halt Expected (t ∷ us)) → Explains r S L limit b (t ∷ ts) (halt Expected (t ∷ ts))
  refused_token h = refused r S L limit b (t ∷ ts) (same_token Expected h)

  refused_deep : Further S L limit TooDeep [] t → ((us : Tokens) → r (t ∷ us) ≡ halt TooDeep (t ∷ us)) → Explains r S L limit b (t ∷ ts) (halt TooDeep (t ∷ ts))
  refused_deep f h = record { front = []; parts = refl; goes_on = inl refl; beyond = inr f; long = λ e. absurd cc; again = same_token TooDeep h }

-- a token, and then what another reader reads, one level further in
module _ {A B : Type 0} (t : Token) (f : A → B) (r : Reader A) (q : Reader B) (S : Spelling A) (Q : Spelling B) (L : Counts) (limit b : ℕ) (sample : HasSample S) (ts : Tokens)
    (seen : (L' : Counts) (h : ℕ) (x : A) (us : Tokens) → S L' h x us → Q L' (suc h) (f x) (t ∷ us))
    (opens : (us : Tokens) → q (t ∷ us) ≡ (r us >>= λ v. got (f v.value) (suc v.levels) v.rest)) where
  after_token_step : (front : Tokens) (L' : Counts) (l : ℕ) → IsMore L L' → limit ≤ l → (x : A) (us : Tokens) → S L' l x (front ++ us) → (y : B) × (vs extra : Tokens) × (vs ≡ us ++ extra) × Q L' (suc l) y ((t ∷ front) ++ vs)
  after_token_step front L' l more le x us s = (f x, us, [], sym (append-nil us), seen L' l x (front ++ us) s)

  after_token : (x : Read A) → Explains r S L limit b ts x → Explains q Q L (suc limit) b (t ∷ ts) (x >>= λ v. got (f v.value) (suc v.levels) v.rest)
  after_token (Ok a) e = record {
    front = t ∷ e.front;
    parts = ap (λ (us : Tokens). t ∷ us) e.parts;
    low = let l = e.low in omega arith;
    spelled = seen L a.levels a.value e.front e.spelled;
    again = λ (rest : Tokens) same. let one = e.again rest same in opens (e.front ++ rest) ∙ rw one refl;
  }
  after_token (Err d) e = record {
    front = t ∷ e.front;
    parts = ap (λ (us : Tokens). t ∷ us) e.parts;
    goes_on = goes-map S Q suc suc_rises L limit e.front (t ∷ e.front) (after_token_step e.front)
        (λ none. inr (sample.tokens, f sample.value, subst (λ (vs : Tokens). Q L (suc limit) (f sample.value) ((t ∷ vs) ++ sample.tokens)) (sym none) (seen L limit sample.value sample.tokens (sample.spelled L limit)))) e.goes_on;
    beyond = beyond-map S Q suc suc_rises L limit e.front (t ∷ e.front) (after_token_step e.front) d.kind d.rest e.beyond;
    long = λ is. let l = e.long is in omega arith;
    again = λ (rest : Tokens) same. let one = e.again rest same in opens (e.front ++ rest) ∙ rw one refl;
  }

-- what another reader reads, one level further in
module _ {A B : Type 0} (f : A → B) (r : Reader A) (S : Spelling A) (Q : Spelling B) (L : Counts) (limit b : ℕ) (ts : Tokens) (seen : (L' : Counts) (h : ℕ) (x : A) (us : Tokens) → S L' h x us → Q L' (suc h) (f x) us) where
  abbrev deeper : Reader B
  deeper us = r us >>= λ v. got (f v.value) (suc v.levels) v.rest

  deeper_step : (front : Tokens) (L' : Counts) (l : ℕ) → IsMore L L' → limit ≤ l → (x : A) (us : Tokens) → S L' l x (front ++ us) → (y : B) × (vs extra : Tokens) × (vs ≡ us ++ extra) × Q L' (suc l) y (front ++ vs)
  deeper_step front L' l more le x us s = (f x, us, [], sym (append-nil us), seen L' l x (front ++ us) s)

  deeper-explained : (x : Read A) → Explains r S L limit b ts x → Explains deeper Q L (suc limit) b ts (x >>= λ v. got (f v.value) (suc v.levels) v.rest)
  deeper-explained (Ok a) e = record {
    front = e.front;
    parts = e.parts;
    low = let l = e.low in omega arith;
    spelled = seen L a.levels a.value e.front e.spelled;
    again = λ (rest : Tokens) same. let one = e.again rest same in rw one refl;
  }
  deeper-explained (Err d) e = record {
    front = e.front;
    parts = e.parts;
    goes_on = goes-map S Q suc suc_rises L limit e.front e.front (deeper_step e.front) (λ none. inl none) e.goes_on;
    beyond = beyond-map S Q suc suc_rises L limit e.front e.front (deeper_step e.front) d.kind d.rest e.beyond;
    long = e.long;
    again = λ (rest : Tokens) same. let one = e.again rest same in rw one refl;
  }

one_less : (h d : ℕ) → h < d → (k : ℕ) × (d ≡ suc k)
one_less h zero lt = absurd (omega arith)
one_less h (suc k) lt = (k, refl)

-- a front is an expression of the precedence that is read, and of its own
abbrev pub SpellsFront : ℕ → Spelling Front
SpellsFront m L h f us = IsPart L h (expression m) f.expr us × IsPart L h (expression f.precedence) f.expr us

module _ (inner : (q : Part) → Reader (OfPart q)) (L : Counts) (d : ℕ) (law : (k : ℕ) → d ≡ suc k → (g : Rule) → fits g ≡ true → (ts : Tokens) → Explains (read L inner g) (SpellsRule g) L k (L lists) ts (read L inner g ts)) where
  -- ---- a clause in a join

  join_part_seen : (k : JoinPart) (L' : Counts) (h : ℕ) (v : Of (join_part_rule k)) (us : Tokens) → SpellsRule (join_part_rule k) L' h v us → SpellsPart (clause k) L' (suc h) (join_part_tree k v) us
  join_part_seen k L' h v us s = (v, refl, s)

  join_part_deep : (k : JoinPart) (ts : Tokens) → starts (join_part_firsts k) ts ≡ true → Explains (halt TooDeep) (SpellsPart (clause k)) L d (L lists) ts (halt TooDeep ts)
  join_part_deep k [] e = absurd cc
  join_part_deep k (t ∷ ts) e =
      let o = rule-opens (join_part_rule k) (join_part-open k) L d t (subst (λ (ks : List ℕ). starts ks (t ∷ []) ≡ true) (sym (join_part-firsts k)) e) in
      refused_deep (halt TooDeep) (SpellsPart (clause k)) L d (L lists) t ts
      (record { counts = L; levels = suc d; counts_more = no_more L; levels_more = omega arith; only = refl; value = join_part_tree k o.0; more = o.1; spelled = join_part_seen k L d o.0 (t ∷ o.1) o.2 }) (λ us. refl)

  abbrev join_part_inside : JoinPart → Reader Clause
  join_part_inside k us = cond (nat_lt 0 d) (read L inner (join_part_rule k) us >>= λ v. got (join_part_tree k v.value) (suc v.levels) v.rest) (halt TooDeep us)

  join_part_room : (k : JoinPart) (ts : Tokens) (b : Bool) → nat_lt 0 d ≡ b → starts (join_part_firsts k) ts ≡ true
      → Explains (λ us. cond b (read L inner (join_part_rule k) us >>= λ v. got (join_part_tree k v.value) (suc v.levels) v.rest) (halt TooDeep us)) (SpellsPart (clause k)) L d (L lists) ts
      (cond b (read L inner (join_part_rule k) ts >>= λ v. got (join_part_tree k v.value) (suc v.levels) v.rest) (halt TooDeep ts))
  join_part_room k ts true room e =
      let lt : 0 < d = ltb-true _ _ room in
      let less = one_less 0 d lt in
      subst (λ (l : ℕ). Explains (λ us. read L inner (join_part_rule k) us >>= λ v. got (join_part_tree k v.value) (suc v.levels) v.rest) (SpellsPart (clause k)) L l (L lists) ts (read L inner (join_part_rule k) ts >>= λ v. got (join_part_tree k v.value) (suc v.levels) v.rest)) (sym less.1)
      (deeper-explained (join_part_tree k) (read L inner (join_part_rule k)) (SpellsRule (join_part_rule k)) (SpellsPart (clause k)) L less.0 (L lists) ts (join_part_seen k) (read L inner (join_part_rule k) ts) (law less.0 less.1 (join_part_rule k) (join_part-fits k) ts))
  join_part_room k ts false full e = join_part_deep k ts e

  pub join_part-explained : (k : JoinPart) (ts : Tokens) → Explains (read_join_part L inner d k) (SpellsPart (clause k)) L d (L lists) ts (read_join_part L inner d k ts)
  join_part-explained k ts = choice-explained (join_part_firsts k) (join_part_inside k) (halt Expected) (SpellsPart (clause k)) L d (L lists) ts
      (λ is. join_part_room k ts (nat_lt 0 d) refl is)
      (λ is. refused (halt Expected) (SpellsPart (clause k)) L d (L lists) ts (λ rest s. refl))

  module _ (m : ℕ) where
    -- ---- the front

    leaf_by : (t : Token) (ts : Tokens) (e : Expr) → leaf_in t.what t.place ≡ Some e → (b : Bool) → nat_le m (leaf_precedence t.what) ≡ b
        → Explains (read_front L inner d m) (SpellsFront m) L d (L lists) (t ∷ ts) (cond b (got (record { expr = e; precedence = leaf_precedence t.what }) 0 ts) (halt Expected (t ∷ ts)))
    leaf_by t ts e is true le =
        let q : ℕ = leaf_precedence t.what in
        taken (read_front L inner d m) (SpellsFront m) L d (L lists) t ts (record { expr = e; precedence = q }) (leaf_is L 0 m e (t ∷ []) (t, is, leb-true _ _ le, refl), leaf_is L 0 q e (t ∷ []) (t, is, omega arith, refl)) (λ rest. rw (is, le) refl)
    leaf_by t ts e is false not = refused_token (read_front L inner d m) (SpellsFront m) L d (L lists) t ts (λ us. rw (is, not) refl)

    leaf_taken : (t : Token) (ts : Tokens) (e : Expr) → leaf_in t.what t.place ≡ Some e
        → Explains (read_front L inner d m) (SpellsFront m) L d (L lists) (t ∷ ts) (cond (nat_le m (leaf_precedence t.what)) (got (record { expr = e; precedence = leaf_precedence t.what }) 0 ts) (halt Expected (t ∷ ts)))
    leaf_taken t ts e is = leaf_by t ts e is (nat_le m (leaf_precedence t.what)) refl

    form_seen : (w : Mark) (p : Place) (form : Form) → form_of w ≡ Some form → m ≤ form.precedence → (L' : Counts) (h : ℕ) (v : Of form.rule) (us : Tokens) → SpellsRule form.rule L' h v us
        → SpellsFront m L' (suc h) (record { expr = form.tree v p; precedence = form.precedence }) (at (kind_of w) p ∷ us)
    form_seen w p form is le L' h v us s = (
      inr (inl (record { begins = w; place = p; form = form; of_mark = is; precedence = le; value = v; is = refl; after = us; tokens = refl; spelled = s })),
      inr (inl (record { begins = w; place = p; form = form; of_mark = is; precedence = omega arith; value = v; is = refl; after = us; tokens = refl; spelled = s })),
    )

    module _ (w : Mark) (p : Place) (ts : Tokens) (no_leaf : leaf_in (kind_of w) p ≡ None) where
      by_depth : (form : Form) → form_of w ≡ Some form → nat_le m form.precedence ≡ true → (b : Bool) → nat_lt 0 d ≡ b
          → Explains (read_front L inner d m) (SpellsFront m) L d (L lists) (at (kind_of w) p ∷ ts)
          (cond b (read L inner form.rule ts >>= λ v. got (record { expr = form.tree v.value p; precedence = form.precedence }) (suc v.levels) v.rest) (halt TooDeep (at (kind_of w) p ∷ ts)))
      by_depth form is le true room =
          let lt : 0 < d = ltb-true _ _ room in
          let less = one_less 0 d lt in
          let mark_is = mark_in-kind_of w in
          let fit = form-fits w form is in
          subst (λ (l : ℕ). Explains (read_front L inner d m) (SpellsFront m) L l (L lists) (at (kind_of w) p ∷ ts) (read L inner form.rule ts >>= λ v. got (record { expr = form.tree v.value p; precedence = form.precedence }) (suc v.levels) v.rest)) (sym less.1)
          (after_token (at (kind_of w) p) (λ v. record { expr = form.tree v p; precedence = form.precedence }) (read L inner form.rule) (read_front L inner d m) (SpellsRule form.rule) (SpellsFront m) L less.0 (L lists) (rule-sample form.rule fit.1) ts
          (λ L' h v us s. form_seen w p form is (leb-true _ _ le) L' h v us s) (λ us. rw (no_leaf, mark_is, is, le, room) refl) (read L inner form.rule ts) (law less.0 less.1 form.rule fit.0 ts))
      by_depth form is le false full =
          let mark_is = mark_in-kind_of w in
          let sample = rule-sample form.rule (form-fits w form is).1 in
          refused_deep (read_front L inner d m) (SpellsFront m) L d (L lists) (at (kind_of w) p) ts
          (record {
            counts = L;
            levels = suc d;
            counts_more = no_more L;
            levels_more = omega arith;
            only = refl;
            value = record { expr = form.tree sample.value p; precedence = form.precedence };
            more = sample.tokens;
            spelled = form_seen w p form is (leb-true _ _ le) L d sample.value sample.tokens (sample.spelled L d);
          }) (λ us. rw (no_leaf, mark_is, is, le, full) refl)

      by_level : (form : Form) → form_of w ≡ Some form → (b : Bool) → nat_le m form.precedence ≡ b
          → Explains (read_front L inner d m) (SpellsFront m) L d (L lists) (at (kind_of w) p ∷ ts)
          (cond b (cond (nat_lt 0 d) (read L inner form.rule ts >>= λ v. got (record { expr = form.tree v.value p; precedence = form.precedence }) (suc v.levels) v.rest) (halt TooDeep (at (kind_of w) p ∷ ts))) (halt Expected (at (kind_of w) p ∷ ts)))
      by_level form is true le = by_depth form is le (nat_lt 0 d) refl
      by_level form is false not = let mark_is = mark_in-kind_of w in refused_token (read_front L inner d m) (SpellsFront m) L d (L lists) (at (kind_of w) p) ts (λ us. rw (no_leaf, mark_is, is, not) refl)

      by_form : (o : Option Form) → form_of w ≡ o → Explains (read_front L inner d m) (SpellsFront m) L d (L lists) (at (kind_of w) p ∷ ts) (front_by L inner d m (at (kind_of w) p) ts None o)
      by_form None is = let mark_is = mark_in-kind_of w in refused_token (read_front L inner d m) (SpellsFront m) L d (L lists) (at (kind_of w) p) ts (λ us. rw (no_leaf, mark_is, is) refl)
      by_form (Some form) is = by_level form is (nat_le m form.precedence) refl

    by_leaf : (w : Mark) (p : Place) (ts : Tokens) (o : Option Expr) → leaf_in (kind_of w) p ≡ o → Explains (read_front L inner d m) (SpellsFront m) L d (L lists) (at (kind_of w) p ∷ ts) (front_by L inner d m (at (kind_of w) p) ts o (form_of w))
    by_leaf w p ts None is = by_form w p ts is (form_of w) refl
    by_leaf w p ts (Some e) is = leaf_taken (at (kind_of w) p) ts e is

    by_what : (w : TokenKind) (p : Place) (ts : Tokens) → Explains (read_front L inner d m) (SpellsFront m) L d (L lists) (at w p ∷ ts) (read_front L inner d m (at w p ∷ ts))
    by_what (what.Name n) p ts = leaf_taken (at (what.Name n) p) ts (tree.Name n p) refl
    by_what (what.Integer n) p ts = leaf_taken (at (what.Integer n) p) ts _ refl
    by_what (what.Number n) p ts = leaf_taken (at (what.Number n) p) ts _ refl
    by_what (what.Text n) p ts = leaf_taken (at (what.Text n) p) ts _ refl
    by_what what.End p ts = refused_token (read_front L inner d m) (SpellsFront m) L d (L lists) (at what.End p) ts (λ us. refl)
    by_what (what.Sign s) p ts = by_leaf (sign s) p ts (leaf_in (what.Sign s) p) refl
    by_what (what.Reserved k) p ts = by_leaf (key k) p ts (leaf_in (what.Reserved k) p) refl

    pub front-explained : (ts : Tokens) → Explains (read_front L inner d m) (SpellsFront m) L d (L lists) ts (read_front L inner d m ts)
    front-explained [] = refused (read_front L inner d m) (SpellsFront m) L d (L lists) [] (λ rest s. refuses_end (read_front L inner d m) rest s refl)
    front-explained (t ∷ ts) = by_what t.what t.place ts

    -- ---- the tails

    -- after a front that these tokens spell
    abbrev After : Tokens → Spelling Expr
    After front L' h e us = IsPart L' h (expression m) e (front ++ us)

    record IsFront (front : Tokens) (f : Front) (h : ℕ) : Type 0 where
      low : h ≤ d
      whole : IsPart L h (expression m) f.expr front
      own : IsPart L h (expression f.precedence) f.expr front

    ends : (n : ℕ) (front : Tokens) (f : Front) (h : ℕ) → IsFront front f h → (ts : Tokens) → ((rest : Tokens) → SameHead ts rest → read_tails L inner d m n f h rest ≡ got f.expr h rest) → Explains (read_tails L inner d m n f h) (After front) L d (L lists) ts (got f.expr h ts)
    ends n front f h is ts again = record { front = []; parts = refl; low = is.low; spelled = subst (λ (us : Tokens). IsPart L h (expression m) f.expr us) (sym (append-nil front)) is.whole; again = again }

    stays : (n : ℕ) (f : Front) (h : ℕ) (t : Token) (ts : Tokens) → ((us : Tokens) → read_tails L inner d m n f h (t ∷ us) ≡ got f.expr h (t ∷ us)) → (rest : Tokens) → SameHead (t ∷ ts) rest → read_tails L inner d m n f h rest ≡ got f.expr h rest
    stays n f h t ts is [] s = absurd s
    stays n f h t ts is (u ∷ us) s = subst (λ (x : Token). read_tails L inner d m n f h (x ∷ us) ≡ got f.expr h (x ∷ us)) s (is us)

    -- a tail after a front
    tailed : (L' : Counts) (k : ℕ) (front : Tokens) (f : Front) (q : ℕ) (w : Mark) (p : Place) (tail : Tail) → tail_of w ≡ Some tail → q ≤ tail.precedence → tail.operand ≤ f.precedence → IsPart L' k (expression f.precedence) f.expr front → (v : Of tail.rule) (us : Tokens) → SpellsRule tail.rule L' k v us
        → IsPart L' (suc k) (expression q) (tail.tree f.expr v p) (front ++ at (kind_of w) p ∷ us)
    tailed L' k front f q w p tail is above below own v us s = inr (inr (record {
      left = f.expr;
      front = front;
      begins = w;
      place = p;
      tail = tail;
      of_mark = is;
      precedence = above;
      left_spelled = IsPart-lower L' k f.precedence tail.operand f.expr front below own;
      value = v;
      is = refl;
      after = us;
      tokens = refl;
      spelled = s;
    }))

    -- the readings of the tails after longer fronts are explained
    abbrev GoesOn : ℕ → Type 0
    GoesOn n = (front : Tokens) (f : Front) (h : ℕ) → IsFront front f h → (ts : Tokens) → Explains (read_tails L inner d m n f h) (After front) L d (L lists) ts (read_tails L inner d m n f h ts)

    -- one more tail
    module _ (n : ℕ) (goes : GoesOn n) (front : Tokens) (f : Front) (h : ℕ) (is : IsFront front f h) (w : Mark) (p : Place) (tail : Tail) (of_mark : tail_of w ≡ Some tail) (above : m ≤ tail.precedence) (below : tail.operand ≤ f.precedence)
        (k : ℕ) (d-is : d ≡ suc k) (lt : h ≤ k) (opens : (us : Tokens) → read_tails L inner d m (suc n) f h (at (kind_of w) p ∷ us)
        ≡ (read L inner tail.rule us >>= λ v. read_tails L inner d m n (record { expr = tail.tree f.expr v.value p; precedence = tail.precedence }) (suc (max h v.levels)) v.rest)) where
      abbrev longer : Got (Of tail.rule) → Front
      longer v = record { expr = tail.tree f.expr v.value p; precedence = tail.precedence }

      abbrev fronted : Tokens → Tokens
      fronted us = front ++ at (kind_of w) p ∷ us

      own_at : (L' : Counts) (l : ℕ) → IsMore L L' → h ≤ l → IsPart L' l (expression f.precedence) f.expr front
      own_at L' l more le = IsPart-grows L L' more h l (expression f.precedence) f.expr front le is.own

      longer-is : (us : Tokens) (v : Got (Of tail.rule)) → v.levels ≤ k → SpellsRule tail.rule L v.levels v.value us → IsFront (fronted us) (longer v) (suc (max h v.levels))
      longer-is us v low s =
          let wide : SpellsRule tail.rule L (max h v.levels) v.value us = (rule-grows tail.rule).grows L L v.levels (max h v.levels) v.value us (no_more L) (omega arith) s in
          let own : IsPart L (max h v.levels) (expression f.precedence) f.expr front = own_at L (max h v.levels) (no_more L) (omega arith) in
          record {
            low = omega arith;
            whole = tailed L (max h v.levels) front f m w p tail of_mark above below own v.value us wide;
            own = tailed L (max h v.levels) front f tail.precedence w p tail of_mark (omega arith) below own v.value us wide;
          }

      -- what comes after the tail
      tail_again : (ts : Tokens) (v : Got (Of tail.rule)) (e : IsRead (read L inner tail.rule) (SpellsRule tail.rule) L k (L lists) ts v) (then : Tokens) (end : Tokens) (y : Tokens → Read Expr) → v.rest ≡ then ++ end
          → ((rest : Tokens) → SameHead end rest → read_tails L inner d m n (longer v) (suc (max h v.levels)) (then ++ rest) ≡ y rest) → (rest : Tokens) → SameHead end rest
          → read_tails L inner d m (suc n) f h ((at (kind_of w) p ∷ (e.front ++ then)) ++ rest) ≡ y rest
      tail_again ts v e then end y parts again rest same =
          let head : SameHead v.rest (then ++ rest) = subst (λ (us : Tokens). SameHead us (then ++ rest)) (sym parts) (SameHead-append then end rest same) in
          let one = e.again (then ++ rest) head in
          let two = again rest same in
          ap (λ (us : Tokens). read_tails L inner d m (suc n) f h (at (kind_of w) p ∷ us)) (append_assoc e.front then rest) ∙ opens (e.front ++ (then ++ rest)) ∙ rw one two

      tail_parts : (ts end then : Tokens) (v : Got (Of tail.rule)) (e : IsRead (read L inner tail.rule) (SpellsRule tail.rule) L k (L lists) ts v) → v.rest ≡ then ++ end → at (kind_of w) p ∷ ts ≡ (at (kind_of w) p ∷ (e.front ++ then)) ++ end
      tail_parts ts end then v e parts = ap (λ (us : Tokens). at (kind_of w) p ∷ us) (e.parts ∙ ap (λ (us : Tokens). e.front ++ us) parts ∙ sym (append_assoc e.front then end))

      tail_tokens : (a b us : Tokens) → fronted a ++ (b ++ us) ≡ front ++ ((at (kind_of w) p ∷ (a ++ b)) ++ us)
      tail_tokens a b us = append_assoc front (at (kind_of w) p ∷ a) (b ++ us) ∙ ap (λ (vs : Tokens). front ++ at (kind_of w) p ∷ vs) (sym (append_assoc a b us))

      after_step : (a b : Tokens) (L' : Counts) (l : ℕ) → IsMore L L' → d ≤ l → (x : Expr) (us : Tokens) → After (fronted a) L' l x (b ++ us) → (y : Expr) × (vs extra : Tokens) × (vs ≡ us ++ extra) × After front L' l y ((at (kind_of w) p ∷ (a ++ b)) ++ vs)
      after_step a b L' l more le x us s = (x, us, [], sym (append-nil us), subst (λ (vs : Tokens). IsPart L' l (expression m) x vs) (tail_tokens a b us) s)

      after_tail : (ts : Tokens) (v : Got (Of tail.rule)) (e : IsRead (read L inner tail.rule) (SpellsRule tail.rule) L k (L lists) ts v) (x : Read Expr)
          → Explains (read_tails L inner d m n (longer v) (suc (max h v.levels))) (After (fronted e.front)) L d (L lists) v.rest x
          → Explains (read_tails L inner d m (suc n) f h) (After front) L d (L lists) (at (kind_of w) p ∷ ts) x
      after_tail ts v e (Ok a) g = record {
        front = at (kind_of w) p ∷ (e.front ++ g.front);
        parts = tail_parts ts a.rest g.front v e g.parts;
        low = g.low;
        spelled = subst (λ (us : Tokens). IsPart L a.levels (expression m) a.value us) (append_assoc front (at (kind_of w) p ∷ e.front) g.front) g.spelled;
        again = tail_again ts v e g.front a.rest (got a.value a.levels) g.parts g.again;
      }
      after_tail ts v e (Err b) g =
          let whole = longer-is e.front v e.low e.spelled in
          record {
            front = at (kind_of w) p ∷ (e.front ++ g.front);
            parts = tail_parts ts b.rest g.front v e g.parts;
            goes_on = goes-map (After (fronted e.front)) (After front) same_levels same_rises L d g.front (at (kind_of w) p ∷ (e.front ++ g.front)) (after_step e.front g.front)
                (λ none. inr (
                  [],
                  (longer v).expr,
                  subst (λ (us : Tokens). IsPart L d (expression m) (longer v).expr us)
                      (sym (ap (λ (us : Tokens). front ++ at (kind_of w) p ∷ us) (append-nil (e.front ++ g.front) ∙ ap (λ (us : Tokens). e.front ++ us) none ∙ append-nil e.front)))
                      (IsPart-grows L L (no_more L) (suc (max h v.levels)) d (expression m) (longer v).expr (fronted e.front) whole.low whole.whole),
                )) g.goes_on;
            beyond = beyond-map (After (fronted e.front)) (After front) same_levels same_rises L d g.front (at (kind_of w) p ∷ (e.front ++ g.front)) (after_step e.front g.front) b.kind b.rest g.beyond;
            long = λ is. let l = g.long is in let n = length-append e.front g.front in omega (arith, l, n);
            again = tail_again ts v e g.front b.rest (halt b.kind) g.parts g.again;
          }

      halt_step : (a : Tokens) (L' : Counts) (l : ℕ) → IsMore L L' → k ≤ l → (x : Of tail.rule) (us : Tokens) → SpellsRule tail.rule L' l x (a ++ us) → (y : Expr) × (vs extra : Tokens) × (vs ≡ us ++ extra) × After front L' (suc l) y ((at (kind_of w) p ∷ a) ++ vs)
      halt_step a L' l more le x us s = (tail.tree f.expr x p, us, [], sym (append-nil us), tailed L' l front f m w p tail of_mark above below (own_at L' l more (omega arith)) x (a ++ us) s)

      tail_halted : (ts : Tokens) (b : Halt) → IsHalted (read L inner tail.rule) (SpellsRule tail.rule) L k (L lists) ts b → Explains (read_tails L inner d m (suc n) f h) (After front) L (suc k) (L lists) (at (kind_of w) p ∷ ts) (Err b)
      tail_halted ts b e =
          let sample = rule-sample tail.rule (tail-fits w tail of_mark).1 in
          record {
            front = at (kind_of w) p ∷ e.front;
            parts = ap (λ (us : Tokens). at (kind_of w) p ∷ us) e.parts;
            goes_on = goes-map (SpellsRule tail.rule) (After front) suc suc_rises L k e.front (at (kind_of w) p ∷ e.front) (halt_step e.front)
                (λ none. inr (
                  sample.tokens,
                  tail.tree f.expr sample.value p,
                  subst (λ (us : Tokens). IsPart L (suc k) (expression m) (tail.tree f.expr sample.value p) (front ++ at (kind_of w) p ∷ (us ++ sample.tokens))) (sym none)
                      (tailed L k front f m w p tail of_mark above below (own_at L k (no_more L) lt) sample.value sample.tokens (sample.spelled L k)),
                )) e.goes_on;
            beyond = beyond-map (SpellsRule tail.rule) (After front) suc suc_rises L k e.front (at (kind_of w) p ∷ e.front) (halt_step e.front) b.kind b.rest e.beyond;
            long = λ is. let l = e.long is in omega arith;
            again = λ (rest : Tokens) same. let one = e.again rest same in opens (e.front ++ rest) ∙ rw one refl;
          }

      tail-explained : (ts : Tokens) (x : Read (Of tail.rule)) → Explains (read L inner tail.rule) (SpellsRule tail.rule) L k (L lists) ts x
          → Explains (read_tails L inner d m (suc n) f h) (After front) L d (L lists) (at (kind_of w) p ∷ ts) (x >>= λ v. read_tails L inner d m n (longer v) (suc (max h v.levels)) v.rest)
      tail-explained ts (Ok v) e = after_tail ts v e (read_tails L inner d m n (longer v) (suc (max h v.levels)) v.rest) (goes (fronted e.front) (longer v) (suc (max h v.levels)) (longer-is e.front v e.low e.spelled) v.rest)
      tail-explained ts (Err b) e = subst (λ (l : ℕ). Explains (read_tails L inner d m (suc n) f h) (After front) L l (L lists) (at (kind_of w) p ∷ ts) (Err b)) (sym d-is) (tail_halted ts b e)

    -- ---- all tails

    module _ (n : ℕ) (goes : GoesOn n) (front : Tokens) (f : Front) (h : ℕ) (is : IsFront front f h) (w : Mark) (p : Place) (ts : Tokens) where
      by_room : (tail : Tail) → tail_of w ≡ Some tail → nat_le m tail.precedence && nat_le tail.operand f.precedence ≡ true → (b : Bool) → nat_lt h d ≡ b
          → Explains (read_tails L inner d m (suc n) f h) (After front) L d (L lists) (at (kind_of w) p ∷ ts)
          (cond b (read L inner tail.rule ts >>= λ v. read_tails L inner d m n (record { expr = tail.tree f.expr v.value p; precedence = tail.precedence }) (suc (max h v.levels)) v.rest) (halt TooDeep (at (kind_of w) p ∷ ts)))
      by_room tail of_mark fit true room =
          let lt : h < d = ltb-true _ _ room in
          let less = one_less h d lt in
          let k = less.0 in
          let d-is : d ≡ suc k = less.1 in
          let mark_is = mark_in-kind_of w in
          let bounds = and-true (nat_le m tail.precedence) (nat_le tail.operand f.precedence) fit in
          tail-explained n goes front f h is w p tail of_mark (leb-true _ _ bounds.0) (leb-true _ _ bounds.1) k d-is (omega arith)
          (λ us. rw (mark_is, of_mark, fit, room) refl) ts (read L inner tail.rule ts) (law k d-is tail.rule (tail-fits w tail of_mark).0 ts)
      by_room tail of_mark fit false full =
          let mark_is = mark_in-kind_of w in
          let bounds = and-true (nat_le m tail.precedence) (nat_le tail.operand f.precedence) fit in
          let sample = rule-sample tail.rule (tail-fits w tail of_mark).1 in
          let own : IsPart L d (expression f.precedence) f.expr front = IsPart-grows L L (no_more L) h d (expression f.precedence) f.expr front is.low is.own in
          refused_deep (read_tails L inner d m (suc n) f h) (After front) L d (L lists) (at (kind_of w) p) ts
          (record {
            counts = L;
            levels = suc d;
            counts_more = no_more L;
            levels_more = omega arith;
            only = refl;
            value = tail.tree f.expr sample.value p;
            more = sample.tokens;
            spelled = tailed L d front f m w p tail of_mark (leb-true _ _ bounds.0) (leb-true _ _ bounds.1) own sample.value sample.tokens (sample.spelled L d);
          })
          (λ us. rw (mark_is, of_mark, fit, full) refl)

      by_fit : (tail : Tail) → tail_of w ≡ Some tail → (b : Bool) → nat_le m tail.precedence && nat_le tail.operand f.precedence ≡ b
          → Explains (read_tails L inner d m (suc n) f h) (After front) L d (L lists) (at (kind_of w) p ∷ ts) (tail_by L inner d (read_tails L inner d m n) f h (at (kind_of w) p) ts (cond b (Some tail) None))
      by_fit tail of_mark true fit = by_room tail of_mark fit (nat_lt h d) refl
      by_fit tail of_mark false not = let mark_is = mark_in-kind_of w in ends (suc n) front f h is (at (kind_of w) p ∷ ts) (stays (suc n) f h (at (kind_of w) p) ts (λ us. rw (mark_is, of_mark, not) refl))

      by_tail : (o : Option Tail) → tail_of w ≡ o → Explains (read_tails L inner d m (suc n) f h) (After front) L d (L lists) (at (kind_of w) p ∷ ts) (tail_by L inner d (read_tails L inner d m n) f h (at (kind_of w) p) ts (between m f.precedence o))
      by_tail None of_mark = let mark_is = mark_in-kind_of w in ends (suc n) front f h is (at (kind_of w) p ∷ ts) (stays (suc n) f h (at (kind_of w) p) ts (λ us. rw (mark_is, of_mark) refl))
      by_tail (Some tail) of_mark = by_fit tail of_mark (nat_le m tail.precedence && nat_le tail.operand f.precedence) refl

    by_sign : (n : ℕ) → GoesOn n → (front : Tokens) (f : Front) (h : ℕ) → IsFront front f h → (w : TokenKind) (p : Place) (ts : Tokens) → Explains (read_tails L inner d m (suc n) f h) (After front) L d (L lists) (at w p ∷ ts) (read_tails L inner d m (suc n) f h (at w p ∷ ts))
    by_sign n goes front f h is (what.Name x) p ts = ends (suc n) front f h is (at (what.Name x) p ∷ ts) (stays (suc n) f h (at (what.Name x) p) ts (λ us. refl))
    by_sign n goes front f h is (what.Integer x) p ts = ends (suc n) front f h is (at (what.Integer x) p ∷ ts) (stays (suc n) f h (at (what.Integer x) p) ts (λ us. refl))
    by_sign n goes front f h is (what.Number x) p ts = ends (suc n) front f h is (at (what.Number x) p ∷ ts) (stays (suc n) f h (at (what.Number x) p) ts (λ us. refl))
    by_sign n goes front f h is (what.Text x) p ts = ends (suc n) front f h is (at (what.Text x) p ∷ ts) (stays (suc n) f h (at (what.Text x) p) ts (λ us. refl))
    by_sign n goes front f h is what.End p ts = ends (suc n) front f h is (at what.End p ∷ ts) (stays (suc n) f h (at what.End p) ts (λ us. refl))
    by_sign n goes front f h is (what.Sign s) p ts = by_tail n goes front f h is (sign s) p ts (tail_of (sign s)) refl
    by_sign n goes front f h is (what.Reserved k) p ts = by_tail n goes front f h is (key k) p ts (tail_of (key k)) refl

    at_end : (n : ℕ) (f : Front) (h : ℕ) (rest : Tokens) → SameHead [] rest → read_tails L inner d m (suc n) f h rest ≡ got f.expr h rest
    at_end n f h [] s = refl
    at_end n f h (u ∷ us) s = absurd s

    tails-explained : (n : ℕ) → GoesOn n
    tails-explained zero front f h is ts = ends zero front f h is ts (λ rest s. refl)
    tails-explained (suc n) front f h is [] = ends (suc n) front f h is [] (at_end n f h)
    tails-explained (suc n) front f h is (t ∷ ts) = by_sign n (λ front f h is us. tails-explained n front f h is us) front f h is t.what t.place ts

    -- ---- the whole

    whole_step : (a b : Tokens) (L' : Counts) (l : ℕ) → IsMore L L' → d ≤ l → (x : Expr) (us : Tokens) → After a L' l x (b ++ us) → (y : Expr) × (vs extra : Tokens) × (vs ≡ us ++ extra) × SpellsPart (expression m) L' l y ((a ++ b) ++ vs)
    whole_step a b L' l more le x us s = (x, us, [], sym (append-nil us), subst (λ (vs : Tokens). IsPart L' l (expression m) x vs) (sym (append_assoc a b us)) s)

    after_again : (ts : Tokens) (f : Got Front) (e : IsRead (read_front L inner d m) (SpellsFront m) L d (L lists) ts f) (then end : Tokens) (y : Tokens → Read Expr) → f.rest ≡ then ++ end
        → ((rest : Tokens) → SameHead end rest → read_tails L inner d m (suc d) f.value f.levels (then ++ rest) ≡ y rest) → (rest : Tokens) → SameHead end rest → read_expr L inner d m ((e.front ++ then) ++ rest) ≡ y rest
    after_again ts f e then end y parts again rest same =
        let head : SameHead f.rest (then ++ rest) = subst (λ (us : Tokens). SameHead us (then ++ rest)) (sym parts) (SameHead-append then end rest same) in
        let one = e.again (then ++ rest) head in
        let two = again rest same in
        ap (read_expr L inner d m) (append_assoc e.front then rest) ∙ rw one two

    after_front : (ts : Tokens) (f : Got Front) (e : IsRead (read_front L inner d m) (SpellsFront m) L d (L lists) ts f) (x : Read Expr)
        → Explains (read_tails L inner d m (suc d) f.value f.levels) (After e.front) L d (L lists) f.rest x → Explains (read_expr L inner d m) (SpellsPart (expression m)) L d (L lists) ts x
    after_front ts f e (Ok a) g = record {
      front = e.front ++ g.front;
      parts = e.parts ∙ ap (λ (us : Tokens). e.front ++ us) g.parts ∙ sym (append_assoc e.front g.front a.rest);
      low = g.low;
      spelled = g.spelled;
      again = after_again ts f e g.front a.rest (got a.value a.levels) g.parts g.again;
    }
    after_front ts f e (Err b) g = record {
      front = e.front ++ g.front;
      parts = e.parts ∙ ap (λ (us : Tokens). e.front ++ us) g.parts ∙ sym (append_assoc e.front g.front b.rest);
      goes_on = goes-map (After e.front) (SpellsPart (expression m)) same_levels same_rises L d g.front (e.front ++ g.front) (whole_step e.front g.front)
          (λ none. inr (
            [],
            f.value.expr,
            subst (λ (us : Tokens). IsPart L d (expression m) f.value.expr us) (sym (append-nil (e.front ++ g.front) ∙ ap (λ (us : Tokens). e.front ++ us) none ∙ append-nil e.front))
                (IsPart-grows L L (no_more L) f.levels d (expression m) f.value.expr e.front e.low e.spelled.0),
          )) g.goes_on;
      beyond = beyond-map (After e.front) (SpellsPart (expression m)) same_levels same_rises L d g.front (e.front ++ g.front) (whole_step e.front g.front) b.kind b.rest g.beyond;
      long = λ is. let l = g.long is in let n = length-append e.front g.front in omega (arith, l, n);
      again = after_again ts f e g.front b.rest (halt b.kind) g.parts g.again;
    }

    front_step : (a : Tokens) (L' : Counts) (l : ℕ) → IsMore L L' → d ≤ l → (x : Front) (us : Tokens) → SpellsFront m L' l x (a ++ us) → (y : Expr) × (vs extra : Tokens) × (vs ≡ us ++ extra) × SpellsPart (expression m) L' l y (a ++ vs)
    front_step a L' l more le x us s = (x.expr, us, [], sym (append-nil us), s.0)

    by_front : (ts : Tokens) (x : Read Front) → Explains (read_front L inner d m) (SpellsFront m) L d (L lists) ts x → Explains (read_expr L inner d m) (SpellsPart (expression m)) L d (L lists) ts (x >>= λ f. read_tails L inner d m (suc d) f.value f.levels f.rest)
    by_front ts (Ok f) e = after_front ts f e (read_tails L inner d m (suc d) f.value f.levels f.rest) (tails-explained (suc d) e.front f.value f.levels (record { low = e.low; whole = e.spelled.0; own = e.spelled.1 }) f.rest)
    by_front ts (Err b) e = record {
      front = e.front;
      parts = e.parts;
      goes_on = goes-map (SpellsFront m) (SpellsPart (expression m)) same_levels same_rises L d e.front e.front (front_step e.front) (λ none. inl none) e.goes_on;
      beyond = beyond-map (SpellsFront m) (SpellsPart (expression m)) same_levels same_rises L d e.front e.front (front_step e.front) b.kind b.rest e.beyond;
      long = e.long;
      again = λ (rest : Tokens) same. let one = e.again rest same in rw one refl;
    }

    pub read_expr-explained : (ts : Tokens) → Explains (read_expr L inner d m) (SpellsPart (expression m)) L d (L lists) ts (read_expr L inner d m ts)
    read_expr-explained ts = by_front ts (read_front L inner d m ts) (front-explained ts)

    -- a name is a front, and what comes after it is no longer than it was
    name_front : (n : Text) (p : Place) (ts : Tokens) (k : Kind) (x : Read Expr) → Explains (read_tails L inner d m (suc d) (record { expr = tree.Name n p; precedence = top }) 0) (After (at (what.Name n) p ∷ [])) L d (L lists) ts x → x ≡ halt k (at (what.Name n) p ∷ ts) → ⊥
    name_front n p ts k (Ok a) e is = cc
    name_front n p ts k (Err b) e is =
        let b-is : b ≡ record { kind = k; rest = at (what.Name n) p ∷ ts } = cc in
        let rest-is : b.rest ≡ at (what.Name n) p ∷ ts = ap (λ (x : Halt). x.rest) b-is in
        let parts : ts ≡ e.front ++ at (what.Name n) p ∷ ts = e.parts ∙ ap (λ (us : Tokens). e.front ++ us) rest-is in
        let none : at (what.Name n) p ∷ [] ≡ [] = is_front (at (what.Name n) p ∷ []) e.front ts (at (what.Name n) p) (ap (λ (us : Tokens). at (what.Name n) p ∷ us) parts) in
        cc

    name_passes : m ≤ top → (n : Text) (p : Place) (ts : Tokens) (k : Kind) → read_expr L inner d m (at (what.Name n) p ∷ ts) ≡ halt k (at (what.Name n) p ∷ ts) → ⊥
    name_passes high n p ts k is =
        let e : IsPart L 0 (expression m) (tree.Name n p) (at (what.Name n) p ∷ []) = (at (what.Name n) p, refl, high, refl) in
        let own : IsPart L 0 (expression top) (tree.Name n p) (at (what.Name n) p ∷ []) = (at (what.Name n) p, refl, omega arith, refl) in
        let le : nat_le m top ≡ true = le-leb m top high in
        name_front n p ts k (read_tails L inner d m (suc d) (record { expr = tree.Name n p; precedence = top }) 0 ts)
        (tails-explained (suc d) (at (what.Name n) p ∷ []) (record { expr = tree.Name n p; precedence = top }) 0 (record { low = omega arith; whole = e; own = own }) ts) (rw le at is)

    pub read_expr-passes : m ≤ top → PassesSort 0 (read_expr L inner d m)
    read_expr-passes high t ts k s is =
        let n = is_name t.what s in
        name_passes high n.0 t.place ts k (subst (λ (w : TokenKind). read_expr L inner d m (at w t.place ∷ ts) ≡ halt k (at w t.place ∷ ts)) n.1 is)

-- ---- a part with at most d levels

pub read_part-explained : (inner : (q : Part) → Reader (OfPart q)) (L : Counts) (d : ℕ) → ((k : ℕ) → d ≡ suc k → (g : Rule) → fits g ≡ true → (ts : Tokens) → Explains (read L inner g) (SpellsRule g) L k (L lists) ts (read L inner g ts)) → (q : Part) (ts : Tokens)
    → Explains (read_part L inner d q) (SpellsPart q) L d (L lists) ts (read_part L inner d q ts)
read_part-explained inner L d law (expression m) ts = read_expr-explained inner L d law m ts
read_part-explained inner L d law (clause k) ts = join_part-explained inner L d law k ts

record PartLaw (L : Counts) (d : ℕ) : Type 0 where
  explained : (q : Part) (ts : Tokens) → Explains (part_at L d q) (SpellsPart q) L d (L lists) ts (part_at L d q ts)
  passes : (m : ℕ) → m ≤ top → PassesSort 0 (part_at L d (expression m))

no_levels : (L : Counts) (k : ℕ) → 0 ≡ suc k → (g : Rule) → fits g ≡ true → (ts : Tokens) → Explains (read L no_part g) (SpellsRule g) L k (L lists) ts (read L no_part g ts)
no_levels L k e g fit ts = absurd (omega arith)

level_rules : (L : Counts) (d : ℕ) → PartLaw L d → (k : ℕ) → suc d ≡ suc k → (g : Rule) → fits g ≡ true → (ts : Tokens) → Explains (read L (part_at L d) g) (SpellsRule g) L k (L lists) ts (read L (part_at L d) g ts)
level_rules L d law k e g fit ts = let same : d ≡ k = omega arith in subst (λ (l : ℕ). Explains (read L (part_at L d) g) (SpellsRule g) L l (L lists) ts (read L (part_at L d) g ts)) same ((rule-law (part_at L d) L d law.explained law.passes g fit).explained ts)

part-law : (L : Counts) (d : ℕ) → PartLaw L d
part-law L zero = record {
  explained = read_part-explained no_part L 0 (no_levels L);
  passes = λ m. read_expr-passes no_part L 0 (no_levels L) m;
}
part-law L (suc d) =
    let law = part-law L d in
    record {
      explained = read_part-explained (part_at L d) L (suc d) (level_rules L d law);
      passes = λ m. read_expr-passes (part_at L d) L (suc d) (level_rules L d law) m;
    }

-- what reading by a rule answers, with at most d levels
pub any_rule-explained : (L : Counts) (d : ℕ) (g : Rule) → fits g ≡ true → (ts : Tokens) → Explains (read L (part_at L d) g) (SpellsRule g) L d (L lists) ts (read L (part_at L d) g ts)
any_rule-explained L d g fit ts = (rule-law (part_at L d) L d (part-law L d).explained (part-law L d).passes g fit).explained ts

-- and it doesn't stop at a token that the rule takes
pub any_rule-passes : (L : Counts) (d : ℕ) (g : Rule) → fits g ≡ true → (k : ℕ) → takes k g ≡ true → PassesSort k (read L (part_at L d) g)
any_rule-passes L d g fit k z = (rule-law (part_at L d) L d (part-law L d).explained (part-law L d).passes g fit).passes k z

read_low : {A : Type 0} (r : Reader A) (S : Spelling A) (L : Counts) (d b : ℕ) (ts : Tokens) (v : Got A) (x : Read A) → Explains r S L d b ts x → x ≡ Ok v → v.levels ≤ d
read_low r S L d b ts v (Ok a) e is = let same : a ≡ v = cc in subst (λ (g : Got _). g.levels ≤ d) same e.low
read_low r S L d b ts v (Err e) f is = absurd cc

-- a tail that is read one level further in has no more levels than are left
pub tail-low : (L : Counts) (d : ℕ) (m : Mark) (tail : Tail) → tail_of m ≡ Some tail → (ts : Tokens) (v : Got (Of tail.rule)) → read L (part_at L d) tail.rule ts ≡ Ok v → v.levels ≤ d
tail-low L d m tail is ts v e = read_low (read L (part_at L d) tail.rule) (SpellsRule tail.rule) L d (L lists) ts v (read L (part_at L d) tail.rule ts) (any_rule-explained L d tail.rule (tail-fits m tail is).0 ts) e

-- a front has no more levels than there may be
pub front-low-none : (L : Counts) (m : ℕ) (ts : Tokens) (f : Got Front) → read_front L no_part 0 m ts ≡ Ok f → f.levels ≤ 0
front-low-none L m ts f is = read_low (read_front L no_part 0 m) (SpellsFront m) L 0 (L lists) ts f (read_front L no_part 0 m ts) (front-explained no_part L 0 (no_levels L) m ts) is

pub front-low : (L : Counts) (d m : ℕ) (ts : Tokens) (f : Got Front) → read_front L (part_at L d) (suc d) m ts ≡ Ok f → f.levels ≤ suc d
front-low L d m ts f is = read_low (read_front L (part_at L d) (suc d) m) (SpellsFront m) L (suc d) (L lists) ts f (read_front L (part_at L d) (suc d) m ts) (front-explained (part_at L d) L (suc d) (level_rules L d (part-law L d)) m ts) is

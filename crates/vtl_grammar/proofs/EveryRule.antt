-- Each rule's reading is explained, where the rule fits.
use Rattle.std.proofs.Common.{◌≡◌, ℕ, ◌+◌, ◌≤◌, List, [], ◌∷◌, ◌++◌, Bool, true, false, cond, Option, Some, None, inl, inr, refl, sym, ap, subst, ◌∙◌, arith}
use Rattle.std.proofs.lemmas.Bool.{eqb-true, eq-eqb, leb-true}
use Rattle.std.proofs.lemmas.List.{append-nil}
use Rattle.std.specs.Prelude.{nat_eq, nat_le, if◌then◌else◌, ◌&&◌}
use Rattle.vtl_values.specs.declared.place.Place.{Place}
use Rattle.vtl_tokens.specs.declared.token.TokenKind.{TokenKind}
use Rattle.vtl_tokens.specs.declared.token.TokenKind.TheVariants as what
use Rattle.vtl_grammar.specs.Marks.{Mark, Tokens, at, of_mark, sort_of, mark_code, sign, key}
use Rattle.vtl_grammar.specs.Rules.{Counts, Limit, lists, Rule, mark, name, integer, number, text, part, ◌▸◌, option, suffix, either, repeated, prefixed, here, Part, OfPart, expression, clause, Of, first_place}
use Rattle.vtl_grammar.specs.Forms.{top}
use Rattle.vtl_grammar.specs.Reading.{Kind, Reader, halt, got, mapped, both, choice, maybe, member, firsts, first_sort, read_mark, read_name, read_more, with_some, with_none, read}
use Rattle.vtl_grammar.proofs.Sorts.{by_test}
use Rattle.vtl_grammar.proofs.Explained.{Explains, HasSample, SpellsBoth, both-explained, mapped-explained, said-explained, choice-explained}
use Rattle.vtl_grammar.proofs.Spellings.{more-wider, SpellsPart, SpellsRule, rule-grows, and-true, has_sample, rule-sample, rule-no_tokens}
use Rattle.vtl_grammar.proofs.RuleLaws.{mark-explained, name-explained, integer-explained, number-explained, text-explained, is_open, rule-opens, SpellsRest, more-explained, more-grows, more-sample, SpellsMaybe, maybe-explained, maybe-grows, PassesSort, mapped-halts, both-passes, placed-explained, prefixed-explained}

-- ---- what fits

-- a token of that sort is taken where it stands first
abbrev pub takes : ℕ → Rule → Bool
takes k (mark m) = nat_eq (of_mark m) k
takes k name = nat_eq 0 k
takes k integer = false
takes k number = false
takes k text = false
takes k (part (expression m)) = nat_eq 0 k && nat_le m top
takes k (part (clause c)) = false
takes k (g ▸ h) = takes k g
takes k (option g h) = if member k (firsts g) then takes k g else takes k h
takes k (suffix g h) = takes k g
takes k (either g h) = if member k (firsts g) then takes k g else takes k h
takes k (repeated l g h) = takes k g
takes k (prefixed p g) = false
takes k (here g) = takes k g

-- clauses of joins may be left out, what is repeated has a token of its own before it, and a prefix stands before
-- something that takes its first token too
abbrev pub fits : Rule → Bool
fits (mark m) = true
fits name = true
fits integer = true
fits number = true
fits text = true
fits (part q) = true
fits (g ▸ h) = fits g && (fits h && has_sample h)
fits (option g h) = fits g && (fits h && has_sample h)
fits (suffix g h) = fits g && fits h
fits (either g h) = fits g && fits h
fits (repeated l g h) = fits g && (fits h && is_open h)
fits (prefixed p g) = fits g && (has_sample g && takes (first_sort p) g)
fits (here g) = fits g

-- ---- what passes a sort of token

mark-passes : (m : Mark) (k : ℕ) → nat_eq (of_mark m) k ≡ true → PassesSort k (read_mark m)
mark-passes m k e t ts kind s h =
    let same : sort_of t.what ≡ of_mark m = s ∙ sym (eqb-true (of_mark m) k e) in
    let is : nat_eq (sort_of t.what) (of_mark m) ≡ true = eq-eqb (sort_of t.what) (of_mark m) same in
    let no : got t.place 0 ts ≡ halt kind (t ∷ ts) = rw is at h in cc

name_passes : (w : TokenKind) (p : Place) (ts : Tokens) (kind : Kind) → sort_of w ≡ 0 → read_name (at w p ∷ ts) ≡ halt kind (at w p ∷ ts) → ⊥
name_passes (what.Name n) p ts kind s h = cc
name_passes (what.Integer n) p ts kind s h = absurd (omega arith)
name_passes (what.Number n) p ts kind s h = absurd (omega arith)
name_passes (what.Text n) p ts kind s h = absurd (omega arith)
name_passes what.End p ts kind s h = absurd (omega arith)
name_passes (what.Sign n) p ts kind s h = let e : 5 + mark_code (sign n) ≡ 0 = s in absurd (omega arith)
name_passes (what.Reserved n) p ts kind s h = let e : 5 + mark_code (key n) ≡ 0 = s in absurd (omega arith)

choice-passes : {A : Type 0} (ks : List ℕ) (r q : Reader A) (k : ℕ) → (member k ks ≡ true → PassesSort k r) → (member k ks ≡ false → PassesSort k q) → PassesSort k (choice ks r q)
choice-passes ks r q k yes_case no_case t ts kind s h = by_test (λ c. member k ks ≡ c → ⊥) (member k ks)
    (λ e is. let e' : member (sort_of t.what) ks ≡ true = ap (λ (j : ℕ). member j ks) s ∙ e in yes_case e t ts kind s (rw e' at h))
    (λ e is. let e' : member (sort_of t.what) ks ≡ false = ap (λ (j : ℕ). member j ks) s ∙ e in no_case e t ts kind s (rw e' at h)) refl

mapped-passes : {A B : Type 0} (f : A → B) (r : Reader A) (k : ℕ) → PassesSort k r → PassesSort k (λ ts. mapped f (r ts))
mapped-passes f r k passes t ts kind s h = passes t ts kind s (mapped-halts f (r (t ∷ ts)) kind (t ∷ ts) h)

-- the branch that a test takes
taken_branch : (c x y : Bool) → cond c x y ≡ true → ((c ≡ true) → x ≡ true) × ((c ≡ false) → y ≡ true)
taken_branch true x y e = ((λ q. e), (λ q. absurd cc))
taken_branch false x y e = ((λ q. absurd cc), (λ q. e))

-- ---- rules

module _ (inner : (q : Part) → Reader (OfPart q)) (L : Counts) (limit : ℕ) (inner-law : (q : Part) (ts : Tokens) → Explains (inner q) (SpellsPart q) L limit (L lists) ts (inner q ts)) (inner-passes : (m : ℕ) → m ≤ top → PassesSort 0 (inner (expression m))) where
  -- the law of a rule, and that it doesn't stop at a token that it takes
  pub record RuleLaw (g : Rule) : Type 0 where
    pub explained : (ts : Tokens) → Explains (read L inner g) (SpellsRule g) L limit (L lists) ts (read L inner g ts)
    pub passes : (k : ℕ) → takes k g ≡ true → PassesSort k (read L inner g)

  two-explained : (g h : Rule) → RuleLaw g → RuleLaw h → has_sample h ≡ true → (ts : Tokens) → Explains (both (read L inner g) (read L inner h)) (SpellsBoth (SpellsRule g) (SpellsRule h)) L limit (L lists) ts (both (read L inner g) (read L inner h) ts)
  two-explained g h s q e ts = both-explained (read L inner g) (read L inner h) (SpellsRule g) (SpellsRule h) L limit (L lists) (L lists) (L lists) ts (rule-grows g) (rule-grows h) (rule-sample h e) (omega arith) (λ k x us r. omega arith) (s.explained ts) q.explained

  two-passes : (g h : Rule) → RuleLaw g → RuleLaw h → (k : ℕ) → takes k g ≡ true → PassesSort k (both (read L inner g) (read L inner h))
  two-passes g h s q k e = both-passes (read L inner g) (read L inner h) (SpellsRule g) (SpellsRule h) L limit (L lists) (L lists) s.explained q.explained (rule-no_tokens g L) k (s.passes k e)

  option-law : (g h : Rule) → RuleLaw g → RuleLaw h → has_sample h ≡ true → RuleLaw (option g h)
  option-law g h s q e = record {
    explained = λ (ts : Tokens). choice-explained (firsts g) (λ us. mapped with_some (both (read L inner g) (read L inner h) us)) (λ us. mapped with_none (read L inner h us)) (SpellsRule (option g h)) L limit (L lists) ts
        (λ is. mapped-explained with_some (both (read L inner g) (read L inner h)) (SpellsBoth (SpellsRule g) (SpellsRule h)) (SpellsRule (option g h)) L limit (L lists) ts (λ L' k v us more r. r) (both (read L inner g) (read L inner h) ts) (two-explained g h s q e ts))
        (λ is. mapped-explained with_none (read L inner h) (SpellsRule h) (SpellsRule (option g h)) L limit (L lists) ts (λ L' k v us more r. r) (read L inner h ts) (q.explained ts));
    passes = λ k z.
        let branch = taken_branch (member k (firsts g)) (takes k g) (takes k h) z in
        choice-passes (firsts g) (λ us. mapped with_some (both (read L inner g) (read L inner h) us)) (λ us. mapped with_none (read L inner h us)) k
        (λ is. mapped-passes with_some (both (read L inner g) (read L inner h)) k (two-passes g h s q k (branch.0 is)))
        (λ is. mapped-passes with_none (read L inner h) k (q.passes k (branch.1 is)));
  }

  either-law : (g h : Rule) → RuleLaw g → RuleLaw h → RuleLaw (either g h)
  either-law g h s q = record {
    explained = λ (ts : Tokens). choice-explained (firsts g) (λ us. mapped inl (read L inner g us)) (λ us. mapped inr (read L inner h us)) (SpellsRule (either g h)) L limit (L lists) ts
        (λ is. mapped-explained inl (read L inner g) (SpellsRule g) (SpellsRule (either g h)) L limit (L lists) ts (λ L' k v us more r. r) (read L inner g ts) (s.explained ts))
        (λ is. mapped-explained inr (read L inner h) (SpellsRule h) (SpellsRule (either g h)) L limit (L lists) ts (λ L' k v us more r. r) (read L inner h ts) (q.explained ts));
    passes = λ k z.
        let branch = taken_branch (member k (firsts g)) (takes k g) (takes k h) z in
        choice-passes (firsts g) (λ us. mapped inl (read L inner g us)) (λ us. mapped inr (read L inner h us)) k
        (λ is. mapped-passes inl (read L inner g) k (s.passes k (branch.0 is)))
        (λ is. mapped-passes inr (read L inner h) k (q.passes k (branch.1 is)));
  }

  suffix-said : (g h : Rule) (L' : Counts) (k : ℕ) (v : Of g × Option (Of h)) (us : Tokens) → SpellsBoth (SpellsRule g) (SpellsMaybe (SpellsRule h)) L' k v us → SpellsRule (suffix g h) L' k v us
  suffix-said g h L' k (v, None) us (a, b, parts, s, none) = subst (λ (vs : Tokens). SpellsRule g L' k v vs) (sym (parts ∙ ap (λ (vs : Tokens). a ++ vs) none ∙ append-nil a)) s
  suffix-said g h L' k (v, Some w) us s = s

  maybe-sample : (h : Rule) → HasSample (SpellsMaybe (SpellsRule h))
  maybe-sample h = record { value = None; tokens = []; spelled = λ L' k. refl }

  suffix-law : (g h : Rule) → RuleLaw g → RuleLaw h → RuleLaw (suffix g h)
  suffix-law g h s q = record {
    explained = λ (ts : Tokens). said-explained (both (read L inner g) (maybe (firsts h) (read L inner h))) (SpellsBoth (SpellsRule g) (SpellsMaybe (SpellsRule h))) (SpellsRule (suffix g h)) L limit (L lists) ts (λ L' k v us more r. suffix-said g h L' k v us r)
        (both (read L inner g) (maybe (firsts h) (read L inner h)) ts)
        (both-explained (read L inner g) (maybe (firsts h) (read L inner h)) (SpellsRule g) (SpellsMaybe (SpellsRule h)) L limit (L lists) (L lists) (L lists) ts (rule-grows g) (maybe-grows (SpellsRule h) (rule-grows h)) (maybe-sample h) (omega arith) (λ k x us r. omega arith) (s.explained ts)
        (λ us. maybe-explained (firsts h) (read L inner h) (SpellsRule h) L limit (L lists) us (q.explained us)));
    passes = λ k z. both-passes (read L inner g) (maybe (firsts h) (read L inner h)) (SpellsRule g) (SpellsMaybe (SpellsRule h)) L limit (L lists) (L lists) s.explained
        (λ us. maybe-explained (firsts h) (read L inner h) (SpellsRule h) L limit (L lists) us (q.explained us)) (rule-no_tokens g L) k (s.passes k z);
  }

  repeated-said : (l : Limit) (g h : Rule) (L' : Counts) (k : ℕ) (v : Of g × List (Of h)) (us : Tokens) → SpellsBoth (SpellsRule g) (SpellsRest l (SpellsRule h) 0) L' k v us → SpellsRule (repeated l g h) L' k v us
  repeated-said l g h L' k v us (a, b, parts, s, (n, le, ss)) = (a, b, parts, s, more-wider (SpellsRule h L' k) (SpellsRule h L' k) (λ x vs r. r) n (L' l) v.1 b (omega arith) ss)

  rest-explained : (l : Limit) (h : Rule) → RuleLaw h → is_open h ≡ true → (ts : Tokens) → Explains (read_more (firsts h) l (read L inner h) (L l)) (SpellsRest l (SpellsRule h) 0) L limit (L lists) ts (read_more (firsts h) l (read L inner h) (L l) ts)
  rest-explained l h q o ts = more-explained (firsts h) l (read L inner h) (SpellsRule h) L limit (rule-grows h) (rule-no_tokens h) (rule-opens h o) q.explained (L l) 0 (omega arith) (L lists)
      (λ is. let same : L l ≡ L lists = ap L is in omega arith) (omega arith) ts

  repeated-law : (l : Limit) (g h : Rule) → RuleLaw g → RuleLaw h → is_open h ≡ true → RuleLaw (repeated l g h)
  repeated-law l g h s q o = record {
    explained = λ (ts : Tokens). said-explained (both (read L inner g) (read_more (firsts h) l (read L inner h) (L l))) (SpellsBoth (SpellsRule g) (SpellsRest l (SpellsRule h) 0)) (SpellsRule (repeated l g h)) L limit (L lists) ts (λ L' k v us more r. repeated-said l g h L' k v us r)
        (both (read L inner g) (read_more (firsts h) l (read L inner h) (L l)) ts)
        (both-explained (read L inner g) (read_more (firsts h) l (read L inner h) (L l)) (SpellsRule g) (SpellsRest l (SpellsRule h) 0) L limit (L lists) (L lists) (L lists) ts (rule-grows g)
        (more-grows (firsts h) l (read L inner h) (SpellsRule h) L limit (rule-grows h) (rule-no_tokens h) (rule-opens h o) q.explained 0)
        (more-sample (firsts h) l (read L inner h) (SpellsRule h) L limit (rule-grows h) (rule-no_tokens h) (rule-opens h o) q.explained 0)
        (omega arith) (λ k x us r. omega arith) (s.explained ts) (rest-explained l h q o));
    passes = λ k z. both-passes (read L inner g) (read_more (firsts h) l (read L inner h) (L l)) (SpellsRule g) (SpellsRest l (SpellsRule h) 0) L limit (L lists) (L lists) s.explained (rest-explained l h q o) (rule-no_tokens g L) k (s.passes k z);
  }

  pub rule-law : (g : Rule) → fits g ≡ true → RuleLaw g
  rule-law (mark m) e = record { explained = mark-explained L limit (L lists) m; passes = λ k z. mark-passes m k z }
  rule-law name e = record { explained = name-explained L limit (L lists); passes = λ k z t ts kind s h. name_passes t.what t.place ts kind (s ∙ sym (eqb-true 0 k z)) h }
  rule-law integer e = record { explained = integer-explained L limit (L lists); passes = λ k z. absurd cc }
  rule-law number e = record { explained = number-explained L limit (L lists); passes = λ k z. absurd cc }
  rule-law text e = record { explained = text-explained L limit (L lists); passes = λ k z. absurd cc }
  rule-law (part (expression m)) e = record { explained = inner-law (expression m); passes = λ k z t ts kind s h. let zs = and-true (nat_eq 0 k) (nat_le m top) z in inner-passes m (leb-true m top zs.1) t ts kind (s ∙ sym (eqb-true 0 k zs.0)) h }
  rule-law (part (clause c)) e = record { explained = inner-law (clause c); passes = λ k z. absurd cc }
  rule-law (g ▸ h) e =
      let es = and-true (fits g) (fits h && has_sample h) e in
      let fs = and-true (fits h) (has_sample h) es.1 in
      let s = rule-law g es.0 in
      let q = rule-law h fs.0 in
      record { explained = two-explained g h s q fs.1; passes = λ k z. two-passes g h s q k z }
  rule-law (option g h) e =
      let es = and-true (fits g) (fits h && has_sample h) e in
      let fs = and-true (fits h) (has_sample h) es.1 in
      option-law g h (rule-law g es.0) (rule-law h fs.0) fs.1
  rule-law (suffix g h) e = let es = and-true (fits g) (fits h) e in suffix-law g h (rule-law g es.0) (rule-law h es.1)
  rule-law (either g h) e = let es = and-true (fits g) (fits h) e in either-law g h (rule-law g es.0) (rule-law h es.1)
  rule-law (repeated l g h) e =
      let es = and-true (fits g) (fits h && is_open h) e in
      let fs = and-true (fits h) (is_open h) es.1 in
      repeated-law l g h (rule-law g es.0) (rule-law h fs.0) fs.1
  rule-law (prefixed p g) e =
      let es = and-true (fits g) (has_sample g && takes (first_sort p) g) e in
      let fs = and-true (has_sample g) (takes (first_sort p) g) es.1 in
      let s = rule-law g es.0 in
      record { explained = prefixed-explained g (read L inner g) p L limit (L lists) (rule-sample g fs.0) s.explained (s.passes (first_sort p) fs.1); passes = λ k z. absurd cc }
  rule-law (here g) e =
      let s = rule-law g e in
      record {
        explained = λ (ts : Tokens). placed-explained (read L inner g) (SpellsRule g) L limit (L lists) (rule-no_tokens g) ts (read L inner g ts) (s.explained ts);
        passes = λ k z t ts kind r h. s.passes k z t ts kind r (mapped-halts (λ v. (first_place (t ∷ ts), v)) (read L inner g (t ∷ ts)) kind (t ∷ ts) h);
      }

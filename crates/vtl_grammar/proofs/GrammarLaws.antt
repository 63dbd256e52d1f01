-- A script is read exactly where it is one, and reading stops at the first token with which none goes on.
use Rattle.std.proofs.Common.{◌≡◌, ℕ, suc, ◌+◌, ◌≤◌, max, length, List, [], ◌∷◌, ◌++◌, Ok, Err, inl, inr, refl, sym, ap, subst, ◌∙◌, append_assoc, arith}
use Rattle.std.proofs.lemmas.List.{append-nil, length-append}
use Rattle.vtl_tokens.specs.declared.token.Token.{Token}
use Rattle.vtl_syntax.specs.declared.script.Script.{Script}
use Rattle.vtl_grammar.specs.Marks.{Tokens}
use Rattle.vtl_grammar.specs.Rules.{Counts, Limit, operands, rules, parameters, statements, rulesets, operators, lists}
use Rattle.vtl_grammar.specs.Scripts.{a_statement, a_ruleset, an_operator, limit_of, Piece, IsPieces, AreFew, script_of, IsScriptIn, IsScript, IsScriptAtLarge, language, LEVELS}
use Rattle.vtl_grammar.specs.Faults.{GoesOn, GoesNoFurther, GoesOnThere, IsLongScript}
use Rattle.vtl_grammar.specs.Reading.{Kind, Expected, TooDeep, TooMany, Got, Halt, Read, Reader, halt, got, mapped}
use Rattle.vtl_grammar.specs.ScriptReading.{Left, total, limits_of, read_pieces, read_script}
use Rattle.vtl_grammar.specs.Laws.{IsReason, StopsAt, Answers, ReadsRightly, ReadsScripts, OneScript}
use Rattle.vtl_grammar.proofs.Explained.{SameHead, SameHead-refl, IsMore, Further, Goes, Beyond, IsRead, IsHalted, Explains, no_more}
use Rattle.vtl_grammar.proofs.ScriptLaws.{SpellsPieces, IsPieces-wider, pieces-explained, pieces-read, pieces-agree, all-read}
use Rattle.vtl_grammar.proofs.Agreement.{SamePieces, IsSame, Agrees}

-- ---- limits

abbrev larger : Counts → Counts → Counts
larger L L' j = max (L j) (L' j)

left-more : (L L' : Counts) → IsMore L (larger L L')
left-more L L' j = omega arith

right-more : (L L' : Counts) → IsMore L' (larger L L')
right-more L L' j = omega arith

-- a language with longer lists
longer-lists : (n m : ℕ) → n ≤ m → IsMore (language n) (language m)
longer-lists n m le operands = omega arith
longer-lists n m le rules = omega arith
longer-lists n m le parameters = omega arith
longer-lists n m le statements = omega arith
longer-lists n m le rulesets = omega arith
longer-lists n m le operators = omega arith
longer-lists n m le lists = le

as_many_pieces : (n m : ℕ) → SamePieces (language n) (language m)
as_many_pieces n m a_statement = refl
as_many_pieces n m a_ruleset = refl
as_many_pieces n m an_operator = refl

abbrev pieces_of : Counts → ℕ → Reader (List Piece)
pieces_of L d ts = read_pieces L d (suc (total (limits_of L))) (limits_of L) ts

-- nothing came before
abbrev none_yet : Left
none_yet j = 0

-- what is a script within limits is read within higher ones
read-within : (L L' : Counts) → IsMore L L' → (d d' : ℕ) → d ≤ d' → (ps : List Piece) (us : Tokens) → AreFew L ps → IsPieces L d ps us → (h : ℕ) × (pieces_of L' d' us ≡ got ps h [])
read-within L L' more d d' le ps us few s = pieces-read L' d' (suc (total (limits_of L'))) (limits_of L') (omega arith) ps us (λ j. let n = few j in let m = more (limit_of j) in omega arith) (IsPieces-wider L L' more d d' le ps us s)

agree-within : (L L' : Counts) (more : IsMore L L') (D : Type 0) (d d' : ℕ) → d ≤ d' → (D → d ≡ d') → (ts : Tokens) → Agrees L L' more D (pieces_of L d ts) (pieces_of L' d' ts)
agree-within L L' more D d d' le same ts = pieces-agree L L' more D d d' le same (suc (total (limits_of L))) (suc (total (limits_of L'))) (limits_of L) (limits_of L') (omega arith) (omega arith) (λ j. more (limit_of j)) (λ s j. s j) ts

abbrev done : Got (List Piece) → Read (List Piece)
done a = Ok a

same_got : (a b : Got (List Piece)) → done a ≡ done b → a ≡ b
same_got a b e = cc

-- ---- tokens of a certain number, of which lists are no longer

module _ (n : ℕ) (ts : Tokens) (enough : length ts ≤ n) where
  abbrev Explained : Read (List Piece) → Type 0
  Explained x = Explains (pieces_of (language n) LEVELS) (SpellsPieces none_yet) (language n) LEVELS (language n lists) ts x

  explained : Explained (pieces_of (language n) LEVELS ts)
  explained = pieces-explained (language n) LEVELS (suc (total (limits_of (language n)))) none_yet (limits_of (language n)) (λ j. omega arith) (omega arith) ts

  -- pieces within the limits are a script
  as_script : (L : Counts) (d h : ℕ) → h ≤ d → (ps : List Piece) (us : Tokens) → SpellsPieces none_yet L h ps us → IsScriptIn L d (script_of ps) us
  as_script L d h le ps us (few, s) = (ps, refl, (λ j. let n = few j in omega arith), IsPieces-wider L L (no_more L) h d le ps us s)

  read-is : (a : Got (List Piece)) → pieces_of (language n) LEVELS ts ≡ Ok a → IsRead (pieces_of (language n) LEVELS) (SpellsPieces none_yet) (language n) LEVELS (language n lists) ts a → IsScript (script_of a.value) ts
  read-is a is e =
      let end : a.rest ≡ [] = all-read (language n) LEVELS (suc (total (limits_of (language n)))) (limits_of (language n)) ts a is in
      let whole : ts ≡ e.front = e.parts ∙ ap (λ (us : Tokens). e.front ++ us) end ∙ append-nil e.front in
      (n, subst (λ (us : Tokens). IsScriptIn (language n) LEVELS (script_of a.value) us) (sym whole) (as_script (language n) LEVELS a.levels e.low a.value e.front e.spelled))

  module _ (e : Halt) (f : IsHalted (pieces_of (language n) LEVELS) (SpellsPieces none_yet) (language n) LEVELS (language n lists) ts e) where
    some_beyond : (rest : Tokens) → Beyond (SpellsPieces none_yet) (language n) LEVELS (TooMany lists) f.front rest → (t : Token) × (us : Tokens) × (rest ≡ t ∷ us)
    some_beyond [] b = absurd cc
    some_beyond (t ∷ us) b = (t, us, refl)

    -- no list is too long
    not_lists : e.kind ≡ TooMany lists → ⊥
    not_lists is =
        let long : n ≤ length f.front = f.long is in
        let some = some_beyond e.rest (subst (λ (k : Kind). Beyond (SpellsPieces none_yet) (language n) LEVELS k f.front e.rest) is f.beyond) in
        let count : length ts ≡ length f.front + length e.rest = ap length f.parts ∙ length-append f.front e.rest in
        let more : length e.rest ≡ suc (length some.1) = ap length some.2 in
        omega (arith, long, count, more, enough)

    -- within higher limits it stops there too, where the limit that is passed is the same
    same_lists : (m : ℕ) (up : IsMore (language n) (language m)) (k : Kind) → (k ≡ TooMany lists → ⊥) → IsSame (language n) (language m) up (Unit {0}) k
    same_lists m up Expected not = tt
    same_lists m up TooDeep not = tt
    same_lists m up (TooMany operands) not = (refl, as_many_pieces n m)
    same_lists m up (TooMany rules) not = (refl, as_many_pieces n m)
    same_lists m up (TooMany statements) not = (refl, as_many_pieces n m)
    same_lists m up (TooMany rulesets) not = (refl, as_many_pieces n m)
    same_lists m up (TooMany parameters) not = (refl, as_many_pieces n m)
    same_lists m up (TooMany operators) not = (refl, as_many_pieces n m)
    same_lists m up (TooMany lists) not = absurd (not refl)

    contradicted : (x y : Read (List Piece)) (ps : List Piece) (h : ℕ) (us : Tokens) → x ≡ halt e.kind us → y ≡ got ps h [] → y ≡ x → ⊥
    contradicted x y ps h us a b c = cc

    of_halt : (L L' : Counts) (more : IsMore L L') (D : Type 0) (x y : Read (List Piece)) (us : Tokens) → x ≡ halt e.kind us → IsSame L L' more D e.kind → Agrees L L' more D x y → y ≡ x
    of_halt L L' more D (Ok a) y us is s g = absurd cc
    of_halt L L' more D (Err b) y us is s g = let same : b ≡ record { kind = e.kind; rest = us } = cc in g (subst (λ (k : Kind). IsSame L L' more D k) (sym (ap (λ (x : Halt). x.kind) same)) s)

    refuted : (more : Tokens) → SameHead e.rest more → (s : Script) → IsScript s (f.front ++ more) → ⊥
    refuted more same s (m, (ps, is, few, pieces)) =
        let M = max n m in
        let up : IsMore (language n) (language M) = longer-lists n M (omega arith) in
        let here = f.again more same in
        let there = read-within (language m) (language M) (longer-lists m M (omega arith)) LEVELS LEVELS (omega arith) ps (f.front ++ more) few pieces in
        let agree = agree-within (language n) (language M) up (Unit {0}) LEVELS LEVELS (omega arith) (λ u. refl) (f.front ++ more) in
        contradicted (pieces_of (language n) LEVELS (f.front ++ more)) (pieces_of (language M) LEVELS (f.front ++ more)) ps there.0 more here there.1
        (of_halt (language n) (language M) up (Unit {0}) _ _ more here (same_lists M up e.kind not_lists) agree)

    -- where no limit is passed, no script of any limits goes on
    refuted-at-large : e.kind ≡ Expected → (more : Tokens) → SameHead e.rest more → (s : Script) → IsScriptAtLarge s (f.front ++ more) → ⊥
    refuted-at-large expected more same s (L, d, (ps, is, few, pieces)) =
        let M = larger (language n) L in
        let up : IsMore (language n) M = left-more (language n) L in
        let here = f.again more same in
        let there = read-within L M (right-more (language n) L) d (max LEVELS d) (omega arith) ps (f.front ++ more) few pieces in
        let agree = agree-within (language n) M up ⊥ LEVELS (max LEVELS d) (omega arith) (λ u. absurd u) (f.front ++ more) in
        contradicted (pieces_of (language n) LEVELS (f.front ++ more)) (pieces_of M (max LEVELS d) (f.front ++ more)) ps there.0 more here there.1
        (of_halt (language n) M up ⊥ _ _ more here (subst (λ (k : Kind). IsSame (language n) M up ⊥ k) (sym expected) tt) agree)

    -- where it is too deep, no script with more of what is counted goes on
    refuted-long : e.kind ≡ TooDeep → (more : Tokens) → SameHead e.rest more → (s : Script) → IsLongScript s (f.front ++ more) → ⊥
    refuted-long deep more same s (L, (ps, is, few, pieces)) =
        let M = larger (language n) L in
        let up : IsMore (language n) M = left-more (language n) L in
        let here = f.again more same in
        let there = read-within L M (right-more (language n) L) LEVELS LEVELS (omega arith) ps (f.front ++ more) few pieces in
        let agree = agree-within (language n) M up (Unit {0}) LEVELS LEVELS (omega arith) (λ u. refl) (f.front ++ more) in
        contradicted (pieces_of (language n) LEVELS (f.front ++ more)) (pieces_of M LEVELS (f.front ++ more)) ps there.0 more here there.1
        (of_halt (language n) M up (Unit {0}) _ _ more here (subst (λ (k : Kind). IsSame (language n) M up (Unit {0}) k) (sym deep) tt) agree)

    goes : Goes (SpellsPieces none_yet) (language n) LEVELS f.front → GoesOn IsScript f.front
    goes (inl none) = ([], script_of [], (n, subst (λ (us : Tokens). IsScriptIn (language n) LEVELS (script_of []) (us ++ [])) (sym none) ([], refl, (λ j. omega arith), refl)))
    goes (inr g) = (g.0, script_of g.1, (n, as_script (language n) LEVELS LEVELS (omega arith) g.1 (f.front ++ g.0) g.2))

    no_further : (P : Script → Tokens → Type 0) → ((more : Tokens) → SameHead e.rest more → (s : Script) → P s (f.front ++ more) → ⊥) → (rest : Tokens) → e.rest ≡ rest → GoesNoFurther P f.front rest
    no_further P none [] is = λ s p. none [] (subst (λ (us : Tokens). SameHead us []) (sym is) tt) s (subst (λ (us : Tokens). P s us) (sym (append-nil f.front)) p)
    no_further P none (t ∷ us) is = λ g. none (t ∷ g.0) (subst (λ (vs : Tokens). SameHead vs (t ∷ g.0)) (sym is) refl) g.1 (subst (λ (vs : Tokens). P g.1 vs) (append_assoc f.front (t ∷ []) g.0) g.2)

    -- where a limit is passed, a script goes on where that is higher
    deep : (t : Token) → Further (SpellsPieces none_yet) (language n) LEVELS TooDeep f.front t → GoesOn IsScriptAtLarge (f.front ++ t ∷ [])
    deep t x = (
      x.more,
      script_of x.value,
      (
        x.counts,
        x.levels,
        subst (λ (us : Tokens). IsScriptIn x.counts x.levels (script_of x.value) us) (sym (append_assoc f.front (t ∷ []) x.more)) (as_script x.counts x.levels x.levels (omega arith) x.value (f.front ++ t ∷ x.more) x.spelled),
      ),
    )

    not_long : e.kind ≡ TooDeep → (rest : Tokens) → e.rest ≡ rest → GoesOnThere IsLongScript f.front rest → ⊥
    not_long is rest end (t, us, begins, g) = refuted-long is (t ∷ g.0) (subst (λ (vs : Tokens). SameHead vs (t ∷ g.0)) (sym (end ∙ begins)) refl) g.1 (subst (λ (vs : Tokens). IsLongScript g.1 vs) (append_assoc f.front (t ∷ []) g.0) g.2)

    long : (j : Limit) (t : Token) → Further (SpellsPieces none_yet) (language n) LEVELS (TooMany j) f.front t → GoesOn IsLongScript (f.front ++ t ∷ [])
    long j t x = (
      x.more,
      script_of x.value,
      (
        x.counts,
        subst (λ (l : ℕ). IsScriptIn x.counts l (script_of x.value) ((f.front ++ t ∷ []) ++ x.more)) x.only
            (subst (λ (us : Tokens). IsScriptIn x.counts x.levels (script_of x.value) us) (sym (append_assoc f.front (t ∷ []) x.more)) (as_script x.counts x.levels x.levels (omega arith) x.value (f.front ++ t ∷ x.more) x.spelled)),
      ),
    )

    reason : (k : Kind) (rest : Tokens) → e.kind ≡ k → e.rest ≡ rest → Beyond (SpellsPieces none_yet) (language n) LEVELS k f.front rest → IsReason k f.front rest
    reason Expected rest is end b = no_further IsScriptAtLarge (refuted-at-large is) rest end
    reason TooDeep [] is end b = absurd cc
    reason TooDeep (t ∷ us) is end (inl b) = absurd cc
    reason TooDeep (t ∷ us) is end (inr b) = ((t, us, refl, deep t b), not_long is (t ∷ us) end)
    reason (TooMany j) [] is end b = absurd cc
    reason (TooMany j) (t ∷ us) is end (inl b) = absurd cc
    reason (TooMany j) (t ∷ us) is end (inr b) = (t, us, refl, long j t b)

    pub stops-at : StopsAt ts e
    stops-at = record { front = f.front; parts = f.parts; goes_on = goes f.goes_on; no_further = no_further IsScript refuted e.rest refl; reason = reason e.kind e.rest refl refl f.beyond }

  answer : (x : Read (List Piece)) → pieces_of (language n) LEVELS ts ≡ x → Explained x → Answers ts (mapped script_of x)
  answer (Ok a) is e = read-is a is e
  answer (Err b) is e = stops-at b e

  pub answers : Answers ts (read_script (language n) LEVELS ts)
  answers = answer (pieces_of (language n) LEVELS ts) refl explained

  -- a script is read as itself
  read_as : (x : Read (List Piece)) → pieces_of (language n) LEVELS ts ≡ x → Explained x → (s : Script) (sp : IsScript s ts) → (h : ℕ) × (mapped script_of x ≡ got s h [])
  read_as (Err b) is e s sp =
      let t = stops-at b e in
      absurd (refuted b e b.rest (SameHead-refl b.rest) s (subst (λ (us : Tokens). IsScript s us) e.parts sp))
  read_as (Ok a) is e s (m, (ps, of, few, pieces)) =
      let M = max n m in
      let up : IsMore (language n) (language M) = longer-lists n M (omega arith) in
      let there = read-within (language m) (language M) (longer-lists m M (omega arith)) LEVELS LEVELS (omega arith) ps ts few pieces in
      let agree : Agrees (language n) (language M) up (Unit {0}) (Ok a) (pieces_of (language M) LEVELS ts) = subst (λ (x : Read (List Piece)). Agrees (language n) (language M) up (Unit {0}) x (pieces_of (language M) LEVELS ts)) is (agree-within (language n) (language M) up (Unit {0}) LEVELS LEVELS (omega arith) (λ u. refl) ts) in
      let same : a ≡ record { value = ps; levels = there.0; rest = [] } = same_got a (record { value = ps; levels = there.0; rest = [] }) (sym agree ∙ there.1) in
      (there.0, ap (λ (g : Got (List Piece)). got (script_of g.value) g.levels g.rest) same ∙ ap (λ (x : Script). got x there.0 []) (sym of))

  pub script-read : (s : Script) → IsScript s ts → (h : ℕ) × (read_script (language n) LEVELS ts ≡ got s h [])
  script-read s sp = read_as (pieces_of (language n) LEVELS ts) refl explained s sp

-- ---- the laws

pub reads_rightly : ReadsRightly
reads_rightly ts = answers (length ts) ts (omega arith)

pub reads_scripts : ReadsScripts
reads_scripts s ts is = script-read (length ts) ts (omega arith) s is

abbrev whole : Got Script → Read Script
whole a = Ok a

same_whole : (a b : Got Script) → whole a ≡ whole b → a ≡ b
same_whole a b e = cc

pub one_script : OneScript
one_script s s' ts is is' =
    let a = reads_scripts s ts is in
    let b = reads_scripts s' ts is' in
    ap (λ (g : Got Script). g.value) (same_whole (record { value = s; levels = a.0; rest = [] }) (record { value = s'; levels = b.0; rest = [] }) (sym a.1 ∙ b.1))

-- What tokens are told to be is right by the grammar.
use Rattle.std.proofs.Common.{◌≡◌, ◌-◌, [], ◌∷◌, ◌++◌, length, take, Bool, true, false, if◌then◌else◌, Option, Some, None, Ok, Err, refl, sym, ap, subst, ◌∙◌, arith, length-append}
use Rattle.std.proofs.lemmas.List.{take-append-le, take_all}
use Rattle.vtl_tokens.specs.declared.token.Token.{Token}
use Rattle.vtl_tokens.specs.declared.token.TokenKind.{TokenKind}
use Rattle.vtl_tokens.specs.declared.token.TokenKind.TheVariants as what
use Rattle.vtl_tokens.specs.declared.keyword.Keyword.{Keyword}
use Rattle.vtl_syntax.specs.declared.script.Script.{Script}
use Rattle.vtl_grammar.specs.Marks.{Tokens}
use Rattle.vtl_grammar.specs.Scripts.{IsScript}
use Rattle.vtl_grammar.specs.Faults as faults
use Rattle.vtl_grammar.specs.Faults.{Fault, GoesOn, IsFault, IsLeftOutAt, IsParsed}
use Rattle.vtl_grammar.specs.Reading.{Kind, Expected, TooDeep, TooMany, Read}
use Rattle.vtl_grammar.specs.Laws.{read_whole, Answers, FaultsOf}
use Rattle.vtl_grammar.proofs.GrammarLaws.{reads_rightly}
use Rattle.vtl_grammar.proofs.OneAnswer.{one_answer}
use Rattle.vtl_grammar.proofs.FaultLaw.{tells_faults}
use Rattle.vtl_grammar.specs.LeftOut.{is_left_out_at}
use Rattle.vtl_grammar.specs.Parsed.{word_in, expected_or_left_out, unexpected, fault_of, before, told_by, parsed, ParsesRightly, ParsesAll}
use Rattle.vtl_grammar.proofs.LeftOutLaw.{IsLeftOutAfter, told, is}

-- the tokens before the rest
before-front : (front rest : Tokens) → before (front ++ rest) rest ≡ front
before-front front rest =
    let long : length (front ++ rest) - length rest ≡ length front = omega (arith, length-append front rest) in
    ap (λ n. take n (front ++ rest)) long ∙ (take-append-le (length front) front rest (omega arith) ∙ take_all (length front) front (omega arith))

word_in-is : (k : TokenKind) (w : Keyword) → word_in k ≡ Some w → k ≡ what.Reserved w
word_in-is (what.Reserved v) w e = let same : v ≡ w = cc in ap what.Reserved same
word_in-is (what.Name n) w e = cc
word_in-is (what.Text n) w e = cc
word_in-is (what.Integer n) w e = cc
word_in-is (what.Number n) w e = cc
word_in-is (what.Sign s) w e = cc
word_in-is what.End w e = cc

same_some : (v w : Keyword) → (let o : Option Keyword = Some v in o) ≡ Some w → v ≡ w
same_some v w e = cc

module _ (ts front : Tokens) (t : Token) (us : Tokens) (on : GoesOn IsScript front) (f : FaultsOf Expected ts front (t ∷ us)) where
  no_word : word_in t.what ≡ None → IsFault ts faults.Expected (t ∷ us)
  no_word e = f.1 (λ w h. let bad : Some w ≡ None = sym (ap word_in h.0) ∙ e in cc)

  module _ (w : Keyword) (e : word_in t.what ≡ Some w) where
    left_out : is_left_out_at w front t.place ≡ true → IsFault ts (faults.LeftOut w) (t ∷ us)
    left_out h = f.0 w (word_in-is t.what w e, told w front t.place on h)

    not_left_out : is_left_out_at w front t.place ≡ false → IsFault ts faults.Expected (t ∷ us)
    not_left_out h = f.1 (λ v g.
        let same : w ≡ v = same_some w v (sym e ∙ ap word_in g.0) in
        let out : IsLeftOutAfter w front t.place = subst (λ x. IsLeftOutAfter x front t.place) (sym same) g.1 in
        let bad : true ≡ false = sym (is w front t.place on out) ∙ h in cc)

    by_test : (b : Bool) → is_left_out_at w front t.place ≡ b → IsFault ts (expected_or_left_out front t.place (Some w)) (t ∷ us)
    by_test true h = subst (λ (fault : Fault). IsFault ts fault (t ∷ us)) (sym (ap (λ b. if b then faults.LeftOut w else faults.Expected) h)) (left_out h)
    by_test false h = subst (λ (fault : Fault). IsFault ts fault (t ∷ us)) (sym (ap (λ b. if b then faults.LeftOut w else faults.Expected) h)) (not_left_out h)

  by_word : (o : Option Keyword) → word_in t.what ≡ o → IsFault ts (expected_or_left_out front t.place o) (t ∷ us)
  by_word None e = no_word e
  by_word (Some w) e = by_test w e (is_left_out_at w front t.place) refl

by_rest : (ts front rest : Tokens) → GoesOn IsScript front → FaultsOf Expected ts front rest → IsFault ts (unexpected front rest) rest
by_rest ts front [] on f = f.1 (λ w h. absurd h)
by_rest ts front (t ∷ us) on f = by_word ts front t us on f (word_in t.what) refl

by_kind : (k : Kind) (ts front rest : Tokens) → GoesOn IsScript front → FaultsOf k ts front rest → IsFault ts (fault_of k front rest) rest
by_kind Expected ts front rest on f = by_rest ts front rest on f
by_kind TooDeep ts front rest on f = f
by_kind (TooMany l) ts front rest on f = f

by_read : (ts : Tokens) (r : Read Script) → Answers ts r → IsParsed ts (told_by ts r)
by_read ts (Ok a) h = h
by_read ts (Err e) h =
    let there : before ts e.rest ≡ h.front = ap (λ us. before us e.rest) h.parts ∙ before-front h.front e.rest in
    subst (λ front. IsFault ts (fault_of e.kind front e.rest) e.rest) (sym there) (by_kind e.kind ts h.front e.rest h.goes_on (tells_faults ts e h))

pub parses_rightly : ParsesRightly
parses_rightly ts = by_read ts (read_whole ts) (reads_rightly ts)

pub parses_all : ParsesAll
parses_all ts answer is = one_answer ts (parsed ts) answer (parses_rightly ts) is

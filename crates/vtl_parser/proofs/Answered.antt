-- What reading of the tokens before the end says of them all.
use Rattle.std.proofs.Common.{◌≡◌, ℕ, zero, suc, ◌+◌, ◌-◌, ◌<◌, ◌≤◌, List, [], ◌∷◌, ◌++◌, map, length, take, drop, true, Result, Ok, Err, refl, sym, ap, subst, ◌∙◌, append_assoc, get_or, arith, length-append, length-take, length-drop}
use Rattle.std.specs.Prelude.{slice_range}
use Rattle.std.proofs.Math.Seq.{take-append_seam}
use Rattle.std.proofs.lemmas.List.{length-take-le, take_all}
use Rattle.vtl_values.specs.declared.place.Place.{Place}
use Rattle.vtl_tokens.specs.declared.token.Token.{Token}
use Rattle.vtl_tokens.specs.declared.token.TokenKind.{TokenKind}
use Rattle.vtl_tokens.specs.declared.token.TokenKind.TheVariants.{End}
use Rattle.vtl_lexer.specs.Tokens.{AreOfText}
use Rattle.vtl_syntax.specs.declared.script.Script.{Script}
use Rattle.vtl_grammar.specs.Marks.{Tokens}
use Rattle.vtl_grammar.specs.Rules.{first_place}
use Rattle.vtl_grammar.specs.Faults as faults
use Rattle.vtl_grammar.specs.Faults.{Fault, IsParsed}
use Rattle.vtl_grammar.specs.Reading.{Kind, Expected, TooDeep, TooMany, Got, Read, halt, got}
use Rattle.vtl_grammar.specs.Laws.{read_whole, Answers, passes_last}
use Rattle.vtl_grammar.proofs.GrammarLaws.{reads_rightly}
use Rattle.vtl_grammar.specs.Parsed as meant
use Rattle.vtl_grammar.specs.Parsed.{word_in, expected_or_left_out, unexpected, before, parsed, told_by}
use Rattle.vtl_grammar.proofs.ParsedLaw.{parses_rightly, parses_all}
use Rattle.vtl_parser.specs.Scripts.{levelless, whole_read}
use Rattle.vtl_parser.specs.OfText.{IsOfText}
use Rattle.vtl_parser.specs.Parses.{IsEnded, IsOnly, IsParsedAs, answered, before_end, only_end, placed_by}

-- ---- the answer

-- it is what the tokens are, and nothing else
pub answered-only : (ts : Tokens) → IsOnly ts (answered ts)
unfolding answered
answered-only ts other = (only other, (λ e. subst (IsParsedAs ts) (sym e) (by_parsed (parsed (before_end ts)) (parses_rightly (before_end ts)))))
  where
    by_parsed : (x : Result Script (Fault × Tokens)) → IsParsed (before_end ts) x → IsParsedAs ts (placed_by (only_end ts) x)
    by_parsed (Ok script) is = is
    by_parsed (Err e) is = (e.1, is, refl)

    only : (other : Result Script (Fault × Place)) → IsParsedAs ts other → other ≡ placed_by (only_end ts) (parsed (before_end ts))
    only (Ok script) is = let e = parses_all (before_end ts) (Ok script) is in rw e refl
    only (Err fault) (rest, is, at) = let e = parses_all (before_end ts) (Err (fault.0, rest)) is in rw (e, ← at) refl

pub only-is : (ts : Tokens) (answer : Result Script (Fault × Place)) → answered ts ≡ answer → IsOnly ts answer
only-is ts answer e = subst (IsOnly ts) e (answered-only ts)

-- a script that tokens of a text are has a text
pub of-text : (ts : Tokens) (s : Script) → AreOfText ts → answered ts ≡ Ok s → IsOfText s
of-text ts s are e = record { tokens = ts; of_text = are; is_script = (only-is ts (Ok s) e (Ok s)).1 refl }

-- ---- what reading without levels says

abbrev without : Read Script → Read Script
without = levelless (λ v. v)

abbrev done : Got Script → Read Script
done a = Ok a

got_is : (a b : Got Script) → done a ≡ done b → a ≡ b
got_is a b e = cc

abbrev is_script : Script → Result Script (Fault × Place)
is_script s = Ok s

read-value : (x : Read Script) (s : Script) (rest : Tokens) → without x ≡ got s 0 rest → (end ts : Tokens) → placed_by end (told_by ts x) ≡ Ok s
read-value (Ok a) s rest e end ts =
    let same = got_is (record { value = a.value; levels = 0; rest = a.rest }) (record { value = s; levels = 0; rest = rest }) e in
    ap (λ (g : Got Script). is_script g.value) same
read-value (Err b) s rest e end ts = absurd cc

same_halt : (x : Read Script) (k : Kind) (rest : Tokens) → without x ≡ halt k rest → x ≡ halt k rest
same_halt (Ok a) k rest e = absurd cc
same_halt (Err b) k rest e = e

pub halt-is : (ts : Tokens) (k : Kind) (rest : Tokens) → whole_read ts ≡ halt k rest → read_whole ts ≡ halt k rest
unfolding whole_read
halt-is ts k rest e = same_halt (read_whole ts) k rest e

-- the tokens before the end are that script
pub script-answered : (ts : Tokens) (s : Script) (rest : Tokens) → whole_read (before_end ts) ≡ got s 0 rest → answered ts ≡ Ok s
unfolding answered whole_read
script-answered ts s rest e = read-value (read_whole (before_end ts)) s rest e (only_end ts) (before_end ts)

-- ---- the end

parts : (ts : Tokens) → ts ≡ before_end ts ++ only_end ts
parts [] = refl
parts (t ∷ []) = refl
parts (t ∷ u ∷ ts) =
    let next : length (t ∷ u ∷ ts) - 1 ≡ suc (length (u ∷ ts) - 1) = omega arith in
    ap (λ (us : Tokens). t ∷ us) (parts (u ∷ ts)) ∙ sym (ap (λ n. take n (t ∷ u ∷ ts) ++ only_end (u ∷ ts)) next)

abbrev kinds_of : Tokens → List TokenKind
kinds_of ts = map (λ token. token.what) ts

-- no word stands at the end
no_word : (front ts : Tokens) (kinds : List TokenKind) → kinds_of ts ≡ kinds ++ End ∷ [] → unexpected front (only_end ts) ≡ faults.Expected
no_word front [] kinds e = refl
no_word front (t ∷ []) [] e = let is : t.what ≡ End = cc in ap (λ k. expected_or_left_out front t.place (word_in k)) is
no_word front (t ∷ []) (k ∷ ks) e =
    let long = ap (λ (xs : List TokenKind). length xs) e in
    let sum = length-append ks (End ∷ []) in
    absurd (omega arith)
no_word front (t ∷ u ∷ ts) [] e = absurd cc
no_word front (t ∷ u ∷ ts) (k ∷ ks) e = let next : kinds_of (u ∷ ts) ≡ ks ++ End ∷ [] = cc in no_word front (u ∷ ts) ks next

-- so it may stand after the rest
with-end : (ts : Tokens) → IsEnded ts → (k : Kind) (front rest : Tokens) → meant.fault_of k front rest ≡ meant.fault_of k front (rest ++ only_end ts)
with-end ts ended Expected front [] = sym (no_word front ts ended.0 ended.1)
with-end ts ended Expected front (t ∷ us) = refl
with-end ts ended TooDeep front rest = refl
with-end ts ended (TooMany l) front rest = refl

-- ---- a fault

drop-seam : (front rest : Tokens) → drop (length front) (front ++ rest) ≡ rest
drop-seam [] rest = refl
drop-seam (t ∷ front) rest = drop-seam front rest

before-front : (front rest : Tokens) → before (front ++ rest) rest ≡ front
before-front front rest =
    let long : length (front ++ rest) - length rest ≡ length front = omega (arith, length-append front rest) in
    ap (λ n. take n (front ++ rest)) long ∙ take-append_seam front rest

-- the tokens before a fault and after it
pub record IsCut (ts : Tokens) (n : ℕ) (rest : Tokens) : Type 0 where
  pub before_it : before (before_end ts) rest ≡ take n ts
  pub after_it : rest ++ only_end ts ≡ drop n ts

cut : (ts front rest : Tokens) (n : ℕ) → before_end ts ≡ front ++ rest → length front ≡ n → IsCut ts n rest
cut ts front rest n is long =
    let all : ts ≡ front ++ (rest ++ only_end ts) = parts ts ∙ (ap (λ (us : Tokens). us ++ only_end ts) is ∙ append_assoc front rest (only_end ts)) in
    record {
      before_it = ap (λ (us : Tokens). before us rest) is ∙ (before-front front rest ∙ (sym (take-append_seam front (rest ++ only_end ts)) ∙ (ap (λ (m : ℕ). take m (front ++ (rest ++ only_end ts))) long ∙ sym (ap (λ (us : Tokens). take n us) all))));
      after_it = sym (drop-seam front (rest ++ only_end ts)) ∙ (ap (λ (m : ℕ). drop m (front ++ (rest ++ only_end ts))) long ∙ sym (ap (λ (us : Tokens). drop n us) all));
    }

abbrev fails : Fault → Place → Result Script (Fault × Place)
fails fault place = Err (fault, place)

told : (x : Read Script) (k : Kind) (rest : Tokens) → x ≡ halt k rest → (ts : Tokens) → placed_by (only_end ts) (told_by (before_end ts) x) ≡ fails (meant.fault_of k (before (before_end ts) rest) rest) (first_place (rest ++ only_end ts))
told x k rest e ts = ap (λ (y : Read Script). placed_by (only_end ts) (told_by (before_end ts) y)) e

stops_at : (ts : Tokens) (k : Kind) (rest : Tokens) → read_whole ts ≡ halt k rest → (front : Tokens) × (ts ≡ front ++ rest)
stops_at ts k rest e = let stop = subst (λ (x : Read Script). Answers ts x) e (reads_rightly ts) in (stop.front, stop.parts)

pub is_cut : (ts : Tokens) (k : Kind) (rest : Tokens) → whole_read (before_end ts) ≡ halt k rest → (n : ℕ) → n + 1 + length rest ≡ length ts → IsCut ts n rest
is_cut ts k rest e n long =
    let stop = stops_at (before_end ts) k rest (halt-is (before_end ts) k rest e) in
    let fewer : length (before_end ts) ≡ length ts - 1 = length-take-le (length ts - 1) ts (omega arith) in
    let same : length (before_end ts) ≡ length (stop.0 ++ rest) = ap (λ (us : Tokens). length us) stop.1 in
    let sum = length-append stop.0 rest in
    cut ts stop.0 rest n stop.1 (omega arith)

-- reading stops there before the end
pub stop-answered : (ts : Tokens) → IsEnded ts → (k : Kind) (rest : Tokens) → whole_read (before_end ts) ≡ halt k rest → (n : ℕ) → n + 1 + length rest ≡ length ts → answered ts ≡ Err (meant.fault_of k (take n ts) (drop n ts), first_place (drop n ts))
unfolding answered
stop-answered ts ended k rest e n long =
    let c = is_cut ts k rest e n long in
    told (read_whole (before_end ts)) k rest (halt-is (before_end ts) k rest e) ts
    ∙ (ap (λ (f : Fault). fails f (first_place (rest ++ only_end ts))) (with-end ts ended k (before (before_end ts) rest) rest)
    ∙ (ap (λ (front : Tokens). fails (meant.fault_of k front (rest ++ only_end ts)) (first_place (rest ++ only_end ts))) c.before_it
    ∙ ap (λ (us : Tokens). fails (meant.fault_of k (take n ts) us) (first_place us)) c.after_it))

-- there are tokens, and the end is one
pub some-tokens : (ts : Tokens) → IsEnded ts → 0 < length ts
some-tokens [] ended =
    let long = ap (λ (xs : List TokenKind). length xs) ended.1 in
    let sum = length-append ended.0 (End ∷ []) in
    absurd (omega arith)
some-tokens (t ∷ ts) ended = omega arith

-- the rest is not longer than what is read
pub rest-fits : (ts : Tokens) (k : Kind) (rest : Tokens) → whole_read (before_end ts) ≡ halt k rest → length rest ≤ length ts - 1
rest-fits ts k rest e =
    let stop = stops_at (before_end ts) k rest (halt-is (before_end ts) k rest e) in
    let same : length (before_end ts) ≡ length (stop.0 ++ rest) = ap (λ (us : Tokens). length us) stop.1 in
    let sum = length-append stop.0 rest in
    omega (arith, length-take (length ts - 1) ts)

first_place-drop : (ts : Tokens) (n : ℕ) (t : Token) → n < length ts → first_place (drop n ts) ≡ (get_or ts n t).place
first_place-drop [] n t lt = absurd (omega arith)
first_place-drop (u ∷ ts) zero t lt = refl
first_place-drop (u ∷ ts) (suc n) t lt = first_place-drop ts n t (omega arith)

-- the fault, and the place of the token at which it stands
pub fault-answered : (ts : Tokens) → IsEnded ts → (k : Kind) (rest : Tokens) → whole_read (before_end ts) ≡ halt k rest → (t : Token) (f : Fault) → meant.fault_of k (take (length ts - 1 - length rest) ts) (slice_range ts (length ts - 1 - length rest) (length ts)) ≡ f
    → answered ts ≡ Err (f, (get_or ts (length ts - 1 - length rest) t).place)
fault-answered ts ended k rest e t f is =
    let some = some-tokens ts ended in
    let fits = rest-fits ts k rest e in
    let tail : slice_range ts (length ts - 1 - length rest) (length ts) ≡ drop (length ts - 1 - length rest) ts = take_all (length ts - (length ts - 1 - length rest)) (drop (length ts - 1 - length rest) ts) (omega (arith, length-drop (length ts - 1 - length rest) ts)) in
    stop-answered ts ended k rest e (length ts - 1 - length rest) (omega arith)
    ∙ (ap (λ (g : Fault). fails g (first_place (drop (length ts - 1 - length rest) ts))) (ap (λ (us : Tokens). meant.fault_of k (take (length ts - 1 - length rest) ts) us) (sym tail) ∙ is)
    ∙ ap (λ (p : Place). fails f p) (first_place-drop ts (length ts - 1 - length rest) t (omega arith)))

-- ---- whether reading passes the last token

passes-value : (x : Read Script) (s : Script) (rest : Tokens) → without x ≡ got s 0 rest → passes_last x ≡ true
passes-value (Ok a) s rest e = refl
passes-value (Err b) s rest e = absurd cc

pub script-passes : (ts : Tokens) (s : Script) (rest : Tokens) → whole_read ts ≡ got s 0 rest → passes_last (read_whole ts) ≡ true
unfolding whole_read
script-passes ts s rest e = passes-value (read_whole ts) s rest e

pub halt-passes : (ts : Tokens) (k : Kind) (rest : Tokens) → whole_read ts ≡ halt k rest → passes_last (read_whole ts) ≡ passes_last (halt k rest)
halt-passes ts k rest e = ap passes_last (halt-is ts k rest e)

-- The laws of printing.
use Rattle.std.proofs.Common.{◌≡◌, ℕ, List, [], ◌∷◌, ◌++◌, Ok, Err, refl, sym, ap, subst, ◌∙◌}
use Rattle.std.specs.Prelude.{false, negsuc, Result, IfOk, encode_utf8_all}
use Rattle.std.specs.List.{All}
use Rattle.std.proofs.lemmas.List.{map-append, append_cancel_right}
use Rattle.vtl_values.specs.Numerals.{is_negative}
use Rattle.vtl_tokens.specs.declared.token.Token.{Token}
use Rattle.vtl_tokens.specs.declared.token.TokenKind.{TokenKind}
use Rattle.vtl_tokens.specs.declared.token.TokenKind.TheVariants.{End}
use Rattle.vtl_syntax.specs.declared.script.Script.{Script}
use Rattle.vtl_grammar.specs.Marks.{Tokens, at}
use Rattle.vtl_lexer.specs.Texts.{Lexed, tokens_of}
use Rattle.vtl_spelling.specs.Kinds.{Kinds, one}
use Rattle.vtl_spelling.specs.Scripts.{script_spelled}
use Rattle.vtl_spelling.specs.Laws.{kinds_of, IsScriptButPlaces, IsOfGrammar}
use Rattle.vtl_spelling.proofs.Retold.{in_two, only}
use Rattle.vtl_spelling.proofs.KindsHeld.{IsPlain, script-held}
use Rattle.vtl_spelling.proofs.KeptScripts.{same-spelled}
use Rattle.vtl_spelling.proofs.SpellingLaws.{spells_scripts}
use Rattle.vtl_lexer.specs.Tokens.{IsToken}
use Rattle.vtl_lexer.proofs.ReadTokens.{read_are}
use Rattle.vtl_printer.specs.Layouts.{layout}
use Rattle.vtl_printer.specs.LexedBack.{ReadsAs, AreReadBack}
use Rattle.vtl_printer.specs.ReadBack.{IsReadAs, IsText, HasText, PrintsOnce}

-- each word and sign is a token, and no number with a minus in it
tokens_plain : IsPlain IsToken
tokens_plain = record {
  words = λ k. tt;
  signs = λ s. tt;
  integers = λ n is. no_minus n is.unsigned;
  numbers = λ n is. no_minus n is.unsigned;
}
  where
    no_minus : (n : ℕ) → is_negative (negsuc n) ≡ false → ⊥
    no_minus n e = cc

-- what is read as the tokens that spell a script is that script
spelled_read : (s : Script) → IsOfGrammar s → (r : Lexed) → ReadsAs (script_spelled s) r → (us : Tokens) × IsReadAs us r × IsScriptButPlaces s us
spelled_read s of (Ok tokens) e =
    let two = in_two (script_spelled s) (one End) tokens e in
    let last = only End two.right two.right_kinds in
    (two.left, (at End last.0, refl, two.parts ∙ ap (λ (vs : Tokens). two.left ++ vs) last.1), spells_scripts s two.left of two.left_kinds)
spelled_read s of (Err f) e = absurd e

-- what is read of a text are tokens that texts have
read_tokens : (text : List ℕ) (us : Tokens) (r : Lexed) → tokens_of text ≡ r → IsReadAs us r → All IsToken (kinds_of us)
read_tokens text us (Ok tokens) e (last, end, parts) =
    let q = read_are text tokens e in
    let kinds : kinds_of us ++ one End ≡ q.before ++ one End = ap (λ (k : TokenKind). kinds_of us ++ one k) (sym end) ∙ sym (map-append (λ (t : Token). t.what) us (last ∷ [])) ∙ ap kinds_of (sym parts) ∙ q.ended in
    subst (λ (ks : Kinds). All IsToken ks) (sym (append_cancel_right (kinds_of us) q.before (one End) kinds)) q.each
read_tokens text us (Err f) e is = absurd is

pub read_back : (s : Script) (text : List ℕ) → AreReadBack (script_spelled s) text → HasText s → IsText s text
read_back s text reads (old, (us, read, (t, is, same))) =
    let tokens = read_tokens old us (tokens_of old) refl read in
    let spelled : All IsToken (script_spelled s) = subst (λ (ks : Kinds). All IsToken ks) (same-spelled t s same) (script-held IsToken tokens_plain t us is tokens) in
    spelled_read s (us, (t, is, same)) (tokens_of text) (reads spelled)

pub shown_back : {E : Type 0} (s : Script) (kinds : Kinds) (r : Result (List ℕ) E) → kinds ≡ script_spelled s → IfOk r (λ word. AreReadBack kinds (encode_utf8_all word)) → IfOk r (λ text. HasText s → IsText s (encode_utf8_all text))
shown_back s kinds (Ok word) is reads = λ has. read_back s (encode_utf8_all word) (subst (λ (ks : Kinds). AreReadBack ks (encode_utf8_all word)) is reads) has
shown_back s kinds (Err e) is reads = tt

pub prints_once : PrintsOnce
prints_once s t same = ap layout (same-spelled s t same)

-- What the clauses of the crate `regex` say of a pattern's meaning.
use Rattle.std.proofs.Common.{◌≡◌, ◌≢◌, ℕ, ◌<◌, ◌≤◌, Bool, true, false, ◌&&◌, nat_le, Option, Some, None, IsSomeAnd, is_some, List, [], ◌++◌, length, codes, refl, sym, ap, ◌∙◌, subst, ⊎_elim, arith, length-append, All, lit<}
use Rattle.std.specs.Prelude.{chars, IsUtf8, IfSome, option_and_then}
use Rattle.std.specs.Option.{option_map_or}
use Rattle.std.proofs.lemmas.Bool.Decides.{nat_tests}
use Rattle.std.proofs.lemmas.List.{get_or_default, take_at}
use Rattle.std.specs.Str.{IsAscii}
use Rattle.std.proofs.lemmas.Str.Ascii.{IsAscii-nil, IsAscii-cons}
use Rattle.std.proofs.lemmas.Str.{chars-append, chars-IsAscii, IsUtf8-from_ascii}
use Rattle.regex_hir.specs.declared.hir.Hir.{Hir}
use Rattle.regex_hir.specs.Meaning.{meaning}
use Rattle.regex_syntax.specs.Brackets.{Nested}
use Rattle.regex_syntax.specs.Grammar.{Names, read, group_count}
use Rattle.regex_syntax.specs.Captures.{SameCaptures}
use Rattle.regex_syntax.specs.declared.error.ErrorKind.{ErrorKind}
use Rattle.regex_syntax.specs.declared.error.ErrorKind.TheVariants.{OutOfMemory}
use Rattle.regex_syntax.proofs.CapturesLemmas.{spans, find_str_alike}
use Rattle.regex_syntax.proofs.Written.{is_some-option_map}
use Rattle.regex.specs.Patterns.{Re, find_str, default_config, Reads, Refuses}
use Rattle.regex.specs.Strings.{regex_pattern, regex_source, regex_config, regex_names, IsReadFromSource}
use Rattle.regex.specs.Sources.{IsRefusal}
use Rattle.regex.specs.Failures.{IsRightKind}
use Rattle.regex.specs.declared.string.regex.Regex.{Regex}
use Rattle.regex.specs.declared.error.Error.{Error}
use Rattle.regex.specs.declared.error.Error.TheVariants as error
use Rattle.scalar_texts.specs.declared.patterns.PatternStop.TheVariants.{BadPattern}
use Rattle.scalar_texts.specs.Patterns.{within_limit, meaning_of, anchored, unanchored, is_pattern, FindsSame}
use Rattle.scalar_texts.specs.Stops.{stop_of}

-- ---- what is read, and what is refused
read_within : (o : Option (Nested Re × Names)) (a : Re) (names : Names) →
    IsSomeAnd o (λ (re, found). (re.depth ≤ default_config.nest_limit) × SameCaptures a re.value × (names ≡ found) × (group_count a ≤ length names)) →
    (re : Re) × (option_and_then within_limit o ≡ Some re) × SameCaptures a re
read_within None a names h = absurd h
read_within (Some found) a names h =
    let within : nat_le found.0.depth default_config.nest_limit ≡ true = grind (arith, nat_tests, h.0) in
    (found.0.value, rw within refl, h.1)

read_meaning : (source : List ℕ) (hir : Hir) (names : Names) → Reads default_config source hir names →
    (re : Re) × (meaning_of (chars source) ≡ Some re) × SameCaptures (meaning hir) re
unfolding Reads meaning_of
read_meaning source hir names h = read_within (read default_config (chars source)) (meaning hir) names h

too_deep : (o : Option (Nested Re × Names)) → IfSome o (λ (re, _). default_config.nest_limit < re.depth) → option_and_then within_limit o ≡ None
too_deep None h = refl
too_deep (Some found) h = let past : nat_le found.0.depth default_config.nest_limit ≡ false = grind (arith, nat_tests, h) in rw past refl

refused_meaning : (source : List ℕ) (kind : ErrorKind) → kind ≢ OutOfMemory → Refuses default_config source kind → meaning_of (chars source) ≡ None
unfolding Refuses meaning_of
refused_meaning source kind right h =
    ⊎_elim (λ memory. absurd (right memory))
    (λ other. ⊎_elim (λ none. ap (option_and_then within_limit) none) (λ deep. too_deep (read default_config (chars source)) deep.1) other) h

pub bad_meaning : (source : List ℕ) (e : Error) → stop_of e ≡ BadPattern → IsRefusal default_config source e → IsRightKind default_config source e →
    meaning_of (chars source) ≡ None
bad_meaning source (error.Syntax e) bad refused right = refused_meaning source e.kind right (refused e refl)
bad_meaning source error.CompiledTooBig bad refused right = cc
bad_meaning source error.Internal bad refused right = cc
bad_meaning source error.OutOfMemory bad refused right = cc

-- ---- whether the text is a pattern
pub no_pattern_alone : (text : List ℕ) → meaning_of text ≡ None → is_pattern text ≡ false
no_pattern_alone text none = rw none refl

and_false : (b : Bool) → (b && false) ≡ false
and_false true = refl
and_false false = refl

pub no_pattern_anchored : (text : List ℕ) → meaning_of (anchored text) ≡ None → is_pattern text ≡ false
no_pattern_anchored text none = ap (λ o. is_some (meaning_of text) && is_some o) none ∙ and_false (is_some (meaning_of text))

pub pattern_both : (text : List ℕ) (a b : Re) → meaning_of text ≡ Some a → meaning_of (anchored text) ≡ Some b → is_pattern text ≡ true
pattern_both text a b p q = ap (λ o. is_some o && is_some (meaning_of (anchored text))) p ∙ ap is_some q

-- ---- what the built pattern finds
pub regex_meaning : (r : Regex) → regex_config r ≡ default_config → IsReadFromSource r →
    (re : Re) × (meaning_of (chars (regex_source r)) ≡ Some re) × SameCaptures (regex_pattern r) re
regex_meaning r config is_read =
    let hir = r.pattern.program.hir in
    read_meaning (regex_source r) hir (regex_names r) (subst (λ k. Reads k (regex_source r) hir (regex_names r)) config is_read)

pub finds_same : (r : Regex) (text : List ℕ) → regex_config r ≡ default_config → IsReadFromSource r → chars (regex_source r) ≡ anchored text →
    FindsSame (regex_pattern r) text
finds_same r text config is_read source bytes small =
    let found = regex_meaning r config is_read in
    let meant : meaning_of (anchored text) ≡ Some found.0 = ap meaning_of (sym source) ∙ found.1 in
    let all_bytes : All (λ x. x < 256) bytes = λ k d h. rw (get_or_default bytes k d 0 h) (small k) in
    sym (is_some-option_map spans (find_str (regex_pattern r) bytes 0))
    ∙ ap is_some (find_str_alike (regex_pattern r) found.0 found.2 bytes all_bytes 0)
    ∙ is_some-option_map spans (find_str found.0 bytes 0)
    ∙ sym (ap (λ o. option_map_or (λ re. is_some (find_str re bytes 0)) o false) meant)

pub unanchored-anchored : (text : List ℕ) → unanchored (anchored text) ≡ text
unanchored-anchored text = take_at text (codes ")\\z") _ (omega (arith, length-append text (codes ")\\z")))

-- ---- the text between the anchors, as bytes and as characters
ascii_open : IsAscii (codes "\\A(?:")
ascii_open =
    IsAscii-cons 92 (codes "A(?:") (lit< tt) (IsAscii-cons 65 (codes "(?:") (lit< tt)
    (IsAscii-cons 40 (codes "?:") (lit< tt) (IsAscii-cons 63 (codes ":") (lit< tt) (IsAscii-cons 58 [] (lit< tt) IsAscii-nil))))

ascii_close : IsAscii (codes ")\\z")
ascii_close = IsAscii-cons 41 (codes "\\z") (lit< tt) (IsAscii-cons 92 (codes "z") (lit< tt) (IsAscii-cons 122 [] (lit< tt) IsAscii-nil))

pub chars-anchored : (text : List ℕ) → IsUtf8 text → chars (anchored text) ≡ anchored (chars text)
chars-anchored text is_text =
    let front = codes "\\A(?:" in
    let back = codes ")\\z" in
    chars-append front (text ++ back) (IsUtf8-from_ascii front ascii_open)
    ∙ ap (λ t. t ++ chars (text ++ back)) (chars-IsAscii front ascii_open)
    ∙ ap (λ t. front ++ t) (chars-append text back is_text ∙ ap (λ t. chars text ++ t) (chars-IsAscii back ascii_close))

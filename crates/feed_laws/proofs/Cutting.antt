-- A text that is made of blocks is cut into them.
use Rattle.std.proofs.Common.{◌≡◌, ◌==◌, ◌&&◌, ℕ, Bool, false, List, [], ◌∷◌, ◌++◌, cond, refl, ap, ◌∙◌, arith, append-nil}
use Rattle.std.specs.List.{All, flat_map}
use Rattle.std.specs.Str.{IsUtf8}
use Rattle.std.proofs.lemmas.List.Elements.{All-head, All-tail}
use Rattle.std.proofs.lemmas.Str.{IsUtf8-append, IsUtf8-nil}
use Rattle.csv.specs.Reading.{strip_bom}
use Rattle.data_model.proofs.MapLemmas.{neither}
use Rattle.revision_files.specs.Blocks.{AT_SIGN, LINE_FEED, Cut, cut, cut_from, put_byte, start_block}
use Rattle.feed_laws.specs.Written.{starts_block}
use Rattle.feed_laws.proofs.Quoted.{IsBlock, Quiet, fresh_after, utf8-low}

-- before what is cut stand these bytes
abbrev put_before : List ℕ → Cut → Cut
put_before bytes text = record { before = bytes ++ text.before; blocks = text.blocks }

cut-quiet : (fresh : Bool) (xs ys : List ℕ) → Quiet fresh xs → cut_from fresh (xs ++ ys) ≡ put_before xs (cut_from (fresh_after fresh xs) ys)
cut-quiet fresh [] ys h = refl
cut-quiet fresh (x ∷ xs) ys h =
    let two = neither (fresh && (x == AT_SIGN)) (starts_block (x == LINE_FEED) xs) h in
    ap (λ b. cond b (start_block (cut_from false (xs ++ ys))) (put_byte x (cut_from (x == LINE_FEED) (xs ++ ys)))) two.0
    ∙ ap (put_byte x) (cut-quiet (x == LINE_FEED) xs ys two.1)

abbrev with_signs : List (List ℕ) → List ℕ
with_signs bs = flat_map (λ block. AT_SIGN ∷ block) bs

abbrev just : List (List ℕ) → Cut
just bs = record { before = []; blocks = bs }

pub cut-blocks : (bs : List (List ℕ)) → All IsBlock bs → cut (with_signs bs) ≡ just bs
cut-blocks [] h = refl
cut-blocks (b ∷ bs) h =
    let block = All-head IsBlock b bs h in
    ap start_block (cut-quiet false b (with_signs bs) block.quiet
    ∙ ap (λ fresh. put_before b (cut_from fresh (with_signs bs))) block.ends_line
    ∙ ap (put_before b) (cut-blocks bs (All-tail IsBlock b bs h)))
    ∙ ap (λ (x : List ℕ). just (x ∷ bs)) (append-nil b)

pub signs-utf8 : (bs : List (List ℕ)) → All IsBlock bs → IsUtf8 (with_signs bs)
signs-utf8 [] h = IsUtf8-nil
signs-utf8 (b ∷ bs) h =
    IsUtf8-append (AT_SIGN ∷ b) (with_signs bs)
    (IsUtf8-append (AT_SIGN ∷ []) b (utf8-low AT_SIGN refl (omega arith)) (All-head IsBlock b bs h).text)
    (signs-utf8 bs (All-tail IsBlock b bs h))

-- no byte order mark begins a text with another byte
pub strip-other : (b : ℕ) (bytes : List ℕ) → (b == 0xEF) ≡ false → strip_bom (b ∷ bytes) ≡ b ∷ bytes
unfolding strip_bom
strip-other b [] other = refl
strip-other b (c ∷ []) other = refl
strip-other b (c ∷ d ∷ bytes) other = ap (λ t. cond (t && (c == 0xBB) && (d == 0xBF)) bytes (b ∷ c ∷ d ∷ bytes)) other

pub strip-signs : (bs : List (List ℕ)) → strip_bom (with_signs bs) ≡ with_signs bs
unfolding strip_bom
strip-signs [] = refl
strip-signs (b ∷ bs) = strip-other AT_SIGN (b ++ with_signs bs) refl

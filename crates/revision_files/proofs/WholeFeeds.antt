-- What a whole feed gives.
use Rattle.std.proofs.Common.{◌≡◌, ℕ, Bool, true, false, List, [], ◌∷◌, Result, Ok, Err, cond, refl, sym, ap, subst, ◌∙◌}
use Rattle.std.specs.Result.{MatchResult, is_err}
use Rattle.std.specs.Str.{IsUtf8, is_utf8}
use Rattle.std.proofs.lemmas.Str.{IsUtf8-from_is_utf8, is_utf8-from_IsUtf8}
use Rattle.csv.specs.Reading.{strip_bom}
use Rattle.point_sets.specs.declared.revision.Revision.{Revision}
use Rattle.vtl_values.specs.Structures.{NamedStructures}
use Rattle.revision_files.specs.declared.stop.FeedFault.{FeedFault}
use Rattle.revision_files.specs.declared.stop.FeedFault.TheVariants.{BadHeader, NotUtf8}
use Rattle.revision_files.specs.declared.stop.FeedStop.{FeedStop}
use Rattle.revision_files.specs.Answers.{◌>>=◌, Refuses, one_by_one}
use Rattle.revision_files.specs.Blocks.{Cut, cut, is_blank_text}
use Rattle.revision_files.specs.Feeds.{Feed, blocks_of, feed_of, next_block, no_blocks}
use Rattle.revision_files.proofs.Steps.{stops_same, stops_there}

abbrev told : NamedStructures → Result Feed FeedFault → Bool → Result (List Revision) FeedFault
told structures feed utf8 = cond utf8 (feed >>= (λ feed. Ok feed.revisions)) (Err NotUtf8)

not_text : (bytes : List ℕ) → (IsUtf8 bytes → ⊥) → is_utf8 bytes ≡ false
not_text bytes other = by (is_utf8 bytes) (IsUtf8-from_is_utf8 bytes)
  where
    by : (b : Bool) → (b ≡ true → IsUtf8 bytes) → b ≡ false
    by true text = absurd (other (text refl))
    by false text = refl

-- bytes that are no text
pub feed-not_utf8 : (structures : NamedStructures) (bytes : List ℕ) → (IsUtf8 bytes → ⊥) → feed_of structures bytes ≡ Err NotUtf8
feed-not_utf8 structures bytes other = ap (told structures (blocks_of structures (cut (strip_bom bytes)))) (not_text bytes other)

of_text : (structures : NamedStructures) (bytes : List ℕ) → IsUtf8 bytes → feed_of structures bytes ≡ (blocks_of structures (cut (strip_bom bytes)) >>= (λ feed. Ok feed.revisions))
of_text structures bytes text = ap (told structures (blocks_of structures (cut (strip_bom bytes)))) (is_utf8-from_IsUtf8 bytes text)

abbrev placed : NamedStructures → List (List ℕ) → Bool → Result (List Revision) FeedFault
placed structures blocks blank = cond blank (one_by_one (next_block structures) no_blocks blocks) (Err (BadHeader 0)) >>= (λ feed. Ok feed.revisions)

-- a line before the first block
pub feed-line : (structures : NamedStructures) (bytes : List ℕ) → IsUtf8 bytes → is_blank_text (cut (strip_bom bytes)).before ≡ false → feed_of structures bytes ≡ Err (BadHeader 0)
feed-line structures bytes text line = of_text structures bytes text ∙ ap (placed structures (cut (strip_bom bytes)).blocks) line

-- the blocks
pub feed-blocks : (structures : NamedStructures) (bytes : List ℕ) → IsUtf8 bytes → is_blank_text (cut (strip_bom bytes)).before ≡ true → feed_of structures bytes ≡ (one_by_one (next_block structures) no_blocks (cut (strip_bom bytes)).blocks >>= (λ feed. Ok feed.revisions))
feed-blocks structures bytes text blank = of_text structures bytes text ∙ ap (placed structures (cut (strip_bom bytes)).blocks) blank

-- whether bytes are a text, as the test of them tells
pub no_text_by : {T E : Type 0} (r : Result T E) (bytes : List ℕ) (P : T → Type 0) (Q : E → Type 0) → is_err r ≡ true → MatchResult r (λ t. P t × IsUtf8 bytes) (λ e. (IsUtf8 bytes → ⊥) × Q e) → IsUtf8 bytes → ⊥
no_text_by (Ok t) bytes P Q is cases = cc
no_text_by (Err e) bytes P Q is cases = cases.0

pub text_by : {T E : Type 0} (r : Result T E) (bytes : List ℕ) (P : T → Type 0) (Q : E → Type 0) → is_err r ≡ false → MatchResult r (λ t. P t × IsUtf8 bytes) (λ e. (IsUtf8 bytes → ⊥) × Q e) → IsUtf8 bytes
text_by (Ok t) bytes P Q is cases = cases.1
text_by (Err e) bytes P Q is cases = cc

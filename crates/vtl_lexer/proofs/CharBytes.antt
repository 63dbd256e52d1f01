-- What a test finds in a text's bytes it finds in its characters, where it passes ASCII alone.
use Rattle.std.proofs.Common.{◌≡◌, ℕ, ◌<◌, ◌≤◌, Bool, true, false, ◌||◌, List, [], ◌∷◌, length, get_or, inl, inr, refl, sym, ap, ◌∙◌, arith, append-nil}
use Rattle.std.proofs.Math.Utf8.{encodes, encode}
use Rattle.std.proofs.lemmas.Bool.{cases_lt}
use Rattle.std.proofs.lemmas.Bool.Decides.{nat_tests}
use Rattle.std.proofs.lemmas.List.Elements.{All-from_get_or}
use Rattle.std.proofs.lemmas.List.Folds.{list_any-append, list_any_none}
use Rattle.std.proofs.lemmas.Str.{encode_ascii, inside_one}
use Rattle.std.specs.List.{list_any}
use Rattle.vtl_lexer.specs.Scans.{ends_name}

or_false : (b : Bool) → (b || false) ≡ b
or_false true = refl
or_false false = refl

-- only ASCII passes
abbrev pub PassesAscii : (ℕ → Bool) → Type 0
PassesAscii test = (b : ℕ) → 128 ≤ b → test b ≡ false

high_bytes : (c k : ℕ) → 128 ≤ c → k < length (encode c) → 128 ≤ get_or (encode c) k 0
high_bytes c k high inside = elim (cases_lt (get_or (encode c) k 0) 128) [
  | inl low ↦ absurd (let same : c ≡ get_or (encode c) k 0 = inside_one c [] (encode c) k (sym (append-nil (encode c))) inside low in omega arith)
  | inr top ↦ top
]

pub any-encode : (test : ℕ → Bool) → PassesAscii test → (c : ℕ) → list_any test (encode c) ≡ test c
any-encode test ascii c = elim (cases_lt c 128) [
  | inl low ↦ ap (list_any test) (encode_ascii c low) ∙ or_false (test c)
  | inr high ↦ list_any_none test (encode c) (All-from_get_or (λ b. test b ≡ false) (encode c) 0 (λ k inside. ascii (get_or (encode c) k 0) (high_bytes c k high inside))) ∙ sym (ascii c high)
]

pub any-encodes : (test : ℕ → Bool) → PassesAscii test → (cs : List ℕ) → list_any test (encodes cs) ≡ list_any test cs
any-encodes test ascii [] = refl
any-encodes test ascii (c ∷ cs) =
    list_any-append test (encode c) (encodes cs)
    ∙ ap (λ v. v || list_any test (encodes cs)) (any-encode test ascii c)
    ∙ ap (λ v. test c || v) (any-encodes test ascii cs)

pub ends_name-PassesAscii : PassesAscii ends_name
ends_name-PassesAscii b high = grind (arith, nat_tests)

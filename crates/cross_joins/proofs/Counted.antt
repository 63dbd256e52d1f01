-- Products that are told up to a limit.
use Rattle.std.proofs.Common.{◌≡◌, ℕ, zero, suc, ◌+◌, ◌*◌, ◌<◌, ◌≤◌, inl, inr, List, drop, length, get_or, min, sym, ap, ◌∙◌, arith}
use Rattle.std.proofs.Math.ListN.{drop_of_length-le}
use Rattle.std.proofs.Math.Nat.{mul-le-mul_left, mul_assoc, mul_comm}
use Rattle.std.proofs.lemmas.Bool.{cases_lt}
use Rattle.point_sets.specs.Changes.{Changes}
use Rattle.held_index.specs.Holdings.{Holding}
use Rattle.cross_joins.specs.Counts.{combinations_after, count_after_news}
use Rattle.cross_joins.proofs.Lists.{drop-more}

-- what is above the limit stays above it, unless it is multiplied by nothing
pub capped : (x r l : ℕ) → min (min x l * r) l ≡ min (x * r) l
capped x zero l = omega arith
capped x (suc r) l = elim (cases_lt l x) [
  | inl above ↦
      let one : 1 ≤ suc r = omega arith in
      let own = mul-le-mul_left l one in
      let whole = mul-le-mul_left x one in
      let is : min x l ≡ l = omega (arith, above) in
      ap (λ m. min (m * suc r) l) is ∙ (omega (arith, own, whole, above))
  | inr within ↦ let is : min x l ≡ x = omega (arith, within) in ap (λ m. min (m * suc r) l) is
]

-- one operand more
pub counted-more : (held : List Holding) (news : List Changes) (i : ℕ) (h : Holding) (d : Changes) (product next limit all : ℕ) → i < length held → i < length news → h ≡ get_or held i h → d ≡ get_or news i d → next ≡ min (count_after_news h d * product) limit
    → min (product * combinations_after (drop i held) (drop i news)) limit ≡ all → min (next * combinations_after (drop (i + 1) held) (drop (i + 1) news)) limit ≡ all
counted-more held news i h d product next limit all within inside at own is was =
    let rest : ℕ = combinations_after (drop (i + 1) held) (drop (i + 1) news) in
    let count : ℕ = count_after_news h d in
    let here : combinations_after (drop i held) (drop i news) ≡ count * rest = λ k. combinations_after (drop-more held i h within at k) (drop-more news i d inside own k) in
    ap (λ n. min (n * rest) limit) is ∙ capped (count * product) rest limit
    ∙ ap (λ n. min n limit) (ap (λ n. n * rest) (mul_comm count product) ∙ mul_assoc product count rest) ∙ sym (ap (λ n. min (product * n) limit) here) ∙ was

pub counted-end : (held : List Holding) (news : List Changes) (i : ℕ) → length held ≤ i → combinations_after (drop i held) (drop i news) ≡ 1
counted-end held news i past = ap (λ (hs : List Holding). combinations_after hs (drop i news)) (drop_of_length-le held past)

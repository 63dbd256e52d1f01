-- One level further in.
use Rattle.std.proofs.Common.{◌≡◌, ℕ, zero, suc, ◌-◌, ◌<◌, refl, ap, sym, ◌∙◌, arith}
use Rattle.vtl_grammar.specs.Marks.{Tokens}
use Rattle.vtl_grammar.specs.Rules.{Counts, Rule, Part, Of}
use Rattle.vtl_grammar.specs.Reading.{TooDeep, halt, read, part_at, below}
use Rattle.vtl_cursor.specs.Plain.{read_plain}
use Rattle.vtl_cursor.proofs.PlainLaws.{read_plain-is}

-- there are no more levels
pub below-none : (L : Counts) (d : ℕ) (q : Part) (ts : Tokens) → d ≡ 0 → below L d q ts ≡ halt TooDeep ts
below-none L zero q ts e = refl
below-none L (suc d) q ts e = absurd (omega arith)

pub below-is : (L : Counts) (d : ℕ) (q : Part) (ts : Tokens) → 0 < d → below L d q ts ≡ part_at L (d - 1) q ts
below-is L zero q ts some = absurd (omega arith)
below-is L (suc d) q ts some = let same : d ≡ suc d - 1 = omega arith in ap (λ (k : ℕ). part_at L k q ts) same

-- what is read there, by the reader of the grammar
pub below-read : (L : Counts) (d : ℕ) (g : Rule) (ts : Tokens) → 0 < d → read_plain L (below L d) g ts ≡ read L (part_at L (d - 1)) g ts
below-read L zero g ts some = absurd (omega arith)
below-read L (suc d) g ts some =
    let same : d ≡ suc d - 1 = omega arith in
    read_plain-is L (part_at L d) g ts ∙ ap (λ (k : ℕ). read L (part_at L k) g ts) same

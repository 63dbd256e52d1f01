use Rattle.std.proofs.Common.{◌≡◌, ◌<◌, refl, sym, ap, ◌∙◌, chars, string_bytes, length, [], arith}
use Rattle.std.proofs.lemmas.Bool.{eqb-true}
use Rattle.std.proofs.lemmas.Bool.Decides.{nat_tests}
use Rattle.std.proofs.lemmas.Result.{IfOk-weaker}
use Rattle.scalar_texts.specs.Replacing.{Replaces, replaced}
use Rattle.scalar_texts.proofs.Spelling.{some_characters, no_characters}
use Rattle.scalar_texts.proofs.ReplacingLemmas.{replaced_is, made_law}
use Rattle.scalar_texts.proofs.parts.replace.Goals as goal

-- no part to look for
nothing : (c : goal.After-from_str) → chars c.args.old.now ≡ []
nothing c = no_characters c.args.old.now (eqb-true (length c.args.old.now) 0 (sym c.is_empty.ensures ∙ c.if-is_empty.true))

pub returns-then-is_empty-clause-value : goal.returns-then-is_empty-clause-value
returns-then-is_empty-clause-value c =
    IfOk-weaker c.from_str.result (λ t. string_bytes t ≡ c.args.s.now)
    (λ t. chars (string_bytes t) ≡ replaced (chars c.args.s.now) (chars c.args.old.now) (chars c.args.new.now))
    (λ t e. ap chars e ∙ sym (ap (λ o. replaced (chars c.args.s.now) o (chars c.args.new.now)) (nothing c)))
    c.from_str.ensures.ok

pub returns-then-is_empty-clause-law : goal.returns-then-is_empty-clause-law
returns-then-is_empty-clause-law c =
    IfOk-weaker c.from_str.result (λ t. string_bytes t ≡ c.args.s.now)
    (λ t. 0 < length (chars c.args.old.now) → Replaces (chars c.args.old.now) (chars c.args.new.now) (chars c.args.s.now) (chars (string_bytes t)))
    (λ t e some. absurd (omega (arith, some, ap length (nothing c))))
    c.from_str.ensures.ok

some : (c : goal.After-replace) → 0 < length c.args.old.now
some c = grind (arith, nat_tests, c.is_empty.ensures, c.if-is_empty.false)

pub returns-clause-law : goal.returns-clause-law
returns-clause-law c =
    IfOk-weaker c.replace.result
    (λ t. Replaces (chars c.args.old.now) (chars c.args.new.now) (chars c.args.s.now) (chars (string_bytes t)))
    (λ t. 0 < length (chars c.args.old.now) → Replaces (chars c.args.old.now) (chars c.args.new.now) (chars c.args.s.now) (chars (string_bytes t)))
    (λ t law _. law)
    (made_law c.args.old.now c.args.new.now (some c) c.utf8.old c.utf8.new c.replace.result c.args.old c.args.s.now refl c.utf8.s c.replace.ensures.ok)

pub returns-clause-value : goal.returns-clause-value
returns-clause-value c =
    IfOk-weaker c.replace.result
    (λ t. Replaces (chars c.args.old.now) (chars c.args.new.now) (chars c.args.s.now) (chars (string_bytes t)))
    (λ t. chars (string_bytes t) ≡ replaced (chars c.args.s.now) (chars c.args.old.now) (chars c.args.new.now))
    (λ t law. replaced_is _ _ _ _ (some_characters c.args.old.now c.utf8.old (some c)) law)
    (made_law c.args.old.now c.args.new.now (some c) c.utf8.old c.utf8.new c.replace.result c.args.old c.args.s.now refl c.utf8.s c.replace.ensures.ok)

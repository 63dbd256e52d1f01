use Rattle.std.proofs.Common.{◌≡◌, sym, IfOk, string_bytes, chars, drop, take, arith, ◌+ℤ◌}
use Rattle.std.specs.Prelude.{encode_utf8_all}
use Rattle.std.proofs.lemmas.Int.{ints}
use Rattle.std.proofs.lemmas.Iterator.{YieldsList-from_chars, YieldsList-from_take, text_from_collect}
use Rattle.std.proofs.lemmas.Iterator.Adapters.{YieldsList-from_skip}
use Rattle.scalar_texts.proofs.Spelling.{IfOk-chars}
use Rattle.scalar_texts.proofs.PlaceLemmas.{LiesBelow, substring-from, substring-between}
use Rattle.scalar_texts.proofs.places.substr.Goals as goal

pub returns-in-None : goal.returns-in-None
returns-in-None c =
    let passed = c.places_below-passed.result in
    let gives : IfOk c.collect.result (λ t. string_bytes t ≡ encode_utf8_all (drop passed (chars c.args.s.now))) =
    text_from_collect c.collect.result c.collect.ensures.ran
    (YieldsList-from_skip passed (YieldsList-from_chars c.args.s.now c.utf8.s (cc)) (cc)) in
    let low : LiesBelow c.args.start passed = λ place above.
    (λ h. omega (arith, ints, (c.places_below-passed.ensures place above).0 h), λ h. (c.places_below-passed.ensures place above).1 (omega (arith, ints, h))) in
    rw c.in-None.is (IfOk-chars c.collect.result _ _ (sym (substring-from (chars c.args.s.now) c.args.start passed low)) gives)

pub returns-in-Some : goal.returns-in-Some
returns-in-Some c =
    let passed = c.places_below-passed.result in
    let seen = c.places_below-seen.result in
    let gives : IfOk c.collect-in-Some.result (λ t. string_bytes t ≡ encode_utf8_all (drop passed (take seen (chars c.args.s.now)))) =
    text_from_collect c.collect-in-Some.result c.collect-in-Some.ensures.ran
    (YieldsList-from_skip passed (YieldsList-from_take seen (YieldsList-from_chars c.args.s.now c.utf8.s (cc)) (cc)) (cc)) in
    let low : LiesBelow c.args.start passed = λ place above.
    (λ h. omega (arith, ints, (c.places_below-passed.ensures place above).0 h), λ h. (c.places_below-passed.ensures place above).1 (omega (arith, ints, h))) in
    let high : LiesBelow (c.args.start +ℤ c.in-Some.length) seen = λ place above.
    (λ h. omega (arith, ints, (c.places_below-seen.ensures place above).0 h), λ h. (c.places_below-seen.ensures place above).1 (omega (arith, ints, h))) in
    rw c.in-Some.is (IfOk-chars c.collect-in-Some.result _ _ (sym (substring-between (chars c.args.s.now) c.args.start c.in-Some.length passed seen low high)) gives)

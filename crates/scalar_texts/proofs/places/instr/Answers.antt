use Rattle.std.proofs.Common.{◌≡◌, ◌∙◌, sym, ap, chars, length, take, drop, arith}
use Rattle.std.proofs.lemmas.Grind.{common_steps}
use Rattle.std.proofs.lemmas.Str.{IsUtf8-take, IsUtf8-drop, length-le-encodes, encodes-chars}
use Rattle.scalar_texts.proofs.PlaceLemmas.{IsFirstAfter, place_from-first, place_from-none, never_stands, first_match}
use Rattle.scalar_texts.proofs.places.instr.Goals as goal

-- the number of characters is within that of the bytes
pub overflow_add-result : goal.overflow_add-result
overflow_add-result c =
    let front = c.range.result.now in
    omega (arith, c.length.ensures, length-le-encodes (chars front), ap length (encodes-chars front c.range.utf8), c.range.type_inv)

pub returns-in-None-clause-value : goal.returns-in-None-clause-value
returns-in-None-clause-value c =
    sym (place_from-none 1 _ _ (never_stands c.args.s.now c.args.part.now c.utf8.s c.utf8.part c.in-None.ensures.cases))

pub returns-in-None-clause-least : goal.returns-in-None-clause-least
returns-in-None-clause-least c place stands =
    absurd (never_stands c.args.s.now c.args.part.now c.utf8.s c.utf8.part c.in-None.ensures.cases stands.0 stands.1 stands.2)

-- the part comes first after the characters that were counted
first : (c : goal.After-length) →
    IsFirstAfter (chars c.args.s.now) (chars c.args.part.now) (chars c.range.result.now) (chars (drop c.in-Some.ensures.cases.0 c.args.s.now))
first c =
    let s = c.args.s.now in
    let found = c.in-Some.ensures.cases in
    let front : c.range.result.now ≡ take c.in-Some.at s = c.range.ensures.value ∙ grind (arith, common_steps) in
    rw front (first_match s c.args.part.now c.in-Some.at found.0 c.utf8.s c.utf8.part found.1 found.3.0
    (IsUtf8-drop s c.in-Some.at c.utf8.s found.3) (IsUtf8-take s c.in-Some.at c.utf8.s found.3))

pub returns-in-Some-clause-value : goal.returns-in-Some-clause-value
returns-in-Some-clause-value c = omega (arith, c.length.ensures, place_from-first 1 _ _ _ _ (first c))

pub returns-in-Some-clause-stands : goal.returns-in-Some-clause-stands
returns-in-Some-clause-stands c _ =
    (chars c.range.result.now, chars (drop c.in-Some.ensures.cases.0 c.args.s.now), (first c).splits, omega (arith, c.length.ensures))

pub returns-in-Some-clause-least : goal.returns-in-Some-clause-least
returns-in-Some-clause-least c place stands =
    (omega arith, omega (arith, c.length.ensures, (first c).first stands.0 stands.1 stands.2, stands.3))

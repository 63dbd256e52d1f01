-- Lists with a sign before each item but the first.
use Rattle.std.specs.Prelude.{List}
use Rattle.vtl_values.specs.declared.place.Place.{Place}
use Rattle.vtl_tokens.specs.declared.sign.Sign.{Sign}
use Rattle.vtl_grammar.specs.Rules.{Limit, Rule, ◌▸◌, Part, OfPart, Of, sig}
use Rattle.vtl_grammar.specs.Reading.{Reader, mapped, firsts, read_more}
use Rattle.vtl_cursor.specs.Limits.{limits}
use Rattle.vtl_cursor.specs.Plain.{read_plain}

-- an item without the sign before it
abbrev pub after : {A B : Type 0} → (A → B) → Place × A → B
after of v = of v.1

-- the sign and an item, seen by `of`
abbrev pub next_item : {X : Type 0} → ((q : Part) → Reader (OfPart q)) → Sign → (g : Rule) → (Of g → X) → Reader X
next_item inner s g of ts = mapped (after of) (read_plain limits inner (sig s ▸ g) ts)

-- as many of them as there are, seen by `of`
abbrev pub others : {X : Type 0} → ((q : Part) → Reader (OfPart q)) → Sign → Limit → (g : Rule) → (Of g → X) → Reader (List X)
others inner s l g of = read_more (firsts (sig s)) l (next_item inner s g of) (limits l)

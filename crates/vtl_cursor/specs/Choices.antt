-- Choices between words or signs, looked up by their marks.
use Rattle.std.specs.Prelude.{[], ◌∷◌, Option, find}
use Rattle.vtl_grammar.specs.Marks.{Tokens, of_mark}
use Rattle.vtl_grammar.specs.Words.{Words}
use Rattle.vtl_grammar.specs.Reading.{starts}

-- the choice whose mark stands there
abbrev pub standing : {A : Type 0} → Words A → Tokens → Option A
standing w ts = find (λ x. starts (of_mark (w.marked x) ∷ []) ts) (w.first ∷ w.others)

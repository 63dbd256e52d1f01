-- The limits within which the parser reads.
use Rattle.std.specs.Prelude.{ℕ, ◌-◌, ◌^◌}
use Rattle.vtl_grammar.specs.Rules.{Counts}
use Rattle.vtl_grammar.specs.Scripts.{language}

-- a slice has no more tokens
unfoldable pub most : ℕ
most = 2 ^ 64 - 1

-- the limits of the language, where a list has at most so many items as there may be tokens
abbrev pub limits : Counts
limits = language most

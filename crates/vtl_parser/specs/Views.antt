-- What a function returned of the front of an expression, and what reading gives.
use Rattle.std.specs.Prelude.{ℕ, Result}
use Rattle.vtl_syntax.specs.declared.expr.Expr.{Expr}
use Rattle.vtl_cursor.specs.declared.stop.Stop.{Stop}
use Rattle.vtl_cursor.specs.Views.{Reads}
use Rattle.vtl_grammar.specs.Marks.{Tokens}
use Rattle.vtl_grammar.specs.Reading.{Read, Front}

-- the expression, its precedence and its levels are what reading gives, unless memory ran out
abbrev pub GivesFront : Tokens → Result (Expr × ℕ × ℕ) Stop → Read Front → Type 0
GivesFront rest result r = Reads (λ x. record { value = record { expr = x.0; precedence = x.1 }; levels = x.2; rest = rest }) rest result r

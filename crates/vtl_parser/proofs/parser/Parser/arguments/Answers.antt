use Rattle.std.proofs.Common.{◌≡◌, ◌∙◌, None, Some, true, false, max, [], ◌∷◌, refl, sym, arith}
use Rattle.std.proofs.lemmas.Result.{err_from_is_err_and}
use Rattle.vtl_tokens.specs.declared.sign.Sign.TheVariants as signs
use Rattle.vtl_grammar.specs.Marks.{sign, of_mark}
use Rattle.vtl_grammar.specs.Reading.{heads, starts}
use Rattle.vtl_cursor.proofs.Shown.{fails-too}
use Rattle.vtl_parser.proofs.Arguments.{closed, arguments-read}
use Rattle.vtl_parser.proofs.parser.Parser.arguments.Goals as goal

pub returns-then-is_sign : goal.returns-then-is_sign
returns-then-is_sign g c =
    let none : starts (heads 0) c.args.cursor.now.tokens.now ≡ false = closed c.args.cursor.now.tokens.now (sym c.is_sign.ensures ∙ c.if-is_sign.true) in
    record { value = (None, c.in_ok-sign.field-0); reads = rw (none, c.in_ok-sign.ensures) refl; shows = sym c.new.ensures }

pub returns-in_err-sign : goal.returns-in_err-sign
returns-in_err-sign g c =
    let none : starts (heads 0) c.args.cursor.now.tokens.now ≡ false = closed c.args.cursor.now.tokens.now (sym c.is_sign.ensures ∙ c.if-is_sign.true) in
    let p = err_from_is_err_and c.from_residual.result c.from_residual.ensures.1 in
    rw (p.1, p.2) (fails-too c.in_err-sign.field-0.0 c.sign.new.self.tokens.now _ _ (λ k is. rw (none, is) refl) c.in_err-sign.ensures)

pub returns-in_err-arguments : goal.returns-in_err-arguments
returns-in_err-arguments g c =
    let p = err_from_is_err_and c.from_residual-in_err-arguments.result c.from_residual-in_err-arguments.ensures.1 in
    rw (p.1, p.2) (fails-too c.in_err-arguments.field-0.0 c.list.new.cursor.tokens.now _ _
    (λ k is. arguments-read c.args.self.now.depth c.args.cursor.now.tokens.now c.requires.some (sym c.is_sign.ensures ∙ c.if-is_sign.false) ∙ rw is refl)
    c.in_err-arguments.ensures)

pub returns-in_err-sign-2 : goal.returns-in_err-sign-2
returns-in_err-sign-2 g c =
    let p = err_from_is_err_and c.from_residual-in_err-sign-2.result c.from_residual-in_err-sign-2.ensures.1 in
    rw (p.1, p.2) (fails-too c.in_err-sign-2.field-0.0 c.sign-2.new.self.tokens.now _ _
    (λ k is. arguments-read c.args.self.now.depth c.args.cursor.now.tokens.now c.requires.some (sym c.is_sign.ensures ∙ c.if-is_sign.false) ∙ rw (c.in_ok-arguments.ensures.reads, is) refl)
    c.in_err-sign-2.ensures)

pub returns : goal.returns
returns g c =
    let s = c.in_ok-arguments.ensures in
    let levels : max c.in_ok-arguments.levels 0 ≡ c.in_ok-arguments.levels = omega arith in
    record {
      value = (Some s.value, c.in_ok-sign-2.field-0);
      reads = arguments-read c.args.self.now.depth c.args.cursor.now.tokens.now c.requires.some (sym c.is_sign.ensures ∙ c.if-is_sign.false) ∙ rw (s.reads, c.in_ok-sign-2.ensures, levels) refl;
      shows = s.shows;
    }

use Rattle.std.proofs.Common.{◌≡◌, false, true}
use Rattle.std.proofs.lemmas.Result.{err_from_is_err_and}
use Rattle.vtl_grammar.specs.Reading.{starts, firsts}
use Rattle.vtl_parser.specs.Forms.{window_of}
use Rattle.vtl_cursor.proofs.Shown.{fails-too}
use Rattle.vtl_grammar.specs.Calls.{over}
use Rattle.vtl_parser.proofs.Calls.{window-goes, groups-unclosed, groups-go}
use Rattle.vtl_parser.proofs.parser.Parser.aggregated.Goals as goal

pub returns-then-is_word : goal.returns-then-is_word
returns-then-is_word g c =
    let some : starts (firsts over) c.args.cursor.now.tokens.now ≡ true = cc in
    rw (c.in_ok-new.ensures, c.window_of.ensures) (window-goes c.args.self.now.depth c.args.cursor.now.tokens.now c.over.new.cursor.tokens.now c.args.function (window_of c.args.function) c.args.operand c.args.place c.in_ok-sign.field-0 c.sign.new.self.tokens.now c.in_ok-sign.ensures some c.in_ok-over.over c.in_ok-over.ensures)

pub returns-in_err-sign-2 : goal.returns-in_err-sign-2
returns-in_err-sign-2 g c =
    let none : starts (firsts over) c.args.cursor.now.tokens.now ≡ false = cc in
    let p = err_from_is_err_and c.from_residual-in_err-sign-2.result c.from_residual-in_err-sign-2.ensures.1 in
    rw (p.1, p.2) (fails-too c.in_err-sign-2.field-0.0 c.sign-2.new.self.tokens.now _ _
    (λ k is. groups-unclosed c.args.self.now.depth c.args.cursor.now.tokens.now c.maybe_groups.new.cursor.tokens.now none c.in_ok-groups.groups c.in_ok-groups.levels c.in_ok-groups.ensures c.sign-2.new.self.tokens.now k is)
    c.in_err-sign-2.ensures)

pub returns : goal.returns
returns g c =
    let none : starts (firsts over) c.args.cursor.now.tokens.now ≡ false = cc in
    rw c.in_ok-new-2.ensures (groups-go c.args.self.now.depth c.args.cursor.now.tokens.now c.maybe_groups.new.cursor.tokens.now c.args.function (window_of c.args.function) c.args.operand c.args.place c.in_ok-sign-2.field-0 c.sign-2.new.self.tokens.now c.in_ok-sign-2.ensures none c.in_ok-groups.groups c.in_ok-groups.levels c.in_ok-groups.ensures)

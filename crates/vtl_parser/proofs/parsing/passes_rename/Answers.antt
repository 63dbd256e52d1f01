use Rattle.std.proofs.Common.{◌≡◌, ap, sym, ◌∙◌, arith}
use Rattle.vtl_grammar.specs.Laws.{with_rename}
use Rattle.vtl_cursor.specs.Limits.{most}
use Rattle.vtl_cursor.specs.Views.{kind_of}
use Rattle.vtl_parser.specs.Scripts.{whole_read}
use Rattle.vtl_parser.proofs.Answered.{script-passes, halt-passes}
use Rattle.vtl_parser.proofs.parsing.passes_rename.Goals as goal

pub invariant_of-cursor : goal.invariant_of-cursor
unfolding most
invariant_of-cursor c = record { few = omega arith }

pub returns-in-Ok : goal.returns-in-Ok
returns-in-Ok c =
    let same : c.as_slice.result.now ≡ with_rename c.args.front.now c.args.place = c.as_slice.ensures.value ∙ c.in_ok-tokens.ensures in
    script-passes (with_rename c.args.front.now c.args.place) c.in-Ok.field-0 c.whole.new.cursor.tokens.now (ap whole_read (sym same) ∙ c.in-Ok.ensures)

pub returns : goal.returns
returns c =
    let same : c.as_slice.result.now ≡ with_rename c.args.front.now c.args.place = c.as_slice.ensures.value ∙ c.in_ok-tokens.ensures in
    halt-passes (with_rename c.args.front.now c.args.place) (kind_of c.in-Err-At.kind) c.whole.new.cursor.tokens.now (ap whole_read (sym same) ∙ (rw c.in-Err-At.field-0-is at c.in-Err-At.ensures)) ∙ c.passes.ensures

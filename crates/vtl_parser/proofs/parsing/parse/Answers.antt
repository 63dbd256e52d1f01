use Rattle.std.proofs.Common.{ap, sym, ◌∙◌}
use Rattle.vtl_cursor.specs.Views.{kind_of}
use Rattle.vtl_parser.specs.Scripts.{whole_read}
use Rattle.vtl_parser.proofs.Ended.{ended}
use Rattle.vtl_parser.proofs.Answered.{of-text, only-is, script-answered, fault-answered, rest-fits}
use Rattle.vtl_parser.proofs.parsing.parse.Goals as goal

pub overflow_sub-read-in-Err-At : goal.overflow_sub-read-in-Err-At
overflow_sub-read-in-Err-At c =
    rest-fits c.args.tokens.now (kind_of c.in-Err-At.kind) c.whole.new.cursor.tokens.now (ap whole_read (sym c.new-cursor.ensures) ∙ (rw c.in-Err-At.field-0-is at c.in-Err-At.ensures))

pub of-requires : goal.of-requires
of-requires c =
    let answered = script-answered c.args.tokens.now c.in-Ok.script c.whole.new.cursor.tokens.now (ap whole_read (sym c.new-cursor.ensures) ∙ c.in-Ok.ensures) in
    of-text c.args.tokens.now c.in-Ok.script c.requires answered

pub returns-in-Ok : goal.returns-in-Ok
returns-in-Ok c =
    let answered = script-answered c.args.tokens.now c.in-Ok.script c.whole.new.cursor.tokens.now (ap whole_read (sym c.new-cursor.ensures) ∙ c.in-Ok.ensures) in
    rw c.of.ensures (only-is c.args.tokens.now _ answered)

pub returns-in_ok-fault-in-Err-At : goal.returns-in_ok-fault-in-Err-At
returns-in_ok-fault-in-Err-At c =
    only-is c.args.tokens.now _ (fault-answered c.args.tokens.now (ended c.args.tokens.now c.requires) (kind_of c.in-Err-At.kind) c.whole.new.cursor.tokens.now (ap whole_read (sym c.new-cursor.ensures) ∙ (rw c.in-Err-At.field-0-is at c.in-Err-At.ensures)) c.index-tokens-read.result _ c.in_ok-fault-in-Err-At.ensures)

use Rattle.std.proofs.Common.{◌≡◌, sym}
use Rattle.vtl_parser.specs.Scripts.{script_read, whole_read}
use Rattle.vtl_parser.proofs.Whole.{levels-whole}
use Rattle.vtl_parser.proofs.script.whole.Goals as goal

pub returns : goal.returns
returns c =
    let same : whole_read c.args.cursor.now.tokens.now ≡ script_read 64 c.args.cursor.now.tokens.now = sym (levels-whole c.args.cursor.now.tokens.now c.args.cursor.now.few) in
    rw same c.script.ensures

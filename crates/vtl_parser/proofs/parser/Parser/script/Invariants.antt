use Rattle.std.proofs.Common.{◌≡◌, ◌-◌}
use Rattle.vtl_grammar.specs.ScriptReading.{total}
use Rattle.vtl_parser.specs.Scripts.{HasRoom, left_of, remaining, script_read}
use Rattle.vtl_parser.proofs.parser.Parser.script.Given as goal

abbrev pub invariant-loop-cursor : goal.invariant-loop-cursor
invariant-loop-cursor g l = record {
  same : remaining (l.self.depth - 1) l.script l.cursor.tokens.now ≡ script_read (l.self.depth - 1) l.fn.cursor.tokens.now;
  few : HasRoom l.script;
}

abbrev pub decreases-loop-cursor : goal.decreases-loop-cursor
decreases-loop-cursor g l = total (left_of l.script)

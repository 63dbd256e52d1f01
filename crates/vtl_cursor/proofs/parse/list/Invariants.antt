use Rattle.std.proofs.Common.{◌≡◌}
use Rattle.vtl_tokens.specs.declared.sign.Sign.TheVariants as signs
use Rattle.vtl_grammar.specs.Rules.{◌▸◌, repeated, comma, listed}
use Rattle.vtl_grammar.specs.Reading.{mapped, no_part}
use Rattle.vtl_cursor.specs.Limits.{limits}
use Rattle.vtl_cursor.specs.Plain.{read_plain}
use Rattle.vtl_cursor.specs.Views.{limit_of, joined}
use Rattle.vtl_cursor.proofs.Lists.{some_others}
use Rattle.vtl_cursor.proofs.parse.list.Given as goal

abbrev pub invariant-loop-alloc : goal.invariant-loop-alloc
invariant-loop-alloc g l = joined l.items 0 (some_others no_part signs.Comma g.T.Parse.rule g.T.Parse.of (limit_of l.limit) l.left l.cursor.tokens.now)
    ≡ mapped (listed g.T.Parse.of) (read_plain limits no_part (repeated (limit_of l.limit) g.T.Parse.rule (comma ▸ g.T.Parse.rule)) l.fn.cursor.tokens.now)

abbrev pub decreases-loop-alloc : goal.decreases-loop-alloc
decreases-loop-alloc g l = l.left

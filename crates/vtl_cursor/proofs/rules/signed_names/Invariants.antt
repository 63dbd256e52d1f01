use Rattle.std.proofs.Common.{◌≡◌, map}
use Rattle.vtl_grammar.specs.Rules.{lists}
use Rattle.vtl_grammar.specs.Reading.{mapped, no_part, firsts, read_more}
use Rattle.vtl_grammar.specs.Rulesets.{signed_name, signed_name_of}
use Rattle.vtl_cursor.specs.Limits.{limits}
use Rattle.vtl_cursor.specs.Plain.{read_plain}
use Rattle.vtl_cursor.specs.Views.{joined}
use Rattle.vtl_cursor.proofs.rules.signed_names.Given as goal

abbrev pub invariant-loop-names : goal.invariant-loop-names
invariant-loop-names l = joined l.names 0 (read_more (firsts signed_name) lists (λ ts. mapped signed_name_of (read_plain limits no_part signed_name ts)) l.left l.cursor.tokens.now)
    ≡ mapped (map signed_name_of) (read_more (firsts signed_name) lists (read_plain limits no_part signed_name) (limits lists) l.fn.cursor.tokens.now)

abbrev pub decreases-loop-names : goal.decreases-loop-names
decreases-loop-names l = l.left

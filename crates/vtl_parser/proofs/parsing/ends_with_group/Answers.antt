use Rattle.std.proofs.Common.{ap, sym, ◌∙◌}
use Rattle.std.specs.Option.{option_copied}
use Rattle.vtl_parser.proofs.GroupEnd.{is_group_there, ends_with_group-last}
use Rattle.vtl_parser.proofs.parsing.ends_with_group.Goals as goal

pub returns-in-Some : goal.returns-in-Some
returns-in-Some c = ends_with_group-last c.args.tokens.now ∙ (sym (ap is_group_there (sym (ap option_copied c.in-Some.is) ∙ c.last.ensures.value)) ∙ sym c.is_word.ensures)

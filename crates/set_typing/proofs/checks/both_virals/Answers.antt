use Rattle.std.proofs.Common.{sym, subst}
use Rattle.std.specs.List.{All}
use Rattle.std.proofs.lemmas.List.Elements.{All-append}
use Rattle.vtl_values.specs.declared.kind.Role.TheVariants.{Viral}
use Rattle.data_set_parts.specs.Joins.{IsOf}
use Rattle.set_typing.proofs.checks.both_virals.Goals as goal

pub returns-clause-sound : goal.returns-clause-sound
returns-clause-sound c = subst (All (IsOf Viral)) (sym c.in_ok-append.ensures) (All-append (IsOf Viral) c.in_ok-all.all c.in_ok-more.more c.in_ok-all.ensures.sound c.in_ok-more.ensures.sound)

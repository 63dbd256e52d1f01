use Rattle.std.proofs.Common.{◌≡◌, drop}
use Rattle.data_set_parts.specs.Walks.{each}
use Rattle.data_set_parts.proofs.Binds.{left_after}
use Rattle.statement_typing.specs.Joins.{typing_of}
use Rattle.statement_typing.specs.Names.{naming_of}
use Rattle.statement_typing.proofs.checker.Checker.further_operands.Given as goal

abbrev pub invariant-loop-other : goal.invariant-loop-other
invariant-loop-other g l =
    let naming = naming_of l.self.names.now in
    each (λ o. typing_of o naming) l.others ≡ left_after (λ o. typing_of o naming) l.operands (drop l.other-index l.others)

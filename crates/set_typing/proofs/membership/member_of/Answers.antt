use Rattle.std.proofs.Common.{◌≡◌, Ok, ap, sym, ◌∙◌}
use Rattle.operator_typing.proofs.Steps.{stops_same, fails_there, goes_on}
use Rattle.data_set_trees.specs.Trees.{with_clause}
use Rattle.set_typing.specs.Plans.{member_clause}
use Rattle.set_typing.proofs.Members.{member_structure}
use Rattle.set_typing.proofs.membership.member_of.Goals as goal

pub with_clause-requires : goal.with_clause-requires
with_clause-requires c =
    let s = c.args.set.structure in
    let of = member_clause c.args.name.now c.args.place in
    member_structure c.args.name.now c.args.place s c.in_ok-clause.clause c.components.ensures.structure (ap of (sym c.components.ensures.value) ∙ c.in_ok-clause.ensures.ok)

pub returns-in_err-clause-clause-err : goal.returns-in_err-clause-clause-err
returns-in_err-clause-clause-err c =
    let s = c.args.set.structure in
    let stop = c.in_err-clause.field-0.0 in
    let of = member_clause c.args.name.now c.args.place in
    fails_there (of s) (λ q. Ok (with_clause q c.args.place c.args.set)) c.from_residual.result stop (stops_same (of c.components.result.now) (of s) stop (ap of c.components.ensures.value) c.in_err-clause.ensures.err) c.from_residual.ensures.1

pub returns-clause-ok : goal.returns-clause-ok
returns-clause-ok c =
    let s = c.args.set.structure in
    let of = member_clause c.args.name.now c.args.place in
    let answered : of s ≡ Ok c.in_ok-clause.clause = ap of (sym c.components.ensures.value) ∙ c.in_ok-clause.ensures.ok in
    goes_on (of s) (λ q. Ok (with_clause q c.args.place c.args.set)) c.in_ok-clause.clause answered
    ∙ ap Ok (sym c.in_ok-with_clause.ensures)

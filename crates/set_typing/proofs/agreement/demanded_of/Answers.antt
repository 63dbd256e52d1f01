use Rattle.std.proofs.Common.{◌≡◌, Bool, [], ◌∷◌}
use Rattle.scalar_trees.specs.declared.typing.stop.Fault.TheVariants.{WrongType, WrongStructure}
use Rattle.data_set_trees.specs.clauses.Clauses.{demands}
use Rattle.data_set_parts.proofs.Follows.{ok_same, err_same}
use Rattle.set_typing.specs.Conditionals.{demanded_of}
use Rattle.set_typing.proofs.agreement.demanded_of.Goals as goal

pub returns-clause-ok : goal.returns-clause-ok
returns-clause-ok c =
    let meant = demanded_of c.args.place c.args.condition.now c.args.holds.now c.args.fails.now c.args.branches.now in
    let of = λ (fit meet : Bool). demands c.args.place ((fit, WrongType) ∷ (meet, WrongStructure) ∷ []) in
    let same : of c.in_ok-fit.fit c.in_ok-meet.meet ≡ meant = λ i. of (c.in_ok-fit.ensures i) (c.in_ok-meet.ensures i) in
    ok_same (of c.in_ok-fit.fit c.in_ok-meet.meet) meant c.demands.result same c.demands.ensures.ok

pub returns-clause-err : goal.returns-clause-err
returns-clause-err c =
    let meant = demanded_of c.args.place c.args.condition.now c.args.holds.now c.args.fails.now c.args.branches.now in
    let of = λ (fit meet : Bool). demands c.args.place ((fit, WrongType) ∷ (meet, WrongStructure) ∷ []) in
    let same : of c.in_ok-fit.fit c.in_ok-meet.meet ≡ meant = λ i. of (c.in_ok-fit.ensures i) (c.in_ok-meet.ensures i) in
    err_same (of c.in_ok-fit.fit c.in_ok-meet.meet) meant c.demands.result same c.demands.ensures.err

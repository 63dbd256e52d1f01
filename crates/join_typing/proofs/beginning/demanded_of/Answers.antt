use Rattle.std.proofs.Common.{◌≡◌, Bool, [], ◌∷◌, map}
use Rattle.scalar_trees.specs.declared.typing.stop.Fault.TheVariants.{WrongStructure, NameTwice, TooManyComponents}
use Rattle.data_set_trees.specs.clauses.Clauses.{demands}
use Rattle.data_set_parts.proofs.Follows.{ok_same, err_same}
use Rattle.join_typing.specs.Joining.{aliased, demanded_of}
use Rattle.join_typing.proofs.beginning.demanded_of.Goals as goal

pub returns-clause-ok : goal.returns-clause-ok
returns-clause-ok c =
    let meant = demanded_of c.args.place c.args.may (map aliased c.args.operands.now) c.args.frame.now in
    let of = λ (differ room : Bool). demands c.args.place ((c.args.may, WrongStructure) ∷ (differ, NameTwice) ∷ (room, TooManyComponents) ∷ []) in
    let same : of c.in_ok-differ.differ c.has_room.result ≡ meant = λ i. of (c.in_ok-differ.ensures i) (c.has_room.ensures i) in
    ok_same (of c.in_ok-differ.differ c.has_room.result) meant c.demands.result same c.demands.ensures.ok

pub returns-clause-err : goal.returns-clause-err
returns-clause-err c =
    let meant = demanded_of c.args.place c.args.may (map aliased c.args.operands.now) c.args.frame.now in
    let of = λ (differ room : Bool). demands c.args.place ((c.args.may, WrongStructure) ∷ (differ, NameTwice) ∷ (room, TooManyComponents) ∷ []) in
    let same : of c.in_ok-differ.differ c.has_room.result ≡ meant = λ i. of (c.in_ok-differ.ensures i) (c.has_room.ensures i) in
    err_same (of c.in_ok-differ.differ c.has_room.result) meant c.demands.result same c.demands.ensures.err

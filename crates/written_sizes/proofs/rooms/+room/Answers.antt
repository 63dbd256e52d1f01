use Rattle.std.proofs.Common.{◌≡◌, inl, inr, ℕ, ◌-◌, List, [], ◌∷◌, ◌++◌, Option, map, sym, ap, ◌∙◌, arith}
use Rattle.operator_faults.specs.declared.outline.Outline.{Outline}
use Rattle.operator_faults.specs.Outlines.{joined_if, one_if, parts_of, outlined, clause_outlined, operand_outlined}
use Rattle.operator_faults.proofs.Parts as parts
use Rattle.written_sizes.specs.Rooms.{room_after, room_after_all}
use Rattle.written_sizes.proofs.RoomLemmas.{expr-call, expr-room, expr-small, inside-room, joined-room, joined-none, having-room, in_turn}
use Rattle.written_sizes.proofs.rooms.+room.Goals as goal

pub after_expr-returns-in_err-own : goal.after_expr-returns-in_err-own
after_expr-returns-in_err-own t c =
    let was = c.in_ok-room.was in
    let call = c.in_err-own.ensures in
    c.from_residual-in_err-own.ensures ∙ expr-call c.args.tree.now c.args.most c.in_ok-room.room call
    ∙ ap (λ (r : Option ℕ). room_after c.args.most r (outlined c.args.tree.now)) (sym was)

pub after_expr-returns-then-room-gt0 : goal.after_expr-returns-then-room-gt0
after_expr-returns-then-room-gt0 t c =
    let was = c.in_ok-room.was in
    let own = c.in_ok-own.ensures in
    c.after_parts.ensures ∙ expr-room c.args.tree.now c.args.most c.in_ok-room.room c.in_ok-own.own own c.if-own-most.true c.if-room-gt0.true
    ∙ ap (λ (r : Option ℕ). room_after c.args.most r (outlined c.args.tree.now)) (sym was)

pub after_expr-returns-else-own-most : goal.after_expr-returns-else-own-most
after_expr-returns-else-own-most t c =
    let was = c.in_ok-room.was in
    let own = c.in_ok-own.ensures in
    expr-small c.args.tree.now c.args.most c.in_ok-room.room c.in_ok-own.own own (λ low few. elim c.else-own-most.either [
      | inl p ↦ absurd (omega (arith, low, few, p.1))
      | inr p ↦ absurd (omega (arith, low, few, p))
    ])
    ∙ ap (λ (r : Option ℕ). room_after c.args.most r (outlined c.args.tree.now)) (sym was)

pub after_having-returns : goal.after_having-returns
after_having-returns t c = c.after_optional.ensures ∙ sym (having-room c.args.most c.args.room (one_if outlined c.args.having.now))

pub after_joined-returns-then-most-eq0 : goal.after_joined-returns-then-most-eq0
after_joined-returns-then-most-eq0 t c =
    sym (joined-none c.args.most c.args.room (clause_outlined c.in-Some.clause) c.if-most-eq0.true) ∙ ap (λ k. room_after_all c.args.most c.args.room (joined_if clause_outlined k)) (sym c.in-Some.is)

pub after_joined-returns-else-most-eq0 : goal.after_joined-returns-else-most-eq0
after_joined-returns-else-most-eq0 t c =
    c.after_clause.ensures ∙ ap (λ k. room_after_all (c.args.most - 1) c.args.room (clause_outlined k)) c.get.ensures
    ∙ sym (joined-room c.args.most c.args.room (clause_outlined c.in-Some.clause) (omega (arith, c.if-most-eq0.false)))
    ∙ ap (λ k. room_after_all c.args.most c.args.room (joined_if clause_outlined k)) (sym c.in-Some.is)

pub after_operand_clause-returns : goal.after_operand_clause-returns
after_operand_clause-returns t c =
    c.after_clause.ensures ∙ ap (λ (r : Option ℕ). room_after_all c.args.most r (clause_outlined c.args.clause.now)) c.after_expr-room.ensures
    ∙ sym (inside-room c.args.most (room_after c.args.most c.args.room (outlined c.args.operand.now)) (clause_outlined c.args.clause.now))

pub after_join-returns : goal.after_join-returns
after_join-returns t c =
    let m = c.args.most in
    let r = c.args.room in
    let z = c.after_joined.result in
    let x0 : List Outline = operand_outlined c.get.result.now ∷ [] in
    let x1 : List Outline = operand_outlined c.get-in-Join.result.now ∷ [] in
    let x2 : List Outline = map operand_outlined c.as_slice.result.now in
    let x3 : List Outline = joined_if clause_outlined c.in-Join.filter in
    let x4 : List Outline = joined_if clause_outlined c.in-Join.calc in
    let x5 : List Outline = joined_if clause_outlined c.in-Join.keep in
    let y : List Outline = joined_if clause_outlined c.in-Join.rename in
    let is : parts_of c.args.tree.now ≡ x0 ++ (x1 ++ (x2 ++ (x3 ++ (x4 ++ (x5 ++ y))))) = rw (c.get.ensures, c.get-in-Join.ensures, c.as_slice.ensures, c.in-Join.is) (parts.parts-Join c.in-Join.function c.in-Join.first c.in-Join.second c.in-Join.others c.in-Join.filter c.in-Join.calc c.in-Join.keep c.in-Join.rename c.in-Join.place) in
    in_turn m r c.after_operand-room.result z x0 (x1 ++ (x2 ++ (x3 ++ (x4 ++ (x5 ++ y))))) c.after_operand-room.ensures
    (in_turn m c.after_operand-room.result c.after_operand-room-in-Join.result z x1 (x2 ++ (x3 ++ (x4 ++ (x5 ++ y)))) c.after_operand-room-in-Join.ensures
    (in_turn m c.after_operand-room-in-Join.result c.after_operands-room.result z x2 (x3 ++ (x4 ++ (x5 ++ y))) c.after_operands-room.ensures
    (in_turn m c.after_operands-room.result c.after_joined-room.result z x3 (x4 ++ (x5 ++ y)) c.after_joined-room.ensures
    (in_turn m c.after_joined-room.result c.after_joined-room-in-Join.result z x4 (x5 ++ y) c.after_joined-room-in-Join.ensures
    (in_turn m c.after_joined-room-in-Join.result c.after_joined-room-in-Join-2.result z x5 y c.after_joined-room-in-Join-2.ensures c.after_joined.ensures)))))
    ∙ ap (room_after_all m r) (sym is)

use Rattle.std.proofs.Common.{◌≡◌, ℕ, List, sym, subst, ◌∙◌}
use Rattle.std.proofs.lemmas.Bool.{eqb-true}
use Rattle.clause_meaning.specs.Clauses.{values_at}
use Rattle.set_ops.specs.Orders.{AreInPlace}
use Rattle.set_ops.proofs.Places.{in-place}
use Rattle.set_ops.proofs.order.Order.keeps.Goals as goal

pub returns-then-self : goal.returns-then-self
returns-then-self c = λ same values long.
    let own = c.self.inside.numbers in
    let at : AreInPlace own = c.self.invariant c.if-self.true in
    subst (λ (ns : List ℕ). values_at ns values ≡ values) c.self.view_is (in-place own values at (long ∙ sym (eqb-true c.len.result c.args.len same) ∙ c.len.ensures))

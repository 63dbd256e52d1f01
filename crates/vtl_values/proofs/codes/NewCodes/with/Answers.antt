use Rattle.std.proofs.Common.{◌≡◌, ◌∙◌, false, sym}
use Rattle.std.specs.HashSet.{contains_by}
use Rattle.vtl_values.proofs.CodesKnown.{AreKnown-with, was_absent}
use Rattle.vtl_values.specs.Texts.{same_text}
use Rattle.vtl_values.proofs.codes.NewCodes.with.Goals as goal

pub invariant_of-result : goal.invariant_of-result
invariant_of-result c =
    let told = c.in_ok-insert.ensures.added in
    let new = c.if-not-branch.false in
    let absent : contains_by (same_text c.args.code) c.self.inside.known ≡ false = was_absent _ _ told new in
    let listed : c.in_ok-listed.listed ≡ c.args.code = c.in_ok-listed.ensures in
    rw (c.in_ok-push.ensures.ok, listed) (AreKnown-with c.self.inside.in_order c.args.code c.self.inside.known c.insert.new.self c.self.invariant c.in_ok-insert.ensures.updates (sym (c.self.invariant.held c.args.code) ∙ absent))

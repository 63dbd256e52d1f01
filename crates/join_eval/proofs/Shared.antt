-- The plan of a join may be sent to threads and shared by them. For a type above that holds one:
-- `search (plan_send, plan_sync, crosses, sendable)`, with `crosses` of `Rattle.std.proofs.Crossing`.
use Rattle.std.proofs.Crossing.{crosses}
use denote.Param.Send.{IsSend, IsSync, sendable}
use denote.Param.SendFields.{declared_send, declared_sync}
use Rattle.vtl_values.proofs.structure.Structure.TheSendSync as structure
use Rattle.join_eval.proofs.sides.Side.TheSendSync as side
use Rattle.join_eval.proofs.virals.ViralPlaces.TheSendSync as places
use Rattle.join_eval.specs.contracts.plan.JoinPlan as Plan
use Rattle.join_eval.specs.contracts.plan.JoinPlan.TheInside as PlanInside

plan_inside_send : IsSend PlanInside.the_row
plan_inside_send = declared_send PlanInside.the_type (search (structure.the_send, side.the_send, places.the_send, crosses, sendable) depth 40)

plan_inside_sync : IsSync PlanInside.the_row
plan_inside_sync = declared_sync PlanInside.the_type (search (structure.the_sync, side.the_sync, places.the_sync, crosses, sendable) depth 40)

pub plan_send : IsSend Plan.the_row
plan_send = search (plan_inside_send, sendable)

pub plan_sync : IsSync Plan.the_row
plan_sync = search (plan_inside_sync, sendable)

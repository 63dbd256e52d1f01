use Rattle.std.proofs.Common.{◌≡◌, ◌++◌, drop}
use Rattle.data_set_typing.specs.Meetings.{met_by_name}
use Rattle.data_set_typing.proofs.meetings.meeting_by_name.Given as goal

abbrev pub invariant-loop-measure : goal.invariant-loop-measure
invariant-loop-measure l = met_by_name l.others l.measures ≡ l.met ++ met_by_name l.others (drop l.measure-index l.measures)

use Rattle.std.proofs.Common.{◌≡◌, ◌++◌, length}
use Rattle.std.specs.Vec.Iter.{into_iter_items, into_iter_len}
use Rattle.round_runs.specs.Runs.{JudgedSo}
use Rattle.round_runs.proofs.eval.judge_revisions.Given as goal

abbrev pub invariant-loop-revision : goal.invariant-loop-revision
invariant-loop-revision l = record {
  parts : l.yielded ++ into_iter_items l.revision-iterator ≡ into_iter_items l.initial.revision-iterator;
  count : into_iter_len l.revision-iterator ≡ length (into_iter_items l.revision-iterator);
  judged : JudgedSo l.initial.production.script l.yielded l.verdicts l.production;
}

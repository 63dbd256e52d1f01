use Rattle.std.proofs.Common.{ℕ, List, Ok, ap, sym, subst, ◌∙◌, lit<, lit≤, arith}
use Rattle.outside.specs.Sinks.{Extends}
use Rattle.release_text.specs.Releases.{release}
use Rattle.round_runs.specs.Runs.{WritesEnd}
use Rattle.round_runs.specs.Answers.{Answer}
use Rattle.round_runs.specs.declared.eval.End.{End}
use Rattle.commands.proofs.StageLemmas.{did_behind, wrote_behind, rose_at_6}
use Rattle.commands.proofs.call.write_run.Goals as goal

pub returns-in-Released-clause-did : goal.returns-in-Released-clause-did
returns-in-Released-clause-did g c = λ meant writes.
    let old = g.K.Sink.view c.args.out.now in
    let mid = g.K.Sink.view c.put-written.new.out in
    let r = c.latest.result.now in
    let first = subst (λ (t : List ℕ). Extends old mid (Ok tt) c.put-written.result t) c.as_slice.ensures.value c.put-written.ensures in
    let same = (subst (λ (e : End). WritesEnd c.args.ran.now.production e meant) c.in-Released.is writes) r c.latest.ensures.release in
    did_behind old mid (g.K.Sink.view c.write_to.new.out) c.put-written.result c.write_to.result c.args.ran.now.lines.items (release r.number r.prefix r.script r.pages) 0 c.status_after.result meant
    first c.write_to.ensures c.status_after.ensures same

pub returns-in-Released-clause-write : goal.returns-in-Released-clause-write
returns-in-Released-clause-write g c = λ six.
    let old = g.K.Sink.view c.args.out.now in
    let mid = g.K.Sink.view c.put-written.new.out in
    let new = g.K.Sink.view c.write_to.new.out in
    let r = c.latest.result.now in
    let text = release r.number r.prefix r.script r.pages in
    rose_at_6 old new c.write_to.result _ 0 (lit< tt)
    (wrote_behind old mid new c.put-written.result c.write_to.result c.as_slice.result.now text c.put-written.ensures c.write_to.ensures)
    (sym c.status_after.ensures ∙ six)

pub returns-in-Failed-clause-did : goal.returns-in-Failed-clause-did
returns-in-Failed-clause-did g c = λ meant writes.
    let old = g.K.Sink.view c.args.out.now in
    let mid = g.K.Sink.view c.put-written.new.out in
    let line = c.as_slice-in-Failed.result.now in
    let first = subst (λ (t : List ℕ). Extends old mid (Ok tt) c.put-written.result t) c.as_slice.ensures.value c.put-written.ensures in
    let same = subst (λ (e : End). WritesEnd c.args.ran.now.production e meant) c.in-Failed.is writes
    ∙ ap (λ (t : List ℕ). let a : Answer = record { status = 5; text = t } in a) (sym c.as_slice-in-Failed.ensures.value) in
    did_behind old mid (g.K.Sink.view c.put.new.out) c.put-written.result c.put.result c.args.ran.now.lines.items line 5 c.status_after-in-Failed.result meant
    first c.put.ensures c.status_after-in-Failed.ensures same

pub returns-in-Failed-clause-write : goal.returns-in-Failed-clause-write
returns-in-Failed-clause-write g c = λ six.
    let old = g.K.Sink.view c.args.out.now in
    let mid = g.K.Sink.view c.put-written.new.out in
    let new = g.K.Sink.view c.put.new.out in
    rose_at_6 old new c.put.result _ 5 (lit< tt)
    (wrote_behind old mid new c.put-written.result c.put.result c.as_slice.result.now c.as_slice-in-Failed.result.now c.put-written.ensures c.put.ensures)
    (sym c.status_after-in-Failed.ensures ∙ six)

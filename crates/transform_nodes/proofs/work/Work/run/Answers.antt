use Rattle.std.proofs.Common.{length, map, sym, ◌∙◌, ap, arith}
use Rattle.std.specs.Arc.{arc_value}
use Rattle.std.proofs.lemmas.List.{length-map}
use Rattle.transform_nodes.proofs.FinishLemmas.{fits_news, can_run, run_within, done_stands, done_finish}
use Rattle.transform_nodes.proofs.ReachLemmas.{work_rests}
use Rattle.transform_nodes.proofs.work.Work.run.Goals as goal

pub run-finish-requires-clause-fit : goal.run-finish-requires-clause-fit
run-finish-requires-clause-fit g c κs within =
    let stands = c.requires.stands in
    let settled = c.settle.ensures in
    let news = c.as_slice.result.now in
    fits_news stands.0 c.args.self stands.1.0 stands.1.1 stands.1.2 c.settle.new.self settled.parts settled.tree settled.pages (map arc_value news) (ap (map arc_value) c.as_slice.ensures.value) (length news) (sym (length-map news arc_value))

pub run-finish-requires-clause-can : goal.run-finish-requires-clause-can
run-finish-requires-clause-can g c κs within =
    let stands = c.requires.stands in
    let settled = c.settle.ensures in
    can_run stands.0 c.args.self stands.1.0 stands.1.1 stands.1.2 c.settle.new.self settled.parts settled.tree settled.pages (map arc_value c.as_slice.result.now) (ap (map arc_value) c.as_slice.ensures.value)

pub returns-clause-stands : goal.returns-clause-stands
returns-clause-stands g c = λ s xs ys w.
    let settled = c.settle.ensures in
    let news = map arc_value c.as_slice.result.now in
    let are = ap (map arc_value) c.as_slice.ensures.value in
    let node = c.settle.new.self in
    let after = c.run-finish.new.self in
    let ran = c.run-finish.ensures in
    record {
      statement_is = ran.parts.statement ∙ settled.parts.statement ∙ w.statement_is;
      node_stands = done_stands s c.args.self xs ys w node settled.parts settled.tree settled.pages news are after ran.parts ran.kept ran.pages;
      finish_is = done_finish s c.args.self xs ys w node settled.parts settled.tree settled.pages news are after ran.parts ran.kept ran.pages c.run-finish.result ran.right;
    }

pub returns-clause-steps : goal.returns-clause-steps
returns-clause-steps g c = λ s xs ys w.
    let settled = c.settle.ensures in
    let news = c.as_slice.result.now in
    run_within s c.args.self xs ys w c.settle.new.self settled.parts settled.tree settled.pages (map arc_value news) (ap (map arc_value) c.as_slice.ensures.value) c.args.steps.now c.run-finish.new.steps c.run-finish.ensures.steps

pub returns-clause-rests : goal.returns-clause-rests
returns-clause-rests g c = λ none.
    let settled = c.settle.ensures in
    let news = c.as_slice.result.now in
    let stands = c.requires.stands in
    let within = run_within stands.0 c.args.self stands.1.0 stands.1.1 stands.1.2 c.settle.new.self settled.parts settled.tree settled.pages (map arc_value news) (ap (map arc_value) c.as_slice.ensures.value) c.args.steps.now c.run-finish.new.steps c.run-finish.ensures.steps in
    let nothing = work_rests stands.0 c.args.self stands.1.0 stands.1.1 stands.1.2 none in
    omega (arith, within, nothing)

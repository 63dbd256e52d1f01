use Rattle.std.proofs.Common.{◌≡◌, ◌+◌, ◌<◌, ◌^◌, List, Result, Ok, Err, length, sym, subst, ◌∙◌, arith}
use Rattle.std.specs.Prelude.{IfOk}
use Rattle.std.specs.List.{All}
use Rattle.data_set_trees.specs.declared.measure.Measure.{Measure}
use Rattle.data_set_trees.specs.Components.{measures}
use Rattle.data_set_trees.specs.Pairs.{meeting}
use Rattle.data_set_typing.specs.Plans.{met_of}
use Rattle.data_set_typing.proofs.Rooms.{has_room}
use Rattle.data_set_typing.proofs.pairs.met_of.Goals as goal

-- what holds of the one value that may be answered
if_answered : {A E : Type 0} (P : A → Type 0) (r : Result A E) (value : A) → IfOk r (λ x. x ≡ value) → P value → IfOk r P
if_answered P (Ok x) value is holds = subst P (sym is) holds
if_answered P (Err e) value is holds = tt

pub returns-clause-met : goal.returns-clause-met
returns-clause-met c =
    let s = c.args.components.now in
    let t = c.args.others.now in
    let changed = c.args.changed.now in
    let ours : c.as_slice.result.now ≡ measures s = c.as_slice.ensures ∙ c.in_ok-ours.ensures in
    let theirs : c.as_slice-2.result.now ≡ measures t = c.as_slice-2.ensures ∙ c.in_ok-theirs.ensures in
    let same : meeting changed c.as_slice.result.now c.as_slice-2.result.now ≡ met_of changed s t = λ i. meeting changed (ours i) (theirs i) in
    subst (λ (q : List (Measure × Measure)). IfOk c.meeting.result (λ met. met ≡ q)) same c.meeting.ensures

pub returns-clause-room : goal.returns-clause-room
returns-clause-room c =
    let s = c.args.components.now in
    let t = c.args.others.now in
    if_answered (All (λ (p : Measure × Measure). length s + p.1.number < 2 ^ 64)) c.meeting.result (met_of c.args.changed.now s t) (returns-clause-met c) (has_room c.args.changed.now s t (omega arith))

use Rattle.std.proofs.Common.{◌≡◌, ℕ, ◌<◌, ◌+◌, ◌++◌, List, [], ◌∷◌, Option, length, map, ap, arith}
use Rattle.std.specs.Arc.{arc_value}
use Rattle.std.specs.declared.alloc.Global.{Global}
use Rattle.std.specs.declared.sync.Arc.{Arc}
use Rattle.std.proofs.lemmas.List.{length_push}
use Rattle.point_sets.specs.Changes.{Changes}
use Rattle.point_sets.specs.declared.point.Point.{Point}
use Rattle.held_index.specs.Holdings.{Holding, operand}
use Rattle.held_index.specs.Rules.{after_news}
use Rattle.operator_meaning.specs.joins.Joins.{JoinOn}
use Rattle.outer_joins.proofs.Looked.{own-more, points-end}
use Rattle.inner_joins.proofs.Behind.{many, many-after, operand-at}
use Rattle.inner_joins.proofs.notes.look_all.Goals as goal

one-longer : (ps qs : List (Option (Arc Point Global))) (p : Option (Arc Point Global)) (i : ℕ) → qs ≡ ps ++ p ∷ [] → length ps ≡ i → length qs ≡ i + 1
one-longer ps qs p i pushed long = let more = length_push ps p in let same = ap (λ (rs : List (Option (Arc Point Global))). length rs) pushed in omega (arith, more, same, long)

pub loop-number-preserved : goal.loop-number-preserved
loop-number-preserved g c =
    let i = c.loop-number.number in
    let j : JoinOn = c.args.plan.now in
    let held : List Holding = c.args.held.now in
    let news : List Changes = map arc_value c.args.news.now in
    let key = c.args.meeting.now.key in
    let seen = c.in_ok-seen.seen in
    let test = c.loop-number-test.true in
    let long = c.requires.news in
    let within : i < length j.operands = omega (arith, test, long) in
    let pushed = c.in_ok-push.ensures.items in
    let pushed_after = c.in_ok-push-2.ensures.items in
    let before = c.loop-number.invariant.steps in
    let one = c.in_ok-seen.ensures.steps in
    record {
      before = λ xs behind met.
          let inside : i < length xs = let all = many j held news xs behind in omega (arith, all, within) in
          own-more j xs key i (operand i xs) c.loop-number.before.items c.push.new.self.items seen.before within inside (operand-at xs i inside) (c.in_ok-seen.ensures.has xs behind met).before pushed (c.loop-number.invariant.before xs behind met);
      after = λ xs behind met.
          let inside : i < length (after_news news xs) = let all = many-after j held news xs behind in omega (arith, all, within) in
          own-more j (after_news news xs) key i (operand i (after_news news xs)) c.loop-number.after.items c.push-in-loop-number.new.self.items seen.after within inside (operand-at (after_news news xs) i inside) (c.in_ok-seen.ensures.has xs behind met).after pushed_after (c.loop-number.invariant.after xs behind met);
      before_len = one-longer c.loop-number.before.items c.push.new.self.items seen.before i pushed c.loop-number.invariant.before_len;
      after_len = one-longer c.loop-number.after.items c.push-in-loop-number.new.self.items seen.after i pushed_after c.loop-number.invariant.after_len;
      steps = omega (arith, before, one);
    }

pub returns-clause-before : goal.returns-clause-before
returns-clause-before g c = λ xs behind met.
    points-end c.args.plan.now xs c.args.meeting.now.key c.loop-number.number c.loop-number.before.items (let all = c.requires.news in let past = c.loop-number-test.false in omega (arith, all, past)) (c.loop-number.invariant.before xs behind met)

pub returns-clause-after : goal.returns-clause-after
returns-clause-after g c = λ xs behind met.
    points-end c.args.plan.now (after_news (map arc_value c.args.news.now) xs) c.args.meeting.now.key c.loop-number.number c.loop-number.after.items (let all = c.requires.news in let past = c.loop-number-test.false in omega (arith, all, past)) (c.loop-number.invariant.after xs behind met)

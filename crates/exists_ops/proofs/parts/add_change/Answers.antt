-- A change is added to its part.
use Rattle.std.proofs.Common.{◌≡◌, ◌+◌, Bool, true, false, cond, refl, ap}
use mir.Val.{bool_byte}
use Rattle.point_sets.specs.Changes.{change_entry}
use Rattle.exists_ops.specs.Parts.{shift_at}
use Rattle.exists_ops.specs.declared.parts.Shift.{Shift}
use Rattle.exists_ops.proofs.ShiftLemmas.{added}
use Rattle.exists_ops.proofs.parts.add_change.Goals as goal

byte-is : (b : Bool) → bool_byte b ≡ cond b 1 0
byte-is true = refl
byte-is false = refl

pub returns : goal.returns
returns c = λ es h.
    let kept : Shift = c.shift_at-shift.result in
    added c.args.numbers.now es (change_entry c.args.change.now) c.args.shifts.now c.insert.new.self h c.in_ok-part.part c.in_ok-part.ensures (kept.come + c.from.result) (kept.gone + c.from-2.result)
    (let f = c.from.ensures in let g = c.is_gain-comes.ensures in let k = c.shift_at-shift.ensures in rw (f, g, k) (ap (λ n. (shift_at c.args.shifts.now c.in_ok-part.part).come + n) (byte-is _))) (let f = c.from-2.ensures in let g = c.is_loss-goes.ensures in let k = c.shift_at-shift.ensures in rw (f, g, k) (ap (λ n. (shift_at c.args.shifts.now c.in_ok-part.part).gone + n) (byte-is _)))
    c.in_ok-insert.ensures.updates.0 c.in_ok-insert.ensures.entries

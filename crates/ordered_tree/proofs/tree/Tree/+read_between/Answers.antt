use Rattle.std.proofs.Common.{◌≡◌, ◌+◌, ◌-◌, suc, ◌∷◌, ◌++◌, length, sym, ap, ◌∙◌, arith, length-append}
use Rattle.std.specs.Arc.{arc_value}
use Rattle.ordered_tree.specs.Items.{items}
use Rattle.ordered_tree.specs.Lists.{stretch}
use Rattle.ordered_tree.specs.Measures.{total}
use Rattle.ordered_tree.proofs.Stretches.{stretch_right, stretch_around}
use Rattle.ordered_tree.proofs.Totals.{total-++}
use Rattle.ordered_tree.proofs.tree.Tree.+read_between.Goals as goal

pub returns-then-from-before : goal.returns-then-from-before
returns-then-from-before g t c =
    let f = c.deref-fork.result.now in
    let is : c.args.self.now ≡ f.left ++ arc_value f.item ∷ f.right = rw c.deref-fork.ensures (sym c.self.view_is ∙ ap items c.in-At.is) in
    let size : length c.args.self.now ≡ length f.left + suc (length f.right) = rw is (length-append f.left (arc_value f.item ∷ f.right)) in
    let e : stretch c.args.from c.args.to c.args.self.now ≡ stretch (c.args.from - c.len-before.result - 1) (c.args.to - c.len-before.result - 1) f.right = rw (is, c.len-before.ensures) (stretch_right f.left (arc_value f.item) f.right c.args.from c.args.to (omega arith) (omega arith)) in
    let n : c.args.to - c.len-before.result - 1 - (c.args.from - c.len-before.result - 1) ≡ c.args.to - c.args.from = omega arith in
    rw e (record {
      value = c.read_between-then-from-before.ensures.value;
      fits = rw n at c.read_between-then-from-before.ensures.fits;
    })

pub returns-else-from-before : goal.returns-else-from-before
returns-else-from-before g t c =
    let f = c.deref-fork.result.now in
    let is : c.args.self.now ≡ f.left ++ arc_value f.item ∷ f.right = rw c.deref-fork.ensures (sym c.self.view_is ∙ ap items c.in-At.is) in
    let size : length c.args.self.now ≡ length f.left + suc (length f.right) = rw is (length-append f.left (arc_value f.item ∷ f.right)) in
    let k = c.args.to - c.len-before.result - 1 in
    let left = stretch c.args.from c.len-before.result f.left in
    let right = stretch 0 k f.right in
    let e : stretch c.args.from c.args.to c.args.self.now ≡ left ++ arc_value f.item ∷ right = rw (is, c.len-before.ensures) (stretch_around f.left (arc_value f.item) f.right c.args.from c.args.to (omega arith) (omega arith)) in
    let s = total-++ g.met.M.Measure.monoid g.T.Measured.of left (arc_value f.item ∷ right) in
    let law = g.met.R.Reading.joined c.args.reading.now in
    let of = g.R.Reading.of c.args.reading.now in
    let sum = total g.M.Measure.nothing g.M.Measure.join g.T.Measured.of in
    let own = g.T.Measured.of (arc_value f.item) in
    let whole : sum (left ++ arc_value f.item ∷ right) ≡ g.M.Measure.join (sum left) (g.M.Measure.join own (sum right)) = s in
    let parts : of (sum (left ++ arc_value f.item ∷ right)) ≡ g.R.Reading.join (of (sum left)) (g.R.Reading.join (of own) (of (sum right))) =
    ap of whole ∙ law (sum left) (g.M.Measure.join own (sum right)) ∙ ap (g.R.Reading.join (of (sum left))) (law own (sum right)) in
    let laws = g.met.M.Measure.fitting in
    let one : g.M.Measure.fits 1 own = rw (← c.deref-item.ensures, ← c.measure.ensures.is) c.measure.ensures.fits in
    let n : c.len-before.result - c.args.from + (1 + k) ≡ c.args.to - c.args.from = omega arith in
    let zero : k - 0 ≡ k = omega arith in
    let last = rw zero at c.read_between-right.ensures.fits in
    let fit = laws.both (c.len-before.result - c.args.from) (1 + k) (sum left) (g.M.Measure.join own (sum right)) c.read_between-left.ensures.fits (laws.both 1 k own (sum right) one last) in
    rw e (record {
      value = cc (parts, c.around.ensures, c.read_between-left.ensures.value, c.read_between-right.ensures.value, c.read-own.ensures, c.measure.ensures.is, c.deref-item.ensures);
      fits = rw (whole, ← n) fit;
    })

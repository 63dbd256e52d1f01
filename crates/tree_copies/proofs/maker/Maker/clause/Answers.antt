use Rattle.std.proofs.Common.{◌∙◌, ap, map}
use Rattle.tree_copies.specs.Made.{item_made}
use Rattle.tree_copies.proofs.ClausesMade.{filter_made, calc_made, keep_made, drop_made}
use Rattle.tree_copies.proofs.maker.Maker.clause.Goals as goal

pub returns-in_ok-boxed-in-Filter : goal.returns-in_ok-boxed-in-Filter
returns-in_ok-boxed-in-Filter g c =
    filter_made (g.W.Naming.name c.args.self.now.by.now) (g.W.Naming.call c.args.self.now.by.now) c.args.clause.now c.in-Filter.place c.in-Filter.condition c.in_ok-boxed-in-Filter.field-0 c.in-Filter.is c.in_ok-boxed-in-Filter.ensures

pub returns-in_ok-calculated-in-Calc : goal.returns-in_ok-calculated-in-Calc
returns-in_ok-calculated-in-Calc g c =
    calc_made (g.W.Naming.name c.args.self.now.by.now) (g.W.Naming.call c.args.self.now.by.now) c.args.clause.now c.in-Calc.place c.in-Calc.items c.in_ok-calculated-in-Calc.field-0 c.in-Calc.is
    (c.in_ok-calculated-in-Calc.ensures ∙ ap (map (item_made (g.W.Naming.name c.args.self.now.by.now) (g.W.Naming.call c.args.self.now.by.now))) c.as_slice.ensures)

pub returns-in_ok-copy_comps-in-Keep : goal.returns-in_ok-copy_comps-in-Keep
returns-in_ok-copy_comps-in-Keep g c =
    keep_made (g.W.Naming.name c.args.self.now.by.now) (g.W.Naming.call c.args.self.now.by.now) c.args.clause.now c.in-Keep.place c.in-Keep.components c.in_ok-copy_comps-in-Keep.field-0 c.in-Keep.is (c.in_ok-copy_comps-in-Keep.ensures ∙ c.as_slice-in-Keep.ensures)

pub returns-in_ok-copy_comps-in-Drop : goal.returns-in_ok-copy_comps-in-Drop
returns-in_ok-copy_comps-in-Drop g c =
    drop_made (g.W.Naming.name c.args.self.now.by.now) (g.W.Naming.call c.args.self.now.by.now) c.args.clause.now c.in-Drop.place c.in-Drop.components c.in_ok-copy_comps-in-Drop.field-0 c.in-Drop.is (c.in_ok-copy_comps-in-Drop.ensures ∙ c.as_slice-in-Drop.ensures)

use Rattle.std.proofs.Common.{◌∙◌}
use Rattle.transform_nodes.proofs.NodeLemmas.{stands-settled}
use Rattle.transform_nodes.proofs.work.Work.give_up.Goals as goal

pub settle-requires : goal.settle-requires
settle-requires c = c.requires.1.2.node_stands.ready

pub returns-clause-stands : goal.returns-clause-stands
returns-clause-stands c = λ s xs ys w.
    let settled = c.settle.ensures in
    record {
      statement_is = settled.parts.statement ∙ w.statement_is;
      node_stands = stands-settled s c.args.self.node c.settle.new.self xs c.args.self.settle settled.parts settled.tree settled.pages w.node_stands;
      finish_is = tt;
    }

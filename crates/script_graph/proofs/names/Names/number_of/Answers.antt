use Rattle.std.proofs.Common.{◌≡◌, ℕ, List, Option, ap, ◌∙◌}
use Rattle.std.specs.Prelude.{position}
use Rattle.script_graph.specs.Words.{is_same}
use Rattle.script_graph.proofs.Naming.{position-map}
use Rattle.script_graph.proofs.names.Names.number_of.Goals as goal

pub returns : goal.returns
returns c =
    c.get_index_of.ensures.index
    ∙ position-map (λ k. k.now) c.args.word.now c.self.inside.words.keys
    ∙ ap (λ (ws : List (List ℕ)). position (is_same c.args.word.now) ws) c.self.view_is

use Rattle.std.proofs.Common.{◌∙◌, ap, nat_eq}
use Rattle.indexmap.proofs.CallerLemmas.{insert_entry-new}
use Rattle.std.specs.Cmp.Lexicographic.{pointwise}
use Rattle.vtl_values.specs.Structures.{structure_of}
use Rattle.vtl_values.proofs.structures.Structures.insert.Goals as goal

pub returns-clause-ok : goal.returns-clause-ok
returns-clause-ok c =
    rw (← c.self.view_is)
    (c.in_ok-insert.ensures.entries ∙ insert_entry-new (pointwise nat_eq) c.self.inside.entries c.args.name c.args.structure (ap (λ named. structure_of named c.args.name) c.self.view_is ∙ c.requires))

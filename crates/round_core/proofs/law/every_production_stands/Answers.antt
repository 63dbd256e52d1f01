use Rattle.std.proofs.Common.{sym, ◌∙◌, ap}
use Rattle.round_journal.specs.Journals.{inputs}
use Rattle.round_journal.specs.Releases.{pages_on}
use Rattle.round_core.specs.Seen.{state_in}
use Rattle.round_core.proofs.law.every_production_stands.Goals as goal

pub returns-clause-pages : goal.returns-clause-pages
returns-clause-pages c =
    let s = state_in c.args.production.now in
    c.latest.ensures.release.pages_are ∙ ap (λ m. pages_on s.latest.script.script (inputs m s)) (sym c.latest.ensures.release.prefix_is)

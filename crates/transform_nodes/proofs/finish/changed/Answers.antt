use Rattle.std.proofs.Common.{◌≡◌, length, sym, ◌∙◌, ap, subst}
use Rattle.std.specs.FinMap.{len-entries}
use Rattle.std.specs.Prelude.{IfOk}
use Rattle.std.proofs.lemmas.Bool.{eqb-true}
use Rattle.std.proofs.lemmas.List.{length-map}
use Rattle.point_sets.specs.Changes.{change_entry}
use Rattle.release_text.specs.Releases.{Page}
use Rattle.transform_nodes.proofs.FinishLemmas.{unchanged}
use Rattle.transform_nodes.proofs.finish.changed.Goals as goal

pub returns-then-is_empty : goal.returns-then-is_empty
returns-then-is_empty c =
    let none = len-entries c.args.delta.now ∙ sym (ap length c.changes.ensures.entries) ∙ length-map c.changes.result.now change_entry ∙ eqb-true (length c.changes.result.now) 0 (sym c.is_empty.ensures ∙ c.if-is_empty.true) in
    subst (λ (page : Page). IfOk c.copy.result (λ after. after ≡ page)) (unchanged c.args.delta.now c.args.pages.now none) c.copy.ensures

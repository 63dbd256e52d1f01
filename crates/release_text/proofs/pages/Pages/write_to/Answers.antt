use Rattle.std.proofs.Common.{◌≡◌, ◌∙◌, ap}
use Rattle.release_text.specs.Releases.{page_text}
use Rattle.release_text.specs.declared.pages.Held.{Held}
use Rattle.release_text.proofs.pages.Pages.write_to.Goals as goal

pub returns : goal.returns
returns g c =
    let whole : c.as_slice.result.now ≡ page_text c.args.self.now = c.as_slice.ensures.value ∙ ap (λ (h : Held). h.text.items) c.deref.ensures ∙ c.self.invariant ∙ ap page_text c.self.view_is in
    rw whole at c.put.ensures

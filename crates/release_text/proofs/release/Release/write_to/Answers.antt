use Rattle.std.proofs.Common.{◌≡◌, ◌∙◌, ◌+◌, ◌++◌, List, [], ◌∷◌, ap, sym, append-nil, take, take_all}
use Rattle.std.specs.List.{flat_map}
use Rattle.std.proofs.lemmas.List.{flat_map_more, take_more}
use Rattle.outside.proofs.Writes.{extends_then}
use Rattle.release_text.specs.Releases.{Page, page_text, release, release_line}
use Rattle.release_text.proofs.release.Release.write_to.Goals as goal

pub loop-page-init : goal.loop-page-init
loop-page-init g c = rw (append-nil (release_line c.args.self.now.number c.args.self.now.prefix c.args.self.now.script)) c.write_line-written.ensures

pub loop-page-preserved : goal.loop-page-preserved
loop-page-preserved g c =
    let line = release_line c.args.self.now.number c.args.self.now.prefix c.args.self.now.script in
    let pages = c.as_slice-page-items.result.now in
    let i = c.loop-page.page-index in
    let page = c.page-item.result in
    let next : take i pages ++ page ∷ [] ≡ take (i + 1) pages = ap (λ (p : Page). take i pages ++ p ∷ []) c.page-item.is ∙ sym (take_more pages i page c.loop-page-test.true) in
    let text : (line ++ flat_map page_text (take i pages)) ++ page_text page ≡ line ++ flat_map page_text (take (i + 1) pages) = flat_map_more page_text line (take i pages) page ∙ ap (λ (ps : List Page). line ++ flat_map page_text ps) next in
    rw text at (extends_then _ _ c.loop-page.invariant c.write_to-written.ensures)

pub returns : goal.returns
unfolding release
returns g c = rw (take_all c.loop-page.page-index c.as_slice-page-items.result.now c.loop-page-test.false, c.as_slice-page-items.ensures) at c.loop-page.invariant

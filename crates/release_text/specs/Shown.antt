-- What clauses see of pages.
use Rattle.std.specs.Arc.{arc_value}
use Rattle.release_text.specs.declared.pages.Held.{Held}
use Rattle.release_text.specs.Releases.{Page, page_of}

-- the page that is held
abbrev pub held_page : Held → Page
held_page held = page_of (arc_value held.name) held.structure held.set

use Rattle.std.proofs.Common.{◌++◌, take}
use Rattle.std.specs.List.{flat_map}
use Rattle.outside.specs.Sinks.{Extends}
use Rattle.release_text.specs.Releases.{page_text, release_line}
use Rattle.release_text.proofs.release.Release.write_to.Given as goal

abbrev pub invariant-loop-page : goal.invariant-loop-page
invariant-loop-page g l = Extends (g.K.Sink.view l.fn.out) (g.K.Sink.view l.out) l.fn.so_far l.written
    (release_line l.fn.self.number l.fn.self.prefix l.fn.self.script ++ flat_map page_text (take l.page-index l.page-items))

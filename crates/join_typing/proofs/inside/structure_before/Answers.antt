use Rattle.std.proofs.Common.{map, sym, subst}
use Rattle.join_typing.specs.Inside.{FitInside}
use Rattle.join_typing.specs.Joining.{placed}
use Rattle.join_typing.proofs.Named.{first_fits}
use Rattle.join_typing.proofs.inside.structure_before.Goals as goal

pub numbered_structure-requires : goal.numbered_structure-requires
numbered_structure-requires c = subst FitInside (sym c.as_slice-in-len1-up.ensures) (first_fits (map placed c.args.clauses.now) c.args.frame.now c.requires.fits)

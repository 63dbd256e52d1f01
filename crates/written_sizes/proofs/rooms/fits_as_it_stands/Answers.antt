use Rattle.written_sizes.proofs.RoomLemmas.{told_fits}
use Rattle.written_sizes.proofs.rooms.fits_as_it_stands.Goals as goal

pub returns : goal.returns
returns c =
    told_fits c.args.script.now c.as_slice.result.now c.as_slice-2.result.now c.is_some.result c.after_statements-room.result c.after_rulesets.result
    c.as_slice.ensures c.as_slice-2.ensures c.after_statements-room.ensures c.after_rulesets.ensures c.is_some.ensures

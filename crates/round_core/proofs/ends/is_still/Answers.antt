use Rattle.round_core.proofs.ends.is_still.Goals as goal

pub returns-then-any_ready-clause-moves : goal.returns-then-any_ready-clause-moves
returns-then-any_ready-clause-moves c = λ e still. let r = c.any_ready.ensures.some c.if-any_ready.true in still.none_ready r.0 r.1

pub returns-clause-still : goal.returns-clause-still
returns-clause-still c = λ e. record { none_out = c.any_out.ensures.0 c.if-any_out.false; none_ready = c.any_ready.ensures.none c.if-any_ready.false }

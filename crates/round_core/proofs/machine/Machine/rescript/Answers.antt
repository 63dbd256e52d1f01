use Rattle.std.proofs.Common.{◌≤◌, ◌+◌, ◌++◌, ◌∷◌, [], List, length, vec_capacity, ◌∙◌, ap, arith}
use Rattle.round_journal.specs.declared.entry.Entry.{Entry}
use Rattle.round_journal.specs.declared.entry.What.TheVariants.{Rescripted}
use Rattle.round_core.proofs.KeptLemmas.{kept_room}
use Rattle.round_core.proofs.RescriptLemmas.{kept_rescripted}
use Rattle.round_core.proofs.machine.Machine.rescript.Goals as goal

pub returns-in_err-reserve-clause-kept : goal.returns-in_err-reserve-clause-kept
returns-in_err-reserve-clause-kept c = kept_room c.args.self.now c.reserve.new.self c.reserve.ensures.items c.reserve.ensures.capacity c.requires.kept

pub returns-in_err-newest-clause-kept : goal.returns-in_err-newest-clause-kept
returns-in_err-newest-clause-kept c = kept_room c.args.self.now c.reserve.new.self c.reserve.ensures.items c.reserve.ensures.capacity c.requires.kept

pub returns-in_err-script-clause-kept : goal.returns-in_err-script-clause-kept
returns-in_err-script-clause-kept c = kept_room c.args.self.now c.reserve.new.self c.reserve.ensures.items c.reserve.ensures.capacity c.requires.kept

pub returns : goal.returns
returns c =
    let a = c.args.self.now in
    let items = c.note.ensures.items ∙ ap (λ (js : List Entry). js ++ (record { by = c.args.by; what = Rescripted c.in_ok-script.script }) ∷ []) c.reserve.ensures.items in
    let room : length a.journal.items + a.counts.aside + 1 ≤ vec_capacity c.note.new.journal = let long = ap length c.reserve.ensures.items in omega (arith, c.in_ok-reserve.ensures.ok, long, c.note.ensures.capacity) in
    let h = kept_rescripted a c.note.new.journal c.in_ok-newest.newest c.in_ok-script.script c.args.by c.args.script c.requires.kept c.requires.checked c.requires.same_inputs c.requires.fits c.in_ok-newest.ensures.ok (c.in_ok-script.ensures.cases ∙ c.in_ok-newest.ensures.ok) items room in
    record { kept = h.kept; ok = h.replaces; err = tt }

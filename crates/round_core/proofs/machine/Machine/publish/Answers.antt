use Rattle.std.proofs.Common.{◌≡◌, sym, ◌∙◌, ap, arith, subst}
use Rattle.round_core.specs.Kept.{KeptMachine, state_at}
use Rattle.std.proofs.Common.{[], ◌∷◌, ◌++◌, ◌+◌, ◌-◌, length, drop}
use Rattle.release_text.specs.declared.release.Release.{Release}
use Rattle.round_core.specs.declared.limits.TheConstants.{EARLIER_LIMIT}
use Rattle.round_core.proofs.ReleaseLemmas.{earlier_limit}
use Rattle.round_core.specs.Slots.{pages_in}
use Rattle.round_core.proofs.JudgeLemmas.{number_few}
use Rattle.round_core.proofs.EndLemmas.{Ended, room_left, kept_published, inputs_closed}
use Rattle.round_core.proofs.machine.Machine.publish.Goals as goal

pub overflow_add-number : goal.overflow_add-number
overflow_add-number c = omega (arith, number_few c.args.self.now c.requires.still.within c.requires.still.sound)

pub close-requires-2 : goal.close-requires-2
close-requires-2 c =
    let e : Ended c.args.self.now c.args.by = record { still = c.requires.still; slots = c.requires.over.0 } in
    omega (arith, room_left c.args.self.now c.args.by e, c.requires.still.within.room)

pub keep-requires-clause-few : goal.keep-requires-clause-few
keep-requires-clause-few c = earlier_limit (state_at c.args.self.now) c.args.self.now.earlier.items c.requires.still.sound.earlier

pub keep-requires-clause-room : goal.keep-requires-clause-room
keep-requires-clause-room c = c.requires.still.sound.earlier_fit

pub returns-clause-kept : goal.returns-clause-kept
returns-clause-kept c =
    let a = c.args.self.now in
    let k = c.requires.still.sound in
    let e : Ended a c.args.by = record { still = c.requires.still; slots = c.requires.over.0 } in
    let pages : c.collect_pages.new.room.items ≡ pages_in a.slots.items = c.collect_pages.ensures.pages ∙ ap (λ ps. ps ++ pages_in a.slots.items) k.pages in
    let earlier = c.keep.ensures.items ∙ ap (λ (r : Release). drop (length a.earlier.items + 1 - EARLIER_LIMIT) a.earlier.items ++ r ∷ []) c.replace-before.ensures.value in
    let after = c.replace-before.ensures.after in
    let number = ap (λ (r : Release). r.number) after ∙ ap (λ m. m + 1) k.release.number_is in
    let paged = ap (λ (r : Release). r.pages) after ∙ c.from_vec.ensures ∙ ap (λ v. v.items) c.replace-pages.ensures.value ∙ pages in
    subst KeptMachine (sym c.close-2.ensures.rest) (kept_published a c.args.by e c.requires.over.1 c.requires.over.2 c.close-2.new.self.journal c.collect_pages.new.slots c.replace-pages.new.dest c.close.new.self c.replace-before.new.dest c.keep.new.earlier c.requires.over.3 c.collect_pages.ensures.same (ap (λ v. v.items) c.replace-pages.ensures.after ∙ c.new.ensures.items) (inputs_closed a c.close.new.self k c.close.ensures.sets c.close.ensures.changes) number (ap (λ (r : Release). r.prefix) after) (ap (λ (r : Release). r.script) after) paged earlier c.keep.ensures.capacity c.close-2.ensures.items c.close-2.ensures.capacity)

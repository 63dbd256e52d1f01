use Rattle.std.proofs.Common.{ℕ, nat_eq, ap, sym, ◌∙◌}
use Rattle.indexmap.specs.IndexMap.{get}
use Rattle.clause_typing.proofs.Places.{kept_places, new_place}
use Rattle.clause_typing.proofs.parts.places_of.Goals as goal
use Rattle.clause_typing.proofs.parts.places_of.Goals.{then-not-contains_key+in_ok-insert, else-not-contains_key}

pub loop-place-preserved : goal.loop-place-preserved
loop-place-preserved c =
    let places = c.loop-place.places in
    let numbers = c.args.numbers.now in
    let i = c.loop-place.place in
    elim c.if-not-contains_key.branch [
      | then-not-contains_key+in_ok-insert w ↦ λ (n : ℕ). ap (λ m. get nat_eq m n) w.places-is ∙ new_place (get nat_eq places) numbers i c.loop-place-test.true c.loop-place.invariant (sym c.contains_key.ensures ∙ w.if-not-contains_key.true) (get nat_eq w.insert.new.self) w.in_ok-insert.ensures.updates.0 n
      | else-not-contains_key w ↦ λ (n : ℕ). ap (λ m. get nat_eq m n) w.places-is ∙ kept_places (get nat_eq places) numbers i c.loop-place-test.true c.loop-place.invariant (sym c.contains_key.ensures ∙ w.if-not-contains_key.false) n
    ]

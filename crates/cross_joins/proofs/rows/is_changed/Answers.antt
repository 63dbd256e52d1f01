use Rattle.std.proofs.Common.{◌≡◌, ℕ, ◌<◌, List, [], ◌∷◌, length, map, get_or, true, sym, ap, arith, rules}
use Rattle.std.specs.FinMap.{entries, get}
use Rattle.std.specs.Option.{is_some}
use Rattle.std.specs.declared.cmp.Ordering.TheVariants.{Equal}
use Rattle.std.proofs.lemmas.Fn.{always_returns_same}
use Rattle.std.proofs.lemmas.List.{get_or_default}
use Rattle.vtl_values.specs.declared.value.Value.{Value}
use Rattle.vtl_values.specs.Order.{key_cmp}
use Rattle.point_sets.specs.declared.delta.Change.{Change}
use Rattle.point_sets.specs.Changes.{AreChanges, Changes, change_entry}
use Rattle.point_sets.proofs.Found.{change_found, change_absent}
use Rattle.cross_joins.proofs.rows.is_changed.Goals as goal

-- where a search finds a place there is a change
found : (cs : List Change) (d : Changes) → map change_entry cs ≡ entries d → AreChanges cs → (k : List Value) (i : ℕ) → i < length cs → ((b : Change) → key_cmp (get_or cs i b).key k ≡ Equal) → is_some (get d k) ≡ true
found [] d all ordered k i within tied = absurd (omega (arith, within))
found (c ∷ cs) d all ordered k i within tied =
    let b : Change = get_or (c ∷ cs) i c in
    ap is_some (change_found (c ∷ cs) d all ordered k i b within (get_or_default (c ∷ cs) i c b within) tied)

pub returns-in-Ok : goal.returns-in-Ok
returns-in-Ok c =
    let by_key = c.in-Ok.ensures.position (λ d. key_cmp d.key c.args.key.now) (always_returns_same _ _ _ (λ a r g called. search rules)) in
    sym (found c.changes-changes.result.now c.args.news.now c.changes-changes.ensures.entries c.changes-changes.ensures.changes c.args.key.now c.in-Ok.field-0 c.in-Ok.ensures.bound by_key)

pub returns-in-Err : goal.returns-in-Err
returns-in-Err c =
    let by_key = c.in-Err.ensures.position (λ d. key_cmp d.key c.args.key.now) (always_returns_same _ _ _ (λ a r g called. search rules)) in
    let absent = change_absent c.changes-changes.result.now c.args.news.now c.changes-changes.ensures.entries c.changes-changes.ensures.changes c.args.key.now c.in-Err.field-0 by_key in
    ap is_some (sym absent)

use Rattle.std.proofs.Common.{◌≡◌, ◌≤◌, ℕ, zero, suc, None, Option, List, [], ◌∷◌, length, refl, ◌∙◌, ap, sym, arith}
use Rattle.std.specs.Prelude.{option_map, slice_get, unwrap_or}
use Rattle.std.specs.FinMap.{empty, get, get-empty}
use Rattle.std.proofs.lemmas.Option.{slice_get-map}
use Rattle.vtl_values.specs.Order.{key_cmp}
use Rattle.point_sets.specs.DataSets.{DataSet}
use Rattle.held_index.specs.Holdings.{Holding}
use Rattle.choice_ops.proofs.looks.look.Goals as goal

past : (hs : List Holding) (n : ℕ) → length hs ≤ n → slice_get hs n ≡ None
past [] n h = refl
past (x ∷ xs) zero h = absurd (omega (arith, h))
past (x ∷ xs) (suc n) h = past xs n (omega (arith, h))

-- nothing is held where there is no operand
pub returns-in-None-clause-found : goal.returns-in-None-clause-found
returns-in-None-clause-found g c = λ plain.
    let long = c.in-None.ensures.lookup.3 in
    let none : slice_get c.args.held.now c.args.number ≡ None = past c.args.held.now c.args.number (omega (arith, long)) in
    let absent = slice_get-map (λ (h : Holding). h.content) c.args.held.now c.args.number ∙ ap (option_map (λ (h : Holding). h.content)) none in
    sym (ap (λ (o : Option DataSet). get (unwrap_or o empty) c.args.at.now.key) absent ∙ get-empty key_cmp c.args.at.now.key)

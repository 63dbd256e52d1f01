-- What is seen of an outline: its outermost calls, and what stands outside them.
use Rattle.std.proofs.Common.{◌≡◌, ℕ, suc, ◌+◌, ◌-◌, List, [], ◌∷◌, map, length, refl, sym, ap, ◌∙◌, arith}
use Rattle.std.proofs.lemmas.List.Folds.{flat_map-map}
use Rattle.std.specs.Prelude.{min, sum}
use Rattle.vtl_syntax.specs.declared.operator.DefinedOperator.{DefinedOperator}
use Rattle.operator_faults.specs.declared.outline.CallSite.{CallSite}
use Rattle.operator_faults.specs.declared.outline.What.{What}
use Rattle.operator_faults.specs.declared.outline.What.TheVariants as what
use Rattle.operator_faults.specs.declared.outline.Outline.{Outline, out-Outline, fold-roll-Outline, fold_out-Outline}
use Rattle.written_sizes.specs.declared.form.Share.TheVariants as share
use Rattle.written_sizes.specs.declared.measure.Measure.TheVariants as measure
use Rattle.written_sizes.specs.Arithmetic.{limited, capped, most_levels}
use Rattle.written_sizes.specs.Sizes.{own_expressions, expressions, levels}
use Rattle.written_sizes.specs.Replaced.{same_name, opened, remade_by, remade_step, replaced}
use Rattle.written_sizes.specs.Weights.{forms, weight}
use Rattle.written_sizes.specs.Outermost.{Seen, raised, outermost_call, seen_call, seen_within, seen_by, seen_step, seen, told, outside_within, calls_within}
use Rattle.written_sizes.proofs.Capping.{limited_weight}
use Rattle.written_sizes.proofs.Folds.{level, fold_same}
use Rattle.written_sizes.proofs.SizeLemmas.{size-expressions, size-levels}
use Rattle.written_sizes.proofs.Sizing.{map-after}

-- ---- the sizes by forms

pub expressions_told : (os : List DefinedOperator) (o : Outline) → weight (limited measure.Expressions) measure.Expressions os (forms (limited measure.Expressions) measure.Expressions os (length os)) [] share.Own o ≡ capped measure.Expressions (expressions (replaced os o))
expressions_told os o = limited_weight measure.Expressions os o ∙ ap (capped measure.Expressions) (sym (size-expressions (replaced os o)))

less_one : (n : ℕ) → min (suc n) 66 - 1 ≡ min n 65
less_one n = omega arith

pub levels_told : (os : List DefinedOperator) (o : Outline) → weight (limited measure.Levels) measure.Levels os (forms (limited measure.Levels) measure.Levels os (length os)) [] share.Own o - 1 ≡ min (levels (replaced os o)) (most_levels + 1)
levels_told os o = ap (λ (n : ℕ). n - 1) (limited_weight measure.Levels os o ∙ ap (capped measure.Levels) (sym (size-levels (replaced os o)))) ∙ less_one (levels (replaced os o))

-- ---- of an outline, from its parts

pub seen-is : (os : List DefinedOperator) (o : Outline) → seen os o ≡ seen_by os (out-Outline o).what (map (seen os) (out-Outline o).parts)
seen-is os o = fold_out-Outline Seen (seen_step os) o

module _ (os : List DefinedOperator) where
  abbrev becoming : Outline → Outline
  becoming o = (seen os o).becomes

  by_what : (w : What) (xs : List Outline) → (seen_by os w (map (seen os) xs)).becomes ≡ remade_by same_name (opened os (length os)) w (map becoming xs)
  by_what (what.Name s) xs = refl
  by_what (what.Call c) xs = ap (λ (ys : List Outline). opened os (length os) c.name ys c.place) (map-after (λ (x : Seen). x.becomes) (seen os) xs)
  by_what what.Plain xs = ap (remade_by same_name (opened os (length os)) what.Plain) (map-after (λ (x : Seen). x.becomes) (seen os) xs)
  by_what what.Level xs = ap (remade_by same_name (opened os (length os)) what.Level) (map-after (λ (x : Seen). x.becomes) (seen os) xs)
  by_what what.Inside xs = ap (remade_by same_name (opened os (length os)) what.Inside) (map-after (λ (x : Seen). x.becomes) (seen os) xs)
  by_what what.InsideJoin xs = ap (remade_by same_name (opened os (length os)) what.InsideJoin) (map-after (λ (x : Seen). x.becomes) (seen os) xs)

  pub becomes-is : (o : Outline) → (seen os o).becomes ≡ replaced os o
  becomes-is o =
      fold_same Outline (remade_step same_name (opened os (length os))) becoming
      (λ w b xs. ap (λ (x : Seen). x.becomes) (fold-roll-Outline Seen (seen_step os) (level w b xs)) ∙ by_what w xs)
      o

-- ---- a call, and what is no call

pub call-seen : (os : List DefinedOperator) (o : Outline) (c : CallSite) (above : ℕ) → (out-Outline o).what ≡ what.Call c → map told ((seen os o).calls above) ≡ told (outermost_call c.place (replaced os o) above) ∷ []
call-seen os o c above is =
    let b : Outline = opened os (length os) c.name (map (λ (x : Seen). x.becomes) (map (seen os) (out-Outline o).parts)) c.place in
    let s : seen os o ≡ seen_call c.place b = seen-is os o ∙ ap (λ (w : What). seen_by os w (map (seen os) (out-Outline o).parts)) is in
    ap (λ (x : Seen). map told (x.calls above)) s
    ∙ ap (λ (x : Outline). told (outermost_call c.place x above) ∷ []) (sym (ap (λ (x : Seen). x.becomes) s) ∙ becomes-is os o)

within_seen : (os : List DefinedOperator) (o : Outline) (w : What) → (out-Outline o).what ≡ w → ((xs : List Seen) → seen_by os w xs ≡ seen_within os w xs) → seen os o ≡ seen_within os (out-Outline o).what (map (seen os) (out-Outline o).parts)
within_seen os o w is same =
    let xs = map (seen os) (out-Outline o).parts in
    seen-is os o ∙ ap (λ (v : What). seen_by os v xs) is ∙ same xs ∙ ap (λ (v : What). seen_within os v xs) (sym is)

pub within-outside : (os : List DefinedOperator) (o : Outline) (w : What) → (out-Outline o).what ≡ w → ((xs : List Seen) → seen_by os w xs ≡ seen_within os w xs) → outside_within os o ≡ (seen os o).outside
within-outside os o w is same =
    sym (ap (λ (x : Seen). x.outside) (within_seen os o w is same)
    ∙ ap (λ (ns : List ℕ). own_expressions (out-Outline o).what + sum ns) (map-after (λ (x : Seen). x.outside) (seen os) (out-Outline o).parts))

pub within-calls : (os : List DefinedOperator) (o : Outline) (w : What) (above : ℕ) → (out-Outline o).what ≡ w → ((xs : List Seen) → seen_by os w xs ≡ seen_within os w xs) → calls_within os above o ≡ (seen os o).calls above
within-calls os o w above is same =
    sym (ap (λ (x : Seen). x.calls above) (within_seen os o w is same)
    ∙ flat_map-map (λ (x : Seen). x.calls (raised above (out-Outline o).what)) (seen os) (out-Outline o).parts)

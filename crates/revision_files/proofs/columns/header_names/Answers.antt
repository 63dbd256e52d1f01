use Rattle.std.proofs.Common.{◌≡◌, ◌+◌, ◌<◌, Bool, true, false, ℕ, List, [], ◌∷◌, ◌++◌, length, get_or, take, sym, ap, ◌∙◌, refl, rules, arith}
use Rattle.std.specs.Prelude.{◌&&◌, not}
use Rattle.std.specs.Str.{chars}
use Rattle.std.proofs.lemmas.List.{length-map, take_more}
use Rattle.csv.specs.Records.{fields_of}
use Rattle.revision_files.specs.Columns.{is_among}
use Rattle.revision_files.specs.Texts.{texts_of}
use Rattle.revision_files.proofs.Headers.{header_fails, header_goes, keys-new}
use Rattle.revision_files.proofs.columns.header_names.Goals as goal

not_true : (b : Bool) → true ≡ not b → b ≡ false
not_true true is = cc
not_true false is = refl

pub returns-then-not-is_new : goal.returns-then-not-is_new
returns-then-not-is_new c =
    let texts : List (List ℕ) = texts_of c.args.header.now in
    let name : List ℕ = c.in_ok-name.name in
    let old : c.in_ok-is_new.is_new ≡ false = first_of (search rules, grind arith, cc) in
    let within : c.loop-column.column < length texts = omega (arith, length-map (fields_of c.args.header.now) chars) in
    let fails : (not (is_among (take c.loop-column.column texts) name) && is_among c.args.wanted.now.keys name) ≡ false =
    ap (λ keys. not (is_among keys name) && is_among c.args.wanted.now.keys name) (sym c.loop-column.invariant.0) ∙ ap (λ b. b && is_among c.args.wanted.now.keys name) (sym c.in_ok-is_new.ensures.added ∙ old) in
    header_fails c.args.wanted.now.keys texts c.loop-column.column name within (sym (c.in_ok-name.ensures ∙ c.text_in.ensures)) fails

pub loop-column-preserved : goal.loop-column-preserved
loop-column-preserved c =
    let texts : List (List ℕ) = texts_of c.args.header.now in
    let name : List ℕ = c.in_ok-name.name in
    let column : ℕ = c.loop-column.column in
    let wanted : c.contains.result ≡ true = first_of (search rules, grind arith, cc) in
    let new : c.in_ok-is_new.is_new ≡ true = first_of (search rules, grind arith, cc) in
    let within : column < length texts = omega (arith, length-map (fields_of c.args.header.now) chars) in
    let at : get_or texts column [] ≡ name = sym (c.in_ok-name.ensures ∙ c.text_in.ensures) in
    let absent : is_among c.loop-column.names.keys name ≡ false = not_true _ (sym new ∙ c.in_ok-is_new.ensures.added) in
    let goes : (not (is_among (take column texts) name) && is_among c.args.wanted.now.keys name) ≡ true =
    ap (λ keys. not (is_among keys name) && is_among c.args.wanted.now.keys name) (sym c.loop-column.invariant.0) ∙ (λ i. not (absent i) && (sym c.contains.ensures ∙ wanted) i) in (
      c.in_ok-is_new.ensures.keys
          ∙ (keys-new c.loop-column.names.keys name absent
          ∙ ((λ i. c.loop-column.invariant.0 i ++ sym at i ∷ []) ∙ sym (take_more texts column [] within))),
      header_goes c.args.wanted.now.keys texts column name within at goes c.loop-column.invariant.1,
    )

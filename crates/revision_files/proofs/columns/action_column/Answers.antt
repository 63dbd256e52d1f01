use Rattle.std.proofs.Common.{◌≡◌, ◌+◌, ◌<◌, true, false, List, ℕ, [], length, get_or, Some, sym, ap, subst, ◌∙◌, arith}
use Rattle.std.proofs.lemmas.Cmp.{nat_list_eq_equiv}
use Rattle.std.proofs.lemmas.List.{length-map}
use Rattle.std.specs.Str.{chars}
use Rattle.csv.specs.Records.{fields_of}
use Rattle.vtl_values.specs.Texts.{same_text}
use Rattle.revision_files.specs.Columns.{ACTION}
use Rattle.revision_files.specs.Texts.{texts_of}
use Rattle.revision_files.proofs.Actions.{IsFoundIn, ascii_action, found-again, found-first, found-other}
use Rattle.revision_files.proofs.Names.{word-chars}
use Rattle.revision_files.proofs.columns.action_column.Goals as goal
use Rattle.revision_files.proofs.columns.action_column.Goals.{then-eq+else-is_some, else-eq}

pub returns-then-is_some : goal.returns-then-is_some
returns-then-is_some c =
    let text : List ℕ = c.text_in.result.now in
    let here : same_text ACTION (get_or (texts_of c.args.header.now) c.loop-column.column []) ≡ true = ap (same_text ACTION) (sym c.text_in.ensures) ∙ (word-chars ACTION text ascii_action c.text_in.utf8 ∙ (nat_list_eq_equiv.symm ACTION text ∙ (sym c.eq.ensures ∙ c.if-eq.true))) in
    let within : c.loop-column.column < length (texts_of c.args.header.now) = omega (arith, length-map (fields_of c.args.header.now) chars) in
    found-again (same_text ACTION) (texts_of c.args.header.now) c.loop-column.column c.loop-column.found within here (sym c.is_some.ensures ∙ c.if-is_some.true) c.loop-column.invariant

pub loop-column-preserved : goal.loop-column-preserved
loop-column-preserved c =
    let text : List ℕ = c.text_in.result.now in
    let column : ℕ = c.loop-column.column in
    let tells : c.eq.result ≡ same_text ACTION (get_or (texts_of c.args.header.now) column []) = c.eq.ensures ∙ (nat_list_eq_equiv.symm text ACTION ∙ (sym (word-chars ACTION text ascii_action c.text_in.utf8) ∙ ap (same_text ACTION) c.text_in.ensures)) in
    let within : column < length (texts_of c.args.header.now) = omega (arith, length-map (fields_of c.args.header.now) chars) in
    elim c.if-eq.branch [
      | then-eq+else-is_some w ↦
          subst (IsFoundIn (same_text ACTION) (texts_of c.args.header.now) (column + 1)) (sym w.found-is)
          (found-first (same_text ACTION) (texts_of c.args.header.now) column c.loop-column.found within (sym tells ∙ w.if-eq.true) (sym w.is_some.ensures ∙ w.if-is_some.false) c.loop-column.invariant)
      | else-eq w ↦
          subst (IsFoundIn (same_text ACTION) (texts_of c.args.header.now) (column + 1)) (sym w.found-is)
          (found-other (same_text ACTION) (texts_of c.args.header.now) column c.loop-column.found within (sym tells ∙ w.if-eq.false) c.loop-column.invariant)
    ]

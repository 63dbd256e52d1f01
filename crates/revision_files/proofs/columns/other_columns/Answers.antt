use Rattle.std.proofs.Common.{◌≡◌, ◌≢◌, ◌++◌, ◌∷◌, [], true, sym, ap, ◌∙◌, rules, arith}
use Rattle.std.specs.Result.{is_ok}
use Rattle.revision_files.proofs.Names.{other-in, other-out}
use Rattle.revision_files.proofs.columns.other_columns.Goals as goal
use Rattle.revision_files.proofs.columns.other_columns.Goals.{then-other-column+in_ok-push, else-other-column}

pub loop-other-preserved : goal.loop-other-preserved
loop-other-preserved c =
    elim c.if-other-column.branch [
      | then-other-column+in_ok-push w ↦
          let good : is_ok w.push.result ≡ true = search rules in
          let other : c.loop-other.other ≢ c.args.column = w.if-other-column.true in
          ap (λ v. v.items) w.others-is ∙ ((rw good at w.push.ensures.items) ∙ (ap (λ xs. xs ++ c.loop-other.other ∷ []) c.loop-other.invariant ∙ sym (other-in c.args.column c.loop-other.other other)))
      | else-other-column w ↦ ap (λ v. v.items) w.others-is ∙ (c.loop-other.invariant ∙ sym (other-out c.args.column c.loop-other.other w.if-other-column.false))
    ]

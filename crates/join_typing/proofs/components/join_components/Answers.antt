use Rattle.std.proofs.Common.{◌≡◌, ◌≤◌, ◌++◌, length, sym, subst}
use Rattle.std.proofs.lemmas.Result.{IfOk-weaker}
use Rattle.data_set_trees.specs.clauses.Clauses.{MOST_COMPONENTS}
use Rattle.join_typing.specs.Inside.{FitInside}
use Rattle.join_typing.proofs.Fitting.{parts_fit}
use Rattle.join_typing.proofs.components.join_components.Goals as goal

pub returns-clause-fits : goal.returns-clause-fits
returns-clause-fits c =
    let ids = c.in_ok-identifiers.identifiers in
    let ms = c.in_ok-measures.measures in
    let vs = c.in_ok-virals.virals in
    IfOk-weaker c.together.result (λ all. all ≡ (ids ++ ms) ++ vs) (λ all. length all ≤ MOST_COMPONENTS → FitInside all)
    (λ all same. subst (λ q. length q ≤ MOST_COMPONENTS → FitInside q) (sym same) (parts_fit ids ms vs c.in_ok-identifiers.ensures.sound c.in_ok-measures.ensures.sound c.in_ok-virals.ensures.sound))
    c.together.ensures

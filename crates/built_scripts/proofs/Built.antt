-- Typed scripts on structures are checked.
use Rattle.std.proofs.Common.{◌≡◌, List, [], ◌∷◌, map, ◌&&◌, Option, refl, ap}
use Rattle.std.specs.List.{All, list_all}
use Rattle.std.proofs.lemmas.List.Elements.{All-nil, All-cons, All-head, All-tail}
use Rattle.vtl_values.specs.declared.structure.Component.{Component}
use Rattle.data_set_trees.specs.declared.tree.DataSetTree.{DataSetTree}
use Rattle.data_set_trees.specs.declared.checked.script.CheckedStatement.{CheckedStatement}
use Rattle.data_set_trees.specs.checked.Operators.{IsTyped, TakesOperands}
use Rattle.data_set_trees.specs.checked.Expressions.{Expression, Expressions, Named, Applied, none, more, expression_of, expressions}
use Rattle.data_set_trees.specs.checked.Scripts.{FitsStatement, IsChecked, IsTypedScript, Script, structure_of_source}
use Rattle.data_set_trees.specs.checked.Typing.{Fits, AllFit}
use Rattle.built_scripts.specs.Built.{each_all_built, is_tree_built, AreStructured, EachStructured, IsStatementStructured, IsTreeStructured}

-- ---- operands

pub each-built : (trees : List DataSetTree) → each_all_built (expressions (map expression_of trees)) ≡ list_all is_tree_built trees
each-built [] = refl
each-built (t ∷ ts) = ap (λ b. is_tree_built t && b) (each-built ts)

pub each-structured : (trees : List DataSetTree) → All IsTreeStructured trees → EachStructured (expressions (map expression_of trees))
each-structured [] h = tt
each-structured (t ∷ ts) h = (All-head IsTreeStructured t ts h, each-structured ts (All-tail IsTreeStructured t ts h))

-- ---- expressions and scripts

module _ {N : Type 0} (structures : N → Option (List Component)) where
  mutual
    structured-fits : (e : Expression N) (s : List Component) → Fits TakesOperands structures e s → AreStructured e → Fits IsTyped structures e s
    structured-fits (Named n) s fits structured = fits
    structured-fits (Applied o place es) s fits structured =
        (fits.0, record { structures = structured.0; result = structured.1; takes = fits.1 }, each-structured-fits es o.operands fits.2 structured.2)

    each-structured-fits : (es : Expressions N) (ss : List (List Component)) → AllFit TakesOperands structures es ss → EachStructured es → AllFit IsTyped structures es ss
    each-structured-fits none [] fits structured = tt
    each-structured-fits none (s ∷ ss) fits structured = absurd fits
    each-structured-fits (more e es) [] fits structured = absurd fits
    each-structured-fits (more e es) (s ∷ ss) fits structured = (structured-fits e s fits.0 structured.0, each-structured-fits es ss fits.1 structured.1)

statements-fit : (s : Script) (statements : List CheckedStatement) → All (FitsStatement TakesOperands s) statements → All IsStatementStructured statements → All (FitsStatement IsTyped s) statements
statements-fit s [] fits structured = All-nil (FitsStatement IsTyped s)
statements-fit s (st ∷ sts) fits structured =
    All-cons (FitsStatement IsTyped s) st sts
    (structured-fits (structure_of_source s) (expression_of st.tree) st.structure (All-head (FitsStatement TakesOperands s) st sts fits) (All-head IsStatementStructured st sts structured))
    (statements-fit s sts (All-tail (FitsStatement TakesOperands s) st sts fits) (All-tail IsStatementStructured st sts structured))

-- a typed script whose operands and results have structures is checked
pub checked : (s : Script) → IsTypedScript s → All IsStatementStructured s.statements → IsChecked s
checked s typed structured = record { few = typed.few; typed = statements-fit s s.statements typed.typed structured; ordered = typed.ordered }

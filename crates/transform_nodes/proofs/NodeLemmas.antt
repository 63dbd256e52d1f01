-- Nodes that stand for the same inputs.
use Rattle.std.proofs.Common.{◌≡◌, ℕ, suc, List, [], ◌∷◌, length, Option, refl, sym, ◌∙◌, ap, subst, arith, slice_get}
use Rattle.std.specs.Option.{IsSomeAnd}
use Rattle.data_set_trees.specs.declared.tree.Source.{Source as SourceName}
use Rattle.data_set_trees.specs.checked.Scripts.{Script, sources_of, uses_of}
use Rattle.operator_meaning.specs.Scripts.{states}
use Rattle.point_sets.specs.DataSets.{DataSet}
use Rattle.held_index.specs.Holdings.{Holding}
use Rattle.release_text.specs.Releases.{Page}
use Rattle.transform_nodes.specs.Trees.{Plain, Plains, Source, Operates, none, more, plain, count_of, applied, all_applied, forgotten, all_forgotten, IsFit, AllFit, HasPatches, AllHavePatches, StandsOn}
use Rattle.transform_nodes.specs.Nodes.{HasSameParts, IsNodeOf, CanSettle, settled_tree, settled_pages, WorksOut, StandsAs, numbered}
use Rattle.transform_nodes.specs.declared.node.Node.{Node}
use Rattle.transform_nodes.specs.declared.work.Settle.{Settle}
use Rattle.transform_nodes.specs.declared.work.Settle.TheVariants.{Apply, Forget}

pub count-applied : (ps : Plains) → count_of (all_applied ps) ≡ count_of ps
count-applied none = refl
count-applied (more p ps) = ap suc (count-applied ps)

pub count-forgotten : (ps : Plains) → count_of (all_forgotten ps) ≡ count_of ps
count-forgotten none = refl
count-forgotten (more p ps) = ap suc (count-forgotten ps)

mutual
  applied-fit : (n : ℕ) (p : Plain) → HasPatches p → IsFit n p → IsFit n (applied p)
  applied-fit n (Source k) h f = f
  applied-fit n (Operates rule place ps held points pending pp) h f = (all_applied-fit n ps h.0 f.0, count-applied ps ∙ f.1, h.1 ∙ f.2, h.2)

  all_applied-fit : (n : ℕ) (ps : Plains) → AllHavePatches ps → AllFit n ps → AllFit n (all_applied ps)
  all_applied-fit n none h f = tt
  all_applied-fit n (more p ps) h f = (applied-fit n p h.0 f.0, all_applied-fit n ps h.1 f.1)

mutual
  forgotten-fit : (n : ℕ) (p : Plain) → IsFit n p → IsFit n (forgotten p)
  forgotten-fit n (Source k) f = f
  forgotten-fit n (Operates rule place ps held points pending pp) f = (all_forgotten-fit n ps f.0, count-forgotten ps ∙ f.1, f.2, f.3)

  all_forgotten-fit : (n : ℕ) (ps : Plains) → AllFit n ps → AllFit n (all_forgotten ps)
  all_forgotten-fit n none f = tt
  all_forgotten-fit n (more p ps) f = (forgotten-fit n p f.0, all_forgotten-fit n ps f.1)

mutual
  fit-forgotten : (n : ℕ) (p : Plain) → IsFit n (forgotten p) → IsFit n p
  fit-forgotten n (Source k) f = f
  fit-forgotten n (Operates rule place ps held points pending pp) f = (all_fit-forgotten n ps f.0, sym (count-forgotten ps) ∙ f.1, f.2, f.3)

  all_fit-forgotten : (n : ℕ) (ps : Plains) → AllFit n (all_forgotten ps) → AllFit n ps
  all_fit-forgotten n none f = tt
  all_fit-forgotten n (more p ps) f = (fit-forgotten n p f.0, all_fit-forgotten n ps f.1)

-- a fit tree is fit when it is settled
pub settled-fit : (settle : Settle) (n : ℕ) (p : Plain) → CanSettle settle p → IsFit n p → IsFit n (settled_tree settle p)
settled-fit Apply n p h f = applied-fit n p h f
settled-fit Forget n p h f = forgotten-fit n p f

-- that a tree is fit does not depend on what is pending
pub fit-kept : (n : ℕ) (p q : Plain) → forgotten q ≡ forgotten p → IsFit n p → IsFit n q
fit-kept n p q e f = fit-forgotten n q (subst (λ (t : Plain). IsFit n t) (sym e) (forgotten-fit n p f))

mutual
  forgotten-applied : (p : Plain) → forgotten (applied p) ≡ applied p
  forgotten-applied (Source n) = refl
  forgotten-applied (Operates rule place ps held points pending pp) = ap (λ (t : Plains). Operates rule place t pending pp [] 0) (all_forgotten-applied ps)

  all_forgotten-applied : (ps : Plains) → all_forgotten (all_applied ps) ≡ all_applied ps
  all_forgotten-applied none = refl
  all_forgotten-applied (more p ps) = let a = forgotten-applied p in let b = all_forgotten-applied ps in (λ i. more (a i) (b i))

mutual
  forgotten-forgotten : (p : Plain) → forgotten (forgotten p) ≡ forgotten p
  forgotten-forgotten (Source n) = refl
  forgotten-forgotten (Operates rule place ps held points pending pp) = ap (λ (t : Plains). Operates rule place t held points [] 0) (all_forgotten-forgotten ps)

  all_forgotten-forgotten : (ps : Plains) → all_forgotten (all_forgotten ps) ≡ all_forgotten ps
  all_forgotten-forgotten none = refl
  all_forgotten-forgotten (more p ps) = let a = forgotten-forgotten p in let b = all_forgotten-forgotten ps in (λ i. more (a i) (b i))

-- a settled tree has nothing pending
pub forgotten-settled : (settle : Settle) (p : Plain) → forgotten (settled_tree settle p) ≡ settled_tree settle p
forgotten-settled Apply p = forgotten-applied p
forgotten-settled Forget p = forgotten-forgotten p

module _ (s : Script) (a b : Node) (same : HasSameParts a b) where
  pub node_of-along : IsFit (length b.sources) (plain b.tree) → IsNodeOf s a → IsNodeOf s b
  node_of-along fit h = record {
    sources = same.sources ∙ h.sources ∙ ap (sources_of s) (sym same.statement);
    uses = same.uses ∙ h.uses ∙ ap (uses_of s) (sym same.statement);
    fit = fit;
  }

  -- a node that comes, when it is settled, to what another one comes to stands for the same inputs
  pub stands-along : (xs : List DataSet) (settle settle' : Settle) → IsFit (length b.sources) (plain b.tree) → CanSettle settle' (plain b.tree) → settled_tree settle' (plain b.tree) ≡ settled_tree settle (plain a.tree) → settled_pages settle' b ≡ settled_pages settle a
      → StandsAs s xs settle a → StandsAs s xs settle' b
  stands-along xs settle settle' fit ready tree pages h = record {
    shape = node_of-along fit h.shape;
    ready = ready;
    has = h.has;
    state = ap (states s xs) same.statement ∙ h.state;
    works_out = subst (λ (n : ℕ). IsSomeAnd (slice_get s.statements n) (λ statement. WorksOut statement b.sources (settled_tree settle' (plain b.tree)) h.has.set (settled_pages settle' b))) (sym same.statement)
        (subst (λ (ns : List SourceName). IsSomeAnd (slice_get s.statements a.statement) (λ statement. WorksOut statement ns (settled_tree settle' (plain b.tree)) h.has.set (settled_pages settle' b))) (sym same.sources)
        (subst (λ (t : Plain). IsSomeAnd (slice_get s.statements a.statement) (λ statement. WorksOut statement a.sources t h.has.set (settled_pages settle' b))) (sym tree)
        (subst (λ (p : Option Page). IsSomeAnd (slice_get s.statements a.statement) (λ statement. WorksOut statement a.sources (settled_tree settle (plain a.tree)) h.has.set p)) (sym pages) h.works_out)));
    holds = subst (λ (t : Plain). StandsOn t (numbered s xs b.sources)) (sym tree) (subst (λ (ns : List SourceName). StandsOn (settled_tree settle (plain a.tree)) (numbered s xs ns)) (sym same.sources) h.holds);
  }

-- a node that was settled
pub stands-settled : (s : Script) (a b : Node) (xs : List DataSet) (settle : Settle) → HasSameParts a b → plain b.tree ≡ settled_tree settle (plain a.tree) → b.pages ≡ settled_pages settle a → StandsAs s xs settle a → StandsAs s xs Forget b
stands-settled s a b xs settle same tree pages h =
    let fit = subst (λ (t : Plain). IsFit (length b.sources) t) (sym tree) (settled-fit settle (length b.sources) (plain a.tree) h.ready (subst (λ (ns : List SourceName). IsFit (length ns) (plain a.tree)) (sym same.sources) h.shape.fit)) in
    stands-along s a b same xs settle Forget fit tt (ap forgotten tree ∙ forgotten-settled settle (plain a.tree)) pages h

-- Trees that have calls of some names alone.
use Rattle.std.proofs.Common.{◌≡◌, ℕ, Bool, true, false, ◌&&◌, if◌then◌else◌, List, [], ◌∷◌, ◌++◌, map, refl, sym, ap, ◌∙◌, subst}
use Rattle.std.specs.List.{flat_map}
use Rattle.std.specs.Option.{option_to_list}
use Rattle.vtl_values.specs.declared.place.Place.{Place}
use Rattle.vtl_syntax.specs.declared.expr.Expr.{Expr}
use Rattle.vtl_syntax.specs.declared.expr.Expr.TheVariants as tree
use Rattle.operator_faults.specs.declared.outline.CallSite.{CallSite}
use Rattle.operator_faults.specs.declared.outline.What.{What}
use Rattle.operator_faults.specs.declared.outline.What.TheVariants as what
use Rattle.operator_faults.specs.declared.outline.Outline.{Outline, roll-Outline, fold-roll-Outline, ind-Outline}
use Rattle.operator_faults.specs.declared.outline.Outline.TheOpen.{Outline-F}
use Rattle.operator_faults.specs.Calls.{own_call, sites, sites_step}
use Rattle.operator_faults.specs.Outlines.{outlined}
use Rattle.shortest_cycles.proofs.CycleLemmas.{apart}
use Rattle.tree_copies.specs.Made.{Names, Calls, made, same_name, same_call}
use Rattle.tree_copies.proofs.Fused.{fused, stays}
use Rattle.replaced_calls.proofs.Alike.{all_true, what_fits, fits_step, fits, made_alike}
use Rattle.replaced_calls.proofs.Written.{makes-name, makes-call, makes-count}

-- ---- all calls of a list are of some names

abbrev pub AllSites : (List ℕ → Bool) → List CallSite → Type 0
AllSites c [] = Unit {0}
AllSites c (s ∷ ss) = (c s.name ≡ true) × AllSites c ss

both_sites : (c : List ℕ → Bool) (ss ts : List CallSite) → AllSites c (ss ++ ts) → AllSites c ss × AllSites c ts
both_sites c [] ts h = (tt, h)
both_sites c (s ∷ ss) ts h = let r = both_sites c ss ts h.1 in ((h.0, r.0), r.1)

abbrev pub any_name : List ℕ → Bool
any_name w = true

module _ (c : List ℕ → Bool) where
  abbrev Fits : Outline → Type 0
  Fits o = AllSites c (sites o) → fits any_name c o ≡ true

  abbrev first_outline : (o : Outline) × Fits o → Outline
  first_outline s = s.0

  and-true : (a b : Bool) → a ≡ true → b ≡ true → (a && b) ≡ true
  and-true true b x y = y
  and-true false b x y = apart false x refl

  own_fits : (w : What) → AllSites c (option_to_list (own_call w)) → what_fits any_name c w ≡ true
  own_fits (what.Name s) h = refl
  own_fits (what.Call s) h = h.0
  own_fits what.Plain h = refl
  own_fits what.Level h = refl
  own_fits what.Inside h = refl
  own_fits what.InsideJoin h = refl

  each_part : (ys : List ((o : Outline) × Fits o)) → AllSites c (flat_map (λ (ss : List CallSite). ss) (map sites (map first_outline ys))) → all_true (map (fits any_name c) (map first_outline ys)) ≡ true
  each_part [] h = refl
  each_part (y ∷ ys) h =
      let r = both_sites c (sites y.0) (flat_map (λ (ss : List CallSite). ss) (map sites (map first_outline ys))) h in
      and-true (fits any_name c y.0) (all_true (map (fits any_name c) (map first_outline ys))) (y.1 r.0) (each_part ys r.1)

  rolled_fits : (y : Outline-F ((o : Outline) × Fits o)) → Fits (roll-Outline (record { what = y.what; named = y.named; parts = map first_outline y.parts }))
  rolled_fits y h =
      let z : Outline-F Outline = record { what = y.what; named = y.named; parts = map first_outline y.parts } in
      let r = both_sites c (option_to_list (own_call y.what)) (flat_map (λ (ss : List CallSite). ss) (map sites (map first_outline y.parts))) (subst (AllSites c) (fold-roll-Outline (List CallSite) sites_step z) h) in
      fold-roll-Outline Bool (fits_step any_name c) z ∙ and-true (what_fits any_name c y.what) (all_true (map (fits any_name c) (map first_outline y.parts))) (own_fits y.what r.0) (each_part y.parts r.1)

  pub sites_fit : (o : Outline) → Fits o
  sites_fit o = ind-Outline Fits (λ x y is. subst (λ (z : Outline-F Outline). Fits (roll-Outline z)) is (rolled_fits y)) o

-- ---- calls of other names are left out

-- what stands for a call that is left out
abbrev pub left_out : Place → Expr
left_out p = tree.CountAll p

abbrev pub only : (List ℕ → Bool) → Calls
only c w as' p = if c w then tree.CallOf w as' p else left_out p

-- a tree that has calls of these names alone
abbrev pub HasOnly : (List ℕ → Bool) → Expr → Type 0
HasOnly c e = made same_name (only c) e ≡ e

only-same : (c : List ℕ → Bool) (w : List ℕ) (as' : List Expr) (p : Place) → c w ≡ true → only c w as' p ≡ same_call w as' p
only-same c w as' p h = ap (λ (b : Bool). if b then tree.CallOf w as' p else left_out p) h

pub has_only : (c : List ℕ → Bool) (e : Expr) → AllSites c (sites (outlined e)) → HasOnly c e
has_only c e h = made_alike any_name c same_name same_name (only c) same_call (λ w p t. refl) (only-same c) e (sites_fit c (outlined e) h) ∙ stays e

-- a call of these names, or what is made of one that is left out
abbrev pub only_made : (List ℕ → Bool) → Names → Calls → Calls
only_made c name call w as' p = if c w then call w as' p else made name call (left_out p)

kept : (name : Names) (call : Calls) (b : Bool) (w : List ℕ) (as' : List Expr) (p : Place) → made name call (if b then tree.CallOf w as' p else left_out p) ≡ (if b then call w (map (made name call) as') p else made name call (left_out p))
kept name call true w as' p = makes-call name call w as' p
kept name call false w as' p = refl

pub only-made : (c : List ℕ → Bool) (name : Names) (call : Calls) (e : Expr) → HasOnly c e → made name call e ≡ made name (only_made c name call) e
only-made c name call e h = sym (ap (made name call) h) ∙ fused name same_name name call (only c) (only_made c name call) (makes-name name call) (λ w as' p. kept name call (c w) w as' p) e

pub leaves_out : (name : Names) (call : Calls) (p : Place) → made name call (left_out p) ≡ left_out p
leaves_out name call p = makes-count name call p

same_pick : (c : List ℕ → Bool) (name : Names) (call call' : Calls) → ((w : List ℕ) (as' : List Expr) (p : Place) → c w ≡ true → call w as' p ≡ call' w as' p)
    → (w : List ℕ) (as' : List Expr) (p : Place) (b : Bool) → c w ≡ b → (if b then call w as' p else made name call (left_out p)) ≡ (if b then call' w as' p else made name call' (left_out p))
same_pick c name call call' same w as' p true h = same w as' p h
same_pick c name call call' same w as' p false h = leaves_out name call p ∙ sym (leaves_out name call' p)

-- what calls of other names become tells nothing
pub alike_only : (c : List ℕ → Bool) (name : Names) (call call' : Calls) → ((w : List ℕ) (as' : List Expr) (p : Place) → c w ≡ true → call w as' p ≡ call' w as' p) → (e : Expr) → HasOnly c e → made name call e ≡ made name call' e
alike_only c name call call' same e h =
    let alike : only_made c name call ≡ only_made c name call' = λ i w as' p. same_pick c name call call' same w as' p (c w) refl i in
    only-made c name call e h ∙ ap (λ (k : Calls). made name k e) alike ∙ sym (only-made c name call' e h)

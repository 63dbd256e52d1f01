-- What is found in a list of parts, and in an outline.
use Rattle.std.proofs.Common.{◌≡◌, ℕ, ◌+◌, ◌<◌, Bool, true, false, if◌then◌else◌, List, [], ◌∷◌, ◌++◌, Some, Ok, Err, length, map, drop, get_or, refl, sym, ap, ◌∙◌, cond}
use Rattle.std.specs.Prelude.{find, fold, Result, OnOk}
use Rattle.std.specs.Option.{option_to_list}
use Rattle.std.specs.declared.alloc.AllocError.{AllocError}
use Rattle.std.proofs.lemmas.List.Folds.{flat_map-map}
use Rattle.std.specs.List.{flat_map}
use Rattle.std.proofs.lemmas.List.{at_drop_more}
use Rattle.vtl_syntax.specs.declared.operator.DefinedOperator.{DefinedOperator}
use Rattle.operator_faults.specs.declared.outline.Site.{Site}
use Rattle.operator_faults.specs.declared.outline.CallSite.{CallSite}
use Rattle.operator_faults.specs.declared.outline.Outline.{Outline, out-Outline, fold_out-Outline}
use Rattle.shortest_cycles.specs.Firsts.{or_else}
use Rattle.operator_faults.specs.Calls.{own_call, sites, sites_step, all_sites}
use Rattle.operator_faults.specs.Bodies.{own_name, is_inside, data_parts, data_names, data_names_step}
use Rattle.operator_faults.specs.Recursions.{put_site, put_sites, put_call}

pub find-append : {A : Type 0} (p : A → Bool) (xs ys : List A) → find p (xs ++ ys) ≡ or_else (find p xs) (find p ys)
find-append p [] ys = refl
find-append p (x ∷ xs) ys = elim (p x) as (λ b. cond b (Some x) (find p (xs ++ ys)) ≡ or_else (cond b (Some x) (find p xs)) (find p ys)) [ true ↦ refl | false ↦ find-append p xs ys ]

-- in what is left, one part first
pub find-drop : {A B : Type 0} (p : B → Bool) (f : A → List B) (xs : List A) (i : ℕ) (x : A) → i < length xs → find p (flat_map f (drop i xs)) ≡ or_else (find p (f (get_or xs i x))) (find p (flat_map f (drop (i + 1) xs)))
find-drop p f xs i x within = at_drop_more (λ ys. find p (flat_map f ys)) xs i x within ∙ find-append p (f (get_or xs i x)) (flat_map f (drop (i + 1) xs))

-- ---- of an outline, its own and then those of its parts

pub sites-is : (o : Outline) → sites o ≡ option_to_list (own_call (out-Outline o).what) ++ all_sites (out-Outline o).parts
sites-is o = fold_out-Outline (List CallSite) sites_step o ∙ ap (λ (cs : List CallSite). option_to_list (own_call (out-Outline o).what) ++ cs) (flat_map-map (λ (cs : List CallSite). cs) sites (out-Outline o).parts)

pub find-sites : (p : CallSite → Bool) (o : Outline) → find p (sites o) ≡ or_else (find p (option_to_list (own_call (out-Outline o).what))) (find p (all_sites (out-Outline o).parts))
find-sites p o = ap (find p) (sites-is o) ∙ find-append p (option_to_list (own_call (out-Outline o).what)) (all_sites (out-Outline o).parts)

names_in : (b : Bool) (os : List Outline) → (if b then [] else flat_map (λ (ss : List Site). ss) (map data_names os)) ≡ flat_map data_names (if b then [] else os)
names_in true os = refl
names_in false os = flat_map-map (λ (ss : List Site). ss) data_names os

pub data_names-is : (o : Outline) → data_names o ≡ option_to_list (own_name (out-Outline o).what) ++ flat_map data_names (data_parts o)
data_names-is o = fold_out-Outline (List Site) data_names_step o ∙ ap (λ (ss : List Site). option_to_list (own_name (out-Outline o).what) ++ ss) (names_in (is_inside (out-Outline o).what) (out-Outline o).parts)

pub find-data_names : (p : Site → Bool) (o : Outline) → find p (data_names o) ≡ or_else (find p (option_to_list (own_name (out-Outline o).what))) (find p (flat_map data_names (data_parts o)))
find-data_names p o = ap (find p) (data_names-is o) ∙ find-append p (option_to_list (own_name (out-Outline o).what)) (flat_map data_names (data_parts o))

-- ---- numbers of operators, put one after the other

fold-append : {A B : Type 0} (f : B → A → B) (b : B) (xs ys : List A) → fold f b (xs ++ ys) ≡ fold f (fold f b xs) ys
fold-append f b [] ys = refl
fold-append f b (x ∷ xs) ys = fold-append f (f b x) xs ys

pub put_next : (r : Result (Unit {0}) AllocError) (operators : List DefinedOperator) (a m z : List ℕ) (o : Outline) → m ≡ put_call operators a (out-Outline o).what → OnOk r (z ≡ put_sites operators m (all_sites (out-Outline o).parts)) → OnOk r (z ≡ put_sites operators a (sites o))
put_next (Ok u) operators a m z o e p =
    p ∙ ap (λ (k : List ℕ). put_sites operators k (all_sites (out-Outline o).parts)) e
    ∙ sym (ap (put_sites operators a) (sites-is o) ∙ fold-append (put_site operators) a (option_to_list (own_call (out-Outline o).what)) (all_sites (out-Outline o).parts))
put_next (Err f) operators a m z o e p = tt

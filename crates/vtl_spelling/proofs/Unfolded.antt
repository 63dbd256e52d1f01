-- What spells the trees whose parts may be left out or are many.
use Rattle.std.proofs.Common.{◌≡◌, ℕ, ◌+◌, Bool, true, false, if◌then◌else◌, [], ◌∷◌, ◌++◌, List, Option, Ok, Err, take, refl, sym, ap, ◌∙◌, append_assoc}
use Rattle.std.proofs.Math.Path.{ap₂}
use Rattle.std.specs.Prelude.{option_map, Result, OnOk}
use Rattle.std.specs.declared.alloc.AllocError.{AllocError}
use Rattle.std.specs.List.{flat_map}
use Rattle.std.proofs.lemmas.List.Folds.{flat_map-map}
use Rattle.std.proofs.lemmas.Grind.{flat_map-append}
use Rattle.std.proofs.lemmas.List.{append-nil}
use Rattle.vtl_values.specs.declared.place.Place.{Place}
use Rattle.vtl_syntax.specs.declared.expr.Expr.{Expr}
use Rattle.vtl_syntax.specs.declared.expr.Expr.TheVariants as tree
use Rattle.vtl_syntax.specs.declared.expr.Clause.{Clause}
use Rattle.vtl_syntax.specs.declared.expr.Clause.TheVariants as clause_tree
use Rattle.vtl_syntax.specs.declared.expr.Groups.{Groups}
use Rattle.vtl_syntax.specs.declared.expr.Item.{Item}
use Rattle.vtl_syntax.specs.declared.expr.SubstrRange.{SubstrRange}
use Rattle.vtl_tokens.specs.declared.keyword.Keyword.TheVariants as words
use Rattle.vtl_syntax.specs.declared.words.SetFunction.{SetFunction}
use Rattle.vtl_syntax.specs.declared.expr.JoinOperand.{JoinOperand}
use Rattle.vtl_syntax.specs.declared.words.JoinFunction.{JoinFunction}
use Rattle.vtl_spelling.specs.Kinds.{Kinds, ◌&◌, one, key, comma, commas, open_paren, close_paren, optional, name}
use Rattle.vtl_spelling.specs.Words.{join_kind, set_kind}
use Rattle.vtl_spelling.specs.Trees.{spelled, clause_spelled, groups_spelled, item_spelled, operand_spelled, range_spelled}
use Rattle.vtl_spelling.proofs.Folds.{folded-Substr, folded-Replace, folded-Sets, folded-Join, folded-CallOf, clause_folded-Calc, clause_folded-Aggr}
use Rattle.vtl_spelling.proofs.Told.{next}
use Rattle.vtl_spelling.proofs.ClausesTold.{spelling, optional-map, separated-map}

clause_there : (x : Option Clause) → optional (λ (ks : Kinds). ks) (option_map clause_spelled x) ≡ optional clause_spelled x
clause_there x = optional-map (λ (ks : Kinds). ks) clause_spelled x

pub join-spelled : (f : JoinFunction) (a b : JoinOperand) (cs : List JoinOperand) (u v w x : Option Clause) (p : Place) → spelled (tree.Join f a b cs u v w x p) ≡ one (join_kind f) & open_paren & operand_spelled a & comma & operand_spelled b & flat_map (λ o. comma & operand_spelled o) cs & optional clause_spelled u & optional clause_spelled v & optional clause_spelled w & optional clause_spelled x & close_paren
join-spelled f a b cs u v w x p =
    folded-Join spelling f a b cs u v w x p
    ∙ ap (λ (ks : Kinds). one (join_kind f) & open_paren & operand_spelled a & comma & operand_spelled b & ks)
    (next (flat_map-map (λ (ks : Kinds). comma & ks) operand_spelled cs) (next (clause_there u) (next (clause_there v) (next (clause_there w) (next (clause_there x) refl)))))

-- ---- what is put behind

-- what is there, and more behind it
pub behind : (r : Result (Unit {0}) AllocError) (a b z x y : Kinds) → b ≡ a ++ x → OnOk r (z ≡ b ++ y) → OnOk r (z ≡ a ++ (x ++ y))
behind (Ok u) a b z x y e p = p ∙ ap (λ (k : Kinds). k ++ y) e ∙ append_assoc a x y
behind (Err f) a b z x y e p = tt

-- the same for two at once
pub behind_both : (r : Result (Unit {0}) AllocError) (a b z x y w : Kinds) → b ≡ (a ++ x) ++ y → OnOk r (z ≡ b ++ w) → OnOk r (z ≡ a ++ (x ++ (y ++ w)))
behind_both r a b z x y w e p = behind r a (a ++ x) z x (y ++ w) refl (behind r (a ++ x) b z y w e p)

-- the last of it, where all together is what is spelled
pub last : (r : Result (Unit {0}) AllocError) (a z w y : Kinds) → w ≡ y → OnOk r (z ≡ a ++ y) → OnOk r (z ≡ a ++ w)
last (Ok u) a z w y e p = p ∙ ap (λ (k : Kinds). a ++ k) (sym e)
last (Err f) a z w y e p = tt

-- ---- trees whose parts may be left out

pub substr-spelled : (a : Expr) (r : Option SubstrRange) (p : Place) → spelled (tree.Substr a r p) ≡ key words.Substr & open_paren & spelled a & optional range_spelled r & close_paren
substr-spelled a r p = folded-Substr spelling a r p ∙ ap (λ (ks : Kinds). key words.Substr & open_paren & spelled a & ks & close_paren) (optional-map (λ (ks : Kinds). ks) range_spelled r)

pub replace-spelled : (a b : Expr) (c : Option Expr) (p : Place) → spelled (tree.Replace a b c p) ≡ key words.Replace & open_paren & spelled a & comma & spelled b & optional (λ e. comma & spelled e) c & close_paren
replace-spelled a b c p = folded-Replace spelling a b c p ∙ ap (λ (ks : Kinds). key words.Replace & open_paren & spelled a & comma & spelled b & ks & close_paren) (optional-map (λ (ks : Kinds). comma & ks) spelled c)

pub sets-spelled : (f : SetFunction) (a b : Expr) (cs : List Expr) (p : Place) → spelled (tree.Sets f a b cs p) ≡ one (set_kind f) & open_paren & spelled a & comma & spelled b & flat_map (λ e. comma & spelled e) cs & close_paren
sets-spelled f a b cs p = folded-Sets spelling f a b cs p ∙ ap (λ (ks : Kinds). one (set_kind f) & open_paren & spelled a & comma & spelled b & ks & close_paren) (flat_map-map (λ (ks : Kinds). comma & ks) spelled cs)

pub call_of-spelled : (w : List ℕ) (xs : List Expr) (p : Place) → spelled (tree.CallOf w xs p) ≡ name w & open_paren & commas spelled xs & close_paren
call_of-spelled w xs p = folded-CallOf spelling w xs p ∙ ap (λ (ks : Kinds). name w & open_paren & ks & close_paren) (separated-map comma (λ (ks : Kinds). ks) spelled xs)

pub calc-spelled : (is : List Item) (p : Place) → clause_spelled (clause_tree.Calc is p) ≡ key words.Calc & commas item_spelled is
calc-spelled is p = clause_folded-Calc spelling is p ∙ ap (λ (ks : Kinds). key words.Calc & ks) (separated-map comma (λ (ks : Kinds). ks) item_spelled is)

pub aggr-spelled : (is : List Item) (g : Option Groups) (p : Place) → clause_spelled (clause_tree.Aggr is g p) ≡ key words.Aggr & commas item_spelled is & optional groups_spelled g
aggr-spelled is g p = clause_folded-Aggr spelling is g p ∙ ap (λ (ks : Kinds). key words.Aggr & ks) (next (separated-map comma (λ (ks : Kinds). ks) item_spelled is) (optional-map (λ (ks : Kinds). ks) groups_spelled g))

-- ---- a list of items, one more

abbrev pub has_some : {A : Type 0} → List A → Bool
has_some [] = false
has_some (x ∷ xs) = true

-- a comma, where something stands before
abbrev gap : Bool → Kinds
gap b = if b then comma else []

has_some-more : {A : Type 0} (xs : List A) (x : A) → true ≡ has_some (xs ++ x ∷ [])
has_some-more [] x = refl
has_some-more (y ∷ xs) x = refl

pub some-more : {A : Type 0} (items : List A) (k : ℕ) (x : A) → take (k + 1) items ≡ take k items ++ x ∷ [] → true ≡ has_some (take (k + 1) items)
some-more {A} items k x more = has_some-more (take k items) x ∙ ap (λ (ys : List A). has_some ys) (sym more)

commas-more : {A : Type 0} (spell : A → Kinds) (xs : List A) (x : A) → commas spell (xs ++ x ∷ []) ≡ commas spell xs ++ (gap (has_some xs) ++ spell x)
commas-more spell [] x = append-nil (spell x)
commas-more spell (y ∷ ys) x =
    ap (λ (ks : Kinds). spell y & ks) (flat_map-append (λ i. comma & spell i) ys (x ∷ []) ∙ ap (λ (ks : Kinds). flat_map (λ i. comma & spell i) ys ++ ks) (append-nil (comma & spell x)))
    ∙ sym (append_assoc (spell y) (flat_map (λ i. comma & spell i) ys) (comma & spell x))

pub items-more : {A : Type 0} (spell : A → Kinds) (items : List A) (k : ℕ) (x : A) (b : Bool) (i o m z : Kinds) → take (k + 1) items ≡ take k items ++ x ∷ [] → o ≡ i ++ commas spell (take k items) → b ≡ has_some (take k items) → m ≡ o ++ (if b then comma else []) → z ≡ m ++ spell x → z ≡ i ++ commas spell (take (k + 1) items)
items-more {A} spell items k x b i o m z more before some gapped put =
    put ∙ ap (λ (ks : Kinds). ks ++ spell x) (gapped ∙ ap₂ (λ (ks : Kinds) (c : Bool). ks ++ gap c) before some)
    ∙ append_assoc (i ++ commas spell (take k items)) (gap (has_some (take k items))) (spell x)
    ∙ append_assoc i (commas spell (take k items)) (gap (has_some (take k items)) ++ spell x)
    ∙ ap (λ (ks : Kinds). i ++ ks) (sym (commas-more spell (take k items) x) ∙ ap (λ (ys : List A). commas spell ys) (sym more))

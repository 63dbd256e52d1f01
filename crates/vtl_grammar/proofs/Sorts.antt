-- Sorts of tokens.
use Rattle.std.proofs.Common.{◌≡◌, ℕ, ◌+◌, List, [], ◌∷◌, ◌++◌, Bool, true, false, cond, ◌⊎◌, inl, inr, refl, ap, arith}
use Rattle.std.proofs.lemmas.Bool.{eqb-true, eq-eqb}
use Rattle.std.specs.Prelude.{nat_eq}
use Rattle.vtl_tokens.specs.declared.token.TokenKind.{TokenKind}
use Rattle.vtl_tokens.specs.declared.token.TokenKind.TheVariants as what
use Rattle.vtl_grammar.specs.Marks.{Mark, key, sign, mark_code, of_mark, sort_of, kind_of}
use Rattle.vtl_grammar.specs.Rules.{Text}
use Rattle.vtl_grammar.specs.Reading.{member}
use Rattle.vtl_grammar.proofs.MarkCodes.{code-one}

-- a test by its answer
pub by_test : (P : Bool → Type 0) (t : Bool) → (t ≡ true → P true) → (t ≡ false → P false) → P t
by_test P true yes_case no_case = yes_case refl
by_test P false yes_case no_case = no_case refl

pub nat_eq-refl : (n : ℕ) → nat_eq n n ≡ true
nat_eq-refl n = eq-eqb n n refl

of_mark-one : (m n : Mark) → of_mark m ≡ of_mark n → m ≡ n
of_mark-one m n e = let c : mark_code m ≡ mark_code n = omega arith in code-one m n c

pub is_mark : (m : Mark) (x : TokenKind) → nat_eq (sort_of x) (of_mark m) ≡ true → x ≡ kind_of m
is_mark m (what.Name n) e = let h : 0 ≡ 5 + mark_code m = eqb-true _ _ e in absurd (omega arith)
is_mark m (what.Integer n) e = let h : 1 ≡ 5 + mark_code m = eqb-true _ _ e in absurd (omega arith)
is_mark m (what.Number n) e = let h : 2 ≡ 5 + mark_code m = eqb-true _ _ e in absurd (omega arith)
is_mark m (what.Text n) e = let h : 3 ≡ 5 + mark_code m = eqb-true _ _ e in absurd (omega arith)
is_mark m what.End e = let h : 4 ≡ 5 + mark_code m = eqb-true _ _ e in absurd (omega arith)
is_mark m (what.Sign s) e = ap kind_of (of_mark-one (sign s) m (eqb-true (of_mark (sign s)) (of_mark m) e))
is_mark m (what.Reserved k) e = ap kind_of (of_mark-one (key k) m (eqb-true (of_mark (key k)) (of_mark m) e))

pub is_name : (x : TokenKind) → sort_of x ≡ 0 → (n : Text) × (x ≡ what.Name n)
is_name (what.Name n) e = (n, refl)
is_name (what.Integer n) e = absurd (omega arith)
is_name (what.Number n) e = absurd (omega arith)
is_name (what.Text n) e = absurd (omega arith)
is_name what.End e = absurd (omega arith)
is_name (what.Sign s) e = let h : 5 + mark_code (sign s) ≡ 0 = e in absurd (omega arith)
is_name (what.Reserved k) e = let h : 5 + mark_code (key k) ≡ 0 = e in absurd (omega arith)

by_truth : (a b : ℕ) (t : Bool) → nat_eq a b ≡ t → (a ≡ b → ⊥) → t ≡ false
by_truth a b true e h = absurd (h (eqb-true a b e))
by_truth a b false e h = refl

pub not_eq : (a b : ℕ) → (a ≡ b → ⊥) → nat_eq a b ≡ false
not_eq a b h = by_truth a b (nat_eq a b) refl h

-- ---- lists of sorts

pub member-one : (k j : ℕ) → member k (j ∷ []) ≡ true → nat_eq k j ≡ true
member-one k j e = by_test (λ t. t ≡ true) (nat_eq k j) (λ q. refl) (λ q. let d : false ≡ true = rw q at e in absurd cc)

pub member-split : (k : ℕ) (js ks : List ℕ) → member k (js ++ ks) ≡ true → (member k js ≡ true) ⊎ (member k ks ≡ true)
member-split k [] ks e = inr e
member-split k (j ∷ js) ks e = by_test (λ t. (cond t true (member k js) ≡ true) ⊎ (member k ks ≡ true)) (nat_eq k j) (λ q. inl refl) (λ q. let d : member k (js ++ ks) ≡ true = rw q at e in member-split k js ks d)

pub member-append : (k : ℕ) (js ks : List ℕ) → member k js ≡ false → member k ks ≡ false → member k (js ++ ks) ≡ false
member-append k [] ks a b = b
member-append k (j ∷ js) ks a b = by_test (λ t. cond t true (member k (js ++ ks)) ≡ false) (nat_eq k j)
    (λ e. let d : true ≡ false = rw e at a in absurd cc)
    (λ e. let d : member k js ≡ false = rw e at a in member-append k js ks d b)

pub member-left : (k : ℕ) (js ks : List ℕ) → member k js ≡ true → member k (js ++ ks) ≡ true
member-left k [] ks a = absurd cc
member-left k (j ∷ js) ks a = by_test (λ t. cond t true (member k (js ++ ks)) ≡ true) (nat_eq k j)
    (λ e. refl)
    (λ e. let d : member k js ≡ true = rw e at a in member-left k js ks d)

pub member-right : (k : ℕ) (js ks : List ℕ) → member k ks ≡ true → member k (js ++ ks) ≡ true
member-right k [] ks a = a
member-right k (j ∷ js) ks a = by_test (λ t. cond t true (member k (js ++ ks)) ≡ true) (nat_eq k j) (λ e. refl) (λ e. member-right k js ks a)

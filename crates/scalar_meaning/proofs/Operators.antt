-- What operators give is of the kind that they give, where their operands are of one that they take.
use Rattle.std.proofs.Common.{◌≡◌, ℕ, ℤ, pos, negsuc, zero, suc, ◌+ℤ◌, ◌-ℤ◌, ◌*ℤ◌, neg_ℤ, nat_abs, nat_le, Bool, true, false, ◌&&◌, if◌then◌else◌, List, Option, Some, None, IfSome, option_map, length, refl, sym, ap, subst, ◌∙◌, arith}
use Rattle.std.specs.Option.{unwrap_or}
use Rattle.std.proofs.lemmas.Int.{unsigned_abs-mul}
use Rattle.vtl_values.specs.declared.kind.Kind.{Kind}
use Rattle.vtl_values.specs.declared.kind.Kind.TheVariants as kind
use Rattle.vtl_values.specs.declared.value.Value.{Value}
use Rattle.vtl_values.specs.declared.value.Value.TheVariants.{Null, Truth, Integer, Number, Text}
use Rattle.vtl_values.specs.Ranges.{MOST_INTEGER, MOST_MILLIONTHS, IsInteger, IsNumber}
use Rattle.vtl_syntax.specs.declared.words.RoundFunction.{RoundFunction}
use Rattle.vtl_syntax.specs.declared.words.InSign.{InSign}
use Rattle.vtl_decimals.specs.Arithmetic.{ONE, number_of, sum_of, difference_of, product_of, quotient_of, rounded_quotient, floor_of, ceiling_of, remainder_of}
use Rattle.vtl_decimals.proofs.Rounding.{nat_abs-neg}
use Rattle.scalar_texts.specs.Blanks.{trimmed, ltrimmed, rtrimmed}
use Rattle.scalar_texts.specs.Letters.{uppercase, lowercase}
use Rattle.scalar_texts.specs.Places.{place_of}
use Rattle.scalar_trees.specs.declared.operators.UnaryOperator.{UnaryOperator}
use Rattle.scalar_trees.specs.declared.operators.UnaryOperator.TheVariants as unary
use Rattle.scalar_trees.specs.declared.operators.BinaryOperator.{BinaryOperator}
use Rattle.scalar_trees.specs.declared.operators.BinaryOperator.TheVariants as binary
use Rattle.scalar_trees.specs.Kinds.{unary_gives, binary_gives, round_gives, number_value}
use Rattle.scalar_trees.specs.WellTyped.{is_kind, digits_fit}
use Rattle.scalar_trees.proofs.typing.Sound.{both, left, right}
use Rattle.scalar_meaning.specs.Numbers.{integer_of, of_one, of_number, of_two, modulus, number_or_null, quotient, in_ones, to_digits, placed, rounded}
use Rattle.scalar_meaning.specs.Logic.{truth_value}
use Rattle.scalar_meaning.specs.Comparisons.{is_null, is_member, under_sign, membership}
use Rattle.scalar_meaning.specs.Texts.{of_text, joined, characters, place_in, cut, part_of, replacing, matching}
use Rattle.scalar_meaning.specs.Operators.{unary_value, binary_value}
use Rattle.scalar_meaning.proofs.Fitting.{Passes, le-test, test-le}
use Rattle.scalar_meaning.proofs.Ranges.{integer-in, number-in, remainder-within, floor_of-number, ceiling_of-number, in_ones-integer, to_digits-number}

-- ---- values of a kind

integer-fits : (z : ℤ) (k : Kind) → IsInteger z → is_kind kind.Integer k ≡ true → Passes k (Integer z)
integer-fits z k h i = both _ _ (le-test _ _ h) i

number-fits : (z : ℤ) (k : Kind) → IsNumber z → is_kind kind.Number k ≡ true → Passes k (Number z)
number-fits z k h i = both _ _ (le-test _ _ h) i

integer-within : (z : ℤ) (k : Kind) → Passes k (Integer z) → IsInteger z
integer-within z k h = test-le _ _ (left _ (is_kind kind.Integer k) h)

number-within : (z : ℤ) (k : Kind) → Passes k (Number z) → IsNumber z
number-within z k h = test-le _ _ (left _ (is_kind kind.Number k) h)

integer-kind : (z : ℤ) (k : Kind) → Passes k (Integer z) → is_kind kind.Integer k ≡ true
integer-kind z k h = right (nat_le (nat_abs z) MOST_INTEGER) _ h

number-kind : (z : ℤ) (k : Kind) → Passes k (Number z) → is_kind kind.Number k ≡ true
number-kind z k h = right (nat_le (nat_abs z) MOST_MILLIONTHS) _ h

null-fits : (k : Kind) → Passes k Null
null-fits k = refl

as_integer : (k : Kind) (o : Option ℤ) → is_kind kind.Integer k ≡ true → IfSome o (λ n. nat_le (nat_abs n) MOST_INTEGER ≡ true) → IfSome (option_map Integer o) (Passes k)
as_integer k None i h = tt
as_integer k (Some n) i h = both _ _ h i

as_number : (k : Kind) (o : Option ℤ) → is_kind kind.Number k ≡ true → IfSome o (λ n. nat_le (nat_abs n) MOST_MILLIONTHS ≡ true) → IfSome (option_map Number o) (Passes k)
as_number k None i h = tt
as_number k (Some n) i h = both _ _ h i

pub truth-fits : (o : Option Bool) → Passes kind.Truth (truth_value o)
truth-fits None = refl
truth-fits (Some b) = refl

-- ---- numbers

one-fits : (f : ℤ → ℤ) (k : Kind) (v : Value) → ((z : ℤ) → nat_abs (f z) ≡ nat_abs z) → Passes k v → Passes k (of_one f v)
one-fits f k (Integer n) same h = ap (λ m. nat_le m MOST_INTEGER && is_kind kind.Integer k) (same n) ∙ h
one-fits f k (Number n) same h = ap (λ m. nat_le m MOST_MILLIONTHS && is_kind kind.Number k) (same n) ∙ h
one-fits f k Null same h = refl
one-fits f k (Truth b) same h = refl
one-fits f k (Text cs) same h = refl

-- of numbers within their range something that fits is made
made-fits : (f : ℤ → Value) (k q : Kind) (v : Value) → ((z : ℤ) → IsNumber z → Passes q (f z)) → Passes k v → Passes q (of_number f v)
made-fits f k q (Number n) each h = each n (number-within n k h)
made-fits f k q (Integer n) each h = refl
made-fits f k q Null each h = refl
made-fits f k q (Truth b) each h = refl
made-fits f k q (Text cs) each h = refl

two-fits : (f g : ℤ → ℤ → Option ℤ) (k : Kind) (a b : Value) → ((x y : ℤ) → IfSome (f x y) (λ n. nat_le (nat_abs n) MOST_INTEGER ≡ true)) → ((x y : ℤ) → IfSome (g x y) (λ n. nat_le (nat_abs n) MOST_MILLIONTHS ≡ true)) → Passes k a → IfSome (of_two f g a b) (Passes k)
two-fits f g k (Integer x) (Integer y) i n h = as_integer k (f x y) (integer-kind x k h) (i x y)
two-fits f g k (Number x) (Number y) i n h = as_number k (g x y) (number-kind x k h) (n x y)
two-fits f g k (Integer x) Null i n h = refl
two-fits f g k (Integer x) (Truth y) i n h = refl
two-fits f g k (Integer x) (Number y) i n h = refl
two-fits f g k (Integer x) (Text y) i n h = refl
two-fits f g k (Number x) Null i n h = refl
two-fits f g k (Number x) (Truth y) i n h = refl
two-fits f g k (Number x) (Integer y) i n h = refl
two-fits f g k (Number x) (Text y) i n h = refl
two-fits f g k Null b i n h = refl
two-fits f g k (Truth x) b i n h = refl
two-fits f g k (Text x) b i n h = refl

modulus-fits : (k : Kind) (a b : Value) → Passes k a → Passes k b → Passes k (modulus a b)
modulus-fits k (Integer x) (Integer y) h j = integer-fits (remainder_of x y) k (remainder-within x y MOST_INTEGER (integer-within x k h) (integer-within y k j)) (integer-kind x k h)
modulus-fits k (Number x) (Number y) h j = number-fits (remainder_of x y) k (remainder-within x y MOST_MILLIONTHS (number-within x k h) (number-within y k j)) (number-kind x k h)
modulus-fits k (Integer x) Null h j = refl
modulus-fits k (Integer x) (Truth y) h j = refl
modulus-fits k (Integer x) (Number y) h j = refl
modulus-fits k (Integer x) (Text y) h j = refl
modulus-fits k (Number x) Null h j = refl
modulus-fits k (Number x) (Truth y) h j = refl
modulus-fits k (Number x) (Integer y) h j = refl
modulus-fits k (Number x) (Text y) h j = refl
modulus-fits k Null b h j = refl
modulus-fits k (Truth x) b h j = refl
modulus-fits k (Text x) b h j = refl

divided : (o : Option ℤ) → IfSome o (λ n. nat_le (nat_abs n) MOST_MILLIONTHS ≡ true) → IfSome (option_map number_or_null (option_map Some o)) (Passes kind.Number)
divided None h = tt
divided (Some n) h = both _ _ h refl

quotient_of-fits : (a b : ℤ) → IfSome (option_map number_or_null (quotient_of a b)) (Passes kind.Number)
quotient_of-fits a (pos zero) = refl
quotient_of-fits a (pos (suc b)) = divided (number_of (rounded_quotient (a *ℤ pos ONE) (pos (suc b)))) (number-in _)
quotient_of-fits a (negsuc b) = divided (number_of (rounded_quotient (a *ℤ pos ONE) (negsuc b))) (number-in _)

quotient-fits : (a b : Value) → IfSome (quotient a b) (Passes kind.Number)
quotient-fits (Number x) (Number y) = quotient_of-fits x y
quotient-fits (Number x) Null = refl
quotient-fits (Number x) (Truth y) = refl
quotient-fits (Number x) (Integer y) = refl
quotient-fits (Number x) (Text y) = refl
quotient-fits Null b = refl
quotient-fits (Truth x) b = refl
quotient-fits (Integer x) b = refl
quotient-fits (Text x) b = refl

pub widened-fits : (v : Value) → Passes kind.Integer v → Passes kind.Number (number_value v)
widened-fits (Integer n) h = number-fits (n *ℤ pos 1000000) kind.Number (in_millionths n (integer-within n kind.Integer h)) refl
  where
    in_millionths : (z : ℤ) → IsInteger z → IsNumber (z *ℤ pos 1000000)
    in_millionths z h = rw (unsigned_abs-mul z (pos 1000000)) (omega arith)
widened-fits Null h = refl
widened-fits (Truth b) h = cc
widened-fits (Number n) h = let t : (nat_le (nat_abs n) MOST_MILLIONTHS && false) ≡ true = h in absurd (no _ t)
  where
    no : (b : Bool) → (b && false) ≡ true → ⊥
    no true e = cc
    no false e = cc
widened-fits (Text cs) h = cc

placed-fits : (f : RoundFunction) (digits : Option ℤ) → digits_fit digits ≡ true → (z : ℤ) → IsNumber z → Passes (round_gives digits) (placed f digits z)
placed-fits f None fit z h = integer-fits (in_ones (to_digits f z (pos 0))) kind.Integer (in_ones-integer (to_digits f z (pos 0)) (to_digits-number f z (pos 0) refl h)) refl
placed-fits f (Some d) fit z h = number-fits (to_digits f z d) kind.Number (to_digits-number f z d fit h) refl

pub rounded-fits : (f : RoundFunction) (digits : Option ℤ) (v : Value) → digits_fit digits ≡ true → Passes kind.Number v → Passes (round_gives digits) (rounded f digits v)
rounded-fits f digits v fit h = subst (λ b. Passes (round_gives digits) (if b then of_number (placed f digits) v else Null)) (sym fit) (made-fits (placed f digits) kind.Number (round_gives digits) v (placed-fits f digits fit) h)

-- ---- comparisons and texts

pub membership-fits : (sign : InSign) (set : List Value) (v : Value) → Passes kind.Truth (membership sign set v)
membership-fits sign set v = at (is_null v)
  where
    at : (b : Bool) → Passes kind.Truth (if b then Null else Truth (under_sign sign (is_member set v)))
    at true = refl
    at false = refl

text-fits : (f : List ℕ → List ℕ) (v : Value) → Passes kind.Text (of_text f v)
text-fits f (Text cs) = refl
text-fits f Null = refl
text-fits f (Truth b) = refl
text-fits f (Integer n) = refl
text-fits f (Number n) = refl

joined-fits : (a b : Value) → Passes kind.Text (joined a b)
joined-fits (Text x) (Text y) = refl
joined-fits (Text x) Null = refl
joined-fits (Text x) (Truth y) = refl
joined-fits (Text x) (Integer y) = refl
joined-fits (Text x) (Number y) = refl
joined-fits Null b = refl
joined-fits (Truth x) b = refl
joined-fits (Integer x) b = refl
joined-fits (Number x) b = refl

characters-fit : (v : Value) → IfSome (characters v) (Passes kind.Integer)
characters-fit (Text cs) = as_integer kind.Integer (integer_of (pos (length cs))) refl (integer-in _)
characters-fit Null = refl
characters-fit (Truth b) = refl
characters-fit (Integer n) = refl
characters-fit (Number n) = refl

place-fits : (a b : Value) → IfSome (place_in a b) (Passes kind.Integer)
place-fits (Text x) (Text y) = as_integer kind.Integer (integer_of (pos (place_of x y))) refl (integer-in _)
place-fits (Text x) Null = refl
place-fits (Text x) (Truth y) = refl
place-fits (Text x) (Integer y) = refl
place-fits (Text x) (Number y) = refl
place-fits Null b = refl
place-fits (Truth x) b = refl
place-fits (Integer x) b = refl
place-fits (Number x) b = refl

cut-fits : (v start : Value) (count : Option Value) → Passes kind.Text (cut v start count)
cut-fits (Text cs) (Integer n) None = refl
cut-fits (Text cs) (Integer n) (Some (Integer m)) = refl
cut-fits (Text cs) (Integer n) (Some Null) = refl
cut-fits (Text cs) (Integer n) (Some (Truth m)) = refl
cut-fits (Text cs) (Integer n) (Some (Number m)) = refl
cut-fits (Text cs) (Integer n) (Some (Text m)) = refl
cut-fits (Text cs) Null count = refl
cut-fits (Text cs) (Truth b) count = refl
cut-fits (Text cs) (Number n) count = refl
cut-fits (Text cs) (Text d) count = refl
cut-fits Null start count = refl
cut-fits (Truth b) start count = refl
cut-fits (Integer n) start count = refl
cut-fits (Number n) start count = refl

pub part-fits : (v : Value) (start count : Option Value) → Passes kind.Text (part_of v start count)
part-fits v start count = cut-fits v (unwrap_or start (Integer (pos 1))) count

pub replacing-fits : (v old : Value) (new : Option Value) → Passes kind.Text (replacing v old new)
replacing-fits (Text cs) (Text o) None = refl
replacing-fits (Text cs) (Text o) (Some (Text n)) = refl
replacing-fits (Text cs) (Text o) (Some Null) = refl
replacing-fits (Text cs) (Text o) (Some (Truth n)) = refl
replacing-fits (Text cs) (Text o) (Some (Integer n)) = refl
replacing-fits (Text cs) (Text o) (Some (Number n)) = refl
replacing-fits (Text cs) Null new = refl
replacing-fits (Text cs) (Truth o) new = refl
replacing-fits (Text cs) (Integer o) new = refl
replacing-fits (Text cs) (Number o) new = refl
replacing-fits Null old new = refl
replacing-fits (Truth b) old new = refl
replacing-fits (Integer n) old new = refl
replacing-fits (Number n) old new = refl

pub matching-fits : (pattern : List ℕ) (v : Value) → Passes kind.Truth (matching pattern v)
matching-fits pattern (Text cs) = refl
matching-fits pattern Null = refl
matching-fits pattern (Truth b) = refl
matching-fits pattern (Integer n) = refl
matching-fits pattern (Number n) = refl

-- ---- the tables

pub unary-fits : (o : UnaryOperator) (k : Kind) (v : Value) → Passes k v → IfSome (unary_value o v) (Passes (unary_gives o k))
unary-fits unary.Plus k v h = one-fits (λ n. n) k v (λ z. refl) h
unary-fits unary.Minus k v h = one-fits neg_ℤ k v nat_abs-neg h
unary-fits unary.Not k v h = truth-fits _
unary-fits unary.Abs k v h = one-fits (λ n. pos (nat_abs n)) k v (λ z. refl) h
unary-fits unary.Ceil k v h = made-fits (λ n. Integer (in_ones (ceiling_of n))) k kind.Integer v (λ z i. integer-fits (in_ones (ceiling_of z)) kind.Integer (in_ones-integer (ceiling_of z) (ceiling_of-number z i)) refl) h
unary-fits unary.Floor k v h = made-fits (λ n. Integer (in_ones (floor_of n))) k kind.Integer v (λ z i. integer-fits (in_ones (floor_of z)) kind.Integer (in_ones-integer (floor_of z) (floor_of-number z i)) refl) h
unary-fits unary.Trim k v h = text-fits trimmed v
unary-fits unary.Ltrim k v h = text-fits ltrimmed v
unary-fits unary.Rtrim k v h = text-fits rtrimmed v
unary-fits unary.Upper k v h = text-fits uppercase v
unary-fits unary.Lower k v h = text-fits lowercase v
unary-fits unary.Length k v h = characters-fit v
unary-fits unary.Isnull k v h = refl

pub binary-fits : (o : BinaryOperator) (k : Kind) (a b : Value) → Passes k a → Passes k b → IfSome (binary_value o a b) (Passes (binary_gives o k))
binary-fits binary.Plus k a b h j = two-fits (λ x y. integer_of (x +ℤ y)) sum_of k a b (λ x y. integer-in _) (λ x y. number-in _) h
binary-fits binary.Minus k a b h j = two-fits (λ x y. integer_of (x -ℤ y)) difference_of k a b (λ x y. integer-in _) (λ x y. number-in _) h
binary-fits binary.Times k a b h j = two-fits (λ x y. integer_of (x *ℤ y)) product_of k a b (λ x y. integer-in _) (λ x y. number-in _) h
binary-fits binary.Over k a b h j = quotient-fits a b
binary-fits binary.Mod k a b h j = modulus-fits k a b h j
binary-fits binary.Join k a b h j = joined-fits a b
binary-fits binary.Instr k a b h j = place-fits a b
binary-fits binary.And k a b h j = truth-fits _
binary-fits binary.Or k a b h j = truth-fits _
binary-fits binary.Xor k a b h j = truth-fits _
binary-fits binary.Equal k a b h j = truth-fits _
binary-fits binary.NotEqual k a b h j = truth-fits _
binary-fits binary.Less k a b h j = truth-fits _
binary-fits binary.Greater k a b h j = truth-fits _
binary-fits binary.AtMost k a b h j = truth-fits _
binary-fits binary.AtLeast k a b h j = truth-fits _

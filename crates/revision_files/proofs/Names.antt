-- Names of columns, and the fields under them.
use Rattle.std.proofs.Common.{◌≡◌, ℕ, zero, suc, ◌+◌, ◌<◌, Bool, true, false, List, [], ◌∷◌, ◌++◌, length, get_or, take, drop, map, Option, Some, None, is_some, unwrap_or, cond, Bor, refl, sym, ap, subst, ◌∙◌, arith, true≢false, add-one, zero-add}
use Rattle.std.specs.Prelude.{◌==◌, ◌&&◌, ◌||◌, not, filter, nat_lt, option_map, position, IsUtf8, ◌⊎◌, ◌≢◌}
use Rattle.std.specs.Bool.{Decides}
use Rattle.std.specs.List.{list_all, list_any, position_or_len, range_with_len}
use Rattle.std.proofs.lemmas.Bool.Decides.{nat_tests}
use Rattle.std.proofs.lemmas.List.{length-append, append-nil}
use Rattle.std.proofs.lemmas.List.Elements.{filter-append}
use Rattle.std.proofs.lemmas.List.Folds.{list_any-append, list_all-append}
use Rattle.std.proofs.lemmas.Bool.Decides.{same_from_decides, Decides-like, Decides-eqb}
use Rattle.std.proofs.lemmas.Bool.{eq-eqb, eqb-true}
use Rattle.std.proofs.lemmas.Str.{chars-nil, chars-IsAscii, encodes-IsAscii, encodes-chars}
use Rattle.std.specs.Str.{IsAscii, chars, encode_utf8_all}
use Rattle.std.proofs.lemmas.Cmp.{nat_list_eq_equiv}
use Rattle.csv.specs.Records.{field_at}
use Rattle.indexmap.specs.IndexSet.{insert_key}
use Rattle.vtl_values.specs.declared.structure.Component.{Component}
use Rattle.vtl_values.specs.Texts.{same_text}
use Rattle.vtl_values.proofs.StructureNames.{same_text-Decides}
use Rattle.point_sets.specs.declared.revision.RawField.TheVariants.{Empty, Given}
use Rattle.revision_files.specs.Rows.{raw_field}
use Rattle.revision_files.specs.Columns.{ACTION, all_differ, column_of, columns_of, columns_with, has_just, is_among, names_of}
use Rattle.revision_files.specs.Texts.{is_of, wanted_of}

-- the field at a place, as its characters
pub field_at-chars : (fields : List (List ℕ)) (i : ℕ) → unwrap_or (option_map chars (field_at fields i)) [] ≡ get_or (map chars fields) i []
unfolding field_at
field_at-chars [] i = refl
field_at-chars (f ∷ fields) zero = refl
field_at-chars (f ∷ fields) (suc i) = field_at-chars fields i

pub found-chars : (found : Option (Bor (List ℕ))) (other : Bor (List ℕ)) (field : Option (List ℕ)) → option_map (λ t. t.now) found ≡ field → other.now ≡ [] → chars (unwrap_or found other).now ≡ unwrap_or (option_map chars field) []
found-chars None other field is none = ap chars none ∙ (chars-nil ∙ ap (λ o. unwrap_or (option_map chars o) []) is)
found-chars (Some t) other field is none = ap (λ o. unwrap_or (option_map chars o) []) is

pub same-true : (a b : List ℕ) → same_text a b ≡ true → a ≡ b
same-true a b same = (same_text-Decides a b).0 same

or_false : (b : Bool) → (b || false) ≡ b
or_false true = refl
or_false false = refl

-- a name more
is_among-push : (names : List (List ℕ)) (name q : List ℕ) → is_among (names ++ name ∷ []) q ≡ (is_among names q || same_text q name)
is_among-push names name q = list_any-append (same_text q) names (name ∷ []) ∙ ap (λ b. is_among names q || b) (or_false (same_text q name))

known_already : (here same : Bool) → (same ≡ true → here ≡ true) → here ≡ (here || same)
known_already true same if_same = refl
known_already false true if_same = if_same refl
known_already false false if_same = refl

-- a name that is put into a set
pub is_among-insert : (names : List (List ℕ)) (name q : List ℕ) → is_among (insert_key same_text names name) q ≡ (is_among names q || same_text q name)
is_among-insert names name q = by (is_among names name) refl
  where
    by : (b : Bool) → is_among names name ≡ b → is_among (cond b names (names ++ name ∷ [])) q ≡ (is_among names q || same_text q name)
    by true here = known_already (is_among names q) (same_text q name) (λ same. ap (is_among names) (same-true q name same) ∙ here)
    by false here = is_among-push names name q

-- names that the set of the wanted ones has, with one more
pub wanted-more : (keys : List (List ℕ)) (before : List (List ℕ)) (name : List ℕ) → ((q : List ℕ) → is_among keys q ≡ is_among before q) → (q : List ℕ) → is_among (insert_key same_text keys name) q ≡ is_among (before ++ name ∷ []) q
wanted-more keys before name same q = is_among-insert keys name q ∙ (ap (λ b. b || same_text q name) (same q) ∙ sym (is_among-push before name q))

join : (a b d p q : Bool) → p ≡ q → (not (a || (p || false)) && (d && not b)) ≡ ((not a && d) && not (q || b))
join true b d p q e = refl
join false b true true q e = rw (← e) refl
join false b true false q e = rw (← e) refl
join false b false true q e = refl
join false b false false q e = refl

-- one name more
all_differ-push : (names : List (List ℕ)) (name : List ℕ) → all_differ (names ++ name ∷ []) ≡ (all_differ names && not (is_among names name))
all_differ-push [] name = refl
all_differ-push (n ∷ names) name =
    rw (list_any-append (same_text n) names (name ∷ []), all_differ-push names name)
    (join (list_any (same_text n) names) (list_any (same_text name) names) (all_differ names) (same_text n name) (same_text name n) (nat_list_eq_equiv.symm n name))

spoilt : (a b d e : Bool) → (not a && d) ≡ false → (d ≡ false → e ≡ false) → (not (a || b) && e) ≡ false
spoilt true b d e h k = refl
spoilt false true d e h k = refl
spoilt false false d e h k = k h

all_differ-false : (names more : List (List ℕ)) → all_differ names ≡ false → all_differ (names ++ more) ≡ false
all_differ-false [] more h = absurd (true≢false h)
all_differ-false (name ∷ names) more h =
    rw (list_any-append (same_text name) names more)
    (spoilt (list_any (same_text name) names) (list_any (same_text name) more) (all_differ names) (all_differ (names ++ more)) h (all_differ-false names more))

swapped : (a b c d : Bool) → ((a && b) && (c && (d && true))) ≡ ((a && c) && (b && d))
swapped true true true true = refl
swapped true true true false = refl
swapped true true false d = refl
swapped true false true d = refl
swapped true false false d = refl
swapped false b c d = refl

pub is_of-push : (wanted header : List (List ℕ)) (name : List ℕ) → is_of wanted (header ++ name ∷ []) ≡ (is_of wanted header && (not (is_among header name) && is_among wanted name))
is_of-push wanted header name =
    rw (all_differ-push header name, list_all-append (is_among wanted) header (name ∷ []))
    (swapped (all_differ header) (not (is_among header name)) (list_all (is_among wanted) header) (is_among wanted name))

either_false : (a b c d : Bool) → (a && b) ≡ false → (a ≡ false → c ≡ false) → (c && (b && d)) ≡ false
either_false true true c d h k = absurd (true≢false h)
either_false true false true d h k = refl
either_false true false false d h k = refl
either_false false b c d h k = ap (λ x. x && (b && d)) (k refl)

pub is_of-false : (wanted header more : List (List ℕ)) → is_of wanted header ≡ false → is_of wanted (header ++ more) ≡ false
is_of-false wanted header more h =
    rw (list_all-append (is_among wanted) header more)
    (either_false (all_differ header) (list_all (is_among wanted) header) (all_differ (header ++ more)) (list_all (is_among wanted) more) h (all_differ-false header more))

pub list_all-same : (p q : List ℕ → Bool) (names : List (List ℕ)) → ((name : List ℕ) → p name ≡ q name) → list_all p names ≡ list_all q names
list_all-same p q [] same = refl
list_all-same p q (name ∷ names) same = rw (same name, list_all-same p q names same) refl

-- the names that are wanted, told by another list of them
pub is_of-same : (wanted other header : List (List ℕ)) → ((name : List ℕ) → is_among wanted name ≡ is_among other name) → is_of wanted header ≡ is_of other header
is_of-same wanted other header same = ap (λ b. all_differ header && b) (list_all-same (is_among wanted) (is_among other) header same)

and_false : (b : Bool) → (b && false) ≡ false
and_false true = refl
and_false false = refl

-- a header that doesn't fit a known data set, and one that does
pub known-not_of : (components : List Component) (header : List (List ℕ)) → is_of (wanted_of components) header ≡ false → columns_of (Some components) header ≡ None
known-not_of components header none = ap (λ b. cond (b && list_all (is_among header) (wanted_of components)) (Some (columns_with header (map (column_of header) (names_of components)))) None) none

pub known-lacks : (components : List Component) (header : List (List ℕ)) → list_all (is_among header) (wanted_of components) ≡ false → columns_of (Some components) header ≡ None
known-lacks components header lacks = ap (λ b. cond b (Some (columns_with header (map (column_of header) (names_of components)))) None) (ap (λ b. is_of (wanted_of components) header && b) lacks ∙ and_false (is_of (wanted_of components) header))

pub known-fits : (components : List Component) (header : List (List ℕ)) → is_of (wanted_of components) header ≡ true → list_all (is_among header) (wanted_of components) ≡ true → columns_of (Some components) header ≡ Some (columns_with header (map (column_of header) (names_of components)))
known-fits components header each all = rw (each, all) refl

-- where the set has a name is where the header has it
pub column_found : (header : List (List ℕ)) (name : List ℕ) (at : ℕ) → position (same_text name) header ≡ Some at → column_of header name ≡ at
column_found header name at is = by (nat_lt (position_or_len (same_text name) header) (length header)) is
  where
    by : (b : Bool) → cond b (Some (position_or_len (same_text name) header)) None ≡ Some at → column_of header name ≡ at
    by true found = cc
    by false found = cc

-- the first of those that pass
pub first_at : (p : List ℕ → Bool) (names : List (List ℕ)) (i : ℕ) (d : List ℕ) → length (filter p (take i names)) ≡ 0 → i < length names → p (get_or names i d) ≡ true → position_or_len p names ≡ i
first_at p [] i d none within here = absurd (omega arith)
first_at p (name ∷ names) zero d none within here = ap (λ b. cond (not b) (1 + position_or_len p names) 0) here
first_at p (name ∷ names) (suc i) d none within here = by (p name) refl none (λ none'. first_at p names i d none' (omega arith) here)
  where
    by : (b : Bool) → p name ≡ b → length (cond b (name ∷ filter p (take i names)) (filter p (take i names))) ≡ 0 → (length (filter p (take i names)) ≡ 0 → position_or_len p names ≡ i) → position_or_len p (name ∷ names) ≡ suc i
    by true is some later = absurd (omega arith)
    by false is none' later = ap (λ b. cond (not b) (1 + position_or_len p names) 0) is ∙ (let e = later none' in omega (arith, e))

-- how many of the first pass, with one more
pub passing-more : (p : List ℕ → Bool) (names : List (List ℕ)) (name : List ℕ) → length (filter p (names ++ name ∷ [])) ≡ length (filter p names) + cond (p name) 1 0
passing-more p names name = ap length (filter-append p names (name ∷ [])) ∙ (length-append (filter p names) (filter p (name ∷ [])) ∙ ap (λ n. length (filter p names) + n) (one (p name)))
  where
    one : (b : Bool) → length (cond b (name ∷ []) []) ≡ cond b 1 0
    one true = refl
    one false = refl

-- a text is a word of ASCII where its bytes are
pub word-chars : (word text : List ℕ) → IsAscii word → IsUtf8 text → same_text word (chars text) ≡ same_text word text
word-chars word text ascii utf8 = same_from_decides (same_text word (chars text)) (same_text word text) (same_text-Decides word (chars text))
    (Decides-like (same_text word text)
    (λ (is : word ≡ text). sym (chars-IsAscii word ascii) ∙ ap chars is)
    (λ (is : word ≡ chars text). sym (encodes-IsAscii word ascii) ∙ (ap encode_utf8_all is ∙ encodes-chars text utf8))
    (same_text-Decides word text))

pub chars-word : (text word : List ℕ) → IsAscii word → IsUtf8 text → same_text (chars text) word ≡ same_text text word
chars-word text word ascii utf8 = nat_list_eq_equiv.symm (chars text) word ∙ (word-chars word text ascii utf8 ∙ nat_list_eq_equiv.symm word text)

range_more : (a n : ℕ) → range_with_len a (suc n) ≡ range_with_len a n ++ (a + n) ∷ []
range_more a zero = ap (λ m. m ∷ []) (omega arith)
range_more a (suc n) = ap (λ rest. a ∷ rest) (range_more (a + 1) n) ∙ ap (λ m. (a ∷ range_with_len (a + 1) n) ++ m ∷ []) (omega arith)

-- the other columns, with one more place
pub others-more : (column n : ℕ) → filter (λ other. not (other == column)) (range_with_len 0 (n + 1)) ≡ filter (λ other. not (other == column)) (range_with_len 0 n) ++ cond (not (n == column)) (n ∷ []) []
others-more column n =
    ap (λ m. filter (λ other. not (other == column)) (range_with_len 0 m)) (add-one n)
    ∙ (ap (filter (λ other. not (other == column))) (range_more 0 n)
    ∙ (filter-append (λ other. not (other == column)) (range_with_len 0 n) ((0 + n) ∷ []) ∙ ap (λ m. filter (λ other. not (other == column)) (range_with_len 0 n) ++ cond (not (m == column)) (m ∷ []) []) (zero-add n)))

same_false : (n column : ℕ) → n ≢ column → (n == column) ≡ false
same_false n column other = by (n == column) refl
  where
    by : (b : Bool) → (n == column) ≡ b → b ≡ false
    by true is = absurd (other (eqb-true n column is))
    by false is = refl

pub other-in : (column n : ℕ) → n ≢ column → filter (λ other. not (other == column)) (range_with_len 0 (n + 1)) ≡ filter (λ other. not (other == column)) (range_with_len 0 n) ++ n ∷ []
other-in column n other = others-more column n ∙ ap (λ b. filter (λ other. not (other == column)) (range_with_len 0 n) ++ cond (not b) (n ∷ []) []) (same_false n column other)

pub other-out : (column n : ℕ) → n ≡ column → filter (λ other. not (other == column)) (range_with_len 0 (n + 1)) ≡ filter (λ other. not (other == column)) (range_with_len 0 n)
other-out column n same = others-more column n ∙ (ap (λ b. filter (λ other. not (other == column)) (range_with_len 0 n) ++ cond (not b) (n ∷ []) []) (eq-eqb n column same) ∙ append-nil (filter (λ other. not (other == column)) (range_with_len 0 n)))

-- the field of a text
pub raw-empty : (text : List ℕ) → length text ≡ 0 → raw_field (chars text) ≡ Empty
raw-empty [] none = ap raw_field chars-nil
raw-empty (b ∷ text) none = absurd (omega arith)

given_some : (characters : List ℕ) → characters ≢ [] → raw_field characters ≡ Given characters
given_some [] some = absurd (some refl)
given_some (c ∷ characters) some = refl

pub raw-given : (text : List ℕ) → IsUtf8 text → 0 < length text → raw_field (chars text) ≡ Given (chars text)
raw-given text utf8 some = given_some (chars text) (λ none. let e : length text ≡ 0 = ap length (sym (encodes-chars text utf8) ∙ ap encode_utf8_all none) in absurd (omega (arith, e)))

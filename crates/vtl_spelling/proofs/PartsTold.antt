-- What stands inside expressions and holds none, as its rules tell it.
use Rattle.std.proofs.Common.{◌≡◌, List, Option, Some, None, inl, inr, refl, sym, ap, ◌∙◌, map}
use Rattle.std.specs.Prelude.{ℤ, pos, negsuc}
use Rattle.vtl_values.specs.declared.place.Place.{Place}
use Rattle.vtl_values.specs.declared.value.Value.{Value}
use Rattle.vtl_values.specs.declared.value.Value.TheVariants as value
use Rattle.vtl_tokens.specs.declared.keyword.Keyword.TheVariants as words
use Rattle.vtl_tokens.specs.declared.sign.Sign.TheVariants as signs
use Rattle.vtl_tokens.specs.declared.token.TokenKind.{TokenKind}
use Rattle.vtl_tokens.specs.declared.token.TokenKind.TheVariants as what
use Rattle.vtl_syntax.specs.declared.expr.OrderItem.{OrderItem}
use Rattle.vtl_grammar.specs.Marks.{key, sign}
use Rattle.vtl_grammar.specs.Rules.{name, ◌▸◌, lists, Of, word, commas, listed}
use Rattle.vtl_grammar.specs.Clauses as g
use Rattle.vtl_grammar.specs.Calls as c
use Rattle.vtl_grammar.specs.Words.{group_words}
use Rattle.vtl_spelling.specs.Kinds.{Kinds, ◌&◌, one, optional}
use Rattle.vtl_spelling.specs.Kinds as k
use Rattle.vtl_spelling.specs.Parts as s
use Rattle.vtl_spelling.specs.Placeless.{nowhere, comp_placeless, rename_placeless, sub_item_placeless, grouping_placeless, order_item_placeless, points_placeless, over_placeless}
use Rattle.vtl_spelling.proofs.Values.{minus_of, size_of, value_spelled, value_placeless}
use Rattle.vtl_spelling.proofs.Formed.{lone, signed-lone}
use Rattle.vtl_spelling.proofs.Told.{Told, same_word, behind-told, optional-told, option-plain, option-same, listed-told, listed-plain, listed-same}
use Rattle.vtl_spelling.proofs.WordsTold.{choice-told}

-- ---- numbers

signed-spelled : (of : ℤ → TokenKind) (z : ℤ) → k.signed of z ≡ optional (λ p. k.sig signs.Minus) (minus_of z) & one (of (size_of z))
signed-spelled of (pos n) = refl
signed-spelled of (negsuc n) = refl

form-signed : (z : ℤ) → g.signed (minus_of z) (size_of z) ≡ z
form-signed (pos n) = refl
form-signed (negsuc n) = refl

number-plain : (x : Option Place) (z : ℤ) → g.signed x z ≡ g.signed (minus_of (g.signed (lone x) z)) (size_of (g.signed (lone x) z))
number-plain x z = sym (form-signed (g.signed (lone x) z) ∙ signed-lone x z)

pub signed_integer-told : Told g.signed_integer g.signed_of k.signed_integer same_word
signed_integer-told = record { tells = λ v. (signed-spelled what.Integer (g.signed v.0 v.1.value), number-plain v.0 v.1.value) }

pub literal-told : Told g.literal g.literal_of s.literal_spelled same_word
literal-told = record { tells = by_case }
  where
    by_case : (v : Of g.literal) → (s.literal_spelled (g.literal_of v) ≡ value_spelled g.literal v) × (g.literal_of v ≡ g.literal_of (value_placeless g.literal v))
    by_case (inl (m, inl v)) = (signed-spelled what.Integer (g.signed m v.value), ap (λ (z : ℤ). value.Integer z) (number-plain m v.value))
    by_case (inl (m, inr v)) = (signed-spelled what.Number (g.signed m v.value), ap (λ (z : ℤ). value.Number z) (number-plain m v.value))
    by_case (inr (inl v)) = (refl, refl)
    by_case (inr (inr (inl p))) = (refl, refl)
    by_case (inr (inr (inr (inl p)))) = (refl, refl)
    by_case (inr (inr (inr (inr p)))) = (refl, refl)

-- ---- names

pub name-told : Told name (λ v. v.value) k.name same_word
name-told = record { tells = λ v. (refl, refl) }

pub names-told : Told g.names g.names_of s.names_spelled same_word
names-told = record { tells = λ v. (listed-told name (λ w. w.value) k.name same_word name-told lists (sign signs.Comma) v, listed-same name (λ w. w.value) k.name name-told lists (sign signs.Comma) v) }

pub comp-told : Told g.comp g.comp_of s.comp_spelled comp_placeless
comp-told = record { tells = by_case }
  where
    by_case : (v : Of g.comp) → (s.comp_spelled (g.comp_of v) ≡ value_spelled g.comp v) × (comp_placeless (g.comp_of v) ≡ g.comp_of (value_placeless g.comp v))
    by_case (v, None) = (refl, refl)
    by_case (v, Some w) = (refl, refl)

pub renamed-told : Told g.renamed g.renamed_of s.rename_spelled rename_placeless
renamed-told = record { tells = by_case }
  where
    by_case : (v : Of g.renamed) → (s.rename_spelled (g.renamed_of v) ≡ value_spelled g.renamed v) × (rename_placeless (g.renamed_of v) ≡ g.renamed_of (value_placeless g.renamed v))
    by_case ((v, None), w) = (refl, refl)
    by_case ((v, Some x), w) = (refl, refl)

pub sub_item-told : Told g.sub_item g.sub_item_of s.sub_item_spelled sub_item_placeless
sub_item-told = record {
  tells = λ v.
      let e = literal-told.tells v.1.1 in
      (ap (λ (ks : Kinds). k.name v.0.value & k.sig signs.Equal & ks) e.0, ap (λ (x : Value). record { name = v.0.value; value = x; place = nowhere }) e.1);
}

pub grouping-told : Told g.grouping g.grouping_of s.grouping_spelled grouping_placeless
grouping-told = record {
  tells = λ v.
      let e = names-told.tells v.1.1 in
      let w = (choice-told group_words).tells v.1.0 in
      (let a = e.0 in let b = w.0 in cc, let a = e.1 in let b = w.1 in cc);
}

-- ---- windows

pub order_item-told : Told c.order_item c.order_item_of s.order_item_spelled order_item_placeless
order_item-told = record { tells = by_case }
  where
    by_case : (v : Of c.order_item) → (s.order_item_spelled (c.order_item_of v) ≡ value_spelled c.order_item v) × (order_item_placeless (c.order_item_of v) ≡ c.order_item_of (value_placeless c.order_item v))
    by_case (v, None) = (refl, refl)
    by_case (v, Some (inl p)) = (refl, refl)
    by_case (v, Some (inr p)) = (refl, refl)

pub window_start-told : Told c.window_start c.window_start_of s.window_start_spelled same_word
window_start-told = record { tells = by_case }
  where
    by_case : (v : Of c.window_start) → (s.window_start_spelled (c.window_start_of v) ≡ value_spelled c.window_start v) × (c.window_start_of v ≡ c.window_start_of (value_placeless c.window_start v))
    by_case (inl v) = (refl, refl)
    by_case (inr (inl v)) = (refl, refl)
    by_case (inr (inr v)) = (refl, refl)

pub window_end-told : Told c.window_end c.window_end_of s.window_end_spelled same_word
window_end-told = record { tells = by_case }
  where
    by_case : (v : Of c.window_end) → (s.window_end_spelled (c.window_end_of v) ≡ value_spelled c.window_end v) × (c.window_end_of v ≡ c.window_end_of (value_placeless c.window_end v))
    by_case (inl v) = (refl, refl)
    by_case (inr (inl v)) = (refl, refl)
    by_case (inr (inr v)) = (refl, refl)

pub points-told : Told c.points c.points_of s.points_spelled points_placeless
points-told = record {
  tells = λ v.
      let a = window_start-told.tells v.1.1.1.0 in
      let b = window_end-told.tells v.1.1.1.1.1 in
      (let x = a.0 in let y = b.0 in cc, let x = a.1 in let y = b.1 in cc);
}

abbrev order_items_of : Of (commas c.order_item) → List OrderItem
order_items_of v = listed c.order_item_of v

order_items-told : Told (commas c.order_item) order_items_of (λ is. k.commas s.order_item_spelled is) (λ is. map order_item_placeless is)
order_items-told = record { tells = λ v. (listed-told c.order_item c.order_item_of s.order_item_spelled order_item_placeless order_item-told lists (sign signs.Comma) v, listed-plain c.order_item c.order_item_of s.order_item_spelled order_item_placeless order_item-told lists (sign signs.Comma) v) }

partition-told : Told (word words.Partition ▸ word words.By ▸ g.names) (λ w. g.names_of w.1.1) (λ ws. k.key words.Partition & k.key words.By & s.names_spelled ws) same_word
partition-told = behind-told (key words.Partition) (word words.By ▸ g.names) (λ w. g.names_of w.1) (λ ws. k.key words.By & s.names_spelled ws) same_word (behind-told (key words.By) g.names g.names_of s.names_spelled same_word names-told)

order-told : Told (word words.Order ▸ word words.By ▸ commas c.order_item) (λ w. order_items_of w.1.1) (λ is. k.key words.Order & k.key words.By & k.commas s.order_item_spelled is) (λ is. map order_item_placeless is)
order-told = behind-told (key words.Order) (word words.By ▸ commas c.order_item) (λ w. order_items_of w.1) (λ is. k.key words.By & k.commas s.order_item_spelled is) (λ is. map order_item_placeless is)
    (behind-told (key words.By) (commas c.order_item) order_items_of (λ is. k.commas s.order_item_spelled is) (λ is. map order_item_placeless is) order_items-told)

pub over-told : Told c.over c.over_of s.over_spelled over_placeless
over-told = record {
  tells = λ v.
      let a = optional-told _ _ _ _ partition-told v.1.1.0 in
      let b = optional-told _ _ _ _ order-told v.1.1.1.0 in
      let d = optional-told _ _ _ _ points-told v.1.1.1.1.0 in
      let x = option-same _ _ _ partition-told v.1.1.0 in
      let y = option-plain _ _ _ _ order-told v.1.1.1.0 in
      let z = option-plain _ _ _ _ points-told v.1.1.1.1.0 in
      (cc, cc);
}

-- What a rule stands for: the tokens that spell it, and the same without places. Both bring a sign before a number to
-- one form: a minus stands before a negative number alone, and the number behind it is positive.
use Rattle.std.proofs.Common.{ℕ, suc, List, Option, Some, None, inl, inr, map}
use Rattle.std.specs.Prelude.{ℤ, pos, negsuc, ◌⊎◌, option_map}
use Rattle.std.specs.List.{flat_map}
use Rattle.vtl_values.specs.declared.place.Place.{Place}
use Rattle.vtl_tokens.specs.declared.keyword.Keyword.TheVariants as words
use Rattle.vtl_tokens.specs.declared.sign.Sign.TheVariants as signs
use Rattle.vtl_tokens.specs.declared.token.TokenKind.TheVariants as what
use Rattle.vtl_grammar.specs.Marks.{kind_of}
use Rattle.vtl_grammar.specs.Rules.{Rule, mark, name, integer, number, text, part, ◌▸◌, option, suffix, either, repeated, prefixed, here, Part, OfPart, expression, clause, Prefix, label, component, Of, At}
use Rattle.vtl_grammar.specs.Clauses.{signed}
use Rattle.vtl_spelling.specs.Kinds.{Kinds, ◌&◌, one, key, sig, optional}
use Rattle.vtl_spelling.specs.Trees.{spelled, clause_spelled}
use Rattle.vtl_spelling.specs.Placeless.{nowhere, placeless, clause_placeless}

-- ---- signs

abbrev pub minus_of : ℤ → Option Place
minus_of (pos n) = None
minus_of (negsuc n) = Some nowhere

abbrev pub size_of : ℤ → ℤ
size_of (pos n) = pos n
size_of (negsuc n) = pos (suc n)

abbrev pub in_form : ℤ → Place → Option Place × At ℤ
in_form z p = (minus_of z, record { value = size_of z; place = p })

abbrev pub with_left : {A B C : Type 0} → A × B → A × (B ⊎ C)
with_left v = (v.0, inl v.1)

abbrev pub with_right : {A B C : Type 0} → A × C → A × (B ⊎ C)
with_right v = (v.0, inr v.1)

-- behind a mark
abbrev pub number_formed : (h : Rule) → Option Place × Of h → Option Place × Of h
number_formed integer v = in_form (signed v.0 v.1.value) v.1.place
number_formed number v = in_form (signed v.0 v.1.value) v.1.place
number_formed (either h k) (x, inl w) = with_left (number_formed h (x, w))
number_formed (either h k) (x, inr w) = with_right (number_formed k (x, w))
number_formed _ v = v

abbrev pub formed : (g h : Rule) → Option (Of g) × Of h → Option (Of g) × Of h
formed (mark m) h v = number_formed h v
formed _ h v = v

-- ---- the tokens that spell it

abbrev pub part_spelled : (q : Part) → OfPart q → Kinds
part_spelled (expression m) e = spelled e
part_spelled (clause k) c = clause_spelled c

abbrev pub prefix_spelled : Prefix → List ℕ → Kinds
prefix_spelled label w = one (what.Name w) & sig signs.Colon
prefix_spelled component w = key words.Rule & one (what.Name w)

abbrev pub value_spelled : (g : Rule) → Of g → Kinds
value_spelled (mark m) v = one (kind_of m)
value_spelled name v = one (what.Name v.value)
value_spelled integer v = one (what.Integer v.value)
value_spelled number v = one (what.Number v.value)
value_spelled text v = one (what.Text v.value)
value_spelled (part q) v = part_spelled q v
value_spelled (g ▸ h) v = value_spelled g v.0 & value_spelled h v.1
value_spelled (option g h) v = optional (value_spelled g) (formed g h v).0 & value_spelled h (formed g h v).1
value_spelled (suffix g h) v = value_spelled g v.0 & optional (value_spelled h) v.1
value_spelled (either g h) (inl v) = value_spelled g v
value_spelled (either g h) (inr v) = value_spelled h v
value_spelled (repeated l g h) v = value_spelled g v.0 & flat_map (value_spelled h) v.1
value_spelled (prefixed p g) v = optional (λ w. prefix_spelled p w.value) v.0 & value_spelled g v.1
value_spelled (here g) v = value_spelled g v.1

-- ---- the same without places

abbrev pub part_placeless : (q : Part) → OfPart q → OfPart q
part_placeless (expression m) e = placeless e
part_placeless (clause k) c = clause_placeless c

abbrev pub at_nowhere : {A : Type 0} → At A → At A
at_nowhere v = record { value = v.value; place = nowhere }

abbrev pub value_placeless : (g : Rule) → Of g → Of g
value_placeless (mark m) v = nowhere
value_placeless name v = at_nowhere v
value_placeless integer v = at_nowhere v
value_placeless number v = at_nowhere v
value_placeless text v = at_nowhere v
value_placeless (part q) v = part_placeless q v
value_placeless (g ▸ h) v = (value_placeless g v.0, value_placeless h v.1)
value_placeless (option g h) v = formed g h (option_map (value_placeless g) v.0, value_placeless h v.1)
value_placeless (suffix g h) v = (value_placeless g v.0, option_map (value_placeless h) v.1)
value_placeless (either g h) (inl v) = inl (value_placeless g v)
value_placeless (either g h) (inr v) = inr (value_placeless h v)
value_placeless (repeated l g h) v = (value_placeless g v.0, map (value_placeless h) v.1)
value_placeless (prefixed p g) v = (option_map at_nowhere v.0, value_placeless g v.1)
value_placeless (here g) v = (nowhere, value_placeless g v.1)

-- What reading by a rule gives from what it gives by the parts of it.
use Rattle.std.proofs.Common.{◌≡◌, ℕ, max, List, [], ◌∷◌, Option, Bool, true, false, ◌⊎◌, inl, inr, refl, sym, ap, ◌∙◌, arith}
use Rattle.std.proofs.lemmas.Bool.{cond-true, cond-false}
use Rattle.vtl_values.specs.declared.place.Place.{Place}
use Rattle.vtl_tokens.specs.declared.keyword.Keyword.TheVariants as words
use Rattle.vtl_tokens.specs.declared.sign.Sign.TheVariants as signs
use Rattle.vtl_syntax.specs.declared.ruleset.Ruleset.{Ruleset}
use Rattle.vtl_syntax.specs.declared.ruleset.Ruleset.TheVariants as kinds
use Rattle.vtl_syntax.specs.declared.ruleset.Variable.{Variable}
use Rattle.vtl_syntax.specs.declared.ruleset.DatapointRule.{DatapointRule}
use Rattle.vtl_syntax.specs.declared.ruleset.DatapointRules.{DatapointRules}
use Rattle.vtl_syntax.specs.declared.ruleset.HierarchyRule.{HierarchyRule}
use Rattle.vtl_syntax.specs.declared.ruleset.HierarchyRules.{HierarchyRules}
use Rattle.vtl_grammar.specs.Marks.{Mark, key, sign, Tokens, of_mark}
use Rattle.vtl_grammar.specs.Rules.{Rule, mark, ◌▸◌, either, Of, Text, word}
use Rattle.vtl_grammar.specs.Rulesets.{semicolon, datapoint_rule, datapoint_rule_of, datapoint_rules, datapoint_rules_of, hierarchy_rule, hierarchy_rule_of, hierarchy_rules, hierarchy_rules_of, ruleset_of}
use Rattle.vtl_grammar.specs.Scripts.{definition}
use Rattle.vtl_grammar.specs.Reading.{Kind, Read, Reader, halt, got, ◌>>=◌, mapped, starts, firsts, read_mark}
use Rattle.vtl_parser.specs.RuleParts.{datapoint_parts, datapoint_parts_of, hierarchy_parts, hierarchy_parts_of, rule_read}
use Rattle.vtl_cursor.specs.Views.{IsShownDeep}

-- the same value seen in another way
pub seen_as : {V X Y : Type 0} (of : V → X) (view : V → Y) (f : X → Y) (x : X) (h : ℕ) (rest : Tokens) (r : Read V) → ((v : V) → view v ≡ f (of v)) → IsShownDeep of x h rest r → IsShownDeep view (f x) h rest r
seen_as of view f x h rest r same s = record { value = s.value; reads = s.reads; shows = same s.value ∙ ap f s.shows }

module _ (d : ℕ) where
  pub mark_is : (m : Mark) (ts : Tokens) (r : Read Place) → read_mark m ts ≡ r → rule_read d (mark m) ts ≡ r
  unfolding rule_read
  mark_is m ts r e = e

  -- ---- one after the other

  module _ (g k : Rule) (ts us : Tokens) where
    pub first_halts : (kind : Kind) → rule_read d g ts ≡ halt kind us → rule_read d (g ▸ k) ts ≡ halt kind us
    unfolding rule_read
    first_halts kind e = ap (λ (x : Read (Of g)). x >>= λ a. rule_read d k a.rest >>= λ b. got (a.value, b.value) (max a.levels b.levels) b.rest) e

    module _ (v : Of g) (h : ℕ) (first : rule_read d g ts ≡ got v h us) where
      then_is : rule_read d (g ▸ k) ts ≡ (rule_read d k us >>= λ b. got (v, b.value) (max h b.levels) b.rest)
      unfolding rule_read
      then_is = ap (λ (x : Read (Of g)). x >>= λ a. rule_read d k a.rest >>= λ b. got (a.value, b.value) (max a.levels b.levels) b.rest) first

      pub then_halts : (kind : Kind) (vs : Tokens) → rule_read d k us ≡ halt kind vs → rule_read d (g ▸ k) ts ≡ halt kind vs
      then_halts kind vs e = then_is ∙ ap (λ (y : Read (Of k)). y >>= λ b. got (v, b.value) (max h b.levels) b.rest) e

      pub then_goes : (w : Of k) (i : ℕ) (vs : Tokens) → rule_read d k us ≡ got w i vs → rule_read d (g ▸ k) ts ≡ got (v, w) (max h i) vs
      then_goes w i vs e = then_is ∙ ap (λ (y : Read (Of k)). y >>= λ b. got (v, b.value) (max h b.levels) b.rest) e

  -- something between two others without levels
  pub between_is : (g m e : Rule) {X : Type 0} (of : Of g → Of m → X) (p : Of g) (q : Of e) (x : X) (h : ℕ) (ts us vs ws : Tokens) → rule_read d g ts ≡ got p 0 us → IsShownDeep (of p) x h vs (rule_read d m us) → rule_read d e vs ≡ got q 0 ws
      → IsShownDeep (λ (v : Of (g ▸ m ▸ e)). of v.0 v.1.0) x h ws (rule_read d (g ▸ m ▸ e) ts)
  between_is g m e of p q x h ts us vs ws before s behind =
      let levels : max 0 (max h 0) ≡ h = omega arith in
      record {
        value = (p, (s.value, q));
        reads = then_goes g (m ▸ e) ts us p 0 before (s.value, q) (max h 0) ws (then_goes m e us vs s.value h s.reads q 0 ws behind) ∙ ap (λ (i : ℕ). got (p, (s.value, q)) i ws) levels;
        shows = s.shows;
      }

  -- ---- one or the other

  module _ (g k : Rule) (ts us : Tokens) where
    abbrev left : Read (Of g) → Read (Of g ⊎ Of k)
    left = mapped inl

    abbrev right : Read (Of k) → Read (Of g ⊎ Of k)
    right = mapped inr

    either_left : starts (firsts g) ts ≡ true → rule_read d (either g k) ts ≡ left (rule_read d g ts)
    unfolding rule_read
    either_left some = cond-true (starts (firsts g) ts) (left (rule_read d g ts)) (right (rule_read d k ts)) some

    either_right : starts (firsts g) ts ≡ false → rule_read d (either g k) ts ≡ right (rule_read d k ts)
    unfolding rule_read
    either_right none = cond-false (starts (firsts g) ts) (left (rule_read d g ts)) (right (rule_read d k ts)) none

    pub left_halts : (kind : Kind) → starts (firsts g) ts ≡ true → rule_read d g ts ≡ halt kind us → rule_read d (either g k) ts ≡ halt kind us
    left_halts kind some e = either_left some ∙ ap left e

    pub right_halts : (kind : Kind) → starts (firsts g) ts ≡ false → rule_read d k ts ≡ halt kind us → rule_read d (either g k) ts ≡ halt kind us
    right_halts kind none e = either_right none ∙ ap right e

    pub left_is : {X Y : Type 0} (of : Of g → X) (view : Of g ⊎ Of k → Y) (f : X → Y) (x : X) (h : ℕ) → ((v : Of g) → view (inl v) ≡ f (of v)) → starts (firsts g) ts ≡ true → IsShownDeep of x h us (rule_read d g ts) → IsShownDeep view (f x) h us (rule_read d (either g k) ts)
    left_is of view f x h same some s = record { value = inl s.value; reads = either_left some ∙ ap left s.reads; shows = same s.value ∙ ap f s.shows }

    pub right_is : {X Y : Type 0} (of : Of k → X) (view : Of g ⊎ Of k → Y) (f : X → Y) (x : X) (h : ℕ) → ((v : Of k) → view (inr v) ≡ f (of v)) → starts (firsts g) ts ≡ false → IsShownDeep of x h us (rule_read d k ts) → IsShownDeep view (f x) h us (rule_read d (either g k) ts)
    right_is of view f x h same none s = record { value = inr s.value; reads = either_right none ∙ ap right s.reads; shows = same s.value ∙ ap f s.shows }

-- ---- rulesets

abbrev pub datapoint_rules_from : Place → Text × (List Variable × List DatapointRule) → DatapointRules
datapoint_rules_from p x = record { name = x.0; variables = x.1.0; rules = x.1.1; place = p }

abbrev pub hierarchy_rules_from : Place → Text × (Option (List Variable) × (Text × List HierarchyRule)) → HierarchyRules
hierarchy_rules_from p x = record { name = x.0; variables = x.1.0; component = x.1.1.0; rules = x.1.1.1; place = p }

abbrev datapoint_kind : DatapointRules → Ruleset
datapoint_kind x = kinds.Datapoint x

abbrev hierarchy_kind : HierarchyRules → Ruleset
hierarchy_kind x = kinds.Hierarchy x

module _ (d : ℕ) (p : Place) (ts us : Tokens) where
  pub datapoint_is : (x : Text × (List Variable × List DatapointRule)) (h : ℕ) → IsShownDeep (datapoint_parts_of datapoint_rule datapoint_rule_of) x h us (rule_read d (datapoint_parts datapoint_rule) ts) → IsShownDeep (datapoint_rules_of p) (datapoint_rules_from p x) h us (rule_read d datapoint_rules ts)
  datapoint_is x h s = seen_as (datapoint_parts_of datapoint_rule datapoint_rule_of) (datapoint_rules_of p) (datapoint_rules_from p) x h us (rule_read d datapoint_rules ts) (λ v. refl) s

  pub hierarchy_is : (x : Text × (Option (List Variable) × (Text × List HierarchyRule))) (h : ℕ) → IsShownDeep (hierarchy_parts_of hierarchy_rule hierarchy_rule_of) x h us (rule_read d (hierarchy_parts hierarchy_rule) ts) → IsShownDeep (hierarchy_rules_of p) (hierarchy_rules_from p x) h us (rule_read d hierarchy_rules ts)
  hierarchy_is x h s = seen_as (hierarchy_parts_of hierarchy_rule hierarchy_rule_of) (hierarchy_rules_of p) (hierarchy_rules_from p) x h us (rule_read d hierarchy_rules ts) (λ v. refl) s

  pub datapoint_kind_is : (x : DatapointRules) (h : ℕ) → starts (of_mark (key words.Datapoint) ∷ []) ts ≡ true → IsShownDeep (datapoint_rules_of p) x h us (rule_read d datapoint_rules ts) → IsShownDeep (ruleset_of p) (kinds.Datapoint x) h us (rule_read d (either datapoint_rules hierarchy_rules) ts)
  datapoint_kind_is x h some s = left_is d datapoint_rules hierarchy_rules ts us (datapoint_rules_of p) (ruleset_of p) datapoint_kind x h (λ v. refl) some s

  pub hierarchy_kind_is : (x : HierarchyRules) (h : ℕ) → starts (of_mark (key words.Datapoint) ∷ []) ts ≡ false → IsShownDeep (hierarchy_rules_of p) x h us (rule_read d hierarchy_rules ts) → IsShownDeep (ruleset_of p) (kinds.Hierarchy x) h us (rule_read d (either datapoint_rules hierarchy_rules) ts)
  hierarchy_kind_is x h none s = right_is d datapoint_rules hierarchy_rules ts us (hierarchy_rules_of p) (ruleset_of p) hierarchy_kind x h (λ v. refl) none s

module _ (d : ℕ) (kind : Kind) (ts us : Tokens) where
  pub datapoint_halts : rule_read d (datapoint_parts datapoint_rule) ts ≡ halt kind us → rule_read d datapoint_rules ts ≡ halt kind us
  datapoint_halts e = e

  pub hierarchy_halts : rule_read d (hierarchy_parts hierarchy_rule) ts ≡ halt kind us → rule_read d hierarchy_rules ts ≡ halt kind us
  hierarchy_halts e = e

  pub datapoint_kind_halts : starts (of_mark (key words.Datapoint) ∷ []) ts ≡ true → rule_read d datapoint_rules ts ≡ halt kind us → rule_read d (either datapoint_rules hierarchy_rules) ts ≡ halt kind us
  datapoint_kind_halts some e = left_halts d datapoint_rules hierarchy_rules ts us kind some e

  pub hierarchy_kind_halts : starts (of_mark (key words.Datapoint) ∷ []) ts ≡ false → rule_read d hierarchy_rules ts ≡ halt kind us → rule_read d (either datapoint_rules hierarchy_rules) ts ≡ halt kind us
  hierarchy_kind_halts none e = right_halts d datapoint_rules hierarchy_rules ts us kind none e

-- ---- definitions

module _ (d : ℕ) (g : Rule) where
  pub define_halts : (kind : Kind) (ts us : Tokens) → read_mark (key words.Define) ts ≡ halt kind us → rule_read d (definition g) ts ≡ halt kind us
  define_halts kind ts us e = first_halts d (word words.Define) (g ▸ semicolon) ts us kind (mark_is d (key words.Define) ts (halt kind us) e)

  module _ (ts us : Tokens) (p : Place) (begins : read_mark (key words.Define) ts ≡ got p 0 us) where
    pub kind_halts : (kind : Kind) (vs : Tokens) → rule_read d g us ≡ halt kind vs → rule_read d (definition g) ts ≡ halt kind vs
    kind_halts kind vs e = then_halts d (word words.Define) (g ▸ semicolon) ts us p 0 (mark_is d (key words.Define) ts (got p 0 us) begins) kind vs (first_halts d g semicolon us vs kind e)

    module _ {X : Type 0} (of : Place → Of g → X) (x : X) (h : ℕ) (vs ws : Tokens) (s : IsShownDeep (of p) x h vs (rule_read d g us)) where
      pub semicolon_halts : (kind : Kind) → read_mark (sign signs.Semicolon) vs ≡ halt kind ws → rule_read d (definition g) ts ≡ halt kind ws
      semicolon_halts kind e = then_halts d (word words.Define) (g ▸ semicolon) ts us p 0 (mark_is d (key words.Define) ts (got p 0 us) begins) kind ws (then_halts d g semicolon us vs s.value h s.reads kind ws (mark_is d (sign signs.Semicolon) vs (halt kind ws) e))

      pub definition_is : (q : Place) → read_mark (sign signs.Semicolon) vs ≡ got q 0 ws → IsShownDeep (λ (v : Of (definition g)). of v.0 v.1.0) x h ws (rule_read d (definition g) ts)
      definition_is q e = between_is d (word words.Define) g semicolon of p q x h ts us vs ws (mark_is d (key words.Define) ts (got p 0 us) begins) s (mark_is d (sign signs.Semicolon) vs (got q 0 ws) e)

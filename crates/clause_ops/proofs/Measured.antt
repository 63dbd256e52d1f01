-- What is noted of a clause, one by one.
use Rattle.std.proofs.Common.{◌≡◌, ℕ, ◌+◌, ◌<◌, List, ◌∷◌, ◌++◌, map, drop, length, get_or, Bool, true, false, cond, if◌then◌else◌, Option, None, refl, ap, sym, ◌∙◌}
use Rattle.std.specs.Prelude.{option_and_then}
use Rattle.std.specs.List.{last_or}
use Rattle.std.proofs.lemmas.List.{drop_more}
use Rattle.vtl_values.specs.declared.kind.Role.TheVariants.{Measure}
use Rattle.vtl_values.specs.declared.structure.Component.{Component}
use Rattle.vtl_values.specs.declared.value.Value.{Value}
use Rattle.vtl_values.specs.declared.value.Value.TheVariants.{Text}
use Rattle.data_model.specs.Drafts.{note_beyond, note_value}
use Rattle.point_sets.specs.declared.delta.Change.{Change}
use Rattle.point_sets.specs.Changes.{values_eq, values_of}
use Rattle.data_set_trees.specs.declared.clauses.frame.Frame.{Frame}
use Rattle.data_set_trees.specs.declared.clauses.clause.CheckedClause.{CheckedClause}
use Rattle.data_set_trees.specs.declared.clauses.clause.CheckedClause.TheVariants as clause
use Rattle.data_set_trees.specs.declared.clauses.clause.CheckedSubItem.{CheckedSubItem}
use Rattle.data_set_trees.specs.clauses.Frames.{has_role}
use Rattle.clause_meaning.specs.Clauses.{has_values, key_left, key_with_name, measures, measure_point}
use Rattle.clause_meaning.proofs.Lists.{last-pushed}
use Rattle.clause_eval.specs.Points.{keeps_keys, is_beyond_at, values_at_key}
use Rattle.clause_eval.proofs.Parts.{itself, never-beyond}
use Rattle.held_index.specs.Drafts.{SetDraft}
use Rattle.clause_ops.specs.Noted.{noted_at, noted_change, measure_value_at}

-- ---- in place

-- a clause that leaves points their keys notes one key
pub noted-in-place : (c : CheckedClause) (frame : Frame) (change : Change) (n : SetDraft) → keeps_keys c ≡ true
    → noted_change c frame change n ≡ (if is_beyond_at c change.key (values_of change.new) then note_beyond change.key n else note_value values_eq change.key (values_at_key c frame change.key (values_of change.old) change.key) (values_at_key c frame change.key (values_of change.new) change.key) n)
noted-in-place (clause.Filter condition) frame change n h = refl
noted-in-place (clause.Calc items) frame change n h = refl
noted-in-place (clause.Keep numbers) frame change n h = refl
noted-in-place (clause.Drop numbers) frame change n h = refl
noted-in-place (clause.Rename renames) frame change n h = refl
noted-in-place (clause.Sub items) frame change n h = cc
noted-in-place (clause.Unpivot identifier measure) frame change n h = cc
noted-in-place (clause.Measures items) frame change n h = refl

-- ---- `sub`

module _ (items : List CheckedSubItem) (frame : Frame) (change : Change) (n : SetDraft) where
  -- nothing is noted where the values are others
  pub sub-passed : has_values items change.key ≡ false → noted_change (clause.Sub items) frame change n ≡ n
  sub-passed h = rw (never-beyond (values_of change.new), h) refl

  -- and one key where they are these
  pub sub-noted : has_values items change.key ≡ true → noted_change (clause.Sub items) frame change n ≡ note_value values_eq (key_left items frame change.key) (values_of change.old) (values_of change.new) n
  sub-noted h = rw (never-beyond (values_of change.new), h) (λ i. note_value values_eq (key_left items frame change.key) (itself (values_of change.old) i) (itself (values_of change.new) i) n)

-- ---- `unpivot`

-- what the point that may be at a key has at a key with a measure's name
abbrev pub value_of_key : Frame → List Value → Option (List Value) → List Value → Option (List Value)
value_of_key frame key point to = option_and_then (λ rest. option_and_then (measure_point frame (key ++ rest)) (last_or None to)) point

value-named : (frame : Frame) (key : List Value) (point : Option (List Value)) (c : Component) → value_of_key frame key point (key_with_name key c) ≡ measure_value_at frame c key point
value-named frame key point c = ap (λ (o : Option Value). option_and_then (λ rest. option_and_then (measure_point frame (key ++ rest)) o) point) (last-pushed None key (Text c.name))

module _ (frame : Frame) (key : List Value) (was comes : Option (List Value)) where
  abbrev pub left : List Component → SetDraft → SetDraft
  left cs n = noted_at (value_of_key frame key was) (value_of_key frame key comes) (map (key_with_name key) (measures cs)) n

  left-at : (cs : List Component) (i : ℕ) (c : Component) (b : Bool) (n : SetDraft) → i < length cs → c ≡ get_or cs i c → has_role Measure c ≡ b → left (drop i cs) n ≡ left (drop (i + 1) cs) (if b then note_value values_eq (key_with_name key c) (value_of_key frame key was (key_with_name key c)) (value_of_key frame key comes (key_with_name key c)) n else n)
  left-at cs i c b n within is role =
      ap (λ (ds : List Component). left ds n) (drop_more cs i c within ∙ ap (λ (d : Component). d ∷ drop (i + 1) cs) (sym is))
      ∙ ap (λ (t : Bool). noted_at (value_of_key frame key was) (value_of_key frame key comes) (map (key_with_name key) (cond t (c ∷ measures (drop (i + 1) cs)) (measures (drop (i + 1) cs)))) n) role
      ∙ by_role b
    where
      by_role : (t : Bool) → noted_at (value_of_key frame key was) (value_of_key frame key comes) (map (key_with_name key) (cond t (c ∷ measures (drop (i + 1) cs)) (measures (drop (i + 1) cs)))) n ≡ left (drop (i + 1) cs) (if t then note_value values_eq (key_with_name key c) (value_of_key frame key was (key_with_name key c)) (value_of_key frame key comes (key_with_name key c)) n else n)
      by_role true = refl
      by_role false = refl

  -- a component that is no measure
  pub left-passed : (cs : List Component) (i : ℕ) (c : Component) (n : SetDraft) → i < length cs → c ≡ get_or cs i c → has_role Measure c ≡ false → left (drop i cs) n ≡ left (drop (i + 1) cs) n
  left-passed cs i c n within is role = left-at cs i c false n within is role

  -- a measure
  pub left-noted : (cs : List Component) (i : ℕ) (c : Component) (n : SetDraft) → i < length cs → c ≡ get_or cs i c → has_role Measure c ≡ true → left (drop i cs) n ≡ left (drop (i + 1) cs) (note_value values_eq (key_with_name key c) (measure_value_at frame c key was) (measure_value_at frame c key comes) n)
  left-noted cs i c n within is role =
      left-at cs i c true n within is role
      ∙ (λ j. left (drop (i + 1) cs) (note_value values_eq (key_with_name key c) (value-named frame key was c j) (value-named frame key comes c j) n))

-- the whole change is noted measure by measure
pub unpivot-noted : (identifier measure : List ℕ) (frame : Frame) (change : Change) (n : SetDraft) → noted_change (clause.Unpivot identifier measure) frame change n ≡ noted_at (value_of_key frame change.key (values_of change.old)) (value_of_key frame change.key (values_of change.new)) (map (key_with_name change.key) (measures frame.components)) n
unpivot-noted identifier measure frame change n = rw (never-beyond (values_of change.new)) refl

-- What the rule of `exists_in` notes.
use Rattle.std.specs.Prelude.{◌≡◌, Bool, false, not, List, [], Option, if◌then◌else◌}
use Rattle.vtl_values.specs.declared.kind.Role.TheVariants.{Viral}
use Rattle.vtl_values.specs.declared.value.Value.{Value}
use Rattle.vtl_values.specs.Order.{key_cmp}
use Rattle.data_model.specs.Deltas.{BeginsAt, apply}
use Rattle.data_model.specs.Drafts.{note_value, IsDraft}
use Rattle.point_sets.specs.DataSets.{DataSet}
use Rattle.point_sets.specs.Changes.{Changes, values_eq}
use Rattle.structured_sets.specs.Fitting.{IsSetOf}
use Rattle.held_index.specs.Drafts.{SetDraft}
use Rattle.held_index.specs.Holdings.{Holding}
use Rattle.data_set_trees.specs.clauses.Frames.{numbers_of}
use Rattle.operator_meaning.specs.exists.Exists.{ExistsOn, exists_working}
use Rattle.operator_meaning.specs.exists.Typed.{IsTypedExistsOn}
use Rattle.exists_ops.specs.Parts.{left_want, right_want, has_part}
use Rattle.exists_ops.specs.Told.{told_of}
use Rattle.exists_ops.specs.declared.notes.Met.{Met}
use Rattle.exists_ops.specs.declared.told.Told.{Told}

-- what the result had and has at a key is noted, where points of the first operand were there and come there
abbrev pub noted_at : Told → Met → List Value → Option (List Value) → Option (List Value) → SetDraft → SetDraft
noted_at told met key old new n = note_value values_eq key (told_of told.rows told.virals met.was key old) (told_of told.rows told.virals met.is key new) n

-- The operator is on these two data sets of its operands' structures, before and after their news, and they are held as
-- its rule wants.
pub record IsFor (e : ExistsOn) (told : Told) (a b : Holding) (d f : Changes) : Type 0 where
  pub typed : IsTypedExistsOn e
  pub rows_are : told.rows ≡ e.rows
  pub virals_are : told.virals ≡ numbers_of Viral e.left
  pub left_held : a.want ≡ left_want e
  pub right_held : b.want ≡ right_want e
  pub left_fits : IsSetOf e.left a.content
  pub left_fits_after : IsSetOf e.left (apply d a.content)
  pub right_fits : IsSetOf e.right b.content
  pub right_fits_after : IsSetOf e.right (apply f b.content)
  pub left_begins : BeginsAt d a.content
  pub right_begins : BeginsAt f b.content

-- whether the second operand had a point in a part, and has one after its news
pub record IsMetIn (e : ExistsOn) (b : DataSet) (f : Changes) (part : List Value) (met : Met) : Type 0 where
  pub was_met : met.was ≡ has_part (right_want e) b part
  pub is_met : met.is ≡ has_part (right_want e) (apply f b) part

-- whether one of them is true, and not the other
abbrev pub differ : Bool → Bool → Bool
differ a b = if a then not b else b

-- these keys are noted
abbrev pub IsNoted : ExistsOn → DataSet → DataSet → Changes → Changes → List (List Value) → SetDraft → Type 0
IsNoted e a b d f ks n = IsDraft {R = key_cmp} (λ key. false) [] (exists_working e a b).value (exists_working e (apply d a) (apply f b)).value ks n

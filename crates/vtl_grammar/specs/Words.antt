-- Choices between words or signs: what a table of them says, the rule that reads one of them, and the tables.
use Rattle.std.specs.Prelude.{List, [], ◌∷◌}
use Rattle.std.proofs.Common.{inl, inr}
use Rattle.vtl_tokens.specs.declared.keyword.Keyword.TheVariants as words
use Rattle.vtl_tokens.specs.declared.sign.Sign.TheVariants as signs
use Rattle.vtl_syntax.specs.declared.words.ItemRole.{ItemRole}
use Rattle.vtl_syntax.specs.declared.words.ItemRole.TheVariants as role
use Rattle.vtl_syntax.specs.declared.words.GroupWord.{GroupWord}
use Rattle.vtl_syntax.specs.declared.words.GroupWord.TheVariants as group_word
use Rattle.vtl_syntax.specs.declared.words.Direction.{Direction}
use Rattle.vtl_syntax.specs.declared.words.Direction.TheVariants as direction
use Rattle.vtl_syntax.specs.declared.words.ExistsRows.{ExistsRows}
use Rattle.vtl_syntax.specs.declared.words.ExistsRows.TheVariants as rows
use Rattle.vtl_syntax.specs.declared.words.FillSpan.{FillSpan}
use Rattle.vtl_syntax.specs.declared.words.FillSpan.TheVariants as span
use Rattle.vtl_syntax.specs.declared.words.RowsOutput.{RowsOutput}
use Rattle.vtl_syntax.specs.declared.words.RowsOutput.TheVariants as rows_output
use Rattle.vtl_syntax.specs.declared.words.CheckOutput.{CheckOutput}
use Rattle.vtl_syntax.specs.declared.words.CheckOutput.TheVariants as check_output
use Rattle.vtl_syntax.specs.declared.words.Mode.{Mode}
use Rattle.vtl_syntax.specs.declared.words.Mode.TheVariants as mode
use Rattle.vtl_syntax.specs.declared.words.HierarchyInput.{HierarchyInput}
use Rattle.vtl_syntax.specs.declared.words.HierarchyInput.TheVariants as hierarchy_input
use Rattle.vtl_syntax.specs.declared.words.HierarchyOutput.{HierarchyOutput}
use Rattle.vtl_syntax.specs.declared.words.HierarchyOutput.TheVariants as hierarchy_output
use Rattle.vtl_syntax.specs.declared.words.CheckInput.{CheckInput}
use Rattle.vtl_syntax.specs.declared.words.CheckInput.TheVariants as check_input
use Rattle.vtl_syntax.specs.declared.words.Relation.{Relation}
use Rattle.vtl_syntax.specs.declared.words.Relation.TheVariants as relation
use Rattle.vtl_syntax.specs.declared.words.Sign.{Sign}
use Rattle.vtl_syntax.specs.declared.words.Sign.TheVariants as plus_minus
use Rattle.vtl_syntax.specs.declared.words.Sort.{Sort}
use Rattle.vtl_syntax.specs.declared.words.Sort.TheVariants as sort
use Rattle.vtl_grammar.specs.declared.mark.Mark.{Mark as WordOrSign}
use Rattle.vtl_grammar.specs.declared.mark.Mark.TheVariants as code
use Rattle.vtl_grammar.specs.Marks.{Mark, key, sign}
use Rattle.vtl_grammar.specs.Rules.{Rule, mark, either, Of}

-- a mark of the code, as the grammar has it
abbrev pub mark_of : WordOrSign → Mark
mark_of (code.Word w) = key w
mark_of (code.Sign s) = sign s

-- a table: the word or the sign that writes each choice, and the choices in the order in which the grammar has them
pub record Words (A : Type 0) : Type 0 where
  pub marked : A → Mark
  pub first : A
  pub others : List A

-- the mark of one of these
abbrev pub one_among : {A : Type 0} → (A → Mark) → A → List A → Rule
one_among f x [] = mark (f x)
one_among f x (y ∷ ys) = either (mark (f x)) (one_among f y ys)

-- the one whose mark it is
abbrev pub chosen_among : {A : Type 0} → (f : A → Mark) → (x : A) → (ys : List A) → Of (one_among f x ys) → A
chosen_among f x [] p = x
chosen_among f x (y ∷ ys) (inl p) = x
chosen_among f x (y ∷ ys) (inr v) = chosen_among f y ys v

-- one of the table, and which it is
abbrev pub one_of : {A : Type 0} → Words A → Rule
one_of w = one_among w.marked w.first w.others

abbrev pub chosen : {A : Type 0} → (w : Words A) → Of (one_of w) → A
chosen w v = chosen_among w.marked w.first w.others v

-- ---- clauses and windows

abbrev pub role_mark : ItemRole → Mark
role_mark role.Measure = key words.Measure
role_mark role.Attribute = key words.Attribute

abbrev pub roles : Words ItemRole
roles = record { marked = role_mark; first = role.Measure; others = role.Attribute ∷ [] }

abbrev pub group_mark : GroupWord → Mark
group_mark group_word.By = key words.By
group_mark group_word.Except = key words.Except

abbrev pub group_words : Words GroupWord
group_words = record { marked = group_mark; first = group_word.By; others = group_word.Except ∷ [] }

abbrev pub direction_mark : Direction → Mark
direction_mark direction.Ascending = key words.Asc
direction_mark direction.Descending = key words.Desc

abbrev pub directions : Words Direction
directions = record { marked = direction_mark; first = direction.Ascending; others = direction.Descending ∷ [] }

-- ---- calls

abbrev pub rows_mark : ExistsRows → Mark
rows_mark rows.All = key words.All
rows_mark rows.True = key words.True
rows_mark rows.False = key words.False

abbrev pub exists_rows : Words ExistsRows
exists_rows = record { marked = rows_mark; first = rows.All; others = rows.True ∷ rows.False ∷ [] }

abbrev pub span_mark : FillSpan → Mark
span_mark span.All = key words.All
span_mark span.Single = key words.Single

abbrev pub fill_spans : Words FillSpan
fill_spans = record { marked = span_mark; first = span.All; others = span.Single ∷ [] }

abbrev pub rows_output_mark : RowsOutput → Mark
rows_output_mark rows_output.Invalid = key words.Invalid
rows_output_mark rows_output.All = key words.All
rows_output_mark rows_output.AllMeasures = key words.AllMeasures

abbrev pub rows_outputs : Words RowsOutput
rows_outputs = record { marked = rows_output_mark; first = rows_output.Invalid; others = rows_output.All ∷ rows_output.AllMeasures ∷ [] }

abbrev pub check_output_mark : CheckOutput → Mark
check_output_mark check_output.All = key words.All
check_output_mark check_output.Invalid = key words.Invalid

abbrev pub check_outputs : Words CheckOutput
check_outputs = record { marked = check_output_mark; first = check_output.All; others = check_output.Invalid ∷ [] }

abbrev pub mode_mark : Mode → Mark
mode_mark mode.NonNull = key words.NonNull
mode_mark mode.NonZero = key words.NonZero
mode_mark mode.PartialNull = key words.PartialNull
mode_mark mode.PartialZero = key words.PartialZero
mode_mark mode.AlwaysNull = key words.AlwaysNull
mode_mark mode.AlwaysZero = key words.AlwaysZero

abbrev pub modes : Words Mode
modes = record { marked = mode_mark; first = mode.NonNull; others = mode.NonZero ∷ mode.PartialNull ∷ mode.PartialZero ∷ mode.AlwaysNull ∷ mode.AlwaysZero ∷ [] }

abbrev pub hierarchy_input_mark : HierarchyInput → Mark
hierarchy_input_mark hierarchy_input.Rule = key words.Rule
hierarchy_input_mark hierarchy_input.Dataset = key words.Dataset
hierarchy_input_mark hierarchy_input.RulePriority = key words.RulePriority

abbrev pub hierarchy_inputs : Words HierarchyInput
hierarchy_inputs = record { marked = hierarchy_input_mark; first = hierarchy_input.Rule; others = hierarchy_input.Dataset ∷ hierarchy_input.RulePriority ∷ [] }

abbrev pub hierarchy_output_mark : HierarchyOutput → Mark
hierarchy_output_mark hierarchy_output.Computed = key words.Computed
hierarchy_output_mark hierarchy_output.All = key words.All

abbrev pub hierarchy_outputs : Words HierarchyOutput
hierarchy_outputs = record { marked = hierarchy_output_mark; first = hierarchy_output.Computed; others = hierarchy_output.All ∷ [] }

abbrev pub check_input_mark : CheckInput → Mark
check_input_mark check_input.Dataset = key words.Dataset
check_input_mark check_input.DatasetPriority = key words.DatasetPriority

abbrev pub check_inputs : Words CheckInput
check_inputs = record { marked = check_input_mark; first = check_input.Dataset; others = check_input.DatasetPriority ∷ [] }

-- ---- rulesets and operators

abbrev pub relation_mark : Relation → Mark
relation_mark relation.Equal = sign signs.Equal
relation_mark relation.Less = sign signs.LessThan
relation_mark relation.Greater = sign signs.GreaterThan
relation_mark relation.AtMost = sign signs.AtMost
relation_mark relation.AtLeast = sign signs.AtLeast

abbrev pub relations : Words Relation
relations = record { marked = relation_mark; first = relation.Equal; others = relation.Less ∷ relation.Greater ∷ relation.AtMost ∷ relation.AtLeast ∷ [] }

abbrev pub plus_minus_mark : Sign → Mark
plus_minus_mark plus_minus.Plus = sign signs.Plus
plus_minus_mark plus_minus.Minus = sign signs.Minus

abbrev pub plus_or_minus : Words Sign
plus_or_minus = record { marked = plus_minus_mark; first = plus_minus.Plus; others = plus_minus.Minus ∷ [] }

abbrev pub sort_mark : Sort → Mark
sort_mark sort.Dataset = key words.Dataset
sort_mark sort.Integer = key words.Integer
sort_mark sort.Number = key words.Number
sort_mark sort.Text = key words.String
sort_mark sort.Truth = key words.Boolean

abbrev pub sorts : Words Sort
sorts = record { marked = sort_mark; first = sort.Dataset; others = sort.Integer ∷ sort.Number ∷ sort.Text ∷ sort.Truth ∷ [] }

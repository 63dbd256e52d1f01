-- Maps over one level of an expression, one after the other.
use mathlib.Core.Sorted.{map-map}
use Rattle.std.proofs.Common.{◌≡◌, sym, ap, ◌∙◌}
use Rattle.vtl_syntax.specs.declared.expr.Clause.TheBlock.{the_members, member-Clause, member-Expr, member-Groups, member-Item, member-JoinOperand, member-SubstrRange, body-Expr}
use Rattle.vtl_syntax.specs.declared.expr.Clause.TheOpen.{Expr-F, JoinOperand-F, SubstrRange-F}
use Rattle.vtl_syntax.specs.declared.expr.Expr.{map-Expr, map_is-Expr}
use Rattle.vtl_syntax.specs.declared.expr.JoinOperand.{map-JoinOperand}
use Rattle.vtl_syntax.specs.declared.expr.SubstrRange.{map-SubstrRange}

-- a type for each kind of part
pub record Family : Type 1 where
  pub of_Clause : Type 0
  pub of_Expr : Type 0
  pub of_Groups : Type 0
  pub of_Item : Type 0
  pub of_JoinOperand : Type 0
  pub of_SubstrRange : Type 0

abbrev pub at : Family → the_members → Type 0
at X member-Clause = X.of_Clause
at X member-Expr = X.of_Expr
at X member-Groups = X.of_Groups
at X member-Item = X.of_Item
at X member-JoinOperand = X.of_JoinOperand
at X member-SubstrRange = X.of_SubstrRange

-- a function for each kind of part
pub record Maps (X Y : Family) : Type 0 where
  pub on_Clause : X.of_Clause → Y.of_Clause
  pub on_Expr : X.of_Expr → Y.of_Expr
  pub on_Groups : X.of_Groups → Y.of_Groups
  pub on_Item : X.of_Item → Y.of_Item
  pub on_JoinOperand : X.of_JoinOperand → Y.of_JoinOperand
  pub on_SubstrRange : X.of_SubstrRange → Y.of_SubstrRange

abbrev pub each : {X Y : Family} → Maps X Y → (j : the_members) → at X j → at Y j
each h member-Clause x = h.on_Clause x
each h member-Expr x = h.on_Expr x
each h member-Groups x = h.on_Groups x
each h member-Item x = h.on_Item x
each h member-JoinOperand x = h.on_JoinOperand x
each h member-SubstrRange x = h.on_SubstrRange x

abbrev pub after : {X Y Z : Family} → Maps Y Z → Maps X Y → Maps X Z
after k h = record { on_Clause = λ x. k.on_Clause (h.on_Clause x); on_Expr = λ x. k.on_Expr (h.on_Expr x); on_Groups = λ x. k.on_Groups (h.on_Groups x); on_Item = λ x. k.on_Item (h.on_Item x); on_JoinOperand = λ x. k.on_JoinOperand (h.on_JoinOperand x); on_SubstrRange = λ x. k.on_SubstrRange (h.on_SubstrRange x) }

abbrev pub over-Expr : {X Y : Family} → Maps X Y → Expr-F X.of_Clause X.of_Expr X.of_Groups X.of_Item X.of_JoinOperand X.of_SubstrRange → Expr-F Y.of_Clause Y.of_Expr Y.of_Groups Y.of_Item Y.of_JoinOperand Y.of_SubstrRange
over-Expr {X} {Y} h x = map-Expr X.of_Clause X.of_Expr X.of_Groups X.of_Item X.of_JoinOperand X.of_SubstrRange Y.of_Clause Y.of_Expr Y.of_Groups Y.of_Item Y.of_JoinOperand Y.of_SubstrRange h.on_Clause h.on_Expr h.on_Groups h.on_Item h.on_JoinOperand h.on_SubstrRange x

pub twice-Expr : {X Y Z : Family} (k : Maps Y Z) (h : Maps X Y) (x : Expr-F X.of_Clause X.of_Expr X.of_Groups X.of_Item X.of_JoinOperand X.of_SubstrRange) → over-Expr k (over-Expr h x) ≡ over-Expr (after k h) x
twice-Expr {X} {Y} {Z} k h x = ap (over-Expr k) (sym (map_is-Expr (at X) (at Y) (each h) x)) ∙ sym (map_is-Expr (at Y) (at Z) (each k) ((body-Expr).map (at X) (at Y) (each h) x)) ∙ map-map the_members body-Expr (at X) (at Y) (at Z) (each h) (each k) x ∙ map_is-Expr (at X) (at Z) (each (after k h)) x

abbrev pub over-JoinOperand : {X Y : Family} → Maps X Y → JoinOperand-F X.of_Clause X.of_Expr X.of_Groups X.of_Item X.of_JoinOperand X.of_SubstrRange → JoinOperand-F Y.of_Clause Y.of_Expr Y.of_Groups Y.of_Item Y.of_JoinOperand Y.of_SubstrRange
over-JoinOperand {X} {Y} h x = map-JoinOperand X.of_Clause X.of_Expr X.of_Groups X.of_Item X.of_JoinOperand X.of_SubstrRange Y.of_Clause Y.of_Expr Y.of_Groups Y.of_Item Y.of_JoinOperand Y.of_SubstrRange h.on_Clause h.on_Expr h.on_Groups h.on_Item h.on_JoinOperand h.on_SubstrRange x

abbrev pub over-SubstrRange : {X Y : Family} → Maps X Y → SubstrRange-F X.of_Clause X.of_Expr X.of_Groups X.of_Item X.of_JoinOperand X.of_SubstrRange → SubstrRange-F Y.of_Clause Y.of_Expr Y.of_Groups Y.of_Item Y.of_JoinOperand Y.of_SubstrRange
over-SubstrRange {X} {Y} h x = map-SubstrRange X.of_Clause X.of_Expr X.of_Groups X.of_Item X.of_JoinOperand X.of_SubstrRange Y.of_Clause Y.of_Expr Y.of_Groups Y.of_Item Y.of_JoinOperand Y.of_SubstrRange h.on_Clause h.on_Expr h.on_Groups h.on_Item h.on_JoinOperand h.on_SubstrRange x

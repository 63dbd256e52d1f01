-- Maps over one level of a tree, one after the other.
use mathlib.Core.Sorted.{map-map, map-id}
use Rattle.std.proofs.Common.{◌≡◌, refl, sym, ap, ◌∙◌}
use Rattle.vtl_syntax.specs.declared.expr.Clause.TheBlock.{the_members, member-Clause, member-Expr, member-Groups, member-Item, member-JoinOperand, member-SubstrRange, body-Clause, body-Expr, body-Groups, body-Item, body-JoinOperand, body-SubstrRange}
use Rattle.vtl_syntax.specs.declared.expr.Clause.TheOpen.{Expr-F, Clause-F, Groups-F, Item-F, JoinOperand-F, SubstrRange-F}
use Rattle.vtl_syntax.specs.declared.expr.Clause.{map-Clause, map_is-Clause}
use Rattle.vtl_syntax.specs.declared.expr.Expr.{map-Expr, map_is-Expr}
use Rattle.vtl_syntax.specs.declared.expr.Groups.{map-Groups, map_is-Groups}
use Rattle.vtl_syntax.specs.declared.expr.Item.{map-Item, map_is-Item}
use Rattle.vtl_syntax.specs.declared.expr.JoinOperand.{map-JoinOperand, map_is-JoinOperand}
use Rattle.vtl_syntax.specs.declared.expr.SubstrRange.{map-SubstrRange, map_is-SubstrRange}

-- a type for each kind of part
pub record Family : Type 1 where
  pub of_Clause : Type 0
  pub of_Expr : Type 0
  pub of_Groups : Type 0
  pub of_Item : Type 0
  pub of_JoinOperand : Type 0
  pub of_SubstrRange : Type 0

abbrev pub at : Family → the_members → Type 0
at X member-Clause = X.of_Clause
at X member-Expr = X.of_Expr
at X member-Groups = X.of_Groups
at X member-Item = X.of_Item
at X member-JoinOperand = X.of_JoinOperand
at X member-SubstrRange = X.of_SubstrRange

-- a function for each kind of part
pub record Maps (X Y : Family) : Type 0 where
  pub on_Clause : X.of_Clause → Y.of_Clause
  pub on_Expr : X.of_Expr → Y.of_Expr
  pub on_Groups : X.of_Groups → Y.of_Groups
  pub on_Item : X.of_Item → Y.of_Item
  pub on_JoinOperand : X.of_JoinOperand → Y.of_JoinOperand
  pub on_SubstrRange : X.of_SubstrRange → Y.of_SubstrRange

abbrev pub each : {X Y : Family} → Maps X Y → (j : the_members) → at X j → at Y j
each h member-Clause x = h.on_Clause x
each h member-Expr x = h.on_Expr x
each h member-Groups x = h.on_Groups x
each h member-Item x = h.on_Item x
each h member-JoinOperand x = h.on_JoinOperand x
each h member-SubstrRange x = h.on_SubstrRange x

abbrev pub after : {X Y Z : Family} → Maps Y Z → Maps X Y → Maps X Z
after k h = record { on_Clause = λ x. k.on_Clause (h.on_Clause x); on_Expr = λ x. k.on_Expr (h.on_Expr x); on_Groups = λ x. k.on_Groups (h.on_Groups x); on_Item = λ x. k.on_Item (h.on_Item x); on_JoinOperand = λ x. k.on_JoinOperand (h.on_JoinOperand x); on_SubstrRange = λ x. k.on_SubstrRange (h.on_SubstrRange x) }

abbrev pub over-Clause : {X Y : Family} → Maps X Y → Clause-F X.of_Clause X.of_Expr X.of_Groups X.of_Item X.of_JoinOperand X.of_SubstrRange → Clause-F Y.of_Clause Y.of_Expr Y.of_Groups Y.of_Item Y.of_JoinOperand Y.of_SubstrRange
over-Clause {X} {Y} h x = map-Clause X.of_Clause X.of_Expr X.of_Groups X.of_Item X.of_JoinOperand X.of_SubstrRange Y.of_Clause Y.of_Expr Y.of_Groups Y.of_Item Y.of_JoinOperand Y.of_SubstrRange h.on_Clause h.on_Expr h.on_Groups h.on_Item h.on_JoinOperand h.on_SubstrRange x

pub twice-Clause : {X Y Z : Family} (k : Maps Y Z) (h : Maps X Y) (x : Clause-F X.of_Clause X.of_Expr X.of_Groups X.of_Item X.of_JoinOperand X.of_SubstrRange) → over-Clause k (over-Clause h x) ≡ over-Clause (after k h) x
twice-Clause {X} {Y} {Z} k h x = ap (over-Clause k) (sym (map_is-Clause (at X) (at Y) (each h) x)) ∙ sym (map_is-Clause (at Y) (at Z) (each k) ((body-Clause).map (at X) (at Y) (each h) x)) ∙ map-map the_members body-Clause (at X) (at Y) (at Z) (each h) (each k) x ∙ map_is-Clause (at X) (at Z) (each (after k h)) x

abbrev pub over-Expr : {X Y : Family} → Maps X Y → Expr-F X.of_Clause X.of_Expr X.of_Groups X.of_Item X.of_JoinOperand X.of_SubstrRange → Expr-F Y.of_Clause Y.of_Expr Y.of_Groups Y.of_Item Y.of_JoinOperand Y.of_SubstrRange
over-Expr {X} {Y} h x = map-Expr X.of_Clause X.of_Expr X.of_Groups X.of_Item X.of_JoinOperand X.of_SubstrRange Y.of_Clause Y.of_Expr Y.of_Groups Y.of_Item Y.of_JoinOperand Y.of_SubstrRange h.on_Clause h.on_Expr h.on_Groups h.on_Item h.on_JoinOperand h.on_SubstrRange x

pub twice-Expr : {X Y Z : Family} (k : Maps Y Z) (h : Maps X Y) (x : Expr-F X.of_Clause X.of_Expr X.of_Groups X.of_Item X.of_JoinOperand X.of_SubstrRange) → over-Expr k (over-Expr h x) ≡ over-Expr (after k h) x
twice-Expr {X} {Y} {Z} k h x = ap (over-Expr k) (sym (map_is-Expr (at X) (at Y) (each h) x)) ∙ sym (map_is-Expr (at Y) (at Z) (each k) ((body-Expr).map (at X) (at Y) (each h) x)) ∙ map-map the_members body-Expr (at X) (at Y) (at Z) (each h) (each k) x ∙ map_is-Expr (at X) (at Z) (each (after k h)) x

abbrev pub over-Groups : {X Y : Family} → Maps X Y → Groups-F X.of_Clause X.of_Expr X.of_Groups X.of_Item X.of_JoinOperand X.of_SubstrRange → Groups-F Y.of_Clause Y.of_Expr Y.of_Groups Y.of_Item Y.of_JoinOperand Y.of_SubstrRange
over-Groups {X} {Y} h x = map-Groups X.of_Clause X.of_Expr X.of_Groups X.of_Item X.of_JoinOperand X.of_SubstrRange Y.of_Clause Y.of_Expr Y.of_Groups Y.of_Item Y.of_JoinOperand Y.of_SubstrRange h.on_Clause h.on_Expr h.on_Groups h.on_Item h.on_JoinOperand h.on_SubstrRange x

pub twice-Groups : {X Y Z : Family} (k : Maps Y Z) (h : Maps X Y) (x : Groups-F X.of_Clause X.of_Expr X.of_Groups X.of_Item X.of_JoinOperand X.of_SubstrRange) → over-Groups k (over-Groups h x) ≡ over-Groups (after k h) x
twice-Groups {X} {Y} {Z} k h x = ap (over-Groups k) (sym (map_is-Groups (at X) (at Y) (each h) x)) ∙ sym (map_is-Groups (at Y) (at Z) (each k) ((body-Groups).map (at X) (at Y) (each h) x)) ∙ map-map the_members body-Groups (at X) (at Y) (at Z) (each h) (each k) x ∙ map_is-Groups (at X) (at Z) (each (after k h)) x

abbrev pub over-Item : {X Y : Family} → Maps X Y → Item-F X.of_Clause X.of_Expr X.of_Groups X.of_Item X.of_JoinOperand X.of_SubstrRange → Item-F Y.of_Clause Y.of_Expr Y.of_Groups Y.of_Item Y.of_JoinOperand Y.of_SubstrRange
over-Item {X} {Y} h x = map-Item X.of_Clause X.of_Expr X.of_Groups X.of_Item X.of_JoinOperand X.of_SubstrRange Y.of_Clause Y.of_Expr Y.of_Groups Y.of_Item Y.of_JoinOperand Y.of_SubstrRange h.on_Clause h.on_Expr h.on_Groups h.on_Item h.on_JoinOperand h.on_SubstrRange x

pub twice-Item : {X Y Z : Family} (k : Maps Y Z) (h : Maps X Y) (x : Item-F X.of_Clause X.of_Expr X.of_Groups X.of_Item X.of_JoinOperand X.of_SubstrRange) → over-Item k (over-Item h x) ≡ over-Item (after k h) x
twice-Item {X} {Y} {Z} k h x = ap (over-Item k) (sym (map_is-Item (at X) (at Y) (each h) x)) ∙ sym (map_is-Item (at Y) (at Z) (each k) ((body-Item).map (at X) (at Y) (each h) x)) ∙ map-map the_members body-Item (at X) (at Y) (at Z) (each h) (each k) x ∙ map_is-Item (at X) (at Z) (each (after k h)) x

abbrev pub over-JoinOperand : {X Y : Family} → Maps X Y → JoinOperand-F X.of_Clause X.of_Expr X.of_Groups X.of_Item X.of_JoinOperand X.of_SubstrRange → JoinOperand-F Y.of_Clause Y.of_Expr Y.of_Groups Y.of_Item Y.of_JoinOperand Y.of_SubstrRange
over-JoinOperand {X} {Y} h x = map-JoinOperand X.of_Clause X.of_Expr X.of_Groups X.of_Item X.of_JoinOperand X.of_SubstrRange Y.of_Clause Y.of_Expr Y.of_Groups Y.of_Item Y.of_JoinOperand Y.of_SubstrRange h.on_Clause h.on_Expr h.on_Groups h.on_Item h.on_JoinOperand h.on_SubstrRange x

pub twice-JoinOperand : {X Y Z : Family} (k : Maps Y Z) (h : Maps X Y) (x : JoinOperand-F X.of_Clause X.of_Expr X.of_Groups X.of_Item X.of_JoinOperand X.of_SubstrRange) → over-JoinOperand k (over-JoinOperand h x) ≡ over-JoinOperand (after k h) x
twice-JoinOperand {X} {Y} {Z} k h x = ap (over-JoinOperand k) (sym (map_is-JoinOperand (at X) (at Y) (each h) x)) ∙ sym (map_is-JoinOperand (at Y) (at Z) (each k) ((body-JoinOperand).map (at X) (at Y) (each h) x)) ∙ map-map the_members body-JoinOperand (at X) (at Y) (at Z) (each h) (each k) x ∙ map_is-JoinOperand (at X) (at Z) (each (after k h)) x

abbrev pub over-SubstrRange : {X Y : Family} → Maps X Y → SubstrRange-F X.of_Clause X.of_Expr X.of_Groups X.of_Item X.of_JoinOperand X.of_SubstrRange → SubstrRange-F Y.of_Clause Y.of_Expr Y.of_Groups Y.of_Item Y.of_JoinOperand Y.of_SubstrRange
over-SubstrRange {X} {Y} h x = map-SubstrRange X.of_Clause X.of_Expr X.of_Groups X.of_Item X.of_JoinOperand X.of_SubstrRange Y.of_Clause Y.of_Expr Y.of_Groups Y.of_Item Y.of_JoinOperand Y.of_SubstrRange h.on_Clause h.on_Expr h.on_Groups h.on_Item h.on_JoinOperand h.on_SubstrRange x

pub twice-SubstrRange : {X Y Z : Family} (k : Maps Y Z) (h : Maps X Y) (x : SubstrRange-F X.of_Clause X.of_Expr X.of_Groups X.of_Item X.of_JoinOperand X.of_SubstrRange) → over-SubstrRange k (over-SubstrRange h x) ≡ over-SubstrRange (after k h) x
twice-SubstrRange {X} {Y} {Z} k h x = ap (over-SubstrRange k) (sym (map_is-SubstrRange (at X) (at Y) (each h) x)) ∙ sym (map_is-SubstrRange (at Y) (at Z) (each k) ((body-SubstrRange).map (at X) (at Y) (each h) x)) ∙ map-map the_members body-SubstrRange (at X) (at Y) (at Z) (each h) (each k) x ∙ map_is-SubstrRange (at X) (at Z) (each (after k h)) x

abbrev pub same : (X : Family) → Maps X X
same X = record { on_Clause = λ x. x; on_Expr = λ x. x; on_Groups = λ x. x; on_Item = λ x. x; on_JoinOperand = λ x. x; on_SubstrRange = λ x. x }

each_is : (X : Family) (j : the_members) (x : at X j) → each (same X) j x ≡ x
each_is X member-Clause x = refl
each_is X member-Expr x = refl
each_is X member-Groups x = refl
each_is X member-Item x = refl
each_is X member-JoinOperand x = refl
each_is X member-SubstrRange x = refl

each_same : (X : Family) → each (same X) ≡ (λ j x. x)
each_same X = λ i j x. each_is X j x i

same_map-Clause : (X : Family) (x : Clause-F X.of_Clause X.of_Expr X.of_Groups X.of_Item X.of_JoinOperand X.of_SubstrRange) → (body-Clause).map (at X) (at X) (each (same X)) x ≡ x
same_map-Clause X x = ap (λ (h : (j : the_members) → at X j → at X j). (body-Clause).map (at X) (at X) h x) (each_same X) ∙ map-id the_members body-Clause (at X) x

same_map-Expr : (X : Family) (x : Expr-F X.of_Clause X.of_Expr X.of_Groups X.of_Item X.of_JoinOperand X.of_SubstrRange) → (body-Expr).map (at X) (at X) (each (same X)) x ≡ x
same_map-Expr X x = ap (λ (h : (j : the_members) → at X j → at X j). (body-Expr).map (at X) (at X) h x) (each_same X) ∙ map-id the_members body-Expr (at X) x

same_map-Groups : (X : Family) (x : Groups-F X.of_Clause X.of_Expr X.of_Groups X.of_Item X.of_JoinOperand X.of_SubstrRange) → (body-Groups).map (at X) (at X) (each (same X)) x ≡ x
same_map-Groups X x = ap (λ (h : (j : the_members) → at X j → at X j). (body-Groups).map (at X) (at X) h x) (each_same X) ∙ map-id the_members body-Groups (at X) x

same_map-Item : (X : Family) (x : Item-F X.of_Clause X.of_Expr X.of_Groups X.of_Item X.of_JoinOperand X.of_SubstrRange) → (body-Item).map (at X) (at X) (each (same X)) x ≡ x
same_map-Item X x = ap (λ (h : (j : the_members) → at X j → at X j). (body-Item).map (at X) (at X) h x) (each_same X) ∙ map-id the_members body-Item (at X) x

same_map-JoinOperand : (X : Family) (x : JoinOperand-F X.of_Clause X.of_Expr X.of_Groups X.of_Item X.of_JoinOperand X.of_SubstrRange) → (body-JoinOperand).map (at X) (at X) (each (same X)) x ≡ x
same_map-JoinOperand X x = ap (λ (h : (j : the_members) → at X j → at X j). (body-JoinOperand).map (at X) (at X) h x) (each_same X) ∙ map-id the_members body-JoinOperand (at X) x

same_map-SubstrRange : (X : Family) (x : SubstrRange-F X.of_Clause X.of_Expr X.of_Groups X.of_Item X.of_JoinOperand X.of_SubstrRange) → (body-SubstrRange).map (at X) (at X) (each (same X)) x ≡ x
same_map-SubstrRange X x = ap (λ (h : (j : the_members) → at X j → at X j). (body-SubstrRange).map (at X) (at X) h x) (each_same X) ∙ map-id the_members body-SubstrRange (at X) x

pub same-Clause : {X : Family} (x : Clause-F X.of_Clause X.of_Expr X.of_Groups X.of_Item X.of_JoinOperand X.of_SubstrRange) → over-Clause (same X) x ≡ x
same-Clause {X} x = sym (map_is-Clause (at X) (at X) (each (same X)) x) ∙ same_map-Clause X x

pub same-Expr : {X : Family} (x : Expr-F X.of_Clause X.of_Expr X.of_Groups X.of_Item X.of_JoinOperand X.of_SubstrRange) → over-Expr (same X) x ≡ x
same-Expr {X} x = sym (map_is-Expr (at X) (at X) (each (same X)) x) ∙ same_map-Expr X x

pub same-Groups : {X : Family} (x : Groups-F X.of_Clause X.of_Expr X.of_Groups X.of_Item X.of_JoinOperand X.of_SubstrRange) → over-Groups (same X) x ≡ x
same-Groups {X} x = sym (map_is-Groups (at X) (at X) (each (same X)) x) ∙ same_map-Groups X x

pub same-Item : {X : Family} (x : Item-F X.of_Clause X.of_Expr X.of_Groups X.of_Item X.of_JoinOperand X.of_SubstrRange) → over-Item (same X) x ≡ x
same-Item {X} x = sym (map_is-Item (at X) (at X) (each (same X)) x) ∙ same_map-Item X x

pub same-JoinOperand : {X : Family} (x : JoinOperand-F X.of_Clause X.of_Expr X.of_Groups X.of_Item X.of_JoinOperand X.of_SubstrRange) → over-JoinOperand (same X) x ≡ x
same-JoinOperand {X} x = sym (map_is-JoinOperand (at X) (at X) (each (same X)) x) ∙ same_map-JoinOperand X x

pub same-SubstrRange : {X : Family} (x : SubstrRange-F X.of_Clause X.of_Expr X.of_Groups X.of_Item X.of_JoinOperand X.of_SubstrRange) → over-SubstrRange (same X) x ≡ x
same-SubstrRange {X} x = sym (map_is-SubstrRange (at X) (at X) (each (same X)) x) ∙ same_map-SubstrRange X x

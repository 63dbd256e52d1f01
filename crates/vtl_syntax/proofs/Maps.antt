-- What a map over one level of a tree gives where parts may be left out.
use Rattle.std.proofs.Common.{◌≡◌, ℕ, List, Option, Some, None, map, refl}
use Rattle.std.specs.Prelude.{ℤ, option_map}
use Rattle.vtl_values.specs.declared.place.Place.{Place}
use Rattle.vtl_syntax.specs.declared.expr.Clause.TheOpen.{Expr-F, Clause-F}
use Rattle.vtl_syntax.specs.declared.expr.Expr.{map-Expr}
use Rattle.vtl_syntax.specs.declared.expr.Clause.{map-Clause}
use Rattle.vtl_syntax.specs.declared.expr.Groups.{map-Groups}
use Rattle.vtl_syntax.specs.declared.expr.SubstrRange.{map-SubstrRange}
use Rattle.vtl_syntax.specs.declared.expr.Grouping.{Grouping}
use Rattle.vtl_syntax.specs.declared.words.JoinFunction.{JoinFunction}
use Rattle.vtl_syntax.specs.declared.words.AggregateFunction.{AggregateFunction}
use Rattle.vtl_syntax.specs.declared.words.CheckOutput.{CheckOutput}

module _ (A B C D E F : Type 0) (A' B' C' D' E' F' : Type 0) (a : A → A') (b : B → B') (c : C → C') (d : D → D') (e : E → E') (f : F → F') where
  pub maps-Substr : (x0 : B) (x1 : Option F) (p : Place) → map-Expr A B C D E F A' B' C' D' E' F' a b c d e f (Expr-F.Substr x0 x1 p) ≡ Expr-F.Substr (b x0) (option_map f x1) p
  maps-Substr x0 None p = refl
  maps-Substr x0 (Some x1) p = refl

  pub maps-Replace : (x0 : B) (x1 : B) (x2 : Option B) (p : Place) → map-Expr A B C D E F A' B' C' D' E' F' a b c d e f (Expr-F.Replace x0 x1 x2 p) ≡ Expr-F.Replace (b x0) (b x1) (option_map b x2) p
  maps-Replace x0 x1 None p = refl
  maps-Replace x0 x1 (Some x2) p = refl

  pub maps-Join : (x0 : JoinFunction) (x1 : E) (x2 : E) (x3 : List E) (x4 : Option A) (x5 : Option A) (x6 : Option A) (x7 : Option A) (p : Place) → map-Expr A B C D E F A' B' C' D' E' F' a b c d e f (Expr-F.Join x0 x1 x2 x3 x4 x5 x6 x7 p) ≡ Expr-F.Join x0 (e x1) (e x2) (map e x3) (option_map a x4) (option_map a x5) (option_map a x6) (option_map a x7) p
  maps-Join x0 x1 x2 x3 None None None None p = refl
  maps-Join x0 x1 x2 x3 None None None (Some x7) p = refl
  maps-Join x0 x1 x2 x3 None None (Some x6) None p = refl
  maps-Join x0 x1 x2 x3 None None (Some x6) (Some x7) p = refl
  maps-Join x0 x1 x2 x3 None (Some x5) None None p = refl
  maps-Join x0 x1 x2 x3 None (Some x5) None (Some x7) p = refl
  maps-Join x0 x1 x2 x3 None (Some x5) (Some x6) None p = refl
  maps-Join x0 x1 x2 x3 None (Some x5) (Some x6) (Some x7) p = refl
  maps-Join x0 x1 x2 x3 (Some x4) None None None p = refl
  maps-Join x0 x1 x2 x3 (Some x4) None None (Some x7) p = refl
  maps-Join x0 x1 x2 x3 (Some x4) None (Some x6) None p = refl
  maps-Join x0 x1 x2 x3 (Some x4) None (Some x6) (Some x7) p = refl
  maps-Join x0 x1 x2 x3 (Some x4) (Some x5) None None p = refl
  maps-Join x0 x1 x2 x3 (Some x4) (Some x5) None (Some x7) p = refl
  maps-Join x0 x1 x2 x3 (Some x4) (Some x5) (Some x6) None p = refl
  maps-Join x0 x1 x2 x3 (Some x4) (Some x5) (Some x6) (Some x7) p = refl

  pub maps-Aggregate : (x0 : AggregateFunction) (x1 : B) (x2 : Option C) (p : Place) → map-Expr A B C D E F A' B' C' D' E' F' a b c d e f (Expr-F.Aggregate x0 x1 x2 p) ≡ Expr-F.Aggregate x0 (b x1) (option_map c x2) p
  maps-Aggregate x0 x1 None p = refl
  maps-Aggregate x0 x1 (Some x2) p = refl

  pub maps-Check : (x0 : B) (x1 : Option (List ℕ)) (x2 : Option ℤ) (x3 : Option B) (x4 : Option CheckOutput) (p : Place) → map-Expr A B C D E F A' B' C' D' E' F' a b c d e f (Expr-F.Check x0 x1 x2 x3 x4 p) ≡ Expr-F.Check (b x0) x1 x2 (option_map b x3) x4 p
  maps-Check x0 x1 x2 None x4 p = refl
  maps-Check x0 x1 x2 (Some x3) x4 p = refl

  pub clause_maps-Aggr : (x0 : List D) (x1 : Option C) (p : Place) → map-Clause A B C D E F A' B' C' D' E' F' a b c d e f (Clause-F.Aggr x0 x1 p) ≡ Clause-F.Aggr (map d x0) (option_map c x1) p
  clause_maps-Aggr x0 None p = refl
  clause_maps-Aggr x0 (Some x1) p = refl

  pub groups_maps : (x0 : Grouping) (x1 : Option B) (p : Place) → map-Groups A B C D E F A' B' C' D' E' F' a b c d e f (record { grouping = x0; having = x1; place = p }) ≡ record { grouping = x0; having = (option_map b x1); place = p }
  groups_maps x0 None p = refl
  groups_maps x0 (Some x1) p = refl

  pub range_maps : (x0 : B) (x1 : Option B) (p : Place) → map-SubstrRange A B C D E F A' B' C' D' E' F' a b c d e f (record { start = x0; length = x1; place = p }) ≡ record { start = (b x0); length = (option_map b x1); place = p }
  range_maps x0 None p = refl
  range_maps x0 (Some x1) p = refl

-- The lists of a call meet the rules in a collecting text, where they do in the normal form.
use Rattle.std.proofs.Common.{ℕ, Bool, List, [], ◌∷◌, flat_map, Option, Some, None, IfSome}
use Rattle.std.specs.List.{AllByRecursion}
use Rattle.common_lemmas.proofs.Lists.{all_back, all_front, all_joined}
use Rattle.ada_tree.specs.declared.statements.ParMode.{ParMode}
use Rattle.ada_tree.specs.declared.statements.ParMode.TheVariants.{Take, Give, Both}
use Rattle.ada_tree.specs.PlainExpr.{PExpr, EInteger, EName, EIndex, EAttribute, EAttributeOf, EParen, EUnary, EBinary}
use Rattle.ada_tree.specs.PlainStmt.{PArgs}
use Rattle.ada_static_rules.specs.Scope.{Scope, FormalPart, Family, single, family, unclear, EntryPart}
use Rattle.ada_static_rules.specs.Demand.{is_actual, must_be_of}
use Rattle.ada_static_rules.specs.Sites.{site, if_there, expr_sites, expr_of, written_actual_sites, actual_sites, actuals_sites, args_sites}
use Rattle.task_laws.specs.legal.alike_scopes.Alike.{SameNames}
use Rattle.task_laws.specs.legal.alike_scopes.Old.{IsOldExpr}
use Rattle.task_laws.specs.legal.alike_scopes.Laws.{IsMetBut}
use Rattle.normal_laws.proofs.structure.typed.Calls.{as_family}
use Rattle.normal_laws.proofs.structure.typed.Variables.{AllMetBut}
use Rattle.replay_structure.proofs.typed.Calls.{AreOldArgs}
use Rattle.normal_laws.proofs.structure.typed.Stays.{stays, expr-stays, of-stays}
use Rattle.replay_structure.proofs.typed.Typed.{same}

-- ---- lists that stay

module _ (old : ℕ → Bool) (c d : Scope) (names : SameNames old c d) where
  pub exprs-stay : (es : List PExpr) → AllByRecursion (IsOldExpr old) es → AllMetBut (flat_map (expr_sites c) es) → AllMetBut (flat_map (expr_sites d) es)
  exprs-stay [] o m = tt
  exprs-stay (e ∷ es) o m =
      all_joined IsMetBut (expr_sites d e) _ (expr-stays IsMetBut same old c d names e o.0 (all_front IsMetBut (expr_sites c e) _ m))
      (exprs-stay es o.1 (all_back IsMetBut (expr_sites c e) (flat_map (expr_sites c) es) m))

  kinds-stay : (k : Option ℕ) (es : List PExpr) → AllByRecursion (IsOldExpr old) es → AllMetBut (flat_map (expr_of c k) es) → AllMetBut (flat_map (expr_of d k) es)
  kinds-stay k [] o m = tt
  kinds-stay k (e ∷ es) o m =
      all_joined IsMetBut (expr_of d k e) _ (of-stays IsMetBut same old c d names k e o.0 (all_front IsMetBut (expr_of c k e) _ m))
      (kinds-stay k es o.1 (all_back IsMetBut (expr_of c k e) (flat_map (expr_of c k) es) m))

  is-actual : (mode : ParMode) (e : PExpr) → IsOldExpr old e → IsMetBut (site c (is_actual mode e)) → IsMetBut (site d (is_actual mode e))
  is-actual mode e o m = stays IsMetBut same old c d names (is_actual mode e) o m

  whole-stays : (e : PExpr) → IsOldExpr old e → AllMetBut (expr_sites c e) → AllMetBut (expr_sites d e)
  whole-stays e o m = expr-stays IsMetBut same old c d names e o m

  written-stays : (mode : ParMode) (e : PExpr) → IsOldExpr old e → AllMetBut (written_actual_sites c mode e) → AllMetBut (written_actual_sites d mode e)
  written-stays mode (EName id s) o m = (is-actual mode (EName id s) o m.0, tt)
  written-stays mode (EInteger n s) o m = (is-actual mode (EInteger n s) o m.0, whole-stays (EInteger n s) o m.1)
  written-stays mode (EIndex w e s) o m = (is-actual mode (EIndex w e s) o m.0, whole-stays (EIndex w e s) o m.1)
  written-stays mode (EAttribute y w s) o m = (is-actual mode (EAttribute y w s) o m.0, whole-stays (EAttribute y w s) o m.1)
  written-stays mode (EAttributeOf y w e s) o m = (is-actual mode (EAttributeOf y w e s) o m.0, whole-stays (EAttributeOf y w e s) o m.1)
  written-stays mode (EParen e s) o m = (is-actual mode (EParen e s) o m.0, whole-stays (EParen e s) o m.1)
  written-stays mode (EUnary op e s) o m = (is-actual mode (EUnary op e s) o m.0, whole-stays (EUnary op e s) o m.1)
  written-stays mode (EBinary op x y s) o m = (is-actual mode (EBinary op x y s) o m.0, whole-stays (EBinary op x y s) o m.1)

  actual-stays : (mode : ParMode) (e : PExpr) → IsOldExpr old e → AllMetBut (actual_sites c mode e) → AllMetBut (actual_sites d mode e)
  actual-stays Take e o m = whole-stays e o m
  actual-stays Give e o m = written-stays Give e o m
  actual-stays Both e o m = written-stays Both e o m

  actuals-stay : (fs : List FormalPart) (es : List PExpr) → AllByRecursion (IsOldExpr old) es → AllMetBut (actuals_sites c fs es) → AllMetBut (actuals_sites d fs es)
  actuals-stay fs [] o m = tt
  actuals-stay [] (e ∷ es) o m =
      all_joined IsMetBut (expr_sites d e) _ (whole-stays e o.0 (all_front IsMetBut (expr_sites c e) _ m)) (actuals-stay [] es o.1 (all_back IsMetBut (expr_sites c e) (actuals_sites c [] es) m))
  actuals-stay (f ∷ fs) (e ∷ es) o m =
      let behind = all_back IsMetBut (actual_sites c f.mode e) (site c (must_be_of e f.kind) ∷ actuals_sites c fs es) m in
      all_joined IsMetBut (actual_sites d f.mode e) _ (actual-stays f.mode e o.0 (all_front IsMetBut (actual_sites c f.mode e) _ m))
      (stays IsMetBut same old c d names (must_be_of e f.kind) o.0 behind.0, actuals-stay fs es o.1 behind.1)

  second-exprs : (o : Option (List PExpr)) → IfSome o (AllByRecursion (IsOldExpr old)) → AllMetBut (if_there (flat_map (expr_sites c)) o) → AllMetBut (if_there (flat_map (expr_sites d)) o)
  second-exprs None i m = tt
  second-exprs (Some es) i m = exprs-stay es i m

  second-actuals : (fs : List FormalPart) (o : Option (List PExpr)) → IfSome o (AllByRecursion (IsOldExpr old)) → AllMetBut (if_there (actuals_sites c fs) o) → AllMetBut (if_there (actuals_sites d fs) o)
  second-actuals fs None i m = tt
  second-actuals fs (Some es) i m = actuals-stay fs es i m

  pub family-stays : (part : EntryPart) (fam : Family) (args : PArgs) → AreOldArgs old args → AllMetBut (args_sites c (Some (as_family part fam)) args) → AllMetBut (args_sites d (Some (as_family part fam)) args)
  family-stays part single args o m =
      all_joined IsMetBut (actuals_sites d part.formals args.first) _ (actuals-stay part.formals args.first o.first (all_front IsMetBut (actuals_sites c part.formals args.first) _ m))
      (second-exprs args.second o.second (all_back IsMetBut (actuals_sites c part.formals args.first) (if_there (flat_map (expr_sites c)) args.second) m))
  family-stays part (family range) args o m =
      all_joined IsMetBut (flat_map (expr_of d (Some range.kind)) args.first) _ (kinds-stay (Some range.kind) args.first o.first (all_front IsMetBut (flat_map (expr_of c (Some range.kind)) args.first) _ m))
      (second-actuals part.formals args.second o.second (all_back IsMetBut (flat_map (expr_of c (Some range.kind)) args.first) (if_there (actuals_sites c part.formals) args.second) m))
  family-stays part unclear args o m =
      all_joined IsMetBut (flat_map (expr_sites d) args.first) _ (exprs-stay args.first o.first (all_front IsMetBut (flat_map (expr_sites c) args.first) _ m))
      (second-exprs args.second o.second (all_back IsMetBut (flat_map (expr_sites c) args.first) (if_there (flat_map (expr_sites c)) args.second) m))

  -- the lists of an entry
  pub args-stay : (part : EntryPart) (o : Option PArgs) → IfSome o (AreOldArgs old) → AllMetBut (if_there (args_sites c (Some part)) o) → AllMetBut (if_there (args_sites d (Some part)) o)
  args-stay part None i m = tt
  args-stay part (Some args) i m = family-stays part part.family args i m

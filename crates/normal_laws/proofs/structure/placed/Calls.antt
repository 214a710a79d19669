-- What a call has: its index and its actuals are well placed, and not deep.
use Rattle.std.proofs.Common.{◌≡◌, ℕ, ◌≤◌, Bool, true, false, if◌then◌else◌, List, [], ◌∷◌, length, Option, Some, None, IfSome, unwrap_or, subst, arith}
use Rattle.std.specs.List.{AllByRecursion}
use Rattle.std.proofs.lemmas.List.Elements.{recursion_from_All}
use Rattle.ada_tree.specs.declared.naming.NameId.{NameId}
use Rattle.ada_tree.specs.declared.naming.Span.{Span}
use Rattle.ada_tree.specs.TypeTable.{TypeTable}
use Rattle.ada_static_rules.specs.StaticValue.{is_static}
use Rattle.ada_tree.specs.PlainExpr.{PExpr, EInteger, EName, EIndex, EAttribute, EAttributeOf, EParen, EUnary, EBinary}
use Rattle.ada_tree.specs.PlainStmt.{PArgs, PCall}
use Rattle.ada_tree.specs.Every.{EveryWord, EveryExpr, EveryExprs, EveryArgs}
use Rattle.ada_tree.specs.WellPlaced.{well_placed}
use Rattle.syn_event.specs.declared.numbering.Mode.TheVariants.{Original}
use Rattle.syn_event.specs.CheckScope.{CheckScope, CheckSite}
use Rattle.syn_event.specs.CheckSites as check
use Rattle.task_laws.specs.legal.sites.Met.{IsCheckMet}
use Rattle.task_model.specs.Setting.{Setting, is_family, first_expr, lists_in, lists_of}
use Rattle.task_model.specs.Calls.{variable_of}
use Rattle.normal_model.specs.Making.{moving}
use Rattle.normal_model.specs.Calls.{Slot, actuals_passed, entry_called, lists_called, slots_called}
use Rattle.normal_laws.specs.structure.asked.Pieces.{IsPair, first_pair, later_pair}
use Rattle.normal_laws.specs.structure.placed.Placeable.{AreTaken}
use Rattle.normal_laws.proofs.structure.placed.Depth.{expr-depth}
use Rattle.common_lemmas.proofs.Lists.{all_back, all_front, all_unflat}

-- ---- what moves

pub moves : (types : TypeTable) (o : Option PExpr) (e : PExpr) → moving types o ≡ Some e → o ≡ Some e
moves types None e f = cc
moves types (Some y) e f = go (is_static types y) f
  where
    go : (b : Bool) → (if b then None else Some y) ≡ Some e → Some y ≡ Some e
    go true h = cc
    go false h = h

-- the name that an actual is
pub name-of : (names : List (List ℕ)) (k : ℕ) (e : PExpr) (id : NameId) → variable_of e ≡ Some id → EveryExpr (well_placed names) k e → EveryWord (well_placed names) (record { name = id; span = record { start = 0; end = 0 } })
name-of names k (EName x s) id f h = subst (λ y. EveryWord (well_placed names) (record { name = y; span = record { start = 0; end = 0 } })) (same x id f) h.1
  where
    same : (x y : NameId) → Some x ≡ Some y → x ≡ y
    same x y g = cc
name-of names k (EInteger n s) id f h = cc
name-of names k (EIndex w e s) id f h = cc
name-of names k (EAttribute m w s) id f h = cc
name-of names k (EAttributeOf m w e s) id f h = cc
name-of names k (EParen e s) id f h = cc
name-of names k (EUnary op e s) id f h = cc
name-of names k (EBinary op l r s) id f h = cc

-- ---- lists

module _ (names names' : List (List ℕ)) where
  abbrev At : List CheckSite → Type 0
  At xs = AllByRecursion (IsCheckMet Original names) xs

  -- an expression that is well placed, with what the rules ask of it
  abbrev pub Fits : CheckScope → ℕ → PExpr → Type 0
  Fits c k e = EveryExpr (well_placed names') k e × At (check.expr_sites c k e)

  two : (c : CheckScope) (k : ℕ) (es : List PExpr) → AllByRecursion (EveryExpr (well_placed names') k) es → AllByRecursion (λ e. At (check.expr_sites c k e)) es → AllByRecursion (Fits c k) es
  two c k [] h m = tt
  two c k (e ∷ es) h m = ((h.0, m.0), two c k es h.1 m.1)

  pub list-fits : (c : CheckScope) (k : ℕ) (es : List PExpr) → EveryExprs (well_placed names') k es → At (check.exprs_sites c k es) → AllByRecursion (Fits c k) es
  list-fits c k es h m = two c k es (recursion_from_All (EveryExpr (well_placed names') k) es h.1) (all_unflat (IsCheckMet Original names) (check.expr_sites c k) es m)

  second-fits : (c : CheckScope) (k : ℕ) (o : Option (List PExpr)) → IfSome o (EveryExprs (well_placed names') k) → At (check.if_there (check.exprs_sites c k) o) → AllByRecursion (Fits c k) (unwrap_or o [])
  second-fits c k None h m = tt
  second-fits c k (Some es) h m = list-fits c k es h m

  module _ (c : CheckScope) (k : ℕ) (args : PArgs) (h : EveryArgs (well_placed names') k args) (m : At (check.args_sites c k args)) where
    first-fits : AllByRecursion (Fits c k) args.first
    first-fits = list-fits c k args.first h.0 (all_front (IsCheckMet Original names) (check.exprs_sites c k args.first) (check.if_there (check.exprs_sites c k) args.second) m)

    pub args-depth : k ≤ 40
    args-depth = go args.first h.0.0 first-fits
      where
        go : (es : List PExpr) → 1 ≤ length es → AllByRecursion (Fits c k) es → k ≤ 40
        go [] few f = omega (arith, few)
        go (e ∷ es) few f = expr-depth names c k e f.0.1

    later-fits : AllByRecursion (Fits c k) (unwrap_or args.second [])
    later-fits = second-fits c k args.second h.1 (all_back (IsCheckMet Original names) (check.exprs_sites c k args.first) (check.if_there (check.exprs_sites c k) args.second) m)

  -- the index and the actuals of a call
  module _ (g : Setting) (c : CheckScope) (k : ℕ) (x : PCall) (h : IfSome x.args (EveryArgs (well_placed names') k)) (m : At (check.if_there (check.args_sites c k) x.args)) where
    first-of : (es : List PExpr) (e : PExpr) → AllByRecursion (Fits c k) es → first_expr es ≡ Some e → Fits c k e
    first-of [] e f q = cc
    first-of (y ∷ es) e f q = subst (Fits c k) (same y e q) f.0
      where
        same : (y e : PExpr) → Some y ≡ Some e → y ≡ e
        same y e r = cc

    index-in : (b : Bool) (args : PArgs) (e : PExpr) → EveryArgs (well_placed names') k args → At (check.args_sites c k args) → (lists_in b args).index ≡ Some e → Fits c k e
    index-in true args e i n q = first-of args.first e (first-fits c k args i n) q
    index-in false args e i n q = cc

    pub index-fits : (e : PExpr) → (lists_called g x).index ≡ Some e → Fits c k e
    index-fits e q = go x.args h m q
      where
        go : (o : Option PArgs) → IfSome o (EveryArgs (well_placed names') k) → At (check.if_there (check.args_sites c k) o) → (lists_of g.numbers (entry_called g x) o).index ≡ Some e → Fits c k e
        go None i n r = cc
        go (Some args) i n r = index-in (is_family g.numbers (entry_called g x)) args e i n r

    actuals-in : (b : Bool) (args : PArgs) → EveryArgs (well_placed names') k args → At (check.args_sites c k args) → AllByRecursion (Fits c k) (lists_in b args).actuals
    actuals-in true args i n = later-fits c k args i n
    actuals-in false args i n = first-fits c k args i n

    pub actuals-fit : AllByRecursion (Fits c k) (lists_called g x).actuals
    actuals-fit = go x.args h m
      where
        go : (o : Option PArgs) → IfSome o (EveryArgs (well_placed names') k) → At (check.if_there (check.args_sites c k) o) → AllByRecursion (Fits c k) (lists_of g.numbers (entry_called g x) o).actuals
        go None i n = tt
        go (Some args) i n = actuals-in (is_family g.numbers (entry_called g x)) args i n

    pair-in : (slot : Slot) (e : PExpr) (xs : List Slot) (es : List PExpr) → IsPair slot e xs es → AllByRecursion (Fits c k) es → Fits c k e
    pair-in slot e xs es (first_pair ys fs) f = f.0
    pair-in slot e xs es (later_pair y z ys fs p) f = pair-in slot e ys fs p f.1

    pub pair-fits : (slot : Slot) (e : PExpr) → IsPair slot e (slots_called g x) (lists_called g x).actuals → Fits c k e
    pair-fits slot e p = pair-in slot e (slots_called g x) (lists_called g x).actuals p actuals-fit

-- ---- the lists of the new call

-- there are as many variables as actuals for formals
pub passed-some : (g : Setting) (s : Span) (xs : List Slot) (es : List PExpr) (k : ℕ) → AreTaken xs es → 1 ≤ length es → 1 ≤ length (actuals_passed g s xs es k)
passed-some g s xs [] k t few = omega (arith, few)
passed-some g s [] (e ∷ es) k t few = absurd t
passed-some g s (x ∷ xs) (e ∷ es) k t few = omega arith

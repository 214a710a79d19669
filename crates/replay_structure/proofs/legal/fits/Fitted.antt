-- Each piece of a normal form is as `replay_structure: placed` asks.
use Rattle.std.proofs.Common.{◌≡◌, ℕ, ◌+◌, ◌≤◌, ◌==◌, ℤ, pos, negsuc, Bool, true, false, if◌then◌else◌, suc, List, [], ◌∷◌, length, Option, Some, None, option_map, IfSome, refl, sym, ap, subst, arith, slice_get}
use Rattle.std.specs.List.{AllByRecursion, fold}
use Rattle.std.proofs.lemmas.List.Elements.{All-from_recursion}
use Rattle.ada_tree.specs.declared.naming.NameId.{NameId}
use Rattle.ada_tree.specs.declared.naming.Span.{Span}
use Rattle.ada_tree.specs.declared.static_types.Kind.{Kind}
use Rattle.ada_tree.specs.declared.static_types.Kind.TheVariants as kind
use Rattle.ada_tree.specs.declared.expressions.UnaryOp.TheVariants as unary
use Rattle.ada_tree.specs.declared.expressions.BinaryOp.TheVariants.{And}
use Rattle.ada_tree.specs.PlainExpr.{PExpr, EInteger, EName, EAttribute, EUnary, EBinary, PDrange}
use Rattle.ada_tree.specs.PlainStmt.{PArgs, PCall, PHead, alternative, PAlts, no_alt, alt_then}
use Rattle.ada_tree.specs.PlainDecl.{PDecl}
use Rattle.ada_tree.specs.Every.{EveryExpr, EveryExprs, EveryArgs, EveryChoice, EveryStmt, alts_count}
use Rattle.ada_tree.specs.WellPlaced.{well_placed}
use Rattle.syn_event.specs.declared.numbering.Mode.TheVariants.{Original}
use Rattle.syn_event.specs.CheckScope.{CheckScope, CheckSite, declares, counts}
use Rattle.syn_event.specs.declared.limits.What.TheVariants.{Nesting}
use Rattle.syn_event.specs.CheckSites as check
use Rattle.task_laws.specs.legal.sites.Met.{IsCheckMet}
use Rattle.common_lemmas.proofs.Lists.{all_back, all_front}
use Rattle.task_model.specs.Setting.{Setting, is_family, first_expr, lists_in, lists_of}
use Rattle.normal_model.specs.Ranges.{word_at, kind_of_range, family_range, array_range}
use Rattle.normal_model.specs.Making.{variable, assignment, moving, index_left}
use Rattle.normal_model.specs.Members.{integer_literal, literal_in, kind_of_index, index_literal}
use Rattle.normal_model.specs.Calls.{Slot, actuals_passed, entry_called, slots_called, lists_passed, args_passed, call_to, index_number, actual_number}
use Rattle.normal_model.specs.RewrittenUnit.{RewrittenUnit}
use Rattle.normal_model.specs.Waits.{not_held, none_held}
use Rattle.normal_model.specs.Walk.{Rewriter, after_kind, inside_alts}
use Rattle.normal_model.specs.NormalStmts.{normal_rewriter}
use Rattle.task_laws.specs.legal.asked.Asked.{Asks}
use Rattle.task_laws.specs.legal.asked.Kinds.{place_asks, check_asks, both}
use Rattle.normal_laws.specs.structure.asked.Pieces.{IsGuard, member_choice, Pieces}
use Rattle.normal_laws.proofs.structure.placed.Depth.{depth-of, expr-depth, few-alternatives}
use Rattle.normal_laws.proofs.structure.placed.Calls.{moves, args-depth, Fits, index-fits, pair-fits}
use Rattle.replay_model.specs.Asking.{as_number, number_in, member_number}
use Rattle.replay_structure.specs.placed.Fitting.{reach, IsOperand, FitsHead, HasPrimaryGuards, fit_asks}
use Rattle.replay_structure.specs.legal.fits.Ready.{normal_of, ready_asks}
use Rattle.replay_structure.proofs.legal.fits.Reach.{At, expr-reach, expr-here, option-reach, second-reach, choices-here, scheme-here, plain-here}

-- ---- a name as a number

module _ (g : Setting) (s p : Span) (id : NameId) where
  named-as : (k : ℕ) (o : Option Kind) → IsOperand (as_number g.types s k o (EName id p))
  named-as k (Some kind.Integer) = omega arith
  named-as k (Some kind.Truth) = omega arith
  named-as k (Some (kind.Enumeration ids)) = omega arith
  named-as k (Some (kind.Array index first last part)) = omega arith
  named-as k None = omega arith

  named-in : (o : Option PDrange) → IsOperand (number_in g.types s o (EName id p))
  named-in None = omega arith
  named-in (Some b) = named-as (kind_of_range g.types b) (slice_get g.types.kinds (kind_of_range g.types b))

  -- a variable as the index of a member may stand in a relation
  pub name-operand : (e : ℕ) → IsOperand (member_number g s e (Some (EName id p)))
  name-operand e = named-in (family_range g e)

-- ---- literals

literal-reach : (n : ℕ) (s : Span) (o : Option Kind) (z : ℤ) → n ≤ 44 → EveryExpr (reach n) n (literal_in o s z)
literal-reach n s o z le = by_kind o
  where
    here : (k : ℕ) → k ≤ 80 → (n ≤ 46) × (k ≤ 80)
    here k l = (omega (arith, le), l)

    negative : (m : ℕ) (b : Bool) → EveryExpr (reach n) n (if b then EAttribute (word_at s record { 0 = 0 }) (word_at s record { 0 = 18 }) s else EUnary unary.Minus (EInteger (suc m) s) s)
    negative m true = (here n (omega (arith, le)), tt, tt)
    negative m false = (here n (omega (arith, le)), tt, (here (n + 1) (omega (arith, le)), tt))

    number : (y : ℤ) → EveryExpr (reach n) n (integer_literal s y)
    number (pos m) = (here n (omega (arith, le)), tt)
    number (negsuc m) = negative m (m == 2147483647)

    by_kind : (k : Option Kind) → EveryExpr (reach n) n (literal_in k s z)
    by_kind None = number z
    by_kind (Some kind.Integer) = number z
    by_kind (Some kind.Truth) = (here n (omega (arith, le)), tt)
    by_kind (Some (kind.Enumeration ids)) = (here n (omega (arith, le)), tt)
    by_kind (Some (kind.Array index first last part)) = number z

index-reach : (n : ℕ) (s : Span) (o : Option Kind) (m : Option ℤ) → n ≤ 44 → EveryExpr (reach n) n (index_literal o s m)
index-reach n s o None le = ((omega (arith, le), omega (arith, le)), tt)
index-reach n s o (Some z) le = literal-reach n s o z le

module _ (g : Setting) (t t' : ℕ) (vars : List PDecl) where
  abbrev u : RewrittenUnit
  u = record { setting = g; task = t }

  -- the unit of the normal form
  abbrev v : RewrittenUnit
  v = record { setting = normal_of g; task = t' }

  abbrev names : List (List ℕ)
  names = g.program.names

  abbrev M : CheckSite → Type 0
  M = IsCheckMet Original names

  abbrev C : Type 0
  C = Prim.Unit {0} × (CheckScope × Prim.Unit {0})

  abbrev pub b : Asks C
  b = both (place_asks (well_placed names)) (both (check_asks M) (ready_asks v))

  abbrev a : Asks (Prim.Unit {0})
  a = fit_asks v

  -- ---- variables

  variable-reach : (j n k : ℕ) (s : Span) → j ≤ 46 → n ≤ 80 → EveryExpr (reach j) n (variable g s k)
  variable-reach j n k s low le = ((low, le), tt)

  assigned-reach : (n k : ℕ) (s : Span) (e : PExpr) → n ≤ 44 → EveryExpr (reach n) (n + 1) e → EveryStmt (reach n) n (assignment g s k e)
  assigned-reach n k s e le h = ((omega (arith, le), omega (arith, le)), (tt, tt), h)

  -- an assignment of what stood elsewhere
  kept-reach : (c : CheckScope) (k n j : ℕ) (s : Span) (e : PExpr) → Fits names names c k e → n ≤ k + 4 → EveryStmt (reach n) n (assignment g s j e)
  kept-reach c k n j s e f le =
      let d : k ≤ 40 = expr-depth names c k e f.1 in
      assigned-reach n j s e (omega (arith, d, le)) (expr-reach names c k n (n + 1) e (omega (arith, d, le)) (omega (arith, le)) f.1)

  -- an index that moves, where it stood
  option-fits : (c : CheckScope) (k : ℕ) (o : Option PExpr) (e : PExpr) → moving g.types o ≡ Some e → IfSome o (EveryExpr (well_placed names) k) → At names (check.if_there (check.expr_sites c k) o) → Fits names names c k e
  option-fits c k o e f h m = go o (moves g.types o e f) h m
    where
      go : (y : Option PExpr) → y ≡ Some e → IfSome y (EveryExpr (well_placed names) k) → At names (check.if_there (check.expr_sites c k) y) → Fits names names c k e
      go None q i n = cc
      go (Some y) q i n = subst (Fits names names c k) (same y e q) (i, n)
        where
          same : (x z : PExpr) → Some x ≡ Some z → x ≡ z
          same x z p = cc

  -- ---- calls

  passed-reach : (n z : ℕ) (s : Span) (xs : List Slot) (es : List PExpr) → n ≤ 44 → AllByRecursion (EveryExpr (reach n) n) (actuals_passed g s xs es z)
  passed-reach n z s [] es le = tt
  passed-reach n z s (x ∷ xs) [] le = tt
  passed-reach n z s (x ∷ xs) (e ∷ es) le = (variable-reach n n z s (omega (arith, le)) (omega (arith, le)), passed-reach n (z + 1) s xs es le)

  passed-exprs : (n z : ℕ) (s : Span) (xs : List Slot) (es : List PExpr) → n ≤ 44 → EveryExprs (reach n) n (actuals_passed g s xs es z)
  passed-exprs n z s xs es le = (tt, All-from_recursion (EveryExpr (reach n) n) (actuals_passed g s xs es z) (passed-reach n z s xs es le))

  module _ (c : CheckScope) (k n : ℕ) (s : Span) (x : PCall) (j : ℕ) (le : n ≤ k + 4) where
    second-passed : (o : Option (List PExpr)) → n ≤ 44 → IfSome (option_map (λ es. actuals_passed g s (slots_called g x) es (actual_number g s x j)) o) (EveryExprs (reach n) n)
    second-passed None low = tt
    second-passed (Some es) low = passed-exprs n (actual_number g s x j) s (slots_called g x) es low

    lists-reach : (f : Bool) (args : PArgs) → n ≤ 44 → At names (check.args_sites c k args) → EveryArgs (reach n) n (lists_passed f g s x j args)
    lists-reach true args low m =
        let one : AllByRecursion (EveryExpr (reach n) n) (variable g s (index_number g s x j) ∷ []) = (variable-reach n n (index_number g s x j) s (omega (arith, low)) (omega (arith, low)), tt) in
        ((tt, All-from_recursion (EveryExpr (reach n) n) (variable g s (index_number g s x j) ∷ []) one), second-passed args.second low)
    lists-reach false args low m =
        (passed-exprs n (actual_number g s x j) s (slots_called g x) args.first low, second-reach names c k n n args.second (omega (arith, low)) (omega (arith, le)) (all_back M (check.exprs_sites c k args.first) (check.if_there (check.exprs_sites c k) args.second) m))

    args-reach : (o : Option PArgs) → IfSome o (EveryArgs (well_placed names) k) → At names (check.if_there (check.args_sites c k) o) → IfSome (args_passed g s x j o) (EveryArgs (reach n) n)
    args-reach None h m = tt
    args-reach (Some args) h m = let d : k ≤ 40 = args-depth names names c k args h m in lists-reach (is_family g.numbers (entry_called g x)) args (omega (arith, d, le)) m

    -- the index of the new call is a variable, if it has one
    first-operand : (p : Span) (e : ℕ) (xs : List Slot) (es : List PExpr) (z : ℕ) → IsOperand (member_number (normal_of g) p e (first_expr (actuals_passed g s xs es z)))
    first-operand p e [] es z = omega arith
    first-operand p e (y ∷ ys) [] z = omega arith
    first-operand p e (y ∷ ys) (f ∷ fs) z = name-operand (normal_of g) p s _ e

    lists-operand : (p : Span) (e : ℕ) (f : Bool) (h : Bool) (args : PArgs) → IsOperand (member_number (normal_of g) p e (lists_in f (lists_passed h g s x j args)).index)
    lists-operand p e false h args = omega arith
    lists-operand p e true true args = name-operand (normal_of g) p s _ e
    lists-operand p e true false args = first-operand p e (slots_called g x) args.first (actual_number g s x j)

    call-operand : (p : Span) (e : ℕ) (o : Option PArgs) → IsOperand (member_number (normal_of g) p e (lists_of (normal_of g).numbers e (args_passed g s x j o)).index)
    call-operand p e None = omega arith
    call-operand p e (Some args) = lists-operand p e (is_family (normal_of g).numbers e) (is_family g.numbers (entry_called g x)) args

  -- ---- guards

  -- what is reached wherever so much may stand in it
  abbrev IsReachedBy : ℕ → ℕ → PExpr → Type 0
  IsReachedBy j deep e = (q : ℕ) → q + deep ≤ 80 → EveryExpr (reach j) q e

  guard-reach : (j : ℕ) (e : PExpr) → j ≤ 46 → IsGuard g vars e → IsReachedBy j 0 e
  guard-reach j e low i = subst (IsReachedBy j 0) (sym i.2) (λ q l. ((low, omega (arith, l)), tt))

  more-reach : (j : ℕ) (s : Span) → j ≤ 46 → (es : List PExpr) (test : PExpr) (deep : ℕ) → 1 ≤ deep → IsReachedBy j deep test → AllByRecursion (IsGuard g vars) es → IsReachedBy j (deep + length es) (fold (λ e f. EBinary And e (not_held s f) s) test es)
  more-reach j s low [] test deep one h i q le = h q (omega (arith, le))
  more-reach j s low (e ∷ es) test deep one h i q le =
      more-reach j s low es (EBinary And test (not_held s e) s) (deep + 1) (omega arith)
      (λ n l. ((low, omega (arith, l)), tt, h (n + 1) (omega (arith, l)), ((low, omega (arith, l, one)), tt, guard-reach j e low i.0 ((n + 1) + 1) (omega (arith, l, one))))) i.1 q (omega (arith, le))

  none-reach : (j : ℕ) (s : Span) (e : PExpr) (es : List PExpr) → j ≤ 46 → AllByRecursion (IsGuard g vars) (e ∷ es) → IsReachedBy j (1 + length es) (none_held s e es)
  none-reach j s e es low i = more-reach j s low es (not_held s e) 1 (omega arith) (λ q l. ((low, omega (arith, l)), tt, guard-reach j e low i.0 (q + 1) (omega (arith, l)))) i.1

  abbrev r : Rewriter (List PDecl)
  r = normal_rewriter u

  left-count : (x : PAlts) (ds : List PDecl) → alts_count (inside_alts r x ds) ≡ alts_count x
  left-count no_alt ds = refl
  left-count (alt_then (alternative f y s) l) ds = ap (λ n. 1 + n) (left-count l (after_kind r y (r.entered_alternative ds (alternative f y s))))

  left-primary : (x : PAlts) (ds : List PDecl) → HasPrimaryGuards (inside_alts r x ds)
  left-primary no_alt ds = tt
  left-primary (alt_then (alternative None y s) l) ds = (tt, left-primary l (after_kind r y (r.entered_alternative ds (alternative None y s))))
  left-primary (alt_then (alternative (Some e) y s) l) ds = (omega arith, left-primary l (after_kind r y (r.entered_alternative ds (alternative (Some e) y s))))

  -- ---- all pieces

  shallow : (c : CheckScope) (k n : ℕ) (s : Span) → M (check.site c (counts Nesting 0 k s)) → n ≤ k + 4 → n ≤ 44
  shallow c k n s m le = let d : k ≤ 40 = depth-of names c k s m in omega (arith, d, le)

  head-index : (c : CheckScope) (k : ℕ) (h : PHead) → At names (check.head_sites c k h) → At names (check.if_there (check.expr_sites c (k + 1)) h.index)
  head-index c k h m = all_front M (check.if_there (check.expr_sites c (k + 1)) h.index) (check.names_sites c (check.formal_names h.formals)) m.1.1

  pub pieces : Pieces u vars b a (λ c d. Prim.Unit {0})
  pieces = record {
    outer = λ c d k n s rel h le. shallow c.1.0 k n s h.1.0 le;
    many = λ n h. tt;
    some = λ n. tt;
    duration = λ n h. tt;
    plain = λ c d k x i rel h. plain-here names c.1.0 k x i h.1.0;
    condition = λ c d k e rel h. expr-here names c.1.0 k e h.1.0;
    selector = λ c d k e xs others s rel h. expr-here names c.1.0 k e h.1.0;
    choices = λ c d k e xs rel h. choices-here names c.1.0 k xs h.1.0;
    loop = λ c d k w x rel h. scheme-here names c.1.0 k x (all_back M (check.if_there (λ y. check.site c.1.0 (declares y) ∷ []) w) (check.if_there (check.scheme_sites c.1.0 k) x) h.1.0);
    looping = λ c d k w x rel h. tt;
    delay = λ c d k e f s rel h. tt;
    handlers = λ hs ds h. tt;
    handler = λ c d k ids ws rel h. tt;
    handling = λ c d rel. tt;
    null = λ c d k n s rel h le. let low : n ≤ 44 = shallow c.1.0 k n s h.1.0 le in (omega (arith, low), omega (arith, low));
    program_error = λ c d k n s rel h le. let low : n ≤ 44 = shallow c.1.0 k n s h.1.0 le in ((omega (arith, low), omega (arith, low)), tt);
    callee_index = λ c d k n s x e j rel h f w le. kept-reach c.1.0 k n j s e (option-fits c.1.0 k x.index e f h.0.1 h.1.0.1) le;
    target = λ c d k n x w rel h i le. tt;
    chooses = λ c d k n s x e j rel h f w le.
        let low : k ≤ 40 = expr-depth names c.1.0 k e (option-fits c.1.0 k x.index e f h.0.1 h.1.0.1).1 in
        variable-reach n n j s (omega (arith, low, le)) (omega (arith, low, le));
    chosen = λ c d k n s x e j info rel h f w i le.
        let low : k ≤ 40 = expr-depth names c.1.0 k e (option-fits c.1.0 k x.index e f h.0.1 h.1.0.1).1 in
        let one : AllByRecursion (EveryChoice (reach n) n) (member_choice g s x info ∷ []) =
        ((index-reach n s (kind_of_index g.types (array_range g.program x.name.name)) info.member (omega (arith, low, le)), tt), tt) in
        All-from_recursion (EveryChoice (reach n) n) (member_choice g s x info ∷ []) one;
    called = λ c d k n s x j w rel h i q z le.
        (args-reach c.1.0 k n s x j le x.args i.0.1 i.1.0, (λ p. call-operand c.1.0 k n s x j le p (entry_called (normal_of g) (call_to g s x j w)) x.args), i.1.1);
    family_index = λ c d k n s x e j rel h i f w le. kept-reach c.1.0 k n j s e (index-fits names names g c.1.0 k x i.0.1 i.1.0 e f) le;
    actual_before = λ c d k n s x slot e j rel h i pair f w le. kept-reach c.1.0 k n j s e (pair-fits names names g c.1.0 k x i.0.1 i.1.0 slot e pair) le;
    actual_behind = λ c d k n s x slot e id j rel h i pair f q w le.
        let low : k ≤ 40 = expr-depth names c.1.0 k e (pair-fits names names g c.1.0 k x i.0.1 i.1.0 slot e pair).1 in
        ((omega (arith, low, le), omega (arith, low, le)), (tt, tt), variable-reach n (n + 1) j s (omega (arith, low, le)) (omega (arith, low, le)));
    flag = λ c d k n s part j rel h small w le.
        let low : n ≤ 44 = shallow c.1.0 k n s h.1.0 le in
        assigned-reach n j s (EInteger part s) low ((omega (arith, low), omega (arith, low)), tt);
    flag_test = λ c d k n s j rel h w le.
        let low : n ≤ 44 = shallow c.1.0 k n s h.1.0 le in
        ((omega (arith, low), omega (arith, low)), tt, variable-reach n (n + 1) j s (omega (arith, low)) (omega (arith, low)), ((omega (arith, low), omega (arith, low)), tt));
    aborted = λ c d k n xs w rel h le. tt;
    no_abort = λ c d k rel h. tt;
    head = λ c d k h rel i f.
        let low : k ≤ 40 = depth-of names c.1.0 k h.span i.1.0.0 in
        (omega (arith, low), option-reach names c.1.0 (k + 1) k (k + 1) h.index (omega (arith, low)) (omega arith) (head-index c.1.0 k h i.1.0), i.1.1 f);
    head_moved = λ c d k s h e j rel i f w.
        let low : k ≤ 40 = depth-of names c.1.0 k h.span i.1.0.0 in
        subst (λ m. FitsHead v k (record { entry = h.entry; index = index_left g s j m h.index; formals = h.formals; span = h.span })) (sym f)
        (omega (arith, low), variable-reach k (k + 1) j s (omega (arith, low)) (omega (arith, low)), (λ p. name-operand (normal_of g) p s _ _));
    accept_index = λ c d k n s h e j rel i f w le. kept-reach c.1.0 (k + 1) n j s e (option-fits c.1.0 (k + 1) h.index e f i.0.1.1 (head-index c.1.0 k h i.1.0)) (omega (arith, le));
    accepting = λ c d k s h j rel i. tt;
    guard = λ c d k n s e j rel h w le. kept-reach c.1.0 k n j s e (h.0, h.1.0) le;
    guard_test = λ c d k n s j rel h w le. let low : n ≤ 44 = shallow c.1.0 k n s h.1.0 le in variable-reach n n j s (omega (arith, low)) (omega (arith, low));
    closed = λ c d k n x others s e es rel h w all few le.
        let low : n ≤ 44 = shallow c.1.0 k n s h.1.0 le in
        let less : 0 + alts_count x ≤ 32 = few-alternatives names c.1.0 x 0 (omega arith) w.1.0.1 in
        none-reach n s e es (omega (arith, low)) all n (omega (arith, low, less, few));
    wait = λ c d k x others s ds rel h alts.
        let less : 0 + alts_count x ≤ 32 = few-alternatives names c.1.0 x 0 (omega arith) h.1.0.1 in
        (subst (λ m. m ≤ 32) (sym (left-count x ds)) (omega (arith, less)), left-primary x ds);
  }

-- Each piece that the normal form of an original makes has kept names, and is not too deep.
use Rattle.std.proofs.Common.{◌≡◌, ℕ, ◌+◌, ◌≤◌, ◌<◌, ◌==◌, ℤ, pos, negsuc, unsigned_abs, Bool, true, false, if◌then◌else◌, suc, List, [], ◌∷◌, length, Option, Some, None, option_map, IfSome, unwrap_or, slice_get, refl, sym, subst, arith}
use Rattle.std.specs.List.{AllByRecursion, fold}
use Rattle.std.specs.Ordering.{int_eq}
use Rattle.std.proofs.lemmas.List.Elements.{recursion_from_All, All-from_recursion}
use Rattle.std.proofs.lemmas.Option.{slice_get_within}
use Rattle.common_lemmas.proofs.Lists.{all_front, all_back}
use Rattle.ada_tree.specs.declared.naming.NameId.{NameId}
use Rattle.ada_tree.specs.declared.naming.Span.{Span}
use Rattle.ada_tree.specs.declared.naming.Word.{Word}
use Rattle.ada_tree.specs.declared.static_types.Kind.{Kind}
use Rattle.ada_tree.specs.declared.static_types.Kind.TheVariants as kind
use Rattle.ada_tree.specs.declared.expressions.UnaryOp.TheVariants as unary
use Rattle.ada_tree.specs.declared.expressions.BinaryOp.TheVariants as binary
use Rattle.ada_tree.specs.Attributes.{false_name, true_name}
use Rattle.ada_tree.specs.PlainExpr.{PExpr, EInteger, EName, EIndex, EAttribute, EAttributeOf, EParen, EUnary, EBinary, PSubind, PDrange}
use Rattle.ada_tree.specs.PlainStmt.{PArgs, PCall, PHead}
use Rattle.ada_tree.specs.PlainDecl.{PDecl}
use Rattle.ada_tree.specs.Every.{Rules, EveryExpr, EveryExprs, EveryArgs, EveryChoice, EveryHead, EveryStmt, alts_count}
use Rattle.syn_event.specs.declared.numbering.Mode.TheVariants.{Original}
use Rattle.syn_event.specs.declared.numbering.TaskInfo.{TaskInfo}
use Rattle.syn_event.specs.CheckScope.{CheckScope, CheckSite, declares}
use Rattle.syn_event.specs.CheckSites as check
use Rattle.task_laws.specs.legal.sites.Met.{IsCheckMet}
use Rattle.task_model.specs.Setting.{Setting, is_family, first_expr, lists_in, lists_of}
use Rattle.task_model.specs.Calls.{variable_of}
use Rattle.task_laws.specs.legal.asked.Asked.{Asks}
use Rattle.task_laws.specs.legal.asked.Kinds.{place_asks, check_asks, both}
use Rattle.normal_model.specs.Names.{variable_name, task_name}
use Rattle.normal_model.specs.Ranges.{word_at, kind_of_range, subtype_of_range, array_range, family_range}
use Rattle.normal_model.specs.Members.{integer_literal, truth_literal, literal_in, kind_of_index, index_literal}
use Rattle.normal_model.specs.Calls.{Slot, actuals_passed, actual_subtypes, entry_called, lists_called, slots_called, lists_passed, args_passed, index_number, actual_number}
use Rattle.normal_model.specs.Making.{variable, assignment, kept_subtypes, kept_if, moving, index_left}
use Rattle.normal_model.specs.RewrittenUnit.{RewrittenUnit}
use Rattle.normal_model.specs.Waits.{not_held}
use Rattle.normal_model.specs.NormalTree.{tasks_beside}
use Rattle.normal_model.specs.Variables.{variable_declared}
use Rattle.normal_laws.specs.structure.asked.Pieces.{IsVariable, AreVariables, IsGuard, member_choice, IsAmong, IsPair, first_pair, later_pair, Pieces}
use Rattle.normal_laws.proofs.structure.asked.CallVariables.{family-there, actuals-there}
use Rattle.normal_laws.proofs.structure.placed.Calls.{moves}
use Rattle.normal_laws.proofs.structure.placed.Depth.{depth-of, few-alternatives}
use Rattle.normal_laws.specs.structure.checked.Around.{own_rules, IsBeside, callee_asks, IsLiteralOf, is_false, is_true, is_enumerated}
use Rattle.normal_laws.proofs.structure.checked.Checked.{kind-among}
use Rattle.replay_structure.specs.checkable.inner.Depth.{depth_asks}
use Rattle.replay_structure.proofs.checkable.Kept.{rules_of, words-kept, formals-kept, expr-kept, choices-kept, word-kept, scheme-kept, head-kept, plain-kept}

-- What is known of the names that a normal form has: those of the program, of its variables and of tasks beside main, the predefined ones, and the
-- literals of indices.
pub record KeepsNames (g : Setting) (own kept : ℕ → Bool) (vars : List PDecl) : Type 0 where
  pub old : (n : ℕ) → own n ≡ true → kept n ≡ true
  pub first : (k : ℕ) → k < 25 → kept k ≡ true
  pub variables : (k : ℕ) → k < length vars → kept (variable_name g k).0 ≡ true
  pub tasks : (info : TaskInfo) → IsAmong info (tasks_beside g) → kept (task_name g info).0 ≡ true
  pub literals : (id : NameId) → IsLiteralOf g id → kept id.0 ≡ true

module _ (u : RewrittenUnit) (vars : List PDecl) (own kept : ℕ → Bool) (names : List (List ℕ)) (known : KeepsNames u.setting own kept vars) where
  abbrev g : Setting
  g = u.setting

  abbrev r : Rules
  r = own_rules own

  abbrev r' : Rules
  r' = rules_of kept

  abbrev M : CheckSite → Type 0
  M = IsCheckMet Original names

  abbrev pub C : Type 0
  C = Prim.Unit {0} × (CheckScope × (Prim.Unit {0} × Prim.Unit {0}))

  abbrev pub b : Asks C
  b = both (place_asks r) (both (check_asks M) (both (depth_asks 41) (callee_asks g)))

  abbrev pub a : Asks (Prim.Unit {0})
  a = place_asks r'

  abbrev pub R : C → Prim.Unit {0} → Type 0
  R c d = Prim.Unit {0}

  -- ---- variables

  variable-kept : (s v : Span) (x : PSubind) (j n : ℕ) → IsVariable g vars s x j → n ≤ 100 → EveryExpr r' n (variable g v j)
  variable-kept s v x j n i le = (le, known.variables j (slice_get_within vars j (variable_declared g s x j) i))

  assigned-kept : (s : Span) (x : PSubind) (j n : ℕ) (e : PExpr) → IsVariable g vars s x j → n ≤ 100 → EveryExpr r' (n + 1) e → EveryStmt r' n (assignment g s j e)
  assigned-kept s x j n e i le h = (le, (known.variables j (slice_get_within vars j (variable_declared g s x j) i), tt), h)

  -- ---- what moves

  abbrev Fits : CheckScope → ℕ → PExpr → Type 0
  Fits c k e = EveryExpr r k e × AllByRecursion M (check.expr_sites c k e)

  moved : (c : CheckScope) (k n : ℕ) (e : PExpr) → Fits c k e → n ≤ k + 5 → EveryExpr r' n e
  moved c k n e f le = expr-kept own kept known.old names c k n e le f.0 f.1

  kept-there : (c : CheckScope) (k n : ℕ) (s : Span) (x : PSubind) (e : PExpr) (j : ℕ) → Fits c k e → k ≤ 41 → IsVariable g vars s x j → n ≤ k + 4 → EveryStmt r' n (assignment g s j e)
  kept-there c k n s x e j f small v le = assigned-kept s x j n e v (omega (arith, small, le)) (moved c k (n + 1) e f (omega (arith, le)))

  option-fits : (c : CheckScope) (k : ℕ) (o : Option PExpr) (e : PExpr) → o ≡ Some e → IfSome o (EveryExpr r k) → AllByRecursion M (check.if_there (check.expr_sites c k) o) → Fits c k e
  option-fits c k None e f h m = cc
  option-fits c k (Some y) e f h m = let q : y ≡ e = cc in subst (Fits c k) q (h, m)

  some-fits : (c : CheckScope) (k : ℕ) (o : Option PExpr) (e : PExpr) → o ≡ Some e → IfSome o (Fits c k) → Fits c k e
  some-fits c k None e f h = cc
  some-fits c k (Some y) e f h = let q : y ≡ e = cc in subst (Fits c k) q h

  list-fits : (c : CheckScope) (k : ℕ) (es : List PExpr) → AllByRecursion (EveryExpr r k) es → AllByRecursion M (check.exprs_sites c k es) → AllByRecursion (Fits c k) es
  list-fits c k [] h m = tt
  list-fits c k (e ∷ es) h m = ((h.0, all_front M (check.expr_sites c k e) (check.exprs_sites c k es) m), list-fits c k es h.1 (all_back M (check.expr_sites c k e) (check.exprs_sites c k es) m))

  args-fit : (c : CheckScope) (k : ℕ) (args : PArgs) → EveryArgs r k args → AllByRecursion M (check.args_sites c k args) → AllByRecursion (Fits c k) args.first × AllByRecursion (Fits c k) (unwrap_or args.second [])
  args-fit c k args h m = (
    list-fits c k args.first (recursion_from_All (EveryExpr r k) args.first h.0.1) (all_front M (check.exprs_sites c k args.first) (check.if_there (check.exprs_sites c k) args.second) m),
    go args.second h.1 (all_back M (check.exprs_sites c k args.first) (check.if_there (check.exprs_sites c k) args.second) m),
  )
    where
      go : (o : Option (List PExpr)) → IfSome o (EveryExprs r k) → AllByRecursion M (check.if_there (check.exprs_sites c k) o) → AllByRecursion (Fits c k) (unwrap_or o [])
      go None i n = tt
      go (Some es) i n = list-fits c k es (recursion_from_All (EveryExpr r k) es i.1) n

  lists-fit : (c : CheckScope) (k : ℕ) (x : PCall) → IfSome x.args (EveryArgs r k) → AllByRecursion M (check.if_there (check.args_sites c k) x.args) → IfSome (lists_called g x).index (Fits c k) × AllByRecursion (Fits c k) (lists_called g x).actuals
  lists-fit c k x h m = go x.args h m
    where
      first_of : (es : List PExpr) → AllByRecursion (Fits c k) es → IfSome (first_expr es) (Fits c k)
      first_of [] f = tt
      first_of (e ∷ es) f = f.0

      in_lists : (f : Bool) (args : PArgs) → EveryArgs r k args → AllByRecursion M (check.args_sites c k args) → IfSome (lists_in f args).index (Fits c k) × AllByRecursion (Fits c k) (lists_in f args).actuals
      in_lists true args i n = let q = args-fit c k args i n in (first_of args.first q.0, q.1)
      in_lists false args i n = (tt, (args-fit c k args i n).0)

      go : (o : Option PArgs) → IfSome o (EveryArgs r k) → AllByRecursion M (check.if_there (check.args_sites c k) o) → IfSome (lists_of g.numbers (entry_called g x) o).index (Fits c k) × AllByRecursion (Fits c k) (lists_of g.numbers (entry_called g x) o).actuals
      go None i n = (tt, tt)
      go (Some args) i n = in_lists (is_family g.numbers (entry_called g x)) args i n

  pair-fits : (c : CheckScope) (k : ℕ) (slot : Slot) (e : PExpr) (xs : List Slot) (es : List PExpr) → IsPair slot e xs es → AllByRecursion (Fits c k) es → Fits c k e
  pair-fits c k slot e xs es (first_pair ys fs) h = h.0
  pair-fits c k slot e xs es (later_pair y z ys fs p) h = pair-fits c k slot e ys fs p h.1

  -- the name that an actual is
  name-kept : (k : ℕ) (e : PExpr) (id : NameId) → variable_of e ≡ Some id → EveryExpr r k e → kept id.0 ≡ true
  name-kept k (EName x s) id f h = let q : x ≡ id = cc in subst (λ y. kept y.0 ≡ true) q (known.old x.0 h.1)
  name-kept k (EInteger n s) id f h = cc
  name-kept k (EIndex w e s) id f h = cc
  name-kept k (EAttribute m w s) id f h = cc
  name-kept k (EAttributeOf m w e s) id f h = cc
  name-kept k (EParen e s) id f h = cc
  name-kept k (EUnary op e s) id f h = cc
  name-kept k (EBinary op l y s) id f h = cc

  -- ---- literals

  number-kept : (z : ℤ) (s : Span) (n : ℕ) → n + 1 ≤ 100 → EveryExpr r' n (integer_literal s z)
  number-kept (pos i) s n le = (omega (arith, le), tt)
  number-kept (negsuc i) s n le = go (i == 2147483647)
    where
      go : (t : Bool) → EveryExpr r' n (if t then EAttribute (word_at s record { 0 = 0 }) (word_at s record { 0 = 18 }) s else EUnary unary.Minus (EInteger (suc i) s) s)
      go true = (omega (arith, le), known.first 0 (omega arith), known.first 18 (omega arith))
      go false = (omega (arith, le), tt, (le, tt))

  truth-kept : (z : ℤ) (s : Span) (n : ℕ) → n ≤ 100 → EveryExpr r' n (truth_literal s z)
  truth-kept z s n le = go (int_eq z (pos 0))
    where
      go : (t : Bool) → EveryExpr r' n (EName record { 0 = if t then false_name else true_name } s)
      go true = (le, known.literals (record { 0 = false_name }) (is_false refl))
      go false = (le, known.literals (record { 0 = true_name }) (is_true refl))

  abbrev IsThere : Option Kind → Type 0
  IsThere k = IfSome k (λ x. IsAmong x g.types.kinds)

  literal-kept : (k : Option Kind) (z : ℤ) (s : Span) (n : ℕ) → n + 1 ≤ 100 → IsThere k → EveryExpr r' n (literal_in k s z)
  literal-kept None z s n le h = number-kept z s n le
  literal-kept (Some kind.Integer) z s n le h = number-kept z s n le
  literal-kept (Some kind.Truth) z s n le h = truth-kept z s n (omega (arith, le))
  literal-kept (Some (kind.Enumeration ids)) z s n le h = (omega (arith, le), known.literals (unwrap_or (slice_get ids (unsigned_abs z)) (record { 0 = 0 })) (is_enumerated ids (unsigned_abs z) h refl))
  literal-kept (Some (kind.Array index first last part)) z s n le h = number-kept z s n le

  kind-there : (o : Option PDrange) → IsThere (kind_of_index g.types o)
  kind-there None = tt
  kind-there (Some x) = kind-among g.types.kinds (kind_of_range g.types x)

  index-kept : (k : Option Kind) (o : Option ℤ) (s : Span) (n : ℕ) → n + 1 ≤ 100 → IsThere k → EveryExpr r' n (index_literal k s o)
  index-kept k None s n le h = (omega (arith, le), tt)
  index-kept k (Some z) s n le h = literal-kept k z s n le h

  -- ---- the new call

  passed-kept : (s : Span) (xs : List Slot) (es : List PExpr) (z n : ℕ) → n ≤ 100 → AreVariables g vars s (actual_subtypes xs es) z → AllByRecursion (EveryExpr r' n) (actuals_passed g s xs es z)
  passed-kept s [] es z n le v = tt
  passed-kept s (x ∷ xs) [] z n le v = tt
  passed-kept s (x ∷ xs) (e ∷ es) z n le v = (variable-kept s s _ z n v.0 le, passed-kept s xs es (z + 1) n le v.1)

  list-moved : (c : CheckScope) (k n : ℕ) (es : List PExpr) → n ≤ k + 5 → AllByRecursion (Fits c k) es → AllByRecursion (EveryExpr r' n) es
  list-moved c k n [] le h = tt
  list-moved c k n (e ∷ es) le h = (moved c k n e h.0 le, list-moved c k n es le h.1)

  module _ (c : CheckScope) (k n : ℕ) (s : Span) (x : PCall) (j : ℕ) (small : n ≤ 100) (le : n ≤ k + 4) where
    abbrev entry : ℕ
    entry = entry_called g x

    abbrev slots : List Slot
    slots = slots_called g x

    abbrev family : PSubind
    family = subtype_of_range g.types s (family_range g entry)

    second-passed : (o : Option (List PExpr)) → AreVariables g vars s (actual_subtypes slots (unwrap_or o [])) (actual_number g s x j) → IfSome (option_map (λ es. actuals_passed g s slots es (actual_number g s x j)) o) (EveryExprs r' n)
    second-passed None v = tt
    second-passed (Some es) v = (tt, All-from_recursion (EveryExpr r' n) (actuals_passed g s slots es (actual_number g s x j)) (passed-kept s slots es (actual_number g s x j) n small v))

    second-moved : (o : Option (List PExpr)) → AllByRecursion (Fits c k) (unwrap_or o []) → IfSome o (EveryExprs r' n)
    second-moved None h = tt
    second-moved (Some es) h = (tt, All-from_recursion (EveryExpr r' n) es (list-moved c k n es (omega (arith, le)) h))

    -- the variable of an index that is there
    index-passed : (es : List PExpr) → 1 ≤ length es → AreVariables g vars s (kept_subtypes (kept_if family (first_expr es))) (index_number g s x j) → IsVariable g vars s family (index_number g s x j)
    index-passed [] some v = let never : ⊥ = omega (arith, some) in absurd never
    index-passed (e ∷ es) some v = v.0

    lists-kept : (f : Bool) (args : PArgs) → EveryArgs r k args → AllByRecursion M (check.args_sites c k args) → AreVariables g vars s (kept_subtypes (kept_if family (lists_in f args).index)) (index_number g s x j) →
        AreVariables g vars s (actual_subtypes slots (lists_in f args).actuals) (actual_number g s x j) → EveryArgs r' n (lists_passed f g s x j args)
    lists-kept true args h m i v =
        ((tt, All-from_recursion (EveryExpr r' n) (variable g s (index_number g s x j) ∷ []) (variable-kept s s family (index_number g s x j) n (index-passed args.first h.0.0 i) small, tt)), second-passed args.second v)
    lists-kept false args h m i v =
        ((tt, All-from_recursion (EveryExpr r' n) (actuals_passed g s slots args.first (actual_number g s x j)) (passed-kept s slots args.first (actual_number g s x j) n small v)), second-moved args.second (args-fit c k args h m).1)

    args-kept : (o : Option PArgs) → IfSome o (EveryArgs r k) → AllByRecursion M (check.if_there (check.args_sites c k) o) → AreVariables g vars s (kept_subtypes (kept_if family (lists_of g.numbers entry o).index)) (index_number g s x j) →
        AreVariables g vars s (actual_subtypes slots (lists_of g.numbers entry o).actuals) (actual_number g s x j) → IfSome (args_passed g s x j o) (EveryArgs r' n)
    args-kept None h m i v = tt
    args-kept (Some args) h m i v = lists-kept (is_family g.numbers entry) args h m i v

  -- ---- guards and accepts

  guard-kept : (n : ℕ) (e : PExpr) → n ≤ 100 → IsGuard g vars e → EveryExpr r' n e
  guard-kept n e le i = subst (EveryExpr r' n) (sym i.2) (variable-kept i.0 i.0 _ i.1 n i.3 le)

  not-kept : (n : ℕ) (s : Span) (e : PExpr) → n + 1 ≤ 100 → IsGuard g vars e → EveryExpr r' n (not_held s e)
  not-kept n s e le i = (omega (arith, le), tt, guard-kept (n + 1) e le i)

  more-kept : (es : List PExpr) (s : Span) (test : PExpr) (deep : ℕ) → 1 ≤ deep → ((n : ℕ) → n + deep ≤ 100 → EveryExpr r' n test) → AllByRecursion (IsGuard g vars) es → (n : ℕ) → n + deep + length es ≤ 100 →
      EveryExpr r' n (fold (λ t y. EBinary binary.And t (not_held s y) s) test es)
  more-kept [] s test deep one h all n le = h n (omega (arith, le))
  more-kept (e ∷ es) s test deep one h all n le =
      more-kept es s (EBinary binary.And test (not_held s e) s) (deep + 1) (omega (arith, one))
      (λ m few. (omega (arith, few), tt, h (m + 1) (omega (arith, few)), not-kept (m + 1) s e (omega (arith, few, one)) all.0)) all.1 n (omega (arith, le))

  index-there : (n : ℕ) (s : Span) (x : PSubind) (j : ℕ) (m o : Option PExpr) (e : PExpr) → m ≡ Some e → IsVariable g vars s x j → n ≤ 100 → IfSome (index_left g s j m o) (EveryExpr r' n)
  index-there n s x j None o e f v le = cc
  index-there n s x j (Some y) o e f v le = variable-kept s s x j n v le

  head-fits : (c : CheckScope) (k : ℕ) (h : PHead) (e : PExpr) → EveryHead r k h → AllByRecursion M (check.head_sites c k h) → moving g.types h.index ≡ Some e → Fits c (k + 1) e
  head-fits c k h e i m f = option-fits c (k + 1) h.index e (moves g.types h.index e f) i.1 (all_front M (check.if_there (check.expr_sites c (k + 1)) h.index) (check.names_sites c (check.formal_names h.formals)) m.1.1)

  deeper : (c : CheckScope) (k : ℕ) (h : PHead) (e : PExpr) → EveryHead r k h → AllByRecursion M (check.head_sites c k h) → moving g.types h.index ≡ Some e → k + 1 ≤ 41
  deeper c k h e i m f = let d : k ≤ 40 = depth-of names c k h.span m.0 in omega (arith, d)

  target-kept : (w : Word) → IsBeside g w.name → kept w.name.0 ≡ true
  target-kept w h = subst (λ (id : NameId). kept id.0 ≡ true) (sym h.is) (known.tasks h.info h.among)

  -- The pieces have kept names and are not too deep.
  pub kept-pieces : Pieces u vars b a R
  kept-pieces = record {
    outer = λ c d k n s rel h le. let m : k ≤ 41 = h.1.1.0 in omega (arith, m, le);
    many = λ n h. tt;
    some = λ n. tt;
    duration = λ n h. tt;
    plain = λ c d k x p rel h. plain-kept own kept known.old names c.1.0 k x p h.0 h.1.0;
    condition = λ c d k e rel h. expr-kept own kept known.old names c.1.0 k k e (omega arith) h.0 h.1.0;
    selector = λ c d k e xs others s rel h. expr-kept own kept known.old names c.1.0 k k e (omega arith) h.0 h.1.0;
    choices = λ c d k e xs rel h. (tt, All-from_recursion (EveryChoice r' k) xs (choices-kept own kept known.old names c.1.0 k xs (recursion_from_All (EveryChoice r k) xs h.0.1) h.1.0));
    loop = λ c d k w x rel h. (word-kept own kept known.old names c.1.0 w h.0.0, scheme-kept own kept known.old names c.1.0 k x h.0.1 (all_back M (check.if_there (λ y. check.site c.1.0 (declares y) ∷ []) w) (check.if_there (check.scheme_sites c.1.0 k) x) h.1.0));
    looping = λ c d k w x rel h. tt;
    delay = λ c d k guard f s rel h. let m : k ≤ 41 = h.1.1.0 in omega (arith, m);
    handlers = λ hs t h. tt;
    handler = λ c d k ns ws rel h. words-kept own kept known.old names c.1.0 ws h.0;
    handling = λ c d rel. tt;
    null = λ c d k n s rel h le. let m : k ≤ 41 = h.1.1.0 in omega (arith, m, le);
    program_error = λ c d k n s rel h le. let m : k ≤ 41 = h.1.1.0 in (omega (arith, m, le), known.first 8 (omega arith));
    callee_index = λ c d k n s x e j rel h f v le. kept-there c.1.0 k n s _ e j (option-fits c.1.0 k x.index e (moves g.types x.index e f) h.0.1 h.1.0.1) h.1.1.0 v le;
    target = λ c d k n x w rel h t le. (target-kept w (h.1.1.1 w t), tt);
    chooses = λ c d k n s x e j rel h f v le. let m : k ≤ 41 = h.1.1.0 in variable-kept s s _ j n v (omega (arith, m, le));
    chosen = λ c d k n s x e j info rel h f v i le.
        let m : k ≤ 41 = h.1.1.0 in
        let here : EveryExpr r' n (member_choice g s x info).first = index-kept (kind_of_index g.types (array_range g.program x.name.name)) info.member s n (omega (arith, m, le)) (kind-there (array_range g.program x.name.name)) in
        (tt, All-from_recursion (EveryChoice r' n) (member_choice g s x info ∷ []) ((here, tt), tt));
    called = λ c d k n s x j w rel h i t v le.
        let m : k ≤ 41 = i.1.1.0 in
        (known.old x.entry.name.0 i.0.0, args-kept c.1.0 k n s x j (omega (arith, m, le)) le x.args i.0.1 i.1.0 (family-there g vars s x j v) (actuals-there g vars s x j v));
    family_index = λ c d k n s x e j rel h i f v le. kept-there c.1.0 k n s _ e j (some-fits c.1.0 k (lists_called g x).index e f (lists-fit c.1.0 k x i.0.1 i.1.0).0) i.1.1.0 v le;
    actual_before = λ c d k n s x slot e j rel h i pair f v le. kept-there c.1.0 k n s _ e j (pair-fits c.1.0 k slot e (slots_called g x) (lists_called g x).actuals pair (lists-fit c.1.0 k x i.0.1 i.1.0).1) i.1.1.0 v le;
    actual_behind = λ c d k n s x slot e id j rel h i pair f q v le.
        let m : k ≤ 41 = i.1.1.0 in
        let fits : Fits c.1.0 k e = pair-fits c.1.0 k slot e (slots_called g x) (lists_called g x).actuals pair (lists-fit c.1.0 k x i.0.1 i.1.0).1 in
        (omega (arith, m, le), (name-kept k e id q fits.0, tt), variable-kept s s _ j (n + 1) v (omega (arith, m, le)));
    flag = λ c d k n s part j rel h small v le. let m : k ≤ 41 = h.1.1.0 in assigned-kept s _ j n (EInteger part s) v (omega (arith, m, le)) (omega (arith, m, le), tt);
    flag_test = λ c d k n s j rel h v le. let m : k ≤ 41 = h.1.1.0 in (omega (arith, m, le), tt, variable-kept s s _ j (n + 1) v (omega (arith, m, le)), (omega (arith, m, le), tt));
    aborted = λ c d k n xs w rel h le. tt;
    no_abort = λ c d k rel h. tt;
    head = λ c d k h rel i f. let m : k ≤ 41 = i.1.1.0 in (omega (arith, m), head-kept own kept known.old names c.1.0 k h i.0.1 i.1.0);
    head_moved = λ c d k s h e j rel i f v.
        let m : k ≤ 41 = i.1.1.0 in
        (omega (arith, m), (known.old h.entry.name.0 i.0.1.0, index-there (k + 1) s _ j (moving g.types h.index) h.index e f v (omega (arith, m)), formals-kept own kept known.old names c.1.0 h.formals i.0.1.2));
    accept_index = λ c d k n s h e j rel i f v le. let m : k ≤ 41 = i.1.1.0 in kept-there c.1.0 (k + 1) n s _ e j (head-fits c.1.0 k h e i.0.1 i.1.0 f) (deeper c.1.0 k h e i.0.1 i.1.0 f) v (omega (arith, le));
    accepting = λ c d k s h j rel i. tt;
    guard = λ c d k n s e j rel h v le. kept-there c.1.0 k n s _ e j (h.0, h.1.0) h.1.1.0 v le;
    guard_test = λ c d k n s j rel h v le. let m : k ≤ 41 = h.1.1.0 in variable-kept s s _ j n v (omega (arith, m, le));
    closed = λ c d k n x others s e es rel h w all few le.
        let m : k ≤ 41 = h.1.1.0 in
        let less : 0 + alts_count x ≤ 32 = few-alternatives names c.1.0 x 0 (omega arith) w.1.0.1 in
        more-kept es s (not_held s e) 1 (omega arith) (λ q small. not-kept q s e small all.0) all.1 n (omega (arith, m, less, few, le));
    wait = λ c d k x others s t rel h alts. tt;
  }

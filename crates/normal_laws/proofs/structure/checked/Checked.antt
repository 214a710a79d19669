-- Each piece that the normal form makes meets the rules 13 to 23.
use Rattle.std.proofs.Common.{◌≡◌, ℕ, ◌+◌, ◌≤◌, ◌<◌, Bool, true, false, if◌then◌else◌, zero, suc, ◌==◌, ℤ, pos, negsuc, unsigned_abs, List, [], ◌∷◌, length, Option, Some, None, option_map, IfSome, unwrap_or, slice_get, refl, sym, subst, arith}
use Rattle.std.specs.List.{AllByRecursion, fold}
use Rattle.std.specs.Ordering.{int_eq}
use Rattle.std.proofs.lemmas.List.Elements.{recursion_from_All}
use Rattle.std.proofs.lemmas.Option.{slice_get_within}
use Rattle.ada_tree.specs.declared.naming.NameId.{NameId}
use Rattle.ada_tree.specs.declared.naming.Span.{Span}
use Rattle.ada_tree.specs.declared.naming.Word.{Word}
use Rattle.ada_tree.specs.declared.static_types.Kind.{Kind}
use Rattle.ada_tree.specs.declared.static_types.Kind.TheVariants as kind
use Rattle.ada_tree.specs.declared.expressions.UnaryOp.TheVariants as unary
use Rattle.ada_tree.specs.declared.expressions.BinaryOp.TheVariants as binary
use Rattle.ada_static_rules.specs.ExprTypes.{expr_place}
use Rattle.ada_tree.specs.Attributes.{false_name, true_name}
use Rattle.ada_tree.specs.PlainExpr.{PExpr, EInteger, EName, EIndex, EAttribute, EAttributeOf, EParen, EUnary, EBinary, PSubind, PDrange}
use Rattle.ada_tree.specs.PlainStmt.{PCallee, PArgs, PCall, PHead, accepting, alternative, AAccept, ADelay, ATerminate, PAlts, no_alt, alt_then}
use Rattle.ada_tree.specs.PlainDecl.{PDecl}
use Rattle.ada_tree.specs.Every.{Rules, EveryExpr, EveryArgs, EveryExprs, EveryChoice, alts_count}
use Rattle.syn_event.specs.declared.numbering.Mode.TheVariants.{Original, Any}
use Rattle.syn_event.specs.declared.limits.What.TheVariants.{Nesting, Alternatives}
use Rattle.syn_event.specs.CheckScope.{CheckScope, CheckSite, uses, addresses, counts}
use Rattle.syn_event.specs.CheckSites as check
use Rattle.syn_event.specs.RuleSelectForm.{alt_kinds}
use Rattle.syn_event.specs.RuleSameEntryTwice.{accept_heads}
use Rattle.syn_event.specs.DeclaredTasks.{text_of}
use Rattle.syn_event.specs.Extents.{fixed}
use Rattle.syn_event.specs.RuleMainEntry.{main_entry}
use Rattle.syn_event.specs.RuleSharedVariable.{shared_variable}
use Rattle.task_laws.specs.legal.sites.Met.{IsCheckMet}
use Rattle.task_model.specs.Setting.{Setting, is_family, first_expr, lists_in, lists_of}
use Rattle.task_model.specs.Calls.{variable_of}
use Rattle.normal_model.specs.Ranges.{word_at, kind_of_range, subtype_of_range, array_range, family_range}
use Rattle.normal_model.specs.Members.{integer_literal, truth_literal, literal_in, kind_of_index, index_literal}
use Rattle.normal_model.specs.Calls.{Slot, actuals_passed, actual_subtypes, entry_called, lists_called, slots_called, lists_passed, args_passed, index_number, actual_number}
use Rattle.normal_model.specs.Making.{variable, assignment, kept_subtypes, kept_if, moving, index_left}
use Rattle.normal_model.specs.RewrittenUnit.{RewrittenUnit}
use Rattle.normal_model.specs.Waits.{head_left, not_held}
use Rattle.normal_model.specs.Variables.{variable_declared}
use Rattle.normal_model.specs.Walk.{inside_alts}
use Rattle.normal_model.specs.NormalStmts.{normal_rewriter}
use Rattle.task_laws.specs.legal.asked.Asked.{Asks, AskedAlts}
use Rattle.task_laws.specs.legal.asked.Kinds.{place_asks, check_asks, both}
use Rattle.normal_laws.specs.structure.asked.Pieces.{IsVariable, AreVariables, IsGuard, member_choice, IsAmong, first_among, later_among, IsPair, first_pair, later_pair, Pieces}
use Rattle.normal_laws.proofs.structure.asked.CallVariables.{family-there, actuals-there}
use Rattle.normal_laws.proofs.structure.placed.Depth.{depth-of, expr-depth, few-alternatives}
use Rattle.normal_laws.proofs.structure.placed.Calls.{moves}
use Rattle.normal_laws.specs.structure.checked.Around.{own_rules, IsBeside, callee_asks, IsLiteralOf, is_false, is_true, is_enumerated, IsAround}
use Rattle.normal_laws.proofs.structure.checked.Places.{met-deep, met-alternative, met-use, met-callee, met-wait}
use Rattle.normal_laws.proofs.structure.checked.Scopes.{accept-around, loop-around, handler-around}
use Rattle.normal_laws.proofs.structure.checked.Parts.{expr-stays, choices-stay, loop-stays, head-stays, formals-stay, plain-stays}
use Rattle.normal_laws.proofs.structure.checked.Stays.{name-stays, stay, accept-stays, stay-in}
use Rattle.normal_laws.proofs.structure.checked.Waits.{form-kept, IsAgreed, accepts-kept}
use Rattle.common_lemmas.proofs.Lists.{all_back, all_front, all_joined}

-- what stands at a place of a list is one of the list
pub kind-among : (xs : List Kind) (k : ℕ) → IfSome (slice_get xs k) (λ x. IsAmong x xs)
kind-among [] k = tt
kind-among (x ∷ xs) zero = first_among xs
kind-among (x ∷ xs) (suc k) = later (slice_get xs k) (kind-among xs k)
  where
    later : (o : Option Kind) → IfSome o (λ y. IsAmong y xs) → IfSome o (λ y. IsAmong y (x ∷ xs))
    later None h = tt
    later (Some y) h = later_among x xs h

module _ (u : RewrittenUnit) (own : ℕ → Bool) (vars : List PDecl) (names names' : List (List ℕ)) (texts : (id : NameId) → own id.0 ≡ true → text_of names' id ≡ text_of names id) where
  abbrev g : Setting
  g = u.setting

  abbrev r : Rules
  r = own_rules own

  -- of the program: its names are its own, the rules 13 to 23 are met, and each name that takes a callee's place is that of a task beside main
  abbrev pub C : Type 0
  C = Prim.Unit {0} × (CheckScope × Prim.Unit {0})

  abbrev pub b : Asks C
  b = both (place_asks r) (both (check_asks (IsCheckMet Original names)) (callee_asks g))

  abbrev pub a : Asks CheckScope
  a = check_asks (IsCheckMet Any names')

  abbrev pub R : C → CheckScope → Type 0
  R c d = IsAround g own vars c.1.0 d

  abbrev At' : List CheckSite → Type 0
  At' xs = AllByRecursion (IsCheckMet Any names') xs

  shallow : (c : CheckScope) (k n : ℕ) (s : Span) → IsCheckMet Original names (check.site c (counts Nesting 0 k s)) → n ≤ k + 4 → n + 40 ≤ 300
  shallow c k n s m le = let i : k ≤ 40 = depth-of names c k s m in omega (arith, i, le)

  -- ---- variables

  module _ (c : C) (d : CheckScope) (rel : R c d) where
    variable-met : (s v : Span) (x : PSubind) (j n : ℕ) → IsVariable g vars s x j → n ≤ 300 → At' (check.expr_sites d n (variable g v j))
    variable-met s v x j n i le =
        let l : j < length vars = slice_get_within vars j (variable_declared g s x j) i in
        (met-deep names' d n v le, (met-use names' d _ v (rel.variables j v l), tt))

    -- `DED_V1 := e;`
    assigned-met : (s : Span) (x : PSubind) (j n : ℕ) (e : PExpr) → IsVariable g vars s x j → n ≤ 300 → At' (check.expr_sites d (n + 1) e) → At' (check.stmt_sites d n (assignment g s j e))
    assigned-met s x j n e i le h =
        let l : j < length vars = slice_get_within vars j (variable_declared g s x j) i in
        (met-deep names' d n s le, (met-use names' d _ s (rel.variables j s l), h))

  -- the name that an actual is, and that it is used there
  name-own : (k : ℕ) (e : PExpr) (id : NameId) → variable_of e ≡ Some id → EveryExpr r k e → own id.0 ≡ true
  name-own k (EName x s) id f h = let q : x ≡ id = cc in subst (λ y. own y.0 ≡ true) q h.1
  name-own k (EInteger n s) id f h = cc
  name-own k (EIndex w e s) id f h = cc
  name-own k (EAttribute m w s) id f h = cc
  name-own k (EAttributeOf m w e s) id f h = cc
  name-own k (EParen e s) id f h = cc
  name-own k (EUnary op e s) id f h = cc
  name-own k (EBinary op l y s) id f h = cc

  name-used : (c : CheckScope) (k : ℕ) (e : PExpr) (id : NameId) → variable_of e ≡ Some id → AllByRecursion (IsCheckMet Original names) (check.expr_sites c k e) → shared_variable c (uses id (expr_place e)) ≡ []
  name-used c k (EName x s) id f m = let q : x ≡ id = cc in subst (λ y. shared_variable c (uses y s) ≡ []) q m.1.0.shared
  name-used c k (EInteger n s) id f m = cc
  name-used c k (EIndex w e s) id f m = cc
  name-used c k (EAttribute x w s) id f m = cc
  name-used c k (EAttributeOf x w e s) id f m = cc
  name-used c k (EParen e s) id f m = cc
  name-used c k (EUnary op e s) id f m = cc
  name-used c k (EBinary op l y s) id f m = cc

  -- ---- what moves

  -- an expression of own names that meets the rules
  abbrev Fits : CheckScope → ℕ → PExpr → Type 0
  Fits c k e = EveryExpr r k e × AllByRecursion (IsCheckMet Original names) (check.expr_sites c k e)

  fits-depth : (c : CheckScope) (k : ℕ) (e : PExpr) → Fits c k e → k ≤ 40
  fits-depth c k e h = expr-depth names c k e h.1

  option-fits : (c : CheckScope) (k : ℕ) (o : Option PExpr) (e : PExpr) → o ≡ Some e → IfSome o (EveryExpr r k) → AllByRecursion (IsCheckMet Original names) (check.if_there (check.expr_sites c k) o) → Fits c k e
  option-fits c k None e f h m = cc
  option-fits c k (Some y) e f h m = let q : y ≡ e = cc in subst (Fits c k) q (h, m)

  list-fits : (c : CheckScope) (k : ℕ) (es : List PExpr) → AllByRecursion (EveryExpr r k) es → AllByRecursion (IsCheckMet Original names) (check.exprs_sites c k es) → AllByRecursion (Fits c k) es
  list-fits c k [] h m = tt
  list-fits c k (e ∷ es) h m = (
    (h.0, all_front (IsCheckMet Original names) (check.expr_sites c k e) (check.exprs_sites c k es) m),
    list-fits c k es h.1 (all_back (IsCheckMet Original names) (check.expr_sites c k e) (check.exprs_sites c k es) m),
  )

  args-fit : (c : CheckScope) (k : ℕ) (args : PArgs) → EveryArgs r k args → AllByRecursion (IsCheckMet Original names) (check.args_sites c k args) → AllByRecursion (Fits c k) args.first × AllByRecursion (Fits c k) (unwrap_or args.second [])
  args-fit c k args h m =
      let first : List CheckSite = check.exprs_sites c k args.first in
      let more : List CheckSite = check.if_there (check.exprs_sites c k) args.second in (
        list-fits c k args.first (recursion_from_All (EveryExpr r k) args.first h.0.1) (all_front (IsCheckMet Original names) first more m),
        go args.second h.1 (all_back (IsCheckMet Original names) first more m),
      )
    where
      go : (o : Option (List PExpr)) → IfSome o (EveryExprs r k) → AllByRecursion (IsCheckMet Original names) (check.if_there (check.exprs_sites c k) o) → AllByRecursion (Fits c k) (unwrap_or o [])
      go None i n = tt
      go (Some es) i n = list-fits c k es (recursion_from_All (EveryExpr r k) es i.1) n

  -- the index and the actuals of a call
  lists-fit : (c : CheckScope) (k : ℕ) (x : PCall) → IfSome x.args (EveryArgs r k) → AllByRecursion (IsCheckMet Original names) (check.if_there (check.args_sites c k) x.args) →
      IfSome (lists_called g x).index (Fits c k) × AllByRecursion (Fits c k) (lists_called g x).actuals
  lists-fit c k x h m = go x.args h m
    where
      first : (es : List PExpr) → AllByRecursion (Fits c k) es → IfSome (first_expr es) (Fits c k)
      first [] f = tt
      first (e ∷ es) f = f.0

      in-lists : (f : Bool) (args : PArgs) → EveryArgs r k args → AllByRecursion (IsCheckMet Original names) (check.args_sites c k args) → IfSome (lists_in f args).index (Fits c k) × AllByRecursion (Fits c k) (lists_in f args).actuals
      in-lists true args i n = let q = args-fit c k args i n in (first args.first q.0, q.1)
      in-lists false args i n = (tt, (args-fit c k args i n).0)

      go : (o : Option PArgs) → IfSome o (EveryArgs r k) → AllByRecursion (IsCheckMet Original names) (check.if_there (check.args_sites c k) o) →
          IfSome (lists_of g.numbers (entry_called g x) o).index (Fits c k) × AllByRecursion (Fits c k) (lists_of g.numbers (entry_called g x) o).actuals
      go None i n = (tt, tt)
      go (Some args) i n = in-lists (is_family g.numbers (entry_called g x)) args i n

  some-fits : (c : CheckScope) (k : ℕ) (o : Option PExpr) (e : PExpr) → o ≡ Some e → IfSome o (Fits c k) → Fits c k e
  some-fits c k None e f h = cc
  some-fits c k (Some y) e f h = let q : y ≡ e = cc in subst (Fits c k) q h

  pair-fits : (c : CheckScope) (k : ℕ) (slot : Slot) (e : PExpr) (xs : List Slot) (es : List PExpr) → IsPair slot e xs es → AllByRecursion (Fits c k) es → Fits c k e
  pair-fits c k slot e xs es (first_pair ys fs) h = h.0
  pair-fits c k slot e xs es (later_pair y z ys fs p) h = pair-fits c k slot e ys fs p h.1

  module _ (c : C) (d : CheckScope) (rel : R c d) where
    moved : (k n : ℕ) (e : PExpr) → Fits c.1.0 k e → n ≤ k + 5 → At' (check.expr_sites d n e)
    moved k n e f le = expr-stays (stay g own vars names names' texts c.1.0 d rel) k n e le f.0 f.1

    -- an assignment to a variable of what stood elsewhere
    kept : (k n : ℕ) (s : Span) (x : PSubind) (e : PExpr) (j : ℕ) → Fits c.1.0 k e → IsVariable g vars s x j → n ≤ k + 4 → At' (check.stmt_sites d n (assignment g s j e))
    kept k n s x e j f v le =
        let i : k ≤ 40 = fits-depth c.1.0 k e f in
        assigned-met c d rel s x j n e v (omega (arith, i, le)) (moved k (n + 1) e f (omega (arith, le)))

    beside-met : (w : Word) → IsBeside g w.name → main_entry d (addresses w) ≡ []
    beside-met w h = subst (λ id. main_entry d (addresses (record { name = id; span = w.span })) ≡ []) (sym h.is) (rel.tasks h.info w.span h.among)

    -- ---- literals

    literal-used : (id : NameId) (s : Span) (q : ℕ) → q ≤ 300 → IsLiteralOf g id → At' (check.expr_sites d q (EName id s))
    literal-used id s q le h = (met-deep names' d q s le, (met-use names' d id s (rel.literals id s h), tt))

    number-met : (z : ℤ) (s : Span) (q : ℕ) → q + 1 ≤ 300 → At' (check.expr_sites d q (integer_literal s z))
    number-met (pos n) s q le = (met-deep names' d q s (omega (arith, le)), tt)
    number-met (negsuc n) s q le = go (n == 2147483647)
      where
        go : (t : Bool) → At' (check.expr_sites d q (if t then EAttribute (word_at s record { 0 = 0 }) (word_at s record { 0 = 18 }) s else EUnary unary.Minus (EInteger (suc n) s) s))
        go true = (met-deep names' d q s (omega (arith, le)), tt)
        go false = (met-deep names' d q s (omega (arith, le)), (met-deep names' d (q + 1) s le, tt))

    truth-met : (z : ℤ) (s : Span) (q : ℕ) → q + 1 ≤ 300 → At' (check.expr_sites d q (truth_literal s z))
    truth-met z s q le = go (int_eq z (pos 0))
      where
        go : (t : Bool) → At' (check.expr_sites d q (EName record { 0 = if t then false_name else true_name } s))
        go true = literal-used (record { 0 = false_name }) s q (omega (arith, le)) (is_false refl)
        go false = literal-used (record { 0 = true_name }) s q (omega (arith, le)) (is_true refl)

    -- a kind that the table has, if there is one
    abbrev IsThere : Option Kind → Type 0
    IsThere k = IfSome k (λ x. IsAmong x g.types.kinds)

    literal-met : (k : Option Kind) (z : ℤ) (s : Span) (q : ℕ) → q + 1 ≤ 300 → IsThere k → At' (check.expr_sites d q (literal_in k s z))
    literal-met None z s q le h = number-met z s q le
    literal-met (Some kind.Integer) z s q le h = number-met z s q le
    literal-met (Some kind.Truth) z s q le h = truth-met z s q le
    literal-met (Some (kind.Enumeration ids)) z s q le h = literal-used (unwrap_or (slice_get ids (unsigned_abs z)) (record { 0 = 0 })) s q (omega (arith, le)) (is_enumerated ids (unsigned_abs z) h refl)
    literal-met (Some (kind.Array index first last part)) z s q le h = number-met z s q le

    kind-there : (o : Option PDrange) → IsThere (kind_of_index g.types o)
    kind-there None = tt
    kind-there (Some x) = kind-among g.types.kinds (kind_of_range g.types x)

    index-met : (k : Option Kind) (o : Option ℤ) (s : Span) (q : ℕ) → q + 1 ≤ 300 → IsThere k → At' (check.expr_sites d q (index_literal k s o))
    index-met k None s q le h = (met-deep names' d q s (omega (arith, le)), tt)
    index-met k (Some z) s q le h = literal-met k z s q le h

    -- ---- the new call

    passed-met : (s : Span) (xs : List Slot) (es : List PExpr) (z q : ℕ) → q ≤ 300 → AreVariables g vars s (actual_subtypes xs es) z → At' (check.exprs_sites d q (actuals_passed g s xs es z))
    passed-met s [] es z q le v = tt
    passed-met s (x ∷ xs) [] z q le v = tt
    passed-met s (x ∷ xs) (e ∷ es) z q le v =
        all_joined (IsCheckMet Any names') (check.expr_sites d q (variable g s z)) (check.exprs_sites d q (actuals_passed g s xs es (z + 1))) (variable-met c d rel s s _ z q v.0 le) (passed-met s xs es (z + 1) q le v.1)

    list-moved : (k q : ℕ) (es : List PExpr) → q ≤ k + 5 → AllByRecursion (Fits c.1.0 k) es → At' (check.exprs_sites d q es)
    list-moved k q [] le h = tt
    list-moved k q (e ∷ es) le h = all_joined (IsCheckMet Any names') (check.expr_sites d q e) (check.exprs_sites d q es) (moved k q e h.0 le) (list-moved k q es le h.1)

    args-depth : (k : ℕ) (args : PArgs) → EveryArgs r k args → AllByRecursion (Fits c.1.0 k) args.first → k ≤ 40
    args-depth k args h f = go args.first h.0.0 f
      where
        go : (es : List PExpr) → 1 ≤ length es → AllByRecursion (Fits c.1.0 k) es → k ≤ 40
        go [] some i = omega (arith, some)
        go (e ∷ es) some i = fits-depth c.1.0 k e i.0

    module _ (k q : ℕ) (s : Span) (x : PCall) (j : ℕ) (le : q ≤ k + 4) where
      abbrev entry : ℕ
      entry = entry_called g x

      abbrev slots : List Slot
      slots = slots_called g x

      abbrev family : PSubind
      family = subtype_of_range g.types s (family_range g entry)

      abbrev Met : List CheckSite → Type 0
      Met xs = AllByRecursion (IsCheckMet Original names) xs

      index-variable : (es : List PExpr) → 1 ≤ length es → AreVariables g vars s (kept_subtypes (kept_if family (first_expr es))) (index_number g s x j) → IsVariable g vars s family (index_number g s x j)
      index-variable [] some v = let never : ⊥ = omega (arith, some) in absurd never
      index-variable (e ∷ es) some v = v.0

      second-passed : (o : Option (List PExpr)) → q ≤ 300 → AreVariables g vars s (actual_subtypes slots (unwrap_or o [])) (actual_number g s x j) →
          At' (check.if_there (check.exprs_sites d q) (option_map (λ es. actuals_passed g s slots es (actual_number g s x j)) o))
      second-passed None small v = tt
      second-passed (Some es) small v = passed-met s slots es (actual_number g s x j) q small v

      second-moved : (o : Option (List PExpr)) → AllByRecursion (Fits c.1.0 k) (unwrap_or o []) → At' (check.if_there (check.exprs_sites d q) o)
      second-moved None h = tt
      second-moved (Some es) h = list-moved k q es (omega (arith, le)) h

      lists-met : (f : Bool) (args : PArgs) → EveryArgs r k args → Met (check.args_sites c.1.0 k args) →
          AreVariables g vars s (kept_subtypes (kept_if family (lists_in f args).index)) (index_number g s x j) → AreVariables g vars s (actual_subtypes slots (lists_in f args).actuals) (actual_number g s x j) →
          At' (check.args_sites d q (lists_passed f g s x j args))
      lists-met true args h m i v =
          let fits = args-fit c.1.0 k args h m in
          let deep : k ≤ 40 = args-depth k args h fits.0 in
          let small : q ≤ 300 = omega (arith, deep, le) in
          let one : At' (check.exprs_sites d q (variable g s (index_number g s x j) ∷ [])) =
          all_joined (IsCheckMet Any names') (check.expr_sites d q (variable g s (index_number g s x j))) [] (variable-met c d rel s s family (index_number g s x j) q (index-variable args.first h.0.0 i) small) tt in
          all_joined (IsCheckMet Any names') (check.exprs_sites d q (variable g s (index_number g s x j) ∷ []))
          (check.if_there (check.exprs_sites d q) (option_map (λ es. actuals_passed g s slots es (actual_number g s x j)) args.second)) one (second-passed args.second small v)
      lists-met false args h m i v =
          let fits = args-fit c.1.0 k args h m in
          let deep : k ≤ 40 = args-depth k args h fits.0 in
          all_joined (IsCheckMet Any names') (check.exprs_sites d q (actuals_passed g s slots args.first (actual_number g s x j))) (check.if_there (check.exprs_sites d q) args.second)
          (passed-met s slots args.first (actual_number g s x j) q (omega (arith, deep, le)) v) (second-moved args.second fits.1)

      args-met : (o : Option PArgs) → IfSome o (EveryArgs r k) → Met (check.if_there (check.args_sites c.1.0 k) o) →
          AreVariables g vars s (kept_subtypes (kept_if family (lists_of g.numbers entry o).index)) (index_number g s x j) → AreVariables g vars s (actual_subtypes slots (lists_of g.numbers entry o).actuals) (actual_number g s x j) →
          At' (check.if_there (check.args_sites d q) (args_passed g s x j o))
      args-met None h m i v = tt
      args-met (Some args) h m i v = lists-met (is_family g.numbers entry) args h m i v

    -- ---- guards

    guard-met : (n : ℕ) (e : PExpr) → n ≤ 300 → IsGuard g vars e → At' (check.expr_sites d n e)
    guard-met n e le i = subst (λ y. At' (check.expr_sites d n y)) (sym i.2) (variable-met c d rel i.0 i.0 _ i.1 n i.3 le)

    not-met : (n : ℕ) (s : Span) (e : PExpr) → n + 1 ≤ 300 → IsGuard g vars e → At' (check.expr_sites d n (not_held s e))
    not-met n s e le i = (met-deep names' d n s (omega (arith, le)), guard-met (n + 1) e le i)

    more-met : (es : List PExpr) (s : Span) (test : PExpr) (deep : ℕ) → 1 ≤ deep → ((q : ℕ) → q + deep ≤ 300 → At' (check.expr_sites d q test)) → AllByRecursion (IsGuard g vars) es → (q : ℕ) → q + deep + length es ≤ 300 →
        At' (check.expr_sites d q (fold (λ t y. EBinary binary.And t (not_held s y) s) test es))
    more-met [] s test deep one h all q le = h q (omega (arith, le))
    more-met (e ∷ es) s test deep one h all q le =
        more-met es s (EBinary binary.And test (not_held s e) s) (deep + 1) (omega arith)
        (λ n few. (met-deep names' d n s (omega (arith, few)), all_joined (IsCheckMet Any names') (check.expr_sites d (n + 1) test) (check.expr_sites d (n + 1) (not_held s e)) (h (n + 1) (omega (arith, few))) (not-met (n + 1) s e (omega (arith, few, one)) all.0)))
        all.1 q (omega (arith, le))

    -- ---- accepts and waits

    index-site : (n : ℕ) (s : Span) (x : PSubind) (j : ℕ) (m o : Option PExpr) (e : PExpr) → m ≡ Some e → IsVariable g vars s x j → n ≤ 300 → At' (check.if_there (check.expr_sites d n) (index_left g s j m o))
    index-site n s x j None o e f v le = cc
    index-site n s x j (Some y) o e f v le = variable-met c d rel s s x j n v le

    heads-agreed : (k : ℕ) (x : PAlts) → AskedAlts b c k x → AllByRecursion (IsAgreed u c.1.0.types d.types rel.types) (accept_heads (alt_kinds x))
    heads-agreed k no_alt h = tt
    heads-agreed k (alt_then (alternative guard (AAccept (accepting i o) l) s) rest) h = (go i.index h.2.0.0.0.1.1, heads-agreed k rest h.3)
      where
        go : (o : Option PExpr) → IfSome o (EveryExpr r ((k + 1) + 1)) → IfSome o (λ e. fixed d.types e ≡ fixed c.1.0.types e)
        go None q = tt
        go (Some e) q = rel.fixed ((k + 1) + 1) e q
    heads-agreed k (alt_then (alternative guard (ADelay n l) s) rest) h = heads-agreed k rest h.3
    heads-agreed k (alt_then (alternative guard ATerminate s) rest) h = heads-agreed k rest h.3

    alternatives-met : (x : PAlts) (t : List PDecl) (n : ℕ) → n + alts_count x ≤ 32 → At' (check.numbered d Alternatives n (check.alt_places (inside_alts (normal_rewriter u) x t)))
    alternatives-met no_alt t n le = tt
    alternatives-met (alt_then (alternative guard what s) l) t n le = (met-alternative names' d n s (omega (arith, le)), alternatives-met l _ (n + 1) (omega (arith, le)))

    wait-met : (k : ℕ) (x : PAlts) (others : Bool) (s : Span) (t : List PDecl) → b.wait c k x others s → AskedAlts b c (k + 1) x → a.wait d k (inside_alts (normal_rewriter u) x t) others s
    wait-met k x others s t h alts =
        let few : 0 + alts_count x ≤ 32 = few-alternatives names c.1.0 x 0 (omega arith) h.1.0.1 in (
          met-wait names' d (inside_alts (normal_rewriter u) x t) others s (form-kept u x t others s h.1.0.0.selects) (accepts-kept u c.1.0.types d.types rel.types x t (heads-agreed (k + 1) x alts) h.1.0.0.twice),
          alternatives-met x t 0 few,
        )

    delay-met : (k : ℕ) (guard : Option PExpr) (f : PExpr → PExpr) (s : Span) → AllByRecursion (IsCheckMet Original names) (check.delay_sites c.1.0 k guard s) → At' (check.delay_sites d k (option_map f guard) s)
    delay-met k (Some e) f s m = tt
    delay-met k None f s m = (let deep : k + 40 ≤ 300 = shallow c.1.0 k k s m.0 (omega arith) in met-deep names' d k s (omega (arith, deep)), tt)

  -- ---- all pieces

  callee-fits : (c : C) (k : ℕ) (x : PCallee) (e : PExpr) → b.callee c k x → moving g.types x.index ≡ Some e → Fits c.1.0 k e
  callee-fits c k x e h f = option-fits c.1.0 k x.index e (moves g.types x.index e f) h.0.1 h.1.0.1

  head-fits : (c : C) (k : ℕ) (h : PHead) (e : PExpr) → b.head c k h → moving g.types h.index ≡ Some e → Fits c.1.0 (k + 1) e
  head-fits c k h e i f =
      option-fits c.1.0 (k + 1) h.index e (moves g.types h.index e f) i.0.1.1
      (all_front (IsCheckMet Original names) (check.if_there (check.expr_sites c.1.0 (k + 1)) h.index) (check.names_sites c.1.0 (check.formal_names h.formals)) i.1.0.1.1)

  pub pieces : Pieces u vars b a R
  pieces = record {
    outer = λ c d k n s rel h le. let deep : n + 40 ≤ 300 = shallow c.1.0 k n s h.1.0 le in met-deep names' d n s (omega (arith, deep));
    many = λ n h. tt;
    some = λ n. tt;
    duration = λ n h. tt;
    plain = λ c d k x i rel h. plain-stays (stay-in g own vars names names' texts c.1.0 d rel) k k x i (omega arith) h.0 h.1.0;
    condition = λ c d k e rel h. moved c d rel k k e (h.0, h.1.0) (omega arith);
    selector = λ c d k e xs others s rel h. moved c d rel k k e (h.0, h.1.0) (omega arith);
    choices = λ c d k e xs rel h. choices-stay (stay g own vars names names' texts c.1.0 d rel) k k xs (omega arith) (recursion_from_All (EveryChoice r k) xs h.0.1) h.1.0;
    loop = λ c d k w x rel h. loop-stays (stay g own vars names names' texts c.1.0 d rel) k k w x (omega arith) h.0.0 h.0.1 h.1.0;
    looping = λ c d k w x rel h. loop-around g own vars c.1.0 d w x rel;
    delay = λ c d k e f s rel h. delay-met c d rel k e f s h.1.0;
    handlers = λ hs t h. tt;
    handler = λ c d k ids ws rel h. tt;
    handling = λ c d rel. handler-around g own vars c.1.0 d rel;
    null = λ c d k n s rel h le. (let deep : n + 40 ≤ 300 = shallow c.1.0 k n s h.1.0 le in met-deep names' d n s (omega (arith, deep)), tt);
    program_error = λ c d k n s rel h le. (let deep : n + 40 ≤ 300 = shallow c.1.0 k n s h.1.0 le in met-deep names' d n s (omega (arith, deep)), tt);
    callee_index = λ c d k n s x e j rel h f v le. kept c d rel k n s _ e j (callee-fits c k x e h f) v le;
    target = λ c d k n x w rel h t le. (met-callee names' d w (beside-met c d rel w (h.1.1 w t)), tt);
    chooses = λ c d k n s x e j rel h f v le.
        let deep : k ≤ 40 = fits-depth c.1.0 k e (callee-fits c k x e h f) in
        variable-met c d rel s s _ j n v (omega (arith, deep, le));
    chosen = λ c d k n s x e j info rel h f v i le.
        let deep : k ≤ 40 = fits-depth c.1.0 k e (callee-fits c k x e h f) in
        let first : At' (check.expr_sites d n (member_choice g s x info).first) = index-met c d rel (kind_of_index g.types (array_range g.program x.name.name)) info.member s n (omega (arith, deep, le)) (kind-there c d rel (array_range g.program x.name.name)) in
        all_joined (IsCheckMet Any names') (check.choice_sites d n (member_choice g s x info)) [] (all_joined (IsCheckMet Any names') (check.expr_sites d n (member_choice g s x info).first) [] first tt) tt;
    called = λ c d k n s x j w rel h i t v le. args-met c d rel k n s x j le x.args i.0.1 i.1.0 (family-there g vars s x j v) (actuals-there g vars s x j v);
    family_index = λ c d k n s x e j rel h i f v le. kept c d rel k n s _ e j (some-fits c.1.0 k (lists_called g x).index e f (lists-fit c.1.0 k x i.0.1 i.1.0).0) v le;
    actual_before = λ c d k n s x slot e j rel h i pair f v le. kept c d rel k n s _ e j (pair-fits c.1.0 k slot e (slots_called g x) (lists_called g x).actuals pair (lists-fit c.1.0 k x i.0.1 i.1.0).1) v le;
    actual_behind = λ c d k n s x slot e id j rel h i pair f q v le.
        let fits : Fits c.1.0 k e = pair-fits c.1.0 k slot e (slots_called g x) (lists_called g x).actuals pair (lists-fit c.1.0 k x i.0.1 i.1.0).1 in
        let deep : k ≤ 40 = fits-depth c.1.0 k e fits in
        (met-deep names' d n s (omega (arith, deep, le)), (met-use names' d id (expr_place e) (rel.hidden id (expr_place e) (name-own k e id q fits.0) (name-used c.1.0 k e id q fits.1)), variable-met c d rel s s _ j (n + 1) v (omega (arith, deep, le))));
    flag = λ c d k n s part j rel h small v le.
        let deep : n + 40 ≤ 300 = shallow c.1.0 k n s h.1.0 le in
        assigned-met c d rel s _ j n (EInteger part s) v (omega (arith, deep)) (met-deep names' d (n + 1) s (omega (arith, deep)), tt);
    flag_test = λ c d k n s j rel h v le.
        let deep : n + 40 ≤ 300 = shallow c.1.0 k n s h.1.0 le in (
          met-deep names' d n s (omega (arith, deep)),
          all_joined (IsCheckMet Any names') (check.expr_sites d (n + 1) (variable g s j)) (check.expr_sites d (n + 1) (EInteger 1 s)) (variable-met c d rel s s _ j (n + 1) v (omega (arith, deep))) (met-deep names' d (n + 1) s (omega (arith, deep)), tt),
        );
    aborted = λ c d k n xs w rel h le. tt;
    no_abort = λ c d k rel h. tt;
    head = λ c d k h rel i f. head-stays (stay g own vars names names' texts c.1.0 d rel) (λ x m. accept-stays g own vars names names' texts c.1.0 d rel x x refl refl m) k k h (omega arith) (tt, i.0.1) i.1.0;
    head_moved = λ c d k s h e j rel i f v.
        let deep : k + 40 ≤ 300 = shallow c.1.0 k k h.span i.1.0.0 (omega arith) in (
          met-deep names' d k h.span (omega (arith, deep)),
          (
            accept-stays g own vars names names' texts c.1.0 d rel h (head_left u s h j) refl refl i.1.0.1.0,
            all_joined (IsCheckMet Any names') (check.if_there (check.expr_sites d (k + 1)) (head_left u s h j).index) (check.names_sites d (check.formal_names h.formals))
                (index-site c d rel (k + 1) s _ j (moving g.types h.index) h.index e f v (omega (arith, deep)))
                (formals-stay (own_rules own) (IsCheckMet Original names) (IsCheckMet Any names') c.1.0 d (name-stays g own vars names names' texts c.1.0 d rel) h.formals i.0.1.2 (all_back (IsCheckMet Original names) (check.if_there (check.expr_sites c.1.0 (k + 1)) h.index) (check.names_sites c.1.0 (check.formal_names h.formals)) i.1.0.1.1)),
          ),
        );
    accept_index = λ c d k n s h e j rel i f v le. kept c d rel (k + 1) n s _ e j (head-fits c k h e i f) v (omega (arith, le));
    accepting = λ c d k s h j rel i. accept-around g own vars c.1.0 d h rel;
    guard = λ c d k n s e j rel h v le. kept c d rel k n s _ e j (h.0, h.1.0) v le;
    guard_test = λ c d k n s j rel h v le. let deep : n + 40 ≤ 300 = shallow c.1.0 k n s h.1.0 le in variable-met c d rel s s _ j n v (omega (arith, deep));
    closed = λ c d k n x others s e es rel h w all few le.
        let deep : k ≤ 40 = depth-of names c.1.0 k s h.1.0 in
        let less : 0 + alts_count x ≤ 32 = few-alternatives names c.1.0 x 0 (omega arith) w.1.0.1 in
        more-met c d rel es s (not_held s e) 1 (omega arith) (λ q small. not-met c d rel q s e small all.0) all.1 n (omega (arith, deep, less, few, le));
    wait = λ c d k x others s t rel h alts. wait-met c d rel k x others s t h alts;
  }

-- Each piece that the normal form makes is well placed.
use Rattle.std.proofs.Common.{◌≡◌, ℕ, ◌+◌, ◌≤◌, ◌<◌, ◌==◌, ℤ, pos, negsuc, Bool, true, false, if◌then◌else◌, zero, suc, List, [], ◌∷◌, length, Option, Some, None, option_map, IfSome, unwrap_or, slice_get, unsigned_abs, inl, refl, sym, subst, arith}
use Rattle.std.specs.List.{AllByRecursion}
use Rattle.std.specs.Ordering.{int_eq}
use Rattle.std.proofs.lemmas.List.Elements.{All-from_recursion}
use Rattle.std.proofs.lemmas.Option.{slice_get_within}
use Rattle.std.proofs.lemmas.Bool.Decides.{nat_tests}
use Rattle.ada_tree.specs.declared.naming.NameId.{NameId}
use Rattle.ada_tree.specs.declared.naming.Span.{Span}
use Rattle.ada_tree.specs.declared.naming.Word.{Word}
use Rattle.ada_tree.specs.declared.static_types.Kind.{Kind}
use Rattle.ada_tree.specs.declared.static_types.Kind.TheVariants as kind
use Rattle.ada_tree.specs.declared.expressions.UnaryOp.TheVariants as unary
use Rattle.ada_tree.specs.Attributes.{false_name, true_name}
use Rattle.ada_tree.specs.PlainExpr.{PExpr, EInteger, EName, EAttribute, EUnary, PSubind, PDrange}
use Rattle.ada_tree.specs.PlainStmt.{PCallee, PArgs, PCall, PHead, SAssign, PHandlers, no_handler, handler_then, handler}
use Rattle.ada_tree.specs.PlainDecl.{PDecl}
use Rattle.ada_tree.specs.Every.{Rules, EveryExpr, EveryExprs, EveryArgs, EveryChoice, EveryHead, EveryStmt, alts_count}
use Rattle.ada_tree.specs.WellPlaced.{OthersLast, well_placed}
use Rattle.syn_event.specs.declared.numbering.Mode.TheVariants.{Original}
use Rattle.syn_event.specs.declared.numbering.TaskInfo.{TaskInfo}
use Rattle.syn_event.specs.CheckScope.{CheckScope, CheckSite, counts}
use Rattle.syn_event.specs.declared.limits.What.TheVariants.{Nesting}
use Rattle.syn_event.specs.CheckSites as check
use Rattle.syn_event.specs.Numbering.{task_at}
use Rattle.task_laws.specs.legal.sites.Met.{IsCheckMet}
use Rattle.task_model.specs.Setting.{Setting, is_family, callee_task, first_expr, lists_in, lists_of}
use Rattle.normal_model.specs.Names.{variable_name, task_name, name_of_task}
use Rattle.normal_model.specs.Ranges.{word_at, subtype_of_range, array_range, family_range}
use Rattle.normal_model.specs.Making.{variable, assignment, kept_subtypes, kept_if, moving, index_left}
use Rattle.normal_model.specs.Members.{negative_literal, integer_literal, truth_literal, literal_in, kind_of_index, index_literal, known_task, members_of}
use Rattle.normal_model.specs.Calls.{Slot, actual_subtypes, actuals_passed, entry_called, slots_called, lists_passed, args_passed, index_number, actual_number}
use Rattle.normal_model.specs.RewrittenUnit.{RewrittenUnit}
use Rattle.normal_model.specs.Waits.{head_left}
use Rattle.normal_model.specs.Variables.{variable_declared}
use Rattle.normal_model.specs.Walk.{after_stmts, inside_handlers}
use Rattle.normal_model.specs.NormalStmts.{normal_rewriter}
use Rattle.normal_model.specs.NormalTree.{variables_needed}
use Rattle.task_laws.specs.legal.asked.Asked.{Asks}
use Rattle.task_laws.specs.legal.asked.Kinds.{place_asks, check_asks, both}
use Rattle.normal_laws.specs.structure.asked.Pieces.{IsVariable, AreVariables, IsGuard, member_choice, IsAmong, first_among, later_among, IsTarget, is_known, is_member, Pieces}
use Rattle.normal_laws.specs.structure.placed.Placeable.{IsName, AreTaken, call_asks, HasNames, KindsHaveNames, IsSmallIndex, HasSmallIndex}
use Rattle.normal_laws.proofs.structure.placed.Depth.{depth-of, expr-depth, expr-moved, few-alternatives}
use Rattle.normal_laws.proofs.structure.placed.Calls.{moves, name-of, args-depth, Fits, list-fits, index-fits, pair-fits, passed-some}
use Rattle.normal_laws.proofs.structure.asked.CallVariables.{family-there, actuals-there}
use Rattle.normal_laws.proofs.structure.placed.Guards.{IsPrimary, none-placed}
use Rattle.common_lemmas.proofs.Lists.{all_back, all_front, all_kept, holds_at}

-- ---- names

-- What is known of the names of a normal form, and of the indices of members.
pub record AreNamed (g : Setting) (names : List (List ℕ)) : Type 0 where
  pub first : (k : ℕ) → k < 25 → IsName names (record { 0 = k })
  pub tasks : AllByRecursion (λ info. IsName names (task_name g info)) g.numbers.tasks
  pub variables : (k : ℕ) → k < variables_needed g → IsName names (variable_name g k)
  pub kinds : KindsHaveNames names g.types
  pub indices : AllByRecursion HasSmallIndex g.numbers.tasks

pub among : {A : Type 0} (P : A → Type 0) (x : A) (xs : List A) → IsAmong x xs → AllByRecursion P xs → P x
among P x xs (first_among ys) h = h.0
among P x xs (later_among y ys i) h = among P x ys i h.1

module _ (u : RewrittenUnit) (vars : List PDecl) (names names' : List (List ℕ)) (known : AreNamed u.setting names') (few : length vars ≤ variables_needed u.setting) where
  abbrev g : Setting
  g = u.setting

  abbrev r : Rules
  r = well_placed names'

  -- of the program: it is well placed with the names of the normal form, the rules 13 to 23 are met, and actuals are for formals
  abbrev C : Type 0
  C = Prim.Unit {0} × (CheckScope × Prim.Unit {0})

  abbrev b : Asks C
  b = both (place_asks r) (both (check_asks (IsCheckMet Original names)) (call_asks g))

  abbrev a : Asks (Prim.Unit {0})
  a = place_asks r

  -- ---- variables

  module _ (s : Span) (x : PSubind) (j : ℕ) (v : IsVariable g vars s x j) where
    variable-name : IsName names' (variable_name g j)
    variable-name = let l : j < length vars = slice_get_within vars j (variable_declared g s x j) v in known.variables j (omega (arith, l, few))

    variable-placed : (n : ℕ) (s' : Span) → n ≤ 300 → EveryExpr r n (variable g s' j)
    variable-placed n s' le = (le, variable-name)

    assigned-placed : (n : ℕ) (e : PExpr) → n ≤ 300 → EveryExpr r (n + 1) e → EveryStmt r n (SAssign (record { name = word_at s (variable_name g j); index = None }) e s)
    assigned-placed n e le h = (le, (variable-name, tt), h)

  -- ---- tasks

  name-known : (o : Option TaskInfo) (t : ℕ) → task_at g.numbers t ≡ o → IsName names' (name_of_task g o)
  name-known None t e = known.first 0 (omega arith)
  name-known (Some info) t e = holds_at (λ i. IsName names' (task_name g i)) g.numbers.tasks t info e known.tasks

  member-named : (name : NameId) (info : TaskInfo) → IsAmong info (members_of g name) → IsName names' (task_name g info)
  member-named name info i = among (λ y. IsName names' (task_name g y)) info (members_of g name) i (all_kept (λ y. IsName names' (task_name g y)) _ g.numbers.tasks known.tasks)

  target-named : (x : PCallee) (w : Word) → IsTarget g x w → IsName names' w.name
  target-named x w (is_known e f) =
      subst (λ v. IsName names' v.name) (sym f) (name-known (task_at g.numbers (known_task (callee_task g [] x))) (known_task (callee_task g [] x)) refl)
  target-named x w (is_member e info f i h) = subst (λ v. IsName names' v.name) (sym h) (member-named x.name.name info i)

  -- ---- literals

  negative-placed : (n q : ℕ) (s : Span) → q + 1 ≤ 300 → n ≤ 2147483647 → EveryExpr r q (negative_literal s n)
  negative-placed n q s le small = by_test (n == 2147483647) refl
    where
      by_test : (c : Bool) → (n == 2147483647) ≡ c → EveryExpr r q (if c then EAttribute (word_at s record { 0 = 0 }) (word_at s record { 0 = 18 }) s else EUnary unary.Minus (EInteger (suc n) s) s)
      by_test true e = (omega (arith, le), known.first 0 (omega arith), known.first 18 (omega arith))
      by_test false e = let d : suc n ≤ 2147483647 = grind (arith, nat_tests) in (omega (arith, le), omega arith, (omega (arith, le), d))

  number-placed : (z : ℤ) (q : ℕ) (s : Span) → q + 1 ≤ 300 → IsSmallIndex z → EveryExpr r q (integer_literal s z)
  number-placed (pos n) q s le small = (omega (arith, le), small)
  number-placed (negsuc n) q s le small = negative-placed n q s le small

  truth-placed : (z : ℤ) (q : ℕ) (s : Span) → q + 1 ≤ 300 → EveryExpr r q (truth_literal s z)
  truth-placed z q s le = by_test (int_eq z (pos 0))
    where
      by_test : (c : Bool) → EveryExpr r q (EName record { 0 = if c then false_name else true_name } s)
      by_test true = (omega (arith, le), known.first 4 (omega arith))
      by_test false = (omega (arith, le), known.first 5 (omega arith))

  enumerated : (ids : List NameId) (k : ℕ) → AllByRecursion (IsName names') ids → IsName names' (unwrap_or (slice_get ids k) (record { 0 = 0 }))
  enumerated [] k h = known.first 0 (omega arith)
  enumerated (id ∷ ids) zero h = h.0
  enumerated (id ∷ ids) (suc k) h = enumerated ids k h.1

  literal-placed : (k : Option Kind) (z : ℤ) (q : ℕ) (s : Span) → q + 1 ≤ 300 → IfSome k (HasNames names') → IsSmallIndex z → EveryExpr r q (literal_in k s z)
  literal-placed None z q s le h small = number-placed z q s le small
  literal-placed (Some kind.Integer) z q s le h small = number-placed z q s le small
  literal-placed (Some kind.Truth) z q s le h small = truth-placed z q s le
  literal-placed (Some (kind.Enumeration ids)) z q s le h small = (omega (arith, le), enumerated ids (unsigned_abs z) h)
  literal-placed (Some (kind.Array index first last part)) z q s le h small = number-placed z q s le small

  kind-there : (xs : List Kind) (k : ℕ) → AllByRecursion (HasNames names') xs → IfSome (slice_get xs k) (HasNames names')
  kind-there [] k h = tt
  kind-there (x ∷ xs) zero h = h.0
  kind-there (x ∷ xs) (suc k) h = kind-there xs k h.1

  kind-named : (o : Option PDrange) → IfSome (kind_of_index g.types o) (HasNames names')
  kind-named None = tt
  kind-named (Some x) = kind-there g.types.kinds _ known.kinds

  index-placed : (k : Option Kind) (o : Option ℤ) (q : ℕ) (s : Span) → q + 1 ≤ 300 → IfSome k (HasNames names') → IfSome o IsSmallIndex → EveryExpr r q (index_literal k s o)
  index-placed k None q s le h small = (omega (arith, le), omega arith)
  index-placed k (Some z) q s le h small = literal-placed k z q s le h small

  choice-placed : (s : Span) (x : PCallee) (info : TaskInfo) (q : ℕ) → q + 1 ≤ 300 → IsAmong info (members_of g x.name.name) → EveryChoice r q (member_choice g s x info)
  choice-placed s x info q le i = (
    index-placed (kind_of_index g.types (array_range g.program x.name.name)) info.member q s le (kind-named (array_range g.program x.name.name))
        (among HasSmallIndex info (members_of g x.name.name) i (all_kept HasSmallIndex _ g.numbers.tasks known.indices)),
    tt,
  )

  -- ---- calls

  exprs-moved : (c : CheckScope) (k q : ℕ) (es : List PExpr) → 1 ≤ length es → AllByRecursion (Fits names names' c k) es → q ≤ k + 5 → EveryExprs r q es
  exprs-moved c k q es some h le = (some, All-from_recursion (EveryExpr r q) es (go es h))
    where
      go : (ys : List PExpr) → AllByRecursion (Fits names names' c k) ys → AllByRecursion (EveryExpr r q) ys
      go [] i = tt
      go (y ∷ ys) i = (expr-moved names names' c k q y le i.0.0 i.0.1, go ys i.1)

  passed-placed : (s : Span) (xs : List Slot) (es : List PExpr) (z q : ℕ) → q ≤ 300 → AreVariables g vars s (actual_subtypes xs es) z → AllByRecursion (EveryExpr r q) (actuals_passed g s xs es z)
  passed-placed s [] es z q le v = tt
  passed-placed s (x ∷ xs) [] z q le v = tt
  passed-placed s (x ∷ xs) (e ∷ es) z q le v = (variable-placed s _ z v.0 q s le, passed-placed s xs es (z + 1) q le v.1)

  passed-exprs : (s : Span) (xs : List Slot) (es : List PExpr) (z q : ℕ) → q ≤ 300 → AreTaken xs es → 1 ≤ length es → AreVariables g vars s (actual_subtypes xs es) z → EveryExprs r q (actuals_passed g s xs es z)
  passed-exprs s xs es z q le taken some v =
      (passed-some g s xs es z taken some, All-from_recursion (EveryExpr r q) (actuals_passed g s xs es z) (passed-placed s xs es z q le v))

  module _ (c : CheckScope) (k q : ℕ) (s : Span) (x : PCall) (j : ℕ) (le : q ≤ k + 4) where
    abbrev entry : ℕ
    entry = entry_called g x

    abbrev slots : List Slot
    slots = slots_called g x

    abbrev family : PSubind
    family = subtype_of_range g.types s (family_range g entry)

    index-variable : (es : List PExpr) → 1 ≤ length es → AreVariables g vars s (kept_subtypes (kept_if family (first_expr es))) (index_number g s x j) → IsVariable g vars s family (index_number g s x j)
    index-variable [] some v = let never : ⊥ = omega (arith, some) in absurd never
    index-variable (e ∷ es) some v = v.0

    second-passed : (o : Option (List PExpr)) → q ≤ 300 → IfSome o (EveryExprs r k) → AreTaken slots (unwrap_or o []) → AreVariables g vars s (actual_subtypes slots (unwrap_or o [])) (actual_number g s x j) →
        IfSome (option_map (λ es. actuals_passed g s slots es (actual_number g s x j)) o) (EveryExprs r q)
    second-passed None small h taken v = tt
    second-passed (Some es) small h taken v = passed-exprs s slots es (actual_number g s x j) q small taken h.0 v

    second-moved : (o : Option (List PExpr)) → IfSome o (EveryExprs r k) → AllByRecursion (IsCheckMet Original names) (check.if_there (check.exprs_sites c k) o) → IfSome o (EveryExprs r q)
    second-moved None h m = tt
    second-moved (Some es) h m = exprs-moved c k q es h.0 (list-fits names names' c k es h m) (omega (arith, le))

    lists-placed : (f : Bool) (args : PArgs) → EveryArgs r k args → AllByRecursion (IsCheckMet Original names) (check.args_sites c k args) → AreTaken slots (lists_in f args).actuals →
        AreVariables g vars s (kept_subtypes (kept_if family (lists_in f args).index)) (index_number g s x j) → AreVariables g vars s (actual_subtypes slots (lists_in f args).actuals) (actual_number g s x j) →
        EveryArgs r q (lists_passed f g s x j args)
    lists-placed true args h m taken i v =
        let d : k ≤ 40 = args-depth names names' c k args h m in
        let small : q ≤ 300 = omega (arith, d, le) in
        let one : AllByRecursion (EveryExpr r q) (variable g s (index_number g s x j) ∷ []) = (variable-placed s family (index_number g s x j) (index-variable args.first h.0.0 i) q s small, tt) in (
          (omega arith, All-from_recursion (EveryExpr r q) (variable g s (index_number g s x j) ∷ []) one),
          second-passed args.second small h.1 taken v,
        )
    lists-placed false args h m taken i v =
        let d : k ≤ 40 = args-depth names names' c k args h m in (
          passed-exprs s slots args.first (actual_number g s x j) q (omega (arith, d, le)) taken h.0.0 v,
          second-moved args.second h.1 (all_back (IsCheckMet Original names) (check.exprs_sites c k args.first) (check.if_there (check.exprs_sites c k) args.second) m),
        )

    args-placed : (o : Option PArgs) → IfSome o (EveryArgs r k) → AllByRecursion (IsCheckMet Original names) (check.if_there (check.args_sites c k) o) → AreTaken slots (lists_of g.numbers entry o).actuals →
        AreVariables g vars s (kept_subtypes (kept_if family (lists_of g.numbers entry o).index)) (index_number g s x j) → AreVariables g vars s (actual_subtypes slots (lists_of g.numbers entry o).actuals) (actual_number g s x j) →
        IfSome (args_passed g s x j o) (EveryArgs r q)
    args-placed None h m taken i v = tt
    args-placed (Some args) h m taken i v = lists-placed (is_family g.numbers entry) args h m taken i v

  -- ---- accepts and handlers

  head-moved : (k : ℕ) (s : Span) (h : PHead) (e : PExpr) (j : ℕ) (x : PSubind) → IsVariable g vars s x j → k + 1 ≤ 300 → EveryHead r k h → moving g.types h.index ≡ Some e → EveryHead r k (head_left u s h j)
  head-moved k s h e j x v le i f =
      subst (λ m. EveryHead r k (record { entry = h.entry; index = index_left g s j m h.index; formals = h.formals; span = h.span })) (sym f) (i.0, variable-placed s x j v (k + 1) s le, i.2)

  others-last : (hs : PHandlers) (t : List PDecl) → OthersLast hs → OthersLast (inside_handlers (normal_rewriter u) hs t)
  others-last no_handler t h = tt
  others-last (handler_then (handler [] l s) no_handler) t h = (tt, tt)
  others-last (handler_then (handler [] l s) (handler_then (handler vs m s') rest)) t h = absurd h.0
  others-last (handler_then (handler (w ∷ ws) l s) rest) t h = (tt, others-last rest (after_stmts (normal_rewriter u) l t) h.1)

  -- ---- guards

  guard-primary : (s : Span) (e : PExpr) → IsGuard g vars e → IsPrimary names' s e
  guard-primary s e i =
      let v : IsName names' (variable_name g i.1) = variable-name i.0 _ i.1 i.3 in
      subst (IsPrimary names' s) (sym i.2) (record { placed = λ q le. (omega (arith, le), v); level_is = omega arith })

  guards-primary : (s : Span) (es : List PExpr) → AllByRecursion (IsGuard g vars) es → AllByRecursion (IsPrimary names' s) es
  guards-primary s [] h = tt
  guards-primary s (e ∷ es) h = (guard-primary s e h.0, guards-primary s es h.1)

  -- ---- all pieces

  abbrev Met : List CheckSite → Type 0
  Met xs = AllByRecursion (IsCheckMet Original names) xs

  -- an index that moves, where it stood
  option-moved : (c : CheckScope) (k : ℕ) (o : Option PExpr) (e : PExpr) → moving g.types o ≡ Some e → IfSome o (EveryExpr r k) → Met (check.if_there (check.expr_sites c k) o) → Fits names names' c k e
  option-moved c k o e f h m = go o (moves g.types o e f) h m
    where
      go : (y : Option PExpr) → y ≡ Some e → IfSome y (EveryExpr r k) → Met (check.if_there (check.expr_sites c k) y) → Fits names names' c k e
      go None q i n = cc
      go (Some y) q i n = subst (Fits names names' c k) (same y e q) (i, n)
        where
          same : (x z : PExpr) → Some x ≡ Some z → x ≡ z
          same x z p = cc

  -- an assignment to a variable of what stood elsewhere
  kept-placed : (c : CheckScope) (k n : ℕ) (s : Span) (x : PSubind) (e : PExpr) (j : ℕ) → Fits names names' c k e → IsVariable g vars s x j → n ≤ k + 4 → EveryStmt r n (assignment g s j e)
  kept-placed c k n s x e j f v le =
      let d : k ≤ 40 = expr-depth names c k e f.1 in
      assigned-placed s x j v n e (omega (arith, d, le)) (expr-moved names names' c k (n + 1) e (omega (arith, le)) f.0 f.1)

  shallow : (c : CheckScope) (k n : ℕ) (s : Span) → IsCheckMet Original names (check.site c (counts Nesting 0 k s)) → n ≤ k + 4 → n + 30 ≤ 300
  shallow c k n s m le = let d : k ≤ 40 = depth-of names c k s m in omega (arith, d, le)

  -- the index of an accept
  head-index : (c : CheckScope) (k : ℕ) (h : PHead) (e : PExpr) → moving g.types h.index ≡ Some e → EveryHead r k h → Met (check.head_sites c k h) → Fits names names' c (k + 1) e
  head-index c k h e f i m =
      option-moved c (k + 1) h.index e f i.1 (all_front (IsCheckMet Original names) (check.if_there (check.expr_sites c (k + 1)) h.index) (check.names_sites c (check.formal_names h.formals)) m.1.1)

  pub pieces : Pieces u vars b a (λ c d. Prim.Unit {0})
  pieces = record {
    outer = λ c d k n s rel h le. omega (arith, shallow c.1.0 k n s h.1.0 le);
    many = λ n h. h.0;
    some = λ n. omega arith;
    duration = λ n h. h.0;
    plain = λ c d k x i rel h. h.0;
    condition = λ c d k e rel h. h.0;
    selector = λ c d k e xs others s rel h. h.0;
    choices = λ c d k e xs rel h. h.0;
    loop = λ c d k w x rel h. h.0;
    looping = λ c d k w x rel h. tt;
    delay = λ c d k e f s rel h. h.0;
    handlers = λ hs t h. others-last hs t h.0;
    handler = λ c d k ids ws rel h. h.0;
    handling = λ c d rel. tt;
    null = λ c d k n s rel h le. omega (arith, shallow c.1.0 k n s h.1.0 le);
    program_error = λ c d k n s rel h le. (omega (arith, shallow c.1.0 k n s h.1.0 le), known.first 8 (omega arith));
    callee_index = λ c d k n s x e j rel h f v le. kept-placed c.1.0 k n s _ e j (option-moved c.1.0 k x.index e f h.0.1 h.1.0.1) v le;
    target = λ c d k n x w rel h t le. (target-named x w t, tt);
    chooses = λ c d k n s x e j rel h f v le.
        let i : k ≤ 40 = expr-depth names c.1.0 k e (option-moved c.1.0 k x.index e f h.0.1 h.1.0.1).1 in
        variable-placed s _ j v n s (omega (arith, i, le));
    chosen = λ c d k n s x e j info rel h f v i le.
        let deep : k ≤ 40 = expr-depth names c.1.0 k e (option-moved c.1.0 k x.index e f h.0.1 h.1.0.1).1 in
        let one : AllByRecursion (EveryChoice r n) (member_choice g s x info ∷ []) = (choice-placed s x info n (omega (arith, deep, le)) i, tt) in
        (omega arith, All-from_recursion (EveryChoice r n) (member_choice g s x info ∷ []) one);
    called = λ c d k n s x j w rel h i t v le.
        (i.0.0, args-placed c.1.0 k n s x j le x.args i.0.1 i.1.0 i.1.1 (family-there g vars s x j v) (actuals-there g vars s x j v));
    family_index = λ c d k n s x e j rel h i f v le. kept-placed c.1.0 k n s _ e j (index-fits names names' g c.1.0 k x i.0.1 i.1.0 e f) v le;
    actual_before = λ c d k n s x slot e j rel h i pair f v le. kept-placed c.1.0 k n s _ e j (pair-fits names names' g c.1.0 k x i.0.1 i.1.0 slot e pair) v le;
    actual_behind = λ c d k n s x slot e id j rel h i pair f q v le.
        let fits : Fits names names' c.1.0 k e = pair-fits names names' g c.1.0 k x i.0.1 i.1.0 slot e pair in
        let deep : k ≤ 40 = expr-depth names c.1.0 k e fits.1 in
        (omega (arith, deep, le), (name-of names' k e id q fits.0, tt), variable-placed s _ j v (n + 1) s (omega (arith, deep, le)));
    flag = λ c d k n s part j rel h small v le.
        let deep : n + 30 ≤ 300 = shallow c.1.0 k n s h.1.0 le in
        assigned-placed s _ j v n (EInteger part s) (omega (arith, deep)) (omega (arith, deep), omega (arith, small));
    flag_test = λ c d k n s j rel h v le.
        let deep : n + 30 ≤ 300 = shallow c.1.0 k n s h.1.0 le in
        (omega (arith, deep), (inl (omega arith), omega arith), variable-placed s _ j v (n + 1) s (omega (arith, deep)), (omega (arith, deep), omega arith));
    aborted = λ c d k n xs w rel h le. omega arith;
    no_abort = λ c d k rel h. h.0;
    head = λ c d k h rel i f. i.0;
    head_moved = λ c d k s h e j rel i f v.
        let deep : k ≤ 40 = depth-of names c.1.0 k h.span i.1.0.0 in
        (i.0.0, head-moved k s h e j _ v (omega (arith, deep)) i.0.1 f);
    accept_index = λ c d k n s h e j rel i f v le.
        kept-placed c.1.0 (k + 1) n s _ e j (head-index c.1.0 k h e f i.0.1 i.1.0) v (omega (arith, le));
    accepting = λ c d k s h j rel i. tt;
    guard = λ c d k n s e j rel h v le. kept-placed c.1.0 k n s _ e j (h.0, h.1.0) v le;
    guard_test = λ c d k n s j rel h v le. variable-placed s _ j v n s (omega (arith, shallow c.1.0 k n s h.1.0 le));
    closed = λ c d k n x others s e es rel h w all few' le.
        let deep : k ≤ 40 = depth-of names c.1.0 k s h.1.0 in
        let less : 0 + alts_count x ≤ 32 = few-alternatives names c.1.0 x 0 (omega arith) w.1.0.1 in
        none-placed names' s e es (guards-primary s (e ∷ es) all) n (omega (arith, deep, less, few', le));
    wait = λ c d k x others s t rel h alts. tt;
  }

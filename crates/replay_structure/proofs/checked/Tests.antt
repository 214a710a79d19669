-- The tests of a permit meet the rules 13 to 23, with what they copy of a statement.
use Rattle.std.proofs.Common.{ℕ, ◌+◌, ◌≤◌, Bool, true, false, nat_lt, if◌then◌else◌, List, [], ◌∷◌, length, Option, Some, None, IfSome, slice_get, arith}
use Rattle.std.specs.List.{AllByRecursion, fold}
use Rattle.std.proofs.lemmas.List.Elements.{recursion_from_All}
use Rattle.common_lemmas.proofs.Lists.{all_front, all_joined}
use Rattle.ada_tree.specs.declared.naming.Span.{Span}
use Rattle.ada_tree.specs.declared.static_types.Kind.{Kind}
use Rattle.ada_tree.specs.declared.static_types.Kind.TheVariants as kind
use Rattle.ada_tree.specs.declared.expressions.BinaryOp.TheVariants.{Equal}
use Rattle.ada_tree.specs.Attributes.{false_name}
use Rattle.ada_tree.specs.PlainExpr.{PExpr, EInteger, EBinary, PDrange}
use Rattle.ada_tree.specs.PlainStmt.{PArgs, PCall}
use Rattle.ada_tree.specs.PlainProgram.{PProgram}
use Rattle.ada_tree.specs.Every.{Rules, EveryExpr, EveryArgs}
use Rattle.syn_event.specs.CheckScope.{CheckScope, CheckSite}
use Rattle.syn_event.specs.CheckSites as check
use Rattle.task_model.specs.Setting.{is_family, first_expr, lists_in, lists_of}
use Rattle.normal_model.specs.Ranges.{kind_of_range, family_range}
use Rattle.normal_model.specs.Calls.{entry_called, lists_called}
use Rattle.normal_model.specs.RewrittenUnit.{RewrittenUnit}
use Rattle.normal_laws.proofs.structure.checked.Places.{met-deep, met-use}
use Rattle.replay_model.specs.Names.{kind_text, argument_text, index_text, replay_names, added_id}
use Rattle.replay_model.specs.Asking.{permit_part, both, permit_is_kind, permit_is_for, as_number, number_in, member_number, permit_is_at}
use Rattle.replay_model.specs.Waiting.{never_so, and_guard, is_shut, Pause, and_later, is_due}
use Rattle.replay_structure.specs.checked.Around.{kept_names, IsAsking}
use Rattle.normal_laws.proofs.structure.checked.Parts.{expr-stays}
use Rattle.replay_structure.proofs.checked.Stays.{IsFormMet, IsTextMet, uses-stay, stay}

module _ (u : RewrittenUnit) (c d : CheckScope) (rel : IsAsking u.setting.program c d) where
  abbrev q : PProgram
  q = u.setting.program

  abbrev r : Rules
  r = kept_names q

  abbrev M : CheckSite → Type 0
  M = IsFormMet q

  abbrev At : List CheckSite → Type 0
  At xs = AllByRecursion M xs

  abbrev At' : List CheckSite → Type 0
  At' xs = AllByRecursion (IsTextMet q) xs

  -- an expression of kept names that meets the rules in the normal form
  abbrev pub Fits : ℕ → PExpr → Type 0
  Fits k e = EveryExpr r k e × At (check.expr_sites c k e)

  pub moved : (k n : ℕ) (e : PExpr) → Fits k e → n + 100 ≤ k + 300 → At' (check.expr_sites d n e)
  moved k n e f le = expr-stays (stay q c d (uses-stay q c d rel)) k n e le f.0 f.1

  -- ---- a permit's parts

  pub kind-used : (n : ℕ) (s : Span) → n ≤ 300 → At' (check.expr_sites d n (permit_part u s kind_text))
  kind-used n s le = (met-deep (replay_names q) d n s le, (met-use (replay_names q) d (added_id q kind_text) s (rel.kind s), tt))

  pub argument-used : (n : ℕ) (s : Span) → n ≤ 300 → At' (check.expr_sites d n (permit_part u s argument_text))
  argument-used n s le = (met-deep (replay_names q) d n s le, (met-use (replay_names q) d (added_id q argument_text) s (rel.argument s), tt))

  pub index-used : (n : ℕ) (s : Span) → n ≤ 300 → At' (check.expr_sites d n (permit_part u s index_text))
  index-used n s le = (met-deep (replay_names q) d n s le, (met-use (replay_names q) d (added_id q index_text) s (rel.index s), tt))

  pub number-met : (n i : ℕ) (s : Span) → n ≤ 300 → At' (check.expr_sites d n (EInteger i s))
  number-met n i s le = (met-deep (replay_names q) d n s le, tt)

  -- ---- tests

  pub both-met : (n : ℕ) (s : Span) (x y : PExpr) → n ≤ 300 → At' (check.expr_sites d (n + 1) x) → At' (check.expr_sites d (n + 1) y) → At' (check.expr_sites d n (both s x y))
  both-met n s x y le h i = (met-deep (replay_names q) d n s le, all_joined (IsTextMet q) (check.expr_sites d (n + 1) x) (check.expr_sites d (n + 1) y) h i)

  -- `DED_K = k`
  pub kind-met : (n : ℕ) (s : Span) (k : ℕ) → n + 1 ≤ 300 → At' (check.expr_sites d n (permit_is_kind u s k))
  kind-met n s k le =
      (met-deep (replay_names q) d n s (omega (arith, le)), all_joined (IsTextMet q) (check.expr_sites d (n + 1) (permit_part u s kind_text)) (check.expr_sites d (n + 1) (EInteger k s)) (kind-used (n + 1) s le) (number-met (n + 1) k s le))

  argument-met : (n : ℕ) (s : Span) (a : ℕ) → n + 1 ≤ 300 → At' (check.expr_sites d n (EBinary Equal (permit_part u s argument_text) (EInteger a s) s))
  argument-met n s a le =
      (met-deep (replay_names q) d n s (omega (arith, le)), all_joined (IsTextMet q) (check.expr_sites d (n + 1) (permit_part u s argument_text)) (check.expr_sites d (n + 1) (EInteger a s)) (argument-used (n + 1) s le) (number-met (n + 1) a s le))

  -- `DED_K = k and DED_A = a`
  pub for-met : (n : ℕ) (s : Span) (k a : ℕ) → n + 2 ≤ 300 → At' (check.expr_sites d n (permit_is_for u s k a))
  for-met n s k a le = both-met n s (permit_is_kind u s k) (EBinary Equal (permit_part u s argument_text) (EInteger a s) s) (omega (arith, le)) (kind-met (n + 1) s k (omega (arith, le))) (argument-met (n + 1) s a (omega (arith, le)))

  -- the index as a number, which may stand one deeper in `T'POS(index)`
  as-met : (n j : ℕ) (s : Span) (k : ℕ) (o : Option Kind) (x : PExpr) → Fits j x → n ≤ 299 → n + 101 ≤ j + 300 → At' (check.expr_sites d n (as_number u.setting.types s k o x))
  as-met n j s k (Some kind.Integer) x f le few = moved j n x f (omega (arith, few))
  as-met n j s k (Some kind.Truth) x f le few = (met-deep (replay_names q) d n s (omega (arith, le)), moved j (n + 1) x f (omega (arith, few)))
  as-met n j s k (Some (kind.Enumeration ids)) x f le few = (met-deep (replay_names q) d n s (omega (arith, le)), moved j (n + 1) x f (omega (arith, few)))
  as-met n j s k (Some (kind.Array index first last part)) x f le few = (met-deep (replay_names q) d n s (omega (arith, le)), moved j (n + 1) x f (omega (arith, few)))
  as-met n j s k None x f le few = (met-deep (replay_names q) d n s (omega (arith, le)), moved j (n + 1) x f (omega (arith, few)))

  in-met : (n j : ℕ) (s : Span) (o : Option PDrange) (x : PExpr) → Fits j x → n ≤ 299 → n + 101 ≤ j + 300 → At' (check.expr_sites d n (number_in u.setting.types s o x))
  in-met n j s None x f le few = moved j n x f (omega (arith, few))
  in-met n j s (Some range) x f le few = as-met n j s (kind_of_range u.setting.types range) (slice_get u.setting.types.kinds (kind_of_range u.setting.types range)) x f le few

  member-met : (n j : ℕ) (s : Span) (e : ℕ) (o : Option PExpr) → IfSome o (Fits j) → n ≤ 299 → n + 101 ≤ j + 300 → At' (check.expr_sites d n (member_number u.setting s e o))
  member-met n j s e None f le few = number-met n 0 s (omega (arith, le))
  member-met n j s e (Some x) f le few = in-met n j s (family_range u.setting e) x f le few

  -- `DED_K = k and DED_A = e and DED_I = index`
  pub at-met : (n j : ℕ) (s : Span) (k e : ℕ) (o : Option PExpr) → IfSome o (Fits j) → n ≤ 296 → n + 103 ≤ j + 300 → At' (check.expr_sites d n (permit_is_at u s k e o))
  at-met n j s k e o f le few =
      both-met n s (permit_is_for u s k e) (EBinary Equal (permit_part u s index_text) (member_number u.setting s e o) s) (omega (arith, le)) (for-met (n + 1) s k e (omega (arith, le)))
      (met-deep (replay_names q) d (n + 1) s (omega (arith, le)), all_joined (IsTextMet q) (check.expr_sites d ((n + 1) + 1) (permit_part u s index_text)) (check.expr_sites d ((n + 1) + 1) (member_number u.setting s e o)) (index-used ((n + 1) + 1) s (omega (arith, le))) (member-met ((n + 1) + 1) j s e o f (omega (arith, le)) (omega (arith, few))))

  -- a test, and that a guard holds
  pub guarded-met : (n j : ℕ) (s : Span) (test : PExpr) (o : Option PExpr) → IfSome o (Fits j) → ((m : ℕ) → m ≤ n + 1 → At' (check.expr_sites d m test)) → n ≤ 300 → n + 101 ≤ j + 300 → At' (check.expr_sites d n (and_guard s test o))
  guarded-met n j s test None f h le few = h n (omega arith)
  guarded-met n j s test (Some e) f h le few = both-met n s test e le (h (n + 1) (omega arith)) (moved j (n + 1) e f (omega (arith, few)))

  -- FALSE
  pub shut-met : (n : ℕ) (s : Span) → n ≤ 300 → At' (check.expr_sites d n (never_so s))
  shut-met n s le = (met-deep (replay_names q) d n s le, (met-use (replay_names q) d (record { 0 = false_name }) s (rel.truth s), tt))

  closed-met : (n j : ℕ) (s : Span) (o : Option PExpr) → IfSome o (Fits j) → n ≤ 300 → n + 101 ≤ j + 300 → At' (check.expr_sites d n (is_shut s o))
  closed-met n j s None f le few = shut-met n s le
  closed-met n j s (Some e) f le few = (met-deep (replay_names q) d n s le, moved j (n + 1) e f (omega (arith, few)))

  -- a test that meets the rules wherever there is room for it
  abbrev IsRoomy : ℕ → PExpr → ℕ → Type 0
  IsRoomy j test deep = (m : ℕ) → m + deep ≤ 300 → m + deep + 100 ≤ j + 300 → At' (check.expr_sites d m test)

  later-met : (j : ℕ) (s : Span) (duration : ℕ) (pauses : List Pause) (test : PExpr) (deep : ℕ) → 2 ≤ deep → AllByRecursion (λ x. IfSome x.guard (Fits j)) pauses → IsRoomy j test deep → IsRoomy j (fold (and_later s duration) test pauses) (deep + length pauses)
  later-met j s duration [] test deep two f h m le few = h m (omega (arith, le)) (omega (arith, few))
  later-met j s duration (x ∷ xs) test deep two f h m le few =
      later-met j s duration xs (and_later s duration test x) (deep + 1) (omega (arith, two)) f.1 step m (omega (arith, le)) (omega (arith, few))
    where
      step : IsRoomy j (and_later s duration test x) (deep + 1)
      step n small enough = go (nat_lt x.duration duration)
        where
          go : (b : Bool) → At' (check.expr_sites d n (if b then both s test (is_shut s x.guard) else test))
          go true = both-met n s test (is_shut s x.guard) (omega (arith, small)) (h (n + 1) (omega (arith, small)) (omega (arith, enough))) (closed-met (n + 1) j s x.guard f.0 (omega (arith, small, two)) (omega (arith, enough, two)))
          go false = h n (omega (arith, small)) (omega (arith, enough))

  pub due-met : (n j : ℕ) (s : Span) (pauses : List Pause) (k duration : ℕ) (guard : Option PExpr) → AllByRecursion (λ x. IfSome x.guard (Fits j)) pauses → IfSome guard (Fits j) → n + 3 + length pauses ≤ 300 → n + 3 + length pauses + 100 ≤ j + 300 →
      At' (check.expr_sites d n (is_due u s pauses k duration guard))
  due-met n j s pauses k duration guard all f le few =
      later-met j s duration pauses (and_guard s (permit_is_for u s 4 k) guard) 3 (omega arith) all
      (λ m small enough. guarded-met m j s (permit_is_for u s 4 k) guard f (λ i near. for-met i s 4 k (omega (arith, near, small))) (omega (arith, small)) (omega (arith, enough))) n (omega (arith, le)) (omega (arith, few))

  -- ---- calls

  list-fits : (k : ℕ) (es : List PExpr) → AllByRecursion (EveryExpr r k) es → At (check.exprs_sites c k es) → IfSome (first_expr es) (Fits k)
  list-fits k [] h m = tt
  list-fits k (e ∷ es) h m = (h.0, all_front M (check.expr_sites c k e) (check.exprs_sites c k es) m)

  -- the index of a call
  pub index-fits : (k : ℕ) (x : PCall) → IfSome x.args (EveryArgs r k) → At (check.if_there (check.args_sites c k) x.args) → IfSome (lists_called u.setting x).index (Fits k)
  index-fits k x h m = go x.args h m
    where
      in_lists : (f : Bool) (args : PArgs) → EveryArgs r k args → At (check.args_sites c k args) → IfSome (lists_in f args).index (Fits k)
      in_lists true args i n = list-fits k args.first (recursion_from_All (EveryExpr r k) args.first i.0.1) (all_front M (check.exprs_sites c k args.first) (check.if_there (check.exprs_sites c k) args.second) n)
      in_lists false args i n = tt

      go : (o : Option PArgs) → IfSome o (EveryArgs r k) → At (check.if_there (check.args_sites c k) o) → IfSome (lists_of u.setting.numbers (entry_called u.setting x) o).index (Fits k)
      go None i n = tt
      go (Some args) i n = in_lists (is_family u.setting.numbers (entry_called u.setting x)) args i n

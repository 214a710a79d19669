-- Each piece of a collecting text of a program with abort statements meets the rules 13 to 23.
use Rattle.std.proofs.Common.{◌≡◌, ℕ, ◌+◌, ◌≤◌, Bool, true, false, List, [], ◌∷◌, length, slice_get, unwrap_or, Option, Some, None, IfSome, refl, sym, subst, arith}
use Rattle.std.specs.List.{AllByRecursion}
use Rattle.std.proofs.lemmas.List.Elements.{recursion_from_All}
use Rattle.common_lemmas.proofs.Lists.{all_front, all_back, all_joined}
use Rattle.ada_tree.specs.declared.naming.NameId.{NameId}
use Rattle.ada_tree.specs.declared.naming.Span.{Span}
use Rattle.ada_tree.specs.declared.static_types.Kind.{Kind}
use Rattle.ada_tree.specs.declared.static_types.Kind.TheVariants as kind
use Rattle.ada_tree.specs.PlainExpr.{PExpr, EInteger, EName, EIndex, EAttribute, EAttributeOf, EParen, EUnary, EBinary, PDrange}
use Rattle.ada_tree.specs.PlainStmt.{PCallee, PArgs, PHead, accepting, alternative, AAccept, ADelay, ATerminate, PAlts, no_alt, alt_then}
use Rattle.ada_tree.specs.PlainProgram.{PProgram}
use Rattle.ada_tree.specs.Every.{Rules, EveryExpr, EveryArgs, EveryChoice}
use Rattle.syn_event.specs.declared.limits.What.TheVariants.{Nesting, Alternatives}
use Rattle.syn_event.specs.CheckScope.{CheckScope, CheckSite, uses, counts, accepts}
use Rattle.syn_event.specs.Extents.{fixed}
use Rattle.syn_event.specs.RuleSharedVariable.{shared_variable}
use Rattle.syn_event.specs.CheckSites as check
use Rattle.syn_event.specs.RuleSelectForm.{alt_kinds}
use Rattle.syn_event.specs.RuleSameEntryTwice.{accept_heads}
use Rattle.syn_event.specs.Numbering.{owner_of}
use Rattle.task_model.specs.Setting.{Setting, first_expr, lists_in, lists_of, is_family, entry_of}
use Rattle.task_laws.specs.legal.asked.Asked.{Asks, AskedAlts}
use Rattle.task_laws.specs.legal.asked.Kinds.{place_asks, check_asks, both, before_sites}
use Rattle.normal_model.specs.Ranges.{kind_of_range, family_range, word_at}
use Rattle.normal_model.specs.Calls.{entry_called, lists_called}
use Rattle.normal_laws.proofs.structure.checked.Places.{met-deep, met-callee, met-exit, met-wait, met-raise, met-use}
use Rattle.replay_model.specs.Asking.{as_number, number_in, member_number}
use Rattle.replay_structure.specs.checked.Around.{form_asks}
use Rattle.collect_model.specs.Names.{caller_text, recorder_text, collect_names, added_in}
use Rattle.collect_model.specs.Teller.{Teller, task_of}
use Rattle.collect_model.specs.Noting.{has_delay, has_failed, number, own_number, note_actuals}
use Rattle.collect_model.specs.Calling.{member_called, args_with}
use Rattle.collect_model.specs.Serving.{head_telling}
use Rattle.collect_structure.specs.Names as collect
use Rattle.collect_structure.proofs.checked.Tasks.{added-declared}
use Rattle.collect_model.specs.aborts.AbortTeller.{AbortTeller, names_told, told_in}
use Rattle.collect_model.specs.aborts.Calling.{is_part}
use Rattle.collect_model.specs.aborts.Noting.{at_abort}
use Rattle.collect_model.specs.aborts.Serving.{is_not_refused}
use Rattle.collect_model.specs.aborts.Waiting.{is_taken}
use Rattle.collect_structure.specs.aborts.asked.Pieces.{Pieces}
use Rattle.collect_structure.specs.aborts.checked.Around.{kept_names, IsTelling, IsStaying}
use Rattle.collect_structure.proofs.aborts.checked.Names.{longer-met}
use Rattle.collect_structure.proofs.aborts.checked.Scopes.{accept-around, added-loop, loop-around, beside-handler, handler-around}
use Rattle.normal_laws.proofs.structure.checked.Kept.{counted-stays}
use Rattle.normal_laws.proofs.structure.checked.Parts.{expr-stays, choices-stay, loop-stays, args-stay, plain-stays}
use Rattle.collect_structure.proofs.aborts.checked.Stays.{IsTextMet, uses-stay, callee-stays, head-stays, stay, stay-in}
use Rattle.collect_structure.proofs.aborts.checked.Waits.{form-kept, places-kept, IsAgreed, accepts-kept}
use Rattle.collect_structure.proofs.aborts.typed.Typed.{telling_by}
use Rattle.replay_structure.proofs.checked.Stays.{IsFormMet}
use Rattle.collect_structure.proofs.checked.Asked.{accept-under, caller-use}

module _ (g : Setting) (task most : ℕ) where
  abbrev q : PProgram
  q = g.program

  -- the unit as one that tells, with the names of a text without aborts
  abbrev pub x : Teller
  x = record { added = added_in (collect_names q); member = λ e s i. member_number g s e i; numbers = g.numbers; task = task }

  abbrev pub y : AbortTeller
  y = telling_by (told_in (record { setting = g; task = task })) x

  abbrev r : Rules
  r = kept_names q

  -- of the normal form: its names are kept ones, the rules 13 to 23 are met, and nothing stands too deep
  abbrev pub C : Type 0
  C = Prim.Unit {0} × (CheckScope × Prim.Unit {0})

  abbrev pub b : Asks C
  b = both (place_asks r) (both (check_asks (IsFormMet q)) form_asks)

  abbrev pub a : Asks CheckScope
  a = check_asks (IsTextMet q)

  abbrev pub S : C → CheckScope → Type 0
  S c d = IsTelling q y most c.1.0 d

  abbrev pub R : C → CheckScope → Type 0
  R c d = IsStaying q y most c.1.0 d

  abbrev pub H : ℕ → Type 0
  H k = k ≤ 50

  abbrev At' : List CheckSite → Type 0
  At' xs = AllByRecursion (IsTextMet q) xs

  -- ---- expressions in an inner scope

  -- what is no shared variable outside is none there
  abbrev AreUnder : CheckScope → CheckScope → Type 0
  AreUnder d e = (id : NameId) (s : Span) → shared_variable d (uses id s) ≡ [] → shared_variable e (uses id s) ≡ []

  again-deep : (d e : CheckScope) (n : ℕ) (s : Span) → IsTextMet q (check.site d (counts Nesting 0 n s)) → IsTextMet q (check.site e (counts Nesting 0 n s))
  again-deep d e n s m = counted-stays (names_told q) (names_told q) d e Nesting 0 n s m

  expr-under : (d e : CheckScope) → AreUnder d e → (n : ℕ) (z : PExpr) → At' (check.expr_sites d n z) → At' (check.expr_sites e n z)
  expr-under d e h n (EInteger i s) m = (again-deep d e n s m.0, tt)
  expr-under d e h n (EName id s) m = (again-deep d e n s m.0, (met-use (names_told q) e id s (h id s m.1.0.shared), tt))
  expr-under d e h n (EIndex w z s) m =
      (again-deep d e n s m.0, (met-use (names_told q) e w.name w.span (h w.name w.span m.1.0.shared), expr-under d e h (n + 1) z m.1.1))
  expr-under d e h n (EAttribute t w s) m = (again-deep d e n s m.0, tt)
  expr-under d e h n (EAttributeOf t w z s) m = (again-deep d e n s m.0, expr-under d e h (n + 1) z m.1)
  expr-under d e h n (EParen z s) m = (again-deep d e n s m.0, expr-under d e h (n + 1) z m.1)
  expr-under d e h n (EUnary op z s) m = (again-deep d e n s m.0, expr-under d e h (n + 1) z m.1)
  expr-under d e h n (EBinary op z v s) m = (
    again-deep d e n s m.0,
    all_joined (IsTextMet q) (check.expr_sites e (n + 1) z) (check.expr_sites e (n + 1) v)
        (expr-under d e h (n + 1) z (all_front (IsTextMet q) (check.expr_sites d (n + 1) z) (check.expr_sites d (n + 1) v) m.1))
        (expr-under d e h (n + 1) v (all_back (IsTextMet q) (check.expr_sites d (n + 1) z) (check.expr_sites d (n + 1) v) m.1)),
  )

  option-under : (d e : CheckScope) → AreUnder d e → (n : ℕ) (o : Option PExpr) → IfSome o (λ z. At' (check.expr_sites d n z)) →
      IfSome o (λ z. At' (check.expr_sites e n z))
  option-under d e h n None m = tt
  option-under d e h n (Some z) m = expr-under d e h n z m

  -- ---- small expressions

  deep : (d : CheckScope) (n : ℕ) (s : Span) → n ≤ 300 → IsTextMet q (check.site d (counts Nesting 0 n s))
  deep d n s le = met-deep (names_told q) d n s le

  used : (d : CheckScope) (id : NameId) (s : Span) → shared_variable d (uses id s) ≡ [] → IsTextMet q (check.site d (uses id s))
  used d id s e = met-use (names_told q) d id s e

  number-met : (d : CheckScope) (n k : ℕ) (s : Span) → n ≤ 300 → At' (check.expr_sites d n (EInteger k s))
  number-met d n k s le = (deep d n s le, tt)

  name-met : (d : CheckScope) (n : ℕ) (id : NameId) (s : Span) → n ≤ 300 → shared_variable d (uses id s) ≡ [] → At' (check.expr_sites d n (EName id s))
  name-met d n id s le e = (deep d n s le, (used d id s e, tt))

  -- ---- members of families

  member-met : (d : CheckScope) (s : Span) (e n : ℕ) (o : Option PExpr) → n ≤ 300 → ((m : ℕ) → m ≤ n + 1 → IfSome o (λ z. At' (check.expr_sites d m z))) →
      At' (check.expr_sites d n (member_number g s e o))
  member-met d s e n None le h = number-met d n 0 s le
  member-met d s e n (Some z) le h = by_range (family_range g e)
    where
      by_kind : (k : ℕ) (o : Option Kind) → At' (check.expr_sites d n (as_number g.types s k o z))
      by_kind k (Some kind.Integer) = h n (omega arith)
      by_kind k (Some kind.Truth) = (deep d n s le, h (n + 1) (omega arith))
      by_kind k (Some (kind.Enumeration ids)) = (deep d n s le, h (n + 1) (omega arith))
      by_kind k (Some (kind.Array index first last part)) = (deep d n s le, h (n + 1) (omega arith))
      by_kind k None = (deep d n s le, h (n + 1) (omega arith))

      by_range : (o : Option PDrange) → At' (check.expr_sites d n (number_in g.types s o z))
      by_range None = h n (omega arith)
      by_range (Some v) = by_kind (kind_of_range g.types v) (slice_get g.types.kinds (kind_of_range g.types v))

  module _ (c d : CheckScope) (rel : IsTelling q y most c d) where
    -- ---- notes

    -- the actuals of a note, three of which may be any expressions
    about-met : (n : ℕ) (s : Span) (k : ℕ) (t e i : PExpr) (o : ℕ) → n ≤ 300 → At' (check.expr_sites d n t) → At' (check.expr_sites d n e) →
        At' (check.expr_sites d n i) →
        At' (check.if_there (check.args_sites d n) (Some (record { first = number s k ∷ t ∷ e ∷ i ∷ number s o ∷ EName x.added.answer s ∷ []; second = None })))
    about-met n s k t e i o le one two three =
        all_joined (IsTextMet q) (check.exprs_sites d n (number s k ∷ t ∷ e ∷ i ∷ number s o ∷ EName x.added.answer s ∷ [])) [] (
          deep d n s le,
          all_joined (IsTextMet q) (check.expr_sites d n t) _ one
              (all_joined (IsTextMet q) (check.expr_sites d n e) _ two
              (all_joined (IsTextMet q) (check.expr_sites d n i) _ three (deep d n s le, (deep d n s le, (used d x.added.answer s (rel.answer s), tt))))),
        ) tt

    notes-met : (n : ℕ) (s : Span) (k : ℕ) (t : PExpr) (e : ℕ) (i : PExpr) (o : ℕ) → n ≤ 300 → At' (check.expr_sites d n t) → At' (check.expr_sites d n i) →
        At' (check.if_there (check.args_sites d n) (Some (record { first = note_actuals x s k t e i o; second = None })))
    notes-met n s k t e i o le one two = about-met n s k t (number s e) i o le one (number-met d n e s le) two

    -- a task tells of itself
    own-met : (n : ℕ) (s : Span) (k e : ℕ) → n ≤ 300 →
        At' (check.if_there (check.args_sites d n) (Some (record { first = note_actuals x s k (own_number x s) e (EInteger 0 s) 0; second = None })))
    own-met n s k e le = notes-met n s k (own_number x s) e (EInteger 0 s) 0 le (number-met d n task s le) (number-met d n 0 s le)

    -- ---- calls

    -- an index of a call, wherever it stands
    called-index : (k : ℕ) (e : ℕ) (o : Option PArgs) → IfSome o (EveryArgs r k) → AllByRecursion (IsFormMet q) (check.if_there (check.args_sites c k) o) →
        (m : ℕ) → m + 100 ≤ k + 300 → IfSome (lists_of g.numbers e o).index (λ z. At' (check.expr_sites d m z))
    called-index k e None h i m le = tt
    called-index k e (Some args) h i m le = by_family (is_family g.numbers e)
      where
        first : (es : List PExpr) → AllByRecursion (EveryExpr r k) es → AllByRecursion (IsFormMet q) (check.exprs_sites c k es) →
            IfSome (first_expr es) (λ z. At' (check.expr_sites d m z))
        first [] f j = tt
        first (z ∷ zs) f j =
            expr-stays (stay q c d (uses-stay q c d y most rel)) k m z le f.0 (all_front (IsFormMet q) (check.expr_sites c k z) (check.exprs_sites c k zs) j)

        by_family : (f : Bool) → IfSome (lists_in f args).index (λ z. At' (check.expr_sites d m z))
        by_family false = tt
        by_family true =
            first args.first (recursion_from_All (EveryExpr r k) args.first h.0.1)
            (all_front (IsFormMet q) (check.exprs_sites c k args.first) (check.if_there (check.exprs_sites c k) args.second) i)

    -- an index, wherever it stands
    index-met : (k : ℕ) (o : Option PExpr) → IfSome o (EveryExpr r k) → AllByRecursion (IsFormMet q) (check.if_there (check.expr_sites c k) o) → (m : ℕ) →
        m + 100 ≤ k + 300 → IfSome o (λ z. At' (check.expr_sites d m z))
    index-met k None f i m le = tt
    index-met k (Some z) f i m le = expr-stays (stay q c d (uses-stay q c d y most rel)) k m z le f i

    telling-met : (k n : ℕ) (s : Span) (f : Bool) (o : Option PArgs) → n ≤ 300 → n + 100 ≤ k + 300 → IfSome o (EveryArgs r k) →
        AllByRecursion (IsFormMet q) (check.if_there (check.args_sites c k) o) → At' (check.args_sites d n (args_with f (own_number x s) o))
    telling-met k n s true None le few h i = (deep d n s le, tt)
    telling-met k n s true (Some args) le few h i =
        let kept : At' (check.args_sites d n args) = args-stay (stay q c d (uses-stay q c d y most rel)) k n args few h i in
        all_joined (IsTextMet q) (check.exprs_sites d n args.first) _
        (all_front (IsTextMet q) (check.exprs_sites d n args.first) (check.if_there (check.exprs_sites d n) args.second) kept) (
          deep d n s le,
          behind args.second
              (all_back (IsTextMet q) (check.exprs_sites d n args.first) (check.if_there (check.exprs_sites d n) args.second) kept),
        )
      where
        behind : (o : Option (List PExpr)) → At' (check.if_there (check.exprs_sites d n) o) → At' (check.exprs_sites d n (unwrap_or o []))
        behind None j = tt
        behind (Some es) j = j
    telling-met k n s false None le few h i = (deep d n s le, tt)
    telling-met k n s false (Some args) le few h i = (deep d n s le, args-stay (stay q c d (uses-stay q c d y most rel)) k n args few h i)

    -- ---- the test of the part that came

    part-met : (n : ℕ) (s : Span) (w : ℕ) → n ≤ 299 → At' (check.expr_sites d n (is_part x s w))
    part-met n s w le = (
      deep d n s (omega (arith, le)),
      (deep d (n + 1) s (omega (arith, le)), (used d x.added.part s (rel.part s), (deep d (n + 1) s (omega (arith, le)), tt))),
    )

    taken-met : (n : ℕ) (s : Span) → n ≤ 299 → At' (check.expr_sites d n (is_taken y s))
    taken-met n s le = (
      deep d n s (omega (arith, le)),
      (deep d (n + 1) s (omega (arith, le)), (used d x.added.part s (rel.part s), (deep d (n + 1) s (omega (arith, le)), tt))),
    )

    sets-met : (n : ℕ) (s : Span) → n ≤ 299 →
        At' (check.site d (counts Nesting 0 n s) ∷ check.site d (uses x.added.part s) ∷ check.site d (counts Nesting 0 (n + 1) s) ∷ [])
    sets-met n s le = (deep d n s (omega (arith, le)), (used d x.added.part s (rel.part s), (deep d (n + 1) s (omega (arith, le)), tt)))

  -- ---- accepts

  -- an accept with the formal of the caller stands where it does without
  telling-accepted : (d : CheckScope) (h : PHead) → IsTextMet q (check.site d (accepts h)) → IsTextMet q (check.site d (accepts (head_telling x h)))
  telling-accepted d h m = record {
    shared = m.shared;
    accepts = m.accepts;
    selects = m.selects;
    twice = m.twice;
    reserved = m.reserved;
    main = m.main;
    order = m.order;
    bodies = m.bodies;
    exits = m.exits;
    raises = m.raises;
    limits = m.limits;
  }

  -- ---- waits

  -- the indices of the accepts of a wait have the same static values
  heads-agreed : (c : C) (d : CheckScope) → S c d → (k : ℕ) (xs : PAlts) → AskedAlts b c k xs →
      AllByRecursion (IsAgreed y 0 c.1.0.types d.types) (accept_heads (alt_kinds xs))
  heads-agreed c d rel k no_alt h = tt
  heads-agreed c d rel k (alt_then (alternative t (AAccept (accepting i o) l) s) rest) h = (by_index i.index h.2.0.0.0.1.1, heads-agreed c d rel k rest h.3)
    where
      by_index : (o : Option PExpr) → IfSome o (EveryExpr r ((k + 1) + 1)) → IfSome o (λ e. fixed d.types e ≡ fixed c.1.0.types e)
      by_index None j = tt
      by_index (Some e) j = rel.values ((k + 1) + 1) e j
  heads-agreed c d rel k (alt_then (alternative t (ADelay n l) s) rest) h = heads-agreed c d rel k rest h.3
  heads-agreed c d rel k (alt_then (alternative t ATerminate s) rest) h = heads-agreed c d rel k rest h.3

  numbered-stay : (c d : CheckScope) (n : ℕ) (ss : List Span) → AllByRecursion (IsFormMet q) (check.numbered c Alternatives n ss) →
      At' (check.numbered d Alternatives n ss)
  numbered-stay c d n [] m = tt
  numbered-stay c d n (s ∷ ss) m = (counted-stays q.names (names_told q) c d Alternatives n 1 s m.0, numbered-stay c d (n + 1) ss m.1)

  -- one name alone is in no wrong order
  no-order : (d : CheckScope) (xs : List PCallee) → length xs ≤ 1 → At' (before_sites d xs)
  no-order d [] le = tt
  no-order d (z ∷ []) le = tt
  no-order d (z ∷ v ∷ rest) le = let never : ⊥ = omega (arith, le) in absurd never

  delay-met : (d : CheckScope) (n : ℕ) (guard : Option PExpr) (s : Span) → n ≤ 300 → At' (check.delay_sites d n guard s)
  delay-met d n None s le = (deep d n s le, tt)
  delay-met d n (Some e) s le = tt

  -- the test that a caller has not been refused
  unrefused-met : (c : C) (d : CheckScope) → S c d → (n : ℕ) (s : Span) (p : ℕ) → (1 ≤ p) × (p ≤ most) → n ≤ 299 →
      At' (check.expr_sites d n (is_not_refused y s p))
  unrefused-met c d rel n s p i le = (deep d n s (omega (arith, le)), name-met d (n + 1) (y.refused p) s (omega (arith, le)) (rel.refused p i s))

  -- ---- all pieces

  pub pieces : Pieces y most H b a R S
  pieces = record {
    near = λ c d rel. rel.0;
    looping = λ c d k w z rel h. loop-around q y most c.1.0 d w z rel;
    handling = λ c d rel. handler-around q y most c.1.0 d rel;
    in_accept = λ c d k h rel i. accept-around q y most x refl c.1.0 d h rel;
    in_loop = λ c d rel. added-loop q y most c.1.0 d rel;
    in_handler = λ c d rel. beside-handler q y most c.1.0 d rel;
    here = λ c k s h. h.1.1;
    here_accepted = λ c k h i. i.1.1;
    outer = λ c d k n s rel h le. deep d n s (omega (arith, h, le));
    many = λ n h. tt;
    some = λ n. tt;
    duration = λ n h. tt;
    plain = λ c d k n z p rel h le. let m : k ≤ 50 = h.1.1 in plain-stays (stay-in q c.1.0 d y most rel.0 rel.1) k n z p (omega (arith, m, le)) h.0 h.1.0;
    condition = λ c d k n e rel h le. let m : k ≤ 50 = h.1.1 in expr-stays (stay q c.1.0 d (uses-stay q c.1.0 d y most rel)) k n e (omega (arith, m, le)) h.0 h.1.0;
    selector = λ c d k n e xs others s rel h le.
        let m : k ≤ 50 = h.1.1 in
        expr-stays (stay q c.1.0 d (uses-stay q c.1.0 d y most rel.0)) k n e (omega (arith, m, le)) h.0 h.1.0;
    choices = λ c d k n e xs rel h le.
        let m : k ≤ 50 = h.1.1 in
        choices-stay (stay q c.1.0 d (uses-stay q c.1.0 d y most rel.0)) k n xs (omega (arith, m, le)) (recursion_from_All (EveryChoice r k) xs h.0.1) h.1.0;
    loop = λ c d k n w z rel h le. let m : k ≤ 50 = h.1.1 in loop-stays (stay q c.1.0 d (uses-stay q c.1.0 d y most rel.0)) k n w z (omega (arith, m, le)) h.0.0 h.0.1 h.1.0;
    callee = λ c d k j n z rel near under h le. let m : j ≤ 50 = h.1.1 in callee-stays q c.1.0 d y most rel.0 j n z (omega (arith, m, le)) h.0 h.1.0;
    aborts = λ c d k n xs rel h le. no-order d xs h.1.1;
    handlers = λ hs t h. tt;
    handled = λ c d k n names ws rel h le. tt;
    telling = λ c d k j n s z rel near under h i le.
        let m : j ≤ 50 = i.1.1 in
        telling-met c.1.0 d rel.0 j n s (is_family g.numbers (entry_called g z)) z.args (omega (arith, m, le)) (omega (arith, m, le)) i.0.1 i.1.0;
    head = λ c d k n h rel i le.
        let m : k ≤ 50 = i.1.1 in
        let kept = head-stays q c.1.0 d y most rel k n h (omega (arith, m, le)) i.0 i.1.0 in
        let index : List CheckSite = check.if_there (check.expr_sites d (n + 1)) h.index in
        let formals : List CheckSite = check.names_sites d (check.formal_names h.formals) in (
          kept.0,
          (
            telling-accepted d h kept.1.0,
            all_joined (IsTextMet q) index _ (all_front (IsTextMet q) index formals kept.1.1)
                (longer-met q _ (added-declared q d caller_text h.entry.span refl (omega arith)), all_back (IsTextMet q) index formals kept.1.1),
          ),
        );
    wait = λ c d k n xs others s t p rel near place w all le. (
      met-wait (names_told q) d _ others s (form-kept y p xs t 1 1 others s w.1.0.0.selects)
          (accepts-kept y p c.1.0.types d.types xs t 1 1 (heads-agreed c d rel (k + 1) xs all) w.1.0.0.twice),
      subst (λ ss. At' (check.numbered d Alternatives 0 ss)) (sym (places-kept y p xs t 1 1)) (numbered-stay c.1.0 d 0 _ w.1.0.1),
    );
    delay = λ c d k n guard s rel near h le. delay-met d n guard s (omega (arith, near, le));
    branched = λ c k xs others s w. tt;
    recorder = λ c d k n s rel h le. (met-callee (names_told q) d (word_at s (collect.added_id q recorder_text)) (rel.recorder s), tt);
    own = λ c d k n s kind rel h few le. own-met c.1.0 d rel n s kind 0 (omega (arith, h, le));
    aborted = λ c d k n s z rel h i j le. own-met c.1.0 d rel n s at_abort (task_of g.numbers z.name.name) (omega (arith, h, le));
    delayed = λ c d k n xs others t s place rel h w few le. own-met c.1.0 d rel n s has_delay place (omega (arith, h, le));
    told = λ c d k j n s kind z rel near under h i few le.
        let small : n ≤ 299 = omega (arith, near, le) in
        let m : j ≤ 50 = i.1.1 in
        let low : k + 1 ≤ j = under.0 in
        notes-met c.1.0 d rel.0 n s kind (own_number x s) (entry_called g z) (member_called x s z) (owner_of g.numbers (entry_called g z))
        (omega (arith, small)) (number-met d n task s (omega (arith, small)))
        (member-met d s (entry_called g z) n (lists_called g z).index (omega (arith, small))
        (λ p l. called-index c.1.0 d rel.0 j (entry_called g z) z.args i.0.1 i.1.0 p (omega (arith, m, low, l, near, le))));
    failed = λ c d k j n s z rel near under h i le.
        let small : n ≤ 299 = omega (arith, near, le) in
        let m : j ≤ 50 = i.1.1 in
        let low : k + 1 ≤ j = under.0 in
        let again = beside-handler q y most c.1.0 d rel.0 in
        notes-met (check.handling c.1.0) (check.handling d) again n s has_failed (own_number x s) (entry_called g z) (member_called x s z)
        (owner_of g.numbers (entry_called g z)) (omega (arith, small))
        (number-met (check.handling d) n task s (omega (arith, small)))
        (member-met (check.handling d) s (entry_called g z) n (lists_called g z).index (omega (arith, small))
        (λ p l. option-under d (check.handling d) (λ id t e. e) p (lists_called g z).index
        (called-index c.1.0 d rel.0 j (entry_called g z) z.args i.0.1 i.1.0 p (omega (arith, m, low, l, near, le)))));
    begun = λ c d k n s h rel i le.
        let m : k ≤ 50 = i.1.1 in
        let small : n ≤ 299 = omega (arith, m, le) in
        let e : ℕ = entry_of g.numbers task h.entry.name in
        let d' : CheckScope = check.in_accept d (head_telling x h) in
        let rel' = accept-around q y most x refl c.1.0 d h rel in
        notes-met (check.in_accept c.1.0 h) d' rel'.0 n s 1 (EName (collect.added_id q caller_text) s) e (member_number g s e h.index) task
        (omega (arith, small))
        (name-met d' n (collect.added_id q caller_text) s (omega (arith, small)) (caller-use g task d h s))
        (member-met d' s e n h.index (omega (arith, small))
        (λ p l. option-under d d' (accept-under g task d h) p h.index
        (index-met c.1.0 d rel (k + 1) h.index i.0.1.1
        (all_front (IsFormMet q) (check.if_there (check.expr_sites c.1.0 (k + 1)) h.index)
        (check.names_sites c.1.0 (check.formal_names h.formals)) i.1.0.1.1) p (omega (arith, m, l, le)))));
    over = λ c d k n s p rel h i le.
        let small : n ≤ 300 = omega (arith, h, le) in
        about-met c.1.0 d rel n s 2 (own_number x s) (EName (y.taken p) s) (EInteger 0 s) 0 small (number-met d n task s small)
        (name-met d n (y.taken p) s small (rel.taken p i s)) (number-met d n 0 s small);
    takes = λ c d k n s h p rel i j le.
        let m : k ≤ 50 = i.1.1 in
        let small : n ≤ 299 = omega (arith, m, le) in
        let d' : CheckScope = check.in_accept d (head_telling x h) in
        let rel' = accept-around q y most x refl c.1.0 d h rel in (
          deep d' n s (omega (arith, small)),
          (used d' (y.taken p) s (rel'.0.taken p j s), name-met d' (n + 1) (collect.added_id q caller_text) s (omega (arith, small)) (caller-use g task d h s)),
        );
    keeps = λ c d k n s p rel h i le.
        let small : n ≤ 299 = omega (arith, h, le) in (
          deep d n s (omega (arith, small)),
          (used d (y.refused p) s (rel.refused p i s), name-met d (n + 1) x.added.answer s (omega (arith, small)) (rel.answer s)),
        );
    refused = λ c d k n s p rel h i le. name-met d n (y.refused p) s (omega (arith, h, le)) (rel.refused p i s);
    unrefused = λ c d k n s p rel h i le. unrefused-met c d rel n s p i (omega (arith, h, le));
    tries = λ c d k n rel h le. tt;
    leaves = λ c d k n s p rel h i le.
        let small : n ≤ 290 = omega (arith, h, le) in
        let d' : CheckScope = check.in_loop d None None in (
          deep d' n s (omega (arith, small)),
          (met-exit (names_told q) d' None s refl, unrefused-met c d' (added-loop q y most c.1.0 d rel) (n + 1) s p i (omega (arith, small))),
        );
    leaves_wait = λ c d k n s rel h le.
        let small : n ≤ 290 = omega (arith, h, le) in
        let d' : CheckScope = check.in_loop d None None in (
          deep d' n s (omega (arith, small)),
          (met-exit (names_told q) d' None s refl, taken-met c.1.0 d' (added-loop q y most c.1.0 d rel) (n + 1) s (omega (arith, small))),
        );
    part = λ c d k n s w rel h few le. sets-met c.1.0 d rel n s (omega (arith, h, le));
    came = λ c d k n s rel h le. part-met c.1.0 d rel n s 1 (omega (arith, h, le));
    chosen = λ c d k n xs others t s w rel h i few le. sets-met c.1.0 d rel n s (omega (arith, h, le));
    chose = λ c d k n xs others t s w rel h i few le. part-met c.1.0 d rel n s w (omega (arith, h, le));
    answered = λ c d k n s rel h le. name-met d n x.added.answer s (omega (arith, h, le)) (rel.answer s);
    late = λ c d k n s rel h le. (deep d n s (omega (arith, h, le)), tt);
    others = λ s l. tt;
    no_others = tt;
    other = λ c d k n rel h le. tt;
    null = λ c d k n s rel h le. (deep d n s (omega (arith, h, le)), tt);
    again = λ c d k n s rel h le. (deep (check.handling d) n s (omega (arith, h, le)), (met-raise (names_told q) (check.handling d) s refl, tt));
  }

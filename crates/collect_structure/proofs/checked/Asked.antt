-- Each piece of a collecting text meets the rules 13 to 23.
use Rattle.std.proofs.Common.{◌≡◌, ℕ, ◌+◌, ◌≤◌, ◌==◌, ◌||◌, Bool, true, false, List, [], ◌∷◌, length, slice_get, unwrap_or, Option, Some, None, IfSome, refl, sym, ap, subst, arith}
use Rattle.std.specs.List.{AllByRecursion, list_any}
use Rattle.std.proofs.lemmas.List.Elements.{recursion_from_All}
use Rattle.common_lemmas.proofs.Lists.{all_front, all_back, all_joined}
use Rattle.common_lemmas.proofs.Numbers.{equal_self}
use Rattle.ada_tree.specs.declared.naming.NameId.{NameId}
use Rattle.ada_tree.specs.declared.naming.Span.{Span}
use Rattle.ada_tree.specs.declared.static_types.Kind.{Kind}
use Rattle.ada_tree.specs.declared.static_types.Kind.TheVariants as kind
use Rattle.ada_tree.specs.PlainExpr.{PExpr, EInteger, EName, EIndex, EAttribute, EAttributeOf, EParen, EUnary, EBinary, PDrange}
use Rattle.ada_tree.specs.PlainStmt.{PCallee, PArgs, PHead, accepting, alternative, AAccept, ADelay, ATerminate, PAlts, no_alt, alt_then}
use Rattle.ada_tree.specs.PlainProgram.{PProgram}
use Rattle.ada_tree.specs.Every.{Rules, EveryExpr, EveryArgs, EveryChoice}
use Rattle.syn_event.specs.declared.limits.What.TheVariants.{Nesting, Alternatives}
use Rattle.syn_event.specs.CheckScope.{CheckScope, CheckSite, uses, counts, accepts}
use Rattle.syn_event.specs.Extents.{fixed}
use Rattle.syn_event.specs.RuleSharedVariable.{shared_variable}
use Rattle.syn_event.specs.CheckSites as check
use Rattle.syn_event.specs.RuleSelectForm.{alt_kinds}
use Rattle.syn_event.specs.RuleSameEntryTwice.{accept_heads}
use Rattle.syn_event.specs.Numbering.{owner_of}
use Rattle.task_model.specs.Setting.{Setting, first_expr, lists_in, lists_of, is_family, entry_of}
use Rattle.task_laws.specs.legal.asked.Asked.{Asks, AskedAlts}
use Rattle.task_laws.specs.legal.asked.Kinds.{place_asks, check_asks, both, before_sites}
use Rattle.normal_model.specs.Ranges.{kind_of_range, family_range, word_at}
use Rattle.normal_model.specs.Calls.{entry_called, lists_called}
use Rattle.normal_laws.proofs.structure.checked.Places.{met-deep, met-callee, met-wait, met-raise, met-use}
use Rattle.replay_model.specs.Asking.{as_number, number_in, member_number}
use Rattle.replay_structure.specs.checked.Around.{form_asks}
use Rattle.replay_structure.proofs.checked.Scopes.{uses-under, inner-use}
use Rattle.collect_model.specs.Names.{caller_text, answer_text, part_text, recorder_text, collect_names, added_in}
use Rattle.collect_model.specs.Teller.{Teller}
use Rattle.collect_model.specs.Noting.{own_number, note_actuals}
use Rattle.collect_model.specs.Calling.{member_called, args_with}
use Rattle.collect_model.specs.Serving.{head_telling}
use Rattle.collect_structure.specs.Names.{added_id, kept_names}
use Rattle.collect_structure.specs.asked.Pieces.{Pieces}
use Rattle.collect_structure.specs.checked.Around.{IsTelling}
use Rattle.collect_structure.proofs.checked.Scopes.{accept-around, loop-around, handler-around}
use Rattle.normal_laws.proofs.structure.checked.Parts.{expr-stays, choices-stay, loop-stays, args-stay, plain-stays}
use Rattle.collect_structure.proofs.checked.Stays.{IsTextMet, uses-stay, callee-stays, head-stays, stay, stay-in}
use Rattle.collect_structure.proofs.checked.Tasks.{added-declared}
use Rattle.collect_structure.proofs.checked.Waits.{form-kept, places-kept, IsAgreed, accepts-kept}
use Rattle.replay_structure.proofs.checked.Stays.{IsFormMet}

module _ (g : Setting) (task : ℕ) where
  abbrev q : PProgram
  q = g.program

  -- the unit as one that tells
  abbrev pub x : Teller
  x = record { added = added_in (collect_names q); member = λ e s i. member_number g s e i; numbers = g.numbers; task = task }

  abbrev r : Rules
  r = kept_names q

  -- of the normal form: its names are kept ones, the rules 13 to 23 are met, and nothing stands too deep
  abbrev pub C : Type 0
  C = Prim.Unit {0} × (CheckScope × Prim.Unit {0})

  abbrev pub b : Asks C
  b = both (place_asks r) (both (check_asks (IsFormMet q)) form_asks)

  abbrev pub a : Asks CheckScope
  a = check_asks (IsTextMet q)

  abbrev pub R : C → CheckScope → Type 0
  R c d = IsTelling q c.1.0 d

  abbrev pub H : ℕ → Type 0
  H k = k ≤ 50

  abbrev At' : List CheckSite → Type 0
  At' xs = AllByRecursion (IsTextMet q) xs

  -- ---- expressions in an inner scope

  -- what is no shared variable outside is none there
  abbrev AreUnder : CheckScope → CheckScope → Type 0
  AreUnder d e = (id : NameId) (s : Span) → shared_variable d (uses id s) ≡ [] → shared_variable e (uses id s) ≡ []

  again-deep : (d e : CheckScope) (n : ℕ) (s : Span) → IsTextMet q (check.site d (counts Nesting 0 n s)) → IsTextMet q (check.site e (counts Nesting 0 n s))
  again-deep d e n s m = record { shared = refl; accepts = refl; selects = refl; twice = refl; reserved = refl; main = refl; order = refl; bodies = refl; exits = refl; raises = refl; limits = m.limits }

  expr-under : (d e : CheckScope) → AreUnder d e → (n : ℕ) (y : PExpr) → At' (check.expr_sites d n y) → At' (check.expr_sites e n y)
  expr-under d e h n (EInteger i s) m = (again-deep d e n s m.0, tt)
  expr-under d e h n (EName id s) m = (again-deep d e n s m.0, (met-use (collect_names q) e id s (h id s m.1.0.shared), tt))
  expr-under d e h n (EIndex w y s) m = (again-deep d e n s m.0, (met-use (collect_names q) e w.name w.span (h w.name w.span m.1.0.shared), expr-under d e h (n + 1) y m.1.1))
  expr-under d e h n (EAttribute z w s) m = (again-deep d e n s m.0, tt)
  expr-under d e h n (EAttributeOf z w y s) m = (again-deep d e n s m.0, expr-under d e h (n + 1) y m.1)
  expr-under d e h n (EParen y s) m = (again-deep d e n s m.0, expr-under d e h (n + 1) y m.1)
  expr-under d e h n (EUnary op y s) m = (again-deep d e n s m.0, expr-under d e h (n + 1) y m.1)
  expr-under d e h n (EBinary op y z s) m = (
    again-deep d e n s m.0,
    all_joined (IsTextMet q) (check.expr_sites e (n + 1) y) (check.expr_sites e (n + 1) z)
        (expr-under d e h (n + 1) y (all_front (IsTextMet q) (check.expr_sites d (n + 1) y) (check.expr_sites d (n + 1) z) m.1))
        (expr-under d e h (n + 1) z (all_back (IsTextMet q) (check.expr_sites d (n + 1) y) (check.expr_sites d (n + 1) z) m.1)),
  )

  option-under : (d e : CheckScope) → AreUnder d e → (n : ℕ) (o : Option PExpr) → IfSome o (λ y. At' (check.expr_sites d n y)) → IfSome o (λ y. At' (check.expr_sites e n y))
  option-under d e h n None m = tt
  option-under d e h n (Some y) m = expr-under d e h n y m

  module _ (c : CheckScope) (d : CheckScope) (rel : IsTelling q c d) where
    deep : (n : ℕ) (s : Span) → n ≤ 300 → IsTextMet q (check.site d (counts Nesting 0 n s))
    deep n s le = met-deep (collect_names q) d n s le

    -- ---- members of families

    member-met : (s : Span) (e n : ℕ) (o : Option PExpr) → n ≤ 300 → ((m : ℕ) → m ≤ n + 1 → IfSome o (λ y. At' (check.expr_sites d m y))) → At' (check.expr_sites d n (member_number g s e o))
    member-met s e n None le h = (deep n s le, tt)
    member-met s e n (Some y) le h = by_range (family_range g e)
      where
        by_kind : (k : ℕ) (o : Option Kind) → At' (check.expr_sites d n (as_number g.types s k o y))
        by_kind k (Some kind.Integer) = h n (omega arith)
        by_kind k (Some kind.Truth) = (deep n s le, h (n + 1) (omega arith))
        by_kind k (Some (kind.Enumeration ids)) = (deep n s le, h (n + 1) (omega arith))
        by_kind k (Some (kind.Array index first last part)) = (deep n s le, h (n + 1) (omega arith))
        by_kind k None = (deep n s le, h (n + 1) (omega arith))

        by_range : (o : Option PDrange) → At' (check.expr_sites d n (number_in g.types s o y))
        by_range None = h n (omega arith)
        by_range (Some z) = by_kind (kind_of_range g.types z) (slice_get g.types.kinds (kind_of_range g.types z))

    -- ---- notes

    notes-met : (n : ℕ) (s : Span) (k : ℕ) (t : PExpr) (e : ℕ) (i : PExpr) (o : ℕ) → n ≤ 300 → At' (check.expr_sites d n t) → At' (check.expr_sites d n i) → At' (check.if_there (check.args_sites d n) (Some (record { first = note_actuals x s k t e i o; second = None })))
    notes-met n s k t e i o le one two =
        all_joined (IsTextMet q) (check.exprs_sites d n (note_actuals x s k t e i o)) [] (
          deep n s le,
          all_joined (IsTextMet q) (check.expr_sites d n t) _ one (
            deep n s le,
            all_joined (IsTextMet q) (check.expr_sites d n i) _ two (deep n s le, (deep n s le, (met-use (collect_names q) d (added_id q answer_text) s (rel.answer s), tt))),
          ),
        ) tt

    -- ---- calls

    -- an index of a call, wherever it stands
    called-index : (k : ℕ) (e : ℕ) (o : Option PArgs) → IfSome o (EveryArgs r k) → AllByRecursion (IsFormMet q) (check.if_there (check.args_sites c k) o) → (m : ℕ) → m + 100 ≤ k + 300 → IfSome (lists_of g.numbers e o).index (λ y. At' (check.expr_sites d m y))
    called-index k e None h i m le = tt
    called-index k e (Some args) h i m le = by_family (is_family g.numbers e)
      where
        first : (es : List PExpr) → AllByRecursion (EveryExpr r k) es → AllByRecursion (IsFormMet q) (check.exprs_sites c k es) → IfSome (first_expr es) (λ y. At' (check.expr_sites d m y))
        first [] f j = tt
        first (y ∷ ys) f j = expr-stays (stay q c d (uses-stay q c d rel)) k m y le f.0 (all_front (IsFormMet q) (check.expr_sites c k y) (check.exprs_sites c k ys) j)

        by_family : (f : Bool) → IfSome (lists_in f args).index (λ y. At' (check.expr_sites d m y))
        by_family false = tt
        by_family true = first args.first (recursion_from_All (EveryExpr r k) args.first h.0.1) (all_front (IsFormMet q) (check.exprs_sites c k args.first) (check.if_there (check.exprs_sites c k) args.second) i)

    -- an index, wherever it stands
    index-met : (k : ℕ) (o : Option PExpr) → IfSome o (EveryExpr r k) → AllByRecursion (IsFormMet q) (check.if_there (check.expr_sites c k) o) → (m : ℕ) → m + 100 ≤ k + 300 → IfSome o (λ y. At' (check.expr_sites d m y))
    index-met k None f i m le = tt
    index-met k (Some y) f i m le = expr-stays (stay q c d (uses-stay q c d rel)) k m y le f i

    telling-met : (k n : ℕ) (s : Span) (f : Bool) (o : Option PArgs) → n ≤ 300 → n + 100 ≤ k + 300 → IfSome o (EveryArgs r k) → AllByRecursion (IsFormMet q) (check.if_there (check.args_sites c k) o) → At' (check.args_sites d n (args_with f (own_number x s) o))
    telling-met k n s true None le few h i = (deep n s le, tt)
    telling-met k n s true (Some args) le few h i =
        let kept : At' (check.args_sites d n args) = args-stay (stay q c d (uses-stay q c d rel)) k n args few h i in
        all_joined (IsTextMet q) (check.exprs_sites d n args.first) _ (all_front (IsTextMet q) (check.exprs_sites d n args.first) (check.if_there (check.exprs_sites d n) args.second) kept)
        (deep n s le, behind args.second (all_back (IsTextMet q) (check.exprs_sites d n args.first) (check.if_there (check.exprs_sites d n) args.second) kept))
      where
        behind : (o : Option (List PExpr)) → At' (check.if_there (check.exprs_sites d n) o) → At' (check.exprs_sites d n (unwrap_or o []))
        behind None j = tt
        behind (Some es) j = j
    telling-met k n s false None le few h i = (deep n s le, tt)
    telling-met k n s false (Some args) le few h i = (deep n s le, args-stay (stay q c d (uses-stay q c d rel)) k n args few h i)

  -- ---- accepts

  -- the names in an accept are inner ones
  pub accept-under : (d : CheckScope) (h : PHead) → AreUnder d (check.in_accept d (head_telling x h))
  accept-under d h id s e = uses-under (record d { accepting = h.entry.name ∷ d.accepting; loops = [] }) (check.formal_names (head_telling x h).formals) id s e

  pub caller-use : (d : CheckScope) (h : PHead) (s : Span) → shared_variable (check.in_accept d (head_telling x h)) (uses (added_id q caller_text) s) ≡ []
  caller-use d h s =
      inner-use (record d { accepting = h.entry.name ∷ d.accepting; loops = [] }) (check.formal_names (head_telling x h).formals) (added_id q caller_text) s
      (ap (λ b. b || list_any (λ w. w.name.0 == (added_id q caller_text).0) (check.formal_names h.formals)) (equal_self (added_id q caller_text).0))

  -- ---- waits

  -- the indices of the accepts of a wait have the same static values
  heads-agreed : (c : C) (d : CheckScope) → R c d → (k : ℕ) (xs : PAlts) → AskedAlts b c k xs → AllByRecursion (IsAgreed x c.1.0.types d.types) (accept_heads (alt_kinds xs))
  heads-agreed c d rel k no_alt h = tt
  heads-agreed c d rel k (alt_then (alternative g (AAccept (accepting i o) l) s) rest) h = (by_index i.index h.2.0.0.0.1.1, heads-agreed c d rel k rest h.3)
    where
      by_index : (o : Option PExpr) → IfSome o (EveryExpr r ((k + 1) + 1)) → IfSome o (λ e. fixed d.types e ≡ fixed c.1.0.types e)
      by_index None j = tt
      by_index (Some e) j = rel.values ((k + 1) + 1) e j
  heads-agreed c d rel k (alt_then (alternative g (ADelay n l) s) rest) h = heads-agreed c d rel k rest h.3
  heads-agreed c d rel k (alt_then (alternative g ATerminate s) rest) h = heads-agreed c d rel k rest h.3

  numbered-stay : (c d : CheckScope) (n : ℕ) (ss : List Span) → AllByRecursion (IsFormMet q) (check.numbered c Alternatives n ss) → At' (check.numbered d Alternatives n ss)
  numbered-stay c d n [] m = tt
  numbered-stay c d n (s ∷ ss) m =
      (record { shared = refl; accepts = refl; selects = refl; twice = refl; reserved = refl; main = refl; order = refl; bodies = refl; exits = refl; raises = refl; limits = m.0.limits }, numbered-stay c d (n + 1) ss m.1)

  -- one name alone is in no wrong order
  no-order : (d : CheckScope) (xs : List PCallee) → length xs ≤ 1 → At' (before_sites d xs)
  no-order d [] le = tt
  no-order d (y ∷ []) le = tt
  no-order d (y ∷ z ∷ rest) le = let never : ⊥ = omega (arith, le) in absurd never

  delay-met : (d : CheckScope) (n : ℕ) (guard : Option PExpr) (s : Span) → n ≤ 300 → At' (check.delay_sites d n guard s)
  delay-met d n None s le = (met-deep (collect_names q) d n s le, tt)
  delay-met d n (Some e) s le = tt

  -- ---- all pieces

  -- an accept with the formal of the caller stands where it does without
  telling-accepted : (d : CheckScope) (h : PHead) → IsTextMet q (check.site d (accepts h)) → IsTextMet q (check.site d (accepts (head_telling x h)))
  telling-accepted d h m = record {
    shared = m.shared;
    accepts = m.accepts;
    selects = m.selects;
    twice = m.twice;
    reserved = m.reserved;
    main = m.main;
    order = m.order;
    bodies = m.bodies;
    exits = m.exits;
    raises = m.raises;
    limits = m.limits;
  }

  pub pieces : Pieces x H b a R
  pieces = record {
    here = λ c k s h. h.1.1;
    here_accepted = λ c k h i. i.1.1;
    outer = λ c d k n s rel h le. met-deep (collect_names q) d n s (omega (arith, h, le));
    many = λ n h. tt;
    some = λ n. tt;
    duration = λ n h. tt;
    plain = λ c d k n y p rel h le. let m : k ≤ 50 = h.1.1 in plain-stays (stay-in q c.1.0 d rel) k n y p (omega (arith, m, le)) h.0 h.1.0;
    condition = λ c d k n e rel h le. let m : k ≤ 50 = h.1.1 in expr-stays (stay q c.1.0 d (uses-stay q c.1.0 d rel)) k n e (omega (arith, m, le)) h.0 h.1.0;
    selector = λ c d k n e xs others s rel h le. let m : k ≤ 50 = h.1.1 in expr-stays (stay q c.1.0 d (uses-stay q c.1.0 d rel)) k n e (omega (arith, m, le)) h.0 h.1.0;
    choices = λ c d k n e xs rel h le. let m : k ≤ 50 = h.1.1 in choices-stay (stay q c.1.0 d (uses-stay q c.1.0 d rel)) k n xs (omega (arith, m, le)) (recursion_from_All (EveryChoice r k) xs h.0.1) h.1.0;
    loop = λ c d k n w y rel h le. let m : k ≤ 50 = h.1.1 in loop-stays (stay q c.1.0 d (uses-stay q c.1.0 d rel)) k n w y (omega (arith, m, le)) h.0.0 h.0.1 h.1.0;
    looping = λ c d k w y rel h. loop-around q c.1.0 d w y rel;
    callee = λ c d k j n y rel near under h le. let m : j ≤ 50 = h.1.1 in callee-stays q c.1.0 d rel j n y (omega (arith, m, le)) h.0 h.1.0;
    aborts = λ c d k n xs rel h le. no-order d xs h.1.1;
    handlers = λ hs t h. tt;
    handled = λ c d k n names ws rel h le. tt;
    handling = λ c d rel. handler-around q c.1.0 d rel;
    wait = λ c d k n xs others s t rel near w all le. (
      met-wait (collect_names q) d _ others s (form-kept x xs t 1 others s w.1.0.0.selects) (accepts-kept x c.1.0.types d.types xs t 1 (heads-agreed c d rel (k + 1) xs all) w.1.0.0.twice),
      subst (λ ss. At' (check.numbered d Alternatives 0 ss)) (sym (places-kept x xs t 1)) (numbered-stay c.1.0 d 0 _ w.1.0.1),
    );
    delay = λ c d k n guard s rel near h le. delay-met d n guard s (omega (arith, near, le));
    telling = λ c d k j n s y rel near under h i le.
        let m : j ≤ 50 = i.1.1 in
        telling-met c.1.0 d rel j n s (is_family g.numbers (entry_called g y)) y.args (omega (arith, m, le)) (omega (arith, m, le)) i.0.1 i.1.0;
    head = λ c d k n h rel i le.
        let m : k ≤ 50 = i.1.1 in
        let kept = head-stays q c.1.0 d rel k n h (omega (arith, m, le)) i.0 i.1.0 in (
          kept.0,
          (
            telling-accepted d h kept.1.0,
            all_joined (IsTextMet q) (check.if_there (check.expr_sites d (n + 1)) h.index) _
                (all_front (IsTextMet q) (check.if_there (check.expr_sites d (n + 1)) h.index) (check.names_sites d (check.formal_names h.formals)) kept.1.1)
                (added-declared q d caller_text h.entry.span refl (omega arith), all_back (IsTextMet q) (check.if_there (check.expr_sites d (n + 1)) h.index) (check.names_sites d (check.formal_names h.formals)) kept.1.1),
          ),
        );
    in_accept = λ c d k h rel i. accept-around q x refl c.1.0 d h rel;
    recorder = λ c d k n s rel h le. (met-callee (collect_names q) d (word_at s (added_id q recorder_text)) (rel.recorder s), tt);
    own = λ c d k n s kind rel h few le.
        let small : n ≤ 300 = omega (arith, h, le) in
        notes-met c.1.0 d rel n s kind (own_number x s) 0 (EInteger 0 s) 0 small (met-deep (collect_names q) d n s small, tt) (met-deep (collect_names q) d n s small, tt);
    delayed = λ c d k n xs others t s place rel h w few le.
        let small : n ≤ 300 = omega (arith, h, le) in
        notes-met c.1.0 d rel n s 4 (own_number x s) place (EInteger 0 s) 0 small (met-deep (collect_names q) d n s small, tt) (met-deep (collect_names q) d n s small, tt);
    told = λ c d k j n s kind y rel near under h i few le.
        let small : n ≤ 299 = omega (arith, near, le) in
        let m : j ≤ 50 = i.1.1 in
        let low : k + 1 ≤ j = under.0 in
        notes-met c.1.0 d rel n s kind (own_number x s) (entry_called g y) (member_called x s y) (owner_of g.numbers (entry_called g y)) (omega (arith, small)) (met-deep (collect_names q) d n s (omega (arith, small)), tt)
        (member-met c.1.0 d rel s (entry_called g y) n (lists_called g y).index (omega (arith, small)) (λ p l. called-index c.1.0 d rel j (entry_called g y) y.args i.0.1 i.1.0 p (omega (arith, m, low, l, near, le))));
    failed = λ c d k j n s y rel near under h i le.
        let small : n ≤ 299 = omega (arith, near, le) in
        let m : j ≤ 50 = i.1.1 in
        let low : k + 1 ≤ j = under.0 in
        let again = handler-around q c.1.0 d rel in
        notes-met (check.handling c.1.0) (check.handling d) again n s 7 (own_number x s) (entry_called g y) (member_called x s y) (owner_of g.numbers (entry_called g y)) (omega (arith, small)) (met-deep (collect_names q) (check.handling d) n s (omega (arith, small)), tt)
        (member-met (check.handling c.1.0) (check.handling d) again s (entry_called g y) n (lists_called g y).index (omega (arith, small))
        (λ p l. option-under d (check.handling d) (λ id t e. e) p (lists_called g y).index (called-index c.1.0 d rel j (entry_called g y) y.args i.0.1 i.1.0 p (omega (arith, m, low, l, near, le)))));
    begun = λ c d k n s h rel i le.
        let small : n ≤ 299 = let m : k ≤ 50 = i.1.1 in omega (arith, m, le) in
        let m : k ≤ 50 = i.1.1 in
        let e : ℕ = entry_of g.numbers task h.entry.name in
        let d' : CheckScope = check.in_accept d (head_telling x h) in
        let rel' = accept-around q x refl c.1.0 d h rel in
        notes-met (check.in_accept c.1.0 h) d' rel' n s 1 (EName (added_id q caller_text) s) e (member_number g s e h.index) task (omega (arith, small))
        (met-deep (collect_names q) d' n s (omega (arith, small)), (met-use (collect_names q) d' (added_id q caller_text) s (caller-use d h s), tt))
        (member-met (check.in_accept c.1.0 h) d' rel' s e n h.index (omega (arith, small))
        (λ p l. option-under d d' (accept-under d h) p h.index
        (index-met c.1.0 d rel (k + 1) h.index i.0.1.1 (all_front (IsFormMet q) (check.if_there (check.expr_sites c.1.0 (k + 1)) h.index) (check.names_sites c.1.0 (check.formal_names h.formals)) i.1.0.1.1) p (omega (arith, m, l, le)))));
    part = λ c d k n s w rel h few le. (
      met-deep (collect_names q) d n s (omega (arith, h, le)),
      (met-use (collect_names q) d (added_id q part_text) s (rel.part s), (met-deep (collect_names q) d (n + 1) s (omega (arith, h, le)), tt)),
    );
    came = λ c d k n s rel h le. (
      met-deep (collect_names q) d n s (omega (arith, h, le)),
      (
        met-deep (collect_names q) d (n + 1) s (omega (arith, h, le)),
        (met-use (collect_names q) d (added_id q part_text) s (rel.part s), (met-deep (collect_names q) d (n + 1) s (omega (arith, h, le)), tt)),
      ),
    );
    answered = λ c d k n s rel h le. (met-deep (collect_names q) d n s (omega (arith, h, le)), (met-use (collect_names q) d (added_id q answer_text) s (rel.answer s), tt));
    late = λ c d k n s rel h le. (met-deep (collect_names q) d n s (omega (arith, h, le)), tt);
    watched = λ s l. tt;
    watch = λ c d k n s rel h le. tt;
    others = λ s l. tt;
    no_others = tt;
    other = λ c d k n rel h le. tt;
    null = λ c d k n s rel h le. (met-deep (collect_names q) d n s (omega (arith, h, le)), tt);
    again = λ c d k n s rel h le. (met-deep (collect_names q) (check.handling d) n s (omega (arith, h, le)), (met-raise (collect_names q) (check.handling d) s refl, tt));
  }

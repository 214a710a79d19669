-- Calls with the own task's number in front of their actuals meet the rules in a collecting text.
use Rattle.std.proofs.Common.{◌≡◌, ℕ, suc, ◌==◌, Bool, true, false, not, ◌&&◌, if◌then◌else◌, List, [], ◌∷◌, length, map, flat_map, option_map, unwrap_or, is_none, Option, Some, None, IfSome, refl, sym, ap, subst, ◌∙◌, true≢false, eqb-true, eq-eqb, arith}
use Rattle.common_lemmas.proofs.Lists.{all_back, all_front, all_joined}
use Rattle.common_lemmas.proofs.Numbers.{unequal}
use Rattle.common_lemmas.proofs.Truth.{and_both, both_true}
use Rattle.ada_tree.specs.declared.naming.NameId.{NameId}
use Rattle.ada_tree.specs.declared.naming.Span.{Span}
use Rattle.ada_tree.specs.PlainExpr.{PExpr, EInteger}
use Rattle.ada_tree.specs.PlainStmt.{PCallee, PArgs, PCall}
use Rattle.ada_tree.specs.PlainProgram.{PProgram}
use Rattle.ada_static_rules.specs.Scope.{Scope, FormalPart, Range, Family, single, family, unclear, EntryPart, integer_kind, meaning, entry_named}
use Rattle.ada_static_rules.specs.Demand.{Site}
use Rattle.ada_static_rules.specs.RuleArgCount.{index_of_callee, fits_single, fits_family, fits_call, wrong_call, called_entry}
use Rattle.ada_static_rules.specs.RuleUnknown.{unknown_entry}
use Rattle.ada_static_rules.specs.Sites.{if_there, expr_sites, expr_of, callee_sites, actuals_sites, args_sites}
use Rattle.task_model.specs.Setting.{Setting, is_family, first_expr, lists_in, lists_of}
use Rattle.task_laws.specs.legal.alike_scopes.Alike.{IsSameTask}
use Rattle.task_laws.specs.legal.alike_scopes.Laws.{IsMetBut}
use Rattle.task_laws.proofs.legal.alike_scopes.Calls.{tasks_refuse_same}
use Rattle.normal_laws.proofs.structure.typed.Calls.{fits-told, entry-there, as_family}
use Rattle.normal_laws.proofs.structure.typed.Variables.{AllMetBut}
use Rattle.replay_model.specs.Asking.{member_number}
use Rattle.replay_structure.specs.typed.ScopeOf.{HasLists, IsFamilyOf, IsEntryOf, IsSingle}
use Rattle.replay_structure.proofs.typed.Calls.{AreOldArgs, listed, listed-call, no-index}
use Rattle.replay_structure.proofs.typed.Permits.{member-fit}
use Rattle.replay_structure.proofs.typed.Tests.{IsFit, fit-of, literal-fit}
use Rattle.collect_model.specs.Names.{caller_text, collect_names, added_in}
use Rattle.collect_model.specs.Teller.{Teller}
use Rattle.collect_model.specs.Calling.{entry_called, args_with, call_telling}
use Rattle.collect_structure.specs.typed.Told.{in_number, told_entry, IsToldScope}
use Rattle.collect_structure.proofs.typed.Lists.{args-stay}
use Rattle.collect_structure.proofs.typed.Notes.{take-met, CallMet}

-- ---- entries with a formal more

pub named-told : (q : PProgram) (es : List EntryPart) (id : NameId) (part : EntryPart) → entry_named es id ≡ Some part → entry_named (map (told_entry q) es) id ≡ Some (told_entry q part)
named-told q [] id part h = cc
named-told q (e ∷ es) id part h = by_test (e.name.0 == id.0) refl h (named-told q es id part)
  where
    by_test : (b : Bool) → (e.name.0 == id.0) ≡ b → (if b then Some e else entry_named es id) ≡ Some part → (entry_named es id ≡ Some part → entry_named (map (told_entry q) es) id ≡ Some (told_entry q part)) →
        entry_named (map (told_entry q) (e ∷ es)) id ≡ Some (told_entry q part)
    by_test true f k later = ap (λ b. if b then Some (told_entry q e) else entry_named (map (told_entry q) es) id) f ∙ ap (option_map (told_entry q)) k
    by_test false f k later = ap (λ b. if b then Some (told_entry q e) else entry_named (map (told_entry q) es) id) f ∙ later k

-- ---- lists with an actual more

more-than-none : (n : ℕ) → not (suc n == 0) ≡ true
more-than-none n = ap not (unequal (suc n) 0 (λ e. omega (arith, e)))

none-is : (n : ℕ) → (n == 0) ≡ true → n ≡ 0
none-is n h = eqb-true n 0 h

single-more : (y : PExpr) (args : Option PArgs) (n : ℕ) → fits_single args n ≡ true → fits_single (Some (args_with false y args)) (suc n) ≡ true
single-more y None n h = subst (λ m. fits_single (Some (record { first = y ∷ []; second = None })) (suc m) ≡ true) (sym (none-is n h)) refl
single-more y (Some args) n h =
    let two = and_both (is_none args.second && not (n == 0)) (length args.first == n) h in
    let one = and_both (is_none args.second) (not (n == 0)) two.0 in
    both_true (is_none args.second && not (suc n == 0)) (suc (length args.first) == suc n) (both_true (is_none args.second) (not (suc n == 0)) one.0 (more-than-none n))
    (eq-eqb (suc (length args.first)) (suc n) (ap (λ m. suc m) (eqb-true (length args.first) n two.1)))

family-more : (y : PExpr) (args : Option PArgs) (n : ℕ) → fits_family args n ≡ true → fits_family (Some (args_with true y args)) (suc n) ≡ true
family-more y None n h = absurd (true≢false (sym h))
family-more y (Some args) n h = by_second args.second h
  where
    by_second : (o : Option (List PExpr)) → fits_family (Some (record { first = args.first; second = o })) n ≡ true → fits_family (Some (record { first = args.first; second = Some (y ∷ unwrap_or o []) })) (suc n) ≡ true
    by_second None k =
        let two = and_both (length args.first == 1) (n == 0) k in
        both_true (length args.first == 1) (not (suc n == 0) && (1 == suc n)) two.0 (both_true (not (suc n == 0)) (1 == suc n) (more-than-none n) (eq-eqb 1 (suc n) (ap (λ m. suc m) (sym (none-is n two.1)))))
    by_second (Some es) k =
        let two = and_both (length args.first == 1) (not (n == 0) && (length es == n)) k in
        let one = and_both (not (n == 0)) (length es == n) two.1 in
        both_true (length args.first == 1) (not (suc n == 0) && (suc (length es) == suc n)) two.0
        (both_true (not (suc n == 0)) (suc (length es) == suc n) (more-than-none n) (eq-eqb (suc (length es)) (suc n) (ap (λ m. suc m) (eqb-true (length es) n one.1))))

module _ (g : Setting) (inner : ℕ → Bool) (q : PProgram) (d : Scope) (e : ℕ) (y : PExpr) (fit : IsFit d integer_kind y) (fs : List FormalPart) where
  fits-more : (f : Family) → IsEntryOf g inner d e f → (args : Option PArgs) (n : ℕ) → fits_call f args n ≡ true → fits_call f (Some (args_with (is_family g.numbers e) y args)) (suc n) ≡ true
  fits-more single i args n h = subst (λ b. fits_single (Some (args_with b y args)) (suc n) ≡ true) (sym i) (single-more y args n h)
  fits-more (family range) i args n h = subst (λ b. fits_family (Some (args_with b y args)) (suc n) ≡ true) (sym i.flag) (family-more y args n h)
  fits-more unclear i args n h = absurd i

  abbrev more : List FormalPart
  more = in_number q caller_text ∷ fs

  single-lists : (args : Option PArgs) → AllMetBut (if_there (args_sites d (Some (listed single fs))) args) → AllMetBut (args_sites d (Some (listed single more)) (args_with false y args))
  single-lists None m = all_joined IsMetBut (actuals_sites d more (y ∷ [])) [] (take-met d integer_kind y [] fit tt) tt
  single-lists (Some args) m =
      let behind : List Site = if_there (flat_map (expr_sites d)) args.second in
      all_joined IsMetBut (actuals_sites d more (y ∷ args.first)) behind (take-met d integer_kind y (actuals_sites d fs args.first) fit (all_front IsMetBut (actuals_sites d fs args.first) behind m))
      (all_back IsMetBut (actuals_sites d fs args.first) behind m)

  family-lists : (range : Range) (args : Option PArgs) (n : ℕ) → fits_family args n ≡ true → AllMetBut (if_there (args_sites d (Some (listed (family range) fs))) args) →
      AllMetBut (args_sites d (Some (listed (family range) more)) (args_with true y args))
  family-lists range None n h m = absurd (true≢false (sym h))
  family-lists range (Some args) n h m =
      let front : List Site = flat_map (expr_of d (Some range.kind)) args.first in
      all_joined IsMetBut front (actuals_sites d more (y ∷ unwrap_or args.second [])) (all_front IsMetBut front (if_there (actuals_sites d fs) args.second) m) (by_second args.second (all_back IsMetBut front (if_there (actuals_sites d fs) args.second) m))
    where
      by_second : (o : Option (List PExpr)) → AllMetBut (if_there (actuals_sites d fs) o) → AllMetBut (actuals_sites d more (y ∷ unwrap_or o []))
      by_second None k = take-met d integer_kind y [] fit tt
      by_second (Some es) k = take-met d integer_kind y (actuals_sites d fs es) fit k

  lists-more : (f : Family) → IsEntryOf g inner d e f → (args : Option PArgs) (n : ℕ) → fits_call f args n ≡ true → AllMetBut (if_there (args_sites d (Some (listed f fs))) args) →
      AllMetBut (args_sites d (Some (listed f more)) (args_with (is_family g.numbers e) y args))
  lists-more single i args n h m = subst (λ b. AllMetBut (args_sites d (Some (listed single more)) (args_with b y args))) (sym i) (single-lists args m)
  lists-more (family range) i args n h m = subst (λ b. AllMetBut (args_sites d (Some (listed (family range) more)) (args_with b y args))) (sym i.flag) (family-lists range args n h m)
  lists-more unclear i args n h m = absurd i

-- ---- calls of a unit

module _ (g : Setting) (task : ℕ) (old inner : ℕ → Bool) (c d : Scope) (rel : IsToldScope (record { setting = g; task = task }) old inner c d) where
  abbrev q : PProgram
  q = g.program

  -- what the unit is told
  abbrev pub x : Teller
  x = record { added = added_in (collect_names q); member = λ e s i. member_number g s e i; numbers = g.numbers; task = task }

  -- no name of an entry is compared
  same-task : (id : NameId) → old id.0 ≡ true → IsSingle (meaning c id) → IsSameTask (λ n. false) (meaning c id) (meaning d id)
  same-task id o h = record { left = h.0; right = map (told_entry q) h.0; left_means = h.1; right_means = rel.tasks id h.0 o h.1; entries = λ i e. absurd (true≢false (sym e)) }

  pub callee-stays : (y : PCallee) → old y.name.name.0 ≡ true → IsSingle (meaning c y.name.name) → AllMetBut (callee_sites c y) → AllMetBut (callee_sites d y)
  callee-stays y o h m = (
    tasks_refuse_same (λ n. false) c d y (same-task y.name.name o h) m.0,
    no-index d y.index y.name.span (sym (ap (λ t. index_of_callee t y.index y.name.span) h.1) ∙ m.0.counted),
  )

  module _ (y : PCall) (named-old : old y.task.name.name.0 ≡ true) (h : IsSingle (meaning c y.task.name.name)) (os : IfSome y.args (AreOldArgs old)) (m : CallMet c y) where
    -- the entry that is called
    abbrev found : (part : EntryPart) × (entry_named h.0 y.entry.name ≡ Some part)
    found = entry-there (entry_named h.0 y.entry.name) y.entry (sym (ap (λ t. unknown_entry t y.entry) h.1) ∙ m.0.known)

    abbrev part : EntryPart
    part = found.0

    called-here : called_entry (meaning c y.task.name.name) y.entry.name ≡ Some part
    called-here = ap (λ t. called_entry t y.entry.name) h.1 ∙ found.1

    lists-there : AllMetBut (if_there (args_sites d (Some part)) y.args)
    lists-there = args-stay old c d rel.names part y.args os (subst (λ p. AllMetBut (if_there (args_sites c p) y.args)) called-here m.1)

    fits : fits_call part.family y.args (length part.formals) ≡ true
    fits = fits-told (fits_call part.family y.args (length part.formals)) y.entry.span (sym (ap (λ p. wrong_call p y.args y.entry.span) called-here) ∙ m.0.counted)

    flagged : IsEntryOf g inner d (entry_called x y) part.family
    flagged = rel.called y.task.name.name y.entry.name part called-here

    nameless : (p : Option PArgs) → AllMetBut (if_there (args_sites d (Some part)) p) → AllMetBut (if_there (args_sites d (Some (listed part.family part.formals))) p)
    nameless None i = tt
    nameless (Some args) i = by_members part.family args i
      where
        by_members : (fam : Family) (args : PArgs) → AllMetBut (args_sites d (Some (as_family part fam)) args) → AllMetBut (args_sites d (Some (listed fam part.formals)) args)
        by_members single args i = i
        by_members (family range) args i = i
        by_members unclear args i = i

    -- the call with the own task's number
    pub telling-met : (s : Span) → CallMet d (call_telling x s y)
    telling-met s =
        let own : PExpr = EInteger task s in
        let entry : HasLists (entry_named (map (told_entry q) h.0) y.entry.name) part.family (in_number q caller_text ∷ part.formals) = record { its = told_entry q part; is = named-told q h.0 y.entry.name part found.1; members_are = refl; formals_are = refl } in
        listed-call d (call_telling x s y) (map (told_entry q) h.0) part.family (in_number q caller_text ∷ part.formals) (rel.tasks y.task.name.name h.0 named-old h.1) entry
        (fits-more g inner q d (entry_called x y) own (literal-fit d task s) part.formals part.family flagged y.args (length part.formals) fits)
        (lists-more g inner q d (entry_called x y) own (literal-fit d task s) part.formals part.family flagged y.args (length part.formals) fits (nameless y.args lists-there))

    -- the index of the call as a number
    pub index-fit : (s : Span) → IsFit d integer_kind (member_number g s (entry_called x y) (lists_of g.numbers (entry_called x y) y.args).index)
    index-fit s = by_family part.family flagged y.args lists-there
      where
        e : ℕ
        e = entry_called x y

        first-fit : (k : ℕ) (es : List PExpr) → IsFamilyOf g inner d e k → AllMetBut (flat_map (expr_of d (Some k)) es) → IsFit d integer_kind (member_number g s e (first_expr es))
        first-fit k [] i n = literal-fit d 0 s
        first-fit k (z ∷ es) i n = member-fit g inner d s e k z i (fit-of d k z (all_front IsMetBut (expr_of d (Some k) z) _ n))

        by_family : (fam : Family) → IsEntryOf g inner d e fam → (p : Option PArgs) → AllMetBut (if_there (args_sites d (Some (as_family part fam))) p) → IsFit d integer_kind (member_number g s e (lists_of g.numbers e p).index)
        by_family fam i None n = literal-fit d 0 s
        by_family single i (Some args) n = subst (λ b. IsFit d integer_kind (member_number g s e (lists_in b args).index)) (sym i) (literal-fit d 0 s)
        by_family (family range) i (Some args) n = by_number (is_family g.numbers e)
          where
            by_number : (b : Bool) → IsFit d integer_kind (member_number g s e (lists_in b args).index)
            by_number false = literal-fit d 0 s
            by_number true = first-fit range.kind args.first i (all_front IsMetBut (flat_map (expr_of d (Some range.kind)) args.first) _ n)
        by_family unclear i (Some args) n = absurd i

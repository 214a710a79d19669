-- The collecting text of a legal program in which abort statements can stand is well placed: each selective wait of its normal form has a branch, since rule SelectForm refuses none.
use Rattle.std.proofs.Common.{◌≡◌, ℕ, ◌≤◌, ◌==◌, ◌||◌, nat_lt, Bool, true, false, cond, if◌then◌else◌, List, [], ◌∷◌, count_by, refl, arith}
use Rattle.std.specs.List.{AllByRecursion}
use Rattle.std.proofs.lemmas.Bool.Decides.{nat_tests}
use Rattle.std.proofs.lemmas.List.Sums.{sum_by-cons}
use Rattle.common_lemmas.proofs.Lists.{all_first, all_second, all_back}
use Rattle.ada_tree.specs.declared.naming.Span.{Span}
use Rattle.ada_tree.specs.PlainStmt.{AAccept, ADelay, ATerminate, alternative, PAlts, no_alt, alt_then, PBody}
use Rattle.ada_tree.specs.PlainDecl.{PDecl, DNumber, DObject, DEnumeration, DArray, DSubtype, DException, DIntIo, DPragma, DTask, DTaskBody}
use Rattle.ada_tree.specs.PlainProgram.{PProgram}
use Rattle.syn_event.specs.declared.numbering.Mode.TheVariants.{Any}
use Rattle.syn_event.specs.CheckScope.{CheckScope, CheckSite}
use Rattle.syn_event.specs.CheckSites as check
use Rattle.syn_event.specs.CheckRefusals.{MeetsCheckRules}
use Rattle.syn_event.specs.DeclaredTasks.{decl_list}
use Rattle.syn_event.specs.RuleSelectForm.{alt_kinds, is_accept, is_terminate, kinds_count, is_malformed}
use Rattle.task_laws.specs.legal.asked.Asked.{AskedBody}
use Rattle.task_laws.specs.legal.asked.Kinds.{check_asks}
use Rattle.task_laws.specs.legal.sites.Met.{IsCheckMet}
use Rattle.task_laws.proofs.legal.asked.Checked.{checked_asked}
use Rattle.task_laws.proofs.legal.sites.Meeting.{all_check_met}
use Rattle.normal_laws.specs.existence.Laws.{IsLegalOriginal}
use Rattle.normal_laws.proofs.legality.asked.Steps.{Steps, steps_asked}
use Rattle.normal_laws.proofs.legality.checks.Joined.{normal_meets_checks}
use Rattle.replay_structure.specs.checkable.Prepared.{form_for}
use Rattle.replay_structure.proofs.checked.Lists.{AllAlong, along-listed}
use Rattle.collect_structure.proofs.legal.Placed.{legal_is_placeable}
use Rattle.collect_structure.specs.aborts.Laws.{AbortIsPlaced}
use Rattle.collect_structure.specs.aborts.asked.Pieces.{branches_count}
use Rattle.collect_structure.specs.aborts.placed.Placeable.{branch_asks, BranchesDecl, IsAbortPlaceable}
use Rattle.collect_structure.proofs.aborts.placed.Declared.{abort_is_placed}

-- ---- branches

-- each accept has one
accepts-few : (xs : PAlts) (others : Bool) → count_by is_accept (alt_kinds xs) ≤ branches_count xs others
accepts-few no_alt others = omega arith
accepts-few (alt_then (alternative g (AAccept a l) s) rest) others =
    let e = sum_by-cons (λ z. cond (is_accept z) 1 0) (AAccept a l) (alt_kinds rest) in
    let f = accepts-few rest others in
    omega (arith, e, f)
accepts-few (alt_then (alternative g (ADelay d l) s) rest) others =
    let e = sum_by-cons (λ z. cond (is_accept z) 1 0) (ADelay d l) (alt_kinds rest) in
    let f = accepts-few rest others in
    omega (arith, e, f)
accepts-few (alt_then (alternative g ATerminate s) rest) others =
    let e = sum_by-cons (λ z. cond (is_accept z) 1 0) ATerminate (alt_kinds rest) in
    let f = accepts-few rest others in
    omega (arith, e, f)

-- a wait of the right form has a branch
branched : (xs : PAlts) (others : Bool) (s : Span) → (if is_malformed (alt_kinds xs) others then s ∷ [] else []) ≡ [] → 1 ≤ branches_count xs others
branched xs others s h = by_test (count_by is_accept (alt_kinds xs) == 0) refl h
  where
    by_test : (b : Bool) → (count_by is_accept (alt_kinds xs) == 0) ≡ b →
        (if (b || nat_lt 1 (count_by is_terminate (alt_kinds xs)) || nat_lt 1 (kinds_count (alt_kinds xs) others)) then s ∷ [] else []) ≡ [] → 1 ≤ branches_count xs others
    by_test true e f = cc
    by_test false e f =
        let some : 1 ≤ count_by is_accept (alt_kinds xs) = grind (arith, nat_tests, e) in
        omega (arith, some, accepts-few xs others)

-- ---- bodies

module _ (names : List (List ℕ)) where
  abbrev M : CheckSite → Type 0
  M = IsCheckMet Any names

  steps : Steps (check_asks M) branch_asks (λ c d. Prim.Unit {0})
  steps = record {
    outer = λ c d k s r h. tt;
    many = λ n h. tt;
    duration = λ n h. tt;
    plain = λ c d k x r h. tt;
    callee = λ c d k x r h. tt;
    call = λ c d k x r h i. tt;
    aborts = λ c d k xs r h i. tt;
    aborted = λ c d k xs r h i. nothing xs;
    condition = λ c d k e r h. tt;
    selector = λ c d k e xs others s r h. tt;
    choices = λ c d k e xs r h. tt;
    loop = λ c d k w x r h. tt;
    looping = λ c d k w x r h. tt;
    head = λ c d k h r i. tt;
    accepting = λ c d k h r i. tt;
    wait = λ c d k x others s r h. branched x others s h.0.selects;
    delay = λ c d k guard s r h. tt;
    handlers = λ hs h. tt;
    handler = λ c d k names ws r h. tt;
    handling = λ c d r. tt;
  }
    where
      nothing : {A : Type 0} (xs : List A) → AllByRecursion (λ (x : A). Prim.Unit {0}) xs
      nothing [] = tt
      nothing (x ∷ xs) = (tt, nothing xs)

  body-branches : (c : CheckScope) (its : PBody) → AllByRecursion M (check.body_sites c 1 its) → AskedBody branch_asks tt 1 its
  body-branches c its h = steps_asked (check_asks M) branch_asks (λ c d. Prim.Unit {0}) steps c tt 1 its tt (checked_asked M c 1 its h)

  bodies-branch : (ids : List ℕ) (ds : List PDecl) (c : CheckScope) → AllAlong M ids c ds → AllByRecursion BranchesDecl ds
  bodies-branch ids [] c h = tt
  bodies-branch ids (DTaskBody w objects its s ∷ ds) c h =
      (body-branches _ its (all_back M (check.own_sites (check.in_body c w) objects) (check.body_sites (check.after_own (check.in_body c w) objects) 1 its) h.0), bodies-branch ids ds _ h.1)
  bodies-branch ids (DTask t s ∷ ds) c h = (tt, bodies-branch ids ds _ h.1)
  bodies-branch ids (DNumber w e s ∷ ds) c h = (tt, bodies-branch ids ds _ h.1)
  bodies-branch ids (DObject ws k x i s ∷ ds) c h = (tt, bodies-branch ids ds _ h.1)
  bodies-branch ids (DEnumeration w ws s ∷ ds) c h = (tt, bodies-branch ids ds _ h.1)
  bodies-branch ids (DArray w r x s ∷ ds) c h = (tt, bodies-branch ids ds _ h.1)
  bodies-branch ids (DSubtype w x s ∷ ds) c h = (tt, bodies-branch ids ds _ h.1)
  bodies-branch ids (DException ws s ∷ ds) c h = (tt, bodies-branch ids ds _ h.1)
  bodies-branch ids (DIntIo w s ∷ ds) c h = (tt, bodies-branch ids ds _ h.1)
  bodies-branch ids (DPragma e s ∷ ds) c h = (tt, bodies-branch ids ds _ h.1)

-- ---- the whole

module _ (p : PProgram) (h : IsLegalOriginal p) where
  abbrev q : PProgram
  q = (form_for p).program

  abbrev P : CheckSite → Type 0
  P = IsCheckMet Any q.names

  abbrev c0 : CheckScope
  c0 = check.around_program q

  meets : MeetsCheckRules q Any
  meets = normal_meets_checks p h

  met : AllByRecursion P (check.decls_sites c0 (check.body_names q.decls) q.decls) × AllByRecursion P (check.body_sites (check.after_decls c0 q.decls) 1 q.body)
  met =
      let all = all_check_met q Any meets in (
        all_first P (check.decls_sites c0 (check.body_names q.decls) q.decls) (check.body_sites (check.after_decls c0 q.decls) 1 q.body) (check.counted_sites c0 q) all.1,
        all_second P (check.decls_sites c0 (check.body_names q.decls) q.decls) (check.body_sites (check.after_decls c0 q.decls) 1 q.body) (check.counted_sites c0 q) all.1,
      )

  -- The normal form is as asked.
  pub legal_is_abort_placeable : IsAbortPlaceable (form_for p)
  legal_is_abort_placeable = record {
    told = legal_is_placeable p h;
    main = body-branches q.names (check.after_decls c0 q.decls) q.body met.1;
    decls = bodies-branch q.names (check.body_names q.decls) (decl_list q.decls) c0 (along-listed P (check.body_names q.decls) q.decls c0 met.0);
  }

pub legal_abort_is_placed : AbortIsPlaced
legal_abort_is_placed p h = abort_is_placed (form_for p) (legal_is_abort_placeable p h)

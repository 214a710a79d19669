-- The replay text of a normal form that meets the rules 13 to 23 and is as asked meets them.
use Rattle.std.proofs.Common.{◌≡◌, ℕ, ◌+◌, ◌*◌, ◌≤◌, ◌==◌, ◌||◌, Bool, true, false, cond, List, [], ◌∷◌, ◌++◌, length, map, Some, None, option_map, refl, sym, ap, ap₂, subst, ◌∙◌, length-append, arith}
use Rattle.std.specs.List.{AllByRecursion, list_any, filter}
use Rattle.std.proofs.lemmas.Bool.{or_left, or_right}
use Rattle.std.proofs.lemmas.List.{length-map}
use Rattle.common_lemmas.proofs.Lists.{all_joined, all_kept, all_three, all_first, all_second}
use Rattle.common_lemmas.proofs.Numbers.{equal_self}
use Rattle.ada_tree.specs.declared.naming.Span.{Span}
use Rattle.ada_tree.specs.Attributes.{false_name}
use Rattle.ada_tree.specs.PlainDecl.{PTask, PDecl, DNumber, DObject, DEnumeration, DArray, DSubtype, DException, DIntIo, DPragma, DTask, DTaskBody}
use Rattle.ada_tree.specs.PlainProgram.{PProgram}
use Rattle.ada_tree.specs.Every.{EveryDecl}
use Rattle.ada_static_rules.specs.Refusals.{types_in}
use Rattle.syn_event.specs.declared.numbering.Mode.TheVariants.{Any}
use Rattle.syn_event.specs.declared.meanings.Meant.{Meant}
use Rattle.syn_event.specs.declared.meanings.Meant.TheVariants.{MainProcedure}
use Rattle.syn_event.specs.CheckRefusals.{MeetsCheckRules}
use Rattle.syn_event.specs.CheckScope.{CheckScope, CheckSite}
use Rattle.syn_event.specs.CheckSites as check
use Rattle.syn_event.specs.RuleSharedVariable.{shared_name}
use Rattle.syn_event.specs.DeclaredTasks.{decl_list, tasks_in, tasks_of}
use Rattle.task_laws.proofs.legal.sites.Meeting.{all_check_met}
use Rattle.task_model.specs.Setting.{Setting}
use Rattle.control_script.specs.declared.Op.{Op}
use Rattle.normal_model.specs.NormalTree.{main_unit}
use Rattle.normal_laws.proofs.structure.numbers.Listed.{IsOneTask, IsOneBody}
use Rattle.normal_laws.proofs.structure.checked.Joined.{meets-checks}
use Rattle.replay_model.specs.Names.{control_text, idle_text, replay_names, added_id}
use Rattle.replay_model.specs.ReplayTree.{behind_own, permit_declared, replay_decl, is_task, is_body, last_task, replay_decls, replay_of}
use Rattle.replay_model.specs.Controlling.{control_declared, idle_declared, control_body, idle_body}
use Rattle.replay_structure.proofs.texts.Listed.{all-behind, more_task, sorted-plain, added_tasks, replay-tasks}
use Rattle.replay_structure.specs.checked.Around.{kept_names}
use Rattle.normal_laws.specs.structure.numbers.Single.{IsSingle}
use Rattle.replay_structure.specs.checked.Checkable.{is_plain, IsOtherThanTruth, HasForm, IsSameDecl, entries_count, IsShortEntry, IsCheckable}
use Rattle.replay_structure.specs.checked.Laws.{ReplayMeetsChecks}
use Rattle.replay_structure.proofs.checked.Names.{IsDoubled, doubles-named}
use Rattle.replay_structure.proofs.checked.Stays.{IsFormMet, IsTextMet, name-stays}
use Rattle.replay_structure.proofs.checked.Lists.{after_all, after-listed, after-of, after-joined, AllAlong, along-listed, along-of, along-join, along-front, along-back}
use Rattle.replay_structure.proofs.checked.Tasks.{control-met as control-declared-met, idle-met as idle-declared-met}
use Rattle.replay_structure.proofs.checked.Bodies.{AreBehindTasks, main-around}
use Rattle.replay_structure.proofs.checked.Before.{AreBefore, behind_added, added-frame, added-behind}
use Rattle.replay_structure.proofs.checked.Control.{control-met, idle-met}
use Rattle.replay_structure.proofs.checked.Counted.{counted-met, entries-joined, entries-doubled}
use Rattle.replay_structure.proofs.checked.Named.{ids-listed, ids-of, plain-ids, task-ids, body-ids-same, any-front, any-back}
use Rattle.replay_structure.proofs.checked.Along.{OnTask, on-tasks, HasAlong, front-along, tasks-along, unit-met, bodies-along}
use Rattle.normal_laws.proofs.structure.checked.MainScopes.{frame-refl}
use Rattle.normal_laws.proofs.legality.declares_once.Bodies.{ids-joined, body_ids}

-- ---- lists

pub one-tasks : (xs : List PDecl) → AllByRecursion IsSingle xs → AllByRecursion IsOneTask (filter is_task xs)
one-tasks [] h = tt
one-tasks (DTask t s ∷ xs) h = (h.0, one-tasks xs h.1)
one-tasks (DTaskBody w objects its s ∷ xs) h = one-tasks xs h.1
one-tasks (DNumber w e s ∷ xs) h = one-tasks xs h.1
one-tasks (DObject ws c x i s ∷ xs) h = one-tasks xs h.1
one-tasks (DEnumeration w ws s ∷ xs) h = one-tasks xs h.1
one-tasks (DArray w r x s ∷ xs) h = one-tasks xs h.1
one-tasks (DSubtype w x s ∷ xs) h = one-tasks xs h.1
one-tasks (DException ws s ∷ xs) h = one-tasks xs h.1
one-tasks (DIntIo w s ∷ xs) h = one-tasks xs h.1
one-tasks (DPragma e s ∷ xs) h = one-tasks xs h.1

pub one-bodies : (xs : List PDecl) → AllByRecursion IsOneBody (filter is_body xs)
one-bodies [] = tt
one-bodies (DTaskBody w objects its s ∷ xs) = (tt, one-bodies xs)
one-bodies (DTask t s ∷ xs) = one-bodies xs
one-bodies (DNumber w e s ∷ xs) = one-bodies xs
one-bodies (DObject ws c x i s ∷ xs) = one-bodies xs
one-bodies (DEnumeration w ws s ∷ xs) = one-bodies xs
one-bodies (DArray w r x s ∷ xs) = one-bodies xs
one-bodies (DSubtype w x s ∷ xs) = one-bodies xs
one-bodies (DException ws s ∷ xs) = one-bodies xs
one-bodies (DIntIo w s ∷ xs) = one-bodies xs
one-bodies (DPragma e s ∷ xs) = one-bodies xs

-- bodies leave what stands around as it is
pub bodies-same : (c : CheckScope) (xs : List PDecl) → AllByRecursion IsOneBody xs → after_all c xs ≡ c
bodies-same c [] h = refl
bodies-same c (DTaskBody w objects its s ∷ xs) h = bodies-same c xs h.1
bodies-same c (DTask t s ∷ xs) h = absurd h.0
bodies-same c (DNumber w e s ∷ xs) h = absurd h.0
bodies-same c (DObject ws k x i s ∷ xs) h = absurd h.0
bodies-same c (DEnumeration w ws s ∷ xs) h = absurd h.0
bodies-same c (DArray w r x s ∷ xs) h = absurd h.0
bodies-same c (DSubtype w x s ∷ xs) h = absurd h.0
bodies-same c (DException ws s ∷ xs) h = absurd h.0
bodies-same c (DIntIo w s ∷ xs) h = absurd h.0
bodies-same c (DPragma e s ∷ xs) h = absurd h.0

-- a rewritten task is a single one, and a rewritten body a body
singles-mapped : (g : Setting) (xs : List PDecl) → AllByRecursion IsSingle xs → AllByRecursion IsSingle (map (replay_decl g) xs)
singles-mapped g [] h = tt
singles-mapped g (DTask t s ∷ xs) h = (h.0, singles-mapped g xs h.1)
singles-mapped g (DTaskBody w objects its s ∷ xs) h = (tt, singles-mapped g xs h.1)
singles-mapped g (DNumber w e s ∷ xs) h = (tt, singles-mapped g xs h.1)
singles-mapped g (DObject ws c x i s ∷ xs) h = (tt, singles-mapped g xs h.1)
singles-mapped g (DEnumeration w ws s ∷ xs) h = (tt, singles-mapped g xs h.1)
singles-mapped g (DArray w r x s ∷ xs) h = (tt, singles-mapped g xs h.1)
singles-mapped g (DSubtype w x s ∷ xs) h = (tt, singles-mapped g xs h.1)
singles-mapped g (DException ws s ∷ xs) h = (tt, singles-mapped g xs h.1)
singles-mapped g (DIntIo w s ∷ xs) h = (tt, singles-mapped g xs h.1)
singles-mapped g (DPragma e s ∷ xs) h = (tt, singles-mapped g xs h.1)

pub bodies-mapped : (g : Setting) (xs : List PDecl) → AllByRecursion IsOneBody xs → AllByRecursion IsOneBody (map (replay_decl g) xs)
bodies-mapped g [] h = tt
bodies-mapped g (DTaskBody w objects its s ∷ xs) h = (tt, bodies-mapped g xs h.1)
bodies-mapped g (DTask t s ∷ xs) h = absurd h.0
bodies-mapped g (DNumber w e s ∷ xs) h = absurd h.0
bodies-mapped g (DObject ws c x i s ∷ xs) h = absurd h.0
bodies-mapped g (DEnumeration w ws s ∷ xs) h = absurd h.0
bodies-mapped g (DArray w r x s ∷ xs) h = absurd h.0
bodies-mapped g (DSubtype w x s ∷ xs) h = absurd h.0
bodies-mapped g (DException ws s ∷ xs) h = absurd h.0
bodies-mapped g (DIntIo w s ∷ xs) h = absurd h.0
bodies-mapped g (DPragma e s ∷ xs) h = absurd h.0

-- ---- the text

module _ (g : Setting) (ops : List Op) (h : IsCheckable g ops) where
  abbrev q : PProgram
  q = g.program

  abbrev p : PProgram
  p = replay_of g ops

  abbrev s : Span
  s = q.name.span

  abbrev n : ℕ
  n = last_task g.numbers

  abbrev all : List PDecl
  all = decl_list q.decls

  abbrev plain : List PDecl
  plain = filter is_plain all

  abbrev tasks : List PDecl
  tasks = filter is_task all

  abbrev bodies : List PDecl
  bodies = filter is_body all

  abbrev front : List PDecl
  front = behind_own q.names (permit_declared q s) plain

  abbrev tasks' : List PDecl
  tasks' = map (replay_decl g) tasks

  abbrev added : List PDecl
  added = control_declared q s n ∷ idle_declared q s ∷ []

  abbrev bodies' : List PDecl
  bodies' = map (replay_decl g) bodies

  abbrev last : List PDecl
  last = control_body g s ops ∷ idle_body q s ∷ []

  abbrev c0 : CheckScope
  c0 = check.around_program q

  abbrev d0 : CheckScope
  d0 = check.around_program p

  abbrev c1 : CheckScope
  c1 = after_all c0 plain

  abbrev c2 : CheckScope
  c2 = after_all c1 tasks

  abbrev d1 : CheckScope
  d1 = after_all d0 front

  abbrev d2 : CheckScope
  d2 = after_all d1 tasks'

  abbrev d3 : CheckScope
  d3 = behind_added q s n d2

  -- ---- what stands around

  start : AreBefore q c0 d0 c0 d0
  start = record { alike = λ id o. refl; left = frame-refl c0; right = frame-refl d0; units = tt; truth = λ t. go t (q.name.name.0 == false_name); plain = (refl, tt) }
    where
      go : (t : Span) (b : Bool) → shared_name (option_map (λ (k : ℕ × Meant). k.1) (cond b (Some (q.name.name.0, MainProcedure)) None)) t ≡ []
      go t true = refl
      go t false = refl

  form-around : check.after_decls c0 q.decls ≡ c2
  form-around =
      after-listed q.decls c0 ∙ ap (after_all c0) h.sorted ∙ after-joined (plain ++ tasks) bodies c0 ∙ ap (λ c. after_all c bodies) (after-joined plain tasks c0) ∙ bodies-same c2 bodies (one-bodies all)

  text-around : check.after_decls d0 p.decls ≡ d3
  text-around =
      after-of (replay_decls g s ops) d0
      ∙ after-joined (front ++ tasks' ++ added ++ bodies') last d0
      ∙ after-joined (front ++ tasks' ++ added) bodies' d0
      ∙ ap (λ d. after_all d bodies') (after-joined (front ++ tasks') added d0 ∙ ap (λ d. after_all d added) (after-joined front tasks' d0))
      ∙ bodies-same d3 bodies' (bodies-mapped g bodies (one-bodies all))

  -- ---- the names of bodies

  form-ids : check.body_names q.decls ≡ body_ids bodies
  form-ids =
      ids-listed q.decls ∙ ap body_ids h.sorted ∙ ids-joined (plain ++ tasks) bodies
      ∙ ap (λ l. l ++ body_ids bodies) (ids-joined plain tasks ∙ ap₂ (λ (a b : List ℕ). a ++ b) (plain-ids plain (sorted-plain all)) (task-ids tasks (one-tasks all h.single)))

  there : (k : ℕ) → list_any (λ i. i == k) (check.body_names q.decls) ≡ true → list_any (λ i. i == k) (check.body_names p.decls) ≡ true
  there k i =
      ap (list_any (λ j. j == k)) (ids-of (replay_decls g s ops))
      ∙ any-front k (front ++ tasks' ++ added ++ bodies') last
      (any-back k (front ++ tasks' ++ added) bodies' (ap (list_any (λ j. j == k)) (body-ids-same g bodies (one-bodies all)) ∙ sym (ap (list_any (λ j. j == k)) form-ids) ∙ i))

  control-there : list_any (λ i. i == (added_id q control_text).0) (check.body_names p.decls) ≡ true
  control-there =
      ap (list_any (λ j. j == (added_id q control_text).0)) (ids-of (replay_decls g s ops))
      ∙ any-back (added_id q control_text).0 (front ++ tasks' ++ added ++ bodies') last
      (or_left ((added_id q control_text).0 == (added_id q control_text).0) (list_any (λ j. j == (added_id q control_text).0) ((added_id q idle_text).0 ∷ [])) (equal_self (added_id q control_text).0))

  idle-there : list_any (λ i. i == (added_id q idle_text).0) (check.body_names p.decls) ≡ true
  idle-there =
      ap (list_any (λ j. j == (added_id q idle_text).0)) (ids-of (replay_decls g s ops))
      ∙ any-back (added_id q idle_text).0 (front ++ tasks' ++ added ++ bodies') last
      (or_right ((added_id q control_text).0 == (added_id q idle_text).0) (((added_id q idle_text).0 == (added_id q idle_text).0) || false) (ap (λ t. t || false) (equal_self (added_id q idle_text).0)))

  -- ---- counts

  text-tasks : tasks_in (replay_decls g s ops) ≡ map (more_task q) (tasks_of q) ++ added_tasks q s n
  text-tasks = replay-tasks g s ops

  few-tasks : length (tasks_in (replay_decls g s ops)) ≤ 202
  few-tasks =
      let e : length (tasks_in (replay_decls g s ops)) ≡ length (map (more_task q) (tasks_of q)) + 2 = ap (λ (l : List PTask). length l) text-tasks ∙ length-append (map (more_task q) (tasks_of q)) (added_tasks q s n) in
      let f : length (map (more_task q) (tasks_of q)) ≡ length (tasks_of q) = length-map (tasks_of q) (more_task q) in
      let few : length (tasks_of q) ≤ 200 = h.few_tasks in
      omega (arith, e, f, few)

  few-entries : entries_count (tasks_in (replay_decls g s ops)) ≤ 2600
  few-entries =
      let e : entries_count (tasks_in (replay_decls g s ops)) ≡ entries_count (map (more_task q) (tasks_of q)) + 5 = ap entries_count text-tasks ∙ entries-joined (map (more_task q) (tasks_of q)) (added_tasks q s n) in
      let f : entries_count (map (more_task q) (tasks_of q)) ≡ 2 * entries_count (tasks_of q) + 2 * length (tasks_of q) = entries-doubled q (tasks_of q) in
      let few : length (tasks_of q) ≤ 200 = h.few_tasks in
      let less : entries_count (tasks_of q) ≤ 1000 = h.few_entries in
      omega (arith, e, f, few, less)

  text-single : AllByRecursion IsSingle (replay_decls g s ops)
  text-single =
      all_joined IsSingle (front ++ tasks' ++ added ++ bodies') last
      (all_joined IsSingle (front ++ tasks' ++ added) bodies'
      (all_joined IsSingle (front ++ tasks') added
      (all_joined IsSingle front tasks' (all-behind IsSingle q.names (permit_declared q s) plain tt (all_kept IsSingle is_plain all h.single)) (singles-mapped g tasks (all_kept IsSingle is_task all h.single)))
      (refl, (refl, tt)))
      (singles-mapped g bodies (all_kept IsSingle is_body all h.single)))
      (tt, (tt, tt))

  -- ---- places

  module _ (m : MeetsCheckRules q Any) where
    abbrev M : CheckSite → Type 0
    M = IsFormMet q

    abbrev M' : CheckSite → Type 0
    M' = IsTextMet q

    met : AllByRecursion M (check.check_sites q)
    met = all_check_met q Any m

    decls-met : AllAlong M (check.body_names q.decls) c0 (plain ++ tasks ++ bodies)
    decls-met =
        subst (AllAlong M (check.body_names q.decls) c0) h.sorted
        (along-listed M (check.body_names q.decls) q.decls c0 (all_first M (check.decls_sites c0 (check.body_names q.decls) q.decls) (check.body_sites (check.after_decls c0 q.decls) 1 q.body) (check.counted_sites c0 q) met.1))

    plain-met : HasAlong g c0 d0 refl refl (check.body_names q.decls) (check.body_names p.decls) c0 d0 plain front
    plain-met =
        front-along g c0 d0 refl refl (check.body_names q.decls) (check.body_names p.decls) s plain c0 d0 (sorted-plain all) (all_kept (EveryDecl (kept_names q)) is_plain all h.declared) (all_kept IsSingle is_plain all h.single)
        (all_kept IsOtherThanTruth is_plain all h.untrue) (all_kept (IsSameDecl (types_in q) (types_in p)) is_plain all h.ranges) start
        (along-front M (check.body_names q.decls) plain tasks c0 (along-front M (check.body_names q.decls) (plain ++ tasks) bodies c0 decls-met))

    tasks-met : HasAlong g c0 d0 refl refl (check.body_names q.decls) (check.body_names p.decls) c1 d1 tasks tasks'
    tasks-met =
        tasks-along g c0 d0 refl refl (check.body_names q.decls) (check.body_names p.decls) there tasks c1 d1 (one-tasks all h.single) (all_kept (EveryDecl (kept_names q)) is_task all h.declared)
        (all_kept (IsSameDecl (types_in q) (types_in p)) is_task all h.ranges)
        (all_kept (OnTask (λ t. AllByRecursion (IsShortEntry q) t.entries)) is_task all (on-tasks (λ t. AllByRecursion (IsShortEntry q) t.entries) all h.short))
        (all_kept (OnTask (λ t. AllByRecursion (IsDoubled q) t.entries)) is_task all (on-tasks (λ t. AllByRecursion (IsDoubled q) t.entries) all (doubles-named q)))
        plain-met.behind (along-back M (check.body_names q.decls) plain tasks c0 (along-front M (check.body_names q.decls) (plain ++ tasks) bodies c0 decls-met))

    behind : AreBehindTasks q c2 d3
    behind = added-behind q c0 d0 s n c2 d2 refl refl refl refl refl refl refl refl h.main h.truth tasks-met.behind

    same-types : (xs : List PDecl) → AllByRecursion (IsSameDecl (types_in q) (types_in p)) xs → AllByRecursion (IsSameDecl c2.types d3.types) xs
    same-types xs t = subst (λ T. AllByRecursion (IsSameDecl T d3.types) xs) (sym tasks-met.behind.left.types) (subst (λ U. AllByRecursion (IsSameDecl (types_in q) U) xs) (sym (added-frame q c0 d0 s n d2 tasks-met.behind.right).types) t)

    copies-met : AllAlong M' (check.body_names p.decls) d3 bodies'
    copies-met =
        bodies-along g (check.body_names q.decls) (check.body_names p.decls) bodies c2 d3 (one-bodies all) (all_kept (EveryDecl (kept_names q)) is_body all h.declared)
        (same-types bodies (all_kept (IsSameDecl (types_in q) (types_in p)) is_body all h.ranges)) (all_kept HasForm is_body all h.forms) behind
        (subst (λ c. AllAlong M (check.body_names q.decls) c bodies) (after-joined plain tasks c0) (along-back M (check.body_names q.decls) (plain ++ tasks) bodies c0 decls-met))

    text-decls : AllAlong M' (check.body_names p.decls) d0 (replay_decls g s ops)
    text-decls =
        let ids : List ℕ = check.body_names p.decls in
        along-join M' ids (front ++ tasks' ++ added ++ bodies') last d0
        (along-join M' ids (front ++ tasks' ++ added) bodies' d0
        (along-join M' ids (front ++ tasks') added d0
        (along-join M' ids front tasks' d0 plain-met.met tasks-met.met)
        (subst (λ d. AllAlong M' ids d added) (sym (after-joined front tasks' d0)) (control-declared-met q d2 ids s n h.few_numbers control-there, (idle-declared-met q (check.after_decl d2 (control_declared q s n)) ids s idle-there, tt))))
        (subst (λ d. AllAlong M' ids d bodies') (sym behind-added) copies-met))
        (subst (λ d. AllAlong M' ids d last) (sym behind-bodies) (control-met g d2 s n behind.accepting' behind.calls ids ops h.few_ops h.joined, (idle-met g d2 s n behind.accepting' behind.calls ids, tt)))
      where
        behind-added : after_all d0 (front ++ tasks' ++ added) ≡ d3
        behind-added = after-joined (front ++ tasks') added d0 ∙ ap (λ d. after_all d added) (after-joined front tasks' d0)

        behind-bodies : after_all d0 (front ++ tasks' ++ added ++ bodies') ≡ d3
        behind-bodies = after-joined (front ++ tasks' ++ added) bodies' d0 ∙ ap (λ d. after_all d bodies') behind-added ∙ bodies-same d3 bodies' (bodies-mapped g bodies (one-bodies all))

    main-met : AllByRecursion M' (check.body_sites (check.after_decls d0 p.decls) 1 p.body)
    main-met =
        subst (λ d. AllByRecursion M' (check.body_sites d 1 p.body)) (sym text-around)
        (unit-met g (main_unit g) c2 d3 s q.body (main-around q c2 d3 behind) h.named h.form
        (subst (λ c. AllByRecursion M (check.body_sites c 1 q.body)) form-around (all_second M (check.decls_sites c0 (check.body_names q.decls) q.decls) (check.body_sites (check.after_decls c0 q.decls) 1 q.body) (check.counted_sites c0 q) met.1)))

    text-met : AllByRecursion M' (check.check_sites p)
    text-met = (
      name-stays q c0 d0 q.name h.main met.0,
      all_three M' (check.decls_sites d0 (check.body_names p.decls) p.decls) (check.body_sites (check.after_decls d0 p.decls) 1 p.body) (check.counted_sites d0 p)
          (along-of M' (check.body_names p.decls) (replay_decls g s ops) d0 text-decls)
          main-met
          (counted-met (replay_names q) d0 p (replay_decls g s ops) refl text-single few-tasks few-entries),
    )

    pub text-meets : MeetsCheckRules (replay_of g ops) Any
    text-meets = meets-checks p Any text-met

pub replay_meets_checks : ReplayMeetsChecks
replay_meets_checks g ops h m = text-meets g ops h m

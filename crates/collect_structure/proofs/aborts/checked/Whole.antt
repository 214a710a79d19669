-- The collecting text of a normal form that meets the rules 13 to 23 and is as asked meets them, where abort statements can stand.
use Rattle.std.proofs.Common.{◌≡◌, ℕ, ◌+◌, ◌≤◌, ◌==◌, ◌||◌, Bool, true, false, cond, List, [], ◌∷◌, ◌++◌, length, map, Some, None, option_map, refl, sym, ap, ap₂, subst, ◌∙◌, length-append, arith}
use Rattle.std.specs.List.{AllByRecursion, list_any, filter}
use Rattle.std.proofs.lemmas.List.{length-map}
use Rattle.common_lemmas.proofs.Lists.{all_joined, all_kept, all_paired, all_three, all_first, all_second}
use Rattle.common_lemmas.proofs.Numbers.{equal_self}
use Rattle.ada_tree.specs.declared.naming.Span.{Span}
use Rattle.ada_tree.specs.PlainDecl.{PTask, PDecl}
use Rattle.ada_tree.specs.PlainExpr.{PExpr}
use Rattle.ada_tree.specs.PlainProgram.{PProgram}
use Rattle.ada_tree.specs.Every.{EveryDecl, EveryExpr}
use Rattle.ada_static_rules.specs.Refusals.{types_in}
use Rattle.syn_event.specs.declared.numbering.Mode.TheVariants.{Any}
use Rattle.syn_event.specs.declared.meanings.Meant.{Meant}
use Rattle.syn_event.specs.declared.meanings.Meant.TheVariants.{MainProcedure}
use Rattle.syn_event.specs.CheckRefusals.{MeetsCheckRules}
use Rattle.syn_event.specs.CheckScope.{CheckScope, CheckSite}
use Rattle.syn_event.specs.CheckSites as check
use Rattle.syn_event.specs.Extents.{fixed}
use Rattle.syn_event.specs.RuleSharedVariable.{shared_name}
use Rattle.syn_event.specs.DeclaredTasks.{decl_list, tasks_in, tasks_of}
use Rattle.task_laws.proofs.legal.sites.Meeting.{all_check_met}
use Rattle.task_model.specs.Setting.{Setting}
use Rattle.normal_model.specs.NormalTree.{main_unit}
use Rattle.normal_model.specs.Ranges.{word_at}
use Rattle.normal_laws.proofs.structure.checked.Joined.{meets-checks}
use Rattle.normal_laws.proofs.structure.checked.MainScopes.{frame-refl}
use Rattle.normal_laws.specs.structure.numbers.Single.{IsSingle}
use Rattle.normal_laws.proofs.legality.declares_once.Bodies.{ids-joined, body_ids}
use Rattle.replay_model.specs.ReplayTree.{is_task, is_body, last_task}
use Rattle.replay_structure.proofs.texts.Listed.{sorted-plain}
use Rattle.replay_structure.specs.checked.Checkable.{is_plain, HasForm, IsSameDecl, entries_count}
use Rattle.replay_structure.proofs.checked.Lists.{after_all, after-listed, after-of, after-joined, AllAlong, along-listed, along-of, along-join, along-front, along-back}
use Rattle.replay_structure.proofs.checked.Counted.{counted-met, entries-joined}
use Rattle.replay_structure.proofs.checked.Named.{ids-listed, ids-of, plain-ids, task-ids, any-front, any-back}
use Rattle.replay_structure.proofs.checked.Along.{OnTask, on-tasks}
use Rattle.collect_model.specs.Names.{recorder_text}
use Rattle.collect_model.specs.Lines.{header_text}
use Rattle.collect_model.specs.CollectTree.{is_int_io, main_declared, task_telling, recorder_told}
use Rattle.collect_structure.specs.Names as names
use Rattle.collect_structure.specs.checked.Checkable.{IsOtherThanTruths, HasFewFormals}
use Rattle.collect_structure.proofs.texts.Listed.{all-behind, all-main}
use Rattle.collect_structure.proofs.checked.Before.{behind_added}
use Rattle.collect_structure.proofs.checked.Tasks.{recorder-met}
use Rattle.collect_model.specs.aborts.AbortTeller.{AbortTeller, names_told, told_in}
use Rattle.collect_model.specs.aborts.AbortTree.{abort_decl, abort_decls, abort_of, objects_told, places_declared, recorder_body_told}
use Rattle.collect_model.specs.aborts.Places.{places_in, places_of, most_places}
use Rattle.collect_structure.specs.aborts.scopes.Text.{main_told}
use Rattle.collect_structure.specs.aborts.checked.Around.{kept_names}
use Rattle.collect_structure.specs.aborts.checked.Checkable.{IsAbortCheckable}
use Rattle.collect_structure.proofs.aborts.checked.Along.{HasAlong, front-along, tasks-along, main-met, bodies-along}
use Rattle.collect_structure.proofs.aborts.checked.Before.{AreBefore, added-frame, added-behind}
use Rattle.collect_structure.proofs.aborts.checked.Bodies.{AreBehindTasks, main-around}
use Rattle.collect_structure.proofs.aborts.checked.Names.{longer}
use Rattle.collect_structure.proofs.aborts.checked.Recorded.{recorder-body-met}
use Rattle.collect_structure.proofs.aborts.checked.Stays.{IsTextMet, name-stays}
use Rattle.collect_structure.proofs.aborts.texts.Listed.{all-places, abort-tells, abort-tasks}
use Rattle.collect_structure.proofs.texts.Telling.{recorder_tasks, all-told-tasks, all-told-bodies, told-bodies, told-ids}
use Rattle.collect_structure.proofs.aborts.texts.Named.{main-few, bodies-few}
use Rattle.collect_structure.proofs.aborts.scopes.Inner.{main-told-is}
use Rattle.collect_structure.proofs.checked.Whole.{entries-kept}
use Rattle.replay_structure.proofs.checked.Stays.{IsFormMet}
use Rattle.replay_structure.proofs.checked.Whole.{bodies-same, one-bodies, one-tasks}

-- ---- the text

module _ (g : Setting) (h : IsAbortCheckable g) where
  abbrev q : PProgram
  q = g.program

  -- what main is told, with the names of a text without aborts
  abbrev x : AbortTeller
  x = main_told g

  abbrev p : PProgram
  p = abort_of x q

  abbrev s : Span
  s = q.name.span

  abbrev all : List PDecl
  all = decl_list q.decls

  abbrev plain : List PDecl
  plain = filter is_plain all

  abbrev tasks : List PDecl
  tasks = filter is_task all

  abbrev bodies : List PDecl
  bodies = filter is_body all

  abbrev front : List PDecl
  front = objects_told x q plain

  abbrev tasks' : List PDecl
  tasks' = map (abort_decl x q.names) tasks

  abbrev added : List PDecl
  added = recorder_told x.teller q ∷ []

  abbrev bodies' : List PDecl
  bodies' = map (abort_decl x q.names) bodies

  abbrev last : List PDecl
  last = recorder_body_told x q ∷ []

  abbrev text : List PDecl
  text = abort_decls x q all

  abbrev c0 : CheckScope
  c0 = check.around_program q

  abbrev d0 : CheckScope
  d0 = check.around_program p

  abbrev c1 : CheckScope
  c1 = after_all c0 plain

  abbrev c2 : CheckScope
  c2 = after_all c1 tasks

  abbrev d1 : CheckScope
  d1 = after_all d0 front

  abbrev d2 : CheckScope
  d2 = after_all d1 tasks'

  abbrev d3 : CheckScope
  d3 = behind_added q s d2

  -- names that are kept, also in a text without aborts
  abbrev IsKept : PDecl → Type 0
  IsKept d = EveryDecl (kept_names q) d × EveryDecl (names.kept_names q) d

  kept : AllByRecursion IsKept all
  kept = all_paired (EveryDecl (kept_names q)) (EveryDecl (names.kept_names q)) all h.declared h.told.declared

  ranges : AllByRecursion (IsSameDecl (types_in q) (types_in p)) all
  ranges = subst (λ z. AllByRecursion (IsSameDecl (types_in q) (types_in (abort_of z q))) all) (main-told-is g) h.ranges

  values : (k : ℕ) (e : PExpr) → EveryExpr (kept_names q) k e → fixed (types_in p) e ≡ fixed (types_in q) e
  values k e i = subst (λ z. fixed (types_in (abort_of z q)) e ≡ fixed (types_in q) e) (main-told-is g) (h.values k e i)

  -- ---- what stands around

  start : AreBefore q c0 d0 c0 d0
  start =
      record {
        alike = λ id o. refl;
        left = frame-refl c0;
        right = frame-refl d0;
        units = refl;
        truth = λ k u t. go k t (q.name.name.0 == k);
        plain =
            (refl, tt);
      }
    where
      go : (k : ℕ) (t : Span) (b : Bool) → shared_name (option_map (λ (m : ℕ × Meant). m.1) (cond b (Some (q.name.name.0, MainProcedure)) None)) t ≡ []
      go k t true = refl
      go k t false = refl

  form-around : check.after_decls c0 q.decls ≡ c2
  form-around =
      after-listed q.decls c0 ∙ ap (after_all c0) h.told.sorted ∙ after-joined (plain ++ tasks) bodies c0 ∙ ap (λ c. after_all c bodies)
      (after-joined plain tasks c0) ∙ bodies-same c2 bodies (one-bodies all)

  text-around : check.after_decls d0 p.decls ≡ d3
  text-around =
      after-of text d0
      ∙ after-joined (front ++ tasks' ++ added ++ bodies') last d0
      ∙ after-joined (front ++ tasks' ++ added) bodies' d0
      ∙ ap (λ d. after_all d bodies') (after-joined (front ++ tasks') added d0 ∙ ap (λ d. after_all d added) (after-joined front tasks' d0))
      ∙ bodies-same d3 bodies' (told-bodies x.teller.added (abort_decl x q.names) (abort-tells x q.names) bodies (one-bodies all))

  -- ---- the names of bodies

  form-ids : check.body_names q.decls ≡ body_ids bodies
  form-ids =
      ids-listed q.decls ∙ ap body_ids h.told.sorted ∙ ids-joined (plain ++ tasks) bodies
      ∙ ap (λ l. l ++ body_ids bodies)
      (ids-joined plain tasks ∙ ap₂ (λ (a b : List ℕ). a ++ b) (plain-ids plain (sorted-plain all)) (task-ids tasks (one-tasks all h.told.single)))

  there : (k : ℕ) → list_any (λ i. i == k) (check.body_names q.decls) ≡ true → list_any (λ i. i == k) (check.body_names p.decls) ≡ true
  there k i =
      ap (list_any (λ j. j == k)) (ids-of text)
      ∙ any-front k (front ++ tasks' ++ added ++ bodies') last
      (any-back k (front ++ tasks' ++ added) bodies'
      (ap (list_any (λ j. j == k)) (told-ids x.teller.added (abort_decl x q.names) (abort-tells x q.names) bodies) ∙ sym (ap (list_any (λ j. j == k)) form-ids) ∙ i))

  recorder-there : list_any (λ i. i == (names.added_id q recorder_text).0) (check.body_names p.decls) ≡ true
  recorder-there =
      ap (list_any (λ j. j == (names.added_id q recorder_text).0)) (ids-of text)
      ∙ any-back (names.added_id q recorder_text).0 (front ++ tasks' ++ added ++ bodies') last
      (ap (λ b. b || false) (equal_self (names.added_id q recorder_text).0))

  -- ---- counts

  text-tasks : tasks_in text ≡ map (task_telling x.teller.added) (tasks_of q) ++ recorder_tasks x.teller.added q
  text-tasks = abort-tasks x q

  few-tasks : length (tasks_in text) ≤ 202
  few-tasks =
      let e : length (tasks_in text) ≡ length (map (task_telling x.teller.added) (tasks_of q)) + 1 = ap (λ (l : List PTask). length l) text-tasks
      ∙ length-append (map (task_telling x.teller.added) (tasks_of q)) (recorder_tasks x.teller.added q) in
      let f : length (map (task_telling x.teller.added) (tasks_of q)) ≡ length (tasks_of q) = length-map (tasks_of q) (task_telling x.teller.added) in
      let few : length (tasks_of q) ≤ 200 = h.told.few_tasks in
      omega (arith, e, f, few)

  few-entries : entries_count (tasks_in text) ≤ 2600
  few-entries =
      let e : entries_count (tasks_in text) ≡ entries_count (map (task_telling x.teller.added) (tasks_of q)) + 1 = ap entries_count text-tasks
      ∙ entries-joined (map (task_telling x.teller.added) (tasks_of q)) (recorder_tasks x.teller.added q) in
      let f : entries_count (map (task_telling x.teller.added) (tasks_of q)) ≡ entries_count (tasks_of q) = entries-kept x.teller.added (tasks_of q) in
      let less : entries_count (tasks_of q) ≤ 1000 = h.told.few_entries in
      omega (arith, e, f, less)

  text-single : AllByRecursion IsSingle text
  text-single =
      all_joined IsSingle (front ++ tasks' ++ added ++ bodies') last
      (all_joined IsSingle (front ++ tasks' ++ added) bodies'
      (all_joined IsSingle (front ++ tasks') added
      (all_joined IsSingle front tasks'
      (all-behind IsSingle q.names _ plain
      (all_joined IsSingle (main_declared x.teller.added s _ _) (places_declared x s (places_in q.body))
      (all-main IsSingle x.teller.added s _ _ (tt, (tt, (tt, (tt, tt)))))
      (all-places IsSingle x s (places_in q.body) (places_in q.body) (omega arith) (λ n low high. (tt, tt))))
      (all_kept IsSingle is_plain all h.told.single))
      (all-told-tasks x.teller.added (abort_decl x q.names) (abort-tells x q.names) IsSingle (λ t k one. one) tasks (one-tasks all h.told.single)))
      (refl, tt))
      (all-told-bodies x.teller.added (abort_decl x q.names) (abort-tells x q.names) IsSingle (λ w objects its k. tt) bodies (one-bodies all)))
      (tt, tt)

  -- ---- places

  module _ (m : MeetsCheckRules q Any) where
    abbrev M : CheckSite → Type 0
    M = IsFormMet q

    abbrev M' : CheckSite → Type 0
    M' = IsTextMet q

    met : AllByRecursion M (check.check_sites q)
    met = all_check_met q Any m

    decls-met : AllAlong M (check.body_names q.decls) c0 (plain ++ tasks ++ bodies)
    decls-met =
        subst (AllAlong M (check.body_names q.decls) c0) h.told.sorted
        (along-listed M (check.body_names q.decls) q.decls c0
        (all_first M (check.decls_sites c0 (check.body_names q.decls) q.decls) (check.body_sites (check.after_decls c0 q.decls) 1 q.body)
        (check.counted_sites c0 q) met.1))

    plain-met : HasAlong g c0 d0 refl refl (check.body_names q.decls) (check.body_names p.decls) c0 d0 plain front
    plain-met =
        front-along g c0 d0 refl refl (check.body_names q.decls) (check.body_names p.decls) s (last_task g.numbers) (places_in q.body) h.told.few_numbers
        (main-few q) (list_any is_int_io plain) plain c0 d0 (sorted-plain all) (all_kept IsKept is_plain all kept)
        (all_kept IsSingle is_plain all h.told.single)
        (all_kept IsOtherThanTruths is_plain all h.told.untrue) (all_kept (IsSameDecl (types_in q) (types_in p)) is_plain all ranges) start
        (along-front M (check.body_names q.decls) plain tasks c0 (along-front M (check.body_names q.decls) (plain ++ tasks) bodies c0 decls-met))

    tasks-met : HasAlong g c0 d0 refl refl (check.body_names q.decls) (check.body_names p.decls) c1 d1 tasks tasks'
    tasks-met =
        tasks-along g c0 d0 refl refl (check.body_names q.decls) (check.body_names p.decls) there tasks c1 d1 (one-tasks all h.told.single)
        (all_kept IsKept is_task all kept)
        (all_kept (IsSameDecl (types_in q) (types_in p)) is_task all ranges)
        (all_kept (OnTask (λ t. AllByRecursion HasFewFormals t.entries)) is_task all
        (on-tasks (λ t. AllByRecursion HasFewFormals t.entries) all h.told.few_formals))
        plain-met.behind (along-back M (check.body_names q.decls) plain tasks c0
        (along-front M (check.body_names q.decls) (plain ++ tasks) bodies c0 decls-met))

    behind : AreBehindTasks q c2 d3
    behind = added-behind q c0 d0 s c2 d2 refl refl refl refl refl refl refl refl h.main h.truths values tasks-met.behind

    same-types : (xs : List PDecl) → AllByRecursion (IsSameDecl (types_in q) (types_in p)) xs → AllByRecursion (IsSameDecl c2.types d3.types) xs
    same-types xs t =
        subst (λ T. AllByRecursion (IsSameDecl T d3.types) xs) (sym tasks-met.behind.left.types)
        (subst (λ U. AllByRecursion (IsSameDecl (types_in q) U) xs) (sym (added-frame q c0 d0 s d2 tasks-met.behind.right).types) t)

    copies-met : AllAlong M' (check.body_names p.decls) d3 bodies'
    copies-met =
        bodies-along g (check.body_names q.decls) (check.body_names p.decls) bodies c2 d3 (one-bodies all)
        (all_kept (EveryDecl (kept_names q)) is_body all h.declared)
        (same-types bodies (all_kept (IsSameDecl (types_in q) (types_in p)) is_body all ranges)) (all_kept HasForm is_body all h.told.forms)
        (all_kept (λ d. places_of d ≤ most_places q) is_body all (bodies-few q)) behind
        (subst (λ c. AllAlong M (check.body_names q.decls) c bodies) (after-joined plain tasks c0)
        (along-back M (check.body_names q.decls) (plain ++ tasks) bodies c0 decls-met))

    text-decls : AllAlong M' (check.body_names p.decls) d0 text
    text-decls =
        let ids : List ℕ = check.body_names p.decls in
        along-join M' ids (front ++ tasks' ++ added ++ bodies') last d0
        (along-join M' ids (front ++ tasks' ++ added) bodies' d0
        (along-join M' ids (front ++ tasks') added d0
        (along-join M' ids front tasks' d0 plain-met.met tasks-met.met)
        (subst (λ d. AllAlong M' ids d added) (sym (after-joined front tasks' d0))
        (longer q (check.decl_sites d2 ids (recorder_told x.teller q)) (recorder-met q d2 ids s recorder-there), tt)))
        (subst (λ d. AllAlong M' ids d bodies') (sym behind-added) copies-met))
        (subst (λ d. AllAlong M' ids d last) (sym behind-bodies) (
          recorder-body-met g d2 s behind.accepting' behind.truth (λ info i. behind.calls (word_at s info.name) i) h.told.few_numbers h.beside ids
              (header_text q.names g.numbers),
          tt,
        ))
      where
        behind-added : after_all d0 (front ++ tasks' ++ added) ≡ d3
        behind-added = after-joined (front ++ tasks') added d0 ∙ ap (λ d. after_all d added) (after-joined front tasks' d0)

        behind-bodies : after_all d0 (front ++ tasks' ++ added ++ bodies') ≡ d3
        behind-bodies =
            after-joined (front ++ tasks' ++ added) bodies' d0 ∙ ap (λ d. after_all d bodies') behind-added ∙ bodies-same d3 bodies'
            (told-bodies x.teller.added (abort_decl x q.names) (abort-tells x q.names) bodies (one-bodies all))

    its-main-met : AllByRecursion M' (check.body_sites (check.after_decls d0 p.decls) 1 p.body)
    its-main-met =
        subst (λ d. AllByRecursion M' (check.body_sites d 1 p.body)) (sym text-around)
        (main-met g c2 d3 q.body (main-around g (places_in q.body) c2 d3 behind) h.named h.told.form
        (subst (λ c. AllByRecursion M (check.body_sites c 1 q.body)) form-around
        (all_second M (check.decls_sites c0 (check.body_names q.decls) q.decls) (check.body_sites (check.after_decls c0 q.decls) 1 q.body)
        (check.counted_sites c0 q) met.1)))

    text-met : AllByRecursion M' (check.check_sites p)
    text-met = (
      name-stays q c0 d0 q.name h.main met.0,
      all_three M' (check.decls_sites d0 (check.body_names p.decls) p.decls) (check.body_sites (check.after_decls d0 p.decls) 1 p.body)
          (check.counted_sites d0 p)
          (along-of M' (check.body_names p.decls) text d0 text-decls)
          its-main-met
          (counted-met (names_told q) d0 p text refl text-single few-tasks few-entries),
    )

    -- The collecting text meets the rules 13 to 23.
    pub text-meets : MeetsCheckRules (abort_of (told_in (main_unit g)) q) Any
    text-meets = subst (λ z. MeetsCheckRules (abort_of z q) Any) (sym (main-told-is g)) (meets-checks p Any text-met)

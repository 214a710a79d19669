-- The collecting text of a normal form that meets the rules 13 to 23 and is as asked meets them.
use Rattle.std.proofs.Common.{◌≡◌, ℕ, ◌+◌, ◌≤◌, ◌==◌, ◌||◌, Bool, true, false, cond, List, [], ◌∷◌, ◌++◌, length, map, Some, None, option_map, refl, sym, ap, ap₂, subst, ◌∙◌, length-append, arith}
use Rattle.std.specs.List.{AllByRecursion, list_any, filter}
use Rattle.std.proofs.lemmas.List.{length-map}
use Rattle.common_lemmas.proofs.Lists.{all_joined, all_kept, all_three, all_first, all_second}
use Rattle.common_lemmas.proofs.Numbers.{equal_self}
use Rattle.ada_tree.specs.declared.naming.Span.{Span}
use Rattle.ada_tree.specs.PlainDecl.{PTask, PDecl}
use Rattle.ada_tree.specs.PlainProgram.{PProgram}
use Rattle.ada_tree.specs.Every.{EveryDecl}
use Rattle.ada_static_rules.specs.Refusals.{types_in}
use Rattle.syn_event.specs.declared.numbering.Mode.TheVariants.{Any}
use Rattle.syn_event.specs.declared.meanings.Meant.{Meant}
use Rattle.syn_event.specs.declared.meanings.Meant.TheVariants.{MainProcedure}
use Rattle.syn_event.specs.CheckRefusals.{MeetsCheckRules}
use Rattle.syn_event.specs.CheckScope.{CheckScope, CheckSite}
use Rattle.syn_event.specs.CheckSites as check
use Rattle.syn_event.specs.RuleSharedVariable.{shared_name}
use Rattle.syn_event.specs.DeclaredTasks.{decl_list, tasks_in, tasks_of}
use Rattle.task_laws.proofs.legal.sites.Meeting.{all_check_met}
use Rattle.task_model.specs.Setting.{Setting}
use Rattle.normal_model.specs.NormalTree.{main_unit}
use Rattle.normal_laws.proofs.structure.checked.Joined.{meets-checks}
use Rattle.normal_laws.proofs.structure.checked.MainScopes.{frame-refl}
use Rattle.normal_laws.specs.structure.numbers.Single.{IsSingle}
use Rattle.normal_laws.proofs.legality.declares_once.Bodies.{ids-joined, body_ids}
use Rattle.replay_model.specs.ReplayTree.{is_task, is_body, last_task}
use Rattle.replay_structure.proofs.texts.Listed.{sorted-plain}
use Rattle.replay_structure.specs.checked.Checkable.{is_plain, HasForm, IsSameDecl, entries_count}
use Rattle.replay_structure.proofs.checked.Lists.{after_all, after-listed, after-of, after-joined, AllAlong, along-listed, along-of, along-join, along-front, along-back}
use Rattle.replay_structure.proofs.checked.Counted.{counted-met, entries-joined}
use Rattle.replay_structure.proofs.checked.Named.{ids-listed, ids-of, plain-ids, task-ids, any-front, any-back}
use Rattle.replay_structure.proofs.checked.Along.{OnTask, on-tasks}
use Rattle.collect_model.specs.declared.AddedNames.{AddedNames}
use Rattle.collect_model.specs.Names.{recorder_text, collect_names}
use Rattle.collect_model.specs.Teller.{Teller, teller_in}
use Rattle.collect_model.specs.Lines.{header_text}
use Rattle.collect_model.specs.CollectTree.{is_int_io, entry_telling, task_telling, collect_decl, objects_told, recorder_told, recorder_body_told, collect_decls, collect_of}
use Rattle.collect_structure.specs.Names.{added_id, kept_names}
use Rattle.collect_structure.specs.checked.Checkable.{IsOtherThanTruths, HasFewFormals, IsCheckable}
use Rattle.collect_structure.proofs.texts.Listed.{all-behind, all-main}
use Rattle.collect_structure.proofs.texts.Rooted.{collect-tells, collect-tasks}
use Rattle.collect_structure.proofs.texts.Telling.{recorder_tasks, all-told-tasks, all-told-bodies, told-bodies, told-ids}
use Rattle.collect_structure.proofs.checked.Stays.{IsTextMet, name-stays}
use Rattle.collect_structure.proofs.checked.Tasks.{recorder-met}
use Rattle.collect_structure.proofs.checked.Bodies.{AreBehindTasks, main-around}
use Rattle.collect_structure.proofs.checked.Before.{AreBefore, behind_added, added-frame, added-behind}
use Rattle.collect_structure.proofs.checked.Recorded.{recorder-body-met}
use Rattle.collect_structure.proofs.checked.Along.{HasAlong, front-along, tasks-along, main-met, bodies-along}
use Rattle.replay_structure.proofs.checked.Stays.{IsFormMet}
use Rattle.replay_structure.proofs.checked.Whole.{bodies-same, one-bodies, one-tasks}

-- ---- lists

pub entries-kept : (n : AddedNames) (ts : List PTask) → entries_count (map (task_telling n) ts) ≡ entries_count ts
entries-kept n [] = refl
entries-kept n (t ∷ ts) = ap₂ (λ a b. a + b) (length-map t.entries (entry_telling n)) (entries-kept n ts)

-- ---- the text

module _ (g : Setting) (h : IsCheckable g) where
  abbrev q : PProgram
  q = g.program

  abbrev x : Teller
  x = teller_in (main_unit g)

  abbrev p : PProgram
  p = collect_of x q

  abbrev s : Span
  s = q.name.span

  abbrev all : List PDecl
  all = decl_list q.decls

  abbrev plain : List PDecl
  plain = filter is_plain all

  abbrev tasks : List PDecl
  tasks = filter is_task all

  abbrev bodies : List PDecl
  bodies = filter is_body all

  abbrev front : List PDecl
  front = objects_told x q plain

  abbrev tasks' : List PDecl
  tasks' = map (collect_decl x q.names) tasks

  abbrev added : List PDecl
  added = recorder_told x q ∷ []

  abbrev bodies' : List PDecl
  bodies' = map (collect_decl x q.names) bodies

  abbrev last : List PDecl
  last = recorder_body_told x q ∷ []

  abbrev text : List PDecl
  text = collect_decls x q all

  abbrev c0 : CheckScope
  c0 = check.around_program q

  abbrev d0 : CheckScope
  d0 = check.around_program p

  abbrev c1 : CheckScope
  c1 = after_all c0 plain

  abbrev c2 : CheckScope
  c2 = after_all c1 tasks

  abbrev d1 : CheckScope
  d1 = after_all d0 front

  abbrev d2 : CheckScope
  d2 = after_all d1 tasks'

  abbrev d3 : CheckScope
  d3 = behind_added q s d2

  -- ---- what stands around

  start : AreBefore q c0 d0 c0 d0
  start = record { alike = λ id o. refl; left = frame-refl c0; right = frame-refl d0; units = refl; truth = λ k u t. go k t (q.name.name.0 == k); plain = (refl, tt) }
    where
      go : (k : ℕ) (t : Span) (b : Bool) → shared_name (option_map (λ (m : ℕ × Meant). m.1) (cond b (Some (q.name.name.0, MainProcedure)) None)) t ≡ []
      go k t true = refl
      go k t false = refl

  form-around : check.after_decls c0 q.decls ≡ c2
  form-around =
      after-listed q.decls c0 ∙ ap (after_all c0) h.sorted ∙ after-joined (plain ++ tasks) bodies c0 ∙ ap (λ c. after_all c bodies) (after-joined plain tasks c0) ∙ bodies-same c2 bodies (one-bodies all)

  text-around : check.after_decls d0 p.decls ≡ d3
  text-around =
      after-of text d0
      ∙ after-joined (front ++ tasks' ++ added ++ bodies') last d0
      ∙ after-joined (front ++ tasks' ++ added) bodies' d0
      ∙ ap (λ d. after_all d bodies') (after-joined (front ++ tasks') added d0 ∙ ap (λ d. after_all d added) (after-joined front tasks' d0))
      ∙ bodies-same d3 bodies' (told-bodies x.added (collect_decl x q.names) (collect-tells x q.names) bodies (one-bodies all))

  -- ---- the names of bodies

  form-ids : check.body_names q.decls ≡ body_ids bodies
  form-ids =
      ids-listed q.decls ∙ ap body_ids h.sorted ∙ ids-joined (plain ++ tasks) bodies
      ∙ ap (λ l. l ++ body_ids bodies) (ids-joined plain tasks ∙ ap₂ (λ (a b : List ℕ). a ++ b) (plain-ids plain (sorted-plain all)) (task-ids tasks (one-tasks all h.single)))

  there : (k : ℕ) → list_any (λ i. i == k) (check.body_names q.decls) ≡ true → list_any (λ i. i == k) (check.body_names p.decls) ≡ true
  there k i =
      ap (list_any (λ j. j == k)) (ids-of text)
      ∙ any-front k (front ++ tasks' ++ added ++ bodies') last
      (any-back k (front ++ tasks' ++ added) bodies' (ap (list_any (λ j. j == k)) (told-ids x.added (collect_decl x q.names) (collect-tells x q.names) bodies) ∙ sym (ap (list_any (λ j. j == k)) form-ids) ∙ i))

  recorder-there : list_any (λ i. i == (added_id q recorder_text).0) (check.body_names p.decls) ≡ true
  recorder-there =
      ap (list_any (λ j. j == (added_id q recorder_text).0)) (ids-of text)
      ∙ any-back (added_id q recorder_text).0 (front ++ tasks' ++ added ++ bodies') last (ap (λ b. b || false) (equal_self (added_id q recorder_text).0))

  -- ---- counts

  text-tasks : tasks_in text ≡ map (task_telling x.added) (tasks_of q) ++ recorder_tasks x.added q
  text-tasks = collect-tasks x q

  few-tasks : length (tasks_in text) ≤ 202
  few-tasks =
      let e : length (tasks_in text) ≡ length (map (task_telling x.added) (tasks_of q)) + 1 = ap (λ (l : List PTask). length l) text-tasks ∙ length-append (map (task_telling x.added) (tasks_of q)) (recorder_tasks x.added q) in
      let f : length (map (task_telling x.added) (tasks_of q)) ≡ length (tasks_of q) = length-map (tasks_of q) (task_telling x.added) in
      let few : length (tasks_of q) ≤ 200 = h.few_tasks in
      omega (arith, e, f, few)

  few-entries : entries_count (tasks_in text) ≤ 2600
  few-entries =
      let e : entries_count (tasks_in text) ≡ entries_count (map (task_telling x.added) (tasks_of q)) + 1 = ap entries_count text-tasks ∙ entries-joined (map (task_telling x.added) (tasks_of q)) (recorder_tasks x.added q) in
      let f : entries_count (map (task_telling x.added) (tasks_of q)) ≡ entries_count (tasks_of q) = entries-kept x.added (tasks_of q) in
      let less : entries_count (tasks_of q) ≤ 1000 = h.few_entries in
      omega (arith, e, f, less)

  text-single : AllByRecursion IsSingle text
  text-single =
      all_joined IsSingle (front ++ tasks' ++ added ++ bodies') last
      (all_joined IsSingle (front ++ tasks' ++ added) bodies'
      (all_joined IsSingle (front ++ tasks') added
      (all_joined IsSingle front tasks'
      (all-behind IsSingle q.names _ plain (all-main IsSingle x.added s _ _ (tt, (tt, (tt, (tt, tt))))) (all_kept IsSingle is_plain all h.single))
      (all-told-tasks x.added (collect_decl x q.names) (collect-tells x q.names) IsSingle (λ t k one. one) tasks (one-tasks all h.single)))
      (refl, tt))
      (all-told-bodies x.added (collect_decl x q.names) (collect-tells x q.names) IsSingle (λ w objects its k. tt) bodies (one-bodies all)))
      (tt, tt)

  -- ---- places

  module _ (m : MeetsCheckRules q Any) where
    abbrev M : CheckSite → Type 0
    M = IsFormMet q

    abbrev M' : CheckSite → Type 0
    M' = IsTextMet q

    met : AllByRecursion M (check.check_sites q)
    met = all_check_met q Any m

    decls-met : AllAlong M (check.body_names q.decls) c0 (plain ++ tasks ++ bodies)
    decls-met =
        subst (AllAlong M (check.body_names q.decls) c0) h.sorted
        (along-listed M (check.body_names q.decls) q.decls c0 (all_first M (check.decls_sites c0 (check.body_names q.decls) q.decls) (check.body_sites (check.after_decls c0 q.decls) 1 q.body) (check.counted_sites c0 q) met.1))

    plain-met : HasAlong g c0 d0 refl refl (check.body_names q.decls) (check.body_names p.decls) c0 d0 plain front
    plain-met =
        front-along g c0 d0 refl refl (check.body_names q.decls) (check.body_names p.decls) s (last_task g.numbers) h.few_numbers (list_any is_int_io plain) plain c0 d0 (sorted-plain all) (all_kept (EveryDecl (kept_names q)) is_plain all h.declared) (all_kept IsSingle is_plain all h.single)
        (all_kept IsOtherThanTruths is_plain all h.untrue) (all_kept (IsSameDecl (types_in q) (types_in p)) is_plain all h.ranges) start
        (along-front M (check.body_names q.decls) plain tasks c0 (along-front M (check.body_names q.decls) (plain ++ tasks) bodies c0 decls-met))

    tasks-met : HasAlong g c0 d0 refl refl (check.body_names q.decls) (check.body_names p.decls) c1 d1 tasks tasks'
    tasks-met =
        tasks-along g c0 d0 refl refl (check.body_names q.decls) (check.body_names p.decls) there x refl tasks c1 d1 (one-tasks all h.single) (all_kept (EveryDecl (kept_names q)) is_task all h.declared)
        (all_kept (IsSameDecl (types_in q) (types_in p)) is_task all h.ranges)
        (all_kept (OnTask (λ t. AllByRecursion HasFewFormals t.entries)) is_task all (on-tasks (λ t. AllByRecursion HasFewFormals t.entries) all h.few_formals))
        plain-met.behind (along-back M (check.body_names q.decls) plain tasks c0 (along-front M (check.body_names q.decls) (plain ++ tasks) bodies c0 decls-met))

    behind : AreBehindTasks q c2 d3
    behind = added-behind q c0 d0 s c2 d2 refl refl refl refl refl refl refl refl h.main h.truths h.values tasks-met.behind

    same-types : (xs : List PDecl) → AllByRecursion (IsSameDecl (types_in q) (types_in p)) xs → AllByRecursion (IsSameDecl c2.types d3.types) xs
    same-types xs t = subst (λ T. AllByRecursion (IsSameDecl T d3.types) xs) (sym tasks-met.behind.left.types) (subst (λ U. AllByRecursion (IsSameDecl (types_in q) U) xs) (sym (added-frame q c0 d0 s d2 tasks-met.behind.right).types) t)

    copies-met : AllAlong M' (check.body_names p.decls) d3 bodies'
    copies-met =
        bodies-along g (check.body_names q.decls) (check.body_names p.decls) bodies c2 d3 (one-bodies all) (all_kept (EveryDecl (kept_names q)) is_body all h.declared)
        (same-types bodies (all_kept (IsSameDecl (types_in q) (types_in p)) is_body all h.ranges)) (all_kept HasForm is_body all h.forms) behind
        (subst (λ c. AllAlong M (check.body_names q.decls) c bodies) (after-joined plain tasks c0) (along-back M (check.body_names q.decls) (plain ++ tasks) bodies c0 decls-met))

    text-decls : AllAlong M' (check.body_names p.decls) d0 text
    text-decls =
        let ids : List ℕ = check.body_names p.decls in
        along-join M' ids (front ++ tasks' ++ added ++ bodies') last d0
        (along-join M' ids (front ++ tasks' ++ added) bodies' d0
        (along-join M' ids (front ++ tasks') added d0
        (along-join M' ids front tasks' d0 plain-met.met tasks-met.met)
        (subst (λ d. AllAlong M' ids d added) (sym (after-joined front tasks' d0)) (recorder-met q d2 ids s recorder-there, tt)))
        (subst (λ d. AllAlong M' ids d bodies') (sym behind-added) copies-met))
        (subst (λ d. AllAlong M' ids d last) (sym behind-bodies) (recorder-body-met q d2 s behind.accepting' behind.truth ids (header_text q.names g.numbers), tt))
      where
        behind-added : after_all d0 (front ++ tasks' ++ added) ≡ d3
        behind-added = after-joined (front ++ tasks') added d0 ∙ ap (λ d. after_all d added) (after-joined front tasks' d0)

        behind-bodies : after_all d0 (front ++ tasks' ++ added ++ bodies') ≡ d3
        behind-bodies = after-joined (front ++ tasks' ++ added) bodies' d0 ∙ ap (λ d. after_all d bodies') behind-added ∙ bodies-same d3 bodies' (told-bodies x.added (collect_decl x q.names) (collect-tells x q.names) bodies (one-bodies all))

    its-main-met : AllByRecursion M' (check.body_sites (check.after_decls d0 p.decls) 1 p.body)
    its-main-met =
        subst (λ d. AllByRecursion M' (check.body_sites d 1 p.body)) (sym text-around)
        (main-met g c2 d3 q.body (main-around q c2 d3 behind) h.named h.form
        (subst (λ c. AllByRecursion M (check.body_sites c 1 q.body)) form-around (all_second M (check.decls_sites c0 (check.body_names q.decls) q.decls) (check.body_sites (check.after_decls c0 q.decls) 1 q.body) (check.counted_sites c0 q) met.1)))

    text-met : AllByRecursion M' (check.check_sites p)
    text-met = (
      name-stays q c0 d0 q.name h.main met.0,
      all_three M' (check.decls_sites d0 (check.body_names p.decls) p.decls) (check.body_sites (check.after_decls d0 p.decls) 1 p.body) (check.counted_sites d0 p)
          (along-of M' (check.body_names p.decls) text d0 text-decls)
          its-main-met
          (counted-met (collect_names q) d0 p text refl text-single few-tasks few-entries),
    )

    -- The collecting text meets the rules 13 to 23.
    pub text-meets : MeetsCheckRules (collect_of x q) Any
    text-meets = meets-checks p Any text-met

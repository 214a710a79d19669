-- The normal form of a legal program meets the rules 13 to 23.
use Rattle.std.proofs.Common.{◌≡◌, ℕ, ◌+◌, ◌≤◌, Bool, true, false, List, [], ◌∷◌, ◌++◌, is_some, refl, sym, ap, subst, ◌∙◌, arith}
use Rattle.std.specs.List.{AllByRecursion}
use Rattle.ada_tree.specs.TypeTable.{TypeTable}
use Rattle.ada_tree.specs.PlainDecl.{PTask, PDecl, DNumber, DObject, DEnumeration, DArray, DSubtype, DException, DIntIo, DPragma, DTask, DTaskBody, PDecls, no_decl, decl_then, decls_of}
use Rattle.ada_tree.specs.PlainProgram.{PProgram}
use Rattle.ada_tree.specs.Every.{Rules, EveryDecl}
use Rattle.ada_tree.specs.WellPlaced.{well_placed}
use Rattle.syn_event.specs.declared.numbering.Mode.TheVariants.{Any}
use Rattle.syn_event.specs.CheckScope.{CheckScope, CheckSite}
use Rattle.syn_event.specs.CheckSites as check
use Rattle.syn_event.specs.NamedTasks.{NamedTasks, type_named, with_type, task_names_of}
use Rattle.syn_event.specs.DeclaredTasks.{decl_list}
use Rattle.task_laws.specs.legal.sites.Met.{IsCheckMet}
use Rattle.task_model.specs.Setting.{Setting}
use Rattle.normal_model.specs.NormalTree.{mark_of, unless_left, first_decls, main_unit}
use Rattle.normal_laws.proofs.structure.types.Variables.{unit-all}
use Rattle.normal_laws.specs.runs.forms.Normalisable.{numbers_of, setting_for, made_for}
use Rattle.task_laws.specs.legal.rewritten_values.Values.{old_names}
use Rattle.normal_laws.proofs.structure.numbers.Listed.{IsPlain, bodies-all, first-plain, normal-list}
use Rattle.normal_laws.proofs.structure.numbers.Listed as list
use Rattle.normal_laws.proofs.structure.numbers.Numbered.{normal-single}
use Rattle.normal_laws.specs.existence.Laws.{IsLegalOriginal}
use Rattle.normal_laws.specs.structure.checked.Around.{own_rules}
use Rattle.normal_laws.proofs.structure.checked.Joined.{meets-checks}
use Rattle.normal_laws.proofs.structure.checked.MainScopes.{IsFrameOf, decls-frame}
use Rattle.common_lemmas.proofs.Lists.{all_front, all_back, all_joined}
use Rattle.normal_laws.specs.legality.checks.Laws.{NormalMeetsChecks}
use Rattle.normal_laws.proofs.legality.checks.Declared.{DeclFits, word-met, met-copies}
use Rattle.normal_laws.proofs.legality.checks.Sizes.{DeclSized, decls-sized, decl-fits}
use Rattle.normal_laws.proofs.legality.checks.Lists.{after-lists, bodies-still, lists-met, plain-met, bodies-met}
use Rattle.normal_laws.proofs.legality.checks.Tasks.{tasks-fit}
use Rattle.normal_laws.proofs.legality.checks.AroundBody.{whole}
use Rattle.normal_laws.proofs.legality.checks.Facts as facts
use Rattle.normal_laws.proofs.legality.checks.Copies.{main-met, bodies-beside, bodies-copied}
use Rattle.normal_laws.proofs.legality.checks.Counts.{tasks_total, entries_total, IsPlainPart, parts-plain, tasks-within, entries-within, tasks-met, entries-met, copies-met, same-tasks, same-entries}
use Rattle.syn_event.proofs.DeclLists.{list_again, every_listed}

-- ---- first declarations

-- what holds of each declaration of a program holds of each of the first ones
first-all : (P : PDecl → Type 0) (ds : PDecls) (kinds : List PTask) → AllByRecursion P (decl_list ds) → AllByRecursion P (decl_list (first_decls kinds ds))
first-all P no_decl kinds h = tt
first-all P (decl_then (DTask t s) rest) kinds h = first-all P rest (with_type kinds t.of_kind t) h.1
first-all P (decl_then (DTaskBody w objects its s) rest) kinds h = first-all P rest kinds h.1
first-all P (decl_then (DObject ws c x i s) rest) kinds h = by_test (is_some (type_named kinds (mark_of x))) (first-all P rest kinds h.1)
  where
    by_test : (b : Bool) → AllByRecursion P (decl_list (first_decls kinds rest)) → AllByRecursion P (decl_list (unless_left b (DObject ws c x i s) (first_decls kinds rest)))
    by_test true k = k
    by_test false k = (h.0, k)
first-all P (decl_then (DNumber w e s) rest) kinds h = (h.0, first-all P rest kinds h.1)
first-all P (decl_then (DEnumeration w ws s) rest) kinds h = (h.0, first-all P rest kinds h.1)
first-all P (decl_then (DArray w q x s) rest) kinds h = (h.0, first-all P rest kinds h.1)
first-all P (decl_then (DSubtype w x s) rest) kinds h = (h.0, first-all P rest kinds h.1)
first-all P (decl_then (DException ws s) rest) kinds h = (h.0, first-all P rest kinds h.1)
first-all P (decl_then (DIntIo w s) rest) kinds h = (h.0, first-all P rest kinds h.1)
first-all P (decl_then (DPragma e s) rest) kinds h = (h.0, first-all P rest kinds h.1)

module _ (p : PProgram) (h : IsLegalOriginal p) where
  abbrev g : Setting
  g = setting_for p

  abbrev n : PProgram
  n = made_for p

  abbrev T : TypeTable
  T = facts.T p h

  abbrev U : TypeTable
  U = facts.U p h

  abbrev M' : CheckSite → Type 0
  M' = IsCheckMet Any n.names

  abbrev At' : List CheckSite → Type 0
  At' xs = AllByRecursion M' xs

  abbrev olds : Rules
  olds = old_names (facts.own p h)

  abbrev placed : Rules
  placed = well_placed n.names

  abbrev start : CheckScope
  start = check.first_around U n.name

  abbrev bodied : List ℕ
  bodied = check.body_names p.decls

  abbrev bodied' : List ℕ
  bodied' = check.body_names n.decls

  -- ---- the declarations of the normal form

  abbrev firsts : List PDecl
  firsts = list.firsts p T (numbers_of p)

  abbrev vars : List PDecl
  vars = list.vars p T (numbers_of p)

  abbrev tasks : List PDecl
  tasks = list.tasks p T (numbers_of p)

  abbrev bodies : List PDecl
  bodies = list.bodies p T (numbers_of p)

  all-decls : decls_of (firsts ++ ((vars ++ tasks) ++ bodies)) ≡ n.decls
  all-decls = sym (ap decls_of (normal-list p T (numbers_of p))) ∙ list_again n.decls

  all-placed : AllByRecursion (EveryDecl placed) (firsts ++ ((vars ++ tasks) ++ bodies))
  all-placed = subst (AllByRecursion (EveryDecl placed)) (normal-list p T (numbers_of p)) (every_listed placed n.decls (facts.placed p h).2)

  rest-placed : AllByRecursion (EveryDecl placed) ((vars ++ tasks) ++ bodies)
  rest-placed = all_back (EveryDecl placed) firsts ((vars ++ tasks) ++ bodies) all-placed

  -- ---- those that are no bodies

  all-old : AllByRecursion (EveryDecl olds) (decl_list p.decls)
  all-old = every_listed olds p.decls (facts.olds p h).2

  all-sized : AllByRecursion (DeclSized T bodied) (decl_list p.decls)
  all-sized = decls-sized p.names bodied T p.decls (facts.around p h) refl (facts.decls-checked p h)

  fits : (xs : List PDecl) → AllByRecursion IsPlain xs → AllByRecursion (EveryDecl olds) xs → AllByRecursion (DeclSized T bodied) xs → AllByRecursion (DeclFits U bodied') xs
  fits [] o e s = tt
  fits (x ∷ xs) o e s = (decl-fits (facts.own p h) T U (facts.alike p h) bodied bodied' x o.0 e.0 s.0, fits xs o.1 e.1 s.1)

  firsts-fit : AllByRecursion (DeclFits U bodied') firsts
  firsts-fit = fits firsts (first-plain p.decls []) (first-all (EveryDecl olds) p.decls [] all-old) (first-all (DeclSized T bodied) p.decls [] all-sized)

  more-fit : AllByRecursion (DeclFits U bodied') (vars ++ tasks)
  more-fit =
      all_joined (DeclFits U bodied') vars tasks (unit-all (DeclFits U bodied') (main_unit g) (λ s x k. tt) p.body)
      (tasks-fit p T all-sized (facts.own p h) U (facts.alike p h) all-old)

  -- ---- bodies

  abbrev behind_firsts : CheckScope
  behind_firsts = check.after_decls start (decls_of firsts)

  abbrev behind_tasks : CheckScope
  behind_tasks = check.after_decls behind_firsts (decls_of (vars ++ tasks))

  -- what stands around the bodies stands behind all declarations
  at-whole : whole p h ≡ behind_tasks
  at-whole =
      ap (check.after_decls start) (sym all-decls)
      ∙ after-lists firsts ((vars ++ tasks) ++ bodies) start
      ∙ after-lists (vars ++ tasks) bodies behind_firsts
      ∙ bodies-still bodies behind_tasks (bodies-all g)

  copied : At' (check.decls_sites behind_tasks bodied' (decls_of bodies))
  copied =
      subst (λ (c : CheckScope). At' (check.decls_sites c bodied' (decls_of bodies))) at-whole
      (bodies-met n.names bodied' bodies (whole p h) (bodies-all g)
      (bodies-copied p h (decl_list p.decls) (facts.bodies-known p h) (bodies-beside p h) (every_listed (own_rules (facts.own p h)) p.decls (facts.owns p h).2) all-old
      (all_back (EveryDecl placed) (vars ++ tasks) bodies rest-placed)))

  -- ---- all declarations

  decls-met : At' (check.decls_sites start bodied' n.decls)
  decls-met =
      let one : IsFrameOf start behind_firsts = decls-frame (decls_of firsts) start in
      subst (λ (ds : PDecls). At' (check.decls_sites start bodied' ds)) all-decls
      (lists-met n.names bodied' firsts ((vars ++ tasks) ++ bodies) start
      (plain-met n.names bodied' U firsts start refl refl (all_front (EveryDecl placed) firsts ((vars ++ tasks) ++ bodies) all-placed) firsts-fit)
      (lists-met n.names bodied' (vars ++ tasks) bodies behind_firsts
      (plain-met n.names bodied' U (vars ++ tasks) behind_firsts one.types one.own (all_front (EveryDecl placed) (vars ++ tasks) bodies rest-placed) more-fit)
      copied))

  -- ---- counts

  abbrev parts : List NamedTasks
  parts = task_names_of p

  abbrev parts' : List NamedTasks
  parts' = task_names_of n

  counted-met : At' (check.counted_sites start n)
  counted-met =
      let c : CheckScope = facts.around p h in
      let m = all_front (facts.M p h) (check.tasks_sites c 0 parts ++ check.entries_sites c 0 parts) (check.all_copies_sites c parts p) (facts.counts-checked p h) in
      let plain : AllByRecursion IsPlainPart parts = parts-plain p.decls [] tt in
      let plain' : AllByRecursion IsPlainPart parts' = parts-plain n.decls [] tt in
      let few : 0 + tasks_total T parts ≤ 200 = tasks-within p.names c parts 0 (omega arith) (all_front (facts.M p h) (check.tasks_sites c 0 parts) (check.entries_sites c 0 parts) m) in
      let few_entries : 0 + entries_total T parts ≤ 1000 = entries-within p.names c parts 0 plain (omega arith) (all_back (facts.M p h) (check.tasks_sites c 0 parts) (check.entries_sites c 0 parts) m) in
      let tasks_same : tasks_total U parts' ≡ tasks_total T parts = same-tasks p T U (facts.ordered p h) (normal-single p T (numbers_of p)) in
      let entries_same : entries_total U parts' ≡ entries_total T parts = same-entries p T U (facts.ordered p h) (normal-single p T (numbers_of p)) in
      all_joined M' (check.tasks_sites start 0 parts' ++ check.entries_sites start 0 parts') (check.all_copies_sites start parts' n)
      (all_joined M' (check.tasks_sites start 0 parts') (check.entries_sites start 0 parts') (tasks-met n.names start parts' 0 (omega (arith, few, tasks_same)))
      (entries-met n.names start parts' 0 plain' (omega (arith, few_entries, entries_same))))
      (met-copies n.names start _ _ _, copies-met n.names start _ parts' _)

  -- ---- the program

  all-met : AllByRecursion M' (check.check_sites n)
  all-met =
      let decls : List CheckSite = check.decls_sites start bodied' n.decls in
      let its : List CheckSite = check.body_sites (whole p h) 1 n.body in (
        word-met n.names start n.name (facts.placed p h).0,
        all_joined M' (decls ++ its) (check.counted_sites start n) (all_joined M' decls its decls-met (main-met p h)) counted-met,
      )

pub normal_meets_checks : NormalMeetsChecks
normal_meets_checks p h = meets-checks (made_for p) Any (all-met p h)

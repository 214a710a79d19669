-- The bodies that the tasks of a replay text run.
use Rattle.std.proofs.Common.{◌≡◌, ℕ, suc, ◌==◌, ◌||◌, Bool, true, false, not, if◌then◌else◌, List, [], ◌∷◌, ◌++◌, length, map, slice_get, unwrap_or, Some, None, refl, sym, ap, ◌∙◌, append_assoc, true≢false, arith}
use Rattle.std.specs.List.{AllByRecursion, filter}
use Rattle.std.proofs.lemmas.Bool.{eqb-true, eq-eqb}
use Rattle.std.proofs.lemmas.Bool.Decides.{nat_tests}
use Rattle.ada_tree.specs.declared.naming.NameId.{NameId}
use Rattle.ada_tree.specs.declared.naming.Span.{Span}
use Rattle.ada_tree.specs.declared.naming.Word.{Word}
use Rattle.ada_tree.specs.PlainStmt.{PBody}
use Rattle.ada_tree.specs.PlainDecl.{PDecl, DNumber, DObject, DEnumeration, DArray, DSubtype, DException, DIntIo, DPragma, DTask, DTaskBody, PDecls, no_decl, decl_then, decls_of}
use Rattle.ada_tree.specs.PlainProgram.{PProgram}
use Rattle.syn_event.specs.declared.numbering.TaskInfo.{TaskInfo}
use Rattle.syn_event.specs.Numbering.{Numbering, task_at}
use Rattle.syn_event.specs.AddedNames.{task_info}
use Rattle.syn_event.specs.DeclaredTasks.{decl_list}
use Rattle.control_script.specs.declared.Op.{Op}
use Rattle.task_model.specs.Setting.{Setting}
use Rattle.task_model.specs.Starting.{Unit, unit_among, unit_of_info, unit_of}
use Rattle.normal_model.specs.NormalTree.{unit_for}
use Rattle.replay_model.specs.Names.{control_text, idle_text, replay_names, added_id, added_word}
use Rattle.replay_model.specs.Controlling.{control_declared, idle_declared, control_body, idle_body}
use Rattle.replay_model.specs.ReplayStmts.{replay_body}
use Rattle.replay_model.specs.ReplayTree.{behind_own, permit_declared, replay_decl, is_task, is_body, last_task, replay_decls, normal_setting, replay_of}
use Rattle.replay_model.specs.ReplayNumbers.{numbers_replayed}
use Rattle.task_laws.proofs.legal.rewritten_types.Lookups.{place-more}
use Rattle.normal_laws.proofs.structure.units.Bodies.{IsNoBody, skip-list}
use Rattle.normal_laws.proofs.structure.numbers.Listed.{IsPlain}
use Rattle.replay_structure.proofs.texts.Listed.{all-behind, sorted-plain}
use Rattle.replay_structure.proofs.texts.Rooted.{ids-apart}
use Rattle.replay_structure.specs.bodies.Laws.{TasksKeepNumbers, has_body, replayed_unit, UnitsAreReplayed, AddedTasksRun}
use Rattle.common_lemmas.proofs.Lists.{all_joined, all_weaker}

-- ---- tasks

own-place : {A : Type 0} (xs ys : List A) (m : ℕ) → slice_get (xs ++ ys) (length xs) ≡ slice_get ys 0
own-place [] ys m = refl
own-place (x ∷ xs) ys m = own-place xs ys m

next-place : {A : Type 0} (xs ys : List A) → slice_get (xs ++ ys) (suc (length xs)) ≡ slice_get ys 1
next-place [] ys = refl
next-place (x ∷ xs) ys = next-place xs ys

pub tasks_keep_numbers : TasksKeepNumbers
tasks_keep_numbers p types numbers = record {
  own = λ t info at. place-more g.numbers.tasks added t info at;
  control = own-place g.numbers.tasks added 0;
  idle = next-place g.numbers.tasks added;
}
  where
    g : Setting
    g = normal_setting p types numbers

    added : List TaskInfo
    added = task_info (replay_names g.program) (added_id g.program control_text) ∷ task_info (replay_names g.program) (added_id g.program idle_text) ∷ []

-- ---- what is passed over

pub plain-no-body : (d : PDecl) → IsPlain d → IsNoBody d
plain-no-body (DTask t sp) h = tt
plain-no-body (DTaskBody w objects its sp) h = absurd h
plain-no-body (DNumber w e sp) h = tt
plain-no-body (DObject ws c x i sp) h = tt
plain-no-body (DEnumeration w ws sp) h = tt
plain-no-body (DArray w r x sp) h = tt
plain-no-body (DSubtype w x sp) h = tt
plain-no-body (DException ws sp) h = tt
plain-no-body (DIntIo w sp) h = tt
plain-no-body (DPragma e sp) h = tt

tasks-no-body : (g : Setting) (ds : List PDecl) → AllByRecursion IsNoBody (map (replay_decl g) (filter is_task ds))
tasks-no-body g [] = tt
tasks-no-body g (DTask t sp ∷ ds) = (tt, tasks-no-body g ds)
tasks-no-body g (DTaskBody w objects its sp ∷ ds) = tasks-no-body g ds
tasks-no-body g (DNumber w e sp ∷ ds) = tasks-no-body g ds
tasks-no-body g (DObject ws c x i sp ∷ ds) = tasks-no-body g ds
tasks-no-body g (DEnumeration w ws sp ∷ ds) = tasks-no-body g ds
tasks-no-body g (DArray w r x sp ∷ ds) = tasks-no-body g ds
tasks-no-body g (DSubtype w x sp ∷ ds) = tasks-no-body g ds
tasks-no-body g (DException ws sp ∷ ds) = tasks-no-body g ds
tasks-no-body g (DIntIo w sp ∷ ds) = tasks-no-body g ds
tasks-no-body g (DPragma e sp ∷ ds) = tasks-no-body g ds

-- ---- bodies

module _ (g : Setting) (name : NameId) where
  -- the unit that is found among bodies that are rewritten
  abbrev among : List PDecl → Unit
  among ds = unit_among (decls_of ds) name

  -- what is made of a body of another name
  other : (w : Word) (objects : PDecls) (its : PBody) (sp : Span) (rest : List PDecl) → (w.name.0 == name.0) ≡ false → among (DTaskBody w objects its sp ∷ rest) ≡ among rest
  other w objects its sp rest e = ap (λ (b : Bool). unwrap_or (if b then Some record { in_main = false; decls = objects; body = its } else None) (among rest)) e

  same : (w : Word) (objects : PDecls) (its : PBody) (sp : Span) (rest : List PDecl) → (w.name.0 == name.0) ≡ true → among (DTaskBody w objects its sp ∷ rest) ≡ record { in_main = false; decls = objects; body = its }
  same w objects its sp rest e = ap (λ (b : Bool). unwrap_or (if b then Some record { in_main = false; decls = objects; body = its } else None) (among rest)) e

  found : (ds : PDecls) (rest : List PDecl) → has_body (decl_list ds) name ≡ true →
      (s : Span) × (among (map (replay_decl g) (filter is_body (decl_list ds)) ++ rest) ≡ replayed_unit g s name (unit_among ds name))
  found no_decl rest h = absurd (true≢false (sym h))
  found (decl_then (DTaskBody w objects its sp) ds) rest h = by_test (w.name.0 == name.0) refl h (found ds rest)
    where
      by_test : (b : Bool) → (w.name.0 == name.0) ≡ b → (b || has_body (decl_list ds) name) ≡ true →
          (has_body (decl_list ds) name ≡ true → (s : Span) × (among (map (replay_decl g) (filter is_body (decl_list ds)) ++ rest) ≡ replayed_unit g s name (unit_among ds name))) →
          (s : Span)
          × (among (replay_decl g (DTaskBody w objects its sp) ∷ map (replay_decl g) (filter is_body (decl_list ds)) ++ rest)
          ≡ replayed_unit g s name (unwrap_or (if w.name.0 == name.0 then Some record { in_main = false; decls = objects; body = its } else None) (unit_among ds name)))
      by_test true e any later =
          let one : w.name ≡ name = (let n : w.name.0 ≡ name.0 = eqb-true w.name.0 name.0 e in λ i. record { 0 = n i }) in
          let objs = decls_of (behind_own g.program.names (permit_declared g.program w.span) (decl_list objects)) in (
            w.span,
            same w objs (replay_body (unit_for g w.name) w.span its) sp (map (replay_decl g) (filter is_body (decl_list ds)) ++ rest) e
                ∙ ap (λ (id : NameId). record { in_main = false; decls = objs; body = replay_body (unit_for g id) w.span its }) one
                ∙ ap (λ (b : Bool). replayed_unit g w.span name (unwrap_or (if b then Some record { in_main = false; decls = objects; body = its } else None) (unit_among ds name))) (sym e),
          )
      by_test false e any later =
          let rest_found = later any in (
            rest_found.0,
            other w _ _ sp (map (replay_decl g) (filter is_body (decl_list ds)) ++ rest) e
                ∙ rest_found.1
                ∙ ap (λ (b : Bool). replayed_unit g rest_found.0 name (unwrap_or (if b then Some record { in_main = false; decls = objects; body = its } else None) (unit_among ds name))) (sym e),
          )
  found (decl_then (DTask t sp) ds) rest h = found ds rest h
  found (decl_then (DNumber w e sp) ds) rest h = found ds rest h
  found (decl_then (DObject ws c x i sp) ds) rest h = found ds rest h
  found (decl_then (DEnumeration w ws sp) ds) rest h = found ds rest h
  found (decl_then (DArray w r x sp) ds) rest h = found ds rest h
  found (decl_then (DSubtype w x sp) ds) rest h = found ds rest h
  found (decl_then (DException ws sp) ds) rest h = found ds rest h
  found (decl_then (DIntIo w sp) ds) rest h = found ds rest h
  found (decl_then (DPragma e sp) ds) rest h = found ds rest h

  -- where there is none, what stands behind is found
  missing : (ds : List PDecl) (rest : List PDecl) → has_body ds name ≡ false → among (map (replay_decl g) (filter is_body ds) ++ rest) ≡ among rest
  missing [] rest h = refl
  missing (DTaskBody w objects its sp ∷ ds) rest h = by_test (w.name.0 == name.0) refl h (missing ds rest)
    where
      by_test : (b : Bool) → (w.name.0 == name.0) ≡ b → (b || has_body ds name) ≡ false → (has_body ds name ≡ false → among (map (replay_decl g) (filter is_body ds) ++ rest) ≡ among rest) →
          among (replay_decl g (DTaskBody w objects its sp) ∷ map (replay_decl g) (filter is_body ds) ++ rest) ≡ among rest
      by_test true e none later = absurd (true≢false none)
      by_test false e none later = other w _ _ sp (map (replay_decl g) (filter is_body ds) ++ rest) e ∙ later none
  missing (DTask t sp ∷ ds) rest h = missing ds rest h
  missing (DNumber w e sp ∷ ds) rest h = missing ds rest h
  missing (DObject ws c x i sp ∷ ds) rest h = missing ds rest h
  missing (DEnumeration w ws sp ∷ ds) rest h = missing ds rest h
  missing (DArray w r x sp ∷ ds) rest h = missing ds rest h
  missing (DSubtype w x sp ∷ ds) rest h = missing ds rest h
  missing (DException ws sp ∷ ds) rest h = missing ds rest h
  missing (DIntIo w sp ∷ ds) rest h = missing ds rest h
  missing (DPragma e sp ∷ ds) rest h = missing ds rest h

  -- only the bodies are looked at
  pub bodies-alone : (s : Span) (ops : List Op) →
      among (replay_decls g s ops) ≡ among (map (replay_decl g) (filter is_body (decl_list g.program.decls)) ++ (control_body g s ops ∷ idle_body g.program s ∷ []))
  bodies-alone s ops =
      let q = g.program in
      let ds = decl_list q.decls in
      let permit = permit_declared q s in
      let plain = filter (λ d. not (is_task d || is_body d)) ds in
      let first = behind_own q.names permit plain in
      let tasks = map (replay_decl g) (filter is_task ds) in
      let control = control_declared q s (last_task g.numbers) ∷ idle_declared q s ∷ [] in
      let bodies = map (replay_decl g) (filter is_body ds) in
      let last = control_body g s ops ∷ idle_body q s ∷ [] in
      ap among (append_assoc (first ++ tasks ++ control) bodies last)
      ∙ skip-list (first ++ tasks ++ control) (bodies ++ last) name
      (all_joined IsNoBody (first ++ tasks) control
      (all_joined IsNoBody first tasks (all-behind IsNoBody q.names permit plain tt (all_weaker IsPlain IsNoBody plain plain-no-body (sorted-plain ds))) (tasks-no-body g ds))
      (tt, (tt, tt)))

-- ---- the program

-- the unit of a task that has that name
pub unit-at : (p : PProgram) (numbers : Numbering) (t : ℕ) (info : TaskInfo) → task_at numbers (suc t) ≡ Some info → unit_of p numbers (suc t) ≡ unit_among p.decls info.unit
unit-at p numbers t info at =
    ap (λ (b : Bool). if b then record { in_main = true; decls = p.decls; body = p.body } else unit_of_info p (task_at numbers (suc t))) (let e : (suc t == 0) ≡ false = grind (arith, nat_tests) in e)
    ∙ ap (unit_of_info p) at

pub units_are_replayed : UnitsAreReplayed
units_are_replayed p types numbers ops t info at there =
    let g = normal_setting p types numbers in
    let n = g.program in
    let s = n.name.span in
    let f = found g info.unit n.decls (control_body g s ops ∷ idle_body n s ∷ []) there in (
      f.0,
      unit-at (replay_of g ops) (numbers_replayed g) t info ((tasks_keep_numbers p types numbers).own (suc t) info at)
          ∙ bodies-alone g info.unit s ops
          ∙ f.1
          ∙ ap (replayed_unit g f.0 info.unit) (sym (unit-at n g.numbers t info at)),
    )

pub added_tasks_run : AddedTasksRun
added_tasks_run p types numbers ops no_control no_idle = record {
  control =
      unit-at (replay_of g ops) (numbers_replayed g) (last_task g.numbers) _ (tasks_keep_numbers p types numbers).control
      ∙ bodies-alone g control s ops
      ∙ missing g control (decl_list n.decls) last no_control
      ∙ same g control (added_word n s control_text) _ _ s (idle_body n s ∷ []) (eq-eqb control.0 control.0 refl);
  idle =
      unit-at (replay_of g ops) (numbers_replayed g) (suc (last_task g.numbers)) _ (tasks_keep_numbers p types numbers).idle
      ∙ bodies-alone g idle s ops
      ∙ missing g idle (decl_list n.decls) last no_idle
      ∙ other g idle (added_word n s control_text) _ _ s (idle_body n s ∷ []) (ids-apart n control_text idle_text refl refl (λ e. cc))
      ∙ same g idle (added_word n s idle_text) _ _ s [] (eq-eqb idle.0 idle.0 refl);
}
  where
    g : Setting
    g = normal_setting p types numbers

    n : PProgram
    n = g.program

    s : Span
    s = n.name.span

    control : NameId
    control = added_id n control_text

    idle : NameId
    idle = added_id n idle_text

    last : List PDecl
    last = control_body g s ops ∷ idle_body n s ∷ []

-- The bodies that the tasks of a normal form run.
use Rattle.std.proofs.Common.{◌≡◌, ℕ, zero, suc, ◌==◌, Bool, true, false, cond, if◌then◌else◌, List, [], ◌∷◌, ◌++◌, map, flat_map, drop, slice_get, option_map, unwrap_or, is_some, Option, Some, None, refl, sym, ap, ◌∙◌, append_assoc, true≢false, arith}
use Rattle.std.specs.List.{AllByRecursion, filter}
use Rattle.std.proofs.lemmas.Bool.{eqb-true, eq-eqb, ne_eqb}
use Rattle.std.proofs.lemmas.Option.{none-some}
use Rattle.ada_tree.specs.declared.naming.NameId.{NameId}
use Rattle.ada_tree.specs.declared.naming.Span.{Span}
use Rattle.ada_tree.specs.declared.naming.Word.{Word}
use Rattle.ada_tree.specs.PlainStmt.{PBody}
use Rattle.ada_tree.specs.PlainDecl.{PTask, PDecl, DNumber, DObject, DEnumeration, DArray, DSubtype, DException, DIntIo, DPragma, DTask, DTaskBody, PDecls, no_decl, decl_then, decls_of}
use Rattle.ada_tree.specs.PlainProgram.{PProgram}
use Rattle.syn_event.specs.declared.numbering.TaskInfo.{TaskInfo}
use Rattle.syn_event.specs.Numbering.{Numbering, task_at}
use Rattle.syn_event.specs.AddedNames.{task_info}
use Rattle.syn_event.specs.NamedTasks.{type_named, with_type}
use Rattle.syn_event.specs.DeclaredTasks.{decl_list}
use Rattle.task_model.specs.Setting.{Setting}
use Rattle.task_model.specs.Starting.{Unit, unit_among, unit_of_info, unit_of}
use Rattle.normal_model.specs.Names.{task_name}
use Rattle.normal_model.specs.NormalStmts.{normal_body, unit_variables}
use Rattle.normal_model.specs.NormalTree.{mark_of, unless_left, decls_front, first_decls, tasks_beside, task_under, declared_under, task_declared, unit_for, body_copy, bodies_of, main_unit, main_variables, normal_tree}
use Rattle.normal_laws.specs.structure.types.Laws.{setting_of}
use Rattle.normal_laws.proofs.structure.types.Variables.{all-flat, unit-all}
use Rattle.normal_laws.specs.structure.units.Laws.{numbers_made, normal_unit, unit_made, UnitsAreRewritten}
use Rattle.normal_laws.proofs.structure.units.Tasks.{Tell, tell-at, tasks_keep_numbers}
use Rattle.common_lemmas.proofs.Numbers.{unequal_turned}
use Rattle.common_lemmas.proofs.Options.{some_same}

-- ---- what is passed over

-- no body
abbrev pub IsNoBody : PDecl → Type 0
IsNoBody (DTaskBody w objects its s) = ⊥
IsNoBody _ = Prim.Unit {0}

pub skip-one : (d : PDecl) (rest : PDecls) (n : NameId) → IsNoBody d → unit_among (decl_then d rest) n ≡ unit_among rest n
skip-one (DTaskBody w objects its s) rest n h = absurd h
skip-one (DTask t s) rest n h = refl
skip-one (DNumber w e s) rest n h = refl
skip-one (DObject ws c x i s) rest n h = refl
skip-one (DEnumeration w ws s) rest n h = refl
skip-one (DArray w r x s) rest n h = refl
skip-one (DSubtype w x s) rest n h = refl
skip-one (DException ws s) rest n h = refl
skip-one (DIntIo w s) rest n h = refl
skip-one (DPragma e s) rest n h = refl

pub skip-list : (xs ys : List PDecl) (n : NameId) → AllByRecursion IsNoBody xs → unit_among (decls_of (xs ++ ys)) n ≡ unit_among (decls_of ys) n
skip-list [] ys n h = refl
skip-list (x ∷ xs) ys n h = skip-one x (decls_of (xs ++ ys)) n h.0 ∙ skip-list xs ys n h.1

-- the first declarations are no bodies
skip-first : (ds : PDecls) (kinds : List PTask) (rest : PDecls) (n : NameId) → unit_among (decls_front (first_decls kinds ds) rest) n ≡ unit_among rest n
skip-first no_decl kinds rest n = refl
skip-first (decl_then (DTask t s) ds) kinds rest n = skip-first ds (with_type kinds t.of_kind t) rest n
skip-first (decl_then (DTaskBody w objects its s) ds) kinds rest n = skip-first ds kinds rest n
skip-first (decl_then (DObject ws c x i s) ds) kinds rest n = by_test (is_some (type_named kinds (mark_of x))) (skip-first ds kinds rest n)
  where
    by_test : (b : Bool) → unit_among (decls_front (first_decls kinds ds) rest) n ≡ unit_among rest n →
        unit_among (decls_front (unless_left b (DObject ws c x i s) (first_decls kinds ds)) rest) n ≡ unit_among rest n
    by_test true e = e
    by_test false e = e
skip-first (decl_then (DNumber w e s) ds) kinds rest n = skip-first ds kinds rest n
skip-first (decl_then (DEnumeration w ws s) ds) kinds rest n = skip-first ds kinds rest n
skip-first (decl_then (DArray w r x s) ds) kinds rest n = skip-first ds kinds rest n
skip-first (decl_then (DSubtype w x s) ds) kinds rest n = skip-first ds kinds rest n
skip-first (decl_then (DException ws s) ds) kinds rest n = skip-first ds kinds rest n
skip-first (decl_then (DIntIo w s) ds) kinds rest n = skip-first ds kinds rest n
skip-first (decl_then (DPragma e s) ds) kinds rest n = skip-first ds kinds rest n

under-no-body : (unit name : NameId) (d : PDecl) → AllByRecursion IsNoBody (declared_under unit name d)
under-no-body unit name (DTask t s) = by_test (t.name.name.0 == unit.0)
  where
    by_test : (b : Bool) → AllByRecursion IsNoBody (if b then DTask (task_under name t) s ∷ [] else [])
    by_test true = (tt, tt)
    by_test false = tt
under-no-body unit name (DTaskBody w objects its s) = tt
under-no-body unit name (DNumber w e s) = tt
under-no-body unit name (DObject ws c x i s) = tt
under-no-body unit name (DEnumeration w ws s) = tt
under-no-body unit name (DArray w r x s) = tt
under-no-body unit name (DSubtype w x s) = tt
under-no-body unit name (DException ws s) = tt
under-no-body unit name (DIntIo w s) = tt
under-no-body unit name (DPragma e s) = tt

tasks-no-body : (g : Setting) → AllByRecursion IsNoBody (flat_map (task_declared g) (tasks_beside g))
tasks-no-body g = all-flat IsNoBody (task_declared g) (λ i. all-flat IsNoBody (declared_under i.unit (task_name g i)) (under-no-body i.unit (task_name g i)) (decl_list g.program.decls)) (tasks_beside g)

-- ---- copies of a body

-- what each copy of a body has
abbrev copied : Setting → Word → PDecls → PBody → Unit
copied g w objects its = record { in_main = false; decls = decls_front objects (decls_of (unit_variables (unit_for g w.name) its)); body = normal_body (unit_for g w.name) its }

-- a copy of a body for a task
abbrev copy_for : Setting → Word → PDecls → PBody → Span → TaskInfo → PDecl
copy_for g w objects its s i = body_copy g w objects (unit_variables (unit_for g w.name) its) (normal_body (unit_for g w.name) its) (λ ds b name. DTaskBody name ds b s) i

-- the copies for those of some tasks that run the body
abbrev copies : Setting → Word → PDecls → PBody → Span → List TaskInfo → List PDecl
copies g w objects its s infos = map (copy_for g w objects its s) (filter (λ (i : TaskInfo). i.unit.0 == w.name.0) infos)

module _ (g : Setting) (info : TaskInfo) (w : Word) (objects : PDecls) (its : PBody) (s : Span) where
  -- what is found among the copies and what stands behind them, by the tests whether a task runs the body and has the name
  found-copy : (infos : List TaskInfo) (t : ℕ) (rest : List PDecl) → slice_get infos t ≡ Some info → (info.unit.0 == w.name.0) ≡ true →
      unit_among (decls_of (copies g w objects its s infos ++ rest)) (task_name g info) ≡ copied g w objects its
  found-copy [] t rest at runs = absurd (none-some info at)
  found-copy (i ∷ infos) t rest at runs = by_run (i.unit.0 == w.name.0) refl t at (λ k e. found-copy infos k rest e runs)
    where
      by_name : (b : Bool) → ((task_name g i).0 == (task_name g info).0) ≡ b → (t : ℕ) → slice_get (i ∷ infos) t ≡ Some info →
          ((k : ℕ) → slice_get infos k ≡ Some info → unit_among (decls_of (copies g w objects its s infos ++ rest)) (task_name g info) ≡ copied g w objects its) →
          unwrap_or (if b then Some (copied g w objects its) else None) (unit_among (decls_of (copies g w objects its s infos ++ rest)) (task_name g info)) ≡ copied g w objects its
      by_name true e t at later = refl
      by_name false e zero at later = absurd (true≢false (sym (eq-eqb _ _ refl) ∙ ap (λ (x : TaskInfo). (task_name g i).0 == (task_name g x).0) (some_same at) ∙ e))
      by_name false e (suc k) at later = later k at

      by_run : (b : Bool) → (i.unit.0 == w.name.0) ≡ b → (t : ℕ) → slice_get (i ∷ infos) t ≡ Some info →
          ((k : ℕ) → slice_get infos k ≡ Some info → unit_among (decls_of (copies g w objects its s infos ++ rest)) (task_name g info) ≡ copied g w objects its) →
          unit_among (decls_of (map (copy_for g w objects its s) (cond b (i ∷ filter (λ (x : TaskInfo). x.unit.0 == w.name.0) infos) (filter (λ (x : TaskInfo). x.unit.0 == w.name.0) infos)) ++ rest)) (task_name g info) ≡ copied g w objects its
      by_run true e t at later = by_name ((task_name g i).0 == (task_name g info).0) refl t at later
      by_run false e zero at later = absurd (true≢false (sym runs ∙ ap (λ (x : TaskInfo). x.unit.0 == w.name.0) (sym (some_same at)) ∙ e))
      by_run false e (suc k) at later = later k at

  -- copies of another body are passed over
  other-copies : (infos : List TaskInfo) (rest : List PDecl) → Tell g info infos → (info.unit.0 == w.name.0) ≡ false →
      unit_among (decls_of (copies g w objects its s infos ++ rest)) (task_name g info) ≡ unit_among (decls_of rest) (task_name g info)
  other-copies [] rest tell runs = refl
  other-copies (i ∷ infos) rest tell runs = by_run (i.unit.0 == w.name.0) refl (other-copies infos rest tell.1 runs)
    where
      by_name : (b : Bool) → ((task_name g i).0 == (task_name g info).0) ≡ b → (i.unit.0 == w.name.0) ≡ true →
          unit_among (decls_of (copies g w objects its s infos ++ rest)) (task_name g info) ≡ unit_among (decls_of rest) (task_name g info) →
          unwrap_or (if b then Some (copied g w objects its) else None) (unit_among (decls_of (copies g w objects its s infos ++ rest)) (task_name g info)) ≡ unit_among (decls_of rest) (task_name g info)
      by_name true e own later = absurd (true≢false (sym own ∙ ap (λ n. n == w.name.0) (sym (tell.0 (sym (eqb-true _ _ e)))) ∙ runs))
      by_name false e own later = later

      by_run : (b : Bool) → (i.unit.0 == w.name.0) ≡ b → unit_among (decls_of (copies g w objects its s infos ++ rest)) (task_name g info) ≡ unit_among (decls_of rest) (task_name g info) →
          unit_among (decls_of (map (copy_for g w objects its s) (cond b (i ∷ filter (λ (x : TaskInfo). x.unit.0 == w.name.0) infos) (filter (λ (x : TaskInfo). x.unit.0 == w.name.0) infos)) ++ rest)) (task_name g info)
          ≡ unit_among (decls_of rest) (task_name g info)
      by_run true e later = by_name ((task_name g i).0 == (task_name g info).0) refl e later
      by_run false e later = later

module _ (g : Setting) (info : TaskInfo) (t : ℕ) (at : slice_get (tasks_beside g) t ≡ Some info) (tell : Tell g info (tasks_beside g)) where
  -- the rewriting of a body
  body-found : (ds : PDecls) → unit_among (decls_of (flat_map (bodies_of g) (decl_list ds))) (task_name g info) ≡ normal_unit g info.unit (unit_among ds info.unit)
  body-found no_decl = refl
  body-found (decl_then (DTaskBody w objects its s) rest) = by_test (w.name.0 == info.unit.0) refl (body-found rest)
    where
      by_test : (b : Bool) → (w.name.0 == info.unit.0) ≡ b →
          unit_among (decls_of (flat_map (bodies_of g) (decl_list rest))) (task_name g info) ≡ normal_unit g info.unit (unit_among rest info.unit) →
          unit_among (decls_of (copies g w objects its s (tasks_beside g) ++ flat_map (bodies_of g) (decl_list rest))) (task_name g info)
          ≡ normal_unit g info.unit (unwrap_or (if b then Some record { in_main = false; decls = objects; body = its } else None) (unit_among rest info.unit))
      by_test true e later =
          found-copy g info w objects its s (tasks_beside g) t (flat_map (bodies_of g) (decl_list rest)) at (eq-eqb _ _ (sym (eqb-true _ _ e)))
          ∙ ap (λ n. normal_unit g record { 0 = n } record { in_main = false; decls = objects; body = its }) (eqb-true _ _ e)
      by_test false e later = other-copies g info w objects its s (tasks_beside g) (flat_map (bodies_of g) (decl_list rest)) tell (unequal_turned w.name.0 info.unit.0 e) ∙ later
  body-found (decl_then (DTask x s) rest) = body-found rest
  body-found (decl_then (DNumber w e s) rest) = body-found rest
  body-found (decl_then (DObject ws c x i s) rest) = body-found rest
  body-found (decl_then (DEnumeration w ws s) rest) = body-found rest
  body-found (decl_then (DArray w r x s) rest) = body-found rest
  body-found (decl_then (DSubtype w x s) rest) = body-found rest
  body-found (decl_then (DException ws s) rest) = body-found rest
  body-found (decl_then (DIntIo w s) rest) = body-found rest
  body-found (decl_then (DPragma e s) rest) = body-found rest

-- ---- units

beside-place : (xs : List TaskInfo) (t : ℕ) → slice_get xs (suc t) ≡ slice_get (drop 1 xs) t
beside-place [] t = refl
beside-place (x ∷ xs) t = refl

not-main : (p : PProgram) (numbers : Numbering) (t : ℕ) → unit_of p numbers (suc t) ≡ unit_of_info p (task_at numbers (suc t))
not-main p numbers t =
    ap (λ b. if b then record { in_main = true; decls = p.decls; body = p.body } else unit_of_info p (task_at numbers (suc t))) (ne_eqb (suc t) 0 (λ e. let y : ⊥ = omega arith in y))

pub units_are_rewritten : UnitsAreRewritten
units_are_rewritten p types numbers tell t =
    not-main (normal_tree p types numbers) (numbers_made p types numbers) t
    ∙ ap (unit_of_info (normal_tree p types numbers)) (tasks_keep_numbers p types numbers tell t)
    ∙ by_place (slice_get (tasks_beside (setting_of p types numbers)) t) refl
    ∙ ap (unit_made (setting_of p types numbers) (slice_get (tasks_beside (setting_of p types numbers)) t)) (ap (unit_of_info p) (sym (beside-place numbers.tasks t)) ∙ sym (not-main p numbers t))
  where
    by_place : (o : Option TaskInfo) → slice_get (tasks_beside (setting_of p types numbers)) t ≡ o →
        unit_of_info (normal_tree p types numbers) (option_map (λ info. task_info (normal_tree p types numbers).names (task_name (setting_of p types numbers) info)) o)
        ≡ unit_made (setting_of p types numbers) o (unit_of_info p o)
    by_place None e = refl
    by_place (Some info) e =
        let g = setting_of p types numbers in
        let n = task_name g info in
        let tasks = flat_map (task_declared g) (tasks_beside g) in
        let bodies = flat_map (bodies_of g) (decl_list p.decls) in
        skip-first p.decls [] (decls_of (main_variables g ++ tasks ++ bodies)) n
        ∙ ap (λ l. unit_among (decls_of l) n) (append_assoc (main_variables g) tasks bodies)
        ∙ skip-list (main_variables g) (tasks ++ bodies) n (unit-all IsNoBody (main_unit g) (λ sp x k. tt) p.body)
        ∙ skip-list tasks bodies n (tasks-no-body g)
        ∙ body-found g info t e (tell-at g info (tasks_beside g) (tasks_beside g) t e tell.named) p.decls

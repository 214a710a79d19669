-- Each task beside main of a legal program's collecting text runs what becomes of the body that it runs in the normal form.
use Rattle.std.proofs.Common.{◌≡◌, ℕ, suc, ◌==◌, ◌+◌, not, cond, if◌then◌else◌, Bool, true, false, List, [], ◌∷◌, ◌++◌, map, slice_get, unwrap_or, option_map, Option, Some, None, refl, sym, ap, subst, ◌∙◌}
use Rattle.std.specs.List.{AllByRecursion, list_any, prefix_len}
use Rattle.std.proofs.lemmas.Option.{none-some, slice_get-map}
use Rattle.common_lemmas.proofs.Lists.{all_front, all_back}
use Rattle.common_lemmas.proofs.Options.{some_same}
use Rattle.ada_tree.specs.declared.naming.NameId.{NameId}
use Rattle.ada_tree.specs.declared.naming.Span.{Span}
use Rattle.ada_tree.specs.PlainDecl.{PTask, DNumber, DObject, DEnumeration, DArray, DSubtype, DException, DIntIo, DPragma, DTask, DTaskBody, PDecls, no_decl, decl_then}
use Rattle.ada_tree.specs.PlainProgram.{PProgram}
use Rattle.ada_static_rules.specs.Refusals.{types_in}
use Rattle.syn_event.specs.declared.numbering.Mode.TheVariants.{Any}
use Rattle.syn_event.specs.declared.numbering.TaskInfo.{TaskInfo}
use Rattle.syn_event.specs.CheckScope.{CheckScope, CheckSite}
use Rattle.syn_event.specs.CheckSites as check
use Rattle.syn_event.specs.Numbering.{Numbering, task_at}
use Rattle.syn_event.specs.AddedNames.{task_info}
use Rattle.syn_event.specs.DeclaredTasks.{decl_list, tasks_in, tasks_of}
use Rattle.task_model.specs.Setting.{Setting}
use Rattle.task_model.specs.Starting.{unit_of}
use Rattle.task_laws.specs.legal.sites.Met.{IsCheckMet}
use Rattle.task_laws.proofs.legal.sites.Meeting.{all_check_met}
use Rattle.task_laws.proofs.legal.rewritten_types.Lookups.{place-all}
use Rattle.normal_model.specs.Names.{task_name}
use Rattle.normal_model.specs.NormalTree.{tasks_beside, first_running, main_unit}
use Rattle.normal_laws.proofs.structure.units.Tasks.{tasks_keep_numbers}
use Rattle.normal_laws.specs.runs.forms.Normalisable.{made_for, numbers_of, setting_for}
use Rattle.normal_laws.proofs.legality.Legal.{normal_is_legal}
use Rattle.normal_laws.specs.existence.Laws.{IsLegalOriginal}
use Rattle.replay_structure.specs.bodies.Laws.{has_body}
use Rattle.replay_structure.proofs.bodies.Bodies.{unit-at}
use Rattle.replay_structure.proofs.legal.names.form_units.Entries.{tell, unit-numbered}
use Rattle.replay_structure.proofs.legal.names.form_units.OpForms.{at-place}
use Rattle.replay_runs.specs.starts.Laws.{form_in}
use Rattle.collect_model.specs.Teller.{Teller, task_of, teller_in}
use Rattle.collect_model.specs.CollectTree.{recorder_body_told}
use Rattle.collect_runs.specs.starts.Texts.{text_for, text_setting}
use Rattle.collect_runs.proofs.forms.Bodies.{told_unit, found, bodies-alone}
use Rattle.collect_runs.proofs.forms.Formals.{task-stays}
use Rattle.replay_runs.proofs.starts.Bodies.{body-there}
use Rattle.normal_laws.proofs.structure.numbers.Origins.{place-alike as position-same}

pub bodies-there : (ds : PDecls) (ts : List PTask) → AllByRecursion (λ (t : PTask). list_any (λ n. n == t.name.name.0) (check.body_names ds) ≡ true) ts → AllByRecursion (λ (t : PTask). has_body (decl_list ds) t.name.name ≡ true) ts
bodies-there ds [] h = tt
bodies-there ds (t ∷ ts) h = (body-there ds t.name.name ∙ h.0, bodies-there ds ts h.1)

-- tests that agree on all elements find the same place
before-same : {A : Type 0} (f g : A → Bool) (xs : List A) → AllByRecursion (λ x. f x ≡ g x) xs → prefix_len (λ y. not (f y)) xs ≡ prefix_len (λ y. not (g y)) xs
before-same f g [] h = refl
before-same f g (x ∷ xs) h = λ i. cond (not (h.0 i)) (1 + before-same f g xs h.1 i) 0

module _ (p : PProgram) (h : IsLegalOriginal p) where
  abbrev q : PProgram
  q = made_for p

  abbrev F : Numbering
  F = (form_in p).numbers

  abbrev G : Setting
  G = setting_for p

  abbrev x : Teller
  x = teller_in (main_unit (form_in p))

  abbrev M : CheckSite → Type 0
  M = IsCheckMet Any (made_for p).names

  -- each task has a body
  pub bodies-of : (bodies : List ℕ) (ds : PDecls) (c : CheckScope) → AllByRecursion M (check.decls_sites c bodies ds) → AllByRecursion (λ (t : PTask). list_any (λ n. n == t.name.name.0) bodies ≡ true) (tasks_in (decl_list ds))
  bodies-of bodies no_decl c m = tt
  bodies-of bodies (decl_then (DTask t s) rest) c m = (
    there (list_any (λ n. n == t.name.name.0) bodies) s (all_front M (check.decl_sites c bodies (DTask t s)) (check.decls_sites (check.after_decl c (DTask t s)) bodies rest) m).0.bodies,
    bodies-of bodies rest (check.after_decl c (DTask t s)) (all_back M (check.decl_sites c bodies (DTask t s)) (check.decls_sites (check.after_decl c (DTask t s)) bodies rest) m),
  )
    where
      there : (b : Bool) (s : Span) → (if b then [] else s ∷ []) ≡ [] → b ≡ true
      there true s e = refl
      there false s e = cc
  bodies-of bodies (decl_then (DTaskBody w objects its s) rest) c m = bodies-of bodies rest (check.after_decl c (DTaskBody w objects its s)) (all_back M (check.decl_sites c bodies (DTaskBody w objects its s)) (check.decls_sites (check.after_decl c (DTaskBody w objects its s)) bodies rest) m)
  bodies-of bodies (decl_then (DNumber w e s) rest) c m = bodies-of bodies rest (check.after_decl c (DNumber w e s)) (all_back M (check.decl_sites c bodies (DNumber w e s)) (check.decls_sites (check.after_decl c (DNumber w e s)) bodies rest) m)
  bodies-of bodies (decl_then (DObject ws k y i s) rest) c m = bodies-of bodies rest (check.after_decl c (DObject ws k y i s)) (all_back M (check.decl_sites c bodies (DObject ws k y i s)) (check.decls_sites (check.after_decl c (DObject ws k y i s)) bodies rest) m)
  bodies-of bodies (decl_then (DEnumeration w ws s) rest) c m = bodies-of bodies rest (check.after_decl c (DEnumeration w ws s)) (all_back M (check.decl_sites c bodies (DEnumeration w ws s)) (check.decls_sites (check.after_decl c (DEnumeration w ws s)) bodies rest) m)
  bodies-of bodies (decl_then (DArray w i y s) rest) c m = bodies-of bodies rest (check.after_decl c (DArray w i y s)) (all_back M (check.decl_sites c bodies (DArray w i y s)) (check.decls_sites (check.after_decl c (DArray w i y s)) bodies rest) m)
  bodies-of bodies (decl_then (DSubtype w y s) rest) c m = bodies-of bodies rest (check.after_decl c (DSubtype w y s)) (all_back M (check.decl_sites c bodies (DSubtype w y s)) (check.decls_sites (check.after_decl c (DSubtype w y s)) bodies rest) m)
  bodies-of bodies (decl_then (DException ws s) rest) c m = bodies-of bodies rest (check.after_decl c (DException ws s)) (all_back M (check.decl_sites c bodies (DException ws s)) (check.decls_sites (check.after_decl c (DException ws s)) bodies rest) m)
  bodies-of bodies (decl_then (DIntIo w s) rest) c m = bodies-of bodies rest (check.after_decl c (DIntIo w s)) (all_back M (check.decl_sites c bodies (DIntIo w s)) (check.decls_sites (check.after_decl c (DIntIo w s)) bodies rest) m)
  bodies-of bodies (decl_then (DPragma e s) rest) c m = bodies-of bodies rest (check.after_decl c (DPragma e s)) (all_back M (check.decl_sites c bodies (DPragma e s)) (check.decls_sites (check.after_decl c (DPragma e s)) bodies rest) m)

  pub declared : AllByRecursion (λ (t : PTask). has_body (decl_list q.decls) t.name.name ≡ true) (tasks_of q)
  declared = bodies-there q.decls (tasks_of q) (bodies-of (check.body_names q.decls) q.decls (check.around_program q) decls-checked)
    where
      decls-checked : AllByRecursion M (check.decls_sites (check.around_program q) (check.body_names q.decls) q.decls)
      decls-checked =
          let decls = check.decls_sites (check.around_program q) (check.body_names q.decls) q.decls in
          let its_body = check.body_sites (check.after_decls (check.around_program q) q.decls) 1 q.body in
          all_front M decls its_body (all_front M (decls ++ its_body) (check.counted_sites (check.around_program q) q) (all_check_met q Any (normal_is_legal p h).check_rules).1)

  pub body-of : (t : ℕ) (info : TaskInfo) → task_at F (suc t) ≡ Some info → has_body (decl_list q.decls) info.unit ≡ true
  body-of t info at = go (slice_get (tasks_of q) t) refl
    where
      go : (o : Option PTask) → slice_get (tasks_of q) t ≡ o → has_body (decl_list q.decls) info.unit ≡ true
      go None e = absurd (none-some info (sym (slice_get-map (λ (k : PTask). task_info q.names k.name.name) (tasks_of q) t ∙ ap (option_map (λ (k : PTask). task_info q.names k.name.name)) e) ∙ at))
      go (Some k) e =
          let same : task_info q.names k.name.name ≡ info = some_same (sym (slice_get-map (λ (z : PTask). task_info q.names z.name.name) (tasks_of q) t ∙ ap (option_map (λ (z : PTask). task_info q.names z.name.name)) e) ∙ at) in
          subst (λ (i : TaskInfo). has_body (decl_list q.decls) i.unit ≡ true) same (place-all (λ (z : PTask). has_body (decl_list q.decls) z.name.name ≡ true) (tasks_of q) t k declared e)

  -- ---- the number of a task

  abbrev K : Setting
  K = form_in p

  first-is : (t : ℕ) (info : TaskInfo) → task_at F (suc t) ≡ Some info → first_running K info.unit ≡ suc t
  first-is t info at = by_place (slice_get (tasks_beside G) t) refl
    where
      kept : task_at F (suc t) ≡ option_map (λ (z : TaskInfo). task_info q.names (task_name G z)) (slice_get (tasks_beside G) t)
      kept = tasks_keep_numbers p (types_in p) (numbers_of p) (tell p h) t

      by_place : (o : Option TaskInfo) → slice_get (tasks_beside G) t ≡ o → first_running K info.unit ≡ suc t
      by_place None e = absurd (none-some info (sym (ap (option_map (λ (z : TaskInfo). task_info q.names (task_name G z))) e) ∙ sym kept ∙ at))
      by_place (Some z) e =
          let same : task_info q.names (task_name G z) ≡ info = some_same (sym (kept ∙ ap (option_map (λ (y : TaskInfo). task_info q.names (task_name G y))) e) ∙ at) in
          ap (λ (y : TaskInfo). first_running K y.unit) (sym same) ∙ unit-numbered p h t z (at-place z (tasks_beside G) t e) e

  infos-same : (id : NameId) (ts : List PTask) → AllByRecursion (λ (i : TaskInfo). (i.name.0 == id.0) ≡ (i.unit.0 == id.0)) (map (λ (k : PTask). task_info q.names k.name.name) ts)
  infos-same id [] = tt
  infos-same id (k ∷ ts) = (refl, infos-same id ts)

  task-is : (t : ℕ) (info : TaskInfo) → task_at F (suc t) ≡ Some info → task_of F info.unit ≡ suc t
  task-is t info at =
      ap (λ (o : Option ℕ). unwrap_or o 0) (position-same (λ (i : TaskInfo). i.name.0 == info.unit.0) (λ (i : TaskInfo). i.unit.0 == info.unit.0) F.tasks (refl, infos-same info.unit (tasks_of q)))
      ∙ first-is t info at

  -- ---- the unit

  -- It runs what becomes of its body.
  pub legal_runs_told : (t : ℕ) (info : TaskInfo) → task_at F (suc t) ≡ Some info →
      (s : Span) × (unit_of (text_for p) (text_setting p).numbers (suc t) ≡ told_unit x q.names info.unit s (unit_of q F (suc t))) × (task_of F info.unit ≡ suc t)
  legal_runs_told t info at =
      let one = found x q.names info.unit q.decls (recorder_body_told x q ∷ []) (body-of t info at) in (
        one.0,
        unit-at (text_for p) (text_setting p).numbers t info (task-stays p h (suc t) info at)
            ∙ bodies-alone x q info.unit
            ∙ one.1
            ∙ ap (told_unit x q.names info.unit one.0) (sym (unit-at q F t info at)),
        task-is t info at,
      )

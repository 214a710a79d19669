-- The operations of a controller, of a legal program and of known events, have literals; and each task beside main is a single one there.
use Rattle.std.proofs.Common.{◌≡◌, ℕ, zero, suc, ◌≤◌, Bool, true, List, [], ◌∷◌, length, drop, flat_map, slice_get, option_map, Option, Some, None, refl, sym, ap, ◌∙◌, subst, arith}
use Rattle.std.specs.List.{AllByRecursion}
use Rattle.std.proofs.lemmas.List.{length-map}
use Rattle.common_lemmas.proofs.Options.{some_same}
use Rattle.common_lemmas.proofs.Lists.{all_by_place}
use Rattle.event_machine.specs.declared.Event.{Event}
use Rattle.ada_tree.specs.declared.naming.NameId.{NameId}
use Rattle.ada_tree.specs.PlainDecl.{PDecl, decls_of}
use Rattle.ada_tree.specs.PlainProgram.{PProgram}
use Rattle.ada_static_rules.specs.Refusals.{types_in}
use Rattle.ada_static_rules.specs.Scope.{Scope, meaning}
use Rattle.ada_static_rules.specs.Declaring.{after_decls}
use Rattle.syn_event.specs.declared.numbering.TaskInfo.{TaskInfo}
use Rattle.syn_event.specs.AddedNames.{task_info}
use Rattle.syn_event.specs.Numbering.{task_at, owner_of}
use Rattle.syn_event.specs.NamedTasks.{task_names_of}
use Rattle.syn_event.specs.DeclaredTasks.{decl_list, tasks_of}
use Rattle.task_model.specs.Setting.{Setting}
use Rattle.normal_model.specs.Names.{task_name}
use Rattle.normal_model.specs.NormalTree.{tasks_beside, bodies_of}
use Rattle.normal_laws.proofs.structure.units.Tasks.{tasks_keep_numbers}
use Rattle.normal_laws.specs.runs.forms.Normalisable.{numbers_of}
use Rattle.normal_laws.specs.structure.asked.Pieces.{IsAmong, first_among, later_among}
use Rattle.normal_laws.specs.existence.Laws.{IsLegalOriginal}
use Rattle.normal_laws.proofs.legality.scopes.Formed.{bodies-other, all-bodies}
use Rattle.normal_laws.proofs.legality.scopes.Main.{g, old, last, first, tasked, tasked-there}
use Rattle.replay_structure.specs.checkable.Prepared.{form_for}
use Rattle.replay_model.specs.ReplayTree.{script_of}
use Rattle.replay_structure.specs.placed.Placeable.{HasLiterals}
use Rattle.replay_structure.specs.scopes.Form.{IsSingleTask}
use Rattle.replay_structure.proofs.placed.Scripted.{script-literals}
use Rattle.replay_structure.specs.legal.known.Laws.{AreKnown}
use Rattle.replay_structure.proofs.legal.fits.Counted.{tasks-within}
use Rattle.replay_structure.proofs.legal.known.Known.{known_have_literals}
use Rattle.replay_structure.proofs.legal.Prepared.{few-tasks}
use Rattle.replay_structure.proofs.legal.names.form_units.Seen.{entries_of_task}
use Rattle.replay_structure.proofs.legal.names.form_units.Entries.{tell}

-- what stands at a place of a list is in it
pub at-place : {A : Type 0} (x : A) (xs : List A) (k : ℕ) → slice_get xs k ≡ Some x → IsAmong x xs
at-place x [] k e = cc
at-place x (y ∷ xs) zero e = subst (λ z. IsAmong x (z ∷ xs)) (sym (some_same e)) (first_among xs)
at-place x (y ∷ xs) (suc k) e = later_among y xs (at-place x xs k e)

module _ (p : PProgram) (h : IsLegalOriginal p) where
  abbrev G : Setting
  G = g p h

  abbrev F : Setting
  F = form_for p

  abbrev bodies : List PDecl
  bodies = flat_map (bodies_of G) (decl_list p.decls)

  -- the scope behind all declarations of the normal form
  abbrev behind : Scope
  behind = after_decls (tasked p h) (decls_of bodies)

  -- ---- tasks

  -- the tasks beside main keep their numbers, under the names that they have in the normal form
  abbrev info_of : TaskInfo → TaskInfo
  info_of i = task_info F.program.names (task_name G i)

  module _ (old_names : ℕ → Bool) (named : (info : TaskInfo) → IsAmong info (tasks_beside G) → old_names (task_name G info).0 ≡ true) where
    single-at : (k : ℕ) (info : TaskInfo) → slice_get (drop 1 F.numbers.tasks) k ≡ Some info → IsSingleTask old_names behind info
    single-at k info at = by_place (slice_get (tasks_beside G) k) refl
      where
        kept : task_at F.numbers (suc k) ≡ option_map info_of (slice_get (tasks_beside G) k)
        kept = tasks_keep_numbers p (types_in p) (numbers_of p) (tell p h) k

        by_place : (o : Option TaskInfo) → slice_get (tasks_beside G) k ≡ o → IsSingleTask old_names behind info
        by_place None e = let never : Some info ≡ None = sym at ∙ kept ∙ ap (option_map info_of) e in cc
        by_place (Some i) e =
            let same : Some info ≡ Some (info_of i) = sym at ∙ kept ∙ ap (option_map info_of) e in
            let name : info.name ≡ task_name G i = ap (λ (x : TaskInfo). x.name) (some_same same) in
            let among : IsAmong i (tasks_beside G) = at-place i (tasks_beside G) k e in (
              ap (λ (id : NameId). old_names id.0) name ∙ named i among,
              (
                entries_of_task p h i among,
                ap (meaning behind) name
                    ∙ bodies-other (old p h) G (last p h) (first p h) (task_names_of p) bodies (all-bodies (old p h) G (last p h) (first p h) (task_names_of p) (decl_list p.decls)) (tasked p h) (task_name G i)
                    ∙ tasked-there p h i among,
              ),
            )

    -- Each task beside main has an old name, which means a single task behind all declarations.
    pub tasks-single : AllByRecursion (IsSingleTask old_names behind) (drop 1 F.numbers.tasks)
    tasks-single = all_by_place (IsSingleTask old_names behind) (drop 1 F.numbers.tasks) single-at

  -- There are not many.
  pub few-infos : length F.numbers.tasks ≤ 2147483647
  few-infos =
      let few : length (tasks_of F.program) ≤ 200 = few-tasks p h in
      let same : length F.numbers.tasks ≡ suc (length (tasks_of F.program)) = ap (λ (n : ℕ). suc n) (length-map (tasks_of F.program) _) in
      omega (arith, few, same)

  -- The operations of the script of known events have literals.
  pub ops-form : (events : List Event) → AreKnown p events → AllByRecursion HasLiterals (script_of (numbers_of p) events)
  ops-form events known =
      let l = known_have_literals p events h.legal.check_rules known in
      script-literals (owner_of (numbers_of p)) (length (numbers_of p).tasks) events (omega (arith, tasks-within p h.legal.check_rules)) l.0 l.1

-- The entries of the tasks of a normal form have short names.
use Rattle.std.proofs.Common.{◌≡◌, ℕ, ◌≤◌, ◌==◌, Bool, true, false, if◌then◌else◌, List, [], ◌∷◌, ◌++◌, length, map, flat_map, refl, sym, ap, subst, arith}
use Rattle.std.specs.List.{AllByRecursion}
use Rattle.std.proofs.lemmas.List.{length-map}
use Rattle.std.proofs.lemmas.List.Elements.{recursion_from_All}
use Rattle.common_lemmas.proofs.Lists.{all_front, all_back, all_joined, all_weaker, all_unflat}
use Rattle.ada_tree.specs.TypeTable.{TypeTable}
use Rattle.ada_tree.specs.PlainDecl.{PEntry, PTask, PDecl, DNumber, DObject, DEnumeration, DArray, DSubtype, DException, DIntIo, DPragma, DTask, DTaskBody, PDecls, no_decl, decl_then}
use Rattle.ada_tree.specs.PlainProgram.{PProgram}
use Rattle.ada_tree.specs.Every.{EveryEntry, EveryDecls}
use Rattle.syn_event.specs.declared.numbering.Mode.TheVariants.{Original}
use Rattle.syn_event.specs.CheckScope.{CheckScope, CheckSite}
use Rattle.syn_event.specs.CheckSites as check
use Rattle.syn_event.specs.Numbering.{Numbering}
use Rattle.syn_event.specs.DeclaredTasks.{text_of, decl_list, tasks_in, tasks_of}
use Rattle.task_laws.specs.legal.sites.Met.{IsCheckMet}
use Rattle.task_model.specs.Setting.{Setting}
use Rattle.task_laws.specs.legal.rewritten_values.Values.{old_names}
use Rattle.normal_model.specs.NormalTree.{normal_tree}
use Rattle.normal_model.specs.NormalNumbers.{normal_numbers}
use Rattle.normal_laws.specs.structure.types.Own.{own_name}
use Rattle.normal_laws.specs.structure.types.Laws.{setting_of, AreOwn}
use Rattle.normal_laws.proofs.structure.numbers.Named.{text-longer, own-within}
use Rattle.normal_laws.proofs.structure.numbers.TaskNames.{normal-begins}
use Rattle.normal_laws.proofs.structure.numbers.Listed.{IsPlain, IsOneBody, firsts, vars, tasks, bodies, first-plain, vars-plain, bodies-all, normal-list}
use Rattle.normal_laws.proofs.structure.placed.Tasks.{declared-length}
use Rattle.replay_model.specs.ReplayTree.{last_task}
use Rattle.replay_structure.specs.checked.Checkable.{IsShortEntry}
use Rattle.replay_structure.proofs.checked.Along.{OnTask}
use Rattle.replay_structure.proofs.checkable.Ranges.{all-tasks-under}

-- ---- tasks of a normal form

pub in-tasks : (P : PTask → Type 0) (xs : List PDecl) → AllByRecursion (OnTask P) xs → AllByRecursion P (tasks_in xs)
in-tasks P [] h = tt
in-tasks P (DTask t s ∷ xs) h = (h.0, in-tasks P xs h.1)
in-tasks P (DTaskBody w objects its s ∷ xs) h = in-tasks P xs h.1
in-tasks P (DNumber w e s ∷ xs) h = in-tasks P xs h.1
in-tasks P (DObject ws c x i s ∷ xs) h = in-tasks P xs h.1
in-tasks P (DEnumeration w ws s ∷ xs) h = in-tasks P xs h.1
in-tasks P (DArray w x y s ∷ xs) h = in-tasks P xs h.1
in-tasks P (DSubtype w x s ∷ xs) h = in-tasks P xs h.1
in-tasks P (DException ws s ∷ xs) h = in-tasks P xs h.1
in-tasks P (DIntIo w s ∷ xs) h = in-tasks P xs h.1
in-tasks P (DPragma e s ∷ xs) h = in-tasks P xs h.1

plain-on : (P : PTask → Type 0) (x : PDecl) → IsPlain x → OnTask P x
plain-on P (DTask t s) p = absurd p
plain-on P (DTaskBody w objects its s) p = tt
plain-on P (DNumber w e s) p = tt
plain-on P (DObject ws c x i s) p = tt
plain-on P (DEnumeration w ws s) p = tt
plain-on P (DArray w x y s) p = tt
plain-on P (DSubtype w x s) p = tt
plain-on P (DException ws s) p = tt
plain-on P (DIntIo w s) p = tt
plain-on P (DPragma e s) p = tt

body-on : (P : PTask → Type 0) (x : PDecl) → IsOneBody x → OnTask P x
body-on P (DTask t s) p = absurd p
body-on P (DTaskBody w objects its s) p = tt
body-on P (DNumber w e s) p = tt
body-on P (DObject ws c x i s) p = tt
body-on P (DEnumeration w ws s) p = tt
body-on P (DArray w x y s) p = tt
body-on P (DSubtype w x s) p = tt
body-on P (DException ws s) p = tt
body-on P (DIntIo w s) p = tt
body-on P (DPragma e s) p = tt

-- what holds of the entries of each task of a program holds so of its normal form
pub normal-entries : (p : PProgram) (types : TypeTable) (numbers : Numbering) (Q : List PEntry → Type 0) → AllByRecursion (OnTask (λ t. Q t.entries)) (decl_list p.decls) → AllByRecursion (λ t. Q t.entries) (tasks_of (normal_tree p types numbers))
normal-entries p types numbers Q h =
    let g : Setting = setting_of p types numbers in
    let P : PTask → Type 0 = λ t. Q t.entries in
    in-tasks P (decl_list (normal_tree p types numbers).decls)
    (subst (AllByRecursion (OnTask P)) (sym (normal-list p types numbers))
    (all_joined (OnTask P) (firsts p types numbers) (vars p types numbers ++ tasks p types numbers ++ bodies p types numbers) (all_weaker IsPlain (OnTask P) (firsts p types numbers) (plain-on P) (first-plain p.decls []))
    (all_joined (OnTask P) (vars p types numbers ++ tasks p types numbers) (bodies p types numbers)
    (all_joined (OnTask P) (vars p types numbers) (tasks p types numbers) (all_weaker IsPlain (OnTask P) (vars p types numbers) (plain-on P) (vars-plain p types numbers)) (all-tasks-under g P (λ name t i. i) h))
    (all_weaker IsOneBody (OnTask P) (bodies p types numbers) (body-on P) (bodies-all g)))))

-- ---- names of entries

module _ (p : PProgram) (types : TypeTable) (numbers : Numbering) where
  abbrev n : PProgram
  n = normal_tree p types numbers

  abbrev M : CheckSite → Type 0
  M = IsCheckMet Original p.names

  entries-short : (c : CheckScope) (es : List PEntry) → AllByRecursion (EveryEntry (old_names (own_name p))) es → AllByRecursion (λ e. AllByRecursion M (check.entry_sites c e)) es → AllByRecursion (IsShortEntry n) es
  entries-short c [] h m = tt
  entries-short c (e ∷ es) h m =
      let l : length (text_of p.names e.name.name) ≤ 120 = declared-length p.names c e.name m.0.0 in
      let same : length (text_of n.names e.name.name) ≡ length (text_of p.names e.name.name) = ap (λ (t : List ℕ). length t) (text-longer p.names n.names e.name.name (normal-begins p types numbers) (own-within p e.name.name.0 h.0.1)) in
      (omega (arith, l, same), entries-short c es h.1 m.1)

  tasks-short : (ids : List ℕ) (ds : PDecls) (c : CheckScope) → EveryDecls (old_names (own_name p)) ds → AllByRecursion M (check.decls_sites c ids ds) → AllByRecursion (OnTask (λ t. AllByRecursion (IsShortEntry n) t.entries)) (decl_list ds)
  tasks-short ids no_decl c h m = tt
  tasks-short ids (decl_then (DTask t s) ds) c h m =
      let here : AllByRecursion M (check.decl_sites c ids (DTask t s)) = all_front M (check.decl_sites c ids (DTask t s)) (check.decls_sites (check.after_decl c (DTask t s)) ids ds) m in (
        entries-short c t.entries (recursion_from_All (EveryEntry (old_names (own_name p))) t.entries h.0.1.1)
            (all_unflat M (check.entry_sites c) t.entries (all_front M (flat_map (check.entry_sites c) t.entries) (flat_map (λ x. check.expr_sites c 2 x.value) t.priorities) here.1.1)),
        tasks-short ids ds (check.after_decl c (DTask t s)) h.1 (all_back M (check.decl_sites c ids (DTask t s)) (check.decls_sites (check.after_decl c (DTask t s)) ids ds) m),
      )
  tasks-short ids (decl_then (DTaskBody w objects its s) ds) c h m = (tt, tasks-short ids ds c h.1 (all_back M (check.decl_sites c ids (DTaskBody w objects its s)) (check.decls_sites c ids ds) m))
  tasks-short ids (decl_then (DNumber w e s) ds) c h m = (tt, tasks-short ids ds c h.1 (all_back M (check.decl_sites c ids (DNumber w e s)) (check.decls_sites c ids ds) m))
  tasks-short ids (decl_then (DObject ws k x i s) ds) c h m = (tt, tasks-short ids ds (check.after_decl c (DObject ws k x i s)) h.1 (all_back M (check.decl_sites c ids (DObject ws k x i s)) (check.decls_sites (check.after_decl c (DObject ws k x i s)) ids ds) m))
  tasks-short ids (decl_then (DEnumeration w ws s) ds) c h m = (tt, tasks-short ids ds c h.1 (all_back M (check.decl_sites c ids (DEnumeration w ws s)) (check.decls_sites c ids ds) m))
  tasks-short ids (decl_then (DArray w x y s) ds) c h m = (tt, tasks-short ids ds c h.1 (all_back M (check.decl_sites c ids (DArray w x y s)) (check.decls_sites c ids ds) m))
  tasks-short ids (decl_then (DSubtype w x s) ds) c h m = (tt, tasks-short ids ds c h.1 (all_back M (check.decl_sites c ids (DSubtype w x s)) (check.decls_sites c ids ds) m))
  tasks-short ids (decl_then (DException ws s) ds) c h m = (tt, tasks-short ids ds c h.1 (all_back M (check.decl_sites c ids (DException ws s)) (check.decls_sites c ids ds) m))
  tasks-short ids (decl_then (DIntIo w s) ds) c h m = (tt, tasks-short ids ds c h.1 (all_back M (check.decl_sites c ids (DIntIo w s)) (check.decls_sites c ids ds) m))
  tasks-short ids (decl_then (DPragma e s) ds) c h m = (tt, tasks-short ids ds c h.1 (all_back M (check.decl_sites c ids (DPragma e s)) (check.decls_sites c ids ds) m))

  -- The entries of the normal form have names of at most 144 bytes.
  pub normal-short : AreOwn p p.decls → AllByRecursion M (check.decls_sites (check.around_program p) (check.body_names p.decls) p.decls) → AllByRecursion (λ t. AllByRecursion (IsShortEntry n) t.entries) (tasks_of n)
  normal-short own m = normal-entries p types numbers (AllByRecursion (IsShortEntry n)) (tasks-short (check.body_names p.decls) p.decls (check.around_program p) own m)

  -- the last task's number by the numbers of the normal form
  pub last-number : last_task (normal_numbers n numbers) ≡ length (tasks_of n)
  last-number = length-map (tasks_of n) _

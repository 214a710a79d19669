-- The declarations of the normal form of a legal program have kept names, and none is too deep.
use Rattle.std.proofs.Common.{◌≡◌, ℕ, ◌+◌, ◌≤◌, Bool, List, [], ◌∷◌, ◌++◌, length, map, flat_map, max, refl, sym, subst, arith}
use Rattle.std.specs.List.{AllByRecursion}
use Rattle.common_lemmas.proofs.Lists.{all_joined}
use Rattle.ada_tree.specs.TypeTable.{TypeTable}
use Rattle.ada_tree.specs.PlainDecl.{PDecl, DNumber, DObject, DEnumeration, DArray, DSubtype, DException, DIntIo, DPragma, DTask, DTaskBody}
use Rattle.ada_tree.specs.PlainProgram.{PProgram}
use Rattle.ada_tree.specs.Every.{Rules, EveryDecl, EverySubind}
use Rattle.ada_tree.specs.WellPlaced.{well_placed}
use Rattle.syn_event.specs.declared.numbering.TaskInfo.{TaskInfo}
use Rattle.syn_event.specs.CheckSites as check
use Rattle.syn_event.specs.DeclaredTasks.{decl_list}
use Rattle.syn_event.proofs.DeclLists.{every_listed}
use Rattle.task_model.specs.Setting.{Setting}
use Rattle.normal_model.specs.NormalStmts.{normal_body, unit_variables}
use Rattle.normal_model.specs.NormalTree.{first_decls, unit_for, running, body_copy, bodies_of, variables_if, variables_of_body, greatest, variables_needed, main_variables}
use Rattle.normal_laws.proofs.structure.numbers.Listed as list
use Rattle.normal_laws.proofs.structure.placed.Added.{unit-from}
use Rattle.normal_laws.specs.structure.checked.Around.{own_rules}
use Rattle.normal_laws.specs.runs.forms.Normalisable.{numbers_of, setting_for, made_for}
use Rattle.normal_laws.specs.existence.Laws.{IsLegalOriginal}
use Rattle.normal_laws.proofs.legality.checks.Facts as facts
use Rattle.normal_laws.proofs.legality.checks.Copies.{CalleesBeside, bodies-beside}
use Rattle.replay_structure.proofs.checkable.Kept.{rules_of}
use Rattle.replay_structure.proofs.checkable.KeptDecls.{tasks-rest, all-tasks-kept, copies-kept}
use Rattle.replay_structure.proofs.legal.Keeping.{IsKeeping}
use Rattle.replay_structure.proofs.legal.Kept.{names-kept, firsts-all, main-vars, vars-kept}
use Rattle.replay_structure.proofs.legal.Subtypes.{subtypes-kept}

-- none of some numbers is greater than the greatest
pub each-within : (f : PDecl → ℕ) (ds : List PDecl) (n : ℕ) → greatest (map f ds) ≤ n → AllByRecursion (λ d. f d ≤ n) ds
each-within f [] n le = tt
each-within f (d ∷ ds) n le =
    let first : f d ≤ n = omega (arith, le) in
    let rest : greatest (map f ds) ≤ n = omega (arith, le) in
    (first, each-within f ds n rest)

pub least : (n : ℕ) → 0 ≤ n
least n = omega arith

-- Of a test that good names pass.
module _ (p : PProgram) (h : IsLegalOriginal p) (kept : ℕ → Bool) (are : IsKeeping p kept) where
  abbrev g : Setting
  g = setting_for p

  abbrev T : TypeTable
  T = facts.T p h

  abbrev q : Rules
  q = rules_of kept

  abbrev AreKept : List PDecl → Type 0
  AreKept ds = AllByRecursion (EveryDecl q) ds

  -- ---- bodies

  -- no unit that a task runs has more variables than have names
  few-variables : AllByRecursion (λ d. variables_of_body g d ≤ variables_needed g) (decl_list p.decls)
  few-variables = each-within (variables_of_body g) (decl_list p.decls) (variables_needed g) (behind (length (main_variables g)) (greatest (map (variables_of_body g) (decl_list p.decls))))
    where
      behind : (a b : ℕ) → b ≤ max a b
      behind a b = omega arith

  decl-copies : (d : PDecl) → facts.AtBody p h d → CalleesBeside p h d → EveryDecl (own_rules (facts.own p h)) d → EveryDecl (well_placed p.names) d → variables_of_body g d ≤ variables_needed g → AreKept (bodies_of g d)
  decl-copies (DTaskBody w objects its s) at beside every placed few = by_running (running g w.name) refl few
    where
      vars : List PDecl
      vars = unit_variables (unit_for g w.name) its

      copy : TaskInfo → PDecl
      copy = body_copy g w objects vars (normal_body (unit_for g w.name) its) (λ ds b name. DTaskBody name ds b s)

      all_copies : length vars ≤ variables_needed g → AreKept (bodies_of g (DTaskBody w objects its s))
      all_copies le =
          copies-kept g (facts.own p h) kept p.names (check.body_names p.decls) w objects its s at.around (names-kept p h kept are vars le)
          (vars-kept p h kept are vars 0 (unit-from g (EverySubind q 2) (subtypes-kept p h kept are) (unit_for g w.name).task its) (omega (arith, le))) (λ info i. beside) every placed.2 at.checked

      by_running : (xs : List TaskInfo) → running g w.name ≡ xs → variables_if xs vars ≤ variables_needed g → AreKept (bodies_of g (DTaskBody w objects its s))
      by_running [] e le = subst (λ xs. AreKept (map copy xs)) (sym e) tt
      by_running (x ∷ xs) e le = all_copies le
  decl-copies (DTask t s) at beside every placed few = tt
  decl-copies (DNumber w e s) at beside every placed few = tt
  decl-copies (DObject ws c x i s) at beside every placed few = tt
  decl-copies (DEnumeration w ws s) at beside every placed few = tt
  decl-copies (DArray w r x s) at beside every placed few = tt
  decl-copies (DSubtype w x s) at beside every placed few = tt
  decl-copies (DException ws s) at beside every placed few = tt
  decl-copies (DIntIo w s) at beside every placed few = tt
  decl-copies (DPragma e s) at beside every placed few = tt

  all-copies : (ds : List PDecl) → AllByRecursion (facts.AtBody p h) ds → AllByRecursion (CalleesBeside p h) ds → AllByRecursion (EveryDecl (own_rules (facts.own p h))) ds → AllByRecursion (EveryDecl (well_placed p.names)) ds →
      AllByRecursion (λ d. variables_of_body g d ≤ variables_needed g) ds → AreKept (flat_map (bodies_of g) ds)
  all-copies [] at beside every placed few = tt
  all-copies (d ∷ ds) at beside every placed few =
      all_joined (EveryDecl q) (bodies_of g d) (flat_map (bodies_of g) ds) (decl-copies d at.0 beside.0 every.0 placed.0 few.0) (all-copies ds at.1 beside.1 every.1 placed.1 few.1)

  -- ---- all declarations

  -- The declarations of the normal form have kept names, and none is deeper than 100.
  pub declarations-kept : AreKept (decl_list (made_for p).decls)
  declarations-kept =
      let firsts : List PDecl = list.firsts p T (numbers_of p) in
      let vars : List PDecl = list.vars p T (numbers_of p) in
      let tasks : List PDecl = list.tasks p T (numbers_of p) in
      let bodies : List PDecl = list.bodies p T (numbers_of p) in
      subst AreKept (sym (list.normal-list p T (numbers_of p)))
      (all_joined (EveryDecl q) firsts (vars ++ tasks ++ bodies) (every_listed q (first_decls [] p.decls) (firsts-all p h kept are))
      (all_joined (EveryDecl q) (vars ++ tasks) bodies
      (all_joined (EveryDecl q) vars tasks (main-vars p h kept are (subtypes-kept p h kept are))
      (all-tasks-kept g (facts.own p h) kept p.names (decl_list p.decls) (names-kept p h kept are [] (least (variables_needed g))).tasks
      (tasks-rest (facts.own p h) kept are.old p.names (check.body_names p.decls) p.decls (facts.around p h) (facts.owns p h).2 (facts.decls-checked p h))))
      (all-copies (decl_list p.decls) (facts.bodies-known p h) (bodies-beside p h) (every_listed (own_rules (facts.own p h)) p.decls (facts.owns p h).2) (every_listed (well_placed p.names) p.decls h.placed.2) few-variables)))

-- The normal form of an original has the form that the replay text asks of it.
use Rattle.std.proofs.Common.{ℕ, ◌≤◌, List, [], ◌++◌, flat_map, sym, subst, arith}
use Rattle.std.specs.List.{AllByRecursion}
use Rattle.common_lemmas.proofs.Lists.{all_front, all_back, all_joined, all_weaker, all_first, all_second}
use Rattle.ada_tree.specs.TypeTable.{TypeTable}
use Rattle.ada_tree.specs.PlainStmt.{PStmt, SNull, SAssign, SDelay, SExit, SRaise, SAbort, SCall, SAccept, SWait, SConditional, STimed, SPut, SPutLine, SNewLine, SGet, SIf, SCase, SBlock, SLoop, accepting, PBody}
use Rattle.ada_tree.specs.PlainDecl.{PDecl, DNumber, DObject, DEnumeration, DArray, DSubtype, DException, DIntIo, DPragma, DTask, DTaskBody, PDecls, no_decl, decl_then}
use Rattle.ada_tree.specs.PlainProgram.{PProgram}
use Rattle.syn_event.specs.declared.numbering.Mode.TheVariants.{Original}
use Rattle.syn_event.specs.declared.numbering.TaskInfo.{TaskInfo}
use Rattle.syn_event.specs.Numbering.{Numbering}
use Rattle.syn_event.specs.CheckRefusals.{MeetsCheckRules}
use Rattle.syn_event.specs.CheckScope.{CheckScope, CheckSite}
use Rattle.syn_event.specs.CheckSites as check
use Rattle.syn_event.specs.DeclaredTasks.{decl_list}
use Rattle.task_laws.specs.legal.sites.Met.{IsCheckMet}
use Rattle.task_laws.proofs.legal.sites.Meeting.{all_check_met}
use Rattle.task_model.specs.Setting.{Setting}
use Rattle.task_laws.specs.legal.asked.Asked.{AskedBody}
use Rattle.task_laws.specs.legal.asked.Kinds.{check_asks}
use Rattle.task_laws.proofs.legal.asked.Checked.{checked_asked}
use Rattle.normal_model.specs.RewrittenUnit.{RewrittenUnit}
use Rattle.normal_model.specs.NormalTree.{unit_for, bodies_of, main_unit, running, normal_tree}
use Rattle.normal_model.specs.NormalStmts.{normal_body, unit_variables}
use Rattle.normal_model.proofs.VariablesLemmas.{begins-refl}
use Rattle.normal_laws.specs.structure.asked.Pieces.{Pieces}
use Rattle.normal_laws.proofs.structure.asked.Walk.{body-keeps}
use Rattle.normal_laws.proofs.structure.placed.Depth.{depth-of}
use Rattle.normal_laws.specs.structure.types.Laws.{setting_of}
use Rattle.normal_laws.proofs.structure.types.Variables.{all-mapped}
use Rattle.normal_laws.proofs.structure.numbers.Listed.{IsPlain, IsOneTask, firsts, vars, tasks, bodies, first-plain, vars-plain, tasks-all, normal-list}
use Rattle.replay_structure.specs.checked.Around.{form_asks}
use Rattle.replay_structure.specs.checked.Checkable.{HasForm}
use Rattle.replay_structure.specs.checkable.inner.Depth.{depth_asks}
use Rattle.replay_structure.proofs.checkable.Rooted.{Tells, rooted_asked}

-- ---- pieces

-- what a normal form adds for something stands at most four deeper
pub form-pieces : (u : RewrittenUnit) (vs : List PDecl) → Pieces u vs (depth_asks 41) form_asks (λ c d. Prim.Unit {0})
form-pieces u vs = record {
  outer = λ c d k n s rel h le. omega (arith, h, le);
  many = λ n h. tt;
  some = λ n. tt;
  duration = λ n h. tt;
  plain = λ c d k x p rel h. omega (arith, h);
  condition = λ c d k e rel h. omega (arith, h);
  selector = λ c d k e xs others s rel h. omega (arith, h);
  choices = λ c d k e xs rel h. omega (arith, h);
  loop = λ c d k w x rel h. omega (arith, h);
  looping = λ c d k w x rel h. tt;
  delay = λ c d k guard f s rel h. omega (arith, h);
  handlers = λ hs t h. tt;
  handler = λ c d k names ws rel h. tt;
  handling = λ c d rel. tt;
  null = λ c d k n s rel h le. omega (arith, h, le);
  program_error = λ c d k n s rel h le. omega (arith, h, le);
  callee_index = λ c d k n s x e j rel h f v le. omega (arith, h, le);
  target = λ c d k n x w rel h t le. omega (arith, h, le);
  chooses = λ c d k n s x e j rel h f v le. omega (arith, h, le);
  chosen = λ c d k n s x e j info rel h f v i le. omega (arith, h, le);
  called = λ c d k n s x j w rel h i t v le. omega (arith, h, le);
  family_index = λ c d k n s x e j rel h i f v le. omega (arith, h, le);
  actual_before = λ c d k n s x slot e j rel h i pair f v le. omega (arith, h, le);
  actual_behind = λ c d k n s x slot e id j rel h i pair f q v le. omega (arith, h, le);
  flag = λ c d k n s part j rel h small v le. omega (arith, h, le);
  flag_test = λ c d k n s j rel h v le. omega (arith, h, le);
  aborted = λ c d k n xs w rel h le. omega arith;
  no_abort = λ c d k rel h. omega arith;
  head = λ c d k h rel i f. omega (arith, i);
  head_moved = λ c d k s h e j rel i f v. omega (arith, i);
  accept_index = λ c d k n s h e j rel i f v le. omega (arith, i, le);
  accepting = λ c d k s h j rel i. tt;
  guard = λ c d k n s e j rel h v le. omega (arith, h, le);
  guard_test = λ c d k n s j rel h v le. omega (arith, h, le);
  closed = λ c d k n x others s e es rel h w all few le. omega (arith, h, le);
  wait = λ c d k x others s t rel h alts. omega (arith, h);
}

-- ---- an original

module _ (names : List (List ℕ)) where
  abbrev M : CheckSite → Type 0
  M = IsCheckMet Original names

  plain-depth : (c : CheckScope) (k : ℕ) (x : PStmt) → AllByRecursion M (check.stmt_sites c k x) → k ≤ 40
  plain-depth c k (SNull s) h = depth-of names c k s h.0
  plain-depth c k (SAssign x e s) h = depth-of names c k s h.0
  plain-depth c k (SDelay n s) h = depth-of names c k s h.0
  plain-depth c k (SExit w e s) h = depth-of names c k s h.0
  plain-depth c k (SRaise w s) h = depth-of names c k s h.0
  plain-depth c k (SPut xs s) h = depth-of names c k s h.0
  plain-depth c k (SPutLine xs s) h = depth-of names c k s h.0
  plain-depth c k (SNewLine s) h = depth-of names c k s h.0
  plain-depth c k (SGet x s) h = depth-of names c k s h.0
  plain-depth c k (SAbort xs s) h = depth-of names c k s h.0
  plain-depth c k (SCall x s) h = depth-of names c k s h.0
  plain-depth c k (SAccept (accepting i o) s) h = depth-of names c k i.span h.0
  plain-depth c k (SWait x o s) h = depth-of names c k s h.0
  plain-depth c k (SConditional x l o s) h = depth-of names c k s h.0
  plain-depth c k (STimed x l n o s) h = depth-of names c k s h.0
  plain-depth c k (SIf x o s) h = depth-of names c k s h.0
  plain-depth c k (SCase e x o s) h = depth-of names c k s h.0
  plain-depth c k (SBlock x s) h = depth-of names c k s h.0
  plain-depth c k (SLoop w x l s) h = depth-of names c k s h.0

  pub tells : Tells (check_asks M) 40
  tells = record { outer = λ c k s h. depth-of names c k s h; plain = plain-depth; head = λ c k h i. depth-of names c k h.span i.0 }

  -- the statements of a unit
  unit-form : (u : RewrittenUnit) (c : CheckScope) (x : PBody) → AllByRecursion M (check.body_sites c 1 x) → AskedBody form_asks tt 1 (normal_body u x)
  unit-form u c x m =
      body-keeps u (unit_variables u x) (depth_asks 41) form_asks (λ a b. Prim.Unit {0}) (form-pieces u (unit_variables u x)) tt tt 1 x tt
      (rooted_asked (check_asks M) 40 tells c 1 x (checked_asked M c 1 x m)) (begins-refl (unit_variables u x))

  -- each copy of a body
  copies-form : (g : Setting) (ids : List ℕ) (x : PDecl) (c : CheckScope) → AllByRecursion M (check.decl_sites c ids x) → AllByRecursion HasForm (bodies_of g x)
  copies-form g ids (DTaskBody w objects its s) c m =
      let form : AskedBody form_asks tt 1 (normal_body (unit_for g w.name) its) = unit-form (unit_for g w.name) (check.after_own (check.in_body c w) objects) its (all_back M (check.own_sites (check.in_body c w) objects) (check.body_sites (check.after_own (check.in_body c w) objects) 1 its) m) in
      all-mapped HasForm _ (λ (info : TaskInfo). form) (running g w.name)
  copies-form g ids (DTask t s) c m = tt
  copies-form g ids (DNumber w e s) c m = tt
  copies-form g ids (DObject ws k x i s) c m = tt
  copies-form g ids (DEnumeration w ws s) c m = tt
  copies-form g ids (DArray w r x s) c m = tt
  copies-form g ids (DSubtype w x s) c m = tt
  copies-form g ids (DException ws s) c m = tt
  copies-form g ids (DIntIo w s) c m = tt
  copies-form g ids (DPragma e s) c m = tt

  all-copies : (g : Setting) (ids : List ℕ) (ds : PDecls) (c : CheckScope) → AllByRecursion M (check.decls_sites c ids ds) → AllByRecursion HasForm (flat_map (bodies_of g) (decl_list ds))
  all-copies g ids no_decl c m = tt
  all-copies g ids (decl_then x ds) c m =
      all_joined HasForm (bodies_of g x) (flat_map (bodies_of g) (decl_list ds)) (copies-form g ids x c (all_front M (check.decl_sites c ids x) (check.decls_sites (check.after_decl c x) ids ds) m))
      (all-copies g ids ds (check.after_decl c x) (all_back M (check.decl_sites c ids x) (check.decls_sites (check.after_decl c x) ids ds) m))

-- ---- the whole

plain-form : (x : PDecl) → IsPlain x → HasForm x
plain-form (DTask t s) p = absurd p
plain-form (DTaskBody w objects its s) p = absurd p
plain-form (DNumber w e s) p = tt
plain-form (DObject ws c x i s) p = tt
plain-form (DEnumeration w ws s) p = tt
plain-form (DArray w r x s) p = tt
plain-form (DSubtype w x s) p = tt
plain-form (DException ws s) p = tt
plain-form (DIntIo w s) p = tt
plain-form (DPragma e s) p = tt

task-form : (x : PDecl) → IsOneTask x → HasForm x
task-form (DTask t s) p = tt
task-form (DTaskBody w objects its s) p = absurd p
task-form (DNumber w e s) p = absurd p
task-form (DObject ws c x i s) p = absurd p
task-form (DEnumeration w ws s) p = absurd p
task-form (DArray w r x s) p = absurd p
task-form (DSubtype w x s) p = absurd p
task-form (DException ws s) p = absurd p
task-form (DIntIo w s) p = absurd p
task-form (DPragma e s) p = absurd p

module _ (p : PProgram) (types : TypeTable) (numbers : Numbering) (met : MeetsCheckRules p Original) where
  places : AllByRecursion (IsCheckMet Original p.names) (check.check_sites p)
  places = all_check_met p Original met

  pub main-form : AskedBody form_asks tt 1 (normal_tree p types numbers).body
  main-form =
      unit-form p.names (main_unit (setting_of p types numbers)) (check.after_decls (check.around_program p) p.decls) p.body
      (all_second (IsCheckMet Original p.names) (check.decls_sites (check.around_program p) (check.body_names p.decls) p.decls) (check.body_sites (check.after_decls (check.around_program p) p.decls) 1 p.body) (check.counted_sites (check.around_program p) p) places.1)

  pub decls-form : AllByRecursion HasForm (decl_list (normal_tree p types numbers).decls)
  decls-form =
      subst (AllByRecursion HasForm) (sym (normal-list p types numbers))
      (all_joined HasForm (firsts p types numbers) (vars p types numbers ++ tasks p types numbers ++ bodies p types numbers) (all_weaker IsPlain HasForm (firsts p types numbers) plain-form (first-plain p.decls []))
      (all_joined HasForm (vars p types numbers ++ tasks p types numbers) (bodies p types numbers)
      (all_joined HasForm (vars p types numbers) (tasks p types numbers) (all_weaker IsPlain HasForm (vars p types numbers) plain-form (vars-plain p types numbers)) (all_weaker IsOneTask HasForm (tasks p types numbers) task-form (tasks-all (setting_of p types numbers))))
      (all-copies p.names (setting_of p types numbers) (check.body_names p.decls) p.decls (check.around_program p)
      (all_first (IsCheckMet Original p.names) (check.decls_sites (check.around_program p) (check.body_names p.decls) p.decls) (check.body_sites (check.after_decls (check.around_program p) p.decls) 1 p.body) (check.counted_sites (check.around_program p) p) places.1))))

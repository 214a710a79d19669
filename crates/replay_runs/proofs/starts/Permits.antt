-- No object of a normal form of a legal program has a name of the permit, so these names mean the permit's variables at the start.
use Rattle.std.proofs.Common.{◌≡◌, ℕ, suc, ◌+◌, ◌≤◌, Bool, true, false, if◌then◌else◌, List, [], ◌∷◌, ◌++◌, length, map, flat_map, Option, Some, None, refl, sym, ap, ◌∙◌, subst, arith}
use Rattle.std.specs.List.{AllByRecursion}
use Rattle.std.proofs.lemmas.List.Elements.{recursion_from_All}
use Rattle.common_lemmas.proofs.Lists.{all_joined, all_weaker, all_unmapped}
use Rattle.ada_tree.specs.declared.naming.NameId.{NameId}
use Rattle.ada_tree.specs.declared.naming.Word.{Word}
use Rattle.ada_tree.specs.TypeTable.{TypeTable}
use Rattle.ada_tree.specs.PlainStmt.{PBody}
use Rattle.ada_tree.specs.PlainDecl.{PInit, PDecl, DNumber, DObject, DEnumeration, DArray, DSubtype, DException, DIntIo, DPragma, DTask, DTaskBody, PDecls, no_decl, decl_then, decls_of}
use Rattle.ada_tree.specs.PlainProgram.{PProgram}
use Rattle.ada_tree.specs.Every.{Rules, EveryWord, EveryDecl, EveryDecls, EveryProgram}
use Rattle.ada_static_rules.specs.Refusals.{types_in}
use Rattle.ada_decl_rules.specs.duplicates.NamedSoFar.{object_words}
use Rattle.ada_value.specs.declared.values.Form.{Form}
use Rattle.ada_value.specs.Variables.{Object, Variables}
use Rattle.syn_event.specs.declared.numbering.TaskInfo.{TaskInfo}
use Rattle.syn_event.specs.Numbering.{task_at}
use Rattle.syn_event.specs.DeclaredTasks.{decl_list}
use Rattle.syn_event.proofs.DeclLists.{listed_back, every_listed}
use Rattle.task_model.specs.Setting.{Setting}
use Rattle.task_model.specs.Starting.{Unit, form_of, object_of, with_objects, is_in_types, declared_objects, objects_of, unit_of}
use Rattle.normal_model.specs.Names.{variable_name}
use Rattle.normal_model.specs.NormalStmts.{normal_body, unit_variables}
use Rattle.normal_model.specs.NormalTree.{decls_front, first_decls, unit_for, first_running, running, body_copy, bodies_of, main_unit, main_variables, variables_if, variables_of_body, greatest, variables_needed}
use Rattle.normal_laws.proofs.structure.types.Normal.{first-every}
use Rattle.normal_laws.proofs.structure.types.Variables.{all-mapped}
use Rattle.normal_laws.proofs.structure.units.Tasks.{list-front}
use Rattle.normal_laws.specs.runs.forms.Normalisable.{setting_for, made_for}
use Rattle.normal_laws.proofs.runs.forms.Numbered.{AreNumbered, none_numbered, numbered_then, unit-numbered}
use Rattle.normal_laws.specs.existence.Laws.{IsLegalOriginal}
use Rattle.normal_laws.proofs.legality.declares_once.Good.{good_names, program-good}
use Rattle.replay_model.specs.Names.{kind_text, argument_text, index_text}
use Rattle.replay_structure.proofs.texts.Rooted.{replay-has}
use Rattle.replay_structure.proofs.bodies.Bodies.{unit-at}
use Rattle.replay_structure.proofs.declares_once.Ids.{IsOwn, own-apart}
use Rattle.replay_structure.proofs.declares_once.Texts.{good-own, variable-own}
use Rattle.replay_runs.specs.starts.Laws.{IsNoPermit, added_part, plain_part, HavePermit, form_in}
use Rattle.replay_runs.specs.starts.Legal.{FindsAtStart, LegalFindsPermits}
use Rattle.replay_runs.proofs.starts.Objects.{stays, finds}
use Rattle.replay_runs.proofs.starts.Programs.{all-added, InBody, in-unit, of-main, of-bodies}
use Rattle.replay_runs.proofs.starts.Legal.{legal_starts}

-- ---- the names of objects

module _ (P : NameId → Type 0) (T : TypeTable) (in_main : Bool) where
  abbrev Named : Variables → Type 0
  Named V = AllByRecursion (λ (o : Object). P o.name) V

  with-named : (form : Form) (init : Option PInit) (ws : List Word) (V : Variables) → AllByRecursion (λ (w : Word). P w.name) ws → Named V → Named (with_objects T form init ws V)
  with-named form init [] V h k = k
  with-named form init (w ∷ ws) V h k = with-named form init ws (object_of T form init w ∷ V) h.1 (h.0, k)

  declared-named : (ws : List Word) (constant : Bool) (init : Option PInit) (o : Option Form) (V : Variables) → AllByRecursion (λ (w : Word). P w.name) ws → Named V →
      Named (declared_objects T in_main ws constant init o V)
  declared-named ws constant init None V h k = k
  declared-named ws constant init (Some form) V h k = by_test (is_in_types in_main constant form)
    where
      by_test : (b : Bool) → Named (if b then V else with_objects T form init ws V)
      by_test true = k
      by_test false = with-named form init ws V h k

  -- objects have the names with which they are declared
  objects-named : (ds : List PDecl) (V : Variables) → AllByRecursion (λ d. AllByRecursion (λ (w : Word). P w.name) (object_words d)) ds → Named V → Named (objects_of T in_main (decls_of ds) V)
  objects-named [] V h k = k
  objects-named (DObject ws c x i s ∷ ds) V h k = objects-named ds (declared_objects T in_main ws c i (form_of T x) V) h.1 (declared-named ws c i (form_of T x) V h.0 k)
  objects-named (DTask t s ∷ ds) V h k = objects-named ds V h.1 k
  objects-named (DTaskBody w objects its s ∷ ds) V h k = objects-named ds V h.1 k
  objects-named (DNumber w e s ∷ ds) V h k = objects-named ds V h.1 k
  objects-named (DEnumeration w ws s ∷ ds) V h k = objects-named ds V h.1 k
  objects-named (DArray w r x s ∷ ds) V h k = objects-named ds V h.1 k
  objects-named (DSubtype w x s ∷ ds) V h k = objects-named ds V h.1 k
  objects-named (DException ws s ∷ ds) V h k = objects-named ds V h.1 k
  objects-named (DIntIo w s ∷ ds) V h k = objects-named ds V h.1 k
  objects-named (DPragma e s ∷ ds) V h k = objects-named ds V h.1 k

-- each of some numbers is at most a bound of the greatest
within : (bound : ℕ) (ns : List ℕ) → greatest ns ≤ bound → AllByRecursion (λ n. n ≤ bound) ns
within bound [] h = tt
within bound (n ∷ ns) h = (omega (arith, h), within bound ns (omega (arith, h)))

-- ---- the normal form of a legal program

module _ (p : PProgram) (h : IsLegalOriginal p) where
  abbrev g : Setting
  g = setting_for p

  abbrev q : PProgram
  q = made_for p

  abbrev count : ℕ
  count = variables_needed g

  abbrev r : Rules
  r = good_names p.names

  good : EveryProgram r p
  good = program-good p h

  -- no object of a declaration has a name of the permit
  abbrev IsClear : PDecl → Type 0
  IsClear d = AllByRecursion (λ (w : Word). IsNoPermit q w.name) (object_words d)

  no-permit : (id : NameId) → IsOwn q.names id.0 → IsNoPermit q id
  no-permit id own = record {
    kind = own-apart q kind_text (replay-has q kind_text refl) refl id.0 own;
    argument = own-apart q argument_text (replay-has q argument_text refl) refl id.0 own;
    index = own-apart q index_text (replay-has q index_text refl) refl id.0 own;
  }

  old-clear : (d : PDecl) → EveryDecl r d → IsClear d
  old-clear (DObject ws c x i s) e = all_weaker (EveryWord r) (λ (w : Word). IsNoPermit q w.name) ws (λ w k. no-permit w.name (good-own g count w.name.0 k)) (recursion_from_All (EveryWord r) ws e.1.1)
  old-clear d e = tt

  variables-clear : {vs : List PDecl} {k : ℕ} → AreNumbered g vs k → k + length vs ≤ count → AllByRecursion IsClear vs
  variables-clear (none_numbered k) l = tt
  variables-clear (numbered_then s x rest k more) l = ((no-permit (variable_name g k) (variable-own g count k (omega (arith, l))), tt), variables-clear more (omega (arith, l)))

  few : AllByRecursion (λ n. n ≤ count) (length (main_variables g) ∷ map (variables_of_body g) (decl_list p.decls))
  few = let l : count ≤ count = omega arith in within count (length (main_variables g) ∷ map (variables_of_body g) (decl_list p.decls)) l

  copy-clear : (t : ℕ) (objects : PDecls) (its : PBody) → EveryDecls r objects → length (unit_variables (record { setting = g; task = t }) its) ≤ count →
      AllByRecursion IsClear (decl_list (decls_front objects (decls_of (unit_variables (record { setting = g; task = t }) its))))
  copy-clear t objects its a l =
      let vs : List PDecl = unit_variables (record { setting = g; task = t }) its in
      subst (AllByRecursion IsClear) (sym (list-front objects (decls_of vs) ∙ ap (λ (xs : List PDecl). decl_list objects ++ xs) (listed_back vs)))
      (all_joined IsClear (decl_list objects) vs (all_weaker (EveryDecl r) IsClear (decl_list objects) old-clear (every_listed r objects a))
      (variables-clear (unit-numbered (record { setting = g; task = t }) its) (omega (arith, l))))

  bodies-clear : (ds : PDecls) → EveryDecls r ds → AllByRecursion (λ d. variables_of_body g d ≤ count) (decl_list ds) → AllByRecursion (InBody IsClear) (flat_map (bodies_of g) (decl_list ds))
  bodies-clear no_decl a l = tt
  bodies-clear (decl_then (DTaskBody w objects its s) rest) a l =
      all_joined (InBody IsClear) (bodies_of g (DTaskBody w objects its s)) (flat_map (bodies_of g) (decl_list rest)) (copies (running g w.name) l.0) (bodies-clear rest a.1 l.1)
    where
      vs : List PDecl
      vs = unit_variables (unit_for g w.name) its

      copies : (infos : List TaskInfo) → variables_if infos vs ≤ count → AllByRecursion (InBody IsClear) (map (body_copy g w objects vs (normal_body (unit_for g w.name) its) (λ ds b v. DTaskBody v ds b s)) infos)
      copies [] k = tt
      copies (i ∷ infos) k = all-mapped (InBody IsClear) _ (λ (x : TaskInfo). copy-clear (first_running g w.name) objects its a.0.3 k) (i ∷ infos)
  bodies-clear (decl_then d rest) a l = bodies-clear rest a.1 l.1

  main-clear : AllByRecursion IsClear (plain_part (decl_list q.decls))
  main-clear =
      of-main p IsClear (all_weaker (EveryDecl r) IsClear (decl_list (first_decls [] p.decls)) old-clear (every_listed r (first_decls [] p.decls) (first-every r p.decls [] good.2)))
      (variables-clear (unit-numbered (main_unit g) p.body) (let l : length (main_variables g) ≤ count = few.0 in omega (arith, l)))

  all-clear : AllByRecursion (InBody IsClear) (decl_list q.decls)
  all-clear = of-bodies p IsClear (bodies-clear p.decls good.2 (all_unmapped (λ n. n ≤ count) (variables_of_body g) (decl_list p.decls) few.1))

  found : (T : TypeTable) (in_main : Bool) (ds : List PDecl) (start more_start : Variables) → AllByRecursion IsClear ds → HavePermit q T in_main ds start more_start → FindsAtStart p start more_start
  found T in_main ds start more_start clear have = record {
    permit = finds q T in_main ds start more_start have (objects-named (IsNoPermit q) T in_main (added_part q.names ds) [] (all-added IsClear q.names ds clear) tt);
    others = stays q T in_main ds start more_start have;
  }

  task-clear : (t : ℕ) (info : TaskInfo) → task_at (form_in p).numbers (suc t) ≡ Some info → AllByRecursion IsClear (decl_list (unit_of q (form_in p).numbers (suc t)).decls)
  task-clear t info at = subst (λ (x : Unit). AllByRecursion IsClear (decl_list x.decls)) (sym (unit-at q (form_in p).numbers t info at)) (in-unit IsClear q.decls info.unit all-clear)

pub legal_finds_permits : LegalFindsPermits
legal_finds_permits p events h =
    let starts = legal_starts p events h in
    record {
      main = found p h (types_in (form_in p).program) true (plain_part (decl_list (form_in p).program.decls)) _ _ (main-clear p h) starts.main;
      tasks = λ t info at. found p h (types_in (form_in p).program) false _ _ _ (task-clear p h t info at) (starts.tasks t info at);
    }

-- The normal form of each legal program is as its replay text asks.
use Rattle.std.proofs.Common.{◌≡◌, ℕ, Bool, true, List, [], drop, flat_map, sym, subst}
use Rattle.std.specs.List.{AllByRecursion, filter}
use Rattle.common_lemmas.proofs.Lists.{all_unflat, all_weaker}
use Rattle.ada_tree.specs.PlainDecl.{PDecl, DTaskBody}
use Rattle.ada_tree.specs.PlainProgram.{PProgram}
use Rattle.ada_static_rules.specs.Scope.{Scope}
use Rattle.ada_static_rules.specs.Declaring.{inner_scope}
use Rattle.syn_event.specs.declared.numbering.TaskInfo.{TaskInfo}
use Rattle.syn_event.specs.DeclaredTasks.{decl_list}
use Rattle.task_model.specs.Setting.{Setting}
use Rattle.normal_model.specs.Names.{task_name}
use Rattle.normal_model.specs.NormalTree.{first_decls, tasks_beside, task_declared, bodies_of, main_unit, main_variables}
use Rattle.normal_laws.specs.runs.forms.Normalisable.{made_for}
use Rattle.normal_laws.specs.structure.asked.Pieces.{IsAmong}
use Rattle.normal_laws.specs.existence.Laws.{IsLegalOriginal}
use Rattle.normal_laws.proofs.structure.placed.Made.{among}
use Rattle.normal_laws.proofs.legality.scopes.Main as main
use Rattle.normal_laws.proofs.legality.scopes.Main.{g, unit-of}
use Rattle.normal_laws.proofs.legality.scopes.Tasks.{one-under}
use Rattle.replay_structure.specs.checkable.Prepared.{form_for}
use Rattle.replay_model.specs.ReplayTree.{is_body}
use Rattle.replay_structure.specs.scopes.Names.{old_name}
use Rattle.replay_structure.specs.scopes.Form.{AreNamesApart, IsEveryTask, IsSingleTask, tasked, last}
use Rattle.replay_structure.specs.legal.names.form_names.Laws.{IsNamedBody, HasFormNames}
use Rattle.replay_structure.proofs.legal.names.form_names.Whole.{legal_has_form_names}
use Rattle.replay_structure.specs.legal.names.inner.Scoped.{HasOwns, AreScoped}
use Rattle.replay_structure.proofs.legal.names.form_scopes.Joined.{tasks-are, bodies-are, tasked-is, last-is, scopes-told}
use Rattle.replay_structure.specs.legal.names.form_units.Inner.{inner_name}
use Rattle.replay_structure.specs.legal.names.inner.Units.{HasItsEntries, IsScopedBody, BodyUnits}
use Rattle.replay_structure.proofs.legal.names.form_units.Outer.{outer}
use Rattle.replay_structure.proofs.legal.names.form_units.Bodies.{bodies-units, main-told}
use Rattle.replay_structure.proofs.legal.names.form_units.OpForms.{tasks-single, few-infos, ops-form}
use Rattle.replay_structure.specs.legal.names.Laws.{LegalNormalIsForm}
use Rattle.replay_structure.proofs.legal.names.Bodies.{unit-asked, unit-form, bodies-formed}

-- the objects of a body of old names are so
named-owns : (old : ℕ → Bool) (d : PDecl) → IsNamedBody old d → HasOwns old d
named-owns old (DTaskBody w objects its s) h = h.owns
named-owns old _ h = absurd h

module _ (p : PProgram) (legal : IsLegalOriginal p) where
  abbrev F : Setting
  F = form_for p

  abbrev q : PProgram
  q = made_for p

  abbrev old : ℕ → Bool
  old = old_name q

  abbrev inner : ℕ → Bool
  inner = inner_name p

  abbrev before : List PDecl
  before = decl_list (first_decls [] p.decls)

  abbrev vars : List PDecl
  vars = main_variables (g p legal)

  abbrev infos : List TaskInfo
  infos = tasks_beside (g p legal)

  abbrev made : List PDecl
  made = flat_map (bodies_of (g p legal)) (decl_list p.decls)

  abbrev bodies : List PDecl
  bodies = filter is_body (decl_list q.decls)

  names : HasFormNames p
  names = legal_has_form_names p legal

  pub apart : AreNamesApart F old inner
  apart = names.apart inner (outer p)

  scoped : AreScoped q old before vars
  scoped = scopes-told p legal inner apart names.variables (all_weaker (IsNamedBody old) (HasOwns old) bodies (named-owns old) names.bodies)

  -- ---- units

  units : BodyUnits F inner (tasked q before vars) bodies
  units = subst (λ l. BodyUnits F inner (tasked q before vars) l) (sym (bodies-are p legal)) (subst (λ c. BodyUnits F inner c made) (tasked-is p legal) (bodies-units p legal))

  main-unit : HasItsEntries (main_unit F) inner (inner_scope (last q before vars)) × IsScopedBody inner (inner_scope (last q before vars)) q.body
  main-unit = subst (λ c. HasItsEntries (main_unit F) inner (inner_scope c) × IsScopedBody inner (inner_scope c) q.body) (last-is p legal) (main-told p legal)

  -- ---- tasks

  -- the name of each task is old
  task-old : (info : TaskInfo) → IsAmong info infos → old (task_name (g p legal) info).0 ≡ true
  task-old info i =
      let u = unit-of p legal info i in
      let d = one-under info.unit (task_name (g p legal) info) (decl_list p.decls) u.unit u.declared in
      let all : AllByRecursion (IsEveryTask old) (flat_map (task_declared (g p legal)) infos) = subst (AllByRecursion (IsEveryTask old)) (tasks-are p legal) names.every in
      let one : AllByRecursion (IsEveryTask old) (task_declared (g p legal) info) = among (λ (x : TaskInfo). AllByRecursion (IsEveryTask old) (task_declared (g p legal) x)) info infos i (all_unflat (IsEveryTask old) (task_declared (g p legal)) infos all) in
      (subst (AllByRecursion (IsEveryTask old)) d.is one).0.0

  singles : AllByRecursion (IsSingleTask old (last q before vars)) (drop 1 F.numbers.tasks)
  singles = subst (λ c. AllByRecursion (IsSingleTask old c) (drop 1 F.numbers.tasks)) (last-is p legal) (tasks-single p legal old task-old)

pub legal_normal_is_form : LegalNormalIsForm
legal_normal_is_form p events legal known =
    let n = names p legal in
    let s = scoped p legal in
    let u = main-unit p legal in
    let old : ℕ → Bool = old_name (made_for p) in
    let inner : ℕ → Bool = inner_name p in
    let end : Scope = inner_scope (last (made_for p) (before p legal) (vars p legal)) in
    record {
      plain = n.plain;
      front = n.front;
      unseen = λ id o. s.unseen id;
      firsts_met = s.firsts_met;
      variables = n.variables;
      along = s.along;
      variables_met = s.variables_met;
      tasks = n.tasks;
      every = n.every;
      tasks_met = s.tasks_met;
      integer = s.integer;
      bodies = bodies-formed old inner (form_for p) (bodies p legal) (tasked (made_for p) (before p legal) (vars p legal)) s.bodies n.bodies (units p legal);
      integer_last = s.integer_last;
      tasking = s.tasking;
      form = unit-form old inner (main_unit (form_for p)) end s.unit u.0;
      asked = unit-asked old inner end (made_for p).body n.main u.1;
      ops_form = ops-form p legal events known;
      few_tasks = few-infos p legal;
      single = singles p legal;
    }

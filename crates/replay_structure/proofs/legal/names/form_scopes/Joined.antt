-- The scopes of the normal form of a legal program are as its replay text asks.
use Rattle.std.proofs.Common.{◌≡◌, ℕ, Bool, List, [], ◌∷◌, ◌++◌, flat_map, refl, sym, ap, ap₂, subst, ◌∙◌, append_assoc, arith}
use Rattle.std.specs.List.{AllByRecursion, filter}
use Rattle.common_lemmas.proofs.Lists.{all_weaker}
use Rattle.ada_tree.specs.PlainDecl.{PDecl, decls_of}
use Rattle.ada_tree.specs.PlainProgram.{PProgram}
use Rattle.ada_static_rules.specs.Refusals.{types_in}
use Rattle.ada_static_rules.specs.Scope.{Scope}
use Rattle.ada_static_rules.specs.Declaring.{first_scope, after_decl, after_decls}
use Rattle.syn_event.specs.DeclaredTasks.{decl_list}
use Rattle.syn_event.proofs.DeclLists.{list_again}
use Rattle.task_model.specs.Setting.{Setting}
use Rattle.normal_model.specs.NormalTree.{first_decls, tasks_beside, task_declared, bodies_of, main_unit, main_variables}
use Rattle.task_laws.proofs.legal.rewritten_types.Keeping.{grows-on}
use Rattle.task_laws.proofs.legal.rewritten_types.Adding.{keeps-decls}
use Rattle.task_laws.proofs.legal.types.MainScopes.{grows-decls}
use Rattle.task_laws.specs.legal.alike_scopes.Alike.{SameNames}
use Rattle.normal_laws.specs.runs.forms.Normalisable.{numbers_of, made_for}
use Rattle.normal_laws.specs.existence.Laws.{IsLegalOriginal}
use Rattle.normal_laws.proofs.structure.numbers.Listed.{tasks-all, first-plain, normal-list}
use Rattle.replay_structure.proofs.texts.Listed.{normal-tasks, normal-bodies}
use Rattle.normal_laws.proofs.structure.types.Variables.{are-added, task-added, tasks-only, unit-all}
use Rattle.normal_laws.proofs.legality.Legal.{normal_meets_at_places}
use Rattle.normal_laws.proofs.legality.scopes.Plain.{predefined-plain}
use Rattle.normal_laws.proofs.legality.scopes.Fixed.{apart-variable}
use Rattle.normal_laws.proofs.legality.scopes.Main as main
use Rattle.normal_laws.proofs.legality.scopes.Main.{g}
use Rattle.normal_laws.proofs.legality.scopes.Starts.{bodied-tasked}
use Rattle.normal_laws.proofs.legality.variables_marked.Subtypes.{variables-known}
use Rattle.normal_laws.proofs.legality.variables_marked.Scopes.{first-ready}
use Rattle.replay_structure.specs.checkable.Prepared.{form_for}
use Rattle.replay_model.specs.ReplayTree.{is_task, is_body}
use Rattle.replay_structure.specs.scopes.More.{IsReady}
use Rattle.replay_structure.specs.scopes.Names.{old_name}
use Rattle.replay_structure.specs.scopes.Form.{AreNamesApart, IsVariableOf, MainAlong, first, tasked, last}
use Rattle.replay_structure.proofs.scopes.Permit.{only, IsApart}
use Rattle.replay_structure.proofs.scopes.Parted.{IsParted, parted}
use Rattle.replay_structure.proofs.scopes.Ready.{integer_id, MainSelf, ready-main}
use Rattle.replay_structure.specs.legal.names.inner.Scoped.{HasOwns, BodiesScoped, AreScoped}
use Rattle.replay_structure.proofs.legal.names.form_scopes.Selves.{self-names, AlongSelf, self-end, self-tasks, self-first, self-variables}
use Rattle.replay_structure.proofs.legal.names.form_scopes.Language.{tasked-language}
use Rattle.replay_structure.proofs.legal.names.form_scopes.Unseen.{decls-none, first-none}
use Rattle.replay_structure.proofs.legal.names.form_scopes.Values.{integer-of, ready-on, ready-first}
use Rattle.replay_structure.proofs.legal.names.form_scopes.Told.{IsToldBody, all-told}
use Rattle.replay_structure.proofs.legal.names.form_scopes.Bodies.{IsBehindTasks, knows-language, bodies-scoped}

module _ (p : PProgram) (legal : IsLegalOriginal p) where
  abbrev G : Setting
  G = g p legal

  abbrev q : PProgram
  q = made_for p

  abbrev old : ℕ → Bool
  old = old_name q

  -- ---- lists

  abbrev before : List PDecl
  before = decl_list (first_decls [] p.decls)

  abbrev vars : List PDecl
  vars = main_variables G

  abbrev tasks : List PDecl
  tasks = flat_map (task_declared G) (tasks_beside G)

  abbrev bodies : List PDecl
  bodies = flat_map (bodies_of G) (decl_list p.decls)

  pub tasks-are : filter is_task (decl_list q.decls) ≡ tasks
  tasks-are = normal-tasks p (types_in p) (numbers_of p)

  pub bodies-are : filter is_body (decl_list q.decls) ≡ bodies
  bodies-are = normal-bodies p (types_in p) (numbers_of p)

  -- the declarations of the normal form, list by list
  pub form-sorted : decl_list q.decls ≡ before ++ vars ++ filter is_task (decl_list q.decls) ++ filter is_body (decl_list q.decls)
  form-sorted =
      normal-list p (types_in p) (numbers_of p)
      ∙ sym (append_assoc before (vars ++ tasks) bodies)
      ∙ ap (λ l. l ++ bodies) (sym (append_assoc before vars tasks))
      ∙ sym (ap₂ (λ (a b : List PDecl). before ++ vars ++ a ++ b) tasks-are bodies-are)

  -- Nothing is refused at the places of each list.
  pub form-parted : IsParted q before vars
  form-parted = parted q before vars form-sorted (normal_meets_at_places p legal)

  -- ---- scopes: those that stand behind lists of the normal form's definition stand behind lists that are sorted out

  first-is : main.first p legal ≡ first q before vars
  first-is = ap (λ ds. after_decls (first_scope p.name) ds) (sym (list_again (first_decls [] p.decls)))

  pub tasked-is : main.tasked p legal ≡ tasked q before vars
  tasked-is = ap₂ (λ s xs. after_decls s (decls_of xs)) (ap (λ s. after_decls s (decls_of vars)) first-is) (sym tasks-are)

  pub last-is : after_decls (main.tasked p legal) (decls_of bodies) ≡ last q before vars
  last-is = ap₂ (λ s xs. after_decls s (decls_of xs)) tasked-is (sym bodies-are)

  along-self : AlongSelf (main.first p legal) vars
  along-self = self-variables p legal vars 0 (variables-known p legal (main_unit G).task p.body) (main.first p legal) (first-ready p legal) (self-first p legal)

  -- no variable is named INTEGER
  variables-others : AllByRecursion (IsApart integer_id) vars
  variables-others = unit-all (IsApart integer_id) (main_unit G) (λ s x k. (apart-variable p legal integer_id (predefined-plain p legal.names 0 (omega arith)) k, tt)) p.body

  ready-end : (xs : List PDecl) (c : Scope) → MainAlong q old c xs → IsReady q old (after_decls c (decls_of xs))
  ready-end [] c h = h.1
  ready-end (x ∷ xs) c h = ready-end xs (after_decl c x) h.2

  module _ (inner : ℕ → Bool) (names : AreNamesApart (form_for p) old inner) (variables : AllByRecursion (IsVariableOf old) vars) where
    main-self : (xs : List PDecl) (c : Scope) → AlongSelf c xs → MainSelf (form_for p) old inner names c xs
    main-self [] c h = self-names old c h
    main-self (x ∷ xs) c h = (self-names old c h.0, main-self xs (after_decl c x) h.1)

    along : MainAlong q old (main.first p legal) vars
    along = ready-main (form_for p) old inner names vars (main.first p legal) variables variables-others (main-self vars (main.first p legal) along-self) (ready-first p legal)

    -- Behind the tasks all is as the bodies ask.
    behind-tasks : IsBehindTasks p legal (main.tasked p legal)
    behind-tasks = record {
      self = self-tasks tasks (tasks-all G) (main.varied p legal) (self-end vars (main.first p legal) along-self);
      ready = ready-on q old (main.varied p legal) (main.tasked p legal)
          (integer-of (main.tasked p legal) (grows-on (grows-decls (first_decls [] p.decls) (first_scope p.name)) (bodied-tasked p legal).grows) (tasked-language p legal).integer)
          (λ id. keeps-decls {old = only id} (decls_of tasks) (main.varied p legal) (are-added (only id) tasks (all_weaker _ _ _ (task-added (only id)) (tasks-only G))))
          (ready-end vars (main.first p legal) along);
      means = λ id. refl;
    }

    -- The scopes of the normal form of a legal program are as its replay text asks, where names are apart, variables are such ones, and the objects
    -- of bodies have old types.
    pub scopes-told : AllByRecursion (HasOwns old) (filter is_body (decl_list q.decls)) → AreScoped q old before vars
    scopes-told owns = record {
      unseen = decls-none before (first-plain p.decls []) (first_scope p.name) (first-none p.name);
      firsts_met = form-parted.firsts;
      along = subst (λ s. MainAlong q old s vars) first-is along;
      variables_met = form-parted.variables;
      tasks_met = form-parted.tasks_met;
      integer = behind.ready.integer;
      bodies = walked.0;
      integer_last = walked.1.ready.integer;
      tasking = (knows-language p legal (last q before vars) walked.1).tasking;
      unit = record { self = record { types = ends.types; things = ends.things }; falses = (knows-language p legal (last q before vars) walked.1).falses };
    }
      where
        behind : IsBehindTasks p legal (tasked q before vars)
        behind = subst (IsBehindTasks p legal) tasked-is behind-tasks

        walked : BodiesScoped q old (tasked q before vars) (filter is_body (decl_list q.decls)) × IsBehindTasks p legal (last q before vars)
        walked =
            bodies-scoped p legal (filter is_body (decl_list q.decls)) (subst (AllByRecursion (IsToldBody p legal)) (sym bodies-are) (all-told p legal)) owns
            (tasked q before vars) form-parted.bodies_met behind

        ends : SameNames old (last q before vars) (last q before vars)
        ends = self-names old (last q before vars) walked.1.self

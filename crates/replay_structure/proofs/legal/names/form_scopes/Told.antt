-- The bodies of the normal form of a legal program: each is that of a single task, and its objects have names of their own.
use Rattle.std.proofs.Common.{ℕ, ◌<◌, true, false, ◌==◌, List, [], ◌∷◌, map, flat_map, sym, subst, arith}
use Rattle.std.specs.List.{AllByRecursion}
use Rattle.common_lemmas.proofs.Lists.{all_joined, all_weaker, all_kept}
use Rattle.common_lemmas.proofs.Numbers.{lt_true}
use Rattle.common_lemmas.proofs.Truth.{clash}
use Rattle.ada_tree.specs.declared.naming.Span.{Span}
use Rattle.ada_tree.specs.declared.naming.Word.{Word}
use Rattle.ada_tree.specs.PlainStmt.{PBody}
use Rattle.ada_tree.specs.PlainDecl.{PDecl, DObject, DTaskBody, PDecls, no_decl, decl_then, decls_of}
use Rattle.ada_tree.specs.PlainProgram.{PProgram}
use Rattle.ada_static_rules.specs.Scope.{meaning}
use Rattle.ada_static_rules.specs.RuleDuplicate.{is_predefined}
use Rattle.syn_event.specs.declared.numbering.TaskInfo.{TaskInfo}
use Rattle.syn_event.specs.DeclaredTasks.{decl_list}
use Rattle.syn_event.proofs.DeclLists.{listed_back}
use Rattle.task_model.specs.Setting.{Setting}
use Rattle.normal_model.specs.NormalStmts.{unit_variables, normal_body}
use Rattle.normal_model.specs.NormalTree.{decls_front, tasks_beside, running, unit_for, body_copy, bodies_of}
use Rattle.normal_laws.proofs.structure.units.Tasks.{list-front}
use Rattle.normal_laws.proofs.structure.types.Variables.{unit-all}
use Rattle.task_laws.specs.legal.rewritten_types.Rewriting.{IsNew}
use Rattle.normal_laws.specs.structure.asked.Pieces.{IsAmong}
use Rattle.normal_laws.specs.existence.Laws.{IsLegalOriginal}
use Rattle.normal_laws.proofs.structure.placed.Made.{among}
use Rattle.normal_laws.proofs.structure.placed.Whole.{each-of}
use Rattle.normal_laws.proofs.structure.typed.Scopes.{differ}
use Rattle.normal_laws.proofs.legality.scopes.Plain.{predefined-plain}
use Rattle.normal_laws.proofs.legality.scopes.Main.{g, old, tasked, tasked-there}
use Rattle.normal_laws.proofs.legality.scopes.Fixed.{apart-variable}
use Rattle.normal_laws.proofs.legality.scopes.Outer.{IsLocal, AreLocal}
use Rattle.normal_laws.proofs.legality.variables_marked.Scopes.{BodiesLocal, bodies-local}
use Rattle.replay_structure.specs.typed.ScopeOf.{IsSingle}
use Rattle.replay_structure.proofs.scopes.Permit.{only}

-- an object has other names than that of a number
abbrev pub IsOtherObject : ℕ → PDecl → Type 0
IsOtherObject k (DObject ws constant shape init s) = AllByRecursion (IsNew (only (record { 0 = k }))) ws
IsOtherObject k _ = Unit {0}

module _ (p : PProgram) (legal : IsLegalOriginal p) where
  abbrev G : Setting
  G = g p legal

  -- A body of a single task, no object of which is named as the language names something.
  pub record IsTold (w : Word) (objects : PDecls) : Type 0 where
    pub single : IsSingle (meaning (tasked p legal) w.name)
    pub others : (k : ℕ) → k < 18 → AllByRecursion (IsOtherObject k) (decl_list objects)

  abbrev pub IsToldBody : PDecl → Type 0
  IsToldBody (DTaskBody w objects its s) = IsTold w objects
  IsToldBody _ = ⊥

  -- objects of the program are named otherwise
  local-others : (k : ℕ) → k < 18 → (ds : PDecls) → AreLocal G (old p legal) ds → AllByRecursion (IsOtherObject k) (decl_list ds)
  local-others k l no_decl h = tt
  local-others k l (decl_then (DObject ws c x i s) rest) h = (
    all_weaker (λ (w : Word). IsLocal G (old p legal) w.name) (IsNew (only (record { 0 = k }))) ws (λ w j. differ is_predefined w.name.0 k false true j.new (lt_true k 18 l) clash) h.0,
    local-others k l rest h.1,
  )
  local-others k l (decl_then _ rest) h = (tt, local-others k l rest h)

  module _ (w : Word) (objects : PDecls) (its : PBody) (s : Span) (local : AreLocal G (old p legal) objects) where
    abbrev vars : List PDecl
    vars = unit_variables (unit_for G w.name) its

    abbrev copy : TaskInfo → PDecl
    copy info = body_copy G w objects vars (normal_body (unit_for G w.name) its) (λ ds b name. DTaskBody name ds b s) info

    beside : (info : TaskInfo) → IsAmong info (running G w.name) → IsAmong info (tasks_beside G)
    beside info i =
        among (λ (x : TaskInfo). IsAmong x (tasks_beside G)) info (running G w.name) i
        (all_kept (λ (x : TaskInfo). IsAmong x (tasks_beside G)) (λ x. x.unit.0 == w.name.0) (tasks_beside G) (each-of (λ (x : TaskInfo). IsAmong x (tasks_beside G)) (tasks_beside G) (λ x j. j)))

    others : (k : ℕ) → k < 18 → AllByRecursion (IsOtherObject k) (decl_list (decls_front objects (decls_of vars)))
    others k l =
        subst (AllByRecursion (IsOtherObject k)) (sym (list-front objects (decls_of vars)))
        (all_joined (IsOtherObject k) (decl_list objects) (decl_list (decls_of vars)) (local-others k l objects local)
        (subst (AllByRecursion (IsOtherObject k)) (sym (listed_back vars))
        (unit-all (IsOtherObject k) (unit_for G w.name) (λ q x j. (apart-variable p legal (record { 0 = k }) (predefined-plain p legal.names k (omega (arith, l))) j, tt)) its)))

    copies : (infos : List TaskInfo) → ((info : TaskInfo) → IsAmong info infos → IsAmong info (running G w.name)) → AllByRecursion IsToldBody (map copy infos)
    copies infos i = all-copied infos (each-of (λ info. IsToldBody (copy info)) infos (λ info j. record { single = (_, tasked-there p legal info (beside info (i info j))); others = others }))
      where
        all-copied : (xs : List TaskInfo) → AllByRecursion (λ info. IsToldBody (copy info)) xs → AllByRecursion IsToldBody (map copy xs)
        all-copied [] h = tt
        all-copied (x ∷ xs) h = (h.0, all-copied xs h.1)

  told-list : (ds : PDecls) → BodiesLocal p legal ds → AllByRecursion IsToldBody (flat_map (bodies_of G) (decl_list ds))
  told-list no_decl l = tt
  told-list (decl_then (DTaskBody w objects its s) rest) l =
      all_joined IsToldBody (bodies_of G (DTaskBody w objects its s)) (flat_map (bodies_of G) (decl_list rest)) (copies w objects its s l.0 (running G w.name) (λ info i. i)) (told-list rest l.1)
  told-list (decl_then _ rest) l = told-list rest l

  -- Each body of the normal form is so.
  pub all-told : AllByRecursion IsToldBody (flat_map (bodies_of G) (decl_list p.decls))
  all-told = told-list p.decls (bodies-local p legal)

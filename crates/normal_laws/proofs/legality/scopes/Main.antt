-- The scope of main's body in the normal form of a legal program is alike that of the program, and there each task has its own name.
use Rattle.std.proofs.Common.{◌≡◌, ℕ, Bool, List, [], ◌++◌, flat_map, Some, inl, inr, ⊎_elim, refl, sym, ap, ◌∙◌, subst}
use Rattle.std.specs.List.{AllByRecursion}
use Rattle.ada_tree.specs.declared.naming.NameId.{NameId}
use Rattle.ada_tree.specs.declared.naming.Word.{Word}
use Rattle.ada_tree.specs.TypeTable.{TypeTable}
use Rattle.ada_tree.specs.PlainDecl.{PTask, PDecl, DNumber, DObject, DEnumeration, DArray, DSubtype, DException, DIntIo, DPragma, DTask, DTaskBody, PDecls, no_decl, decl_then, decls_of}
use Rattle.ada_tree.specs.PlainProgram.{PProgram}
use Rattle.ada_tree.specs.Every.{EveryProgram}
use Rattle.ada_static_rules.specs.Refusals.{MeetsTypeRules, types_in}
use Rattle.ada_static_rules.specs.Scope.{Scope, Thing, TypeMark, TaskType, SingleTask, TaskObject, TaskArray, Variable, ConstantObject, Parameter, LoopParameter, Literal, AnException, MainProcedure, AnotherUnit, Unclear, EntryPart, meaning, entry_named}
use Rattle.ada_static_rules.specs.Declaring.{first_scope, inner_scope, with_names, with_types, after_decl, after_decls}
use Rattle.syn_event.specs.declared.numbering.TaskInfo.{TaskInfo}
use Rattle.syn_event.specs.NamedTasks.{task_names_of}
use Rattle.syn_event.specs.DeclaredTasks.{decl_list, tasks_of}
use Rattle.task_model.specs.Setting.{Setting}
use Rattle.normal_model.specs.Names.{task_name}
use Rattle.normal_model.specs.NormalTree.{first_decls, tasks_beside, task_declared, bodies_of, main_unit, main_variables, normal_decls}
use Rattle.task_laws.specs.legal.rewritten_types.Rewriting.{NamesOnce}
use Rattle.task_laws.specs.legal.rewritten_types.Laws.{behind}
use Rattle.task_laws.proofs.legal.rewritten_types.Fresh.{first-here}
use Rattle.task_laws.proofs.legal.rewritten_types.Refused.{declared_once}
use Rattle.task_laws.proofs.legal.rewritten_types.Adding.{names-main}
use Rattle.task_laws.proofs.legal.rewritten_types.Soundness.{sound-decls, sound-first}
use Rattle.task_laws.proofs.legal.rewritten_types.Owning.{whole-decls, whole-first}
use Rattle.task_laws.specs.legal.rewritten_values.Values.{old_names}
use Rattle.task_laws.proofs.legal.types.MainScopes.{AllStand, main-stands}
use Rattle.task_laws.proofs.legal.types.TaskTypes.{AllRanges, all-ranges, tasks-have-types}
use Rattle.syn_event.proofs.Weaker.{placed_tokens}
use Rattle.normal_laws.proofs.structure.types.Normal.{front-after}
use Rattle.normal_laws.specs.runs.forms.Normalisable.{setting_for}
use Rattle.normal_laws.specs.existence.Laws.{IsLegalOriginal}
use Rattle.normal_laws.proofs.existence.units.Apart.{all-addressed}
use Rattle.normal_laws.proofs.existence.units.DeclaredNames.{tasks-good}
use Rattle.normal_laws.proofs.existence.units.TasksApart.{IsNamed, all-named, members-there, units-told}
use Rattle.normal_laws.specs.structure.asked.Pieces.{IsAmong, first_among, later_among}
use Rattle.normal_laws.specs.structure.typed.ScopeOf.{IsSeenWith, IsTaskThere}
use Rattle.task_laws.specs.legal.alike_scopes.Alike.{Alike}
use Rattle.task_laws.proofs.legal.alike_scopes.Naming.{inside-alike}
use Rattle.normal_laws.specs.legality.scopes.Plain.{plain_name}
use Rattle.normal_laws.proofs.legality.scopes.Parts.{HasParts, parts-first, parts-decl}
use Rattle.normal_laws.proofs.legality.scopes.Later.{AllEntries, all-entries}
use Rattle.normal_laws.proofs.legality.scopes.Seeing.{HasEntries, entries_in}
use Rattle.normal_laws.proofs.legality.scopes.Places.{AtBodies, IsPlaced}
use Rattle.normal_laws.proofs.legality.scopes.Units.{IsUnitOrNot, units-at}
use Rattle.normal_laws.proofs.legality.scopes.Base.{base-same}
use Rattle.normal_laws.proofs.legality.scopes.Fronts.{Walked, front-scopes}
use Rattle.normal_laws.proofs.legality.scopes.Names.{variable-new}
use Rattle.normal_laws.proofs.legality.scopes.Plain.{program-plain}
use Rattle.normal_laws.proofs.legality.scopes.Formed.{IsSeenAs, HasUnit, IsFormed, IsTaskIn, IsAmongNames, formed-variables, formed-tasks, task-there, formed-bodies, bodies-other, all-bodies}
use Rattle.normal_laws.proofs.legality.scopes.Infos.{infos-known}
use Rattle.normal_laws.proofs.legality.scopes.Rows.{IsRowSeen, rows-seen}
use Rattle.normal_laws.proofs.legality.scopes.Matched.{IsTaskMatched, tasks-matched}
use Rattle.normal_laws.proofs.structure.placed.Made.{among}
use Rattle.ada_static_rules.proofs.found_twice.Declared.{names_own, decls_joined}

-- ---- scopes along declarations

-- declarations of main leave whether the place is in main, and the entries around
pub record IsFrame (s t : Scope) : Type 0 where
  pub main : t.in_main ≡ s.in_main
  pub own : t.own ≡ s.own

same-frame : (s : Scope) → IsFrame s s
same-frame s = record { main = refl; own = refl }

names-frame : (th : Thing) (ws : List Word) (T : TypeTable) (s : Scope) → IsFrame s (with_names th (with_types T s) ws)
names-frame th ws T s = record { main = names-main th ws (with_types T s); own = names_own th ws (with_types T s) }

pub decl-frame : (d : PDecl) (s : Scope) → IsFrame s (after_decl s d)
decl-frame (DNumber w e sp) s = record { main = refl; own = refl }
decl-frame (DObject ws c x i sp) s = names-frame _ ws _ s
decl-frame (DEnumeration w ws sp) s = record { main = names-main _ ws _; own = names_own _ ws _ }
decl-frame (DArray w q x sp) s = record { main = refl; own = refl }
decl-frame (DSubtype w x sp) s = record { main = refl; own = refl }
decl-frame (DException ws sp) s = record { main = names-main AnException ws s; own = names_own AnException ws s }
decl-frame (DIntIo w sp) s = record { main = refl; own = refl }
decl-frame (DPragma e sp) s = same-frame s
decl-frame (DTask t sp) s = record { main = refl; own = refl }
decl-frame (DTaskBody w objects its sp) s = record { main = refl; own = refl }

pub decls-frame : (ds : PDecls) (s : Scope) → IsFrame s (after_decls s ds)
decls-frame no_decl s = same-frame s
decls-frame (decl_then d rest) s = let a = decl-frame d s in let b = decls-frame rest (after_decl s d) in record { main = b.main ∙ a.main; own = b.own ∙ a.own }

parts-decls : (ds : PDecls) (s : Scope) → HasParts s.types → HasParts (after_decls s ds).types
parts-decls no_decl s h = h
parts-decls (decl_then d rest) s h = parts-decls rest (after_decl s d) (parts-decl d s h)

-- what is said of the last scope
at-end : (P : Scope → Type 0) (ds : PDecls) (s : Scope) → AtBodies P s ds → P (after_decls s ds)
at-end P no_decl s h = h
at-end P (decl_then (DTaskBody w objects its sp) rest) s h = at-end P rest (after_decl s (DTaskBody w objects its sp)) h.1
at-end P (decl_then (DNumber w e sp) rest) s h = at-end P rest _ h
at-end P (decl_then (DObject ws c x i sp) rest) s h = at-end P rest _ h
at-end P (decl_then (DEnumeration w ws sp) rest) s h = at-end P rest _ h
at-end P (decl_then (DArray w q x sp) rest) s h = at-end P rest _ h
at-end P (decl_then (DSubtype w x sp) rest) s h = at-end P rest _ h
at-end P (decl_then (DException ws sp) rest) s h = at-end P rest _ h
at-end P (decl_then (DIntIo w sp) rest) s h = at-end P rest _ h
at-end P (decl_then (DPragma e sp) rest) s h = at-end P rest _ h
at-end P (decl_then (DTask t sp) rest) s h = at-end P rest _ h

-- ---- lists

among-names : (g : Setting) (x : TaskInfo) (xs : List TaskInfo) → IsAmong x xs → IsAmongNames g x xs
among-names g x xs (first_among ys) = inl refl
among-names g x xs (later_among y ys i) = inr (among-names g x ys i)

-- how a name is seen, as the statements of the normal form want it
seen-thing : (es : List EntryPart) (th : Thing) → HasEntries es th → IsSeenWith es (Some th)
seen-thing es (SingleTask xs) h = h
seen-thing es (TaskObject xs) h = h
seen-thing es (TaskArray range xs) h = h
seen-thing es (TypeMark m) h = absurd h
seen-thing es (TaskType xs) h = absurd h
seen-thing es (Variable m) h = absurd h
seen-thing es (ConstantObject m) h = absurd h
seen-thing es (Parameter mode m) h = absurd h
seen-thing es (LoopParameter m) h = absurd h
seen-thing es (Literal k) h = absurd h
seen-thing es AnException h = absurd h
seen-thing es MainProcedure h = absurd h
seen-thing es AnotherUnit h = absurd h
seen-thing es Unclear h = absurd h

pub seen-with : (S s : Scope) (id : NameId) (u : PTask) → IsSeenAs S s id u → IsSeenWith (entries_in S u) (meaning s id)
seen-with S s id u h = ⊎_elim (λ x. subst (IsSeenWith (entries_in S u)) (sym x.1) (seen-thing (entries_in S u) x.0 x.2)) (λ e. subst (IsSeenWith (entries_in S u)) (sym e) tt) h

-- ---- a legal program

module _ (p : PProgram) (legal : IsLegalOriginal p) where
  abbrev pub g : Setting
  g = setting_for p

  abbrev pub old : ℕ → Bool
  old = plain_name p

  -- the scopes behind all declarations, and behind the first ones of the normal form
  abbrev pub last : Scope
  last = behind p.name p.decls

  abbrev pub first : Scope
  first = behind p.name (first_decls [] p.decls)

  pub rules : MeetsTypeRules p
  rules = legal.legal.type_rules

  pub once : NamesOnce p.name p.decls
  once = declared_once p rules

  pub every : EveryProgram (old_names old) p
  every = program-plain p rules legal.legal.check_rules legal.placed legal.names (all-addressed p rules legal.placed legal.small)

  pub stand : AllStand (types_in p) (first_scope p.name) p.decls
  stand = main-stands p rules legal.placed legal.small

  entries : AllEntries last (first_scope p.name) p.decls
  entries = all-entries p.names p.decls (first_scope p.name) stand legal.placed.2 (first-here p.name) once.1

  -- each task and task type is seen with its entries, or is not declared before
  pub units-seen : AtBodies (λ q. AllByRecursion (IsUnitOrNot last q) (tasks_of p)) (first_scope p.name) p.decls
  units-seen = units-at last (tasks_of p) p.decls [] (first_scope p.name) refl (first-here p.name) once.1 entries tt

  ranges : AllRanges (types_in p) (first_scope p.name) p.decls
  ranges = all-ranges (types_in p) p.names p.decls (first_scope p.name) stand legal.placed.2

  pub walked : Walked last (types_in p) (task_names_of p) (first_scope p.name) first p.decls
  walked =
      front-scopes p once legal.placed.1 stand entries
      ranges

  pub last-placed : IsPlaced last (task_names_of p) first last
  last-placed = at-end (IsPlaced last (task_names_of p) first) p.decls (first_scope p.name) walked.places

  -- and by the table they have the ranges and kinds that they have there
  pub matched : AllByRecursion (IsTaskMatched (types_in p) last) (tasks_of p)
  matched = tasks-matched (types_in p) last p.names p.decls (first_scope p.name) stand legal.placed.2 entries

  -- and arrays of tasks the range with which they are declared
  pub rows : AllByRecursion (IsRowSeen (types_in p) last) (task_names_of p)
  rows = rows-seen (types_in p) p.decls [] (first_scope p.name) (first-here p.name) once.1 ranges

  pub named : AllByRecursion (IsNamed g) (tasks_beside g)
  named = all-named g (tasks_beside g) (tasks-good p (types_in p) legal.legal.check_rules (placed_tokens p legal.placed)) (members-there g).1

  pub units : AllByRecursion (HasUnit old g last first (task_names_of p)) (tasks_beside g)
  units = infos-known p last first (types_in p) once.1 (tasks-have-types p rules legal.placed legal.small).found every.2 named

  tell : AllByRecursion (λ (a : TaskInfo). AllByRecursion (λ (b : TaskInfo). (task_name g a).0 ≡ (task_name g b).0 → a.unit.0 ≡ b.unit.0) (tasks_beside g)) (tasks_beside g)
  tell = units-told p (types_in p) (record { rules = rules; last = legal.placed.1 }) legal.legal.check_rules (placed_tokens p legal.placed) legal.names

  abbrev pub Formed : Scope → Type 0
  Formed t = IsFormed old g last first (task_names_of p) t

  pub first-formed : Formed first
  first-formed = record {
    same = λ s pl. base-same old first s pl.beside walked.clear (sound-decls (first_decls [] p.decls) (first_scope p.name) (sound-first p.name)) (whole-decls (first_decls [] p.decls) (first_scope p.name) (whole-first p.name))
        (parts-decls (first_decls [] p.decls) (first_scope p.name) parts-first);
    main = (decls-frame (first_decls [] p.decls) (first_scope p.name)).main;
    own = (decls-frame (first_decls [] p.decls) (first_scope p.name)).own;
  }

  -- the scopes behind the variables and behind the tasks
  abbrev pub varied : Scope
  varied = after_decls first (decls_of (main_variables g))

  abbrev pub tasked : Scope
  tasked = after_decls varied (decls_of (flat_map (task_declared g) (tasks_beside g)))

  pub varied-formed : Formed varied
  varied-formed = formed-variables old g last first (task_names_of p) (variable-new g) (main_unit g) refl p.body first first-formed

  pub tasked-formed : Formed tasked
  tasked-formed = formed-tasks old g last first (task_names_of p) last-placed (tasks_beside g) units varied varied-formed

  -- the unit of a task
  pub unit-of : (info : TaskInfo) → IsAmong info (tasks_beside g) → HasUnit old g last first (task_names_of p) info
  unit-of info i = among (HasUnit old g last first (task_names_of p)) info (tasks_beside g) i units

  pub tasked-there : (info : TaskInfo) (i : IsAmong info (tasks_beside g)) → IsTaskIn old g last first (task_names_of p) tasked info (unit-of info i)
  tasked-there info i =
      task-there old g last first (task_names_of p) last-placed info (unit-of info i) (tasks_beside g) units
      (among (λ (a : TaskInfo). AllByRecursion (λ (b : TaskInfo). (task_name g a).0 ≡ (task_name g b).0 → a.unit.0 ≡ b.unit.0) (tasks_beside g)) info (tasks_beside g) i tell)
      varied varied-formed (inr (among-names g info (tasks_beside g) i))

  -- ---- main

  abbrev pub made : Scope
  made = after_decls (first_scope p.name) (normal_decls g)

  abbrev bodies : List PDecl
  bodies = flat_map (bodies_of g) (decl_list p.decls)

  made-is : made ≡ after_decls tasked (decls_of bodies)
  made-is =
      front-after (first_decls [] p.decls) (decls_of (main_variables g ++ flat_map (task_declared g) (tasks_beside g) ++ bodies)) (first_scope p.name)
      ∙ decls_joined (main_variables g ++ flat_map (task_declared g) (tasks_beside g)) bodies first
      ∙ ap (λ s. after_decls s (decls_of bodies)) (decls_joined (main_variables g) (flat_map (task_declared g) (tasks_beside g)) first)

  pub made-formed : Formed made
  made-formed = subst Formed (sym made-is) (formed-bodies old g last first (task_names_of p) bodies (all-bodies old g last first (task_names_of p) (decl_list p.decls)) tasked tasked-formed)

  -- what a name means behind the bodies it means behind the tasks
  pub made-means : (id : NameId) → meaning made id ≡ meaning tasked id
  made-means id = ap (λ s. meaning s id) made-is ∙ bodies-other old g last first (task_names_of p) bodies (all-bodies old g last first (task_names_of p) (decl_list p.decls)) tasked id

  -- The scope of main's body is alike that of the program.
  pub main-alike : Alike old (inner_scope last) (inner_scope made)
  main-alike = inside-alike old last made record {
    names = made-formed.same last last-placed;
    own = λ id o. ap (λ es. entry_named es id) (l.own ∙ sym made-formed.own);
    main = l.main ∙ sym made-formed.main;
  }
    where
      l : IsFrame (first_scope p.name) last
      l = decls-frame p.decls (first_scope p.name)

  -- There each task has its own name, with the entries that it is seen with in the program.
  pub main-tasks : (info : TaskInfo) → IsAmong info (tasks_beside g) → IsTaskThere g (inner_scope last) (inner_scope made) info
  main-tasks info i =
      let u = unit-of info i in
      record {
        entries = entries_in last u.unit;
        means = made-means (task_name g info) ∙ tasked-there info i;
        seen = seen-with last last info.name u.unit (u.seen last last-placed);
      }

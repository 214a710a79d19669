-- What stands around the statements of main: no own task, and of the normal form no task type.
use Rattle.std.proofs.Common.{◌≡◌, ℕ, ◌==◌, ◌||◌, not, Bool, true, false, cond, if◌then◌else◌, List, [], ◌∷◌, ◌++◌, flat_map, find, Option, Some, None, is_some, option_map, refl, sym, ap, subst, ◌∙◌, true≢false}
use Rattle.std.specs.List.{AllByRecursion}
use Rattle.std.proofs.lemmas.Bool.{eqb-true, eq-eqb}
use Rattle.ada_tree.specs.declared.naming.NameId.{NameId}
use Rattle.ada_tree.specs.declared.naming.Span.{Span}
use Rattle.ada_tree.specs.declared.naming.Word.{Word}
use Rattle.ada_tree.specs.TypeTable.{TypeTable}
use Rattle.ada_tree.specs.PlainExpr.{PExpr}
use Rattle.ada_tree.specs.PlainDecl.{PShape, OPlain, OArray, PInit, PTask, PDecl, DNumber, DObject, DEnumeration, DArray, DSubtype, DException, DIntIo, DPragma, DTask, DTaskBody, PDecls, no_decl, decl_then, decls_of}
use Rattle.ada_tree.specs.Every.{EveryExpr}
use Rattle.syn_event.specs.declared.numbering.TaskInfo.{TaskInfo}
use Rattle.syn_event.specs.declared.meanings.Meant.{Meant}
use Rattle.syn_event.specs.declared.meanings.Meant.TheVariants.{MainProcedure, TaskType, TaskOf, Shared, Inner}
use Rattle.syn_event.specs.CheckScope.{CheckScope, meaning, uses}
use Rattle.syn_event.specs.CheckSites.{with_meant, with_declared_object, with_object, after_object, after_task, after_decl, after_decls, first_around}
use Rattle.syn_event.specs.Extents.{fixed, is_array_type}
use Rattle.syn_event.specs.NamedTasks.{type_named, with_type}
use Rattle.syn_event.specs.RuleMainEntry.{no_task}
use Rattle.syn_event.specs.RuleSharedVariable.{shared_name, in_body_of, shared_variable}
use Rattle.syn_event.specs.RuleAcceptPlace.{is_own_entry}
use Rattle.syn_event.specs.DeclaredTasks.{decl_list}
use Rattle.task_model.specs.Setting.{Setting}
use Rattle.normal_model.specs.Names.{variable_name, task_name}
use Rattle.normal_model.specs.NormalTree.{decls_front, mark_of, unless_left, first_decls, tasks_beside, task_under, declared_under, task_declared, bodies_of, main_unit, main_variables, normal_decls}
use Rattle.normal_laws.specs.structure.asked.Pieces.{IsAmong}
use Rattle.normal_laws.proofs.structure.types.Variables.{all-mapped, unit-all}
use Rattle.normal_laws.specs.structure.checked.Around.{own_rules, IsAround}
use Rattle.common_lemmas.proofs.Lists.{all_joined}

-- ---- what declarations leave as it is

-- nothing but names and units differs
pub record IsFrameOf (c d : CheckScope) : Type 0 where
  pub types : d.types ≡ c.types
  pub own : d.own ≡ c.own
  pub accepting : d.accepting ≡ c.accepting
  pub loops : d.loops ≡ c.loops
  pub in_handler : d.in_handler ≡ c.in_handler

pub frame-refl : (c : CheckScope) → IsFrameOf c c
frame-refl c = record { types = refl; own = refl; accepting = refl; loops = refl; in_handler = refl }

pub frame-trans : (c d e : CheckScope) → IsFrameOf c d → IsFrameOf d e → IsFrameOf c e
frame-trans c d e h i = record {
  types = i.types ∙ h.types;
  own = i.own ∙ h.own;
  accepting = i.accepting ∙ h.accepting;
  loops = i.loops ∙ h.loops;
  in_handler = i.in_handler ∙ h.in_handler;
}

pub meant-frame : (m : Meant) (c : CheckScope) (ws : List Word) → IsFrameOf c (with_meant m c ws)
meant-frame m c [] = frame-refl c
meant-frame m c (w ∷ ws) = let h = meant-frame m (record c { names = (w.name.0, m) ∷ c.names }) ws in record { types = h.types; own = h.own; accepting = h.accepting; loops = h.loops; in_handler = h.in_handler }

value-frame : (b : Bool) (c : CheckScope) (ws : List Word) → IsFrameOf c (with_declared_object b c ws)
value-frame true c ws = meant-frame Shared c ws
value-frame false c ws = frame-refl c

object-frame : (c : CheckScope) (m : Option Meant) (mark : Word) (shared : Bool) (ws : List Word) → IsFrameOf c (with_object c m mark shared ws)
object-frame c (Some TaskType) mark shared ws = meant-frame (TaskOf mark.name) c ws
object-frame c (Some MainProcedure) mark shared ws = value-frame shared c ws
object-frame c (Some (TaskOf x)) mark shared ws = value-frame shared c ws
object-frame c (Some Shared) mark shared ws = value-frame shared c ws
object-frame c (Some Inner) mark shared ws = value-frame shared c ws
object-frame c None mark shared ws = value-frame shared c ws

shape-frame : (c : CheckScope) (ws : List Word) (constant : Bool) (x : PShape) → IsFrameOf c (after_object c ws constant x)
shape-frame c ws constant (OPlain x) = object-frame c (meaning c x.mark.name) x.mark (not constant || is_array_type c.types x.mark.name) ws
shape-frame c ws constant (OArray r x) = object-frame c (meaning c x.mark.name) x.mark true ws

task-frame : (c : CheckScope) (t : PTask) → IsFrameOf c (after_task c t)
task-frame c t = record { types = refl; own = refl; accepting = refl; loops = refl; in_handler = refl }

pub decl-frame : (d : PDecl) (c : CheckScope) → IsFrameOf c (after_decl c d)
decl-frame (DObject ws constant x i s) c = shape-frame c ws constant x
decl-frame (DTask t s) c = task-frame c t
decl-frame (DNumber w e s) c = frame-refl c
decl-frame (DEnumeration w ws s) c = frame-refl c
decl-frame (DArray w q x s) c = frame-refl c
decl-frame (DSubtype w x s) c = frame-refl c
decl-frame (DException ws s) c = frame-refl c
decl-frame (DIntIo w s) c = frame-refl c
decl-frame (DPragma e s) c = frame-refl c
decl-frame (DTaskBody w objects its s) c = frame-refl c

pub decls-frame : (ds : PDecls) (c : CheckScope) → IsFrameOf c (after_decls c ds)
decls-frame no_decl c = frame-refl c
decls-frame (decl_then d rest) c = frame-trans c (after_decl c d) (after_decls (after_decl c d) rest) (decl-frame d c) (decls-frame rest (after_decl c d))

-- ---- names that mean no task type

-- no task type, and the procedure alone by its own name
abbrev IsPlainMeaning : ℕ → ℕ → Meant → Type 0
IsPlainMeaning main n TaskType = ⊥
IsPlainMeaning main n MainProcedure = n ≡ main
IsPlainMeaning main n (TaskOf x) = Prim.Unit {0}
IsPlainMeaning main n Shared = Prim.Unit {0}
IsPlainMeaning main n Inner = Prim.Unit {0}

abbrev pub ArePlain : ℕ → List (ℕ × Meant) → Type 0
ArePlain main xs = AllByRecursion (λ k. IsPlainMeaning main k.0 k.1) xs

module _ (main : ℕ) where
  meant-plain : (m : Meant) → ((n : ℕ) → IsPlainMeaning main n m) → (c : CheckScope) (ws : List Word) → ArePlain main c.names → ArePlain main (with_meant m c ws).names
  meant-plain m f c [] h = h
  meant-plain m f c (w ∷ ws) h = meant-plain m f (record c { names = (w.name.0, m) ∷ c.names }) ws (f w.name.0, h)

  value-plain : (b : Bool) (c : CheckScope) (ws : List Word) → ArePlain main c.names → ArePlain main (with_declared_object b c ws).names
  value-plain true c ws h = meant-plain Shared (λ n. tt) c ws h
  value-plain false c ws h = h

  object-plain : (c : CheckScope) (m : Option Meant) (mark : Word) (shared : Bool) (ws : List Word) → ArePlain main c.names → ArePlain main (with_object c m mark shared ws).names
  object-plain c (Some TaskType) mark shared ws h = meant-plain (TaskOf mark.name) (λ n. tt) c ws h
  object-plain c (Some MainProcedure) mark shared ws h = value-plain shared c ws h
  object-plain c (Some (TaskOf x)) mark shared ws h = value-plain shared c ws h
  object-plain c (Some Shared) mark shared ws h = value-plain shared c ws h
  object-plain c (Some Inner) mark shared ws h = value-plain shared c ws h
  object-plain c None mark shared ws h = value-plain shared c ws h

  shape-plain : (c : CheckScope) (ws : List Word) (constant : Bool) (x : PShape) → ArePlain main c.names → ArePlain main (after_object c ws constant x).names
  shape-plain c ws constant (OPlain x) h = object-plain c (meaning c x.mark.name) x.mark (not constant || is_array_type c.types x.mark.name) ws h
  shape-plain c ws constant (OArray r x) h = object-plain c (meaning c x.mark.name) x.mark true ws h

  -- no task type is declared
  abbrev pub IsNoType : PDecl → Type 0
  IsNoType (DTask t s) = t.of_kind ≡ false
  IsNoType _ = Prim.Unit {0}

  abbrev pub NoTypes : PDecls → Type 0
  NoTypes no_decl = Prim.Unit {0}
  NoTypes (decl_then d rest) = IsNoType d × NoTypes rest

  meaning-plain : (t : PTask) → t.of_kind ≡ false → IsPlainMeaning main t.name.name.0 (if t.of_kind then TaskType else TaskOf t.name.name)
  meaning-plain t e = subst (λ b. IsPlainMeaning main t.name.name.0 (if b then TaskType else TaskOf t.name.name)) (sym e) tt

  decl-plain : (d : PDecl) (c : CheckScope) → IsNoType d → ArePlain main c.names → ArePlain main (after_decl c d).names
  decl-plain (DObject ws constant x i s) c n h = shape-plain c ws constant x h
  decl-plain (DTask t s) c n h = (meaning-plain t n, h)
  decl-plain (DNumber w e s) c n h = h
  decl-plain (DEnumeration w ws s) c n h = h
  decl-plain (DArray w q x s) c n h = h
  decl-plain (DSubtype w x s) c n h = h
  decl-plain (DException ws s) c n h = h
  decl-plain (DIntIo w s) c n h = h
  decl-plain (DPragma e s) c n h = h
  decl-plain (DTaskBody w objects its s) c n h = h

  pub decls-plain : (ds : PDecls) (c : CheckScope) → NoTypes ds → ArePlain main c.names → ArePlain main (after_decls c ds).names
  decls-plain no_decl c n h = h
  decls-plain (decl_then d rest) c n h = decls-plain rest (after_decl c d) n.1 (decl-plain d c n.0 h)

  -- a name that is not the procedure's may be called
  meaning-free : (n : ℕ) (m : Meant) (s : Span) → IsPlainMeaning main n m → (n == main) ≡ false → no_task (Some m) s ≡ []
  meaning-free n TaskType s h e = absurd h
  meaning-free n MainProcedure s h e = absurd (true≢false (sym (eq-eqb n main h) ∙ e))
  meaning-free n (TaskOf x) s h e = refl
  meaning-free n Shared s h e = refl
  meaning-free n Inner s h e = refl

  pub name-free : (xs : List (ℕ × Meant)) (id : NameId) (s : Span) → ArePlain main xs → (id.0 == main) ≡ false → no_task (option_map (λ k. k.1) (find (λ k. k.0 == id.0) xs)) s ≡ []
  name-free [] id s h e = refl
  name-free (k ∷ ks) id s h e = go (k.0 == id.0) refl (name-free ks id s h.1 e)
    where
      go : (t : Bool) → (k.0 == id.0) ≡ t → no_task (option_map (λ k. k.1) (find (λ k. k.0 == id.0) ks)) s ≡ [] → no_task (option_map (λ k. k.1) (cond t (Some k) (find (λ k. k.0 == id.0) ks))) s ≡ []
      go true f rest = meaning-free k.0 k.1 s h.0 (ap (λ n. n == main) (eqb-true k.0 id.0 f) ∙ e)
      go false f rest = rest

  -- ---- the declarations of a normal form declare no task type

  types-front : (xs ys : PDecls) → NoTypes xs → NoTypes ys → NoTypes (decls_front xs ys)
  types-front no_decl ys h i = i
  types-front (decl_then d xs) ys h i = (h.0, types-front xs ys h.1 i)

  types-list : (ds : List PDecl) → AllByRecursion IsNoType ds → NoTypes (decls_of ds)
  types-list [] h = tt
  types-list (d ∷ ds) h = (h.0, types-list ds h.1)

  types-left : (b : Bool) (ws : List Word) (constant : Bool) (x : PShape) (i : Option PInit) (s : Span) (rest : PDecls) → NoTypes rest → NoTypes (unless_left b (DObject ws constant x i s) rest)
  types-left true ws constant x i s rest h = h
  types-left false ws constant x i s rest h = (tt, h)

  types-first : (kinds : List PTask) (ds : PDecls) → NoTypes (first_decls kinds ds)
  types-first kinds no_decl = tt
  types-first kinds (decl_then (DTask t s) rest) = types-first (with_type kinds t.of_kind t) rest
  types-first kinds (decl_then (DTaskBody w objects its s) rest) = types-first kinds rest
  types-first kinds (decl_then (DObject ws c x i s) rest) = types-left (is_some (type_named kinds (mark_of x))) ws c x i s (first_decls kinds rest) (types-first kinds rest)
  types-first kinds (decl_then (DNumber w e s) rest) = (tt, types-first kinds rest)
  types-first kinds (decl_then (DEnumeration w ws s) rest) = (tt, types-first kinds rest)
  types-first kinds (decl_then (DArray w q x s) rest) = (tt, types-first kinds rest)
  types-first kinds (decl_then (DSubtype w x s) rest) = (tt, types-first kinds rest)
  types-first kinds (decl_then (DException ws s) rest) = (tt, types-first kinds rest)
  types-first kinds (decl_then (DIntIo w s) rest) = (tt, types-first kinds rest)
  types-first kinds (decl_then (DPragma e s) rest) = (tt, types-first kinds rest)

  types-under : (unit name : NameId) (d : PDecl) → AllByRecursion IsNoType (declared_under unit name d)
  types-under unit name (DTask t s) = go (t.name.name.0 == unit.0)
    where
      go : (b : Bool) → AllByRecursion IsNoType (if b then DTask (task_under name t) s ∷ [] else [])
      go true = (refl, tt)
      go false = tt
  types-under unit name (DTaskBody w objects its s) = tt
  types-under unit name (DNumber w e s) = tt
  types-under unit name (DObject ws c x i s) = tt
  types-under unit name (DEnumeration w ws s) = tt
  types-under unit name (DArray w q x s) = tt
  types-under unit name (DSubtype w x s) = tt
  types-under unit name (DException ws s) = tt
  types-under unit name (DIntIo w s) = tt
  types-under unit name (DPragma e s) = tt

  flat-types : {A : Type 0} (f : A → List PDecl) → ((x : A) → AllByRecursion IsNoType (f x)) → (xs : List A) → AllByRecursion IsNoType (flat_map f xs)
  flat-types f each [] = tt
  flat-types f each (x ∷ xs) = all_joined IsNoType (f x) (flat_map f xs) (each x) (flat-types f each xs)

  copy-types : (g : Setting) (d : PDecl) → AllByRecursion IsNoType (bodies_of g d)
  copy-types g (DTaskBody w objects its s) = all-mapped IsNoType _ (λ (info : TaskInfo). tt) _
  copy-types g (DTask t s) = tt
  copy-types g (DNumber w e s) = tt
  copy-types g (DObject ws c x i s) = tt
  copy-types g (DEnumeration w ws s) = tt
  copy-types g (DArray w q x s) = tt
  copy-types g (DSubtype w x s) = tt
  copy-types g (DException ws s) = tt
  copy-types g (DIntIo w s) = tt
  copy-types g (DPragma e s) = tt

  pub normal-types : (g : Setting) → NoTypes (normal_decls g)
  normal-types g =
      types-front (first_decls [] g.program.decls) (decls_of (main_variables g ++ flat_map (task_declared g) (tasks_beside g) ++ flat_map (bodies_of g) (decl_list g.program.decls))) (types-first [] g.program.decls)
      (types-list (main_variables g ++ flat_map (task_declared g) (tasks_beside g) ++ flat_map (bodies_of g) (decl_list g.program.decls))
      (all_joined IsNoType (main_variables g ++ flat_map (task_declared g) (tasks_beside g)) (flat_map (bodies_of g) (decl_list g.program.decls))
      (all_joined IsNoType (main_variables g) (flat_map (task_declared g) (tasks_beside g)) (unit-all IsNoType (main_unit g) (λ s x k. tt) g.program.body)
      (flat-types (task_declared g) (λ info. flat-types (declared_under info.unit (task_name g info)) (types-under info.unit (task_name g info)) (decl_list g.program.decls)) (tasks_beside g)))
      (flat-types (bodies_of g) (copy-types g) (decl_list g.program.decls))))

-- ---- main

-- What stands around the body of main in a normal form is as around that of the program, where static values of own names are the same by both
-- tables, and no task has the procedure's name.
pub main-around : (g : Setting) (own : ℕ → Bool) (vars : List PDecl) (T U : TypeTable) (w : Word) → T ≡ g.types → ((k : ℕ) (e : PExpr) → EveryExpr (own_rules own) k e → fixed U e ≡ fixed T e) →
    ((info : TaskInfo) → IsAmong info (tasks_beside g) → ((task_name g info).0 == w.name.0) ≡ false) → IsAround g own vars (after_decls (first_around T w) g.program.decls) (after_decls (first_around U w) (normal_decls g))
main-around g own vars T U w types same apart = record {
  hidden = λ id s o h. unshared id s;
  variables = λ k s l. unshared (variable_name g k) s;
  literals = λ id s i. unshared id s;
  tasks = λ info s i. name-free w.name.0 (after_decls (first_around U w) (normal_decls g)).names (task_name g info) s (decls-plain w.name.0 (normal_decls g) (first_around U w) (normal-types w.name.0 g) (refl, tt)) (apart info i);
  entries = λ id. ap (λ o. is_own_entry o id) e.own ∙ sym (ap (λ o. is_own_entry o id) f.own);
  accepting = e.accepting ∙ sym f.accepting;
  loops = e.loops ∙ sym f.loops;
  in_handler = e.in_handler ∙ sym f.in_handler;
  types = f.types ∙ types;
  fixed = λ k x h. ap (λ V. fixed V x) e.types ∙ same k x h ∙ sym (ap (λ V. fixed V x) f.types);
}
  where
    e : IsFrameOf (first_around U w) (after_decls (first_around U w) (normal_decls g))
    e = decls-frame (normal_decls g) (first_around U w)

    f : IsFrameOf (first_around T w) (after_decls (first_around T w) g.program.decls)
    f = decls-frame g.program.decls (first_around T w)

    unshared : (id : NameId) (s : Span) → shared_variable (after_decls (first_around U w) (normal_decls g)) (uses id s) ≡ []
    unshared id s = ap (λ o. in_body_of o (shared_name (meaning (after_decls (first_around U w) (normal_decls g)) id) s)) e.own

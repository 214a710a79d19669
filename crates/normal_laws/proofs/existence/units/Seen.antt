-- Which task or task type a name means along the declarations of main: the one that is declared under that name, and whose body the numbers run.
use Rattle.std.proofs.Common.{◌≡◌, ℕ, Bool, true, false, ◌||◌, ◌==◌, if◌then◌else◌, List, [], ◌∷◌, ◌++◌, length, map, find, option_map, Option, Some, None, refl, sym, ap, subst, ◌∙◌, true≢false}
use Rattle.std.specs.List.{AllByRecursion}
use Rattle.std.proofs.lemmas.Bool.{eqb-true, eq-eqb, or_left, or_right}
use Rattle.std.proofs.lemmas.Option.{none-some}
use Rattle.std.proofs.lemmas.List.{append-nil}
use Rattle.ada_tree.specs.declared.naming.NameId.{NameId}
use Rattle.ada_tree.specs.declared.naming.Word.{Word}
use Rattle.ada_tree.specs.PlainExpr.{PDrange, PSubind}
use Rattle.ada_tree.specs.PlainDecl.{PShape, OPlain, OArray, PTask, PDecl, DNumber, DObject, DEnumeration, DArray, DSubtype, DException, DIntIo, DPragma, DTask, DTaskBody}
use Rattle.ada_static_rules.specs.Scope.{Scope, Range, NameMeaning, Thing, TypeMark, TaskType, SingleTask, TaskObject, TaskArray, Variable, ConstantObject, Parameter, LoopParameter, Literal, AnException, MainProcedure, AnotherUnit, Unclear, EntryPart, Marking, ScalarMark, ArrayMark, TaskMark, NoMark, UnknownMark, UnclearMark, marking, meaning}
use Rattle.ada_static_rules.specs.RuleDuplicate.{is_predefined, is_among}
use Rattle.ada_static_rules.specs.Declaring.{seen_as, predefined_names, first_scope, with_name, with_names, declared_object, plain_object, array_object, object_meaning, task_object, task_array, type_of_mark, task_thing, entry_part, after_decl}
use Rattle.syn_event.specs.declared.meanings.Meant.{Meant}
use Rattle.syn_event.specs.declared.meanings.Meant.TheVariants as meant
use Rattle.syn_event.specs.CheckScope.{EnclosingUnit as CheckUnit, CheckScope, meaning as check_meaning}
use Rattle.syn_event.specs.CheckSites.{with_object, with_declared_object, after_decl as check_after_decl, after_object as check_after_object, enclosing_unit}
use Rattle.task_laws.specs.legal.rewritten_types.Rewriting.{IsUsed, IsUnused, names_declared}
use Rattle.task_laws.proofs.legal.rewritten_types.Lookups.{find-only}
use Rattle.task_laws.proofs.legal.rewritten_types.Fresh.{other, used-more}
use Rattle.common_lemmas.proofs.Lists.{all_joined, all_weaker, find_front, found_none}
use Rattle.common_lemmas.proofs.Options.{some_same}
use Rattle.syn_event.proofs.CheckScopes.{meant_units}

abbrev pub is_task : NameId → PTask → Bool
is_task id t = t.name.name.0 == id.0

abbrev pub is_unit : NameId → CheckUnit → Bool
is_unit id u = u.name.0 == id.0

-- a task or task type of that name among those that are declared before, with its entries as they are seen
pub record IsSeen (done : List PTask) (units : List CheckUnit) (id : NameId) (es : List EntryPart) : Type 0 where
  pub task : PTask
  pub around : Scope
  pub entries : es ≡ map (entry_part around) task.entries
  pub found : find (is_task id) done ≡ Some task
  pub unit : find (is_unit id) units ≡ Some (enclosing_unit task)

abbrev pub ThingSeen : List PTask → List CheckUnit → NameId → Thing → Type 0
ThingSeen done units id (SingleTask es) = IsSeen done units id es
ThingSeen done units id (TaskType es) = IsSeen done units id es
ThingSeen done units id _ = Unit {0}

abbrev IsNoUnit : Thing → Type 0
IsNoUnit (SingleTask es) = ⊥
IsNoUnit (TaskType es) = ⊥
IsNoUnit _ = Unit {0}

-- what is known behind some declarations of main
pub record AreSeen (done : List PTask) (units : List CheckUnit) (s : Scope) : Type 0 where
  pub things : (id : NameId) (thing : Thing) → meaning s id ≡ Some thing → ThingSeen done units id thing
  pub used : AllByRecursion (λ (t : PTask). IsUsed s t.name.name) done

other-seen : (done : List PTask) (units : List CheckUnit) (id : NameId) (thing : Thing) → IsNoUnit thing → ThingSeen done units id thing
other-seen done units id (SingleTask es) h = absurd h
other-seen done units id (TaskType es) h = absurd h
other-seen done units id (TypeMark m) h = tt
other-seen done units id (TaskObject es) h = tt
other-seen done units id (TaskArray r es) h = tt
other-seen done units id (Variable m) h = tt
other-seen done units id (ConstantObject m) h = tt
other-seen done units id (Parameter mode m) h = tt
other-seen done units id (LoopParameter m) h = tt
other-seen done units id (Literal k) h = tt
other-seen done units id AnException h = tt
other-seen done units id MainProcedure h = tt
other-seen done units id AnotherUnit h = tt
other-seen done units id Unclear h = tt

module _ (done : List PTask) (units : List CheckUnit) where
  typed : (s s' : Scope) → s.names ≡ s'.names → s.here ≡ s'.here → AreSeen done units s → AreSeen done units s'
  typed s s' e f h = record {
    things = λ id thing q. h.things id thing (ap (λ (l : List NameMeaning). option_map (λ y. y.thing) (find (λ y. y.name == id.0) l)) e ∙ q);
    used = subst (λ here. AllByRecursion (λ (t : PTask). (is_predefined t.name.name.0 || is_among here t.name.name.0) ≡ true) done) f h.used;
  }

  name-seen : (thing : Thing) (w : Word) (s : Scope) → IsNoUnit thing → AreSeen done units s → AreSeen done units (with_name thing s w)
  name-seen thing w s n h = record { things = λ id th e. by_test id th (w.name.0 == id.0) e; used = all_weaker _ _ done (λ t u. used-more s w.name.0 t.name.name u) h.used }
    where
      by_test : (id : NameId) (th : Thing) (b : Bool) → option_map (λ (x : NameMeaning). x.thing) (if b then Some (seen_as thing w.name.0) else find (λ x. x.name == id.0) s.names) ≡ Some th → ThingSeen done units id th
      by_test id th true e = subst (ThingSeen done units id) (some_same e) (other-seen done units id thing n)
      by_test id th false e = h.things id th e

  names-seen : (thing : Thing) (ws : List Word) (s : Scope) → IsNoUnit thing → AreSeen done units s → AreSeen done units (with_names thing s ws)
  names-seen thing [] s n h = h
  names-seen thing (w ∷ ws) s n h = names-seen thing ws (with_name thing s w) n (name-seen thing w s n h)

-- ---- objects are no tasks or types themselves

object-other : (constant : Bool) (o : Option ℕ) → IsNoUnit (object_meaning constant o)
object-other true (Some m) = tt
object-other false (Some m) = tt
object-other true None = tt
object-other false None = tt

task-object-other : (in_main : Bool) (es : List EntryPart) → IsNoUnit (task_object in_main es)
task-object-other true es = tt
task-object-other false es = tt

task-row-other : (in_main : Bool) (o : Option Range) (es : List EntryPart) → IsNoUnit (task_array in_main o es)
task-row-other true (Some r) es = tt
task-row-other true None es = tt
task-row-other false (Some r) es = tt
task-row-other false None es = tt

plain-other : (s : Scope) (constant : Bool) (m : Marking) (x : PSubind) → IsNoUnit (plain_object s constant m x).thing
plain-other s constant (TaskMark es) x = task-object-other s.in_main es
plain-other s constant (ArrayMark m r p) x = object-other constant (Some m)
plain-other s constant (ScalarMark m k) x = object-other constant _
plain-other s constant NoMark x = object-other constant _
plain-other s constant UnknownMark x = object-other constant _
plain-other s constant UnclearMark x = object-other constant _

row-other : (s : Scope) (constant : Bool) (m : Marking) (index : PDrange) (x : PSubind) → IsNoUnit (array_object s constant m index x).thing
row-other s constant (TaskMark es) index x = task-row-other s.in_main _ es
row-other s constant (ArrayMark m r p) index x = object-other constant _
row-other s constant (ScalarMark m k) index x = object-other constant _
row-other s constant NoMark index x = object-other constant _
row-other s constant UnknownMark index x = object-other constant _
row-other s constant UnclearMark index x = object-other constant _

declared-other : (s : Scope) (constant : Bool) (x : PShape) → IsNoUnit (declared_object s constant x).thing
declared-other s constant (OPlain x) = plain-other s constant (marking s x.mark.name) x
declared-other s constant (OArray index x) = row-other s constant (marking s x.mark.name) index x

type-other : (o : Option ℕ) → IsNoUnit (type_of_mark o)
type-other (Some m) = tt
type-other None = tt

-- ---- a task

-- the tasks before have other names
pub others-before : (done : List PTask) (s : Scope) (w : Word) (id : NameId) → w.name.0 ≡ id.0 → IsUnused s w → AllByRecursion (λ (t : PTask). IsUsed s t.name.name) done → AllByRecursion (λ (t : PTask). is_task id t ≡ false) done
others-before done s w id e u h = all_weaker _ _ done one h
  where
    one : (t : PTask) → IsUsed s t.name.name → is_task id t ≡ false
    one t k = by_test (t.name.name.0 == id.0) refl
      where
        by_test : (b : Bool) → (t.name.name.0 == id.0) ≡ b → b ≡ false
        by_test false f = refl
        by_test true f = absurd (true≢false (sym (eq-eqb w.name.0 t.name.name.0 (e ∙ sym (eqb-true t.name.name.0 id.0 f))) ∙ other s.here w.name.0 t.name.name.0 u.0 u.1 k))

task-seen : (done : List PTask) (units : List CheckUnit) (t : PTask) (s : Scope) → IsUnused s t.name → AreSeen done units s → AreSeen (done ++ t ∷ []) (enclosing_unit t ∷ units) (with_name (task_thing t.of_kind (map (entry_part s) t.entries)) s t.name)
task-seen done units t s u h = record {
  things = λ id th e. by_test id th (t.name.name.0 == id.0) refl e;
  used = all_joined _ done (t ∷ []) (all_weaker _ _ done (λ x k. used-more s t.name.name.0 x.name.name k) h.used)
      (or_right (is_predefined t.name.name.0) _ (or_left (t.name.name.0 == t.name.name.0) (is_among s.here t.name.name.0) (eq-eqb t.name.name.0 t.name.name.0 refl)), tt);
}
  where
    new : (id : NameId) → (t.name.name.0 == id.0) ≡ true → IsSeen (done ++ t ∷ []) (enclosing_unit t ∷ units) id (map (entry_part s) t.entries)
    new id f = record {
      task = t;
      around = s;
      entries = refl;
      found = find-only (is_task id) done t (found_none (is_task id) done (others-before done s t.name id (eqb-true t.name.name.0 id.0 f) u h.used)) f;
      unit = ap (λ b. if b then Some (enclosing_unit t) else find (is_unit id) units) f;
    }

    new-thing : (id : NameId) (b : Bool) → (t.name.name.0 == id.0) ≡ true → ThingSeen (done ++ t ∷ []) (enclosing_unit t ∷ units) id (task_thing b (map (entry_part s) t.entries))
    new-thing id true f = new id f
    new-thing id false f = new id f

    later : (id : NameId) (es : List EntryPart) → (t.name.name.0 == id.0) ≡ false → IsSeen done units id es → IsSeen (done ++ t ∷ []) (enclosing_unit t ∷ units) id es
    later id es f x = record {
      task = x.task;
      around = x.around;
      entries = x.entries;
      found = find_front (is_task id) done (t ∷ []) x.task x.found;
      unit = ap (λ b. if b then Some (enclosing_unit t) else find (is_unit id) units) f ∙ x.unit;
    }

    later-thing : (id : NameId) (th : Thing) → (t.name.name.0 == id.0) ≡ false → ThingSeen done units id th → ThingSeen (done ++ t ∷ []) (enclosing_unit t ∷ units) id th
    later-thing id (SingleTask es) f x = later id es f x
    later-thing id (TaskType es) f x = later id es f x
    later-thing id (TypeMark m) f x = tt
    later-thing id (TaskObject es) f x = tt
    later-thing id (TaskArray r es) f x = tt
    later-thing id (Variable m) f x = tt
    later-thing id (ConstantObject m) f x = tt
    later-thing id (Parameter mode m) f x = tt
    later-thing id (LoopParameter m) f x = tt
    later-thing id (Literal k) f x = tt
    later-thing id AnException f x = tt
    later-thing id MainProcedure f x = tt
    later-thing id AnotherUnit f x = tt
    later-thing id Unclear f x = tt

    by_test : (id : NameId) (th : Thing) (b : Bool) → (t.name.name.0 == id.0) ≡ b →
        option_map (λ (x : NameMeaning). x.thing) (if b then Some (seen_as (task_thing t.of_kind (map (entry_part s) t.entries)) t.name.name.0) else find (λ x. x.name == id.0) s.names) ≡ Some th → ThingSeen (done ++ t ∷ []) (enclosing_unit t ∷ units) id th
    by_test id th true f e = subst (ThingSeen (done ++ t ∷ []) (enclosing_unit t ∷ units) id) (some_same e) (new-thing id t.of_kind f)
    by_test id th false f e = later-thing id th f (h.things id th e)

-- ---- declarations

value-units : (b : Bool) (ws : List Word) (c : CheckScope) → (with_declared_object b c ws).units ≡ c.units
value-units true ws c = meant_units meant.Shared ws c
value-units false ws c = refl

object-units : (o : Option Meant) (mark : Word) (shared : Bool) (ws : List Word) (c : CheckScope) → (with_object c o mark shared ws).units ≡ c.units
object-units (Some meant.TaskType) mark shared ws c = meant_units (meant.TaskOf mark.name) ws c
object-units (Some meant.MainProcedure) mark shared ws c = value-units shared ws c
object-units (Some (meant.TaskOf u)) mark shared ws c = value-units shared ws c
object-units (Some meant.Shared) mark shared ws c = value-units shared ws c
object-units (Some meant.Inner) mark shared ws c = value-units shared ws c
object-units None mark shared ws c = value-units shared ws c

after-object-units : (ws : List Word) (constant : Bool) (x : PShape) (c : CheckScope) → (check_after_object c ws constant x).units ≡ c.units
after-object-units ws constant (OPlain x) c = object-units (check_meaning c x.mark.name) x.mark _ ws c
after-object-units ws constant (OArray r x) c = object-units (check_meaning c x.mark.name) x.mark true ws c

-- the tasks that a declaration declares
abbrev pub tasks_of_decl : PDecl → List PTask
tasks_of_decl (DTask t s) = t ∷ []
tasks_of_decl _ = []

abbrev IsNoTask : PDecl → Type 0
IsNoTask (DTask t sp) = ⊥
IsNoTask _ = Unit {0}

decl-still : (done : List PTask) (d : PDecl) (s : Scope) (c : CheckScope) → IsNoTask d → AreSeen done c.units s → AreSeen done (check_after_decl c d).units (after_decl s d)
decl-still done (DTask t sp) s c n h = absurd n
decl-still done (DNumber w e sp) s c n h = name-seen done c.units (ConstantObject 0) w _ tt (typed done c.units s _ refl refl h)
decl-still done (DObject ws k x i sp) s c n h =
    subst (λ l. AreSeen done l (after_decl s (DObject ws k x i sp))) (sym (after-object-units ws k x c)) (names-seen done c.units _ ws _ (declared-other s k x) (typed done c.units s _ refl refl h))
decl-still done (DEnumeration w ws sp) s c n h = names-seen done c.units (Literal (length s.types.kinds)) ws _ tt (name-seen done c.units (TypeMark (length s.types.marks)) w _ tt (typed done c.units s _ refl refl h))
decl-still done (DArray w i x sp) s c n h = name-seen done c.units _ w _ (type-other _) (typed done c.units s _ refl refl h)
decl-still done (DSubtype w x sp) s c n h = name-seen done c.units _ w _ (type-other _) (typed done c.units s _ refl refl h)
decl-still done (DException ws sp) s c n h = names-seen done c.units AnException ws s tt h
decl-still done (DIntIo w sp) s c n h = typed done c.units (with_name AnotherUnit s w) _ refl refl (name-seen done c.units AnotherUnit w s tt h)
decl-still done (DPragma e sp) s c n h = h
decl-still done (DTaskBody w ds b sp) s c n h = typed done c.units s _ refl refl h

decl-nothing : (done : List PTask) (d : PDecl) (s : Scope) (c : CheckScope) → tasks_of_decl d ≡ [] → IsNoTask d → AreSeen done c.units s → AreSeen (done ++ tasks_of_decl d) (check_after_decl c d).units (after_decl s d)
decl-nothing done d s c e n h =
    subst (λ l. AreSeen l (check_after_decl c d).units (after_decl s d)) (sym (ap (λ (l : List PTask). done ++ l) e ∙ append-nil done)) (decl-still done d s c n h)

pub decl-seen : (done : List PTask) (d : PDecl) (s : Scope) (c : CheckScope) → AllByRecursion (IsUnused s) (names_declared d) → AreSeen done c.units s → AreSeen (done ++ tasks_of_decl d) (check_after_decl c d).units (after_decl s d)
decl-seen done (DTask t sp) s c u h = task-seen done c.units t s u.0 h
decl-seen done (DNumber w e sp) s c u h = decl-nothing done (DNumber w e sp) s c refl tt h
decl-seen done (DObject ws k x i sp) s c u h = decl-nothing done (DObject ws k x i sp) s c refl tt h
decl-seen done (DEnumeration w ws sp) s c u h = decl-nothing done (DEnumeration w ws sp) s c refl tt h
decl-seen done (DArray w i x sp) s c u h = decl-nothing done (DArray w i x sp) s c refl tt h
decl-seen done (DSubtype w x sp) s c u h = decl-nothing done (DSubtype w x sp) s c refl tt h
decl-seen done (DException ws sp) s c u h = decl-nothing done (DException ws sp) s c refl tt h
decl-seen done (DIntIo w sp) s c u h = decl-nothing done (DIntIo w sp) s c refl tt h
decl-seen done (DPragma e sp) s c u h = decl-nothing done (DPragma e sp) s c refl tt h
decl-seen done (DTaskBody w ds b sp) s c u h = decl-nothing done (DTaskBody w ds b sp) s c refl tt h

-- ---- the start

first-others : (xs : List NameMeaning) (id : NameId) (thing : Thing) → AllByRecursion (λ (x : NameMeaning). IsNoUnit x.thing) xs → option_map (λ (x : NameMeaning). x.thing) (find (λ x. x.name == id.0) xs) ≡ Some thing → IsNoUnit thing
first-others [] id thing h e = absurd (none-some thing e)
first-others (x ∷ xs) id thing h e = by_test (x.name == id.0) e (first-others xs id thing h.1)
  where
    by_test : (b : Bool) → option_map (λ (y : NameMeaning). y.thing) (if b then Some x else find (λ y. y.name == id.0) xs) ≡ Some thing → (option_map (λ (y : NameMeaning). y.thing) (find (λ y. y.name == id.0) xs) ≡ Some thing → IsNoUnit thing) → IsNoUnit thing
    by_test true f rest = subst IsNoUnit (some_same f) h.0
    by_test false f rest = rest f

pub first-seen : (w : Word) → AreSeen [] [] (first_scope w)
first-seen w = record {
  things = λ id th e. other-seen [] [] id th (first-others (seen_as MainProcedure w.name.0 ∷ predefined_names) id th (tt, (tt, (tt, (tt, (tt, (tt, (tt, (tt, (tt, (tt, (tt, (tt, (tt, (tt, (tt, (tt, (tt, (tt, (tt, tt))))))))))))))))))) e);
  used = tt;
}

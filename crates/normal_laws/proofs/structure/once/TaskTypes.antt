-- The task types that can be used behind declarations of main are those among the declarations, so an object of another mark is no task.
use Rattle.std.proofs.Common.{◌≡◌, ℕ, Bool, true, false, ◌==◌, if◌then◌else◌, List, [], ◌∷◌, find, is_some, option_map, Option, Some, None, refl, sym, ap, ◌∙◌, true≢false}
use Rattle.std.specs.List.{AllByRecursion}
use Rattle.std.proofs.lemmas.Bool.{eqb-true, eq-eqb}
use Rattle.std.proofs.lemmas.Option.{none-some}
use Rattle.ada_tree.specs.declared.naming.NameId.{NameId}
use Rattle.ada_tree.specs.declared.naming.Word.{Word}
use Rattle.ada_tree.specs.declared.static_types.Kind.{Kind}
use Rattle.ada_tree.specs.declared.static_types.Kind.TheVariants.{Integer, Truth, Enumeration, Array}
use Rattle.ada_tree.specs.declared.static_types.Mark.{Mark}
use Rattle.ada_tree.specs.TypeTable.{TypeTable}
use Rattle.ada_tree.specs.PlainExpr.{PDrange, PSubind}
use Rattle.ada_tree.specs.PlainDecl.{PShape, OPlain, OArray, PTask, PDecl, DNumber, DObject, DEnumeration, DArray, DSubtype, DException, DIntIo, DPragma, DTask, DTaskBody}
use Rattle.ada_static_rules.specs.Scope.{Scope, NameMeaning, Range, EntryPart, Thing, TypeMark, TaskType, SingleTask, TaskObject, TaskArray, Variable, ConstantObject, Parameter, LoopParameter, Literal, AnException, MainProcedure, AnotherUnit, Unclear, Marking, ScalarMark, ArrayMark, TaskMark, NoMark, UnknownMark, UnclearMark, marking_of_kind, marking_of_mark, marking_of, marking, meaning, kind_at, mark_at}
use Rattle.ada_static_rules.specs.Sites.{is_task_object}
use Rattle.ada_static_rules.specs.Declaring.{with_name, with_names, first_scope, object_meaning, task_object, task_array, plain_object, array_object, declared_object, type_of_mark, task_thing, after_decl}
use Rattle.syn_event.specs.NamedTasks.{type_named, with_type}
use Rattle.normal_model.specs.NormalTree.{mark_of}
use Rattle.task_laws.proofs.legal.rewritten_types.Lookups.{find-all}
use Rattle.common_lemmas.proofs.Options.{some_same}

-- ---- things and marks

-- it is no task type
abbrev pub IsNoType : Thing → Type 0
IsNoType (TaskType entries) = ⊥
IsNoType _ = Unit {0}

abbrev pub IsNoTaskMark : Marking → Type 0
IsNoTaskMark (TaskMark entries) = ⊥
IsNoTaskMark _ = Unit {0}

kind-no : (m k : ℕ) (o : Option Kind) → IsNoTaskMark (marking_of_kind m k o)
kind-no m k (Some (Array index first last part)) = tt
kind-no m k (Some Integer) = tt
kind-no m k (Some Truth) = tt
kind-no m k (Some (Enumeration ids)) = tt
kind-no m k None = tt

mark-no : (types : TypeTable) (m : ℕ) (o : Option Mark) → IsNoTaskMark (marking_of_mark types m o)
mark-no types m (Some x) = kind-no m x.kind (kind_at types x.kind)
mark-no types m None = tt

-- what is no task type, or nothing
abbrev IsNoneOrNoType : Option Thing → Type 0
IsNoneOrNoType (Some x) = IsNoType x
IsNoneOrNoType None = Unit {0}

marking-no : (types : TypeTable) (o : Option Thing) → IsNoneOrNoType o → IsNoTaskMark (marking_of types o)
marking-no types (Some (TypeMark m)) h = mark-no types m (mark_at types m)
marking-no types (Some (TaskType entries)) h = absurd h
marking-no types (Some (SingleTask entries)) h = tt
marking-no types (Some (TaskObject entries)) h = tt
marking-no types (Some (TaskArray range entries)) h = tt
marking-no types (Some (Variable m)) h = tt
marking-no types (Some (ConstantObject m)) h = tt
marking-no types (Some (Parameter mode m)) h = tt
marking-no types (Some (LoopParameter m)) h = tt
marking-no types (Some (Literal k)) h = tt
marking-no types (Some AnException) h = tt
marking-no types (Some MainProcedure) h = tt
marking-no types (Some AnotherUnit) h = tt
marking-no types (Some Unclear) h = tt
marking-no types None h = tt

-- ---- objects

object-no : (constant : Bool) (o : Option ℕ) → is_task_object (object_meaning constant o) ≡ false
object-no true (Some m) = refl
object-no false (Some m) = refl
object-no true None = refl
object-no false None = refl

plain-no : (s : Scope) (constant : Bool) (m : Marking) (x : PSubind) → IsNoTaskMark m → is_task_object (plain_object s constant m x).thing ≡ false
plain-no s constant (ScalarMark m k) x h = object-no constant _
plain-no s constant (ArrayMark m range part) x h = object-no constant (Some m)
plain-no s constant (TaskMark entries) x h = absurd h
plain-no s constant NoMark x h = object-no constant _
plain-no s constant UnknownMark x h = object-no constant _
plain-no s constant UnclearMark x h = object-no constant _

array-no : (s : Scope) (constant : Bool) (m : Marking) (index : PDrange) (x : PSubind) → IsNoTaskMark m → is_task_object (array_object s constant m index x).thing ≡ false
array-no s constant (ScalarMark m k) index x h = object-no constant _
array-no s constant (ArrayMark m range part) index x h = object-no constant _
array-no s constant (TaskMark entries) index x h = absurd h
array-no s constant NoMark index x h = object-no constant _
array-no s constant UnknownMark index x h = object-no constant _
array-no s constant UnclearMark index x h = object-no constant _

shape-no : (s : Scope) (constant : Bool) (x : PShape) → IsNoTaskMark (marking s (mark_of x)) → is_task_object (declared_object s constant x).thing ≡ false
shape-no s constant (OPlain x) h = plain-no s constant (marking s x.mark.name) x h
shape-no s constant (OArray index x) h = array-no s constant (marking s x.mark.name) index x h

-- no object is a task type
object-type : (constant : Bool) (o : Option ℕ) → IsNoType (object_meaning constant o)
object-type true (Some m) = tt
object-type false (Some m) = tt
object-type true None = tt
object-type false None = tt

task-type : (b : Bool) (entries : List EntryPart) → IsNoType (task_object b entries)
task-type true entries = tt
task-type false entries = tt

array-type : (b : Bool) (o : Option Range) (entries : List EntryPart) → IsNoType (task_array b o entries)
array-type true (Some range) entries = tt
array-type true None entries = tt
array-type false (Some range) entries = tt
array-type false None entries = tt

plain-type : (s : Scope) (constant : Bool) (m : Marking) (x : PSubind) → IsNoType (plain_object s constant m x).thing
plain-type s constant (ScalarMark m k) x = object-type constant _
plain-type s constant (ArrayMark m range part) x = object-type constant (Some m)
plain-type s constant (TaskMark entries) x = task-type s.in_main entries
plain-type s constant NoMark x = object-type constant _
plain-type s constant UnknownMark x = object-type constant _
plain-type s constant UnclearMark x = object-type constant _

row-type : (s : Scope) (constant : Bool) (m : Marking) (index : PDrange) (x : PSubind) → IsNoType (array_object s constant m index x).thing
row-type s constant (ScalarMark m k) index x = object-type constant _
row-type s constant (ArrayMark m range part) index x = object-type constant _
row-type s constant (TaskMark entries) index x = array-type s.in_main _ entries
row-type s constant NoMark index x = object-type constant _
row-type s constant UnknownMark index x = object-type constant _
row-type s constant UnclearMark index x = object-type constant _

shape-type : (s : Scope) (constant : Bool) (x : PShape) → IsNoType (declared_object s constant x).thing
shape-type s constant (OPlain x) = plain-type s constant (marking s x.mark.name) x
shape-type s constant (OArray index x) = row-type s constant (marking s x.mark.name) index x

mark-type : (o : Option ℕ) → IsNoType (type_of_mark o)
mark-type (Some m) = tt
mark-type None = tt

-- ---- scopes

-- a name that means a task type is that of one of these
abbrev IsTypeOf : List PTask → Thing → ℕ → Type 0
IsTypeOf kinds (TaskType entries) n = is_some (type_named kinds record { 0 = n }) ≡ true
IsTypeOf kinds _ n = Unit {0}

abbrev TypesAre : List PTask → List NameMeaning → Type 0
TypesAre kinds names = AllByRecursion (λ (x : NameMeaning). IsTypeOf kinds x.thing x.name) names

-- the task types that can be used are among these
pub record HasTypes (kinds : List PTask) (s : Scope) : Type 0 where
  pub types : TypesAre kinds s.names

no-type-of : (kinds : List PTask) (x : Thing) (n : ℕ) → IsNoType x → IsTypeOf kinds x n
no-type-of kinds (TaskType entries) n h = absurd h
no-type-of kinds (TypeMark m) n h = tt
no-type-of kinds (SingleTask entries) n h = tt
no-type-of kinds (TaskObject entries) n h = tt
no-type-of kinds (TaskArray range entries) n h = tt
no-type-of kinds (Variable m) n h = tt
no-type-of kinds (ConstantObject m) n h = tt
no-type-of kinds (Parameter mode m) n h = tt
no-type-of kinds (LoopParameter m) n h = tt
no-type-of kinds (Literal k) n h = tt
no-type-of kinds AnException n h = tt
no-type-of kinds MainProcedure n h = tt
no-type-of kinds AnotherUnit n h = tt
no-type-of kinds Unclear n h = tt

pub first-types : (name : Word) → HasTypes [] (first_scope name)
first-types name = record { types = (tt, (tt, (tt, (tt, (tt, (tt, (tt, (tt, (tt, (tt, (tt, (tt, (tt, (tt, (tt, (tt, (tt, (tt, (tt, tt))))))))))))))))))) }

names-types : (kinds : List PTask) (x : Thing) (ws : List Word) (s : Scope) → IsNoType x → TypesAre kinds s.names → TypesAre kinds (with_names x s ws).names
names-types kinds x [] s h k = k
names-types kinds x (w ∷ ws) s h k = names-types kinds x ws (with_name x s w) h (no-type-of kinds x w.name.0 h, k)

-- behind a task type there is one more
more-types : (kinds : List PTask) (t : PTask) (names : List NameMeaning) → TypesAre kinds names → TypesAre (t ∷ kinds) names
more-types kinds t [] h = tt
more-types kinds t (x ∷ names) h = (one x.thing h.0, more-types kinds t names h.1)
  where
    by_test : (b : Bool) (o : Option PTask) → is_some o ≡ true → is_some (if b then Some t else o) ≡ true
    by_test true o e = refl
    by_test false o e = e

    one : (y : Thing) → IsTypeOf kinds y x.name → IsTypeOf (t ∷ kinds) y x.name
    one (TaskType entries) e = by_test (t.name.name.0 == x.name) (type_named kinds record { 0 = x.name }) e
    one (TypeMark m) e = tt
    one (SingleTask entries) e = tt
    one (TaskObject entries) e = tt
    one (TaskArray range entries) e = tt
    one (Variable m) e = tt
    one (ConstantObject m) e = tt
    one (Parameter mode m) e = tt
    one (LoopParameter m) e = tt
    one (Literal k) e = tt
    one AnException e = tt
    one MainProcedure e = tt
    one AnotherUnit e = tt
    one Unclear e = tt

task-types : (b : Bool) (kinds : List PTask) (t : PTask) (entries : List EntryPart) (names : List NameMeaning) → TypesAre kinds names →
    IsTypeOf (with_type kinds b t) (task_thing b entries) t.name.name.0 × TypesAre (with_type kinds b t) names
task-types true kinds t entries names h =
    (ap (λ (c : Bool). is_some (if c then Some t else type_named kinds record { 0 = t.name.name.0 })) (eq-eqb t.name.name.0 t.name.name.0 refl), more-types kinds t names h)
task-types false kinds t entries names h = (tt, h)

-- the list of task types behind a declaration
abbrev pub kinds_after : List PTask → PDecl → List PTask
kinds_after kinds (DTask t s) = with_type kinds t.of_kind t
kinds_after kinds _ = kinds

pub types-after : (kinds : List PTask) (d : PDecl) (s : Scope) → HasTypes kinds s → HasTypes (kinds_after kinds d) (after_decl s d)
types-after kinds (DNumber w e sp) s h = record { types = (tt, h.types) }
types-after kinds (DObject ws c x i sp) s h = record { types = names-types kinds (declared_object s c x).thing ws _ (shape-type s c x) h.types }
types-after kinds (DEnumeration w ws sp) s h = record { types = names-types kinds _ ws _ tt (tt, h.types) }
types-after kinds (DArray w r x sp) s h = record { types = (no-type-of kinds (type_of_mark _) w.name.0 (mark-type _), h.types) }
types-after kinds (DSubtype w x sp) s h = record { types = (no-type-of kinds (type_of_mark _) w.name.0 (mark-type _), h.types) }
types-after kinds (DException ws sp) s h = record { types = names-types kinds AnException ws s tt h.types }
types-after kinds (DIntIo w sp) s h = record { types = (tt, h.types) }
types-after kinds (DPragma e sp) s h = record { types = h.types }
types-after kinds (DTask t sp) s h = record { types = task-types t.of_kind kinds t _ s.names h.types }
types-after kinds (DTaskBody w objects its sp) s h = record { types = h.types }

-- ---- objects of another mark

-- what is found passes
found-passes : (id : NameId) (names : List NameMeaning) (x : NameMeaning) → find (λ (y : NameMeaning). y.name == id.0) names ≡ Some x → (x.name == id.0) ≡ true
found-passes id [] x f = absurd (none-some x f)
found-passes id (y ∷ names) x f = by_test (y.name == id.0) refl f (found-passes id names x)
  where
    by_test : (b : Bool) → (y.name == id.0) ≡ b → (if b then Some y else find (λ (z : NameMeaning). z.name == id.0) names) ≡ Some x → (find (λ (z : NameMeaning). z.name == id.0) names ≡ Some x → (x.name == id.0) ≡ true) → (x.name == id.0) ≡ true
    by_test true e g rest = ap (λ (z : NameMeaning). z.name == id.0) (sym (some_same g)) ∙ e
    by_test false e g rest = rest g

-- a name that is none of a task type means none
means-no-type : (kinds : List PTask) (s : Scope) (id : NameId) → HasTypes kinds s → is_some (type_named kinds id) ≡ false → IsNoneOrNoType (meaning s id)
means-no-type kinds s id h e = by_seen (find (λ (x : NameMeaning). x.name == id.0) s.names) refl
  where
    thing-no : (x : Thing) (n : ℕ) → (n == id.0) ≡ true → IsTypeOf kinds x n → IsNoType x
    thing-no (TaskType entries) n f k = absurd (true≢false (sym k ∙ ap (λ m. is_some (type_named kinds record { 0 = m })) (eqb-true n id.0 f) ∙ e))
    thing-no (TypeMark m) n f k = tt
    thing-no (SingleTask entries) n f k = tt
    thing-no (TaskObject entries) n f k = tt
    thing-no (TaskArray range entries) n f k = tt
    thing-no (Variable m) n f k = tt
    thing-no (ConstantObject m) n f k = tt
    thing-no (Parameter mode m) n f k = tt
    thing-no (LoopParameter m) n f k = tt
    thing-no (Literal k') n f k = tt
    thing-no AnException n f k = tt
    thing-no MainProcedure n f k = tt
    thing-no AnotherUnit n f k = tt
    thing-no Unclear n f k = tt

    by_seen : (o : Option NameMeaning) → find (λ (x : NameMeaning). x.name == id.0) s.names ≡ o → IsNoneOrNoType (option_map (λ (x : NameMeaning). x.thing) o)
    by_seen None f = tt
    by_seen (Some x) f = thing-no x.thing x.name (found-passes id s.names x f) (find-all (λ (y : NameMeaning). IsTypeOf kinds y.thing y.name) (λ (y : NameMeaning). y.name == id.0) s.names x h.types f)

-- So an object whose mark is none of these is no task.
pub no-task : (kinds : List PTask) (s : Scope) (constant : Bool) (x : PShape) → HasTypes kinds s → is_some (type_named kinds (mark_of x)) ≡ false → is_task_object (declared_object s constant x).thing ≡ false
no-task kinds s constant x h e = shape-no s constant x (marking-no s.types (meaning s (mark_of x)) (means-no-type kinds s (mark_of x) h e))

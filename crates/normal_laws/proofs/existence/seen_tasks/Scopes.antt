-- What names mean behind declarations of some names (8.3).
use Rattle.std.proofs.Common.{◌≡◌, ℕ, Bool, true, false, ◌==◌, ◌||◌, if◌then◌else◌, List, [], ◌∷◌, find, option_map, Option, Some, None, refl, sym, ap, ◌∙◌, subst, true≢false}
use Rattle.std.specs.List.{list_any}
use Rattle.std.proofs.lemmas.Bool.{or_parts}
use Rattle.ada_tree.specs.declared.naming.NameId.{NameId}
use Rattle.ada_tree.specs.declared.naming.Word.{Word}
use Rattle.ada_tree.specs.declared.statements.ParMode.{ParMode}
use Rattle.ada_tree.specs.PlainExpr.{PSubind, PDrange}
use Rattle.ada_tree.specs.PlainDecl.{PShape, OPlain, OArray}
use Rattle.ada_tree.specs.TypeTable.{TypeTable}
use Rattle.ada_tree.specs.declared.static_types.Kind.{Kind}
use Rattle.ada_tree.specs.declared.static_types.Kind.TheVariants.{Integer, Truth, Enumeration, Array}
use Rattle.ada_tree.specs.declared.static_types.Mark.{Mark}
use Rattle.ada_static_rules.specs.Scope.{Scope, NameMeaning, Thing, TypeMark, TaskType, SingleTask, TaskObject, TaskArray, Variable, ConstantObject, Parameter, LoopParameter, Literal, AnException, MainProcedure, AnotherUnit, Unclear, EntryPart, Range, meaning, Marking, ScalarMark, ArrayMark, TaskMark, NoMark, UnknownMark, UnclearMark, marking_of_kind, marking_of_mark, marking_of, marking, mark_at, kind_at}
use Rattle.ada_static_rules.specs.Declaring.{seen_as, with_name, with_names, object_meaning, plain_object, array_object, declared_object, made_subind, drange_range, task_object, task_array, formal_thing, loop_thing}
use Rattle.syn_event.specs.declared.meanings.Meant.{Meant}
use Rattle.syn_event.specs.CheckScope.{CheckScope}
use Rattle.syn_event.specs.CheckScope as check
use Rattle.syn_event.specs.CheckSites.{with_meant}
use Rattle.common_lemmas.proofs.Options.{some_same}
use Rattle.ada_static_rules.proofs.found_twice.Declared.{name_means}

-- ---- names

abbrev pub has_id : NameId → Word → Bool
has_id id w = w.name.0 == id.0

-- of the names that are declared
abbrev pub is_one_of : List Word → NameId → Bool
is_one_of ws id = list_any (has_id id) ws

abbrev through : Bool → Thing → ℕ → Option NameMeaning → Option Thing
through b thing n o = option_map (λ s. s.thing) (if b then Some (seen_as thing n) else o)

meaning-other : (thing : Thing) (w : Word) (s : Scope) (id : NameId) → (w.name.0 == id.0) ≡ false → meaning (with_name thing s w) id ≡ meaning s id
meaning-other thing w s id e = ap (λ b. through b thing w.name.0 (find (λ (x : NameMeaning). x.name == id.0) s.names)) e

pub meaning-out : (thing : Thing) (ws : List Word) (s : Scope) (id : NameId) → is_one_of ws id ≡ false → meaning (with_names thing s ws) id ≡ meaning s id
meaning-out thing [] s id e = refl
meaning-out thing (w ∷ ws) s id e =
    let h = or_parts (w.name.0 == id.0) (is_one_of ws id) e in
    meaning-out thing ws (with_name thing s w) id h.1 ∙ meaning-other thing w s id h.0

pub meaning-in : (thing : Thing) (ws : List Word) (s : Scope) (id : NameId) → is_one_of ws id ≡ true → meaning (with_names thing s ws) id ≡ Some thing
meaning-in thing [] s id e = absurd (true≢false (sym e))
meaning-in thing (w ∷ ws) s id e = by_test (is_one_of ws id) refl (w.name.0 == id.0) refl e (meaning-in thing ws (with_name thing s w) id)
  where
    by_test : (b : Bool) → is_one_of ws id ≡ b → (a : Bool) → (w.name.0 == id.0) ≡ a → (a || b) ≡ true → (is_one_of ws id ≡ true → meaning (with_names thing s (w ∷ ws)) id ≡ Some thing) →
        meaning (with_names thing s (w ∷ ws)) id ≡ Some thing
    by_test true f a g h rest = rest f
    by_test false f true g h rest = meaning-out thing ws (with_name thing s w) id f ∙ name_means thing w s id g
    by_test false f false g h rest = absurd (true≢false (sym h))

-- what holds of what each name means behind a declaration: the declared ones, and the others as before
pub names-all : (P : NameId → Thing → Type 0) (thing : Thing) (ws : List Word) (s : Scope) →
    ((id : NameId) (th : Thing) → is_one_of ws id ≡ false → meaning s id ≡ Some th → P id th) → ((id : NameId) → is_one_of ws id ≡ true → P id thing) →
    (id : NameId) (th : Thing) → meaning (with_names thing s ws) id ≡ Some th → P id th
names-all P thing ws s old new id th e = by_test (is_one_of ws id) refl
  where
    by_test : (b : Bool) → is_one_of ws id ≡ b → P id th
    by_test true f = subst (P id) (some_same (sym (meaning-in thing ws s id f) ∙ e)) (new id f)
    by_test false f = old id th f (sym (meaning-out thing ws s id f) ∙ e)

-- ---- names of the other scope

pub meant-out : (m : Meant) (ws : List Word) (c : CheckScope) (id : NameId) → is_one_of ws id ≡ false → check.meaning (with_meant m c ws) id ≡ check.meaning c id
meant-out m [] c id e = refl
meant-out m (w ∷ ws) c id e =
    let h = or_parts (w.name.0 == id.0) (is_one_of ws id) e in
    meant-out m ws (record c { names = (w.name.0, m) ∷ c.names }) id h.1
    ∙ ap (λ b. option_map (λ (k : ℕ × Meant). k.1) (if b then Some (w.name.0, m) else find (λ (k : ℕ × Meant). k.0 == id.0) c.names)) h.0

pub meant-in : (m : Meant) (ws : List Word) (c : CheckScope) (id : NameId) → is_one_of ws id ≡ true → check.meaning (with_meant m c ws) id ≡ Some m
meant-in m [] c id e = absurd (true≢false (sym e))
meant-in m (w ∷ ws) c id e = by_test (is_one_of ws id) refl (w.name.0 == id.0) refl e (meant-in m ws (record c { names = (w.name.0, m) ∷ c.names }) id)
  where
    by_test : (b : Bool) → is_one_of ws id ≡ b → (a : Bool) → (w.name.0 == id.0) ≡ a → (a || b) ≡ true → (is_one_of ws id ≡ true → check.meaning (with_meant m c (w ∷ ws)) id ≡ Some m) →
        check.meaning (with_meant m c (w ∷ ws)) id ≡ Some m
    by_test true f a g h rest = rest f
    by_test false f true g h rest =
        meant-out m ws (record c { names = (w.name.0, m) ∷ c.names }) id f
        ∙ ap (λ b. option_map (λ (k : ℕ × Meant). k.1) (if b then Some (w.name.0, m) else find (λ (k : ℕ × Meant). k.0 == id.0) c.names)) g
    by_test false f false g h rest = absurd (true≢false (sym h))

pub meant-own : (m : Meant) (ws : List Word) (c : CheckScope) → (with_meant m c ws).own ≡ c.own
meant-own m [] c = refl
meant-own m (w ∷ ws) c = meant-own m ws (record c { names = (w.name.0, m) ∷ c.names })

-- ---- things that are no tasks

-- no task, no task type and not the main procedure
abbrev pub IsNoTask : Thing → Type 0
IsNoTask (TaskType es) = ⊥
IsNoTask (SingleTask es) = ⊥
IsNoTask (TaskObject es) = ⊥
IsNoTask (TaskArray range es) = ⊥
IsNoTask MainProcedure = ⊥
IsNoTask _ = Unit {0}

object-no-task : (constant : Bool) (m : Option ℕ) → IsNoTask (object_meaning constant m)
object-no-task true (Some m) = tt
object-no-task false (Some m) = tt
object-no-task true None = tt
object-no-task false None = tt

-- what an object is, by its mark
pub data ObjectThing (s : Scope) (shape : PShape) : Thing → Type 0 where
  no_task_object : (th : Thing) → IsNoTask th → ObjectThing s shape th
  one_object : (x : PSubind) (es : List EntryPart) → s.in_main ≡ true → shape ≡ OPlain x → marking s x.mark.name ≡ TaskMark es → ObjectThing s shape (TaskObject es)
  array_of_objects : (r : PDrange) (x : PSubind) (range : Range) (es : List EntryPart) → s.in_main ≡ true → shape ≡ OArray r x → marking s x.mark.name ≡ TaskMark es →
      drange_range s r ≡ Some range → ObjectThing s shape (TaskArray range es)

plain-thing : (s : Scope) (constant : Bool) (x : PSubind) (m : Marking) → marking s x.mark.name ≡ m → ObjectThing s (OPlain x) (plain_object s constant m x).thing
plain-thing s constant x (TaskMark es) e = by_test s.in_main refl
  where
    by_test : (b : Bool) → s.in_main ≡ b → ObjectThing s (OPlain x) (task_object b es)
    by_test true f = one_object x es f refl e
    by_test false f = no_task_object Unclear tt
plain-thing s constant x (ArrayMark m range part) e = no_task_object _ (object-no-task constant (Some m))
plain-thing s constant x (ScalarMark m k) e = no_task_object _ (object-no-task constant (made_subind s x).mark)
plain-thing s constant x NoMark e = no_task_object _ (object-no-task constant (made_subind s x).mark)
plain-thing s constant x UnknownMark e = no_task_object _ (object-no-task constant (made_subind s x).mark)
plain-thing s constant x UnclearMark e = no_task_object _ (object-no-task constant (made_subind s x).mark)

row-thing : (s : Scope) (constant : Bool) (r : PDrange) (x : PSubind) (m : Marking) → marking s x.mark.name ≡ m → ObjectThing s (OArray r x) (array_object s constant m r x).thing
row-thing s constant r x (TaskMark es) e = by_test s.in_main refl (drange_range s r) refl
  where
    by_test : (b : Bool) → s.in_main ≡ b → (o : Option Range) → drange_range s r ≡ o → ObjectThing s (OArray r x) (task_array b o es)
    by_test true f (Some range) g = array_of_objects r x range es f refl e g
    by_test true f None g = no_task_object Unclear tt
    by_test false f (Some range) g = no_task_object Unclear tt
    by_test false f None g = no_task_object Unclear tt
row-thing s constant r x (ArrayMark m range part) e = no_task_object _ (object-no-task constant _)
row-thing s constant r x (ScalarMark m k) e = no_task_object _ (object-no-task constant _)
row-thing s constant r x NoMark e = no_task_object _ (object-no-task constant _)
row-thing s constant r x UnknownMark e = no_task_object _ (object-no-task constant _)
row-thing s constant r x UnclearMark e = no_task_object _ (object-no-task constant _)

pub object-thing : (s : Scope) (constant : Bool) (shape : PShape) → ObjectThing s shape (declared_object s constant shape).thing
object-thing s constant (OPlain x) = plain-thing s constant x (marking s x.mark.name) refl
object-thing s constant (OArray r x) = row-thing s constant r x (marking s x.mark.name) refl

-- in a body objects are no tasks
pub inner-object : (s : Scope) (constant : Bool) (shape : PShape) → s.in_main ≡ false → IsNoTask (declared_object s constant shape).thing
inner-object s constant shape e = by_form (declared_object s constant shape).thing (object-thing s constant shape)
  where
    by_form : (th : Thing) → ObjectThing s shape th → IsNoTask th
    by_form th (no_task_object _ h) = h
    by_form th (one_object x es f q m) = absurd (true≢false (sym f ∙ e))
    by_form th (array_of_objects r x range es f q m d) = absurd (true≢false (sym f ∙ e))

pub formal-no-task : (mode : ParMode) (m : Marking) → IsNoTask (formal_thing mode m)
formal-no-task mode (ScalarMark m k) = tt
formal-no-task mode (ArrayMark m range part) = tt
formal-no-task mode (TaskMark es) = tt
formal-no-task mode NoMark = tt
formal-no-task mode UnknownMark = tt
formal-no-task mode UnclearMark = tt

pub loop-no-task : (m : Option ℕ) → IsNoTask (loop_thing m)
loop-no-task (Some m) = tt
loop-no-task None = tt

-- ---- marks of task types

abbrev IsTaskMark : Marking → Type 0
IsTaskMark (TaskMark es) = Unit {0}
IsTaskMark _ = ⊥

kind-no-task : (m k : ℕ) (o : Option Kind) → IsTaskMark (marking_of_kind m k o) → ⊥
kind-no-task m k (Some (Array index first last part)) h = h
kind-no-task m k (Some Integer) h = h
kind-no-task m k (Some Truth) h = h
kind-no-task m k (Some (Enumeration names)) h = h
kind-no-task m k None h = h

mark-no-task : (T : TypeTable) (m : ℕ) (o : Option Mark) → IsTaskMark (marking_of_mark T m o) → ⊥
mark-no-task T m (Some mark) h = kind-no-task m mark.kind (kind_at T mark.kind) h
mark-no-task T m None h = h

task-mark : (es fs : List EntryPart) → TaskMark es ≡ TaskMark fs → es ≡ fs
task-mark es fs e = cc

mark-type : (T : TypeTable) (o : Option Thing) (es : List EntryPart) → marking_of T o ≡ TaskMark es → o ≡ Some (TaskType es)
mark-type T (Some (TaskType fs)) es e = ap (λ x. Some (TaskType x)) (task-mark fs es e)
mark-type T (Some (TypeMark m)) es e = absurd (mark-no-task T m (mark_at T m) (subst IsTaskMark (sym e) tt))
mark-type T (Some Unclear) es e = absurd (subst IsTaskMark (sym e) tt)
mark-type T (Some (SingleTask fs)) es e = absurd (subst IsTaskMark (sym e) tt)
mark-type T (Some (TaskObject fs)) es e = absurd (subst IsTaskMark (sym e) tt)
mark-type T (Some (TaskArray range fs)) es e = absurd (subst IsTaskMark (sym e) tt)
mark-type T (Some (Variable m)) es e = absurd (subst IsTaskMark (sym e) tt)
mark-type T (Some (ConstantObject m)) es e = absurd (subst IsTaskMark (sym e) tt)
mark-type T (Some (Parameter mode m)) es e = absurd (subst IsTaskMark (sym e) tt)
mark-type T (Some (LoopParameter m)) es e = absurd (subst IsTaskMark (sym e) tt)
mark-type T (Some (Literal k)) es e = absurd (subst IsTaskMark (sym e) tt)
mark-type T (Some AnException) es e = absurd (subst IsTaskMark (sym e) tt)
mark-type T (Some MainProcedure) es e = absurd (subst IsTaskMark (sym e) tt)
mark-type T (Some AnotherUnit) es e = absurd (subst IsTaskMark (sym e) tt)
mark-type T None es e = absurd (subst IsTaskMark (sym e) tt)

-- the mark of a task type is that of one that can be seen
pub task-type-seen : (s : Scope) (id : NameId) (es : List EntryPart) → marking s id ≡ TaskMark es → meaning s id ≡ Some (TaskType es)
task-type-seen s id es e = mark-type s.types (meaning s id) es e

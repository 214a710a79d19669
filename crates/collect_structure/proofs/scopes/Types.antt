-- Where no task type is declared no name means one; so the variables of main are the same in both texts.
use Rattle.std.proofs.Common.{◌≡◌, ℕ, ◌==◌, Bool, true, false, if◌then◌else◌, pos, ◌-ℤ◌, List, [], ◌∷◌, length, map, Option, Some, None, refl, sym, ap, ◌∙◌, true≢false}
use Rattle.std.specs.List.{AllByRecursion}
use Rattle.common_lemmas.proofs.Truth.{clash}
use Rattle.ada_tree.specs.declared.naming.Word.{Word}
use Rattle.ada_tree.specs.declared.static_types.Kind.TheVariants.{Enumeration}
use Rattle.ada_tree.specs.TypeTable.{TypeTable}
use Rattle.ada_tree.specs.PlainExpr.{PSubind}
use Rattle.ada_tree.specs.PlainDecl.{PShape, OPlain, OArray, PDecl, DNumber, DObject, DEnumeration, DArray, DSubtype, DException, DIntIo, DPragma, DTask, DTaskBody, decls_of}
use Rattle.ada_static_rules.specs.Scope.{Scope, Range, Thing, TypeMark, TaskType, SingleTask, TaskObject, TaskArray, Variable, ConstantObject, Parameter, LoopParameter, Literal, AnException, MainProcedure, AnotherUnit, Unclear, EntryPart, Marking, ScalarMark, ArrayMark, TaskMark, NoMark, UnknownMark, UnclearMark, marking, marking_of, mark_at, meaning}
use Rattle.ada_static_rules.specs.Declaring.{with_name, with_names, with_types, add_mark, add_kind, type_of_mark, object_meaning, task_object, task_array, Made, made_subind, made_array, made_named_array, made_subtype, drange_range, of_made, plain_object, array_object, declared_object, with_constants, entry_part, task_thing, first_scope, after_decl, after_decls}
use Rattle.task_laws.specs.legal.rewritten_types.Rewriting.{is_no_task}
use Rattle.task_laws.specs.legal.alike_scopes.Alike.{SameMark, of_values, of_arrays, SameThing, same_variable, same_unclear, SameNames}
use Rattle.task_laws.specs.legal.alike_scopes.Old.{IsOldSubind}
use Rattle.task_laws.proofs.legal.alike_scopes.Examples.{meant}
use Rattle.task_laws.proofs.legal.alike_scopes.Exprs.{mark-same}
use Rattle.task_laws.proofs.legal.alike_scopes.Readings.{IsNoMark, is_task_mark, is_no_mark, is_unknown_mark, SameMarking, both_scalars, both_arrays, both_no_marks, both_unclear_marks}
use Rattle.task_laws.proofs.legal.alike_scopes.Objects.{SameMade, made_both, made_neither, made-same, SameDeclared, both-declared}
use Rattle.normal_laws.specs.structure.numbers.Single.{IsSingle}
use Rattle.normal_laws.proofs.structure.typed.Scopes.{meaning-more}
use Rattle.collect_structure.specs.scopes.Form.{is_task_type, SeesNoType}
use Rattle.task_laws.proofs.legal.rewritten_types.Staying.{mark-no-task}

-- so none stands as a mark
pub no-task : (T : TypeTable) (o : Option Thing) → is_task_type o ≡ false → is_no_task (marking_of T o) ≡ true
no-task T None n = refl
no-task T (Some (TypeMark m)) n = mark-no-task T m (mark_at T m)
no-task T (Some (TaskType entries)) n = clash (sym n)
no-task T (Some (SingleTask entries)) n = refl
no-task T (Some (TaskObject entries)) n = refl
no-task T (Some (TaskArray range entries)) n = refl
no-task T (Some (Variable m)) n = refl
no-task T (Some (ConstantObject m)) n = refl
no-task T (Some (Parameter mode m)) n = refl
no-task T (Some (LoopParameter m)) n = refl
no-task T (Some (Literal k)) n = refl
no-task T (Some AnException) n = refl
no-task T (Some MainProcedure) n = refl
no-task T (Some AnotherUnit) n = refl
no-task T (Some Unclear) n = refl

no-task-mark : (T : TypeTable) (o : Option Thing) → is_task_type o ≡ false → (entries : List EntryPart) → marking_of T o ≡ TaskMark entries → ⊥
no-task-mark T o n entries e = true≢false (sym (no-task T o n) ∙ ap is_no_task e)

-- ---- objects

object-no-type : (b : Bool) (o : Option ℕ) → is_task_type (Some (object_meaning b o)) ≡ false
object-no-type true (Some m) = refl
object-no-type false (Some m) = refl
object-no-type true None = refl
object-no-type false None = refl

task-no-type : (b : Bool) (entries : List EntryPart) → is_task_type (Some (task_object b entries)) ≡ false
task-no-type true entries = refl
task-no-type false entries = refl

row-no-type : (b : Bool) (r : Option Range) (entries : List EntryPart) → is_task_type (Some (task_array b r entries)) ≡ false
row-no-type true (Some r) entries = refl
row-no-type true None entries = refl
row-no-type false (Some r) entries = refl
row-no-type false None entries = refl

declared-no-type : (s : Scope) (constant : Bool) (shape : PShape) → is_task_type (Some (declared_object s constant shape).thing) ≡ false
declared-no-type s constant (OPlain x) = by_marking (marking s x.mark.name)
  where
    by_marking : (m : Marking) → is_task_type (Some (plain_object s constant m x).thing) ≡ false
    by_marking (TaskMark entries) = task-no-type s.in_main entries
    by_marking (ArrayMark m range part) = object-no-type constant (Some m)
    by_marking (ScalarMark m k) = object-no-type constant (made_subind s x).mark
    by_marking NoMark = object-no-type constant (made_subind s x).mark
    by_marking UnknownMark = object-no-type constant (made_subind s x).mark
    by_marking UnclearMark = object-no-type constant (made_subind s x).mark
declared-no-type s constant (OArray index x) = by_marking (marking s x.mark.name)
  where
    row : Option ℕ
    row = (made_array None (made_subind s x).types (drange_range s index) (made_subind s x).mark).mark

    by_marking : (m : Marking) → is_task_type (Some (array_object s constant m index x).thing) ≡ false
    by_marking (TaskMark entries) = row-no-type s.in_main (drange_range s index) entries
    by_marking (ArrayMark m range part) = object-no-type constant row
    by_marking (ScalarMark m k) = object-no-type constant row
    by_marking NoMark = object-no-type constant row
    by_marking UnknownMark = object-no-type constant row
    by_marking UnclearMark = object-no-type constant row

-- ---- declarations

name-no-type : (th : Thing) (w : Word) (c : Scope) → is_task_type (Some th) ≡ false → SeesNoType c → SeesNoType (with_name th c w)
name-no-type th w c e h id = ap is_task_type (meaning-more th c w id) ∙ by_test (w.name.0 == id.0)
  where
    by_test : (b : Bool) → is_task_type (if b then Some th else meaning c id) ≡ false
    by_test true = e
    by_test false = h id

names-no-type : (th : Thing) (ws : List Word) (c : Scope) → is_task_type (Some th) ≡ false → SeesNoType c → SeesNoType (with_names th c ws)
names-no-type th [] c e h = h
names-no-type th (w ∷ ws) c e h = names-no-type th ws (with_name th c w) e (name-no-type th w c e h)

mark-no-type : (o : Option ℕ) → is_task_type (Some (type_of_mark o)) ≡ false
mark-no-type (Some m) = refl
mark-no-type None = refl

single-no-type : (b : Bool) (entries : List EntryPart) → b ≡ false → is_task_type (Some (task_thing b entries)) ≡ false
single-no-type true entries e = e
single-no-type false entries e = refl

pub decl-no-type : (d : PDecl) (c : Scope) → IsSingle d → SeesNoType c → SeesNoType (after_decl c d)
decl-no-type (DNumber w e s) c q h = name-no-type (ConstantObject 0) w c refl h
decl-no-type (DObject ws constant x init s) c q h =
    names-no-type (declared_object c constant x).thing ws (with_types (with_constants c ws init (declared_object c constant x)) c) (declared-no-type c constant x) h
decl-no-type (DEnumeration w ws s) c q h =
    let T : TypeTable = add_mark
    (add_kind c.types (Enumeration (map (λ (v : Word). v.name) ws))) record { name = Some w.name; kind = length c.types.kinds; first = pos 0; last = pos (length ws) -ℤ pos 1 } in
    names-no-type (Literal (length c.types.kinds)) ws (with_name (TypeMark (length c.types.marks)) (with_types T c) w) refl (name-no-type (TypeMark (length c.types.marks)) w c refl h)
decl-no-type (DArray w r x s) c q h = name-no-type _ w c (mark-no-type (made_named_array c w r x).mark) h
decl-no-type (DSubtype w x s) c q h = name-no-type _ w c (mark-no-type (made_subtype c w x).mark) h
decl-no-type (DException ws s) c q h = names-no-type AnException ws c refl h
decl-no-type (DIntIo w s) c q h = name-no-type AnotherUnit w c refl h
decl-no-type (DPragma e s) c q h = h
decl-no-type (DTask t s) c q h = name-no-type _ t.name c (single-no-type t.of_kind (map (entry_part c) t.entries) q) h
decl-no-type (DTaskBody w objects its s) c q h = h

pub decls-no-type : (xs : List PDecl) (c : Scope) → AllByRecursion IsSingle xs → SeesNoType c → SeesNoType (after_decls c (decls_of xs))
decls-no-type [] c q h = h
decls-no-type (x ∷ xs) c q h = decls-no-type xs (after_decl c x) q.1 (decl-no-type x c q.0 h)

-- before all declarations it is so
pub first-no-type : (name : Word) → SeesNoType (first_scope name)
first-no-type name id =
    meant (λ x. is_task_type x ≡ false) (first_scope name).names id refl
    (refl, (refl, (refl, (refl, (refl, (refl, (refl, (refl, (refl, (refl, (refl, (refl, (refl, (refl, (refl, (refl, (refl, (refl, (refl, tt)))))))))))))))))))

-- ---- variables of main

of-mark : (T U : TypeTable) (o p : Option ℕ) (m n : ℕ) → o ≡ Some m → p ≡ Some n → SameMark T U m n → SameThing T U (Some (object_meaning false o)) (Some (object_meaning false p))
of-mark T U o p m n e f h = same_variable m n (ap (λ x. Some (object_meaning false x)) e) (ap (λ x. Some (object_meaning false x)) f) h

of-made-same : (a b : Made) → SameMade a b → SameDeclared (of_made false a) (of_made false b)
of-made-same a b (made_both m n e f h) = of-mark a.types b.types a.mark b.mark m n e f (of_values h)
of-made-same a b (made_neither e f) = same_unclear (ap (λ x. Some (object_meaning false x)) e) (ap (λ x. Some (object_meaning false x)) f)

module _ (old : ℕ → Bool) (c d : Scope) (n : SameNames old c d) (left : SeesNoType c) (right : SeesNoType d) where
  -- what is no mark is no task type
  plain-made : (s : Scope) (p : Marking) (x : PSubind) → marking s x.mark.name ≡ p → SeesNoType s → IsNoMark p → plain_object s false p x ≡ of_made false (made_subind s x)
  plain-made s p x e none (is_task_mark entries f) = absurd (no-task-mark s.types (meaning s x.mark.name) (none x.mark.name) entries (e ∙ f))
  plain-made s p x e none (is_no_mark f) = ap (λ m. plain_object s false m x) f
  plain-made s p x e none (is_unknown_mark f) = ap (λ m. plain_object s false m x) f

  by_marking : (x : PSubind) → IsOldSubind old x → (p q : Marking) → marking c x.mark.name ≡ p → marking d x.mark.name ≡ q → SameMarking c.types d.types p q →
      SameDeclared (plain_object c false p x) (plain_object d false q x)
  by_marking x o p q e f (both_scalars i j h u v) =
      both-declared _ _ _ _ (of-made-same (made_subind c x) (made_subind d x) (made-same old c d n x o)) (ap (λ m. plain_object c false m x) u) (ap (λ m. plain_object d false m x) v)
  by_marking x o p q e f (both_arrays i j h u v) =
      both-declared _ _ _ _ (of-mark c.types d.types (Some i) (Some j) i j refl refl (of_arrays h)) (ap (λ m. plain_object c false m x) u) (ap (λ m. plain_object d false m x) v)
  by_marking x o p q e f (both_no_marks u v) =
      both-declared _ _ _ _ (of-made-same (made_subind c x) (made_subind d x) (made-same old c d n x o)) (plain-made c p x e left u) (plain-made d q x f right v)
  by_marking x o p q e f (both_unclear_marks u v) =
      both-declared _ _ _ _ (of-made-same (made_subind c x) (made_subind d x) (made-same old c d n x o)) (ap (λ m. plain_object c false m x) u) (ap (λ m. plain_object d false m x) v)

  -- what a variable of an old type is, in two scopes without task types
  pub variable-same : (x : PSubind) → IsOldSubind old x → SameDeclared (declared_object c false (OPlain x)) (declared_object d false (OPlain x))
  variable-same x o = by_marking x o (marking c x.mark.name) (marking d x.mark.name) refl refl (mark-same old c d n x.mark.name o.0)

-- An object of main that is no task is the same in two scopes with one table in which names are the same, as far as they are values or types.
use Rattle.std.proofs.Common.{◌≡◌, Bool, true, false, Some, None, refl, sym, ap, ap₂, ◌∙◌, true≢false}
use Rattle.ada_tree.specs.TypeTable.{TypeTable}
use Rattle.ada_tree.specs.PlainExpr.{PSubind, PDrange}
use Rattle.ada_tree.specs.PlainDecl.{PShape, OPlain, OArray}
use Rattle.ada_static_rules.specs.Scope.{Scope, Range, Marking, ScalarMark, ArrayMark, TaskMark, NoMark, UnknownMark, UnclearMark, marking, range_of_mark}
use Rattle.ada_static_rules.specs.Sites.{is_task_object}
use Rattle.ada_static_rules.specs.Declaring.{Made, of_made, made_array, object_meaning, task_object, task_array, drange_range, plain_object, array_object, declared_object}
use Rattle.task_laws.specs.legal.rewritten_types.Rewriting.{is_no_task, mark_of}
use Rattle.task_laws.proofs.legal.rewritten_types.Closing.{Close, typed, typed-alike, made-alike, drange-alike}
use Rattle.normal_laws.proofs.structure.typed.Declared.{SameInit, both_values, both_arrays, both_free}

-- a mark asks the same as itself of an initial value
pub self-init : (T : TypeTable) (m : Marking) → SameInit T T m m
self-init T (ScalarMark i k) = both_values i k i k (range_of_mark T i) refl refl refl refl
self-init T (ArrayMark i range part) = both_arrays i i part part range (range_of_mark T part) refl refl refl refl
self-init T (TaskMark es) = both_free (λ s v. refl) (λ s v. refl)
self-init T NoMark = both_free (λ s v. refl) (λ s v. refl)
self-init T UnknownMark = both_free (λ s v. refl) (λ s v. refl)
self-init T UnclearMark = both_free (λ s v. refl) (λ s v. refl)

-- ---- the mark of an object that is no task

plain-no : (s : Scope) (constant : Bool) (m : Marking) (x : PSubind) → s.in_main ≡ true → is_task_object (plain_object s constant m x).thing ≡ false → is_no_task m ≡ true
plain-no s constant (TaskMark es) x main e = absurd (true≢false (sym (ap (λ b. is_task_object (task_object b es)) main) ∙ e))
plain-no s constant (ScalarMark i k) x main e = refl
plain-no s constant (ArrayMark i range part) x main e = refl
plain-no s constant NoMark x main e = refl
plain-no s constant UnknownMark x main e = refl
plain-no s constant UnclearMark x main e = refl

row-no : (s : Scope) (constant : Bool) (m : Marking) (q : PDrange) (x : PSubind) (range : Range) → s.in_main ≡ true → drange_range s q ≡ Some range → is_task_object (array_object s constant m q x).thing ≡ false → is_no_task m ≡ true
row-no s constant (TaskMark es) q x range main f e = absurd (true≢false (sym (ap₂ (λ b o. is_task_object (task_array b o es)) main f) ∙ e))
row-no s constant (ScalarMark i k) q x range main f e = refl
row-no s constant (ArrayMark i r part) q x range main f e = refl
row-no s constant NoMark q x range main f e = refl
row-no s constant UnknownMark q x range main f e = refl
row-no s constant UnclearMark q x range main f e = refl

-- the index range of an array is known
abbrev pub IsRangeKnown : Scope → PShape → Type 0
IsRangeKnown s (OPlain x) = Unit {0}
IsRangeKnown s (OArray q x) = (range : Range) × (drange_range s q ≡ Some range)

-- the mark is none of a task type
pub mark-no : (s : Scope) (constant : Bool) (x : PShape) → s.in_main ≡ true → IsRangeKnown s x → is_task_object (declared_object s constant x).thing ≡ false → is_no_task (marking s (mark_of x)) ≡ true
mark-no s constant (OPlain x) main known e = plain-no s constant (marking s x.mark.name) x main e
mark-no s constant (OArray q x) main known e = row-no s constant (marking s x.mark.name) q x known.0 main known.1 e

-- ---- the same object

-- such a mark counts as what is typed
plain-typed : (s : Scope) (constant : Bool) (m : Marking) (x : PSubind) → is_no_task m ≡ true → plain_object s constant m x ≡ plain_object s constant (typed m) x
plain-typed s constant (TaskMark es) x e = absurd (true≢false (sym e))
plain-typed s constant (ScalarMark i k) x e = refl
plain-typed s constant (ArrayMark i range part) x e = refl
plain-typed s constant NoMark x e = refl
plain-typed s constant UnknownMark x e = refl
plain-typed s constant UnclearMark x e = refl

row-typed : (s : Scope) (constant : Bool) (m : Marking) (q : PDrange) (x : PSubind) → is_no_task m ≡ true → array_object s constant m q x ≡ array_object s constant (typed m) q x
row-typed s constant (TaskMark es) q x e = absurd (true≢false (sym e))
row-typed s constant (ScalarMark i k) q x e = refl
row-typed s constant (ArrayMark i range part) q x e = refl
row-typed s constant NoMark q x e = refl
row-typed s constant UnknownMark q x e = refl
row-typed s constant UnclearMark q x e = refl

module _ (s r : Scope) (close : Close s r) where
  plain-same : (constant : Bool) (m : Marking) (x : PSubind) → plain_object s constant (typed m) x ≡ plain_object r constant (typed m) x
  plain-same constant (ArrayMark i range part) x = ap (λ (T : TypeTable). record { types = T; thing = object_meaning constant (Some i) }) close.types
  plain-same constant (ScalarMark i k) x = ap (of_made constant) (made-alike s r close x)
  plain-same constant (TaskMark es) x = ap (of_made constant) (made-alike s r close x)
  plain-same constant NoMark x = ap (of_made constant) (made-alike s r close x)
  plain-same constant UnknownMark x = ap (of_made constant) (made-alike s r close x)
  plain-same constant UnclearMark x = ap (of_made constant) (made-alike s r close x)

  own-row : (constant : Bool) (q : PDrange) (x : PSubind) → array_object s constant NoMark q x ≡ array_object r constant NoMark q x
  own-row constant q x = ap₂ (λ (d : Made) o. of_made constant (made_array None d.types o d.mark)) (made-alike s r close x) (drange-alike s r close q)

  row-same : (constant : Bool) (m : Marking) (q : PDrange) (x : PSubind) → array_object s constant (typed m) q x ≡ array_object r constant (typed m) q x
  row-same constant (ArrayMark i range part) q x = own-row constant q x
  row-same constant (ScalarMark i k) q x = own-row constant q x
  row-same constant (TaskMark es) q x = own-row constant q x
  row-same constant NoMark q x = own-row constant q x
  row-same constant UnknownMark q x = own-row constant q x
  row-same constant UnclearMark q x = own-row constant q x

  -- The object is the same in both.
  pub object-same : (constant : Bool) (x : PShape) → is_no_task (marking s (mark_of x)) ≡ true → is_no_task (marking r (mark_of x)) ≡ true → declared_object s constant x ≡ declared_object r constant x
  object-same constant (OPlain x) e f =
      plain-typed s constant (marking s x.mark.name) x e
      ∙ ap (λ m. plain_object s constant m x) (typed-alike s r close x.mark.name)
      ∙ plain-same constant (marking r x.mark.name) x
      ∙ sym (plain-typed r constant (marking r x.mark.name) x f)
  object-same constant (OArray q x) e f =
      row-typed s constant (marking s x.mark.name) q x e
      ∙ ap (λ m. array_object s constant m q x) (typed-alike s r close x.mark.name)
      ∙ row-same constant (marking r x.mark.name) q x
      ∙ sym (row-typed r constant (marking r x.mark.name) q x f)

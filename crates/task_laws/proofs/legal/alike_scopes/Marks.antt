-- What a mark is in an expression and as a mark is told by its kind and its bounds; and what two marks have in common stays where tables grow.
use Rattle.std.proofs.Common.{◌≡◌, ℕ, ℤ, Option, Some, None, option_map, refl, ap, ◌∙◌}
use Rattle.std.proofs.lemmas.Option.{none-some}
use Rattle.ada_tree.specs.declared.static_types.Kind.{Kind}
use Rattle.ada_tree.specs.declared.static_types.Kind.TheVariants.{Integer, Truth, Enumeration, Array}
use Rattle.ada_tree.specs.declared.static_types.Mark.{Mark}
use Rattle.ada_tree.specs.TypeTable.{TypeTable}
use Rattle.ada_static_rules.specs.Scope.{Range, Thing, AsScalar, AsArray, reading_of_kind, reading_of_mark, ScalarMark, ArrayMark, marking_of_kind, marking_of_mark, kind_at, mark_at, kind_of_mark, range_of_mark}
use Rattle.task_laws.specs.legal.rewritten_types.Agreement.{scalar_only, Grows, IsScalar}
use Rattle.common_lemmas.proofs.Options.{some_same}
use Rattle.task_laws.specs.legal.alike_scopes.Alike.{SameScalar, SameArray, SameMark, of_values, of_arrays, SameThing, same_type, same_variable, same_constant, same_parameter, same_loop_parameter, same_literal, same_exception, same_unclear, no_values}

-- the bounds of a mark, with its kind
abbrev bounds_of : Mark → Range
bounds_of x = record { kind = x.kind; first = x.first; last = x.last }

-- ---- what a mark is, by its kind

pub kind-ranged : (T : TypeTable) (m : ℕ) (r : Range) → range_of_mark T m ≡ Some r → kind_of_mark T m ≡ Some r.kind
kind-ranged T m r e = by_mark (mark_at T m) e
  where
    by_mark : (o : Option Mark) → option_map bounds_of o ≡ Some r → option_map (λ (x : Mark). x.kind) o ≡ Some r.kind
    by_mark (Some x) f = ap (option_map (λ (q : Range). q.kind)) f
    by_mark None f = absurd (none-some r f)

pub reading-ranged : (T : TypeTable) (m : ℕ) (r : Range) → range_of_mark T m ≡ Some r → reading_of_mark T (mark_at T m) ≡ reading_of_kind r.kind (kind_at T r.kind)
reading-ranged T m r e = by_mark (mark_at T m) e
  where
    by_mark : (o : Option Mark) → option_map bounds_of o ≡ Some r → reading_of_mark T o ≡ reading_of_kind r.kind (kind_at T r.kind)
    by_mark (Some x) f = ap (λ (q : Range). reading_of_kind q.kind (kind_at T q.kind)) (some_same f)
    by_mark None f = absurd (none-some r f)

pub marking-ranged : (T : TypeTable) (m : ℕ) (r : Range) → range_of_mark T m ≡ Some r → marking_of_mark T m (mark_at T m) ≡ marking_of_kind m r.kind (kind_at T r.kind)
marking-ranged T m r e = by_mark (mark_at T m) e
  where
    by_mark : (o : Option Mark) → option_map bounds_of o ≡ Some r → marking_of_mark T m o ≡ marking_of_kind m r.kind (kind_at T r.kind)
    by_mark (Some x) f = ap (λ (q : Range). marking_of_kind m q.kind (kind_at T q.kind)) (some_same f)
    by_mark None f = absurd (none-some r f)

-- a kind of values
pub scalar-reading : (k : ℕ) (o : Option Kind) (x : Kind) → scalar_only o ≡ Some x → reading_of_kind k o ≡ AsScalar k
scalar-reading k (Some Integer) x e = refl
scalar-reading k (Some Truth) x e = refl
scalar-reading k (Some (Enumeration names)) x e = refl
scalar-reading k (Some (Array index first last part)) x e = absurd (none-some x e)
scalar-reading k None x e = absurd (none-some x e)

pub scalar-marking : (m k : ℕ) (o : Option Kind) (x : Kind) → scalar_only o ≡ Some x → marking_of_kind m k o ≡ ScalarMark m k
scalar-marking m k (Some Integer) x e = refl
scalar-marking m k (Some Truth) x e = refl
scalar-marking m k (Some (Enumeration names)) x e = refl
scalar-marking m k (Some (Array index first last part)) x e = absurd (none-some x e)
scalar-marking m k None x e = absurd (none-some x e)

-- that of a mark with bounds, and that of an array
pub values-reading : (T : TypeTable) (m : ℕ) (r : Range) → range_of_mark T m ≡ Some r → IsScalar T r.kind → reading_of_mark T (mark_at T m) ≡ AsScalar r.kind
values-reading T m r e h = reading-ranged T m r e ∙ scalar-reading r.kind (kind_at T r.kind) h.0 h.1

pub values-marking : (T : TypeTable) (m : ℕ) (r : Range) → range_of_mark T m ≡ Some r → IsScalar T r.kind → marking_of_mark T m (mark_at T m) ≡ ScalarMark m r.kind
values-marking T m r e h = marking-ranged T m r e ∙ scalar-marking m r.kind (kind_at T r.kind) h.0 h.1

pub array-reading : (T : TypeTable) (m : ℕ) (x : Mark) (index : ℕ) (first last : ℤ) (part : ℕ) → mark_at T m ≡ Some x → kind_at T x.kind ≡ Some (Array index first last part) →
    reading_of_mark T (mark_at T m) ≡ AsArray index part
array-reading T m x index first last part e f = ap (reading_of_mark T) e ∙ ap (reading_of_kind x.kind) f

pub array-marking : (T : TypeTable) (m : ℕ) (x : Mark) (index : ℕ) (first last : ℤ) (part : ℕ) → mark_at T m ≡ Some x → kind_at T x.kind ≡ Some (Array index first last part) →
    marking_of_mark T m (mark_at T m) ≡ ArrayMark m record { kind = index; first = first; last = last } part
array-marking T m x index first last part e f = ap (marking_of_mark T m) e ∙ ap (marking_of_kind m x.kind) f

-- ---- tables that grow

pub range-grown : (T U : TypeTable) → Grows T U → (m : ℕ) (r : Range) → range_of_mark T m ≡ Some r → range_of_mark U m ≡ Some r
range-grown T U g m r e = by_mark (mark_at T m) refl e
  where
    by_mark : (o : Option Mark) → mark_at T m ≡ o → option_map bounds_of o ≡ Some r → range_of_mark U m ≡ Some r
    by_mark (Some x) f h = ap (option_map bounds_of) (g.mark m x f) ∙ h
    by_mark None f h = absurd (none-some r h)

pub scalar-grown : (T U : TypeTable) → Grows T U → (k : ℕ) → IsScalar T k → IsScalar U k
scalar-grown T U g k h = by_kind (kind_at T k) refl h.1
  where
    by_kind : (o : Option Kind) → kind_at T k ≡ o → scalar_only o ≡ Some h.0 → IsScalar U k
    by_kind (Some y) e f = (h.0, ap scalar_only (g.kind k y e) ∙ f)
    by_kind None e f = absurd (none-some h.0 f)

module _ (T T' U U' : TypeTable) (g : Grows T T') (h : Grows U U') where
  pub values-grown : (m n : ℕ) → SameScalar T U m n → SameScalar T' U' m n
  values-grown m n x = record {
    range = x.range;
    left = range-grown T T' g m x.range x.left;
    right = range-grown U U' h n x.range x.right;
    kind = scalar-grown T T' g x.range.kind x.kind;
  }

  pub arrays-grown : (m n : ℕ) → SameArray T U m n → SameArray T' U' m n
  arrays-grown m n x = record {
    index = x.index;
    first = x.first;
    last = x.last;
    left_part = x.left_part;
    right_part = x.right_part;
    left_mark = x.left_mark;
    right_mark = x.right_mark;
    left = g.mark m x.left_mark x.left;
    right = h.mark n x.right_mark x.right;
    left_kind = g.kind x.left_mark.kind _ x.left_kind;
    right_kind = h.kind x.right_mark.kind _ x.right_kind;
    parts = values-grown x.left_part x.right_part x.parts;
  }

  pub mark-grown : (m n : ℕ) → SameMark T U m n → SameMark T' U' m n
  mark-grown m n (of_values x) = of_values (values-grown m n x)
  mark-grown m n (of_arrays x) = of_arrays (arrays-grown m n x)

  -- what two names mean stays the same
  pub thing-grown : (a b : Option Thing) → SameThing T U a b → SameThing T' U' a b
  thing-grown a b (same_type m n e f x) = same_type m n e f (mark-grown m n x)
  thing-grown a b (same_variable m n e f x) = same_variable m n e f (mark-grown m n x)
  thing-grown a b (same_constant m n e f x) = same_constant m n e f (mark-grown m n x)
  thing-grown a b (same_parameter mode m n e f x) = same_parameter mode m n e f (mark-grown m n x)
  thing-grown a b (same_loop_parameter m n e f x) = same_loop_parameter m n e f (mark-grown m n x)
  thing-grown a b (same_literal k e f x) = same_literal k e f (scalar-grown T T' g k x)
  thing-grown a b (same_exception e f) = same_exception e f
  thing-grown a b (same_unclear e f) = same_unclear e f
  thing-grown a b (no_values x y) = no_values x y

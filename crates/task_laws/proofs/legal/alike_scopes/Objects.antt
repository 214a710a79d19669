-- The objects of a body, the formals of an accept and the parameter of a loop keep two scopes alike.
use Rattle.std.proofs.Common.{◌≡◌, ℕ, ℤ, Bool, true, false, List, length, Option, Some, None, IfSome, option_map, refl, sym, ap, ap₂, ◌∙◌, subst}
use Rattle.std.proofs.lemmas.Option.{none-some}
use Rattle.common_lemmas.proofs.Lists.{last_at}
use Rattle.common_lemmas.proofs.Options.{some_same}
use Rattle.ada_tree.specs.declared.naming.NameId.{NameId}
use Rattle.ada_tree.specs.declared.static_types.Kind.TheVariants.{Array}
use Rattle.ada_tree.specs.declared.static_types.Mark.{Mark}
use Rattle.ada_tree.specs.TypeTable.{TypeTable}
use Rattle.ada_tree.specs.PlainExpr.{PBounds, PSubind, PDrange}
use Rattle.ada_tree.specs.PlainDecl.{PShape, OPlain, OArray}
use Rattle.ada_static_rules.specs.Scope.{Scope, Range, EntryPart, Unclear, Marking, ScalarMark, marking, range_of_mark}
use Rattle.ada_static_rules.specs.ExprTypes.{static_in, range_between, static_range}
use Rattle.ada_static_rules.specs.Declaring.{add_mark, add_kind, mark_for, Made, made_none, made_range, subind_made, made_subind, drange_range, made_array, object_meaning, task_object, task_array, Declared, of_made, plain_object, array_object, declared_object}
use Rattle.task_laws.specs.legal.rewritten_types.Agreement.{Grows, IsScalar}
use Rattle.task_laws.proofs.legal.rewritten_types.Keeping.{grows-on, grows-mark, grows-kind}
use Rattle.task_laws.specs.legal.alike_scopes.Alike.{SameScalar, SameMark, of_values, of_arrays, SameThing, same_variable, same_constant, same_unclear, SameNames}
use Rattle.task_laws.specs.legal.alike_scopes.Old.{IsOldBounds, IsOldSubind, IsOldDrange, IsOldShape}
use Rattle.task_laws.proofs.legal.alike_scopes.Marks.{values-grown}
use Rattle.task_laws.proofs.legal.alike_scopes.Readings.{IsNoMark, is_task_mark, is_no_mark, is_unknown_mark, SameMarking, both_scalars, both_arrays, both_no_marks, both_unclear_marks}
use Rattle.task_laws.proofs.legal.alike_scopes.Exprs.{mark-same, range-same, drange-same}
use Rattle.task_laws.proofs.legal.rewritten_types.Moving.{no_array}

-- ---- marks that are made

-- two marks that were made for a subtype are the same, or none was
pub data SameMade (a b : Made) : Type 0 where
  made_both : (m n : ℕ) → a.mark ≡ Some m → b.mark ≡ Some n → SameScalar a.types b.types m n → SameMade a b
  made_neither : a.mark ≡ None → b.mark ≡ None → SameMade a b

-- a range of a kind has that kind
between-kind : (k : ℕ) (a b : Option ℤ) (r : Range) → range_between k a b ≡ Some r → r.kind ≡ k
between-kind k (Some a) (Some b) r e = sym (ap (λ (q : Range). q.kind) (some_same e))
between-kind k (Some a) None r e = absurd (none-some r e)
between-kind k None b r e = absurd (none-some r e)

-- the mark of a range behind others
range-last : (T : TypeTable) (name : Option NameId) (r : Range) → range_of_mark (add_mark T (mark_for name r)) (length T.marks) ≡ Some r
range-last T name r = ap (option_map (λ (x : Mark). record { kind = x.kind; first = x.first; last = x.last })) (last_at T.marks (mark_for name r))

range-made : (T U : TypeTable) (o : Option Range) → ((r : Range) → o ≡ Some r → IsScalar T r.kind) → SameMade (made_range T o) (made_range U o)
range-made T U (Some r) h = made_both (length T.marks) (length U.marks) refl refl record { range = r; left = range-last T None r; right = range-last U None r; kind = h r refl }
range-made T U None h = made_neither refl refl

-- where no mark of values stands, none is made
no-mark-made : (s : Scope) (p : Marking) (b : Option PBounds) → IsNoMark p → subind_made s p b ≡ made_none s.types
no-mark-made s p b (is_task_mark entries e) = ap (λ m. subind_made s m b) e
no-mark-made s p b (is_no_mark e) = ap (λ m. subind_made s m b) e
no-mark-made s p b (is_unknown_mark e) = ap (λ m. subind_made s m b) e

both-made : (a b a' b' : Made) → SameMade a' b' → a ≡ a' → b ≡ b' → SameMade a b
both-made a b a' b' h e f = subst (λ x. SameMade x b) (sym e) (subst (SameMade a') (sym f) h)

module _ (old : ℕ → Bool) (s t : Scope) (n : SameNames old s t) where
  values-made : (i j : ℕ) (x : SameScalar s.types t.types i j) (b : Option PBounds) → IfSome b (IsOldBounds old) →
      SameMade (subind_made s (ScalarMark i x.range.kind) b) (subind_made t (ScalarMark j x.range.kind) b)
  values-made i j x None o = made_both i j refl refl x
  values-made i j x (Some b) o =
      let k = x.range.kind in
      subst (λ r. SameMade (made_range s.types (static_range s k b)) (made_range t.types r)) (range-same old s t n k b o)
      (range-made s.types t.types (static_range s k b)
      (λ r e. subst (IsScalar s.types) (sym (between-kind k (static_in s k b.first) (static_in s k b.last) r e)) x.kind))

  subind-made-same : (p q : Marking) (b : Option PBounds) → IfSome b (IsOldBounds old) → SameMarking s.types t.types p q → SameMade (subind_made s p b) (subind_made t q b)
  subind-made-same p q b o (both_scalars i j x e f) = both-made _ _ _ _ (values-made i j x b o) (ap (λ m. subind_made s m b) e) (ap (λ m. subind_made t m b) f)
  subind-made-same p q b o (both_arrays i j x e f) =
      both-made _ _ (made_none s.types) (made_none t.types) (made_neither refl refl) (ap (λ m. subind_made s m b) e) (ap (λ m. subind_made t m b) f)
  subind-made-same p q b o (both_no_marks x y) =
      both-made _ _ (made_none s.types) (made_none t.types) (made_neither refl refl) (no-mark-made s p b x) (no-mark-made t q b y)
  subind-made-same p q b o (both_unclear_marks e f) =
      both-made _ _ (made_none s.types) (made_none t.types) (made_neither refl refl) (ap (λ m. subind_made s m b) e) (ap (λ m. subind_made t m b) f)

  pub made-same : (x : PSubind) → IsOldSubind old x → SameMade (made_subind s x) (made_subind t x)
  made-same x o = subind-made-same (marking s x.mark.name) (marking t x.mark.name) x.bounds o.1 (mark-same old s t n x.mark.name o.0)

-- ---- objects

-- what two objects are, each by the table that its declaration leaves
abbrev pub SameDeclared : Declared → Declared → Type 0
SameDeclared d d' = SameThing d.types d'.types (Some d.thing) (Some d'.thing)

pub both-declared : (a b a' b' : Declared) → SameDeclared a' b' → a ≡ a' → b ≡ b' → SameDeclared a b
both-declared a b a' b' h e f = subst (λ x. SameDeclared x b) (sym e) (subst (SameDeclared a') (sym f) h)

-- an object without a mark
unclear-object : (constant : Bool) → object_meaning constant None ≡ Unclear
unclear-object true = refl
unclear-object false = refl

-- an object with a mark, and one without
marked-object : (T U : TypeTable) (constant : Bool) (m n : ℕ) → SameMark T U m n → SameThing T U (Some (object_meaning constant (Some m))) (Some (object_meaning constant (Some n)))
marked-object T U true m n h = same_constant m n refl refl h
marked-object T U false m n h = same_variable m n refl refl h

unmarked-object : (T U : TypeTable) (constant : Bool) → SameThing T U (Some (object_meaning constant None)) (Some (object_meaning constant None))
unmarked-object T U constant = same_unclear (ap Some (unclear-object constant)) (ap Some (unclear-object constant))

-- what comes of two marks that are the same, by what they are told by
object-made : (T U : TypeTable) (constant : Bool) (o p : Option ℕ) (m n : ℕ) → o ≡ Some m → p ≡ Some n → SameMark T U m n → SameThing T U (Some (object_meaning constant o)) (Some (object_meaning constant p))
object-made T U constant o p m n e f h =
    subst (λ x. SameThing T U (Some (object_meaning constant x)) (Some (object_meaning constant p))) (sym e)
    (subst (λ x. SameThing T U (Some (object_meaning constant (Some m))) (Some (object_meaning constant x))) (sym f) (marked-object T U constant m n h))

object-unmade : (T U : TypeTable) (constant : Bool) (o p : Option ℕ) → o ≡ None → p ≡ None → SameThing T U (Some (object_meaning constant o)) (Some (object_meaning constant p))
object-unmade T U constant o p e f = same_unclear (ap (λ x. Some (object_meaning constant x)) e ∙ ap Some (unclear-object constant)) (ap (λ x. Some (object_meaning constant x)) f ∙ ap Some (unclear-object constant))

of-made-same : (constant : Bool) (a b : Made) → SameMade a b → SameDeclared (of_made constant a) (of_made constant b)
of-made-same constant a b (made_both m n e f h) = object-made a.types b.types constant a.mark b.mark m n e f (of_values h)
of-made-same constant a b (made_neither e f) = object-unmade a.types b.types constant a.mark b.mark e f

-- ---- arrays of their own

-- the table behind the kind and the mark of an array
abbrev array_mark : TypeTable → Range → Mark
array_mark T r = record { name = None; kind = length T.kinds; first = r.first; last = r.last }

abbrev array_table : TypeTable → Range → ℕ → TypeTable
array_table T r part = add_mark (add_kind T (Array r.kind r.first r.last part)) (array_mark T r)

grows-array : (T : TypeTable) (r : Range) (part : ℕ) → Grows T (array_table T r part)
grows-array T r part = grows-on (grows-kind T (Array r.kind r.first r.last part)) (grows-mark (add_kind T (Array r.kind r.first r.last part)) (array_mark T r))

array-made : (T U : TypeTable) (constant : Bool) (o : Option Range) (m n : ℕ) → SameScalar T U m n →
    SameDeclared (of_made constant (made_array None T o (Some m))) (of_made constant (made_array None U o (Some n)))
array-made T U constant (Some r) m n h =
    marked-object (array_table T r m) (array_table U r n) constant (length T.marks) (length U.marks)
    (of_arrays record {
      index = r.kind;
      first = r.first;
      last = r.last;
      left_part = m;
      right_part = n;
      left_mark = array_mark T r;
      right_mark = array_mark U r;
      left = last_at T.marks (array_mark T r);
      right = last_at U.marks (array_mark U r);
      left_kind = last_at T.kinds (Array r.kind r.first r.last m);
      right_kind = last_at U.kinds (Array r.kind r.first r.last n);
      parts = values-grown T (array_table T r m) U (array_table U r n) (grows-array T r m) (grows-array U r n) m n h;
    })
array-made T U constant None m n h = unmarked-object T U constant

array-unmade : (T U : TypeTable) (constant : Bool) (o : Option Range) → SameDeclared (of_made constant (made_array None T o None)) (of_made constant (made_array None U o None))
array-unmade T U constant (Some r) = unmarked-object T U constant
array-unmade T U constant None = unmarked-object T U constant

row-made : (constant : Bool) (o p : Option Range) (a b : Made) → o ≡ p → SameMade a b →
    SameDeclared (of_made constant (made_array None a.types o a.mark)) (of_made constant (made_array None b.types p b.mark))
row-made constant o p a b e (made_both m n f g h) =
    both-declared _ _ _ _ (array-made a.types b.types constant p m n h)
    (ap₂ (λ x y. of_made constant (made_array None a.types x y)) e f)
    (ap (λ y. of_made constant (made_array None b.types p y)) g)
row-made constant o p a b e (made_neither f g) =
    both-declared _ _ _ _ (array-unmade a.types b.types constant p)
    (ap₂ (λ x y. of_made constant (made_array None a.types x y)) e f)
    (ap (λ y. of_made constant (made_array None b.types p y)) g)

-- ---- objects of a body

-- nothing is known of an object of what is no type of values
abbrev unclear_here : Scope → Declared
unclear_here s = record { types = s.types; thing = Unclear }

unmade-object : (s : Scope) (constant : Bool) (m : Made) → m ≡ made_none s.types → of_made constant m ≡ unclear_here s
unmade-object s constant m e = ap (of_made constant) e ∙ ap (λ o. record { types = s.types; thing = o }) (unclear-object constant)

unmade-row : (s : Scope) (constant : Bool) (o : Option Range) (m : Made) → m ≡ made_none s.types → of_made constant (made_array None m.types o m.mark) ≡ unclear_here s
unmade-row s constant o m e =
    ap (λ (x : Made). of_made constant (made_array None x.types o x.mark)) e
    ∙ ap (of_made constant) (no_array s.types o)
    ∙ ap (λ x. record { types = s.types; thing = x }) (unclear-object constant)

no_task_row : (o : Option Range) (entries : List EntryPart) → task_array false o entries ≡ Unclear
no_task_row (Some r) entries = refl
no_task_row None entries = refl

plain-unclear : (s : Scope) (constant : Bool) (p : Marking) (x : PSubind) → s.in_main ≡ false → marking s x.mark.name ≡ p → IsNoMark p → plain_object s constant p x ≡ unclear_here s
plain-unclear s constant p x main e (is_task_mark entries f) =
    ap (λ m. plain_object s constant m x) f ∙ ap (λ b. record { types = s.types; thing = task_object b entries }) main
plain-unclear s constant p x main e (is_no_mark f) =
    ap (λ m. plain_object s constant m x) f ∙ unmade-object s constant (made_subind s x) (no-mark-made s _ x.bounds (is_no_mark (e ∙ f)))
plain-unclear s constant p x main e (is_unknown_mark f) =
    ap (λ m. plain_object s constant m x) f ∙ unmade-object s constant (made_subind s x) (no-mark-made s _ x.bounds (is_unknown_mark (e ∙ f)))

row-unclear : (s : Scope) (constant : Bool) (p : Marking) (index : PDrange) (x : PSubind) → s.in_main ≡ false → marking s x.mark.name ≡ p → IsNoMark p →
    array_object s constant p index x ≡ unclear_here s
row-unclear s constant p index x main e (is_task_mark entries f) =
    ap (λ m. array_object s constant m index x) f
    ∙ ap (λ b. record { types = s.types; thing = task_array b (drange_range s index) entries }) main
    ∙ ap (λ o. record { types = s.types; thing = o }) (no_task_row (drange_range s index) entries)
row-unclear s constant p index x main e (is_no_mark f) =
    ap (λ m. array_object s constant m index x) f ∙ unmade-row s constant (drange_range s index) (made_subind s x) (no-mark-made s _ x.bounds (is_no_mark (e ∙ f)))
row-unclear s constant p index x main e (is_unknown_mark f) =
    ap (λ m. array_object s constant m index x) f ∙ unmade-row s constant (drange_range s index) (made_subind s x) (no-mark-made s _ x.bounds (is_unknown_mark (e ∙ f)))

module _ (old : ℕ → Bool) (s t : Scope) (n : SameNames old s t) (left : s.in_main ≡ false) (right : t.in_main ≡ false) where
  plain-same : (constant : Bool) (x : PSubind) → IsOldSubind old x → (p q : Marking) → marking s x.mark.name ≡ p → marking t x.mark.name ≡ q → SameMarking s.types t.types p q →
      SameDeclared (plain_object s constant p x) (plain_object t constant q x)
  plain-same constant x o p q e f (both_scalars i j h u v) =
      both-declared _ _ _ _ (of-made-same constant (made_subind s x) (made_subind t x) (made-same old s t n x o)) (ap (λ m. plain_object s constant m x) u) (ap (λ m. plain_object t constant m x) v)
  plain-same constant x o p q e f (both_arrays i j h u v) =
      both-declared _ _ _ _ (marked-object s.types t.types constant i j (of_arrays h)) (ap (λ m. plain_object s constant m x) u) (ap (λ m. plain_object t constant m x) v)
  plain-same constant x o p q e f (both_no_marks u v) =
      both-declared _ _ (unclear_here s) (unclear_here t) (same_unclear refl refl) (plain-unclear s constant p x left e u) (plain-unclear t constant q x right f v)
  plain-same constant x o p q e f (both_unclear_marks u v) =
      both-declared _ _ _ _ (of-made-same constant (made_subind s x) (made_subind t x) (made-same old s t n x o)) (ap (λ m. plain_object s constant m x) u) (ap (λ m. plain_object t constant m x) v)

  own-row-same : (constant : Bool) (index : PDrange) (x : PSubind) → IsOldDrange old index → IsOldSubind old x →
      SameDeclared (of_made constant (made_array None (made_subind s x).types (drange_range s index) (made_subind s x).mark))
      (of_made constant (made_array None (made_subind t x).types (drange_range t index) (made_subind t x).mark))
  own-row-same constant index x i o =
      row-made constant (drange_range s index) (drange_range t index) (made_subind s x) (made_subind t x) (drange-same old s t n index i).range (made-same old s t n x o)

  row-same : (constant : Bool) (index : PDrange) (x : PSubind) → IsOldDrange old index → IsOldSubind old x → (p q : Marking) → marking s x.mark.name ≡ p → marking t x.mark.name ≡ q →
      SameMarking s.types t.types p q → SameDeclared (array_object s constant p index x) (array_object t constant q index x)
  row-same constant index x i o p q e f (both_scalars a b h u v) =
      both-declared _ _ _ _ (own-row-same constant index x i o) (ap (λ m. array_object s constant m index x) u) (ap (λ m. array_object t constant m index x) v)
  row-same constant index x i o p q e f (both_arrays a b h u v) =
      both-declared _ _ _ _ (own-row-same constant index x i o) (ap (λ m. array_object s constant m index x) u) (ap (λ m. array_object t constant m index x) v)
  row-same constant index x i o p q e f (both_no_marks u v) =
      both-declared _ _ (unclear_here s) (unclear_here t) (same_unclear refl refl) (row-unclear s constant p index x left e u) (row-unclear t constant q index x right f v)
  row-same constant index x i o p q e f (both_unclear_marks u v) =
      both-declared _ _ _ _ (own-row-same constant index x i o) (ap (λ m. array_object s constant m index x) u) (ap (λ m. array_object t constant m index x) v)

  -- what an object of a body is, in two scopes
  pub declared-same : (constant : Bool) (shape : PShape) → IsOldShape old shape → SameDeclared (declared_object s constant shape) (declared_object t constant shape)
  declared-same constant (OPlain x) o =
      plain-same constant x o (marking s x.mark.name) (marking t x.mark.name) refl refl (mark-same old s t n x.mark.name o.0)
  declared-same constant (OArray index x) o =
      row-same constant index x o.0 o.1 (marking s x.mark.name) (marking t x.mark.name) refl refl (mark-same old s t n x.mark.name o.1.0)

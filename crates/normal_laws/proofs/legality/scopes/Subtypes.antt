-- A variable with a subtype that is known behind all declarations of a legal program has its range, in each scope where old names mean the same;
-- which names are old is free to choose.
use Rattle.std.proofs.Common.{◌≡◌, ℕ, Bool, true, false, [], length, option_map, Option, Some, None, Ok, refl, sym, ap, ◌∙◌, subst}
use Rattle.std.proofs.lemmas.Option.{none-some}
use Rattle.common_lemmas.proofs.Options.{some_same}
use Rattle.common_lemmas.proofs.Lists.{seam_there}
use Rattle.ada_tree.specs.declared.naming.Word.{Word}
use Rattle.ada_tree.specs.declared.static_types.Mark.{Mark}
use Rattle.ada_tree.specs.TypeTable.{TypeTable}
use Rattle.ada_tree.specs.PlainExpr.{PSubind, PBounds, RGiven, RMarked}
use Rattle.ada_tree.specs.PlainDecl.{OPlain}
use Rattle.ada_tree.specs.PlainProgram.{PProgram}
use Rattle.ada_static_rules.specs.Refusals.{types_in}
use Rattle.ada_static_rules.specs.Scope.{Scope, Range, Marking, ScalarMark, ArrayMark, TaskMark, NoMark, UnknownMark, UnclearMark, Variable, marking, marking_of, range_of_mark}
use Rattle.ada_static_rules.specs.Declaring.{object_meaning, mark_for, made_range, marked_range, subind_made, made_subind, plain_object, declared_object, Made}
use Rattle.ada_value.specs.declared.values.Limits.{Limits}
use Rattle.ada_value.specs.Values.{and_then, limits_of, limits_or, limits_named}
use Rattle.ada_static_rules.specs.ExprTypes.{static_range}
use Rattle.task_laws.proofs.legal.types.TaskTypes.{IsRangeHere}
use Rattle.ada_value.specs.Evaluating.{range_of}
use Rattle.normal_model.specs.Ranges.{marked}
use Rattle.task_laws.specs.legal.rewritten_types.Agreement.{IsScalar}
use Rattle.task_laws.specs.legal.types.Typed.{IsScalarName}
use Rattle.normal_laws.specs.existence.Laws.{IsLegalOriginal}
use Rattle.task_laws.specs.legal.alike_scopes.Alike.{SameNames}
use Rattle.task_laws.specs.legal.alike_scopes.Old.{IsOldSubind}
use Rattle.task_laws.proofs.legal.alike_scopes.Marks.{values-marking}
use Rattle.task_laws.proofs.legal.alike_scopes.Objects.{SameMade, made_both, made_neither, made-same}
use Rattle.normal_laws.proofs.legality.scopes.Main.{last}
use Rattle.normal_laws.proofs.legality.scopes.Marked.{IsTypeOf, named-means}

module _ (p : PProgram) (legal : IsLegalOriginal p) (old : ℕ → Bool) where
  abbrev T : TypeTable
  T = types_in p

  abbrev S : Scope
  S = last p legal

  -- The subtype of a variable is known: behind all declarations it makes a mark, which has its range by the table.
  pub record HasMark (x : PSubind) : Type 0 where
    pub words : IsOldSubind old x
    pub limits : Limits
    pub range : range_of T [] (RMarked x) ≡ Ok limits
    pub scalar : IsScalar T limits.kind
    pub place : ℕ
    pub mark : (made_subind S x).mark ≡ Some place
    pub known : range_of_mark (made_subind S x).types place ≡ Some record { kind = limits.kind; first = limits.first; last = limits.last }

  -- so is a scalar type or subtype without bounds
  pub name-known : (w : Word) → old w.name.0 ≡ true → IsScalarName T w.name → HasMark (marked w)
  name-known w o h = record {
    words = (o, tt);
    limits = limits_of h.mark;
    range = ap (λ m. Ok (limits_or m)) h.named;
    scalar = h.scalar;
    place = t.place;
    mark = ap (λ (m : Made). m.mark) made;
    known = ap (λ (m : Made). range_of_mark m.types t.place) made ∙ its;
  }
    where
      t : IsTypeOf p legal w.name h.mark
      t = named-means p legal w.name h.mark h.named

      its : range_of_mark T t.place ≡ Some record { kind = h.mark.kind; first = h.mark.first; last = h.mark.last }
      its = ap (option_map (λ (z : Mark). record { kind = z.kind; first = z.first; last = z.last })) t.there

      made : made_subind S (marked w) ≡ record { types = T; mark = Some t.place }
      made = ap (λ m. subind_made S m None) (ap (marking_of T) t.means ∙ values-marking T t.place (record { kind = h.mark.kind; first = h.mark.first; last = h.mark.last }) its h.scalar)

  -- A variable that is declared with it, with the range of its mark.
  pub record IsDeclaredIn (t : Scope) (x : PSubind) (limits : Limits) : Type 0 where
    pub place : ℕ
    pub thing : (declared_object t false (OPlain x)).thing ≡ Variable place
    pub types : (declared_object t false (OPlain x)).types ≡ (made_subind t x).types
    pub known : range_of_mark (made_subind t x).types place ≡ Some record { kind = limits.kind; first = limits.first; last = limits.last }

  module _ (t : Scope) (n : SameNames old S t) (x : PSubind) (h : HasMark x) where
    -- the object that a mark of values makes
    object-made : (m : Marking) (k : ℕ) → (subind_made t m x.bounds).mark ≡ Some k → (made_subind t x).mark ≡ Some k → ((plain_object t false m x).thing ≡ Variable k) × ((plain_object t false m x).types ≡ (made_subind t x).types)
    object-made (ScalarMark m j) k e f = (ap (object_meaning false) f, refl)
    object-made NoMark k e f = (ap (object_meaning false) f, refl)
    object-made UnknownMark k e f = (ap (object_meaning false) f, refl)
    object-made UnclearMark k e f = (ap (object_meaning false) f, refl)
    object-made (ArrayMark m r part) k e f = absurd (none-some k e)
    object-made (TaskMark es) k e f = absurd (none-some k e)

    pub declared-in : IsDeclaredIn t x h.limits
    declared-in = by_form (made-same old S t n x h.words)
      where
        by_form : SameMade (made_subind S x) (made_subind t x) → IsDeclaredIn t x h.limits
        by_form (made_both i j e f same) =
            let d = object-made (marking t x.mark.name) j f f in
            let one : i ≡ h.place = some_same (sym e ∙ h.mark) in
            let left : range_of_mark (made_subind S x).types h.place ≡ Some same.range = subst (λ (k : ℕ). range_of_mark (made_subind S x).types k ≡ Some same.range) one same.left in
            record { place = j; thing = d.0; types = d.1; known = same.right ∙ sym left ∙ h.known }
        by_form (made_neither e f) = absurd (none-some h.place (sym e ∙ h.mark))

  -- ---- ranges

  -- what a range that is known makes, as the subtype of an object
  record MakesMark (m : Made) (range : Range) : Type 0 where
    place : ℕ
    mark : m.mark ≡ Some place
    known : range_of_mark m.types place ≡ Some range

  marked-makes : (m : Marking) (b : Option PBounds) (range : Range) → marked_range S m b ≡ Some range → MakesMark (subind_made S m b) range
  marked-makes (ScalarMark m k) None range e = record { place = m; mark = refl; known = e }
  marked-makes (ScalarMark m k) (Some b) range e =
      subst (λ o. MakesMark (made_range T o) range) (sym e)
      (record { place = length T.marks; mark = refl; known = ap (option_map (λ (z : Mark). record { kind = z.kind; first = z.first; last = z.last })) (seam_there T.marks (mark_for None range) []) })
  marked-makes (ArrayMark m r part) b range e = absurd (none-some range e)
  marked-makes (TaskMark es) b range e = absurd (none-some range e)
  marked-makes NoMark b range e = absurd (none-some range e)
  marked-makes UnknownMark b range e = absurd (none-some range e)
  marked-makes UnclearMark b range e = absurd (none-some range e)

  -- A range that starts with the name of a subtype is known so.
  pub range-known : (x : PSubind) → IsOldSubind old x → IsRangeHere T S (RMarked x) → HasMark x
  range-known x o h =
      let l : Limits = h.limits.limits in
      let m = marked-makes (marking S x.mark.name) x.bounds (record { kind = l.kind; first = l.first; last = l.last }) h.known in
      record { words = o; limits = l; range = h.limits.range; scalar = h.limits.scalar; place = m.place; mark = m.mark; known = m.known }

  -- And so is one of bounds alone, with the name of their kind.
  pub given-known : (w : Word) (b : PBounds) → IsOldSubind old (record { mark = w; bounds = Some b }) → (h : IsRangeHere T S (RGiven b)) → IsScalarName T w.name → (limits_named T w.name).kind ≡ h.limits.limits.kind →
      static_range S h.limits.limits.kind b ≡ Some record { kind = h.limits.limits.kind; first = h.limits.limits.first; last = h.limits.limits.last } → HasMark (record { mark = w; bounds = Some b })
  given-known w b o h named k known =
      let l : Limits = h.limits.limits in
      let t : IsTypeOf p legal w.name named.mark = named-means p legal w.name named.mark named.named in
      let same : named.mark.kind ≡ l.kind = ap (λ q. (limits_or q).kind) (sym named.named) ∙ k in
      let its : range_of_mark T t.place ≡ Some record { kind = named.mark.kind; first = named.mark.first; last = named.mark.last } = ap (option_map (λ (z : Mark). record { kind = z.kind; first = z.first; last = z.last })) t.there in
      let marks : marking S w.name ≡ ScalarMark t.place named.mark.kind = ap (marking_of T) t.means ∙ values-marking T t.place (record { kind = named.mark.kind; first = named.mark.first; last = named.mark.last }) its named.scalar in
      let m = marked-makes (marking S w.name) (Some b) (record { kind = l.kind; first = l.first; last = l.last }) (ap (λ q. marked_range S q (Some b)) marks ∙ ap (λ (j : ℕ). static_range S j b) same ∙ known) in
      record {
        words = o;
        limits = l;
        range = ap (λ r. and_then r (λ z. Ok record { kind = (limits_named T w.name).kind; first = z.first; last = z.last })) h.limits.range ∙ ap (λ (j : ℕ). Ok record { kind = j; first = l.first; last = l.last }) k;
        scalar = h.limits.scalar;
        place = m.place;
        mark = m.mark;
        known = m.known;
      }

-- The subtypes of the variables that the normal form adds have static bounds, so no shared variable stands in their declarations.
use Rattle.std.proofs.Common.{◌≡◌, ℕ, ℤ, Bool, true, false, ◌&&◌, if◌then◌else◌, List, [], ◌∷◌, Option, Some, None, is_some, IfSome, Result, refl, sym, subst, true≢false}
use Rattle.std.specs.List.{AllByRecursion}
use Rattle.ada_tree.specs.declared.naming.NameId.{NameId}
use Rattle.ada_tree.specs.declared.naming.Span.{Span}
use Rattle.ada_tree.specs.TypeTable.{TypeTable}
use Rattle.ada_tree.specs.Attributes.{attribute_of}
use Rattle.ada_tree.specs.PlainExpr.{PExpr, EInteger, EName, EIndex, EAttribute, EAttributeOf, EParen, EUnary, EBinary, PBounds, PSubind, PDrange, RGiven, RMarked}
use Rattle.ada_tree.specs.PlainProgram.{PProgram}
use Rattle.ada_static_rules.specs.StaticValue.{value_named, mark_named, keeps_static, is_static, value_of}
use Rattle.syn_event.specs.CheckScope.{CheckScope, uses}
use Rattle.syn_event.specs.Extents.{Extent, unraised_value, fixed, between, bounds_extent, marked_extent}
use Rattle.syn_event.specs.declared.numbering.EntryInfo.{EntryInfo}
use Rattle.syn_event.specs.Numbering.{entry_at}
use Rattle.syn_event.specs.RuleSharedVariable.{shared_variable}
use Rattle.normal_model.specs.Calls.{Slot, slots_of}
use Rattle.normal_model.specs.Ranges.{marked, subtype_of_range, range_of_info, family_range}
use Rattle.normal_laws.specs.runs.forms.Normalisable.{numbers_of, setting_for}
use Rattle.task_laws.specs.legal.types.Typed.{HasLimits}
use Rattle.normal_laws.proofs.existence.variable_types.Numbers.{range-is}
use Rattle.normal_laws.proofs.existence.variable_types.Subtypes.{own_rule, entry-known, array-own}
use Rattle.normal_laws.specs.existence.Laws.{IsLegalOriginal}
use Rattle.normal_laws.proofs.structure.placed.Added.{AreSubtypes}
use Rattle.common_lemmas.proofs.Options.{not_missing}
use Rattle.common_lemmas.proofs.Truth.{and_both}
use Rattle.task_model.specs.Setting.{formals_of_info}
use Rattle.normal_laws.proofs.legality.checks.Declared.{AreFree}
use Rattle.normal_laws.proofs.legality.checks.Facts as facts

-- ---- static expressions

-- where names with values are no shared variables, there is none in a static expression
pub static-free : (names : List (List ℕ)) (d : CheckScope) (T : TypeTable) → ((id : NameId) (s : Span) → is_some (value_named T id) ≡ true → shared_variable d (uses id s) ≡ []) → (e : PExpr) → is_static T e ≡ true → AreFree names d e
static-free names d T free (EInteger n s) h = tt
static-free names d T free (EName id s) h = free id s h
static-free names d T free (EIndex w e s) h = absurd (true≢false (sym h))
static-free names d T free (EAttribute m w s) h = tt
static-free names d T free (EAttributeOf m w e s) h = static-free names d T free e (and_both (keeps_static (attribute_of w.name) && is_some (mark_named T m.name)) (is_static T e) h).1
static-free names d T free (EParen e s) h = static-free names d T free e h
static-free names d T free (EUnary op e s) h = static-free names d T free e h
static-free names d T free (EBinary op x y s) h =
    let both = and_both (is_static T x) (is_static T y) h in
    (static-free names d T free x both.0, static-free names d T free y both.1)

module _ (T : TypeTable) where
  abbrev pub BoundsStatic : PBounds → Type 0
  BoundsStatic b = (is_static T b.first ≡ true) × (is_static T b.last ≡ true)

  abbrev pub IsStaticSubtype : PSubind → Type 0
  IsStaticSubtype x = IfSome x.bounds BoundsStatic

  fixed-static : (e : PExpr) (z : ℤ) → fixed T e ≡ Some z → is_static T e ≡ true
  fixed-static e z h = by_test (is_static T e) (value_of T e) h
    where
      by_test : (b : Bool) (r : Result ℤ Span) → (if b then unraised_value r else None) ≡ Some z → b ≡ true
      by_test true r f = refl
      by_test false r f = absurd (not_missing z f)

  bounds-static : (b : PBounds) (x : Extent) → bounds_extent T b ≡ Some x → BoundsStatic b
  bounds-static b x h = go (fixed T b.first) (fixed T b.last) refl refl h
    where
      go : (o q : Option ℤ) → fixed T b.first ≡ o → fixed T b.last ≡ q → between o q ≡ Some x → BoundsStatic b
      go (Some y) (Some z) f k e = (fixed-static b.first y f, fixed-static b.last z k)
      go None q f k e = absurd (not_missing x e)
      go (Some y) None f k e = absurd (not_missing x e)

  range-static : (s : Span) (o : Option PDrange) → IfSome o (HasLimits T) → IsStaticSubtype (subtype_of_range T s o)
  range-static s None h = tt
  range-static s (Some (RGiven b)) h = bounds-static b _ h.told
  range-static s (Some (RMarked x)) h = go x.bounds h.told
    where
      go : (o : Option PBounds) {e : Extent} → marked_extent T x.mark.name o ≡ Some e → IfSome o BoundsStatic
      go None f = tt
      go (Some b) f = bounds-static b _ f

  marks-static : (xs : List Slot) → AllByRecursion (λ (x : Slot). IsStaticSubtype (marked x.mark)) xs
  marks-static [] = tt
  marks-static (x ∷ xs) = (tt, marks-static xs)

-- ---- a legal program

module _ (p : PProgram) (h : IsLegalOriginal p) where
  family-limits : (e : ℕ) → IfSome (family_range (setting_for p) e) (HasLimits (facts.T p h))
  family-limits e = go (entry_at (numbers_of p) e) refl
    where
      go : (o : Option EntryInfo) → entry_at (numbers_of p) e ≡ o → IfSome (range_of_info (setting_for p) o) (HasLimits (facts.T p h))
      go None f = tt
      go (Some info) f = let k = entry-known p (facts.ready p h) e info f in subst (λ o. IfSome o (HasLimits (facts.T p h))) (sym (range-is p (own_rule p) info k)) k.has.typed.family

  -- The subtypes of added variables have static bounds.
  pub subtypes-static : AreSubtypes (setting_for p) (IsStaticSubtype (facts.T p h))
  subtypes-static = record {
    integers = λ s. tt;
    truths = λ s. tt;
    arrays = λ s id. range-static (facts.T p h) s _ (array-own p (facts.ready p h) id).0;
    families = λ s e. range-static (facts.T p h) s (family_range (setting_for p) e) (family-limits e);
    formals = λ e. marks-static (facts.T p h) (slots_of (formals_of_info (setting_for p) (entry_at (numbers_of p) e)));
  }

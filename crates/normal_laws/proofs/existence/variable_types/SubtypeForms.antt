-- The subtypes of variables by the table of types of the normal form.
use Rattle.std.proofs.Common.{◌≡◌, ◌<◌, ℕ, zero, suc, Bool, true, false, not, ◌||◌, ◌&&◌, ◌==◌, nat_eq, List, [], ◌∷◌, length, take, is_some, slice_get, unwrap_or, codes, Option, Some, None, refl, sym, ap, ap₂, ◌∙◌, subst, true≢false, eqb-true, arith}
use Rattle.std.specs.List.{AllByRecursion, starts_with}
use Rattle.std.proofs.lemmas.Option.{none-some, slice_get_within}
use Rattle.std.proofs.lemmas.List.Elements.{recursion_from_All}
use Rattle.ada_tree.specs.declared.naming.NameId.{NameId}
use Rattle.ada_tree.specs.declared.naming.Span.{Span}
use Rattle.ada_tree.specs.declared.naming.Word.{Word}
use Rattle.ada_tree.specs.declared.static_types.Kind.TheVariants.{Integer, Truth}
use Rattle.ada_tree.specs.declared.static_types.Mark.{Mark}
use Rattle.ada_tree.specs.TypeTable.{TypeTable}
use Rattle.ada_tree.specs.NameList.{predefined, AreNames}
use Rattle.ada_tree.specs.PlainExpr.{PSubind, PDrange, RGiven, RMarked}
use Rattle.ada_tree.specs.PlainDecl.{OPlain, PDecl, DNumber, DObject, DEnumeration, DArray, DSubtype, DException, DIntIo, DPragma, DTask, DTaskBody, PDecls, no_decl, decl_then}
use Rattle.ada_tree.specs.PlainProgram.{PProgram}
use Rattle.ada_tree.specs.Every.{EverySubind, EveryDrange, EveryDecl, EveryDecls, EveryProgram}
use Rattle.ada_static_rules.specs.Scope.{Scope, Thing, meaning, integer_kind, truth_kind, and_then}
use Rattle.ada_static_rules.specs.StaticValue.{is_named, mark_named}
use Rattle.ada_static_rules.specs.RuleDuplicate.{is_predefined, is_among}
use Rattle.ada_static_rules.specs.Declaring.{predefined_types, first_scope, with_name, with_names, after_decl, after_decls}
use Rattle.ada_static_rules.specs.Refusals.{types_in}
use Rattle.syn_event.specs.Numbering.{Numbering}
use Rattle.ada_value.specs.declared.values.Limits.{Limits}
use Rattle.ada_value.specs.Values.{limits_named, limits_or, integer_limits, truth_limits}
use Rattle.task_model.specs.Starting.{known_range, form_of}
use Rattle.normal_model.specs.Ranges.{word_at, marked, integer_subtype, truth_subtype, kind_of_range, kind_name, range_subtype}
use Rattle.normal_model.specs.NormalTree.{normal_tree}
use Rattle.task_laws.specs.legal.rewritten_types.Agreement.{scalar_only, IsScalar, Grows}
use Rattle.task_laws.specs.legal.rewritten_types.Laws.{behind}
use Rattle.task_laws.specs.legal.rewritten_types.Rewriting.{valued}
use Rattle.task_laws.proofs.legal.rewritten_types.Lookups.{find-grown, place-all}
use Rattle.task_laws.proofs.legal.rewritten_types.Refused.{declared_once}
use Rattle.task_laws.proofs.legal.rewritten_types.Fresh.{InHere, first-here, here-decl, meaning-used}
use Rattle.task_laws.proofs.legal.rewritten_types.Unmarked.{unvalued_has_no_mark}
use Rattle.task_laws.proofs.legal.rewritten_types.NamedKinds.{kinds_are_named}
use Rattle.task_laws.specs.legal.rewritten_values.Values.{is_known, old_names}
use Rattle.task_laws.proofs.legal.rewritten_values.Objects.{form-alike, marked_has_form}
use Rattle.normal_laws.specs.structure.types.Own.{own_name}
use Rattle.normal_laws.specs.structure.types.Laws.{IsOrdered, HasType}
use Rattle.normal_laws.proofs.structure.types.Normal.{normal_agrees}
use Rattle.normal_laws.proofs.structure.types.RangeForms.{range_forms}
use Rattle.task_laws.specs.legal.types.Typed.{HasLimits, HasTypeName, IsScalarName}
use Rattle.task_laws.proofs.legal.types.MainScopes.{grows-decls}
use Rattle.common_lemmas.proofs.Lists.{element_at}
use Rattle.common_lemmas.proofs.Numbers.{lt_is, lt_true}

-- a scalar subtype of a variable
pub record HasForm (U : TypeTable) (x : PSubind) (limits : Limits) : Type 0 where
  pub form : form_of U (OPlain x) ≡ Some record { limits = limits; index = None }

known-of : (T : TypeTable) (k : ℕ) → IsScalar T k → is_known T k ≡ true
known-of T k h = ap is_some h.1

-- ---- predefined marks, in the table of every program

module _ (q : PProgram) where
  abbrev U : TypeTable
  U = types_in q

  pub begins : Grows predefined_types U
  begins = grows-decls q.decls (first_scope q.name)

  pub predefined-mark : (id : NameId) (m : Mark) → mark_named predefined_types id ≡ Some m → mark_named U id ≡ Some m
  predefined-mark id m e = find-grown (λ x. is_named id x.name) predefined_types.marks U.marks begins.mark m e

  pub truth-form : (s : Span) → HasForm U (truth_subtype s) truth_limits
  truth-form s =
      let m = predefined-mark (record { 0 = 3 }) _ refl in
      let f = marked_has_form U (word_at s (record { 0 = 3 })) _ m (ap (λ o. is_some (scalar_only o)) (begins.kind truth_kind Truth refl)) in
      record { form = f ∙ ap (λ o. Some record { limits = limits_or o; index = None }) m }

  pub integer-form : (s : Span) → HasForm U (integer_subtype s) integer_limits
  integer-form s =
      let m = predefined-mark (record { 0 = 0 }) _ refl in
      let f = marked_has_form U (word_at s (record { 0 = 0 })) _ m (ap (λ o. is_some (scalar_only o)) (begins.kind integer_kind Integer refl)) in
      record { form = f ∙ ap (λ o. Some record { limits = limits_or o; index = None }) m }

-- ---- names that are the program's own

taken-at : {A : Type 0} (n : ℕ) (xs : List A) (k : ℕ) (y : A) → slice_get (take n xs) k ≡ Some y → slice_get xs k ≡ Some y
taken-at zero xs k y g = absurd (none-some y g)
taken-at (suc n) [] k y g = absurd (none-some y g)
taken-at (suc n) (x ∷ xs) zero y g = g
taken-at (suc n) (x ∷ xs) (suc k) y g = taken-at n xs k y g

-- no predefined name begins with DED_
all-plain : AllByRecursion (λ t. starts_with nat_eq t (codes "DED_") ≡ false) predefined
all-plain = (
  refl,
  (refl, (refl, (refl, (refl, (refl, (refl, (refl, (refl, (refl, (refl, (refl, (refl, (refl, (refl, (refl, (refl, (refl, (refl, (refl, (refl, (refl, (refl, (refl, (refl, tt)))))))))))))))))))))))),
)

module _ (p : PProgram) (names : AreNames p.names) where
  -- a predefined name is the program's own
  pub predefined-own : (n : ℕ) → n < 18 → own_name p n ≡ true
  predefined-own n l =
      let t = element_at predefined n (omega (arith, l)) in
      let at : slice_get p.names n ≡ Some t.0 = taken-at (length predefined) p.names n t.0 (ap (λ x. slice_get x n) names.begins ∙ t.1) in
      ap₂ (λ a b. a && not (starts_with nat_eq b (codes "DED_"))) (lt_true n (length p.names) (slice_get_within p.names n t.0 at)) (ap (λ o. unwrap_or o []) at)
      ∙ ap not (place-all (λ x. starts_with nat_eq x (codes "DED_") ≡ false) predefined n t.0 all-plain t.1)

  abbrev own : ℕ → Bool
  own = own_name p

  abbrev AreOwnHere : Scope → Type 0
  AreOwnHere s = AllByRecursion (λ n. own n ≡ true) s.here

  names-here : (thing : Thing) (ws : List Word) (s : Scope) → AllByRecursion (λ (w : Word). own w.name.0 ≡ true) ws → AreOwnHere s → AreOwnHere (with_names thing s ws)
  names-here thing [] s h k = k
  names-here thing (w ∷ ws) s h k = names-here thing ws (with_name thing s w) h.1 (h.0, k)

  decl-here : (d : PDecl) (s : Scope) → EveryDecl (old_names own) d → AreOwnHere s → AreOwnHere (after_decl s d)
  decl-here (DNumber name e sp) s h k = (h.1, k)
  decl-here (DObject ws constant shape init sp) s h k = names-here _ ws _ (recursion_from_All _ ws h.1.1) k
  decl-here (DEnumeration name ws sp) s h k = names-here _ ws _ (recursion_from_All _ ws h.2.1) (h.1, k)
  decl-here (DArray name index x sp) s h k = (h.1, k)
  decl-here (DSubtype name x sp) s h k = (h.1, k)
  decl-here (DException ws sp) s h k = names-here _ ws s (recursion_from_All _ ws h.1.1) k
  decl-here (DIntIo name sp) s h k = (h.1, k)
  decl-here (DPragma e sp) s h k = k
  decl-here (DTask t sp) s h k = (h.1.0, k)
  decl-here (DTaskBody w objects its sp) s h k = k

  decls-here : (ds : PDecls) (s : Scope) → EveryDecls (old_names own) ds → AreOwnHere s → AreOwnHere (after_decls s ds)
  decls-here no_decl s h k = k
  decls-here (decl_then d rest) s h k = decls-here rest (after_decl s d) h.1 (decl-here d s h.0 k)

  in-here : (ds : PDecls) (s : Scope) → InHere s → InHere (after_decls s ds)
  in-here no_decl s h = h
  in-here (decl_then d rest) s h = in-here rest (after_decl s d) (here-decl d s h)

  among-own : (ns : List ℕ) (n : ℕ) → AllByRecursion (λ m. own m ≡ true) ns → is_among ns n ≡ true → own n ≡ true
  among-own [] n h e = absurd (true≢false (sym e))
  among-own (m ∷ ns) n h e = by_test (m == n) refl e (among-own ns n h.1)
    where
      by_test : (b : Bool) → (m == n) ≡ b → (b || is_among ns n) ≡ true → (is_among ns n ≡ true → own n ≡ true) → own n ≡ true
      by_test true f g rest = ap own (sym (eqb-true m n f)) ∙ h.0
      by_test false f g rest = rest g

  used-own : (s : Scope) (n : ℕ) → AreOwnHere s → (is_predefined n || is_among s.here n) ≡ true → own n ≡ true
  used-own s n h e = by_test (is_predefined n) refl e
    where
      by_test : (b : Bool) → is_predefined n ≡ b → (b || is_among s.here n) ≡ true → own n ≡ true
      by_test true f g = predefined-own n (lt_is n 18 f)
      by_test false f g = among-own s.here n h g

  module _ (ordered : IsOrdered p) (every : EveryProgram (old_names own) p) where
    abbrev T : TypeTable
    T = types_in p

    abbrev last : Scope
    last = behind p.name p.decls

    -- a name that means something behind all declarations is the program's own
    pub meant-own : (id : NameId) (x : Thing) → meaning last id ≡ Some x → own id.0 ≡ true
    meant-own id x f = used-own last id.0 (decls-here p.decls (first_scope p.name) every.2 (every.0, tt)) (meaning-used last id x (in-here p.decls (first_scope p.name) (first-here p.name)) f)

    -- a name that means nothing names no type
    type-own : (id : NameId) (m : Mark) → mark_named T id ≡ Some m → own id.0 ≡ true
    type-own id m e = by_meaning (meaning last id) refl
      where
        by_meaning : (o : Option Thing) → meaning last id ≡ o → own id.0 ≡ true
        by_meaning (Some x) f = meant-own id x f
        by_meaning None f = absurd (none-some m (sym (unvalued_has_no_mark p.name p.decls (declared_once p ordered.rules) id (ap valued f)) ∙ e))

    kind-own : (k : ℕ) → IsScalar T k → own (kind_name T k).0 ≡ true
    kind-own k h =
        let named = kinds_are_named p.name p.decls (declared_once p ordered.rules) k h in
        let same : kind_name T k ≡ named.id = ap (λ o. unwrap_or (and_then (λ (y : Mark). y.name) o) (record { 0 = 0 })) named.first ∙ ap (λ o. unwrap_or o (record { 0 = 0 })) named.name in
        ap (λ (i : NameId). own i.0) same ∙ type-own named.id named.mark named.found

    module _ (types : TypeTable) (numbers : Numbering) where
      abbrev V : TypeTable
      V = types_in (normal_tree p types numbers)

      -- a variable of a formal's mark
      pub mark-form : (w : Word) → own w.name.0 ≡ true → IsScalarName T w.name → HasForm V (marked w) (limits_named T w.name)
      mark-form w o h = record {
        form = sym (form-alike own T V (normal_agrees p types numbers ordered) (OPlain (marked w)) (o, tt)) ∙ marked_has_form T w h.mark h.named (known-of T h.mark.kind h.scalar);
      }

      type-of : (r : PDrange) → HasTypeName T r → HasType T r
      type-of (RGiven b) h = tt
      type-of (RMarked x) h = (h.mark, h.named)

      range-own : (s : Span) (r : PDrange) → (h : HasLimits T r) → EveryDrange (old_names own) 2 r → EverySubind (old_names own) 2 (range_subtype T s r)
      range-own s (RGiven b) h o = (kind-own (kind_of_range T (RGiven b)) (subst (λ q. IsScalar T (known_range q).kind) (sym h.range) h.scalar), o)
      range-own s (RMarked x) h o = o

      -- a variable of a static range
      pub range-form : (s : Span) (r : PDrange) → EveryDrange (old_names own) 2 r → (h : HasLimits T r) → HasForm V (range_subtype T s r) h.limits
      range-form s r o h = record { form = range_forms p types numbers ordered s r h.limits (range-own s r h o) (type-of r h.name) h.range (known-of T h.limits.kind h.scalar) }

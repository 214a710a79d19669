-- A variable for the values of a range has the range's bounds.
use Rattle.std.proofs.Common.{◌≡◌, ℕ, ◌==◌, true, [], unwrap_or, Option, Some, None, Result, Ok, Err, is_ok, sym, ap, ◌∙◌, true≢false}
use Rattle.std.proofs.lemmas.Bool.{eqb-true}
use Rattle.ada_tree.specs.declared.naming.Span.{Span}
use Rattle.ada_tree.specs.declared.static_types.Mark.{Mark}
use Rattle.ada_tree.specs.TypeTable.{TypeTable}
use Rattle.ada_tree.specs.PlainExpr.{PBounds, PSubind, RGiven, RMarked}
use Rattle.ada_tree.specs.PlainDecl.{OPlain}
use Rattle.ada_static_rules.specs.Refusals.{types_in}
use Rattle.ada_static_rules.specs.Scope.{kind_at, and_then}
use Rattle.ada_static_rules.specs.StaticValue.{mark_named}
use Rattle.ada_value.specs.declared.values.Raised.{Raised}
use Rattle.ada_value.specs.declared.values.Limits.{Limits}
use Rattle.ada_value.specs.Values as values
use Rattle.ada_value.specs.Values.{limits_of, limits_or, limits_named}
use Rattle.ada_value.specs.Evaluating.{bounds_of, narrowed}
use Rattle.task_model.specs.Starting.{known_range, marked_form, plain_form, form_of}
use Rattle.normal_model.specs.Ranges.{word_at, kind_name, range_subtype}
use Rattle.task_laws.specs.legal.rewritten_types.Agreement.{IsScalar, scalar_only}
use Rattle.task_laws.specs.legal.rewritten_types.Laws.{IsNamedKind}
use Rattle.task_laws.proofs.legal.rewritten_types.Refused.{declared_once}
use Rattle.task_laws.proofs.legal.rewritten_types.NamedKinds.{kinds_are_named}
use Rattle.task_laws.specs.legal.rewritten_values.Values.{is_known}
use Rattle.task_laws.proofs.legal.rewritten_values.Saying.{known-scalar}
use Rattle.task_laws.proofs.legal.rewritten_values.Objects.{form-alike, no-index}
use Rattle.normal_laws.specs.structure.types.Own.{own_name}
use Rattle.normal_laws.specs.structure.types.Laws.{RangeForms}
use Rattle.normal_laws.proofs.structure.types.Normal.{normal_agrees}
use Rattle.common_lemmas.proofs.Lists.{found_passes}

-- ---- limits

ok-same : (r s : Result Limits Raised) → r ≡ s → known_range r ≡ known_range s
ok-same r s e = ap known_range e

-- the range of a mark with bounds, where they come to some
with-bounds : (kind : ℕ) (r : Result Limits Raised) (limits : Limits) →
    values.and_then r (λ x. Ok record { kind = kind; first = x.first; last = x.last }) ≡ Ok limits → kind ≡ limits.kind
with-bounds kind (Ok x) limits e = ap (λ (l : Limits). l.kind) (ok-same (Ok record { kind = kind; first = x.first; last = x.last }) (Ok limits) e)
with-bounds kind (Err x) limits e = absurd (true≢false (sym (ap is_ok e)))

narrowed-kind : (T : TypeTable) (l : Limits) (b : Option PBounds) (limits : Limits) → narrowed T [] l b ≡ Ok limits → l.kind ≡ limits.kind
narrowed-kind T l None limits e = ap (λ (x : Limits). x.kind) (ok-same (Ok l) (Ok limits) e)
narrowed-kind T l (Some b) limits e = with-bounds l.kind (bounds_of T [] b) limits e

-- ---- forms

-- an object of a scalar mark
scalar-form : (T : TypeTable) (x : PSubind) (m : Mark) (limits : Limits) → mark_named T x.mark.name ≡ Some m → is_known T m.kind ≡ true → narrowed T [] (limits_of m) x.bounds ≡ Ok limits →
    form_of T (OPlain x) ≡ Some record { limits = limits; index = None }
scalar-form T x m limits e known n =
    ap (plain_form T x) e
    ∙ ap (λ o. Some (marked_form T x m o)) (no-index T m (kind_at T m.kind) known)
    ∙ ap (λ r. Some record { limits = known_range r; index = None }) n

-- the name of a kind
named-kind : (T : TypeTable) (k : ℕ) (h : IsNamedKind T k) → kind_name T k ≡ h.id
named-kind T k h = ap (λ o. unwrap_or (and_then (λ (m : Mark). m.name) o) (record { 0 = 0 })) h.first ∙ ap (λ o. unwrap_or o (record { 0 = 0 })) h.name

given-form : (T : TypeTable) (s : Span) (b : PBounds) (limits : Limits) → ((k : ℕ) → IsScalar T k → IsNamedKind T k) → bounds_of T [] b ≡ Ok limits → is_known T limits.kind ≡ true →
    form_of T (OPlain (range_subtype T s (RGiven b))) ≡ Some record { limits = limits; index = None }
given-form T s b limits names e known =
    let h = names limits.kind (known-scalar (scalar_only (kind_at T limits.kind)) known) in
    let same : h.mark.kind ≡ limits.kind = eqb-true h.mark.kind limits.kind (found_passes (λ (m : Mark). m.kind == limits.kind) T.marks h.mark h.first) in
    ap (λ r. form_of T (OPlain record { mark = word_at s (kind_name T (known_range r).kind); bounds = Some b })) e
    ∙ ap (λ id. form_of T (OPlain record { mark = word_at s id; bounds = Some b })) (named-kind T limits.kind h)
    ∙ scalar-form T (record { mark = word_at s h.id; bounds = Some b }) h.mark limits h.found (ap (is_known T) same ∙ known)
    (ap (λ r. values.and_then r (λ x. Ok record { kind = h.mark.kind; first = x.first; last = x.last })) e ∙ ap (λ k. Ok record { kind = k; first = limits.first; last = limits.last }) same)

marked-form : (T : TypeTable) (x : PSubind) (m : Mark) (limits : Limits) → mark_named T x.mark.name ≡ Some m → narrowed T [] (limits_named T x.mark.name) x.bounds ≡ Ok limits → is_known T limits.kind ≡ true →
    form_of T (OPlain x) ≡ Some record { limits = limits; index = None }
marked-form T x m limits e n known =
    let f : narrowed T [] (limits_of m) x.bounds ≡ Ok limits = ap (λ o. narrowed T [] (limits_or o) x.bounds) (sym e) ∙ n in
    scalar-form T x m limits e (ap (is_known T) (narrowed-kind T (limits_of m) x.bounds limits f) ∙ known) f

pub range_forms : RangeForms
range_forms p types numbers ordered s (RGiven b) limits own has e known =
    sym (form-alike (own_name p) (types_in p) _ (normal_agrees p types numbers ordered) (OPlain (range_subtype (types_in p) s (RGiven b))) own)
    ∙ given-form (types_in p) s b limits (kinds_are_named p.name p.decls (declared_once p ordered.rules)) e known
range_forms p types numbers ordered s (RMarked x) limits own has e known =
    sym (form-alike (own_name p) (types_in p) _ (normal_agrees p types numbers ordered) (OPlain x) own)
    ∙ marked-form (types_in p) x has.0 limits has.1 e known

-- Formals that are compared one by one are the same.
use Rattle.std.proofs.Common.{◌≡◌, ◌==◌, ◌&&◌, ◌++◌, ◌+◌, ◌<◌, ℕ, zero, suc, Bool, true, false, List, [], ◌∷◌, map, drop, get_or, length, refl, sym, ap, ◌∙◌, arith, true≢false}
use Rattle.std.proofs.lemmas.Bool.{eqb-true, eq-eqb}
use Rattle.std.proofs.lemmas.Bool.Decides.{Decides-int_eq}
use Rattle.std.specs.Prelude.{◌↔◌, IsTrue}
use Rattle.std.specs.Ordering.{int_eq}
use Rattle.ada_tree.specs.declared.naming.Word.{Word}
use Rattle.ada_tree.specs.declared.statements.Formal.{Formal}
use Rattle.ada_tree.specs.declared.statements.ParMode.{ParMode}
use Rattle.ada_tree.specs.declared.statements.ParMode.TheVariants.{Take, Give, Both}
use Rattle.ada_static_rules.specs.RuleArgCount.{same_mode}
use Rattle.ada_tree.specs.TypeTable.{TypeTable}
use Rattle.ada_tree.specs.PlainStmt.{plain_formal}
use Rattle.ada_value.specs.declared.values.Limits.{Limits}
use Rattle.ada_value.specs.Values.{limits_named}
use Rattle.task_links.specs.inner.Made.{parameter_named}
use Rattle.task_model.specs.declared.parameters.FormalParameter.{FormalParameter}
use Rattle.task_model.specs.Setting.{parameters_of}
use Rattle.task_local.specs.rendezvous.inner.Conforming.{are_same, is_alike, same_limits}
use Rattle.common_lemmas.proofs.Lists.{rest_at, short_empty}
use Rattle.common_lemmas.proofs.Truth.{and_both, both_true}

-- ---- what a comparison says

mode_is : (m n : ParMode) → same_mode m n ≡ true → m ≡ n
mode_is Take Take is = refl
mode_is Take Give is = absurd (true≢false (sym is))
mode_is Take Both is = absurd (true≢false (sym is))
mode_is Give Take is = absurd (true≢false (sym is))
mode_is Give Give is = refl
mode_is Give Both is = absurd (true≢false (sym is))
mode_is Both Take is = absurd (true≢false (sym is))
mode_is Both Give is = absurd (true≢false (sym is))
mode_is Both Both is = refl

mode_alike : (m : ParMode) → same_mode m m ≡ true
mode_alike Take = refl
mode_alike Give = refl
mode_alike Both = refl

limits_are : (a b : Limits) → same_limits a b ≡ true → a ≡ b
limits_are a b is =
    let kinds = and_both (a.kind == b.kind) (int_eq a.first b.first && int_eq a.last b.last) is in
    let bounds = and_both (int_eq a.first b.first) (int_eq a.last b.last) kinds.1 in
    let kind : a.kind ≡ b.kind = eqb-true a.kind b.kind kinds.0 in
    let first : a.first ≡ b.first = (Decides-int_eq a.first b.first).0 bounds.0 in
    let last : a.last ≡ b.last = (Decides-int_eq a.last b.last).0 bounds.1 in
    λ k. record { kind = kind k; first = first k; last = last k }

limits_alike : (a : Limits) → same_limits a a ≡ true
limits_alike a =
    both_true (a.kind == a.kind) (int_eq a.first a.first && int_eq a.last a.last) (eq-eqb a.kind a.kind refl)
    (both_true (int_eq a.first a.first) (int_eq a.last a.last) ((Decides-int_eq a.first a.first).1 refl) ((Decides-int_eq a.last a.last).1 refl))

alike_are : (p q : FormalParameter) → is_alike p q ≡ true → p ≡ q
alike_are p q is =
    let names = and_both (p.name.0 == q.name.0) (same_mode p.mode q.mode && same_limits p.limits q.limits) is in
    let modes = and_both (same_mode p.mode q.mode) (same_limits p.limits q.limits) names.1 in
    let name : p.name.0 ≡ q.name.0 = eqb-true p.name.0 q.name.0 names.0 in
    let mode : p.mode ≡ q.mode = mode_is p.mode q.mode modes.0 in
    let limits : p.limits ≡ q.limits = limits_are p.limits q.limits modes.1 in
    λ k. record { name = record { 0 = name k }; mode = mode k; limits = limits k }

alike_self : (p : FormalParameter) → is_alike p p ≡ true
alike_self p =
    both_true (p.name.0 == p.name.0) (same_mode p.mode p.mode && same_limits p.limits p.limits) (eq-eqb p.name.0 p.name.0 refl)
    (both_true (same_mode p.mode p.mode) (same_limits p.limits p.limits) (mode_alike p.mode) (limits_alike p.limits))

same_are : (ps qs : List FormalParameter) → are_same ps qs ≡ true → ps ≡ qs
same_are [] [] is = refl
same_are [] (q ∷ qs) is = absurd (true≢false (sym is))
same_are (p ∷ ps) [] is = absurd (true≢false (sym is))
same_are (p ∷ ps) (q ∷ qs) is =
    let parts = and_both (is_alike p q) (are_same ps qs) is in
    let first : p ≡ q = alike_are p q parts.0 in
    let rest : ps ≡ qs = same_are ps qs parts.1 in
    λ k. first k ∷ rest k

same_self : (ps : List FormalParameter) → are_same ps ps ≡ true
same_self [] = refl
same_self (p ∷ ps) = both_true (is_alike p p) (are_same ps ps) (alike_self p) (same_self ps)

-- the comparison is true exactly where the lists are one
pub same_means : (b : Bool) (ps qs : List FormalParameter) → b ≡ are_same ps qs → IsTrue b ↔ (ps ≡ qs)
same_means b ps qs is = (λ holds. same_are ps qs (sym is ∙ holds), λ e. is ∙ ap (are_same ps) (sym e) ∙ same_self ps)

-- ---- formals one by one

-- a formal of an accept is left where none of its entry is
left_over : (mode : ParMode) (limits : Limits) (names : List Word) (i : ℕ) (behind : List FormalParameter) → i < length names →
    are_same (map (parameter_named mode limits) (drop i names) ++ behind) [] ≡ false
left_over mode limits [] i behind h = absurd (omega arith)
left_over mode limits (w ∷ ws) zero behind h = refl
left_over mode limits (w ∷ ws) (suc i) behind h = left_over mode limits ws i behind (omega arith)

pub none_left : (mode : ParMode) (limits : Limits) (names : List Word) (i : ℕ) (behind rest : List FormalParameter) (all : Bool) → i < length names → length rest < 1 →
    are_same (map (parameter_named mode limits) (drop i names) ++ behind) rest ≡ all → all ≡ false
none_left mode limits names i behind rest all h g before =
    sym before ∙ ap (are_same (map (parameter_named mode limits) (drop i names) ++ behind)) (short_empty rest g) ∙ left_over mode limits names i behind h

-- an accept whose next formals are not those that are left differs from its entry
pub differs_here : (types : TypeTable) (formals : List Formal) (i : ℕ) (f : Formal) (words : List Word) (limits : Limits) (rest : List FormalParameter) (all : Bool) → i < length formals → f ≡ get_or formals i f →
    words ≡ f.names.items → limits ≡ limits_named types f.mark.name → ((behind : List FormalParameter) → are_same (map (parameter_named f.mode limits) words ++ behind) rest ≡ false) →
    are_same (parameters_of types (map plain_formal (drop i formals))) rest ≡ all → false ≡ all
differs_here types formals i f words limits rest all h is words_are limits_are differs before =
    let behind : List FormalParameter = parameters_of types (map plain_formal (drop (i + 1) formals)) in
    sym (differs behind)
    ∙ (λ k. are_same (map (parameter_named f.mode (limits_are k)) (words_are k) ++ behind) rest)
    ∙ ap (λ l. are_same (parameters_of types (map plain_formal l)) rest) (sym (rest_at formals i f f h is))
    ∙ before

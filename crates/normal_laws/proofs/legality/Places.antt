-- A program meets the first twelve rules just where its places meet them.
use Rattle.std.proofs.Common.{◌≡◌, ℕ, List, [], ◌∷◌, ◌++◌, refl, ap, ◌∙◌}
use Rattle.std.specs.List.{AllByRecursion}
use Rattle.ada_tree.specs.declared.naming.Span.{Span}
use Rattle.ada_static_rules.specs.Demand.{Site}
use Rattle.ada_static_rules.specs.RuleDuplicate.{duplicate}
use Rattle.ada_static_rules.specs.Refusals.{Refusal, by_rule, refused_at, refused_from}
use Rattle.ada_static_rules.specs.Sites.{sites}
use Rattle.common_lemmas.proofs.Lists.{back_empty, front_empty}
use Rattle.task_laws.specs.legal.alike_scopes.Laws.{IsMetBut}
use Rattle.normal_laws.specs.structure.once.Once.{AllOnce}
use Rattle.normal_laws.specs.legality.Laws.{MeetsByPlaces, PlacesMeet}
use Rattle.ada_static_rules.proofs.found_twice.Spans.{no_spans}

-- ---- from places

-- what a rule that refuses nothing adds
none-by : (n : ℕ) (spans : List Span) (rest : List Refusal) → spans ≡ [] → rest ≡ [] → by_rule n spans ++ rest ≡ []
none-by n spans rest e f = ap (λ (l : List Span). by_rule n l ++ rest) e ∙ f

module _ (before : List Site) (s : Site) (h : IsMetBut s) (once : duplicate before s.scope s.demand ≡ []) where
  none-refused : refused_at before s ≡ []
  none-refused =
      joined (joined (joined (joined (joined (joined (joined (joined (joined (joined (joined
      (ap (by_rule 1) h.known) (ap (by_rule 2) once)) (ap (by_rule 3) h.matched)) (ap (by_rule 4) h.static)) (ap (by_rule 5) h.ranged)) (ap (by_rule 6) h.variable))
      (ap (by_rule 7) h.readable)) (ap (by_rule 8) h.counted)) (ap (by_rule 9) h.chosen)) (ap (by_rule 10) h.arrays)) (ap (by_rule 11) h.texts)) (ap (by_rule 12) h.exceptions)
    where
      joined : {xs ys : List Refusal} → xs ≡ [] → ys ≡ [] → xs ++ ys ≡ []
      joined {xs} {ys} e f = ap (λ (l : List Refusal). l ++ ys) e ∙ f

none-anywhere : (before xs : List Site) → AllByRecursion IsMetBut xs → AllOnce before xs → refused_from before xs ≡ []
none-anywhere before [] h o = refl
none-anywhere before (x ∷ xs) h o = ap (λ (l : List Refusal). l ++ refused_from (x ∷ before) xs) (none-refused before x h.0 o.0) ∙ none-anywhere (x ∷ before) xs h.1 o.1

pub meets_by_places : MeetsByPlaces
meets_by_places p h o = none-anywhere [] (sites p) h o

-- ---- to places

at-place : (before : List Site) (s : Site) → refused_at before s ≡ [] → IsMetBut s × (duplicate before s.scope s.demand ≡ [])
at-place before s e12 =
    let e11 = front_empty _ _ e12 in
    let e10 = front_empty _ _ e11 in
    let e9 = front_empty _ _ e10 in
    let e8 = front_empty _ _ e9 in
    let e7 = front_empty _ _ e8 in
    let e6 = front_empty _ _ e7 in
    let e5 = front_empty _ _ e6 in
    let e4 = front_empty _ _ e5 in
    let e3 = front_empty _ _ e4 in
    let e2 = front_empty _ _ e3 in (
      record {
        known = no_spans 1 _ (front_empty _ _ e2);
        matched = no_spans 3 _ (back_empty _ _ e3);
        static = no_spans 4 _ (back_empty _ _ e4);
        ranged = no_spans 5 _ (back_empty _ _ e5);
        variable = no_spans 6 _ (back_empty _ _ e6);
        readable = no_spans 7 _ (back_empty _ _ e7);
        counted = no_spans 8 _ (back_empty _ _ e8);
        chosen = no_spans 9 _ (back_empty _ _ e9);
        arrays = no_spans 10 _ (back_empty _ _ e10);
        texts = no_spans 11 _ (back_empty _ _ e11);
        exceptions = no_spans 12 _ (back_empty _ _ e12);
      },
      no_spans 2 _ (back_empty _ _ e2),
    )

at-all : (before xs : List Site) → refused_from before xs ≡ [] → AllByRecursion IsMetBut xs × AllOnce before xs
at-all before [] e = (tt, tt)
at-all before (x ∷ xs) e =
    let here = at-place before x (front_empty (refused_at before x) (refused_from (x ∷ before) xs) e) in
    let rest = at-all (x ∷ before) xs (back_empty (refused_at before x) (refused_from (x ∷ before) xs) e) in
    ((here.0, rest.0), (here.1, rest.1))

pub places_meet : PlacesMeet
places_meet p e = at-all [] (sites p) e

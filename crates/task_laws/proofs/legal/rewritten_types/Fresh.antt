-- A name that main has not declared and that is no predefined one means nothing; and a declaration of other names takes nothing from a name.
use Rattle.std.proofs.Common.{◌≡◌, ℕ, ◌<◌, ◌≤◌, Bool, true, false, ◌||◌, ◌==◌, if◌then◌else◌, List, [], ◌∷◌, find, option_map, Some, None, refl, sym, ap, ◌∙◌, true≢false, arith}
use Rattle.std.specs.List.{AllByRecursion}
use Rattle.std.proofs.lemmas.Option.{none-some}
use Rattle.std.proofs.lemmas.Bool.{or_parts, or_from, or_right, eqb-true, ne_eqb, ltb-false}
use Rattle.ada_tree.specs.declared.naming.NameId.{NameId}
use Rattle.ada_tree.specs.declared.naming.Word.{Word}
use Rattle.ada_tree.specs.PlainDecl.{PDecl, DNumber, DObject, DEnumeration, DArray, DSubtype, DException, DIntIo, DPragma, DTask, DTaskBody}
use Rattle.ada_static_rules.specs.Scope.{Scope, NameMeaning, Thing, MainProcedure, meaning}
use Rattle.ada_static_rules.specs.RuleDuplicate.{is_predefined, is_among}
use Rattle.ada_static_rules.specs.Declaring.{seen_as, with_name, with_names, predefined_names, first_scope, after_decl}
use Rattle.task_laws.specs.legal.rewritten_types.Rewriting.{valued, IsFree, AreFree, names_declared, IsUsed, IsUnused}
use Rattle.common_lemmas.proofs.Lists.{found_none}

-- ---- what means nothing

-- a name that is declared nowhere means nothing
pub record InHere (s : Scope) : Type 0 where
  pub nothing : (id : NameId) → is_predefined id.0 ≡ false → is_among s.here id.0 ≡ false → meaning s id ≡ None

-- a name that is not predefined is none of the first 18
beyond : (n k : ℕ) → is_predefined n ≡ false → k < 18 → (k == n) ≡ false
beyond n k e l = let m : 18 ≤ n = ltb-false n 18 e in ne_eqb k n (λ same. let y : ⊥ = omega arith in y)

pub first-here : (name : Word) → InHere (first_scope name)
first-here name = record { nothing = none }
  where
    not-first : (n : ℕ) → is_predefined n ≡ false → AllByRecursion (λ (x : NameMeaning). (x.name == n) ≡ false) predefined_names
    not-first n e = (
      beyond n 0 e (omega arith),
      (
        beyond n 1 e (omega arith),
        (
          beyond n 2 e (omega arith),
          (
            beyond n 3 e (omega arith),
            (
              beyond n 4 e (omega arith),
              (
                beyond n 5 e (omega arith),
                (
                  beyond n 6 e (omega arith),
                  (
                    beyond n 7 e (omega arith),
                    (
                      beyond n 8 e (omega arith),
                      (
                        beyond n 9 e (omega arith),
                        (
                          beyond n 10 e (omega arith),
                          (
                            beyond n 11 e (omega arith),
                            (
                              beyond n 12 e (omega arith),
                              (
                                beyond n 13 e (omega arith),
                                (
                                  beyond n 14 e (omega arith),
                                  (
                                    beyond n 15 e (omega arith),
                                    (beyond n 16 e (omega arith), (beyond n 17 e (omega arith), tt)),
                                  ),
                                ),
                              ),
                            ),
                          ),
                        ),
                      ),
                    ),
                  ),
                ),
              ),
            ),
          ),
        ),
      ),
    )

    by_name : (id : NameId) (b : Bool) → b ≡ false → find (λ x. x.name == id.0) predefined_names ≡ None →
        option_map (λ (x : NameMeaning). x.thing) (if b then Some (seen_as MainProcedure name.name.0) else find (λ x. x.name == id.0) predefined_names) ≡ None
    by_name id true e f = absurd (true≢false e)
    by_name id false e f = ap (option_map (λ (x : NameMeaning). x.thing)) f

    none : (id : NameId) → is_predefined id.0 ≡ false → is_among (first_scope name).here id.0 ≡ false → meaning (first_scope name) id ≡ None
    none id e h = by_name id (name.name.0 == id.0) (or_parts (name.name.0 == id.0) false h).0 (found_none (λ (x : NameMeaning). x.name == id.0) predefined_names (not-first id.0 e))

here-name : (thing : Thing) (w : Word) (s : Scope) → InHere s → InHere (with_name thing s w)
here-name thing w s h = record { nothing = none }
  where
    by_test : (id : NameId) (b : Bool) → b ≡ false → meaning s id ≡ None → option_map (λ (x : NameMeaning). x.thing) (if b then Some (seen_as thing w.name.0) else find (λ x. x.name == id.0) s.names) ≡ None
    by_test id true e f = absurd (true≢false e)
    by_test id false e f = f

    none : (id : NameId) → is_predefined id.0 ≡ false → is_among (with_name thing s w).here id.0 ≡ false → meaning (with_name thing s w) id ≡ None
    none id e f =
        let p = or_parts (w.name.0 == id.0) (is_among s.here id.0) f in
        by_test id (w.name.0 == id.0) p.0 (h.nothing id e p.1)

here-names : (thing : Thing) (ws : List Word) (s : Scope) → InHere s → InHere (with_names thing s ws)
here-names thing [] s h = h
here-names thing (w ∷ ws) s h = here-names thing ws (with_name thing s w) (here-name thing w s h)

-- names and the names of the scope are all that matters
same-here : (s s' : Scope) → s.names ≡ s'.names → s.here ≡ s'.here → InHere s → InHere s'
same-here s s' e f h = record {
  nothing = λ id p n. ap (λ (l : List NameMeaning). option_map (λ (x : NameMeaning). x.thing) (find (λ x. x.name == id.0) l)) (sym e) ∙ h.nothing id p (ap (λ l. is_among l id.0) f ∙ n);
}

pub here-decl : (d : PDecl) (s : Scope) → InHere s → InHere (after_decl s d)
here-decl (DNumber name e sp) s h = here-name _ name _ (same-here s _ refl refl h)
here-decl (DObject names constant shape init sp) s h = here-names _ names _ (same-here s _ refl refl h)
here-decl (DEnumeration name literals sp) s h = here-names _ literals _ (here-name _ name _ (same-here s _ refl refl h))
here-decl (DArray name index x sp) s h = here-name _ name _ (same-here s _ refl refl h)
here-decl (DSubtype name x sp) s h = here-name _ name _ (same-here s _ refl refl h)
here-decl (DException names sp) s h = here-names _ names s h
here-decl (DIntIo name sp) s h = same-here _ _ refl refl (here-name _ name s h)
here-decl (DPragma e sp) s h = h
here-decl (DTask t sp) s h = here-name _ t.name s h
here-decl (DTaskBody name objects its sp) s h = same-here s _ refl refl h

-- an unused name is free
pub unused-free : (s : Scope) (w : Word) → InHere s → IsUnused s w → IsFree s w.name
unused-free s w h u = ap valued (h.nothing w.name u.0 u.1)

pub unused-all : (s : Scope) (ws : List Word) → InHere s → AllByRecursion (IsUnused s) ws → AreFree s ws
unused-all s [] h u = tt
unused-all s (w ∷ ws) h u = (unused-free s w h u.0, unused-all s ws h u.1)

-- ---- what stays free

-- a name that is used, and that means no value
pub record IsTaken (s : Scope) (id : NameId) : Type 0 where
  pub used : IsUsed s id
  pub free : IsFree s id

-- another name
pub other : (here : List ℕ) (a b : ℕ) → is_predefined a ≡ false → is_among here a ≡ false → (is_predefined b || is_among here b) ≡ true → (a == b) ≡ false
other here a b p n d = by_test (a == b) refl
  where
    by_test : (t : Bool) → (a == b) ≡ t → t ≡ false
    by_test false e = refl
    by_test true e = absurd (true≢false (sym d ∙ (ap (λ x. is_predefined x || is_among here x) (sym (eqb-true a b e)) ∙ or_from (is_predefined a) (is_among here a) p n)))

pub used-more : (s : Scope) (n : ℕ) (id : NameId) → IsUsed s id → (is_predefined id.0 || is_among (n ∷ s.here) id.0) ≡ true
used-more s n id h = by_test (is_predefined id.0) h
  where
    by_test : (b : Bool) → (b || is_among s.here id.0) ≡ true → (b || is_among (n ∷ s.here) id.0) ≡ true
    by_test true e = refl
    by_test false e = or_right (n == id.0) (is_among s.here id.0) e

taken-name : (thing : Thing) (w : Word) (s : Scope) (id : NameId) → (w.name.0 == id.0) ≡ false → IsTaken s id → IsTaken (with_name thing s w) id
taken-name thing w s id e h = record { used = used-more s w.name.0 id h.used; free = by_test (w.name.0 == id.0) e }
  where
    by_test : (b : Bool) → b ≡ false → valued (option_map (λ (x : NameMeaning). x.thing) (if b then Some (seen_as thing w.name.0) else find (λ x. x.name == id.0) s.names)) ≡ None
    by_test true f = absurd (true≢false f)
    by_test false f = h.free

abbrev AreOthers : NameId → List Word → Type 0
AreOthers id ws = AllByRecursion (λ (w : Word). (w.name.0 == id.0) ≡ false) ws

taken-names : (thing : Thing) (ws : List Word) (s : Scope) (id : NameId) → AreOthers id ws → IsTaken s id → IsTaken (with_names thing s ws) id
taken-names thing [] s id e h = h
taken-names thing (w ∷ ws) s id e h = taken-names thing ws (with_name thing s w) id e.1 (taken-name thing w s id e.0 h)

pub unused-others : (s : Scope) (ws : List Word) (id : NameId) → IsTaken s id → AllByRecursion (IsUnused s) ws → AreOthers id ws
unused-others s [] id h u = tt
unused-others s (w ∷ ws) id h u = (other s.here w.name.0 id.0 u.0.0 u.0.1 h.used, unused-others s ws id h u.1)

same-taken : (s s' : Scope) (id : NameId) → s.names ≡ s'.names → s.here ≡ s'.here → IsTaken s id → IsTaken s' id
same-taken s s' id e f h = record {
  used = ap (λ l. is_predefined id.0 || is_among l id.0) (sym f) ∙ h.used;
  free = ap (λ (l : List NameMeaning). valued (option_map (λ (x : NameMeaning). x.thing) (find (λ x. x.name == id.0) l))) (sym e) ∙ h.free;
}

others-taken : (d : PDecl) (s : Scope) (id : NameId) → AreOthers id (names_declared d) → IsTaken s id → IsTaken (after_decl s d) id
others-taken (DNumber name e sp) s id u h = taken-name _ name _ id u.0 (same-taken s _ id refl refl h)
others-taken (DObject names constant shape init sp) s id u h = taken-names _ names _ id u (same-taken s _ id refl refl h)
others-taken (DEnumeration name literals sp) s id u h = taken-names _ literals _ id u.1 (taken-name _ name _ id u.0 (same-taken s _ id refl refl h))
others-taken (DArray name index x sp) s id u h = taken-name _ name _ id u.0 (same-taken s _ id refl refl h)
others-taken (DSubtype name x sp) s id u h = taken-name _ name _ id u.0 (same-taken s _ id refl refl h)
others-taken (DException names sp) s id u h = taken-names _ names s id u h
others-taken (DIntIo name sp) s id u h = same-taken _ _ id refl refl (taken-name _ name s id u.0 h)
others-taken (DPragma e sp) s id u h = h
others-taken (DTask t sp) s id u h = taken-name _ t.name s id u.0 h
others-taken (DTaskBody name objects its sp) s id u h = same-taken s _ id refl refl h

-- a name that means no value means none behind a declaration of unused names
pub taken-decl : (d : PDecl) (s : Scope) (id : NameId) → AllByRecursion (IsUnused s) (names_declared d) → IsTaken s id → IsTaken (after_decl s d) id
taken-decl d s id u h = others-taken d s id (unused-others s (names_declared d) id h u) h

-- what means something is used
pub meaning-used : (s : Scope) (id : NameId) (thing : Thing) → InHere s → meaning s id ≡ Some thing → IsUsed s id
meaning-used s id thing h e = by_test (is_predefined id.0) (is_among s.here id.0) refl refl
  where
    by_test : (a b : Bool) → is_predefined id.0 ≡ a → is_among s.here id.0 ≡ b → (a || b) ≡ true
    by_test true b p n = refl
    by_test false true p n = refl
    by_test false false p n = absurd (none-some thing (sym (h.nothing id p n) ∙ e))

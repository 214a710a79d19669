-- In a legal program each name of a type or subtype in the table means that one, behind all declarations.
use Rattle.std.proofs.Common.{◌≡◌, ℕ, zero, suc, ◌<◌, ◌≤◌, pos, ◌-ℤ◌, Bool, true, false, ◌||◌, ◌==◌, List, [], ◌∷◌, length, map, Option, Some, None, refl, sym, ap, ◌∙◌, true≢false, arith}
use Rattle.std.specs.List.{AllByRecursion}
use Rattle.std.proofs.lemmas.Bool.{ne_eqb, eq-eqb, ltb-false}
use Rattle.std.proofs.lemmas.Option.{none-some}
use Rattle.common_lemmas.proofs.Numbers.{equal_is}
use Rattle.ada_tree.specs.declared.naming.NameId.{NameId}
use Rattle.ada_tree.specs.declared.naming.Word.{Word}
use Rattle.ada_tree.specs.declared.static_types.Kind.TheVariants.{Enumeration}
use Rattle.ada_tree.specs.declared.static_types.Mark.{Mark}
use Rattle.ada_tree.specs.TypeTable.{TypeTable}
use Rattle.ada_tree.specs.PlainDecl.{PDecl, DNumber, DObject, DEnumeration, DArray, DSubtype, DException, DIntIo, DPragma, DTask, DTaskBody, PDecls, no_decl, decl_then}
use Rattle.ada_tree.specs.PlainProgram.{PProgram}
use Rattle.ada_static_rules.specs.Refusals.{types_in}
use Rattle.ada_static_rules.specs.Scope.{Scope, Range, TypeMark, Literal, MainProcedure, meaning, mark_at, integer_kind, range_of_mark, and_then}
use Rattle.ada_static_rules.specs.StaticValue.{mark_named}
use Rattle.ada_static_rules.specs.ExprTypes.{static_in}
use Rattle.ada_static_rules.specs.Declaring.{predefined_types, before_all, first_scope, in_body, with_name, with_types, add_kind, made, made_subind, drange_range, made_array, type_of_mark, renamed, after_decl, after_decls}
use Rattle.ada_static_rules.specs.RuleDuplicate.{is_predefined}
use Rattle.task_laws.specs.legal.rewritten_types.Rewriting.{names_declared, IsUnused, DeclareOnce}
use Rattle.task_laws.proofs.legal.rewritten_types.Adding.{names-types, keeps-subind, keeps-objects}
use Rattle.task_laws.proofs.legal.rewritten_types.Unmarked.{other-mark, add-marks, no-type, object-marks}
use Rattle.task_laws.proofs.legal.rewritten_types.Fresh.{InHere, first-here, here-decl}
use Rattle.task_laws.proofs.legal.literals.Apart.{IsNoneOf, names-apart}
use Rattle.task_laws.proofs.legal.types.MainScopes.{AllStand, last-stands}
use Rattle.normal_laws.specs.existence.Laws.{IsLegalOriginal}
use Rattle.normal_laws.proofs.existence.seen_tasks.Scopes.{is_one_of, meaning-out}
use Rattle.normal_laws.proofs.legality.scopes.Later.{decl-kept}
use Rattle.normal_laws.proofs.legality.scopes.Main.{last, once, stand}
use Rattle.ada_static_rules.proofs.found_twice.Declared.{name_means}

abbrev anybody : ℕ → Bool
anybody n = true

-- each name of a mark in the table means that of a type
abbrev pub AreMeant : Scope → Type 0
AreMeant s = (id : NameId) (m : Mark) → mark_named s.types id ≡ Some m → (k : ℕ) × (meaning s id ≡ Some (TypeMark k))

abbrev MeansType : Scope → NameId → Type 0
MeansType s id = (k : ℕ) × (meaning s id ≡ Some (TypeMark k))

-- ---- declarations that give no mark a name

-- ---- those that give one a name

-- a name that is none of some
none-of : (ws : List Word) (n : ℕ) (id : NameId) → n ≡ id.0 → IsNoneOf n (map (λ (w : Word). w.name) ws) → is_one_of ws id ≡ false
none-of [] n id e h = refl
none-of (w ∷ ws) n id e h = by_test (w.name.0 == id.0) refl (none-of ws n id e h.1)
  where
    by_test : (b : Bool) → (w.name.0 == id.0) ≡ b → is_one_of ws id ≡ false → (b || is_one_of ws id) ≡ false
    by_test true f later = absurd (true≢false (sym (eq-eqb n w.name.0 (e ∙ sym (equal_is w.name.0 id.0 f))) ∙ h.0))
    by_test false f later = later

renamed-meant : (w : Word) (T : TypeTable) (r : Option Range) (s : Scope) (id : NameId) (m : Mark) → mark_named (renamed w T r).types id ≡ Some m →
    (mark_named T id ≡ Some m → MeansType (with_name (type_of_mark (renamed w T r).mark) (with_types (renamed w T r).types s) w) id) → MeansType (with_name (type_of_mark (renamed w T r).mark) (with_types (renamed w T r).types s) w) id
renamed-meant w T None s id m e before = before e
renamed-meant w T (Some r) s id m e before = by_test (w.name.0 == id.0) refl
  where
    by_test : (b : Bool) → (w.name.0 == id.0) ≡ b → MeansType (with_name (TypeMark (length T.marks)) (with_types (renamed w T (Some r)).types s) w) id
    by_test true f = (length T.marks, name_means (TypeMark (length T.marks)) w (with_types (renamed w T (Some r)).types s) id f)
    by_test false f = before (sym (other-mark T.marks _ id f) ∙ e)

array-meant : (w : Word) (T : TypeTable) (r : Option Range) (part : Option ℕ) (s : Scope) (id : NameId) (m : Mark) → mark_named (made_array (Some w.name) T r part).types id ≡ Some m →
    (mark_named T id ≡ Some m → MeansType (with_name (type_of_mark (made_array (Some w.name) T r part).mark) (with_types (made_array (Some w.name) T r part).types s) w) id) →
    MeansType (with_name (type_of_mark (made_array (Some w.name) T r part).mark) (with_types (made_array (Some w.name) T r part).types s) w) id
array-meant w T None part s id m e before = before e
array-meant w T (Some r) None s id m e before = before e
array-meant w T (Some r) (Some part) s id m e before = by_test (w.name.0 == id.0) refl
  where
    by_test : (b : Bool) → (w.name.0 == id.0) ≡ b → MeansType (with_name (TypeMark (length T.marks)) (with_types (made_array (Some w.name) T (Some r) (Some part)).types s) w) id
    by_test true f = (length T.marks, name_means (TypeMark (length T.marks)) w (with_types (made_array (Some w.name) T (Some r) (Some part)).types s) id f)
    by_test false f = before (sym (other-mark T.marks _ id f) ∙ e)

-- the table behind an enumeration
abbrev enumeration_types : Scope → Word → List Word → TypeTable
enumeration_types s name literals =
    (made (add_kind s.types (Enumeration (map (λ l. l.name) literals))) record { name = Some name.name; kind = length s.types.kinds; first = pos 0; last = pos (length literals) -ℤ pos 1 }).types

-- ---- all declarations

module _ (T : TypeTable) where
  decl-meant : (d : PDecl) (rest : PDecls) (s : Scope) → InHere s → AllByRecursion (IsUnused s) (names_declared d) → AllStand T s (decl_then d rest) → AreMeant s → AreMeant (after_decl s d)
  decl-meant d rest s here u at h id m e = by_form d at e (λ f. let r = h id m f in (r.0, decl-kept d s here u id (TypeMark r.0) r.1))
    where
      by_form : (d : PDecl) → AllStand T s (decl_then d rest) → mark_named (after_decl s d).types id ≡ Some m → (mark_named s.types id ≡ Some m → MeansType (after_decl s d) id) → MeansType (after_decl s d) id
      by_form (DNumber name y sp) at e before = before (sym (add-marks (name ∷ []) (Some 0) (static_in s integer_kind y) s.types id) ∙ e)
      by_form (DObject names c x i sp) at e before = before (sym (object-marks s names c x i id) ∙ e)
      by_form (DEnumeration name literals sp) at e before = by_test (name.name.0 == id.0) refl
        where
          by_test : (b : Bool) → (name.name.0 == id.0) ≡ b → MeansType (after_decl s (DEnumeration name literals sp)) id
          by_test true f = (
            length s.types.marks,
            meaning-out (Literal (length s.types.kinds)) literals (with_name (TypeMark (length s.types.marks)) (with_types (enumeration_types s name literals) s) name) id
                (none-of literals name.name.0 id (equal_is name.name.0 id.0 f) (names-apart true (name ∷ literals) s at.1).0)
                ∙ name_means (TypeMark (length s.types.marks)) name (with_types (enumeration_types s name literals) s) id f,
          )
          by_test false f =
              before (sym (other-mark s.types.marks _ id f) ∙ sym (ap (λ U. mark_named U id) (names-types (Literal (length s.types.kinds)) literals (with_name (TypeMark (length s.types.marks)) (with_types (enumeration_types s name literals) s) name))) ∙ e)
      by_form (DArray name index x sp) at e before =
          array-meant name (made_subind s x).types (drange_range s index) (made_subind s x).mark s id m e (λ f. before (sym ((keeps-subind {old = anybody} s x).marks id refl) ∙ f))
      by_form (DSubtype name x sp) at e before =
          renamed-meant name (made_subind s x).types (and_then (range_of_mark (made_subind s x).types) (made_subind s x).mark) s id m e (λ f. before (sym ((keeps-subind {old = anybody} s x).marks id refl) ∙ f))
      by_form (DException names sp) at e before = before (sym (ap (λ U. mark_named U id) (names-types _ names s)) ∙ e)
      by_form (DIntIo name sp) at e before = before e
      by_form (DPragma y sp) at e before = before e
      by_form (DTask t sp) at e before = before e
      by_form (DTaskBody name objects its sp) at e before = before (sym ((keeps-objects {old = anybody} objects (in_body s name) refl).marks id refl) ∙ e)

  decls-meant : (ds : PDecls) (s : Scope) → InHere s → DeclareOnce s ds → AllStand T s ds → AreMeant s → AreMeant (after_decls s ds)
  decls-meant no_decl s here _ at h = h
  decls-meant (decl_then d rest) s here once at h = decls-meant rest (after_decl s d) (here-decl d s here) once.1 at.2 (decl-meant d rest s here once.0 at h)

-- ---- before all declarations

first-meant : (name : Word) → is_predefined name.name.0 ≡ false → AreMeant (first_scope name)
first-meant name u id m e = by_number id.0 e
  where
    large : 18 ≤ name.name.0
    large = ltb-false name.name.0 18 u

    kept : (k : ℕ) → k < 4 → meaning before_all (record { 0 = k }) ≡ Some (TypeMark k) → MeansType (first_scope name) (record { 0 = k })
    kept k l f =
        let other : (name.name.0 == k) ≡ false = ne_eqb name.name.0 k (λ same. let y : ⊥ = omega (arith, l, large, same) in y) in
        (k, meaning-out MainProcedure (name ∷ []) before_all (record { 0 = k }) (ap (λ b. b || false) other) ∙ f)

    by_number : (n : ℕ) → mark_named predefined_types (record { 0 = n }) ≡ Some m → MeansType (first_scope name) (record { 0 = n })
    by_number zero f = kept 0 (omega arith) refl
    by_number (suc zero) f = kept 1 (omega arith) refl
    by_number (suc (suc zero)) f = kept 2 (omega arith) refl
    by_number (suc (suc (suc zero))) f = kept 3 (omega arith) refl
    by_number (suc (suc (suc (suc n)))) f = absurd (none-some m (sym (no-type (suc (suc (suc (suc n)))) (omega arith)) ∙ f))

-- ---- a legal program

module _ (p : PProgram) (legal : IsLegalOriginal p) where
  -- a type or subtype of that mark
  pub record IsTypeOf (id : NameId) (m : Mark) : Type 0 where
    pub place : ℕ
    pub means : meaning (last p legal) id ≡ Some (TypeMark place)
    pub there : mark_at (types_in p) place ≡ Some m

  -- The name of a mark in the table means that one.
  pub named-means : (id : NameId) (m : Mark) → mark_named (types_in p) id ≡ Some m → IsTypeOf id m
  named-means id m e =
      let k = decls-meant (types_in p) p.decls (first_scope p.name) (first-here p.name) (once p legal).1 (stand p legal) (first-meant p.name (once p legal).0.0) id m e in
      record {
        place = k.0;
        means = k.1;
        there = sym ((last-stands p legal.legal.type_rules legal.placed legal.small).stands.over.marks id k.0 k.1) ∙ e;
      }

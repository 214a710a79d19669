-- Each literal of a legal program is the first of its name among those of all enumerations.
use Rattle.std.proofs.Common.{◌≡◌, ◌+◌, ◌-ℤ◌, ℕ, zero, suc, pos, Bool, true, List, [], ◌∷◌, ◌++◌, length, map, slice_get, option_map, Option, Some, None, ⊎_elim, refl, sym, ap, ap₂, ◌∙◌, subst, arith}
use Rattle.std.specs.List.{AllByRecursion}
use Rattle.std.proofs.lemmas.Option.{none-some}
use Rattle.ada_tree.specs.declared.naming.NameId.{NameId}
use Rattle.ada_tree.specs.declared.naming.Word.{Word}
use Rattle.ada_tree.specs.declared.static_types.Kind.{Kind}
use Rattle.ada_tree.specs.declared.static_types.Kind.TheVariants.{Integer, Truth, Enumeration}
use Rattle.ada_tree.specs.declared.static_types.Mark.{Mark}
use Rattle.ada_tree.specs.TypeTable.{TypeTable}
use Rattle.ada_tree.specs.PlainDecl.{PDecl, DNumber, DObject, DEnumeration, DArray, DSubtype, DException, DIntIo, DPragma, DTask, DTaskBody, PDecls, no_decl, decl_then}
use Rattle.ada_static_rules.specs.Scope.{Scope, kind_at}
use Rattle.ada_static_rules.specs.StaticValue.{position_in, first_of_two}
use Rattle.ada_static_rules.specs.Sites.{decl_sites}
use Rattle.ada_static_rules.specs.Declaring.{predefined_types, with_name, with_types, add_kind, made, after_decl, after_decls}
use Rattle.ada_value.specs.Values.{word, placed}
use Rattle.task_laws.specs.legal.rewritten_types.Agreement.{scalar_only, Literal, literal_among, literal_named, Keeps}
use Rattle.task_laws.specs.legal.rewritten_types.Rewriting.{IsUnused, DeclareOnce, names_declared}
use Rattle.task_laws.proofs.legal.rewritten_types.Lookups.{place-all, earlier-or-last}
use Rattle.task_laws.proofs.legal.rewritten_types.Adding.{names-types, keeps-decl}
use Rattle.task_laws.proofs.legal.rewritten_types.Owning.{nobody, all-new}
use Rattle.task_laws.proofs.legal.rewritten_types.Fresh.{InHere, here-decl}
use Rattle.task_laws.specs.legal.sites.Met.{IsMet}
use Rattle.task_laws.proofs.legal.types.FirmTables.{scalar-kind}
use Rattle.task_laws.proofs.legal.types.GoodDeclarations.{literal-read}
use Rattle.task_laws.proofs.legal.types.MainScopes.{Stands, AllStand}
use Rattle.task_laws.proofs.legal.literals.Apart.{AreApart, names-apart, found-first}
use Rattle.task_laws.proofs.legal.literals.Among.{at_kind, among-last}
use Rattle.common_lemmas.proofs.Lists.{last_at}
use Rattle.common_lemmas.proofs.Options.{some_same}

-- each literal is the first of its name
abbrev pub AreFirst : TypeTable → Type 0
AreFirst T = (k : ℕ) (ids : List NameId) → kind_at T k ≡ Some (Enumeration ids) → (i : ℕ) (id : NameId) → slice_get ids i ≡ Some id → literal_named T id ≡ Some record { kind = k; position = i }

-- a table with no more literals
first-kept : (old : ℕ → Bool) (T U : TypeTable) → Keeps old T U → AreFirst T → AreFirst U
first-kept old T U keeps h k ids e i id at = keeps.literals id ∙ h k ids (scalar-kind (kind_at T k) (Enumeration ids) (sym (keeps.kinds k) ∙ ap scalar_only e)) i id at

same-ids : (a b : List NameId) → Enumeration a ≡ Enumeration b → a ≡ b
same-ids a b e = cc

-- the name is that of no literal
abbrev IsFresh : TypeTable → NameId → Type 0
IsFresh T id = literal_named T id ≡ None

-- one more enumeration of new names that differ
first-more : (T : TypeTable) (m : Mark) (new : List NameId) → AreApart new → AllByRecursion (IsFresh T) new → AreFirst T → AreFirst (made (add_kind T (Enumeration new)) m).types
first-more T m new apart fresh h k ids e i id at = among-last T.kinds 0 x id ∙ ⊎_elim by_earlier by_last (earlier-or-last T.kinds x k)
  where
    x : Kind
    x = Enumeration new

    last : Option Literal
    last = at_kind (length T.kinds + 0) (position_in id x)

    by_earlier : slice_get (T.kinds ++ x ∷ []) k ≡ slice_get T.kinds k → first_of_two (literal_among T.kinds 0 id) last ≡ Some record { kind = k; position = i }
    by_earlier same = ap (λ o. first_of_two o last) (h k ids (sym same ∙ e) i id at)

    by_last : k ≡ length T.kinds → first_of_two (literal_among T.kinds 0 id) last ≡ Some record { kind = k; position = i }
    by_last here =
        let is : new ≡ ids = same-ids new ids (some_same (sym (last_at T.kinds x) ∙ ap (slice_get (T.kinds ++ x ∷ [])) (sym here) ∙ e)) in
        let there : slice_get new i ≡ Some id = ap (λ l. slice_get l i) is ∙ at in
        let place : length T.kinds + 0 ≡ k = omega arith in
        ap₂ (λ a b. first_of_two a (at_kind (length T.kinds + 0) b)) (place-all (IsFresh T) new i id fresh there) (found-first new apart i id there)
        ∙ ap (λ n. Some record { kind = n; position = i }) place

-- ---- one declaration

-- a name that was not declared before is that of no literal
unused-fresh : (T : TypeTable) (s : Scope) → Stands T s → InHere s → (w : Word) → IsUnused s w → IsFresh s.types w.name
unused-fresh T s h here w u = by_literal (literal_named s.types w.name) refl
  where
    id : NameId
    id = w.name

    by_literal : (o : Option Literal) → literal_named s.types id ≡ o → o ≡ None
    by_literal None e = refl
    by_literal (Some l) e =
        let root : literal_named h.root id ≡ Some l = sym (h.over.keeps.literals id) ∙ e in
        let v = h.over.literals id _ (literal-read h.root.kinds 0 id ∙ ap (option_map (λ (y : Literal). placed (word y.kind) (pos y.position))) root) in
        absurd (none-some _ (sym (here.nothing id u.0 u.1) ∙ v.1))

all-fresh : (T : TypeTable) (s : Scope) → Stands T s → InHere s → (ws : List Word) → AllByRecursion (IsUnused s) ws → AllByRecursion (IsFresh s.types) (map (λ (w : Word). w.name) ws)
all-fresh T s h here [] u = tt
all-fresh T s h here (w ∷ ws) u = (unused-fresh T s h here w u.0, all-fresh T s h here ws u.1)

first-decl : (T : TypeTable) (d : PDecl) (s : Scope) → Stands T s → InHere s → AllByRecursion (IsUnused s) (names_declared d) → AllByRecursion IsMet (decl_sites s d) → AreFirst s.types → AreFirst (after_decl s d).types
first-decl T (DEnumeration name literals sp) s stands here u met h =
    let m : Mark = record { name = Some name.name; kind = length s.types.kinds; first = pos 0; last = pos (length literals) -ℤ pos 1 } in
    subst AreFirst (sym (names-types _ literals (with_name _ (with_types _ s) name)))
    (first-more s.types m (map (λ (w : Word). w.name) literals) (names-apart true (name ∷ literals) s met).1 (all-fresh T s stands here literals u.1) h)
first-decl T (DNumber name e sp) s stands here u met h = first-kept nobody _ _ (keeps-decl (DNumber name e sp) s refl) h
first-decl T (DObject ws constant shape init sp) s stands here u met h = first-kept nobody _ _ (keeps-decl (DObject ws constant shape init sp) s (all-new ws)) h
first-decl T (DArray name index x sp) s stands here u met h = first-kept nobody _ _ (keeps-decl (DArray name index x sp) s refl) h
first-decl T (DSubtype name x sp) s stands here u met h = first-kept nobody _ _ (keeps-decl (DSubtype name x sp) s refl) h
first-decl T (DException ws sp) s stands here u met h = first-kept nobody _ _ (keeps-decl (DException ws sp) s tt) h
first-decl T (DIntIo name sp) s stands here u met h = h
first-decl T (DPragma e sp) s stands here u met h = h
first-decl T (DTask x sp) s stands here u met h = h
first-decl T (DTaskBody name objects its sp) s stands here u met h = first-kept nobody _ _ (keeps-decl (DTaskBody name objects its sp) s tt) h

-- ---- all declarations

pub first-decls : (T : TypeTable) (ds : PDecls) (s : Scope) → AllStand T s ds → InHere s → DeclareOnce s ds → AreFirst s.types → AreFirst (after_decls s ds).types
first-decls T no_decl s stands here once h = h
first-decls T (decl_then d rest) s stands here once h = first-decls T rest (after_decl s d) stands.2 (here-decl d s here) once.1 (first-decl T d s stands.0 here once.0 stands.1 h)

-- the predefined types are no enumerations
integer-other : (ids : List NameId) → Some Integer ≡ Some (Enumeration ids) → ⊥
integer-other ids e = cc

truth-other : (ids : List NameId) → Some Truth ≡ Some (Enumeration ids) → ⊥
truth-other ids e = cc

pub first-predefined : AreFirst predefined_types
first-predefined zero ids e i id at = absurd (integer-other ids e)
first-predefined (suc zero) ids e i id at = absurd (truth-other ids e)
first-predefined (suc (suc k)) ids e i id at = absurd (none-some _ e)

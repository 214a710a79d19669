-- In a legal program the declared name of each kind of values means its type, behind all declarations of main.
use Rattle.std.proofs.Common.{◌≡◌, ℕ, pos, zero, suc, ◌-ℤ◌, Bool, true, false, ◌==◌, ◌||◌, if◌then◌else◌, List, [], ◌∷◌, length, map, find, option_map, unwrap_or, Option, Some, None, ⊎_elim, refl, sym, ap, ◌∙◌, subst, true≢false}
use Rattle.std.specs.List.{AllByRecursion}
use Rattle.std.proofs.lemmas.Bool.{eq-eqb, or_left as or_front, or_right as or_behind}
use Rattle.std.proofs.lemmas.Option.{none-some}
use Rattle.common_lemmas.proofs.Lists.{found_passes, last_at}
use Rattle.common_lemmas.proofs.Numbers.{equal_is, equal_self}
use Rattle.common_lemmas.proofs.Truth.{or_left, or_right}
use Rattle.ada_tree.specs.declared.naming.NameId.{NameId}
use Rattle.ada_tree.specs.declared.naming.Word.{Word}
use Rattle.ada_tree.specs.declared.static_types.Kind.{Kind}
use Rattle.ada_tree.specs.declared.static_types.Kind.TheVariants.{Integer, Truth, Enumeration, Array}
use Rattle.ada_tree.specs.declared.static_types.Mark.{Mark}
use Rattle.ada_tree.specs.TypeTable.{TypeTable}
use Rattle.ada_tree.specs.PlainDecl.{PDecl, DNumber, DObject, DEnumeration, DArray, DSubtype, DException, DIntIo, DPragma, DTask, DTaskBody, PDecls, no_decl, decl_then}
use Rattle.ada_static_rules.specs.Scope.{Scope, NameMeaning, Thing, TypeMark, ScalarMark, marking_of, marking_of_mark, marking_of_kind, meaning, mark_at, kind_at, and_then}
use Rattle.ada_static_rules.specs.RuleDuplicate.{is_predefined, is_among}
use Rattle.ada_static_rules.specs.Sites.{names_sites, decl_sites}
use Rattle.ada_static_rules.specs.Declaring.{predefined_types, before_all, first_scope, seen_as, with_name, with_types, add_kind, made, after_decl, after_decls}
use Rattle.task_laws.specs.legal.rewritten_types.Agreement.{scalar_only, Grows, Keeps, IsScalar, mark_of_kind, Sound}
use Rattle.task_laws.specs.legal.rewritten_types.Rewriting.{names_declared, IsUnused, DeclareOnce}
use Rattle.task_laws.proofs.legal.rewritten_types.Lookups.{find-only, earlier-or-last}
use Rattle.task_laws.proofs.legal.rewritten_types.Keeping.{grows-on, grows-kind, grows-mark, keeps-self}
use Rattle.task_laws.proofs.legal.rewritten_types.Adding.{names-types, keeps-decl}
use Rattle.task_laws.proofs.legal.rewritten_types.Owning.{own-kept, nobody, all-new}
use Rattle.task_laws.proofs.legal.rewritten_types.Soundness.{sound-decl, sound-first}
use Rattle.task_laws.proofs.legal.rewritten_types.Fresh.{InHere, first-here, here-decl}
use Rattle.task_laws.specs.legal.sites.Met.{IsMet}
use Rattle.task_laws.proofs.legal.sites.Around.{test-fails}
use Rattle.task_laws.proofs.legal.types.ExprKinds.{IsScalarMark}
use Rattle.task_laws.proofs.legal.types.GoodScopes.{names-kept}
use Rattle.task_laws.proofs.legal.types.MainScopes.{AllStand}
use Rattle.normal_model.specs.Ranges.{kind_name}
use Rattle.normal_laws.proofs.legality.scopes.Later.{decl-kept}
use Rattle.task_laws.proofs.legal.rewritten_types.NamedKinds.{no-mark}

-- The declared name of the kind in the table means its type in the scope.
pub record IsMeantKind (T : TypeTable) (s : Scope) (k : ℕ) : Type 0 where
  pub place : ℕ
  pub mark : Mark
  pub id : NameId
  pub first : mark_of_kind T k ≡ Some mark
  pub name : mark.name ≡ Some id
  pub there : mark_at T place ≡ Some mark
  pub means : meaning s id ≡ Some (TypeMark place)

-- each kind of values is so
abbrev pub AreMeant : TypeTable → Scope → Type 0
AreMeant T s = (k : ℕ) → IsScalar T k → IsMeantKind T s k

-- ---- a declaration that adds no kinds of values

kind-kept : (d : PDecl) (s : Scope) → InHere s → AllByRecursion (IsUnused s) (names_declared d) → (T U : TypeTable) → Grows T U → (k : ℕ) → IsMeantKind T s k → IsMeantKind U (after_decl s d) k
kind-kept d s here u T U g k x = record {
  place = x.place;
  mark = x.mark;
  id = x.id;
  first = own-kept T U g k x.mark x.first;
  name = x.name;
  there = g.mark x.place x.mark x.there;
  means = decl-kept d s here u x.id (TypeMark x.place) x.means;
}

are-kept : (d : PDecl) (s : Scope) → InHere s → AllByRecursion (IsUnused s) (names_declared d) → (old : ℕ → Bool) (U : TypeTable) → Keeps old s.types U → AreMeant s.types s → AreMeant U (after_decl s d)
are-kept d s here u old U keeps h k sc = kind-kept d s here u s.types U keeps.grows k (h k (sc.0, sym (keeps.kinds k) ∙ sc.1))

-- ---- an enumeration

-- names that are declared behind a name are others
others : (fixed : Bool) (n : ℕ) (ws : List Word) (s : Scope) (here : List ℕ) → is_among here n ≡ true → AllByRecursion IsMet (names_sites fixed (record s { here = here }) ws) → AllByRecursion (λ (w : Word). (w.name.0 == n) ≡ false) ws
others fixed n [] s here a h = tt
others fixed n (w ∷ ws) s here a h = (by_test (w.name.0 == n) refl, others fixed n ws s (w.name.0 ∷ here) (or_behind (w.name.0 == n) (is_among here n) a) h.1)
  where
    new : is_among here w.name.0 ≡ false
    new = or_right (is_predefined w.name.0) (is_among here w.name.0) (or_left (is_predefined w.name.0 || is_among here w.name.0) _ (or_left (is_predefined w.name.0 || is_among here w.name.0 || _) _ (test-fails _ w.span h.0.once)))

    by_test : (b : Bool) → (w.name.0 == n) ≡ b → b ≡ false
    by_test false e = refl
    by_test true e = absurd (true≢false (sym a ∙ ap (is_among here) (sym (equal_is w.name.0 n e)) ∙ new))

name-there : (th : Thing) (w : Word) (s : Scope) → meaning (with_name th s w) w.name ≡ Some th
name-there th w s = ap (λ (b : Bool). option_map (λ (x : NameMeaning). x.thing) (if b then Some (seen_as th w.name.0) else find (λ (x : NameMeaning). x.name == w.name.0) s.names)) (equal_self w.name.0)

enumeration-meant : (w : Word) (ws : List Word) (sp : _) (s : Scope) → Sound s.types → InHere s → AllByRecursion (IsUnused s) (w ∷ ws) → AllByRecursion IsMet (decl_sites s (DEnumeration w ws sp)) → AreMeant s.types s →
    AreMeant (after_decl s (DEnumeration w ws sp)).types (after_decl s (DEnumeration w ws sp))
enumeration-meant w ws sp s sound here u met h = subst (λ V. AreMeant V s') (sym (names-types _ ws (with_name (TypeMark (length T.marks)) (with_types U s) w))) meant
  where
    T : TypeTable
    T = s.types

    x : Kind
    x = Enumeration (map (λ (l : Word). l.name) ws)

    m : Mark
    m = record { name = Some w.name; kind = length T.kinds; first = pos 0; last = pos (length ws) -ℤ pos 1 }

    U : TypeTable
    U = (made (add_kind T x) m).types

    s' : Scope
    s' = after_decl s (DEnumeration w ws sp)

    g : Grows T U
    g = grows-on (grows-kind T x) (grows-mark (add_kind T x) m)

    apart : AllByRecursion (λ (l : Word). (l.name.0 == w.name.0) ≡ false) ws
    apart = others true w.name.0 ws s (w.name.0 ∷ s.here) (or_front (w.name.0 == w.name.0) (is_among s.here w.name.0) (equal_self w.name.0)) met.1

    newest : IsMeantKind U s' (length T.kinds)
    newest = record {
      place = length T.marks;
      mark = m;
      id = w.name;
      first = find-only (λ (y : Mark). y.kind == length T.kinds) T.marks m (no-mark T sound) (eq-eqb (length T.kinds) (length T.kinds) refl);
      name = refl;
      there = last_at T.marks m;
      means = names-kept _ ws (with_name (TypeMark (length T.marks)) (with_types U s) w) w.name apart ∙ name-there (TypeMark (length T.marks)) w (with_types U s);
    }

    meant : AreMeant U s'
    meant k sc =
        ⊎_elim
        (λ same. kind-kept (DEnumeration w ws sp) s here u T U g k (h k (sc.0, ap scalar_only (sym same) ∙ sc.1)))
        (λ e. subst (IsMeantKind U s') (sym e) newest)
        (earlier-or-last T.kinds x k)

-- ---- all declarations

decl-meant : (d : PDecl) (s : Scope) → Sound s.types → InHere s → AllByRecursion (IsUnused s) (names_declared d) → AllByRecursion IsMet (decl_sites s d) → AreMeant s.types s → AreMeant (after_decl s d).types (after_decl s d)
decl-meant (DEnumeration w ws sp) s sound here u met h = enumeration-meant w ws sp s sound here u met h
decl-meant (DNumber w e sp) s sound here u met h = are-kept (DNumber w e sp) s here u nobody _ (keeps-decl (DNumber w e sp) s refl) h
decl-meant (DObject ws c x i sp) s sound here u met h = are-kept (DObject ws c x i sp) s here u nobody _ (keeps-decl (DObject ws c x i sp) s (all-new ws)) h
decl-meant (DArray w q x sp) s sound here u met h = are-kept (DArray w q x sp) s here u nobody _ (keeps-decl (DArray w q x sp) s refl) h
decl-meant (DSubtype w x sp) s sound here u met h = are-kept (DSubtype w x sp) s here u nobody _ (keeps-decl (DSubtype w x sp) s refl) h
decl-meant (DException ws sp) s sound here u met h = are-kept (DException ws sp) s here u nobody _ (keeps-decl (DException ws sp) s tt) h
decl-meant (DIntIo w sp) s sound here u met h = are-kept (DIntIo w sp) s here u nobody _ (keeps-self s.types) h
decl-meant (DPragma e sp) s sound here u met h = are-kept (DPragma e sp) s here u nobody _ (keeps-self s.types) h
decl-meant (DTask t sp) s sound here u met h = are-kept (DTask t sp) s here u nobody _ (keeps-self s.types) h
decl-meant (DTaskBody w objects its sp) s sound here u met h = are-kept (DTaskBody w objects its sp) s here u nobody _ (keeps-decl (DTaskBody w objects its sp) s tt) h

decls-meant : (T : TypeTable) (ds : PDecls) (s : Scope) → Sound s.types → InHere s → DeclareOnce s ds → AllStand T s ds → AreMeant s.types s → AreMeant (after_decls s ds).types (after_decls s ds)
decls-meant T no_decl s sound here once stand h = h
decls-meant T (decl_then d rest) s sound here once stand h = decls-meant T rest (after_decl s d) (sound-decl d s sound) (here-decl d s here) once.1 stand.2 (decl-meant d s sound here once.0 stand.1 h)

-- INTEGER and BOOLEAN, where no program has their names
first-meant : (name : Word) → is_predefined name.name.0 ≡ false → AreMeant predefined_types (first_scope name)
first-meant name u k s = by_kind k s
  where
    apart : (n : ℕ) → is_predefined n ≡ true → (name.name.0 == n) ≡ false
    apart n e = by_test (name.name.0 == n) refl
      where
        by_test : (b : Bool) → (name.name.0 == n) ≡ b → b ≡ false
        by_test false f = refl
        by_test true f = absurd (true≢false (sym e ∙ ap is_predefined (sym (equal_is name.name.0 n f)) ∙ u))

    by_kind : (j : ℕ) → IsScalar predefined_types j → IsMeantKind predefined_types (first_scope name) j
    by_kind zero sc = record { place = 0; mark = _; id = record { 0 = 0 }; first = refl; name = refl; there = refl; means = names-kept _ (name ∷ []) before_all (record { 0 = 0 }) (apart 0 refl, tt) }
    by_kind (suc zero) sc = record { place = 3; mark = _; id = record { 0 = 3 }; first = refl; name = refl; there = refl; means = names-kept _ (name ∷ []) before_all (record { 0 = 3 }) (apart 3 refl, tt) }
    by_kind (suc (suc i)) sc = absurd (none-some sc.0 sc.1)

-- ---- as a mark

scalar-marks : (m k : ℕ) (o : Option Kind) (x : Kind) → scalar_only o ≡ Some x → (marking_of_kind m k o ≡ ScalarMark m k) × (o ≡ Some x)
scalar-marks m k (Some Integer) x e = (refl, e)
scalar-marks m k (Some Truth) x e = (refl, e)
scalar-marks m k (Some (Enumeration ids)) x e = (refl, e)
scalar-marks m k (Some (Array index first last part)) x e = absurd (none-some x e)
scalar-marks m k None x e = absurd (none-some x e)

-- A name stands for a scalar type of that kind.
pub record IsKindName (s : Scope) (id : NameId) (k : ℕ) : Type 0 where
  pub mark : IsScalarMark s id
  pub kind : mark.leads.mark.kind ≡ k

-- So the declared name of each kind of values does.
pub kind-named : (T : TypeTable) (name : Word) (ds : PDecls) → is_predefined name.name.0 ≡ false → DeclareOnce (first_scope name) ds → AllStand T (first_scope name) ds → (k : ℕ) → IsScalar (after_decls (first_scope name) ds).types k →
    IsKindName (after_decls (first_scope name) ds) (kind_name (after_decls (first_scope name) ds).types k) k
kind-named T name ds u once stand k sc =
    subst (λ id. IsKindName s id k) (sym same) record {
      mark = record {
        place = x.place;
        leads = record { mark = x.mark; there = x.there; kind = sc.0; known = known.1 };
        means = x.means;
        marks = ap (marking_of s.types) x.means ∙ ap (marking_of_mark s.types x.place) x.there ∙ known.0;
      };
      kind = kind;
    }
  where
    s : Scope
    s = after_decls (first_scope name) ds

    x : IsMeantKind s.types s k
    x = decls-meant T ds (first_scope name) (sound-first name) (first-here name) once stand (first-meant name u) k sc

    same : kind_name s.types k ≡ x.id
    same = ap (λ o. unwrap_or (and_then (λ (y : Mark). y.name) o) (record { 0 = 0 })) x.first ∙ ap (λ o. unwrap_or o (record { 0 = 0 })) x.name

    kind : x.mark.kind ≡ k
    kind = equal_is x.mark.kind k (found_passes (λ (y : Mark). y.kind == k) s.types.marks x.mark x.first)

    known : (marking_of_kind x.place x.mark.kind (kind_at s.types x.mark.kind) ≡ ScalarMark x.place x.mark.kind) × (kind_at s.types x.mark.kind ≡ Some sc.0)
    known = scalar-marks x.place x.mark.kind (kind_at s.types x.mark.kind) sc.0 (ap (λ j. scalar_only (kind_at s.types j)) kind ∙ sc.1)

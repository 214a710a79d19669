-- Where main declares each name once, each kind of values has a declared name.
use Rattle.std.proofs.Common.{◌≡◌, ℕ, zero, suc, ◌<◌, ◌==◌, Bool, false, length, map, Some, None, ◌⊎◌, ⊎_elim, refl, sym, ap, ◌∙◌, subst, arith}
use Rattle.std.specs.List.{AllByRecursion}
use Rattle.std.proofs.lemmas.Bool.{eq-eqb, ne_eqb}
use Rattle.std.proofs.lemmas.Option.{none-some, slice_get_within}
use Rattle.ada_tree.specs.declared.naming.NameId.{NameId}
use Rattle.ada_tree.specs.declared.naming.Word.{Word}
use Rattle.ada_tree.specs.declared.static_types.Kind.{Kind}
use Rattle.ada_tree.specs.declared.static_types.Kind.TheVariants.{Enumeration}
use Rattle.ada_tree.specs.declared.static_types.Mark.{Mark}
use Rattle.ada_tree.specs.TypeTable.{TypeTable}
use Rattle.ada_tree.specs.PlainDecl.{PDecl, DNumber, DObject, DEnumeration, DArray, DSubtype, DException, DIntIo, DPragma, DTask, DTaskBody, PDecls, no_decl, decl_then}
use Rattle.ada_static_rules.specs.Scope.{Scope}
use Rattle.ada_static_rules.specs.StaticValue.{is_named, mark_named}
use Rattle.ada_static_rules.specs.Declaring.{predefined_types, first_scope, with_name, with_types, add_kind, made, after_decl, after_decls}
use Rattle.task_laws.specs.legal.rewritten_types.Agreement.{scalar_only, HasKind, Grows, Keeps, IsScalar, mark_of_kind, Sound}
use Rattle.task_laws.specs.legal.rewritten_types.Rewriting.{names_declared, IsUnused, DeclareOnce}
use Rattle.task_laws.specs.legal.rewritten_types.Laws.{IsNamedKind, KindsAreNamed}
use Rattle.task_laws.proofs.legal.rewritten_types.Lookups.{find-grown, find-only, earlier-or-last}
use Rattle.task_laws.proofs.legal.rewritten_types.Keeping.{grows-on, grows-kind, grows-mark}
use Rattle.task_laws.proofs.legal.rewritten_types.Adding.{names-types, keeps-decl}
use Rattle.task_laws.proofs.legal.rewritten_types.Owning.{own-kept, nobody, all-new}
use Rattle.task_laws.proofs.legal.rewritten_types.Soundness.{sound-decl, sound-first}
use Rattle.task_laws.proofs.legal.rewritten_types.Fresh.{InHere, first-here, here-decl, unused-free}
use Rattle.task_laws.proofs.legal.rewritten_types.Unmarked.{AreUnmarked, decl-before, decl-marks, first-unmarked}
use Rattle.common_lemmas.proofs.Lists.{all_weaker, found_none}

-- each kind of values has a declared name
abbrev AreNamed : TypeTable → Type 0
AreNamed T = (k : ℕ) → IsScalar T k → IsNamedKind T k

-- the first mark of a name stays the first
named-kept : (T U : TypeTable) → Grows T U → (id : NameId) (m : Mark) → mark_named T id ≡ Some m → mark_named U id ≡ Some m
named-kept T U g id m e = find-grown (λ x. is_named id x.name) T.marks U.marks g.mark m e

kind-kept : (T U : TypeTable) → Grows T U → (k : ℕ) → IsNamedKind T k → IsNamedKind U k
kind-kept T U g k h = record {
  mark = h.mark;
  id = h.id;
  first = own-kept T U g k h.mark h.first;
  name = h.name;
  found = named-kept T U g h.id h.mark h.found;
}

are-kept : (old : ℕ → Bool) (T U : TypeTable) → Keeps old T U → AreNamed T → AreNamed U
are-kept old T U keeps h k s = kind-kept T U keeps.grows k (h k (s.0, sym (keeps.kinds k) ∙ s.1))

-- no mark is of a kind that is not there
pub no-mark : (T : TypeTable) → Sound T → mark_of_kind T (length T.kinds) ≡ None
no-mark T sound = found_none (λ (m : Mark). m.kind == length T.kinds) T.marks (all_weaker (λ (m : Mark). HasKind T m.kind) _ T.marks another sound.marks)
  where
    another : (m : Mark) → HasKind T m.kind → (m.kind == length T.kinds) ≡ false
    another m h =
        let l : m.kind < length T.kinds = slice_get_within T.kinds m.kind h.0 h.1 in
        ne_eqb m.kind (length T.kinds) (λ same. let y : ⊥ = omega arith in y)

-- an enumeration of a new name
enumeration-named : (T : TypeTable) (x : Kind) (w : Word) (m : Mark) → m.kind ≡ length T.kinds → m.name ≡ Some w.name → Sound T → mark_named T w.name ≡ None → AreNamed T →
    AreNamed (made (add_kind T x) m).types
enumeration-named T x w m e f sound free h = named
  where
    U : TypeTable
    U = (made (add_kind T x) m).types

    g : Grows T U
    g = grows-on (grows-kind T x) (grows-mark (add_kind T x) m)

    last : IsNamedKind U (length T.kinds)
    last = record {
      mark = m;
      id = w.name;
      first = find-only (λ (y : Mark). y.kind == length T.kinds) T.marks m (no-mark T sound) (eq-eqb m.kind (length T.kinds) e);
      name = f;
      found = find-only (λ (y : Mark). is_named w.name y.name) T.marks m free (ap (is_named w.name) f ∙ eq-eqb w.name.0 w.name.0 refl);
    }

    named : (k : ℕ) → IsScalar U k → IsNamedKind U k
    named k s =
        ⊎_elim
        (λ same. kind-kept T U g k (h k (s.0, ap scalar_only (sym same) ∙ s.1)))
        (λ e. subst (IsNamedKind U) (sym e) last)
        (earlier-or-last T.kinds x k)

decl-named : (d : PDecl) (s : Scope) → Sound s.types → AllByRecursion (IsUnused s) (names_declared d) → InHere s → AreUnmarked s → AreNamed s.types → AreNamed (after_decl s d).types
decl-named (DEnumeration name literals sp) s sound u here free h =
    subst AreNamed (sym (names-types _ literals (with_name _ (with_types _ s) name)))
    (enumeration-named s.types (Enumeration (map (λ l. l.name) literals)) name _ refl refl sound (free name.name (unused-free s name here u.0)) h)
decl-named (DNumber name e sp) s sound u here free h = are-kept nobody _ _ (keeps-decl (DNumber name e sp) s refl) h
decl-named (DObject names constant shape init sp) s sound u here free h = are-kept nobody _ _ (keeps-decl (DObject names constant shape init sp) s (all-new names)) h
decl-named (DArray name index x sp) s sound u here free h = are-kept nobody _ _ (keeps-decl (DArray name index x sp) s refl) h
decl-named (DSubtype name x sp) s sound u here free h = are-kept nobody _ _ (keeps-decl (DSubtype name x sp) s refl) h
decl-named (DException names sp) s sound u here free h = are-kept nobody _ _ (keeps-decl (DException names sp) s tt) h
decl-named (DIntIo name sp) s sound u here free h = h
decl-named (DPragma e sp) s sound u here free h = h
decl-named (DTask t sp) s sound u here free h = h
decl-named (DTaskBody name objects its sp) s sound u here free h = are-kept nobody _ _ (keeps-decl (DTaskBody name objects its sp) s tt) h

decls-named : (ds : PDecls) (s : Scope) → Sound s.types → DeclareOnce s ds → InHere s → AreUnmarked s → AreNamed s.types → AreNamed (after_decls s ds).types
decls-named no_decl s sound once here free h = h
decls-named (decl_then d rest) s sound once here free h =
    decls-named rest (after_decl s d) (sound-decl d s sound) once.1 (here-decl d s here)
    (λ id f. decl-marks d s id f ∙ free id (decl-before s here d once.0 id f))
    (decl-named d s sound once.0 here free h)

-- INTEGER and BOOLEAN
first-named : AreNamed predefined_types
first-named zero s = record { mark = _; id = record { 0 = 0 }; first = refl; name = refl; found = refl }
first-named (suc zero) s = record { mark = _; id = record { 0 = 3 }; first = refl; name = refl; found = refl }
first-named (suc (suc k)) s = absurd (none-some s.0 s.1)

pub kinds_are_named : KindsAreNamed
kinds_are_named name ds once = decls-named ds (first_scope name) (sound-first name) once.1 (first-here name) (first-unmarked name once.0.0) first-named

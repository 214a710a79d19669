-- Each table that declarations leave begins with the kinds of INTEGER and BOOLEAN and has a mark of each kind of values.
use Rattle.std.proofs.Common.{◌≡◌, ℕ, zero, suc, ◌==◌, Bool, false, List, [], ◌∷◌, length, map, Some, ◌⊎◌, ⊎_elim, refl, sym, ap, ◌∙◌, subst}
use Rattle.std.specs.List.{AllByRecursion}
use Rattle.std.proofs.lemmas.Bool.{eq-eqb}
use Rattle.std.proofs.lemmas.Option.{none-some}
use Rattle.ada_tree.specs.declared.naming.Word.{Word}
use Rattle.ada_tree.specs.declared.static_types.Kind.{Kind}
use Rattle.ada_tree.specs.declared.static_types.Kind.TheVariants.{Enumeration}
use Rattle.ada_tree.specs.declared.static_types.Mark.{Mark}
use Rattle.ada_tree.specs.TypeTable.{TypeTable}
use Rattle.ada_tree.specs.PlainDecl.{PDecl, DNumber, DObject, DEnumeration, DArray, DSubtype, DException, DIntIo, DPragma, DTask, DTaskBody, PDecls, no_decl, decl_then}
use Rattle.ada_static_rules.specs.Scope.{Scope}
use Rattle.ada_static_rules.specs.Declaring.{predefined_types, first_scope, with_name, with_types, add_kind, made, after_decl, after_decls}
use Rattle.task_laws.specs.legal.rewritten_types.Agreement.{scalar_only, Grows, Keeps, IsScalar, mark_of_kind, WholeTable}
use Rattle.task_laws.specs.legal.rewritten_types.Rewriting.{IsNew}
use Rattle.task_laws.proofs.legal.rewritten_types.Lookups.{find-grown, find-last, earlier-or-last}
use Rattle.task_laws.proofs.legal.rewritten_types.Keeping.{grows-on, grows-kind, grows-mark}
use Rattle.task_laws.proofs.legal.rewritten_types.Adding.{names-types, keeps-decl}

-- the first mark of a kind stays the first
pub own-kept : (T U : TypeTable) → Grows T U → (k : ℕ) (m : Mark) → mark_of_kind T k ≡ Some m → mark_of_kind U k ≡ Some m
own-kept T U g k m e = find-grown (λ x. x.kind == k) T.marks U.marks g.mark m e

-- a table that keeps such a one is such a one
whole-kept : (old : ℕ → Bool) (T U : TypeTable) → Keeps old T U → WholeTable T → WholeTable U
whole-kept old T U keeps w = record {
  integers = keeps.grows.kind 0 _ w.integers;
  truths = keeps.grows.kind 1 _ w.truths;
  own = λ k h. let m = w.own k (h.0, sym (keeps.kinds k) ∙ h.1) in (m.0, own-kept T U keeps.grows k m.0 m.1);
}

-- where no name is old, all declarations but enumerations are such as may be added
abbrev pub nobody : ℕ → Bool
nobody n = false

pub all-new : (ws : List Word) → AllByRecursion (IsNew nobody) ws
all-new [] = tt
all-new (w ∷ ws) = (refl, all-new ws)

-- an enumeration comes with its mark
enumeration-whole : (T : TypeTable) (x : Kind) (m : Mark) → m.kind ≡ length T.kinds → WholeTable T → WholeTable (made (add_kind T x) m).types
enumeration-whole T x m e w = record { integers = g.kind 0 _ w.integers; truths = g.kind 1 _ w.truths; own = own }
  where
    U : TypeTable
    U = (made (add_kind T x) m).types

    g : Grows T U
    g = grows-on (grows-kind T x) (grows-mark (add_kind T x) m)

    own : (k : ℕ) → IsScalar U k → (y : Mark) × (mark_of_kind U k ≡ Some y)
    own k h =
        ⊎_elim
        (λ same. let y = w.own k (h.0, ap scalar_only (sym same) ∙ h.1) in (y.0, own-kept T U g k y.0 y.1))
        (λ last. find-last (λ (y : Mark). y.kind == k) T.marks m (eq-eqb m.kind k (e ∙ sym last)))
        (earlier-or-last T.kinds x k)

whole-decl : (d : PDecl) (s : Scope) → WholeTable s.types → WholeTable (after_decl s d).types
whole-decl (DEnumeration name literals sp) s w =
    subst WholeTable (sym (names-types _ literals (with_name _ (with_types _ s) name))) (enumeration-whole s.types (Enumeration (map (λ l. l.name) literals)) _ refl w)
whole-decl (DNumber name e sp) s w = whole-kept nobody _ _ (keeps-decl (DNumber name e sp) s refl) w
whole-decl (DObject names constant shape init sp) s w = whole-kept nobody _ _ (keeps-decl (DObject names constant shape init sp) s (all-new names)) w
whole-decl (DArray name index x sp) s w = whole-kept nobody _ _ (keeps-decl (DArray name index x sp) s refl) w
whole-decl (DSubtype name x sp) s w = whole-kept nobody _ _ (keeps-decl (DSubtype name x sp) s refl) w
whole-decl (DException names sp) s w = whole-kept nobody _ _ (keeps-decl (DException names sp) s tt) w
whole-decl (DIntIo name sp) s w = w
whole-decl (DPragma e sp) s w = w
whole-decl (DTask t sp) s w = w
whole-decl (DTaskBody name objects its sp) s w = whole-kept nobody _ _ (keeps-decl (DTaskBody name objects its sp) s tt) w

pub whole-decls : (ds : PDecls) (s : Scope) → WholeTable s.types → WholeTable (after_decls s ds).types
whole-decls no_decl s w = w
whole-decls (decl_then d rest) s w = whole-decls rest (after_decl s d) (whole-decl d s w)

-- the predefined types
first-own : (k : ℕ) → IsScalar predefined_types k → (m : Mark) × (mark_of_kind predefined_types k ≡ Some m)
first-own zero h = (_, refl)
first-own (suc zero) h = (_, refl)
first-own (suc (suc k)) h = absurd (none-some h.0 h.1)

pub whole-first : (name : Word) → WholeTable (first_scope name).types
whole-first name = record { integers = refl; truths = refl; own = first-own }

-- Each body of a program that meets the rules on types is the one of its name: the body that each task of that name runs.
use Rattle.std.proofs.Common.{◌≡◌, ℕ, ◌==◌, true, false, if◌then◌else◌, pos, ◌-ℤ◌, List, [], ◌∷◌, length, map, Some, None, unwrap_or, refl, sym, ap, ◌∙◌}
use Rattle.std.specs.List.{AllByRecursion}
use Rattle.std.proofs.lemmas.Bool.{eq-eqb}
use Rattle.ada_tree.specs.declared.naming.NameId.{NameId}
use Rattle.ada_tree.specs.declared.naming.Span.{Span}
use Rattle.ada_tree.specs.declared.naming.Word.{Word}
use Rattle.ada_tree.specs.PlainDecl.{PDecl, DNumber, DObject, DEnumeration, DArray, DSubtype, DException, DIntIo, DPragma, DTask, DTaskBody, PDecls, no_decl, decl_then}
use Rattle.ada_tree.specs.PlainStmt.{PBody}
use Rattle.ada_tree.specs.declared.static_types.Kind.TheVariants.{Enumeration}
use Rattle.ada_static_rules.specs.Scope.{Scope, Thing, TypeMark, Literal, AnException}
use Rattle.ada_static_rules.specs.Declaring.{with_name, with_names, with_types, made, add_kind, declared_object, with_constants, after_decl}
use Rattle.ada_static_rules.specs.RuleDuplicate.{is_among}
use Rattle.ada_static_rules.specs.Sites.{decl_sites, decls_sites}
use Rattle.syn_event.specs.DeclaredTasks.{decl_list}
use Rattle.syn_event.proofs.Nothing.{test_fails}
use Rattle.task_laws.specs.legal.sites.Met.{IsMet}
use Rattle.task_model.specs.Starting.{unit_among}
use Rattle.common_lemmas.proofs.Lists.{all_back, all_front}
use Rattle.common_lemmas.proofs.Truth.{or_both}

names-bodies : (thing : Thing) (ws : List Word) (s : Scope) → (with_names thing s ws).bodies ≡ s.bodies
names-bodies thing [] s = refl
names-bodies thing (w ∷ ws) s = names-bodies thing ws (with_name thing s w)

-- the body is that of its name among all declarations
abbrev pub IsTheBody : PDecls → PDecl → Type 0
IsTheBody all (DTaskBody w objects its s) = (unit_among all w.name).body ≡ its
IsTheBody all _ = Unit {0}

-- a name without a body so far has the same body among all declarations as among those that are left
abbrev AreLeft : PDecls → List ℕ → PDecls → Type 0
AreLeft all bodies ds = (name : NameId) → is_among bodies name.0 ≡ false → unit_among all name ≡ unit_among ds name

kept-left : (all : PDecls) (bodies more : List ℕ) (ds : PDecls) → more ≡ bodies → AreLeft all bodies ds → AreLeft all more ds
kept-left all bodies more ds e h name n = h name (ap (λ l. is_among l name.0) (sym e) ∙ n)

body-left : (all : PDecls) (w : Word) (objects : PDecls) (its : PBody) (s : Span) (rest : PDecls) (bodies : List ℕ) → AreLeft all bodies (decl_then (DTaskBody w objects its s) rest) → AreLeft all (w.name.0 ∷ bodies) rest
body-left all w objects its s rest bodies h name n =
    let e : ((w.name.0 == name.0) ≡ false) × (is_among bodies name.0 ≡ false) = or_both (w.name.0 == name.0) (is_among bodies name.0) n in
    h name e.1 ∙ ap (λ t. unwrap_or (if t then Some record { in_main = false; decls = objects; body = its } else None) (unit_among rest name)) e.0

pub bodies-once : (all : PDecls) (ds : PDecls) (s : Scope) → AllByRecursion IsMet (decls_sites s ds) → AreLeft all s.bodies ds → AllByRecursion (IsTheBody all) (decl_list ds)
bodies-once all no_decl s m h = tt
bodies-once all (decl_then (DTaskBody w objects its sp) rest) s m h =
    let here : AllByRecursion IsMet (decl_sites s (DTaskBody w objects its sp)) = all_front IsMet (decl_sites s (DTaskBody w objects its sp)) (decls_sites (after_decl s (DTaskBody w objects its sp)) rest) m in
    let new : is_among s.bodies w.name.0 ≡ false = test_fails (is_among s.bodies w.name.0) w.span here.0.once in
    let same : (w.name.0 == w.name.0) ≡ true = eq-eqb w.name.0 w.name.0 refl in (
      ap (λ u. u.body) (h w.name new) ∙ ap (λ t. (unwrap_or (if t then Some record { in_main = false; decls = objects; body = its } else None) (unit_among rest w.name)).body) same,
      bodies-once all rest (after_decl s (DTaskBody w objects its sp)) (all_back IsMet (decl_sites s (DTaskBody w objects its sp)) (decls_sites (after_decl s (DTaskBody w objects its sp)) rest) m) (body-left all w objects its sp rest s.bodies h),
    )
bodies-once all (decl_then (DNumber w e sp) rest) s m h = (tt, bodies-once all rest (after_decl s (DNumber w e sp)) (all_back IsMet (decl_sites s (DNumber w e sp)) (decls_sites (after_decl s (DNumber w e sp)) rest) m) h)
bodies-once all (decl_then (DObject ws c x i sp) rest) s m h =
    (tt, bodies-once all rest (after_decl s (DObject ws c x i sp)) (all_back IsMet (decl_sites s (DObject ws c x i sp)) (decls_sites (after_decl s (DObject ws c x i sp)) rest) m) (kept-left all s.bodies (after_decl s (DObject ws c x i sp)).bodies rest (names-bodies (declared_object s c x).thing ws (with_types (with_constants s ws i (declared_object s c x)) s)) h))
bodies-once all (decl_then (DEnumeration w ws sp) rest) s m h = (
  tt,
  bodies-once all rest (after_decl s (DEnumeration w ws sp)) (all_back IsMet (decl_sites s (DEnumeration w ws sp)) (decls_sites (after_decl s (DEnumeration w ws sp)) rest) m)
      (kept-left all s.bodies (after_decl s (DEnumeration w ws sp)).bodies rest
      (names-bodies (Literal (length s.types.kinds)) ws
      (with_name (TypeMark (length s.types.marks))
      (with_types (made (add_kind s.types (Enumeration (map (λ v. v.name) ws))) record { name = Some w.name; kind = length s.types.kinds; first = pos 0; last = pos (length ws) -ℤ pos 1 }).types s) w)) h),
)
bodies-once all (decl_then (DArray w q x sp) rest) s m h = (tt, bodies-once all rest (after_decl s (DArray w q x sp)) (all_back IsMet (decl_sites s (DArray w q x sp)) (decls_sites (after_decl s (DArray w q x sp)) rest) m) h)
bodies-once all (decl_then (DSubtype w x sp) rest) s m h = (tt, bodies-once all rest (after_decl s (DSubtype w x sp)) (all_back IsMet (decl_sites s (DSubtype w x sp)) (decls_sites (after_decl s (DSubtype w x sp)) rest) m) h)
bodies-once all (decl_then (DException ws sp) rest) s m h =
    (tt, bodies-once all rest (after_decl s (DException ws sp)) (all_back IsMet (decl_sites s (DException ws sp)) (decls_sites (after_decl s (DException ws sp)) rest) m) (kept-left all s.bodies (after_decl s (DException ws sp)).bodies rest (names-bodies AnException ws s) h))
bodies-once all (decl_then (DIntIo w sp) rest) s m h = (tt, bodies-once all rest (after_decl s (DIntIo w sp)) (all_back IsMet (decl_sites s (DIntIo w sp)) (decls_sites (after_decl s (DIntIo w sp)) rest) m) h)
bodies-once all (decl_then (DPragma e sp) rest) s m h = (tt, bodies-once all rest (after_decl s (DPragma e sp)) (all_back IsMet (decl_sites s (DPragma e sp)) (decls_sites (after_decl s (DPragma e sp)) rest) m) h)
bodies-once all (decl_then (DTask t sp) rest) s m h = (tt, bodies-once all rest (after_decl s (DTask t sp)) (all_back IsMet (decl_sites s (DTask t sp)) (decls_sites (after_decl s (DTask t sp)) rest) m) h)

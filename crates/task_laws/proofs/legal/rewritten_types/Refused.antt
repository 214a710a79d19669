-- A program in which the static rules refuse nothing declares each name of main once.
use Rattle.std.proofs.Common.{◌≡◌, ℕ, Bool, true, false, ◌&&◌, ◌||◌, ◌==◌, List, [], ◌∷◌, refl}
use Rattle.std.specs.List.{AllByRecursion, list_any}
use Rattle.std.proofs.lemmas.Bool.{or_parts}
use Rattle.ada_tree.specs.declared.naming.Word.{Word}
use Rattle.ada_tree.specs.PlainDecl.{PDecl, DNumber, DObject, DEnumeration, DArray, DSubtype, DException, DIntIo, DPragma, DTask, DTaskBody, PDecls, no_decl, decl_then}
use Rattle.ada_static_rules.specs.Scope.{Scope}
use Rattle.ada_static_rules.specs.Demand.{Demand, declares, Site}
use Rattle.ada_static_rules.specs.Sites.{names_sites, decl_sites, decls_sites, body_sites, sites}
use Rattle.ada_static_rules.specs.Declaring.{first_scope, after_decl, inner_scope, after_decls}
use Rattle.ada_static_rules.specs.RuleDuplicate.{is_predefined, is_among, fixes, introduces, at_word, duplicate}
use Rattle.ada_static_rules.specs.Refusals.{refused_at, refused_from}
use Rattle.task_laws.specs.legal.rewritten_types.Rewriting.{names_declared, IsUnused, DeclareOnce}
use Rattle.task_laws.specs.legal.rewritten_types.Laws.{DeclaredOnce}
use Rattle.common_lemmas.proofs.Lists.{all_back, all_front, all_weaker, back_empty, front_empty, not_empty}
use Rattle.ada_static_rules.proofs.found_twice.Spans.{no_spans}

-- ---- empty lists

abbrev IsFilled : {A : Type 0} → List A → Type 0
IsFilled [] = ⊥
IsFilled (x ∷ xs) = Unit {0}

-- ---- one place

-- where a name is declared, it was not used before
abbrev pub DeclaresUnused : Scope → Demand → Type 0
DeclaresUnused scope (declares fixed w) = IsUnused scope w
DeclaresUnused scope _ = Unit {0}

abbrev pub IsOnce : Site → Type 0
IsOnce s = DeclaresUnused s.scope s.demand

pub no_word : (test : Bool) (w : Word) → at_word test w ≡ [] → test ≡ false
no_word true w e = absurd (not_empty _ _ e)
no_word false w e = refl

unused : (before : List Site) (scope : Scope) (fixed : Bool) (w : Word) → duplicate before scope (declares fixed w) ≡ [] → IsUnused scope w
unused before scope fixed w e =
    let n = w.name.0 in
    let f = no_word (is_predefined n || is_among scope.here n || list_any (fixes n) before || (fixed && list_any (introduces n) before)) w e in
    let g = or_parts (is_predefined n || is_among scope.here n || list_any (fixes n) before) (fixed && list_any (introduces n) before) f in
    let h = or_parts (is_predefined n || is_among scope.here n) (list_any (fixes n) before) g.0 in
    or_parts (is_predefined n) (is_among scope.here n) h.0

pub once-demand : (before : List Site) (scope : Scope) (d : Demand) → duplicate before scope d ≡ [] → DeclaresUnused scope d
once-demand before scope (declares fixed w) e = unused before scope fixed w e
once-demand before scope _ e = tt

-- of what is refused at a place, what rule Duplicate refuses
pub no_duplicate : (before : List Site) (s : Site) → refused_at before s ≡ [] → duplicate before s.scope s.demand ≡ []
no_duplicate before s e =
    no_spans 2 _
    (back_empty _ _
    (front_empty _ _ (front_empty _ _ (front_empty _ _ (front_empty _ _ (front_empty _ _
    (front_empty _ _ (front_empty _ _ (front_empty _ _ (front_empty _ _ (front_empty _ _ e)))))))))))

all-once : (xs before : List Site) → refused_from before xs ≡ [] → AllByRecursion IsOnce xs
all-once [] before e = tt
all-once (x ∷ xs) before e = (
  once-demand before x.scope x.demand (no_duplicate before x (front_empty (refused_at before x) (refused_from (x ∷ before) xs) e)),
  all-once xs (x ∷ before) (back_empty (refused_at before x) (refused_from (x ∷ before) xs) e),
)

-- ---- one declaration

pub unused-before : (scope : Scope) (n : ℕ) (w : Word) → IsUnused (record scope { here = n ∷ scope.here }) w → IsUnused scope w
unused-before scope n w h = (h.0, (or_parts (n == w.name.0) (is_among scope.here w.name.0) h.1).1)

pub names-once : (fixed : Bool) (ws : List Word) (scope : Scope) → AllByRecursion IsOnce (names_sites fixed scope ws) → AllByRecursion (IsUnused scope) ws
names-once fixed [] scope h = tt
names-once fixed (w ∷ ws) scope h =
    (h.0, all_weaker _ (IsUnused scope) ws (unused-before scope w.name.0) (names-once fixed ws (record scope { here = w.name.0 ∷ scope.here }) h.1))

pub decl-once : (d : PDecl) (s : Scope) → AllByRecursion IsOnce (decl_sites s d) → AllByRecursion (IsUnused s) (names_declared d)
decl-once (DNumber name e sp) s h = (h.0, tt)
decl-once (DObject names constant shape init sp) s h = names-once _ names s (all_front IsOnce _ _ (all_front IsOnce _ _ h))
decl-once (DEnumeration name literals sp) s h = names-once true (name ∷ literals) s h
decl-once (DArray name index x sp) s h = (h.0, tt)
decl-once (DSubtype name x sp) s h = (h.0, tt)
decl-once (DException names sp) s h = names-once true names s h
decl-once (DIntIo name sp) s h = (h.1.0, tt)
decl-once (DPragma e sp) s h = tt
decl-once (DTask t sp) s h = (h.0, tt)
decl-once (DTaskBody name objects its sp) s h = tt

pub decls-once : (ds : PDecls) (s : Scope) → AllByRecursion IsOnce (decls_sites s ds) → DeclareOnce s ds
decls-once no_decl s h = tt
decls-once (decl_then d rest) s h = (decl-once d s (all_front IsOnce (decl_sites s d) _ h), decls-once rest (after_decl s d) (all_back IsOnce (decl_sites s d) _ h))

pub declared_once : DeclaredOnce
declared_once p e =
    let h : AllByRecursion IsOnce (sites p) = all-once (sites p) [] e in
    (h.0, decls-once p.decls (first_scope p.name) (all_front IsOnce (decls_sites (first_scope p.name) p.decls) (body_sites (inner_scope (after_decls (first_scope p.name) p.decls)) p.body) h.1))

-- The range of each array of tasks is static, seen from behind all declarations of main.
use Rattle.std.proofs.Common.{ℕ, Bool, true, false, ◌&&◌, ◌||◌, List, [], ◌∷◌, ◌++◌, IfSome, Option, Some, None, refl}
use Rattle.std.specs.List.{AllByRecursion}
use Rattle.common_lemmas.proofs.Lists.{all_front, all_back, all_joined}
use Rattle.ada_tree.specs.declared.naming.Span.{Span}
use Rattle.ada_tree.specs.declared.naming.Word.{Word}
use Rattle.ada_tree.specs.PlainExpr.{PDrange}
use Rattle.ada_tree.specs.PlainDecl.{PShape, OPlain, OArray, PInit, PTask, PDecl, DNumber, DObject, DEnumeration, DArray, DSubtype, DException, DIntIo, DPragma, DTask, DTaskBody, PDecls, no_decl, decl_then}
use Rattle.ada_tree.specs.Every.{Rules, EveryDrange, EveryDecls}
use Rattle.ada_tree.specs.WellPlaced.{well_placed}
use Rattle.ada_static_rules.specs.Scope.{Scope}
use Rattle.ada_static_rules.specs.Sites.{if_there, names_sites, is_task_object, shape_sites, init_sites, object_marking, drange_sites}
use Rattle.ada_static_rules.specs.Declaring.{declared_object, after_decl, after_decls}
use Rattle.syn_event.specs.NamedTasks.{NamedTasks, type_named, with_type, task_names_of_type, object_task_names, single_task_name, task_names_in}
use Rattle.task_laws.specs.legal.rewritten_types.Rewriting.{DeclareOnce}
use Rattle.task_laws.proofs.legal.rewritten_types.Fresh.{InHere, here-decl}
use Rattle.task_laws.specs.legal.sites.Met.{IsMet}
use Rattle.task_laws.proofs.legal.types.StaticParts.{HasRange, drange-met}
use Rattle.task_laws.proofs.legal.types.MainScopes.{AllStand, grows-decls}
use Rattle.normal_laws.proofs.legality.scopes.Later.{decls-kept}
use Rattle.normal_laws.proofs.legality.typed_declarations.Known.{range-grown}

-- what is known of a range: it is static, and its parts are as these rules ask
pub record IsGoodRange (S : Scope) (rules : Rules) (r : PDrange) : Type 0 where
  pub has : HasRange S r
  pub asked : EveryDrange rules 2 r

module _ (S : Scope) (rules : Rules) where
  abbrev IsRow : NamedTasks → Type 0
  IsRow x = IfSome x.index_range (IsGoodRange S rules)

  type-rows : (o : Option PTask) (ws : List Word) (row : Option PDrange) → IfSome row (IsGoodRange S rules) → AllByRecursion IsRow (task_names_of_type o ws row)
  type-rows None ws row h = tt
  type-rows (Some t) [] row h = tt
  type-rows (Some t) (w ∷ ws) row h = (h, type-rows (Some t) ws row h)

  -- the range of an array that is declared is so
  abbrev IsShapeGood : PShape → Type 0
  IsShapeGood (OPlain x) = Prim.Unit {0}
  IsShapeGood (OArray q x) = IsGoodRange S rules q

  object-rows : (kinds : List PTask) (ws : List Word) (x : PShape) → IsShapeGood x → AllByRecursion IsRow (object_task_names kinds ws x)
  object-rows kinds ws (OPlain x) h = type-rows (type_named kinds x.mark.name) ws None tt
  object-rows kinds ws (OArray q x) h = type-rows (type_named kinds x.mark.name) ws (Some q) h

  single-rows : (b : Bool) (t : PTask) (sp : Span) → AllByRecursion IsRow (single_task_name b t sp)
  single-rows true t sp = tt
  single-rows false t sp = (tt, tt)

-- So it is with all names that stand for tasks.
pub rows-known : (names : List (List ℕ)) (rules : Rules) (ds : PDecls) (kinds : List PTask) (s : Scope) → AllStand (after_decls s ds).types s ds → EveryDecls (well_placed names) ds → EveryDecls rules ds → InHere s → DeclareOnce s ds →
    AllByRecursion (λ (x : NamedTasks). IfSome x.index_range (IsGoodRange (after_decls s ds) rules)) (task_names_in kinds ds)
rows-known names rules no_decl kinds s stand every asked here once = tt
rows-known names rules (decl_then d rest) kinds s stand every asked here once = one d stand every asked once (λ kinds'. rows-known names rules rest kinds' (after_decl s d) stand.2 every.1 asked.1 (here-decl d s here) once.1)
  where
    object : (ws : List Word) (c : Bool) (x : PShape) (i : Option PInit) (sp : Span) → AllStand (after_decls s (decl_then (DObject ws c x i sp) rest)).types s (decl_then (DObject ws c x i sp) rest) → EveryDecls (well_placed names) (decl_then (DObject ws c x i sp) rest) →
        EveryDecls rules (decl_then (DObject ws c x i sp) rest) → DeclareOnce s (decl_then (DObject ws c x i sp) rest) → IsShapeGood (after_decls s (decl_then (DObject ws c x i sp) rest)) rules x
    object ws c (OPlain x) i sp stand every asked once = tt
    object ws c (OArray q x) i sp stand every asked once =
        let ds : PDecls = decl_then (DObject ws c (OArray q x) i sp) rest in
        let o = declared_object s c (OArray q x) in
        let front = names_sites (s.in_main && (c || is_task_object o.thing)) s ws in
        let shape = shape_sites s c (OArray q x) i in
        let sites : AllByRecursion IsMet shape = all_back IsMet front shape (all_front IsMet (front ++ shape) (if_there (init_sites s o.types (object_marking o)) i) stand.1) in
        record {
          has = range-grown (after_decls s ds).types s (after_decls s ds) record { stands = stand.0; types = refl; grows = grows-decls ds s; kept = decls-kept ds s here once } names 2 q every.0.2.0
              (drange-met s stand.0.over.clear q (all_front IsMet (drange_sites true s q) _ sites));
          asked = asked.0.2.0;
        }

    one : (d : PDecl) → AllStand (after_decls s (decl_then d rest)).types s (decl_then d rest) → EveryDecls (well_placed names) (decl_then d rest) → EveryDecls rules (decl_then d rest) → DeclareOnce s (decl_then d rest) →
        ((kinds' : List PTask) → AllByRecursion (IsRow (after_decls s (decl_then d rest)) rules) (task_names_in kinds' rest)) → AllByRecursion (IsRow (after_decls s (decl_then d rest)) rules) (task_names_in kinds (decl_then d rest))
    one (DTask t sp) stand every asked once h =
        all_joined (IsRow (after_decls s (decl_then (DTask t sp) rest)) rules) (single_task_name t.of_kind t sp) _ (single-rows (after_decls s (decl_then (DTask t sp) rest)) rules t.of_kind t sp) (h (with_type kinds t.of_kind t))
    one (DObject ws c x i sp) stand every asked once h =
        all_joined (IsRow (after_decls s (decl_then (DObject ws c x i sp) rest)) rules) (object_task_names kinds ws x) _
        (object-rows (after_decls s (decl_then (DObject ws c x i sp) rest)) rules kinds ws x (object ws c x i sp stand every asked once)) (h kinds)
    one (DNumber w e sp) stand every asked once h = h kinds
    one (DEnumeration w ws sp) stand every asked once h = h kinds
    one (DArray w r x sp) stand every asked once h = h kinds
    one (DSubtype w x sp) stand every asked once h = h kinds
    one (DException ws sp) stand every asked once h = h kinds
    one (DIntIo w sp) stand every asked once h = h kinds
    one (DPragma e sp) stand every asked once h = h kinds
    one (DTaskBody w objects its sp) stand every asked once h = h kinds

-- What the statements of main and of each body of the normal form of a legal program declare has no static value.
use Rattle.std.proofs.Common.{List, None, [], false, flat_map, subst, sym, true, ◌++◌, ◌∙◌, ◌∷◌, ◌≡◌}
use Rattle.std.specs.List.{AllByRecursion}
use Rattle.common_lemmas.proofs.Lists.{all_back, all_front, all_joined}
use Rattle.ada_tree.specs.PlainDecl.{DTaskBody, PDecl, PDecls, decl_then, no_decl}
use Rattle.ada_tree.specs.PlainProgram.{PProgram}
use Rattle.ada_tree.specs.PlainStmt.{PBody}
use Rattle.ada_tree.specs.TypeTable.{TypeTable}
use Rattle.ada_static_rules.specs.Declaring.{after_decl, after_decls, after_objects, before_all, first_scope, in_body, inner_scope}
use Rattle.ada_static_rules.specs.Demand.{Demand, Site, declares, declares_entry, gives_body, handles, labels, makes_instance}
use Rattle.ada_static_rules.specs.Refusals.{types_in}
use Rattle.ada_static_rules.specs.Scope.{Scope}
use Rattle.ada_static_rules.specs.Sites.{body_sites, decl_sites, decls_sites, names_sites, own_sites, sites}
use Rattle.ada_static_rules.specs.StaticValue.{value_named}
use Rattle.ada_decl_rules.specs.declared.duplicates.namings_in_order.Naming.{Naming}
use Rattle.ada_decl_rules.specs.declared.duplicates.namings_in_order.Naming.TheVariants.{Declares}
use Rattle.ada_decl_rules.specs.duplicates.NamingsInOrder.{and_then, naming_in, namings_of}
use Rattle.syn_event.specs.DeclaredTasks.{decl_list}
use Rattle.syn_event.specs.declared.numbering.TaskInfo.{TaskInfo}
use Rattle.task_model.specs.Setting.{Setting}
use Rattle.task_laws.proofs.legal.types.InnerScopes.{AreApart, IsApartLocal}
use Rattle.normal_model.specs.NormalStmts.{normal_body}
use Rattle.normal_model.specs.NormalTree.{bodies_of, main_unit, running, unit_for}
use Rattle.normal_model.specs.RewrittenUnit.{RewrittenUnit}
use Rattle.normal_laws.proofs.existence.units.Apart.{all-apart}
use Rattle.normal_laws.proofs.structure.once.Places.{body-is}
use Rattle.normal_laws.proofs.structure.once.Rewritten.{body-same}
use Rattle.normal_laws.proofs.structure.types.Variables.{all-mapped}
use Rattle.normal_laws.specs.existence.Laws.{IsLegalOriginal}
use Rattle.normal_laws.specs.runs.forms.Normalisable.{made_for, setting_for}
use Rattle.collect_structure.proofs.typed.Calls.{x}
use Rattle.collect_structure.specs.scopes.Inner.{AllFree, DeclaresFree}

module _ (T : TypeTable) where
  -- so it is with what is named
  abbrev IsFreeNaming : Naming → Type 0
  IsFreeNaming (Declares false again w) = value_named T w.name ≡ None
  IsFreeNaming _ = Prim.Unit {0}

  abbrev AllNamed : List Naming → Type 0
  AllNamed ns = AllByRecursion IsFreeNaming ns

  -- ---- places and what is named at them

  one-to : (s : Scope) (d : Demand) (rest : List Naming) → DeclaresFree T d → AllNamed rest → AllNamed (and_then (naming_in s d) rest)
  one-to s (declares true w) rest h k = (tt, k)
  one-to s (declares false w) rest h k = (h, k)
  one-to s (declares_entry names w) rest h k = (tt, k)
  one-to s (labels w) rest h k = (tt, k)
  one-to s (gives_body w) rest h k = (tt, k)
  one-to s (makes_instance w) rest h k = (tt, k)
  one-to s (handles names w) rest h k = (tt, k)
  one-to s _ rest h k = k

  one-from : (s : Scope) (d : Demand) (rest : List Naming) → AllNamed (and_then (naming_in s d) rest) → DeclaresFree T d × AllNamed rest
  one-from s (declares true w) rest h = (tt, h.1)
  one-from s (declares false w) rest h = (h.0, h.1)
  one-from s (declares_entry names w) rest h = (tt, h.1)
  one-from s (labels w) rest h = (tt, h.1)
  one-from s (gives_body w) rest h = (tt, h.1)
  one-from s (makes_instance w) rest h = (tt, h.1)
  one-from s (handles names w) rest h = (tt, h.1)
  one-from s _ rest h = (tt, h)

  named-free : (ss : List Site) → AllFree T ss → AllNamed (namings_of ss)
  unfolding namings_of
  named-free [] h = tt
  named-free (x ∷ ss) h = one-to x.scope x.demand (namings_of ss) h.0 (named-free ss h.1)

  places-free : (ss : List Site) → AllNamed (namings_of ss) → AllFree T ss
  unfolding namings_of
  places-free [] h = tt
  places-free (x ∷ ss) h = let q = one-from x.scope x.demand (namings_of ss) h in (q.0, places-free ss q.1)

  -- the statements that a unit gets for these declare the same names, whatever can be used at them
  image-free : (u : RewrittenUnit) (its : PBody) (c d : Scope) → AllFree T (body_sites c its) → AllFree T (body_sites d (normal_body u its))
  image-free u its c d h =
      places-free (body_sites d (normal_body u its))
      (subst AllNamed (sym (body-is d (normal_body u its) ∙ body-same u its)) (subst AllNamed (body-is c its) (named-free (body_sites c its) h)))

  -- the statements of a body are so, whatever can be used at them
  abbrev pub HasFree : PDecl → Type 0
  HasFree (DTaskBody w objects its s) = (d : Scope) → AllFree T (body_sites d its)
  HasFree _ = Prim.Unit {0}

  -- each copy of a body is so
  copies-free : (g : Setting) (ds : PDecls) (s : Scope) → AllFree T (decls_sites s ds) → AllByRecursion HasFree (flat_map (bodies_of g) (decl_list ds))
  copies-free g no_decl s h = tt
  copies-free g (decl_then (DTaskBody w objects its sp) rest) s h =
      let here : List Site = decl_sites s (DTaskBody w objects its sp) in
      let next : Scope = after_decl s (DTaskBody w objects its sp) in
      let within : Scope = in_body s w in
      let one : AllFree T here = all_front _ here (decls_sites next rest) h in
      let statements : AllFree T (body_sites (inner_scope (after_objects within objects)) its) = all_back _ (own_sites within objects)
      (body_sites (inner_scope (after_objects within objects)) its) one.1 in
      let free : (d : Scope) → AllFree T (body_sites d (normal_body (unit_for g w.name) its)) = λ d. image-free (unit_for g w.name) its (inner_scope (after_objects within objects)) d statements in
      all_joined HasFree (bodies_of g (DTaskBody w objects its sp)) (flat_map (bodies_of g) (decl_list rest)) (all-mapped HasFree _ (λ (info : TaskInfo). free) (running g w.name))
      (copies-free g rest next (all_back _ here (decls_sites next rest) h))
  copies-free g (decl_then d rest) s h = copies-free g rest (after_decl s d) (all_back _ (decl_sites s d) (decls_sites (after_decl s d) rest) h)

module _ (p : PProgram) (h : IsLegalOriginal p) where
  abbrev T : TypeTable
  T = types_in p

  less : (ss : List Site) → AreApart T ss → AllFree T ss
  less [] k = tt
  less (x ∷ ss) k = (by_demand x.demand k.0, less ss k.1)
    where
      by_demand : (d : Demand) → IsApartLocal T d → DeclaresFree T d
      by_demand (declares true w) a = tt
      by_demand (declares false w) a = a.value
      by_demand _ a = tt

  abbrev s0 : Scope
  s0 = first_scope p.name

  abbrev end : Scope
  end = inner_scope (after_decls s0 p.decls)

  all-free : AllFree T (sites p)
  all-free = less (sites p) (all-apart p h.legal.type_rules)

  -- The statements of main in the normal form are so.
  pub main-free : (d : Scope) → AllFree T (body_sites d (made_for p).body)
  main-free d = image-free T (main_unit (setting_for p)) p.body end d (all_back _ (names_sites true before_all (p.name ∷ []) ++ decls_sites s0 p.decls) (body_sites end p.body) all-free)

  -- So are those of each body.
  pub bodies-free : AllByRecursion (HasFree T) (flat_map (bodies_of (setting_for p)) (decl_list p.decls))
  bodies-free =
      copies-free T (setting_for p) p.decls s0
      (all_back _ (names_sites true before_all (p.name ∷ [])) (decls_sites s0 p.decls)
      (all_front _ (names_sites true before_all (p.name ∷ []) ++ decls_sites s0 p.decls) (body_sites end p.body) all-free))

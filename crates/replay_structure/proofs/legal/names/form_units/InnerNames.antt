-- What the statements of main and of each body of the normal form of a legal program declare are inner names.
use Rattle.std.proofs.Common.{◌≡◌, ℕ, ◌==◌, Bool, true, false, not, ◌||◌, ◌&&◌, nat_lt, List, [], ◌∷◌, length, flat_map, slice_get, is_none, Option, Some, None, refl, sym, ap₂, subst, ◌∙◌}
use Rattle.std.specs.List.{AllByRecursion}
use Rattle.std.specs.Option.{IsSomeAnd}
use Rattle.std.proofs.lemmas.Bool.{or_parts, lt-ltb}
use Rattle.std.proofs.lemmas.Option.{slice_get_within}
use Rattle.common_lemmas.proofs.Lists.{all_front, all_back}
use Rattle.ada_tree.specs.Lexical.{IsIdentifier}
use Rattle.ada_tree.specs.PlainStmt.{PBody}
use Rattle.ada_tree.specs.PlainDecl.{DTaskBody, PDecls, no_decl, decl_then}
use Rattle.ada_tree.specs.PlainProgram.{PProgram}
use Rattle.ada_tree.specs.Every.{EveryDecls, EveryBody}
use Rattle.ada_static_rules.specs.Scope.{Scope}
use Rattle.ada_static_rules.specs.StaticValue.{mark_named}
use Rattle.ada_static_rules.specs.Declaring.{first_scope, inner_scope, after_decls}
use Rattle.ada_static_rules.specs.Demand.{Demand, declares, declares_entry, labels, gives_body, makes_instance, handles, Site}
use Rattle.ada_static_rules.specs.RuleDuplicate.{is_predefined, is_among}
use Rattle.ada_static_rules.specs.Sites.{decls_sites, body_sites, sites}
use Rattle.ada_static_rules.specs.Refusals.{types_in}
use Rattle.ada_decl_rules.specs.declared.duplicates.namings_in_order.Naming.{Naming}
use Rattle.ada_decl_rules.specs.declared.duplicates.namings_in_order.Naming.TheVariants.{Declares, Labels, Once}
use Rattle.ada_decl_rules.specs.duplicates.NamingsInOrder.{naming_in, and_then, namings_of, declared}
use Rattle.ada_decl_rules.specs.duplicates.NamedSoFar.{object_words}
use Rattle.syn_event.specs.DeclaredTasks.{text_of, decl_list}
use Rattle.syn_event.specs.RuleReservedName.{is_reserved}
use Rattle.task_laws.proofs.legal.types.ApartNames.{FixedDiffers, AllFixedDiffer, marks-lack}
use Rattle.normal_model.specs.RewrittenUnit.{RewrittenUnit}
use Rattle.normal_model.specs.NormalStmts.{normal_body}
use Rattle.normal_laws.specs.structure.once.Apart.{fixed_names, IsFitIn}
use Rattle.normal_laws.specs.structure.once.Names.{body_names, IsFitDecl}
use Rattle.normal_laws.proofs.structure.once.Places.{body-is}
use Rattle.normal_laws.proofs.structure.once.Rewritten.{body-same}
use Rattle.normal_laws.proofs.structure.once.Fits.{inner_is_fit}
use Rattle.normal_laws.proofs.legality.declares_once.Ids.{IsGoodId}
use Rattle.normal_laws.proofs.legality.declares_once.Good.{good_names, program-good}
use Rattle.normal_laws.proofs.legality.declares_once.Inner.{IsInner, body-inner}
use Rattle.normal_laws.specs.existence.Laws.{IsLegalOriginal}
use Rattle.replay_structure.specs.legal.names.form_units.Inner.{inner_name}

-- a name that is declared as no name of main, or as a variable of it, is an inner one
abbrev pub DeclaresInner : (ℕ → Bool) → Demand → Type 0
DeclaresInner inner (declares false w) = inner w.name.0 ≡ true
DeclaresInner inner _ = Prim.Unit {0}

abbrev pub AllInner : (ℕ → Bool) → List Site → Type 0
AllInner inner xs = AllByRecursion (λ (x : Site). DeclaresInner inner x.demand) xs

-- so it is with what is named
abbrev IsInnerNaming : (ℕ → Bool) → Naming → Type 0
IsInnerNaming inner (Declares false again w) = inner w.name.0 ≡ true
IsInnerNaming inner _ = Prim.Unit {0}

-- ---- places and what is named at them

one-site : (inner : ℕ → Bool) (s : Scope) (d : Demand) (rest : List Naming) → AllByRecursion (IsInnerNaming inner) (and_then (naming_in s d) rest) → DeclaresInner inner d × AllByRecursion (IsInnerNaming inner) rest
one-site inner s (declares true w) rest h = (tt, h.1)
one-site inner s (declares false w) rest h = (h.0, h.1)
one-site inner s (declares_entry names w) rest h = (tt, h.1)
one-site inner s (labels w) rest h = (tt, h.1)
one-site inner s (gives_body w) rest h = (tt, h.1)
one-site inner s (makes_instance w) rest h = (tt, h.1)
one-site inner s (handles names w) rest h = (tt, h.1)
one-site inner s _ rest h = (tt, h)

sites-inner : (inner : ℕ → Bool) (ss : List Site) → AllByRecursion (IsInnerNaming inner) (namings_of ss) → AllInner inner ss
unfolding namings_of
sites-inner inner [] h = tt
sites-inner inner (x ∷ ss) h = let q = one-site inner x.scope x.demand (namings_of ss) h in (q.0, sites-inner inner ss q.1)

-- where no fixed name is this one, all fixed names differ from it
differs : (n : ℕ) (s : Scope) (d : Demand) (rest : List Naming) → is_among (fixed_names (and_then (naming_in s d) rest)) n ≡ false → FixedDiffers n d × (is_among (fixed_names rest) n ≡ false)
differs n s (declares true w) rest e = let q = or_parts (w.name.0 == n) (is_among (fixed_names rest) n) e in (q.0, q.1)
differs n s (declares false w) rest e = (tt, e)
differs n s (declares_entry names w) rest e = (tt, e)
differs n s (labels w) rest e = (tt, e)
differs n s (gives_body w) rest e = (tt, e)
differs n s (makes_instance w) rest e = (tt, e)
differs n s (handles names w) rest e = (tt, e)
differs n s _ rest e = (tt, e)

all-differ : (n : ℕ) (ss : List Site) → is_among (fixed_names (namings_of ss)) n ≡ false → AllFixedDiffer n ss
unfolding namings_of
all-differ n [] e = tt
all-differ n (x ∷ ss) e = let q = differs n x.scope x.demand (namings_of ss) e in (q.0, all-differ n ss q.1)

module _ (p : PProgram) (h : IsLegalOriginal p) where
  abbrev fixed : List ℕ
  fixed = fixed_names (namings_of (sites p))

  abbrev inner : ℕ → Bool
  inner = inner_name p

  abbrev s0 : Scope
  s0 = first_scope p.name

  -- ---- one naming

  -- what main does not fix is the name of no type
  no-type : (n : ℕ) → is_predefined n ≡ false → is_among fixed n ≡ false → mark_named (types_in p) (record { 0 = n }) ≡ None
  no-type n u e = marks-lack n p.name p.decls u (all_front _ (decls_sites s0 p.decls) (body_sites (inner_scope (after_decls s0 p.decls)) p.body) (all-differ n (sites p) e).1)

  good-plain : (n : ℕ) → IsGoodId p.names n → (nat_lt n (length p.names) && not (is_reserved (text_of p.names record { 0 = n }))) ≡ true
  good-plain n g = by_place (slice_get p.names n) refl g.there
    where
      by_place : (o : Option (List ℕ)) → slice_get p.names n ≡ o → IsSomeAnd o IsIdentifier → (nat_lt n (length p.names) && not (is_reserved (text_of p.names record { 0 = n }))) ≡ true
      by_place None e k = absurd k
      by_place (Some t) e k = ap₂ (λ (a b : Bool). a && not b) (lt-ltb n (length p.names) (slice_get_within p.names n t e)) g.free

  fit-inner : (n : Naming) → IsFitIn fixed n → IsInner p.names n → IsInnerNaming inner n
  fit-inner (Declares true again w) fit good = tt
  fit-inner (Labels w) fit good = tt
  fit-inner (Once again w) fit good = tt
  fit-inner (Declares false again w) fit good =
      let n : ℕ = w.name.0 in
      let alone : is_predefined n ≡ false = (or_parts (is_predefined n) again (or_parts (is_predefined n || again) false (or_parts (is_predefined n || again || false) false fit.0).0).0).0 in
      ap₂ (λ (a b : Bool). a && b) (good-plain n good.1.0) (ap₂ (λ (a : Bool) (o : Option _). not a && is_none o) alone (no-type n alone fit.1.0))

  fit-all : (ns : List Naming) → AllByRecursion (IsFitIn fixed) ns → AllByRecursion (IsInner p.names) ns → AllByRecursion (IsInnerNaming inner) ns
  fit-all [] f g = tt
  fit-all (n ∷ ns) f g = (fit-inner n f.0 g.0, fit-all ns f.1 g.1)

  -- ---- bodies

  -- the statements that a unit gets for these declare inner names, whatever can be used at them
  image-inner : (u : RewrittenUnit) (its : PBody) (d : Scope) → EveryBody (good_names p.names) 1 its → AllByRecursion (IsFitIn fixed) (body_names its) → AllInner inner (body_sites d (normal_body u its))
  image-inner u its d every fit =
      sites-inner inner (body_sites d (normal_body u its))
      (subst (AllByRecursion (IsInnerNaming inner)) (sym (body-is d (normal_body u its) ∙ body-same u its)) (fit-all (body_names its) fit (body-inner p.names 1 its every)))

  -- So do those of main.
  pub main-inner : (u : RewrittenUnit) (d : Scope) → AllInner inner (body_sites d (normal_body u p.body))
  main-inner u d = image-inner u p.body d (program-good p h).3 (inner_is_fit p h.legal.type_rules).1

  -- the statements of each body among declarations of the program
  abbrev pub BodiesInner : PDecls → Type 0
  BodiesInner no_decl = Prim.Unit {0}
  BodiesInner (decl_then (DTaskBody w objects its sp) rest) = ((u : RewrittenUnit) (d : Scope) → AllInner inner (body_sites d (normal_body u its))) × BodiesInner rest
  BodiesInner (decl_then d rest) = BodiesInner rest

  each-body : (ds : PDecls) → EveryDecls (good_names p.names) ds → AllByRecursion (IsFitDecl fixed) (decl_list ds) → BodiesInner ds
  each-body no_decl every fit = tt
  each-body (decl_then (DTaskBody w objects its sp) rest) every fit =
      (λ u d. image-inner u its d every.0.4 (all_back (IsFitIn fixed) (declared false [] (flat_map object_words (decl_list objects))) (body_names its) fit.0), each-body rest every.1 fit.1)
  each-body (decl_then d rest) every fit = each-body rest every.1 fit.1

  -- And those of each body.
  pub bodies-inner : BodiesInner p.decls
  bodies-inner = each-body p.decls (program-good p h).2 (inner_is_fit p h.legal.type_rules).0

-- What the first declarations of a normal form name is what they declare, and these are names of the program.
use Rattle.std.proofs.Common.{ℕ, Bool, true, false, ◌==◌, List, [], ◌∷◌, ◌++◌, is_some, Some, refl, sym, subst}
use Rattle.std.specs.List.{AllByRecursion}
use Rattle.std.proofs.lemmas.Bool.{or_parts, or_from}
use Rattle.std.proofs.lemmas.Grind.{flat_map-append}
use Rattle.std.proofs.lemmas.List.Elements.{recursion_from_All}
use Rattle.common_lemmas.proofs.Lists.{all_joined}
use Rattle.ada_tree.specs.declared.naming.Word.{Word}
use Rattle.ada_tree.specs.PlainDecl.{PTask, PDecl, DNumber, DObject, DEnumeration, DArray, DSubtype, DException, DIntIo, DPragma, DTask, DTaskBody, PDecls, no_decl, decl_then}
use Rattle.ada_tree.specs.Every.{Rules, EveryWord, EveryDecl, EveryDecls}
use Rattle.ada_static_rules.specs.Scope.{Scope, integer_kind}
use Rattle.ada_static_rules.specs.Declaring.{declared_object, after_decl}
use Rattle.ada_static_rules.specs.RuleDuplicate.{is_among}
use Rattle.ada_static_rules.specs.Sites.{decl_sites, decls_sites}
use Rattle.syn_event.specs.NamedTasks.{type_named, with_type}
use Rattle.syn_event.specs.DeclaredTasks.{decl_list}
use Rattle.normal_model.specs.NormalTree.{mark_of, unless_left, first_decls}
use Rattle.task_laws.specs.legal.rewritten_types.Rewriting.{names_declared}
use Rattle.ada_decl_rules.proofs.duplicates.Noting.{quiet_static, namings_append, quiet_none}
use Rattle.normal_laws.proofs.structure.numbers.Listed.{IsPlain}
use Rattle.ada_decl_rules.specs.declared.duplicates.namings_in_order.Naming.{Naming}
use Rattle.ada_decl_rules.specs.duplicates.NamingsInOrder.{namings_of, declared}
use Rattle.normal_laws.specs.structure.once.Apart.{IsFreeOf, fixed_name, loose_name, fixed_names, loose_names}
use Rattle.normal_laws.proofs.structure.once.Once.{free-front, free-back, free-both}
use Rattle.ada_decl_rules.proofs.duplicates.Behind.{names_are, object_is, number_is, array_is, subtype_is, instance_is}
use Rattle.normal_laws.proofs.legality.declares_once.Ids.{IsGoodId}
use Rattle.normal_laws.proofs.legality.declares_once.Good.{good_names}
use Rattle.normal_laws.proofs.legality.declares_once.DeclaredNames.{word_ids, ids_declared}

-- ---- namings that name nothing else

-- a name that is none of those that are named
abbrev pub IsUnnamed : List Naming → ℕ → Type 0
IsUnnamed ns x = IsFreeOf (fixed_names ns) x × IsFreeOf (loose_names ns) x

declared-unnamed : (fixed : Bool) (here : List ℕ) (ws : List Word) (x : ℕ) → IsFreeOf (word_ids ws) x → IsUnnamed (declared fixed here ws) x
declared-unnamed fixed here [] x h = (refl, refl)
declared-unnamed true here (w ∷ ws) x h =
    let q = or_parts (w.name.0 == x) (is_among (word_ids ws) x) h in
    let r = declared-unnamed true (w.name.0 ∷ here) ws x q.1 in
    (or_from (w.name.0 == x) (is_among (fixed_names (declared true (w.name.0 ∷ here) ws)) x) q.0 r.0, r.1)
declared-unnamed false here (w ∷ ws) x h =
    let q = or_parts (w.name.0 == x) (is_among (word_ids ws) x) h in
    let r = declared-unnamed false (w.name.0 ∷ here) ws x q.1 in
    (r.0, or_from (w.name.0 == x) (is_among (loose_names (declared false (w.name.0 ∷ here) ws)) x) q.0 r.1)

decl-unnamed : (s : Scope) (d : PDecl) → IsPlain d → (x : ℕ) → IsFreeOf (word_ids (names_declared d)) x → IsUnnamed (namings_of (decl_sites s d)) x
decl-unnamed s (DTask t sp) plain x h = absurd plain
decl-unnamed s (DTaskBody w objects its sp) plain x h = absurd plain
decl-unnamed s (DNumber w e sp) plain x h = subst (λ (l : List Naming). IsUnnamed l x) (sym (number_is s w e sp)) (declared-unnamed true s.here (w ∷ []) x h)
decl-unnamed s (DObject ws c y i sp) plain x h = subst (λ (l : List Naming). IsUnnamed l x) (sym (object_is s ws c y i (declared_object s c y))) (declared-unnamed _ s.here ws x h)
decl-unnamed s (DEnumeration w ws sp) plain x h = subst (λ (l : List Naming). IsUnnamed l x) (sym (names_are true s (w ∷ ws))) (declared-unnamed true s.here (w ∷ ws) x h)
decl-unnamed s (DArray w q y sp) plain x h = subst (λ (l : List Naming). IsUnnamed l x) (sym (array_is s w q y sp)) (declared-unnamed true s.here (w ∷ []) x h)
decl-unnamed s (DSubtype w y sp) plain x h = subst (λ (l : List Naming). IsUnnamed l x) (sym (subtype_is s w y sp)) (declared-unnamed true s.here (w ∷ []) x h)
decl-unnamed s (DException ws sp) plain x h = subst (λ (l : List Naming). IsUnnamed l x) (sym (names_are true s ws)) (declared-unnamed true s.here ws x h)
decl-unnamed s (DIntIo w sp) plain x h = subst (λ (l : List Naming). IsUnnamed l x) (sym (instance_is s w sp)) (declared-unnamed true s.here (w ∷ []) x h)
decl-unnamed s (DPragma e sp) plain x h = subst (λ (l : List Naming). IsUnnamed l x) (sym (quiet_static s (Some integer_kind) e)) (refl, refl)

joined-unnamed : (a b : List Naming) (x : ℕ) → IsUnnamed a x → IsUnnamed b x → IsUnnamed (a ++ b) x
joined-unnamed a b x h k = (
  subst (λ (l : List ℕ). IsFreeOf l x) (sym (flat_map-append fixed_name a b)) (free-both (fixed_names a) (fixed_names b) x h.0 k.0),
  subst (λ (l : List ℕ). IsFreeOf l x) (sym (flat_map-append loose_name a b)) (free-both (loose_names a) (loose_names b) x h.1 k.1),
)

-- what is no name of plain declarations is not named there
pub decls-unnamed : (ds : PDecls) (s : Scope) → AllByRecursion IsPlain (decl_list ds) → (x : ℕ) → IsFreeOf (ids_declared ds) x → IsUnnamed (namings_of (decls_sites s ds)) x
decls-unnamed no_decl s plain x h = subst (λ (l : List Naming). IsUnnamed l x) (sym quiet_none) (refl, refl)
decls-unnamed (decl_then d rest) s plain x h =
    subst (λ (l : List Naming). IsUnnamed l x) (sym (namings_append (decl_sites s d) (decls_sites (after_decl s d) rest)))
    (joined-unnamed (namings_of (decl_sites s d)) (namings_of (decls_sites (after_decl s d) rest)) x
    (decl-unnamed s d plain.0 x (free-front (word_ids (names_declared d)) (ids_declared rest) x h))
    (decls-unnamed rest (after_decl s d) plain.1 x (free-back (word_ids (names_declared d)) (ids_declared rest) x h)))

-- ---- good names

module _ (names : List (List ℕ)) where
  abbrev r : Rules
  r = good_names names

  pub words-good : (ws : List Word) → AllByRecursion (EveryWord r) ws → AllByRecursion (IsGoodId names) (word_ids ws)
  words-good [] h = tt
  words-good (w ∷ ws) h = (h.0, words-good ws h.1)

  decl-good : (d : PDecl) → EveryDecl r d → AllByRecursion (EveryWord r) (names_declared d)
  decl-good (DNumber w e s) h = (h.1, tt)
  decl-good (DObject ws c x i s) h = recursion_from_All (EveryWord r) ws h.1.1
  decl-good (DEnumeration w ws s) h = (h.1, recursion_from_All (EveryWord r) ws h.2.1)
  decl-good (DArray w q x s) h = (h.1, tt)
  decl-good (DSubtype w x s) h = (h.1, tt)
  decl-good (DException ws s) h = recursion_from_All (EveryWord r) ws h.1.1
  decl-good (DIntIo w s) h = (h.1, tt)
  decl-good (DPragma e s) h = tt
  decl-good (DTask t s) h = (h.1.0, tt)
  decl-good (DTaskBody w ds b s) h = tt

  one-good : (d : PDecl) (rest : List ℕ) → EveryDecl r d → AllByRecursion (IsGoodId names) rest → AllByRecursion (IsGoodId names) (word_ids (names_declared d) ++ rest)
  one-good d rest h k = all_joined (IsGoodId names) (word_ids (names_declared d)) rest (words-good (names_declared d) (decl-good d h)) k

  -- the names of the first declarations are good
  pub first-good : (ds : PDecls) (kinds : List PTask) → EveryDecls r ds → AllByRecursion (IsGoodId names) (ids_declared (first_decls kinds ds))
  first-good no_decl kinds h = tt
  first-good (decl_then (DTask t s) rest) kinds h = first-good rest (with_type kinds t.of_kind t) h.1
  first-good (decl_then (DTaskBody w objects its s) rest) kinds h = first-good rest kinds h.1
  first-good (decl_then (DObject ws c x i s) rest) kinds h = by_test (is_some (type_named kinds (mark_of x))) (first-good rest kinds h.1)
    where
      by_test : (b : Bool) → AllByRecursion (IsGoodId names) (ids_declared (first_decls kinds rest)) → AllByRecursion (IsGoodId names) (ids_declared (unless_left b (DObject ws c x i s) (first_decls kinds rest)))
      by_test true k = k
      by_test false k = one-good (DObject ws c x i s) _ h.0 k
  first-good (decl_then (DNumber w e s) rest) kinds h = one-good (DNumber w e s) _ h.0 (first-good rest kinds h.1)
  first-good (decl_then (DEnumeration w ws s) rest) kinds h = one-good (DEnumeration w ws s) _ h.0 (first-good rest kinds h.1)
  first-good (decl_then (DArray w q x s) rest) kinds h = one-good (DArray w q x s) _ h.0 (first-good rest kinds h.1)
  first-good (decl_then (DSubtype w x s) rest) kinds h = one-good (DSubtype w x s) _ h.0 (first-good rest kinds h.1)
  first-good (decl_then (DException ws s) rest) kinds h = one-good (DException ws s) _ h.0 (first-good rest kinds h.1)
  first-good (decl_then (DIntIo w s) rest) kinds h = one-good (DIntIo w s) _ h.0 (first-good rest kinds h.1)
  first-good (decl_then (DPragma e s) rest) kinds h = one-good (DPragma e s) _ h.0 (first-good rest kinds h.1)

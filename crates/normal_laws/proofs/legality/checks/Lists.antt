-- The places of lists of declarations, one list behind the other, and what stands around behind them.
use Rattle.std.proofs.Common.{◌≡◌, ℕ, Bool, true, false, ◌==◌, ◌||◌, List, [], ◌∷◌, ◌++◌, None, refl, sym, ap, subst, ◌∙◌}
use Rattle.std.specs.List.{AllByRecursion, list_any}
use Rattle.std.proofs.lemmas.Bool.{or_left, or_right}
use Rattle.ada_tree.specs.declared.naming.Span.{Span}
use Rattle.ada_tree.specs.declared.naming.Word.{Word}
use Rattle.ada_tree.specs.TypeTable.{TypeTable}
use Rattle.ada_tree.specs.PlainStmt.{PBody}
use Rattle.ada_tree.specs.PlainDecl.{PDecl, DNumber, DObject, DEnumeration, DArray, DSubtype, DException, DIntIo, DPragma, DTask, DTaskBody, PDecls, no_decl, decl_then, decls_of}
use Rattle.ada_tree.specs.Every.{EveryDecl}
use Rattle.ada_tree.specs.WellPlaced.{well_placed}
use Rattle.syn_event.specs.declared.numbering.Mode.TheVariants.{Any}
use Rattle.syn_event.specs.CheckScope.{CheckScope, CheckSite}
use Rattle.syn_event.specs.CheckSites as check
use Rattle.syn_event.specs.DeclaredTasks.{decl_list}
use Rattle.task_laws.specs.legal.sites.Met.{IsCheckMet}
use Rattle.normal_laws.specs.structure.asked.Pieces.{IsAmong, first_among, later_among}
use Rattle.normal_laws.proofs.structure.numbers.Listed.{IsOneBody}
use Rattle.common_lemmas.proofs.Numbers.{equal_self, equal_is}
use Rattle.common_lemmas.proofs.Lists.{all_front, all_back, all_joined}
use Rattle.normal_laws.proofs.structure.checked.MainScopes.{decls-frame}
use Rattle.normal_laws.proofs.legality.checks.Declared.{DeclFits, decl-met}

-- ---- lists of declarations

pub after-lists : (xs ys : List PDecl) (d : CheckScope) → check.after_decls d (decls_of (xs ++ ys)) ≡ check.after_decls (check.after_decls d (decls_of xs)) (decls_of ys)
after-lists [] ys d = refl
after-lists (x ∷ xs) ys d = after-lists xs ys (check.after_decl d x)

-- bodies add nothing to what stands around
body-still : (x : PDecl) (d : CheckScope) → IsOneBody x → check.after_decl d x ≡ d
body-still (DTaskBody w objects its s) d h = refl
body-still (DTask t s) d h = absurd h
body-still (DNumber w e s) d h = absurd h
body-still (DObject ws c x i s) d h = absurd h
body-still (DEnumeration w ws s) d h = absurd h
body-still (DArray w q x s) d h = absurd h
body-still (DSubtype w x s) d h = absurd h
body-still (DException ws s) d h = absurd h
body-still (DIntIo w s) d h = absurd h
body-still (DPragma e s) d h = absurd h

pub bodies-still : (xs : List PDecl) (d : CheckScope) → AllByRecursion IsOneBody xs → check.after_decls d (decls_of xs) ≡ d
bodies-still [] d h = refl
bodies-still (x ∷ xs) d h = ap (λ c. check.after_decls c (decls_of xs)) (body-still x d h.0) ∙ bodies-still xs d h.1

-- ---- places

module _ (names : List (List ℕ)) (bodies : List ℕ) where
  abbrev M : CheckSite → Type 0
  M = IsCheckMet Any names

  abbrev At : List CheckSite → Type 0
  At xs = AllByRecursion M xs

  -- of one list and then of another
  pub lists-met : (xs ys : List PDecl) (d : CheckScope) → At (check.decls_sites d bodies (decls_of xs)) → At (check.decls_sites (check.after_decls d (decls_of xs)) bodies (decls_of ys)) → At (check.decls_sites d bodies (decls_of (xs ++ ys)))
  lists-met [] ys d h i = i
  lists-met (x ∷ xs) ys d h i =
      let here : List CheckSite = check.decl_sites d bodies x in
      let more : List CheckSite = check.decls_sites (check.after_decl d x) bodies (decls_of xs) in
      all_joined M here (check.decls_sites (check.after_decl d x) bodies (decls_of (xs ++ ys))) (all_front M here more h) (lists-met xs ys (check.after_decl d x) (all_back M here more h) i)

  -- of declarations that are no bodies
  pub plain-met : (U : TypeTable) (xs : List PDecl) (d : CheckScope) → d.types ≡ U → d.own ≡ None → AllByRecursion (EveryDecl (well_placed names)) xs → AllByRecursion (DeclFits U bodies) xs → At (check.decls_sites d bodies (decls_of xs))
  plain-met U [] d t o h f = tt
  plain-met U (x ∷ xs) d t o h f =
      let e = decls-frame (decl_then x no_decl) d in
      all_joined M (check.decl_sites d bodies x) (check.decls_sites (check.after_decl d x) bodies (decls_of xs))
      (decl-met names d o bodies x h.0 (subst (λ V. DeclFits V bodies x) (sym t) f.0)) (plain-met U xs (check.after_decl d x) (e.types ∙ t) (e.own ∙ o) h.1 f.1)

  -- of bodies
  pub bodies-met : (xs : List PDecl) (d : CheckScope) → AllByRecursion IsOneBody xs → AllByRecursion (λ x. At (check.decl_sites d bodies x)) xs → At (check.decls_sites d bodies (decls_of xs))
  bodies-met [] d h f = tt
  bodies-met (x ∷ xs) d h f =
      all_joined M (check.decl_sites d bodies x) (check.decls_sites (check.after_decl d x) bodies (decls_of xs)) f.0
      (subst (λ c. At (check.decls_sites c bodies (decls_of xs))) (sym (body-still x d h.0)) (bodies-met xs d h.1 f.1))

-- ---- the names of bodies

abbrev Has : ℕ → PDecls → Type 0
Has n ds = list_any (λ m. m == n) (check.body_names ds) ≡ true

-- behind a declaration there is no name less
more-has : (d : PDecl) (rest : PDecls) (n : ℕ) → Has n rest → Has n (decl_then d rest)
more-has (DTaskBody w objects its s) rest n h = or_right (w.name.0 == n) (list_any (λ m. m == n) (check.body_names rest)) h
more-has (DTask t s) rest n h = h
more-has (DNumber w e s) rest n h = h
more-has (DObject ws c x i s) rest n h = h
more-has (DEnumeration w ws s) rest n h = h
more-has (DArray w q x s) rest n h = h
more-has (DSubtype w x s) rest n h = h
more-has (DException ws s) rest n h = h
more-has (DIntIo w s) rest n h = h
more-has (DPragma e s) rest n h = h

-- a body among declarations is one of them
pub body-has : (ds : PDecls) (w : Word) (objects : PDecls) (its : PBody) (s : Span) → IsAmong (DTaskBody w objects its s) (decl_list ds) → Has w.name.0 ds
body-has no_decl w objects its s x' = elim x' [ ]
body-has (decl_then _ rest) w objects its s (first_among _) = or_left (w.name.0 == w.name.0) (list_any (λ m. m == w.name.0) (check.body_names rest)) (equal_self w.name.0)
body-has (decl_then d rest) w objects its s (later_among _ _ i) = more-has d rest w.name.0 (body-has rest w objects its s i)

-- a body of that name
pub record IsBodyNamed (n : ℕ) (ds : PDecls) : Type 0 where
  pub word : Word
  pub objects : PDecls
  pub body : PBody
  pub place : Span
  pub named : word.name.0 ≡ n
  pub among : IsAmong (DTaskBody word objects body place) (decl_list ds)

later-named : (n : ℕ) (d : PDecl) (rest : PDecls) → IsBodyNamed n rest → IsBodyNamed n (decl_then d rest)
later-named n d rest b = record { word = b.word; objects = b.objects; body = b.body; place = b.place; named = b.named; among = later_among d (decl_list rest) b.among }

pub has-body : (ds : PDecls) (n : ℕ) → Has n ds → IsBodyNamed n ds
has-body no_decl n h = cc
has-body (decl_then (DTaskBody w objects its s) rest) n h = by_test (w.name.0 == n) refl h (has-body rest n)
  where
    by_test : (b : Bool) → (w.name.0 == n) ≡ b → (b || list_any (λ m. m == n) (check.body_names rest)) ≡ true → (Has n rest → IsBodyNamed n rest) → IsBodyNamed n (decl_then (DTaskBody w objects its s) rest)
    by_test true e f more = record { word = w; objects = objects; body = its; place = s; named = equal_is w.name.0 n e; among = first_among (decl_list rest) }
    by_test false e f more = later-named n (DTaskBody w objects its s) rest (more f)
has-body (decl_then (DTask t s) rest) n h = later-named n (DTask t s) rest (has-body rest n h)
has-body (decl_then (DNumber w e s) rest) n h = later-named n (DNumber w e s) rest (has-body rest n h)
has-body (decl_then (DObject ws c x i s) rest) n h = later-named n (DObject ws c x i s) rest (has-body rest n h)
has-body (decl_then (DEnumeration w ws s) rest) n h = later-named n (DEnumeration w ws s) rest (has-body rest n h)
has-body (decl_then (DArray w q x s) rest) n h = later-named n (DArray w q x s) rest (has-body rest n h)
has-body (decl_then (DSubtype w x s) rest) n h = later-named n (DSubtype w x s) rest (has-body rest n h)
has-body (decl_then (DException ws s) rest) n h = later-named n (DException ws s) rest (has-body rest n h)
has-body (decl_then (DIntIo w s) rest) n h = later-named n (DIntIo w s) rest (has-body rest n h)
has-body (decl_then (DPragma e s) rest) n h = later-named n (DPragma e s) rest (has-body rest n h)

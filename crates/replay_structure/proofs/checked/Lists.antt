-- Declarations of main as a list: what stands around behind them, and what holds at the places of each.
use Rattle.std.proofs.Common.{◌≡◌, ℕ, List, [], ◌∷◌, ◌++◌, refl}
use Rattle.std.specs.List.{AllByRecursion}
use Rattle.common_lemmas.proofs.Lists.{all_front, all_back, all_joined}
use Rattle.ada_tree.specs.PlainDecl.{PDecl, PDecls, no_decl, decl_then, decls_of}
use Rattle.syn_event.specs.CheckScope.{CheckScope, CheckSite}
use Rattle.syn_event.specs.CheckSites.{after_decl, after_decls, decl_sites, decls_sites}
use Rattle.syn_event.specs.DeclaredTasks.{decl_list}

-- ---- what stands around

abbrev pub after_all : CheckScope → List PDecl → CheckScope
after_all c [] = c
after_all c (x ∷ xs) = after_all (after_decl c x) xs

pub after-listed : (ds : PDecls) (c : CheckScope) → after_decls c ds ≡ after_all c (decl_list ds)
after-listed no_decl c = refl
after-listed (decl_then x ds) c = after-listed ds (after_decl c x)

pub after-of : (xs : List PDecl) (c : CheckScope) → after_decls c (decls_of xs) ≡ after_all c xs
after-of [] c = refl
after-of (x ∷ xs) c = after-of xs (after_decl c x)

pub after-joined : (xs ys : List PDecl) (c : CheckScope) → after_all c (xs ++ ys) ≡ after_all (after_all c xs) ys
after-joined [] ys c = refl
after-joined (x ∷ xs) ys c = after-joined xs ys (after_decl c x)

-- ---- places

module _ (P : CheckSite → Type 0) (bodies : List ℕ) where
  -- it holds at the places of each declaration
  abbrev pub AllAlong : CheckScope → List PDecl → Type 0
  AllAlong c [] = Unit {0}
  AllAlong c (x ∷ xs) = AllByRecursion P (decl_sites c bodies x) × AllAlong (after_decl c x) xs

  pub along-listed : (ds : PDecls) (c : CheckScope) → AllByRecursion P (decls_sites c bodies ds) → AllAlong c (decl_list ds)
  along-listed no_decl c h = tt
  along-listed (decl_then x ds) c h =
      (all_front P (decl_sites c bodies x) (decls_sites (after_decl c x) bodies ds) h, along-listed ds (after_decl c x) (all_back P (decl_sites c bodies x) (decls_sites (after_decl c x) bodies ds) h))

  pub along-of : (xs : List PDecl) (c : CheckScope) → AllAlong c xs → AllByRecursion P (decls_sites c bodies (decls_of xs))
  along-of [] c h = tt
  along-of (x ∷ xs) c h = all_joined P (decl_sites c bodies x) (decls_sites (after_decl c x) bodies (decls_of xs)) h.0 (along-of xs (after_decl c x) h.1)

  pub along-join : (xs ys : List PDecl) (c : CheckScope) → AllAlong c xs → AllAlong (after_all c xs) ys → AllAlong c (xs ++ ys)
  along-join [] ys c h i = i
  along-join (x ∷ xs) ys c h i = (h.0, along-join xs ys (after_decl c x) h.1 i)

  pub along-front : (xs ys : List PDecl) (c : CheckScope) → AllAlong c (xs ++ ys) → AllAlong c xs
  along-front [] ys c h = tt
  along-front (x ∷ xs) ys c h = (h.0, along-front xs ys (after_decl c x) h.1)

  pub along-back : (xs ys : List PDecl) (c : CheckScope) → AllAlong c (xs ++ ys) → AllAlong (after_all c xs) ys
  along-back [] ys c h = h
  along-back (x ∷ xs) ys c h = along-back xs ys (after_decl c x) h.1

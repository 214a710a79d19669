-- Declarations are gone through one after the other, and what they add stands around those behind them.
use Rattle.std.specs.Prelude.{◌≡◌, ℕ, ◌+◌, ◌-◌, ◌<◌, ◌≤◌, not, if◌then◌else◌, Bool, true, false, List, [], ◌∷◌, ◌++◌, length, map, drop, get_or, Option, Some, None, refl}
use Rattle.std.proofs.Common.{sym, ap, ◌∙◌}
use Rattle.std.proofs.lemmas.List.{drop_all}
use Rattle.ada_tree.specs.declared.naming.Span.{Span}
use Rattle.ada_tree.specs.declared.naming.Word.{Word}
use Rattle.ada_tree.specs.declared.naming.NameId.{NameId}
use Rattle.ada_static_rules.specs.RuleDuplicate.{is_among}
use Rattle.ada_tree.specs.declared.declarations.Decl.{Decl}
use Rattle.ada_tree.specs.declared.declarations.EntryDecl.{EntryDecl}
use Rattle.ada_tree.specs.PlainDecl.{OPlain, OArray, PEntry, plain_entry, PDecl, DNumber, DObject, DEnumeration, DArray, DSubtype, DException, DIntIo, DPragma, DTask, DTaskBody, PDecls, no_decl, decl_then, decls_of, plain_decl}
use Rattle.syn_event.specs.declared.meanings.Meant.{Meant}
use Rattle.syn_event.specs.declared.meanings.Meant.TheVariants.{MainProcedure, TaskType, TaskOf, Shared, Inner}
use Rattle.syn_event.specs.CheckRefusals.{CheckRefusal}
use Rattle.syn_event.specs.CheckScope.{EnclosingUnit as OwnUnit, CheckScope, meaning, CheckDemand, CheckSite, needs_body}
use Rattle.syn_event.specs.CheckSites.{site, with_meant, with_declared_object, with_object, meant_by_task, enclosing_unit, after_decl, after_decls, in_body, after_own_object, after_own}
use Rattle.ada_check_rules.specs.rules.Sooner.{sooner, found}
use Rattle.ada_check_rules.specs.rules.Rules.{refused}
use Rattle.ada_check_rules.specs.declared.rules.refusals.Rule.TheVariants.{BodyMissing}
use Rattle.ada_check_rules.specs.rules.RefusedFirst.{Standard, refused_first_at, refused_first}
use Rattle.ada_check_rules.specs.scopes.Nested.{IsWithin}
use Rattle.scoped_names.specs.name_sets.Numbers.{numbers_in}
use Rattle.ada_check_rules.proofs.rules.Meeting.{at_needs, met_one, met_append, joined, before}
use Rattle.ada_check_rules.proofs.rules.Listing.{gone, ended}
use Rattle.ada_check_rules.proofs.scopes.Leaving.{within_meant}
use Rattle.ada_check_rules.proofs.rules.FromBehind.{back_cut}

pub entries_back : (xs : List EntryDecl) (k : ℕ) (x : EntryDecl) (names more : List NameId) → k < length xs → x ≡ get_or xs (length xs - 1 - k) x
    → names ≡ map (λ (e : PEntry). e.name.name) (map plain_entry (drop (length xs - k) xs)) → more ≡ x.name.name ∷ names
    → more ≡ map (λ (e : PEntry). e.name.name) (map plain_entry (drop (length xs - (k + 1)) xs))
entries_back xs k x names more h is_x told is_more =
    is_more ∙ ap (λ l. x.name.name ∷ l) told ∙ ap (λ (ys : List EntryDecl). map (λ (e : PEntry). e.name.name) (map plain_entry ys)) (sym (back_cut xs k x h is_x))

-- ---- a task without a body

flipped : (b : Bool) (s : Span) → refused BodyMissing (if not b then s ∷ [] else []) ≡ found 20 (if b then [] else s ∷ [])
flipped true s = refl
flipped false s = refl

pub bodiless : (by : Standard) (around : CheckScope) (names : List NameId) (w : Word) (s : Span) (b : Bool) → b ≡ is_among (numbers_in names) w.name.0 → refused BodyMissing (if not b then s ∷ [] else []) ≡ refused_first_at by around (needs_body (numbers_in names) w s)
bodiless by around names w s b h =
    ap (λ (t : Bool). refused BodyMissing (if not t then s ∷ [] else [])) h
    ∙ flipped (is_among (numbers_in names) w.name.0) s
    ∙ sym (at_needs by around (numbers_in names) w s)

-- a task: its body, its name, its entries and its priorities
pub task_met : (by : Standard) (s : CheckScope) (one two : CheckDemand) (xs ys : List CheckSite) (m n e p a b r : Option CheckRefusal) → m ≡ refused_first_at by s one → n ≡ refused_first_at by s two → e ≡ refused_first by xs → p ≡ refused_first by ys
    → a ≡ sooner m n → b ≡ sooner a e → r ≡ sooner b p → r ≡ refused_first by (site s one ∷ site s two ∷ (xs ++ ys))
task_met by s one two xs ys m n e p a b r is_m is_n is_e is_p is_a is_b is =
    is
    ∙ joined by (site s one ∷ site s two ∷ xs) ys b p
    (is_b ∙ joined by (site s one ∷ site s two ∷ []) xs a e (is_a ∙ before by s one (site s two ∷ []) m n is_m (is_n ∙ sym (met_one by s two))) is_e)
    is_p

-- ---- what declarations leave as it was

meant_only : (m : Meant) (s : CheckScope) (ws : List Word) (names : List (ℕ × Meant)) → record (with_meant m s ws) { names = names } ≡ record s { names = names }
meant_only m s [] names = refl
meant_only m s (w ∷ ws) names = meant_only m (record s { names = (w.name.0, m) ∷ s.names }) ws names

-- the task in whose body a place is, and the types
pub record KeepsRest (now s : CheckScope) : Type 0 where
  pub own_is : now.own ≡ s.own
  pub types_are : now.types ≡ s.types

kept_same : (s : CheckScope) → KeepsRest s s
kept_same s = record { own_is = refl; types_are = refl }

kept_meant : (m : Meant) (s : CheckScope) (ws : List Word) → KeepsRest (with_meant m s ws) s
kept_meant m s ws = let same = meant_only m s ws [] in record { own_is = ap (λ x. x.own) same; types_are = ap (λ x. x.types) same }

kept_value : (b : Bool) (s : CheckScope) (ws : List Word) → KeepsRest (with_declared_object b s ws) s
kept_value true s ws = kept_meant Shared s ws
kept_value false s ws = kept_same s

kept_object : (o : Option Meant) (s : CheckScope) (mark : Word) (b : Bool) (ws : List Word) → KeepsRest (with_object s o mark b ws) s
kept_object (Some TaskType) s mark b ws = kept_meant (TaskOf mark.name) s ws
kept_object (Some MainProcedure) s mark b ws = kept_value b s ws
kept_object (Some (TaskOf u)) s mark b ws = kept_value b s ws
kept_object (Some Shared) s mark b ws = kept_value b s ws
kept_object (Some Inner) s mark b ws = kept_value b s ws
kept_object None s mark b ws = kept_value b s ws

pub kept_decl : (s : CheckScope) (d : PDecl) → KeepsRest (after_decl s d) s
kept_decl s (DNumber w e p) = kept_same s
kept_decl s (DObject ws c (OPlain x) i p) = kept_object (meaning s x.mark.name) s x.mark _ ws
kept_decl s (DObject ws c (OArray r x) i p) = kept_object (meaning s x.mark.name) s x.mark true ws
kept_decl s (DEnumeration w ws p) = kept_same s
kept_decl s (DArray w r x p) = kept_same s
kept_decl s (DSubtype w x p) = kept_same s
kept_decl s (DException ws p) = kept_same s
kept_decl s (DIntIo w p) = kept_same s
kept_decl s (DPragma e p) = kept_same s
kept_decl s (DTask t p) =
    let kept = kept_meant (meant_by_task t) (record s { units = enclosing_unit t ∷ s.units }) (t.name ∷ []) in
    record { own_is = kept.own_is; types_are = kept.types_are }
kept_decl s (DTaskBody w objects its p) = kept_same s

pub own_none : (s now : CheckScope) (d : PDecl) → s.own ≡ None → now ≡ after_decl s d → now.own ≡ None
own_none s now d h same = ap (λ x. x.own) same ∙ (kept_decl s d).own_is ∙ h

pub types_after : (s : CheckScope) (ds : PDecls) → (after_decls s ds).types ≡ s.types
types_after s no_decl = refl
types_after s (decl_then d rest) = types_after (after_decl s d) rest ∙ (kept_decl s d).types_are

-- ---- a body

object_only : (s : CheckScope) (d : PDecl) (names : List (ℕ × Meant)) → record (after_own_object s d) { names = names } ≡ record s { names = names }
object_only s (DNumber w e p) names = refl
object_only s (DObject ws c x i p) names = meant_only Inner s ws names
object_only s (DEnumeration w ws p) names = refl
object_only s (DArray w r x p) names = refl
object_only s (DSubtype w x p) names = refl
object_only s (DException ws p) names = refl
object_only s (DIntIo w p) names = refl
object_only s (DPragma e p) names = refl
object_only s (DTask t p) names = refl
object_only s (DTaskBody w objects its p) names = refl

own_only : (s : CheckScope) (ds : PDecls) (names : List (ℕ × Meant)) → record (after_own s ds) { names = names } ≡ record s { names = names }
own_only s no_decl names = refl
own_only s (decl_then d rest) names = own_only (after_own_object s d) rest names ∙ object_only s d names

within_object : (i s : CheckScope) (d : PDecl) → IsWithin i s → IsWithin (after_own_object i d) s
within_object i s (DNumber w e p) h = h
within_object i s (DObject ws c x v p) h = within_meant Inner i s ws h
within_object i s (DEnumeration w ws p) h = h
within_object i s (DArray w r x p) h = h
within_object i s (DSubtype w x p) h = h
within_object i s (DException ws p) h = h
within_object i s (DIntIo w p) h = h
within_object i s (DPragma e p) h = h
within_object i s (DTask t p) h = h
within_object i s (DTaskBody w objects its p) h = h

within_own : (i s : CheckScope) (ds : PDecls) → IsWithin i s → IsWithin (after_own i ds) s
within_own i s no_decl h = h
within_own i s (decl_then d rest) h = within_own (after_own_object i d) s rest (within_object i s d h)

pub within_body : (s now : CheckScope) (w : Word) (ds : PDecls) → now ≡ after_own (in_body s w) ds → IsWithin now s
within_body s now w ds same = let h = within_own (in_body s w) s ds ([], refl) in (h.0, ap (λ x. x.names) same ∙ h.1)

abbrev outside_body : CheckScope → CheckScope → CheckScope
outside_body s x = record x { names = s.names; own = None }

pub left_body : (s now new : CheckScope) (w : Word) (ds : PDecls) (count : ℕ) → s.own ≡ None → count ≡ length s.names → now ≡ after_own (in_body s w) ds
    → ((x : CheckScope) → count ≡ length x.names → IsWithin now x → new ≡ record now { names = x.names; own = None }) → new ≡ s
left_body s now new w ds count own is_count same left =
    left s is_count (within_body s now w ds same)
    ∙ ap (outside_body s) same
    ∙ ap (λ (x : CheckScope). record x { own = None }) (own_only (in_body s w) ds s.names)
    ∙ ap (λ (o : Option OwnUnit). record s { own = o }) (sym own)

-- ---- one declaration after the other

module _ (by : Standard) (check_sites : CheckScope → PDecl → List CheckSite) (after : CheckScope → PDecl → CheckScope) (all_sites : CheckScope → PDecls → List CheckSite)
    (none : (s : CheckScope) → all_sites s no_decl ≡ []) (next : (s : CheckScope) (d : PDecl) (rest : PDecls) → all_sites s (decl_then d rest) ≡ check_sites s d ++ all_sites (after s d) rest) where
  pub decl_more : (xs : List Decl) (i : ℕ) (x : Decl) (s now : CheckScope) (a b c all : Option CheckRefusal) → drop i xs ≡ x ∷ drop (i + 1) xs
      → sooner a (refused_first by (all_sites s (decls_of (map plain_decl (drop i xs))))) ≡ all
      → b ≡ refused_first by (check_sites s (plain_decl x))
      → now ≡ after s (plain_decl x)
      → c ≡ sooner a b
      → sooner c (refused_first by (all_sites now (decls_of (map plain_decl (drop (i + 1) xs))))) ≡ all
  decl_more xs i x s now a b c all is_cut told here is_now is_c =
      let rest = decls_of (map plain_decl (drop (i + 1) xs)) in
      ap (λ z. sooner c (refused_first by (all_sites z rest))) is_now
      ∙ ap (λ o. sooner o (refused_first by (all_sites (after s (plain_decl x)) rest))) is_c
      ∙ gone a b all (refused_first by (all_sites (after s (plain_decl x)) rest)) (refused_first by (all_sites s (decls_of (map plain_decl (drop i xs)))))
      (ap (λ (ys : List Decl). refused_first by (all_sites s (decls_of (map plain_decl ys)))) is_cut
      ∙ ap (refused_first by) (next s (plain_decl x) rest)
      ∙ met_append by (check_sites s (plain_decl x)) (all_sites (after s (plain_decl x)) rest)
      ∙ ap (λ o. sooner o (refused_first by (all_sites (after s (plain_decl x)) rest))) (sym here))
      told

  pub decl_end : (xs : List Decl) (i : ℕ) (s : CheckScope) (a all : Option CheckRefusal) → length xs ≤ i
      → sooner a (refused_first by (all_sites s (decls_of (map plain_decl (drop i xs))))) ≡ all → a ≡ all
  decl_end xs i s a all h told = ended by a all (all_sites s (decls_of (map plain_decl (drop i xs)))) (ap (λ (ys : List Decl). all_sites s (decls_of (map plain_decl ys))) (drop_all i xs h) ∙ none s) told

module _ (after : CheckScope → PDecl → CheckScope) (all_after : CheckScope → PDecls → CheckScope)
    (none : (s : CheckScope) → all_after s no_decl ≡ s) (next : (s : CheckScope) (d : PDecl) (rest : PDecls) → all_after s (decl_then d rest) ≡ all_after (after s d) rest) where
  pub after_more : (xs : List Decl) (i : ℕ) (x : Decl) (s now all : CheckScope) → drop i xs ≡ x ∷ drop (i + 1) xs
      → all_after s (decls_of (map plain_decl (drop i xs))) ≡ all → now ≡ after s (plain_decl x)
      → all_after now (decls_of (map plain_decl (drop (i + 1) xs))) ≡ all
  after_more xs i x s now all is_cut told is_now =
      ap (λ z. all_after z (decls_of (map plain_decl (drop (i + 1) xs)))) is_now
      ∙ sym (next s (plain_decl x) (decls_of (map plain_decl (drop (i + 1) xs))))
      ∙ ap (λ (ys : List Decl). all_after s (decls_of (map plain_decl ys))) (sym is_cut)
      ∙ told

  pub after_end : (xs : List Decl) (i : ℕ) (s all : CheckScope) → length xs ≤ i → all_after s (decls_of (map plain_decl (drop i xs))) ≡ all → s ≡ all
  after_end xs i s all h told = sym (none s) ∙ ap (λ (ys : List Decl). all_after s (decls_of (map plain_decl ys))) (sym (drop_all i xs h)) ∙ told

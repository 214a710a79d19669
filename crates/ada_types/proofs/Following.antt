-- Declarations, one after the other: what can be used behind them, and what is refused first at their places.
use Rattle.std.specs.Prelude.{◌≡◌, ℕ, ◌+◌, ◌<◌, ◌≤◌, false, List, [], ◌∷◌, ◌++◌, length, map, drop, get_or, Option, None, refl}
use Rattle.std.proofs.Common.{sym, ap, ◌∙◌, subst, length-append}
use Rattle.std.proofs.lemmas.List.{drop_all}
use Rattle.ada_tree.specs.declared.naming.Span.{Span}
use Rattle.ada_tree.specs.declared.naming.Word.{Word}
use Rattle.ada_tree.specs.declared.declarations.Decl.{Decl}
use Rattle.ada_tree.specs.declared.declarations.DeclKind.{DeclKind, Number, Object, Enumeration, Array, Subtype, Exception, IntIo, Pragma, Task, TaskBody'}
use Rattle.ada_tree.specs.PlainDecl.{PDecl, DNumber, DObject, DEnumeration, DArray, DSubtype, DException, DIntIo, DPragma, DTask, DTaskBody, PDecls, no_decl, decl_then, decls_of, decl_at, plain_decl}
use Rattle.ada_static_rules.specs.Refusals.{Refusal}
use Rattle.ada_static_rules.specs.Scope.{Scope, Thing, EntryPart, meaning}
use Rattle.ada_static_rules.specs.Demand.{Site}
use Rattle.ada_static_rules.specs.Declaring.{with_name, with_names, seen_as, in_body, own_entries, after_own_object, after_objects, after_decl, after_decls}
use Rattle.ada_static_rules.specs.Sites.{own_object_sites, own_sites, decl_sites, decls_sites}
use Rattle.ada_static_rules.specs.Sooner.{sooner}
use Rattle.ada_static_rules.specs.RefusedFirst.{refused_first}
use Rattle.ada_scopes.specs.Nested.{IsOuter, IsOutside, IsWithin}
use Rattle.ada_decl_rules.specs.duplicates.NamedSoFar.{is_of_tasks}
use Rattle.ada_types.specs.inner.Decls.{IsDecl, AreDecls, after_body}
use Rattle.ada_scopes.specs.declared.scope.Outer.{Outer}
use Rattle.ada_scopes.specs.declared.scope.Outside.{Outside}
use Rattle.ada_types.specs.declared.walked_decls.WalkedDecl.{WalkedDecl}
use Rattle.ada_types.specs.declared.walked_decls.WalkedDecls.{WalkedDecls}
use Rattle.ada_static_rules.proofs.SoonerLaws.{sooner_assoc}
use Rattle.ada_static_rules.proofs.Meeting.{met_none, met_append}
use Rattle.ada_static_rules.proofs.Listing.{ended}
use Rattle.common_lemmas.proofs.Numbers.{within_sum}
use Rattle.common_lemmas.proofs.Lists.{rest_at}

-- the declarations from a place on
abbrev pub from : ℕ → List Decl → PDecls
from i xs = decls_of (map plain_decl (drop i xs))

from_more : (xs : List Decl) (i : ℕ) (x : Decl) → i < length xs → x ≡ get_or xs i x → from i xs ≡ decl_then (plain_decl x) (from (i + 1) xs)
from_more xs i x h is_x = ap (λ l. decls_of (map plain_decl l)) (rest_at xs i x x h is_x)

from_end : (xs : List Decl) (i : ℕ) → length xs ≤ i → from i xs ≡ no_decl
from_end xs i h = ap (λ l. decls_of (map plain_decl l)) (drop_all i xs h)

-- what is refused so far, and of the rest, is all
told_on : (xs ys : List Site) (whole b a c all : Option Refusal) → whole ≡ refused_first (xs ++ ys) → sooner a whole ≡ all → b ≡ refused_first xs → c ≡ sooner a b → sooner c (refused_first ys) ≡ all
told_on xs ys whole b a c all is told is_b is_c =
    ap (λ o. sooner o (refused_first ys)) is_c
    ∙ sooner_assoc a b (refused_first ys)
    ∙ ap (sooner a) (ap (λ o. sooner o (refused_first ys)) is_b ∙ sym (met_append xs ys) ∙ sym is)
    ∙ told

-- ---- declarations of main

pub decls_scope : (xs : List Decl) (i : ℕ) (x : Decl) (now new whole : Scope) → i < length xs → x ≡ get_or xs i x
    → after_decls now (from i xs) ≡ whole → new ≡ after_decl now (plain_decl x) → after_decls new (from (i + 1) xs) ≡ whole
decls_scope xs i x now new whole h is_x before is =
    ap (λ s. after_decls s (from (i + 1) xs)) is ∙ ap (after_decls now) (sym (from_more xs i x h is_x)) ∙ before

pub decls_told : (xs : List Decl) (i : ℕ) (x : Decl) (now new : Scope) (a b c all : Option Refusal) → i < length xs → x ≡ get_or xs i x
    → sooner a (refused_first (decls_sites now (from i xs))) ≡ all → new ≡ after_decl now (plain_decl x) → b ≡ refused_first (decl_sites now (plain_decl x)) → c ≡ sooner a b
    → sooner c (refused_first (decls_sites new (from (i + 1) xs))) ≡ all
decls_told xs i x now new a b c all h is_x before is is_b is_c =
    ap (λ s. sooner c (refused_first (decls_sites s (from (i + 1) xs)))) is
    ∙ told_on (decl_sites now (plain_decl x)) (decls_sites (after_decl now (plain_decl x)) (from (i + 1) xs)) (refused_first (decls_sites now (from i xs))) b a c all
    (ap (λ l. refused_first (decls_sites now l)) (from_more xs i x h is_x)) before is_b is_c

pub decls_done : (xs : List Decl) (i : ℕ) (s now : Scope) (a : Option Refusal) (w : WalkedDecls) → length xs ≤ i → w ≡ record { scope = now; refusal = a }
    → after_decls now (from i xs) ≡ after_decls s (decls_of (map plain_decl xs)) → sooner a (refused_first (decls_sites now (from i xs))) ≡ refused_first (decls_sites s (decls_of (map plain_decl xs)))
    → AreDecls (decls_sites s (decls_of (map plain_decl xs))) (after_decls s (decls_of (map plain_decl xs))) w
decls_done xs i s now a w h is after told =
    record {
      scope_is = ap (λ x. x.scope) is ∙ ap (after_decls now) (sym (from_end xs i h)) ∙ after;
      refusal_is = ap (λ x. x.refusal) is ∙ ended a _ (decls_sites now (from i xs)) (ap (decls_sites now) (from_end xs i h)) told;
    }

-- ---- objects of a task body

pub own_scope : (xs : List Decl) (i : ℕ) (x : Decl) (now new whole : Scope) → i < length xs → x ≡ get_or xs i x
    → after_objects now (from i xs) ≡ whole → new ≡ after_own_object now (plain_decl x) → after_objects new (from (i + 1) xs) ≡ whole
own_scope xs i x now new whole h is_x before is =
    ap (λ s. after_objects s (from (i + 1) xs)) is ∙ ap (after_objects now) (sym (from_more xs i x h is_x)) ∙ before

pub own_told : (xs : List Decl) (i : ℕ) (x : Decl) (now new : Scope) (a b c all : Option Refusal) → i < length xs → x ≡ get_or xs i x
    → sooner a (refused_first (own_sites now (from i xs))) ≡ all → new ≡ after_own_object now (plain_decl x) → b ≡ refused_first (own_object_sites now (plain_decl x)) → c ≡ sooner a b
    → sooner c (refused_first (own_sites new (from (i + 1) xs))) ≡ all
own_told xs i x now new a b c all h is_x before is is_b is_c =
    ap (λ s. sooner c (refused_first (own_sites s (from (i + 1) xs)))) is
    ∙ told_on (own_object_sites now (plain_decl x)) (own_sites (after_own_object now (plain_decl x)) (from (i + 1) xs)) (refused_first (own_sites now (from i xs))) b a c all
    (ap (λ l. refused_first (own_sites now l)) (from_more xs i x h is_x)) before is_b is_c

pub own_done : (xs : List Decl) (i : ℕ) (s now : Scope) (a : Option Refusal) (w : WalkedDecls) → length xs ≤ i → w ≡ record { scope = now; refusal = a }
    → after_objects now (from i xs) ≡ after_objects s (decls_of (map plain_decl xs)) → sooner a (refused_first (own_sites now (from i xs))) ≡ refused_first (own_sites s (decls_of (map plain_decl xs)))
    → AreDecls (own_sites s (decls_of (map plain_decl xs))) (after_objects s (decls_of (map plain_decl xs))) w
own_done xs i s now a w h is after told =
    record {
      scope_is = ap (λ x. x.scope) is ∙ ap (after_objects now) (sym (from_end xs i h)) ∙ after;
      refusal_is = ap (λ x. x.refusal) is ∙ ended a _ (own_sites now (from i xs)) (ap (own_sites now) (from_end xs i h)) told;
    }

-- ---- task bodies

-- what stands behind the objects of a body has the bodies of main, its instance, and its names behind others
pub record IsBehind (s inner : Scope) : Type 0 where
  pub bodies_are : inner.bodies ≡ s.bodies
  pub instance_is : inner.has_instance ≡ s.has_instance
  pub within : IsWithin inner s

behind_names : (s inner : Scope) (t : Thing) (ws : List Word) → IsBehind s inner → IsBehind s (with_names t inner ws)
behind_names s inner t [] h = h
behind_names s inner t (w ∷ ws) h =
    behind_names s (with_name t inner w) t ws
    record { bodies_are = h.bodies_are; instance_is = h.instance_is; within = (seen_as t w.name.0 ∷ h.within.0, ap (λ l. seen_as t w.name.0 ∷ l) h.within.1) }

behind_own : (s inner : Scope) (d : PDecl) → IsBehind s inner → IsBehind s (after_own_object inner d)
behind_own s inner (DObject names constant shape init p) h =
    behind_names s _ _ names record { bodies_are = h.bodies_are; instance_is = h.instance_is; within = h.within }
behind_own s inner (DNumber name e p) h = h
behind_own s inner (DEnumeration name literals p) h = h
behind_own s inner (DArray name index x p) h = h
behind_own s inner (DSubtype name x p) h = h
behind_own s inner (DException names p) h = h
behind_own s inner (DIntIo name p) h = h
behind_own s inner (DPragma e p) h = h
behind_own s inner (DTask t p) h = h
behind_own s inner (DTaskBody name objects its p) h = h

behind_objects : (s inner : Scope) (ds : PDecls) → IsBehind s inner → IsBehind s (after_objects inner ds)
behind_objects s inner no_decl h = h
behind_objects s inner (decl_then d rest) h = behind_objects s (after_own_object inner d) rest (behind_own s inner d h)

pub behind_body : (s : Scope) (name : Word) (ds : PDecls) → IsBehind s (after_objects (in_body s name) ds)
behind_body s name ds = behind_objects s (in_body s name) ds record { bodies_are = refl; instance_is = refl; within = ([], refl) }

-- there are the names of main
pub body_room : (s now : Scope) (name : Word) (ds : PDecls) (outer : Outer) → IsOuter s outer → now ≡ after_objects (in_body s name) ds → outer.count ≤ length now.names
body_room s now name ds outer is same =
    let h = behind_body s name ds in
    within_sum outer.count (length now.names) (length h.within.0) (length s.names) is.count_is
    (ap (λ x. length x.names) same ∙ ap length h.within.1 ∙ length-append h.within.0 s.names)

-- behind a body there is what was before it, with the marks of its objects
pub body_left : (s now new : Scope) (name : Word) (ds : PDecls) (outside : Outside) → IsOutside s outside → now ≡ after_objects (in_body s name) ds
    → ((x : Scope) → IsOutside x outside → IsWithin now x → new ≡ record x { types = now.types; bodies = name.name.0 ∷ now.bodies; has_instance = now.has_instance })
    → new ≡ after_body s name ds
body_left s now new name ds outside is same gone =
    let h = behind_body s name ds in
    gone s is (h.within.0, ap (λ x. x.names) same ∙ h.within.1)
    ∙ ap {A = Scope} (λ x. record s { types = x.types; bodies = name.name.0 ∷ x.bodies; has_instance = x.has_instance }) same
    ∙ (λ j. record s { types = (after_objects (in_body s name) ds).types; bodies = name.name.0 ∷ h.bodies_are j; has_instance = h.instance_is j })

-- a body is entered with the entries of its task
pub body_scope : (s entered : Scope) (name : Word) (own : List EntryPart) → own ≡ own_entries (meaning s name.name) → entered ≡ record s { here = []; in_main = false; own = own } → entered ≡ in_body s name
body_scope s entered name own h is = is ∙ ap {A = List EntryPart} (λ o. record s { here = []; in_main = false; own = o }) h

pub objects_in : (s entered : Scope) (name : Word) (own : List EntryPart) (ds : PDecls) → own ≡ own_entries (meaning s name.name) → entered ≡ record s { here = []; in_main = false; own = own }
    → after_objects entered ds ≡ after_objects (in_body s name) ds
objects_in s entered name own ds h is = ap (λ x. after_objects x ds) (body_scope s entered name own h is)

-- a declaration by what it is
pub of_kind : (scope : Scope) (d : Decl) (k : DeclKind) (w : WalkedDecl) → d.kind ≡ k → IsDecl (decl_sites scope (decl_at k d.span)) (after_decl scope (decl_at k d.span)) (is_of_tasks scope (decl_at k d.span)) w
    → IsDecl (decl_sites scope (plain_decl d)) (after_decl scope (plain_decl d)) (is_of_tasks scope (plain_decl d)) w
of_kind scope d k w h p = subst (λ x. IsDecl (decl_sites scope (decl_at x d.span)) (after_decl scope (decl_at x d.span)) (is_of_tasks scope (decl_at x d.span)) w) (sym h) p

pub of_plain : (scope : Scope) (d : Decl) (x : PDecl) (w : WalkedDecl) → plain_decl d ≡ x → IsDecl (decl_sites scope x) (after_decl scope x) (is_of_tasks scope x) w
    → IsDecl (decl_sites scope (plain_decl d)) (after_decl scope (plain_decl d)) (is_of_tasks scope (plain_decl d)) w
of_plain scope d x w h p = subst (λ y. IsDecl (decl_sites scope y) (after_decl scope y) (is_of_tasks scope y) w) (sym h) p

-- an object of a task body by what it is
pub own_kind : (scope : Scope) (d : Decl) (k : DeclKind) (w : WalkedDecls) → d.kind ≡ k → AreDecls (own_object_sites scope (decl_at k d.span)) (after_own_object scope (decl_at k d.span)) w
    → AreDecls (own_object_sites scope (plain_decl d)) (after_own_object scope (plain_decl d)) w
own_kind scope d k w h p = subst (λ x. AreDecls (own_object_sites scope (decl_at x d.span)) (after_own_object scope (decl_at x d.span)) w) (sym h) p

-- nothing but objects is declared in a task body
pub own_other : (scope : Scope) (k : DeclKind) (s : Span) → ((names : _) (constant : _) (shape : _) (init : _) → k ≡ Object names constant shape init → ⊥)
    → AreDecls (own_object_sites scope (decl_at k s)) (after_own_object scope (decl_at k s)) record { scope = scope; refusal = None }
own_other scope (Object ws c x i) s h = absurd (h ws c x i refl)
own_other scope (Number w e) s h = record { scope_is = refl; refusal_is = sym met_none }
own_other scope (Enumeration w ws) s h = record { scope_is = refl; refusal_is = sym met_none }
own_other scope (Array w r x) s h = record { scope_is = refl; refusal_is = sym met_none }
own_other scope (Subtype w x) s h = record { scope_is = refl; refusal_is = sym met_none }
own_other scope (Exception ws) s h = record { scope_is = refl; refusal_is = sym met_none }
own_other scope (IntIo w) s h = record { scope_is = refl; refusal_is = sym met_none }
own_other scope (Pragma e) s h = record { scope_is = refl; refusal_is = sym met_none }
own_other scope (Task t) s h = record { scope_is = refl; refusal_is = sym met_none }
own_other scope (TaskBody' w n k b) s h = record { scope_is = refl; refusal_is = sym met_none }

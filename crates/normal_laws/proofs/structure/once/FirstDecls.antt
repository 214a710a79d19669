-- The first declarations of a normal form name what they name in the program, and there other declarations name more.
use Rattle.std.proofs.Common.{◌≡◌, ℕ, Bool, true, false, ◌||◌, ◌&&◌, ◌==◌, List, [], ◌∷◌, ◌++◌, is_some, Option, Some, refl, sym, ap, ap₂, ◌∙◌, subst}
use Rattle.std.proofs.lemmas.Bool.{or_parts, or_from}
use Rattle.ada_tree.specs.declared.naming.Span.{Span}
use Rattle.ada_tree.specs.declared.naming.Word.{Word}
use Rattle.ada_tree.specs.PlainExpr.{PExpr}
use Rattle.ada_tree.specs.PlainDecl.{PShape, PInit, PTask, PDecl, DNumber, DObject, DEnumeration, DArray, DSubtype, DException, DIntIo, DPragma, DTask, DTaskBody, PDecls, no_decl, decl_then}
use Rattle.ada_static_rules.specs.Scope.{Scope, integer_kind}
use Rattle.ada_static_rules.specs.RuleDuplicate.{is_among}
use Rattle.ada_static_rules.specs.Sites.{with_words, decl_sites, decls_sites}
use Rattle.ada_static_rules.specs.Declaring.{declared_object, after_decl}
use Rattle.syn_event.specs.NamedTasks.{type_named, with_type}
use Rattle.normal_model.specs.NormalTree.{mark_of, unless_left, first_decls}
use Rattle.task_laws.specs.legal.rewritten_types.Rewriting.{names_declared}
use Rattle.ada_decl_rules.proofs.duplicates.Noting.{quiet_static, namings_append, quiet_none}
use Rattle.ada_decl_rules.proofs.duplicates.Behind.{with_names_is, still_in_main, array_is, instance_is, names_are, number_is, object_is, subtype_is}
use Rattle.ada_decl_rules.specs.duplicates.NamingsInOrder.{namings_of, declared}
use Rattle.ada_decl_rules.specs.declared.duplicates.namings_in_order.Naming.{Naming}
use Rattle.ada_decl_rules.specs.declared.duplicates.namings_in_order.Naming.TheVariants.{Once}
use Rattle.normal_laws.specs.structure.once.Apart.{IsFreeOf}
use Rattle.normal_laws.proofs.structure.once.Leaving.{Leaves, leaves_none, leaves_once, leaves-all, leaves-joined, leaves-names}
use Rattle.normal_laws.proofs.structure.once.TaskTypes.{HasTypes, types-after, kinds_after, no-task}

-- ---- scopes behind declarations

pub here-after : (s : Scope) (d : PDecl) → (after_decl s d).here ≡ with_words s.here (names_declared d)
here-after s (DNumber w e sp) = refl
here-after s (DObject ws c x i sp) = ap (λ (t : Scope). t.here) (with_names_is _ _ ws)
here-after s (DEnumeration w ws sp) = ap (λ (t : Scope). t.here) (with_names_is _ _ ws)
here-after s (DArray w r x sp) = refl
here-after s (DSubtype w x sp) = refl
here-after s (DException ws sp) = ap (λ (t : Scope). t.here) (with_names_is _ _ ws)
here-after s (DIntIo w sp) = refl
here-after s (DPragma e sp) = refl
here-after s (DTask t sp) = refl
here-after s (DTaskBody w objects its sp) = refl

-- whether the declaration is one of an instance
abbrev instance_in : PDecl → Bool → Bool
instance_in (DIntIo w s) b = true
instance_in _ b = b

instance-after : (s : Scope) (d : PDecl) → (after_decl s d).has_instance ≡ instance_in d s.has_instance
instance-after s (DNumber w e sp) = refl
instance-after s (DObject ws c x i sp) = ap (λ (t : Scope). t.has_instance) (with_names_is _ _ ws)
instance-after s (DEnumeration w ws sp) = ap (λ (t : Scope). t.has_instance) (with_names_is _ _ ws)
instance-after s (DArray w r x sp) = refl
instance-after s (DSubtype w x sp) = refl
instance-after s (DException ws sp) = ap (λ (t : Scope). t.has_instance) (with_names_is _ _ ws)
instance-after s (DIntIo w sp) = refl
instance-after s (DPragma e sp) = refl
instance-after s (DTask t sp) = refl
instance-after s (DTaskBody w objects its sp) = refl

-- fewer names stay fewer
free-words : (here fewer : List ℕ) → ((x : ℕ) → IsFreeOf here x → IsFreeOf fewer x) → (ws : List Word) → (x : ℕ) → IsFreeOf (with_words here ws) x → IsFreeOf (with_words fewer ws) x
free-words here fewer f [] x h = f x h
free-words here fewer f (w ∷ ws) x h = free-words (w.name.0 ∷ here) (w.name.0 ∷ fewer) (λ y k. let r = or_parts (w.name.0 == y) (is_among here y) k in or_from (w.name.0 == y) (is_among fewer y) r.0 (f y r.1)) ws x h

-- names that are free behind more words were free before
free-before : (here : List ℕ) (ws : List Word) (x : ℕ) → IsFreeOf (with_words here ws) x → IsFreeOf here x
free-before here [] x h = h
free-before here (w ∷ ws) x h = (or_parts (w.name.0 == x) (is_among here x) (free-before (w.name.0 ∷ here) ws x h)).1

-- ---- a scope of the program beside one of its normal form

-- Behind a part of the first declarations of a normal form stand no task types, and no more names and instances than behind the part of the program
-- from which they come.
pub record Beside (kinds : List PTask) (s t : Scope) : Type 0 where
  pub main : s.in_main ≡ true
  pub main' : t.in_main ≡ true
  pub here : (x : ℕ) → IsFreeOf s.here x → IsFreeOf t.here x
  pub instance : s.has_instance ≡ false → t.has_instance ≡ false
  pub types : HasTypes kinds s
  pub types' : HasTypes [] t

-- behind a declaration that both have
both-after : (kinds : List PTask) (d : PDecl) (s t : Scope) → kinds_after kinds d ≡ kinds → kinds_after [] d ≡ [] → Beside kinds s t → Beside kinds (after_decl s d) (after_decl t d)
both-after kinds d s t e f h = record {
  main = still_in_main s d ∙ h.main;
  main' = still_in_main t d ∙ h.main';
  here = λ x k. subst (λ (l : List ℕ). IsFreeOf l x) (sym (here-after t d)) (free-words s.here t.here h.here (names_declared d) x (subst (λ (l : List ℕ). IsFreeOf l x) (here-after s d) k));
  instance = λ k. instance-after t d ∙ same d (sym (instance-after s d) ∙ k);
  types = subst (λ (l : List PTask). HasTypes l (after_decl s d)) e (types-after kinds d s h.types);
  types' = subst (λ (l : List PTask). HasTypes l (after_decl t d)) f (types-after [] d t h.types');
}
  where
    same : (d : PDecl) → instance_in d s.has_instance ≡ false → instance_in d t.has_instance ≡ false
    same (DNumber w e sp) k = h.instance k
    same (DObject ws c x i sp) k = h.instance k
    same (DEnumeration w ws sp) k = h.instance k
    same (DArray w r x sp) k = h.instance k
    same (DSubtype w x sp) k = h.instance k
    same (DException ws sp) k = h.instance k
    same (DIntIo w sp) k = k
    same (DPragma e sp) k = h.instance k
    same (DTask t' sp) k = h.instance k
    same (DTaskBody w objects its sp) k = h.instance k

-- behind one that is left out
one-after : (kinds : List PTask) (d : PDecl) (s t : Scope) → (instance_in d s.has_instance ≡ false → s.has_instance ≡ false) → Beside kinds s t → Beside (kinds_after kinds d) (after_decl s d) t
one-after kinds d s t e h = record {
  main = still_in_main s d ∙ h.main;
  main' = h.main';
  here = λ x k. h.here x (free-before s.here (names_declared d) x (subst (λ (l : List ℕ). IsFreeOf l x) (here-after s d) k));
  instance = λ k. h.instance (e (sym (instance-after s d) ∙ k));
  types = types-after kinds d s h.types;
  types' = h.types';
}

-- ---- one declaration

object-leaves : (kinds : List PTask) (s t : Scope) (ws : List Word) (c : Bool) (x : PShape) (i : Option PInit) (sp : Span) → Beside kinds s t → is_some (type_named kinds (mark_of x)) ≡ false →
    Leaves (namings_of (decl_sites s (DObject ws c x i sp))) (namings_of (decl_sites t (DObject ws c x i sp)))
object-leaves kinds s t ws c x i sp h e =
    let f : Bool = c || false in
    subst (λ (l : List Naming). Leaves l (namings_of (decl_sites t (DObject ws c x i sp))))
    (sym (object_is s ws c x i (declared_object s c x) ∙ ap₂ (λ (a b : Bool). declared (a && (c || b)) s.here ws) h.main (no-task kinds s c x h.types e)))
    (subst (λ (l : List Naming). Leaves (declared f s.here ws) l)
    (sym (object_is t ws c x i (declared_object t c x) ∙ ap₂ (λ (a b : Bool). declared (a && (c || b)) t.here ws) h.main' (no-task [] t c x h.types' refl)))
    (leaves-names f s.here t.here h.here ws))

-- names that are declared for all of main, and nothing else
fixed-leaves : (kinds : List PTask) (s t : Scope) (ws : List Word) (A B : List Naming) → Beside kinds s t → A ≡ declared true s.here ws → B ≡ declared true t.here ws → Leaves A B
fixed-leaves kinds s t ws A B h p q = subst (λ (l : List Naming). Leaves l B) (sym p) (subst (λ (l : List Naming). Leaves (declared true s.here ws) l) (sym q) (leaves-names true s.here t.here h.here ws))

instance-leaves : (kinds : List PTask) (s t : Scope) (w : Word) (sp : Span) → Beside kinds s t → Leaves (namings_of (decl_sites s (DIntIo w sp))) (namings_of (decl_sites t (DIntIo w sp)))
instance-leaves kinds s t w sp h =
    subst (λ (l : List Naming). Leaves l (namings_of (decl_sites t (DIntIo w sp)))) (sym (instance_is s w sp))
    (subst (λ (l : List Naming). Leaves (Once s.has_instance w ∷ declared true s.here (w ∷ [])) l) (sym (instance_is t w sp))
    (leaves_once s.has_instance t.has_instance w _ _ h.instance (leaves-names true s.here t.here h.here (w ∷ []))))

pragma-leaves : (s t : Scope) (e : PExpr) (sp : Span) → Leaves (namings_of (decl_sites s (DPragma e sp))) (namings_of (decl_sites t (DPragma e sp)))
pragma-leaves s t e sp =
    subst (λ (l : List Naming). Leaves l (namings_of (decl_sites t (DPragma e sp)))) (sym ((quiet_static s (Some integer_kind) e)))
    (subst (λ (l : List Naming). Leaves [] l) (sym ((quiet_static t (Some integer_kind) e))) leaves_none)

-- ---- all of them

-- one declaration in front of others, which both have
both-leave : (d : PDecl) (s t : Scope) (ds es : PDecls) → Leaves (namings_of (decl_sites s d)) (namings_of (decl_sites t d)) → Leaves (namings_of (decls_sites (after_decl s d) ds)) (namings_of (decls_sites (after_decl t d) es)) →
    Leaves (namings_of (decls_sites s (decl_then d ds))) (namings_of (decls_sites t (decl_then d es)))
both-leave d s t ds es h k =
    subst (λ (l : List Naming). Leaves l (namings_of (decls_sites t (decl_then d es)))) (sym (namings_append (decl_sites s d) (decls_sites (after_decl s d) ds)))
    (subst (λ (l : List Naming). Leaves (namings_of (decl_sites s d) ++ namings_of (decls_sites (after_decl s d) ds)) l) (sym (namings_append (decl_sites t d) (decls_sites (after_decl t d) es)))
    (leaves-joined h k))

-- one that is left out
one-leaves : (d : PDecl) (s : Scope) (ds : PDecls) (B : List Naming) → Leaves (namings_of (decls_sites (after_decl s d) ds)) B → Leaves (namings_of (decls_sites s (decl_then d ds))) B
one-leaves d s ds B k =
    subst (λ (l : List Naming). Leaves l B) (sym (namings_append (decl_sites s d) (decls_sites (after_decl s d) ds)))
    (leaves-joined (leaves-all (namings_of (decl_sites s d))) k)

-- What the first declarations name is what all name, but for what is left out.
pub first-leaves : (ds : PDecls) (kinds : List PTask) (s t : Scope) → Beside kinds s t → Leaves (namings_of (decls_sites s ds)) (namings_of (decls_sites t (first_decls kinds ds)))
first-leaves no_decl kinds s t h = subst (λ (l : List Naming). Leaves l l) (sym quiet_none) leaves_none
first-leaves (decl_then (DTask d sp) rest) kinds s t h = one-leaves (DTask d sp) s rest _ (first-leaves rest (with_type kinds d.of_kind d) _ t (one-after kinds (DTask d sp) s t (λ e. e) h))
first-leaves (decl_then (DTaskBody w objects its sp) rest) kinds s t h = one-leaves (DTaskBody w objects its sp) s rest _ (first-leaves rest kinds _ t (one-after kinds (DTaskBody w objects its sp) s t (λ e. e) h))
first-leaves (decl_then (DObject ws c x i sp) rest) kinds s t h = by_test (is_some (type_named kinds (mark_of x))) refl (λ s' t' h'. first-leaves rest kinds s' t' h')
  where
    d : PDecl
    d = DObject ws c x i sp

    by_test : (b : Bool) → is_some (type_named kinds (mark_of x)) ≡ b →
        ((s' t' : Scope) → Beside kinds s' t' → Leaves (namings_of (decls_sites s' rest)) (namings_of (decls_sites t' (first_decls kinds rest)))) →
        Leaves (namings_of (decls_sites s (decl_then d rest))) (namings_of (decls_sites t (unless_left b d (first_decls kinds rest))))
    by_test true e later = one-leaves d s rest _ (later (after_decl s d) t (one-after kinds d s t (λ k. k) h))
    by_test false e later = both-leave d s t rest (first_decls kinds rest) (object-leaves kinds s t ws c x i sp h e) (later (after_decl s d) (after_decl t d) (both-after kinds d s t refl refl h))
first-leaves (decl_then (DNumber w e sp) rest) kinds s t h =
    both-leave (DNumber w e sp) s t rest (first_decls kinds rest) (fixed-leaves kinds s t (w ∷ []) _ _ h (number_is s w e sp) (number_is t w e sp)) (first-leaves rest kinds _ _ (both-after kinds (DNumber w e sp) s t refl refl h))
first-leaves (decl_then (DEnumeration w ws sp) rest) kinds s t h =
    both-leave (DEnumeration w ws sp) s t rest (first_decls kinds rest) (fixed-leaves kinds s t (w ∷ ws) _ _ h (names_are true s (w ∷ ws)) (names_are true t (w ∷ ws))) (first-leaves rest kinds _ _ (both-after kinds (DEnumeration w ws sp) s t refl refl h))
first-leaves (decl_then (DArray w r x sp) rest) kinds s t h =
    both-leave (DArray w r x sp) s t rest (first_decls kinds rest) (fixed-leaves kinds s t (w ∷ []) _ _ h (array_is s w r x sp) (array_is t w r x sp)) (first-leaves rest kinds _ _ (both-after kinds (DArray w r x sp) s t refl refl h))
first-leaves (decl_then (DSubtype w x sp) rest) kinds s t h =
    both-leave (DSubtype w x sp) s t rest (first_decls kinds rest) (fixed-leaves kinds s t (w ∷ []) _ _ h (subtype_is s w x sp) (subtype_is t w x sp)) (first-leaves rest kinds _ _ (both-after kinds (DSubtype w x sp) s t refl refl h))
first-leaves (decl_then (DException ws sp) rest) kinds s t h =
    both-leave (DException ws sp) s t rest (first_decls kinds rest) (fixed-leaves kinds s t ws _ _ h (names_are true s ws) (names_are true t ws)) (first-leaves rest kinds _ _ (both-after kinds (DException ws sp) s t refl refl h))
first-leaves (decl_then (DIntIo w sp) rest) kinds s t h =
    both-leave (DIntIo w sp) s t rest (first_decls kinds rest) (instance-leaves kinds s t w sp h) (first-leaves rest kinds _ _ (both-after kinds (DIntIo w sp) s t refl refl h))
first-leaves (decl_then (DPragma e sp) rest) kinds s t h =
    both-leave (DPragma e sp) s t rest (first_decls kinds rest) (pragma-leaves s t e sp) (first-leaves rest kinds _ _ (both-after kinds (DPragma e sp) s t refl refl h))

-- What is named at the places of declarations, and where the notes of it stand behind them.
use Rattle.std.specs.Prelude.{◌≡◌, ◌<◌, ◌≤◌, ◌+◌, ◌&&◌, ◌||◌, ℕ, Bool, true, false, List, [], ◌∷◌, ◌++◌, length, map, flat_map, drop, Option, Some, option_map, refl}
use Rattle.std.proofs.Common.{sym, ap, ◌∙◌, subst, get_or, append_assoc}
use Rattle.std.proofs.lemmas.List.{append-nil}
use Rattle.std.proofs.Math.ListN.{drop_of_length-le}
use Rattle.ada_tree.specs.declared.naming.Span.{Span}
use Rattle.ada_tree.specs.declared.naming.Word.{Word}
use Rattle.ada_tree.specs.declared.declarations.Decl.{Decl}
use Rattle.ada_tree.specs.declared.declarations.EntryDecl.{EntryDecl}
use Rattle.ada_tree.specs.declared.declarations.TaskUnit.{TaskUnit}
use Rattle.ada_tree.specs.declared.statements.Formal.{Formal}
use Rattle.ada_tree.specs.TypeTable.{TypeTable}
use Rattle.ada_tree.specs.PlainExpr.{PExpr, PSubind, PDrange}
use Rattle.ada_tree.specs.PlainStmt.{PBody, plain_formal}
use Rattle.ada_tree.specs.PlainDecl.{PShape, OPlain, OArray, PInit, IOne, IList, IOthers, PEntry, PPriority, PTask, PDecl, DNumber, DObject, DEnumeration, DArray, DSubtype, DException, DIntIo, DPragma, DTask, DTaskBody, PDecls, decls_of, plain_decl, plain_entry, plain_task}
use Rattle.ada_static_rules.specs.Scope.{Scope, Range, Thing, Marking, ScalarMark, ArrayMark, TaskMark, NoMark, UnknownMark, UnclearMark, integer_kind, range_of_mark}
use Rattle.ada_static_rules.specs.Demand.{declares_entry, for_scalar, for_array, gives_body, must_be_static, must_lie_in, initializes, scalar_only, Site}
use Rattle.ada_static_rules.specs.Declaring.{before_all, first_scope, with_name, with_names, inner_scope, in_body, Declared, declared_object, after_own_object, after_objects, after_decl}
use Rattle.ada_static_rules.specs.Sites.{site, if_there, expr_sites, static_of, drange_sites, subind_sites, object_marks, component_marks, may_be_task, value_sites, free_value_sites, all_init_sites, array_init_sites, scalar_init_sites, object_marking, init_sites, is_task_object, names_sites, shape_sites, object_sites, entry_sites, entries_sites, formals_sites, task_sites, body_sites, own_object_sites, own_sites, decl_sites, decls_sites, with_words}
use Rattle.ada_static_rules.specs.Repeated.{repeated_from}
use Rattle.ada_decl_rules.specs.duplicates.NamingsInOrder.{namings_of, Named, declared, named_once, first_repeated}
use Rattle.ada_decl_rules.specs.duplicates.NamedSoFar.{PlainNotes, no_notes, AreAt, behind, with_declared, is_of_tasks, AreBehind, object_words, of_own}
use Rattle.ada_decl_rules.specs.declared.duplicates.namings_in_order.Naming.{Naming}
use Rattle.ada_decl_rules.specs.declared.duplicates.namings_in_order.Naming.TheVariants.{Once}
use Rattle.std.proofs.lemmas.List.{drop_more}
use Rattle.ada_decl_rules.proofs.duplicates.Repeating.{repeats_are}
use Rattle.ada_decl_rules.proofs.duplicates.Noting.{namings_append, named_then, quiet_none, quiet_one, quiet_append, quiet_there, quiet_flat, quiet_expr, quiet_static, quiet_subind, quiet_drange, declared_are, declared_append}

-- ---- quiet places

pub quiet_value : (scope : Scope) (range : Option Range) (e : PExpr) → namings_of (value_sites scope range e) ≡ []
quiet_value scope range e = quiet_append (static_of scope (option_map (λ r. r.kind) range) e) (site scope (must_lie_in e range) ∷ []) (quiet_static scope (option_map (λ r. r.kind) range) e) (quiet_one scope (must_lie_in e range) refl)

pub quiet_free_value : (scope : Scope) (e : PExpr) → namings_of (free_value_sites scope e) ≡ []
quiet_free_value scope e = quiet_append (expr_sites scope e) (site scope (must_be_static e) ∷ []) (quiet_expr scope e) (quiet_one scope (must_be_static e) refl)

pub quiet_all_init : (scope : Scope) (v : PInit) → namings_of (all_init_sites scope v) ≡ []
quiet_all_init scope (IOne e) = quiet_free_value scope e
quiet_all_init scope (IList es s) = quiet_flat (free_value_sites scope) es (quiet_free_value scope)
quiet_all_init scope (IOthers e s) = quiet_free_value scope e

pub quiet_array_init : (scope : Scope) (part : Option Range) (v : PInit) → namings_of (array_init_sites scope part v) ≡ []
quiet_array_init scope part (IOne e) = quiet_free_value scope e
quiet_array_init scope part (IList es s) = quiet_flat (value_sites scope part) es (quiet_value scope part)
quiet_array_init scope part (IOthers e s) = quiet_value scope part e

pub quiet_scalar_init : (scope : Scope) (range : Option Range) (v : PInit) → namings_of (scalar_init_sites scope range v) ≡ []
quiet_scalar_init scope range (IOne e) = quiet_value scope range e
quiet_scalar_init scope range (IList es s) = quiet_flat (free_value_sites scope) es (quiet_free_value scope)
quiet_scalar_init scope range (IOthers e s) = quiet_free_value scope e

pub quiet_init : (scope : Scope) (types : TypeTable) (m : Marking) (v : PInit) → namings_of (init_sites scope types m v) ≡ []
quiet_init scope types (ScalarMark m k) v = quiet_append (scalar_init_sites scope (range_of_mark types m) v) (site scope (initializes for_scalar v) ∷ []) (quiet_scalar_init scope (range_of_mark types m) v) (quiet_one scope (initializes for_scalar v) refl)
quiet_init scope types (ArrayMark m range part) v = quiet_append (array_init_sites scope (range_of_mark types part) v) (site scope (initializes (for_array range) v) ∷ []) (quiet_array_init scope (range_of_mark types part) v) (quiet_one scope (initializes (for_array range) v) refl)
quiet_init scope types (TaskMark entries) v = quiet_all_init scope v
quiet_init scope types NoMark v = quiet_all_init scope v
quiet_init scope types UnknownMark v = quiet_all_init scope v
quiet_init scope types UnclearMark v = quiet_all_init scope v

pub quiet_shape : (scope : Scope) (constant : Bool) (x : PShape) (init : Option PInit) → namings_of (shape_sites scope constant x init) ≡ []
quiet_shape scope constant (OPlain x) init = quiet_subind true (object_marks (may_be_task scope constant x.bounds init) x.bounds) scope x
quiet_shape scope constant (OArray index x) init =
    quiet_append (drange_sites true scope index) (subind_sites true (component_marks (may_be_task scope constant x.bounds init)) scope x) (quiet_drange true scope index)
    (quiet_subind true (component_marks (may_be_task scope constant x.bounds init)) scope x)

pub quiet_priorities : (scope : Scope) (ps : List PPriority) → namings_of (flat_map (λ p. static_of scope (Some integer_kind) p.value) ps) ≡ []
quiet_priorities scope ps = quiet_flat (λ p. static_of scope (Some integer_kind) p.value) ps (λ p. quiet_static scope (Some integer_kind) p.value)

-- ---- names in front of quiet places

-- names, and quiet places behind them
pub then_quiet : (xs ys : List Site) (l : List Naming) → namings_of xs ≡ l → namings_of ys ≡ [] → namings_of (xs ++ ys) ≡ l
then_quiet xs ys l p q = namings_append xs ys ∙ ap (λ m. namings_of xs ++ m) q ∙ append-nil (namings_of xs) ∙ p

pub names_are : (fixed : Bool) (scope : Scope) (ws : List Word) → namings_of (names_sites fixed scope ws) ≡ declared fixed scope.here ws
names_are fixed scope ws = declared_are fixed scope scope.here ws

pub object_is : (scope : Scope) (ws : List Word) (constant : Bool) (x : PShape) (init : Option PInit) (d : Declared) → namings_of (object_sites scope ws constant x init d) ≡ declared (scope.in_main && (constant || is_task_object d.thing)) scope.here ws
object_is scope ws constant x init d =
    let fixed : Bool = scope.in_main && (constant || is_task_object d.thing) in
    then_quiet (names_sites fixed scope ws ++ shape_sites scope constant x init) (if_there (init_sites scope d.types (object_marking d)) init) (declared fixed scope.here ws)
    (then_quiet (names_sites fixed scope ws) (shape_sites scope constant x init) (declared fixed scope.here ws) (names_are fixed scope ws) (quiet_shape scope constant x init))
    (quiet_there (init_sites scope d.types (object_marking d)) init (quiet_init scope d.types (object_marking d)))

pub number_is : (scope : Scope) (w : Word) (e : PExpr) (s : Span) → namings_of (decl_sites scope (DNumber w e s)) ≡ declared true scope.here (w ∷ [])
number_is scope w e s = then_quiet (names_sites true scope (w ∷ [])) (static_of scope (Some integer_kind) e) (declared true scope.here (w ∷ [])) (names_are true scope (w ∷ [])) (quiet_static scope (Some integer_kind) e)

pub array_is : (scope : Scope) (w : Word) (index : PDrange) (x : PSubind) (s : Span) → namings_of (decl_sites scope (DArray w index x s)) ≡ declared true scope.here (w ∷ [])
array_is scope w index x s =
    then_quiet (names_sites true scope (w ∷ []) ++ drange_sites true scope index) (subind_sites true scalar_only scope x) (declared true scope.here (w ∷ []))
    (then_quiet (names_sites true scope (w ∷ [])) (drange_sites true scope index) (declared true scope.here (w ∷ [])) (names_are true scope (w ∷ [])) (quiet_drange true scope index))
    (quiet_subind true scalar_only scope x)

pub subtype_is : (scope : Scope) (w : Word) (x : PSubind) (s : Span) → namings_of (decl_sites scope (DSubtype w x s)) ≡ declared true scope.here (w ∷ [])
subtype_is scope w x s = then_quiet (names_sites true scope (w ∷ [])) (subind_sites true scalar_only scope x) (declared true scope.here (w ∷ [])) (names_are true scope (w ∷ [])) (quiet_subind true scalar_only scope x)

-- ---- scopes behind declarations

-- of a scope several names change the names alone
pub with_names_is : (t : Thing) (scope : Scope) (ws : List Word) → with_names t scope ws ≡ record scope { names = (with_names t scope ws).names; here = with_words scope.here ws }
with_names_is t scope [] = refl
with_names_is t scope (w ∷ ws) = with_names_is t (with_name t scope w) ws

-- a declaration of main leaves its reader in main
pub still_in_main : (scope : Scope) (d : PDecl) → (after_decl scope d).in_main ≡ scope.in_main
still_in_main scope (DNumber w e s) = refl
still_in_main scope (DObject ws c x i s) = ap (λ t. t.in_main) (with_names_is _ _ ws)
still_in_main scope (DEnumeration w ws s) = ap (λ t. t.in_main) (with_names_is _ _ ws)
still_in_main scope (DArray w r x s) = refl
still_in_main scope (DSubtype w x s) = refl
still_in_main scope (DException ws s) = ap (λ t. t.in_main) (with_names_is _ _ ws)
still_in_main scope (DIntIo w s) = refl
still_in_main scope (DPragma e s) = refl
still_in_main scope (DTask t s) = refl
still_in_main scope (DTaskBody w ds b s) = refl

-- ---- the objects of a task body

pub own_step : (scope : Scope) (d : PDecl) → scope.in_main ≡ false → namings_of (own_object_sites scope d) ≡ declared false scope.here (object_words d)
own_step scope (DObject ws c x i s) h = object_is scope ws c x i (declared_object scope c x) ∙ ap (λ b. declared (b && (c || is_task_object (declared_object scope c x).thing)) scope.here ws) h
own_step scope (DNumber w e s) h = quiet_none
own_step scope (DEnumeration w ws s) h = quiet_none
own_step scope (DArray w r x s) h = quiet_none
own_step scope (DSubtype w x s) h = quiet_none
own_step scope (DException ws s) h = quiet_none
own_step scope (DIntIo w s) h = quiet_none
own_step scope (DPragma e s) h = quiet_none
own_step scope (DTask t s) h = quiet_none
own_step scope (DTaskBody w ds b s) h = quiet_none

pub own_here : (scope : Scope) (d : PDecl) → (after_own_object scope d).here ≡ with_words scope.here (object_words d)
own_here scope (DObject ws c x i s) = ap (λ t. t.here) (with_names_is _ _ ws)
own_here scope (DNumber w e s) = refl
own_here scope (DEnumeration w ws s) = refl
own_here scope (DArray w r x s) = refl
own_here scope (DSubtype w x s) = refl
own_here scope (DException ws s) = refl
own_here scope (DIntIo w s) = refl
own_here scope (DPragma e s) = refl
own_here scope (DTask t s) = refl
own_here scope (DTaskBody w ds b s) = refl

pub own_main : (scope : Scope) (d : PDecl) → (after_own_object scope d).in_main ≡ scope.in_main
own_main scope (DObject ws c x i s) = ap (λ t. t.in_main) (with_names_is _ _ ws)
own_main scope (DNumber w e s) = refl
own_main scope (DEnumeration w ws s) = refl
own_main scope (DArray w r x s) = refl
own_main scope (DSubtype w x s) = refl
own_main scope (DException ws s) = refl
own_main scope (DIntIo w s) = refl
own_main scope (DPragma e s) = refl
own_main scope (DTask t s) = refl
own_main scope (DTaskBody w ds b s) = refl

pub own_are : (scope : Scope) (ds : List PDecl) → scope.in_main ≡ false → namings_of (own_sites scope (decls_of ds)) ≡ declared false scope.here (flat_map object_words ds)
own_are scope [] h = quiet_none
own_are scope (d ∷ ds) h =
    namings_append (own_object_sites scope d) (own_sites (after_own_object scope d) (decls_of ds))
    ∙ ap (λ l. l ++ namings_of (own_sites (after_own_object scope d) (decls_of ds))) (own_step scope d h)
    ∙ ap (λ l. declared false scope.here (object_words d) ++ l) (own_are (after_own_object scope d) ds (own_main scope d ∙ h))
    ∙ ap (λ l. declared false scope.here (object_words d) ++ declared false l (flat_map object_words ds)) (own_here scope d)
    ∙ sym (declared_append false scope.here (object_words d) (flat_map object_words ds))

pub objects_named : (a b : List Naming) (ds : List PDecl) → b ≡ a ++ declared false [] (flat_map object_words ds) → Named a b (λ s. own_sites (of_own s) (decls_of ds))
unfolding Named
objects_named a b ds h = λ s. h ∙ ap (λ l. a ++ l) (sym (own_are (of_own s) ds refl))

-- ---- notes behind one declaration

-- notes by their parts
pub notes_are : (old new : PlainNotes) (ss : List Site) (after : Scope) → new.namings ≡ old.namings ++ namings_of ss → new.here ≡ after.here → new.bodies ≡ after.bodies → new.has_instance ≡ after.has_instance → new ≡ behind old ss after
notes_are old new ss after p q r t = λ i. record { namings = p i; here = q i; bodies = r i; has_instance = t i }

-- names that are declared, and nothing else
declared_behind : (old new : PlainNotes) (scope after : Scope) (fixed : Bool) (ws : List Word) (ss : List Site) → AreAt scope old
    → namings_of ss ≡ declared fixed scope.here ws → after.here ≡ with_words scope.here ws → after.bodies ≡ scope.bodies → after.has_instance ≡ scope.has_instance
    → new ≡ with_declared fixed old ws → new ≡ behind old ss after
declared_behind old new scope after fixed ws ss at p q r t h =
    h
    ∙ notes_are old (with_declared fixed old ws) ss after
    (ap (λ l. old.namings ++ declared fixed l ws) at.here_is ∙ ap (λ l. old.namings ++ l) (sym p))
    (ap (λ l. with_words l ws) at.here_is ∙ sym q)
    (at.bodies_are ∙ sym r)
    (at.instance_is ∙ sym t)

pub number_behind : (old new : PlainNotes) (b : Bool) (w : Word) (e : PExpr) (s : Span) → new ≡ with_declared true old (w ∷ []) → AreBehind old new b (DNumber w e s)
unfolding AreBehind
number_behind old new b w e s h = λ scope at tasks. declared_behind old new scope (after_decl scope (DNumber w e s)) true (w ∷ []) (decl_sites scope (DNumber w e s)) at (number_is scope w e s) refl refl refl h

object_fixed : (in_main c t b : Bool) → in_main ≡ true → t ≡ b → (c || b) ≡ (in_main && (c || t))
object_fixed in_main c t b h g = ap (λ y. c || y) (sym g) ∙ ap (λ y. y && (c || t)) (sym h)

pub object_behind : (old new : PlainNotes) (b : Bool) (ws : List Word) (c : Bool) (x : PShape) (i : Option PInit) (s : Span) → new ≡ with_declared (c || b) old ws → AreBehind old new b (DObject ws c x i s)
unfolding AreBehind
object_behind old new b ws c x i s h = λ scope at tasks.
    let fixed : Bool = scope.in_main && (c || is_task_object (declared_object scope c x).thing) in
    declared_behind old new scope (after_decl scope (DObject ws c x i s)) fixed ws (decl_sites scope (DObject ws c x i s)) at
    (object_is scope ws c x i (declared_object scope c x))
    (ap (λ t. t.here) (with_names_is _ _ ws)) (ap (λ t. t.bodies) (with_names_is _ _ ws)) (ap (λ t. t.has_instance) (with_names_is _ _ ws))
    (h ∙ ap (λ y. with_declared y old ws) (object_fixed scope.in_main c (is_task_object (declared_object scope c x).thing) b at.in_main tasks))

pub enumeration_behind : (old new : PlainNotes) (b : Bool) (w : Word) (ws : List Word) (s : Span) → new ≡ with_declared true old (w ∷ ws) → AreBehind old new b (DEnumeration w ws s)
unfolding AreBehind
enumeration_behind old new b w ws s h = λ scope at tasks.
    declared_behind old new scope (after_decl scope (DEnumeration w ws s)) true (w ∷ ws) (decl_sites scope (DEnumeration w ws s)) at (names_are true scope (w ∷ ws))
    (ap (λ t. t.here) (with_names_is _ _ ws)) (ap (λ t. t.bodies) (with_names_is _ _ ws)) (ap (λ t. t.has_instance) (with_names_is _ _ ws)) h

pub array_behind : (old new : PlainNotes) (b : Bool) (w : Word) (r : PDrange) (x : PSubind) (s : Span) → new ≡ with_declared true old (w ∷ []) → AreBehind old new b (DArray w r x s)
unfolding AreBehind
array_behind old new b w r x s h = λ scope at tasks. declared_behind old new scope (after_decl scope (DArray w r x s)) true (w ∷ []) (decl_sites scope (DArray w r x s)) at (array_is scope w r x s) refl refl refl h

pub subtype_behind : (old new : PlainNotes) (b : Bool) (w : Word) (x : PSubind) (s : Span) → new ≡ with_declared true old (w ∷ []) → AreBehind old new b (DSubtype w x s)
unfolding AreBehind
subtype_behind old new b w x s h = λ scope at tasks. declared_behind old new scope (after_decl scope (DSubtype w x s)) true (w ∷ []) (decl_sites scope (DSubtype w x s)) at (subtype_is scope w x s) refl refl refl h

pub exception_behind : (old new : PlainNotes) (b : Bool) (ws : List Word) (s : Span) → new ≡ with_declared true old ws → AreBehind old new b (DException ws s)
unfolding AreBehind
exception_behind old new b ws s h = λ scope at tasks.
    declared_behind old new scope (after_decl scope (DException ws s)) true ws (decl_sites scope (DException ws s)) at (names_are true scope ws)
    (ap (λ t. t.here) (with_names_is _ _ ws)) (ap (λ t. t.bodies) (with_names_is _ _ ws)) (ap (λ t. t.has_instance) (with_names_is _ _ ws)) h

pub instance_is : (scope : Scope) (w : Word) (s : Span) → namings_of (decl_sites scope (DIntIo w s)) ≡ Once scope.has_instance w ∷ declared true scope.here (w ∷ [])
unfolding namings_of
instance_is scope w s = refl

pub instance_behind : (old new : PlainNotes) (b : Bool) (w : Word) (s : Span)
    → new ≡ with_declared true record { namings = old.namings ++ Once old.has_instance w ∷ []; here = old.here; bodies = old.bodies; has_instance = true } (w ∷ []) → AreBehind old new b (DIntIo w s)
unfolding AreBehind
instance_behind old new b w s h = λ scope at tasks.
    h
    ∙ notes_are old (with_declared true record { namings = old.namings ++ Once old.has_instance w ∷ []; here = old.here; bodies = old.bodies; has_instance = true } (w ∷ [])) (decl_sites scope (DIntIo w s)) (after_decl scope (DIntIo w s))
    (append_assoc old.namings (Once old.has_instance w ∷ []) (declared true old.here (w ∷ []))
    ∙ ap (λ t. old.namings ++ Once t w ∷ declared true old.here (w ∷ [])) at.instance_is
    ∙ ap (λ l. old.namings ++ Once scope.has_instance w ∷ declared true l (w ∷ [])) at.here_is
    ∙ ap (λ l. old.namings ++ l) (sym (instance_is scope w s)))
    (ap (λ l. w.name.0 ∷ l) at.here_is) at.bodies_are refl

pub pragma_behind : (old : PlainNotes) (b : Bool) (e : PExpr) (s : Span) → AreBehind old old b (DPragma e s)
unfolding AreBehind
pragma_behind old b e s = λ scope at tasks.
    notes_are old old (decl_sites scope (DPragma e s)) (after_decl scope (DPragma e s))
    (sym (append-nil old.namings) ∙ ap (λ l. old.namings ++ l) (sym (quiet_static scope (Some integer_kind) e))) at.here_is at.bodies_are at.instance_is

entries_at : (scope : Scope) (a b : List Naming) (es : List PEntry) → Named a b (λ s. entries_sites s [] es) → b ≡ a ++ namings_of (entries_sites scope [] es)
unfolding Named
entries_at scope a b es p = p scope

task_is : (scope : Scope) (t : PTask) → namings_of (task_sites scope t) ≡ declared true scope.here (t.name ∷ []) ++ namings_of (entries_sites scope [] t.entries)
task_is scope t =
    then_quiet (names_sites true scope (t.name ∷ []) ++ entries_sites scope [] t.entries) (flat_map (λ p. static_of scope (Some integer_kind) p.value) t.priorities) (declared true scope.here (t.name ∷ []) ++ namings_of (entries_sites scope [] t.entries))
    (namings_append (names_sites true scope (t.name ∷ [])) (entries_sites scope [] t.entries) ∙ ap (λ l. l ++ namings_of (entries_sites scope [] t.entries)) (names_are true scope (t.name ∷ [])))
    (quiet_priorities scope t.priorities)

pub task_behind : (old named : PlainNotes) (l : List Naming) (b : Bool) (t : PTask) (s : Span) → named ≡ with_declared true old (t.name ∷ []) → Named named.namings l (λ x. entries_sites x [] t.entries)
    → AreBehind old record { namings = l; here = named.here; bodies = named.bodies; has_instance = named.has_instance } b (DTask t s)
unfolding AreBehind
task_behind old named l b t s h p = λ scope at tasks.
    notes_are old record { namings = l; here = named.here; bodies = named.bodies; has_instance = named.has_instance } (decl_sites scope (DTask t s)) (after_decl scope (DTask t s))
    (entries_at scope named.namings l t.entries p
    ∙ ap (λ n. n.namings ++ namings_of (entries_sites scope [] t.entries)) h
    ∙ append_assoc old.namings (declared true old.here (t.name ∷ [])) (namings_of (entries_sites scope [] t.entries))
    ∙ ap (λ x. old.namings ++ (declared true x (t.name ∷ []) ++ namings_of (entries_sites scope [] t.entries))) at.here_is
    ∙ ap (λ x. old.namings ++ x) (sym (task_is scope t)))
    (ap (λ n. n.here) h ∙ ap (λ x. t.name.name.0 ∷ x) at.here_is)
    (ap (λ n. n.bodies) h ∙ at.bodies_are)
    (ap (λ n. n.has_instance) h ∙ at.instance_is)

body_is : (scope : Scope) (w : Word) (rest : List Site) → namings_of (site scope (gives_body w) ∷ rest) ≡ named_once scope.bodies (w ∷ []) ++ namings_of rest
unfolding namings_of
body_is scope w rest = refl

inner_at : (scope : Scope) (w : Word) (a b c : List Naming) (ds : PDecls) (its : PBody) → Named a b (λ s. own_sites (of_own s) ds) → Named b c (λ s. body_sites s its)
    → c ≡ a ++ namings_of (own_sites (in_body scope w) ds ++ body_sites (inner_scope (after_objects (in_body scope w) ds)) its)
unfolding Named
inner_at scope w a b c ds its p q =
    named_then a b c (λ s. own_sites (of_own s) ds) (λ s. body_sites (inner_scope (after_objects (of_own s) ds)) its) p (λ s. q (inner_scope (after_objects (of_own s) ds))) (in_body scope w)

pub task_body_behind : (old : PlainNotes) (l m n : List Naming) (bodies : List ℕ) (b : Bool) (w : Word) (ds : PDecls) (its : PBody) (s : Span) → l ≡ old.namings ++ named_once old.bodies (w ∷ []) → bodies ≡ w.name.0 ∷ old.bodies
    → Named l m (λ x. own_sites (of_own x) ds) → Named m n (λ x. body_sites x its)
    → AreBehind old record { namings = n; here = old.here; bodies = bodies; has_instance = old.has_instance } b (DTaskBody w ds its s)
unfolding AreBehind
task_body_behind old l m n bodies b w ds its s h g p q = λ scope at tasks.
    let rest : List Site = own_sites (in_body scope w) ds ++ body_sites (inner_scope (after_objects (in_body scope w) ds)) its in
    notes_are old record { namings = n; here = old.here; bodies = bodies; has_instance = old.has_instance } (decl_sites scope (DTaskBody w ds its s)) (after_decl scope (DTaskBody w ds its s))
    (inner_at scope w l m n ds its p q
    ∙ ap (λ x. x ++ namings_of rest) h
    ∙ append_assoc old.namings (named_once old.bodies (w ∷ [])) (namings_of rest)
    ∙ ap (λ x. old.namings ++ (named_once x (w ∷ []) ++ namings_of rest)) at.bodies_are
    ∙ ap (λ x. old.namings ++ x) (sym (body_is scope w rest)))
    at.here_is
    (g ∙ ap (λ x. w.name.0 ∷ x) at.bodies_are)
    at.instance_is

-- ---- the notes of the code

pub instance_noted : (fields old new : PlainNotes) (grown : List Naming) (b : Bool) (w : Word) (s : Span) → fields ≡ old → grown ≡ fields.namings ++ Once fields.has_instance w ∷ []
    → new ≡ with_declared true record { namings = grown; here = fields.here; bodies = fields.bodies; has_instance = true } (w ∷ []) → AreBehind old new b (DIntIo w s)
instance_noted fields old new grown b w s v g h =
    subst (λ o. AreBehind o new b (DIntIo w s)) v
    (instance_behind fields new b w s (h ∙ ap (λ l. with_declared true record { namings = l; here = fields.here; bodies = fields.bodies; has_instance = true } (w ∷ [])) g))

pub task_noted : (old named : PlainNotes) (l : List Naming) (b : Bool) (x : TaskUnit) (es : List EntryDecl) (s : Span) → es ≡ x.entries.items → named ≡ with_declared true old (x.name ∷ []) → Named named.namings l (λ y. entries_sites y [] (map plain_entry es))
    → AreBehind old record { namings = l; here = named.here; bodies = named.bodies; has_instance = named.has_instance } b (DTask (plain_task x) s)
task_noted old named l b x es s g h p = task_behind old named l b (plain_task x) s h (subst (λ y. Named named.namings l (λ z. entries_sites z [] (map plain_entry y))) g p)

pub task_body_noted : (fields old : PlainNotes) (l m n : List Naming) (bodies : List ℕ) (b : Bool) (w : Word) (ds : PDecls) (its : PBody) (s : Span) → fields ≡ old → l ≡ fields.namings ++ named_once fields.bodies (w ∷ []) → bodies ≡ w.name.0 ∷ fields.bodies
    → Named l m (λ x. own_sites (of_own x) ds) → Named m n (λ x. body_sites x its)
    → AreBehind old record { namings = n; here = fields.here; bodies = bodies; has_instance = fields.has_instance } b (DTaskBody w ds its s)
task_body_noted fields old l m n bodies b w ds its s v h g p q =
    subst (λ o. AreBehind o record { namings = n; here = fields.here; bodies = bodies; has_instance = fields.has_instance } b (DTaskBody w ds its s)) v
    (task_body_behind fields l m n bodies b w ds its s h g p q)

-- a declaration whose tree, seen plainly, is known
pub decl_is : (old new : PlainNotes) (b : Bool) (d e : PDecl) → d ≡ e → AreBehind old new b e → AreBehind old new b d
decl_is old new b d e h p = subst (λ x. AreBehind old new b x) (sym h) p

-- ---- the declarations of main, one after the other

-- the notes of the name of a program, behind none
pub first_noted : (new : PlainNotes) (a : List Naming) (h b : List ℕ) (w : Word) → a ≡ [] → h ≡ [] → b ≡ [] → new ≡ with_declared true record { namings = a; here = h; bodies = b; has_instance = false } (w ∷ []) → new ≡ behind no_notes (names_sites true before_all (w ∷ [])) (first_scope w)
first_noted new a h b w p q r e =
    declared_behind no_notes new before_all (first_scope w) true (w ∷ []) (names_sites true before_all (w ∷ [])) record { in_main = refl; here_is = refl; bodies_are = refl; instance_is = refl } (names_are true before_all (w ∷ [])) refl refl refl
    (e ∙ (λ i. with_declared true record { namings = p i; here = q i; bodies = r i; has_instance = false } (w ∷ [])))

-- they stand before its declarations
pub at_first : (notes : PlainNotes) (w : Word) → notes ≡ behind no_notes (names_sites true before_all (w ∷ [])) (first_scope w) → AreAt (first_scope w) notes
at_first notes w h = record {
  in_main = refl;
  here_is = ap (λ n. n.here) h;
  bodies_are = ap (λ n. n.bodies) h;
  instance_is = ap (λ n. n.has_instance) h;
}

-- behind one more declaration the notes stand where the scope does
pub at_next : (scope after : Scope) (old new : PlainNotes) (b : Bool) (d : PDecl) → AreAt scope old → is_of_tasks scope d ≡ b → AreBehind old new b d → after ≡ after_decl scope d → AreAt after new
unfolding AreBehind
at_next scope after old new b d at tasks p h = subst (λ s. AreAt s new) (sym h) record {
  in_main = still_in_main scope d ∙ at.in_main;
  here_is = ap (λ n. n.here) (p scope at tasks);
  bodies_are = ap (λ n. n.bodies) (p scope at tasks);
  instance_is = ap (λ n. n.has_instance) (p scope at tasks);
}

-- what is noted, and what is still to be noted
pub noted_next : (scope after : Scope) (old new : PlainNotes) (total : List Naming) (b : Bool) (ds : List Decl) (i : ℕ) (d : Decl) → i < length ds → d ≡ get_or ds i d
    → AreAt scope old → is_of_tasks scope (plain_decl d) ≡ b → AreBehind old new b (plain_decl d) → after ≡ after_decl scope (plain_decl d)
    → old.namings ++ namings_of (decls_sites scope (decls_of (map plain_decl (drop i ds)))) ≡ total
    → new.namings ++ namings_of (decls_sites after (decls_of (map plain_decl (drop (i + 1) ds)))) ≡ total
unfolding AreBehind
noted_next scope after old new total b ds i d h is at tasks p e before =
    let rest : Scope → List Site = λ s. decls_sites s (decls_of (map plain_decl (drop (i + 1) ds))) in
    ap (λ s. new.namings ++ namings_of (rest s)) e
    ∙ ap (λ n. n.namings ++ namings_of (rest (after_decl scope (plain_decl d)))) (p scope at tasks)
    ∙ append_assoc old.namings (namings_of (decl_sites scope (plain_decl d))) (namings_of (rest (after_decl scope (plain_decl d))))
    ∙ ap (λ l. old.namings ++ l) (sym (namings_append (decl_sites scope (plain_decl d)) (rest (after_decl scope (plain_decl d)))))
    ∙ ap (λ x. old.namings ++ namings_of (decls_sites scope (decls_of (map plain_decl (x ∷ drop (i + 1) ds))))) is
    ∙ ap (λ l. old.namings ++ namings_of (decls_sites scope (decls_of (map plain_decl l)))) (sym (drop_more ds i d h))
    ∙ before

-- before the first declaration
pub noted_first : (notes : PlainNotes) (w : Word) (ds : PDecls) → notes ≡ behind no_notes (names_sites true before_all (w ∷ [])) (first_scope w)
    → notes.namings ++ namings_of (decls_sites (first_scope w) ds) ≡ namings_of (names_sites true before_all (w ∷ []) ++ decls_sites (first_scope w) ds)
noted_first notes w ds h =
    ap (λ n. n.namings ++ namings_of (decls_sites (first_scope w) ds)) h ∙ sym (namings_append (names_sites true before_all (w ∷ [])) (decls_sites (first_scope w) ds))

-- behind the last one
pub noted_all : (scope : Scope) (notes : PlainNotes) (total : List Naming) (ds : List Decl) (i : ℕ) → length ds ≤ i → notes.namings ++ namings_of (decls_sites scope (decls_of (map plain_decl (drop i ds)))) ≡ total → notes.namings ≡ total
unfolding namings_of
noted_all scope notes total ds i h before =
    sym (append-nil notes.namings) ∙ ap (λ l. notes.namings ++ namings_of (decls_sites scope (decls_of (map plain_decl l)))) (sym (drop_of_length-le ds h)) ∙ before

-- ---- the rule

-- what is named behind the declarations decides with what is named in them
pub refused_by : (before : List Site) (scope : Scope) (a b : List Naming) (its : PBody) → a ≡ namings_of before → Named a b (λ s. body_sites s its) → first_repeated [] [] b ≡ repeated_from [] (before ++ body_sites scope its)
unfolding Named
refused_by before scope a b its h p =
    ap (first_repeated [] []) (p scope ∙ ap (λ l. l ++ namings_of (body_sites scope its)) h ∙ sym (namings_append before (body_sites scope its)))
    ∙ sym (repeats_are (before ++ body_sites scope its))

-- ---- loops

-- the own objects of a task body, one declaration after the other
pub objects_more : (now grown total : List Naming) (here here' : List ℕ) (ds : List Decl) (i : ℕ) (d : Decl) → i < length ds → d ≡ get_or ds i d
    → grown ≡ now ++ declared false here (object_words (plain_decl d)) → here' ≡ with_words here (object_words (plain_decl d))
    → now ++ declared false here (flat_map object_words (map plain_decl (drop i ds))) ≡ total → grown ++ declared false here' (flat_map object_words (map plain_decl (drop (i + 1) ds))) ≡ total
objects_more now grown total here here' ds i d h is g e before =
    let rest : List Word = flat_map object_words (map plain_decl (drop (i + 1) ds)) in
    let ws : List Word = object_words (plain_decl d) in
    ap (λ l. l ++ declared false here' rest) g
    ∙ ap (λ l. (now ++ declared false here ws) ++ declared false l rest) e
    ∙ append_assoc now (declared false here ws) (declared false (with_words here ws) rest)
    ∙ ap (λ l. now ++ l) (sym (declared_append false here ws rest))
    ∙ ap (λ x. now ++ declared false here (flat_map object_words (map plain_decl (x ∷ drop (i + 1) ds)))) is
    ∙ ap (λ l. now ++ declared false here (flat_map object_words (map plain_decl l))) (sym (drop_more ds i d h))
    ∙ before

pub objects_over : (now total : List Naming) (here : List ℕ) (ds : List Decl) (i : ℕ) → length ds ≤ i → now ++ declared false here (flat_map object_words (map plain_decl (drop i ds))) ≡ total → now ≡ total
objects_over now total here ds i h before = sym (append-nil now) ∙ ap (λ l. now ++ declared false here (flat_map object_words (map plain_decl l))) (sym (drop_of_length-le ds h)) ∙ before

-- an entry
entry_once : (s : Scope) (names : List ℕ) (w : Word) (rest : List Site) → namings_of (site s (declares_entry names w) ∷ rest) ≡ named_once names (w ∷ []) ++ namings_of rest
unfolding namings_of
entry_once s names w rest = refl

entry_named_at : (a b c : List Naming) (names : List ℕ) (e : PEntry) → b ≡ a ++ named_once names (e.name ∷ []) → Named b c (λ s. formals_sites s e.formals) → Named a c (λ s. entry_sites s names e)
unfolding Named
entry_named_at a b c names e h p = λ s.
    p s
    ∙ ap (λ l. l ++ namings_of (formals_sites s e.formals)) h
    ∙ append_assoc a (named_once names (e.name ∷ [])) (namings_of (formals_sites s e.formals))
    ∙ ap (λ l. a ++ (named_once names (e.name ∷ []) ++ (l ++ namings_of (formals_sites s e.formals)))) (sym (quiet_there (drange_sites true s) e.family (quiet_drange true s)))
    ∙ ap (λ l. a ++ (named_once names (e.name ∷ []) ++ l)) (sym (namings_append (if_there (drange_sites true s) e.family) (formals_sites s e.formals)))
    ∙ ap (λ l. a ++ l) (sym (entry_once s names e.name (if_there (drange_sites true s) e.family ++ formals_sites s e.formals)))

pub entry_of : (a b c : List Naming) (names : List ℕ) (e : EntryDecl) (fs : List Formal) → fs ≡ e.formals.items → b ≡ a ++ named_once names (e.name ∷ []) → Named b c (λ s. formals_sites s (map plain_formal fs)) → Named a c (λ s. entry_sites s names (plain_entry e))
entry_of a b c names e fs g h p = entry_named_at a b c names (plain_entry e) h (subst (λ y. Named b c (λ s. formals_sites s (map plain_formal y))) g p)

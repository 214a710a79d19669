-- The objects with which tasks start: their names are the program's own and those of no constant and no literal, and their values are of known kinds.
use Rattle.std.proofs.Common.{◌≡◌, ℕ, Bool, true, false, ◌&&◌, ◌||◌, ◌==◌, if◌then◌else◌, List, [], ◌∷◌, ◌++◌, unwrap_or, Option, Some, None, is_none, IfSome, refl, sym, ap, ◌∙◌, true≢false}
use Rattle.std.specs.List.{AllByRecursion}
use Rattle.std.proofs.lemmas.List.Elements.{recursion_from_All}
use Rattle.ada_tree.specs.declared.naming.NameId.{NameId}
use Rattle.ada_tree.specs.declared.naming.Span.{Span}
use Rattle.ada_tree.specs.declared.naming.Word.{Word}
use Rattle.ada_tree.specs.TypeTable.{TypeTable}
use Rattle.ada_tree.specs.PlainExpr.{PDrange, PSubind}
use Rattle.ada_tree.specs.PlainDecl.{PShape, OPlain, OArray, PInit, PDecl, DNumber, DObject, DEnumeration, DArray, DSubtype, DException, DIntIo, DPragma, DTask, DTaskBody, PDecls, no_decl, decl_then}
use Rattle.ada_tree.specs.Every.{EveryWord, EveryInit, EveryDecls}
use Rattle.ada_static_rules.specs.Scope.{Scope, Marking, ScalarMark, ArrayMark, TaskMark, NoMark, UnknownMark, UnclearMark, marking}
use Rattle.ada_static_rules.specs.StaticValue.{value_named}
use Rattle.ada_static_rules.specs.Demand.{Site}
use Rattle.ada_static_rules.specs.Sites.{names_sites, shape_sites, init_sites, object_marking, is_task_object, if_there, own_object_sites, own_sites, decl_sites, decls_sites, body_sites}
use Rattle.ada_static_rules.specs.Declaring.{inner_scope, object_meaning as declared_thing, made_subind, made_array, drange_range, plain_object, array_object, declared_object, in_body, after_own_object, after_objects, after_decl}
use Rattle.ada_value.specs.declared.values.Form.{Form}
use Rattle.ada_value.specs.Values.{kind_of_value}
use Rattle.ada_value.specs.Variables.{Object, Variables, value_there}
use Rattle.task_model.specs.Starting.{form_of, object_of, with_objects, declared_objects, after_declaration, objects_of, unit_among}
use Rattle.task_laws.specs.legal.rewritten_types.Rewriting.{mark_of, if_stays, is_no_task, staying}
use Rattle.task_laws.specs.legal.rewritten_values.Values.{is_known, old_names, AgreeOnValues}
use Rattle.normal_laws.proofs.existence.units.KnownValues.{InitOld, initials-known, there-known}
use Rattle.normal_laws.specs.existence.units.Laws.{IsFreeLocal}
use Rattle.normal_laws.proofs.existence.units.Lacking.{own-main}
use Rattle.common_lemmas.proofs.Lists.{all_back, all_front}

module _ (old : ℕ → Bool) (T U : TypeTable) (before after : List (List ℕ)) (agree : AgreeOnValues old T U before after) where
  -- a plain object
  pub record IsPlainObject (o : Object) : Type 0 where
    pub old_name : old o.name.0 ≡ true
    pub known : (k : ℕ) → is_known T (kind_of_value (value_there o k)) ≡ true
    pub free : value_named T o.name ≡ None

  abbrev Free : Site → Type 0
  Free x = IsFreeLocal T x.demand

  abbrev FreeWord : Word → Type 0
  FreeWord w = value_named T w.name ≡ None

  free-words : (fixed : Bool) (s : Scope) (ws : List Word) → fixed ≡ false → AllByRecursion Free (names_sites fixed s ws) → AllByRecursion FreeWord ws
  free-words fixed s [] e h = tt
  free-words true s (w ∷ ws) e h = absurd (true≢false e)
  free-words false s (w ∷ ws) e h = (h.0, free-words false (record s { here = w.name.0 ∷ s.here }) ws e h.1)

  -- the objects of one declaration
  words-plain : (form : Form) (i : Option PInit) (ws : List Word) (vars : Variables) → IfSome i (EveryInit (old_names old)) → AllByRecursion (EveryWord (old_names old)) ws → AllByRecursion FreeWord ws → AllByRecursion IsPlainObject vars →
      AllByRecursion IsPlainObject (with_objects T form i ws vars)
  words-plain form i [] vars own o f h = h
  words-plain form i (w ∷ ws) vars own o f h =
      words-plain form i ws (object_of T form i w ∷ vars) own o.1 f.1
      (record { old_name = o.0; known = λ k. there-known old T U before after agree (object_of T form i w).values k (initials-known old T U before after agree form i (init i own)); free = f.0 }, h)
    where
      init : (i : Option PInit) → IfSome i (EveryInit (old_names old)) → InitOld old T U before after agree i
      init None k = tt
      init (Some x) k = k

  -- ---- the objects of a body

  own-plain : (d : PDecl) (rest : PDecls) (s : Scope) (vars : Variables) → s.in_main ≡ false → AllByRecursion Free (own_object_sites s d) → EveryDecls (old_names old) (decl_then d rest) → AllByRecursion IsPlainObject vars → AllByRecursion IsPlainObject (after_declaration T false d vars)
  own-plain (DObject ws c x i sp) rest s vars main f own h = by_form (form_of T x)
    where
      flag : (s.in_main && (c || is_task_object (declared_object s c x).thing)) ≡ false
      flag = ap (λ (b : Bool). b && (c || is_task_object (declared_object s c x).thing)) main

      by_form : (o : Option Form) → AllByRecursion IsPlainObject (declared_objects T false ws c i o vars)
      by_form None = h
      by_form (Some form) =
          let fixed = s.in_main && (c || is_task_object (declared_object s c x).thing) in
          let named = names_sites fixed s ws in
          let places = all_front Free named (shape_sites s c x i) (all_front Free (named ++ shape_sites s c x i) (if_there (init_sites s (declared_object s c x).types (object_marking (declared_object s c x))) i) f) in
          words-plain form i ws vars own.0.4 (recursion_from_All (EveryWord (old_names old)) ws own.0.1.1) (free-words fixed s ws flag places) h
  own-plain (DNumber w e sp) rest s vars main f own h = h
  own-plain (DEnumeration w ws sp) rest s vars main f own h = h
  own-plain (DArray w i x sp) rest s vars main f own h = h
  own-plain (DSubtype w x sp) rest s vars main f own h = h
  own-plain (DException ws sp) rest s vars main f own h = h
  own-plain (DIntIo w sp) rest s vars main f own h = h
  own-plain (DPragma e sp) rest s vars main f own h = h
  own-plain (DTask t sp) rest s vars main f own h = h
  own-plain (DTaskBody w ds b sp) rest s vars main f own h = h

  pub owns-plain : (ds : PDecls) (s : Scope) (vars : Variables) → s.in_main ≡ false → AllByRecursion Free (own_sites s ds) → EveryDecls (old_names old) ds → AllByRecursion IsPlainObject vars → AllByRecursion IsPlainObject (objects_of T false ds vars)
  owns-plain no_decl s vars main f own h = h
  owns-plain (decl_then d rest) s vars main f own h =
      owns-plain rest (after_own_object s d) (after_declaration T false d vars) (own-main 0 d s ∙ main) (all_back Free (own_object_sites s d) (own_sites (after_own_object s d) rest) f) own.1
      (own-plain d rest s vars main (all_front Free (own_object_sites s d) (own_sites (after_own_object s d) rest) f) own h)

  -- the objects of the unit of a name
  pub units-plain : (ds : PDecls) (s : Scope) (id : NameId) → AllByRecursion Free (decls_sites s ds) → EveryDecls (old_names old) ds →
      AllByRecursion IsPlainObject (objects_of T (unit_among ds id).in_main (unit_among ds id).decls [])
  units-plain no_decl s id f own = tt
  units-plain (decl_then (DTaskBody w ds b sp) rest) s id f own = by_test (w.name.0 == id.0)
      (units-plain rest (after_decl s (DTaskBody w ds b sp)) id (all_back Free (decl_sites s (DTaskBody w ds b sp)) (decls_sites (after_decl s (DTaskBody w ds b sp)) rest) f) own.1)
    where
      places : AllByRecursion Free (decl_sites s (DTaskBody w ds b sp))
      places = all_front Free (decl_sites s (DTaskBody w ds b sp)) (decls_sites (after_decl s (DTaskBody w ds b sp)) rest) f

      by_test : (q : Bool) → AllByRecursion IsPlainObject (objects_of T (unit_among rest id).in_main (unit_among rest id).decls []) →
          AllByRecursion IsPlainObject (objects_of T (unwrap_or (if q then Some (record { in_main = false; decls = ds; body = b }) else None) (unit_among rest id)).in_main (unwrap_or (if q then Some (record { in_main = false; decls = ds; body = b }) else None) (unit_among rest id)).decls [])
      by_test false later = later
      by_test true later = owns-plain ds (in_body s w) [] refl (all_front Free (own_sites (in_body s w) ds) (body_sites (inner_scope (after_objects (in_body s w) ds)) b) places.1) own.0.3 tt
  units-plain (decl_then (DObject ws c x i sp) rest) s id f own = units-plain rest (after_decl s (DObject ws c x i sp)) id (all_back Free (decl_sites s (DObject ws c x i sp)) (decls_sites (after_decl s (DObject ws c x i sp)) rest) f) own.1
  units-plain (decl_then (DNumber w e sp) rest) s id f own = units-plain rest (after_decl s (DNumber w e sp)) id (all_back Free (decl_sites s (DNumber w e sp)) (decls_sites (after_decl s (DNumber w e sp)) rest) f) own.1
  units-plain (decl_then (DEnumeration w ws sp) rest) s id f own = units-plain rest (after_decl s (DEnumeration w ws sp)) id (all_back Free (decl_sites s (DEnumeration w ws sp)) (decls_sites (after_decl s (DEnumeration w ws sp)) rest) f) own.1
  units-plain (decl_then (DArray w i x sp) rest) s id f own = units-plain rest (after_decl s (DArray w i x sp)) id (all_back Free (decl_sites s (DArray w i x sp)) (decls_sites (after_decl s (DArray w i x sp)) rest) f) own.1
  units-plain (decl_then (DSubtype w x sp) rest) s id f own = units-plain rest (after_decl s (DSubtype w x sp)) id (all_back Free (decl_sites s (DSubtype w x sp)) (decls_sites (after_decl s (DSubtype w x sp)) rest) f) own.1
  units-plain (decl_then (DException ws sp) rest) s id f own = units-plain rest (after_decl s (DException ws sp)) id (all_back Free (decl_sites s (DException ws sp)) (decls_sites (after_decl s (DException ws sp)) rest) f) own.1
  units-plain (decl_then (DIntIo w sp) rest) s id f own = units-plain rest (after_decl s (DIntIo w sp)) id (all_back Free (decl_sites s (DIntIo w sp)) (decls_sites (after_decl s (DIntIo w sp)) rest) f) own.1
  units-plain (decl_then (DPragma e sp) rest) s id f own = units-plain rest (after_decl s (DPragma e sp)) id (all_back Free (decl_sites s (DPragma e sp)) (decls_sites (after_decl s (DPragma e sp)) rest) f) own.1
  units-plain (decl_then (DTask t sp) rest) s id f own = units-plain rest (after_decl s (DTask t sp)) id (all_back Free (decl_sites s (DTask t sp)) (decls_sites (after_decl s (DTask t sp)) rest) f) own.1

  -- ---- the objects of main

  -- the names of an array constant of main are those of no constant that is scalar and of no literal
  abbrev pub ArrayFree : PDecl → Type 0
  ArrayFree (DObject ws true x i sp) = (form : Form) → form_of T x ≡ Some form → is_none form.index ≡ false → AllByRecursion FreeWord ws
  ArrayFree _ = Unit {0}

  abbrev pub ArraysFree : PDecls → Type 0
  ArraysFree no_decl = Unit {0}
  ArraysFree (decl_then d rest) = ArrayFree d × ArraysFree rest

  no-object : (c : Bool) (o : Option ℕ) → is_task_object (declared_thing c o) ≡ false
  no-object true (Some m) = refl
  no-object true None = refl
  no-object false (Some m) = refl
  no-object false None = refl

  no-task-plain : (s : Scope) (c : Bool) (m : Marking) (x : PSubind) → is_no_task m ≡ true → is_task_object (plain_object s c m x).thing ≡ false
  no-task-plain s c (TaskMark es) x e = absurd (true≢false (sym e))
  no-task-plain s true (ArrayMark m r p) x e = refl
  no-task-plain s false (ArrayMark m r p) x e = refl
  no-task-plain s c (ScalarMark m k) x e = no-object c (made_subind s x).mark
  no-task-plain s c NoMark x e = no-object c (made_subind s x).mark
  no-task-plain s c UnknownMark x e = no-object c (made_subind s x).mark
  no-task-plain s c UnclearMark x e = no-object c (made_subind s x).mark

  no-task-row : (s : Scope) (c : Bool) (m : Marking) (r : PDrange) (x : PSubind) → is_no_task m ≡ true → is_task_object (array_object s c m r x).thing ≡ false
  no-task-row s c (TaskMark es) r x e = absurd (true≢false (sym e))
  no-task-row s c (ArrayMark m q p) r x e = no-object c (made_array None (made_subind s x).types (drange_range s r) (made_subind s x).mark).mark
  no-task-row s c (ScalarMark m k) r x e = no-object c (made_array None (made_subind s x).types (drange_range s r) (made_subind s x).mark).mark
  no-task-row s c NoMark r x e = no-object c (made_array None (made_subind s x).types (drange_range s r) (made_subind s x).mark).mark
  no-task-row s c UnknownMark r x e = no-object c (made_array None (made_subind s x).types (drange_range s r) (made_subind s x).mark).mark
  no-task-row s c UnclearMark r x e = no-object c (made_array None (made_subind s x).types (drange_range s r) (made_subind s x).mark).mark

  no-task : (s : Scope) (c : Bool) (x : PShape) → is_no_task (marking s (mark_of x)) ≡ true → is_task_object (declared_object s c x).thing ≡ false
  no-task s c (OPlain x) e = no-task-plain s c (marking s x.mark.name) x e
  no-task s c (OArray r x) e = no-task-row s c (marking s x.mark.name) r x e

  no-flag : (b : Bool) → (b && false) ≡ false
  no-flag true = refl
  no-flag false = refl

  main-object : (ws : List Word) (c : Bool) (x : PShape) (i : Option PInit) (sp : Span) (rest : PDecls) (s : Scope) (vars : Variables) → is_no_task (marking s (mark_of x)) ≡ true →
      AllByRecursion Free (decl_sites s (DObject ws c x i sp)) → EveryDecls (old_names old) (decl_then (DObject ws c x i sp) rest) → ArrayFree (DObject ws c x i sp) → AllByRecursion IsPlainObject vars →
      AllByRecursion IsPlainObject (after_declaration T true (DObject ws c x i sp) vars)
  main-object ws false x i sp rest s vars other f own arrays h = by_form (form_of T x)
    where
      flag : (s.in_main && (false || is_task_object (declared_object s false x).thing)) ≡ false
      flag = ap (λ (b : Bool). s.in_main && b) (no-task s false x other) ∙ no-flag s.in_main

      by_form : (o : Option Form) → AllByRecursion IsPlainObject (declared_objects T true ws false i o vars)
      by_form None = h
      by_form (Some form) =
          let fixed = s.in_main && (false || is_task_object (declared_object s false x).thing) in
          let named = names_sites fixed s ws in
          let places = all_front Free named (shape_sites s false x i) (all_front Free (named ++ shape_sites s false x i) (if_there (init_sites s (declared_object s false x).types (object_marking (declared_object s false x))) i) f) in
          words-plain form i ws vars own.0.4 (recursion_from_All (EveryWord (old_names old)) ws own.0.1.1) (free-words fixed s ws flag places) h
  main-object ws true x i sp rest s vars other f own arrays h = by_form (form_of T x) refl
    where
      by_index : (form : Form) → form_of T x ≡ Some form → (b : Bool) → is_none form.index ≡ b → AllByRecursion IsPlainObject (if b then vars else with_objects T form i ws vars)
      by_index form e true q = h
      by_index form e false q = words-plain form i ws vars own.0.4 (recursion_from_All (EveryWord (old_names old)) ws own.0.1.1) (arrays form e q) h

      by_form : (o : Option Form) → form_of T x ≡ o → AllByRecursion IsPlainObject (declared_objects T true ws true i o vars)
      by_form None e = h
      by_form (Some form) e = by_index form e (is_none form.index) refl

  pub main-plain : (ds : PDecls) (s : Scope) (vars : Variables) → AllByRecursion Free (decls_sites s ds) → EveryDecls (old_names old) ds → ArraysFree ds → AllByRecursion IsPlainObject vars → AllByRecursion IsPlainObject (objects_of T true (staying s ds) vars)
  main-plain no_decl s vars f own arrays h = h
  main-plain (decl_then (DObject ws c x i sp) rest) s vars f own arrays h = by_test (is_no_task (marking s (mark_of x))) refl
      (λ more k. main-plain rest (after_decl s (DObject ws c x i sp)) more (all_back Free (decl_sites s (DObject ws c x i sp)) (decls_sites (after_decl s (DObject ws c x i sp)) rest) f) own.1 arrays.1 k)
    where
      by_test : (b : Bool) → is_no_task (marking s (mark_of x)) ≡ b → ((more : Variables) → AllByRecursion IsPlainObject more → AllByRecursion IsPlainObject (objects_of T true (staying (after_decl s (DObject ws c x i sp)) rest) more)) →
          AllByRecursion IsPlainObject (objects_of T true (if_stays b (DObject ws c x i sp) (staying (after_decl s (DObject ws c x i sp)) rest)) vars)
      by_test false e later = later vars h
      by_test true e later =
          later (after_declaration T true (DObject ws c x i sp) vars)
          (main-object ws c x i sp rest s vars e (all_front Free (decl_sites s (DObject ws c x i sp)) (decls_sites (after_decl s (DObject ws c x i sp)) rest) f) own arrays.0 h)
  main-plain (decl_then (DTask t sp) rest) s vars f own arrays h = main-plain rest (after_decl s (DTask t sp)) vars (all_back Free (decl_sites s (DTask t sp)) (decls_sites (after_decl s (DTask t sp)) rest) f) own.1 arrays.1 h
  main-plain (decl_then (DTaskBody w ds b sp) rest) s vars f own arrays h = main-plain rest (after_decl s (DTaskBody w ds b sp)) vars (all_back Free (decl_sites s (DTaskBody w ds b sp)) (decls_sites (after_decl s (DTaskBody w ds b sp)) rest) f) own.1 arrays.1 h
  main-plain (decl_then (DNumber w e sp) rest) s vars f own arrays h = main-plain rest (after_decl s (DNumber w e sp)) vars (all_back Free (decl_sites s (DNumber w e sp)) (decls_sites (after_decl s (DNumber w e sp)) rest) f) own.1 arrays.1 h
  main-plain (decl_then (DEnumeration w ws sp) rest) s vars f own arrays h = main-plain rest (after_decl s (DEnumeration w ws sp)) vars (all_back Free (decl_sites s (DEnumeration w ws sp)) (decls_sites (after_decl s (DEnumeration w ws sp)) rest) f) own.1 arrays.1 h
  main-plain (decl_then (DArray w i x sp) rest) s vars f own arrays h = main-plain rest (after_decl s (DArray w i x sp)) vars (all_back Free (decl_sites s (DArray w i x sp)) (decls_sites (after_decl s (DArray w i x sp)) rest) f) own.1 arrays.1 h
  main-plain (decl_then (DSubtype w x sp) rest) s vars f own arrays h = main-plain rest (after_decl s (DSubtype w x sp)) vars (all_back Free (decl_sites s (DSubtype w x sp)) (decls_sites (after_decl s (DSubtype w x sp)) rest) f) own.1 arrays.1 h
  main-plain (decl_then (DException ws sp) rest) s vars f own arrays h = main-plain rest (after_decl s (DException ws sp)) vars (all_back Free (decl_sites s (DException ws sp)) (decls_sites (after_decl s (DException ws sp)) rest) f) own.1 arrays.1 h
  main-plain (decl_then (DIntIo w sp) rest) s vars f own arrays h = main-plain rest (after_decl s (DIntIo w sp)) vars (all_back Free (decl_sites s (DIntIo w sp)) (decls_sites (after_decl s (DIntIo w sp)) rest) f) own.1 arrays.1 h
  main-plain (decl_then (DPragma e sp) rest) s vars f own arrays h = main-plain rest (after_decl s (DPragma e sp)) vars (all_back Free (decl_sites s (DPragma e sp)) (decls_sites (after_decl s (DPragma e sp)) rest) f) own.1 arrays.1 h

-- Each array of tasks is seen from behind all declarations with the range with which it is declared.
use Rattle.std.proofs.Common.{◌≡◌, ℕ, Bool, true, false, List, [], ◌∷◌, IfSome, Option, Some, None, refl, sym, ap, ◌∙◌, subst}
use Rattle.std.specs.List.{AllByRecursion}
use Rattle.std.proofs.lemmas.Option.{none-some}
use Rattle.common_lemmas.proofs.Lists.{all_joined, all_weaker}
use Rattle.common_lemmas.proofs.Options.{some_same}
use Rattle.ada_tree.specs.declared.naming.Span.{Span}
use Rattle.ada_tree.specs.declared.naming.Word.{Word}
use Rattle.ada_tree.specs.TypeTable.{TypeTable}
use Rattle.ada_tree.specs.PlainExpr.{PDrange, PSubind}
use Rattle.ada_tree.specs.PlainDecl.{PShape, OPlain, OArray, PInit, PTask, PDecl, DNumber, DObject, DEnumeration, DArray, DSubtype, DException, DIntIo, DPragma, DTask, DTaskBody, PDecls, no_decl, decl_then}
use Rattle.ada_static_rules.specs.Scope.{Scope, Range, Marking, ScalarMark, ArrayMark, TaskMark, NoMark, UnknownMark, UnclearMark, Thing, TaskArray, EntryPart, meaning, marking}
use Rattle.ada_static_rules.specs.Declaring.{with_types, with_constants, drange_range, task_array, made_subind, made_array, object_meaning, array_object, declared_object, after_decl, after_decls}
use Rattle.syn_event.specs.NamedTasks.{NamedTasks, task_names_of_type, type_named, with_type, object_task_names, single_task_name, task_names_in}
use Rattle.task_laws.specs.legal.rewritten_types.Rewriting.{DeclareOnce}
use Rattle.task_laws.proofs.legal.rewritten_types.Fresh.{InHere, here-decl}
use Rattle.task_laws.proofs.legal.types.TaskTypes.{IsRangeHere, DeclRanges, AllRanges}
use Rattle.normal_laws.specs.structure.typed.ScopeOf.{IsRange}
use Rattle.normal_laws.proofs.legality.scopes.Later.{decls-kept}
use Rattle.normal_laws.proofs.legality.scopes.Seeing.{all-mean}

-- an array of tasks is seen with its range
abbrev pub IsRowSeen : TypeTable → Scope → NamedTasks → Type 0
IsRowSeen T S x = (r : PDrange) (range : Range) (es : List EntryPart) → x.index_range ≡ Some r → meaning S x.name.name ≡ Some (TaskArray range es) → IsRange T (Some r) range

-- an object with a mark of values is no array of tasks
no-row : (c : Bool) (o : Option ℕ) (range : Range) (es : List EntryPart) → object_meaning c o ≡ TaskArray range es → ⊥
no-row true (Some m) range es e = cc
no-row false (Some m) range es e = cc
no-row true None range es e = cc
no-row false None range es e = cc

same-range : (a b : Range) (xs ys : List EntryPart) → TaskArray a xs ≡ TaskArray b ys → a ≡ b
same-range a b xs ys e = cc

array-is : (T : TypeTable) (s : Scope) (constant : Bool) (m : Marking) (r : PDrange) (x : PSubind) (range : Range) (es : List EntryPart) → IsRangeHere T s r → (array_object s constant m r x).thing ≡ TaskArray range es → IsRange T (Some r) range
array-is T s constant (TaskMark entries) r x range es here e = by_main s.in_main (drange_range s r) here.known e
  where
    by_main : (b : Bool) (o : Option Range) → o ≡ Some record { kind = here.limits.limits.kind; first = here.limits.limits.first; last = here.limits.limits.last } → task_array b o entries ≡ TaskArray range es → IsRange T (Some r) range
    by_main true (Some y) f g =
        let q = sym (some_same f) ∙ same-range y range entries es g in
        record { written = r; is = refl; has = here.limits; kind = ap (λ (z : Range). z.kind) q; first = ap (λ (z : Range). z.first) q; last = ap (λ (z : Range). z.last) q }
    by_main true None f g = absurd (none-some _ f)
    by_main false (Some y) f g = cc
    by_main false None f g = cc
array-is T s constant (ScalarMark m k) r x range es here e = absurd (no-row constant (made_array None (made_subind s x).types (drange_range s r) (made_subind s x).mark).mark range es e)
array-is T s constant (ArrayMark m i k) r x range es here e = absurd (no-row constant (made_array None (made_subind s x).types (drange_range s r) (made_subind s x).mark).mark range es e)
array-is T s constant NoMark r x range es here e = absurd (no-row constant (made_array None (made_subind s x).types (drange_range s r) (made_subind s x).mark).mark range es e)
array-is T s constant UnknownMark r x range es here e = absurd (no-row constant (made_array None (made_subind s x).types (drange_range s r) (made_subind s x).mark).mark range es e)
array-is T s constant UnclearMark r x range es here e = absurd (no-row constant (made_array None (made_subind s x).types (drange_range s r) (made_subind s x).mark).mark range es e)

module _ (T : TypeTable) where
  names-rows : (S : Scope) (th : Thing) (ws : List Word) (t : PTask) (row : Option PDrange) → ((range : Range) (es : List EntryPart) → th ≡ TaskArray range es → IfSome row (λ r. IsRange T (Some r) range)) →
      AllByRecursion (λ (w : Word). meaning S w.name ≡ Some th) ws → AllByRecursion (IsRowSeen T S) (task_names_of_type (Some t) ws row)
  names-rows S th [] t row h m = tt
  names-rows S th (w ∷ ws) t row h m = (λ r range es e f. subst (λ o. IfSome o (λ q. IsRange T (Some q) range)) e (h range es (some_same (sym m.0 ∙ f))), names-rows S th ws t row h m.1)

  typed-rows : (S : Scope) (th : Thing) (ws : List Word) (o : Option PTask) (row : Option PDrange) → ((range : Range) (es : List EntryPart) → th ≡ TaskArray range es → IfSome row (λ r. IsRange T (Some r) range)) →
      AllByRecursion (λ (w : Word). meaning S w.name ≡ Some th) ws → AllByRecursion (IsRowSeen T S) (task_names_of_type o ws row)
  typed-rows S th ws None row h m = tt
  typed-rows S th ws (Some t) row h m = names-rows S th ws t row h m

  object-rows : (S s : Scope) (kinds : List PTask) (ws : List Word) (constant : Bool) (x : PShape) (init : Option PInit) (sp : Span) → DeclRanges T s (DObject ws constant x init sp) →
      AllByRecursion (λ (w : Word). meaning S w.name ≡ Some (declared_object s constant x).thing) ws → AllByRecursion (IsRowSeen T S) (object_task_names kinds ws x)
  object-rows S s kinds ws constant (OPlain y) init sp ranges m = typed-rows S (declared_object s constant (OPlain y)).thing ws (type_named kinds y.mark.name) None (λ range es e. tt) m
  object-rows S s kinds ws constant (OArray r y) init sp ranges m =
      typed-rows S (declared_object s constant (OArray r y)).thing ws (type_named kinds y.mark.name) (Some r) (λ range es e. array-is T s constant (marking s y.mark.name) r y range es ranges e) m

  task-row : (S : Scope) (b : Bool) (t : PTask) (sp : Span) → AllByRecursion (IsRowSeen T S) (single_task_name b t sp)
  task-row S true t sp = tt
  task-row S false t sp = (λ r range es e f. absurd (none-some r e), tt)

  -- So it is with each name that stands for tasks.
  pub rows-seen : (ds : PDecls) (kinds : List PTask) (s : Scope) → InHere s → DeclareOnce s ds → AllRanges T s ds → AllByRecursion (IsRowSeen T (after_decls s ds)) (task_names_in kinds ds)
  rows-seen no_decl kinds s here once ranges = tt
  rows-seen (decl_then (DTask t sp) rest) kinds s here once ranges =
      let S : Scope = after_decls s (decl_then (DTask t sp) rest) in
      all_joined (IsRowSeen T S) (single_task_name t.of_kind t sp) _ (task-row S t.of_kind t sp) (rows-seen rest (with_type kinds t.of_kind t) (after_decl s (DTask t sp)) (here-decl (DTask t sp) s here) once.1 ranges.1)
  rows-seen (decl_then (DObject ws c x i sp) rest) kinds s here once ranges =
      let d : PDecl = DObject ws c x i sp in
      let S : Scope = after_decls s (decl_then d rest) in
      let th : Thing = (declared_object s c x).thing in
      all_joined (IsRowSeen T S) (object_task_names kinds ws x) (task_names_in kinds rest)
      (object-rows S s kinds ws c x i sp ranges.0
      (all_weaker (λ (w : Word). meaning (after_decl s d) w.name ≡ Some th) (λ (w : Word). meaning S w.name ≡ Some th) ws (λ w e. decls-kept rest (after_decl s d) (here-decl d s here) once.1 w.name th e)
      (all-mean S th ws (with_types (with_constants s ws i (declared_object s c x)) s))))
      (rows-seen rest kinds (after_decl s d) (here-decl d s here) once.1 ranges.1)
  rows-seen (decl_then (DNumber w e sp) rest) kinds s here once ranges = rows-seen rest kinds _ (here-decl (DNumber w e sp) s here) once.1 ranges.1
  rows-seen (decl_then (DEnumeration w ws sp) rest) kinds s here once ranges = rows-seen rest kinds _ (here-decl (DEnumeration w ws sp) s here) once.1 ranges.1
  rows-seen (decl_then (DArray w r x sp) rest) kinds s here once ranges = rows-seen rest kinds _ (here-decl (DArray w r x sp) s here) once.1 ranges.1
  rows-seen (decl_then (DSubtype w x sp) rest) kinds s here once ranges = rows-seen rest kinds _ (here-decl (DSubtype w x sp) s here) once.1 ranges.1
  rows-seen (decl_then (DException ws sp) rest) kinds s here once ranges = rows-seen rest kinds _ (here-decl (DException ws sp) s here) once.1 ranges.1
  rows-seen (decl_then (DIntIo w sp) rest) kinds s here once ranges = rows-seen rest kinds _ (here-decl (DIntIo w sp) s here) once.1 ranges.1
  rows-seen (decl_then (DPragma e sp) rest) kinds s here once ranges = rows-seen rest kinds _ (here-decl (DPragma e sp) s here) once.1 ranges.1
  rows-seen (decl_then (DTaskBody w objects its sp) rest) kinds s here once ranges = rows-seen rest kinds _ (here-decl (DTaskBody w objects its sp) s here) once.1 ranges.1

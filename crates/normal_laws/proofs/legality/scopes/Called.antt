-- The entries that are called and accepted in a legal program are those of the numbers.
use Rattle.std.proofs.Common.{◌≡◌, ℕ, zero, suc, ℤ, pos, negsuc, int_le, ◌-ℤ◌, ◌+ℤ◌, Bool, true, false, ◌==◌, if◌then◌else◌, List, [], ◌∷◌, ◌++◌, map, filter, find, slice_get, unwrap_or, is_some, Option, Some, None, inl, inr, refl, sym, ap, ◌∙◌, subst, true≢false, arith}
use Rattle.std.proofs.lemmas.Int.{ints}
use Rattle.std.specs.List.{AllByRecursion}
use Rattle.std.proofs.lemmas.Option.{none-some}
use Rattle.common_lemmas.proofs.Lists.{all_front, all_kept, found_passes}
use Rattle.common_lemmas.proofs.Options.{some_same}
use Rattle.common_lemmas.proofs.Numbers.{equal_is}
use Rattle.ada_tree.specs.declared.naming.NameId.{NameId}
use Rattle.ada_tree.specs.declared.naming.Word.{Word}
use Rattle.ada_tree.specs.TypeTable.{TypeTable}
use Rattle.ada_tree.specs.PlainExpr.{PDrange}
use Rattle.ada_tree.specs.PlainDecl.{PEntry, PTask, DNumber, DObject, DEnumeration, DArray, DSubtype, DException, DIntIo, DPragma, DTask, DTaskBody, PDecls, no_decl, decl_then}
use Rattle.ada_tree.specs.PlainProgram.{PProgram}
use Rattle.ada_static_rules.specs.Refusals.{types_in}
use Rattle.ada_static_rules.specs.Scope.{Scope, Thing, TypeMark, TaskType, SingleTask, TaskObject, TaskArray, Variable, ConstantObject, Parameter, LoopParameter, Literal, AnException, MainProcedure, AnotherUnit, Unclear, Family, single, family, unclear, EntryPart, meaning, entry_named}
use Rattle.ada_static_rules.specs.Sites.{decls_sites, body_sites}
use Rattle.ada_static_rules.specs.Declaring.{first_scope, inner_scope, with_names, declared_object, with_types, with_constants, after_object, after_objects, after_decl, after_decls}
use Rattle.ada_static_rules.specs.RuleArgCount.{called_entry}
use Rattle.syn_event.specs.declared.numbering.TaskInfo.{TaskInfo}
use Rattle.syn_event.specs.Extents.{count_to}
use Rattle.syn_event.specs.DeclaredTasks.{tasks_of}
use Rattle.syn_event.specs.NamedTasks.{NamedTasks, NumberedTask, numbered_tasks, numbered_task, numbers_on, indices, tasks_of_range, tasks_of_name, task_names_of}
use Rattle.syn_event.specs.AddedNames.{task_info}
use Rattle.syn_event.specs.Numbering.{task_named}
use Rattle.syn_event.specs.CheckScope.{CheckScope}
use Rattle.syn_event.specs.CheckSites as check
use Rattle.task_model.specs.Setting.{Setting, entry_of, is_family}
use Rattle.normal_model.specs.Calls.{slots_of}
use Rattle.normal_model.specs.Ranges.{family_range}
use Rattle.normal_model.specs.NormalTree.{tasks_beside, first_running}
use Rattle.task_laws.specs.legal.rewritten_types.Rewriting.{DeclareOnce}
use Rattle.task_laws.proofs.legal.rewritten_types.Lookups.{find-all, place-all}
use Rattle.task_laws.proofs.legal.rewritten_types.Fresh.{InHere, here-decl}
use Rattle.task_laws.proofs.legal.rewritten_types.Adding.{names-main}
use Rattle.task_laws.specs.legal.sites.Met.{IsMet}
use Rattle.task_laws.proofs.legal.sites.Meeting.{all_met}
use Rattle.task_laws.specs.legal.types.Typed.{IsFirstTask}
use Rattle.task_laws.proofs.legal.types.TaskTypes.{part-units, tasks-have-types}
use Rattle.normal_laws.proofs.structure.entries.Lists.{found-place}
use Rattle.normal_laws.proofs.structure.entries.Entries.{IsTaskOf, HasEntry, entry-there}
use Rattle.normal_laws.specs.existence.Laws.{IsLegalOriginal}
use Rattle.normal_laws.proofs.existence.seen_tasks.Scopes.{is_one_of, meaning-out, meaning-in, IsNoTask, inner-object}
use Rattle.normal_laws.proofs.existence.seen_tasks.Parts.{is_called, IsUnit, IsExtent, Stands, IsTaskArray, Means, MainSeen}
use Rattle.normal_laws.proofs.existence.seen_tasks.Bodies.{first-seen, decls-step}
use Rattle.normal_laws.proofs.existence.seen_tasks.Tasks.{PartsKnown, IsFirst, first-task, mapped-place, numbered-tasks-units, one-unit}
use Rattle.normal_laws.proofs.existence.seen_tasks.Units.{objects-apart}
use Rattle.normal_laws.proofs.legality.asked.Tasks as asked
use Rattle.normal_laws.specs.structure.asked.Pieces.{IsAmong, first_among, later_among}
use Rattle.normal_laws.specs.structure.typed.ScopeOf.{AreSlots, IsRange, IsFamilyOf, IsEntryOf}
use Rattle.normal_laws.proofs.legality.scopes.Later.{decls-kept}
use Rattle.normal_laws.proofs.legality.scopes.Seeing.{HasEntries, entries_in}
use Rattle.normal_laws.proofs.legality.scopes.Places.{AtBodies, IsSeenOrHidden}
use Rattle.normal_laws.proofs.legality.scopes.Tasks.{has_name}
use Rattle.normal_laws.proofs.legality.scopes.Main.{g, last, once, last-placed, matched}
use Rattle.normal_laws.proofs.legality.scopes.Matched.{IsFamilyIn, IsMatched, IsTaskMatched, entry-found}

-- ---- what is called

-- a name that has an entry is that of a task, an object or an array, with that one among its entries
pub record IsCalled (o : Option Thing) (name : NameId) (part : EntryPart) : Type 0 where
  pub thing : Thing
  pub is : o ≡ Some thing
  pub entries : List EntryPart
  pub has : HasEntries entries thing
  pub named : entry_named entries name ≡ Some part

is-called : (o : Option Thing) (name : NameId) (part : EntryPart) → called_entry o name ≡ Some part → IsCalled o name part
is-called (Some (SingleTask es)) name part e = record { thing = SingleTask es; is = refl; entries = es; has = refl; named = e }
is-called (Some (TaskObject es)) name part e = record { thing = TaskObject es; is = refl; entries = es; has = refl; named = e }
is-called (Some (TaskArray range es)) name part e = record { thing = TaskArray range es; is = refl; entries = es; has = refl; named = e }
is-called (Some (TypeMark m)) name part e = absurd (none-some part e)
is-called (Some (TaskType es)) name part e = absurd (none-some part e)
is-called (Some (Variable m)) name part e = absurd (none-some part e)
is-called (Some (ConstantObject m)) name part e = absurd (none-some part e)
is-called (Some (Parameter mode m)) name part e = absurd (none-some part e)
is-called (Some (LoopParameter m)) name part e = absurd (none-some part e)
is-called (Some (Literal k)) name part e = absurd (none-some part e)
is-called (Some AnException) name part e = absurd (none-some part e)
is-called (Some MainProcedure) name part e = absurd (none-some part e)
is-called (Some AnotherUnit) name part e = absurd (none-some part e)
is-called (Some Unclear) name part e = absurd (none-some part e)
is-called None name part e = absurd (none-some part e)

-- a task is not what an inner scope declares
no-task : (es : List EntryPart) (th : Thing) → IsNoTask th → HasEntries es th → ⊥
no-task es (SingleTask xs) h k = h
no-task es (TaskObject xs) h k = h
no-task es (TaskArray range xs) h k = h
no-task es (TypeMark m) h k = k
no-task es (TaskType xs) h k = k
no-task es (Variable m) h k = k
no-task es (ConstantObject m) h k = k
no-task es (Parameter mode m) h k = k
no-task es (LoopParameter m) h k = k
no-task es (Literal n) h k = k
no-task es AnException h k = k
no-task es MainProcedure h k = k
no-task es AnotherUnit h k = k
no-task es Unclear h k = k

some-thing : (a b : Thing) → Some a ≡ Some b → a ≡ b
some-thing a b e = cc

object-back : (th : Thing) (ws : List Word) (s : Scope) (id : NameId) (es : List EntryPart) (x : Thing) → IsNoTask th → HasEntries es x → meaning (with_names th s ws) id ≡ Some x → meaning s id ≡ Some x
object-back th ws s id es x free has e = by_test (is_one_of ws id) refl
  where
    by_test : (b : Bool) → is_one_of ws id ≡ b → meaning s id ≡ Some x
    by_test true f = absurd (no-task es x (subst IsNoTask (some-thing th x (sym (meaning-in th ws s id f) ∙ e)) free) has)
    by_test false f = sym (meaning-out th ws s id f) ∙ e

-- what is a task behind the objects of a body is one before them
pub objects-back : (ds : PDecls) (s : Scope) (id : NameId) (es : List EntryPart) (x : Thing) → s.in_main ≡ false → HasEntries es x → meaning (after_objects s ds) id ≡ Some x → meaning s id ≡ Some x
objects-back no_decl s id es x main has e = e
objects-back (decl_then (DObject ws c y i sp) rest) s id es x main has e =
    object-back (declared_object s c y).thing ws (with_types (with_constants s ws i (declared_object s c y)) s) id es x (inner-object s c y main) has
    (objects-back rest (after_object s ws c y i) id es x (names-main _ ws (with_types _ s) ∙ main) has e)
objects-back (decl_then (DNumber w y sp) rest) s id es x main has e = objects-back rest s id es x main has e
objects-back (decl_then (DEnumeration w ws sp) rest) s id es x main has e = objects-back rest s id es x main has e
objects-back (decl_then (DArray w q y sp) rest) s id es x main has e = objects-back rest s id es x main has e
objects-back (decl_then (DSubtype w y sp) rest) s id es x main has e = objects-back rest s id es x main has e
objects-back (decl_then (DException ws sp) rest) s id es x main has e = objects-back rest s id es x main has e
objects-back (decl_then (DIntIo w sp) rest) s id es x main has e = objects-back rest s id es x main has e
objects-back (decl_then (DPragma y sp) rest) s id es x main has e = objects-back rest s id es x main has e
objects-back (decl_then (DTask u sp) rest) s id es x main has e = objects-back rest s id es x main has e
objects-back (decl_then (DTaskBody w os its sp) rest) s id es x main has e = objects-back rest s id es x main has e

-- what a name means at a body it means behind all declarations
abbrev pub IsKeptTo : Scope → Scope → Type 0
IsKeptTo S s = (id : NameId) (x : Thing) → meaning s id ≡ Some x → meaning S id ≡ Some x

pub kept-at : (ds : PDecls) (s : Scope) → InHere s → DeclareOnce s ds → AtBodies (IsKeptTo (after_decls s ds)) s ds
kept-at no_decl s here _ = λ id x e. e
kept-at (decl_then (DTaskBody w objects its sp) rest) s here once =
    (decls-kept (decl_then (DTaskBody w objects its sp) rest) s here once, kept-at rest (after_decl s (DTaskBody w objects its sp)) (here-decl (DTaskBody w objects its sp) s here) once.1)
kept-at (decl_then (DNumber w e sp) rest) s here once = kept-at rest _ (here-decl (DNumber w e sp) s here) once.1
kept-at (decl_then (DObject ws c x i sp) rest) s here once = kept-at rest _ (here-decl (DObject ws c x i sp) s here) once.1
kept-at (decl_then (DEnumeration w ws sp) rest) s here once = kept-at rest _ (here-decl (DEnumeration w ws sp) s here) once.1
kept-at (decl_then (DArray w q x sp) rest) s here once = kept-at rest _ (here-decl (DArray w q x sp) s here) once.1
kept-at (decl_then (DSubtype w x sp) rest) s here once = kept-at rest _ (here-decl (DSubtype w x sp) s here) once.1
kept-at (decl_then (DException ws sp) rest) s here once = kept-at rest _ (here-decl (DException ws sp) s here) once.1
kept-at (decl_then (DIntIo w sp) rest) s here once = kept-at rest _ (here-decl (DIntIo w sp) s here) once.1
kept-at (decl_then (DPragma e sp) rest) s here once = kept-at rest _ (here-decl (DPragma e sp) s here) once.1
kept-at (decl_then (DTask t sp) rest) s here once = kept-at rest _ (here-decl (DTask t sp) s here) once.1

-- ---- in the numbers

-- a range that is not empty has a first value
some-size : (f l : ℤ) → int_le f l ≡ true → (m : ℕ) × (count_to ((l -ℤ f) +ℤ pos 1) ≡ suc m)
some-size f l h = by_form ((l -ℤ f) +ℤ pos 1) refl
  where
    by_form : (z : ℤ) → (l -ℤ f) +ℤ pos 1 ≡ z → (m : ℕ) × (count_to z ≡ suc m)
    by_form (pos (suc m)) e = (m, refl)
    by_form (pos zero) e = let y : ⊥ = grind (arith, ints) in absurd y
    by_form (negsuc n) e = let y : ⊥ = grind (arith, ints) in absurd y

module _ (p : PProgram) (legal : IsLegalOriginal p) where
  abbrev T : TypeTable
  T = types_in p

  abbrev G : Setting
  G = g p legal

  abbrev S : Scope
  S = last p legal

  abbrev pub known : PartsKnown p T
  known = asked.known p T G.numbers legal.legal legal.placed legal.names legal.small

  decls-met : AllByRecursion IsMet (decls_sites (first_scope p.name) p.decls)
  decls-met = all_front IsMet (decls_sites (first_scope p.name) p.decls) (body_sites (inner_scope (after_decls (first_scope p.name) p.decls)) p.body) (all_met p legal.legal.type_rules).1

  -- what is known of names behind all declarations
  pub at-last : (kinds : List PTask) × (c : CheckScope) × MainSeen p T kinds no_decl S c
  at-last =
      (_, _, decls-step p T p.decls [] (first_scope p.name) (check.around_program p) (objects-apart p T p.decls (first_scope p.name) decls-met) (asked.text p T G.numbers legal.legal legal.placed legal.names legal.small).ranged (once p legal).1 (first-seen p T (once p legal).0))

  no-more : {A : Type 0} (xs : List A) → xs ++ [] ≡ xs
  no-more [] = refl
  no-more (x ∷ xs) = ap (λ l. x ∷ l) (no-more xs)

  -- ---- a name of a task

  -- a name that has entries stands for tasks of one unit, of which the first is in the numbers
  pub record IsTaskNamed (id : NameId) (es : List EntryPart) : Type 0 where
    pub part : NamedTasks
    pub found : find (is_called id) (task_names_of p) ≡ Some part
    pub entries : es ≡ entries_in S part.unit
    pub first : IsFirst p T known id part

  -- the tasks of a part, of which there is a first one
  record HasTasks (part : NamedTasks) : Type 0 where
    first : NumberedTask
    more : List NumberedTask
    list : tasks_of_name T part ≡ first ∷ more
    unit : first.unit ≡ part.unit

  one-task : (part : NamedTasks) → part.index_range ≡ None → HasTasks part
  one-task part e = record { first = numbered_task part None; more = []; list = ap (tasks_of_range T part) e; unit = refl }

  row-tasks : (part : NamedTasks) (r : PDrange) (range : _) → IsExtent T r range → part.index_range ≡ Some r → HasTasks part
  row-tasks part r range h e =
      let m = some-size range.first range.last h.nonempty in
      record {
        first = numbered_task part (Some range.first);
        more = map (λ i. numbered_task part (Some i)) (numbers_on (range.first +ℤ pos 1) m.0);
        list = ap (tasks_of_range T part) e ∙ ap (λ o. map (λ i. numbered_task part (Some i)) (indices o)) h.extent ∙ ap (λ n. map (λ i. numbered_task part (Some i)) (numbers_on range.first n)) m.1;
        unit = refl;
      }

  -- the entries with which the name is seen are those of its unit
  same-entries : (th : Thing) (es xs : List EntryPart) → HasEntries es th → HasEntries xs th → es ≡ xs
  same-entries (SingleTask ys) es xs h k = sym h ∙ k
  same-entries (TaskObject ys) es xs h k = sym h ∙ k
  same-entries (TaskArray range ys) es xs h k = sym h ∙ k
  same-entries (TypeMark m) es xs h k = absurd h
  same-entries (TaskType ys) es xs h k = absurd h
  same-entries (Variable m) es xs h k = absurd h
  same-entries (ConstantObject m) es xs h k = absurd h
  same-entries (Parameter mode m) es xs h k = absurd h
  same-entries (LoopParameter m) es xs h k = absurd h
  same-entries (Literal n) es xs h k = absurd h
  same-entries AnException es xs h k = absurd h
  same-entries MainProcedure es xs h k = absurd h
  same-entries AnotherUnit es xs h k = absurd h
  same-entries Unclear es xs h k = absurd h

  seen-entries : (th : Thing) (es : List EntryPart) (part : NamedTasks) → meaning S part.name.name ≡ Some th → HasEntries es th → IsSeenOrHidden S S part → es ≡ entries_in S part.unit
  seen-entries th es part e has (inl s) = same-entries th es (entries_in S part.unit) has (subst (HasEntries (entries_in S part.unit)) (some-thing s.0 th (sym s.1 ∙ e)) s.2)
  seen-entries th es part e has (inr n) = absurd (none-some th (sym n ∙ e))

  named : (id : NameId) (th : Thing) (es : List EntryPart) → meaning S id ≡ Some th → HasEntries es th → (part : NamedTasks) → find (is_called id) (task_names_of p) ≡ Some part → HasTasks part → IsTaskNamed id es
  named id th es e has part f tasks = record {
    part = part;
    found = f;
    entries = seen-entries th es part (here ∙ e) has (find-all (IsSeenOrHidden S S) (is_called id) (task_names_of p) part (last-placed p legal).parts f);
    first = first-task p T known id part tasks.first tasks.more f tasks.list tasks.unit;
  }
    where
      here : meaning S part.name.name ≡ meaning S id
      here = ap (λ n. meaning S record { 0 = n }) (equal_is part.name.name.0 id.0 (found_passes (is_called id) (task_names_of p) part f))

  -- the parts that are known are all of the program
  pub done-all : (id : NameId) → find (is_called id) at-last.2.done ≡ find (is_called id) (task_names_of p)
  done-all id = ap (find (is_called id)) (sym (at-last.2.parts ∙ no-more at-last.2.done))

  task-named : (id : NameId) (th : Thing) (es : List EntryPart) → meaning S id ≡ Some th → HasEntries es th → IsTaskNamed id es
  task-named id th es e has = by_form th e has (at-last.2.means id th e)
    where
      stands : (t : Thing) → meaning S id ≡ Some t → HasEntries es t → (s : Stands p T at-last.2.done id None es) → IsTaskNamed id es
      stands t f h s = named id t es f h s.part (sym (done-all id) ∙ s.found) (one-task s.part s.index_range)

      row : (t : Thing) → meaning S id ≡ Some t → HasEntries es t → (range : _) → IsTaskArray p T at-last.2.done id range es → IsTaskNamed id es
      row t f h range s = named id t es f h s.stands.part (sym (done-all id) ∙ s.stands.found) (row-tasks s.stands.part s.range range s.extent s.stands.index_range)

      by_form : (t : Thing) → meaning S id ≡ Some t → HasEntries es t → Means p T at-last.2.done at-last.0 at-last.1.units id t → IsTaskNamed id es
      by_form (SingleTask xs) f h m = stands (SingleTask xs) f h (subst (Stands p T at-last.2.done id None) h m.0)
      by_form (TaskObject xs) f h m = stands (TaskObject xs) f h (subst (Stands p T at-last.2.done id None) h m)
      by_form (TaskArray range xs) f h m = row (TaskArray range xs) f h range (subst (IsTaskArray p T at-last.2.done id range) h m)
      by_form (TypeMark m) f h k = absurd h
      by_form (TaskType xs) f h k = absurd h
      by_form (Variable m) f h k = absurd h
      by_form (ConstantObject m) f h k = absurd h
      by_form (Parameter mode m) f h k = absurd h
      by_form (LoopParameter m) f h k = absurd h
      by_form (Literal n) f h k = absurd h
      by_form AnException f h k = absurd h
      by_form MainProcedure f h k = absurd h
      by_form AnotherUnit f h k = absurd h
      by_form Unclear f h k = absurd h

  -- ---- an entry

  -- an entry that is declared is that of the number
  entry-is : (t : ℕ) (name : NameId) (e : PEntry) (part : EntryPart) → HasEntry p T t name e → IsMatched T e part → IsEntryOf G (entry_of G.numbers t name) part
  entry-is t name e part has m = record {
    formals = subst (λ fs. AreSlots T part.formals (slots_of fs)) (sym has.formals) m.formals;
    family = by_form e.family part.family has.is_family has.range m.family;
  }
    where
      n : ℕ
      n = entry_of G.numbers t name

      by_form : (o : Option PDrange) (f : Family) → is_family G.numbers n ≡ is_some o → family_range G n ≡ o → IsFamilyIn T o f → IsFamilyOf G n f
      by_form None single a b k = a
      by_form None (family range) a b k = absurd k
      by_form None unclear a b k = absurd k
      by_form (Some r) single a b k = absurd k
      by_form (Some r) (family range) a b k = (a, subst (λ o. IsRange T o range) (sym b) k)
      by_form (Some r) unclear a b k = absurd k

  -- the entry of a task of the numbers
  pub entry-numbered : (t : ℕ) (x : NumberedTask) (name : NameId) (part : EntryPart) → IsTaskOf p T t x → IsTaskMatched T S x.unit → entry_named (entries_in S x.unit) name ≡ Some part → IsEntryOf G (entry_of G.numbers t name) part
  entry-numbered t x name part is m e =
      let f = entry-found T S x.unit.entries name part m e in
      entry-is t name f.entry part (entry-there p T t x name f.entry is f.declared) f.matched

  parts-matched : AllByRecursion (λ (x : NamedTasks). IsTaskMatched T S x.unit) (task_names_of p)
  parts-matched = part-units (IsTaskMatched T S) p.decls [] tt (matched p legal)

  -- Where what a name means is kept, the entry that is called is that of the number.
  pub called-is : (c : Scope) → ((id : NameId) (x : Thing) (es : List EntryPart) → HasEntries es x → meaning c id ≡ Some x → meaning S id ≡ Some x) →
      (id name : NameId) (part : EntryPart) → called_entry (meaning c id) name ≡ Some part → IsEntryOf G (entry_of G.numbers (unwrap_or (task_named G.numbers id) 0) name) part
  called-is c kept id name part e =
      let k = is-called (meaning c id) name part e in
      let t = task-named id k.thing k.entries (kept id k.thing k.entries k.has k.is) k.has in
      let unit = find-all (λ (x : NamedTasks). IsTaskMatched T S x.unit) (is_called id) (task_names_of p) t.part parts-matched t.found in
      subst (λ (n : ℕ). IsEntryOf G (entry_of G.numbers n name) part) (sym (ap (λ o. unwrap_or o 0) t.first.named))
      (entry-numbered t.first.number t.first.is.numbered_task name part t.first.is.is (subst (IsTaskMatched T S) (sym t.first.unit) unit)
      (ap (λ (u : PTask). entry_named (entries_in S u) name) t.first.unit ∙ sym (ap (λ (l : List EntryPart). entry_named l name) t.entries) ∙ k.named))

  -- ---- accepts

  pub among-found : {A : Type 0} (q : A → Bool) (x : A) (xs : List A) → IsAmong x xs → q x ≡ true → is_some (find q xs) ≡ true
  among-found q x _ (first_among ys) e = ap (λ (b : Bool). is_some (if b then Some x else find q ys)) e
  among-found q x _ (later_among y ys i) e = by_test (q y) (among-found q x ys i e)
    where
      by_test : (b : Bool) → is_some (find q ys) ≡ true → is_some (if b then Some y else find q ys) ≡ true
      by_test true h = refl
      by_test false h = h

  pub some-there : {A : Type 0} (o : Option A) → is_some o ≡ true → (x : A) × (o ≡ Some x)
  some-there (Some x) e = (x, refl)
  some-there None e = absurd (true≢false (sym e))

  module _ (u : PTask) (id w : NameId) (alone : filter (has_name id) (tasks_of p) ≡ u ∷ []) (same : u.name.name.0 ≡ w.0) where
    -- what is said of all tasks is said of this one
    of-unit : (P : PTask → Type 0) → AllByRecursion P (tasks_of p) → P u
    of-unit P h = (subst (AllByRecursion P) alone (all_kept P (has_name id) (tasks_of p) h)).0

    -- the first task that runs its body is one of this unit
    record IsFirstRunning : Type 0 where
      numbered : NumberedTask
      is : IsTaskOf p T (first_running G w) numbered
      unit : numbered.unit ≡ u

    abbrev runs : TaskInfo → Bool
    runs info = info.unit.0 == w.0

    at-place : (k : ℕ) (y : TaskInfo) → slice_get G.numbers.tasks k ≡ Some y → runs y ≡ true → first_running G w ≡ k → IsFirstRunning
    at-place zero y e f n =
        let apart : (p.name.name.0 == u.name.name.0) ≡ false = of-unit (λ (t : PTask). (p.name.name.0 == t.name.name.0) ≡ false) (subst (AllByRecursion (λ (t : PTask). (p.name.name.0 == t.name.name.0) ≡ false)) (sym (at-last.2.tasks ∙ no-more at-last.2.before)) at-last.2.tasks_apart) in
        absurd (true≢false (sym f ∙ ap runs (sym (some_same e)) ∙ ap (λ m. p.name.name.0 == m) (sym same) ∙ apart))
    at-place (suc k) y e f n =
        let x = mapped-place p T known (numbered_tasks T p) k y e in
        let is : IsUnit p T x.0.unit = place-all (λ (z : NumberedTask). IsUnit p T z.unit) (numbered_tasks T p) k x.0 (numbered-tasks-units p T known) x.1 in
        record {
          numbered = x.0;
          is = record { place = k; number = n; numbered_task = x.1; unit = is };
          unit = one-unit p T known x.0.unit u is (of-unit (IsFirstTask (tasks_of p)) (tasks-have-types p legal.legal.type_rules legal.placed legal.small).found)
              (ap (λ (i : TaskInfo). i.unit.0) (sym x.2) ∙ equal_is y.unit.0 w.0 f ∙ sym same);
        }

    -- An entry of the unit is that of the number, of the first task that runs its body.
    pub accepted-is : (info : TaskInfo) → IsAmong info (tasks_beside G) → (info.unit.0 == w.0) ≡ true → (name : NameId) (part : EntryPart) → entry_named (entries_in S u) name ≡ Some part → IsEntryOf G (entry_of G.numbers (first_running G w) name) part
    accepted-is info i f name part e =
        let y = some-there (find runs G.numbers.tasks) (among-found runs info G.numbers.tasks (later_among (task_info p.names p.name.name) (tasks_beside G) i) f) in
        let k = found-place runs G.numbers.tasks y.0 y.1 in
        let x = at-place k.0 y.0 k.1 (found_passes runs G.numbers.tasks y.0 y.1) (ap (λ o. unwrap_or o 0) k.2) in
        entry-numbered (first_running G w) x.numbered name part x.is (subst (IsTaskMatched T S) (sym x.unit) (of-unit (IsTaskMatched T S) (matched p legal))) (ap (λ (t : PTask). entry_named (entries_in S t) name) x.unit ∙ e)

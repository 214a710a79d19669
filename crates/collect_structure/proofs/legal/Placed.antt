-- The collecting text of a legal program is well placed: each call of a family in its normal form has an index, since none of the rules refuses it there.
use Rattle.std.proofs.Common.{◌≡◌, ℕ, suc, ◌+◌, ◌-◌, ◌≤◌, ◌==◌, Bool, true, false, not, if◌then◌else◌, List, [], ◌∷◌, length, map, slice_get, unwrap_or, Option, Some, None, refl, sym, ap, subst, ◌∙◌, true≢false, ◌⊎◌, inl, inr, arith}
use Rattle.std.specs.List.{AllByRecursion, filter}
use Rattle.std.specs.Option.{option_map_or}
use Rattle.std.proofs.lemmas.List.{length-map}
use Rattle.std.proofs.lemmas.List.Elements.{All-from_recursion}
use Rattle.common_lemmas.proofs.Lists.{all_joined, holds_at}
use Rattle.ada_tree.specs.declared.naming.NameId.{NameId}
use Rattle.ada_tree.specs.declared.naming.Span.{Span}
use Rattle.ada_tree.specs.declared.naming.Word.{Word}
use Rattle.ada_tree.specs.TypeTable.{TypeTable}
use Rattle.ada_tree.specs.PlainStmt.{PArgs, PCall, PFormal, PScheme, LWhile, LFor, PBody}
use Rattle.ada_tree.specs.PlainDecl.{PEntry, PDecl, DNumber, DObject, DEnumeration, DArray, DSubtype, DException, DIntIo, DPragma, DTask, DTaskBody}
use Rattle.ada_tree.specs.PlainProgram.{PProgram}
use Rattle.ada_static_rules.specs.Scope.{Scope, Family, single, family, unclear, EntryPart, Thing, meaning, marking, and_then, entry_named}
use Rattle.ada_static_rules.specs.Declaring.{with_name, with_names, inner_scope, formal_thing, with_formals, first_mark_of, drange_kind}
use Rattle.ada_static_rules.specs.Demand.{calls}
use Rattle.ada_static_rules.specs.Refusals.{types_in}
use Rattle.ada_static_rules.specs.RuleArgCount.{at_place, fits_call, wrong_call, called_entry}
use Rattle.ada_static_rules.specs.RuleUnknown.{missing, unknown_entry}
use Rattle.ada_static_rules.specs.Sites.{site, loop_scope}
use Rattle.syn_event.specs.declared.numbering.EntryInfo.{EntryInfo}
use Rattle.syn_event.specs.Numbering.{Numbering, task_named, owner_of}
use Rattle.syn_event.specs.AddedNames.{with_origin}
use Rattle.syn_event.specs.NamedTasks.{NumberedTask, numbered_tasks}
use Rattle.syn_event.specs.AllNumbers.{entry_of_task, entries_of_tasks}
use Rattle.syn_event.specs.DeclaredTasks.{decl_list}
use Rattle.seq_file.specs.Known.{is_known}
use Rattle.task_model.specs.Setting.{Setting, entry_of, is_family}
use Rattle.task_laws.specs.legal.asked.Asked.{AskedBody}
use Rattle.task_laws.specs.legal.alike_scopes.Laws.{IsMetBut}
use Rattle.normal_model.specs.NormalTree.{first_decls, main_variables, main_unit, unit_for}
use Rattle.normal_model.specs.RewrittenUnit.{RewrittenUnit}
use Rattle.normal_laws.specs.runs.forms.Normalisable.{numbers_of, setting_for, made_for}
use Rattle.normal_laws.proofs.structure.typed.Scopes.{IsNoTask, meaning-more, not-called, formal-no-task, loop-no-task}
use Rattle.normal_laws.proofs.structure.placed.Originals.{original_is_placeable}
use Rattle.normal_laws.specs.existence.Laws.{IsLegalOriginal}
use Rattle.normal_laws.proofs.legality.asked.Steps.{Steps, steps_asked}
use Rattle.normal_laws.proofs.legality.placed.Placed.{legal_has_room}
use Rattle.replay_model.specs.ReplayTree.{is_body, script_of}
use Rattle.replay_structure.specs.checkable.Prepared.{form_for}
use Rattle.replay_structure.specs.scopes.Names.{old_name}
use Rattle.replay_structure.specs.scopes.Form.{BodyForms, IsForm}
use Rattle.replay_structure.specs.typed.ScopeOf.{IsEntryOf, IsSingle, form_asks}
use Rattle.replay_structure.specs.legal.fits.Laws.{original_set}
use Rattle.replay_structure.specs.legal.names.form_units.Inner.{inner_name}
use Rattle.replay_structure.proofs.legal.fits.Counted.{tasks-within}
use Rattle.replay_structure.proofs.legal.fits.Whole.{normal_fits}
use Rattle.replay_structure.proofs.legal.placed.Ready.{is-ready}
use Rattle.replay_structure.proofs.legal.names.Form.{legal_normal_is_form}
use Rattle.collect_structure.specs.Laws.{CollectIsPlaced}
use Rattle.collect_structure.specs.placed.Placeable.{HasLists, tell_asks, TellsDecl, IsCollectPlaceable}
use Rattle.collect_structure.proofs.placed.Declared.{collect_is_placed}

-- ---- entries by their flags

-- the entry is said to be a family just where it is one
abbrev HasFlag : Numbering → ℕ → Family → Type 0
HasFlag n e single = is_family n e ≡ false
HasFlag n e (family range) = is_family n e ≡ true
HasFlag n e unclear = ⊥

flag-of : (g : Setting) (inner : ℕ → Bool) (c : Scope) (e : ℕ) (f : Family) → IsEntryOf g inner c e f → HasFlag g.numbers e f
flag-of g inner c e single h = h
flag-of g inner c e (family range) h = h.flag
flag-of g inner c e unclear h = h

-- where lists fit a family there are some
lists-there : (n : Numbering) (e k : ℕ) (f : Family) (args : Option PArgs) (s : Span) → HasFlag n e f → at_place (not (fits_call f args k)) s ≡ [] → is_family n e ≡ true → HasLists args
lists-there n e k single args s h fits t = absurd (true≢false (sym t ∙ h))
lists-there n e k (family range) (Some args) s h fits t = tt
lists-there n e k (family range) None s h fits t = cc
lists-there n e k unclear args s h fits t = absurd h

-- ---- what accepts and loops declare is no task

abbrev IsLater : Scope → Scope → Type 0
IsLater c d = (id : NameId) → (meaning d id ≡ meaning c id) ⊎ IsNoTask (meaning d id)

later-on : (a b c : Scope) → IsLater a b → IsLater b c → IsLater a c
later-on a b c h k id = second (h id) (k id)
  where
    first : (meaning c id ≡ meaning b id) → (meaning b id ≡ meaning a id) ⊎ IsNoTask (meaning b id) → (meaning c id ≡ meaning a id) ⊎ IsNoTask (meaning c id)
    first e (inl f) = inl (e ∙ f)
    first e (inr n) = inr (subst IsNoTask (sym e) n)

    second : (meaning b id ≡ meaning a id) ⊎ IsNoTask (meaning b id) → (meaning c id ≡ meaning b id) ⊎ IsNoTask (meaning c id) → (meaning c id ≡ meaning a id) ⊎ IsNoTask (meaning c id)
    second x (inl e) = first e x
    second x (inr n) = inr n

name-later : (thing : Thing) → IsNoTask (Some thing) → (c : Scope) (w : Word) → IsLater c (with_name thing c w)
name-later thing free c w id = by_test (w.name.0 == id.0) (meaning-more thing c w id)
  where
    by_test : (b : Bool) → meaning (with_name thing c w) id ≡ (if b then Some thing else meaning c id) → (meaning (with_name thing c w) id ≡ meaning c id) ⊎ IsNoTask (meaning (with_name thing c w) id)
    by_test true e = inr (subst IsNoTask (sym e) free)
    by_test false e = inl e

names-later : (thing : Thing) → IsNoTask (Some thing) → (ws : List Word) (c : Scope) → IsLater c (with_names thing c ws)
names-later thing free [] c = λ id. inl refl
names-later thing free (w ∷ ws) c = later-on c (with_name thing c w) (with_names thing c (w ∷ ws)) (name-later thing free c w) (names-later thing free ws (with_name thing c w))

formals-later : (fs : List PFormal) (c : Scope) → IsLater c (with_formals c fs)
formals-later [] c = λ id. inl refl
formals-later (f ∷ fs) c =
    let thing = formal_thing f.mode (marking c f.mark.name) in
    later-on c (with_names thing c f.names) (with_formals c (f ∷ fs)) (names-later thing (formal-no-task f.mode (marking c f.mark.name)) f.names c) (formals-later fs (with_names thing c f.names))

loop-later : (c : Scope) (x : Option PScheme) → IsLater c (loop_scope c x)
loop-later c None = λ id. inl refl
loop-later c (Some (LWhile e)) = λ id. inl refl
loop-later c (Some (LFor w r x)) = name-later _ (loop-no-task (and_then (first_mark_of c.types) (drange_kind c x))) (inner_scope c) w

-- ---- the statements of a unit

module _ (g : Setting) (u : RewrittenUnit) (is : u.setting ≡ g) (old inner : ℕ → Bool) where
  -- entries that are called have their flags
  abbrev Flagged : Scope → Type 0
  Flagged c = (id name : NameId) (part : EntryPart) → called_entry (meaning c id) name ≡ Some part → HasFlag g.numbers (entry_of g.numbers (unwrap_or (task_named g.numbers id) 0) name) part.family

  flagged-later : (c d : Scope) → IsLater c d → Flagged c → Flagged d
  flagged-later c d h f id name part e = by_step (h id)
    where
      by_step : (meaning d id ≡ meaning c id) ⊎ IsNoTask (meaning d id) → HasFlag g.numbers (entry_of g.numbers (unwrap_or (task_named g.numbers id) 0) name) part.family
      by_step (inl m) = f id name part (ap (λ o. called_entry o name) (sym m) ∙ e)
      by_step (inr n) = absurd (not-called (meaning d id) name part n e)

  call-told : (c : Scope) (x : PCall) → Flagged c → IsSingle (meaning c x.task.name.name) → IsMetBut (site c (calls x)) →
      is_family g.numbers (entry_of g.numbers (unwrap_or (task_named g.numbers x.task.name.name) 0) x.entry.name) ≡ true → HasLists x.args
  call-told c x f alone m t = by_entry (entry_named alone.0 x.entry.name) refl
    where
      by_entry : (o : Option EntryPart) → entry_named alone.0 x.entry.name ≡ o → HasLists x.args
      by_entry (Some part) e =
          let called : called_entry (meaning c x.task.name.name) x.entry.name ≡ Some part = ap (λ o. called_entry o x.entry.name) alone.1 ∙ e in
          lists-there g.numbers _ (length part.formals) part.family x.args x.entry.span (f x.task.name.name x.entry.name part called) (sym (ap (λ o. wrong_call o x.args x.entry.span) called) ∙ m.counted) t
      by_entry None e = absurd (filled (sym (ap (λ o. unknown_entry o x.entry) alone.1 ∙ ap (λ o. missing o x.entry) e) ∙ m.known))
        where
          filled : x.entry.span ∷ [] ≡ [] → ⊥
          filled h = cc

  abbrev C : Type 0
  C = Prim.Unit {0} × Scope

  steps : Steps (form_asks old inner) (tell_asks u) (λ (c : C) d. Flagged c.1)
  steps = record {
    outer = λ c d k s r h. tt;
    many = λ n h. tt;
    duration = λ n h. tt;
    plain = λ c d k x r h. tt;
    callee = λ c d k x r h. tt;
    call = λ c d k x r h i.
        subst (λ (s : Setting). is_family s.numbers (entry_of s.numbers (unwrap_or (task_named s.numbers x.task.name.name) 0) x.entry.name) ≡ true → HasLists x.args) (sym is) (call-told c.1 x r h.1.1 i.1.0);
    aborts = λ c d k xs r h i. tt;
    aborted = λ c d k xs r h i. nothing xs;
    condition = λ c d k e r h. tt;
    selector = λ c d k e xs others s r h. tt;
    choices = λ c d k e xs r h. tt;
    loop = λ c d k w x r h. tt;
    looping = λ c d k w x r h. flagged-later c.1 (loop_scope c.1 x) (loop-later c.1 x) r;
    head = λ c d k h r i. tt;
    accepting = λ c d k h r i. flagged-later c.1 (with_formals (inner_scope c.1) h.formals) (formals-later h.formals (inner_scope c.1)) r;
    wait = λ c d k x others s r h. tt;
    delay = λ c d k guard s r h. tt;
    handlers = λ hs h. tt;
    handler = λ c d k names ws r h. tt;
    handling = λ c d r. r;
  }
    where
      nothing : {A : Type 0} (xs : List A) → AllByRecursion (λ (x : A). Prim.Unit {0}) xs
      nothing [] = tt
      nothing (x ∷ xs) = (tt, nothing xs)

  body-told : (c : Scope) (its : PBody) → Flagged c → AskedBody (form_asks old inner) (tt, c) 1 its → AskedBody (tell_asks u) tt 1 its
  body-told c its f h = steps_asked (form_asks old inner) (tell_asks u) (λ (c : C) d. Flagged c.1) steps (tt, c) tt 1 its f h

-- ---- all bodies

module _ (g : Setting) (old inner : ℕ → Bool) where
  bodies-told : (ds : List PDecl) (c : Scope) → BodyForms g old inner c ds → AllByRecursion (TellsDecl g) ds
  bodies-told [] c h = tt
  bodies-told (DTaskBody w objects its s ∷ ds) c h =
      let b = h.0 in
      (body-told g (unit_for g w.name) refl old inner _ its (λ id name part e. flag-of g inner _ _ part.family (b.form.called id name part e)) b.asked, bodies-told ds _ h.1)
  bodies-told (DTask t s ∷ ds) c h = absurd h
  bodies-told (DNumber w e s ∷ ds) c h = absurd h
  bodies-told (DObject ws k x i s ∷ ds) c h = absurd h
  bodies-told (DEnumeration w ws s ∷ ds) c h = absurd h
  bodies-told (DArray w r x s ∷ ds) c h = absurd h
  bodies-told (DSubtype w x s ∷ ds) c h = absurd h
  bodies-told (DException ws s ∷ ds) c h = absurd h
  bodies-told (DIntIo w s ∷ ds) c h = absurd h
  bodies-told (DPragma e s ∷ ds) c h = absurd h

  -- of what is no body nothing is asked
  others-told : (ds : List PDecl) → AllByRecursion (TellsDecl g) (filter is_body ds) → AllByRecursion (TellsDecl g) ds
  others-told [] h = tt
  others-told (DTaskBody w objects its s ∷ ds) h = (h.0, others-told ds h.1)
  others-told (DTask t s ∷ ds) h = (tt, others-told ds h)
  others-told (DNumber w e s ∷ ds) h = (tt, others-told ds h)
  others-told (DObject ws k x i s ∷ ds) h = (tt, others-told ds h)
  others-told (DEnumeration w ws s ∷ ds) h = (tt, others-told ds h)
  others-told (DArray w r x s ∷ ds) h = (tt, others-told ds h)
  others-told (DSubtype w x s ∷ ds) h = (tt, others-told ds h)
  others-told (DException ws s ∷ ds) h = (tt, others-told ds h)
  others-told (DIntIo w s ∷ ds) h = (tt, others-told ds h)
  others-told (DPragma e s ∷ ds) h = (tt, others-told ds h)

-- ---- owners

module _ (names : List (List ℕ)) (T : TypeTable) (m : ℕ) where
  abbrev IsOwned : EntryInfo → Type 0
  IsOwned x = x.owner ≤ m

  task-owned : (t : ℕ) (y : NumberedTask) (es : List PEntry) → t ≤ m → AllByRecursion IsOwned (map (entry_of_task names T t y) es)
  task-owned t y [] l = tt
  task-owned t y (e ∷ es) l = (l, task-owned t y es l)

  tasks-owned : (t : ℕ) (ys : List NumberedTask) → t + length ys ≤ m + 1 → AllByRecursion IsOwned (entries_of_tasks names T t ys)
  tasks-owned t [] l = tt
  tasks-owned t (y ∷ ys) l = all_joined IsOwned (map (entry_of_task names T t y) y.unit.entries) (entries_of_tasks names T (t + 1) ys) (task-owned t y y.unit.entries (omega (arith, l))) (tasks-owned (t + 1) ys (omega (arith, l)))

  origins-owned : (all xs : List EntryInfo) → AllByRecursion IsOwned xs → AllByRecursion IsOwned (map (with_origin names all) xs)
  origins-owned all [] h = tt
  origins-owned all (x ∷ xs) h = (h.0, origins-owned all xs h.1)

  owner-owned : (numbers : Numbering) → AllByRecursion IsOwned numbers.entries → (e : ℕ) → owner_of numbers e ≤ m
  owner-owned numbers all e = by_test (e == 0)
    where
      by_found : (o : Option EntryInfo) → slice_get numbers.entries (e - 1) ≡ o → option_map_or (λ info. info.owner) o 0 ≤ m
      by_found None f = omega arith
      by_found (Some x) f = holds_at IsOwned numbers.entries (e - 1) x f all

      by_test : (b : Bool) → option_map_or (λ info. info.owner) (if b then None else slice_get numbers.entries (e - 1)) 0 ≤ m
      by_test true = omega arith
      by_test false = by_found (slice_get numbers.entries (e - 1)) refl

module _ (p : PProgram) (h : IsLegalOriginal p) where
  abbrev n : Setting
  n = form_for p

  abbrev ys : List NumberedTask
  ys = numbered_tasks (types_in p) p

  form : IsForm n (old_name (made_for p)) (inner_name p) (script_of (numbers_of p) []) (decl_list (first_decls [] p.decls)) (main_variables (setting_for p))
  form = legal_normal_is_form p [] h (record { each = All-from_recursion (λ e. is_known (numbers_of p) e ≡ true) [] tt; few = omega arith })

  owners : (e : ℕ) → owner_of n.numbers e ≤ 200
  owners e =
      let within : length (numbers_of p).tasks ≤ 201 = tasks-within p h.legal.check_rules in
      let same : length (numbers_of p).tasks ≡ suc (length ys) = ap (λ m. suc m) (length-map ys _) in
      owner-owned p.names (types_in p) 200 n.numbers
      (origins-owned p.names (types_in p) 200 (entries_of_tasks p.names (types_in p) 1 ys) (entries_of_tasks p.names (types_in p) 1 ys) (tasks-owned p.names (types_in p) 200 1 ys (omega (arith, within, same)))) e

  -- The normal form is as asked.
  pub legal_is_placeable : IsCollectPlaceable n
  legal_is_placeable =
      let ready = normal_fits (original_set p) (original_is_placeable p h.legal.check_rules h.placed h.names (legal_has_room p h)) (is-ready p h) in
      record {
        ready = ready;
        named = ready.placed.0;
        main = body-told n (main_unit n) refl (old_name (made_for p)) (inner_name p) _ n.program.body (λ id name part e. flag-of n (inner_name p) _ _ part.family (form.form.called id name part e)) form.asked;
        decls = others-told n (old_name (made_for p)) (inner_name p) (decl_list n.program.decls) (bodies-told n (old_name (made_for p)) (inner_name p) (filter is_body (decl_list n.program.decls)) _ form.bodies);
        owners = λ e. let o : owner_of n.numbers e ≤ 200 = owners e in omega (arith, o);
      }

pub legal_collect_is_placed : CollectIsPlaced
legal_collect_is_placed p h = collect_is_placed (form_for p) (legal_is_placeable p h)

-- Calls and callees at the places of a legal program come to members and tasks that there are (9.5, 9.10).
use Rattle.std.proofs.Common.{◌≡◌, ◌<◌, ℕ, true, [], ◌∷◌, length, option_map, unwrap_or, Option, Some, None, Ok, refl, sym, ap, ◌∙◌, subst, arith}
use Rattle.std.specs.Prelude.{IfSome, nat_lt, not, ◌==◌}
use Rattle.std.specs.List.{AllByRecursion}
use Rattle.std.proofs.lemmas.Bool.{and_from, lt-ltb, not-false}
use Rattle.std.proofs.lemmas.Option.{none-some, slice_get_within}
use Rattle.common_lemmas.proofs.Lists.{all_back}
use Rattle.ada_tree.specs.TypeTable.{TypeTable}
use Rattle.ada_tree.specs.PlainExpr.{PExpr, PDrange}
use Rattle.ada_tree.specs.PlainStmt.{PCallee, PCall}
use Rattle.ada_tree.specs.PlainDecl.{PEntry, PTask}
use Rattle.ada_tree.specs.PlainProgram.{PProgram}
use Rattle.ada_static_rules.specs.Scope.{Scope, family, EntryPart, meaning, entry_named}
use Rattle.ada_static_rules.specs.Demand.{calls}
use Rattle.ada_static_rules.specs.Sites.{site, if_there, args_sites, callee_sites, call_sites}
use Rattle.ada_static_rules.specs.Declaring.{family_of, entry_family, entry_part}
use Rattle.ada_static_rules.specs.RuleUnknown.{missing}
use Rattle.ada_static_rules.specs.RuleArgCount.{called_entry, fits_call, fits_family, wrong_call}
use Rattle.syn_event.specs.DeclaredTasks.{tasks_of}
use Rattle.syn_event.specs.NamedTasks.{NumberedTask}
use Rattle.syn_event.specs.AllNumbers.{info_of_task}
use Rattle.seq_file.specs.Known.{is_task, is_task_beside_main, is_known_member}
use Rattle.ada_value.specs.Values.{and_then, position_of}
use Rattle.ada_value.specs.Variables.{Variables}
use Rattle.ada_value.specs.Evaluating.{evaluated}
use Rattle.task_model.specs.Setting.{entry_of, entry_parameters, lists_of, member_index, member_named, task_meant, callee_task}
use Rattle.task_model.specs.Calls.{Called, called_with, openings}
use Rattle.task_laws.proofs.invariants.Variables.{chain, ok_path}
use Rattle.task_laws.specs.legal.sites.Met.{IsMet}
use Rattle.task_laws.specs.legal.types.Typed.{HasLimits, IsTypedEntry, IsTypedTask}
use Rattle.task_laws.proofs.legal.rewritten_types.Lookups.{find-all}
use Rattle.normal_laws.proofs.structure.entries.Entries.{entry_in, numbers, g, IsTaskOf, HasEntry, task-there, entry-there}
use Rattle.normal_laws.proofs.existence.seen_tasks.Finding.{no-place}
use Rattle.normal_laws.proofs.existence.seen_tasks.Parts.{FamilyRanged}
use Rattle.normal_laws.proofs.existence.seen_tasks.Tasks.{PartsKnown}
use Rattle.normal_laws.proofs.existence.statement_forms.Callees.{CalleeKnown, callee-first, IsOneOf, first-one, member-one, some-not}
use Rattle.normal_laws.proofs.existence.statement_forms.OwnEntries.{EntryKnown, entry-known, entry-said}
use Rattle.normal_laws.proofs.existence.statement_forms.Typed.{Typing}
use Rattle.progress_law.specs.offers.inner.Stated.{IsKnownCall, IsKnownCallee}
use Rattle.progress_law.proofs.offers.Members.{member-known}

module _ (p : PProgram) (T : TypeTable) (Typed : Scope → Type 0) (typing : Typing T Typed) (known : PartsKnown p T) (typed : AllByRecursion (IsTypedTask T) (tasks_of p)) where
  -- ---- callees

  module _ (s : Scope) (x : PCallee) (k : CalleeKnown p T s x) where
    -- whatever the variables, a task that is meant is one of that unit
    meant-one : (V : Variables) (t : ℕ) → callee_task (g p T) V x ≡ Ok t → IsOneOf p T s x k known t
    meant-one V t e = by_index x.index e
      where
        by_index : (o : Option PExpr) → task_meant (g p T) V x.name.name o ≡ Ok t → IsOneOf p T s x k known t
        by_index None f = subst (IsOneOf p T s x k known) (sym (ap (λ (o : Option ℕ). unwrap_or o 0) (callee-first p T s x k known).named) ∙ ok_path f) (first-one p T s x k known)
        by_index (Some y) f = let c = chain (evaluated T V y) (λ v. member_named (numbers p T) x.name.name (position_of v)) t f in member-one p T s x k known (position_of c.value) t c.rest

    -- a task of the numbers is one beside main
    beside : (t : ℕ) (y : NumberedTask) → IsTaskOf p T t y → is_task_beside_main (numbers p T) t ≡ true
    beside t y is =
        let within : t < length (numbers p T).tasks = slice_get_within (numbers p T).tasks t (info_of_task p.names y) (task-there p T t y is) in
        let more : 0 < t = omega (arith, is.number) in
        and_from (is_task (numbers p T) t) (nat_lt 0 t) (lt-ltb t (length (numbers p T).tasks) within) (lt-ltb 0 t more)

    pub callee-is-known : IsKnownCallee (g p T) x
    callee-is-known V t e = let one = meant-one V t e in beside t one.numbered_task one.is

  -- ---- calls

  module _ (s : Scope) (c : PCall) (k : CalleeKnown p T s c.task) (met : AllByRecursion IsMet (call_sites s c)) where
    behind : AllByRecursion IsMet (site s (calls c) ∷ if_there (args_sites s (called_entry (meaning s c.task.name.name) c.entry.name)) c.args)
    behind = all_back IsMet (callee_sites s c.task) (site s (calls c) ∷ if_there (args_sites s (called_entry (meaning s c.task.name.name) c.entry.name)) c.args) met

    -- the entry of that name
    there : (o : Option EntryPart) → missing o c.entry ≡ [] → (e : EntryPart) × (o ≡ Some e)
    there (Some e) h = (e, refl)
    there None h = absurd (some-not _ _ h)

    declared : (o : Option PEntry) (around : Scope) (x : EntryPart) → option_map (entry_part around) o ≡ Some x → (e : PEntry) × (o ≡ Some e)
    declared (Some e) around x h = (e, refl)
    declared None around x h = absurd (none-some x h)

    the-entry : EntryKnown p T Typed typing k.stands.part.unit k.entries c.entry.name
    the-entry =
        let own = k.stands.own in
        let x = there (entry_named k.entries c.entry.name) (sym (k.unknown c.entry) ∙ behind.0.known) in
        let e = declared (entry_in k.stands.part.unit c.entry.name) own.around x.0 (sym (entry-said p T Typed typing own.around k.stands.part.unit k.entries c.entry.name own.entries) ∙ x.1) in
        entry-known p T Typed typing k.stands.part.unit k.entries c.entry.name e.0 own e.1

    abbrev e : PEntry
    e = the-entry.entry

    -- that of each task that is meant
    entry-of-task : (t : ℕ) → IsOneOf p T s c.task k known t → HasEntry p T t c.entry.name e
    entry-of-task t one = entry-there p T t one.numbered_task c.entry.name e one.is (ap (λ (u : PTask). entry_in u c.entry.name) one.unit ∙ the-entry.declared)

    abbrev part : EntryPart
    part = entry_part the-entry.around e

    fits : fits_call (entry_family the-entry.around e.family) c.args (length part.formals) ≡ true
    fits =
        not-false _
        (no-place (not (fits_call (entry_family the-entry.around e.family) c.args (length part.formals))) c.entry.span
        (ap (λ (o : Option EntryPart). wrong_call o c.args c.entry.span) (sym (k.called c.entry.name ∙ the-entry.said)) ∙ behind.0.counted))

    -- a family's index stands in the first list
    fits-family : (r : PDrange) → e.family ≡ Some r → (n : ℕ) × (fits_family c.args n ≡ true)
    fits-family r some =
        let ranged : FamilyRanged T the-entry.around (Some r) = subst (FamilyRanged T the-entry.around) some the-entry.ranged in
        let is : entry_family the-entry.around e.family ≡ family ranged.range = ap (entry_family the-entry.around) some ∙ ap family_of ranged.known in
        (length part.formals, ap (λ f. fits_call f c.args (length part.formals)) (sym is) ∙ fits)

    -- a family's range has limits
    typed-unit : IsTypedTask T k.stands.part.unit
    typed-unit = find-all (IsTypedTask T) (λ (t : PTask). t.name.name.0 == k.stands.part.unit.name.name.0) (tasks_of p) k.stands.part.unit typed k.stands.own.unit

    limits : (r : PDrange) → e.family ≡ Some r → HasLimits T r
    limits r some =
        let entry : IsTypedEntry T e = find-all (IsTypedEntry T) (λ (y : PEntry). y.name.name.0 == c.entry.name.0) k.stands.part.unit.entries e typed-unit.entries the-entry.declared in
        subst (λ (o : Option PDrange). IfSome o (HasLimits T)) some entry.family

    -- the member that a call of a task comes to
    by-task : (V : Variables) (t : ℕ) (r : Called) → IsOneOf p T s c.task k known t →
        called_with (g p T) V (entry_of (numbers p T) t c.entry.name) (lists_of (numbers p T) (entry_of (numbers p T) t c.entry.name) c.args) ≡ Ok r → is_known_member (numbers p T) r.entry r.index ≡ true
    by-task V t r one q =
        let en : ℕ = entry_of (numbers p T) t c.entry.name in
        let lists = lists_of (numbers p T) en c.args in
        let i = chain (member_index (g p T) V en lists.index) (λ z. and_then (openings T V (entry_parameters (g p T) en) lists.actuals) (λ vs. Ok (record { entry = en; index = z; values = vs }))) r q in
        let vs = chain (openings T V (entry_parameters (g p T) en) lists.actuals) (λ vs. Ok (record { entry = en; index = i.value; values = vs })) r i.rest in
        let same : record { entry = en; index = i.value; values = vs.value } ≡ r = ok_path vs.rest in
        subst (λ (x : Called). is_known_member (numbers p T) x.entry x.index ≡ true) same
        (member-known p T t c.entry.name e (entry-of-task t one) V c.args fits-family limits i.value i.first)

    pub call-is-known : IsKnownCall (g p T) c
    call-is-known V r q =
        let owner = chain (callee_task (g p T) V c.task) (λ t. called_with (g p T) V (entry_of (numbers p T) t c.entry.name) (lists_of (numbers p T) (entry_of (numbers p T) t c.entry.name) c.args)) r q in
        by-task V owner.value r (meant-one s c.task k V owner.value owner.first) owner.rest

-- The entries that are called and accepted in the normal form of a legal program are those of its numbers.
use Rattle.std.proofs.Common.{◌≡◌, ℕ, suc, ◌==◌, Bool, true, [], slice_get, find, unwrap_or, option_map, Option, Some, None, Ok, refl, sym, ap, subst, ◌∙◌}
use Rattle.std.proofs.lemmas.Option.{none-some}
use Rattle.common_lemmas.proofs.Numbers.{equal_is}
use Rattle.common_lemmas.proofs.Lists.{found_passes}
use Rattle.common_lemmas.proofs.Options.{some_same}
use Rattle.ada_tree.specs.declared.naming.NameId.{NameId}
use Rattle.ada_tree.specs.declared.static_types.Kind.{Kind}
use Rattle.ada_tree.specs.declared.static_types.Kind.TheVariants.{Integer, Truth, Enumeration, Array}
use Rattle.ada_tree.specs.TypeTable.{TypeTable}
use Rattle.ada_tree.specs.PlainExpr.{PDrange}
use Rattle.ada_tree.specs.PlainProgram.{PProgram}
use Rattle.ada_static_rules.specs.Refusals.{types_in}
use Rattle.ada_static_rules.specs.RuleArgCount.{called_entry}
use Rattle.ada_static_rules.specs.Scope.{Scope, NameMeaning, Family, single, family, unclear, EntryPart, Thing, TypeMark, TaskType, SingleTask, TaskObject, TaskArray, Variable, ConstantObject, Parameter, LoopParameter, Literal, AnException, MainProcedure, AnotherUnit, Unclear, meaning, entry_named}
use Rattle.syn_event.specs.declared.numbering.TaskInfo.{TaskInfo}
use Rattle.syn_event.specs.Numbering.{task_named}
use Rattle.ada_value.specs.declared.values.Limits.{Limits}
use Rattle.ada_value.specs.Evaluating.{range_of}
use Rattle.task_model.specs.Setting.{Setting, entry_of}
use Rattle.task_model.specs.Starting.{known_range}
use Rattle.task_laws.specs.legal.rewritten_types.Agreement.{IsScalar}
use Rattle.task_laws.proofs.legal.rewritten_types.Lookups.{find-all}
use Rattle.normal_model.specs.Names.{task_name}
use Rattle.normal_model.specs.Ranges.{kind_of_range}
use Rattle.normal_model.specs.NormalTree.{tasks_beside}
use Rattle.normal_laws.specs.runs.forms.Normalisable.{setting_for}
use Rattle.normal_laws.specs.structure.asked.Pieces.{IsAmong}
use Rattle.normal_laws.specs.existence.Laws.{IsLegalOriginal}
use Rattle.normal_laws.proofs.legality.asked.KnownKinds.{known-kinds}
use Rattle.normal_laws.proofs.existence.seen_tasks.Scopes.{IsNoTask}
use Rattle.normal_laws.specs.structure.typed.ScopeOf as typed
use Rattle.replay_structure.specs.checkable.Prepared.{form_for}
use Rattle.replay_structure.specs.typed.ScopeOf.{IsCountedBy, as_itself, by_position, IsEntryOf}
use Rattle.replay_structure.specs.legal.names.form_units.Inner.{inner_name}
use Rattle.replay_structure.proofs.legal.names.form_units.Seen.{entries_of_task, IsSeenWell, no_task, the_main, a_task, AreSeenWell}
use Rattle.replay_structure.proofs.legal.names.form_units.KindNames.{AreKindsMeant, kind-outer}
use Rattle.replay_structure.proofs.legal.names.form_units.Entries.{place-of, named-number, entry-is, range-is}

-- what is no task is not called
not-called : (x : Thing) (name : NameId) (part : EntryPart) → IsNoTask x → called_entry (Some x) name ≡ Some part → ⊥
not-called (TypeMark m) name part h e = cc
not-called (TaskType xs) name part h e = h
not-called (SingleTask xs) name part h e = h
not-called (TaskObject xs) name part h e = h
not-called (TaskArray range xs) name part h e = h
not-called (Variable m) name part h e = cc
not-called (ConstantObject m) name part h e = cc
not-called (Parameter mode m) name part h e = cc
not-called (LoopParameter m) name part h e = cc
not-called (Literal k) name part h e = cc
not-called AnException name part h e = cc
not-called MainProcedure name part h e = h
not-called AnotherUnit name part h e = cc
not-called Unclear name part h e = cc

module _ (p : PProgram) (h : IsLegalOriginal p) where
  abbrev T : TypeTable
  T = types_in p

  abbrev G : Setting
  G = setting_for p

  abbrev F : Setting
  F = form_for p

  abbrev inner : ℕ → Bool
  inner = inner_name p

  -- ---- families

  -- a value of a kind is counted by its own name, or by itself where it is one of INTEGER
  counted : (c : Scope) → AreKindsMeant p h c → (j : ℕ) → IsScalar T j → IsCountedBy T inner c j j
  counted c k j s = by_kind (slice_get T.kinds j) refl
    where
      positioned : (x : Kind) → slice_get T.kinds j ≡ Some x → (x ≡ Integer → ⊥) → IsCountedBy T inner c j j
      positioned x e other = by_position (λ f. other (some_same (sym e ∙ f))) (k j s) (kind-outer p h j s)

      by_kind : (o : Option Kind) → slice_get T.kinds j ≡ o → IsCountedBy T inner c j j
      by_kind None e = by_position (λ f. absurd (none-some Integer (sym e ∙ f))) (k j s) (kind-outer p h j s)
      by_kind (Some Integer) e = as_itself e ((known-kinds p h.legal.type_rules h.placed h.small).integers j e)
      by_kind (Some Truth) e = positioned Truth e (λ f. cc)
      by_kind (Some (Enumeration ids)) e = positioned (Enumeration ids) e (λ f. cc)
      by_kind (Some (Array index first last part)) e = positioned (Array index first last part) e (λ f. cc)

  range-kind : (r : PDrange) (l : Limits) → range_of T [] r ≡ Ok l → kind_of_range T r ≡ l.kind
  range-kind r l e = ap (λ o. (known_range o).kind) e

  family-of : (c : Scope) → AreKindsMeant p h c → (k : ℕ) (info : TaskInfo) (name : NameId) → slice_get (tasks_beside G) k ≡ Some info → (f : Family) → typed.IsFamilyOf G (entry_of G.numbers (suc k) name) f → IsEntryOf F inner c (entry_of F.numbers (suc k) name) f
  family-of c meant k info name at single m = m
  family-of c meant k info name at (family range) m =
      let its = m.1 in
      let has = its.has in
      let kind : kind_of_range T its.written ≡ range.kind = range-kind its.written has.limits has.range ∙ its.kind in
      record {
        written = its.written;
        flag = m.0;
        is = range-is p h k info name at ∙ its.is;
        counted = subst (λ j. IsCountedBy T inner c j range.kind) (sym kind) (counted c meant range.kind (subst (IsScalar T) its.kind has.scalar));
      }
  family-of c meant k info name at unclear m = m

  -- ---- entries

  -- an entry of a task beside main is that of the number
  pub entry-of-task : (c : Scope) → AreKindsMeant p h c → (k : ℕ) (info : TaskInfo) (i : IsAmong info (tasks_beside G)) → slice_get (tasks_beside G) k ≡ Some info → (name : NameId) (part : EntryPart) →
      entry_named (entries_of_task p h info i) name ≡ Some part → IsEntryOf F inner c (entry_of F.numbers (suc k) name) part.family
  entry-of-task c meant k info i at name part e = family-of c meant k info name at part.family (entry-is p h k info i at name part e).family

  -- An entry that is called is that of the number.
  pub called-is : (c : Scope) → AreSeenWell p h c → AreKindsMeant p h c → (id name : NameId) (part : EntryPart) → called_entry (meaning c id) name ≡ Some part →
      IsEntryOf F inner c (entry_of F.numbers (unwrap_or (task_named F.numbers id) 0) name) part.family
  called-is c seen meant id name part e = by_found (find (λ (x : NameMeaning). x.name == id.0) c.names) refl e
    where
      by_seen : (x : NameMeaning) → (x.name == id.0) ≡ true → IsSeenWell p h x → called_entry (Some x.thing) name ≡ Some part → IsEntryOf F inner c (entry_of F.numbers (unwrap_or (task_named F.numbers id) 0) name) part.family
      by_seen x f (no_task n) g = absurd (not-called x.thing name part n g)
      by_seen x f (the_main m) g = absurd (none-some part (sym (ap (λ (t : Thing). called_entry (Some t) name) m) ∙ g))
      by_seen x f (a_task info i n t) g =
          let at = place-of p h info i in
          let same : (task_name G info).0 ≡ id.0 = sym n ∙ equal_is x.name id.0 f in
          let number : task_named F.numbers id ≡ Some (suc at.0) = ap (λ m. task_named F.numbers record { 0 = m }) (sym same) ∙ named-number p h at.0 info i at.1 in
          subst (λ (o : Option ℕ). IsEntryOf F inner c (entry_of F.numbers (unwrap_or o 0) name) part.family) (sym number)
          (entry-of-task c meant at.0 info i at.1 name part (sym (ap (λ (y : Thing). called_entry (Some y) name) t) ∙ g))

      by_found : (o : Option NameMeaning) → find (λ (x : NameMeaning). x.name == id.0) c.names ≡ o → called_entry (option_map (λ (x : NameMeaning). x.thing) o) name ≡ Some part →
          IsEntryOf F inner c (entry_of F.numbers (unwrap_or (task_named F.numbers id) 0) name) part.family
      by_found None f g = absurd (none-some part g)
      by_found (Some x) f g = by_seen x (found_passes (λ (y : NameMeaning). y.name == id.0) c.names x f) (find-all (IsSeenWell p h) (λ (y : NameMeaning). y.name == id.0) c.names x seen f) g

-- So at main's body and at each body of a task a replay text has what its statements ask for.
use Rattle.std.proofs.Common.{◌≡◌, ℕ, Bool, true, List, [], Option, Some, is_some, sym, ap, subst, ◌∙◌, true≢false}
use Rattle.std.specs.List.{AllByRecursion}
use Rattle.ada_tree.specs.declared.naming.NameId.{NameId}
use Rattle.ada_tree.specs.declared.naming.Word.{Word}
use Rattle.ada_tree.specs.Attributes.{false_name}
use Rattle.ada_tree.specs.TypeTable.{TypeTable}
use Rattle.ada_tree.specs.PlainDecl.{PDecls}
use Rattle.ada_tree.specs.PlainProgram.{PProgram}
use Rattle.ada_static_rules.specs.Scope.{Scope, Family, single, family, unclear, EntryPart, Thing, SingleTask, Literal, truth_kind, scalar_kind, meaning, entry_named}
use Rattle.ada_static_rules.specs.Declaring.{inner_scope, in_body, own_entries, after_objects}
use Rattle.syn_event.specs.DeclaredTasks.{decl_list}
use Rattle.task_model.specs.Setting.{Setting}
use Rattle.normal_model.specs.Ranges.{kind_name}
use Rattle.normal_model.specs.RewrittenUnit.{RewrittenUnit}
use Rattle.replay_model.specs.Names.{never_text, added_id}
use Rattle.replay_structure.specs.typed.ScopeOf.{HasLists, IsCountedBy, as_itself, by_position, IsEntryOf, HasDoubles, IsControl, IsIdle, IsScopeOf}
use Rattle.replay_structure.specs.scopes.More.{is_single, IsGrown, stays, doubled, IsMore, AreEntriesNew, ArePermitsNew, HasPermit}
use Rattle.replay_structure.specs.scopes.Form.{IsOwnObject, ReadyAlong, IsUnitForm}
use Rattle.replay_structure.proofs.scopes.Same.{marking-same}
use Rattle.replay_structure.proofs.scopes.More.{more-alike}
use Rattle.replay_structure.proofs.scopes.Units.{text_objects, body-unit}
use Rattle.ada_static_rules.proofs.found_twice.Declared.{objects_own}

-- the entries of the own task, on both sides
pub record HasOwn (q : PProgram) (old : ℕ → Bool) (c d : Scope) : Type 0 where
  pub same : (id : NameId) → old id.0 ≡ true → entry_named c.own id ≡ entry_named d.own id
  pub never : (id : NameId) → is_some (entry_named c.own id) ≡ true → HasLists (entry_named d.own (added_id q never_text)) single []

module _ (u : RewrittenUnit) (old inner : ℕ → Bool) (kinds_old : (j : ℕ) → old (kind_name u.setting.types j).0 ≡ true) (false_old : old false_name ≡ true) where
  abbrev g : Setting
  g = u.setting

  abbrev q : PProgram
  q = u.setting.program

  module _ (c d : Scope) (more : IsMore q old c d) where
    counted-there : (types : TypeTable) → ((j : ℕ) → old (kind_name types j).0 ≡ true) → (j k : ℕ) → IsCountedBy types inner c j k → IsCountedBy types inner d j k
    counted-there types olds j k (as_itself e f) = as_itself e f
    counted-there types olds j k (by_position n m o) = by_position n (ap scalar_kind (sym (marking-same q old c d more (kind_name types j) (olds j))) ∙ m) o

    entry-there : (e : ℕ) (fam : Family) → IsEntryOf g inner c e fam → IsEntryOf g inner d e fam
    entry-there e single h = h
    entry-there e (family range) h = record { written = h.written; flag = h.flag; is = h.is; counted = counted-there g.types kinds_old _ range.kind h.counted }
    entry-there e unclear h = h

    falses-there : meaning c (record { 0 = false_name }) ≡ Some (Literal truth_kind) → meaning d (record { 0 = false_name }) ≡ Some (Literal truth_kind)
    falses-there h = by_grown (more.things record { 0 = false_name } false_old)
      where
        by_grown : IsGrown q old (meaning c record { 0 = false_name }) (meaning d record { 0 = false_name }) → meaning d record { 0 = false_name } ≡ Some (Literal truth_kind)
        by_grown (stays e n) = e ∙ h
        by_grown (doubled entries e t) = cc

    task-there : (id : NameId) (entries : List EntryPart) → old id.0 ≡ true → meaning c id ≡ Some (SingleTask entries) → HasDoubles q old entries (meaning d id)
    task-there id entries o h = by_grown (more.things id o)
      where
        entries-are : Option Thing → List EntryPart
        entries-are (Some (SingleTask es)) = es
        entries-are _ = []

        by_grown : IsGrown q old (meaning c id) (meaning d id) → HasDoubles q old entries (meaning d id)
        by_grown (stays e n) = absurd (true≢false (sym (ap is_single h) ∙ n))
        by_grown (doubled es e t) = subst (λ l. HasDoubles q old l (meaning d id)) (ap entries-are (sym e ∙ h)) t.doubles

    -- A unit's scope in the replay text.
    pub scope-of : IsUnitForm u old inner c → HasPermit q d → HasOwn q old c d → IsControl q d → IsIdle q d → IsScopeOf u old inner c d
    scope-of form permit own control idle = record {
      alike = more-alike q old c d more form.self own.same;
      kind = permit.kind;
      argument = permit.argument;
      index = permit.index;
      falses = falses-there form.falses;
      control = control;
      idle = idle;
      tasks = task-there;
      never = own.never;
      called = λ id name part e. entry-there _ part.family (form.called id name part e);
      accepted = λ name part e. entry-there _ part.family (form.accepted name part e);
    }

-- ---- the own entries in a body

-- in main there are none
pub no-own : (q : PProgram) (old : ℕ → Bool) (c d : Scope) → c.own ≡ [] → d.own ≡ [] → HasOwn q old c d
no-own q old c d e f = record {
  same = λ id o. ap (λ l. entry_named l id) (e ∙ sym f);
  never = λ id i. absurd (true≢false (sym i ∙ ap (λ l. is_some (entry_named l id)) e));
}

-- in the body of a task with these entries
pub body-own : (q : PProgram) (old : ℕ → Bool) (c d : Scope) (w : Word) (xs ys : PDecls) (entries : List EntryPart) → old w.name.0 ≡ true → meaning c w.name ≡ Some (SingleTask entries) → IsMore q old c d →
    HasOwn q old (inner_scope (after_objects (in_body c w) xs)) (inner_scope (after_objects (in_body d w) ys))
body-own q old c d w xs ys entries o h more = by_grown (more.things w.name o)
  where
    left : (after_objects (in_body c w) xs).own ≡ own_entries (meaning c w.name)
    left = objects_own xs (in_body c w)

    right : (after_objects (in_body d w) ys).own ≡ own_entries (meaning d w.name)
    right = objects_own ys (in_body d w)

    by_grown : IsGrown q old (meaning c w.name) (meaning d w.name) → HasOwn q old (inner_scope (after_objects (in_body c w) xs)) (inner_scope (after_objects (in_body d w) ys))
    by_grown (stays e n) = absurd (true≢false (sym (ap is_single h) ∙ n))
    by_grown (doubled es e t) =
        let l : (after_objects (in_body c w) xs).own ≡ es = left ∙ ap own_entries e in
        let r : (after_objects (in_body d w) ys).own ≡ t.doubles.more = right ∙ ap own_entries t.doubles.means in
        record {
          same = λ id p. ap (λ k. entry_named k id) l ∙ t.doubles.same id p ∙ sym (ap (λ k. entry_named k id) r);
          never = λ id i. subst (λ k. HasLists (entry_named k (added_id q never_text)) single []) (sym r) t.never;
        }

-- ---- bodies

module _ (u : RewrittenUnit) (old inner : ℕ → Bool) (entries_new : AreEntriesNew u.setting.program old) (new : ArePermitsNew u.setting.program old)
    (zero_old : old 0 ≡ true) (false_old : old false_name ≡ true) (kinds_old : (j : ℕ) → old (kind_name u.setting.types j).0 ≡ true) where
  abbrev q' : PProgram
  q' = u.setting.program

  -- The scope of the statements of a body.
  pub body-scope : (c d : Scope) (w : Word) (objects : PDecls) (entries : List EntryPart) → IsMore q' old c d → old w.name.0 ≡ true → meaning c w.name ≡ Some (SingleTask entries) →
      ReadyAlong q' old (in_body c w) (decl_list objects) → AllByRecursion (IsOwnObject old) (decl_list objects) →
      IsUnitForm u old inner (inner_scope (after_objects (in_body c w) objects)) →
      IsControl q' (inner_scope (after_objects (in_body d w) (text_objects u.setting old entries_new new zero_old w objects))) → IsIdle q' (inner_scope (after_objects (in_body d w) (text_objects u.setting old entries_new new zero_old w objects))) →
      IsScopeOf u old inner (inner_scope (after_objects (in_body c w) objects)) (inner_scope (after_objects (in_body d w) (text_objects u.setting old entries_new new zero_old w objects)))
  body-scope c d w objects entries more o h ready owns form control idle =
      let unit = body-unit u.setting old entries_new new zero_old w objects c d ready owns more in
      scope-of u old inner kinds_old false_old _ _ unit.more form unit.permit
      (body-own q' old c d w objects (text_objects u.setting old entries_new new zero_old w objects) entries o h more) control idle

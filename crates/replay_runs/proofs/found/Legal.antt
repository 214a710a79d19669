-- In the normal form of a legal program names are apart, so that look-ups find what its replay text adds to tasks.
use Rattle.std.proofs.Common.{◌≡◌, ℕ, suc, ◌<◌, ◌==◌, Bool, true, false, List, [], ◌∷◌, length, sym, ap, ◌∙◌, subst, arith}
use Rattle.std.specs.List.{AllByRecursion, filter}
use Rattle.std.proofs.lemmas.List.{length-map}
use Rattle.ada_tree.specs.declared.naming.NameId.{NameId}
use Rattle.ada_tree.specs.declared.naming.Span.{Span}
use Rattle.ada_tree.specs.TypeTable.{TypeTable}
use Rattle.ada_tree.specs.PlainDecl.{PEntry, PTask, PDecl, DTask}
use Rattle.ada_tree.specs.PlainProgram.{PProgram}
use Rattle.ada_static_rules.specs.Refusals.{types_in}
use Rattle.syn_event.specs.declared.numbering.EntryInfo.{EntryInfo}
use Rattle.syn_event.specs.AddedNames.{task_info}
use Rattle.syn_event.specs.NamedTasks.{NumberedTask, numbered_tasks}
use Rattle.syn_event.specs.AllNumbers.{entries_of_tasks}
use Rattle.syn_event.specs.DeclaredTasks.{decl_list, tasks_in, tasks_of}
use Rattle.normal_laws.specs.structure.types.Laws.{IsOrdered}
use Rattle.normal_laws.specs.runs.forms.Normalisable.{numbers_of, setting_for, made_for}
use Rattle.normal_laws.proofs.structure.placed.Whole.{each-of}
use Rattle.normal_laws.specs.existence.Laws.{IsLegalOriginal}
use Rattle.normal_laws.proofs.existence.units.Fields.{legal_is_ordered}
use Rattle.normal_laws.proofs.structure.numbers.Tasked.{under, normal-tasks-of}
use Rattle.replay_model.specs.Names.{never_text, join_text, added_id}
use Rattle.replay_model.specs.ReplayTree.{is_task, last_task}
use Rattle.replay_model.specs.ReplayNumbers.{own_entries}
use Rattle.replay_structure.specs.typed.ScopeOf.{double_id}
use Rattle.replay_structure.proofs.texts.Owned.{told, own-at}
use Rattle.replay_structure.specs.checkable.Prepared.{form_for}
use Rattle.replay_structure.specs.scopes.Names.{old_name}
use Rattle.replay_structure.specs.scopes.More.{AreDoubled}
use Rattle.replay_structure.specs.scopes.Form.{IsTaskOf}
use Rattle.replay_structure.proofs.scopes.Names.{entries-new}
use Rattle.replay_structure.proofs.legal.names.form_names.Whole.{legal_has_form_names}
use Rattle.replay_structure.proofs.spots.Ordered.{normal_is_in_order}
use Rattle.common_lemmas.proofs.Lists.{all_unmapped, element_at, holds_at}
use Rattle.replay_runs.specs.found.Laws.{AreDoublesApart, LegalHasNamesApart, LegalDoublesAreFound, LegalMoreAreFound}
use Rattle.replay_runs.proofs.found.Doubled.{doubles_are_found}
use Rattle.replay_runs.proofs.found.Added.{more_are_found}

-- ---- lists

-- what is known of each declaration of a task is known of each task
in-kept : (P : PTask → Type 0) (Q : PDecl → Type 0) → ((t : PTask) (s : Span) → Q (DTask t s) → P t) → (xs : List PDecl) → AllByRecursion Q (filter is_task xs) → AllByRecursion P (tasks_in xs)
in-kept P Q f [] h = tt
in-kept P Q f (DTask t s ∷ xs) h = (f t s h.0, in-kept P Q f xs h.1)
in-kept P Q f (_ ∷ xs) h = in-kept P Q f xs h

-- ---- one task

module _ (q : PProgram) (old : ℕ → Bool) (names : List (List ℕ)) (types : TypeTable) (all : List EntryInfo) (t : ℕ) (y : NumberedTask) where
  -- what is known of the names of declared entries is known of those in the numbers
  names-told : (P : NameId → Type 0) (es : List PEntry) → AllByRecursion (λ (e : PEntry). P e.name.name) es → AllByRecursion (λ (x : EntryInfo). P x.name) (told names types all t y es)
  names-told P [] h = tt
  names-told P (e ∷ es) h = (h.0, names-told P es h.1)

  told-apart : (es : List PEntry) → AreDoubled q old es → AreDoublesApart q old (told names types all t y es)
  told-apart es h = record {
    named = names-told (λ n. old n.0 ≡ true) es h.named;
    added = names-told (λ n. old (double_id q n).0 ≡ false) es h.added;
    never = names-told (λ n. ((double_id q n).0 == (added_id q never_text).0) ≡ false) es h.never;
    join = names-told (λ n. ((double_id q n).0 == (added_id q join_text).0) ≡ false) es h.join;
    apart = names-told (λ n. AllByRecursion (λ (x : EntryInfo). (double_id q n).0 ≡ (double_id q x.name).0 → n.0 ≡ x.name.0) (told names types all t y es)) es
        (each-of (λ (a : PEntry). AllByRecursion (λ (x : EntryInfo). (double_id q a.name.name).0 ≡ (double_id q x.name).0 → a.name.name.0 ≡ x.name.0) (told names types all t y es)) es
        (λ a i. names-told (λ m. (double_id q a.name.name).0 ≡ (double_id q m).0 → a.name.name.0 ≡ m.0) es
        (each-of (λ (b : PEntry). (double_id q a.name.name).0 ≡ (double_id q b.name.name).0 → a.name.name.0 ≡ b.name.name.0) es (λ b j. h.apart a b i j))));
  }

-- ---- legal programs

module _ (p : PProgram) (h : IsLegalOriginal p) where
  abbrev q : PProgram
  q = made_for p

  abbrev T : TypeTable
  T = types_in p

  abbrev ys : List NumberedTask
  ys = numbered_tasks T p

  abbrev IsDoubled : PTask → Type 0
  IsDoubled x = AreDoubled q (old_name q) x.entries

  pub ordered : IsOrdered p
  ordered = legal_is_ordered p T (numbers_of p) h.legal h.placed

  doubled : AllByRecursion (λ (y : NumberedTask). IsDoubled (under (setting_for p) y)) ys
  doubled =
      all_unmapped IsDoubled (under (setting_for p)) ys
      (subst (AllByRecursion IsDoubled) (normal-tasks-of p T ordered)
      (in-kept IsDoubled (IsTaskOf q (old_name q)) (λ t s k. k.2) (decl_list q.decls) (legal_has_form_names p h).tasks))

  last-is : last_task (form_for p).numbers ≡ length ys
  last-is =
      length-map (tasks_of q) (λ (x : PTask). task_info q.names x.name.name) ∙ ap length (normal-tasks-of p T ordered) ∙ length-map ys (under (setting_for p))

  tasks-apart : (t : ℕ) → t < last_task (form_for p).numbers → AreDoublesApart q (old_name q) (own_entries (form_for p).numbers (suc t))
  tasks-apart t l =
      let all = entries_of_tasks p.names T 1 ys in
      let at = element_at ys t (subst (λ n. t < n) last-is l) in
      subst (AreDoublesApart q (old_name q)) (sym (own-at p.names T all ys t (suc t) 1 at.0 (omega arith) at.1))
      (told-apart q (old_name q) p.names T all (suc t) at.0 at.0.unit.entries (holds_at (λ (y : NumberedTask). IsDoubled (under (setting_for p) y)) ys t at.0 at.1 doubled))

pub legal_has_names_apart : LegalHasNamesApart
legal_has_names_apart p h = record { tasks = tasks-apart p h; new = entries-new (made_for p) }

pub legal_doubles_are_found : LegalDoublesAreFound
legal_doubles_are_found far p h = doubles_are_found far (form_for p) (old_name (made_for p)) (normal_is_in_order p (ordered p h)) (legal_has_names_apart p h)

pub legal_more_are_found : LegalMoreAreFound
legal_more_are_found far p h = more_are_found far (form_for p) (old_name (made_for p)) (legal_has_names_apart p h)

-- The entries of a task in the numbers are those that its task or task type declares.
use Rattle.std.proofs.Common.{◌≡◌, ℕ, zero, suc, ◌+◌, ◌-◌, Bool, false, ◌==◌, ◌&&◌, if◌then◌else◌, List, [], ◌∷◌, map, find, slice_get, option_map, unwrap_or, Option, Some, None, is_some, refl, sym, ap, ◌∙◌, subst, arith}
use Rattle.std.proofs.lemmas.Option.{none-some}
use Rattle.std.proofs.lemmas.Bool.{eq-eqb, eqb-true, ne_eqb}
use Rattle.ada_tree.specs.declared.naming.NameId.{NameId}
use Rattle.ada_tree.specs.TypeTable.{TypeTable}
use Rattle.ada_tree.specs.PlainDecl.{PEntry, PTask}
use Rattle.ada_tree.specs.PlainProgram.{PProgram}
use Rattle.syn_event.specs.declared.numbering.EntryInfo.{EntryInfo}
use Rattle.syn_event.specs.Numbering.{Numbering, task_at, entry_at}
use Rattle.syn_event.specs.AddedNames.{with_origin}
use Rattle.syn_event.specs.NamedTasks.{NumberedTask, numbered_tasks}
use Rattle.syn_event.specs.AllNumbers.{info_of_task, entry_of_task, entries_of_tasks, all_numbers, family_extent, first_of, last_index}
use Rattle.task_model.specs.Setting.{Setting, entry_of, is_family, is_family_in, unit_named, formals_of_entry, formals_in, formals_of_unit, formals_of_info}
use Rattle.normal_model.specs.Ranges.{range_of_entry, range_in, range_of_unit, range_of_info, family_range}
use Rattle.normal_laws.proofs.structure.entries.Lists.{find-behind, find-mapped, found-place}
use Rattle.common_lemmas.proofs.Lists.{find_front, found_passes}
use Rattle.common_lemmas.proofs.Options.{some_same}

-- the entry of a name among those that a task declares
abbrev pub entry_in : PTask → NameId → Option PEntry
entry_in t id = find (λ e. e.name.name.0 == id.0) t.entries

-- ---- among the entries of tasks

abbrev is_of : ℕ → NameId → EntryInfo → Bool
is_of t id info = (info.owner == t) && (info.name.0 == id.0)

module _ (names : List (List ℕ)) (T : TypeTable) where
  -- entries of another owner
  not-owned : (n t : ℕ) (x : NumberedTask) (id : NameId) → (n == t) ≡ false → (es : List PEntry) → find (is_of t id) (map (entry_of_task names T n x) es) ≡ None
  not-owned n t x id ne [] = refl
  not-owned n t x id ne (e ∷ es) =
      ap (λ b. if b && (e.name.name.0 == id.0) then Some (entry_of_task names T n x e) else find (is_of t id) (map (entry_of_task names T n x) es)) ne ∙ not-owned n t x id ne es

  -- of the owner
  owned-found : (t : ℕ) (x : NumberedTask) (id : NameId) (es : List PEntry) (e : PEntry) → find (λ (y : PEntry). y.name.name.0 == id.0) es ≡ Some e →
      find (is_of t id) (map (entry_of_task names T t x) es) ≡ Some (entry_of_task names T t x e)
  owned-found t x id es e f =
      find-mapped (is_of t id) (λ (y : PEntry). y.name.name.0 == id.0) (entry_of_task names T t x) (λ y. ap (λ b. b && (y.name.name.0 == id.0)) (eq-eqb t t refl)) es
      ∙ ap (option_map (entry_of_task names T t x)) f

  numbered-tasks-found : (xs : List NumberedTask) (n k t : ℕ) (x : NumberedTask) (id : NameId) (e : PEntry) → t ≡ n + k → slice_get xs k ≡ Some x → entry_in x.unit id ≡ Some e →
      find (is_of t id) (entries_of_tasks names T n xs) ≡ Some (entry_of_task names T t x e)
  numbered-tasks-found [] n k t x id e q at f = absurd (none-some x at)
  numbered-tasks-found (y ∷ xs) n zero t x id e q at f =
      let same : t ≡ n = omega arith in
      let here : y ≡ x = some_same at in
      find_front (is_of t id) (map (entry_of_task names T n y) y.unit.entries) (entries_of_tasks names T (n + 1) xs) (entry_of_task names T t x e)
      (subst (λ m. find (is_of t id) (map (entry_of_task names T m y) y.unit.entries) ≡ Some (entry_of_task names T t x e)) same
      (subst (λ z. find (is_of t id) (map (entry_of_task names T t z) z.unit.entries) ≡ Some (entry_of_task names T t x e)) (sym here) (owned-found t x id x.unit.entries e f)))
  numbered-tasks-found (y ∷ xs) n (suc k) t x id e q at f =
      find-behind (is_of t id) (map (entry_of_task names T n y) y.unit.entries) (entries_of_tasks names T (n + 1) xs) (not-owned n t y id (ne_eqb n t (λ s. omega (arith, s, q))) y.unit.entries)
      ∙ numbered-tasks-found xs (n + 1) k t x id e (omega (arith, q)) at f

-- ---- in the numbers

module _ (p : PProgram) (T : TypeTable) where
  abbrev pub numbers : Numbering
  numbers = all_numbers T p

  abbrev pub g : Setting
  g = record { program = p; types = T; numbers = numbers }

  abbrev plain_entries : List EntryInfo
  plain_entries = entries_of_tasks p.names T 1 (numbered_tasks T p)

  -- the task of a number is of that unit, which is found by its name
  pub record IsTaskOf (t : ℕ) (x : NumberedTask) : Type 0 where
    pub place : ℕ
    pub number : t ≡ suc place
    pub numbered_task : slice_get (numbered_tasks T p) place ≡ Some x
    pub unit : unit_named p x.unit.name.name ≡ Some x.unit

  -- What is known of the entry of a name that a task has.
  pub record HasEntry (t : ℕ) (id : NameId) (e : PEntry) : Type 0 where
    pub info : EntryInfo
    pub at : entry_at numbers (entry_of numbers t id) ≡ Some info
    pub is_family : is_family numbers (entry_of numbers t id) ≡ is_some e.family
    pub range : family_range g (entry_of numbers t id) ≡ e.family
    pub formals : formals_of_info g (entry_at numbers (entry_of numbers t id)) ≡ e.formals
    pub first : info.first ≡ first_of (family_extent T e.family)
    pub last : info.last ≡ last_index (family_extent T e.family)

  pub mapped-at : (xs : List NumberedTask) (k : ℕ) (x : NumberedTask) → slice_get xs k ≡ Some x → slice_get (map (info_of_task p.names) xs) k ≡ Some (info_of_task p.names x)
  mapped-at [] k x e = absurd (none-some x e)
  mapped-at (y ∷ xs) zero x e = ap (λ z. Some (info_of_task p.names z)) (some_same e)
  mapped-at (y ∷ xs) (suc k) x e = mapped-at xs k x e

  pub task-there : (t : ℕ) (x : NumberedTask) → IsTaskOf t x → task_at numbers t ≡ Some (info_of_task p.names x)
  task-there t x h = ap (task_at numbers) h.number ∙ mapped-at (numbered_tasks T p) h.place x h.numbered_task

  at-number : (k : ℕ) → entry_at numbers (k + 1) ≡ slice_get numbers.entries k
  at-number k =
      let e : (k + 1) - 1 ≡ k = omega arith in
      ap (λ b. if b then None else slice_get numbers.entries ((k + 1) - 1)) (ne_eqb (k + 1) 0 (λ z. omega (arith, z))) ∙ ap (slice_get numbers.entries) e

  pub entry-there : (t : ℕ) (x : NumberedTask) (id : NameId) (e : PEntry) → IsTaskOf t x → entry_in x.unit id ≡ Some e → HasEntry t id e
  entry-there t x id e h f =
      let numbered-task-entry : EntryInfo = entry_of_task p.names T t x e in
      let found = numbered-tasks-found p.names T (numbered_tasks T p) 1 h.place t x id e (let q : t ≡ 1 + h.place = omega (arith, h.number) in q) h.numbered_task f in
      let whole : find (is_of t id) numbers.entries ≡ Some (with_origin p.names plain_entries numbered-task-entry) =
      (find-mapped (is_of t id) (is_of t id) (with_origin p.names plain_entries) (λ y. refl) plain_entries ∙ ap (option_map (with_origin p.names plain_entries)) found) in
      let place = found-place (is_of t id) numbers.entries _ whole in
      let number : entry_of numbers t id ≡ place.0 + 1 = ap (λ o. unwrap_or (option_map (λ k. k + 1) o) 0) place.2 in
      let there : entry_at numbers (entry_of numbers t id) ≡ Some (with_origin p.names plain_entries numbered-task-entry) = (ap (entry_at numbers) number ∙ at-number place.0 ∙ place.1) in
      let named : entry_in x.unit e.name.name ≡ Some e =
      subst (λ n. find (λ (y : PEntry). y.name.name.0 == n) x.unit.entries ≡ Some e) (sym (eqb-true e.name.name.0 id.0 (found_passes (λ (y : PEntry). y.name.name.0 == id.0) x.unit.entries e f))) f in
      record {
        info = with_origin p.names plain_entries numbered-task-entry;
        at = there;
        is_family = ap is_family_in there;
        range = ap (range_of_info g) there ∙ ap (λ o. range_of_unit p o e.name.name) (task-there t x h) ∙ ap (λ o. range_in o e.name.name) h.unit ∙ ap range_of_entry named;
        formals = ap (formals_of_info g) there ∙ ap (λ o. formals_of_unit p o e.name.name) (task-there t x h) ∙ ap (λ o. formals_in o e.name.name) h.unit ∙ ap formals_of_entry named;
        first = refl;
        last = refl;
      }

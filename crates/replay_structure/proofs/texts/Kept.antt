-- In a program of own names each task is added in the replay text where it is in the program, and its entries are kept.
use Rattle.std.proofs.Common.{◌≡◌, ℕ, false, ◌++◌, flat_map, slice_get, option_map, Some, ap, ◌∙◌}
use Rattle.std.specs.List.{AllByRecursion}
use Rattle.std.proofs.lemmas.Option.{slice_get-map}
use Rattle.ada_tree.specs.TypeTable.{TypeTable}
use Rattle.ada_tree.specs.PlainDecl.{PEntry}
use Rattle.ada_tree.specs.PlainProgram.{PProgram}
use Rattle.ada_tree.specs.Every.{EveryEntry}
use Rattle.ada_static_rules.specs.Refusals.{types_in}
use Rattle.syn_event.specs.AddedNames.{is_added_name}
use Rattle.syn_event.specs.NamedTasks.{NumberedTask, numbered_tasks}
use Rattle.syn_event.specs.AllNumbers.{all_numbers}
use Rattle.syn_event.specs.DeclaredTasks.{text_of, tasks_of}
use Rattle.task_model.specs.Setting.{Setting}
use Rattle.normal_model.specs.NormalTree.{normal_tree}
use Rattle.replay_model.specs.Names.{added_texts, double_text, double_texts, replay_names}
use Rattle.task_laws.specs.legal.rewritten_types.Agreement.{Agrees}
use Rattle.task_laws.proofs.legal.rewritten_types.Lookups.{place-all}
use Rattle.task_laws.specs.legal.rewritten_values.Values.{old_names}
use Rattle.normal_laws.specs.structure.types.Own.{own_name}
use Rattle.normal_laws.specs.structure.types.Laws.{IsOrdered, setting_of, AreOwn}
use Rattle.normal_laws.specs.structure.numbers.Laws.{NoneIsDed}
use Rattle.normal_laws.proofs.structure.numbers.Named.{has-folded, has-back, has-flat, has-mapped, added-longer, own-within, own-not-added}
use Rattle.replay_structure.proofs.texts.Rooted.{replay-begins, text-begins}
use Rattle.normal_laws.proofs.structure.numbers.Tasked.{under, normal-tasks-of}
use Rattle.normal_laws.proofs.structure.numbers.TaskNames.{IsFine, IsNamed, all-fine, all-named, entries-own, family-kept}
use Rattle.replay_structure.proofs.texts.Entries.{IsKept, IsTaskKept}
use Rattle.common_lemmas.proofs.Lists.{all_by_place}

module _ (p : PProgram) (ordered : IsOrdered p) (own : AreOwn p p.decls) (ded : NoneIsDed p) where
  abbrev types : TypeTable
  types = types_in p

  abbrev form : Setting
  form = setting_of p types (all_numbers types p)

  abbrev normal : PProgram
  normal = normal_tree p types (all_numbers types p)

  -- a task is added in the replay text where it is in the program
  added-kept : (y : NumberedTask) → IsNamed p (under form y).name.name y.name → is_added_name (replay_names normal) (under form y).name.name ≡ is_added_name p.names y.name
  added-kept y h = added-longer normal.names (replay_names normal) (under form y).name.name (replay-begins normal) h.within ∙ h.added

  -- ---- each entry

  module _ (U : TypeTable) (agrees : Agrees (own_name p) types U) where
    entry-kept : (k : ℕ) (y : NumberedTask) → slice_get (numbered_tasks types p) k ≡ Some y → (j : ℕ) (e : PEntry) → slice_get y.unit.entries j ≡ Some e → EveryEntry (old_names (own_name p)) e → IsKept normal p.names types U e
    entry-kept k y at j e there h = record {
      range = family-kept (own_name p) types U agrees e.family h.2;
      added = added-longer p.names (replay_names normal) e.name.name (text-begins p types (all_numbers types p)) (own-within p e.name.name.0 h.1);
      double =
          has-folded (added_texts ++ flat_map (double_texts normal.names) (tasks_of normal)) normal.names (double_text (text_of normal.names e.name.name))
          (has-back added_texts (flat_map (double_texts normal.names) (tasks_of normal)) (double_text (text_of normal.names e.name.name))
          (has-flat (double_texts normal.names) (tasks_of normal) k (under form y) (double_text (text_of normal.names e.name.name))
          (ap (λ l. slice_get l k) (normal-tasks-of p types ordered) ∙ slice_get-map (under form) (numbered_tasks types p) k ∙ ap (option_map (under form)) at)
          (has-mapped (λ (x : PEntry). double_text (text_of normal.names x.name.name)) y.unit.entries j e there)));
    }

    -- every task with its entries
    pub all-kept : AllByRecursion (IsTaskKept normal p.names types U (under form)) (numbered_tasks types p)
    all-kept = all_by_place (IsTaskKept normal p.names types U (under form)) (numbered_tasks types p) (λ k y at. record {
      added = added-kept y (place-all (λ (z : NumberedTask). IsNamed p (under form z).name.name z.name) (numbered_tasks types p) k y (all-named p own ded) at);
      entries = all_by_place (IsKept normal p.names types U) y.unit.entries (λ j e there. entry-kept k y at j e there (place-all (EveryEntry (old_names (own_name p))) y.unit.entries j e (its-own k y at) there));
    })
      where
        its-own : (k : ℕ) (y : NumberedTask) → slice_get (numbered_tasks types p) k ≡ Some y → AllByRecursion (EveryEntry (old_names (own_name p))) y.unit.entries
        its-own k y at = place-all (λ (z : NumberedTask). AllByRecursion (EveryEntry (old_names (own_name p))) z.unit.entries) (numbered_tasks types p) k y (entries-own p own types) at

  -- none of them is added
  pub all-not-added : AllByRecursion (λ (y : NumberedTask). is_added_name (replay_names normal) (under form y).name.name ≡ false) (numbered_tasks types p)
  all-not-added = all_by_place _ (numbered_tasks types p) (λ k y at.
      added-kept y (place-all (λ (z : NumberedTask). IsNamed p (under form z).name.name z.name) (numbered_tasks types p) k y (all-named p own ded) at)
      ∙ own-not-added p y.name (place-all (IsFine p) (numbered_tasks types p) k y (all-fine p own ded) at).0)

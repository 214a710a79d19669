-- All tasks of a legal original are its own, so that a file by tasks has one list for each.
use Rattle.std.proofs.Common.{◌≡◌, ◌+◌, ℕ, Bool, not, cond, nat_eq, List, [], ◌∷◌, map, length, codes, sym, ap, ◌∙◌, subst, arith}
use Rattle.std.specs.Prelude.{◌||◌, count_by}
use Rattle.std.specs.List.{AllByRecursion, starts_with}
use Rattle.std.specs.Str.{bytes_eq}
use Rattle.std.proofs.lemmas.Bool.{or_parts}
use Rattle.std.proofs.lemmas.List.Sums.{sum_by-cons}
use Rattle.ada_tree.specs.PlainProgram.{PProgram}
use Rattle.ada_tree.specs.TypeTable.{TypeTable}
use Rattle.ada_tree.specs.WellPlaced.{IsWellPlaced}
use Rattle.syn_event.specs.declared.numbering.Mode.TheVariants.{Original}
use Rattle.syn_event.specs.declared.numbering.TaskInfo.{TaskInfo}
use Rattle.syn_event.specs.AllNumbers.{all_numbers, info_of_task}
use Rattle.syn_event.specs.DeclaredTasks.{text_of}
use Rattle.syn_event.specs.Legal.{Legal}
use Rattle.syn_event.specs.NamedTasks.{NumberedTask, numbered_tasks}
use Rattle.syn_event.specs.Numbering.{Numbering, is_original_task}
use Rattle.syn_event.specs.RuleReservedName.{has_mark}
use Rattle.syn_event.proofs.Weaker.{placed_tokens}
use Rattle.seq_file.specs.Lists.{list_count}
use Rattle.normal_laws.proofs.existence.units.DeclaredNames.{IsGood, tasks-good}

-- of tasks whose names are left to no rewriter none is added
none_added : (names : List (List ℕ)) (xs : List NumberedTask) → AllByRecursion (λ (i : TaskInfo). IsGood names i.name) (map (info_of_task names) xs) →
    count_by is_original_task (map (info_of_task names) xs) ≡ length (map (info_of_task names) xs)
none_added names [] h = omega arith
none_added names (x ∷ xs) h =
    let text : List ℕ = text_of names x.name in
    let own : starts_with nat_eq text (codes "DED_") ≡ _ = (or_parts (starts_with nat_eq text (codes "DED_")) (has_mark text || bytes_eq text (codes "DED")) h.0.free).0 in
    sum_by-cons (λ (i : TaskInfo). cond (is_original_task i) 1 0) (info_of_task names x) (map (info_of_task names) xs)
    ∙ ap (λ (b : Bool). cond (not b) 1 0 + count_by is_original_task (map (info_of_task names) xs)) own
    ∙ omega (arith, none_added names xs h.1)

module _ (p : PProgram) (types : TypeTable) (numbers : Numbering) (placed : IsWellPlaced p) (legal : Legal p types numbers Original) where
  -- as many lists as tasks
  pub lists_for_all : length numbers.tasks ≡ list_count numbers
  lists_for_all =
      subst (λ (n : Numbering). length n.tasks ≡ list_count n) (sym legal.its_numbers)
      (omega (arith, none_added p.names (numbered_tasks types p) (tasks-good p types legal.check_rules (placed_tokens p placed))))

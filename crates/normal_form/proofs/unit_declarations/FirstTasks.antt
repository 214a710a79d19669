-- The numbers of first tasks, one task after the other.
use Rattle.std.proofs.Common.{◌≡◌, ◌==◌, ◌<◌, ◌+◌, ℕ, nat_eq, if◌then◌else◌, List, take, length, get_or, position, Some, None, ap, ◌∙◌}
use Rattle.std.specs.HashMap.{HashMap, get}
use Rattle.ada_static_rules.specs.StaticValue.{first_of_two}
use Rattle.syn_event.specs.declared.numbering.TaskInfo.{TaskInfo}
use Rattle.task_links.proofs.KeepingLemmas.{more}
use Rattle.ada_static_rules.proofs.found_twice.FirstOfTwo.{position_more}

pub first_step : {S : Type 0} (start so_far grown : HashMap ℕ ℕ S) (tasks : List TaskInfo) (i number : ℕ) (d : TaskInfo) → i < length tasks → number ≡ i
    → ((q : ℕ) → get nat_eq so_far q ≡ first_of_two (get nat_eq start q) (position (λ info. info.unit.0 == q) (take i tasks)))
    → ((q : ℕ) → get nat_eq grown q ≡ first_of_two (get nat_eq so_far q) (if (get_or tasks i d).unit.0 == q then Some number else None))
    → (q : ℕ) → get nat_eq grown q ≡ first_of_two (get nat_eq start q) (position (λ info. info.unit.0 == q) (take (i + 1) tasks))
first_step start so_far grown tasks i number d h is before grows q =
    let p = λ (x : TaskInfo). x.unit.0 == q in
    more (get nat_eq start q) (get nat_eq so_far q) (get nat_eq grown q) (position p (take i tasks)) (position p (take (i + 1) tasks)) (if p (get_or tasks i d) then Some i else None)
    (before q) (grows q ∙ ap (λ n. first_of_two (get nat_eq so_far q) (if p (get_or tasks i d) then Some n else None)) is) (position_more p tasks i d h)

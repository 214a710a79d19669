use Rattle.std.proofs.Common.{◌∙◌}
use Rattle.scoped_names.specs.name_sets.Numbers.{numbers_in}
use Rattle.ada_decl_rules.proofs.duplicates.Behind.{task_noted}
use Rattle.common_lemmas.proofs.Results.{on_ok}
use Rattle.ada_decl_rules.proofs.duplicates.named_so_far.Notes.note_task.Goals as goal

pub returns : goal.returns
returns c =
    on_ok c.note_entries.result (λ q of_tasks span. task_noted c.args.self.now record { namings = c.self.inside.namings.items; here = (numbers_in c.self.inside.here); bodies = (numbers_in c.self.inside.bodies); has_instance = c.self.inside.has_instance } c.note_entries.new.namings.items of_tasks c.args.task.now c.deref.result.now span
    c.deref.ensures.value (c.self.view_is ∙ c.in_ok-note_name.ensures) q) c.note_entries.ensures

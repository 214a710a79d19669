use Rattle.ada_decl_rules.proofs.duplicates.Behind.{instance_noted}
use Rattle.common_lemmas.proofs.Results.{on_ok}
use Rattle.ada_decl_rules.proofs.duplicates.named_so_far.Notes.note_instance.Goals as goal

pub returns : goal.returns
returns c = on_ok c.note_name.result (λ q of_tasks span. instance_noted _ c.args.self.now c.note_name.new.self c.push.new.self.items of_tasks c.args.name span c.self.view_is c.in_ok-push.ensures.items q) c.note_name.ensures

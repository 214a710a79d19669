use Rattle.std.proofs.Common.{map}
use Rattle.ada_tree.specs.PlainStmt.{plain_body}
use Rattle.ada_tree.specs.PlainDecl.{decls_of, plain_decl}
use Rattle.scoped_names.specs.name_sets.Numbers.{numbers_in}
use Rattle.ada_decl_rules.proofs.duplicates.Behind.{task_body_noted}
use Rattle.common_lemmas.proofs.Results.{on_ok}
use Rattle.ada_decl_rules.proofs.duplicates.named_so_far.Notes.note_task_body.Goals as goal

pub returns : goal.returns
returns c =
    on_ok c.note_body.result (λ q of_tasks span. task_body_noted record { namings = c.self.inside.namings.items; here = (numbers_in c.self.inside.here); bodies = (numbers_in c.self.inside.bodies); has_instance = c.self.inside.has_instance } c.args.self.now c.note_once.new.namings.items c.note_objects.new.namings.items c.note_body.new.namings.items (numbers_in c.note_once.new.names) of_tasks c.args.name (decls_of (map plain_decl c.args.objects.now)) (plain_body c.args.body.now) span
    c.self.view_is c.in_ok-note_once.ensures.namings c.in_ok-note_once.ensures.names c.in_ok-note_objects.ensures q) c.note_body.ensures

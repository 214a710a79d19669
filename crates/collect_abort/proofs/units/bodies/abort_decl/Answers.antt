use Rattle.ada_tree.specs.PlainDecl.{plain_decl}
use Rattle.collect_abort.specs.Looked.{told_of}
use Rattle.collect_abort.proofs.units.Steps.{body-step, task-step}
use Rattle.collect_abort.proofs.units.bodies.abort_decl.Goals as goal

pub returns-in_ok-put_body_objects-in-Some : goal.returns-in_ok-put_body_objects-in-Some
returns-in_ok-put_body_objects-in-Some c =
    body-step (told_of c.args.x.now) c.args.names.now c.in-Some.name (plain_decl c.args.decl.now) (plain_decl c.put_body_objects.new.decl) (plain_decl c.put_body.new.decl) c.put_body.result c.in-Some.ensures c.in_ok-put_body_objects-in-Some.ensures c.put_body.ensures

pub returns-in-None : goal.returns-in-None
returns-in-None c =
    task-step (told_of c.args.x.now) c.args.names.now (plain_decl c.args.decl.now) (plain_decl c.put_entries.new.decl) c.put_entries.result c.in-None.ensures c.put_entries.ensures

use Rattle.std.proofs.Common.{map}
use Rattle.ada_tree.specs.PlainDecl.{plain_decl}
use Rattle.normal_parts.proofs.Putting.{five-put}
use Rattle.collect_abort.proofs.units.program.put_units.Goals as goal

pub returns : goal.returns
returns c =
    five-put (map plain_decl c.put_main_objects.new.objects.items) (map plain_decl c.put_rewritten.new.out.items) (map plain_decl c.put_recorder.new.out.items) (map plain_decl c.put_rewritten-2.new.out.items) (map plain_decl c.put_recorder_body.new.out.items) _ _ _ _ _ c.put_recorder_body.result c.in_ok-put_main_objects.ensures c.in_ok-put_rewritten.ensures c.in_ok-put_recorder.ensures c.in_ok-put_rewritten-2.ensures c.put_recorder_body.ensures

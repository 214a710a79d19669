use Rattle.std.proofs.Common.{◌++◌, [], false, map, flat_map}
use Rattle.ada_tree.specs.PlainDecl.{plain_decl}
use Rattle.scoped_names.specs.name_sets.Numbers.{numbers_in}
use Rattle.ada_decl_rules.specs.duplicates.NamingsInOrder.{declared}
use Rattle.ada_decl_rules.specs.duplicates.NamedSoFar.{object_words}
use Rattle.ada_decl_rules.proofs.duplicates.Behind.{objects_more, objects_over, objects_named}
use Rattle.ada_decl_rules.proofs.duplicates.named_so_far.note_objects.Goals as goal

pub loop-decl-preserved : goal.loop-decl-preserved
loop-decl-preserved c =
    objects_more c.loop-decl.namings.items c.note_object.new.namings.items (c.args.namings.now.items ++ declared false [] (flat_map object_words (map plain_decl c.args.objects.now))) (numbers_in c.loop-decl.here) (numbers_in c.note_object.new.here) c.args.objects.now c.loop-decl.decl-index c.decl-item.result
    c.loop-decl-test.true c.decl-item.is c.in_ok-note_object.ensures.namings c.in_ok-note_object.ensures.here c.loop-decl.invariant

pub returns : goal.returns
returns c =
    objects_named c.args.namings.now.items c.loop-decl.namings.items (map plain_decl c.args.objects.now)
    (objects_over c.loop-decl.namings.items (c.args.namings.now.items ++ declared false [] (flat_map object_words (map plain_decl c.args.objects.now))) (numbers_in c.loop-decl.here) c.args.objects.now c.loop-decl.decl-index c.loop-decl-test.false c.loop-decl.invariant)

use Rattle.std.proofs.Common.{◌++◌, map, [], false}
use Rattle.ada_tree.specs.PlainStmt.{plain_formal}
use Rattle.ada_static_rules.specs.Sites.{all_names}
use Rattle.scoped_names.specs.name_sets.Numbers.{numbers_in}
use Rattle.ada_decl_rules.specs.duplicates.NamingsInOrder.{declared}
use Rattle.ada_decl_rules.proofs.duplicates.Noting.{formal_more, formals_over, formals_named}
use Rattle.ada_decl_rules.proofs.duplicates.namings_in_order.note_formals.Goals as goal

pub loop-formal-preserved : goal.loop-formal-preserved
loop-formal-preserved c =
    formal_more c.loop-formal.namings.items c.note_words.new.namings.items (c.args.namings.now.items ++ declared false [] (all_names (map plain_formal c.args.formals.now))) (numbers_in c.loop-formal.here) (numbers_in c.note_words.new.here) c.args.formals.now c.loop-formal.formal-index c.formal-item.result c.deref.result.now
    c.loop-formal-test.true c.formal-item.is c.deref.ensures.value c.in_ok-note_words.ensures.namings c.in_ok-note_words.ensures.here c.loop-formal.invariant

pub returns : goal.returns
returns c =
    formals_named c.args.namings.now.items c.loop-formal.namings.items (map plain_formal c.args.formals.now)
    (formals_over c.loop-formal.namings.items (c.args.namings.now.items ++ declared false [] (all_names (map plain_formal c.args.formals.now))) (numbers_in c.loop-formal.here) c.args.formals.now c.loop-formal.formal-index c.loop-formal-test.false c.loop-formal.invariant)

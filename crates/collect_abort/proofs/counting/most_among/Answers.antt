use Rattle.std.proofs.Common.{max, ap, ◌∙◌}
use Rattle.ada_tree.specs.PlainDecl.{plain_decl}
use Rattle.normal_form.proofs.Greatest.{greatest_turn}
use Rattle.collect_model.specs.aborts.Places.{places_of}
use Rattle.collect_abort.proofs.counting.most_among.Goals as goal

pub loop-decl-preserved : goal.loop-decl-preserved
loop-decl-preserved c =
    greatest_turn places_of plain_decl c.args.decls.now c.loop-decl.decl-index c.decl-item.result c.args.most c.loop-decl.most c.greater-most.result c.loop-decl-test.true c.decl-item.is c.loop-decl.invariant
    (c.greater-most.ensures ∙ ap (max c.loop-decl.most) c.in_ok-places_of.ensures)

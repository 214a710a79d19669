use Rattle.std.proofs.Common.{ap, ◌∙◌}
use Rattle.std.specs.List.{position_or_len}
use Rattle.ada_tree.specs.PlainDecl.{plain_decl}
use Rattle.replay_model.specs.ReplayTree.{is_added_object}
use Rattle.replay_declarations.specs.ids.Arranged.{permit_declared}
use Rattle.replay_declarations.proofs.units.Placed.{permit-put}
use Rattle.replay_declarations.proofs.units.permits.put_permit.Goals as goal

pub returns : goal.returns
returns c =
    permit-put c.args.names.now c.args.decls.now.items c.insert_decl.new.list.items _ (permit_declared c.args.n.now c.args.s) c.insert_decl.result c.permit_declared.result
    (c.own_objects-place.ensures.place ∙ ap (position_or_len (λ x. is_added_object c.args.names.now (plain_decl x))) c.deref.ensures.value)
    c.insert_decl.ensures c.permit_declared.ensures

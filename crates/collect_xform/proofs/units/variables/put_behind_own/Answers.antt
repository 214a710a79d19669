use Rattle.std.proofs.Common.{ap, ◌∙◌}
use Rattle.std.specs.List.{position_or_len}
use Rattle.ada_tree.specs.PlainDecl.{plain_decl}
use Rattle.replay_model.specs.ReplayTree.{is_added_object}
use Rattle.collect_xform.proofs.units.Placed.{own-put}
use Rattle.collect_xform.proofs.units.variables.put_behind_own.Goals as goal

pub returns : goal.returns
returns c =
    own-put c.args.names.now c.args.decls.now.items c.args.more.now.items c.insert_decls.new.decls.items _ c.insert_decls.result
    (c.own_objects-place.ensures.place ∙ ap (position_or_len (λ x. is_added_object c.args.names.now (plain_decl x))) c.deref.ensures.value)
    c.insert_decls.ensures

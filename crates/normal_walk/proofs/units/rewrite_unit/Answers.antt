use Rattle.std.proofs.Common.{ap, arith, length, map}
use Rattle.ada_tree.specs.PlainDecl.{plain_decl}
use Rattle.ada_tree.specs.PlainStmt.{plain_body}
use Rattle.normal_walk.proofs.Walking.{body_done, count_done, track_done, variables_done}
use Rattle.normal_walk.proofs.units.rewrite_unit.Goals as goal

pub returns-in-Ok : goal.returns-in-Ok
returns-in-Ok c = record {
  body = body_done (record { setting = c.args.lookups.now; task = c.args.task }) _ (plain_body c.args.body.now) _ c.rewrite_body-done.result c.keep_body.result _ c.keep_body.ensures c.rewrite_body-done.ensures.tree c.in-Ok.ensures (ap (map plain_decl) c.requires.none);
  variables = variables_done (record { setting = c.args.lookups.now; task = c.args.task }) _ _ (plain_body c.args.body.now) _ c.rewrite_body-done.result c.keep_body.result _ c.keep_body.ensures c.rewrite_body-done.ensures.state c.in-Ok.ensures (ap (map plain_decl) c.requires.none);
  track = track_done c.args.lookups.now c.args.members.now _ _ c.rewrite_body-done.result c.keep_body.result _ c.keep_body.ensures c.rewrite_body-done.ensures.fits;
  count = count_done c.args.lookups.now c.args.members.now _ (length c.args.track.now.names.variables.items) _ c.rewrite_body-done.result c.keep_body.result _ c.keep_body.ensures c.rewrite_body-done.ensures.fits (omega (arith, c.len-begun.ensures, c.args.track.now.names.variables.ok.0));
}

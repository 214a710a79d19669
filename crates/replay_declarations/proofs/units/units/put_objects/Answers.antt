use Rattle.replay_asking.specs.Looked.{voice_of}
use Rattle.replay_declarations.specs.ids.Arranged.{permit_declared}
use Rattle.replay_declarations.proofs.units.Put.{objects-put}
use Rattle.replay_declarations.proofs.units.units.put_objects.Goals as goal

pub returns : goal.returns
returns c =
    objects-put c.args.names.now (permit_declared (voice_of c.args.x.now).added c.args.s) c.args.objects.now.items c.put_permit.new.decls.items c.put_permit.result c.put_permit.ensures

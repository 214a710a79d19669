use Rattle.normal_parts.proofs.Putting.{decl-put}
use Rattle.collect_xform.proofs.units.program.put_recorder.Goals as goal

pub returns : goal.returns
returns c = decl-put c.args.out.now.items c.push_decl.new.list.items _ c.push_decl.result c.recorder_declared.result c.push_decl.ensures c.recorder_declared.ensures

use Rattle.std.proofs.Common.{ap, ◌∙◌}
use Rattle.ada_tree.specs.PlainProgram.{plain_program}
use Rattle.collect_model.specs.Lines.{header_text}
use Rattle.normal_parts.proofs.Putting.{decl-put}
use Rattle.collect_xform.proofs.units.Put.{made-as}
use Rattle.collect_model.specs.aborts.Recording.{recorder_body}
use Rattle.collect_model.specs.aborts.AbortTree.{recorder_body_told}
use Rattle.collect_abort.specs.Looked.{told_of}
use Rattle.collect_abort.proofs.units.program.put_recorder_body.Goals as goal

pub returns : goal.returns
returns c =
    decl-put c.args.out.now.items c.push_decl.new.list.items (recorder_body_told (told_of c.args.x.now) (plain_program c.args.q.now)) c.push_decl.result c.recorder_body.result c.push_decl.ensures
    (made-as c.recorder_body.result _ (recorder_body_told (told_of c.args.x.now) (plain_program c.args.q.now))
    (ap (recorder_body (told_of c.args.x.now) c.args.q.now.name.span)
    (c.as_str.ensures.value ∙ c.in_ok-header.ensures ∙ ap (header_text c.args.q.now.names) c.numbers.ensures))
    c.recorder_body.ensures)

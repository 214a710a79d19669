use Rattle.std.proofs.Common.{◌≡◌, ap, ◌∙◌, Some}
use Rattle.std.proofs.Common.{rules}
use Rattle.syn_event.specs.DeclaredTasks.{text_of}
use Rattle.normal_model.specs.Names.{name_of_member}
use Rattle.normal_lookups.proofs.names.Places.{place_of}
use Rattle.normal_lookups.proofs.names.task_names.name_member.Goals as goal

pub returns-clause-id : goal.returns-clause-id
returns-clause-id c =
    let text_is : c.as_str.result.now ≡ name_of_member (text_of c.args.old.now c.args.array) c.args.index = search rules in
    place_of (name_of_member (text_of c.args.old.now c.args.array) c.args.index) c.intern.new.self c.in_ok-id.id.0 c.in_ok-id.ensures.names (c.in_ok-id.ensures.named ∙ ap Some text_is)

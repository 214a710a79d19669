use Rattle.std.proofs.Common.{◌∙◌}
use Rattle.task_model.specs.Setting.{Setting}
use Rattle.ada_tree.specs.PlainProgram.{plain_program}
use Rattle.normal_form.proofs.Composing.{same_setting}
use Rattle.normal_form.proofs.whole.normal.Goals as goal

pub returns-in-Ok : goal.returns-in-Ok
returns-in-Ok c =
    let g : Setting = record { program = plain_program c.args.p.now; types = c.args.types.now; numbers = c.args.numbers.now } in
    same_setting c.in-Ok.lookups g c.normal_of.result (c.in-Ok.ensures ∙ c.in_ok-links.ensures) c.normal_of.ensures

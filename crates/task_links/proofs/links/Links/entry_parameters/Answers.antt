use Rattle.std.proofs.Common.{ap, ◌∙◌}
use Rattle.ada_tree.specs.PlainProgram.{plain_program}
use Rattle.task_model.specs.Setting.{Setting, entry_parameters}
use Rattle.task_links.specs.inner.Made.{kept_for_entry}
use Rattle.task_links.proofs.LinksLemmas.{kept_is}
use Rattle.task_links.proofs.links.Links.entry_parameters.Goals as goal

pub returns : goal.returns
returns c =
    let here = c.self.inside in
    c.kept_for_entry.ensures
    ∙ ap (λ n. kept_for_entry here.formals n c.args.entry) c.numbers.ensures
    ∙ kept_is (record { program = plain_program here.program.now; types = here.types; numbers = here.tasks }) here.formals c.self.invariant c.args.entry
    ∙ ap (λ (g : Setting). entry_parameters g c.args.entry) c.self.view_is

use Rattle.std.proofs.Common.{ap, ◌∙◌}
use Rattle.syn_event.specs.Numbering.{entry_named}
use Rattle.task_links.proofs.task_names.TaskNames.entry_named.Goals as goal

pub returns-in-Some : goal.returns-in-Some
returns-in-Some c = c.in-Some.ensures.value ∙ c.self.invariant.entries_are (c.args.owner, c.args.name.0) ∙ ap (λ n. entry_named n c.args.owner c.args.name) c.self.view_is

pub returns-in-None : goal.returns-in-None
returns-in-None c = c.in-None.ensures.value ∙ c.self.invariant.entries_are (c.args.owner, c.args.name.0) ∙ ap (λ n. entry_named n c.args.owner c.args.name) c.self.view_is

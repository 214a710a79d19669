use Rattle.std.proofs.Common.{ap, ◌∙◌}
use Rattle.ada_tree.specs.NameList.{interned}
use Rattle.collect_model.specs.aborts.Names.{acceptors_text, each_text, with_recorded}
use Rattle.collect_abort.proofs.names.add_recorded.Goals as goal

pub returns : goal.returns
unfolding with_recorded
returns c =
    c.in_ok-intern-2.ensures.texts
    ∙ ap (λ ns. interned ns each_text) (c.in_ok-intern.ensures.texts ∙ ap (λ ns. interned ns acceptors_text) c.in_ok-add_names.ensures)

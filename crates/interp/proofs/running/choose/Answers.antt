use Rattle.std.proofs.Common.{◌%◌, length, slice_index_or, ap, sym, ◌∙◌}
use Rattle.event_machine.specs.declared.Action.TheVariants.{End}
use Rattle.interp.proofs.Turning.{is_picked}
use Rattle.interp.proofs.running.choose.Goals as goal

pub standing-requires : goal.standing-requires
standing-requires g c = c.requires

pub returns-in-None-clause-chosen : goal.returns-in-None-clause-chosen
returns-in-None-clause-chosen g c =
    is_picked g.C.Chooser.word g.C.Chooser.next c.args.m.now c.args.choices.now c.pick_of.new.choices c.standing.new.actions.items c.pick_of.result
    c.in_ok-end.field-0 c.in_ok-end.ensures.halted c.in-None.is (c.in_ok-end.ensures.listed c.in-None.is) (c.in_ok-end.ensures.some c.in-None.is)
    (c.pick_of.ensures.action ∙ ap (λ xs. slice_index_or xs (g.C.Chooser.word c.args.choices.now % length xs) End) c.deref.ensures.value)
    c.pick_of.ensures.after

pub returns-in-None-clause-listed : goal.returns-in-None-clause-listed
returns-in-None-clause-listed g c = record {
  goes_on = sym c.in_ok-end.ensures.halted ∙ c.in-None.is;
  listed = c.in_ok-end.ensures.listed c.in-None.is;
  some = c.in_ok-end.ensures.some c.in-None.is;
  few = c.in_ok-end.ensures.few c.in-None.is;
}

use Rattle.std.proofs.Common.{ℕ, List, inl, inr, refl, sym, subst, ◌∙◌}
use Rattle.event_machine.specs.declared.Event.{Event}
use Rattle.syn_event.specs.Numbering.{Numbering}
use Rattle.task_model.specs.Machine.{ProgramWithInputs}
use Rattle.task_machine.specs.Table.{setup_in}
use Rattle.debug_outcome.specs.Coming.{Comes, Never}
use Rattle.debug_outcome.proofs.Comings.{comes_more}
use Rattle.debug_judge.specs.JudgeOutcomes.{IsVerdictText}
use Rattle.debug_judge.specs.JudgedLines.{IsFoundOf}
use Rattle.debug_judge.proofs.Giving.{nothing_follows}
use Rattle.debug_variants.specs.ContinueOutcomes.{GoesOnFrom, IsContinuedText}
use Rattle.debug_variants.proofs.Verdicts.{other_found}
use Rattle.debug_variants.proofs.continuing.report_from.Goals as goal

pub returns-then-is_feasible : goal.returns-then-is_feasible
returns-then-is_feasible g c =
    let setup : ProgramWithInputs = setup_in c.args.links.now c.args.inputs.now in
    let numbers : Numbering = c.args.links.now.numbers in
    let events : List Event = c.args.events.items in
    let f : IsFoundOf setup numbers c.args.bound events c.in-Ok.found = subst (λ (es : List Event). IsFoundOf setup numbers c.args.bound es c.in-Ok.found) c.deref.ensures.value c.in-Ok.ensures in
    comes_more (IsContinuedText g.C.Chooser.word g.C.Chooser.next setup numbers c.args.bound events c.args.choices.now c.args.count)
    (GoesOnFrom g.C.Chooser.word g.C.Chooser.next setup numbers c.args.bound events c.args.choices.now c.args.count) Never Never
    (g.K.Sink.told c.args.out.now) (g.K.Sink.told c.go_on_from.new.out) (g.K.Sink.faults c.args.out.now) (g.K.Sink.faults c.go_on_from.new.out) c.go_on_from.result
    (λ o told. inl told) (λ o never. never)
    (subst
    (λ (b : ℕ). Comes (IsContinuedText g.C.Chooser.word g.C.Chooser.next setup numbers b events c.args.choices.now c.args.count) Never
    (g.K.Sink.told c.args.out.now) (g.K.Sink.told c.go_on_from.new.out) (g.K.Sink.faults c.args.out.now) (g.K.Sink.faults c.go_on_from.new.out) c.go_on_from.result)
    f.bound_is (c.go_on_from.ensures setup refl f.stands))

pub returns : goal.returns
returns g c =
    let setup : ProgramWithInputs = setup_in c.args.links.now c.args.inputs.now in
    let numbers : Numbering = c.args.links.now.numbers in
    let events : List Event = c.args.events.items in
    let f : IsFoundOf setup numbers c.args.bound events c.in-Ok.found = subst (λ (es : List Event). IsFoundOf setup numbers c.args.bound es c.in-Ok.found) c.deref.ensures.value c.in-Ok.ensures in
    comes_more (IsVerdictText setup numbers c.args.bound events) (GoesOnFrom g.C.Chooser.word g.C.Chooser.next setup numbers c.args.bound events c.args.choices.now c.args.count) Never Never
    (g.K.Sink.told c.args.out.now) (g.K.Sink.told c.report_found.new.out) (g.K.Sink.faults c.args.out.now) (g.K.Sink.faults c.report_found.new.out) c.report_found.result
    (λ o judged. inr (record {
      other = other_found setup numbers c.args.bound events c.in-Ok.found.verdict f.verdict (sym c.is_feasible.ensures ∙ c.if-is_feasible.false);
      judged = judged;
    })) (λ o never. never)
    (c.report_found.ensures setup c.args.bound events refl (nothing_follows events c.requires.fit.end) f)

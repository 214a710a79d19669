use Rattle.std.proofs.Common.{List, ℕ, inl, subst}
use Rattle.debug_outcome.specs.files.Giving.{given_as, inputs_in}
use Rattle.debug_outcome.specs.Coming.{Comes, Never}
use Rattle.debug_outcome.proofs.Comings.{comes_more}
use Rattle.debug_core.specs.ChosenEvents.{GoesOnUnder}
use Rattle.debug_core.specs.ContinueMeaning.{ContinueMeans}
use Rattle.debug_core.specs.inner.Started.{setup_of}
use Rattle.debug_core.proofs.Originals.{offers_are_known, start_is_original}
use Rattle.debug_core.proofs.continue_command.continue_files.Goals as goal

pub go_on_under-requires-clause-original : goal.go_on_under-requires-clause-original
go_on_under-requires-clause-original g c = start_is_original _ _ c.in-Ok.start c.in-Ok.ensures.start

pub returns-in-Ok : goal.returns-in-Ok
returns-in-Ok g c =
    comes_more (GoesOnUnder (setup_of c.in-Ok.start) c.in-Ok.start.legal.numbers c.args.found.now.judged.sequence.items (given_as c.args.found.now.choices) c.args.most.count c.args.most.bound)
    (ContinueMeans c.args.found.now.judged.start.text.items (inputs_in c.args.found.now.judged.start) c.args.found.now.judged.sequence.items (given_as c.args.found.now.choices) c.args.most.count c.args.most.bound)
    Never Never (g.O.Sink.told c.args.out.now) (g.O.Sink.told c.go_on_under.new.out) (g.O.Sink.faults c.args.out.now) (g.O.Sink.faults c.go_on_under.new.out) c.go_on_under.result
    (λ o goes_on. inl (record { setup = setup_of c.in-Ok.start; numbers = c.in-Ok.start.legal.numbers; is_start = c.in-Ok.ensures.start; known = offers_are_known c.args.found.now.judged.start.text.items (setup_of c.in-Ok.start) c.in-Ok.start.legal.numbers c.requires.within c.in-Ok.ensures.start.is_legal; goes_on = goes_on })) (λ o never. never)
    (subst
    (λ (lines : List ℕ). Comes (GoesOnUnder (setup_of c.in-Ok.start) c.in-Ok.start.legal.numbers lines (given_as c.args.found.now.choices) c.args.most.count c.args.most.bound) Never (g.O.Sink.told c.args.out.now) (g.O.Sink.told c.go_on_under.new.out) (g.O.Sink.faults c.args.out.now) (g.O.Sink.faults c.go_on_under.new.out) c.go_on_under.result)
    c.as_slice.ensures.value c.go_on_under.ensures)

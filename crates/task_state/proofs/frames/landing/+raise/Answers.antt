use Rattle.std.proofs.Common.{◌≡◌, [], reverse, arith, length}
use Rattle.std.proofs.lemmas.List.{nil_from_length}
use Rattle.ada_tree.specs.PlainStmt.{seen}
use Rattle.task_state.specs.frames.Seen.{stack_of}
use Rattle.task_state.proofs.frames.StackLemmas.{raise_caught, unit_catches}
use Rattle.task_state.proofs.frames.CallLemmas.{raise_below, grounded_alone}
use Rattle.task_state.proofs.frames.landing.+raise.Goals as goal

pub returns-in-Some-clause-lands : goal.returns-in-Some-clause-lands
returns-in-Some-clause-lands t c =
    raise_caught
    c.args.raised
    (seen c.args.frame.rest.now)
    c.args.frame.place
    (reverse c.args.outer.now.items)
    (stack_of c.in-Some.landed (reverse c.args.outer.now.items))
    c.requires
    (c.in-Some.ensures.lands (reverse c.args.outer.now.items))

pub returns-in-Some-pop-clause-lands : goal.returns-in-Some-pop-clause-lands
returns-in-Some-pop-clause-lands t c =
    raise_below
    c.args.raised
    c.args.frame
    c.in-Some-pop.below
    c.args.outer.now.items
    c.pop.new.self.items
    c.parameters.result
    c.raise-beyond.result.gone
    (stack_of c.raise-beyond.result.frame (reverse c.raise-beyond.new.outer.items))
    c.in-Some-pop.ensures.items
    c.parameters.ensures.count
    c.in-None.ensures.lands
    c.raise-beyond.ensures.lands

pub returns-in-None-pop-clause-lands : goal.returns-in-None-pop-clause-lands
returns-in-None-pop-clause-lands t c vars =
    let none : length c.args.outer.now.items ≡ 0 = omega (arith, c.args.outer.now.ok.0, c.in-None-pop.ensures.cases.0) in
    absurd
    (unit_catches
    c.args.raised
    c.args.frame.place
    (c.in-None.ensures.lands [])
    (grounded_alone c.args.frame.place c.args.outer.now.items (nil_from_length c.args.outer.now.items none) c.requires))

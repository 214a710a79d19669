use Rattle.std.proofs.Common.{◌≡◌, true, [], ◌∷◌, ◌++◌, reverse}
use Rattle.task_state.specs.frames.Seen.{stack_of, is_over}
use Rattle.task_state.proofs.frames.CallLemmas.{settle_below}
use Rattle.task_state.proofs.frames.landing.+settle.Goals as goal

pub returns-in-Some-clause-settles : goal.returns-in-Some-clause-settles
returns-in-Some-clause-settles t c =
    let over : is_over c.args.top.rest.now c.args.top.place ≡ true = cc in
    let items : c.args.outer.now.items ≡ c.pop.new.self.items ++ c.in-Some.below ∷ [] = c.in-Some.ensures.items in
    settle_below
    c.args.top
    c.in-Some.below
    c.args.outer.now.items
    c.pop.new.self.items
    (stack_of c.settle.result (reverse c.settle.new.outer.items))
    items
    over
    c.settle.ensures.settles

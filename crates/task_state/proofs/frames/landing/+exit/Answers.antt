use Rattle.std.proofs.Common.{◌≡◌, true, false, [], ◌∷◌, ◌++◌, reverse, ap}
use Rattle.task_state.specs.frames.inner.Catching.{holds_exits, is_exited}
use Rattle.task_state.proofs.frames.CallLemmas.{exit_at_end, exit_behind, exit_below}
use Rattle.task_state.proofs.frames.landing.+exit.Goals as goal
use Rattle.task_state.proofs.frames.landing.+exit.Goals.{then-is_exited, else-is_exited}

pub returns-then-holds_exits-clause-lands : goal.returns-then-holds_exits-clause-lands
returns-then-holds_exits-clause-lands t c =
    let holds : holds_exits c.args.frame.place ≡ true = cc in
    exit_at_end c.args.name c.args.frame c.at_end.result (reverse c.args.outer.now.items) c.at_end.ensures.rest c.at_end.ensures.place holds

pub returns-after-is_exited-clause-lands : goal.returns-after-is_exited-clause-lands
returns-after-is_exited-clause-lands t c =
    let passes : holds_exits c.args.frame.place ≡ false = cc in
    let items : c.args.outer.now.items ≡ c.pop.new.self.items ++ c.in-Some.below ∷ [] = c.in-Some.ensures.items in
    elim c.if-is_exited.branch [
      | then-is_exited w ↦
          let exited : is_exited c.args.name c.args.frame.place ≡ true = cc in
          exit_behind c.args.name c.args.frame c.in-Some.below c.args.outer.now.items c.pop.new.self.items c.if-is_exited.outer.items c.parameters.result c.if-is_exited.beyond items c.parameters.ensures.count exited w.beyond-is (ap (λ v. v.items) w.outer-is)
      | else-is_exited w ↦
          let kept : is_exited c.args.name c.args.frame.place ≡ false = cc in
          exit_below c.args.name c.args.frame c.in-Some.below c.args.outer.now.items c.pop.new.self.items c.if-is_exited.outer.items w.exit-beyond.new.outer.items c.parameters.result c.if-is_exited.beyond w.exit-beyond.result items c.parameters.ensures.count passes kept w.beyond-is (ap (λ v. v.items) w.outer-is) w.exit-beyond.ensures.lands
    ]

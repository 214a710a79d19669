use Rattle.std.proofs.Common.{◌≡◌, ◌↔◌, Bool, true, sym, ap, subst, take}
use Rattle.feasible.specs.Keeping.{HaveEnded}
use Rattle.feasible.specs.Kept.{Kept}
use Rattle.feasible.proofs.Resting.{ends_exactly}
use Rattle.feasible.proofs.judge.Judge.ended.Goals as goal

pub returns-clause-exact : goal.returns-clause-exact
returns-clause-exact c = λ setup events s.
    subst (λ (b : Bool). (b ≡ true) ↔ HaveEnded (take c.args.self.now.taken events)) (sym (ap (λ (k : Kept). k.ended) c.self.view_is)) (ends_exactly setup events c.args.self.now s)

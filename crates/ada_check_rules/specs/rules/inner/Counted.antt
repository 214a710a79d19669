-- What is known behind places at which something is counted.
use Rattle.std.specs.Prelude.{◌≡◌, ℕ, ◌+◌, List}
use Rattle.syn_event.specs.CheckScope.{CheckSite}
use Rattle.ada_check_rules.specs.rules.Amounts.{capped}
use Rattle.ada_check_rules.specs.rules.Sooner.{sooner}
use Rattle.ada_check_rules.specs.rules.RefusedFirst.{Standard, refused_first}
use Rattle.ada_check_rules.specs.declared.rules.counting.Counted.{Counted}

-- at these places so many more were counted
pub record IsCounted (by : Standard) (before : Counted) (check_sites : List CheckSite) (more : ℕ) (after : Counted) : Type 0 where
  pub count_is : capped after.count ≡ capped (before.count + more)
  pub refusal_is : after.refusal ≡ sooner before.refusal (refused_first by check_sites)

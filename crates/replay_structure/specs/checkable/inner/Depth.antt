-- How deep what stands in a statement itself is nested (this project's rule).
use Rattle.std.specs.Prelude.{ℕ, ◌≤◌}
use Rattle.task_laws.specs.legal.asked.Asked.{Asks}

-- each part of a statement, and what stands in it without the statements in it, is at most so deep
abbrev pub depth_asks : ℕ → Asks (Unit {0})
depth_asks m = record {
  outer = λ c k s. k ≤ m;
  many = λ n. Unit {0};
  duration = λ n. Unit {0};
  plain = λ c k x. k ≤ m;
  callee = λ c k x. k ≤ m;
  call = λ c k x. k ≤ m;
  aborts = λ c k xs. k ≤ m;
  condition = λ c k e. k ≤ m;
  selector = λ c k e xs others s. k ≤ m;
  choices = λ c k e xs. k ≤ m;
  loop = λ c k w x. k ≤ m;
  head = λ c k h. k ≤ m;
  wait = λ c k x others s. k ≤ m;
  delay = λ c k g s. k ≤ m;
  handlers = λ hs. Unit {0};
  handler = λ c k names ws. Unit {0};
  accepting = λ c h. c;
  looping = λ c w x. c;
  handling = λ c. c;
}

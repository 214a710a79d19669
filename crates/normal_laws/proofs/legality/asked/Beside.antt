-- Each name that takes the place of a callee is that of a task beside main, as the rules 13 to 23 ask of callees.
use Rattle.std.proofs.Common.{ℕ, Bool, List, [], ◌∷◌}
use Rattle.std.specs.List.{AllByRecursion}
use Rattle.ada_tree.specs.PlainStmt.{PCallee, PBody}
use Rattle.ada_static_rules.specs.Scope.{Scope, EntryPart}
use Rattle.task_model.specs.Setting.{Setting}
use Rattle.task_laws.specs.legal.asked.Asked.{Asks, AskedBody}
use Rattle.normal_laws.specs.structure.checked.Around.{AreBeside, callee_asks}
use Rattle.normal_laws.specs.structure.typed.ScopeOf.{AreTasksOf}
use Rattle.normal_laws.proofs.legality.asked.Steps.{Steps, steps_asked}
use Rattle.normal_laws.proofs.legality.asked.Bodies.{body_asks}

module _ (g : Setting) (own : ℕ → Bool) (entries : List EntryPart) where
  abbrev C : Type 0
  C = Prim.Unit {0} × (Scope × Prim.Unit {0})

  abbrev asks : Asks C
  asks = body_asks g own entries

  beside : (x : PCallee) → AreTasksOf g x → AreBeside g x
  beside x h w t = let q = h.targets w t in record { info = q.info; among = q.among; is = q.is }

  all-beside : (c : C) (k : ℕ) (xs : List PCallee) → AllByRecursion (asks.callee c k) xs → AllByRecursion (AreBeside g) xs
  all-beside c k [] h = tt
  all-beside c k (x ∷ xs) h = (beside x h.0.1.1, all-beside c k xs h.1)

  steps : Steps asks (callee_asks g) (λ c d. Prim.Unit {0})
  steps = record {
    outer = λ c d k s rel h. tt;
    many = λ n h. tt;
    duration = λ n h. tt;
    plain = λ c d k x rel h. tt;
    callee = λ c d k x rel h. beside x h.1.1;
    call = λ c d k x rel h i. tt;
    aborts = λ c d k xs rel h i. tt;
    aborted = λ c d k xs rel h i. all-beside c k xs i;
    condition = λ c d k e rel h. tt;
    selector = λ c d k e xs others s rel h. tt;
    choices = λ c d k e xs rel h. tt;
    loop = λ c d k w x rel h. tt;
    looping = λ c d k w x rel h. tt;
    head = λ c d k h rel i. tt;
    accepting = λ c d k h rel i. tt;
    wait = λ c d k x others s rel h. tt;
    delay = λ c d k e s rel h. tt;
    handlers = λ hs h. tt;
    handler = λ c d k ids ws rel h. tt;
    handling = λ c d rel. tt;
  }

  pub callees-beside : (c : C) (k : ℕ) (x : PBody) → AskedBody asks c k x → AskedBody (callee_asks g) tt k x
  callees-beside c k x h = steps_asked asks (callee_asks g) (λ c d. Prim.Unit {0}) steps c tt k x tt h

-- What is found of constraints, and of one constraint more.
use Rattle.std.proofs.Common.{◌≡◌, ◌<◌, ◌+◌, ℕ, List, [], ◌∷◌, ◌++◌, length, take, get_or, Option, sym, ap, ◌∙◌, subst, arith, add-one}
use Rattle.std.proofs.Math.Seq.{take-suc}
use Rattle.std.proofs.lemmas.List.{length-take-le}
use Rattle.event_machine.specs.declared.Event.{Event}
use Rattle.syn_constraint.specs.declared.constraints.Constraint.{Constraint}
use Rattle.debug_sequence.specs.declared.requiring.Broken.{Broken}
use Rattle.debug_sequence.specs.declared.requiring.Finding.{Finding}
use Rattle.debug_sequence.specs.RequireOutcomes.{IsFirstBroken, IsFinding, AreFindings}

-- one constraint more
pub findings_more : (events : List Event) (number : ℕ) (constraints : List Constraint) (findings : List Finding) (constraint : Constraint) (finding : Finding) →
    AreFindings events number constraints findings → IsFinding events (number + length constraints) constraint finding → AreFindings events number (constraints ++ constraint ∷ []) (findings ++ finding ∷ [])
findings_more events number [] [] constraint finding h one = (subst (λ (n : ℕ). IsFinding events n constraint finding) (let e : number + 0 ≡ number = omega arith in e) one, tt)
findings_more events number [] (f ∷ findings) constraint finding h one = absurd h
findings_more events number (c ∷ constraints) [] constraint finding h one = absurd h
findings_more events number (c ∷ constraints) (f ∷ findings) constraint finding h one = (
  h.0,
  findings_more events (number + 1) constraints findings constraint finding h.1
      (subst (λ (n : ℕ). IsFinding events n constraint finding) (let e : number + (length (c ∷ constraints)) ≡ number + 1 + length constraints = omega arith in e) one),
)

-- the same by the place of that one in a list of constraints
pub findings_step : (events : List Event) (constraints : List Constraint) (i number : ℕ) (d : Constraint) (findings : List Finding) (broken : Option Broken) → i < length constraints → number ≡ i + 1 →
    AreFindings events 1 (take i constraints) findings → IsFirstBroken events (get_or constraints i d) broken → AreFindings events 1 (take (i + 1) constraints) (findings ++ record { number = number; broken = broken } ∷ [])
findings_step events constraints i number d findings broken within counted h first =
    let one : Finding = record { number = number; broken = broken } in
    let long : length (take i constraints) ≡ i = length-take-le i constraints (omega (arith, within)) in
    let is : IsFinding events (1 + length (take i constraints)) (get_or constraints i d) one = record { numbered = omega (arith, long, counted); first = first } in
    subst (λ (cs : List Constraint). AreFindings events 1 cs (findings ++ one ∷ [])) (sym (ap (λ (n : ℕ). take n constraints) (add-one i) ∙ take-suc constraints i d within))
    (findings_more events 1 (take i constraints) findings (get_or constraints i d) one h is)

-- Tests that are all asked, joined by `and`, hold exactly where all of their facts do.
use Rattle.std.proofs.Common.{◌↔◌, ◌&&◌, Bool, true, false, IsTrue, refl, sym, true≢false}

pub both_hold : {P Q : Type 0} (a b : Bool) → IsTrue a ↔ P → IsTrue b ↔ Q → IsTrue (a && b) ↔ (P × Q)
both_hold true true p q = (λ e. (p.0 refl, q.0 refl), λ h. refl)
both_hold true false p q = (λ e. absurd (true≢false (sym e)), λ h. q.1 h.1)
both_hold false b p q = (λ e. absurd (true≢false (sym e)), λ h. p.1 h.0)

pub three_hold : {P Q R : Type 0} (a b c : Bool) → IsTrue a ↔ P → IsTrue b ↔ Q → IsTrue c ↔ R → IsTrue ((a && b) && c) ↔ (P × Q × R)
three_hold true true c p q r = (λ e. (p.0 refl, q.0 refl, r.0 e), λ h. r.1 h.2)
three_hold true false c p q r = (λ e. absurd (true≢false (sym e)), λ h. q.1 h.1)
three_hold false b c p q r = (λ e. absurd (true≢false (sym e)), λ h. p.1 h.0)

pub four_hold :
    {P Q R S : Type 0} (a b c d : Bool) →
    IsTrue a ↔ P →
    IsTrue b ↔ Q →
    IsTrue c ↔ R →
    IsTrue d ↔ S →
    IsTrue (((a && b) && c) && d) ↔ (P × Q × R × S)
four_hold true true true d p q r s = (λ e. (p.0 refl, q.0 refl, r.0 refl, s.0 e), λ h. s.1 h.3)
four_hold true true false d p q r s = (λ e. absurd (true≢false (sym e)), λ h. r.1 h.2)
four_hold true false c d p q r s = (λ e. absurd (true≢false (sym e)), λ h. q.1 h.1)
four_hold false b c d p q r s = (λ e. absurd (true≢false (sym e)), λ h. p.1 h.0)

pub ruleset joined = (both_hold, three_hold, four_hold)

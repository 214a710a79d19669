-- Events of which nothing follows the end.
use Rattle.std.proofs.Common.{◌≡◌, ℕ, zero, suc, ◌<◌, Bool, true, false, not, ◌&&◌, List, [], ◌∷◌, length, take, refl, ap, arith}
use Rattle.std.specs.List.{list_all}
use Rattle.event_machine.specs.declared.Event.{Event}
use Rattle.event_machine.specs.Tallies.{HasNoEnd}
use Rattle.event_machine.specs.Worlds.{is_last}
use Rattle.feasible.specs.Keeping.{NothingFollows}

-- the end is not among those before another event
pub no_end_front : (events : List Event) (k : ℕ) → k < length events → NothingFollows events → HasNoEnd (take k events)
no_end_front events zero less h = refl
no_end_front [] (suc k) less h = absurd (omega arith)
no_end_front (e ∷ rest) (suc k) less h = go (is_last e) refl (no_end_front rest k (omega arith) h.1)
  where
    go : (b : Bool) → is_last e ≡ b → HasNoEnd (take k rest) → (not b && list_all (λ x. not (is_last x)) (take k rest)) ≡ true
    go true q more = let none : rest ≡ [] = h.0 q in let short : length rest ≡ 0 = ap length none in absurd (omega arith)
    go false q more = more

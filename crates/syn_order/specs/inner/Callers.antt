-- The callers of each task, kept beside what is known.
use Rattle.std.specs.Prelude.{◌≡◌, ℕ, ◌-◌, false, ◌&&◌, if◌then◌else◌, List, [], ◌∷◌, length, take, reverse, slice_set, nat_lt}
use Rattle.event_machine.specs.declared.Event.{Event}
use Rattle.event_machine.specs.declared.Event.TheVariants.{R, E, S, D, C, T, F, X, B, Z}
use Rattle.event_machine.specs.Soundness.{times}
use Rattle.event_machine.specs.progress.Known.{Known, party, is_closed, is_served_by, touches}
use Rattle.syn_order.specs.inner.Lists.{at_place, put_behind}

-- The callers of a task are those that it serves, each once, and no task serves itself.
pub record Serve (k : Known) : Type 0 where
  pub callers : (a c : ℕ) → times c (party k a).callers ≡ (if is_served_by a (party k c) then 1 else 0)
  pub itself : (a : ℕ) → is_served_by a (party k a) ≡ false

-- These are the callers of each task, innermost last.
pub record AreCallers (k : Known) (callers : List (List ℕ)) : Type 0 where
  pub many : length callers ≡ length k.parties
  pub kept : (t : ℕ) → (party k t).callers ≡ reverse (at_place callers t)
  pub serve : Serve k

-- the innermost caller, or d
abbrev pub innermost_or : ℕ → List ℕ → ℕ
innermost_or d [] = d
innermost_or d (c ∷ callers) = c

-- all but the last
abbrev pub all_but_last : List ℕ → List ℕ
all_but_last xs = take (length xs - 1) xs

-- the callers after an event that is admitted
abbrev pub callers_after : (ℕ → ℕ) → Known → Event → List (List ℕ) → List (List ℕ)
callers_after owner k (R c e i) callers = put_behind callers (owner e) c
callers_after owner k (E a) callers = slice_set callers a (all_but_last (at_place callers a))
callers_after owner k (S a) callers = callers
callers_after owner k (D a n) callers = callers
callers_after owner k (C c e i) callers = callers
callers_after owner k (T c e i) callers = callers
callers_after owner k (F c e i) callers = callers
callers_after owner k (X a) callers = callers
callers_after owner k (B t x) callers = if is_closed k x then callers else slice_set callers x []
callers_after owner k Z callers = callers

-- The tasks that the event touches, each once.
abbrev pub AreTouched : (ℕ → ℕ) → Known → Event → List ℕ → Type 0
AreTouched owner k e tasks = (u : ℕ) → times u tasks ≡ (if touches owner k e u && nat_lt u (length k.parties) then 1 else 0)

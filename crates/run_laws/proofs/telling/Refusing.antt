-- What the law of replaying asks of a progress is not so of every one: one that lists the closed tasks too, or counts from the main program, is refused.
use Rattle.std.proofs.Common.{◌≡◌, ℕ, suc, false, if◌then◌else◌, List, [], ◌∷◌, length, pred, refl, sym, arith}
use Rattle.std.specs.Prelude.{nat_lt}
use Rattle.std.specs.List.{range_with_len}
use Rattle.event_machine.specs.declared.Event.TheVariants.{X}
use Rattle.event_machine.specs.Offers.{Ends}
use Rattle.event_machine.specs.States.{Ops, live, completed}
use Rattle.event_machine.specs.Programs.{Program}
use Rattle.event_machine.specs.Worlds.{World, Happen}
use Rattle.event_machine.specs.progress.Known.{Known}
use Rattle.run_laws.specs.replaying.Scripts.{Progress, IsProgress}
use Rattle.run_laws.specs.telling.ByEvents.{by_events}

-- a task that is at its end from the start on
abbrev ending : Ops ℕ
ending = record {
  can_step = λ l. false;
  stepped = λ l. l;
  offer = λ l. Ends;
  callers = λ l. [];
  accepted = λ e i c caller l. l;
  finished = λ l. l;
  resumed = λ acceptor l. l;
  raised = λ l. l;
  took_else = λ l. l;
  took_delay = λ k l. l;
  passed = λ l. l;
  nobody = 0;
}

-- the main program and one more such task
abbrev two : Program ℕ
two = record { ops = ending; owner = λ e. 0; size = 2 }

abbrev two_live : World ℕ
two_live = record { tasks = λ t. if nat_lt t 2 then live 0 else completed 0; ended = false }

-- the progress by events, but with this list
abbrev listing : (Known → List ℕ) → Progress Known
listing others = record { start = (by_events two.owner 2).start; admits = (by_events two.owner 2).admits; advance = (by_events two.owner 2).advance; others = others }

nothing_more : (n : ℕ) → n ≡ suc n → ⊥
nothing_more n q = omega (arith, q)

-- Task 1 has completed, and is listed.
pub closed_refused : IsProgress two two_live (listing (λ k. range_with_len 1 (pred (length k.parties)))) → ⊥
closed_refused h = nothing_more 0 (sym (h.others (Happen (X 1) ∷ []) (refl, tt) refl refl 1))

-- The main program is listed.
pub main_refused : IsProgress two two_live (listing (λ k. range_with_len 0 (pred (length k.parties)))) → ⊥
main_refused h = nothing_more 0 (sym (h.others (Happen (X 1) ∷ []) (refl, tt) refl refl 0))

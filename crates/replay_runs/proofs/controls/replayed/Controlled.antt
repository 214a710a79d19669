-- A controlled program replays the sequence of its original, in the words of the two programs alone.
use Rattle.std.proofs.Common.{ℕ, List, refl, sym}
use Rattle.event_machine.specs.States.{Seat, State}
use Rattle.event_machine.specs.Programs.{Program, numbered}
use Rattle.event_machine.specs.Tallies.{tallies}
use Rattle.run_laws.specs.imitation.Shown.{Opened, end_from}
use Rattle.run_laws.specs.replaying.Rewritings.{Setting}
use Rattle.run_laws.specs.replaying.Laws.{Controlled, back}
use Rattle.replay_runs.specs.controls.replayed.Replaying.{Replays}

-- the original of the law, in its opening state
abbrev pub original_of : (x : Setting) → Opened x.L
original_of x = record { program = x.p; out = x.out; at = x.opening }

-- what the law tells, of the events that the law's own stand for
pub controlled-replays : (x : Setting) {K : Type 0} (q : Program K) (out : K → List ℕ) (at : State (ℕ → Seat K)) → Controlled x q out at →
    Replays x.s (original_of x) (record { program = q; out = out; at = at }) (back x)
controlled-replays x q out at c = record {
  shows = λ actions run.
      let r = c.replays actions run in
      record { rest = r.rest; prefix = r.prefix; originals = r.original; original = record { applies = r.applies; has = r.events }; outputs = λ t l. r.outputs t l };
  goes_on = λ actions run events tail e f.
      let r = c.goes_far actions events tail run (sym e) f in
      record { more = r.more; applies = r.applies; shows = r.shows };
  ends = λ actions run over.
      let r = c.ends_whole actions run over in
      record {
        rest = r.rest;
        prefix = r.prefix;
        longest = r.greatest;
        originals = r.original;
        original = record { applies = r.applies; has = r.events };
        quiet = r.quiet;
        outputs = λ others o calm t l free.
            r.outputs (end_from (original_of x) others).seats (tallies (numbered x.p) x.opening others (λ u. 0))
            (record { actions = others; applies = o.applies; has_events = o.has; leaves = λ u. refl; counts = λ u. refl }) calm t l free;
      };
}

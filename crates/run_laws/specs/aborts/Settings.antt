-- A program with abort statements that is to be collected, and the copy of it with a recorder (this project's rule).
use Rattle.std.specs.Prelude.{◌≡◌, ℕ, ℤ, ◌<◌, true, false, ◌==◌, if◌then◌else◌, nat_lt, suc, Bool, List, [], ◌∷◌}
use Rattle.event_machine.specs.declared.Standing.TheVariants.{Live}
use Rattle.event_machine.specs.Offers.{Finishes, Ends, calls_in, is_any_form, waits_with, opens}
use Rattle.event_machine.specs.States.{Seat, State, live, completed}
use Rattle.event_machine.specs.Programs.{Program}
use Rattle.event_machine.specs.Worlds.{World, aborts}
use Rattle.run_laws.specs.imitation.Imitations.{Original, IsComeTo, local_at}
use Rattle.run_laws.specs.collecting.Notes.{Lines}
use Rattle.run_laws.specs.collecting.Settings.{IsSilent, IsOfTask, is_call}
use Rattle.run_laws.specs.aborts.Copies.{Due, Begun, TookElse, TookDelay, TookOther, Failed, Returned, Over, Copy, Based, Calling, Owing, Refusing, Leaving, Opening, Recording, Writing, Striking, Noted, written, copy_ops}

-- How a program is collected: the recorder is the task behind the original ones, and the entries of these keep their numbers.
pub record Setting (o : Original) : Type 0 where
  -- the recorder's entry, and the owners of entries
  pub note : ℕ
  pub owner : ℕ → ℕ
  pub noted : owner note ≡ o.p.size
  -- in each world that the program comes to before its end a free task aborts a task of the program, and calls an entry of one
  pub aborts_tasks : (w : World o.L) → IsComeTo o w → w.ended ≡ false → (t v : ℕ) → (w.tasks t).standing ≡ Live →
      aborts v (o.p.ops.offer (local_at w t)) ≡ true → v < o.p.size
  pub calls_tasks : (w : World o.L) → IsComeTo o w → w.ended ≡ false → (t e : ℕ) (i : ℤ) → (w.tasks t).standing ≡ Live →
      calls_in is_any_form e i (o.p.ops.offer (local_at w t)) ≡ true →
      IsOfTask o.p.size o.p.owner note owner e
  -- nothing but a local step writes
  pub silent : IsSilent o.p.ops o.out
  pub passes_silent : (l : o.L) → o.out (o.p.ops.passed l) ≡ o.out l
  -- as the rendezvous of an acceptor in this state ends an exception is raised at the caller: nothing is asked of it
  pub pends : o.L → Bool
  pub lines : Lines

-- the recorder's number
abbrev pub recorder : {o : Original} → Setting o → ℕ
recorder {o} x = o.p.size

-- The copy of the program.
abbrev pub twin : {o : Original} → Setting o → Program (Copy o.L)
twin {o} x = record { ops = copy_ops o.p x.note x.pends x.lines; owner = x.owner; size = suc o.p.size }

-- what its tasks have written
abbrev pub out_of : {o : Original} → Setting o → Copy o.L → List ℕ
out_of {o} x = written o.out x.lines

-- The copy in its opening state.
abbrev pub start_copy : {o : Original} → Setting o → ℕ → Seat (Copy o.L)
start_copy {o} x t = if nat_lt t o.p.size then live (Based t (o.opening.seats t).local) else (if t == recorder x then live Opening else completed Opening)

abbrev pub opening_copy : {o : Original} → Setting o → State (ℕ → Seat (Copy o.L))
opening_copy {o} x = record { seats = start_copy x; line = []; ended = false }

-- ---- the states that tasks of the copy can come to

-- who accepts waits for that, and the other is in a proper state; who is behind a rendezvous was at its end, with this caller
abbrev pub IsProperDue : (o : Original) → Due o.L → o.L → Type 0
IsProperDue o (Begun c e i v) l = o.IsProper v × (waits_with (opens e i) (o.p.ops.offer l) ≡ true)
IsProperDue o TookElse l = Unit {0}
IsProperDue o (TookDelay k) l = Unit {0}
IsProperDue o TookOther l = Unit {0}
IsProperDue o Failed l = Unit {0}
IsProperDue o (Returned m) l = o.IsProper m
IsProperDue o (Over c) l = (o.p.ops.offer l ≡ Finishes) × (o.p.ops.callers l ≡ c ∷ o.p.ops.callers (o.p.ops.finished l))

abbrev pub IsProperCopy : (o : Original) → Copy o.L → Type 0
IsProperCopy o (Based t l) = o.IsProper l
IsProperCopy o (Calling t l) = o.IsProper l × (is_call (o.p.ops.offer l) ≡ true)
IsProperCopy o (Owing t due l) = o.IsProper l × IsProperDue o due l
IsProperCopy o (Refusing t c l) = o.IsProper l
IsProperCopy o (Leaving t l) = o.IsProper l × (o.p.ops.offer l ≡ Ends)
IsProperCopy o Opening = Unit {0}
IsProperCopy o (Recording b) = Unit {0}
IsProperCopy o (Writing c b note done left) = Unit {0}
IsProperCopy o (Striking c b t v) = Unit {0}
IsProperCopy o (Noted c answer b) = Unit {0}

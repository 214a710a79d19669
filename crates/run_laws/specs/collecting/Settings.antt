-- A program that is to be collected, and the copy of it with a recorder (this project's rule).
use Rattle.std.specs.Prelude.{◌≡◌, ℕ, ℤ, ◌<◌, true, false, ◌==◌, if◌then◌else◌, nat_lt, suc, Bool, List, []}
use Rattle.event_machine.specs.declared.Standing.TheVariants.{Live}
use Rattle.event_machine.specs.Offers.{Offer, Nothing, Calls, Waits, Finishes, Ends, Aborts, calls_in, is_any_form, waits_with, opens}
use Rattle.event_machine.specs.States.{Ops, Seat, State, live, completed}
use Rattle.event_machine.specs.Programs.{Program}
use Rattle.event_machine.specs.Worlds.{World, aborts}
use Rattle.run_laws.specs.imitation.Imitations.{Original, IsComeTo, local_at}
use Rattle.run_laws.specs.collecting.Notes.{Lines}
use Rattle.run_laws.specs.collecting.Copies.{Due, Begun, TookElse, TookDelay, TookOther, Failed, Upset, Copy, Based, Calling, Owing, Ending, Leaving, Opening, Recording, Writing, Noted, written, copy_ops}

-- Nothing but a local step writes.
pub record IsSilent {L : Type 0} (ops : Ops L) (out : L → List ℕ) : Type 0 where
  pub accepted : (e : ℕ) (i : ℤ) (c : ℕ) (caller l : L) → out (ops.accepted e i c caller l) ≡ out l
  pub finished : (l : L) → out (ops.finished l) ≡ out l
  pub resumed : (acceptor l : L) → out (ops.resumed acceptor l) ≡ out l
  pub raised : (l : L) → out (ops.raised l) ≡ out l
  pub took_else : (l : L) → out (ops.took_else l) ≡ out l
  pub took_delay : (k : ℕ) (l : L) → out (ops.took_delay k l) ≡ out l

-- The entry is that of a task of a program of this size, whose owners of entries these are, and it has the same owner beside the recorder's entry.
pub record IsOfTask (size : ℕ) (owners : ℕ → ℕ) (note : ℕ) (owner : ℕ → ℕ) (e : ℕ) : Type 0 where
  pub task : owners e < size
  pub same : owner e ≡ owners e
  pub other : (e == note) ≡ false

-- How a program is collected: the recorder is the task behind the original ones, and the entries of these keep their numbers.
pub record Setting (o : Original) : Type 0 where
  -- the recorder's entry, and the owners of entries
  pub note : ℕ
  pub owner : ℕ → ℕ
  pub noted : owner note ≡ o.p.size
  -- in each world that the program comes to before its end a free task aborts nobody, and calls an entry of a task
  pub no_aborts : (w : World o.L) → IsComeTo o w → w.ended ≡ false → (t v : ℕ) → (w.tasks t).standing ≡ Live → aborts v (o.p.ops.offer (local_at w t)) ≡ false
  pub calls_tasks : (w : World o.L) → IsComeTo o w → w.ended ≡ false → (t e : ℕ) (i : ℤ) → (w.tasks t).standing ≡ Live → calls_in is_any_form e i (o.p.ops.offer (local_at w t)) ≡ true →
      IsOfTask o.p.size o.p.owner note owner e
  pub silent : IsSilent o.p.ops o.out
  -- TASKING_ERROR is raised in the accept body of a task in this state: nothing is asked of it
  pub pends : o.L → Bool
  pub lines : Lines

-- the recorder's number
abbrev pub recorder : {o : Original} → Setting o → ℕ
recorder {o} x = o.p.size

-- The copy of the program.
abbrev pub twin : {o : Original} → Setting o → Program (Copy o.L)
twin {o} x = record { ops = copy_ops o.p x.note x.pends x.lines; owner = x.owner; size = suc o.p.size }

-- what its tasks have written
abbrev pub out_of : {o : Original} → Setting o → Copy o.L → List ℕ
out_of {o} x = written o.out x.lines

-- The copy in its opening state.
abbrev pub start_copy : {o : Original} → Setting o → ℕ → Seat (Copy o.L)
start_copy {o} x t = if nat_lt t o.p.size then live (Based t (o.opening.seats t).local) else (if t == recorder x then live Opening else completed Opening)

abbrev pub opening_copy : {o : Original} → Setting o → State (ℕ → Seat (Copy o.L))
opening_copy {o} x = record { seats = start_copy x; line = []; ended = false }

-- ---- the states that tasks of the copy can come to

abbrev pub is_call : Offer → Bool
is_call Nothing = false
is_call (Calls form e i) = true
is_call (Waits choices) = false
is_call Finishes = false
is_call Ends = false
is_call (Aborts x) = false

-- who accepts waits for that, and the caller is in a proper state
abbrev pub IsProperDue : (o : Original) → Due o.L → o.L → Type 0
IsProperDue o (Begun c e i v) l = o.IsProper v × (waits_with (opens e i) (o.p.ops.offer l) ≡ true)
IsProperDue o TookElse l = Unit {0}
IsProperDue o (TookDelay k) l = Unit {0}
IsProperDue o TookOther l = Unit {0}
IsProperDue o Failed l = Unit {0}
IsProperDue o (Upset e i) l = Unit {0}

abbrev pub IsProperCopy : (o : Original) → Copy o.L → Type 0
IsProperCopy o (Based t l) = o.IsProper l
IsProperCopy o (Calling t l) = o.IsProper l × (is_call (o.p.ops.offer l) ≡ true)
IsProperCopy o (Owing t due l) = o.IsProper l × IsProperDue o due l
IsProperCopy o (Ending t l) = o.IsProper l × (o.p.ops.offer l ≡ Finishes)
IsProperCopy o (Leaving t l) = o.IsProper l × (o.p.ops.offer l ≡ Ends)
IsProperCopy o Opening = Unit {0}
IsProperCopy o (Recording b) = Unit {0}
IsProperCopy o (Writing c b note done left) = Unit {0}
IsProperCopy o (Noted c answer b) = Unit {0}

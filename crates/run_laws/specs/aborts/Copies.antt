-- What each task of a collecting program with abort statements does, told by what the original one does: the recorder, and tasks that tell it what they
-- are about to do or have done (this project's rule). A state of such a task is a state of the original one and how far it is.
use Rattle.std.specs.Prelude.{ℕ, ℤ, pos, Bool, true, false, ◌==◌, if◌then◌else◌, List, [], ◌∷◌, ◌++◌}
use Rattle.event_machine.specs.declared.CallForm.{CallForm}
use Rattle.event_machine.specs.declared.CallForm.TheVariants.{Plain, Conditional, Timed}
use Rattle.event_machine.specs.declared.Choice.TheVariants.{Accept, Terminate}
use Rattle.event_machine.specs.declared.Event.TheVariants.{B}
use Rattle.event_machine.specs.Offers.{Offer, Nothing, Calls, Waits, Finishes, Ends, Aborts}
use Rattle.event_machine.specs.States.{Ops}
use Rattle.event_machine.specs.Programs.{Program}
use Rattle.run_laws.specs.collecting.Notes.{Lines, text, pieces}
use Rattle.run_laws.specs.collecting.Copies.{telling, other_part}
use Rattle.run_laws.specs.aborts.Notes.{Note, BeforeCall, HasBegun, HasFinished, HasElse, HasDelay, HasCallElse, HasExpired, HasFailed, AtEnd, ToAbort, HasReturned, Book, empty_book, line_of, answer_of, recorded}

-- What a task is to tell.
pub data Due (L : Type 0) : Type 0 where
  -- it has accepted this caller, in this state, at the member i of the entry e
  Begun : ℕ → ℕ → ℤ → L → Due L
  -- it has taken the else part, or the k-th delay alternative, of its wait
  TookElse : Due L
  TookDelay : ℕ → Due L
  -- it has taken the other part of its call
  TookOther : Due L
  -- TASKING_ERROR has been raised at its call: nobody is there to accept it, or its acceptor was aborted
  Failed : Due L
  -- it is behind its call, whose acceptor was in this state
  Returned : L → Due L
  -- it is behind its rendezvous with this caller
  Over : ℕ → Due L

-- The states of the tasks of a collecting program.
pub data Copy (L : Type 0) : Type 0 where
  -- the task t where the original is in this state: it makes the original's local steps, and tells the recorder before a call, an abort and an end
  Based : ℕ → L → Copy L
  -- it has told that it is before its call
  Calling : ℕ → L → Copy L
  -- it is to tell what it has done: the state is the one before that
  Owing : ℕ → Due L → L → Copy L
  -- its rendezvous with this caller is refused: it ends it at once, and is at its wait again
  Refusing : ℕ → ℕ → L → Copy L
  -- it has told that it is at its end
  Leaving : ℕ → L → Copy L
  -- the recorder before its header
  Opening : Copy L
  -- the recorder as it waits for a note
  Recording : Book → Copy L
  -- the recorder with the note of a task: it has written these pieces of the line, and these are left before the line's end
  Writing : ℕ → Book → Note → List ℕ → List (List ℕ) → Copy L
  -- the recorder with the note of a task that t is to abort v: it has written the line, and is to abort v
  Striking : ℕ → Book → ℕ → ℕ → Copy L
  -- the recorder at the end of its accept body, with the answer to the task
  Noted : ℕ → Bool → Book → Copy L

-- the state of the original task; of the recorder, another one
abbrev pub under : {L : Type 0} → L → Copy L → L
under other (Based t l) = l
under other (Calling t l) = l
under other (Owing t due l) = l
under other (Refusing t c l) = l
under other (Leaving t l) = l
under other Opening = other
under other (Recording b) = other
under other (Writing c b note done left) = other
under other (Striking c b t v) = other
under other (Noted c answer b) = other

-- What each task has written.
abbrev pub written : {L : Type 0} → (L → List ℕ) → Lines → Copy L → List ℕ
written out lines (Based t l) = out l
written out lines (Calling t l) = out l
written out lines (Owing t due l) = out l
written out lines (Refusing t c l) = out l
written out lines (Leaving t l) = out l
written out lines Opening = []
written out lines (Recording b) = text lines b.events
written out lines (Writing c b note done left) = text lines b.events ++ done
written out lines (Striking c b t v) = text lines (b.events ++ B t v ∷ [])
written out lines (Noted c answer b) = text lines b.events

-- What comes as the line of a note ends: where it is one of an abort the recorder is to abort, and keeps nothing of it before.
abbrev pub line_ends : {L : Type 0} → ℕ → Book → Note → Copy L
line_ends c b (BeforeCall d) = Noted c (answer_of b (BeforeCall d)) (recorded b (BeforeCall d))
line_ends c b (HasBegun d e i a) = Noted c (answer_of b (HasBegun d e i a)) (recorded b (HasBegun d e i a))
line_ends c b (HasFinished a d) = Noted c (answer_of b (HasFinished a d)) (recorded b (HasFinished a d))
line_ends c b (HasElse a) = Noted c (answer_of b (HasElse a)) (recorded b (HasElse a))
line_ends c b (HasDelay a k) = Noted c (answer_of b (HasDelay a k)) (recorded b (HasDelay a k))
line_ends c b (HasCallElse d e i o) = Noted c (answer_of b (HasCallElse d e i o)) (recorded b (HasCallElse d e i o))
line_ends c b (HasExpired d e i o) = Noted c (answer_of b (HasExpired d e i o)) (recorded b (HasExpired d e i o))
line_ends c b (HasFailed d e i) = Noted c (answer_of b (HasFailed d e i)) (recorded b (HasFailed d e i))
line_ends c b (AtEnd a) = Noted c (answer_of b (AtEnd a)) (recorded b (AtEnd a))
line_ends c b (ToAbort t v) = Striking c b t v
line_ends c b (HasReturned d) = Noted c (answer_of b (HasReturned d)) (recorded b (HasReturned d))

-- one more piece of the line, or its end
abbrev pub write_on : {L : Type 0} → ℕ → Book → Note → List ℕ → List (List ℕ) → Copy L
write_on c b n done [] = line_ends c b n
write_on c b n done (piece ∷ left) = Writing c b n (done ++ piece) left

-- what the task t offers where the original offers this: the main program, task 0, does not tell of its end
abbrev pub based_offer : ℕ → ℕ → Offer → Offer
based_offer note t Nothing = Nothing
based_offer note t (Calls form e i) = telling note
based_offer note t (Waits choices) = Waits choices
based_offer note t Finishes = Finishes
based_offer note t Ends = if t == 0 then Ends else telling note
based_offer note t (Aborts v) = telling note

-- the note of the task t where the original offers this
abbrev pub based_note : ℕ → Offer → Note
based_note t Nothing = BeforeCall t
based_note t (Calls form e i) = BeforeCall t
based_note t (Waits choices) = BeforeCall t
based_note t Finishes = BeforeCall t
based_note t Ends = AtEnd t
based_note t (Aborts v) = ToAbort t v

-- a note on the call that the original offers
abbrev pub call_note : ℕ → (CallForm → ℕ → ℤ → Note) → Offer → Note
call_note t make Nothing = BeforeCall t
call_note t make (Calls form e i) = make form e i
call_note t make (Waits choices) = BeforeCall t
call_note t make Finishes = BeforeCall t
call_note t make Ends = BeforeCall t
call_note t make (Aborts v) = BeforeCall t

-- a task at its call is to tell this
abbrev pub call_owes : {L : Type 0} → Due L → Copy L → Copy L
call_owes due (Based t l) = Based t l
call_owes due (Calling t l) = Owing t due l
call_owes due (Owing t other l) = Owing t other l
call_owes due (Refusing t c l) = Refusing t c l
call_owes due (Leaving t l) = Leaving t l
call_owes due Opening = Opening
call_owes due (Recording b) = Recording b
call_owes due (Writing c b n done left) = Writing c b n done left
call_owes due (Striking c b t v) = Striking c b t v
call_owes due (Noted c answer b) = Noted c answer b

-- a task at a wait is to tell the one, and at its call the other
abbrev pub wait_owes : {L : Type 0} → Due L → Due L → Copy L → Copy L
wait_owes due other (Based t l) = Owing t due l
wait_owes due other (Calling t l) = Owing t other l
wait_owes due other (Owing t third l) = Owing t third l
wait_owes due other (Refusing t c l) = Refusing t c l
wait_owes due other (Leaving t l) = Leaving t l
wait_owes due other Opening = Opening
wait_owes due other (Recording b) = Recording b
wait_owes due other (Writing c b n done left) = Writing c b n done left
wait_owes due other (Striking c b t v) = Striking c b t v
wait_owes due other (Noted c answer b) = Noted c answer b

-- the first caller; where there is none, the main program
abbrev pub first_caller : List ℕ → ℕ
first_caller [] = 0
first_caller (c ∷ callers) = c

-- The recorder has aborted the task, and keeps it in its book.
abbrev pub copy_passed : {L : Type 0} → Copy L → Copy L
copy_passed (Based t l) = Based t l
copy_passed (Calling t l) = Calling t l
copy_passed (Owing t due l) = Owing t due l
copy_passed (Refusing t c l) = Refusing t c l
copy_passed (Leaving t l) = Leaving t l
copy_passed Opening = Opening
copy_passed (Recording b) = Recording b
copy_passed (Writing c b n done left) = Writing c b n done left
copy_passed (Striking c b t v) = Noted c false (recorded b (ToAbort t v))
copy_passed (Noted c answer b) = Noted c answer b

module _ {L : Type 0} (p : Program L) where
  abbrev pub copy_steps : Copy L → Bool
  copy_steps (Based t l) = p.ops.can_step l
  copy_steps (Calling t l) = false
  copy_steps (Owing t due l) = false
  copy_steps (Refusing t c l) = false
  copy_steps (Leaving t l) = false
  copy_steps Opening = true
  copy_steps (Recording b) = false
  copy_steps (Writing c b n done left) = true
  copy_steps (Striking c b t v) = false
  copy_steps (Noted c answer b) = false

  abbrev pub copy_stepped : Copy L → Copy L
  copy_stepped (Based t l) = Based t (p.ops.stepped l)
  copy_stepped (Calling t l) = Calling t l
  copy_stepped (Owing t due l) = Owing t due l
  copy_stepped (Refusing t c l) = Refusing t c l
  copy_stepped (Leaving t l) = Leaving t l
  copy_stepped Opening = Recording empty_book
  copy_stepped (Recording b) = Recording b
  copy_stepped (Writing c b n done left) = write_on c b n done left
  copy_stepped (Striking c b t v) = Striking c b t v
  copy_stepped (Noted c answer b) = Noted c answer b

  -- the caller that a task has accepted and not told of is its first, and one behind whose rendezvous it is no more one
  abbrev pub due_callers : Due L → L → List ℕ
  due_callers (Begun c e i v) l = c ∷ p.ops.callers l
  due_callers TookElse l = p.ops.callers l
  due_callers (TookDelay k) l = p.ops.callers l
  due_callers TookOther l = p.ops.callers l
  due_callers Failed l = p.ops.callers l
  due_callers (Returned m) l = p.ops.callers l
  due_callers (Over c) l = p.ops.callers (p.ops.finished l)

  abbrev pub copy_callers : Copy L → List ℕ
  copy_callers (Based t l) = p.ops.callers l
  copy_callers (Calling t l) = p.ops.callers l
  copy_callers (Owing t due l) = due_callers due l
  copy_callers (Refusing t c l) = c ∷ p.ops.callers l
  copy_callers (Leaving t l) = p.ops.callers l
  copy_callers Opening = []
  copy_callers (Recording b) = []
  copy_callers (Writing c b n done left) = c ∷ []
  copy_callers (Striking c b t v) = c ∷ []
  copy_callers (Noted c answer b) = c ∷ []

  -- the note that it has taken the other part of its call, in this form
  abbrev pub other_note : ℕ → CallForm → ℕ → ℤ → Note
  other_note t Plain e i = BeforeCall t
  other_note t Conditional e i = HasCallElse t e i (p.owner e)
  other_note t Timed e i = HasExpired t e i (p.owner e)

  -- the task t that has told, where the original offers this
  abbrev pub told : ℕ → Offer → L → Copy L
  told t Nothing l = Based t l
  told t (Calls form e i) l = Calling t l
  told t (Waits choices) l = Based t l
  told t Finishes l = Based t l
  told t Ends l = Leaving t l
  told t (Aborts v) l = Based t (p.ops.passed l)

  -- the task t that has told what it has done, and been answered so
  abbrev pub done_by : ℕ → Bool → Due L → L → Copy L
  done_by t answer (Begun c e i v) l = if answer then Refusing t c l else Based t (p.ops.accepted e i c v l)
  done_by t answer TookElse l = Based t (p.ops.took_else l)
  done_by t answer (TookDelay k) l = Based t (p.ops.took_delay k l)
  done_by t answer TookOther l = Based t (if answer then p.ops.raised l else other_part p (p.ops.offer l) l)
  done_by t answer Failed l = Based t (p.ops.raised l)
  done_by t answer (Returned m) l = Based t (if answer then p.ops.raised l else p.ops.resumed m l)
  done_by t answer (Over c) l = Based t (p.ops.finished l)

  -- A task that has told, and been answered so.
  abbrev pub answered : Bool → Copy L → Copy L
  answered answer (Based t l) = told t (p.ops.offer l) l
  answered answer (Calling t l) = Calling t l
  answered answer (Owing t due l) = done_by t answer due l
  answered answer (Refusing t c l) = Refusing t c l
  answered answer (Leaving t l) = Leaving t l
  answered answer Opening = Opening
  answered answer (Recording b) = Recording b
  answered answer (Writing c b n done left) = Writing c b n done left
  answered answer (Striking c b t v) = Striking c b t v
  answered answer (Noted c a b) = Noted c a b

  abbrev pub copy_finished : Copy L → Copy L
  copy_finished (Based t l) = Owing t (Over (first_caller (p.ops.callers l))) l
  copy_finished (Calling t l) = Calling t l
  copy_finished (Owing t due l) = Owing t due l
  copy_finished (Refusing t c l) = Based t l
  copy_finished (Leaving t l) = Leaving t l
  copy_finished Opening = Opening
  copy_finished (Recording b) = Recording b
  copy_finished (Writing c b n done left) = Writing c b n done left
  copy_finished (Striking c b t v) = Striking c b t v
  copy_finished (Noted c answer b) = Recording b

  -- a task whose call's rendezvous has ended with an acceptor in this state
  abbrev pub copy_resumed : Copy L → Copy L → Copy L
  copy_resumed (Based t l) k = call_owes (Returned l) k
  copy_resumed (Calling t l) k = k
  copy_resumed (Owing t due l) k = k
  copy_resumed (Refusing t c l) k = k
  copy_resumed (Leaving t l) k = k
  copy_resumed Opening k = k
  copy_resumed (Recording b) k = k
  copy_resumed (Writing c b n done left) k = k
  copy_resumed (Striking c b t v) k = k
  copy_resumed (Noted c answer b) k = answered answer k

  -- ---- what hangs on the recorder's entry, on its lines, and on whether an exception is raised at the caller as a rendezvous ends

  abbrev pub copy_offer : ℕ → Copy L → Offer
  copy_offer note (Based t l) = based_offer note t (p.ops.offer l)
  copy_offer note (Calling t l) = p.ops.offer l
  copy_offer note (Owing t due l) = telling note
  copy_offer note (Refusing t c l) = Finishes
  copy_offer note (Leaving t l) = Ends
  copy_offer note Opening = Nothing
  copy_offer note (Recording b) = Waits (Accept note (pos 0) ∷ Terminate ∷ [])
  copy_offer note (Writing c b n done left) = Nothing
  copy_offer note (Striking c b t v) = Aborts v
  copy_offer note (Noted c answer b) = Finishes

  abbrev pub due_note : (L → Bool) → ℕ → Due L → Offer → Note
  due_note pends t (Begun c e i v) offer = HasBegun c e i t
  due_note pends t TookElse offer = HasElse t
  due_note pends t (TookDelay k) offer = HasDelay t k
  due_note pends t TookOther offer = call_note t (λ form e i. other_note t form e i) offer
  due_note pends t Failed offer = call_note t (λ form e i. HasFailed t e i) offer
  due_note pends t (Returned m) offer = if pends m then call_note t (λ form e i. HasFailed t e i) offer else HasReturned t
  due_note pends t (Over c) offer = HasFinished t c

  -- The note of a task that tells the recorder.
  abbrev pub note_of : (L → Bool) → Copy L → Note
  note_of pends (Based t l) = based_note t (p.ops.offer l)
  note_of pends (Calling t l) = BeforeCall t
  note_of pends (Owing t due l) = due_note pends t due (p.ops.offer l)
  note_of pends (Refusing t c l) = BeforeCall t
  note_of pends (Leaving t l) = BeforeCall t
  note_of pends Opening = BeforeCall 0
  note_of pends (Recording b) = BeforeCall 0
  note_of pends (Writing c b n done left) = BeforeCall 0
  note_of pends (Striking c b t v) = BeforeCall 0
  note_of pends (Noted c answer b) = BeforeCall 0

  -- A task has accepted the caller: an original one is to tell so, and the recorder hears the caller's note.
  abbrev pub copy_accepted : (L → Bool) → Lines → ℕ → ℤ → ℕ → Copy L → Copy L → Copy L
  copy_accepted pends lines e i c caller (Based t l) = Owing t (Begun c e i (under l caller)) l
  copy_accepted pends lines e i c caller (Calling t l) = Calling t l
  copy_accepted pends lines e i c caller (Owing t due l) = Owing t due l
  copy_accepted pends lines e i c caller (Refusing t d l) = Refusing t d l
  copy_accepted pends lines e i c caller (Leaving t l) = Leaving t l
  copy_accepted pends lines e i c caller Opening = Opening
  copy_accepted pends lines e i c caller (Recording b) = Writing c b (note_of pends caller) [] (pieces lines (line_of b (note_of pends caller)))
  copy_accepted pends lines e i c caller (Writing d b n done left) = Writing d b n done left
  copy_accepted pends lines e i c caller (Striking d b t v) = Striking d b t v
  copy_accepted pends lines e i c caller (Noted d answer b) = Noted d answer b

  -- What each task does. `note` is the recorder's entry, and `pends` says of an acceptor at the end of an accept body that an exception is then raised at
  -- the caller.
  abbrev pub copy_ops : ℕ → (L → Bool) → Lines → Ops (Copy L)
  copy_ops note pends lines = record {
    can_step = copy_steps;
    stepped = copy_stepped;
    offer = copy_offer note;
    callers = copy_callers;
    accepted = copy_accepted pends lines;
    finished = copy_finished;
    resumed = copy_resumed;
    raised = call_owes Failed;
    took_else = wait_owes TookElse TookOther;
    took_delay = λ k. wait_owes (TookDelay k) TookOther;
    passed = copy_passed;
    nobody = Opening;
  }

-- What each task of a collecting program does, told by what the original one does: the recorder, and tasks that tell it what they are about to do or
-- have done (this project's rule). A state of such a task is a state of the original one and how far it is.
use Rattle.std.specs.Prelude.{ℕ, ℤ, pos, Bool, true, false, ◌==◌, if◌then◌else◌, List, [], ◌∷◌, ◌++◌}
use Rattle.event_machine.specs.declared.CallForm.{CallForm}
use Rattle.event_machine.specs.declared.CallForm.TheVariants.{Plain, Conditional, Timed}
use Rattle.event_machine.specs.declared.Choice.TheVariants.{Accept, Terminate}
use Rattle.event_machine.specs.Offers.{Offer, Nothing, Calls, Waits, Finishes, Ends, Aborts}
use Rattle.event_machine.specs.States.{Ops}
use Rattle.event_machine.specs.Programs.{Program}
use Rattle.run_laws.specs.collecting.Notes.{Note, BeforeCall, HasBegun, AtFinish, HasElse, HasDelay, HasCallElse, HasExpired, HasFailed, AtEnd, Book, empty_book, line_of, answer_of, recorded, Lines, text, pieces}

-- What a task is to tell.
pub data Due (L : Type 0) : Type 0 where
  -- it has accepted this caller, in this state, at the member i of the entry e, and has told nobody
  Begun : ℕ → ℕ → ℤ → L → Due L
  -- it has taken the else part, or the k-th delay alternative, of its wait
  TookElse : Due L
  TookDelay : ℕ → Due L
  -- it has taken the other part of its call
  TookOther : Due L
  -- TASKING_ERROR has been raised at its call, since nobody is there to accept it
  Failed : Due L
  -- TASKING_ERROR has been raised at its call of the member i of e, by the accept body
  Upset : ℕ → ℤ → Due L

-- The states of the tasks of a collecting program.
pub data Copy (L : Type 0) : Type 0 where
  -- the task t where the original is in this state: it makes the original's local steps, and tells the recorder before a call and at an end
  Based : ℕ → L → Copy L
  -- it has told that it is before its call
  Calling : ℕ → L → Copy L
  -- it is to tell what it has done
  Owing : ℕ → Due L → L → Copy L
  -- it has told that it is at the end of an accept body
  Ending : ℕ → L → Copy L
  -- it has told that it is at its end
  Leaving : ℕ → L → Copy L
  -- the recorder before its header
  Opening : Copy L
  -- the recorder as it waits for a note
  Recording : Book → Copy L
  -- the recorder with the note of a task: it has written these pieces of the line, and these are left before the line's end
  Writing : ℕ → Book → Note → List ℕ → List (List ℕ) → Copy L
  -- the recorder at the end of its accept body, with the answer to the task
  Noted : ℕ → Bool → Book → Copy L

-- the caller that a task has accepted and not told of is its first
abbrev pub due_callers : {L : Type 0} → Due L → List ℕ → List ℕ
due_callers (Begun c e i v) callers = c ∷ callers
due_callers TookElse callers = callers
due_callers (TookDelay k) callers = callers
due_callers TookOther callers = callers
due_callers Failed callers = callers
due_callers (Upset e i) callers = callers

-- the state of the original task; of the recorder, another one
abbrev pub under : {L : Type 0} → L → Copy L → L
under other (Based t l) = l
under other (Calling t l) = l
under other (Owing t due l) = l
under other (Ending t l) = l
under other (Leaving t l) = l
under other Opening = other
under other (Recording b) = other
under other (Writing c b note done left) = other
under other (Noted c answer b) = other

-- What each task has written.
abbrev pub written : {L : Type 0} → (L → List ℕ) → Lines → Copy L → List ℕ
written out lines (Based t l) = out l
written out lines (Calling t l) = out l
written out lines (Owing t due l) = out l
written out lines (Ending t l) = out l
written out lines (Leaving t l) = out l
written out lines Opening = []
written out lines (Recording b) = text lines b.events
written out lines (Writing c b note done left) = text lines b.events ++ done
written out lines (Noted c answer b) = text lines b.events

-- the call with which a task tells the recorder, whose entry this is
abbrev pub telling : ℕ → Offer
telling note = Calls Plain note (pos 0)

-- one more piece of the line, or its end
abbrev pub write_on : {L : Type 0} → ℕ → Book → Note → List ℕ → List (List ℕ) → Copy L
write_on c b n done [] = Noted c (answer_of b n) (recorded b n)
write_on c b n done (piece ∷ left) = Writing c b n (done ++ piece) left

-- what the task t offers where the original offers this: the main program, task 0, does not tell of its end
abbrev pub based_offer : ℕ → ℕ → Offer → Offer
based_offer note t Nothing = Nothing
based_offer note t (Calls form e i) = telling note
based_offer note t (Waits choices) = Waits choices
based_offer note t Finishes = telling note
based_offer note t Ends = if t == 0 then Ends else telling note
based_offer note t (Aborts x) = Aborts x

-- the note of the task t where the original offers this
abbrev pub based_note : ℕ → Offer → Note
based_note t Nothing = BeforeCall t
based_note t (Calls form e i) = BeforeCall t
based_note t (Waits choices) = BeforeCall t
based_note t Finishes = AtFinish t
based_note t Ends = AtEnd t
based_note t (Aborts x) = BeforeCall t

-- a note on the call that the original offers
abbrev pub call_note : ℕ → (CallForm → ℕ → ℤ → Note) → Offer → Note
call_note t make Nothing = BeforeCall t
call_note t make (Calls form e i) = make form e i
call_note t make (Waits choices) = BeforeCall t
call_note t make Finishes = BeforeCall t
call_note t make Ends = BeforeCall t
call_note t make (Aborts x) = BeforeCall t

-- the task t has told that it is before a call or at an end
abbrev pub told : {L : Type 0} → ℕ → Offer → L → Copy L
told t Nothing l = Based t l
told t (Calls form e i) l = Calling t l
told t (Waits choices) l = Based t l
told t Finishes l = Ending t l
told t Ends l = Leaving t l
told t (Aborts x) l = Based t l

-- TASKING_ERROR comes from the accept body: the task is to tell of it
abbrev pub upset : {L : Type 0} → ℕ → Offer → L → Copy L
upset t Nothing l = Based t l
upset t (Calls form e i) l = Owing t (Upset e i) l
upset t (Waits choices) l = Based t l
upset t Finishes l = Based t l
upset t Ends l = Based t l
upset t (Aborts x) l = Based t l

-- a task at its call is to tell this
abbrev pub call_owes : {L : Type 0} → Due L → Copy L → Copy L
call_owes due (Based t l) = Based t l
call_owes due (Calling t l) = Owing t due l
call_owes due (Owing t other l) = Owing t other l
call_owes due (Ending t l) = Ending t l
call_owes due (Leaving t l) = Leaving t l
call_owes due Opening = Opening
call_owes due (Recording b) = Recording b
call_owes due (Writing c b n done left) = Writing c b n done left
call_owes due (Noted c answer b) = Noted c answer b

-- a task at a wait is to tell the one, and at its call the other
abbrev pub wait_owes : {L : Type 0} → Due L → Due L → Copy L → Copy L
wait_owes due other (Based t l) = Owing t due l
wait_owes due other (Calling t l) = Owing t other l
wait_owes due other (Owing t third l) = Owing t third l
wait_owes due other (Ending t l) = Ending t l
wait_owes due other (Leaving t l) = Leaving t l
wait_owes due other Opening = Opening
wait_owes due other (Recording b) = Recording b
wait_owes due other (Writing c b n done left) = Writing c b n done left
wait_owes due other (Noted c answer b) = Noted c answer b

module _ {L : Type 0} (p : Program L) where
  abbrev pub copy_steps : Copy L → Bool
  copy_steps (Based t l) = p.ops.can_step l
  copy_steps (Calling t l) = false
  copy_steps (Owing t due l) = false
  copy_steps (Ending t l) = false
  copy_steps (Leaving t l) = false
  copy_steps Opening = true
  copy_steps (Recording b) = false
  copy_steps (Writing c b n done left) = true
  copy_steps (Noted c answer b) = false

  abbrev pub copy_stepped : Copy L → Copy L
  copy_stepped (Based t l) = Based t (p.ops.stepped l)
  copy_stepped (Calling t l) = Calling t l
  copy_stepped (Owing t due l) = Owing t due l
  copy_stepped (Ending t l) = Ending t l
  copy_stepped (Leaving t l) = Leaving t l
  copy_stepped Opening = Recording empty_book
  copy_stepped (Recording b) = Recording b
  copy_stepped (Writing c b n done left) = write_on c b n done left
  copy_stepped (Noted c answer b) = Noted c answer b

  abbrev pub copy_callers : Copy L → List ℕ
  copy_callers (Based t l) = p.ops.callers l
  copy_callers (Calling t l) = p.ops.callers l
  copy_callers (Owing t due l) = due_callers due (p.ops.callers l)
  copy_callers (Ending t l) = p.ops.callers l
  copy_callers (Leaving t l) = p.ops.callers l
  copy_callers Opening = []
  copy_callers (Recording b) = []
  copy_callers (Writing c b n done left) = c ∷ []
  copy_callers (Noted c answer b) = c ∷ []

  -- the note that it has taken the other part of its call, in this form
  abbrev pub other_note : ℕ → CallForm → ℕ → ℤ → Note
  other_note t Plain e i = BeforeCall t
  other_note t Conditional e i = HasCallElse t e i (p.owner e)
  other_note t Timed e i = HasExpired t e i (p.owner e)

  abbrev pub due_note : ℕ → Due L → Offer → Note
  due_note t (Begun c e i v) offer = HasBegun c e i
  due_note t TookElse offer = HasElse t
  due_note t (TookDelay k) offer = HasDelay t k
  due_note t TookOther offer = call_note t (λ form e i. other_note t form e i) offer
  due_note t Failed offer = call_note t (λ form e i. HasFailed t e i) offer
  due_note t (Upset e i) offer = HasFailed t e i

  -- The note of a task that tells the recorder.
  abbrev pub note_of : Copy L → Note
  note_of (Based t l) = based_note t (p.ops.offer l)
  note_of (Calling t l) = BeforeCall t
  note_of (Owing t due l) = due_note t due (p.ops.offer l)
  note_of (Ending t l) = BeforeCall t
  note_of (Leaving t l) = BeforeCall t
  note_of Opening = BeforeCall 0
  note_of (Recording b) = BeforeCall 0
  note_of (Writing c b n done left) = BeforeCall 0
  note_of (Noted c answer b) = BeforeCall 0

  -- the other part of the call that the original offers, in its form
  abbrev pub other_in : CallForm → L → L
  other_in Plain l = l
  other_in Conditional l = p.ops.took_else l
  other_in Timed l = p.ops.took_delay 1 l

  abbrev pub other_part : Offer → L → L
  other_part Nothing l = l
  other_part (Calls form e i) l = other_in form l
  other_part (Waits choices) l = l
  other_part Finishes l = l
  other_part Ends l = l
  other_part (Aborts x) l = l

  -- what the original has done of which the task has told, and been answered so
  abbrev pub done_by : Bool → Due L → L → L
  done_by answer (Begun c e i v) l = p.ops.accepted e i c v l
  done_by answer TookElse l = p.ops.took_else l
  done_by answer (TookDelay k) l = p.ops.took_delay k l
  done_by answer TookOther l = if answer then p.ops.raised l else other_part (p.ops.offer l) l
  done_by answer Failed l = p.ops.raised l
  done_by answer (Upset e i) l = l

  -- A task that has told, and been answered so.
  abbrev pub answered : Bool → Copy L → Copy L
  answered answer (Based t l) = told t (p.ops.offer l) l
  answered answer (Calling t l) = Calling t l
  answered answer (Owing t due l) = Based t (done_by answer due l)
  answered answer (Ending t l) = Ending t l
  answered answer (Leaving t l) = Leaving t l
  answered answer Opening = Opening
  answered answer (Recording b) = Recording b
  answered answer (Writing c b n done left) = Writing c b n done left
  answered answer (Noted c a b) = Noted c a b

  abbrev pub copy_finished : Copy L → Copy L
  copy_finished (Based t l) = Based t l
  copy_finished (Calling t l) = Calling t l
  copy_finished (Owing t due l) = Owing t due l
  copy_finished (Ending t l) = Based t (p.ops.finished l)
  copy_finished (Leaving t l) = Leaving t l
  copy_finished Opening = Opening
  copy_finished (Recording b) = Recording b
  copy_finished (Writing c b n done left) = Writing c b n done left
  copy_finished (Noted c answer b) = Recording b

  abbrev pub copy_passed : Copy L → Copy L
  copy_passed (Based t l) = Based t (p.ops.passed l)
  copy_passed (Calling t l) = Calling t l
  copy_passed (Owing t due l) = Owing t due l
  copy_passed (Ending t l) = Ending t l
  copy_passed (Leaving t l) = Leaving t l
  copy_passed Opening = Opening
  copy_passed (Recording b) = Recording b
  copy_passed (Writing c b n done left) = Writing c b n done left
  copy_passed (Noted c answer b) = Noted c answer b

  -- ---- what hangs on the recorder's entry, on its lines, and on the exception that is raised in an accept body

  abbrev pub copy_offer : ℕ → Copy L → Offer
  copy_offer note (Based t l) = based_offer note t (p.ops.offer l)
  copy_offer note (Calling t l) = p.ops.offer l
  copy_offer note (Owing t due l) = telling note
  copy_offer note (Ending t l) = Finishes
  copy_offer note (Leaving t l) = Ends
  copy_offer note Opening = Nothing
  copy_offer note (Recording b) = Waits (Accept note (pos 0) ∷ Terminate ∷ [])
  copy_offer note (Writing c b n done left) = Nothing
  copy_offer note (Noted c answer b) = Finishes

  -- A task has accepted the caller: an original one is to tell so, and the recorder hears the caller's note.
  abbrev pub copy_accepted : Lines → ℕ → ℤ → ℕ → Copy L → Copy L → Copy L
  copy_accepted lines e i c caller (Based t l) = Owing t (Begun c e i (under l caller)) l
  copy_accepted lines e i c caller (Calling t l) = Calling t l
  copy_accepted lines e i c caller (Owing t due l) = Owing t due l
  copy_accepted lines e i c caller (Ending t l) = Ending t l
  copy_accepted lines e i c caller (Leaving t l) = Leaving t l
  copy_accepted lines e i c caller Opening = Opening
  copy_accepted lines e i c caller (Recording b) = Writing c b (note_of caller) [] (pieces lines (line_of b (note_of caller)))
  copy_accepted lines e i c caller (Writing d b n done left) = Writing d b n done left
  copy_accepted lines e i c caller (Noted d answer b) = Noted d answer b

  -- a task whose call's rendezvous with an original task, in this state, has ended
  abbrev pub returned : (L → Bool) → L → Copy L → Copy L
  returned pends acceptor (Based t l) = Based t l
  returned pends acceptor (Calling t l) = if pends acceptor then upset t (p.ops.offer l) (p.ops.resumed acceptor l) else Based t (p.ops.resumed acceptor l)
  returned pends acceptor (Owing t due l) = Owing t due l
  returned pends acceptor (Ending t l) = Ending t l
  returned pends acceptor (Leaving t l) = Leaving t l
  returned pends acceptor Opening = Opening
  returned pends acceptor (Recording b) = Recording b
  returned pends acceptor (Writing c b n done left) = Writing c b n done left
  returned pends acceptor (Noted c answer b) = Noted c answer b

  abbrev pub copy_resumed : (L → Bool) → Copy L → Copy L → Copy L
  copy_resumed pends (Based t l) k = k
  copy_resumed pends (Calling t l) k = k
  copy_resumed pends (Owing t due l) k = k
  copy_resumed pends (Ending t l) k = returned pends l k
  copy_resumed pends (Leaving t l) k = k
  copy_resumed pends Opening k = k
  copy_resumed pends (Recording b) k = k
  copy_resumed pends (Writing c b n done left) k = k
  copy_resumed pends (Noted c answer b) k = answered answer k

  -- What each task does. `note` is the recorder's entry, and `pends` says of an acceptor that TASKING_ERROR is raised in its accept body.
  abbrev pub copy_ops : ℕ → (L → Bool) → Lines → Ops (Copy L)
  copy_ops note pends lines = record {
    can_step = copy_steps;
    stepped = copy_stepped;
    offer = copy_offer note;
    callers = copy_callers;
    accepted = copy_accepted lines;
    finished = copy_finished;
    resumed = copy_resumed pends;
    raised = call_owes Failed;
    took_else = wait_owes TookElse TookOther;
    took_delay = λ k. wait_owes (TookDelay k) TookOther;
    passed = copy_passed;
    nobody = Opening;
  }

-- What each task of a rewritten program is to do: before each event it asks the controller for a permit, offers only what the permit is for, and
-- tells the controller when it is done (this project's rule). A state of such a task is a state of the original task and how far it is.
use Rattle.std.specs.Prelude.{◌≡◌, ◌<◌, ℕ, ℤ, pos, Bool, true, false, ◌==◌, if◌then◌else◌, suc, List, [], ◌∷◌}
use Rattle.event_machine.specs.declared.CallForm.TheVariants.{Plain, Conditional, Timed}
use Rattle.event_machine.specs.declared.Choice.TheVariants.{Accept, Else, Delay, Terminate}
use Rattle.event_machine.specs.Offers.{Offer, Nothing, Calls, Waits, Finishes, Ends, Aborts, calls_in, is_any_form}
use Rattle.event_machine.specs.States.{Ops}
use Rattle.event_machine.specs.Programs.{Program}
use Rattle.run_laws.specs.replaying.Permits.{Permit, ToMeet, ToFinish, ToElse, ToDelay, ToCallElse, ToExpire, ToFail, ToEnd, ToAbort, ToClose, Op, Go, Done, Join, Hold, wants}

-- What an entry of a rewritten program is.
pub data Sort : Type 0 where
  -- an entry of the original, and its double, which is never accepted
  AtOriginal : ℕ → Sort
  AtShadow : ℕ → Sort
  -- those of the controller
  AtGo : Sort
  AtDone : Sort
  AtHold : Sort
  -- one of a task that the controller calls to see it closed, and one that nobody calls
  AtJoin : ℕ → Sort
  AtNever : ℕ → Sort
  -- those of the idle task: one that is never accepted, one that nobody calls
  AtStop : Sort
  AtRest : Sort
  AtNothing : Sort

-- The numbers of the entries of a rewritten program.
pub record Spots : Type 0 where
  pub original : ℕ → ℕ
  pub shadow : ℕ → ℕ
  pub go : ℕ
  pub done : ℕ
  pub hold : ℕ
  pub join : ℕ → ℕ
  pub never : ℕ → ℕ
  pub stop : ℕ
  pub rest : ℕ
  pub sort : ℕ → Sort

-- No two entries have one number.
pub record IsNumbered (n : Spots) : Type 0 where
  pub original : (e : ℕ) → n.sort (n.original e) ≡ AtOriginal e
  pub shadow : (e : ℕ) → n.sort (n.shadow e) ≡ AtShadow e
  pub go : n.sort n.go ≡ AtGo
  pub done : n.sort n.done ≡ AtDone
  pub hold : n.sort n.hold ≡ AtHold
  pub join : (t : ℕ) → n.sort (n.join t) ≡ AtJoin t
  pub never : (t : ℕ) → n.sort (n.never t) ≡ AtNever t
  pub stop : n.sort n.stop ≡ AtStop
  pub rest : n.sort n.rest ≡ AtRest

-- The owners of the entries: behind the original tasks stand the controller and the idle task.
pub record HasOwners (owners : ℕ → ℕ) (size : ℕ) (n : Spots) (owner : ℕ → ℕ) : Type 0 where
  pub original : (e : ℕ) → owner (n.original e) ≡ owners e
  pub shadow : (e : ℕ) → owner (n.shadow e) ≡ owners e
  pub go : owner n.go ≡ size
  pub done : owner n.done ≡ size
  pub hold : owner n.hold ≡ size
  -- the entries of the original tasks: a program has no others
  pub join : (t : ℕ) → t < size → owner (n.join t) ≡ t
  pub never : (t : ℕ) → t < size → owner (n.never t) ≡ t
  pub stop : owner n.stop ≡ suc size
  pub rest : owner n.rest ≡ suc size

-- What a task offers that has a permit which it can use.
abbrev pub shows : Spots → ℕ → Permit → Offer → Offer
shows n t (ToMeet e i) offer = if calls_in is_any_form e i offer then Calls Plain (n.original e) i else Waits (Accept (n.original e) i ∷ [])
shows n t ToFinish offer = Finishes
shows n t ToElse offer = Waits (Accept (n.never t) (pos 0) ∷ Else ∷ [])
shows n t (ToDelay k) offer = Waits (Accept (n.never t) (pos 0) ∷ Delay k ∷ [])
shows n t (ToCallElse e i) offer = Calls Conditional (n.shadow e) i
shows n t (ToExpire e i) offer = Calls Timed (n.shadow e) i
shows n t (ToFail e i) offer = Calls Plain (n.shadow e) i
shows n t ToEnd offer = Ends
shows n t (ToAbort x) offer = Aborts x
shows n t ToClose offer = if t == 0 then Ends else Waits (Accept (n.never t) (pos 0) ∷ Terminate ∷ [])

-- What it offers with the permit: that, or a call that is never accepted.
abbrev pub held_offer : Spots → ℕ → Permit → Offer → Offer
held_offer n t permit offer = if wants t permit offer then shows n t permit offer else Calls Plain n.stop (pos 0)

-- The states of the tasks of a rewritten program.
pub data Copy (L : Type 0) : Type 0 where
  -- a task where the original is in this state: it makes the original's local steps, and then asks for a permit
  Based : ℕ → L → Copy L
  -- it has a permit
  Holding : ℕ → Permit → L → Copy L
  -- it has done what the permit was for, and says so
  Saying : ℕ → L → Copy L
  -- the controller, with the operations that are left
  Controlling : List Op → Copy L
  -- the controller in the accept body of an operation, with those left behind it
  Handing : Op → List Op → Copy L
  -- the idle task
  Idling : Copy L

module _ {L : Type 0} (nobody : L) where
  -- the state of the original task
  abbrev pub under : Copy L → L
  under (Based t l) = l
  under (Holding t permit l) = l
  under (Saying t l) = l
  under (Controlling ops) = nobody
  under (Handing op ops) = nobody
  under Idling = nobody

-- it is a state of an original task
abbrev pub is_own : {L : Type 0} → Copy L → Bool
is_own (Based t l) = true
is_own (Holding t permit l) = true
is_own (Saying t l) = true
is_own (Controlling ops) = false
is_own (Handing op ops) = false
is_own Idling = false

-- what it has written
abbrev pub written : {L : Type 0} → (L → List ℕ) → Copy L → List ℕ
written out (Based t l) = out l
written out (Holding t permit l) = out l
written out (Saying t l) = out l
written out (Controlling ops) = []
written out (Handing op ops) = []
written out Idling = []

-- What the controller offers before its next operation.
abbrev pub ops_offer : Spots → List Op → Offer
ops_offer n [] = Ends
ops_offer n (Go t permit ∷ ops) = Waits (Accept n.go (pos t) ∷ [])
ops_offer n (Done t ∷ ops) = Waits (Accept n.done (pos t) ∷ [])
ops_offer n (Join t ∷ ops) = Calls Plain (n.join t) (pos 0)
ops_offer n (Hold ∷ ops) = Waits (Accept n.hold (pos 0) ∷ [])

-- the caller in the accept body of an operation
abbrev pub op_callers : Op → List ℕ
op_callers (Go t permit) = t ∷ []
op_callers (Done t) = t ∷ []
op_callers (Join t) = []
op_callers Hold = []

-- the operations behind the first
abbrev pub behind : {A : Type 0} → List A → List A
behind [] = []
behind (x ∷ xs) = xs

-- the controller has accepted
abbrev pub handing : {L : Type 0} → List Op → Copy L
handing [] = Controlling []
handing (op ∷ ops) = Handing op ops

-- What each task of a rewritten program does, told by what the original one does.
module _ {L : Type 0} (ops : Ops L) (n : Spots) where
  abbrev pub copy_steps : Copy L → Bool
  copy_steps (Based t l) = ops.can_step l
  copy_steps (Holding t permit l) = false
  copy_steps (Saying t l) = false
  copy_steps (Controlling left) = false
  copy_steps (Handing op left) = false
  copy_steps Idling = false

  abbrev pub copy_stepped : Copy L → Copy L
  copy_stepped (Based t l) = Based t (ops.stepped l)
  copy_stepped (Holding t permit l) = Holding t permit l
  copy_stepped (Saying t l) = Saying t l
  copy_stepped (Controlling left) = Controlling left
  copy_stepped (Handing op left) = Handing op left
  copy_stepped Idling = Idling

  abbrev pub copy_offer : Copy L → Offer
  copy_offer (Based t l) = if ops.can_step l then Nothing else Calls Plain n.go (pos t)
  copy_offer (Holding t permit l) = held_offer n t permit (ops.offer l)
  copy_offer (Saying t l) = Calls Plain n.done (pos t)
  copy_offer (Controlling left) = ops_offer n left
  copy_offer (Handing op left) = Finishes
  copy_offer Idling = Waits (Accept n.rest (pos 0) ∷ Terminate ∷ [])

  abbrev pub copy_callers : Copy L → List ℕ
  copy_callers (Based t l) = ops.callers l
  copy_callers (Holding t permit l) = ops.callers l
  copy_callers (Saying t l) = ops.callers l
  copy_callers (Controlling left) = []
  copy_callers (Handing op left) = op_callers op
  copy_callers Idling = []

  -- an original task has accepted by its permit
  abbrev pub served_by_permit : Permit → ℕ → L → ℕ → L → Copy L
  served_by_permit (ToMeet e i) c caller t l = Saying t (ops.accepted e i c caller l)
  served_by_permit ToFinish c caller t l = Saying t l
  served_by_permit ToElse c caller t l = Saying t l
  served_by_permit (ToDelay k) c caller t l = Saying t l
  served_by_permit (ToCallElse e i) c caller t l = Saying t l
  served_by_permit (ToExpire e i) c caller t l = Saying t l
  served_by_permit (ToFail e i) c caller t l = Saying t l
  served_by_permit ToEnd c caller t l = Saying t l
  served_by_permit (ToAbort x) c caller t l = Saying t l
  served_by_permit ToClose c caller t l = Saying t l

  abbrev pub copy_accepted : ℕ → ℤ → ℕ → Copy L → Copy L → Copy L
  copy_accepted e i c caller (Based t l) = Based t l
  copy_accepted e i c caller (Holding t permit l) = served_by_permit permit c (under ops.nobody caller) t l
  copy_accepted e i c caller (Saying t l) = Saying t l
  copy_accepted e i c caller (Controlling left) = handing left
  copy_accepted e i c caller (Handing op left) = Handing op left
  copy_accepted e i c caller Idling = Idling

  abbrev pub copy_finished : Copy L → Copy L
  copy_finished (Based t l) = Based t l
  copy_finished (Holding t permit l) = Saying t (ops.finished l)
  copy_finished (Saying t l) = Saying t l
  copy_finished (Controlling left) = Controlling left
  copy_finished (Handing op left) = Controlling left
  copy_finished Idling = Idling

  -- what the controller's accept body gives
  abbrev pub permitted : Op → ℕ → L → Copy L
  permitted (Go u permit) t l = Holding t permit l
  permitted (Done u) t l = Based t l
  permitted (Join u) t l = Based t l
  permitted Hold t l = Based t l

  -- a task whose call's rendezvous with an original task has ended
  abbrev pub resumed_by : L → Copy L → Copy L
  resumed_by acceptor (Based t l) = Based t l
  resumed_by acceptor (Holding t permit l) = Based t (ops.resumed acceptor l)
  resumed_by acceptor (Saying t l) = Saying t l
  resumed_by acceptor (Controlling left) = Controlling left
  resumed_by acceptor (Handing op left) = Handing op left
  resumed_by acceptor Idling = Idling

  -- a task whose call's rendezvous with the controller has ended
  abbrev pub permitted_by : Op → Copy L → Copy L
  permitted_by op (Based t l) = permitted op t l
  permitted_by op (Holding t permit l) = Holding t permit l
  permitted_by op (Saying t l) = permitted op t l
  permitted_by op (Controlling left) = Controlling left
  permitted_by op (Handing other left) = Handing other left
  permitted_by op Idling = Idling

  abbrev pub copy_resumed : Copy L → Copy L → Copy L
  copy_resumed (Based u acceptor) k = resumed_by acceptor k
  copy_resumed (Holding u permit acceptor) k = resumed_by acceptor k
  copy_resumed (Saying u acceptor) k = resumed_by acceptor k
  copy_resumed (Controlling left) k = k
  copy_resumed (Handing op left) k = permitted_by op k
  copy_resumed Idling k = k

  -- TASKING_ERROR is raised at the call that the permit was for: a call that has failed is reported
  abbrev pub raised_by_permit : Permit → ℕ → L → Copy L
  raised_by_permit (ToMeet e i) t l = Based t (ops.raised l)
  raised_by_permit ToFinish t l = Saying t l
  raised_by_permit ToElse t l = Saying t l
  raised_by_permit (ToDelay k) t l = Saying t l
  raised_by_permit (ToCallElse e i) t l = Saying t l
  raised_by_permit (ToExpire e i) t l = Saying t l
  raised_by_permit (ToFail e i) t l = Saying t (ops.raised l)
  raised_by_permit ToEnd t l = Saying t l
  raised_by_permit (ToAbort x) t l = Saying t l
  raised_by_permit ToClose t l = Saying t l

  abbrev pub copy_raised : Copy L → Copy L
  copy_raised (Based t l) = Based t l
  copy_raised (Holding t permit l) = raised_by_permit permit t l
  copy_raised (Saying t l) = Saying t l
  copy_raised (Controlling left) = Controlling (behind left)
  copy_raised (Handing op left) = Handing op left
  copy_raised Idling = Idling

  -- an original task that holds a permit has acted
  abbrev pub copy_did : (L → L) → Copy L → Copy L
  copy_did f (Based t l) = Based t l
  copy_did f (Holding t permit l) = Saying t (f l)
  copy_did f (Saying t l) = Saying t l
  copy_did f (Controlling left) = Controlling left
  copy_did f (Handing op left) = Handing op left
  copy_did f Idling = Idling

  abbrev pub copy_ops : Ops (Copy L)
  copy_ops = record {
    can_step = copy_steps;
    stepped = copy_stepped;
    offer = copy_offer;
    callers = copy_callers;
    accepted = copy_accepted;
    finished = copy_finished;
    resumed = copy_resumed;
    raised = copy_raised;
    took_else = copy_did ops.took_else;
    took_delay = λ k. copy_did (ops.took_delay k);
    passed = copy_did ops.passed;
    nobody = Idling;
  }

-- The copy of a program, with these entries and owners: its tasks, the controller and the idle task.
abbrev pub copy_of : {L : Type 0} → Program L → Spots → (ℕ → ℕ) → Program (Copy L)
copy_of p n owner = record { ops = copy_ops p.ops n; owner = owner; size = suc (suc p.size) }

-- For which state of the law's copy a task of the collecting text with abort statements stands, beside a task of the normal form: before it tells, as it
-- tells, at its call, at the end of a refused rendezvous, or at its end (this project's rule).
use Rattle.std.specs.Prelude.{◌≡◌, ◌==◌, ℕ, ℤ, ◌+◌, ◌≤◌, Bool, true, false, List, [], ◌∷◌, Some, None, is_some}
use Rattle.event_machine.specs.declared.CallForm.{CallForm}
use Rattle.event_machine.specs.Offers.{Calls, Finishes, Ends, Aborts, calls_in, is_conditional, is_timed, waits_with, opens, is_else, is_delay}
use Rattle.ada_tree.specs.PlainStmt.{PStmt, SExit, SAccept, SWait, SIf, PStmts, stmt_then, absent}
use Rattle.ada_value.specs.declared.values.Value.TheVariants.{Truth}
use Rattle.ada_value.specs.Variables.{Variables}
use Rattle.task_model.specs.Frames.{Endless, Around, Block, Loop, PFrame, Control, control, callers_in}
use Rattle.task_model.specs.Tasks.{Task, rest_of, vars_of}
use Rattle.task_model.specs.TaskOps.{task_ops}
use Rattle.task_model.specs.Stands.{can_step, offer_of}
use Rattle.task_model.specs.Rendezvous.{accepted, finished, resumed, call_failed, took_else, took_delay, pending_of, finals_of}
use Rattle.task_laws.specs.statements.Blocks.{HasLeftBlocks}
use Rattle.task_laws.specs.translation.OldTexts.{only_names, OldStmt}
use Rattle.task_laws.specs.translation.Controls.{task_in, Alike, Under, frame}
use Rattle.table_law.specs.States.{Offers}
use Rattle.normal_model.specs.Making.{one}
use Rattle.normal_model.specs.Walk.{after_parts, parts_rewritten}
use Rattle.run_laws.specs.collecting.Copies.{telling}
use Rattle.collect_runs.specs.telling.Meetings.{ComesTo, is_null_next, HandOverAlike, HandBackAlike}
use Rattle.collect_model.specs.aborts.Places.{with_place}
use Rattle.collect_model.specs.aborts.AbortTeller.{AbortTeller}
use Rattle.collect_model.specs.aborts.AbortStmts.{abort_rewriter}
use Rattle.collect_model.specs.aborts.Noting.{over}
use Rattle.collect_model.specs.aborts.Serving.{is_not_refused, accept_told, service_watched}
use Rattle.collect_model.specs.aborts.Waiting.{wait_told, is_taken, branches}
use Rattle.run_laws.specs.aborts.Notes.{Note, BeforeCall, AtEnd, ToAbort}
use Rattle.run_laws.specs.aborts.Copies.{Due, Begun, TookElse, TookDelay, TookOther, Failed, Returned, Over, Copy, Based, Calling, Owing, Refusing, Leaving, Opening, Recording, Writing, Striking, Noted, based_offer, due_note, due_callers, done_by}
use Rattle.collect_runs.specs.aborts.recorder.Telling.{Tells}
use Rattle.collect_runs.specs.aborts.translation.Rows.{Telling}
use Rattle.collect_runs.specs.aborts.translation.Floors.{OpenPlace, innermost, ends_service, HasPlaces, KeepCallers}
use Rattle.collect_runs.specs.aborts.telling.Texts.{Texts, form, text, teller, unit_translation, program_of}
use Rattle.collect_runs.specs.aborts.telling.Forms.{ComesBack, Form}

-- an exception is pending at the end of the accept body: it is raised at the caller, and any is caught there
abbrev pub pends : Task → Bool
pends m = is_some (pending_of m)

-- ---- services

-- an accept or a selective wait
abbrev pub is_service : PStmt → Bool
is_service (SAccept a s) = true
is_service (SWait alts otherwise s) = true
is_service y = false

abbrev pub serves_next : PStmts → Bool
serves_next (stmt_then y rest) = is_service y
serves_next rest = false

-- Where the image of an accept or wait, whose parts are rewritten, waits: in its block in its loop, in front of these statements.
abbrev pub tried : AbortTeller → ℕ → PStmt → PStmts → Around → List PFrame → Variables → Control
tried x n (SAccept a s) r q o V =
    control (one (SAccept (accept_told x s n a) s)) (Block (ends_service x s n))
    (frame (one (SExit None (Some (is_not_refused x s n)) s))
    (Loop None Endless (stmt_then (service_watched x s n (SAccept (accept_told x s n a) s)) (one (SExit None (Some (is_not_refused x s n)) s))))
    ∷ frame (stmt_then (over x s n) r) q ∷ o) V
tried x n (SWait alts otherwise s) r q o V =
    control (one (wait_told x s n alts otherwise)) (Block (ends_service x s n))
    (frame (one (SExit None (Some (is_taken x s)) s)) (Loop None Endless (stmt_then (service_watched x s n (wait_told x s n alts otherwise)) (one (SExit None (Some (is_taken x s)) s))))
    ∷ frame (stmt_then (SIf (branches x s n alts otherwise 1) absent s) r) q ∷ o) V
tried x n y r q o V = control r q o V

-- The task is at an accept or wait, and its image waits at that.
pub data AtTry (x : Texts) (t : ℕ) (ps : List OpenPlace) : Task → Task → Type 0 where
  at_try : {q q' : Around} {o o' : List PFrame} {V W : Variables} (i : List ℤ) (w : List ℕ) (y : PStmt) (r r' : PStmts) (n : ℕ) → is_service y ≡ true → OldStmt (only_names x.programs) y →
      innermost ps ≤ n → after_parts (abort_rewriter (teller x t)) y (with_place n y) ≤ x.places t → Telling (only_names x.programs) (teller x t) (innermost ps) (x.places t) r r' →
      Under (unit_translation x t ps) q o V q' o' W →
      AtTry x t ps (task_in (form x) t i w (control (stmt_then y r) q o V))
      (task_in (text x) t i w (tried (teller x t) (n + 1) (parts_rewritten (abort_rewriter (teller x t)) y (with_place n y)) r' q' o' W))

module _ {x : Texts} (f : Form x) where
  -- ---- between synchronizing statements

  -- A task of the normal form and its image stand alike where these accept bodies are open, and the image too is at the end of no block. The image's
  -- variables say which callers are served.
  pub record ArePaired (t : ℕ) (ps : List OpenPlace) (σ κ : Task) : Type 0 where
    pub own : f.plainly.IsSo t σ
    pub alike : Alike (unit_translation x t ps) σ κ
    pub left : HasLeftBlocks κ
    pub places : HasPlaces (teller x t) (x.places t) (vars_of κ)
    pub keeps : KeepCallers (teller x t) (x.places t) (vars_of κ) ps

  -- How the image stands where it makes the task's local steps, or has nothing to do before it tells: beside the task, or, where that accepts, at its try.
  pub data StandAlike (t : ℕ) (ps : List OpenPlace) (σ κ : Task) : Type 0 where
    they_move : ArePaired t ps σ κ → can_step σ ≡ true → StandAlike t ps σ κ
    they_rest : ArePaired t ps σ κ → can_step σ ≡ false → serves_next (rest_of σ) ≡ false → is_null_next (rest_of κ) ≡ false → StandAlike t ps σ κ
    they_try : f.plainly.IsSo t σ → can_step σ ≡ false → AtTry x t ps σ κ → HasPlaces (teller x t) (x.places t) (vars_of κ) →
        KeepCallers (teller x t) (x.places t) (vars_of κ) ps → StandAlike t ps σ κ

  -- some accept bodies are open, and the task is one that is like this
  pub record IsPair (t : ℕ) (σ κ : Task) : Type 0 where
    pub opened : List OpenPlace
    pub like : Task
    pub is_like : f.IsLike t σ like
    pub paired : ArePaired t opened like κ

  -- So it is, and the image stands as it does where it is based.
  pub record IsBased (t : ℕ) (σ κ : Task) : Type 0 where
    pub opened : List OpenPlace
    pub like : Task
    pub is_like : f.IsLike t σ like
    pub stands : StandAlike t opened like κ

  -- ---- notes

  -- The image calls NOTE with these numbers, and once it has been answered it comes to where it is so.
  pub record IsNoting (note : Note) (IsSo : Bool → Task → Type 0) (κ : Task) : Type 0 where
    pub offers : Offers κ (telling x.note)
    pub tells : Tells κ note
    pub answered : (answer : Bool) (j : Task) → pending_of j ≡ None → finals_of j ≡ Truth answer ∷ [] → ComesTo (IsSo answer) (resumed j κ)

  -- The image is at the end of an accept body whose caller is refused, and as it has ended that it is at its wait again.
  pub record IsRefusing (t c : ℕ) (σ κ : Task) : Type 0 where
    pub output : κ.output ≡ σ.output
    pub offers : Offers κ Finishes
    pub callers : callers_in κ.control ≡ c ∷ callers_in σ.control
    pub tries_again : ComesTo (IsBased t σ) (finished κ)

  -- the image is where the law's copy is once it is answered
  abbrev pub IsBehind : Copy Task → Task → Type 0
  IsBehind (Based t σ) κ = IsBased t σ κ
  IsBehind (Calling t σ) κ = ⊥
  IsBehind (Owing t due σ) κ = ⊥
  IsBehind (Refusing t c σ) κ = IsRefusing t c σ κ
  IsBehind (Leaving t σ) κ = ⊥
  IsBehind Opening κ = ⊥
  IsBehind (Recording b) κ = ⊥
  IsBehind (Writing c b n done left) κ = ⊥
  IsBehind (Striking c b u v) κ = ⊥
  IsBehind (Noted c answer b) κ = ⊥

  -- The image is to tell what the task has done.
  pub record IsOwing (t : ℕ) (due : Due Task) (σ κ : Task) : Type 0 where
    pub output : κ.output ≡ σ.output
    pub callers : callers_in κ.control ≡ due_callers (program_of x) due σ
    pub notes : IsNoting (due_note (program_of x) pends t due (offer_of σ)) (λ answer. IsBehind (done_by (program_of x) t answer due σ)) κ

  -- ---- calls

  -- The image is at its call, of which it has told. Behind the call, or in the handler of any exception, it is to tell that it is back; nothing is copied
  -- that does not fit.
  pub record IsCalling (t : ℕ) (σ κ : Task) : Type 0 where
    pub output : κ.output ≡ σ.output
    pub offers : Offers κ (offer_of σ)
    pub callers : callers_in κ.control ≡ callers_in σ.control
    pub over : HandOverAlike f.plainly t σ κ
    pub returned : (m j : Task) → HandBackAlike f.plainly m j → ComesBack σ m → ComesTo (IsOwing t (Returned m) σ) (resumed j κ)
    pub took_else : (e : ℕ) (i : ℤ) → calls_in is_conditional e i (offer_of σ) ≡ true → ComesTo (IsOwing t TookOther σ) (took_else κ)
    pub expired : (e : ℕ) (i : ℤ) → calls_in is_timed e i (offer_of σ) ≡ true → ComesTo (IsOwing t TookOther σ) (took_delay 1 κ)
    pub failed : ComesTo (IsOwing t Failed σ) (call_failed κ)

  -- The image is at its end, of which it has told.
  pub record IsLeaving (t : ℕ) (σ κ : Task) : Type 0 where
    pub output : κ.output ≡ σ.output
    pub offers : Offers κ Ends

  -- ---- where the task has no local step

  -- What the image does there: before a call, an abort and an end it tells; at a wait it waits; and the end of a rendezvous is its own too, of which it
  -- is to tell behind it. As it has accepted a caller, or taken another part, it comes to where it is to tell so.
  pub record ActsAlike (t : ℕ) (σ κ : Task) : Type 0 where
    pub offers : Offers κ (based_offer x.note t (offer_of σ))
    pub callers : callers_in κ.control ≡ callers_in σ.control
    pub at_call : (form : CallForm) (e : ℕ) (i : ℤ) → offer_of σ ≡ Calls form e i → IsNoting (BeforeCall t) (λ answer. IsCalling t σ) κ
    pub at_abort : (v : ℕ) → offer_of σ ≡ Aborts v → IsNoting (ToAbort t v) (λ answer. IsBased t (task_ops.passed σ)) κ
    pub at_end : offer_of σ ≡ Ends → (t == 0) ≡ false → IsNoting (AtEnd t) (λ answer. IsLeaving t σ) κ
    pub back : offer_of σ ≡ Finishes → HandBackAlike f.plainly σ κ
    pub over : offer_of σ ≡ Finishes → (c : ℕ) (outer : List ℕ) → callers_in σ.control ≡ c ∷ outer → ComesTo (IsOwing t (Over c) σ) (finished κ)
    pub accepted : (e : ℕ) (i : ℤ) → waits_with (opens e i) (offer_of σ) ≡ true → (c : ℕ) (v j : Task) → HandOverAlike f.plainly c v j → ComesTo (IsOwing t (Begun c e i v) σ) (accepted e i c j κ)
    pub took_else : waits_with is_else (offer_of σ) ≡ true → ComesTo (IsOwing t TookElse σ) (took_else κ)
    pub took_delay : (k : ℕ) → waits_with (is_delay k) (offer_of σ) ≡ true → ComesTo (IsOwing t (TookDelay k) σ) (took_delay k κ)

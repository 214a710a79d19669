-- The end of an accept body: the image offers it too, and then comes to where it tells that the rendezvous is over, behind its loop or, where an exception is
-- pending, in its handler.
use Rattle.std.proofs.Common.{true≢false, arith, ◌≡◌, ℕ, ℤ, pos, Bool, true, false, List, [], ◌∷◌, ◌++◌, Option, Some, None, refl, sym, ap, subst, ◌∙◌}
use Rattle.event_machine.specs.Offers.{Offer, Finishes}
use Rattle.ada_tree.specs.declared.naming.Span.{Span}
use Rattle.ada_tree.specs.PlainStmt.{SExit, PStmts, no_stmt, stmt_then}
use Rattle.ada_value.specs.declared.values.Value.TheVariants.{Number, Truth}
use Rattle.ada_value.specs.declared.values.Raised.{Raised}
use Rattle.ada_value.specs.Values.{integer_limits, truth_limits}
use Rattle.ada_value.specs.Variables.{Variables}
use Rattle.task_model.specs.Frames.{Endless, Around, Block, Handling, Loop, Opened, PFrame, control, caller_at, callers_among}
use Rattle.task_model.specs.Tasks.{Task, gone_to, raised_there}
use Rattle.task_model.specs.Rendezvous.{going_on, finished}
use Rattle.task_laws.specs.translation.Controls.{frame, task_in, on_floor}
use Rattle.normal_model.specs.Making.{one}
use Rattle.normal_laws.specs.runs.floors.Preludes.{IsCell, reaches_here, reaches_by}
use Rattle.normal_laws.proofs.runs.floors.Cells.{cell-kept}
use Rattle.replay_model.specs.Serving.{raise_again}
use Rattle.collect_runs.specs.telling.Meetings.{ComesTo}
use Rattle.collect_runs.proofs.telling.Noting.{here, later}
use Rattle.collect_model.specs.aborts.AbortTeller.{AbortTeller}
use Rattle.collect_model.specs.aborts.Noting.{over}
use Rattle.run_laws.specs.aborts.Copies.{Over}
use Rattle.collect_runs.specs.aborts.translation.Floors.{IsPlace, ArePlacesAdded, OpenPlace, innermost, ends_service, OpenAccept, formals_there, frames_outside, vars_there, BodyFloor, accept_body, HasPlaces, KeepCallers, keep_then}
use Rattle.collect_runs.specs.aborts.telling.Texts.{Texts, form, text, teller, unit_translation, CanTell}
use Rattle.collect_runs.specs.aborts.telling.Forms.{Form}
use Rattle.collect_runs.specs.aborts.telling.Meetings.{IsBased, IsOwing, ActsAlike}
use Rattle.collect_runs.proofs.aborts.telling.Noting.{hearing, going}
use Rattle.collect_runs.proofs.aborts.telling.Ending.{callers-alike, over-notes, hands-back}
use Rattle.collect_runs.proofs.aborts.telling.Moving.{added-there, row-comes, raise-comes}
use Rattle.collect_runs.proofs.aborts.telling.Placing.{MeanSame, mean-turned, callers-kept, places-kept, mean-front}
use Rattle.collect_runs.proofs.aborts.telling.Leaving.{finished-callers}
use Rattle.collect_runs.proofs.aborts.telling.Turning.{Stays, has-variables, stays-heard, leaves-loop}
use Rattle.replay_runs.proofs.controls.meanings.Ends.{formals-left}

module _ (x : Texts) (can : CanTell x) (f : Form x) (t : ℕ) (added : ArePlacesAdded x.programs (teller x t) (x.places t)) (i : List ℤ) (w : List ℕ) (p : OpenPlace) (ps : List OpenPlace)
    (a : OpenAccept (unit_translation x t ps) (teller x t) p) where
  abbrev X : AbortTeller
  X = teller x t

  abbrev callers_of : Around → List PFrame → List ℕ
  callers_of q o = caller_at q ++ callers_among o

  -- the task at the end of the accept body, and its image
  abbrev σ : Option Raised → Task
  σ pending = task_in (form x) t i w (control no_stmt (Opened p.caller a.formals pending) (frame a.row a.place ∷ a.outer) (a.objects ++ a.vars))

  abbrev κ : Option Raised → Task
  κ pending = task_in (text x) t i w (control no_stmt (Opened p.caller (formals_there a) pending) (frames_outside a) (vars_there a))

  -- where the image stands below the accept body, with these variables
  abbrev Below : Variables → Type 0
  Below U = Stays x can t added ps a.place a.outer a.vars a.place' a.outer' U

  mean-below : (upto : ℕ) → MeanSame x.programs (teller x t) (x.places t) upto (vars_there a) a.vars'
  mean-below upto = mean-turned x.programs X (x.places t) (mean-front x.programs X (x.places t) added a.own a.named a.are_open upto a.vars')

  below : HasPlaces (teller x t) (x.places t) (vars_there a) → KeepCallers (teller x t) (x.places t) (vars_there a) ps → Below a.vars'
  below places keeps = record {
    under = a.below;
    places = places-kept x.programs X (x.places t) (mean-below (x.places t)) places;
    keeps = callers-kept x.programs X (x.places t) ps (innermost ps) (omega arith) (mean-below (innermost ps)) keeps;
  }

  module _ (is : IsPlace (x.places t) p.place) (places : HasPlaces (teller x t) (x.places t) (vars_there a)) (keeps : KeepCallers (teller x t) (x.places t) (vars_there a) ps)
      (taken : IsCell (vars_there a) (x.main.taken p.place) integer_limits (Number (pos p.caller))) (refused : IsCell (vars_there a) (x.main.refused p.place) truth_limits (Truth false)) where
    taken-below : IsCell a.vars' (x.main.taken p.place) integer_limits (Number (pos p.caller))
    taken-below = cell-kept (vars_there a) a.vars' _ _ _ ((mean-below (x.places t)).taken p.place is is.1) taken

    refused-below : IsCell a.vars' (x.main.refused p.place) truth_limits (Truth false)
    refused-below = cell-kept (vars_there a) a.vars' _ _ _ ((mean-below (x.places t)).refused p.place is is.1) refused

    -- the task behind its accept, where it stands below the accept body with these variables
    abbrev after : Option Raised → Variables → Task
    after pending V = going_on pending (task_in (form x) t i w (control a.row a.place a.outer V))

    ends-so : (pending : Option Raised) → finished (σ pending) ≡ after pending a.vars
    ends-so pending = ap (λ V. after pending V) (formals-left a.are_open a.vars)

    is-after : (pending : Option Raised) → f.plainly.IsSo t (σ pending) → f.plainly.IsSo t (after pending a.vars)
    is-after pending own = subst (f.plainly.IsSo t) (ends-so pending) (f.plainly.stays t (σ pending) own).finished

    -- It tells that the rendezvous is over, and goes on behind it.
    owes : (pending : Option Raised) → f.plainly.IsSo t (σ pending) → (s : Span) (rest : PStmts) (q' : Around) (o' : List PFrame) (U : Variables) → Below U →
        callers_of q' o' ≡ callers_of a.place' a.outer' → IsCell U (x.main.taken p.place) integer_limits (Number (pos p.caller)) →
        ((b : Bool) → ComesTo (IsBased f t (after pending a.vars)) (going x can t i w rest q' o' (hearing x b U))) →
        IsOwing f t (Over p.caller) (σ pending) (task_in (text x) t i w (control (stmt_then (over (teller x t) s p.place) rest) q' o' U))
    owes pending own s rest q' o' U stays around cell comes = record {
      output = refl;
      callers = around ∙ callers-alike x t ps stays.under ∙ sym (finished-callers (form x) t i w a.row no_stmt a.place a.outer p.caller a.formals pending (a.objects ++ a.vars));
      notes =
          over-notes x can f t i w (f.plainly.fits t (σ pending) own) p.place p.caller a.caller_fits s rest q' o' U (has-variables x can t added ps stays) cell
          (λ b. IsBased f t (finished (σ pending)))
          (λ b. subst (λ ρ. ComesTo (IsBased f t ρ) (going x can t i w rest q' o' (hearing x b U))) (sym (ends-so pending)) (comes b));
    }

    -- without an exception, behind its loop
    goes-behind : f.plainly.IsSo t (σ None) → ComesTo (IsOwing f t (Over p.caller) (σ None)) (finished (κ None))
    goes-behind own =
        subst (λ U. ComesTo (IsOwing f t (Over p.caller) (σ None))
        (gone_to a.inner (task_in (text x) t i w
        (control no_stmt (Block (ends_service (teller x t) a.span p.place)) (frame (one (SExit None (Some a.test) a.span)) (Loop None Endless a.turn) ∷ frame a.after a.place' ∷ a.outer') U))))
        (sym (formals-left a.are_open a.vars'))
        (leaves-loop x can t added ps i w a.span p.place a.inner a.turn a.test a.after a.row' a.behind a.vars' (below places keeps) refused-below
        (λ z U stays mean. here _ (owes None own z a.row' a.place' a.outer' U stays refl (cell-kept a.vars' U _ _ _ (mean.taken p.place is is.1) taken-below)
        (λ b. let heard = stays-heard x can t added ps stays b in
        row-comes x can t f ps i w a.row a.row' a.row a.row' a.rows heard.under heard.places heard.keeps (is-after None own)))))

    -- with one, in its handler, which raises it again
    goes-raised : (e : Raised) → f.plainly.IsSo t (σ (Some e)) → ComesTo (IsOwing f t (Over p.caller) (σ (Some e))) (finished (κ (Some e)))
    goes-raised e own =
        subst (λ U. ComesTo (IsOwing f t (Over p.caller) (σ (Some e)))
        (raised_there e (task_in (text x) t i w
        (control a.inner (Block (ends_service (teller x t) a.span p.place)) (frame (one (SExit None (Some a.test) a.span)) (Loop None Endless a.turn) ∷ frame a.after a.place' ∷ a.outer') U))))
        (sym (formals-left a.are_open a.vars'))
        (here _ (owes (Some e) own a.span (one (raise_again a.span)) (Handling e) (frame (one (SExit None (Some a.test) a.span)) (Loop None Endless a.turn) ∷ frame a.after a.place' ∷ a.outer')
        a.vars' (below places keeps) refl taken-below
        (λ b. let heard = stays-heard x can t added ps (below places keeps) b in
        later (reaches_by _ _ refl refl (reaches_here _))
        (raise-comes x can t f ps e i w a.row a.after heard.under heard.places heard.keeps (is-after (Some e) own)))))

    goes-over : (pending : Option Raised) → f.plainly.IsSo t (σ pending) → ComesTo (IsOwing f t (Over p.caller) (σ pending)) (finished (κ pending))
    goes-over None own = goes-behind own
    goes-over (Some e) own = goes-raised e own

-- it is the end of an accept body
abbrev is_finish : Offer → Bool
is_finish Finishes = true
is_finish offer = false

-- the first of some callers
first-one : {c d : ℕ} {cs ds : List ℕ} → c ∷ cs ≡ d ∷ ds → c ≡ d
first-one e = ap (λ ns. head_or ns) e
  where
    head_or : List ℕ → ℕ
    head_or [] = 0
    head_or (n ∷ ns) = n

module _ (x : Texts) (can : CanTell x) (f : Form x) (t : ℕ) (i : List ℤ) (w : List ℕ) (p : OpenPlace) (ps : List OpenPlace) where
  -- So it acts at the end of an accept body.
  pub closes : {q q' : Around} {o o' : List PFrame} {V W : Variables} → BodyFloor (unit_translation x t ps) (teller x t) p q o V q' o' W →
      f.plainly.IsSo t (task_in (form x) t i w (control no_stmt q o V)) → HasPlaces (teller x t) (x.places t) W → KeepCallers (teller x t) (x.places t) W (p ∷ ps) →
      ActsAlike f t (task_in (form x) t i w (control no_stmt q o V)) (task_in (text x) t i w (control no_stmt q' o' W))
  closes (accept_body a pending) own places (keep_then p1 ps1 above fits taken refused more) = record {
    offers = record { rests = refl; offers = refl };
    callers = callers-alike x t (p ∷ ps) (on_floor (accept_body a pending));
    at_call = λ g e z h. absurd (true≢false (ap is_finish h));
    at_abort = λ v h. absurd (true≢false (ap is_finish h));
    at_end = λ h no. absurd (true≢false (ap is_finish h));
    back = λ h. hands-back x can f t i w p ps (accept_body a pending);
    over = λ h c outer e.
        subst (λ d. ComesTo (IsOwing f t (Over d) (task_in (form x) t i w (control no_stmt (Opened p.caller a.formals pending) (frame a.row a.place ∷ a.outer) (a.objects ++ a.vars))))
        (finished (task_in (text x) t i w (control no_stmt (Opened p.caller (formals_there a) pending) (frames_outside a) (vars_there a))))) (first-one e)
        (goes-over x can f t (added-there x can t f _ own) i w p ps a (omega (arith, above), fits) places more taken refused pending own);
    accepted = λ e z h c v j over. absurd (true≢false (sym h));
    took_else = λ h. absurd (true≢false (sym h));
    took_delay = λ k h. absurd (true≢false (sym h));
  }

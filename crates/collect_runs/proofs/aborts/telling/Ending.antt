-- Notes of the own task, ends of units, and ends of accept bodies: whose callers are served, and what is handed back.
use Rattle.std.proofs.Common.{◌≡◌, ℕ, ℤ, pos, Bool, List, [], ◌∷◌, Option, None, refl, ap}
use Rattle.ada_tree.specs.declared.naming.Span.{Span}
use Rattle.ada_tree.specs.PlainExpr.{EName}
use Rattle.ada_tree.specs.PlainStmt.{PStmts, no_stmt, stmt_then, PHandlers, no_handler}
use Rattle.ada_value.specs.declared.values.Value.{Value}
use Rattle.ada_value.specs.declared.values.Value.TheVariants.{Number}
use Rattle.ada_value.specs.declared.values.Raised.{Raised}
use Rattle.ada_value.specs.Values.{integer_limits}
use Rattle.ada_value.specs.Variables.{Variables}
use Rattle.task_model.specs.Frames.{Around, OwnBody, PFrame, control}
use Rattle.task_model.specs.Tasks.{Task}
use Rattle.task_laws.specs.translation.OldTexts.{only_names}
use Rattle.task_laws.specs.translation.Controls.{task_in, Under, on_floor, in_block, in_handler, in_endless, in_while, in_count}
use Rattle.normal_model.specs.Making.{one}
use Rattle.normal_laws.specs.runs.floors.NormalFloors.{no_floor}
use Rattle.normal_laws.specs.runs.floors.Preludes.{IsCell}
use Rattle.collect_model.specs.Noting.{at_finish, at_end, number, own_number, own_note}
use Rattle.collect_runs.specs.translation.Floors.{HasVariables, CollectFloor, main_body, plain_body, handled_body, taken_handler, accept_body as collect_body}
use Rattle.collect_runs.specs.telling.Texts.{IsInteger}
use Rattle.collect_runs.specs.telling.Meetings.{ComesTo, HandBackAlike}
use Rattle.collect_runs.proofs.telling.Noting.{here, literal, zero-told}
use Rattle.collect_runs.proofs.telling.Hearing.{cell-worth}
use Rattle.collect_model.specs.aborts.Noting.{over}
use Rattle.run_laws.specs.aborts.Notes.{Note, HasFinished, AtEnd}
use Rattle.collect_runs.specs.aborts.recorder.Telling.{member_of, spelled}
use Rattle.collect_runs.specs.aborts.translation.Rows.{telling_rows}
use Rattle.collect_runs.specs.aborts.translation.Floors.{OpenPlace, BodyFloor, accept_body, floor_at}
use Rattle.collect_runs.specs.aborts.telling.Texts.{Texts, form, text, teller, unit_translation, CanTell}
use Rattle.collect_runs.specs.aborts.telling.Forms.{Form}
use Rattle.collect_runs.specs.aborts.telling.Meetings.{IsNoting, IsLeaving}
use Rattle.collect_runs.proofs.aborts.telling.Noting.{hearing, going, notes}
use Rattle.collect_runs.proofs.telling.Ending.{callers_of}
use Rattle.replay_runs.proofs.controls.meanings.Ends.{finals-known, finals-same}

-- ---- callers

module _ (x : Texts) (t : ℕ) where
  unit-callers : {q q' : Around} {o o' : List PFrame} {V V' : Variables} →
      CollectFloor (telling_rows (only_names x.programs) (teller x t) 0 (x.places t)) (teller x t).teller no_floor q o V q' o' V' →
      callers_of q' o' ≡ callers_of q o
  unit-callers (main_body hs hs' handling V V' main im ext there) = refl
  unit-callers (plain_body s V V' task ext there) = refl
  unit-callers (handled_body s h h' hs hs' V V' task im ext there) = refl
  unit-callers (taken_handler s hs e V V' task ext there) = refl
  unit-callers (collect_body a) = absurd a.below

  under-callers : (ps : List OpenPlace) →
      ((q q' : Around) (o o' : List PFrame) (V V' : Variables) → floor_at (only_names x.programs) (teller x t) (x.places t) ps q o V q' o' V' → callers_of q' o' ≡ callers_of q o) →
      {q q' : Around} {o o' : List PFrame} {V V' : Variables} → Under (unit_translation x t ps) q o V q' o' V' → callers_of q' o' ≡ callers_of q o
  under-callers ps h (on_floor f) = h _ _ _ _ _ _ f
  under-callers ps h (in_block hs hs' r r' im im' v) = under-callers ps h v
  under-callers ps h (in_handler e r r' im v) = under-callers ps h v
  under-callers ps h (in_endless name l l' r r' im im' v) = under-callers ps h v
  under-callers ps h (in_while name e l l' r r' old im im' v) = under-callers ps h v
  under-callers ps h (in_count name backwards last l l' r r' b old known im im' v) = under-callers ps h v

  body-callers : (p : OpenPlace) (ps : List OpenPlace) →
      ((q q' : Around) (o o' : List PFrame) (V V' : Variables) → floor_at (only_names x.programs) (teller x t) (x.places t) ps q o V q' o' V' → callers_of q' o' ≡ callers_of q o) →
      {q q' : Around} {o o' : List PFrame} {V V' : Variables} → BodyFloor (unit_translation x t ps) (teller x t) p q o V q' o' V' → callers_of q' o' ≡ callers_of q o
  body-callers p ps h (accept_body a pending) = ap (λ cs. p.caller ∷ cs) (under-callers ps h a.below)

  floor-callers : (ps : List OpenPlace) (q q' : Around) (o o' : List PFrame) (V V' : Variables) →
      floor_at (only_names x.programs) (teller x t) (x.places t) ps q o V q' o' V' → callers_of q' o' ≡ callers_of q o
  floor-callers [] q q' o o' V V' f = unit-callers f
  floor-callers (p ∷ ps) q q' o o' V V' f = body-callers p ps (floor-callers ps) f

  -- The image serves the same callers.
  pub callers-alike : (ps : List OpenPlace) {q q' : Around} {o o' : List PFrame} {V V' : Variables} → Under (unit_translation x t ps) q o V q' o' V' → callers_of q' o' ≡ callers_of q o
  callers-alike ps v = under-callers ps (floor-callers ps) v

module _ (x : Texts) (can : CanTell x) (f : Form x) (t : ℕ) (i : List ℤ) (w : List ℕ) where
  -- ---- notes

  -- a note of the own task with a number
  pub own-notes : IsInteger t → (kind a : ℕ) → IsInteger kind → IsInteger a → (s : Span) (rest : PStmts) (q : Around) (o : List PFrame) (V : Variables) → HasVariables x.main.teller.added V →
      (said : Note) (IsSo : Bool → Task → Type 0) →
      ((v : Value) → spelled said 0 v ≡ record { kind = kind; subject = t; argument = a; index = v; owner = 0 }) → member_of said ≡ pos 0 →
      ((v : Bool) → ComesTo (IsSo v) (going x can t i w rest q o (hearing x v V))) →
      IsNoting f said IsSo (task_in (text x) t i w (control (stmt_then (own_note (teller x t).teller s kind a) rest) q o V))
  own-notes fits kind a small argued s rest q o V there said IsSo spells named comes =
      notes x can t V s kind (own_number (teller x t).teller s) (number s a) (number s 0) 0 t a (pos 0) small refl
      (record {
        subject = literal (text x).types V t s fits;
        subject_fits = fits;
        argument = literal (text x).types V a s argued;
        argument_fits = argued;
        index = zero-told (text x).types V s;
      })
      there i w rest q o f said 0 IsSo spells named comes

  -- the note that the rendezvous with the caller in the variable of a place is over
  pub over-notes : IsInteger t → (n c : ℕ) → IsInteger c → (s : Span) (rest : PStmts) (q : Around) (o : List PFrame) (V : Variables) → HasVariables x.main.teller.added V →
      IsCell V (x.main.taken n) integer_limits (Number (pos c)) → (IsSo : Bool → Task → Type 0) →
      ((v : Bool) → ComesTo (IsSo v) (going x can t i w rest q o (hearing x v V))) →
      IsNoting f (HasFinished t c) IsSo (task_in (text x) t i w (control (stmt_then (over (teller x t) s n) rest) q o V))
  over-notes fits n c caller s rest q o V there taken IsSo comes =
      notes x can t V s at_finish (own_number (teller x t).teller s) (EName (x.main.taken n) s) (number s 0) 0 t c (pos 0) refl refl
      (record {
        subject = literal (text x).types V t s fits;
        subject_fits = fits;
        argument = cell-worth (text x).types V (x.main.taken n) integer_limits (Number (pos c)) s taken;
        argument_fits = caller;
        index = zero-told (text x).types V s;
      })
      there i w rest q o f (HasFinished t c) 0 IsSo (λ v. refl) refl comes

  -- ---- ends

  -- behind the statements of a unit
  pub unit-tells : (s : Span) (hs : PHandlers) (taken : Option Raised) (V V' : Variables) → HasVariables x.main.teller.added V' →
      f.plainly.IsSo t (task_in (form x) t i w (control no_stmt (OwnBody hs taken) [] V)) →
      IsNoting f (AtEnd t) (λ v. IsLeaving f t (task_in (form x) t i w (control no_stmt (OwnBody hs taken) [] V)))
      (task_in (text x) t i w (control (one (own_note (teller x t).teller s at_end 0)) (OwnBody no_handler None) [] V'))
  unit-tells s hs taken V V' there is =
      own-notes (f.plainly.fits t _ is) at_end 0 refl refl s no_stmt (OwnBody no_handler None) [] V' there (AtEnd t) _ (λ v. refl) refl
      (λ v. here _ (record { output = refl; offers = record { rests = refl; offers = refl } }))

  -- at the end of an accept body both hand back the same
  pub hands-back : (p : OpenPlace) (ps : List OpenPlace) {q q' : Around} {o o' : List PFrame} {V W : Variables} → BodyFloor (unit_translation x t ps) (teller x t) p q o V q' o' W →
      HandBackAlike f.plainly (task_in (form x) t i w (control no_stmt q o V)) (task_in (text x) t i w (control no_stmt q' o' W))
  hands-back p ps (accept_body a pending) = record { pending = refl; finals = finals-same a.are_open a.vars' a.vars; known = finals-known a.are_open a.vars }

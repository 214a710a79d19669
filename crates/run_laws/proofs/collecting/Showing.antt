-- What is shown where the original is beside the copy: the outputs are those of the original, the recorder's is a record of its events, and some run of the
-- original's table has these events and comes to that world.
use Rattle.std.proofs.Common.{◌≡◌, ℕ, ◌<◌, Bool, true, false, not, List, [], ◌∷◌, ◌++◌, Option, Some, None, append-nil, refl, sym, ap, ◌∙◌, subst}
use Rattle.std.specs.List.{concat}
use Rattle.std.proofs.lemmas.Bool.{or_parts}
use Rattle.event_machine.specs.declared.CallForm.{CallForm}
use Rattle.event_machine.specs.declared.CallForm.TheVariants.{Plain, Conditional, Timed}
use Rattle.event_machine.specs.declared.Standing.TheVariants.{Served}
use Rattle.event_machine.specs.declared.Action.{Action}
use Rattle.event_machine.specs.declared.Event.{Event}
use Rattle.event_machine.specs.declared.Event.TheVariants.{Z}
use Rattle.event_machine.specs.Offers.{Offer, Nothing, Calls, Waits, Finishes, Ends, Aborts}
use Rattle.event_machine.specs.States.{Seat, live, completed}
use Rattle.event_machine.specs.Runs.{IsRun, end_of, events_of}
use Rattle.event_machine.specs.Programs.{Program, numbered}
use Rattle.event_machine.specs.Tallies.{HasNoEnd}
use Rattle.event_machine.specs.Laws.{IsLifted}
use Rattle.event_machine.specs.Worlds.{World, Move, Step, Happen, world_of, state_of, moved, happened, is_last, world_after}
use Rattle.event_machine.proofs.Basics.{both}
use Rattle.event_machine.proofs.Lifting.{lifting}
use Rattle.event_machine.proofs.Reaching.{start_still}
use Rattle.run_laws.specs.imitation.Imitations.{Original, start}
use Rattle.run_laws.specs.collecting.Notes.{Book, line_of, text, pieces}
use Rattle.run_laws.specs.collecting.Copies.{Due, Begun, TookElse, TookDelay, TookOther, Failed, Upset, Copy, Based, Calling, Owing, Leaving, Opening, Recording, Writing, Noted, told, other_in, other_part, done_by, answered}
use Rattle.run_laws.specs.collecting.Settings.{Setting, recorder, out_of}
use Rattle.run_laws.specs.collecting.inner.Beside.{IsReached, book_of, heard, OwnAt, OwnBased, OwnCalling, OwnOwing, OwnEnding, OwnLeaving, SeatAt, Free, Telling, Shared, Apart, Gone, RecorderAt, Inv}
use Rattle.run_laws.specs.collecting.Laws.{IsPart, IsRecord, Unwritten, Written}
use Rattle.run_laws.proofs.collecting.Reaching.{base, reach_event}

-- ---- the original's runs

-- who has not ended had not ended before, and the end of the program is none of the events between
ended_before : {L : Type 0} (p : Program L) (moves : List Move) (w : World L) → (world_after p w moves).ended ≡ false → w.ended ≡ false
ended_before p [] w h = h
ended_before p (Step t ∷ moves) w h = ended_before p moves (moved p w (Step t)) h
ended_before p (Happen e ∷ moves) w h = (or_parts (is_last e) w.ended (ended_before p moves (moved p w (Happen e)) h)).1

no_end_among : {L : Type 0} (p : Program L) (moves : List Move) (w : World L) → (world_after p w moves).ended ≡ false → HasNoEnd (happened moves)
no_end_among p [] w h = refl
no_end_among p (Step t ∷ moves) w h = no_end_among p moves (moved p w (Step t)) h
no_end_among p (Happen e ∷ moves) w h =
    both (ap not (or_parts (is_last e) w.ended (ended_before p moves (moved p w (Happen e)) h)).0) (no_end_among p moves (moved p w (Happen e)) h)

module _ (o : Original) where
  -- Some run of the original's table has these events and comes to this world.
  pub record RunsTo (events : List Event) (d : World o.L) : Type 0 where
    pub actions : List Action
    pub applies : IsRun (numbered o.p) o.opening actions
    pub has_events : events_of (numbered o.p) o.opening actions ≡ events
    pub world : world_of (end_of (numbered o.p) o.opening actions) ≡ d

  pub opening_is : state_of (start o) ≡ o.opening
  opening_is = λ i. record {
    seats = λ t. record { local = (o.opening.seats t).local; standing = start_still o.p o.IsProper o.lawful o.opening o.opens_so o.proper t i };
    line = sym o.opens_so.line i;
    ended = o.opening.ended;
  }

  pub run_to : (events : List Event) (d : World o.L) → IsReached o events d → RunsTo events d
  run_to events d r =
      let l : IsLifted o.p (start o) r.moves = lifting o.p (start o) r.moves (base o).still' r.made in
      record {
        actions = l.actions;
        applies = subst (λ s. IsRun (numbered o.p) s l.actions) opening_is l.applies;
        has_events = ap (λ s. events_of (numbered o.p) s l.actions) (sym opening_is) ∙ l.events ∙ r.happens;
        world = ap (λ s. world_of (end_of (numbered o.p) s l.actions)) (sym opening_is) ∙ l.world ∙ r.ends;
      }

  pub reached_no_end : (events : List Event) (d : World o.L) → IsReached o events d → d.ended ≡ false → HasNoEnd events
  reached_no_end events d r runs = subst HasNoEnd r.happens (no_end_among o.p r.moves (start o) (ap (λ (v : World o.L). v.ended) r.ends ∙ runs))

module _ {o : Original} (x : Setting o) where
  -- ---- outputs

  -- who tells writes nothing by it
  out_told : (t : ℕ) (offer : Offer) (l : o.L) → out_of x (told t offer l) ≡ o.out l
  out_told t Nothing l = refl
  out_told t (Calls form e i) l = refl
  out_told t (Waits choices) l = refl
  out_told t Finishes l = refl
  out_told t Ends l = refl
  out_told t (Aborts v) l = refl

  out_done : (answer : Bool) (due : Due o.L) (l : o.L) → o.out (done_by o.p answer due l) ≡ o.out l
  out_done answer (Begun c e i v) l = x.silent.accepted e i c v l
  out_done answer TookElse l = x.silent.took_else l
  out_done answer (TookDelay k) l = x.silent.took_delay k l
  out_done true TookOther l = x.silent.raised l
  out_done false TookOther l = go (o.p.ops.offer l)
    where
      form_part : (form : CallForm) → o.out (other_in o.p form l) ≡ o.out l
      form_part Plain = refl
      form_part Conditional = x.silent.took_else l
      form_part Timed = x.silent.took_delay 1 l

      go : (offer : Offer) → o.out (other_part o.p offer l) ≡ o.out l
      go (Calls form e i) = form_part form
      go offer = refl
  out_done answer Failed l = x.silent.raised l
  out_done answer (Upset e i) l = refl

  pub out_answered : (answer : Bool) (k : Copy o.L) → out_of x (answered o.p answer k) ≡ out_of x k
  out_answered answer (Based t l) = out_told t (o.p.ops.offer l) l
  out_answered answer (Owing t due l) = out_done answer due l
  out_answered answer k = refl

  out_heard : (r k : Copy o.L) → out_of x (heard x r k) ≡ out_of x k
  out_heard (Noted c answer b) k = out_answered answer k
  out_heard r k = refl

  module _ (past : List Event) (r : Copy o.L) (d : World o.L) (w : World (Copy o.L)) (inv : Inv x past r d w) where
    own_output : (t : ℕ) (k : Copy o.L) → OwnAt x (book_of r) w.tasks d.tasks t k → out_of x k ≡ o.out (d.tasks t).local
    own_output t k (OwnBased l q at) = ap (out_of x) q ∙ ap (λ (y : Seat o.L). o.out y.local) (sym at)
    own_output t k (OwnCalling l form e i q offer at met) = ap (out_of x) q ∙ ap (λ (y : Seat o.L). o.out y.local) (sym at)
    own_output t k (OwnOwing l due q at h) = ap (out_of x) q ∙ ap (λ (y : Seat o.L). o.out y.local) (sym at)
    own_output t k (OwnEnding l v c outer q offer has at h together) = ap (out_of x) q ∙ sym (x.silent.finished l) ∙ ap (λ (y : Seat o.L). o.out y.local) (sym at)
    own_output t k (OwnLeaving l q offer other at) = ap (out_of x) q ∙ ap (λ (y : Seat o.L). o.out y.local) (sym at)

    -- Each task has written what the original's has.
    pub same_output : (t : ℕ) → t < o.p.size → out_of x (w.tasks t).local ≡ o.out (d.tasks t).local
    same_output t l = go (inv.seats t l)
      where
        at_state : (y : Seat (Copy o.L)) → w.tasks t ≡ y → out_of x (w.tasks t).local ≡ out_of x y.local
        at_state y at = ap (λ (z : Seat (Copy o.L)). out_of x z.local) at

        go : SeatAt x (book_of r) w.tasks d.tasks r t → out_of x (w.tasks t).local ≡ o.out (d.tasks t).local
        go (Free k at own) = at_state (live k) at ∙ own_output t k own
        go (Telling k at hears own was) = at_state (record { local = k; standing = Served (recorder x) false }) at ∙ sym (out_heard r k) ∙ own_output t (heard x r k) own
        go (Shared a v m at here met) = at_state (record { local = Calling t v; standing = Served a false }) at ∙ ap (λ (y : Seat o.L). o.out y.local) (sym here)
        go (Apart a v m at free outs same) = at_state (record { local = Calling t v; standing = Served a false }) at ∙ sym outs
        go (Gone v at here) = at_state (completed (Leaving t v)) at ∙ ap (λ (y : Seat o.L). o.out y.local) (sym here)

    -- ---- the record

    no_part : (part rest : List ℕ) → part ++ rest ≡ [] → part ≡ []
    no_part [] rest h = refl
    no_part (y ∷ part) rest h = absurd (let q : ◌≡◌ {A = List ℕ} (y ∷ (part ++ rest)) [] = h in cc)

    nothing_part : IsPart x.lines []
    nothing_part = (Z, concat (x.lines.front Z), refl)

    part_of : (line : Option Event) (part : List ℕ) (left : List (List ℕ)) → part ++ concat left ≡ concat (pieces x.lines line) → IsPart x.lines part
    part_of None part left h = subst (IsPart x.lines) (sym (no_part part (concat left) h)) nothing_part
    part_of (Some e) part left h = (e, concat left, h)

    whole : (b : Book) → b.events ≡ past → IsRecord x.lines (text x.lines b.events) past
    whole b q = Written [] (ap (text x.lines) q ∙ sym (append-nil (text x.lines past))) nothing_part

    -- What the recorder has written is a record of the events.
    pub is_record : IsRecord x.lines (out_of x (w.tasks (recorder x)).local) past
    is_record = subst (λ bytes. IsRecord x.lines bytes past) (ap (λ (y : Seat (Copy o.L)). out_of x y.local) (sym inv.at)) (go r inv.records)
      where
        go : (k : Copy o.L) → RecorderAt x past w.tasks k → IsRecord x.lines (out_of x k) past
        go Opening h = Unwritten refl h
        go (Recording b) h = whole b h
        go (Writing c b note done left) h = Written done (ap (λ es. text x.lines es ++ done) h.0) (part_of (line_of b note) done left h.3)
        go (Noted c answer b) h = whole b h.0
        go k h = absurd h

    -- ---- the original's runs

    pub run_there : RunsTo o past d
    run_there = run_to o past d inv.reached

    pub end_there : w.ended ≡ true → RunsTo o (past ++ (Z ∷ [])) (moved o.p d (Happen Z))
    end_there h = run_to o (past ++ (Z ∷ [])) (moved o.p d (Happen Z)) (reach_event o past d Z inv.reached inv.runs (inv.ends h))

-- The progress by events knows what the law of replaying asks of one, for every program whose tasks keep the rules of tasks.
use Rattle.std.proofs.Common.{◌≡◌, ℕ, ◌<◌, ◌≤◌, true, false, not, ◌&&◌, if◌then◌else◌, List, [], ◌∷◌, refl, sym, ap, ◌∙◌, ⊎_elim}
use Rattle.std.specs.Prelude.{nat_lt}
use Rattle.std.proofs.lemmas.Bool.{and_parts, and_left, cases_lt, lt-ltb, le-ltb}
use Rattle.event_machine.specs.declared.Event.{Event}
use Rattle.event_machine.specs.declared.Event.TheVariants.{Z}
use Rattle.event_machine.specs.States.{Seat, State, is_live, is_closed, is_served}
use Rattle.event_machine.specs.Lawful.{IsLawful}
use Rattle.event_machine.specs.Programs.{Program, numbered, IsOpening}
use Rattle.event_machine.specs.Admitting.{IsAdmitted}
use Rattle.event_machine.specs.Soundness.{times}
use Rattle.event_machine.specs.Worlds.{World, Move, still, world_of, AreMoves, world_after, happened}
use Rattle.event_machine.proofs.Bases.{IsBase, base_leads}
use Rattle.event_machine.proofs.Reaching.{start_base}
use Rattle.event_machine.proofs.Walking.{follow_moves, follows_self}
use Rattle.event_machine.specs.progress.Known.{Party, Known, is_closed as known_closed, suits, admits, advanced, known_from, known as known_by}
use Rattle.event_machine.proofs.progress.Admitting.{suits_admitted}
use Rattle.event_machine.proofs.progress.Moves.{Knows}
use Rattle.event_machine.proofs.progress.Runs.{knows_after, completed_after, happens_admitted}
use Rattle.run_laws.specs.replaying.Scripts.{known, is_other, IsProgress}
use Rattle.run_laws.specs.telling.ByEvents.{others, by_events}
use Rattle.run_laws.proofs.telling.Listing.{listed_once, open_live}
use Rattle.event_machine.proofs.Standings.{completed_closed}

-- what is known after the events is the same in both words
known_same : (owner : ℕ → ℕ) (n : ℕ) (k : Known) (events : List Event) → known (by_events owner n) k events ≡ known_from owner k events
known_same owner n k [] = refl
known_same owner n k (e ∷ events) = known_same owner n (advanced owner k e) events

module _ {L : Type 0} (p : Program L) (IsProper : L → Type 0) (lawful : IsLawful p.ops IsProper) (s : State (ℕ → Seat L)) (opening : IsOpening (numbered p) s)
    (proper : (t : ℕ) → t < p.size → IsProper (s.seats t).local) where
  base : IsBase p IsProper lawful (world_of s)
  base = start_base p IsProper lawful s opening proper

  module _ (moves : List Move) (made : AreMoves p (world_of s) moves) where
    abbrev there : World L
    there = world_after p (world_of s) moves

    abbrev after : Known
    after = known_by p.owner p.size (happened moves)

    knows : Knows p IsProper lawful after there
    knows = knows_after p IsProper lawful s opening proper moves made

    -- nobody waits or is queued
    stills : (t : ℕ) → still (there.tasks t).standing ≡ (there.tasks t).standing
    stills t =
        let (last, leads, follows) = follow_moves p IsProper lawful moves (world_of s) (world_of s) (λ u. 0) base.sound (follows_self p (world_of s)) made in
        ap still (follows.each t).standing ∙
        ((base_leads p IsProper lawful (happened moves) (world_of s) last leads base).still' t ∙ sym (follows.each t).standing)

    admitted_there : (e : Event) → admits p.owner after e ≡ true → IsAdmitted p.owner there.tasks e
    admitted_there e h = suits_admitted p IsProper lawful after there.tasks knows.sound knows.tells stills e (and_parts (not after.ended) (suits p.owner after e) h).1

    -- the live tasks from 1 up are those that are not closed
    other_is : (t : ℕ) → is_served (there.tasks t).standing ≡ false → is_other p there t ≡ (nat_lt 0 t && not (known_closed after t))
    other_is t h = ap (λ b. nat_lt 0 t && b) (⊎_elim within past (cases_lt t p.size) ∙ ap not (sym (ap (λ (y : Party). y.closed) (knows.tells t))))
      where
        within : t < p.size → (nat_lt t p.size && is_live (there.tasks t).standing) ≡ not (is_closed (there.tasks t).standing)
        within l = ap (λ b. b && is_live (there.tasks t).standing) (lt-ltb t p.size l) ∙ open_live (there.tasks t).standing (stills t) h

        past : p.size ≤ t → (nat_lt t p.size && is_live (there.tasks t).standing) ≡ not (is_closed (there.tasks t).standing)
        past l = and_left (nat_lt t p.size) (is_live (there.tasks t).standing) (le-ltb t p.size l) ∙
            sym (ap not (completed_closed (there.tasks t).standing (completed_after p IsProper lawful s opening proper moves made t l)))

    listed_there : admits p.owner after Z ≡ true → (t : ℕ) → times t (others after) ≡ (if is_other p there t then 1 else 0)
    listed_there h t = listed_once after t ∙ ap (λ b. if b then 1 else 0) (sym (other_is t (admitted_there Z h t)))

    same : known (by_events p.owner p.size) (by_events p.owner p.size).start (happened moves) ≡ after
    same = known_same p.owner p.size (by_events p.owner p.size).start (happened moves)

  pub knows_by_events : IsProgress p (world_of s) (by_events p.owner p.size)
  knows_by_events = record {
    admitted = λ moves e made runs h. admitted_there moves made e (ap (λ k. admits p.owner k e) (sym (same moves made)) ∙ h);
    complete = λ moves e made runs h. ap (λ k. admits p.owner k e) (same moves made) ∙ happens_admitted p IsProper lawful s opening proper moves made e runs h;
    others = λ moves made runs h t. ap (λ k. times t (others k)) (same moves made) ∙
        listed_there moves made (ap (λ k. admits p.owner k Z) (sym (same moves made)) ∙ h) t;
  }

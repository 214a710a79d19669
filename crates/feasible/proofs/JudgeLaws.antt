-- The laws of judges and verdicts.
use Rattle.std.proofs.Common.{◌≡◌, ◌⊎◌, inl, inr, Bool, true, false, not, ◌&&◌, List, [], ◌∷◌, ◌++◌, take, sym, refl, ap, ◌∙◌, subst, true≢false, ⊎_elim}
use Rattle.std.specs.List.{list_all}
use Rattle.event_machine.specs.declared.Event.{Event}
use Rattle.event_machine.specs.declared.Standing.{Standing}
use Rattle.event_machine.specs.declared.Standing.TheVariants.{Live, Waiting, Queued, Served, Completed, Killed}
use Rattle.event_machine.specs.States.{is_live}
use Rattle.event_machine.specs.Tallies.{HasNoEnd}
use Rattle.event_machine.specs.Worlds.{is_last}
use Rattle.task_machine.specs.declared.verdict.Verdict.TheVariants.{Feasible}
use Rattle.task_machine.specs.Judging.{VerdictIs}
use Rattle.task_machine.specs.Table.{seat_of}
use Rattle.task_machine.proofs.Deciding.{verdict_exists}
use Rattle.task_machine.proofs.Judged.{stands_unique}
use Rattle.task_machine.proofs.Verdicts.{verdict_empty}
use Rattle.feasible.specs.JudgeLaws.{is_away, AwayIsSettled, EachHasVerdict}
use Rattle.feasible.specs.Keeping.{NothingFollows}
use Rattle.feasible.proofs.Resting.{stands_here}

away_free : (z : Standing) → is_away z ≡ true → is_live z ≡ true → ⊥
away_free Live h k = true≢false (sym h)
away_free Waiting h k = true≢false (sym h)
away_free Queued h k = true≢false (sym h)
away_free (Served by abnormal) h k = true≢false (sym k)
away_free Completed h k = true≢false (sym k)
away_free Killed h k = true≢false (sym k)

pub away_settled : AwayIsSettled
away_settled setup events judge t s (z, stands, away) free =
    let same : (seat_of judge.tasks t).standing ≡ z = stands_unique setup judge.numbers (take judge.taken events) t (seat_of judge.tasks t).standing z (stands_here setup events judge s t) stands in
    absurd (away_free z away (ap is_live (sym same) ∙ free))

-- an empty list, or one with a last event and no end before it
last_apart : (events : List Event) → NothingFollows events → (events ≡ []) ⊎ ((front : List Event) × (e : Event) × HasNoEnd front × (events ≡ (front ++ e ∷ [])))
last_apart [] h = inl refl
last_apart (e ∷ events) (end, h) = ⊎_elim
    (λ (none : events ≡ []). inr ([], e, refl, ap (λ es. e ∷ es) none))
    (λ (k : (front : List Event) × (x : Event) × HasNoEnd front × (events ≡ (front ++ x ∷ []))). go k (is_last e) refl)
    (last_apart events h)
  where
    go : (k : (front : List Event) × (x : Event) × HasNoEnd front × (events ≡ (front ++ x ∷ []))) → (b : Bool) → is_last e ≡ b →
        ((e ∷ events) ≡ []) ⊎ ((front : List Event) × (x : Event) × HasNoEnd front × ((e ∷ events) ≡ (front ++ x ∷ [])))
    go k true is = inr ([], e, refl, ap (λ es. e ∷ es) (end is))
    go (front, x, more, split) false is = inr (e ∷ front, x, ap (λ b. not b && list_all (λ y. not (is_last y)) front) is ∙ more, ap (λ es. e ∷ es) split)

pub verdict_each : EachHasVerdict
verdict_each setup numbers bound events h = ⊎_elim
    (λ (none : events ≡ []). (Feasible, subst (λ es. VerdictIs setup numbers bound es Feasible) (sym none) (verdict_empty setup numbers bound)))
    (λ (k : (front : List Event) × (e : Event) × HasNoEnd front × (events ≡ (front ++ e ∷ []))).
    let (verdict, is) = verdict_exists setup numbers bound k.0 k.1 k.2 in (verdict, subst (λ es. VerdictIs setup numbers bound es verdict) (sym k.3) is))
    (last_apart events h)

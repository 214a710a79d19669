-- What a run leaves: each task as its base run on, at rest where the program has ended.
use Rattle.std.proofs.Common.{◌≡◌, ℕ, ◌<◌, Bool, true, false, not, ◌||◌, List, [], ◌∷◌, refl, sym, ap, ◌∙◌, subst, true≢false}
use Rattle.std.proofs.lemmas.Bool.{and_parts}
use Rattle.event_machine.specs.declared.Standing.TheVariants.{Live}
use Rattle.event_machine.specs.declared.Event.{Event}
use Rattle.event_machine.specs.States.{Seat, State}
use Rattle.event_machine.specs.Lawful.{IsLawful}
use Rattle.event_machine.specs.Programs.{Program, numbered, IsOpening}
use Rattle.event_machine.specs.Worlds.{World, Move, Step, Happen, still_seat, world_of, happens, acted, needs, is_last, moved, AreMoves, world_after}
use Rattle.event_machine.specs.Settling.{Leads, IsRunOn}
use Rattle.event_machine.specs.Tallies.{ComesTo, HasNoEnd}
use Rattle.event_machine.specs.Laws.{IsErased}
use Rattle.event_machine.proofs.Basics.{both}
use Rattle.event_machine.proofs.Erasing.{erasing}
use Rattle.event_machine.proofs.Following.{happens_rest}
use Rattle.event_machine.proofs.Walking.{follow_moves, follows_self}
use Rattle.event_machine.proofs.Reaching.{start_base}
use Rattle.syn_order.proofs.exchange.Swapping.{last_is}
use Rattle.common_lemmas.proofs.Numbers.{le_true, below_pred}
use Rattle.common_lemmas.proofs.Truth.{not_true}

module _ {L : Type 0} (p : Program L) where
  -- ---- the end of the program in a list

  ended_stays : (events : List Event) (w last : World L) → Leads p w events last → w.ended ≡ true → last.ended ≡ true
  ended_stays [] w last h q = ap (λ (v : World L). v.ended) (sym h) ∙ q
  ended_stays (e ∷ events) w last (next, f, h) q = absurd (true≢false (sym q ∙ f.runs))

  -- what leads to a world that has not ended has no end
  pub no_end : (events : List Event) (w last : World L) → Leads p w events last → last.ended ≡ false → HasNoEnd events
  no_end [] w last h q = refl
  no_end (e ∷ events) w last (next, f, h) q = both (go (is_last e) refl) (no_end events next last h q)
    where
      go : (b : Bool) → is_last e ≡ b → not b ≡ true
      go true r = absurd (true≢false (sym (ended_stays events next last h (ap (λ (v : World L). v.ended) f.becomes ∙ ap (λ b. b || w.ended) r)) ∙ q))
      go false r = refl

  module _ (IsProper : L → Type 0) (lawful : IsLawful p.ops IsProper) where
    -- ---- the end finds all free tasks at rest

    abbrev AtRest : World L → Type 0
    AtRest w = (t : ℕ) → t < p.size → (w.tasks t).standing ≡ Live → p.ops.can_step (w.tasks t).local ≡ false

    last_rests : (w : World L) (e : Event) → is_last e ≡ true → happens p w.tasks e ≡ true → AtRest (moved p w (Happen e))
    last_rests w e last h t l = subst (λ (g : ℕ → Seat L). (g t).standing ≡ Live → p.ops.can_step (g t).local ≡ false)
        (ap (λ d. acted (numbered p) w.tasks d) (sym (last_is e last)))
        (happens_rest p IsProper lawful e w.tasks h t (ap (λ d. needs p d t) (last_is e last) ∙ le_true t _ (below_pred _ t l)))

    ended_rests : (moves : List Move) (w : World L) → AreMoves p w moves → (w.ended ≡ true → AtRest w) → (world_after p w moves).ended ≡ true → AtRest (world_after p w moves)
    ended_rests [] w made rests q = rests q
    ended_rests (Step u ∷ moves) w made rests q = ended_rests moves (moved p w (Step u)) made.1
        (λ r. absurd (true≢false (sym r ∙ not_true w.ended (and_parts (not w.ended) _ made.0).0))) q
    ended_rests (Happen e ∷ moves) w made rests q = ended_rests moves (moved p w (Happen e)) made.1 (go (is_last e) refl) q
      where
        parts : (not w.ended ≡ true) × (happens p w.tasks e ≡ true)
        parts = and_parts (not w.ended) (happens p w.tasks e) made.0

        go : (b : Bool) → is_last e ≡ b → (b || w.ended) ≡ true → AtRest (moved p w (Happen e))
        go true r h = last_rests w e r parts.1
        go false r h = absurd (true≢false (sym h ∙ not_true w.ended parts.0))

    module _ (s : State (ℕ → Seat L)) (opening : IsOpening (numbered p) s) (proper : (t : ℕ) → t < p.size → IsProper (s.seats t).local) where
      abbrev start : World L
      start = world_of s

      -- What a run with these events leaves, over the bases to which they lead.
      pub record IsTrace (events : List Event) (tasks : ℕ → Seat L) (tally : ℕ → ℕ) : Type 0 where
        pub last : World L
        pub leads : Leads p start events last
        pub each : (t : ℕ) → IsRunOn p.ops (last.tasks t) (tally t) (still_seat (tasks t))
        pub rests : last.ended ≡ true → (t : ℕ) → t < p.size → (last.tasks t).standing ≡ Live → p.ops.can_step (tasks t).local ≡ false

      pub trace : (events : List Event) (tasks : ℕ → Seat L) (tally : ℕ → ℕ) → ComesTo (numbered p) s events tasks tally → IsTrace events tasks tally
      trace events tasks tally run =
          let er : IsErased p s run.actions = erasing p s run.actions run.applies in
          let (last, leads, follows) = follow_moves p IsProper lawful er.moves start start (λ t. 0) (start_base p IsProper lawful s opening proper).sound (follows_self p start) er.made in
          let same : (t : ℕ) → (world_after p start er.moves).tasks t ≡ still_seat (tasks t) = λ t. ap (λ (w : World L). w.tasks t) er.ends ∙ ap still_seat (run.leaves t) in
          record {
            last = last;
            leads = subst (λ es. Leads p start es last) (er.events ∙ run.has_events) leads;
            each = λ t. subst (IsRunOn p.ops (last.tasks t) (tally t)) (same t)
                (subst (λ n. IsRunOn p.ops (last.tasks t) n ((world_after p start er.moves).tasks t)) (ap (λ (c : ℕ → ℕ). c t) (er.counts (λ u. 0)) ∙ run.counts t) (follows.each t));
            rests = λ q t l free. ap (λ (x : Seat L). p.ops.can_step x.local) (sym (same t)) ∙
                ended_rests er.moves start er.made (λ r. absurd (true≢false (sym r ∙ opening.ended))) (follows.ended ∙ q) t l ((follows.each t).standing ∙ free);
          }

-- Runs of replay texts and of their programs, by name: what is promised of a replay text is so of them, and what is no replay text is refused.
use Rattle.std.specs.Prelude.{◌≡◌, false, refl, codes, List, [], ◌∷◌, ◌++◌, pos}
use Rattle.std.specs.Fmt.{digits}
use Rattle.common_lemmas.proofs.Lists.{first_same, rest_same}
use Rattle.event_machine.specs.declared.Action.{Action}
use Rattle.event_machine.specs.declared.Action.TheVariants.{Local, Arrive, Start, Finish, CallElse, Expire, Fail, Complete, End}
use Rattle.event_machine.specs.declared.Event.{Event}
use Rattle.event_machine.specs.declared.Event.TheVariants.{R, E, C, T, X, Z}
use Rattle.syn_event.specs.Origin.{back_of}
use Rattle.run_laws.specs.imitation.Shown.{end_from}
use Rattle.normal_laws.specs.runs.forms.Normalisable.{numbers_of}
use Rattle.replay_structure.specs.legal.Laws.{text_for}
use Rattle.replay_runs.specs.controls.replayed.Replaying.{output_after, Replays, starting}
use Rattle.progress_law.specs.rewritten.replay.Runs.{text, ShowsBy, GoesOnBy, EndsBy, HasParts}
use Rattle.progress_law.proofs.rewritten.replay.Named.{IsMadeIn, made_run, made_over, shows_by, goes_on_by, ends_whole, ends_held, has_parts}
use Rattle.progress_law.proofs.rewritten.replay.Rendezvous.{p1, p1_events, p1_early, p1_held}
use Rattle.progress_law.proofs.rewritten.replay.Calls.{calls, calls_events}

-- ---- a rendezvous, and the end of the program: R 0 1 0, E 1, X 1, Z

-- The program up to its first event.
abbrev p1_first : List Action
p1_first = Arrive 0 ∷ Arrive 1 ∷ Start 0 ∷ []

-- The program with the whole sequence.
abbrev p1_run : List Action
p1_run = Arrive 0 ∷ Arrive 1 ∷ Start 0 ∷ Finish 1 ∷ Complete 1 ∷ End ∷ []

-- The text up to where both parties have their permits for the first event.
abbrev p1_before : List Action
p1_before =
    Local 0 ∷ Arrive 0 ∷ Local 1 ∷ Arrive 1 ∷ Local 2 ∷ Local 2 ∷ Arrive 2 ∷ Start 0 ∷ Local 2 ∷ Local 2 ∷ Local 2 ∷ Finish 2 ∷ Local 0 ∷ Arrive 0 ∷
    Local 2 ∷ Local 2 ∷ Arrive 2 ∷ Start 1 ∷ Local 2 ∷ Local 2 ∷ Local 2 ∷ Finish 2 ∷ Local 1 ∷ Arrive 1 ∷ []

-- The same with that event.
abbrev p1_front : List Action
p1_front = p1_before ++ Start 0 ∷ []

-- From there to its end.
abbrev p1_more : List Action
p1_more =
    Arrive 1 ∷ Local 2 ∷ Local 2 ∷ Arrive 2 ∷ Start 1 ∷ Finish 2 ∷ Arrive 1 ∷ Local 2 ∷ Local 2 ∷ Arrive 2 ∷ Start 1 ∷ Local 2 ∷ Local 2 ∷ Local 2 ∷
    Finish 2 ∷ Local 1 ∷ Finish 1 ∷ Arrive 0 ∷ Arrive 1 ∷ Local 2 ∷ Local 2 ∷ Arrive 2 ∷ Start 1 ∷ Finish 2 ∷ Arrive 1 ∷ Local 2 ∷ Local 2 ∷
    Arrive 2 ∷ Start 1 ∷ Local 2 ∷ Local 2 ∷ Local 2 ∷ Finish 2 ∷ Local 1 ∷ Complete 1 ∷ Local 2 ∷ Local 2 ∷ Local 2 ∷ Local 2 ∷ Fail 2 ∷ Local 2 ∷
    Local 2 ∷ Local 2 ∷ Arrive 2 ∷ Start 0 ∷ Local 2 ∷ Local 2 ∷ Local 2 ∷ Finish 2 ∷ Local 2 ∷ Complete 2 ∷ Local 0 ∷ Arrive 3 ∷ End ∷ []

abbrev p1_whole : List Action
p1_whole = p1_front ++ p1_more

p1_first_made : IsMadeIn [] p1 p1_first
unfolding digits
p1_first_made = record { applies = refl; whole = refl }

p1_run_made : IsMadeIn [] p1 p1_run
unfolding digits
p1_run_made = record { applies = refl; whole = refl }

p1_front_made : IsMadeIn [] (text_for p1 p1_events) p1_front
unfolding digits
p1_front_made = record { applies = refl; whole = refl }

p1_whole_made : IsMadeIn [] (text_for p1 p1_events) p1_whole
unfolding digits
p1_whole_made = record { applies = refl; whole = refl }

-- The text shows the first event, goes on with the three others, and ends with all of them. Nobody writes anything.
p1_begins : ShowsBy p1 p1_events [] (R 0 1 (pos 0) ∷ []) p1_front p1_first
unfolding digits
p1_begins = shows_by p1 p1_events [] (R 0 1 (pos 0) ∷ []) p1_front p1_first ([] ∷ [] ∷ []) p1_front_made p1_first_made refl refl refl

p1_goes_on : GoesOnBy p1 p1_events [] p1_front p1_more (E 1 ∷ X 1 ∷ Z ∷ [])
unfolding digits
p1_goes_on = goes_on_by p1 p1_events [] p1_front p1_more (E 1 ∷ X 1 ∷ Z ∷ []) refl refl

p1_shows : ShowsBy p1 p1_events [] p1_events p1_whole p1_run
unfolding digits
p1_shows = shows_by p1 p1_events [] p1_events p1_whole p1_run ([] ∷ [] ∷ []) p1_whole_made p1_run_made refl refl refl

p1_ends : EndsBy p1 p1_events [] p1_events [] p1_whole p1_run
unfolding digits
p1_ends = ends_whole p1 p1_events [] p1_events p1_whole p1_run p1_shows p1_whole_made p1_run_made refl refl refl

p1_parts : HasParts p1 p1_events [] p1_front (E 1 ∷ X 1 ∷ Z ∷ []) p1_whole
p1_parts = has_parts p1 p1_events [] (R 0 1 (pos 0) ∷ []) (E 1 ∷ X 1 ∷ Z ∷ []) p1_events [] p1_front p1_more p1_whole p1_first p1_run
    p1_begins p1_goes_on p1_ends refl

-- ---- its second event cannot come next: R 0 1 0, X 1

-- The text from both permits until it can go on no more.
abbrev p1_held_more : List Action
p1_held_more = Start 0 ∷ Arrive 1 ∷ Local 2 ∷ Local 2 ∷ Arrive 2 ∷ Start 1 ∷ Finish 2 ∷ Arrive 1 ∷ Local 2 ∷ Arrive 2 ∷ Arrive 3 ∷ []

abbrev p1_held_whole : List Action
p1_held_whole = p1_before ++ p1_held_more

p1_nothing_made : IsMadeIn [] p1 []
unfolding digits
p1_nothing_made = record { applies = refl; whole = refl }

p1_held_before_made : IsMadeIn [] (text_for p1 p1_held) p1_before
unfolding digits
p1_held_before_made = record { applies = refl; whole = refl }

p1_held_made : IsMadeIn [] (text_for p1 p1_held) p1_held_whole
unfolding digits
p1_held_made = record { applies = refl; whole = refl }

-- The text has shown nothing, goes on with the first event, and waits.
p1_held_begins : ShowsBy p1 p1_held [] [] p1_before []
unfolding digits
p1_held_begins = shows_by p1 p1_held [] [] p1_before [] ([] ∷ [] ∷ []) p1_held_before_made p1_nothing_made refl refl refl

p1_held_goes_on : GoesOnBy p1 p1_held [] p1_before p1_held_more (R 0 1 (pos 0) ∷ [])
unfolding digits
p1_held_goes_on = goes_on_by p1 p1_held [] p1_before p1_held_more (R 0 1 (pos 0) ∷ []) refl refl

p1_held_shows : ShowsBy p1 p1_held [] (R 0 1 (pos 0) ∷ []) p1_held_whole p1_first
unfolding digits
p1_held_shows = shows_by p1 p1_held [] (R 0 1 (pos 0) ∷ []) p1_held_whole p1_first ([] ∷ [] ∷ []) p1_held_made p1_first_made refl refl refl

p1_held_ends : EndsBy p1 p1_held [] (R 0 1 (pos 0) ∷ []) (X 1 ∷ []) p1_held_whole p1_first
unfolding digits
p1_held_ends = ends_held p1 p1_held [] (R 0 1 (pos 0) ∷ []) p1_held_whole p1_first p1_held_shows p1_held_made p1_first_made refl refl (X 1) [] refl refl refl

p1_held_waits : (end_from (text p1 p1_held []) p1_held_whole).ended ≡ false
unfolding digits
p1_held_waits = refl

p1_held_parts : HasParts p1 p1_held [] p1_before (R 0 1 (pos 0) ∷ []) p1_held_whole
p1_held_parts = has_parts p1 p1_held [] [] (R 0 1 (pos 0) ∷ []) (R 0 1 (pos 0) ∷ []) (X 1 ∷ []) p1_before p1_held_more p1_held_whole [] p1_first
    p1_held_begins p1_held_goes_on p1_held_ends refl

-- ---- a conditional and a timed call, and output: C 2 1 1, T 2 2 0, X 2

-- The program with its first event alone.
abbrev calls_first : List Action
calls_first = CallElse 2 ∷ []

-- The program with the whole sequence.
abbrev calls_run : List Action
calls_run = CallElse 2 ∷ Local 0 ∷ Arrive 1 ∷ Local 2 ∷ Arrive 2 ∷ Expire 2 ∷ Local 2 ∷ Complete 2 ∷ []

-- The text up to where the caller has its permit for the first event.
abbrev calls_before : List Action
calls_before =
    Local 0 ∷ Local 0 ∷ Arrive 0 ∷ Local 1 ∷ Arrive 1 ∷ Local 2 ∷ Local 2 ∷ Local 2 ∷ Local 2 ∷ Arrive 2 ∷ Local 3 ∷ Local 3 ∷ Arrive 3 ∷ Start 2 ∷
    Local 3 ∷ Local 3 ∷ Local 3 ∷ Finish 3 ∷ Local 2 ∷ []

-- The same with that event.
abbrev calls_front : List Action
calls_front = calls_before ++ CallElse 2 ∷ []

-- From there until it can go on no more.
abbrev calls_more : List Action
calls_more =
    Arrive 2 ∷ Local 3 ∷ Local 3 ∷ Arrive 3 ∷ Start 2 ∷ Finish 3 ∷ Local 2 ∷ Arrive 2 ∷ Local 3 ∷ Local 3 ∷ Arrive 3 ∷ Start 2 ∷ Local 3 ∷ Local 3 ∷
    Local 3 ∷ Finish 3 ∷ Local 2 ∷ Arrive 2 ∷ Expire 2 ∷ Arrive 2 ∷ Local 3 ∷ Local 3 ∷ Arrive 3 ∷ Start 2 ∷ Finish 3 ∷ Local 2 ∷ Arrive 2 ∷ Local 3 ∷
    Local 3 ∷ Arrive 3 ∷ Start 2 ∷ Local 3 ∷ Local 3 ∷ Local 3 ∷ Finish 3 ∷ Local 2 ∷ Complete 2 ∷ Local 3 ∷ Local 3 ∷ Local 3 ∷ Local 3 ∷ Fail 3 ∷
    Local 3 ∷ Local 3 ∷ Arrive 3 ∷ Arrive 4 ∷ []

abbrev calls_whole : List Action
calls_whole = calls_front ++ calls_more

calls_first_made : IsMadeIn [] calls calls_first
unfolding digits
calls_first_made = record { applies = refl; whole = refl }

calls_run_made : IsMadeIn [] calls calls_run
unfolding digits
calls_run_made = record { applies = refl; whole = refl }

calls_front_made : IsMadeIn [] (text_for calls calls_events) calls_front
unfolding digits
calls_front_made = record { applies = refl; whole = refl }

calls_whole_made : IsMadeIn [] (text_for calls calls_events) calls_whole
unfolding digits
calls_whole_made = record { applies = refl; whole = refl }

-- The text shows the first event, goes on with the two others, and waits. The caller has written two lines.
calls_begins : ShowsBy calls calls_events [] (C 2 1 (pos 1) ∷ []) calls_front calls_first
unfolding digits
calls_begins = shows_by calls calls_events [] (C 2 1 (pos 1) ∷ []) calls_front calls_first ([] ∷ [] ∷ []) calls_front_made calls_first_made refl refl refl

calls_goes_on : GoesOnBy calls calls_events [] calls_front calls_more (T 2 2 (pos 0) ∷ X 2 ∷ [])
unfolding digits
calls_goes_on = goes_on_by calls calls_events [] calls_front calls_more (T 2 2 (pos 0) ∷ X 2 ∷ []) refl refl

calls_shows : ShowsBy calls calls_events [] calls_events calls_whole calls_run
unfolding digits
calls_shows = shows_by calls calls_events [] calls_events calls_whole calls_run ([] ∷ [] ∷ []) calls_whole_made calls_run_made refl refl refl

calls_ends : EndsBy calls calls_events [] calls_events [] calls_whole calls_run
unfolding digits
calls_ends = ends_whole calls calls_events [] calls_events calls_whole calls_run calls_shows calls_whole_made calls_run_made refl refl refl

calls_waits : (end_from (text calls calls_events []) calls_whole).ended ≡ false
unfolding digits
calls_waits = refl

calls_writes : output_after (text calls calls_events []) calls_whole 2 ≡ codes "ELSE" ++ 10 ∷ codes "LATE" ++ 10 ∷ []
unfolding digits
calls_writes = refl

calls_parts : HasParts calls calls_events [] calls_front (T 2 2 (pos 0) ∷ X 2 ∷ []) calls_whole
calls_parts = has_parts calls calls_events [] (C 2 1 (pos 1) ∷ []) (T 2 2 (pos 0) ∷ X 2 ∷ []) calls_events []
    calls_front calls_more calls_whole calls_first calls_run calls_begins calls_goes_on calls_ends refl

-- ---- its second event cannot come next, since the called task stands at another accept statement: C 2 1 1, R 2 2 0

abbrev calls_held : List Event
calls_held = C 2 1 (pos 1) ∷ R 2 2 (pos 0) ∷ []

-- The program with the first event, until it is quiet.
abbrev calls_held_run : List Action
calls_held_run = CallElse 2 ∷ Local 0 ∷ Arrive 1 ∷ Local 2 ∷ Arrive 2 ∷ []

-- The text from the first permit until it can go on no more.
abbrev calls_held_more : List Action
calls_held_more =
    CallElse 2 ∷ Arrive 2 ∷ Local 3 ∷ Local 3 ∷ Arrive 3 ∷ Start 2 ∷ Finish 3 ∷ Local 2 ∷ Arrive 2 ∷ Local 3 ∷ Local 3 ∷ Arrive 3 ∷ Start 2 ∷
    Local 3 ∷ Local 3 ∷ Local 3 ∷ Finish 3 ∷ Local 2 ∷ Arrive 2 ∷ Local 3 ∷ Local 3 ∷ Arrive 3 ∷ Start 1 ∷ Local 3 ∷ Local 3 ∷ Local 3 ∷ Finish 3 ∷
    Local 1 ∷ Arrive 1 ∷ Local 3 ∷ Local 3 ∷ Arrive 3 ∷ Arrive 4 ∷ []

abbrev calls_held_whole : List Action
calls_held_whole = calls_before ++ calls_held_more

calls_nothing_made : IsMadeIn [] calls []
unfolding digits
calls_nothing_made = record { applies = refl; whole = refl }

calls_held_run_made : IsMadeIn [] calls calls_held_run
unfolding digits
calls_held_run_made = record { applies = refl; whole = refl }

calls_held_before_made : IsMadeIn [] (text_for calls calls_held) calls_before
unfolding digits
calls_held_before_made = record { applies = refl; whole = refl }

calls_held_made : IsMadeIn [] (text_for calls calls_held) calls_held_whole
unfolding digits
calls_held_made = record { applies = refl; whole = refl }

-- The text has shown nothing, goes on with the first event, and waits. The caller has written the line behind that event.
calls_held_begins : ShowsBy calls calls_held [] [] calls_before []
unfolding digits
calls_held_begins = shows_by calls calls_held [] [] calls_before [] ([] ∷ [] ∷ []) calls_held_before_made calls_nothing_made refl refl refl

calls_held_goes_on : GoesOnBy calls calls_held [] calls_before calls_held_more (C 2 1 (pos 1) ∷ [])
unfolding digits
calls_held_goes_on = goes_on_by calls calls_held [] calls_before calls_held_more (C 2 1 (pos 1) ∷ []) refl refl

calls_held_shows : ShowsBy calls calls_held [] (C 2 1 (pos 1) ∷ []) calls_held_whole calls_held_run
unfolding digits
calls_held_shows = shows_by calls calls_held [] (C 2 1 (pos 1) ∷ []) calls_held_whole calls_held_run
    ([] ∷ [] ∷ []) calls_held_made calls_held_run_made refl refl refl

calls_held_ends : EndsBy calls calls_held [] (C 2 1 (pos 1) ∷ []) (R 2 2 (pos 0) ∷ []) calls_held_whole calls_held_run
unfolding digits
calls_held_ends = ends_held calls calls_held [] (C 2 1 (pos 1) ∷ []) calls_held_whole calls_held_run
    calls_held_shows calls_held_made calls_held_run_made refl refl (R 2 2 (pos 0)) [] refl refl refl

calls_held_waits : (end_from (text calls calls_held []) calls_held_whole).ended ≡ false
unfolding digits
calls_held_waits = refl

calls_held_writes : output_after (text calls calls_held []) calls_held_whole 2 ≡ codes "ELSE" ++ 10 ∷ []
unfolding digits
calls_held_writes = refl

calls_held_parts : HasParts calls calls_held [] calls_before (C 2 1 (pos 1) ∷ []) calls_held_whole
calls_held_parts = has_parts calls calls_held [] [] (C 2 1 (pos 1) ∷ []) (C 2 1 (pos 1) ∷ []) (R 2 2 (pos 0) ∷ [])
    calls_before calls_held_more calls_held_whole [] calls_held_run calls_held_begins calls_held_goes_on calls_held_ends refl

-- ---- what is refused

-- The program, which goes on with E 1.
abbrev p1_leaves : List Action
p1_leaves = Arrive 0 ∷ Arrive 1 ∷ Start 0 ∷ Finish 1 ∷ []

p1_leaves_made : IsMadeIn [] p1 p1_leaves
unfolding digits
p1_leaves_made = record { applies = refl; whole = refl }

-- So the program itself does not replay R 0 1 0, X 1.
p1_itself_refused : Replays p1_held (starting p1 []) (starting p1 []) (back_of (numbers_of p1)) → ⊥
unfolding digits
p1_itself_refused r = other (first_same (rest_same (r.shows p1_leaves (made_run [] p1 p1_leaves p1_leaves_made)).prefix))
  where
    other : E 1 ≡ X 1 → ⊥
    other e = let h : E 1 ≡ X 1 = e in cc

-- The program, which begins with R 2 1 1.
abbrev calls_leaves : List Action
calls_leaves = Arrive 1 ∷ Start 2 ∷ []

calls_leaves_made : IsMadeIn [] calls calls_leaves
unfolding digits
calls_leaves_made = record { applies = refl; whole = refl }

-- So the program itself does not replay C 2 1 1, T 2 2 0, X 2, which is feasible.
calls_itself_refused : Replays calls_events (starting calls []) (starting calls []) (back_of (numbers_of calls)) → ⊥
unfolding digits
calls_itself_refused r = other (first_same (r.shows calls_leaves (made_run [] calls calls_leaves calls_leaves_made)).prefix)
  where
    other : R 2 1 (pos 1) ≡ C 2 1 (pos 1) → ⊥
    other e = let h : R 2 1 (pos 1) ≡ C 2 1 (pos 1) = e in cc

-- The replay text of X 1, until it can go on no more: it has shown nothing.
abbrev p1_early_run : List Action
p1_early_run =
    Local 0 ∷ Arrive 0 ∷ Local 1 ∷ Arrive 1 ∷ Local 2 ∷ Local 2 ∷ Arrive 2 ∷ Start 1 ∷ Local 2 ∷ Local 2 ∷ Local 2 ∷ Finish 2 ∷ Local 1 ∷ Arrive 1 ∷
    Local 2 ∷ Local 2 ∷ Local 2 ∷ Local 2 ∷ Arrive 2 ∷ Arrive 3 ∷ []

p1_early_made : IsMadeIn [] (text_for p1 p1_early) p1_early_run
unfolding digits
p1_early_made = record { applies = refl; whole = refl }

-- So it does not replay R 0 1 0, E 1, X 1, Z, of which the first event is feasible.
p1_early_refused : Replays p1_events (starting p1 []) (starting (text_for p1 p1_early) []) (back_of (numbers_of (text_for p1 p1_early))) → ⊥
unfolding digits
p1_early_refused r =
    let q = text_for p1 p1_early in
    let h = r.ends p1_early_run (made_run [] q p1_early_run p1_early_made) (made_over [] q p1_early_run p1_early_made refl) in
    h.longest (R 0 1 (pos 0)) (E 1 ∷ X 1 ∷ Z ∷ []) h.prefix (p1_first, made_run [] p1 p1_first p1_first_made, refl)

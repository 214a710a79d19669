-- What a run of a collecting text records is a feasible sequence of the program.
use Rattle.std.proofs.Common.{◌≡◌, ℕ, ℤ, Bool, true, false, not, ◌||◌, List, [], ◌∷◌, ◌++◌, append-nil, refl, sym, ap, ◌∙◌, subst}
use Rattle.std.proofs.lemmas.Bool.{and_parts}
use Rattle.common_lemmas.proofs.Truth.{not_true}
use Rattle.event_machine.specs.declared.Action.{Action}
use Rattle.event_machine.specs.declared.Event.{Event}
use Rattle.event_machine.specs.declared.Event.TheVariants.{R, E, S, D, C, T, F, X, B, Z}
use Rattle.event_machine.specs.Programs.{numbered}
use Rattle.event_machine.specs.Runs.{Feasible}
use Rattle.event_machine.specs.Tallies.{HasNoEnd, tallies}
use Rattle.event_machine.proofs.Joining.{joined}
use Rattle.task_model.specs.Tasks.{Task}
use Rattle.task_model.specs.Machine.{rules_of}
use Rattle.event_machine.specs.Worlds.{is_last}
use Rattle.ada_tree.specs.PlainProgram.{PProgram}
use Rattle.seq_file.specs.Files.{is_end, NothingFollowsEnd}
use Rattle.seq_file.specs.Files as files
use Rattle.seq_file.proofs.Filing.{push-follows, push-ended}
use Rattle.run_laws.specs.imitation.Shown.{Opened, end_from}
use Rattle.run_laws.specs.collecting.Notes.{Lines}
use Rattle.run_laws.specs.collecting.Laws.{with_end}
use Rattle.normal_laws.specs.runs.forms.Normalisable.{numbers_of}
use Rattle.normal_laws.specs.existence.Laws.{IsLegalOriginal}
use Rattle.replay_runs.specs.controls.replayed.Replaying.{starting, output_after, IsOver}
use Rattle.collect_runs.specs.starts.Texts.{recorder_number}
use Rattle.collect_runs.specs.originals.Recording.{IsRunOfFirst, IsQuietRunOfFirst, Records, has_ended}
use Rattle.collect_runs.specs.originals.Laws.{lines_for}
use Rattle.collect_runs.specs.files.Sequences.{opening_with, IsShown, IsShownQuiet, IsRecordedIn}
use Rattle.collect_runs.specs.files.Laws.{RunsAreRecorded}
use Rattle.collect_runs.proofs.files.Texts.{records_make_files}

-- ---- the end stands last

end_is_last : (e : Event) → is_end e ≡ is_last e
end_is_last (R c n i) = refl
end_is_last (E a) = refl
end_is_last (S a) = refl
end_is_last (D a k) = refl
end_is_last (C c n i) = refl
end_is_last (T c n i) = refl
end_is_last (F c n i) = refl
end_is_last (X a) = refl
end_is_last (B t x) = refl
end_is_last Z = refl

none_ended : (events : List Event) → HasNoEnd events → files.has_ended events ≡ false
none_ended [] h = refl
none_ended (e ∷ events) h =
    let parts = and_parts (not (is_last e)) _ h in
    ap (λ b. b || files.has_ended events) (end_is_last e ∙ not_true (is_last e) parts.0) ∙ none_ended events parts.1

none_follows : (events : List Event) → HasNoEnd events → NothingFollowsEnd events
none_follows [] h = tt
none_follows (e ∷ events) h =
    let parts = and_parts (not (is_last e)) _ h in
    (λ is. absurd (let a = sym is ∙ end_is_last e ∙ not_true (is_last e) parts.0 in cc), none_follows events parts.1)

ends_by : (events : List Event) → HasNoEnd events → (ended : Bool) → files.has_ended (with_end events ended) ≡ ended
ends_by events h true = push-ended events Z (none_ended events h)
ends_by events h false = ap files.has_ended (append-nil events) ∙ none_ended events h

follows_by : (events : List Event) → HasNoEnd events → (ended : Bool) → NothingFollowsEnd (with_end events ended)
follows_by events h true = push-follows events Z (none_follows events h) (none_ended events h)
follows_by events h false = subst NothingFollowsEnd (sym (append-nil events)) (none_follows events h)

-- ---- what a run records

module _ {L K : Type 0} (lines : Lines) (one : Opened L) (other : Opened K) (recorder : ℕ) (actions : List Action) where
  abbrev outputs : ℕ → List ℕ
  outputs t = output_after other actions t

  is_shown : (events : List Event) → IsRunOfFirst lines one other recorder actions events → IsShown one outputs events
  is_shown events r = record { originals = r.originals; original = r.original; same = r.outputs }

  is_shown_quiet : (events : List Event) → IsQuietRunOfFirst lines one other recorder actions events → IsShownQuiet one outputs events
  is_shown_quiet events r = record { originals = r.originals; original = r.original; quiet = r.quiet; same = r.outputs }

  -- with the end where the run has ended
  shown_by : (r : Records lines one other recorder actions) (ended : Bool) → has_ended other actions ≡ ended → IsShown one outputs (with_end r.events ended)
  shown_by r true e = is_shown (r.events ++ Z ∷ []) (r.ended e)
  shown_by r false e = subst (λ es. IsShown one outputs es) (sym (append-nil r.events)) (is_shown r.events r.shown)

-- so it is of the tasks in a list
in_list : (p : PProgram) (inputs : List (List ℤ)) {outputs : ℕ → List ℕ} (events : List Event) → IsShown (starting p inputs) outputs events → Feasible (rules_of (numbers_of p)) (opening_with p inputs).state events
in_list p inputs events r =
    let it : Opened Task = starting p inputs in
    let run = (joined it.program (opening_with p inputs).state refl events (end_from it r.originals).seats (tallies (numbered it.program) it.at r.originals (λ t. 0))).1
    (record { actions = r.originals; applies = r.original.applies; has_events = r.original.has; leaves = λ t. refl; counts = λ t. refl }) in
    (run.actions, run.applies, run.has_events)

module _ (p q : PProgram) (legal : IsLegalOriginal p) (inputs others : List (List ℤ)) (actions : List Action) where
  abbrev ended : Bool
  ended = has_ended (starting q others) actions

  recorded_in : (r : Records (lines_for p) (starting p inputs) (starting q others) (recorder_number p) actions) →
      IsRecordedIn p inputs (λ t. output_after (starting q others) actions t) ended (IsOver (starting q others) actions) (with_end r.events ended)
  recorded_in r =
      let shown = shown_by (lines_for p) (starting p inputs) (starting q others) (recorder_number p) actions r ended refl in
      record {
        feasible = in_list p inputs (with_end r.events ended) shown;
        shown = shown;
        quiet = λ over. is_shown_quiet (lines_for p) (starting p inputs) (starting q others) (recorder_number p) actions (with_end r.events ended) (r.quiet over);
        ends = ends_by r.events r.no_end ended;
        end = follows_by r.events r.no_end ended;
        text = λ ls rest cut. records_make_files p legal (output_after (starting q others) actions (recorder_number p)) r.events r.is_record ls rest cut ended;
      }

pub runs_are_recorded : RunsAreRecorded
runs_are_recorded p q legal collects inputs others agree actions run =
    let r = (collects inputs others agree).records actions run in
    (with_end r.events (has_ended (starting q others) actions), recorded_in p q legal inputs others actions r)

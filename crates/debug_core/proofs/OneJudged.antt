-- The lines of a sequence call for one outcome.
use Rattle.std.proofs.Common.{◌≡◌, ◌-◌, ℕ, Bool, true, false, cond, List, [], ◌∷◌, length, take, Option, Some, None, inl, inr, refl, sym, ap, subst, ◌∙◌}
use Rattle.std.specs.Prelude.{All, IfSome, ◌==◌, codes}
use Rattle.std.proofs.lemmas.List.Elements.{All-nil, All-cons, All-head, All-tail}
use Rattle.ada_tree.specs.WellPlaced.{IsWellPlaced}
use Rattle.ded_io.specs.Written.{◌⧺◌}
use Rattle.event_machine.specs.declared.Event.{Event}
use Rattle.event_machine.specs.declared.Event.TheVariants.{R, E, S, D, C, T, F, X, B, Z}
use Rattle.seq_file.specs.Lines.{is_upper_name}
use Rattle.seq_file.specs.Lists.{list_count}
use Rattle.seq_file.specs.Short.{IsShort}
use Rattle.syn_event.specs.declared.numbering.Mode.TheVariants.{Original}
use Rattle.syn_event.specs.Legal.{Legal}
use Rattle.syn_event.specs.Numbering.{Numbering, owner_of}
use Rattle.syn_event.specs.DeclaredTasks.{text_of}
use Rattle.task_model.specs.Machine.{ProgramWithInputs}
use Rattle.task_machine.specs.declared.verdict.Verdict.{Verdict}
use Rattle.task_machine.specs.declared.verdict.Verdict.TheVariants.{Feasible, Infeasible, Unsettled}
use Rattle.task_machine.specs.declared.verdict.Why.{Why}
use Rattle.task_machine.specs.Conditions.{needed_of}
use Rattle.task_machine.specs.Views.{View}
use Rattle.task_machine.proofs.Judged.{view_unique}
use Rattle.task_machine.proofs.OneVerdict.{verdict_unique}
use Rattle.divergence.specs.JudgeText.{task_part, parts_of, shown_tasks, title_of, report_text, judge_text, event_at_place, refused_word, event_line, cause_line}
use Rattle.divergence.specs.ViewText.{number_line, view_lines}
use Rattle.debug_outcome.specs.Outcomes.{Outcome, writes}
use Rattle.debug_judge.specs.JudgeOutcomes.{AreSeen, ShowsWhy, IsVerdictText, SequenceMeans, verdict_status}
use Rattle.seq_file.proofs.MainNames.{main_is_upper}
use Rattle.debug_collect.proofs.replays.OwnTasks.{lists_for_all}
use Rattle.debug_sequence.proofs.Sequences.{reads_as_unique, read_or_refused, one_refused}
use Rattle.debug_core.proofs.ShortNumbers.{are_short}

-- ---- the text of a verdict, by what is seen of the tasks that its event needs

module _ (names : List (List ℕ)) (numbers : Numbering) (views others : ℕ → View) where
  same_parts : (tasks : List ℕ) → All (λ t. views t ≡ others t) tasks → parts_of names numbers views tasks ≡ parts_of names numbers others tasks
  same_parts [] h = refl
  same_parts (t ∷ ts) h =
      ap (λ (v : View). (title_of names numbers t ⧺ (codes "\n" ⧺ view_lines v)) ⧺ parts_of names numbers views ts) (All-head (λ t. views t ≡ others t) t ts h)
      ∙ ap (λ (rest : List ℕ). task_part names numbers others t ⧺ rest) (same_parts ts (All-tail (λ t. views t ≡ others t) t ts h))

  once_all : (b : Bool) (c o : ℕ) → All (λ t. views t ≡ others t) (c ∷ o ∷ []) → All (λ t. views t ≡ others t) (cond b (c ∷ []) (c ∷ o ∷ []))
  once_all true c o h = All-cons (λ t. views t ≡ others t) c [] (All-head (λ t. views t ≡ others t) c (o ∷ []) h) (All-nil (λ t. views t ≡ others t))
  once_all false c o h = h

  shown_all : (e : Event) → All (λ t. views t ≡ others t) (needed_of numbers e) → All (λ t. views t ≡ others t) (shown_tasks numbers e)
  shown_all (R c e i) h = once_all (c == owner_of numbers e) c (owner_of numbers e) h
  shown_all (E a) h = h
  shown_all (S a) h = h
  shown_all (D a k) h = h
  shown_all (C c e i) h = h
  shown_all (T c e i) h = h
  shown_all (F c e i) h = h
  shown_all (X a) h = h
  shown_all (B t x) h = h
  shown_all Z h = h

module _ (setup : ProgramWithInputs) (numbers : Numbering) (bound : ℕ) (events : List Event) (views others : ℕ → View) where
  refused_same : (at : ℕ) (why : Why) (before : List Event) (e : Option Event) → IfSome e (AreSeen setup numbers before views) → IfSome e (AreSeen setup numbers before others) →
      report_text setup.program.names numbers bound views (length events) (Infeasible at why) e ≡ report_text setup.program.names numbers bound others (length events) (Infeasible at why) e
  refused_same at why before None seen seen' = refl
  refused_same at why before (Some e) seen seen' =
      ap (λ (parts : List ℕ). number_line refused_word at ⧺ (event_line e ⧺ (cause_line why ⧺ parts)))
      (same_parts setup.program.names numbers views others (shown_tasks numbers e)
      (shown_all setup.program.names numbers views others e (λ k d less. view_unique setup numbers before _ _ _ (seen k d less) (seen' k d less))))

  held_same : (at t : ℕ) (e : Option Event) → report_text setup.program.names numbers bound views (length events) (Unsettled at t) e ≡ report_text setup.program.names numbers bound others (length events) (Unsettled at t) e
  held_same at t None = refl
  held_same at t (Some e) = refl

  text_same : (v : Verdict) → ShowsWhy setup numbers events views v → ShowsWhy setup numbers events others v → judge_text setup.program.names numbers bound views events v ≡ judge_text setup.program.names numbers bound others events v
  text_same Feasible h k = refl
  text_same (Infeasible at why) h k = refused_same at why (take (at - 1) events) (event_at_place events (Infeasible at why)) h k
  text_same (Unsettled at t) h k = held_same at t (event_at_place events (Unsettled at t))

pub one_verdict_text : (setup : ProgramWithInputs) (numbers : Numbering) (bound : ℕ) (events : List Event) (o q : Outcome) → IsVerdictText setup numbers bound events o → IsVerdictText setup numbers bound events q → o ≡ q
one_verdict_text setup numbers bound events o q h k =
    let same : h.verdict ≡ k.verdict = verdict_unique setup numbers bound events h.verdict k.verdict h.verdict_is k.verdict_is in
    let seen : ShowsWhy setup numbers events h.views k.verdict = subst (λ (v : Verdict). ShowsWhy setup numbers events h.views v) same h.seen in
    h.is
    ∙ ap (λ (v : Verdict). writes (judge_text setup.program.names numbers bound h.views events v) (verdict_status v)) same
    ∙ ap (λ (text : List ℕ). writes text (verdict_status k.verdict)) (text_same setup numbers bound events h.views k.views k.verdict seen k.seen)
    ∙ sym k.is

-- ---- of a legal program that was read

module _ (setup : ProgramWithInputs) (numbers : Numbering) (placed : IsWellPlaced setup.program) (legal : Legal setup.program setup.types numbers Original) (lines : List ℕ) (bound : ℕ) where
  short : IsShort numbers
  short = are_short setup.program setup.types numbers Original legal

  upper : is_upper_name (text_of setup.program.names numbers.main) ≡ true
  upper = main_is_upper setup.program setup.types numbers Original placed legal

  lists : length numbers.tasks ≡ list_count numbers
  lists = lists_for_all setup.program setup.types numbers placed legal

  pub one_judged : (o q : Outcome) → SequenceMeans setup numbers lines bound o → SequenceMeans setup numbers lines bound q → o ≡ q
  one_judged o q (inl h) (inl k) =
      let same : h.events ≡ k.events = reads_as_unique setup.program.names numbers short upper lists lines h.events k.events h.reads k.reads in
      one_verdict_text setup numbers bound k.events o q (subst (λ (es : List Event). IsVerdictText setup numbers bound es o) same h.judged) k.judged
  one_judged o q (inl h) (inr k) = absurd (read_or_refused setup.program.names numbers short upper lists lines h.events q h.reads k)
  one_judged o q (inr h) (inl k) = absurd (read_or_refused setup.program.names numbers short upper lists lines k.events o k.reads h)
  one_judged o q (inr h) (inr k) = one_refused setup.program.names numbers short upper lists lines o q h k

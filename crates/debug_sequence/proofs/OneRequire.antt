-- The lines of a sequence and the bytes of constraints call for one outcome.
use Rattle.std.proofs.Common.{◌≡◌, ◌+◌, true, ℕ, List, [], ◌∷◌, length, Option, Some, None, inl, inr, refl, sym, ap, subst, ◌∙◌, arith}
use Rattle.std.specs.Prelude.{unwrap_or}
use Rattle.std.proofs.lemmas.Bool.{cases_lt}
use Rattle.ded_io.specs.Written.{each_text}
use Rattle.event_machine.specs.declared.Event.{Event}
use Rattle.syn_event.specs.Numbering.{Numbering}
use Rattle.syn_event.specs.DeclaredTasks.{text_of}
use Rattle.seq_file.specs.Lines.{is_upper_name}
use Rattle.seq_file.specs.Short.{IsShort}
use Rattle.seq_file.specs.Lists.{list_count}
use Rattle.syn_constraint.specs.declared.constraints.Constraint.{Constraint}
use Rattle.syn_constraint.specs.declared.errors.ConError.{ConError}
use Rattle.syn_constraint.specs.Breaking.{event_at, IsFirstBreak}
use Rattle.syn_constraint.proofs.Formatted.{constraints-unique, constraints-no_fault, constraints-one_fault}
use Rattle.debug_outcome.specs.Coming.{IsRefusal}
use Rattle.debug_outcome.specs.Outcomes.{Outcome, writes}
use Rattle.debug_outcome.proofs.Comings.{one_refusal}
use Rattle.debug_sequence.specs.declared.requiring.Broken.{Broken}
use Rattle.debug_sequence.specs.declared.requiring.Finding.{Finding}
use Rattle.debug_sequence.specs.inner.Placing.{broken_with}
use Rattle.debug_sequence.specs.RequireOutcomes.{IsFirstBroken, IsFinding, AreFindings, finding_line, findings_status, AreTold, AreBadConstraints, RequiresBytes, RequiresLines, refusal_of_constraints}
use Rattle.debug_sequence.proofs.Sequences.{reads_as_unique, read_or_refused, one_refused}

-- ---- what is found of a constraint is one thing

module _ (events : List Event) where
  same_place : (constraint : Constraint) (i j : ℕ) → IsFirstBreak constraint events (Some i) → IsFirstBreak constraint events (Some j) → i ≡ j
  same_place constraint i j h k = elim (cases_lt i j) [
    | inl less ↦ absurd (k.1 i less h.0)
    | inr past ↦ elim (cases_lt j i) [
      | inl less ↦ absurd (h.1 j less k.0)
      | inr too ↦ omega (arith, past, too)
    ]
  ]

  same_event : (i j : ℕ) (d e : Event) → i ≡ j → event_at events i ≡ Some d → event_at events j ≡ Some e → d ≡ e
  same_event i j d e same h k = ap (λ (o : Option Event). unwrap_or o d) (sym h ∙ ap (event_at events) same ∙ k)

  same_broken : (constraint : Constraint) (a b : Option Broken) → IsFirstBroken events constraint a → IsFirstBroken events constraint b → a ≡ b
  same_broken constraint None None h k = refl
  same_broken constraint None (Some b) h k = absurd (h b.place k.0.0)
  same_broken constraint (Some a) None h k = absurd (k a.place h.0.0)
  same_broken constraint (Some a) (Some b) h k =
      let place : a.place ≡ b.place = same_place constraint a.place b.place h.0 k.0 in
      let event : a.event ≡ b.event = same_event a.place b.place a.event b.event place h.1 k.1 in
      ap (λ (n : ℕ). Some (broken_with n a.event)) place ∙ ap (λ (e : Event). Some (broken_with b.place e)) event

  same_finding : (constraint : Constraint) (number : ℕ) (f g : Finding) → IsFinding events number constraint f → IsFinding events number constraint g → f ≡ g
  same_finding constraint number f g h k =
      let counted : f.number ≡ g.number = h.numbered ∙ sym k.numbered in
      let broken : f.broken ≡ g.broken = same_broken constraint f.broken g.broken h.first k.first in
      let one : f ≡ record { number = g.number; broken = f.broken } = ap (λ (n : ℕ). record { number = n; broken = f.broken }) counted in
      one ∙ ap (λ (o : Option Broken). record { number = g.number; broken = o }) broken

  same_findings : (number : ℕ) (constraints : List Constraint) (fs gs : List Finding) → AreFindings events number constraints fs → AreFindings events number constraints gs → fs ≡ gs
  same_findings number [] [] [] h k = refl
  same_findings number [] [] (g ∷ gs) h k = absurd k
  same_findings number [] (f ∷ fs) gs h k = absurd h
  same_findings number (c ∷ cs) [] gs h k = absurd h
  same_findings number (c ∷ cs) (f ∷ fs) [] h k = absurd k
  same_findings number (c ∷ cs) (f ∷ fs) (g ∷ gs) h k =
      ap (λ (x : Finding). x ∷ fs) (same_finding c number f g h.0 k.0) ∙ ap (λ (xs : List Finding). g ∷ xs) (same_findings (number + 1) cs fs gs h.1 k.1)

  one_told : (constraints : List Constraint) (o q : Outcome) → AreTold events constraints o → AreTold events constraints q → o ≡ q
  one_told constraints o q h k =
      h.is ∙ ap (λ (fs : List Finding). writes (each_text finding_line fs) (findings_status fs)) (same_findings 1 constraints h.findings k.findings h.are k.are) ∙ sym k.is

-- ---- the bytes of constraints, and both files

module _ (names : List (List ℕ)) (numbers : Numbering) (short : IsShort numbers) (upper : is_upper_name (text_of names numbers.main) ≡ true) (tasks : length numbers.tasks ≡ list_count numbers)
    (lines bytes : List ℕ) where
  one_bad : (o q : Outcome) → AreBadConstraints numbers bytes o → AreBadConstraints numbers bytes q → o ≡ q
  one_bad o q h k =
      let same : h.error ≡ k.error = constraints-one_fault numbers short bytes h.error k.error h.fault k.fault in
      one_refusal (refusal_of_constraints k.error) o q (subst (λ (e : ConError). IsRefusal (refusal_of_constraints e) o) same h.told) k.told

  one_by_bytes : (events : List Event) (o q : Outcome) → RequiresBytes numbers events bytes o → RequiresBytes numbers events bytes q → o ≡ q
  one_by_bytes events o q (inl h) (inl k) =
      let same : h.constraints ≡ k.constraints = constraints-unique numbers short bytes h.constraints k.constraints h.reads k.reads in
      one_told events k.constraints o q (subst (λ (cs : List Constraint). AreTold events cs o) same h.told) k.told
  one_by_bytes events o q (inl h) (inr k) = absurd (constraints-no_fault numbers short bytes h.constraints k.error h.reads k.fault)
  one_by_bytes events o q (inr h) (inl k) = absurd (constraints-no_fault numbers short bytes k.constraints h.error k.reads h.fault)
  one_by_bytes events o q (inr h) (inr k) = one_bad o q h k

  pub one_require : (o q : Outcome) → RequiresLines names numbers lines bytes o → RequiresLines names numbers lines bytes q → o ≡ q
  one_require o q (inl h) (inl k) =
      let same : h.events ≡ k.events = reads_as_unique names numbers short upper tasks lines h.events k.events h.reads k.reads in
      one_by_bytes k.events o q (subst (λ (es : List Event). RequiresBytes numbers es bytes o) same h.required) k.required
  one_require o q (inl h) (inr k) = absurd (read_or_refused names numbers short upper tasks lines h.events q h.reads k)
  one_require o q (inr h) (inl k) = absurd (read_or_refused names numbers short upper tasks lines k.events o k.reads h)
  one_require o q (inr h) (inr k) = one_refused names numbers short upper tasks lines o q h k

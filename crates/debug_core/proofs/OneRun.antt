-- What is given for choices calls for one outcome, where choices do; so does a program that is run under them.
use Rattle.std.proofs.Common.{◌≡◌, ℕ, inl, inr, sym, ap, subst, ◌∙◌}
use Rattle.input_file.specs.declared.errors.InputError.{InputError}
use Rattle.input_file.proofs.Reading.{choices-unique, choices-no_fault, choices-one_fault}
use Rattle.syn_event.specs.Numbering.{Numbering}
use Rattle.task_model.specs.Machine.{ProgramWithInputs}
use Rattle.debug_outcome.specs.files.Giving.{Given, NothingGiven, BytesGiven, SeedGiven}
use Rattle.debug_outcome.specs.Coming.{IsRefusal}
use Rattle.debug_outcome.specs.Outcomes.{Outcome}
use Rattle.debug_outcome.proofs.Comings.{one_refusal}
use Rattle.debug_core.specs.ChoiceTexts.{Choosing, FromList, FromSeed, AreChoices, AreBadChoices, UnderChoices, refusal_of_choices}
use Rattle.debug_core.specs.ChosenRuns.{IsRunBy, RunsUnder}

-- what is given makes choices in one way
one_choosing : (given : Given) (x y : Choosing) → AreChoices given x → AreChoices given y → x ≡ y
one_choosing NothingGiven x y h k = h ∙ sym k
one_choosing (BytesGiven bytes) x y h k = h.is ∙ ap FromList (choices-unique bytes h.choices k.choices h.reads k.reads) ∙ sym k.is
one_choosing (SeedGiven seed) x y h k = h ∙ sym k

choosing_or_bad : (given : Given) (x : Choosing) (o : Outcome) → AreChoices given x → AreBadChoices given o → ⊥
choosing_or_bad NothingGiven x o h bad = bad
choosing_or_bad (BytesGiven bytes) x o h bad = choices-no_fault bytes h.choices bad.error h.reads bad.fault
choosing_or_bad (SeedGiven seed) x o h bad = bad

one_bad_choices : (given : Given) (o q : Outcome) → AreBadChoices given o → AreBadChoices given q → o ≡ q
one_bad_choices NothingGiven o q h k = absurd h
one_bad_choices (BytesGiven bytes) o q h k =
    let same : h.error ≡ k.error = choices-one_fault bytes h.error k.error h.fault k.fault in
    one_refusal (refusal_of_choices k.error) o q (subst (λ (e : InputError). IsRefusal (refusal_of_choices e) o) same h.told) k.told
one_bad_choices (SeedGiven seed) o q h k = absurd h

-- choices that call for one outcome do so however they are given
pub one_by_choices : (CallsFor : Choosing → Outcome → Type 0) → ((x : Choosing) (o q : Outcome) → CallsFor x o → CallsFor x q → o ≡ q) → (given : Given) (o q : Outcome) →
    UnderChoices CallsFor given o → UnderChoices CallsFor given q → o ≡ q
one_by_choices CallsFor one given o q (inl h) (inl k) =
    one k.choosing o q (subst (λ (x : Choosing). CallsFor x o) (one_choosing given h.choosing k.choosing h.are k.are) h.called) k.called
one_by_choices CallsFor one given o q (inl h) (inr k) = absurd (choosing_or_bad given h.choosing q h.are k)
one_by_choices CallsFor one given o q (inr h) (inl k) = absurd (choosing_or_bad given k.choosing o k.are h)
one_by_choices CallsFor one given o q (inr h) (inr k) = one_bad_choices given o q h k

module _ (setup : ProgramWithInputs) (numbers : Numbering) (turns : ℕ) where
  one_run : (x : Choosing) (o q : Outcome) → IsRunBy setup numbers turns x o → IsRunBy setup numbers turns x q → o ≡ q
  one_run (FromList choices) o q h k = h ∙ sym k
  one_run (FromSeed seed) o q h k = h ∙ sym k

  pub one_under : (given : Given) (o q : Outcome) → RunsUnder setup numbers given turns o → RunsUnder setup numbers given turns q → o ≡ q
  one_under given o q h k = one_by_choices (IsRunBy setup numbers turns) one_run given o q h k

-- The bytes of a program and of inputs give one start, or call for one outcome where they give none.
use Rattle.std.proofs.Common.{◌≡◌, ◌<◌, ◌^◌, ℕ, ℤ, List, length, Option, Some, None, inl, inr, sym, ap, subst, ◌∙◌}
use Rattle.ada_tree.specs.PlainProgram.{PProgram}
use Rattle.ada_tree.specs.TypeTable.{TypeTable}
use Rattle.ada_static_rules.specs.Refusals.{types_in}
use Rattle.input_file.specs.declared.errors.InputError.{InputError}
use Rattle.input_file.proofs.Reading.{inputs-unique, inputs-no_fault, inputs-one_fault}
use Rattle.syn_event.specs.declared.numbering.Mode.{Mode}
use Rattle.syn_event.specs.AllNumbers.{all_numbers}
use Rattle.syn_event.specs.Numbering.{Numbering}
use Rattle.task_model.specs.Machine.{ProgramWithInputs}
use Rattle.debug_outcome.specs.Coming.{IsRefusal}
use Rattle.debug_outcome.specs.Outcomes.{Outcome}
use Rattle.debug_outcome.proofs.Comings.{one_refusal}
use Rattle.debug_core.specs.InputTexts.{AreInputs, AreBadInputs, refusal_of_inputs}
use Rattle.debug_core.specs.LegalTexts.{IsLegalText, IsRefusedText}
use Rattle.debug_core.specs.RuleFaults.{IsIllegal}
use Rattle.debug_core.specs.Starts.{IsStart, IsRefusedStart}
use Rattle.debug_core.proofs.OneText.{one_program, read_or_unreadable, one_unreadable_text}
use Rattle.debug_core.proofs.OneIllegal.{one_illegal, legal_or_illegal}
use Rattle.task_laws.proofs.actions.Numbers.{tasks_are_few}

-- ---- by the static rules

module _ (text : List ℕ) (m : Mode) where
  pub one_refused_text : (o q : Outcome) → IsRefusedText text m o → IsRefusedText text m q → o ≡ q
  one_refused_text o q (inl h) (inl k) = one_unreadable_text text o q h k
  one_refused_text o q (inl h) (inr k) = absurd (read_or_unreadable text k.program o k.is_read h)
  one_refused_text o q (inr h) (inl k) = absurd (read_or_unreadable text h.program q h.is_read k)
  one_refused_text o q (inr h) (inr k) =
      one_illegal k.program m text o q (subst (λ (p : PProgram). IsIllegal p m text o) (one_program text k.program h.program k.is_read h.is_read) h.illegal) k.illegal

  pub legal_or_not : (p : PProgram) (types : TypeTable) (numbers : Numbering) (o : Outcome) → IsLegalText text m p types numbers → IsRefusedText text m o → ⊥
  legal_or_not p types numbers o h (inl none) = read_or_unreadable text p o h.is_read none
  legal_or_not p types numbers o h (inr bad) =
      legal_or_illegal p m text types numbers o h.legal (subst (λ (q : PProgram). IsIllegal q m text o) (one_program text p bad.program h.is_read bad.is_read) bad.illegal)

  module _ (p q : PProgram) (types kinds : TypeTable) (numbers others : Numbering) (h : IsLegalText text m p types numbers) (k : IsLegalText text m q kinds others) where
    pub same_program : p ≡ q
    same_program = one_program text q p k.is_read h.is_read

    same_types : types ≡ kinds
    same_types = h.legal.its_types ∙ ap types_in same_program ∙ sym k.legal.its_types

    pub same_numbers : numbers ≡ others
    same_numbers =
        h.legal.its_numbers ∙ ap (λ (t : TypeTable). all_numbers t p) same_types ∙ ap (λ (r : PProgram). all_numbers kinds r) same_program
        ∙ sym k.legal.its_numbers

    -- what is so of the one program is so of the other
    pub legal_carries : (P : PProgram → TypeTable → Numbering → Type 0) → P p types numbers → P q kinds others
    legal_carries P has = subst (λ (n : Numbering). P q kinds n) same_numbers (subst (λ (t : TypeTable). P q t numbers) same_types (subst (λ (r : PProgram). P r types numbers) same_program has))

-- ---- by the inputs

module _ (numbers : Numbering) (few : length numbers.tasks < 2 ^ 32) where
  same_inputs : (bytes : Option (List ℕ)) (xs ys : List (List ℤ)) → AreInputs numbers bytes xs → AreInputs numbers bytes ys → xs ≡ ys
  same_inputs None xs ys h k = h ∙ sym k
  same_inputs (Some bytes) xs ys h k = inputs-unique numbers few bytes xs ys h k

  inputs_or_bad : (bytes : Option (List ℕ)) (xs : List (List ℤ)) (o : Outcome) → AreInputs numbers bytes xs → AreBadInputs numbers bytes o → ⊥
  inputs_or_bad None xs o h bad = bad
  inputs_or_bad (Some bytes) xs o h bad = inputs-no_fault numbers few bytes xs bad.error h bad.fault

  one_bad_inputs : (bytes : Option (List ℕ)) (o q : Outcome) → AreBadInputs numbers bytes o → AreBadInputs numbers bytes q → o ≡ q
  one_bad_inputs None o q h k = absurd h
  one_bad_inputs (Some bytes) o q h k =
      let same : h.error ≡ k.error = inputs-one_fault numbers few bytes h.error k.error h.fault k.fault in
      one_refusal (refusal_of_inputs k.error) o q (subst (λ (e : InputError). IsRefusal (refusal_of_inputs e) o) same h.told) k.told

-- ---- by both

module _ (text : List ℕ) (m : Mode) (bytes : Option (List ℕ)) where
  few_in : (p : PProgram) (types : TypeTable) (numbers : Numbering) → IsLegalText text m p types numbers → length numbers.tasks < 2 ^ 32
  few_in p types numbers h = tasks_are_few p types numbers m h.legal

  pub one_refused_start : (o q : Outcome) → IsRefusedStart text m bytes o → IsRefusedStart text m bytes q → o ≡ q
  one_refused_start o q (inl h) (inl k) = one_refused_text text m o q h k
  one_refused_start o q (inl h) (inr k) = absurd (legal_or_not text m k.program k.types k.numbers o k.is_legal h)
  one_refused_start o q (inr h) (inl k) = absurd (legal_or_not text m h.program h.types h.numbers q h.is_legal k)
  one_refused_start o q (inr h) (inr k) =
      one_bad_inputs k.numbers (few_in k.program k.types k.numbers k.is_legal) bytes o q
      (subst (λ (n : Numbering). AreBadInputs n bytes o) (same_numbers text m h.program k.program h.types k.types h.numbers k.numbers h.is_legal k.is_legal) h.are_bad) k.are_bad

  pub start_or_not : (setup : ProgramWithInputs) (numbers : Numbering) (o : Outcome) → IsStart text m bytes setup numbers → IsRefusedStart text m bytes o → ⊥
  start_or_not setup numbers o h (inl none) = legal_or_not text m setup.program setup.types numbers o h.is_legal none
  start_or_not setup numbers o h (inr bad) =
      inputs_or_bad numbers (few_in setup.program setup.types numbers h.is_legal) bytes setup.inputs o h.are_inputs
      (subst (λ (n : Numbering). AreBadInputs n bytes o) (same_numbers text m bad.program setup.program bad.types setup.types bad.numbers numbers bad.is_legal h.is_legal) bad.are_bad)

  module _ (setup other : ProgramWithInputs) (numbers others : Numbering) (h : IsStart text m bytes setup numbers) (k : IsStart text m bytes other others) where
    one_numbers : numbers ≡ others
    one_numbers = same_numbers text m setup.program other.program setup.types other.types numbers others h.is_legal k.is_legal

    one_inputs : setup.inputs ≡ other.inputs
    one_inputs =
        same_inputs others (few_in other.program other.types others k.is_legal) bytes setup.inputs other.inputs
        (subst (λ (n : Numbering). AreInputs n bytes setup.inputs) one_numbers h.are_inputs) k.are_inputs

    one_setup : setup ≡ other
    one_setup =
        ap (λ (p : PProgram). record { program = p; types = setup.types; inputs = setup.inputs }) (same_program text m setup.program other.program setup.types other.types numbers others h.is_legal k.is_legal)
        ∙ ap (λ (t : TypeTable). record { program = other.program; types = t; inputs = setup.inputs }) (same_types text m setup.program other.program setup.types other.types numbers others h.is_legal k.is_legal)
        ∙ ap (λ (xs : List (List ℤ)). record { program = other.program; types = other.types; inputs = xs }) one_inputs

    -- what is so of the one start is so of the other
    pub start_carries : (P : ProgramWithInputs → Numbering → Type 0) → P setup numbers → P other others
    start_carries P has = subst (λ (n : Numbering). P other n) one_numbers (subst (λ (s : ProgramWithInputs). P s numbers) one_setup has)

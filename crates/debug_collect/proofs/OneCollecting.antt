-- A program calls for one outcome when it is collected, and when its collecting text is run.
use Rattle.std.proofs.Common.{◌≡◌, ◌<◌, ℕ, ℤ, List, length, inl, inr, sym, ap, ◌∙◌, subst, arith}
use Rattle.ada_tree.specs.PlainProgram.{PProgram}
use Rattle.ada_tree.specs.TypeTable.{TypeTable}
use Rattle.ada_printer.specs.ProgramText.{program_text}
use Rattle.syn_event.specs.Numbering.{Numbering}
use Rattle.debug_outcome.specs.files.Wanting.{text_limit}
use Rattle.debug_outcome.specs.Outcomes.{Outcome, writes}
use Rattle.debug_collect.specs.CollectOutcomes.{IsCollected, IsPastLimit, CollectsProgram}
use Rattle.debug_collect.specs.Recorded.{IsRecorded}

module _ (p : PProgram) (types : TypeTable) (numbers : Numbering) where
  apart_by_length : {A : Type 0} (o q : Outcome) → IsCollected p types numbers o → IsPastLimit p types numbers q → A
  apart_by_length o q h k =
      let long : text_limit < length (program_text h.text) = subst (λ (t : PProgram). text_limit < length (program_text t)) (sym h.is_text) k.long in
      absurd (let short = h.short in omega (arith, short, long))

  pub one_collecting : (o q : Outcome) → CollectsProgram p types numbers o → CollectsProgram p types numbers q → o ≡ q
  one_collecting o q (inl h) (inl k) = h.is ∙ ap (λ (t : PProgram). writes (program_text t) 0) (h.is_text ∙ sym k.is_text) ∙ sym k.is
  one_collecting o q (inl h) (inr k) = apart_by_length o q h k
  one_collecting o q (inr h) (inl k) = apart_by_length q o k h
  one_collecting o q (inr h) (inr k) = h.is ∙ sym k.is

pub one_recording :
    {C : Type 0} (word : C → ℕ) (next : C → C) (p : PProgram) (types : TypeTable) (numbers : Numbering) (inputs : List (List ℤ)) (choices : C) (turns : ℕ) (o q : Outcome) →
    IsRecorded word next p types numbers inputs choices turns o → IsRecorded word next p types numbers inputs choices turns q → o ≡ q
one_recording word next p types numbers inputs choices turns o q h k = h.is ∙ sym k.is

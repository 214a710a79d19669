-- The file of a run, from what was made on the way.
use Rattle.std.proofs.Common.{◌≡◌, ℕ, ℤ, List, Result, Ok, Err, IfOk, ap, ◌∙◌, subst}
use Rattle.ada_tree.specs.PlainProgram.{PProgram}
use Rattle.ada_tree.specs.TypeTable.{TypeTable}
use Rattle.ada_tree.specs.declared.shortage.Memory.{Memory}
use Rattle.ada_static_rules.specs.Refusals.{types_in}
use Rattle.syn_event.specs.AllNumbers.{all_numbers}
use Rattle.syn_event.specs.declared.numbering.Mode.TheVariants.{Any}
use Rattle.syn_event.specs.Legal.{Legal}
use Rattle.syn_event.specs.Numbering.{Numbering}
use Rattle.task_model.specs.Machine.{MachineState, opening_of}
use Rattle.task_model.specs.picked_runs.Outputs.{output_of}
use Rattle.task_model.specs.picked_runs.Picked.{picked, run_end}
use Rattle.debug_collect.specs.declared.recording.Recorded.{Recorded}
use Rattle.debug_collect.specs.Recorded.{opening, recorded_text, recorder_of}
use Rattle.debug_collect.specs.inner.Running.{IsFileOf}

-- a text with the types and numbers that it has starts so
pub opening-is : (text : PProgram) (inputs : List (List ℤ)) (types : TypeTable) (numbers : Numbering) → Legal text types numbers Any →
    opening_of (record { program = text; types = types; inputs = inputs }) numbers ≡ opening text inputs
opening-is text inputs types numbers own =
    let its : numbers ≡ all_numbers (types_in text) text = own.its_numbers ∙ ap (λ (t : TypeTable). all_numbers t text) own.its_types in
    λ i. opening_of (record { program = text; types = own.its_types i; inputs = inputs }) (its i)

module _ {C : Type 0} (word : C → ℕ) (next : C → C) (names : List (List ℕ)) (numbers : Numbering) where
  -- the same machine has the same run
  pub file-from : (m n : MachineState) (choices : C) (turns : ℕ) (r : Result Recorded Memory) → m ≡ n → IfOk r (IsFileOf word next names numbers m choices turns) → IfOk r (IsFileOf word next names numbers n choices turns)
  file-from m n choices turns (Err e) same h = tt
  file-from m n choices turns (Ok x) same h = subst (λ (k : MachineState). IsFileOf word next names numbers k choices turns x) same h

  -- by what stands where the run ends
  pub file-of : (m after : MachineState) (choices : C) (turns task : ℕ) (output : List ℕ) (x : Recorded) →
      after ≡ (picked word next turns m choices).machine → x.end ≡ run_end (picked word next turns m choices) → task ≡ recorder_of numbers → output ≡ output_of after task →
      x.file.items ≡ recorded_text names numbers output x.end → IsFileOf word next names numbers m choices turns x
  file-of m after choices turns task output x made ends is told text =
      record { file = text ∙ (λ i. recorded_text names numbers ((told ∙ (λ j. output_of (made j) (is j))) i) (ends i)); end = ends }

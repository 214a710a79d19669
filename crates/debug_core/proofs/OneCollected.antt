-- The bytes of files call for one outcome when a program is collected, and when its collecting text is run.
use Rattle.std.proofs.Common.{◌≡◌, ℕ, List, Option, inl, inr}
use Rattle.syn_event.specs.declared.numbering.Mode.TheVariants.{Original}
use Rattle.syn_event.specs.Numbering.{Numbering}
use Rattle.task_model.specs.Machine.{ProgramWithInputs}
use Rattle.debug_collect.specs.CollectOutcomes.{CollectsProgram}
use Rattle.debug_collect.proofs.OneCollecting.{one_collecting, one_recording}
use Rattle.debug_outcome.specs.files.Giving.{Given}
use Rattle.debug_outcome.specs.Outcomes.{Outcome}
use Rattle.debug_core.specs.ChoiceTexts.{Choosing, FromList, FromSeed}
use Rattle.debug_core.specs.CollectMeaning.{CollectMeans}
use Rattle.debug_core.specs.CollectRunMeaning.{CollectRunMeans, RecordsBy, RecordsUnder}
use Rattle.debug_core.proofs.OneRun.{one_by_choices}
use Rattle.debug_core.proofs.OneStart.{one_refused_text, legal_or_not, legal_carries, one_refused_start, start_or_not, start_carries}

pub one_collected : (text : List ℕ) (o q : Outcome) → CollectMeans text o → CollectMeans text q → o ≡ q
one_collected text o q (inl h) (inl k) =
    one_collecting k.program k.types k.numbers o q
    (legal_carries text Original h.program k.program h.types k.types h.numbers k.numbers h.is_legal k.is_legal (λ p types numbers. CollectsProgram p types numbers o) h.collected) k.collected
one_collected text o q (inl h) (inr k) = absurd (legal_or_not text Original h.program h.types h.numbers q h.is_legal k)
one_collected text o q (inr h) (inl k) = absurd (legal_or_not text Original k.program k.types k.numbers o k.is_legal h)
one_collected text o q (inr h) (inr k) = one_refused_text text Original o q h k

one_by : (setup : ProgramWithInputs) (numbers : Numbering) (turns : ℕ) (x : Choosing) (o q : Outcome) → RecordsBy setup numbers turns x o → RecordsBy setup numbers turns x q → o ≡ q
one_by setup numbers turns (FromList choices) o q h k = one_recording _ _ setup.program setup.types numbers setup.inputs _ turns o q h k
one_by setup numbers turns (FromSeed seed) o q h k = one_recording _ _ setup.program setup.types numbers setup.inputs _ turns o q h k

pub one_recorded : (text : List ℕ) (inputs : Option (List ℕ)) (choices : Given) (turns : ℕ) (o q : Outcome) → CollectRunMeans text inputs choices turns o → CollectRunMeans text inputs choices turns q → o ≡ q
one_recorded text inputs choices turns o q (inl h) (inl k) =
    one_by_choices (RecordsBy k.setup k.numbers turns) (one_by k.setup k.numbers turns) choices o q
    (start_carries text Original inputs h.setup k.setup h.numbers k.numbers h.is_start k.is_start (λ setup numbers. RecordsUnder setup numbers choices turns o) h.recorded) k.recorded
one_recorded text inputs choices turns o q (inl h) (inr k) = absurd (start_or_not text Original inputs h.setup h.numbers q h.is_start k)
one_recorded text inputs choices turns o q (inr h) (inl k) = absurd (start_or_not text Original inputs k.setup k.numbers o k.is_start h)
one_recorded text inputs choices turns o q (inr h) (inr k) = one_refused_start text Original inputs o q h k

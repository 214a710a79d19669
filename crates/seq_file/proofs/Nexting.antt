-- What a verdict on a line says of its event.
use Rattle.std.specs.Prelude.{IfOk}
use Rattle.std.proofs.Common.{◌≡◌, ◌<◌, ℕ, List, Result, Ok, Err, Bool, true, false, cond, ap, ◌∙◌, sym, inl, inr, Some, None, Option}
use Rattle.std.proofs.lemmas.Bool.{cases_Bool}
use Rattle.event_machine.specs.declared.Event.{Event}
use Rattle.event_machine.specs.declared.Event.TheVariants.{Z}
use Rattle.syn_event.specs.Numbering.{Numbering}
use Rattle.seq_file.specs.declared.lines.Verdict.{Verdict}
use Rattle.seq_file.specs.declared.lines.Verdict.TheVariants.{Known, BadNumber, BadLine}
use Rattle.seq_file.specs.declared.errors.SeqError.{SeqError}
use Rattle.seq_file.specs.Files.{most_events}
use Rattle.seq_file.specs.Known.{is_known}
use Rattle.seq_file.specs.inner.NextEvents.{IsNextEvent, IsEventLine}
use Rattle.seq_file.specs.inner.Verdicts.{verdict_of}
use Rattle.common_lemmas.proofs.Truth.{clash}

abbrev event_in : Verdict → Event
event_in (Known event) = event
event_in BadNumber = Z
event_in BadLine = Z

abbrev has_event : Verdict → Bool
has_event (Known event) = true
has_event BadNumber = false
has_event BadLine = false

pub verdict-known : (numbers : Numbering) (o : Option Event) (event : Event) → Known event ≡ verdict_of numbers o → (o ≡ Some event) × (is_known numbers event ≡ true)
verdict-known numbers None event h = clash (sym (ap has_event h))
verdict-known numbers (Some e) event h = elim (cases_Bool (is_known numbers e)) [
  | inl e1 ↦
      let same : event ≡ e = ap event_in (h ∙ ap (λ t. cond t (Known e) BadNumber) e1) in
      (ap Some (sym same), ap (is_known numbers) same ∙ e1)
  | inr e2 ↦ clash (sym (ap has_event (h ∙ ap (λ t. cond t (Known e) BadNumber) e2)))
]

-- the line of the next event, where one more may stand
pub next-by_line : {B : Type 0} (numbers : Numbering) (ended : Bool) (count : ℕ) (rest : List ℕ) (now : B → List ℕ) (r : Result (Event × B) SeqError) → ended ≡ false → count < most_events →
    IfOk r (λ x. IsEventLine numbers rest x.0 (now x.1)) → IfOk r (λ x. IsNextEvent numbers ended count rest x.0 (now x.1))
next-by_line numbers ended count rest now (Ok x) going few h = record { line = h.line; going = going; few = few; cuts = h.cuts; writes = h.writes; known = h.known }
next-by_line numbers ended count rest now (Err e) going few h = h

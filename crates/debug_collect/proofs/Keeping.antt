-- The text that is written is the collecting text, unless it is past its limit, and what a run of it leaves is the file of a sequence of the program.
use Rattle.std.proofs.Common.{◌≡◌, ◌<◌, ◌≤◌, ℕ, ℤ, Bool, true, false, if◌then◌else◌, nat_lt, List, length, Option, Some, None, is_some, inl, inr, refl, sym, ap, ◌∙◌, subst, arith, true≢false}
use Rattle.std.proofs.lemmas.Bool.Decides.{nat_tests}
use Rattle.ada_tree.specs.declared.naming.Span.{Span}
use Rattle.ada_tree.specs.PlainProgram.{PProgram}
use Rattle.ada_tree.specs.TypeTable.{TypeTable}
use Rattle.ada_tree.specs.WellPlaced.{IsWellPlaced}
use Rattle.ada_static_rules.specs.Refusals.{types_in}
use Rattle.ada_printer.specs.ProgramText.{program_text}
use Rattle.syn_event.specs.declared.numbering.Mode.TheVariants.{Original, Any}
use Rattle.syn_event.specs.AllNumbers.{all_numbers}
use Rattle.syn_event.specs.Legal.{Legal}
use Rattle.syn_event.specs.Numbering.{Numbering}
use Rattle.normal_laws.specs.runs.forms.Normalisable.{numbers_of}
use Rattle.normal_laws.specs.existence.Laws.{IsLegalOriginal}
use Rattle.read_back.proofs.Whole.{read_back}
use Rattle.collect_model.specs.CollectTree.{collect_tree}
use Rattle.collect_model.specs.CollectNumbers.{collect_numbers}
use Rattle.collect_model.specs.FirstAbort.{first_abort}
use Rattle.collect_model.specs.aborts.AbortTree.{abort_tree}
use Rattle.collect_model.specs.aborts.AbortNumbers.{abort_numbers}
use Rattle.collect_model.specs.aborts.Collecting.{collecting_numbers, collecting_tree}
use Rattle.collect_model.specs.aborts.Promised.{has_abort}
use Rattle.collect_runs.specs.originals.Laws.{CollectsProgram as TextCollects}
use Rattle.collect_runs.proofs.originals.Programs.{legal_texts_collect_programs}
use Rattle.collect_structure.proofs.legal.Placed.{legal_collect_is_placed}
use Rattle.collect_structure.proofs.legal.Types.{collect_is_legal}
use Rattle.collect_structure.proofs.aborts.legal.Placed.{legal_abort_is_placed}
use Rattle.collect_structure.proofs.aborts.legal.Types.{abort_is_legal}
use Rattle.collect_runs.proofs.aborts.originals.Programs.{legal_texts_collect_programs as legal_abort_texts_collect}
use Rattle.debug_outcome.specs.files.Wanting.{text_limit}
use Rattle.debug_outcome.specs.Outcomes.{Outcome, writes}
use Rattle.debug_run.specs.RunOutcomes.{run_status}
use Rattle.debug_outcome.specs.Printing.{printed_outcome}
use Rattle.debug_outcome.proofs.Lengths.{long_by_length, short_by_length}
use Rattle.debug_collect.specs.CollectOutcomes.{CollectsProgram}
use Rattle.debug_collect.specs.Recorded.{IsRecorded, opening}
use Rattle.debug_collect.specs.declared.recording.Recorded.{Recorded}
use Rattle.debug_collect.specs.inner.Running.{IsFileOf}
use Rattle.debug_collect.proofs.Sequences.{picked_is_recorded}

-- ---- what is so of the collecting text

record HoldsOf (p text : PProgram) (its : Numbering) : Type 0 where
  placed : IsWellPlaced text
  legal : Legal text (types_in text) its Any
  collects : TextCollects p text

-- of that with these types and numbers
abbrev Holds : PProgram → TypeTable → Numbering → Type 0
Holds p types numbers = HoldsOf p (collecting_tree p types numbers) (collecting_numbers p types numbers)

none_of : (found : Option Span) → is_some found ≡ false → found ≡ None
none_of None e = refl
none_of (Some s) e = absurd (true≢false e)

module _ (p : PProgram) (legal : IsLegalOriginal p) where
  own_text : (b : Bool) → has_abort p ≡ b →
      HoldsOf p (if b then abort_tree p (types_in p) (numbers_of p) else collect_tree p (types_in p) (numbers_of p)) (if b then abort_numbers p (types_in p) (numbers_of p) else collect_numbers p (types_in p) (numbers_of p))
  own_text true e = record { placed = legal_abort_is_placed p legal; legal = abort_is_legal p legal; collects = legal_abort_texts_collect p legal }
  own_text false e = record { placed = legal_collect_is_placed p legal; legal = collect_is_legal p legal; collects = legal_texts_collect_programs p legal (none_of (first_abort p) e) }

  -- with the types and numbers that were found
  promised : (types : TypeTable) (numbers : Numbering) → Legal p types numbers Original → Holds p types numbers
  promised types numbers own =
      let n : numbers ≡ numbers_of p = own.its_numbers ∙ ap (λ (t : TypeTable). all_numbers t p) own.its_types in
      subst (λ t. Holds p t numbers) (sym own.its_types) (subst (λ m. Holds p (types_in p) m) (sym n) (own_text (has_abort p) refl))

  module _ (types : TypeTable) (numbers : Numbering) (own : Legal p types numbers Original) where
    printed : (o : Outcome) (b : Bool) → nat_lt text_limit (length (program_text (collecting_tree p types numbers))) ≡ b → o ≡ printed_outcome (collecting_tree p types numbers) → CollectsProgram p types numbers o
    printed o true h is =
        let more : text_limit < length (program_text (collecting_tree p types numbers)) = grind (arith, nat_tests) in
        inr (record { long = more; is = is ∙ sym (long_by_length (collecting_tree p types numbers) more) })
    printed o false h is =
        let short : length (program_text (collecting_tree p types numbers)) ≤ text_limit = grind (arith, nat_tests) in
        let k : Holds p types numbers = promised types numbers own in
        inl (record {
          text = collecting_tree p types numbers;
          is_text = refl;
          placed = k.placed;
          legal = k.legal;
          collects = k.collects;
          read_back = read_back (collecting_tree p types numbers) k.placed;
          short = short;
          is = is ∙ sym (short_by_length (collecting_tree p types numbers) short);
        })

    -- what the text that was made calls for
    pub text_called : (text : PProgram) → text ≡ collecting_tree p types numbers → (o : Outcome) → o ≡ printed_outcome text → CollectsProgram p types numbers o
    text_called text made o is = printed o (nat_lt text_limit (length (program_text (collecting_tree p types numbers)))) refl (is ∙ ap printed_outcome made)

    -- it is legal
    pub text_legal : (text : PProgram) → text ≡ collecting_tree p types numbers → Legal text (types_in text) (all_numbers (types_in text) text) Any
    text_legal text made =
        let h : Legal (collecting_tree p types numbers) (types_in (collecting_tree p types numbers)) (collecting_numbers p types numbers) Any = (promised types numbers own).legal in
        subst (λ (q : PProgram). Legal q (types_in q) (all_numbers (types_in q) q) Any) (sym made) (record { type_rules = h.type_rules; check_rules = h.check_rules; its_types = refl; its_numbers = refl })

    -- and what a run of it leaves
    pub run_called :
        (text : PProgram) → text ≡ collecting_tree p types numbers → {C : Type 0} (word : C → ℕ) (next : C → C) (inputs : List (List ℤ)) (choices : C) (turns : ℕ) (r : Recorded) →
        IsFileOf word next p.names numbers (opening text inputs) choices turns r → (o : Outcome) → o ≡ writes r.file.items (run_status r.end) → IsRecorded word next p types numbers inputs choices turns o
    run_called text made word next inputs choices turns r h o is =
        let there : IsFileOf word next p.names numbers (opening (collecting_tree p types numbers) inputs) choices turns r = subst (λ (q : PProgram). IsFileOf word next p.names numbers (opening q inputs) choices turns r) made h in
        let seq = picked_is_recorded p legal (own_text (has_abort p) refl).collects word next inputs choices turns types numbers own in
        record { events = seq.0; recorded = seq.1; is = is ∙ (λ i. writes (there.file i) (run_status (there.end i))) }

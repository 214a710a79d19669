-- A program that was read from the text of an original is as the laws of legal programs ask, and its name and its tasks are as readers of sequences ask.
use Rattle.std.proofs.Common.{◌≡◌, ◌≤◌, ℕ, true, List, length, Option, refl, sym, subst, arith}
use Rattle.ada_tree.specs.PlainProgram.{PProgram, plain_program}
use Rattle.ada_tree.specs.TypeTable.{TypeTable}
use Rattle.ada_parser.proofs.PlacedItems.{read_is_placed}
use Rattle.syn_event.specs.AllNumbers.{all_numbers}
use Rattle.syn_event.specs.declared.numbering.Mode.TheVariants.{Original}
use Rattle.syn_event.specs.DeclaredTasks.{text_of}
use Rattle.syn_event.specs.Numbering.{Numbering}
use Rattle.seq_file.specs.Lines.{is_upper_name}
use Rattle.seq_file.specs.Lists.{list_count}
use Rattle.seq_file.proofs.MainNames.{main_is_upper}
use Rattle.task_model.specs.Machine.{ProgramWithInputs}
use Rattle.race_variant.specs.KnownOffers.{OffersAreKnown}
use Rattle.progress_law.proofs.offers.Whole.{legal_offers_are_known}
use Rattle.normal_laws.specs.existence.Laws.{IsLegalOriginal}
use Rattle.debug_outcome.specs.files.Wanting.{original_bytes}
use Rattle.debug_collect.proofs.replays.OwnTasks.{lists_for_all}
use Rattle.text_laws.proofs.normal.Joined.{text_is_legal}
use Rattle.debug_core.specs.LegalTexts.{IsLegalText}
use Rattle.debug_core.specs.Starts.{IsStart}
use Rattle.debug_core.specs.declared.starting.Start.{Start}
use Rattle.debug_core.specs.inner.Started.{IsOriginal, setup_of}

pub read_is_original : (text : List ℕ) (p : PProgram) (types : TypeTable) (numbers : Numbering) → length text ≤ original_bytes → IsLegalText text Original p types numbers → IsLegalOriginal p
read_is_original text p types numbers short h =
    text_is_legal text p (record {
      reads = h.is_read.reads;
      short = omega (arith, short);
      legal = record { type_rules = h.legal.type_rules; check_rules = h.legal.check_rules; its_types = refl; its_numbers = refl };
    })

-- ---- what readers of sequences ask

module _ (text : List ℕ) (p : PProgram) (types : TypeTable) (numbers : Numbering) (h : IsLegalText text Original p types numbers) where
  pub text_is_upper : is_upper_name (text_of p.names numbers.main) ≡ true
  text_is_upper = main_is_upper p types numbers Original (read_is_placed text p h.is_read.reads) h.legal

  pub text_has_lists : length numbers.tasks ≡ list_count numbers
  text_has_lists = lists_for_all p types numbers (read_is_placed text p h.is_read.reads) h.legal

-- the same of what a judgement starts from
pub start_is_original : (text : List ℕ) (inputs : Option (List ℕ)) (start : Start) → IsStart text Original inputs (setup_of start) start.legal.numbers → IsOriginal start
start_is_original text inputs start h =
    record { placed = read_is_placed text (plain_program start.legal.program) h.is_legal.is_read.reads; legal = h.is_legal.legal }

module _ (start : Start) (h : IsOriginal start) where
  pub original_is_upper : is_upper_name (text_of (plain_program start.legal.program).names start.legal.numbers.main) ≡ true
  original_is_upper = main_is_upper (plain_program start.legal.program) start.legal.types start.legal.numbers Original h.placed h.legal

  pub original_has_lists : length start.legal.numbers.tasks ≡ list_count start.legal.numbers
  original_has_lists = lists_for_all (plain_program start.legal.program) start.legal.types start.legal.numbers h.placed h.legal

-- what its tasks offer has numbers that it has
pub offers_are_known : (text : List ℕ) (setup : ProgramWithInputs) (numbers : Numbering) → length text ≤ original_bytes → IsLegalText text Original setup.program setup.types numbers → OffersAreKnown setup numbers
offers_are_known text setup numbers within h =
    subst (λ (n : Numbering). OffersAreKnown setup n) (sym h.legal.its_numbers)
    (subst (λ (types : TypeTable). OffersAreKnown (record { program = setup.program; types = types; inputs = setup.inputs }) (all_numbers types setup.program)) (sym h.legal.its_types)
    (legal_offers_are_known setup.program (read_is_original text setup.program setup.types numbers within h) setup.inputs))

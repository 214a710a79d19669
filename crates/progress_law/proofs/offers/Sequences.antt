-- The events of a feasible sequence have numbers that the program has.
use Rattle.std.proofs.Common.{◌≡◌, true, List, [], ◌∷◌, ◌++◌, sym, subst}
use Rattle.std.specs.Prelude.{All}
use Rattle.std.proofs.lemmas.List.Elements.{All-nil, All-cons}
use Rattle.common_lemmas.proofs.Lists.{append_last}
use Rattle.event_machine.specs.declared.Event.{Event}
use Rattle.event_machine.specs.Programs.{Program}
use Rattle.event_machine.specs.Settling.{Leads}
use Rattle.event_machine.specs.Tallies.{HasNoEnd}
use Rattle.event_machine.specs.Worlds.{World}
use Rattle.event_machine.proofs.Walking.{leads_split}
use Rattle.ada_static_rules.specs.Refusals.{types_in}
use Rattle.seq_file.specs.Known.{is_known}
use Rattle.syn_event.specs.Numbering.{Numbering}
use Rattle.task_model.specs.Tasks.{Task}
use Rattle.task_model.specs.Machine.{ProgramWithInputs}
use Rattle.task_model.specs.Laws.{program_in, first_world}
use Rattle.task_model.proofs.Following.{feasible_exactly}
use Rattle.normal_laws.specs.runs.forms.Normalisable.{numbers_of}
use Rattle.task_machine.specs.Views.{IsFeasible}
use Rattle.task_machine.proofs.Judged.{by_table}
use Rattle.feasible.proofs.Resting.{open_no_end}
use Rattle.race_variant.specs.KnownOffers.{OffersAreKnown}
use Rattle.race_variant.proofs.Knowing.{event_known}
use Rattle.progress_law.specs.offers.Laws.{LegalSequencesAreKnown}
use Rattle.progress_law.proofs.offers.Whole.{legal_offers_are_known}

module _ (setup : ProgramWithInputs) (numbers : Numbering) (offers : OffersAreKnown setup numbers) where
  abbrev m : Program Task
  m = program_in setup numbers

  abbrev first : World Task
  first = first_world setup numbers

  -- an event that happens behind others
  next_known : (before : List Event) (e : Event) (last : World Task) → Leads m first (before ++ e ∷ []) last → is_known numbers e ≡ true
  next_known before e last leads =
      let (w, reached, (next, fires, is)) = leads_split m before (e ∷ []) first last leads in
      let more : HasNoEnd before = open_no_end m first w before reached fires.runs in
      let feasible : IsFeasible setup numbers (before ++ e ∷ []) = (feasible_exactly setup numbers (before ++ e ∷ [])).1 (last, leads) in
      let (views, seen, holds) = (by_table setup numbers before e more).0 feasible in
      event_known setup numbers offers before views e seen holds

  -- all that happen behind these
  all_known : (before events : List Event) (last : World Task) → Leads m first (before ++ events) last → All (λ e. is_known numbers e ≡ true) events
  all_known before [] last leads = All-nil (λ e. is_known numbers e ≡ true)
  all_known before (e ∷ events) last leads =
      let later : Leads m first ((before ++ e ∷ []) ++ events) last = subst (λ es. Leads m first es last) (sym (append_last before e events)) leads in
      let (w, reached, rest) = leads_split m (before ++ e ∷ []) events first last later in
      All-cons (λ x. is_known numbers x ≡ true) e events (next_known before e w reached) (all_known (before ++ e ∷ []) events last later)

pub legal_sequences_are_known : LegalSequencesAreKnown
legal_sequences_are_known p legal inputs events feasible =
    let setup : ProgramWithInputs = record { program = p; types = types_in p; inputs = inputs } in
    let (last, leads) = (feasible_exactly setup (numbers_of p) events).0 feasible in
    all_known setup (numbers_of p) (legal_offers_are_known p legal inputs) [] events last leads

-- The laws that a legal original offers what it knows, and so does it (this project's rules).
use Rattle.std.specs.Prelude.{◌≡◌, ◌<◌, ◌^◌, ℕ, ℤ, true, All, List, length, Option}
use Rattle.event_machine.specs.declared.Event.{Event}
use Rattle.ada_tree.specs.PlainProgram.{PProgram}
use Rattle.ada_static_rules.specs.Refusals.{types_in}
use Rattle.normal_laws.specs.runs.forms.Normalisable.{numbers_of}
use Rattle.normal_laws.specs.existence.Laws.{IsLegalOriginal}
use Rattle.seq_file.specs.Known.{is_known}
use Rattle.task_machine.specs.Views.{IsFeasible}
use Rattle.race_variant.specs.KnownOffers.{OffersAreKnown}
use Rattle.race_variant.specs.Variants.{AreVariants}

-- Whatever has happened, and whatever the inputs: each task of a legal original offers calls of members that there are, delays by numbers of alternatives,
-- and aborts of tasks beside main; and main accepts nothing.
abbrev pub LegalOffersAreKnown : Type 0
LegalOffersAreKnown =
    (p : PProgram) → IsLegalOriginal p → (inputs : List (List ℤ)) → OffersAreKnown (record { program = p; types = types_in p; inputs = inputs }) (numbers_of p)

-- So each event of a sequence that is feasible in a legal original has numbers that the program has.
abbrev pub LegalSequencesAreKnown : Type 0
LegalSequencesAreKnown =
    (p : PProgram) → IsLegalOriginal p → (inputs : List (List ℤ)) (events : List Event) → IsFeasible (record { program = p; types = types_in p; inputs = inputs }) (numbers_of p) events →
    All (λ event. is_known (numbers_of p) event ≡ true) events

-- And fewer than 2^32 events can come next, whatever has happened.
abbrev pub LegalVariantsAreFew : Type 0
LegalVariantsAreFew =
    (p : PProgram) → IsLegalOriginal p → (inputs : List (List ℤ)) (bound : ℕ) (events : List Event) (skip : Option Event) (found : List Event) (unsettled : List ℕ) →
    AreVariants (record { program = p; types = types_in p; inputs = inputs }) (numbers_of p) bound events skip found unsettled → length found < 2 ^ 32

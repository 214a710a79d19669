-- The replay text of LOAD and the events of a file is legal as a text of any kind.
use Rattle.std.proofs.Common.{◌≡◌, ◌≤◌, ℕ, List, refl, sym, ap, ◌∙◌, subst}
use Rattle.ada_tree.specs.PlainProgram.{PProgram}
use Rattle.ada_tree.specs.TypeTable.{TypeTable}
use Rattle.ada_static_rules.specs.Declaring.{predefined_types}
use Rattle.ada_static_rules.specs.Refusals.{types_in}
use Rattle.event_machine.specs.declared.Event.{Event}
use Rattle.syn_event.specs.AllNumbers.{all_numbers}
use Rattle.syn_event.specs.declared.numbering.Mode.TheVariants.{Any, Original}
use Rattle.syn_event.specs.Legal.{Legal}
use Rattle.syn_event.specs.Numbering.{Numbering}
use Rattle.seq_file.specs.Files.{AreFit}
use Rattle.normal_laws.specs.existence.Laws.{IsLegalOriginal}
use Rattle.normal_laws.specs.runs.forms.Normalisable.{numbers_of}
use Rattle.replay_structure.proofs.legal.names.Legal.{known_replay_is_legal}
use Rattle.replay_model.specs.ReplayTree.{replay_tree}
use Rattle.load_gen.specs.LoadTree.{load_tree, most_producers}
use Rattle.load_gen.specs.LoadNumbers.{load_numbers}
use Rattle.debug_collect.proofs.loads.Original.{load_is_legal, load_is_original}

-- a text is legal with the types and numbers that it has
abbrev pub IsLegalText : PProgram → Type 0
IsLegalText text = Legal text (types_in text) (all_numbers (types_in text) text) Any

module _ (p : PProgram) (legal : IsLegalOriginal p) where
  own_text : (events : List Event) → AreFit (numbers_of p) events → IsLegalText (replay_tree p (types_in p) (numbers_of p) events)
  own_text events fit =
      let its = known_replay_is_legal p events legal (record { each = fit.known; few = fit.few }) in
      record { type_rules = its.type_rules; check_rules = its.check_rules; its_types = refl; its_numbers = refl }

  replay_is_legal_text : (types : TypeTable) (numbers : Numbering) → Legal p types numbers Original → (events : List Event) → AreFit numbers events → IsLegalText (replay_tree p types numbers events)
  replay_is_legal_text types numbers own =
      let n : numbers ≡ numbers_of p = own.its_numbers ∙ ap (λ (t : TypeTable). all_numbers t p) own.its_types in
      subst (λ t. (events : List Event) → AreFit numbers events → IsLegalText (replay_tree p t numbers events)) (sym own.its_types)
      (subst (λ m. (events : List Event) → AreFit m events → IsLegalText (replay_tree p (types_in p) m events)) (sym n) own_text)

pub load_replay_is_legal : (n : ℕ) → n ≤ most_producers → (events : List Event) → AreFit (load_numbers n) events → IsLegalText (replay_tree (load_tree n) predefined_types (load_numbers n) events)
load_replay_is_legal n few = replay_is_legal_text (load_tree n) (load_is_original n few) predefined_types (load_numbers n) (load_is_legal n few)

-- A replay text is well made, since it is legal.
use Rattle.std.proofs.Common.{◌≡◌, ℕ, List, Option, Some, None, ap, ◌∙◌, subst}
use Rattle.common_lemmas.proofs.Options.{not_missing}
use Rattle.event_machine.specs.declared.Event.{Event}
use Rattle.ada_tree.specs.declared.naming.NameId.{NameId}
use Rattle.ada_tree.specs.declared.static_types.Kind.{Kind}
use Rattle.ada_tree.specs.declared.static_types.Kind.TheVariants.{Integer, Truth, Enumeration, Array}
use Rattle.ada_tree.specs.PlainProgram.{PProgram}
use Rattle.ada_tree.specs.TypeTable.{TypeTable}
use Rattle.ada_static_rules.specs.Refusals.{types_in}
use Rattle.ada_static_rules.specs.Scope.{kind_at}
use Rattle.syn_event.specs.declared.numbering.Mode.TheVariants.{Any}
use Rattle.syn_event.specs.Numbering.{Numbering}
use Rattle.syn_event.proofs.Weaker.{placed_tokens}
use Rattle.task_model.specs.Starting.{unit_of}
use Rattle.task_laws.specs.invariants.AcceptHeads.{InBody}
use Rattle.task_laws.specs.invariants.Worlds.{Conforms}
use Rattle.task_laws.specs.legal.types.Typed.{IsSmallKind, IsSmall}
use Rattle.task_laws.specs.legal.rewritten_types.Agreement.{scalar_only, Agrees}
use Rattle.task_laws.proofs.legal.types.TaskTypes.{tasks-have-types}
use Rattle.normal_laws.specs.structure.types.Own.{own_name}
use Rattle.normal_laws.proofs.legality.checks.Facts as facts
use Rattle.normal_laws.specs.runs.forms.Normalisable.{numbers_of}
use Rattle.normal_laws.specs.existence.Laws.{IsLegalOriginal}
use Rattle.normal_laws.proofs.existence.units.Conforms.{conforms}
use Rattle.normal_laws.proofs.existence.units.Lowers.{lowers}
use Rattle.normal_laws.proofs.existence.units.TypedNames.{formals-worth}
use Rattle.replay_model.specs.Promised.{IsReplayText}
use Rattle.replay_structure.proofs.texts.Rooted.{replay_agrees}
use Rattle.replay_structure.specs.legal.Laws.{text_for}
use Rattle.replay_structure.specs.legal.known.Laws.{AreKnown}
use Rattle.replay_structure.proofs.legal.names.Legal.{replay_is_as_promised}
use Rattle.replay_runs.specs.controls.bodies.Laws.{LegalIsWellMade}
use Rattle.replay_runs.proofs.controls.replayed.Numbers.{text_numbers, text-has-numbers}

-- an enumeration is no array
enumerated : (o : Option Kind) (names : List NameId) → scalar_only o ≡ Some (Enumeration names) → o ≡ Some (Enumeration names)
enumerated None names h = absurd (not_missing (Enumeration names) h)
enumerated (Some (Array index first last part)) names h = absurd (not_missing (Enumeration names) h)
enumerated (Some (Enumeration others)) names h = h
enumerated (Some Integer) names h = h
enumerated (Some Truth) names h = h

module _ (p : PProgram) (events : List Event) (h : IsLegalOriginal p) (known : AreKnown p events) where
  abbrev T : TypeTable
  T = types_in p

  abbrev text : PProgram
  text = text_for p events

  abbrev U : TypeTable
  U = types_in text

  agrees : Agrees (own_name p) T U
  agrees = replay_agrees p T (numbers_of p) events (facts.ordered p h) (facts.olds p h).2

  -- its enumerations are those of the program
  small : IsSmall U
  small = record { kinds = by_kind }
    where
      by_kind : (k : ℕ) (x : Kind) → kind_at U k ≡ Some x → IsSmallKind k x
      by_kind k (Enumeration names) at = h.small.kinds k (Enumeration names) (enumerated (kind_at T k) names (agrees.kinds k ∙ ap scalar_only at))
      by_kind k Integer at = tt
      by_kind k Truth at = tt
      by_kind k (Array index first last part) at = tt

  promised : IsReplayText p T (numbers_of p) events text
  promised = replay_is_as_promised p events h known

  well : (t : ℕ) → InBody (Conforms (record { program = text; types = U; numbers = text_numbers p }) t) (unit_of text (text_numbers p) t).body
  well t =
      subst (λ (N : Numbering). InBody (Conforms (record { program = text; types = U; numbers = N }) t) (unit_of text N t).body) (text-has-numbers p events h)
      (conforms Any text promised.legal.type_rules promised.legal.check_rules (placed_tokens text promised.placed) t)

pub legal_is_well_made : LegalIsWellMade
legal_is_well_made p events h known = record {
  conforms = well p events h known;
  lowers =
      let it = promised p events h known in
      lowers (text p events h known) (text_numbers p) it.legal.type_rules it.placed (formals-worth (text p events h known) (tasks-have-types (text p events h known) it.legal.type_rules it.placed (small p events h known)));
}

-- The normal form of a legal program is well made, since it is legal.
use Rattle.std.proofs.Common.{ℕ, subst}
use Rattle.ada_tree.specs.PlainProgram.{PProgram}
use Rattle.ada_static_rules.specs.Refusals.{types_in}
use Rattle.syn_event.specs.declared.numbering.Mode.TheVariants.{Any}
use Rattle.syn_event.specs.Numbering.{Numbering}
use Rattle.syn_event.proofs.Weaker.{placed_tokens}
use Rattle.task_model.specs.Starting.{unit_of}
use Rattle.task_laws.specs.invariants.AcceptHeads.{InBody}
use Rattle.task_laws.specs.invariants.Worlds.{Conforms, IsWellMade}
use Rattle.task_laws.proofs.legal.types.TaskTypes.{tasks-have-types}
use Rattle.normal_laws.specs.existence.Laws.{IsLegalOriginal}
use Rattle.normal_laws.specs.legality.Laws.{IsLegalNormal}
use Rattle.normal_laws.proofs.legality.Legal.{normal_is_legal}
use Rattle.normal_laws.proofs.legality.checks.Facts as facts
use Rattle.normal_laws.proofs.legality.numbers.Examples.{of-legal}
use Rattle.normal_laws.proofs.existence.units.Conforms.{conforms}
use Rattle.normal_laws.proofs.existence.units.Lowers.{lowers}
use Rattle.normal_laws.proofs.existence.units.TypedNames.{formals-worth}
use Rattle.replay_runs.specs.starts.Laws.{form_in}
use Rattle.replay_runs.specs.starts.Formals.{form_setting}
use Rattle.replay_runs.proofs.controls.translated.Tables.{form-small}

module _ (p : PProgram) (h : IsLegalOriginal p) where
  abbrev form : PProgram
  form = (form_in p).program

  legal : IsLegalNormal p
  legal = normal_is_legal p h

  -- each accept conforms to its entry
  all-conform : (t : ℕ) → InBody (Conforms (form_setting p) t) (unit_of form (form_in p).numbers t).body
  all-conform t =
      subst (λ (n : Numbering). InBody (Conforms (record { program = form; types = types_in form; numbers = n }) t) (unit_of form n t).body) (of-legal p h)
      (conforms Any form legal.type_rules legal.check_rules (placed_tokens form (facts.placed p h)) t)

  -- Each accept in it conforms to its entry, and no formal of an entry has an empty subtype.
  pub form-is-well-made : IsWellMade (form_setting p)
  form-is-well-made = record {
    conforms = all-conform;
    lowers =
        lowers form (form_in p).numbers legal.type_rules (facts.placed p h)
        (formals-worth form (tasks-have-types form legal.type_rules (facts.placed p h) (form-small p h)));
  }

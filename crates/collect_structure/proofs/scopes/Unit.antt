-- The variables DED_G and DED_W of a unit stay what they are behind declarations of other names.
use Rattle.std.proofs.Common.{◌≡◌, ◌∙◌}
use Rattle.common_lemmas.proofs.Numbers.{equal_self}
use Rattle.ada_tree.specs.declared.naming.NameId.{NameId}
use Rattle.ada_tree.specs.PlainProgram.{PProgram}
use Rattle.ada_static_rules.specs.Scope.{Scope, meaning}
use Rattle.task_laws.specs.legal.rewritten_types.Agreement.{Keeps}
use Rattle.task_laws.proofs.legal.alike_scopes.Tables.{value-kept}
use Rattle.replay_structure.specs.typed.ScopeOf.{IsNumber}
use Rattle.replay_structure.proofs.scopes.Permit.{only, number-step}
use Rattle.collect_model.specs.Names.{answer_text, part_text}
use Rattle.collect_structure.specs.Names.{added_id}
use Rattle.collect_structure.specs.typed.Told.{IsTruth}

pub truth-step : (d d' : Scope) (id : NameId) → meaning d' id ≡ meaning d id → Keeps (only id) d.types d'.types → IsTruth d id → IsTruth d' id
truth-step d d' id e k v = record {
  place = v.place;
  mark = v.mark;
  means = e ∙ v.means;
  there = k.grows.mark v.place v.mark v.there;
  kind = v.kind;
  scalar = (v.scalar.0, k.kinds v.mark.kind ∙ v.scalar.1);
  first = v.first;
  last = v.last;
  changes = value-kept (only id) d.types d'.types k id (equal_self id.0) ∙ v.changes;
}

-- the two variables of a unit
pub record HasUnit (q : PProgram) (d : Scope) : Type 0 where
  pub answer : IsTruth d (added_id q answer_text)
  pub part : IsNumber d (added_id q part_text)

pub unit-step : (q : PProgram) (d d' : Scope) → meaning d' (added_id q answer_text) ≡ meaning d (added_id q answer_text) → meaning d' (added_id q part_text) ≡ meaning d (added_id q part_text) →
    Keeps (only (added_id q answer_text)) d.types d'.types → Keeps (only (added_id q part_text)) d.types d'.types → HasUnit q d → HasUnit q d'
unit-step q d d' e f k l h = record { answer = truth-step d d' (added_id q answer_text) e k h.answer; part = number-step d d' (added_id q part_text) f l h.part }

-- What the laws ask is met.
use Rattle.std.proofs.Common.{◌≡◌, Bool, false, cond, not, ◌||◌, ◌==◌, [], ◌∷◌, pos, Some, refl, ap, ◌∙◌}
use Rattle.common_lemmas.proofs.Numbers.{equal_self}
use Rattle.ada_tree.specs.declared.naming.NameId.{NameId}
use Rattle.ada_value.specs.declared.values.Value.{Value}
use Rattle.ada_value.specs.declared.values.Value.TheVariants.{Number, Truth}
use Rattle.ada_value.specs.declared.values.Limits.{Limits}
use Rattle.ada_value.specs.Values.{integer_limits, truth_limits}
use Rattle.ada_value.specs.Variables.{Variables, object_named}
use Rattle.task_laws.specs.translation.OldTexts.{old_body, old_stmt, old_no_stmt, old_null, old_no_handler}
use Rattle.normal_laws.specs.runs.floors.Preludes.{cell}
use Rattle.normal_laws.proofs.runs.floors.Cells.{cell-behind}
use Rattle.normal_laws.specs.runs.floors.NormalFloors.{extends_none, extends_new}
use Rattle.collect_model.specs.declared.AddedNames.{AddedNames}
use Rattle.collect_model.specs.Names.{with_added}
use Rattle.collect_runs.specs.translation.Floors.{IsVariableOf, AreNamesAdded}
use Rattle.collect_runs.specs.translation.Laws.{all_but, names_alone, MetByEach}

abbrev n : AddedNames
n = names_alone

-- the added names differ
caller-answer : (n.caller.0 == n.answer.0) ≡ false
unfolding with_added
caller-answer = refl

caller-part : (n.caller.0 == n.part.0) ≡ false
unfolding with_added
caller-part = refl

answer-part : (n.answer.0 == n.part.0) ≡ false
unfolding with_added
answer-part = refl

part-answer : (n.part.0 == n.answer.0) ≡ false
unfolding with_added
part-answer = refl

-- the tests that make a name none of the old ones
abbrev old_by : Bool → Bool → Bool → Bool
old_by a b c = not (a || b || c)

-- a variable of one value
here : (limits : Limits) (v : Value) (name : NameId) (V : Variables) → IsVariableOf limits name (cell name limits v ∷ V)
here limits v name V = (v, record { name = name; found = ap (λ t. cond t (Some (cell name limits v)) (object_named V name)) (equal_self name.0) })

pub met_by_each : MetByEach
met_by_each g = record {
  vars = cell n.answer truth_limits (Truth false) ∷ cell n.part integer_limits (Number (pos 0)) ∷ [];
  added = added;
  types = record {
    marks = λ id old. refl;
    fixed = λ id old. refl;
    fixed_known = λ id old. refl;
    values = λ k z. refl;
    values_known = λ k z. refl;
    bases = λ k z. refl;
    kinds = λ k known. refl;
    integers = refl;
    truths = refl;
    texts = λ v. refl;
  };
  extends = extends_new _ _ _ added.answer (extends_new _ _ _ added.part extends_none);
  there = record {
    answer = here truth_limits (Truth false) n.answer _;
    part = cell-behind (cell n.answer truth_limits (Truth false)) _ n.part integer_limits answer-part (here integer_limits (Number (pos 0)) n.part _);
  };
  body = λ s. old_body _ _ (old_stmt _ _ (old_null s) old_no_stmt) old_no_handler;
}
  where
    added : AreNamesAdded (all_but g n) n
    added = record {
      answer = ap (λ t. old_by t (n.answer.0 == n.part.0) (n.answer.0 == n.caller.0)) (equal_self n.answer.0);
      part = ap (λ t. old_by t (n.part.0 == n.part.0) (n.part.0 == n.caller.0)) part-answer ∙ ap (λ t. old_by false t (n.part.0 == n.caller.0)) (equal_self n.part.0);
      caller =
          ap (λ t. old_by t (n.caller.0 == n.part.0) (n.caller.0 == n.caller.0)) caller-answer ∙ ap (λ t. old_by false t (n.caller.0 == n.caller.0)) caller-part
          ∙ ap (λ t. old_by false false t) (equal_self n.caller.0);
      caller_answer = caller-answer;
      caller_part = caller-part;
      answer_part = answer-part;
      part_answer = part-answer;
    }

-- What the laws ask is met.
use Rattle.std.proofs.Common.{◌≡◌, ℕ, Bool, false, cond, not, ◌||◌, ◌==◌, List, [], ◌∷◌, pos, Some, refl, ap, ◌∙◌}
use Rattle.common_lemmas.proofs.Lists.{texts_differ}
use Rattle.common_lemmas.proofs.Numbers.{equal_self}
use Rattle.ada_tree.specs.declared.naming.NameId.{NameId}
use Rattle.ada_value.specs.declared.values.Value.TheVariants.{Number}
use Rattle.ada_value.specs.Values.{integer_limits}
use Rattle.ada_value.specs.Variables.{Object, Variables, object_named}
use Rattle.task_laws.specs.translation.OldTexts.{old_body, old_stmt, old_no_stmt, old_null, old_no_handler}
use Rattle.normal_model.specs.RewrittenUnit.{RewrittenUnit}
use Rattle.normal_laws.specs.runs.floors.Preludes.{cell}
use Rattle.normal_laws.proofs.runs.floors.Cells.{cell-behind}
use Rattle.normal_laws.specs.runs.floors.NormalFloors.{extends_none, extends_new}
use Rattle.replay_model.specs.Names.{kind_text, argument_text, index_text, added_id}
use Rattle.replay_structure.proofs.texts.Rooted.{ids-apart}
use Rattle.replay_runs.specs.translation.Floors.{IsNumberVariable}
use Rattle.replay_runs.specs.translation.Laws.{all_but_permit, MetByEach}

-- a variable of INTEGER that is 0
abbrev zero : NameId → Object
zero id = cell id integer_limits (Number (pos 0))

module _ (u : RewrittenUnit) where
  abbrev named : List ℕ → NameId
  named text = added_id u.setting.program text

  -- the tests that make a name none of the old ones
  abbrev old_by : Bool → Bool → Bool → Bool
  old_by a b c = not (a || b || c)

  kind-new : (all_but_permit u).is_old (named kind_text).0 ≡ false
  kind-new = ap (λ t. old_by t ((named kind_text).0 == (named argument_text).0) ((named kind_text).0 == (named index_text).0)) (equal_self (named kind_text).0)

  argument-new : (all_but_permit u).is_old (named argument_text).0 ≡ false
  argument-new = ap (λ t. old_by t ((named argument_text).0 == (named argument_text).0) ((named argument_text).0 == (named index_text).0)) apart ∙ ap (λ t. old_by false t ((named argument_text).0 == (named index_text).0)) (equal_self (named argument_text).0)
    where
      apart : ((named argument_text).0 == (named kind_text).0) ≡ false
      apart = ids-apart u.setting.program argument_text kind_text refl refl (texts_differ argument_text kind_text refl)

  index-new : (all_but_permit u).is_old (named index_text).0 ≡ false
  index-new =
      ap (λ t. old_by t ((named index_text).0 == (named argument_text).0) ((named index_text).0 == (named index_text).0)) (ids-apart u.setting.program index_text kind_text refl refl (texts_differ index_text kind_text refl))
      ∙ ap (λ t. old_by false t ((named index_text).0 == (named index_text).0)) (ids-apart u.setting.program index_text argument_text refl refl (texts_differ index_text argument_text refl))
      ∙ ap (λ t. old_by false false t) (equal_self (named index_text).0)

  here : (name : NameId) (V : Variables) → IsNumberVariable name (zero name ∷ V)
  here name V = (Number (pos 0), record { name = name; found = ap (λ t. cond t (Some (zero name)) (object_named V name)) (equal_self name.0) })

pub met_by_each : MetByEach
met_by_each u = record {
  vars = zero (named u kind_text) ∷ zero (named u argument_text) ∷ zero (named u index_text) ∷ [];
  added = record { kind = kind-new u; argument = argument-new u; index = index-new u };
  types = record {
    marks = λ id old. refl;
    fixed = λ id old. refl;
    fixed_known = λ id old. refl;
    values = λ k z. refl;
    values_known = λ k z. refl;
    bases = λ k z. refl;
    kinds = λ k known. refl;
    integers = refl;
    truths = refl;
    texts = λ v. refl;
  };
  extends = extends_new _ _ _ (kind-new u) (extends_new _ _ _ (argument-new u) (extends_new _ _ _ (index-new u) extends_none));
  permit = record {
    kind = here u (named u kind_text) _;
    argument = cell-behind (zero (named u kind_text)) _ (named u argument_text) integer_limits (ids-apart u.setting.program kind_text argument_text refl refl (texts_differ kind_text argument_text refl)) (here u (named u argument_text) _);
    index =
        cell-behind (zero (named u kind_text)) _ (named u index_text) integer_limits (ids-apart u.setting.program kind_text index_text refl refl (texts_differ kind_text index_text refl))
        (cell-behind (zero (named u argument_text)) _ (named u index_text) integer_limits (ids-apart u.setting.program argument_text index_text refl refl (texts_differ argument_text index_text refl)) (here u (named u index_text) _));
  };
  body = λ s. old_body _ _ (old_stmt _ _ (old_null s) old_no_stmt) old_no_handler;
}

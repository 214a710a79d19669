-- Values that come back to a call leave the variables of places alone: they go to variables of old names.
use Rattle.std.proofs.Common.{◌≡◌, ◌==◌, false, List, [], ◌∷◌, Option, Result, Ok, Err, refl, ◌∙◌, Some, None}
use Rattle.ada_tree.specs.declared.naming.NameId.{NameId}
use Rattle.ada_tree.specs.declared.statements.ParMode.{ParMode}
use Rattle.ada_tree.specs.declared.statements.ParMode.TheVariants.{Take, Give, Both}
use Rattle.ada_tree.specs.PlainExpr.{PExpr}
use Rattle.ada_value.specs.declared.values.Raised.{Raised}
use Rattle.ada_value.specs.declared.values.Value.{Value}
use Rattle.ada_value.specs.Values.{and_then}
use Rattle.ada_value.specs.Variables.{Variables, object_named, checked_for, set_value}
use Rattle.task_model.specs.declared.parameters.FormalParameter.{FormalParameter}
use Rattle.task_model.specs.Calls.{Copies, stored_back, copies_on, copied_one, copied_back, variable_of}
use Rattle.task_laws.specs.translation.Translations.{Programs, IsOld}
use Rattle.task_laws.specs.translation.OldNames.{OldExpr, old_integer, old_name, old_index, old_attribute, old_attribute_of, old_paren, old_unary, old_binary}
use Rattle.task_laws.specs.translation.OldTexts.{OldExprs, old_no_expr, old_expr}
use Rattle.normal_laws.proofs.runs.floors.Cells.{named-set_other}

-- the variable that an actual is has an old name
data OldVariable (b : Programs) : Option NameId → Type 0 where
  no_variable : OldVariable b None
  old_variable : (id : NameId) → IsOld b id → OldVariable b (Some id)

variable-old : {b : Programs} {e : PExpr} → OldExpr b e → OldVariable b (variable_of e)
variable-old (old_integer n s) = no_variable
variable-old (old_name id s old) = old_variable id old
variable-old (old_index w e s old j) = no_variable
variable-old (old_attribute m w s old) = no_variable
variable-old (old_attribute_of m w e s old j) = no_variable
variable-old (old_paren e s j) = no_variable
variable-old (old_unary op e s j) = no_variable
variable-old (old_binary op l r s j i) = no_variable

module _ (b : Programs) (id : NameId) (other : (name : NameId) → IsOld b name → (name.0 == id.0) ≡ false) where
  stored-keep : (more : Variables → Copies) → ((V : Variables) → object_named (more V).vars id ≡ object_named V id) → (V : Variables) {o : Option NameId} →
      OldVariable b o → (v : Value) →
      object_named (copies_on more V (stored_back V o v)).vars id ≡ object_named V id
  stored-keep more h V no_variable v = h V
  stored-keep more h V (old_variable name old) v = go (checked_for (object_named V name) v)
    where
      go : (r : Result Value Raised) → object_named (copies_on more V (and_then r (λ w. Ok (set_value V name 0 w)))).vars id ≡ object_named V id
      go (Ok u) = h (set_value V name 0 u) ∙ named-set_other V name 0 u id (other name old)
      go (Err e) = refl

  one-keep : (more : List Value → Variables → Copies) → ((vs : List Value) (V : Variables) → object_named (more vs V).vars id ≡ object_named V id) →
      (m : ParMode) {e : PExpr} → OldExpr b e →
      (vs : List Value) (V : Variables) → object_named (copied_one more m e vs V).vars id ≡ object_named V id
  one-keep more h Take old vs V = h vs V
  one-keep more h Give old [] V = refl
  one-keep more h Give old (v ∷ vs) V = stored-keep (λ W. more vs W) (λ W. h vs W) V (variable-old old) v
  one-keep more h Both old [] V = refl
  one-keep more h Both old (v ∷ vs) V = stored-keep (λ W. more vs W) (λ W. h vs W) V (variable-old old) v

  pub copies-keep : (fs : List FormalParameter) {es : List PExpr} → OldExprs b es → (vs : List Value) (V : Variables) →
      object_named (copied_back fs es vs V).vars id ≡ object_named V id
  copies-keep [] old vs V = refl
  copies-keep (formal ∷ fs) old_no_expr vs V = refl
  copies-keep (formal ∷ fs) (old_expr e es old more) vs V = one-keep (λ ws W. copied_back fs es ws W) (λ ws W. copies-keep fs more ws W) formal.mode old vs V

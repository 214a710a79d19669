-- A static index is worth the same wherever a task of the normal form and its image in the replay text stand.
use Rattle.std.proofs.Common.{◌≡◌, ◌&&◌, true, is_some, List, sym, ◌∙◌}
use Rattle.common_lemmas.proofs.Truth.{and_both}
use Rattle.ada_tree.specs.Attributes.{attribute_of}
use Rattle.ada_tree.specs.PlainExpr.{PExpr}
use Rattle.ada_static_rules.specs.StaticValue.{is_static, keeps_static, mark_named}
use Rattle.task_laws.specs.translation.Translations.{Programs}
use Rattle.task_laws.specs.translation.OldNames.{OldExpr, old_integer, old_name, old_index, old_attribute, old_attribute_of, old_paren, old_unary, old_binary}
use Rattle.task_laws.specs.translation.Fixed.{FixedExpr, fixed_integer, fixed_name, fixed_attribute, fixed_attribute_of, fixed_paren, fixed_unary, fixed_binary}
use Rattle.task_laws.proofs.translation.Fixed.{fixed-before, fixed-worth}
use Rattle.task_laws.proofs.translation.Evaluating.{value-alike}
use Rattle.event_machine.specs.declared.Event.{Event}
use Rattle.ada_tree.specs.PlainProgram.{PProgram}
use Rattle.ada_tree.specs.TypeTable.{TypeTable}
use Rattle.replay_runs.specs.starts.Formals.{form_setting}
use Rattle.replay_runs.specs.controls.translated.Laws.{form_and_text}
use Rattle.replay_runs.specs.controls.formed.Laws.{LegalStaticIndicesStay}
use Rattle.replay_runs.proofs.controls.translated.Tables.{legal_types_agree}
use Rattle.replay_runs.proofs.controls.formed.Made.{same-value}

module _ (p : PProgram) (events : List Event) where
  abbrev b : Programs
  b = form_and_text p events

  abbrev T : TypeTable
  T = (form_setting p).types

  -- names of constants and of literals alone stand in a static expression
  static-fixed : {e : PExpr} → OldExpr b e → is_static T e ≡ true → FixedExpr b e
  static-fixed (old_integer n s) h = fixed_integer n s
  static-fixed (old_name id s o) h = fixed_name id s o h
  static-fixed (old_index w e s o k) h = absurd (let n : ⊥ = cc in n)
  static-fixed (old_attribute m w s o) h = fixed_attribute m w s
  static-fixed (old_attribute_of m w e s o k) h = fixed_attribute_of m w e s (static-fixed k (and_both (keeps_static (attribute_of w.name) && is_some (mark_named T m.name)) (is_static T e) h).1)
  static-fixed (old_paren e s k) h = fixed_paren e s (static-fixed k h)
  static-fixed (old_unary op e s k) h = fixed_unary op e s (static-fixed k h)
  static-fixed (old_binary op l r s k j) h = let both = and_both (is_static T l) (is_static T r) h in fixed_binary op l r s (static-fixed k both.0) (static-fixed j both.1)

pub legal_static_indices_stay : LegalStaticIndicesStay
legal_static_indices_stay p events h V V' see x old static v worth =
    let b : Programs = form_and_text p events in
    let here = fixed-worth b (form_setting p).types V (λ id o f. fixed-before b see id o f) (static-fixed p events old static) ∙ worth in
    (here, sym (same-value b (value-alike b (legal_types_agree p events h) see old)) ∙ here)

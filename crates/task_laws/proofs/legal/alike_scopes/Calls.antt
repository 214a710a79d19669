-- A callee that is a single task in both scopes, and a call of an old entry of it, are met in the one where they are met in the other.
use Rattle.std.proofs.Common.{◌≡◌, if◌then◌else◌, [], ◌∷◌, ◌++◌, Option, Some, None, is_some, refl, sym, ap, ◌∙◌}
use Rattle.ada_tree.specs.PlainExpr.{PExpr}
use Rattle.ada_static_rules.specs.Scope.{Scope, meaning}
use Rattle.ada_static_rules.specs.RuleUnknown.{missing, unknown_entry}
use Rattle.ada_static_rules.specs.RuleMismatch.{no_task, misfit_member}
use Rattle.ada_static_rules.specs.RuleRangeBad.{member_range, member_out_of}
use Rattle.ada_static_rules.specs.RuleArgCount.{index_of_callee, called_entry, wrong_call}
use Rattle.task_laws.specs.legal.alike_scopes.Laws.{TasksRefuseSame, CallsRefuseSame, CalledIsSame, FewerAreAlike}
use Rattle.task_laws.proofs.legal.alike_scopes.Nodes.{empty-too}

-- a single task is no array, so nothing is asked of the range of an index
no-range : (t : Scope) (e : Option PExpr) → member_out_of t e None ≡ []
no-range t (Some e) = refl
no-range t None = refl

pub called_is_same : CalledIsSame
called_is_same old a b id h o = ap (λ x. called_entry x id) h.left_means ∙ h.entries id o ∙ sym (ap (λ x. called_entry x id) h.right_means)

pub tasks_refuse_same : TasksRefuseSame
tasks_refuse_same old s t c h m = record {
  known = ap (λ x. if is_some x then [] else c.name.span ∷ []) h.right_means;
  matched = ap (λ x. no_task x c.name ++ misfit_member t x c.index) h.right_means;
  static = refl;
  ranged = ap (λ x. member_out_of t c.index (member_range x)) h.right_means ∙ no-range t c.index;
  variable = refl;
  readable = refl;
  counted = ap (λ x. index_of_callee x c.index c.name.span) h.right_means ∙ sym (ap (λ x. index_of_callee x c.index c.name.span) h.left_means) ∙ m.counted;
  chosen = refl;
  arrays = refl;
  texts = refl;
  exceptions = refl;
}

pub calls_refuse_same : CallsRefuseSame
calls_refuse_same old s t c h o m = record {
  known =
      ap (λ x. unknown_entry x c.entry) h.right_means
      ∙ ap (λ e. missing e c.entry) (sym (h.entries c.entry.name o))
      ∙ sym (ap (λ x. unknown_entry x c.entry) h.left_means)
      ∙ m.known;
  matched = refl;
  static = refl;
  ranged = refl;
  variable = refl;
  readable = refl;
  counted = empty-too (ap (λ e. wrong_call e c.args c.entry.span) (called_is_same old (meaning s c.task.name.name) (meaning t c.task.name.name) c.entry.name h o)) m.counted;
  chosen = refl;
  arrays = refl;
  texts = refl;
  exceptions = refl;
}

pub fewer_are_alike : FewerAreAlike
fewer_are_alike old fewer h s t a = record {
  names = record {
    types = record {
      values = λ id o. a.names.types.values id (h id.0 o);
      marks = λ id o. a.names.types.marks id (h id.0 o);
      mark_kinds = λ id m o e. a.names.types.mark_kinds id m (h id.0 o) e;
      kinds = a.names.types.kinds;
      first_marks = a.names.types.first_marks;
      integers = a.names.types.integers;
      truths = a.names.types.truths;
    };
    things = λ id o. a.names.things id (h id.0 o);
  };
  own = λ id o. a.own id (h id.0 o);
  main = a.main;
}

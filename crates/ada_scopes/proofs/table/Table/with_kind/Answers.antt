use Rattle.std.proofs.Common.{ap, sym, ◌∙◌, ◌==◌, ◌++◌, ◌∷◌, [], position}
use Rattle.ada_static_rules.specs.StaticValue.{constant_named, mark_named}
use Rattle.ada_scopes.proofs.Keeping.{kind_kept}
use Rattle.ada_scopes.proofs.table.Table.with_kind.Goals as goal

pub invariant_of-result : goal.invariant_of-result
invariant_of-result c = record {
  constants_are = λ id. c.self.invariant.constants_are id ∙ ap (λ t. constant_named t id) (sym c.types.view_is);
  literals_are = kind_kept c.self.inside.types.kinds c.push.new.self.items c.args.kind c.self.inside.literals c.keep_positions.new.map (c.in_ok-push.ensures.items ∙ ap (λ t. t.kinds ++ c.args.kind ∷ []) c.types.view_is) c.self.invariant.literals_are c.in_ok-keep_positions.ensures;
  named_are = λ id. c.self.invariant.named_are id ∙ ap (λ t. mark_named t id) (sym c.types.view_is);
  firsts_are = λ k. c.self.invariant.firsts_are k ∙ ap (λ t. position (λ m. m.kind == k) t.marks) (sym c.types.view_is);
}

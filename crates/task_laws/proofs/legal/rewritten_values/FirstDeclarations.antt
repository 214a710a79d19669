-- A program and its first declarations are as the laws ask.
use Rattle.std.specs.Prelude.{ℕ, Bool}
use Rattle.ada_tree.specs.WellPlaced.{BodiesLast, HasTokens}
use Rattle.ada_tree.specs.PlainDecl.{no_decl}
use Rattle.ada_tree.specs.PlainProgram.{PProgram}
use Rattle.ada_static_rules.specs.Declaring.{first_scope}
use Rattle.ada_static_rules.specs.Refusals.{MeetsTypeRules}
use Rattle.task_laws.specs.legal.rewritten_types.Rewriting.{staying}
use Rattle.task_laws.proofs.legal.rewritten_types.Refused.{declared_once}
use Rattle.task_laws.proofs.legal.rewritten_types.Rooting.{rewritten_is_rooted, rooted_agrees}
use Rattle.task_laws.proofs.legal.rewritten_types.Staying.{staying_is_front}
use Rattle.task_laws.specs.legal.rewritten_values.Laws.{IsMet}
use Rattle.task_laws.proofs.legal.rewritten_values.Named.{literals_are_named}

pub is_met : IsMet
is_met old p rules last tokens =
    let first = staying (first_scope p.name) p.decls in
    let front = staying_is_front p rules last in
    record {
      once = declared_once p rules;
      front = front;
      agree = rooted_agrees old _ _ _ (rewritten_is_rooted old p.name p.decls first no_decl front tt);
      literals = literals_are_named p tokens;
    }

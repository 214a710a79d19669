-- The body of a unit by ids is that of the definitions, where the ids are theirs.
use Rattle.std.proofs.Common.{◌≡◌, ℕ, refl, ap}
use Rattle.ada_tree.specs.declared.naming.Span.{Span}
use Rattle.ada_tree.specs.PlainStmt.{PBody}
use Rattle.normal_model.specs.RewrittenUnit.{RewrittenUnit}
use Rattle.replay_model.specs.ReplayStmts.{replay_rewriter, replay_body}
use Rattle.tree_rewriting.specs.walking.Rules.{walk_of}
use Rattle.replay_statements.specs.rules.Replayed.{rule_of, asking_at_end, body_image}
use Rattle.replay_statements.specs.rules.Meant.{voice_in}
use Rattle.replay_statements.proofs.rules.Voices.{image-is}
use Rattle.replay_statements.proofs.rules.Still.{Keeps, alike_body}

keeps_rule : (u : RewrittenUnit) → Keeps ℕ (walk_of (rule_of (voice_in u))) 0
keeps_rule u = record { entered_stmt = λ x. refl; entered_alternative = λ x. refl; lead = λ x. refl; left_alternative = λ x. refl }

keeps_unit : (u : RewrittenUnit) → Keeps RewrittenUnit replay_rewriter u
keeps_unit u = record { entered_stmt = λ x. refl; entered_alternative = λ x. refl; lead = λ x. refl; left_alternative = λ x. refl }

pub body-is : (u : RewrittenUnit) (s : Span) (b : PBody) → body_image (voice_in u) s b ≡ replay_body u s b
body-is u s b =
    ap (asking_at_end (voice_in u) s) (alike_body (walk_of (rule_of (voice_in u))) 0 (keeps_rule u) replay_rewriter u (keeps_unit u) (image-is u) b)

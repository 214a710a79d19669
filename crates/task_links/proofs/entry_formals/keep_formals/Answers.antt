use Rattle.std.proofs.Common.{sym, ◌∙◌, map}
use Rattle.ada_tree.specs.PlainStmt.{plain_formal}
use Rattle.task_model.specs.Setting.{parameters_of}
use Rattle.task_links.proofs.UnitsLemmas.{kept_before, kept_now}
use Rattle.task_links.proofs.entry_formals.keep_formals.Goals as goal

pub returns-then-known : goal.returns-then-known
returns-then-known c = λ q. kept_before c.args.kept.now c.args.key q (parameters_of c.args.names.now (map plain_formal c.args.formals.now)) (sym c.contains_key-known.ensures ∙ c.if-known.true)

pub returns-in-Ok : goal.returns-in-Ok
returns-in-Ok c = λ q.
    kept_now c.args.kept.now c.insert.new.self c.args.key q c.in_ok-parameters.parameters (parameters_of c.args.names.now (map plain_formal c.args.formals.now))
    (sym c.contains_key-known.ensures ∙ c.if-known.false) (c.in-Ok.ensures.updates.0 q) c.in_ok-parameters.ensures

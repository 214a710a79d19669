-- A task of the normal form whose lost call has left other values in variables is one of the normal form.
use Rattle.std.proofs.Common.{◌≡◌, ℕ, true, List, Option, Some, None, Result, Ok, Err, refl, sym, true≢false}
use Rattle.ada_tree.specs.PlainStmt.{PCall, PStmts, no_stmt, stmt_then}
use Rattle.ada_tree.specs.PlainProgram.{PProgram}
use Rattle.ada_value.specs.declared.values.Value.{Value}
use Rattle.ada_value.specs.declared.values.Raised.{Raised}
use Rattle.ada_value.specs.Variables.{Variables}
use Rattle.task_model.specs.Setting.{entry_parameters, lists_of}
use Rattle.task_model.specs.Frames.{Around, OwnBody, Block, Handling, Loop, Opened, control, settled_in}
use Rattle.task_model.specs.Tasks.{Task, rest_of, place_of, outer_of, vars_of, with_vars}
use Rattle.task_model.specs.Calls.{Called, called, call_in}
use Rattle.task_model.specs.Stands.{stand_behind, stand_with, offered, offer_of}
use Rattle.task_model.specs.Rendezvous as rendezvous
use Rattle.task_laws.specs.statements.Blocks.{HasLeftBlocks}
use Rattle.task_laws.specs.statements.variables.Held.{AreKept}
use Rattle.task_laws.proofs.statements.variables.Kept.{all-kept, copied-kept}
use Rattle.task_laws.proofs.statements.variables.Steps.{changes}
use Rattle.run_laws.specs.collecting.Settings.{is_call}
use Rattle.replay_structure.specs.legal.names.form_units.Inner.{inner_name}
use Rattle.replay_runs.specs.starts.Laws.{start_before}
use Rattle.replay_runs.specs.controls.meanings.Pairs.{IsOfForm}

-- where values come back the variables are kept
copies-kept : (t : Task) (values : List Value) → AreKept (vars_of t) (rendezvous.copies_of t values).vars
copies-kept t values = by_call (call_in (rest_of t))
  where
    ended : (call : PCall) (r : Result Called Raised) → AreKept (vars_of t) (rendezvous.call_ended t call r values).vars
    ended call (Ok c) = copied-kept (entry_parameters t.setting c.entry) (lists_of t.setting.numbers c.entry call.args).actuals values (vars_of t)
    ended call (Err x) = all-kept (vars_of t)

    by_call : (o : Option PCall) → AreKept (vars_of t) (rendezvous.copies_at t o values).vars
    by_call None = all-kept (vars_of t)
    by_call (Some call) = ended call (called t.setting (vars_of t) call)

-- a task at a call stands at the end of no block, whatever its variables
left-with : (t : Task) (V : Variables) → is_call (offer_of t) ≡ true → HasLeftBlocks (with_vars t V)
left-with t V at = go (rest_of t) at
  where
    behind : (q : Around) → is_call (offered (stand_behind q)) ≡ true → ⊥
    behind (OwnBody handlers taken) e = true≢false (sym e)
    behind (Block handlers) e = true≢false (sym e)
    behind (Handling x) e = true≢false (sym e)
    behind (Loop name turns stmts) e = true≢false (sym e)
    behind (Opened caller formals pending) e = true≢false (sym e)

    go : (r : PStmts) → is_call (offered (stand_with t r (place_of t))) ≡ true → settled_in (outer_of t) r (place_of t) V ≡ control r (place_of t)
        (outer_of t) V
    go no_stmt e = absurd (behind (place_of t) e)
    go (stmt_then s rest) e = refl

-- So it is one of the normal form with what came back.
pub with-lost : (p : PProgram) (t : ℕ) (σ : Task) (values : List Value) → IsOfForm p t σ → is_call (offer_of σ) ≡ true → IsOfForm p t (with_vars σ
    (rendezvous.copies_of σ values).vars)
with-lost p t σ values own at =
    let V : Variables = (rendezvous.copies_of σ values).vars in
    record {
      there = own.there;
      number = own.number;
      left = left-with σ V at;
      formed = record { rest = own.formed.rest; place = own.formed.place; outer = own.formed.outer };
      exits = record { rest = own.exits.rest; place = own.exits.place; outer = own.exits.outer };
      simply = record { rest = own.simply.rest; place = own.simply.place; outer = own.simply.outer };
      variables = record {
        inner = record { rest = own.variables.inner.rest; place = own.variables.inner.place; outer = own.variables.inner.outer };
        variables = changes (inner_name p) (start_before p t) σ V (copies-kept σ values) own.variables.variables;
      };
    }

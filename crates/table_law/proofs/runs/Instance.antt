-- The controller of the example runs in its program.
use Rattle.std.proofs.Common.{◌≡◌, ℕ, zero, suc, ◌-◌, true, if◌then◌else◌, [], ◌∷◌, None, Some, refl, sym, subst, arith}
use Rattle.std.specs.Prelude.{slice_get}
use Rattle.common_lemmas.proofs.Numbers.{next_not_zero, unequal_above}
use Rattle.ada_tree.specs.PlainStmt.{PHead, PStmt}
use Rattle.syn_event.specs.Numbering.{task_at}
use Rattle.task_model.specs.Setting.{Setting, entry_parameters, parameters_of, formals_of_info}
use Rattle.task_model.specs.Starting.{unit_of, unit_of_info}
use Rattle.task_model.specs.Machine.{setting_of}
use Rattle.task_laws.specs.invariants.AcceptHeads as heads
use Rattle.task_laws.specs.invariants.Holding.{AreAlike, LowersFit}
use Rattle.task_laws.specs.invariants.Worlds.{Conforms}
use Rattle.task_laws.specs.statements.Each as each
use Rattle.normal_model.specs.Making.{one}
use Rattle.normal_model.specs.Ranges.{word_at}
use Rattle.replay_model.specs.declared.tables.columns.Column.TheVariants.{Task as TaskColumn}
use Rattle.replay_model.specs.tables.ControlTexts.{with_control_names}
use Rattle.replay_model.specs.tables.Tables.{control_objects}
use Rattle.replay_model.specs.tables.ControlBodies.{control_block}
use Rattle.replay_model.specs.tables.Turns.{line_of, permit_formals, going, hearing, joining, turn}
use Rattle.table_law.specs.Examples.{here, ids, names, own_tasks, operations, program, numbers, controller, entries}
use Rattle.table_law.proofs.Examples.{example_is_controller, example_makes}
use Rattle.table_law.specs.runs.Permits.{IsNoJoin, AcceptsNoJoin, RunsIn}
use Rattle.table_law.specs.runs.Bodies.{HasBody}
use Rattle.table_law.specs.runs.Example.{setup}

abbrev g : Setting
g = setting_of setup numbers

-- the accept statements of the controller, without their statements
abbrev go_head : PHead
go_head = record { entry = word_at here ids.go; index = Some (line_of ids here TaskColumn); formals = permit_formals ids here; span = here }

abbrev done_head : PHead
done_head = record { entry = word_at here ids.done; index = Some (line_of ids here TaskColumn); formals = []; span = here }

-- ---- what holds of both holds in all statements of the controller

module _ (Head : PHead → Type 0) (go : Head go_head) (done : Head done_head) where
  in_going : heads.InStmts Head (one (going ids here))
  in_going = ((go, (tt, (tt, (tt, tt)))), tt)

  in_hearing : heads.InStmts Head (one (hearing ids here))
  in_hearing = ((done, tt), tt)

  in_joining : heads.InStmts Head (one (joining ids own_tasks here))
  in_joining = ((((((tt, tt), ((tt, tt), tt)), tt), tt), (tt, tt)), tt)

  in_turn : heads.InStmts Head (one (turn ids own_tasks here))
  in_turn = (((in_going, (in_hearing, tt)), in_joining), tt)

  pub in_body : heads.InBody Head (control_block ids own_tasks here operations)
  in_body = ((in_turn, tt), tt)

  -- and so of each statement

  abbrev pub Each : each.Loops → PStmt → Type 0
  Each loops s = heads.InStmt Head s

  each_going : (loops : each.Loops) → each.InStmts Each loops (one (going ids here))
  each_going loops = ((in_going.0, ((tt, tt), ((tt, tt), ((tt, tt), tt)))), tt)

  each_hearing : (loops : each.Loops) → each.InStmts Each loops (one (hearing ids here))
  each_hearing loops = ((in_hearing.0, tt), tt)

  each_joining : (loops : each.Loops) → each.InStmts Each loops (one (joining ids own_tasks here))
  each_joining loops =
      ((in_joining.0, ((((((tt, tt), ((tt, tt), tt)), (((tt, tt), tt), (((tt, tt), tt), tt))), tt), tt), ((tt, tt), tt))), tt)

  each_turn : (loops : each.Loops) → each.InStmts Each loops (one (turn ids own_tasks here))
  each_turn loops = ((in_turn.0, ((each_going loops, (each_hearing loops, tt)), each_joining loops)), tt)

  pub each_body : each.InBody Each [] (control_block ids own_tasks here operations)
  each_body = (((in_turn, each_turn (None ∷ [])), tt), tt)

-- ---- the program is well made

alike : AreAlike (entry_parameters g 2) (parameters_of g.types (permit_formals ids here))
unfolding with_control_names
alike = ((refl, refl), ((refl, refl), ((refl, refl), tt)))

conforms : (t : ℕ) → heads.InBody (Conforms g t) (unit_of program numbers t).body
unfolding with_control_names
conforms zero = ((tt, tt), tt)
conforms (suc zero) = ((tt, tt), tt)
conforms (suc (suc zero)) = in_body (Conforms g 2) alike tt
conforms (suc (suc (suc t))) =
    subst (λ b. heads.InBody (Conforms g (suc (suc (suc t)))) (if b then record { in_main = true; decls = program.decls; body = program.body } else unit_of_info program (task_at numbers (suc (suc (suc t))))).body)
    (sym (next_not_zero (suc (suc t)))) (tt, tt)

lowers : (e : ℕ) → LowersFit g.types (entry_parameters g e)
unfolding with_control_names
lowers zero = tt
lowers (suc zero) = tt
lowers (suc (suc zero)) = (refl, (refl, (refl, tt)))
lowers (suc (suc (suc zero))) = tt
lowers (suc (suc (suc (suc zero)))) = tt
lowers (suc (suc (suc (suc (suc e))))) =
    let same : suc (suc (suc (suc (suc e)))) - 1 ≡ suc (suc (suc (suc e))) = omega arith in
    subst (λ b. LowersFit g.types (parameters_of g.types (formals_of_info g (if b then None else slice_get numbers.entries (suc (suc (suc (suc (suc e)))) - 1)))))
    (sym (next_not_zero (suc (suc (suc (suc e))))))
    (subst (λ n. LowersFit g.types (parameters_of g.types (formals_of_info g (slice_get numbers.entries n)))) (sym same) tt)

-- ---- nobody accepts DED_JOIN

no-join : (t : ℕ) → each.InBody (AcceptsNoJoin controller entries t) [] (unit_of program numbers t).body
unfolding with_control_names
no-join zero = (((tt, tt), tt), tt)
no-join (suc zero) = (((tt, tt), tt), tt)
no-join (suc (suc zero)) = each_body (IsNoJoin controller entries 2) (λ j l. unequal_above 2 j l) (λ j l. unequal_above 3 j (omega (arith, l)))
no-join (suc (suc (suc t))) =
    subst (λ b. each.InBody (AcceptsNoJoin controller entries (suc (suc (suc t)))) [] (if b then record { in_main = true; decls = program.decls; body = program.body } else unit_of_info program (task_at numbers (suc (suc (suc t))))).body)
    (sym (next_not_zero (suc (suc t)))) (tt, tt)

pub example_runs : RunsIn setup numbers controller entries operations
unfolding with_control_names
example_runs = record {
  setting = refl;
  number = omega arith;
  unit = refl;
  input = refl;
  output = refl;
  is = example_is_controller;
  can = example_makes;
  well = record { conforms = conforms; lowers = lowers };
  no_join = no-join;
}

pub example_has : HasBody (control_objects ids here operations) (control_block ids own_tasks here operations) operations own_tasks here names setup numbers 2 entries
unfolding with_control_names
example_has = record {
  begins = refl;
  number = omega arith;
  unit = refl;
  is = example_is_controller;
  can = example_makes;
  well = record { conforms = conforms; lowers = lowers };
  no_join = no-join;
}

-- A program in which the body that is defined is that of a task runs the controller there.
use Rattle.std.proofs.Common.{◌≡◌, ℕ, false, List, [], ◌++◌, length, take, drop, refl, sym, ap, ◌∙◌, subst}
use Rattle.std.specs.List.{AllByRecursion}
use Rattle.std.proofs.lemmas.List.{take-append-drop}
use Rattle.ada_tree.specs.declared.naming.Span.{Span}
use Rattle.ada_tree.specs.PlainDecl.{decls_of}
use Rattle.syn_event.specs.declared.numbering.TaskInfo.{TaskInfo}
use Rattle.syn_event.specs.Numbering.{Numbering}
use Rattle.task_model.specs.Machine.{ProgramWithInputs}
use Rattle.task_model.specs.Starting.{Unit as TaskUnit}
use Rattle.control_script.specs.declared.Op.{Op}
use Rattle.replay_model.specs.declared.tables.names.ControlNames.{ControlNames}
use Rattle.replay_model.specs.Names.{kind_text, argument_text, index_text, go_text, done_text, hold_text, join_text, operations_text, tasks_text, kinds_text, arguments_text, indices_text, counter_text}
use Rattle.replay_model.specs.tables.ControlTexts.{control_texts, with_control_names, ids_in}
use Rattle.replay_model.specs.tables.Tables.{control_objects}
use Rattle.replay_model.specs.tables.ControlBodies.{control_block}
use Rattle.table_law.specs.Controllers.{Entries}
use Rattle.table_law.proofs.Interned.{Has, id-longer}
use Rattle.table_law.proofs.Apart.{control_names_are_there}
use Rattle.table_law.proofs.Making.{controllers_make_operations}
use Rattle.table_law.specs.runs.Permits.{RunsIn}
use Rattle.table_law.specs.runs.Bodies.{controller_in, HasBody, Permits, BodiesPermit}
use Rattle.table_law.proofs.runs.Always.{always_stands, always_goes_on}

-- the ids of the controller's names are the same where more names follow
ids-longer : (names more : List (List ℕ)) → AllByRecursion (Has names) control_texts → ids_in (names ++ more) ≡ ids_in names
ids-longer names more (kind, (argument, (index, (go, (done, (hold, (join, (operations, (tasks, (kinds, (arguments, (indices, (counter, end))))))))))))) = λ i. record {
  kind = id-longer names more kind_text kind i;
  argument = id-longer names more argument_text argument i;
  index = id-longer names more index_text index i;
  go = id-longer names more go_text go i;
  done = id-longer names more done_text done i;
  hold = id-longer names more hold_text hold i;
  join = id-longer names more join_text join i;
  operations = id-longer names more operations_text operations i;
  tasks = id-longer names more tasks_text tasks i;
  kinds = id-longer names more kinds_text kinds i;
  arguments = id-longer names more arguments_text arguments i;
  indices = id-longer names more indices_text indices i;
  counter = id-longer names more counter_text counter i;
}

module _ (ops : List Op) (infos : List TaskInfo) (s : Span) (before : List (List ℕ)) where
  abbrev names : List (List ℕ)
  names = with_control_names before

  abbrev Has-it : ProgramWithInputs → Numbering → ℕ → Entries → Type 0
  Has-it setup numbers c e = HasBody (control_objects (ids_in names) s ops) (control_block (ids_in names) infos s ops) ops infos s names setup numbers c e

  same-ids : (setup : ProgramWithInputs) → take (length names) setup.program.names ≡ names → ids_in names ≡ ids_in setup.program.names
  same-ids setup begins =
      let rest : List (List ℕ) = drop (length names) setup.program.names in
      let whole : names ++ rest ≡ setup.program.names = ap (λ ns. ns ++ rest) (sym begins) ∙ take-append-drop (length names) setup.program.names in
      sym (ids-longer names rest (control_names_are_there before)) ∙ ap ids_in whole

  runs : (setup : ProgramWithInputs) (numbers : Numbering) (c : ℕ) (e : Entries) → Has-it setup numbers c e → RunsIn setup numbers (controller_in setup numbers c infos s) e ops
  runs setup numbers c e h = record {
    setting = refl;
    number = h.number;
    unit = h.unit ∙ ap (λ (ids : ControlNames). record { in_main = false; decls = decls_of (control_objects ids s ops); body = control_block ids infos s ops }) (same-ids setup h.begins);
    input = refl;
    output = refl;
    is = h.is;
    can = h.can;
    well = h.well;
    no_join = h.no_join;
  }

pub bodies_permit : BodiesPermit
bodies_permit ops infos s before = record {
  makes = λ setup numbers c e h. controllers_make_operations (controller_in setup numbers c infos s) e h.is;
  stands = λ setup numbers c e h. always_stands setup numbers (controller_in setup numbers c infos s) e ops (runs ops infos s before setup numbers c e h);
  goes_on = λ setup numbers c e h. always_goes_on setup numbers (controller_in setup numbers c infos s) e ops (runs ops infos s before setup numbers c e h);
}

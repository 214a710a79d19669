-- A program whose numbers are as the laws ask: two tasks of a type in an array, and a task of its own.
use Rattle.std.specs.Prelude.{◌≡◌, ℕ, Bool, true, false, map, [], ◌∷◌, ◌++◌, codes, None, refl}
use Rattle.std.specs.Fmt.{digits}
use Rattle.std.proofs.Common.{arith}
use Rattle.ada_tree.specs.declared.naming.Span.{Span}
use Rattle.ada_tree.specs.declared.naming.Word.{Word}
use Rattle.ada_tree.specs.NameList.{predefined}
use Rattle.ada_tree.specs.PlainExpr.{EInteger, RGiven}
use Rattle.ada_tree.specs.PlainStmt.{SNull, no_stmt, stmt_then, PBody, body, no_handler}
use Rattle.ada_tree.specs.PlainDecl.{OArray, PDecl, DObject, DTask, DTaskBody, no_decl, decls_of}
use Rattle.ada_tree.specs.PlainProgram.{PProgram}
use Rattle.ada_static_rules.specs.Refusals.{types_in}
use Rattle.syn_event.specs.declared.numbering.TaskInfo.{TaskInfo}
use Rattle.syn_event.specs.AllNumbers.{all_numbers}
use Rattle.task_model.specs.Setting.{Setting}
use Rattle.normal_model.specs.Names.{task_name}
use Rattle.normal_model.specs.NormalTree.{tasks_beside}
use Rattle.normal_laws.specs.structure.types.Laws.{IsOrdered, setting_of}
use Rattle.normal_laws.specs.structure.units.Laws.{TellUnits, IsMet}

abbrev o : Span
o = record { start = 0; end = 0 }

abbrev w : ℕ → Word
w id = record { name = record { 0 = id }; span = o }

abbrev nothing : PBody
nothing = body (stmt_then (SNull o) no_stmt) no_handler

abbrev task : ℕ → Bool → PDecl
task id kind = DTask record { name = w id; of_kind = kind; entries = []; priorities = [] } o

-- `task type W; A : array (1 .. 2) of W; task T;` and the two bodies
abbrev pub original : PProgram
original = record {
  names = predefined ++ codes "P" ∷ codes "W" ∷ codes "A" ∷ codes "T" ∷ [];
  text_io = false;
  name = w 25;
  decls = decls_of (
      task 26 true ∷ DObject (w 27 ∷ []) false (OArray (RGiven record { first = EInteger 1 o; last = EInteger 2 o }) record { mark = w 26; bounds = None }) None o
      ∷ task 28 false ∷ DTaskBody (w 26) no_decl nothing o ∷ DTaskBody (w 28) no_decl nothing o ∷ []);
  body = nothing;
}

abbrev setting : Setting
setting = setting_of original (types_in original) (all_numbers (types_in original) original)

-- the members are A_DED_1 and A_DED_2
names : map (λ (i : TaskInfo). (task_name setting i).0) (tasks_beside setting) ≡ 29 ∷ 30 ∷ 28 ∷ []
unfolding digits
names = refl

units : map (λ (i : TaskInfo). i.unit.0) (tasks_beside setting) ≡ 26 ∷ 26 ∷ 28 ∷ []
units = refl

tell : TellUnits setting
unfolding digits
tell = record {
  declared = (refl, (refl, (refl, tt)));
  named = (
    ((λ e. refl), ((λ e. refl), ((λ e. let y : ⊥ = omega arith in absurd y), tt))),
    (
      ((λ e. refl), ((λ e. refl), ((λ e. let y : ⊥ = omega arith in absurd y), tt))),
      (((λ e. let y : ⊥ = omega arith in absurd y), ((λ e. let y : ⊥ = omega arith in absurd y), ((λ e. refl), tt))), tt),
    ),
  );
}

ordered : IsOrdered original
ordered = record { rules = refl; last = (tt, tt) }

pub is_met : IsMet
is_met = (original, ordered, tell, refl)

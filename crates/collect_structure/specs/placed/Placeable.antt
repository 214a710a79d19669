-- What well-placedness of a collecting text hangs on (this project's rule): what that of a replay text does, that a call of a family has an index, and that owners of entries have literals.
use Rattle.std.specs.Prelude.{◌≡◌, ℕ, true, Option, Some, None}
use Rattle.std.specs.List.{AllByRecursion}
use Rattle.ada_tree.specs.Lexical.{IsInteger}
use Rattle.ada_tree.specs.PlainStmt.{PArgs}
use Rattle.ada_tree.specs.PlainDecl.{PDecl, DTaskBody}
use Rattle.syn_event.specs.Numbering.{owner_of}
use Rattle.syn_event.specs.DeclaredTasks.{decl_list}
use Rattle.task_model.specs.Setting.{Setting, is_family}
use Rattle.normal_model.specs.Calls.{entry_called}
use Rattle.normal_model.specs.NormalTree.{main_unit, unit_for}
use Rattle.normal_model.specs.RewrittenUnit.{RewrittenUnit}
use Rattle.task_laws.specs.legal.asked.Asked.{Asks, AskedBody}
use Rattle.task_laws.specs.legal.asked.Kinds.{no_asks}
use Rattle.normal_laws.specs.structure.placed.Placeable.{IsName}
use Rattle.replay_structure.specs.placed.Placeable.{IsReplayPlaceable}

-- lists stand there
abbrev pub HasLists : Option PArgs → Type 0
HasLists (Some args) = Prim.Unit {0}
HasLists None = ⊥

-- What is asked of calls alone: where the entry is a family, lists stand there.
abbrev pub tell_asks : RewrittenUnit → Asks (Prim.Unit {0})
tell_asks u = record no_asks { call = λ c k x. is_family u.setting.numbers (entry_called u.setting x) ≡ true → HasLists x.args }

-- the statements of a body are so
abbrev pub TellsDecl : Setting → PDecl → Type 0
TellsDecl g (DTaskBody w objects its s) = AskedBody (tell_asks (unit_for g w.name)) tt 1 its
TellsDecl g _ = Prim.Unit {0}

-- What is asked of a normal form with its numbers and the program's types.
pub record IsCollectPlaceable (g : Setting) : Type 0 where
  pub ready : IsReplayPlaceable g
  pub named : IsName g.program.names g.numbers.main
  pub main : AskedBody (tell_asks (main_unit g)) tt 1 g.program.body
  pub decls : AllByRecursion (TellsDecl g) (decl_list g.program.decls)
  pub owners : (e : ℕ) → IsInteger (owner_of g.numbers e)

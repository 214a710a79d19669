-- What stands around the statements of a unit in the normal form, beside what stands around them in the program, for the rules 13 to 23 (this project's rule).
use Rattle.std.specs.Prelude.{◌≡◌, ℕ, ◌<◌, ◌≤◌, Bool, true, List, [], length, slice_get, unwrap_or}
use Rattle.ada_tree.specs.declared.naming.NameId.{NameId}
use Rattle.ada_tree.specs.declared.naming.Span.{Span}
use Rattle.ada_tree.specs.declared.naming.Word.{Word}
use Rattle.ada_tree.specs.declared.static_types.Kind.TheVariants.{Enumeration}
use Rattle.ada_tree.specs.Attributes.{false_name, true_name}
use Rattle.ada_tree.specs.PlainExpr.{PExpr}
use Rattle.ada_tree.specs.PlainStmt.{PCallee}
use Rattle.ada_tree.specs.PlainDecl.{PDecl}
use Rattle.ada_tree.specs.Every.{Rules, no_rules, EveryExpr}
use Rattle.syn_event.specs.declared.numbering.TaskInfo.{TaskInfo}
use Rattle.syn_event.specs.CheckScope.{CheckScope, uses, addresses}
use Rattle.syn_event.specs.Extents.{fixed}
use Rattle.syn_event.specs.RuleAcceptPlace.{is_own_entry}
use Rattle.syn_event.specs.RuleMainEntry.{main_entry}
use Rattle.syn_event.specs.RuleSharedVariable.{shared_variable}
use Rattle.task_model.specs.Setting.{Setting}
use Rattle.normal_model.specs.Names.{variable_name, task_name}
use Rattle.normal_model.specs.NormalTree.{tasks_beside}
use Rattle.task_laws.specs.legal.asked.Asked.{Asks}
use Rattle.task_laws.specs.legal.asked.Kinds.{no_asks}
use Rattle.normal_laws.specs.structure.asked.Pieces.{IsAmong, IsTarget}

-- each name is one of the program's own, and each list has as many parts as the grammar asks at least
abbrev pub own_rules : (ℕ → Bool) → Rules
own_rules own = record no_rules { name = λ id. own id.0 ≡ true; parts = λ asked has. asked ≤ has }

-- ---- callees

-- the name of a task beside main
pub record IsBeside (g : Setting) (id : NameId) : Type 0 where
  pub info : TaskInfo
  pub among : IsAmong info (tasks_beside g)
  pub is : id ≡ task_name g info

-- each name that takes the place of a callee is that of a task beside main
abbrev pub AreBeside : Setting → PCallee → Type 0
AreBeside g x = (w : Word) → IsTarget g x w → IsBeside g w.name

-- what is asked of callees alone
abbrev pub callee_asks : Setting → Asks (Unit {0})
callee_asks g = record no_asks { callee = λ c k x. AreBeside g x }

-- ---- literals

-- a name that an index of a member has as its literal: of BOOLEAN or of an enumeration
pub data IsLiteralOf (g : Setting) (id : NameId) : Type 0 where
  is_false : id ≡ record { 0 = false_name } → IsLiteralOf g id
  is_true : id ≡ record { 0 = true_name } → IsLiteralOf g id
  is_enumerated : (ids : List NameId) (k : ℕ) → IsAmong (Enumeration ids) g.types.kinds → id ≡ unwrap_or (slice_get ids k) (record { 0 = 0 }) → IsLiteralOf g id

-- ---- what stands around

-- What stands around a place of a unit with these variables, in the program and in its normal form; some ids are those of the program's own names.
pub record IsAround (g : Setting) (own : ℕ → Bool) (vars : List PDecl) (c d : CheckScope) : Type 0 where
  -- what an own name means is no shared variable where it is none in the program, and no variable of the unit is one
  pub hidden : (id : NameId) (s : Span) → own id.0 ≡ true → shared_variable c (uses id s) ≡ [] → shared_variable d (uses id s) ≡ []
  pub variables : (k : ℕ) (s : Span) → k < length vars → shared_variable d (uses (variable_name g k) s) ≡ []
  pub literals : (id : NameId) (s : Span) → IsLiteralOf g id → shared_variable d (uses id s) ≡ []
  -- the names of tasks beside main are not those of the procedure or of a task type
  pub tasks : (info : TaskInfo) (s : Span) → IsAmong info (tasks_beside g) → main_entry d (addresses (record { name = task_name g info; span = s })) ≡ []
  -- the entries of the own task, the accepts, the loops and the handlers around
  pub entries : (id : NameId) → is_own_entry d.own id ≡ is_own_entry c.own id
  pub accepting : d.accepting ≡ c.accepting
  pub loops : d.loops ≡ c.loops
  pub in_handler : d.in_handler ≡ c.in_handler
  -- the types of the program, by which the form is made, and static values of own names
  pub types : c.types ≡ g.types
  pub fixed : (k : ℕ) (e : PExpr) → EveryExpr (own_rules own) k e → fixed d.types e ≡ fixed c.types e

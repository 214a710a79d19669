-- The laws of scopes that are alike.
use Rattle.std.specs.Prelude.{◌≡◌, ℕ, Bool, true, false, List, [], Option}
use Rattle.ada_tree.specs.declared.naming.NameId.{NameId}
use Rattle.ada_tree.specs.declared.naming.Word.{Word}
use Rattle.ada_tree.specs.TypeTable.{TypeTable}
use Rattle.ada_tree.specs.PlainExpr.{PExpr, PDrange}
use Rattle.ada_tree.specs.PlainStmt.{PTarget, PCallee, PCall, PFormal}
use Rattle.ada_tree.specs.PlainDecl.{PDecls}
use Rattle.ada_static_rules.specs.Scope.{Scope, Thing, meaning}
use Rattle.ada_static_rules.specs.Demand.{Demand, node, addresses, calls, Site}
use Rattle.ada_static_rules.specs.ExprTypes.{kind_of}
use Rattle.ada_static_rules.specs.StaticValue.{is_static, value_of}
use Rattle.ada_static_rules.specs.Declaring.{inner_scope, with_formals, with_loop_parameter, after_objects, drange_kind, drange_range}
use Rattle.ada_static_rules.specs.Sites.{site}
use Rattle.ada_static_rules.specs.RuleUnknown.{unknown}
use Rattle.ada_static_rules.specs.RuleMismatch.{mismatch, target_kind}
use Rattle.ada_static_rules.specs.RuleNotStatic.{not_static}
use Rattle.ada_static_rules.specs.RuleRangeBad.{range_bad}
use Rattle.ada_static_rules.specs.RuleNotVariable.{not_variable}
use Rattle.ada_static_rules.specs.RuleReadOut.{read_out}
use Rattle.ada_static_rules.specs.RuleArgCount.{called_entry, arg_count}
use Rattle.ada_static_rules.specs.RuleChoiceBad.{selected_range, choice_bad}
use Rattle.ada_static_rules.specs.RuleArrayUse.{array_in_node, array_use}
use Rattle.ada_static_rules.specs.RuleTextUse.{text_use}
use Rattle.ada_static_rules.specs.RuleNotException.{not_exception}
use Rattle.task_laws.specs.legal.rewritten_types.Agreement.{Rooted}
use Rattle.task_laws.specs.legal.alike_scopes.Alike.{SameTypes, SameNames, Alike, IsSameTask}
use Rattle.task_laws.specs.legal.alike_scopes.Old.{IsOldExpr, IsOldDrange, IsOldTarget, AreOldFormals, AreOldObjects, IsOldDemand}

-- None of the first twelve rules but rule 2 refuses anything at the place.
pub record IsMetBut (s : Site) : Type 0 where
  pub known : unknown s.scope s.demand ≡ []
  pub matched : mismatch s.scope s.demand ≡ []
  pub static : not_static s.scope s.demand ≡ []
  pub ranged : range_bad s.scope s.demand ≡ []
  pub variable : not_variable s.scope s.demand ≡ []
  pub readable : read_out s.scope s.demand ≡ []
  pub counted : arg_count s.scope s.demand ≡ []
  pub chosen : choice_bad s.scope s.demand ≡ []
  pub arrays : array_use s.scope s.demand ≡ []
  pub texts : text_use s.scope s.demand ≡ []
  pub exceptions : not_exception s.scope s.demand ≡ []

-- A demand that speaks of old names alone and is met in one of two scopes that are alike is met in the other.
abbrev pub AlikeRefusesSame : Type 0
AlikeRefusesSame = (old : ℕ → Bool) (s t : Scope) → Alike old s t → (d : Demand) → IsOldDemand old s d → IsMetBut (site s d) → IsMetBut (site t d)

-- So is a callee that is a single task in both scopes, and a call of an old entry of it; and that entry is the same.
abbrev pub TasksRefuseSame : Type 0
TasksRefuseSame = (old : ℕ → Bool) (s t : Scope) (c : PCallee) → IsSameTask old (meaning s c.name.name) (meaning t c.name.name) → IsMetBut (site s (addresses c)) → IsMetBut (site t (addresses c))

abbrev pub CallsRefuseSame : Type 0
CallsRefuseSame =
    (old : ℕ → Bool) (s t : Scope) (c : PCall) → IsSameTask old (meaning s c.task.name.name) (meaning t c.task.name.name) → old c.entry.name.0 ≡ true → IsMetBut (site s (calls c)) → IsMetBut (site t (calls c))

abbrev pub CalledIsSame : Type 0
CalledIsSame = (old : ℕ → Bool) (a b : Option Thing) (id : NameId) → IsSameTask old a b → old id.0 ≡ true → called_entry a id ≡ called_entry b id

-- Two tables that keep a sound one say the same of old names.
abbrev pub RootedIsSame : Type 0
RootedIsSame = (old : ℕ → Bool) (root T U : TypeTable) → Rooted old root T U → SameTypes old T U

-- ---- what an expression is

-- Its kind, and whether it is static and what its value is, are the same.
pub record SameExpr (s t : Scope) (e : PExpr) : Type 0 where
  pub kind : kind_of s e ≡ kind_of t e
  pub static : is_static s.types e ≡ is_static t.types e
  pub value : value_of s.types e ≡ value_of t.types e

abbrev pub ExprsAreSame : Type 0
ExprsAreSame = (old : ℕ → Bool) (s t : Scope) → SameNames old s t → (e : PExpr) → IsOldExpr old e → SameExpr s t e

-- So are the values of a selector that is no whole array.
abbrev pub SelectorsAreSame : Type 0
SelectorsAreSame = (old : ℕ → Bool) (s t : Scope) → SameNames old s t → (e : PExpr) → IsOldExpr old e → array_in_node s e ≡ [] → selected_range s e ≡ selected_range t e

-- So is the kind of a target, and the kind and the values of a discrete range.
abbrev pub TargetsAreSame : Type 0
TargetsAreSame = (old : ℕ → Bool) (s t : Scope) → SameNames old s t → (x : PTarget) → IsOldTarget old x → target_kind s x ≡ target_kind t x

pub record SameDrange (s t : Scope) (x : PDrange) : Type 0 where
  pub kind : drange_kind s x ≡ drange_kind t x
  pub range : drange_range s x ≡ drange_range t x

abbrev pub DrangesAreSame : Type 0
DrangesAreSame = (old : ℕ → Bool) (s t : Scope) → SameNames old s t → (x : PDrange) → IsOldDrange old x → SameDrange s t x

-- ---- what keeps two scopes alike

-- Where fewer names are old, two scopes are alike still.
abbrev pub FewerAreAlike : Type 0
FewerAreAlike = (old fewer : ℕ → Bool) → ((k : ℕ) → fewer k ≡ true → old k ≡ true) → (s t : Scope) → Alike old s t → Alike fewer s t

abbrev pub InsideIsAlike : Type 0
InsideIsAlike = (old : ℕ → Bool) (s t : Scope) → Alike old s t → Alike old (inner_scope s) (inner_scope t)

abbrev pub FormalsAreAlike : Type 0
FormalsAreAlike = (old : ℕ → Bool) (s t : Scope) → Alike old s t → (formals : List PFormal) → AreOldFormals old formals → Alike old (with_formals s formals) (with_formals t formals)

abbrev pub LoopIsAlike : Type 0
LoopIsAlike = (old : ℕ → Bool) (s t : Scope) → Alike old s t → (w : Word) (x : PDrange) → IsOldDrange old x → Alike old (with_loop_parameter s w x) (with_loop_parameter t w x)

-- The objects of a body keep two scopes alike, where their types are old.
abbrev pub ObjectsAreAlike : Type 0
ObjectsAreAlike = (old : ℕ → Bool) (s t : Scope) → Alike old s t → s.in_main ≡ false → (ds : PDecls) → AreOldObjects old ds → Alike old (after_objects s ds) (after_objects t ds)

-- Two scopes are as the laws ask, though a variable has other places in the second: they are alike, an expression of old names is met in the first one,
-- and so is the call of an old entry of a task that is the same in both.
pub record AreAsked (old : ℕ → Bool) (s t : Scope) (id : NameId) (e : PExpr) (c : PCall) : Type 0 where
  pub alike : Alike old s t
  pub moved : meaning s id ≡ meaning t id → ⊥
  pub old_expr : IsOldExpr old e
  pub met : IsMetBut (site s (node false e))
  pub same_task : IsSameTask old (meaning s c.task.name.name) (meaning t c.task.name.name)
  pub old_entry : old c.entry.name.0 ≡ true
  pub addressed : IsMetBut (site s (addresses c.task))
  pub called : IsMetBut (site s (calls c))

abbrev pub IsMet : Type 0
IsMet = (old : ℕ → Bool) × (s : Scope) × (t : Scope) × (id : NameId) × (e : PExpr) × (c : PCall) × AreAsked old s t id e c

-- Expressions, ranges and demands in which all names are old ones (this project's rule). Words behind a tick are no names of anything.
use Rattle.std.specs.Prelude.{◌≡◌, ℕ, Bool, true, false, not, ◌||◌, List, IfSome, is_some}
use Rattle.std.specs.List.{AllByRecursion}
use Rattle.ada_tree.specs.declared.naming.NameId.{NameId}
use Rattle.ada_tree.specs.declared.naming.Word.{Word}
use Rattle.ada_tree.specs.PlainExpr.{PExpr, EInteger, EName, EIndex, EAttribute, EAttributeOf, EParen, EUnary, EBinary, PBounds, PSubind, PDrange, RGiven, RMarked}
use Rattle.ada_tree.specs.PlainStmt.{PTarget, PChoice, PFormal}
use Rattle.ada_tree.specs.PlainDecl.{PShape, OPlain, OArray, PDecl, DObject, PDecls, no_decl, decl_then}
use Rattle.ada_static_rules.specs.Scope.{Scope, marking, entry_named}
use Rattle.ada_static_rules.specs.Demand.{MarkUse, scalar_only, or_array, or_task, or_array_or_task, Demand, declares, declares_entry, labels, gives_body, makes_instance, stands_as_mark, whole, node, must_be_of, must_be_alike, must_be_static, must_not_be_empty, must_lie_in, writes, gets, is_actual, addresses, calls, accepts, names_exception, handles, chooses, initializes, is_written}
use Rattle.task_laws.specs.legal.rewritten_types.Rewriting.{is_no_task}

-- a task type may stand as a mark there
abbrev pub allows_task : MarkUse → Bool
allows_task scalar_only = false
allows_task or_array = false
allows_task or_task = true
allows_task or_array_or_task = true

module _ (old : ℕ → Bool) where
  -- the name is an old one
  abbrev pub IsOld : NameId → Type 0
  IsOld id = old id.0 ≡ true

  abbrev pub IsOldWord : Word → Type 0
  IsOldWord w = IsOld w.name

  -- each name in the expression is old
  abbrev pub IsOldExpr : PExpr → Type 0
  IsOldExpr (EInteger n s) = Unit {0}
  IsOldExpr (EName id s) = IsOld id
  IsOldExpr (EIndex w e s) = IsOldWord w × IsOldExpr e
  IsOldExpr (EAttribute m w s) = IsOldWord m
  IsOldExpr (EAttributeOf m w e s) = IsOldWord m × IsOldExpr e
  IsOldExpr (EParen e s) = IsOldExpr e
  IsOldExpr (EUnary op e s) = IsOldExpr e
  IsOldExpr (EBinary op l r s) = IsOldExpr l × IsOldExpr r

  abbrev pub IsOldBounds : PBounds → Type 0
  IsOldBounds b = IsOldExpr b.first × IsOldExpr b.last

  abbrev pub IsOldSubind : PSubind → Type 0
  IsOldSubind x = IsOldWord x.mark × IfSome x.bounds IsOldBounds

  abbrev pub IsOldDrange : PDrange → Type 0
  IsOldDrange (RGiven b) = IsOldBounds b
  IsOldDrange (RMarked x) = IsOldSubind x

  abbrev pub IsOldTarget : PTarget → Type 0
  IsOldTarget x = IsOldWord x.name × IfSome x.index IsOldExpr

  abbrev pub IsOldChoice : PChoice → Type 0
  IsOldChoice x = IsOldExpr x.first × IfSome x.last IsOldExpr

  -- the marks of the formals are old; their names may be any
  abbrev pub AreOldFormals : List PFormal → Type 0
  AreOldFormals formals = AllByRecursion (λ f. IsOldWord f.mark) formals

  -- the types of the objects are old; their names may be any
  abbrev pub IsOldShape : PShape → Type 0
  IsOldShape (OPlain x) = IsOldSubind x
  IsOldShape (OArray index x) = IsOldDrange index × IsOldSubind x

  abbrev pub IsOldObject : PDecl → Type 0
  IsOldObject (DObject names constant shape init s) = IsOldShape shape
  IsOldObject _ = Unit {0}

  abbrev pub AreOldObjects : PDecls → Type 0
  AreOldObjects no_decl = Unit {0}
  AreOldObjects (decl_then d rest) = IsOldObject d × AreOldObjects rest

  -- A demand at a place with that scope speaks of old names alone. A mark is of no task type, or none may stand there; an accept is of an entry of
  -- the own task. Tasks, their bodies and their calls are not spoken of here.
  abbrev pub IsOldDemand : Scope → Demand → Type 0
  IsOldDemand scope (stands_as_mark allowed w) = IsOldWord w × ((not (allows_task allowed) || is_no_task (marking scope w.name)) ≡ true)
  IsOldDemand scope (whole e) = IsOldExpr e
  IsOldDemand scope (node written e) = IsOldExpr e
  IsOldDemand scope (must_be_of e k) = IsOldExpr e
  IsOldDemand scope (must_be_alike a b) = IsOldExpr a × IsOldExpr b
  IsOldDemand scope (must_be_static e) = IsOldExpr e
  IsOldDemand scope (must_not_be_empty a b) = IsOldExpr a × IsOldExpr b
  IsOldDemand scope (must_lie_in e range) = IsOldExpr e
  IsOldDemand scope (writes t) = IsOldTarget t
  IsOldDemand scope (gets t) = IsOldTarget t
  IsOldDemand scope (is_actual mode e) = IsOldExpr e
  IsOldDemand scope (accepts h) = IsOldWord h.entry × (is_some (entry_named scope.own h.entry.name) ≡ true)
  IsOldDemand scope (names_exception w) = IsOldWord w
  IsOldDemand scope (chooses e choices others s) = IsOldExpr e × AllByRecursion IsOldChoice choices
  IsOldDemand scope (declares fixed w) = Unit {0}
  IsOldDemand scope (declares_entry names w) = Unit {0}
  IsOldDemand scope (labels w) = Unit {0}
  IsOldDemand scope (makes_instance w) = Unit {0}
  IsOldDemand scope (handles names w) = Unit {0}
  IsOldDemand scope (initializes what value) = Unit {0}
  IsOldDemand scope (is_written alone e) = Unit {0}
  IsOldDemand scope (gives_body w) = ⊥
  IsOldDemand scope (addresses c) = ⊥
  IsOldDemand scope (calls c) = ⊥

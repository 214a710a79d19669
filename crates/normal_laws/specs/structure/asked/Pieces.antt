-- What is to be known of each piece that the normal form makes of a statement, so that the statements of the normal form are as asked (this project's
-- rule). One piece is one statement that is added, or what is changed in one; it is as it is asked of the normal form, where what it was made from is
-- as it is asked of the program.
use Rattle.std.specs.Prelude.{◌≡◌, ℕ, ◌+◌, ◌≤◌, Bool, true, false, List, [], ◌∷◌, map, length, Option, Some, None, option_map, slice_get}
use Rattle.std.specs.List.{AllByRecursion}
use Rattle.ada_tree.specs.declared.naming.NameId.{NameId}
use Rattle.ada_tree.specs.declared.naming.Span.{Span}
use Rattle.ada_tree.specs.declared.naming.Word.{Word}
use Rattle.ada_tree.specs.declared.statements.ParMode.{ParMode}
use Rattle.ada_tree.specs.declared.statements.ParMode.TheVariants.{Take, Give, Both}
use Rattle.ada_tree.specs.declared.expressions.BinaryOp.TheVariants.{Equal}
use Rattle.ada_static_rules.specs.ExprTypes.{expr_place}
use Rattle.ada_tree.specs.PlainExpr.{PExpr, EInteger, EBinary, PSubind}
use Rattle.ada_tree.specs.PlainStmt.{PCallee, PCall, PChoice, PScheme, PHead, PStmt, SNull, SAssign, SDelay, SExit, SRaise, SPut, SPutLine, SNewLine, SGet, PAlts, PHandlers}
use Rattle.ada_tree.specs.PlainDecl.{PDecl}
use Rattle.ada_tree.specs.Every.{alts_count}
use Rattle.syn_event.specs.declared.numbering.TaskInfo.{TaskInfo}
use Rattle.task_model.specs.Setting.{Setting, entry_of}
use Rattle.task_model.specs.Calls.{variable_of}
use Rattle.normal_model.specs.Names.{task_name}
use Rattle.normal_model.specs.Ranges.{word_at, marked, integer_subtype, truth_subtype, subtype_of_range, array_range, family_range}
use Rattle.normal_model.specs.Making.{variable, assignment, moving}
use Rattle.normal_model.specs.Members.{index_literal, kind_of_index, known_callee, members_of}
use Rattle.normal_model.specs.Calls.{entry_called, lists_called, Slot, slots_called, call_to, call_subtypes}
use Rattle.normal_model.specs.RewrittenUnit.{RewrittenUnit}
use Rattle.normal_model.specs.Waits.{head_left, none_held}
use Rattle.normal_model.specs.Variables.{variable_declared}
use Rattle.normal_model.specs.Walk.{inside_alts, inside_handlers}
use Rattle.normal_model.specs.NormalStmts.{normal_rewriter}
use Rattle.task_laws.specs.legal.asked.Asked.{Asks, AskedAlts}

-- ---- statements that stay

-- a statement in which no statement stands, and by which no task is named
abbrev pub IsPlain : PStmt → Type 0
IsPlain (SNull s) = Prim.Unit {0}
IsPlain (SAssign x e s) = Prim.Unit {0}
IsPlain (SDelay d s) = Prim.Unit {0}
IsPlain (SExit w e s) = Prim.Unit {0}
IsPlain (SRaise w s) = Prim.Unit {0}
IsPlain (SPut xs s) = Prim.Unit {0}
IsPlain (SPutLine xs s) = Prim.Unit {0}
IsPlain (SNewLine s) = Prim.Unit {0}
IsPlain (SGet x s) = Prim.Unit {0}
IsPlain _ = ⊥

-- ---- variables

-- the variable of a number, from 0, is declared with that subtype, for a statement at that place
abbrev pub IsVariable : Setting → List PDecl → Span → PSubind → ℕ → Type 0
IsVariable g vars s x k = slice_get vars k ≡ Some (variable_declared g s x k)

-- the variables that are numbered from k on are declared with these subtypes
abbrev pub AreVariables : Setting → List PDecl → Span → List PSubind → ℕ → Type 0
AreVariables g vars s [] k = Prim.Unit {0}
AreVariables g vars s (x ∷ xs) k = IsVariable g vars s x k × AreVariables g vars s xs (k + 1)

-- a guard of the normal form: a variable of BOOLEAN
abbrev pub IsGuard : Setting → List PDecl → PExpr → Type 0
IsGuard g vars e = (s : Span) × (k : ℕ) × (e ≡ variable g s k) × IsVariable g vars s (truth_subtype s) k

-- ---- lists

-- the list has the element
pub data IsAmong {A : Type 0} (x : A) : List A → Type 0 where
  first_among : (xs : List A) → IsAmong x (x ∷ xs)
  later_among : (y : A) (xs : List A) → IsAmong x xs → IsAmong x (y ∷ xs)

-- ---- callees

-- the choice of a member of an array of tasks
abbrev pub member_choice : Setting → Span → PCallee → TaskInfo → PChoice
member_choice g s x info = record { first = index_literal (kind_of_index g.types (array_range g.program x.name.name)) s info.member; last = None }

abbrev pub member_choices : Setting → Span → PCallee → List PChoice
member_choices g s x = map (member_choice g s x) (members_of g x.name.name)

-- A name that takes the place of a callee: that of the task that is known, or that of a member of the array.
pub data IsTarget (g : Setting) (x : PCallee) (w : Word) : Type 0 where
  is_known : moving g.types x.index ≡ None → w ≡ known_callee g x → IsTarget g x w
  is_member : (e : PExpr) (info : TaskInfo) → moving g.types x.index ≡ Some e → IsAmong info (members_of g x.name.name) → w ≡ word_at x.name.span (task_name g info) → IsTarget g x w

abbrev pub named : Word → PCallee
named w = record { name = w; index = None }

-- ---- actuals

-- a formal and an actual that stand at one place of two lists
pub data IsPair (x : Slot) (e : PExpr) : List Slot → List PExpr → Type 0 where
  first_pair : (xs : List Slot) (es : List PExpr) → IsPair x e (x ∷ xs) (e ∷ es)
  later_pair : (y : Slot) (f : PExpr) (xs : List Slot) (es : List PExpr) → IsPair x e xs es → IsPair x e (y ∷ xs) (f ∷ es)

abbrev pub is_read : ParMode → Bool
is_read Take = true
is_read Give = false
is_read Both = true

abbrev pub is_written : ParMode → Bool
is_written Take = false
is_written Give = true
is_written Both = true

-- ---- the pieces

-- The pieces of a unit with these variables, where `b` is asked of the statements of the program and `a` of those of the normal form, and what stands
-- around them is related by R. What is added stands at most four deeper than what it is made from.
pub record Pieces {C D : Type 0} (u : RewrittenUnit) (vars : List PDecl) (b : Asks C) (a : Asks D) (R : C → D → Type 0) : Type 0 where
  -- what stays
  pub outer : (c : C) (d : D) (k n : ℕ) (s : Span) → R c d → b.outer c k s → n ≤ k + 4 → a.outer d n s
  pub many : (n : ℕ) → b.many n → a.many n
  pub some : (n : ℕ) → a.many (1 + n)
  pub duration : (n : ℕ) → b.duration n → a.duration n
  pub plain : (c : C) (d : D) (k : ℕ) (x : PStmt) → IsPlain x → R c d → b.plain c k x → a.plain d k x
  pub condition : (c : C) (d : D) (k : ℕ) (e : PExpr) → R c d → b.condition c k e → a.condition d k e
  pub selector : (c : C) (d : D) (k : ℕ) (e : PExpr) (xs : List PChoice) (others : Bool) (s : Span) → R c d → b.selector c k e xs others s → a.selector d k e xs others s
  pub choices : (c : C) (d : D) (k : ℕ) (e : PExpr) (xs : List PChoice) → R c d → b.choices c k e xs → a.choices d k e xs
  pub loop : (c : C) (d : D) (k : ℕ) (w : Option Word) (x : Option PScheme) → R c d → b.loop c k w x → a.loop d k w x
  pub looping : (c : C) (d : D) (k : ℕ) (w : Option Word) (x : Option PScheme) → R c d → b.loop c k w x → R (b.looping c w x) (a.looping d w x)
  pub delay : (c : C) (d : D) (k : ℕ) (guard : Option PExpr) (f : PExpr → PExpr) (s : Span) → R c d → b.delay c k guard s → a.delay d k (option_map f guard) s
  pub handlers : (hs : PHandlers) (t : List PDecl) → b.handlers hs → a.handlers (inside_handlers (normal_rewriter u) hs t)
  pub handler : (c : C) (d : D) (k : ℕ) (names : List ℕ) (ws : List Word) → R c d → b.handler c k names ws → a.handler d k names ws
  pub handling : (c : C) (d : D) → R c d → R (b.handling c) (a.handling d)
  -- `null;`, and a raise of PROGRAM_ERROR, where a statement stood
  pub null : (c : C) (d : D) (k n : ℕ) (s : Span) → R c d → b.outer c k s → n ≤ k + 4 → a.plain d n (SNull s)
  pub program_error : (c : C) (d : D) (k n : ℕ) (s : Span) → R c d → b.outer c k s → n ≤ k + 4 → a.plain d n (SRaise (Some (word_at s record { 0 = 8 })) s)
  -- the index of a callee goes to its variable; the names that take the callee's place; the choice among them
  pub callee_index : (c : C) (d : D) (k n : ℕ) (s : Span) (x : PCallee) (e : PExpr) (j : ℕ) → R c d → b.callee c k x → moving u.setting.types x.index ≡ Some e →
      IsVariable u.setting vars s (subtype_of_range u.setting.types s (array_range u.setting.program x.name.name)) j → n ≤ k + 4 → a.plain d n (assignment u.setting s j e)
  pub target : (c : C) (d : D) (k n : ℕ) (x : PCallee) (w : Word) → R c d → b.callee c k x → IsTarget u.setting x w → n ≤ k + 4 → a.callee d n (named w)
  pub chooses : (c : C) (d : D) (k n : ℕ) (s : Span) (x : PCallee) (e : PExpr) (j : ℕ) → R c d → b.callee c k x → moving u.setting.types x.index ≡ Some e →
      IsVariable u.setting vars s (subtype_of_range u.setting.types s (array_range u.setting.program x.name.name)) j → n ≤ k + 4 →
      a.selector d n (variable u.setting s j) (member_choices u.setting s x) true s
  pub chosen : (c : C) (d : D) (k n : ℕ) (s : Span) (x : PCallee) (e : PExpr) (j : ℕ) (info : TaskInfo) → R c d → b.callee c k x → moving u.setting.types x.index ≡ Some e →
      IsVariable u.setting vars s (subtype_of_range u.setting.types s (array_range u.setting.program x.name.name)) j → IsAmong info (members_of u.setting x.name.name) → n ≤ k + 4 →
      a.choices d n (variable u.setting s j) (member_choice u.setting s x info ∷ [])
  -- a call with variables; what goes to them, and what comes from them
  pub called : (c : C) (d : D) (k n : ℕ) (s : Span) (x : PCall) (j : ℕ) (w : Word) → R c d → b.callee c k x.task → b.call c k x → IsTarget u.setting x.task w →
      AreVariables u.setting vars s (call_subtypes u.setting s x) j → n ≤ k + 4 → a.call d n (call_to u.setting s x j w)
  pub family_index : (c : C) (d : D) (k n : ℕ) (s : Span) (x : PCall) (e : PExpr) (j : ℕ) → R c d → b.callee c k x.task → b.call c k x → (lists_called u.setting x).index ≡ Some e →
      IsVariable u.setting vars s (subtype_of_range u.setting.types s (family_range u.setting (entry_called u.setting x))) j → n ≤ k + 4 → a.plain d n (assignment u.setting s j e)
  pub actual_before : (c : C) (d : D) (k n : ℕ) (s : Span) (x : PCall) (slot : Slot) (e : PExpr) (j : ℕ) → R c d → b.callee c k x.task → b.call c k x →
      IsPair slot e (slots_called u.setting x) (lists_called u.setting x).actuals → is_read slot.mode ≡ true → IsVariable u.setting vars s (marked slot.mark) j → n ≤ k + 4 →
      a.plain d n (assignment u.setting s j e)
  pub actual_behind : (c : C) (d : D) (k n : ℕ) (s : Span) (x : PCall) (slot : Slot) (e : PExpr) (id : NameId) (j : ℕ) → R c d → b.callee c k x.task → b.call c k x →
      IsPair slot e (slots_called u.setting x) (lists_called u.setting x).actuals → is_written slot.mode ≡ true → variable_of e ≡ Some id → IsVariable u.setting vars s (marked slot.mark) j → n ≤ k + 4 →
      a.plain d n (SAssign (record { name = word_at (expr_place e) id; index = None }) (variable u.setting s j) s)
  -- which part of a select came: 1 or 2 goes to an INTEGER, which is asked
  pub flag : (c : C) (d : D) (k n : ℕ) (s : Span) (part j : ℕ) → R c d → b.outer c k s → part ≤ 2 → IsVariable u.setting vars s (integer_subtype s) j → n ≤ k + 4 →
      a.plain d n (assignment u.setting s j (EInteger part s))
  pub flag_test : (c : C) (d : D) (k n : ℕ) (s : Span) (j : ℕ) → R c d → b.outer c k s → IsVariable u.setting vars s (integer_subtype s) j → n ≤ k + 4 →
      a.condition d n (EBinary Equal (variable u.setting s j) (EInteger 1 s) s)
  -- an abort of one task, and one without names, which stays
  pub aborted : (c : C) (d : D) (k n : ℕ) (xs : List PCallee) (w : Word) → R c d → b.aborts c k xs → n ≤ k + 4 → a.aborts d n (named w ∷ [])
  pub no_abort : (c : C) (d : D) (k : ℕ) → R c d → b.aborts c k [] → a.aborts d k []
  -- an accept whose index stays, and one whose index goes to a variable
  pub head : (c : C) (d : D) (k : ℕ) (h : PHead) → R c d → b.head c k h → moving u.setting.types h.index ≡ None → a.head d k h
  pub head_moved : (c : C) (d : D) (k : ℕ) (s : Span) (h : PHead) (e : PExpr) (j : ℕ) → R c d → b.head c k h → moving u.setting.types h.index ≡ Some e →
      IsVariable u.setting vars s (subtype_of_range u.setting.types s (family_range u.setting (entry_of u.setting.numbers u.task h.entry.name))) j → a.head d k (head_left u s h j)
  pub accept_index : (c : C) (d : D) (k n : ℕ) (s : Span) (h : PHead) (e : PExpr) (j : ℕ) → R c d → b.head c k h → moving u.setting.types h.index ≡ Some e →
      IsVariable u.setting vars s (subtype_of_range u.setting.types s (family_range u.setting (entry_of u.setting.numbers u.task h.entry.name))) j → n ≤ k + 4 → a.plain d n (assignment u.setting s j e)
  pub accepting : (c : C) (d : D) (k : ℕ) (s : Span) (h : PHead) (j : ℕ) → R c d → b.head c k h → R (b.accepting c h) (a.accepting d (head_left u s h j))
  -- a guard goes to a variable, which is asked before an index is taken; the test that no guard holds; the alternatives of the new wait
  pub guard : (c : C) (d : D) (k n : ℕ) (s : Span) (e : PExpr) (j : ℕ) → R c d → b.condition c k e → IsVariable u.setting vars s (truth_subtype s) j → n ≤ k + 4 → a.plain d n (assignment u.setting s j e)
  pub guard_test : (c : C) (d : D) (k n : ℕ) (s : Span) (j : ℕ) → R c d → b.outer c k s → IsVariable u.setting vars s (truth_subtype s) j → n ≤ k + 4 → a.condition d n (variable u.setting s j)
  pub closed : (c : C) (d : D) (k n : ℕ) (x : PAlts) (others : Bool) (s : Span) (e : PExpr) (es : List PExpr) → R c d → b.outer c k s → b.wait c k x others s →
      AllByRecursion (IsGuard u.setting vars) (e ∷ es) → 1 + length es ≤ alts_count x → n ≤ k + 4 → a.condition d n (none_held s e es)
  pub wait : (c : C) (d : D) (k : ℕ) (x : PAlts) (others : Bool) (s : Span) (t : List PDecl) → R c d → b.wait c k x others s → AskedAlts b c (k + 1) x → a.wait d k (inside_alts (normal_rewriter u) x t) others s

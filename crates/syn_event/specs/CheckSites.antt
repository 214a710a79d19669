-- The places of a program at which the rules 13 to 23 ask something, each with what stands around it, in the order of the text (this project's rule). The number of a part is its nesting: what stands in a compound statement, an alternative or a handler is one deeper than it, and an operand, index, argument or content of parentheses one deeper than the node above it. Declarations have nesting 1, which every limit allows.
use Rattle.std.specs.Prelude.{ℕ, ◌+◌, ◌*◌, Bool, true, false, not, ◌||◌, ◌==◌, if◌then◌else◌, List, [], ◌∷◌, ◌++◌, length, map, flat_map, find, Option, Some, None, option_map, unwrap_or}
use Rattle.ada_tree.specs.declared.naming.Span.{Span}
use Rattle.ada_tree.specs.declared.naming.Word.{Word}
use Rattle.ada_tree.specs.TypeTable.{TypeTable}
use Rattle.ada_tree.specs.PlainExpr.{PExpr, EInteger, EName, EIndex, EAttribute, EAttributeOf, EParen, EUnary, EBinary, PBounds, PSubind, PDrange, RGiven, RMarked}
use Rattle.ada_tree.specs.PlainStmt.{PTarget, PCallee, PArgs, PCall, PFormal, PPart, PWords, PValue, PChoice, PScheme, LWhile, LFor, PHead, PStmt, SNull, SAssign, SDelay, SExit, SRaise, SAbort, SCall, SAccept, SWait, SConditional, STimed, SPut, SPutLine, SNewLine, SGet, SIf, SCase, SBlock, SLoop, PStmts, no_stmt, stmt_then, PMaybe, absent, present, PAccept, accepting, alternative, PAltKind, AAccept, ADelay, ATerminate, PAlts, no_alt, alt_then, arm, PArms, no_arm, arm_then, case_arm, PCaseArms, no_case_arm, case_arm_then, PBody, body, handler, PHandlers, no_handler, handler_then}
use Rattle.ada_tree.specs.PlainDecl.{PShape, OPlain, OArray, PInit, IOne, IList, IOthers, PEntry, PTask, PDecl, DNumber, DObject, DEnumeration, DArray, DSubtype, DException, DIntIo, DPragma, DTask, DTaskBody, PDecls, no_decl, decl_then}
use Rattle.ada_tree.specs.PlainProgram.{PProgram}
use Rattle.ada_static_rules.specs.Sites.{is_present}
use Rattle.ada_static_rules.specs.Refusals.{types_in}
use Rattle.syn_event.specs.declared.limits.What.{What}
use Rattle.syn_event.specs.declared.limits.What.TheVariants.{Nesting, Tasks, Entries, Members, Components, Alternatives, Formals, Copies}
use Rattle.syn_event.specs.Extents.{size, range_start, is_array_type}
use Rattle.syn_event.specs.NamedTasks.{NamedTasks, task_names_of, task_count}
use Rattle.syn_event.specs.Copying.{callees_share, part_share}
use Rattle.syn_event.specs.declared.meanings.Meant.{Meant}
use Rattle.syn_event.specs.declared.meanings.Meant.TheVariants.{MainProcedure, TaskType, TaskOf, Shared, Inner}
use Rattle.syn_event.specs.CheckScope.{EnclosingUnit, CheckScope, meaning, CheckDemand, declares, uses, addresses, aborts_before, accepts, waits, exits, raises_again, needs_body, counts, CheckSite}

-- that demand in that scope, as one place
abbrev pub site : CheckScope → CheckDemand → CheckSite
site around demand = record { scope = around; demand = demand }

-- where something may be missing
abbrev pub if_there : {A : Type 0} → (A → List CheckSite) → Option A → List CheckSite
if_there f (Some x) = f x
if_there f None = []

-- a part that stands so deep
abbrev pub stands : CheckScope → ℕ → Span → CheckSite
stands around k s = site around (counts Nesting 0 k s)

-- parts of which each counts one, behind so many
abbrev pub numbered : CheckScope → What → ℕ → List Span → List CheckSite
numbered around what n [] = []
numbered around what n (s ∷ rest) = site around (counts what n 1 s) ∷ numbered around what (n + 1) rest

-- the sites of names that are declared, one for each (3.1)
abbrev pub names_sites : CheckScope → List Word → List CheckSite
names_sites around names = map (λ w. site around (declares w)) names

-- ---- what stands around

-- names with one meaning
abbrev pub with_meant : Meant → CheckScope → List Word → CheckScope
with_meant meant around [] = around
with_meant meant around (w ∷ ws) = with_meant meant (record around { names = (w.name.0, meant) ∷ around.names }) ws

-- the names of formal parameters, in the order of the text (6.1)
abbrev pub formal_names : List PFormal → List Word
formal_names formals = flat_map (λ f. f.names) formals

-- in an accept no loop around it can be left
abbrev pub in_accept : CheckScope → PHead → CheckScope
in_accept around h = with_meant Inner (record around { accepting = h.entry.name ∷ around.accepting; loops = [] }) (formal_names h.formals)

-- the scope inside a handler (11.2)
abbrev pub handling : CheckScope → CheckScope
handling around = record around { in_handler = true }

-- the scope with the loop parameter, where the loop is a for loop (5.5)
abbrev pub with_parameter : CheckScope → Option PScheme → CheckScope
with_parameter around (Some (LFor w r x)) = with_meant Inner around (w ∷ [])
with_parameter around _ = around

-- the scope inside a loop (5.5): an exit may leave the loop, and its parameter is known where it has one
abbrev pub in_loop : CheckScope → Option Word → Option PScheme → CheckScope
in_loop around w c = with_parameter (record around { loops = option_map (λ x. x.name) w ∷ around.loops }) c

-- ---- expressions

-- the sites of an expression at that nesting (4.4): each of its nodes, and each name in it that stands for a value or a variable
abbrev pub expr_sites : CheckScope → ℕ → PExpr → List CheckSite
expr_sites around k (EInteger n s) = stands around k s ∷ []
expr_sites around k (EName id s) = stands around k s ∷ site around (uses id s) ∷ []
expr_sites around k (EIndex w e s) = stands around k s ∷ site around (uses w.name w.span) ∷ expr_sites around (k + 1) e
expr_sites around k (EAttribute m w s) = stands around k s ∷ []
expr_sites around k (EAttributeOf m w e s) = stands around k s ∷ expr_sites around (k + 1) e
expr_sites around k (EParen e s) = stands around k s ∷ expr_sites around (k + 1) e
expr_sites around k (EUnary op e s) = stands around k s ∷ expr_sites around (k + 1) e
expr_sites around k (EBinary op l r s) = stands around k s ∷ expr_sites around (k + 1) l ++ expr_sites around (k + 1) r

-- the sites of some expressions, all at that nesting (4.4)
abbrev pub exprs_sites : CheckScope → ℕ → List PExpr → List CheckSite
exprs_sites around k es = flat_map (expr_sites around k) es

-- the sites of two bounds (3.5): those of the first, then those of the last
abbrev pub bounds_sites : CheckScope → ℕ → PBounds → List CheckSite
bounds_sites around k b = expr_sites around k b.first ++ expr_sites around k b.last

-- the sites of a subtype indication (3.3.2): those of its bounds, where it has some
abbrev pub subind_sites : CheckScope → ℕ → PSubind → List CheckSite
subind_sites around k x = if_there (bounds_sites around k) x.bounds

-- the sites of a discrete range (3.6.1): those of its bounds, where it has some of its own
abbrev pub drange_sites : CheckScope → ℕ → PDrange → List CheckSite
drange_sites around k (RGiven b) = bounds_sites around k b
drange_sites around k (RMarked x) = subind_sites around k x

-- ---- parts of statements

-- a variable or a component
abbrev pub target_sites : CheckScope → ℕ → PTarget → List CheckSite
target_sites around k t = site around (uses t.name.name t.name.span) ∷ if_there (expr_sites around k) t.index

-- the sites of a task in a call or an abort statement (9.5, 9.10): its name, and its index where it has one
abbrev pub callee_sites : CheckScope → ℕ → PCallee → List CheckSite
callee_sites around k c = site around (addresses c.name) ∷ if_there (expr_sites around k) c.index

-- the names of an abort statement, of which each but the last has one behind it
abbrev pub aborted_sites : CheckScope → ℕ → List PCallee → List CheckSite
aborted_sites around k [] = []
aborted_sites around k (c ∷ []) = callee_sites around k c
aborted_sites around k (c ∷ d ∷ rest) = site around (aborts_before c.name) ∷ callee_sites around k c ++ aborted_sites around k (d ∷ rest)

-- the sites of the lists of an entry call (9.5): the expressions of the first, and of the second where there is one
abbrev pub args_sites : CheckScope → ℕ → PArgs → List CheckSite
args_sites around k args = exprs_sites around k args.first ++ if_there (exprs_sites around k) args.second

-- the sites of an entry call (9.5): its task, and its arguments where it has some
abbrev pub call_sites : CheckScope → ℕ → PCall → List CheckSite
call_sites around k c = callee_sites around k c.task ++ if_there (args_sites around k) c.args

-- the call of a conditional or timed one stands one deeper than the select, and its arguments one deeper than the call
abbrev pub select_sites : CheckScope → ℕ → PCall → List CheckSite
select_sites around k c = stands around (k + 1) c.task.name.span ∷ call_sites around (k + 2) c

-- the sites of a part of what PUT writes (14.3): those of its expression; a string has none
abbrev pub part_sites : CheckScope → ℕ → PPart → List CheckSite
part_sites around k (PWords t s) = []
part_sites around k (PValue e) = expr_sites around k e

-- the sites of a choice of a case statement (5.4): its value, or both bounds where it is a range
abbrev pub choice_sites : CheckScope → ℕ → PChoice → List CheckSite
choice_sites around k c = expr_sites around k c.first ++ if_there (expr_sites around k) c.last

-- the sites of an iteration scheme (5.5): the condition of a while loop, or the parameter and the range of a for loop
abbrev pub scheme_sites : CheckScope → ℕ → PScheme → List CheckSite
scheme_sites around k (LWhile e) = expr_sites around k e
scheme_sites around k (LFor w r x) = site around (declares w) ∷ drange_sites around k x

-- an accept without its statements; its index is one deeper
abbrev pub head_sites : CheckScope → ℕ → PHead → List CheckSite
head_sites around k h =
    stands around k h.span
    ∷ site around (accepts h)
    ∷ if_there (expr_sites around (k + 1)) h.index
    ++ names_sites around (formal_names h.formals)

-- the places of the alternatives of a wait
abbrev pub alt_places : PAlts → List Span
alt_places no_alt = []
alt_places (alt_then (alternative g x s) l) = s ∷ alt_places l

-- a delay of a wait stands as deep as the guard before it, which is asked then; without a guard it stands where its alternative does
abbrev pub delay_sites : CheckScope → ℕ → Option PExpr → Span → List CheckSite
delay_sites around k (Some g) s = []
delay_sites around k None s = stands around k s ∷ []

-- the site of a raise statement without a name (11.3); one with a name has none
abbrev pub raise_sites : CheckScope → Option Word → Span → List CheckSite
raise_sites around (Some w) s = []
raise_sites around None s = site around (raises_again s) ∷ []

-- ---- statements

abbrev mutual
  -- the sites of a statement at that nesting (5.1): itself, and all that stands in it
  pub stmt_sites : CheckScope → ℕ → PStmt → List CheckSite
  stmt_sites around k (SNull s) = stands around k s ∷ []
  stmt_sites around k (SAssign t e s) = stands around k s ∷ target_sites around (k + 1) t ++ expr_sites around (k + 1) e
  stmt_sites around k (SDelay d s) = stands around k s ∷ []
  stmt_sites around k (SExit w e s) = stands around k s ∷ site around (exits w s) ∷ if_there (expr_sites around (k + 1)) e
  stmt_sites around k (SRaise w s) = stands around k s ∷ raise_sites around w s
  stmt_sites around k (SAbort cs s) = stands around k s ∷ aborted_sites around (k + 1) cs
  stmt_sites around k (SCall c s) = stands around k s ∷ call_sites around (k + 1) c
  stmt_sites around k (SAccept a s) = accept_sites around k a
  stmt_sites around k (SWait x o s) =
      stands around k s
      ∷ site around (waits x (is_present o) s)
      ∷ numbered around Alternatives 0 (alt_places x)
      ++ alts_sites around (k + 1) x
      ++ maybe_sites around (k + 1) o
  stmt_sites around k (SConditional c b o s) = stands around k s ∷ select_sites around k c ++ stmts_sites around (k + 1) b ++ stmts_sites around (k + 1) o
  stmt_sites around k (STimed c b d a s) = stands around k s ∷ select_sites around k c ++ stmts_sites around (k + 1) b ++ stmts_sites around (k + 1) a
  stmt_sites around k (SPut ps s) = stands around k s ∷ flat_map (part_sites around (k + 1)) ps
  stmt_sites around k (SPutLine ps s) = stands around k s ∷ flat_map (part_sites around (k + 1)) ps
  stmt_sites around k (SNewLine s) = stands around k s ∷ []
  stmt_sites around k (SGet t s) = stands around k s ∷ target_sites around (k + 1) t
  stmt_sites around k (SIf x o s) = stands around k s ∷ arms_sites around (k + 1) x ++ maybe_sites around (k + 1) o
  stmt_sites around k (SCase e x o s) = stands around k s ∷ expr_sites around (k + 1) e ++ case_arms_sites around (k + 1) x ++ maybe_sites around (k + 1) o
  stmt_sites around k (SBlock b s) = stands around k s ∷ body_sites around (k + 1) b
  stmt_sites around k (SLoop w c l s) =
      stands around k s
      ∷ if_there (λ x. site around (declares x) ∷ []) w
      ++ if_there (scheme_sites around (k + 1)) c
      ++ stmts_sites (in_loop around w c) (k + 1) l

  -- the sites of a sequence of statements, all at that nesting (5.1)
  pub stmts_sites : CheckScope → ℕ → PStmts → List CheckSite
  stmts_sites around k no_stmt = []
  stmts_sites around k (stmt_then x l) = stmt_sites around k x ++ stmts_sites around k l

  -- the sites of statements that may be left out: none where they are
  pub maybe_sites : CheckScope → ℕ → PMaybe → List CheckSite
  maybe_sites around k absent = []
  maybe_sites around k (present l) = stmts_sites around k l

  -- the sites of an accept statement (9.5): those of its head, and of its body, where it has one, inside the accept
  pub accept_sites : CheckScope → ℕ → PAccept → List CheckSite
  accept_sites around k (accepting h o) = head_sites around k h ++ maybe_sites (in_accept around h) (k + 1) o

  -- the sites of the alternatives of a selective wait (9.7.1): each alternative, its guard where it has one, and what stands in it
  pub alts_sites : CheckScope → ℕ → PAlts → List CheckSite
  alts_sites around k no_alt = []
  alts_sites around k (alt_then (alternative g x s) l) =
      stands around k s
      ∷ if_there (expr_sites around (k + 1)) g
      ++ alt_sites around (k + 1) g s x
      ++ alts_sites around k l

  -- what stands in an alternative with that guard and place
  pub alt_sites : CheckScope → ℕ → Option PExpr → Span → PAltKind → List CheckSite
  alt_sites around k g s (AAccept a l) = accept_sites around k a ++ stmts_sites around k l
  alt_sites around k g s (ADelay d l) = delay_sites around k g s ++ stmts_sites around k l
  alt_sites around k g s ATerminate = []

  -- the sites of the arms of an if statement (5.3): the condition and the statements of each
  pub arms_sites : CheckScope → ℕ → PArms → List CheckSite
  arms_sites around k no_arm = []
  arms_sites around k (arm_then (arm e l) rest) = expr_sites around k e ++ stmts_sites around k l ++ arms_sites around k rest

  -- the sites of the arms of a case statement (5.4): the choices and the statements of each
  pub case_arms_sites : CheckScope → ℕ → PCaseArms → List CheckSite
  case_arms_sites around k no_case_arm = []
  case_arms_sites around k (case_arm_then (case_arm choices l) rest) =
      flat_map (choice_sites around k) choices ++ stmts_sites around k l ++ case_arms_sites around k rest

  -- a body whose statements have that nesting
  pub body_sites : CheckScope → ℕ → PBody → List CheckSite
  body_sites around k (body l hs) = stmts_sites around k l ++ handlers_sites around k hs

  -- the sites of handlers (11.2): each handler, and its statements, which are one deeper
  pub handlers_sites : CheckScope → ℕ → PHandlers → List CheckSite
  handlers_sites around k no_handler = []
  handlers_sites around k (handler_then (handler ws l s) rest) =
      stands around k s ∷ stmts_sites (handling around) (k + 1) l ++ handlers_sites around k rest

-- ---- declarations

-- the site that counts the components of an array (3.6), at the start of its index range
abbrev pub components_sites : CheckScope → PDrange → List CheckSite
components_sites around r = site around (counts Components 0 (size around.types r) (range_start r)) ∷ []

-- the site that counts the members of an entry family (9.5), at the start of its range
abbrev pub members_sites : CheckScope → PDrange → List CheckSite
members_sites around r = site around (counts Members 0 (size around.types r) (range_start r)) ∷ []

-- the index range of an array
abbrev pub index_sites : CheckScope → PDrange → List CheckSite
index_sites around r = components_sites around r ++ drange_sites around 2 r

-- the sites of an object's shape (3.2.1): its index range where it has one, and its subtype indication
abbrev pub shape_sites : CheckScope → PShape → List CheckSite
shape_sites around (OPlain x) = subind_sites around 2 x
shape_sites around (OArray r x) = index_sites around r ++ subind_sites around 2 x

-- the sites of an initial value (3.2.1): those of its expressions, at nesting 2
abbrev pub init_sites : CheckScope → PInit → List CheckSite
init_sites around (IOne e) = expr_sites around 2 e
init_sites around (IList es s) = exprs_sites around 2 es
init_sites around (IOthers e s) = expr_sites around 2 e

-- the sites of an object declaration (3.2.1): its names, its shape, and its initial value where it has one
abbrev pub object_sites : CheckScope → List Word → PShape → Option PInit → List CheckSite
object_sites around names shape init = names_sites around names ++ shape_sites around shape ++ if_there (init_sites around) init

-- the sites of an entry family's range (9.5): how many members it has, and its bounds
abbrev pub family_sites : CheckScope → PDrange → List CheckSite
family_sites around r = members_sites around r ++ drange_sites around 2 r

-- the sites of an entry declaration (9.5): its name, the range where it is a family, and its formals, declared and counted
abbrev pub entry_sites : CheckScope → PEntry → List CheckSite
entry_sites around e =
    site around (declares e.name)
    ∷ if_there (family_sites around) e.family
    ++ names_sites around (formal_names e.formals)
    ++ numbered around Formals 0 (map (λ w. w.span) (formal_names e.formals))

-- `bodies` are the names of the program's bodies
abbrev pub task_sites : CheckScope → List ℕ → PTask → Span → List CheckSite
task_sites around bodies t s =
    site around (needs_body bodies t.name s)
    ∷ site around (declares t.name)
    ∷ flat_map (entry_sites around) t.entries
    ++ flat_map (λ p. expr_sites around 2 p.value) t.priorities

-- ---- what declarations add

-- an object of main: a task where its mark, or that of its components, is a task type, else shared where it is a variable or an array
abbrev pub with_declared_object : Bool → CheckScope → List Word → CheckScope
with_declared_object true around names = with_meant Shared around names
with_declared_object false around names = around

-- the scope with objects of main, by the meaning of their mark: tasks of a task type (9.2), else shared where that is asked
abbrev pub with_object : CheckScope → Option Meant → Word → Bool → List Word → CheckScope
with_object around (Some TaskType) mark is_shared names = with_meant (TaskOf mark.name) around names
with_object around _ mark is_shared names = with_declared_object is_shared around names

-- the scope after an object declaration of main (3.2.1): its names stand for tasks, are shared, or mean nothing new
abbrev pub after_object : CheckScope → List Word → Bool → PShape → CheckScope
after_object around names constant (OPlain x) = with_object around (meaning around x.mark.name) x.mark (not constant || is_array_type around.types x.mark.name) names
after_object around names constant (OArray r x) = with_object around (meaning around x.mark.name) x.mark true names

-- a task or a task type
abbrev pub meant_by_task : PTask → Meant
meant_by_task t = if t.of_kind then TaskType else TaskOf t.name.name

-- the unit of a task or task type: its name, and the names of its entries (9.1)
abbrev pub enclosing_unit : PTask → EnclosingUnit
enclosing_unit t = record { name = t.name.name; entries = map (λ e. e.name.name) t.entries }

-- the scope after the declaration of a task or task type (9.1): its name has a meaning, and its unit is known
abbrev pub after_task : CheckScope → PTask → CheckScope
after_task around t = with_meant (meant_by_task t) (record around { units = enclosing_unit t ∷ around.units }) (t.name ∷ [])

-- what stands around the places behind a declaration of main
abbrev pub after_decl : CheckScope → PDecl → CheckScope
after_decl around (DObject names constant shape init s) = after_object around names constant shape
after_decl around (DTask t s) = after_task around t
after_decl around _ = around

-- the scope after declarations of main (3.9)
abbrev pub after_decls : CheckScope → PDecls → CheckScope
after_decls around no_decl = around
after_decls around (decl_then d rest) = after_decls (after_decl around d) rest

-- in the body of a task or task type
abbrev pub own_unit : CheckScope → Word → EnclosingUnit
own_unit around w = unwrap_or (find (λ u. u.name.0 == w.name.0) around.units) record { name = w.name; entries = [] }

-- the scope inside the body of the task or task type of that name (9.1)
abbrev pub in_body : CheckScope → Word → CheckScope
in_body around w = record around { own = Some (own_unit around w) }

-- the objects of a task body; no other declarations stand there
abbrev pub own_object_sites : CheckScope → PDecl → List CheckSite
own_object_sites around (DObject names constant shape init s) = object_sites around names shape init
own_object_sites around _ = []

-- the scope after a declaration of a task body: the names of its objects are inner ones (9.1)
abbrev pub after_own_object : CheckScope → PDecl → CheckScope
after_own_object around (DObject names constant shape init s) = with_meant Inner around names
after_own_object around _ = around

-- the sites of the declarations of a task body, each in the scope after those before it (9.1)
abbrev pub own_sites : CheckScope → PDecls → List CheckSite
own_sites around no_decl = []
own_sites around (decl_then d rest) = own_object_sites around d ++ own_sites (after_own_object around d) rest

-- the scope after the declarations of a task body (9.1)
abbrev pub after_own : CheckScope → PDecls → CheckScope
after_own around no_decl = around
after_own around (decl_then d rest) = after_own (after_own_object around d) rest

-- ---- the whole

-- the sites of a declaration of main (3.9); `bodies` are the names of the program's bodies
abbrev pub decl_sites : CheckScope → List ℕ → PDecl → List CheckSite
decl_sites around bodies (DNumber w e s) = site around (declares w) ∷ expr_sites around 2 e
decl_sites around bodies (DObject names constant shape init s) = object_sites around names shape init
decl_sites around bodies (DEnumeration w literals s) = names_sites around (w ∷ literals)
decl_sites around bodies (DArray w r x s) = site around (declares w) ∷ index_sites around r ++ subind_sites around 2 x
decl_sites around bodies (DSubtype w x s) = site around (declares w) ∷ subind_sites around 2 x
decl_sites around bodies (DException names s) = names_sites around names
decl_sites around bodies (DIntIo w s) = site around (declares w) ∷ []
decl_sites around bodies (DPragma e s) = expr_sites around 2 e
decl_sites around bodies (DTask t s) = task_sites around bodies t s
decl_sites around bodies (DTaskBody w objects its s) = own_sites (in_body around w) objects ++ body_sites (after_own (in_body around w) objects) 1 its

-- the sites of declarations of main, each in the scope after those before it (3.9)
abbrev pub decls_sites : CheckScope → List ℕ → PDecls → List CheckSite
decls_sites around bodies no_decl = []
decls_sites around bodies (decl_then d rest) = decl_sites around bodies d ++ decls_sites (after_decl around d) bodies rest

-- the names of all bodies
abbrev pub body_names : PDecls → List ℕ
body_names no_decl = []
body_names (decl_then (DTaskBody w objects its s) rest) = w.name.0 ∷ body_names rest
body_names (decl_then _ rest) = body_names rest

-- what stands around a program's declarations: its own name is known
abbrev pub first_around : TypeTable → Word → CheckScope
first_around types w = record {
  types = types;
  names = (w.name.0, MainProcedure) ∷ [];
  units = [];
  own = None;
  accepting = [];
  loops = [];
  in_handler = false;
}

-- ---- what the whole program counts

-- the tasks behind so many
abbrev pub tasks_sites : CheckScope → ℕ → List NamedTasks → List CheckSite
tasks_sites around n [] = []
tasks_sites around n (x ∷ rest) = site around (counts Tasks n (task_count around.types x) x.place) ∷ tasks_sites around (n + task_count around.types x) rest

-- the entries of a task that is declared as one stand where they are declared, those of an object where its name does
abbrev pub entries_of_part : CheckScope → ℕ → NamedTasks → List CheckSite
entries_of_part around n x =
    if x.unit.of_kind
    then site around (counts Entries n (task_count around.types x * length x.unit.entries) x.place) ∷ []
    else numbered around Entries n (map (λ e. e.span) x.unit.entries)

-- the entries of the program's tasks, after so many (this project's rule)
abbrev pub entries_sites : CheckScope → ℕ → List NamedTasks → List CheckSite
entries_sites around n [] = []
entries_sites around n (x ∷ rest) = entries_of_part around n x ++ entries_sites around (n + task_count around.types x * length x.unit.entries) rest

-- what is copied for each name that stands for tasks, behind so much
abbrev pub copies_sites : CheckScope → (NamedTasks → ℕ) → ℕ → List NamedTasks → List CheckSite
copies_sites around share n [] = []
copies_sites around share n (x ∷ rest) = site around (counts Copies n (share x) x.name.span) ∷ copies_sites around share (n + share x) rest

-- main's own share comes first; its length does not count
abbrev pub all_copies_sites : CheckScope → List NamedTasks → PProgram → List CheckSite
all_copies_sites around parts p =
    site around (counts Copies 0 (callees_share around.types parts p.body) p.name.span)
    ∷ copies_sites around (part_share around.types parts p.decls) (callees_share around.types parts p.body) parts

-- the sites of what is counted over the whole program: its tasks, their entries and what is copied (this project's rule)
abbrev pub counted_sites : CheckScope → PProgram → List CheckSite
counted_sites around p = tasks_sites around 0 (task_names_of p) ++ entries_sites around 0 (task_names_of p) ++ all_copies_sites around (task_names_of p) p

-- what stands around a program
abbrev pub around_program : PProgram → CheckScope
around_program p = first_around (types_in p) p.name

-- The places of a program: its name, its declarations, its body, and behind them what is counted over the whole.
abbrev pub check_sites : PProgram → List CheckSite
check_sites p =
    site (around_program p) (declares p.name)
    ∷ decls_sites (around_program p) (body_names p.decls) p.decls
    ++ body_sites (after_decls (around_program p) p.decls) 1 p.body
    ++ counted_sites (around_program p) p

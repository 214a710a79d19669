-- The places of a program at which the static rules ask something, each with what is asked there and the names that can be used there, in the order of the text (this project's rule).
use Rattle.std.specs.Prelude.{ℕ, Bool, true, false, not, ◌||◌, ◌&&◌, ◌==◌, if◌then◌else◌, List, [], ◌∷◌, ◌++◌, length, map, flat_map, Option, Some, None, is_none, option_map}
use Rattle.ada_tree.specs.declared.naming.Word.{Word}
use Rattle.ada_tree.specs.declared.statements.ParMode.{ParMode}
use Rattle.ada_tree.specs.declared.statements.ParMode.TheVariants.{Take, Give, Both}
use Rattle.ada_tree.specs.PlainExpr.{PExpr, EName, PBounds, PSubind, PDrange, RGiven, RMarked}
use Rattle.ada_tree.specs.PlainStmt.{PTarget, PCallee, PArgs, PCall, PFormal, PPart, PWords, PValue, PChoice, PScheme, LWhile, LFor, PHead, PStmt, SNull, SAssign, SDelay, SExit, SRaise, SAbort, SCall, SAccept, SWait, SConditional, STimed, SPut, SPutLine, SNewLine, SGet, SIf, SCase, SBlock, SLoop, PStmts, no_stmt, stmt_then, PMaybe, absent, present, PAccept, accepting, alternative, PAltKind, AAccept, ADelay, ATerminate, PAlts, no_alt, alt_then, arm, PArms, no_arm, arm_then, case_arm, PCaseArms, no_case_arm, case_arm_then, PBody, body, handler, PHandlers, no_handler, handler_then}
use Rattle.ada_tree.specs.PlainDecl.{PShape, OPlain, OArray, PInit, IOne, IList, IOthers, PEntry, PTask, PDecl, DNumber, DObject, DEnumeration, DArray, DSubtype, DException, DIntIo, DPragma, DTask, DTaskBody, PDecls, no_decl, decl_then}
use Rattle.ada_tree.specs.PlainProgram.{PProgram}
use Rattle.ada_tree.specs.TypeTable.{TypeTable}
use Rattle.ada_static_rules.specs.Scope.{Scope, integer_kind, truth_kind, Range, Thing, Variable, ConstantObject, TaskObject, TaskArray, Family, single, family, unclear, EntryPart, FormalPart, Marking, ScalarMark, ArrayMark, UnclearMark, marking, marking_of_mark, mark_at, scalar_kind, range_of_mark, meaning, entry_named}
use Rattle.ada_static_rules.specs.ExprTypes.{nodes, kind_of}
use Rattle.ada_static_rules.specs.Demand.{MarkUse, scalar_only, or_array, or_task, or_array_or_task, for_scalar, for_array, Demand, declares, declares_entry, labels, gives_body, makes_instance, stands_as_mark, whole, node, must_be_of, must_be_alike, must_be_static, must_not_be_empty, must_lie_in, writes, gets, is_actual, addresses, calls, accepts, names_exception, handles, chooses, initializes, is_written, Site}
use Rattle.ada_static_rules.specs.Declaring.{before_all, first_scope, with_formals, with_loop_parameter, inner_scope, in_body, after_decl, after_own_object, after_decls, after_objects, declared_object, Declared}
use Rattle.ada_static_rules.specs.RuleTextUse.{is_image_of}
use Rattle.ada_static_rules.specs.RuleMismatch.{target_kind}
use Rattle.ada_static_rules.specs.RuleArgCount.{called_entry}
use Rattle.ada_static_rules.specs.RuleChoiceBad.{selected_range}

-- that demand with that scope, as one place
abbrev pub site : Scope → Demand → Site
site scope demand = record { scope = scope; demand = demand }

-- where something may be missing
abbrev pub if_there : {A : Type 0} → (A → List Site) → Option A → List Site
if_there f (Some x) = f x
if_there f None = []

-- ---- names

-- the names of one declaration, each in the scope that those before it leave
abbrev pub names_sites : Bool → Scope → List Word → List Site
names_sites fixed scope [] = []
names_sites fixed scope (w ∷ ws) = site scope (declares fixed w) ∷ names_sites fixed (record scope { here = w.name.0 ∷ scope.here }) ws

-- ---- expressions

-- an expression: the whole, and each of its parts
abbrev pub expr_sites : Scope → PExpr → List Site
expr_sites scope e = site scope (whole e) ∷ map (λ n. site scope (node false n)) (nodes e)

-- the parts of a part of a text, which may be 'IMAGE itself
abbrev pub part_nodes : Scope → PExpr → List Site
part_nodes scope e = first_written (nodes e)
  where
    first_written : List PExpr → List Site
    first_written [] = []
    first_written (n ∷ ns) = site scope (node true n) ∷ map (λ m. site scope (node false m)) ns

-- an expression that must be of a kind
abbrev pub expr_of : Scope → Option ℕ → PExpr → List Site
expr_of scope k e = expr_sites scope e ++ site scope (must_be_of e k) ∷ []

-- and be static
abbrev pub static_of : Scope → Option ℕ → PExpr → List Site
static_of scope k e = expr_of scope k e ++ site scope (must_be_static e) ∷ []

-- where it is asked, static
abbrev pub static_if : Bool → Scope → PExpr → List Site
static_if true scope e = site scope (must_be_static e) ∷ []
static_if false scope e = []

-- ---- ranges; the truth value says whether the bounds must be static

-- the sites of two bounds (3.5): both expressions, static where that is asked, and the range of both, which must not be empty
abbrev pub bounds_sites : Bool → Scope → PBounds → List Site
bounds_sites static scope b =
    expr_sites scope b.first ++ static_if static scope b.first
    ++ expr_sites scope b.last ++ static_if static scope b.last
    ++ site scope (must_not_be_empty b.first b.last) ∷ []

-- the range of a mark with bounds of its own
abbrev pub constraint_sites : Bool → Scope → Option ℕ → PBounds → List Site
constraint_sites static scope k b =
    bounds_sites static scope b ++ site scope (must_be_of b.first k) ∷ site scope (must_be_of b.last k) ∷ []

-- the site of a name that stands as a mark, with the marks that are allowed there (3.3.2)
abbrev pub mark_sites : MarkUse → Scope → Word → List Site
mark_sites allowed scope w = site scope (stands_as_mark allowed w) ∷ []

-- a subtype indication
abbrev pub subind_sites : Bool → MarkUse → Scope → PSubind → List Site
subind_sites static allowed scope x =
    mark_sites allowed scope x.mark ++ if_there (constraint_sites static scope (scalar_kind (marking scope x.mark.name))) x.bounds

-- a discrete range
abbrev pub drange_sites : Bool → Scope → PDrange → List Site
drange_sites static scope (RGiven b) = bounds_sites static scope b ++ site scope (must_be_alike b.first b.last) ∷ []
drange_sites static scope (RMarked x) = subind_sites static scalar_only scope x

-- ---- objects

-- a task type may be the mark of a variable of main without a range and an initial value
abbrev pub may_be_task : Scope → Bool → Option PBounds → Option PInit → Bool
may_be_task scope constant bounds init = scope.in_main && not constant && is_none bounds && is_none init

-- an array type may be the mark of an object without a range
abbrev pub object_marks : Bool → Option PBounds → MarkUse
object_marks true None = or_array_or_task
object_marks true (Some b) = scalar_only
object_marks false None = or_array
object_marks false (Some b) = scalar_only

-- the marks that components of an array may have: scalar ones, and task types where these are allowed (this project's rule)
abbrev pub component_marks : Bool → MarkUse
component_marks true = or_task
component_marks false = scalar_only

-- the sites of an object's shape (3.2.1): its index range where it has one, and its subtype indication, whose bounds must be static
abbrev pub shape_sites : Scope → Bool → PShape → Option PInit → List Site
shape_sites scope constant (OPlain x) init = subind_sites true (object_marks (may_be_task scope constant x.bounds init) x.bounds) scope x
shape_sites scope constant (OArray index x) init = drange_sites true scope index ++ subind_sites true (component_marks (may_be_task scope constant x.bounds init)) scope x

-- an initial value in a range
abbrev pub value_sites : Scope → Option Range → PExpr → List Site
value_sites scope range e = static_of scope (option_map (λ r. r.kind) range) e ++ site scope (must_lie_in e range) ∷ []

-- an initial value in which nothing has a kind to meet
abbrev pub free_value_sites : Scope → PExpr → List Site
free_value_sites scope e = expr_sites scope e ++ site scope (must_be_static e) ∷ []

-- the sites of an initial value whose expressions have no kind to meet, but must be static (this project's rule)
abbrev pub all_init_sites : Scope → PInit → List Site
all_init_sites scope (IOne e) = free_value_sites scope e
all_init_sites scope (IList es s) = flat_map (free_value_sites scope) es
all_init_sites scope (IOthers e s) = free_value_sites scope e

-- the initial value of an array, by the range of its index and that of its components
abbrev pub array_init_sites : Scope → Option Range → PInit → List Site
array_init_sites scope part (IOne e) = free_value_sites scope e
array_init_sites scope part (IList es s) = flat_map (value_sites scope part) es
array_init_sites scope part (IOthers e s) = value_sites scope part e

-- the initial value of a scalar, by its range
abbrev pub scalar_init_sites : Scope → Option Range → PInit → List Site
scalar_init_sites scope range (IOne e) = value_sites scope range e
scalar_init_sites scope range (IList es s) = flat_map (free_value_sites scope) es
scalar_init_sites scope range (IOthers e s) = free_value_sites scope e

-- the mark of an object, in the table that its declaration leaves
abbrev pub object_marking : Declared → Marking
object_marking d = of_thing d.thing
  where
    of_thing : Thing → Marking
    of_thing (Variable m) = marking_of_mark d.types m (mark_at d.types m)
    of_thing (ConstantObject m) = marking_of_mark d.types m (mark_at d.types m)
    of_thing _ = UnclearMark

-- the sites of an initial value, by the mark of its object (3.2.1): that of a scalar, of an array, or of neither
abbrev pub init_sites : Scope → TypeTable → Marking → PInit → List Site
init_sites scope types (ScalarMark m k) value = scalar_init_sites scope (range_of_mark types m) value ++ site scope (initializes for_scalar value) ∷ []
init_sites scope types (ArrayMark m range part) value = array_init_sites scope (range_of_mark types part) value ++ site scope (initializes (for_array range) value) ∷ []
init_sites scope types _ value = all_init_sites scope value

-- a task object is no variable
abbrev pub is_task_object : Thing → Bool
is_task_object (TaskObject entries) = true
is_task_object (TaskArray range entries) = true
is_task_object _ = false

-- a name of main that is no variable is declared nowhere else
abbrev pub object_sites : Scope → List Word → Bool → PShape → Option PInit → Declared → List Site
object_sites scope names constant shape init d =
    names_sites (scope.in_main && (constant || is_task_object d.thing)) scope names
    ++ shape_sites scope constant shape init
    ++ if_there (init_sites scope d.types (object_marking d)) init

-- ---- tasks

-- the sites of the marks of formals (6.1), which must be scalar ones
abbrev pub formal_mark_sites : Scope → List PFormal → List Site
formal_mark_sites scope formals = flat_map (λ f. mark_sites scalar_only scope f.mark) formals

-- the names of all the formals, in the order of the text (6.1)
abbrev pub all_names : List PFormal → List Word
all_names formals = flat_map (λ f. f.names) formals

-- the formals of an entry or an accept are a scope of their own
abbrev pub formals_sites : Scope → List PFormal → List Site
formals_sites scope formals = names_sites false (inner_scope scope) (all_names formals) ++ formal_mark_sites scope formals

-- the sites of an entry declaration (9.5): its name, its range where it is a family, and its formals
abbrev pub entry_sites : Scope → List ℕ → PEntry → List Site
entry_sites scope names e =
    site scope (declares_entry names e.name)
    ∷ if_there (drange_sites true scope) e.family
    ++ formals_sites scope e.formals

-- the sites of a task's entries, after those with these names (9.5)
abbrev pub entries_sites : Scope → List ℕ → List PEntry → List Site
entries_sites scope names [] = []
entries_sites scope names (e ∷ es) = entry_sites scope names e ++ entries_sites scope (e.name.name.0 ∷ names) es

-- the sites of a task or task type (9.1): its name, its entries, and its priorities, each a static INTEGER (9.8)
abbrev pub task_sites : Scope → PTask → List Site
task_sites scope t =
    names_sites true scope (t.name ∷ [])
    ++ entries_sites scope [] t.entries
    ++ flat_map (λ p. static_of scope (Some integer_kind) p.value) t.priorities

-- ---- calls, accepts and texts

-- the sites of a task in a call or an abort statement (9.5, 9.10): itself, and its index where it has one
abbrev pub callee_sites : Scope → PCallee → List Site
callee_sites scope c = site scope (addresses c) ∷ if_there (expr_sites scope) c.index

-- an actual: of mode in an expression, else a variable, of which its name alone is not read
abbrev pub written_actual_sites : Scope → ParMode → PExpr → List Site
written_actual_sites scope mode (EName id s) = site scope (is_actual mode (EName id s)) ∷ []
written_actual_sites scope mode e = site scope (is_actual mode e) ∷ expr_sites scope e

-- the sites of an actual, by the mode of its formal (6.4.1): of mode in it is an expression, else a variable is asked
abbrev pub actual_sites : Scope → ParMode → PExpr → List Site
actual_sites scope Take e = expr_sites scope e
actual_sites scope Give e = written_actual_sites scope Give e
actual_sites scope Both e = written_actual_sites scope Both e

-- the actuals beside the formals; one without a formal is an expression
abbrev pub actuals_sites : Scope → List FormalPart → List PExpr → List Site
actuals_sites scope formals [] = []
actuals_sites scope [] (e ∷ es) = expr_sites scope e ++ actuals_sites scope [] es
actuals_sites scope (f ∷ fs) (e ∷ es) = actual_sites scope f.mode e ++ site scope (must_be_of e f.kind) ∷ actuals_sites scope fs es

-- lists behind a name whose entry is not known
abbrev pub free_args_sites : Scope → PArgs → List Site
free_args_sites scope args = flat_map (expr_sites scope) args.first ++ if_there (flat_map (expr_sites scope)) args.second

-- the lists behind an entry: of a family the index and then the actuals, else the actuals
abbrev pub family_args_sites : Scope → Range → List FormalPart → PArgs → List Site
family_args_sites scope range formals args = flat_map (expr_of scope (Some range.kind)) args.first ++ if_there (actuals_sites scope formals) args.second

-- the lists after the name of a single entry (9.5): its actuals, and the expressions of a second list where one stands
abbrev pub single_args_sites : Scope → List FormalPart → PArgs → List Site
single_args_sites scope formals args = actuals_sites scope formals args.first ++ if_there (flat_map (expr_sites scope)) args.second

-- the sites of the lists after the name of a called entry, by the entry where it is known (9.5)
abbrev pub args_sites : Scope → Option EntryPart → PArgs → List Site
args_sites scope (Some entry) args = of_family entry.family
  where
    of_family : Family → List Site
    of_family single = single_args_sites scope entry.formals args
    of_family (family range) = family_args_sites scope range entry.formals args
    of_family unclear = free_args_sites scope args
args_sites scope None args = free_args_sites scope args

-- the sites of an entry call (9.5): its task, its entry, and its arguments where it has some
abbrev pub call_sites : Scope → PCall → List Site
call_sites scope c =
    callee_sites scope c.task
    ++ site scope (calls c)
    ∷ if_there (args_sites scope (called_entry (meaning scope c.task.name.name) c.entry.name)) c.args

-- the index of an accept, in the range of its family
abbrev pub accept_index_sites : Scope → Option EntryPart → PExpr → List Site
accept_index_sites scope (Some entry) e = of_family entry.family
  where
    of_family : Family → List Site
    of_family (family range) = expr_of scope (Some range.kind) e ++ site scope (must_lie_in e (Some range)) ∷ []
    of_family _ = expr_sites scope e
accept_index_sites scope None e = expr_sites scope e

-- the sites of an accept statement before its body (9.5): the entry, its index where it has one, and its formals
abbrev pub head_sites : Scope → PHead → List Site
head_sites scope h =
    site scope (accepts h)
    ∷ if_there (accept_index_sites scope (entry_named scope.own h.entry.name)) h.index
    ++ formals_sites scope h.formals

-- a plain expression alone in PUT is an INTEGER
abbrev pub plain_part_sites : Scope → Bool → PExpr → List Site
plain_part_sites scope true e = if is_image_of e then [] else site scope (must_be_of e (Some integer_kind)) ∷ []
plain_part_sites scope false e = []

-- a part of a text; `alone` says that it is all that PUT writes
abbrev pub part_sites : Scope → Bool → PPart → List Site
part_sites scope alone (PWords text s) = []
part_sites scope alone (PValue e) = site scope (whole e) ∷ part_nodes scope e ++ site scope (is_written alone e) ∷ plain_part_sites scope alone e

-- the sites of a variable or component that is written (5.2): itself, and its index where it has one
abbrev pub target_sites : Scope → PTarget → List Site
target_sites scope t = site scope (writes t) ∷ if_there (expr_sites scope) t.index

-- the sites of a condition (5.3): an expression that must be of BOOLEAN
abbrev pub condition_sites : Scope → PExpr → List Site
condition_sites scope e = expr_of scope (Some truth_kind) e

-- ---- cases

-- a choice: of the selector's kind, static and in its range
abbrev pub choice_sites : Scope → Option ℕ → Option Range → PChoice → List Site
choice_sites scope k range c =
    static_of scope k c.first ++ site scope (must_lie_in c.first range)
    ∷ if_there (λ e. static_of scope k e ++ site scope (must_lie_in e range) ∷ site scope (must_not_be_empty c.first e) ∷ []) c.last

-- the choices of all arms, in order
abbrev pub arm_choices : PCaseArms → List PChoice
arm_choices no_case_arm = []
arm_choices (case_arm_then (case_arm choices l) rest) = choices ++ arm_choices rest

-- the statements that may be left out stand there
abbrev pub is_present : PMaybe → Bool
is_present absent = false
is_present (present l) = true

-- ---- handlers

-- the names of a handler behind those of the handlers before it
abbrev pub handler_names_sites : Scope → List ℕ → List Word → List Site
handler_names_sites scope names [] = []
handler_names_sites scope names (w ∷ ws) = site scope (names_exception w) ∷ site scope (handles names w) ∷ handler_names_sites scope (w.name.0 ∷ names) ws

-- those names, and before them the names of some words
abbrev pub with_words : List ℕ → List Word → List ℕ
with_words names [] = names
with_words names (w ∷ ws) = with_words (w.name.0 ∷ names) ws

-- ---- loops

-- the sites of an iteration scheme (5.5): the condition of a while loop, or the parameter and the range of a for loop
abbrev pub scheme_sites : Scope → PScheme → List Site
scheme_sites scope (LWhile e) = condition_sites scope e
scheme_sites scope (LFor w r x) = names_sites false (inner_scope scope) (w ∷ []) ++ drange_sites false scope x

-- the statements of a for loop see its parameter
abbrev pub loop_scope : Scope → Option PScheme → Scope
loop_scope scope (Some (LFor w r x)) = with_loop_parameter scope w x
loop_scope scope (Some (LWhile e)) = scope
loop_scope scope None = scope

-- ---- statements

abbrev mutual
  -- the sites of a statement (5.1): what is asked of itself, and of all that stands in it
  pub stmt_sites : Scope → PStmt → List Site
  stmt_sites scope (SNull s) = []
  stmt_sites scope (SAssign t e s) = target_sites scope t ++ expr_of scope (target_kind scope t) e
  stmt_sites scope (SDelay d s) = []
  stmt_sites scope (SExit w e s) = if_there (condition_sites scope) e
  stmt_sites scope (SRaise w s) = if_there (λ x. site scope (names_exception x) ∷ []) w
  stmt_sites scope (SAbort cs s) = flat_map (callee_sites scope) cs
  stmt_sites scope (SCall c s) = call_sites scope c
  stmt_sites scope (SAccept a s) = accept_sites scope a
  stmt_sites scope (SWait x o s) = alts_sites scope x ++ maybe_sites scope o
  stmt_sites scope (SConditional c b o s) = call_sites scope c ++ stmts_sites scope b ++ stmts_sites scope o
  stmt_sites scope (STimed c b d a s) = call_sites scope c ++ stmts_sites scope b ++ stmts_sites scope a
  stmt_sites scope (SPut ps s) = flat_map (part_sites scope (length ps == 1)) ps
  stmt_sites scope (SPutLine ps s) = flat_map (part_sites scope false) ps
  stmt_sites scope (SNewLine s) = []
  stmt_sites scope (SGet t s) = target_sites scope t ++ site scope (gets t) ∷ []
  stmt_sites scope (SIf x o s) = arms_sites scope x ++ maybe_sites scope o
  stmt_sites scope (SCase e x o s) =
      site scope (chooses e (arm_choices x) (is_present o) s)
      ∷ expr_sites scope e
      ++ case_arms_sites scope (kind_of scope e) (selected_range scope e) x
      ++ maybe_sites scope o
  stmt_sites scope (SBlock b s) = body_sites scope b
  stmt_sites scope (SLoop w c l s) = if_there (λ x. site scope (labels x) ∷ []) w ++ if_there (scheme_sites scope) c ++ stmts_sites (loop_scope scope c) l

  -- the sites of a sequence of statements, in the order of the text (5.1)
  pub stmts_sites : Scope → PStmts → List Site
  stmts_sites scope no_stmt = []
  stmts_sites scope (stmt_then x l) = stmt_sites scope x ++ stmts_sites scope l

  -- the sites of statements that may be left out: none where they are
  pub maybe_sites : Scope → PMaybe → List Site
  maybe_sites scope absent = []
  maybe_sites scope (present l) = stmts_sites scope l

  -- an accept: its statements see its formals
  pub accept_sites : Scope → PAccept → List Site
  accept_sites scope (accepting h o) = head_sites scope h ++ maybe_sites (with_formals (inner_scope scope) h.formals) o

  -- the sites of the alternatives of a selective wait (9.7.1): of each its guard, where it has one, and what stands in it
  pub alts_sites : Scope → PAlts → List Site
  alts_sites scope no_alt = []
  alts_sites scope (alt_then (alternative g x s) l) = if_there (condition_sites scope) g ++ alt_sites scope x ++ alts_sites scope l

  -- the sites of what stands in an alternative of a selective wait, without its guard (9.7.1)
  pub alt_sites : Scope → PAltKind → List Site
  alt_sites scope (AAccept a l) = accept_sites scope a ++ stmts_sites scope l
  alt_sites scope (ADelay d l) = stmts_sites scope l
  alt_sites scope ATerminate = []

  -- the sites of the arms of an if statement (5.3): the condition and the statements of each
  pub arms_sites : Scope → PArms → List Site
  arms_sites scope no_arm = []
  arms_sites scope (arm_then (arm e l) rest) = condition_sites scope e ++ stmts_sites scope l ++ arms_sites scope rest

  -- the sites of the arms of a case statement (5.4): the choices, by the selector's kind and range, and the statements of each
  pub case_arms_sites : Scope → Option ℕ → Option Range → PCaseArms → List Site
  case_arms_sites scope k range no_case_arm = []
  case_arms_sites scope k range (case_arm_then (case_arm choices l) rest) =
      flat_map (choice_sites scope k range) choices ++ stmts_sites scope l ++ case_arms_sites scope k range rest

  -- the sites of a body or block (5.6): those of its statements, then those of its handlers
  pub body_sites : Scope → PBody → List Site
  body_sites scope (body l hs) = stmts_sites scope l ++ handlers_sites scope [] hs

  -- handlers behind those that name some exceptions
  pub handlers_sites : Scope → List ℕ → PHandlers → List Site
  handlers_sites scope names no_handler = []
  handlers_sites scope names (handler_then (handler ws l s) rest) =
      handler_names_sites scope names ws ++ stmts_sites scope l ++ handlers_sites scope (with_words names ws) rest

-- ---- declarations

-- the objects of a task body; no other declarations stand there
abbrev pub own_object_sites : Scope → PDecl → List Site
own_object_sites scope (DObject names constant shape init s) = object_sites scope names constant shape init (declared_object scope constant shape)
own_object_sites scope _ = []

-- the sites of the declarations of a task body, each in the scope after those before it (9.1)
abbrev pub own_sites : Scope → PDecls → List Site
own_sites scope no_decl = []
own_sites scope (decl_then d rest) = own_object_sites scope d ++ own_sites (after_own_object scope d) rest

-- the sites of a declaration of main (3.9), by its kind
abbrev pub decl_sites : Scope → PDecl → List Site
decl_sites scope (DNumber name e s) = names_sites true scope (name ∷ []) ++ static_of scope (Some integer_kind) e
decl_sites scope (DObject names constant shape init s) = object_sites scope names constant shape init (declared_object scope constant shape)
decl_sites scope (DEnumeration name literals s) = names_sites true scope (name ∷ literals)
decl_sites scope (DArray name index x s) = names_sites true scope (name ∷ []) ++ drange_sites true scope index ++ subind_sites true scalar_only scope x
decl_sites scope (DSubtype name x s) = names_sites true scope (name ∷ []) ++ subind_sites true scalar_only scope x
decl_sites scope (DException names s) = names_sites true scope names
decl_sites scope (DIntIo name s) = site scope (makes_instance name) ∷ names_sites true scope (name ∷ [])
decl_sites scope (DPragma e s) = static_of scope (Some integer_kind) e
decl_sites scope (DTask t s) = task_sites scope t
decl_sites scope (DTaskBody name objects its s) =
    site scope (gives_body name)
    ∷ own_sites (in_body scope name) objects
    ++ body_sites (inner_scope (after_objects (in_body scope name) objects)) its

-- the sites of declarations of main, each in the scope after those before it (3.9)
abbrev pub decls_sites : Scope → PDecls → List Site
decls_sites scope no_decl = []
decls_sites scope (decl_then d rest) = decl_sites scope d ++ decls_sites (after_decl scope d) rest

-- The places of a program: those of its declarations, and those of the body of main behind them all.
abbrev pub sites : PProgram → List Site
sites p =
    names_sites true before_all (p.name ∷ [])
    ++ decls_sites (first_scope p.name) p.decls
    ++ body_sites (inner_scope (after_decls (first_scope p.name) p.decls)) p.body

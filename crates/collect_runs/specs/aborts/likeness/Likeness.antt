-- When two tasks of a normal form are alike though a lost call has left other values in variables that the normal form adds (this project's rule). A call
-- is lost where its acceptor is aborted once values have come back, but before anybody told so. The two stand at the same place. Their variables differ
-- at most in the values of added ones. And those are read no more before they are assigned to.
use Rattle.std.specs.Prelude.{◌≡◌, ℕ, zero, suc, ◌<◌, ℤ, Bool, true, false, not, ◌&&◌, List, [], ◌∷◌, length, Option, Some, None, Result, Ok, Err}
use Rattle.std.specs.List.{AllByRecursion}
use Rattle.ada_tree.specs.declared.naming.NameId.{NameId}
use Rattle.ada_tree.specs.declared.naming.Word.{Word}
use Rattle.ada_static_rules.specs.Sites.{all_names}
use Rattle.ada_tree.specs.PlainStmt.{PCallee, PCall, PFormal, PScheme, LWhile, LFor, PHead, PStmt, SNull, SAssign, SDelay, SExit, SRaise, SAbort, SCall, SAccept, SWait, SConditional, STimed, SPut, SPutLine, SNewLine, SGet, SIf, SCase, SBlock, SLoop, PStmts, no_stmt, stmt_then, PMaybe, absent, present, accepting, alternative, PAltKind, AAccept, ADelay, ATerminate, PAlts, no_alt, alt_then, PArms, no_arm, arm_then, arm, PCaseArms, no_case_arm, case_arm_then, case_arm, body, PHandlers, no_handler, handler_then, handler}
use Rattle.ada_value.specs.declared.values.Raised.{Raised}
use Rattle.ada_value.specs.declared.values.Value.{Value}
use Rattle.ada_value.specs.declared.values.Value.TheVariants.{Number}
use Rattle.ada_value.specs.Variables.{Object, Variables, object_named, with_value}
use Rattle.ada_value.specs.Evaluating.{evaluated, condition_of}
use Rattle.ada_value.specs.Texts.{parts_output}
use Rattle.task_model.specs.Setting.{Setting, callee_task, entry_of, member_index, entry_parameters, lists_of}
use Rattle.task_model.specs.Frames.{Turns, Endless, While, Counting, Around, OwnBody, Block, Handling, Loop, Opened, PFrame, Control, control, brought}
use Rattle.task_model.specs.Tasks.{Task}
use Rattle.task_model.specs.Steps.{assigned, aim_of, stored, choices_fit, counted_range, exit_test}
use Rattle.task_model.specs.Calls.{Called, called, Copies, copied_back}
use Rattle.task_model.specs.Waits.{alternatives_open}
use Rattle.task_laws.specs.translation.Translations.{Programs, IsOld}
use Rattle.task_laws.specs.translation.Controls.{task_in}
use Rattle.normal_model.specs.Names.{variable_name}
use Rattle.normal_laws.specs.runs.floors.Preludes.{Added}
use Rattle.collect_runs.specs.aborts.telling.Forms.{backs}

-- What the tasks of one unit are told against: a program and its normal form, the number of a task, and the variables that the normal form adds to its
-- unit.
pub record Ground : Type 0 where
  pub programs : Programs
  pub number : ℕ
  pub added : Added programs programs.original

-- how two rows of variables go together
abbrev pub Goal : Type 1
Goal = Variables → Variables → Type 0

-- what a task has beside its variables where it evaluates something; nothing hangs on it
pub record Beside : Type 0 where
  pub input : List ℤ
  pub output : List ℕ
  pub rest : PStmts
  pub place : Around
  pub outer : List PFrame

module _ (x : Ground) where
  -- what the tasks read
  abbrev pub form : Setting
  form = x.programs.made

  -- the task with these variables
  abbrev pub with_these : Beside → Variables → Task
  with_these c V = task_in form x.number c.input c.output (control c.rest c.place c.outer V)

  -- ---- variables

  -- the name is an added one, or one that a variable may have
  abbrev pub is_apart : ℕ → Bool
  is_apart n = not (x.programs.is_old n && x.programs.is_fixed n)

  abbrev pub IsApart : NameId → Type 0
  IsApart id = is_apart id.0 ≡ true

  -- The same variable, but for its value where its name is an added one: as soon as it gets a value the two are the same. No constant has its name.
  pub record NearObject (o p : Object) : Type 0 where
    pub free : IsApart o.name
    pub set : (v : Value) → with_value p 0 v ≡ with_value o 0 v
    pub old : IsOld x.programs o.name → p ≡ o

  abbrev pub Near : Variables → Variables → Type 0
  Near [] [] = Unit {0}
  Near (o ∷ V) (p ∷ W) = NearObject o p × Near V W
  Near V W = ⊥

  -- both raise the same, or what comes out is near and goes together
  abbrev pub Meet : Goal → Result Variables Raised → Result Variables Raised → Type 0
  Meet K (Ok V) (Ok W) = Near V W × K V W
  Meet K (Err a) (Err b) = b ≡ a
  Meet K r q = ⊥

  -- the variable of this number is there, with its subtype and one value
  pub record IsThere (k : ℕ) (V : Variables) : Type 0 where
    pub object : Object
    pub found : object_named V (variable_name x.programs.original k) ≡ Some object
    pub limits : object.limits ≡ x.added.bounds k
    pub value : Value
    pub single : object.values ≡ value ∷ []

  -- the unit's added variables are there
  abbrev pub AreCells : Variables → Type 0
  AreCells V = (k : ℕ) → k < x.added.count → IsThere k V

  -- ---- statements

  -- whatever near variables come, both go on so
  abbrev pub Always : Goal → Type 0
  Always K = (V W : Variables) → Near V W → K V W

  -- whatever variables come, the same to both, both go on so
  abbrev pub Skipped : Goal → Type 0
  Skipped K = (U : Variables) → Near U U → K U U

  -- no formal has the name of a constant
  abbrev pub FreeFormals : List PFormal → Type 0
  FreeFormals formals = AllByRecursion (λ (w : Word). IsApart w.name) (all_names formals)

  -- the values that come back to the variables from an entry that is called
  abbrev pub copies_in : Variables → PCall → Called → List Value → Copies
  copies_in U c r vs = copied_back (entry_parameters form r.entry) (lists_of form.numbers r.entry c.args).actuals vs U

  -- A call is the same in both. Values come back to both alike. Where there is one for each formal both go on so, and where they come back to the second alone
  -- the two are near.
  pub record PassesCall (c : PCall) (K : Goal) (V W : Variables) : Type 0 where
    pub same : called form W c ≡ called form V c
    pub stopped : (r : Called) → called form V c ≡ Ok r → (vs : List Value) → (copies_in W c r vs).stopped ≡ (copies_in V c r vs).stopped
    pub near : (r : Called) → called form V c ≡ Ok r → (vs : List Value) → Near (copies_in V c r vs).vars (copies_in W c r vs).vars
    pub lost : (r : Called) → called form V c ≡ Ok r → (vs : List Value) → Near V (copies_in W c r vs).vars
    pub goes : (r : Called) → called form V c ≡ Ok r → (vs : List Value) → length vs ≡ backs (entry_parameters form r.entry) → (copies_in V c r vs).stopped ≡ None →
        K (copies_in V c r vs).vars (copies_in W c r vs).vars
    pub skipped : Skipped K

  -- an accept is for the same member
  abbrev pub HeadAlike : PHead → Variables → Variables → Type 0
  HeadAlike h V W = member_index form W (entry_of form.numbers x.number h.entry.name) h.index ≡ member_index form V (entry_of form.numbers x.number h.entry.name) h.index

  -- a loop goes on alike
  abbrev pub SchemeAlike : Option PScheme → Type 0
  SchemeAlike None = Unit {0}
  SchemeAlike (Some (LWhile e)) = Always (λ V W. condition_of form.types W e ≡ condition_of form.types V e)
  SchemeAlike (Some (LFor w backwards range)) = IsApart w.name × ((c : Beside) → Always (λ V W. counted_range (with_these c W) range ≡ counted_range (with_these c V) range))

  -- an abort names the same tasks
  abbrev pub PassesNames : List PCallee → Goal → Variables → Variables → Type 0
  PassesNames [] K V W = K V W
  PassesNames (c ∷ cs) K V W = (callee_task form W c ≡ callee_task form V c) × PassesNames cs K V W

  -- the conditions or choices of an arm are worth the same, and by them both go into the arm or beyond it
  pub record Branches (A : Type 0) (test other : A → Result Bool Raised) (Into Beyond : Type 0) : Type 0 where
    pub same : (c : A) → other c ≡ test c
    pub into : (c : A) → test c ≡ Ok true → Into
    pub beyond : (c : A) → test c ≡ Ok false → Beyond

  abbrev mutual
    -- Two tasks with these variables go through a row alike, and behind it their variables go together so. Where the variables are the same, each of its
    -- statements may be left out.
    pub Passes : PStmts → Goal → Variables → Variables → Type 0
    Passes no_stmt K V W = K V W
    Passes (stmt_then s rest) K V W = (AreCells V → PassesOne s (Passes rest K) V W) × Skipped (Passes rest K)

    pub PassesOne : PStmt → Goal → Variables → Variables → Type 0
    PassesOne (SNull s) K V W = K V W
    PassesOne (SDelay d s) K V W = K V W
    PassesOne (SAssign target e s) K V W = (c : Beside) → Meet K (assigned (with_these c V) target e) (assigned (with_these c W) target e)
    PassesOne (SExit w test s) K V W = ((c : Beside) → exit_test (with_these c W) test ≡ exit_test (with_these c V) test) × K V W
    PassesOne (SRaise w s) K V W = Unit {0}
    PassesOne (SAbort cs s) K V W = PassesNames cs K V W
    PassesOne (SPut ps s) K V W = (parts_output form.program.names form.types W ps ≡ parts_output form.program.names form.types V ps) × K V W
    PassesOne (SPutLine ps s) K V W = (parts_output form.program.names form.types W ps ≡ parts_output form.program.names form.types V ps) × K V W
    PassesOne (SNewLine s) K V W = K V W
    PassesOne (SGet target s) K V W =
        ((c : Beside) → aim_of (with_these c W) target ≡ aim_of (with_these c V) target) ×
        ((c : Beside) (k : ℕ) (z : ℤ) → Meet K (stored (with_these c V) target k (Number z)) (stored (with_these c W) target k (Number z)))
    PassesOne (SIf arms otherwise s) K V W = PassesArms arms (PassesMaybe otherwise K V W) K V W
    PassesOne (SCase e arms others s) K V W = (evaluated form.types W e ≡ evaluated form.types V e) × ((v : Value) → evaluated form.types V e ≡ Ok v → PassesCase v arms (PassesMaybe others K V W) K V W)
    PassesOne (SBlock (body l hs) s) K V W = Passes l Near V W × (AreSafe hs × Always K)
    PassesOne (SLoop name scheme l s) K V W = (SchemeAlike scheme × Always (Passes l Near)) × (K V W × Always K)
    PassesOne (SCall c s) K V W = PassesCall c K V W
    PassesOne (SConditional c l m s) K V W = PassesCall c (Passes l K) V W × Passes m K V W
    PassesOne (STimed c l d m s) K V W = PassesCall c (Passes l K) V W × Passes m K V W
    PassesOne (SAccept (accepting h o) s) K V W = (HeadAlike h V W × FreeFormals h.formals) × (Always (PassesMaybe o Near) × Always K)
    PassesOne (SWait alts otherwise s) K V W =
        ((c : Beside) → alternatives_open (with_these c W) alts 0 ≡ alternatives_open (with_these c V) alts 0) × (PassesAlts alts K V W × (PassesMaybe otherwise K V W × Always K))

    pub PassesMaybe : PMaybe → Goal → Variables → Variables → Type 0
    PassesMaybe absent K V W = K V W
    PassesMaybe (present l) K V W = Passes l K V W

    pub PassesArms : PArms → Type 0 → Goal → Variables → Variables → Type 0
    PassesArms no_arm Otherwise K V W = Otherwise
    PassesArms (arm_then (arm e l) rest) Otherwise K V W =
        Branches (Unit {0}) (λ c. condition_of form.types V e) (λ c. condition_of form.types W e) (Passes l K V W) (PassesArms rest Otherwise K V W)

    pub PassesCase : Value → PCaseArms → Type 0 → Goal → Variables → Variables → Type 0
    PassesCase v no_case_arm Others K V W = Others
    PassesCase v (case_arm_then (case_arm cs l) rest) Others K V W =
        Branches Beside (λ c. choices_fit (with_these c V) v cs) (λ c. choices_fit (with_these c W) v cs) (Passes l K V W) (PassesCase v rest Others K V W)

    pub PassesAlts : PAlts → Goal → Variables → Variables → Type 0
    PassesAlts no_alt K V W = Unit {0}
    PassesAlts (alt_then (alternative guard k s) rest) K V W = PassesKind k K V W × PassesAlts rest K V W

    pub PassesKind : PAltKind → Goal → Variables → Variables → Type 0
    PassesKind (AAccept (accepting h o) l) K V W = FreeFormals h.formals × (Always (PassesMaybe o Near) × Always (Passes l K))
    PassesKind (ADelay d l) K V W = Passes l K V W
    PassesKind ATerminate K V W = Unit {0}

    -- both go through each handler alike
    pub AreSafe : PHandlers → Type 0
    AreSafe no_handler = Unit {0}
    AreSafe (handler_then (handler ws l s) rest) = Always (Passes l Near) × AreSafe rest

  -- ---- tasks

  -- the condition of a loop is worth the same to both
  abbrev pub SafeTurns : Turns → Type 0
  SafeTurns Endless = Unit {0}
  SafeTurns (While e) = Always (λ V W. condition_of form.types W e ≡ condition_of form.types V e)
  SafeTurns (Counting backwards last) = Unit {0}

  -- both go on alike from what a frame stands in: handlers, or the next turn of a loop
  abbrev pub SafePlace : Around → Type 0
  SafePlace (OwnBody handlers taken) = AreSafe handlers
  SafePlace (Block handlers) = AreSafe handlers
  SafePlace (Handling e) = Unit {0}
  SafePlace (Loop name turns stmts) = Always (Passes stmts Near) × SafeTurns turns
  SafePlace (Opened caller formals pending) = Unit {0}

  -- and from the frames outside
  abbrev pub SafeOuter : List PFrame → Type 0
  SafeOuter [] = Unit {0}
  SafeOuter (part ∷ parts) = Always (Passes part.rest Near) × (SafePlace part.place × SafeOuter parts)

  -- where both stand, with the variables of each
  pub record LikeAt (rest : PStmts) (place : Around) (outer : List PFrame) (V W : Variables) : Type 0 where
    pub near : Near V W
    pub passes : Passes rest Near V W
    pub inside : SafePlace place
    pub outside : SafeOuter outer

  -- Two tasks of the unit that are alike.
  pub data IsLike : Task → Task → Type 0 where
    is_like : (i : List ℤ) (w : List ℕ) (r : PStmts) (q : Around) (o : List PFrame) (V W : Variables) → LikeAt r q o V W →
        IsLike (task_in form x.number i w (control r q o V)) (task_in form x.number i w (control r q o W))

  -- Where a task stands that is like itself: whatever it does, it reads no added variable before that is assigned to, but where its statements have just done
  -- so. It may have opened bodies without statements for callers that it did not offer to accept.
  pub data SettledAt : Control → Type 0 where
    settled_here : (r : PStmts) (q : Around) (o : List PFrame) (V : Variables) → LikeAt r q o V V → SettledAt (control r q o V)
    settled_idle : (r : PStmts) (q : Around) (o : List PFrame) (V : Variables) (caller : ℕ) (pending : Option Raised) → SettledAt (control r q o V) →
        SettledAt (control no_stmt (Opened caller [] pending) (record { rest = r; place = q } ∷ o) V)

  -- Such a task of the unit.
  pub data IsSettled : Task → Type 0 where
    is_settled : (i : List ℤ) (w : List ℕ) (c : Control) → SettledAt c → IsSettled (task_in form x.number i w c)

  -- Two tasks that are the same or alike.
  pub data AreLike : Task → Task → Type 0 where
    the_same : (t : Task) → AreLike t t
    are_like : (t u : Task) → IsLike t u → AreLike t u

  -- the first variables, as many, have old names
  abbrev pub FirstOld : ℕ → Variables → Type 0
  FirstOld zero V = Unit {0}
  FirstOld (suc n) [] = Unit {0}
  FirstOld (suc n) (o ∷ V) = IsOld x.programs o.name × FirstOld n V

  -- What the laws ask of a task beside that: its unit's added variables are there, and what its innermost frame has brought, a loop parameter or formals,
  -- has old names.
  pub record IsSeen (t : Task) : Type 0 where
    pub cells : AreCells t.control.vars
    pub brought : FirstOld (brought t.control.top.place) t.control.vars

-- The recorder of a collecting text (this project's rule): a task (9.1) that takes notes, one after the other, keeps of them which tasks are at their end and whose call has been accepted, and writes a line for each event.
use Rattle.std.specs.Prelude.{ℕ, Bool, true, false, if◌then◌else◌, List, [], ◌∷◌, codes, Some, None}
use Rattle.ada_tree.specs.declared.naming.NameId.{NameId}
use Rattle.ada_tree.specs.declared.naming.Span.{Span}
use Rattle.ada_tree.specs.declared.statements.ParMode.TheVariants.{Take, Give}
use Rattle.ada_tree.specs.declared.expressions.UnaryOp.TheVariants.{Not}
use Rattle.ada_tree.specs.Attributes.{false_name, true_name}
use Rattle.ada_tree.specs.PlainExpr.{PExpr, EName, EIndex, EUnary}
use Rattle.ada_tree.specs.PlainStmt.{PFormal, PStmt, SNull, SAssign, SWait, SIf, SCase, SLoop, PStmts, no_stmt, stmt_then, absent, present, PAccept, accepting, alternative, AAccept, ATerminate, no_alt, alt_then, arm, no_arm, arm_then, PCaseArms, no_case_arm, case_arm_then, case_arm, body, no_handler}
use Rattle.ada_tree.specs.PlainDecl.{OPlain, IOthers, PDecl, DObject, DTask, DTaskBody, decls_of}
use Rattle.task_model.specs.Frames.{in_front}
use Rattle.normal_model.specs.Ranges.{word_at, marked}
use Rattle.normal_model.specs.Making.{one}
use Rattle.collect_model.specs.declared.AddedNames.{AddedNames}
use Rattle.collect_model.specs.Noting.{before_call, has_begun, at_finish, has_else, has_delay, has_call_else, has_expired, has_failed, at_end, number}
use Rattle.collect_model.specs.Lines.{task_line, delay_line, call_line, header_put}

-- ---- the declaration

-- `(DED_NK, DED_NS, DED_NA, DED_NI, DED_NO : in INTEGER; DED_NG : out BOOLEAN)`
abbrev pub note_formals : AddedNames → Span → List PFormal
note_formals n s =
    record {
      names = word_at s n.kind ∷ word_at s n.subject ∷ word_at s n.argument ∷ word_at s n.index ∷ word_at s n.owner ∷ [];
      mode = Take;
      mark = word_at s record { 0 = 0 };
    }
    ∷ record { names = word_at s n.reply ∷ []; mode = Give; mark = word_at s record { 0 = 3 } } ∷ []

-- `task DED_RECORD is entry NOTE(..); end DED_RECORD;`
abbrev pub recorder_declared : AddedNames → Span → PDecl
recorder_declared n s =
    DTask
    (record {
      name = word_at s n.recorder;
      of_kind = false;
      entries = record { name = word_at s n.note; family = None; formals = note_formals n s; span = s } ∷ [];
      priorities = [];
    })
    s

-- ---- flags

-- TRUE or FALSE
abbrev pub truth : Span → Bool → PExpr
truth s b = EName record { 0 = if b then true_name else false_name } s

-- the flag of the task whose number is in a variable
abbrev pub flag_of : Span → NameId → NameId → PExpr
flag_of s flags task = EIndex (word_at s flags) (EName task s) s

-- that flag becomes true or false
abbrev pub flag_set : Span → NameId → NameId → Bool → PStmt
flag_set s flags task b = SAssign (record { name = word_at s flags; index = Some (EName task s) }) (truth s b) s

-- `DED_GONE : DED_FLAGS := (others => FALSE);` and the like
abbrev pub flags_declared : AddedNames → Span → NameId → PDecl
flags_declared n s flags = DObject (word_at s flags ∷ []) false (OPlain (marked (word_at s n.flags))) (Some (IOthers (truth s false) s)) s

-- `DED_NG := ..;` The answer.
abbrev pub answered : AddedNames → Span → Bool → PStmt
answered n s b = SAssign (record { name = word_at s n.reply; index = None }) (truth s b) s

-- ---- what is done with a note, by its kind

-- A task is before a call: it has not been accepted.
abbrev pub on_before_call : AddedNames → Span → PStmts
on_before_call n s = one (flag_set s n.met n.subject false)

-- A call has been accepted, by the note of its acceptor: R.
abbrev pub on_begun : AddedNames → Span → PStmts
on_begun n s = stmt_then (flag_set s n.met n.subject true) (call_line n s (codes "R"))

-- A task is at the end of an accept body: E.
abbrev pub on_finish : AddedNames → Span → PStmts
on_finish n s = task_line n s (codes "E")

-- A task has taken the else part, or a delay alternative, of its wait: S and D.
abbrev pub on_else : AddedNames → Span → PStmts
on_else n s = task_line n s (codes "S")

abbrev pub on_delay : AddedNames → Span → PStmts
on_delay n s = delay_line n s (codes "D")

-- A task has taken the other part of its call: C or T, by the letter. Where the owner of the entry is at its end it came too late: the event is F, and the task is told so.
abbrev pub on_other_part : AddedNames → Span → List ℕ → PStmts
on_other_part n s letter =
    one (SIf (arm_then (arm (flag_of s n.gone n.owner) (in_front (call_line n s (codes "F")) (one (answered n s true)))) no_arm) (present (call_line n s letter)) s)

-- TASKING_ERROR has been raised at a call: F, unless the call had been accepted, so that it comes from the accept body.
abbrev pub on_failed : AddedNames → Span → PStmts
on_failed n s = one (SIf (arm_then (arm (EUnary Not (flag_of s n.met n.subject) s) (call_line n s (codes "F"))) no_arm) absent s)

-- A task is at its end: X.
abbrev pub on_end : AddedNames → Span → PStmts
on_end n s = stmt_then (flag_set s n.gone n.subject true) (task_line n s (codes "X"))

-- `when k =>` these statements, in front of the branches of greater numbers
abbrev pub branch : Span → ℕ → PStmts → PCaseArms → PCaseArms
branch s k stmts rest = case_arm_then (case_arm (record { first = number s k; last = None } ∷ []) stmts) rest

-- The branches, by the kinds of notes.
abbrev pub branches : AddedNames → Span → PCaseArms
branches n s =
    branch s before_call (on_before_call n s)
    (branch s has_begun (on_begun n s)
    (branch s at_finish (on_finish n s)
    (branch s has_else (on_else n s)
    (branch s has_delay (on_delay n s)
    (branch s has_call_else (on_other_part n s (codes "C"))
    (branch s has_expired (on_other_part n s (codes "T"))
    (branch s has_failed (on_failed n s)
    (branch s at_end (on_end n s) no_case_arm))))))))

-- ---- the body

-- `DED_NG := FALSE; case DED_NK is` the branches `when others => null; end case;`
abbrev pub note_taken : AddedNames → Span → PStmts
note_taken n s = stmt_then (answered n s false) (one (SCase (EName n.kind s) (branches n s) (present (one (SNull s))) s))

-- `accept NOTE(..) do` .. `end NOTE;`
abbrev pub note_accept : AddedNames → Span → PAccept
note_accept n s = accepting (record { entry = word_at s n.note; index = None; formals = note_formals n s; span = s }) (present (note_taken n s))

-- `loop select` the accept `or terminate; end select; end loop;` The recorder takes notes as long as there are any, so that it need not close before the program ends.
abbrev pub notes_taken : AddedNames → Span → PStmt
notes_taken n s =
    SLoop None None
    (one
    (SWait
    (alt_then (alternative None (AAccept (note_accept n s) no_stmt) s)
    (alt_then (alternative None ATerminate s) no_alt))
    absent s))
    s

-- The recorder's body: all flags are down, it writes this header, and takes notes.
abbrev pub recorder_body : AddedNames → Span → List ℕ → PDecl
recorder_body n s header =
    DTaskBody (word_at s n.recorder) (decls_of (flags_declared n s n.gone ∷ flags_declared n s n.met ∷ []))
    (body (stmt_then (header_put s header) (one (notes_taken n s))) no_handler)
    s

-- What is to be known of each piece of the recorder's body in a text with abort statements, so that it is as asked (this project's rule). The notes are taken in the accept of its entry, and the aborts are made there.
use Rattle.std.specs.Prelude.{ℕ, ◌+◌, ◌≤◌, Bool, true, false, List, [], ◌∷◌, drop, length, None, Some}
use Rattle.std.specs.List.{AllByRecursion}
use Rattle.ada_tree.specs.declared.naming.Span.{Span}
use Rattle.ada_tree.specs.declared.expressions.BinaryOp.TheVariants.{And, Equal}
use Rattle.ada_tree.specs.Lexical.{IsStringContent}
use Rattle.ada_tree.specs.PlainExpr.{PExpr, EName, EBinary, RGiven}
use Rattle.ada_tree.specs.PlainStmt.{PScheme, LFor, PValue, PBody, body, stmt_then, SNull, SNewLine, SPut, alternative, AAccept, ATerminate, PAlts, no_stmt, no_alt, alt_then, no_handler}
use Rattle.ada_tree.specs.PlainDecl.{PDecls, decls_of}
use Rattle.ada_static_rules.specs.Sites.{arm_choices}
use Rattle.syn_event.specs.declared.numbering.TaskInfo.{TaskInfo}
use Rattle.normal_model.specs.Making.{one}
use Rattle.normal_model.specs.Ranges.{word_at}
use Rattle.task_laws.specs.legal.asked.Asked.{Asks}
use Rattle.normal_laws.specs.structure.asked.Pieces.{named}
use Rattle.replay_model.specs.ReplayTree.{last_task}
use Rattle.collect_model.specs.Noting.{has_failed, number}
use Rattle.collect_model.specs.Lines.{put_words, put_number, header_put}
use Rattle.collect_model.specs.Recording.{flag_of, flag_set, answered, flags_declared}
use Rattle.collect_structure.specs.asked.Recorder.{note_head}
use Rattle.collect_model.specs.aborts.AbortTeller.{AbortTeller}
use Rattle.collect_model.specs.aborts.Noting.{has_returned}
use Rattle.collect_model.specs.aborts.Recording.{no_meeting, lost, entry_for, entry_set, stands_now, stands, calls_declared, is_meeting, aborts_from, choice_of, branches, note_accept, notes_taken}

-- the objects and the statements of the recorder's body
abbrev pub recorder_objects : AbortTeller → Span → PDecls
recorder_objects x s = decls_of (flags_declared x.teller.added s x.teller.added.gone ∷ calls_declared x s ∷ [])

abbrev pub recorder_its : AbortTeller → Span → List ℕ → PBody
recorder_its x s header = body (stmt_then (header_put s header) (one (notes_taken x s))) no_handler

-- its alternatives
abbrev pub note_alts : AbortTeller → Span → PAlts
note_alts x s = alt_then (alternative None (AAccept (note_accept x s) no_stmt) s) (alt_then (alternative None ATerminate s) no_alt)

-- the tasks that it can abort: all but main
abbrev pub abortable : AbortTeller → List TaskInfo
abortable x = drop 1 x.teller.numbers.tasks

-- the loop through all tasks
abbrev pub each_task : AbortTeller → Span → PScheme
each_task x s = LFor (word_at s x.each) false (RGiven (record { first = number s 0; last = number s (last_task x.teller.numbers) }))

-- a call that was not accepted has come back by an exception
abbrev pub not_accepted : AbortTeller → Span → PExpr
not_accepted x s = EBinary And (stands x.teller.added s x.teller.added.subject no_meeting) (EBinary Equal (EName x.teller.added.kind s) (number s has_failed) s) s

-- The pieces: at the statements of the body stands d, in the accept e, and in the loop through all tasks f; nothing stands deeper than 20.
pub record RecorderPieces {D : Type 0} (x : AbortTeller) (s : Span) (header : List ℕ) (a : Asks D) (d e f : D) : Type 0 where
  pub some : (m : ℕ) → a.many (1 + m)
  pub handlers : a.handlers no_handler
  pub outer : (k : ℕ) → k ≤ 20 → a.outer d k s
  pub heading : a.plain d 1 (header_put s header)
  pub loop : a.loop d 2 None None
  pub wait : a.wait (a.looping d None None) 2 (note_alts x s) false s
  pub within : (k : ℕ) → k ≤ 20 → a.outer (a.looping d None None) k s
  pub head : a.head (a.looping d None None) 4 (note_head x.teller.added s)
  -- in the accept
  pub taken : (k : ℕ) → k ≤ 20 → a.outer e k s
  pub answers : (k : ℕ) (b : Bool) → k ≤ 20 → a.plain e k (answered x.teller.added s b)
  pub selects : a.selector e 6 (EName x.teller.added.kind s) (arm_choices (branches x s)) true s
  pub chooses : (kind : ℕ) → kind ≤ 10 → a.choices e 6 (EName x.teller.added.kind s) (choice_of s kind ∷ [])
  pub chooses_back : a.choices e 6 (EName x.teller.added.kind s) (choice_of s has_failed ∷ choice_of s has_returned ∷ [])
  pub null : (k : ℕ) → k ≤ 20 → a.plain e k (SNull s)
  pub ends_line : (k : ℕ) → k ≤ 20 → a.plain e k (SNewLine s)
  pub words : (k : ℕ) (t : List ℕ) → IsStringContent t → k ≤ 20 → a.plain e k (put_words s t)
  pub subject : (k : ℕ) → k ≤ 20 → a.plain e k (put_number s x.teller.added.subject)
  pub argument : (k : ℕ) → k ≤ 20 → a.plain e k (put_number s x.teller.added.argument)
  pub index : (k : ℕ) → k ≤ 20 → a.plain e k (put_number s x.teller.added.index)
  pub acceptor : (k : ℕ) → k ≤ 20 → a.plain e k (SPut (PValue (entry_for s x.acceptors x.teller.added.subject) ∷ []) s)
  -- which tasks are at their end, and how calls stand
  pub subject_gone : (k : ℕ) → k ≤ 20 → a.plain e k (flag_set s x.teller.added.gone x.teller.added.subject true)
  pub argument_gone : (k : ℕ) → k ≤ 20 → a.plain e k (flag_set s x.teller.added.gone x.teller.added.argument true)
  pub subject_stands : (k m : ℕ) → m ≤ 3 → k ≤ 20 → a.plain e k (stands_now x.teller.added s x.teller.added.subject m)
  pub argument_stands : (k m : ℕ) → m ≤ 3 → k ≤ 20 → a.plain e k (stands_now x.teller.added s x.teller.added.argument m)
  pub accepted_by : (k : ℕ) → k ≤ 20 → a.plain e k (entry_set s x.acceptors x.teller.added.subject (EName x.teller.added.owner s))
  pub owner_is_gone : (k : ℕ) → k ≤ 20 → a.condition e k (flag_of s x.teller.added.gone x.teller.added.owner)
  pub subject_is_gone : (k : ℕ) → k ≤ 20 → a.condition e k (flag_of s x.teller.added.gone x.teller.added.subject)
  pub meets : (k : ℕ) → k ≤ 20 → a.condition e k (is_meeting x s x.teller.added.argument x.teller.added.subject)
  pub subject_at : (k m : ℕ) → m ≤ 3 → k ≤ 20 → a.condition e k (stands x.teller.added s x.teller.added.subject m)
  pub unaccepted : (k : ℕ) → k ≤ 20 → a.condition e k (not_accepted x s)
  -- the loop through all tasks
  pub goes_through : (k : ℕ) → k ≤ 20 → a.loop e k None (Some (each_task x s))
  pub within_loop : (k : ℕ) → k ≤ 20 → a.outer f k s
  pub has_lost : (k : ℕ) → k ≤ 20 → a.condition f k (is_meeting x s x.each x.teller.added.argument)
  pub loses : (k : ℕ) → k ≤ 20 → a.plain f k (stands_now x.teller.added s x.each lost)
  -- the aborts
  pub selects_task : a.selector e 7 (EName x.teller.added.argument s) (arm_choices (aborts_from s 1 (abortable x))) true s
  pub chooses_task : (u : ℕ) → u ≤ length (abortable x) → a.choices e 7 (EName x.teller.added.argument s) (choice_of s u ∷ [])
  pub aborts : AllByRecursion (λ (info : TaskInfo). a.aborts e 8 (named (word_at s info.name) ∷ []) × a.callee e 8 (named (word_at s info.name))) (abortable x)

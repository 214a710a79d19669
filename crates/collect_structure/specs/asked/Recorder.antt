-- What is to be known of each piece of the recorder's body, so that it is as asked (this project's rule). The notes are taken in the accept of its entry.
use Rattle.std.specs.Prelude.{ℕ, ◌+◌, ◌≤◌, Bool, true, false, List, [], ◌∷◌, None}
use Rattle.ada_tree.specs.declared.naming.Span.{Span}
use Rattle.ada_tree.specs.declared.expressions.UnaryOp.TheVariants.{Not}
use Rattle.ada_tree.specs.Lexical.{IsStringContent}
use Rattle.ada_tree.specs.PlainExpr.{EName, EUnary}
use Rattle.ada_tree.specs.PlainStmt.{PHead, PBody, body, stmt_then, SNull, SNewLine, alternative, AAccept, ATerminate, PAlts, no_stmt, no_alt, alt_then, no_handler}
use Rattle.ada_tree.specs.PlainDecl.{PDecls, decls_of}
use Rattle.ada_static_rules.specs.Sites.{arm_choices}
use Rattle.normal_model.specs.Making.{one}
use Rattle.normal_model.specs.Ranges.{word_at}
use Rattle.task_laws.specs.legal.asked.Asked.{Asks}
use Rattle.collect_model.specs.declared.AddedNames.{AddedNames}
use Rattle.collect_model.specs.Noting.{number}
use Rattle.collect_model.specs.Lines.{put_words, put_number, header_put}
use Rattle.collect_model.specs.Recording.{note_formals, flag_of, flag_set, answered, branches, note_accept, flags_declared, notes_taken}

-- the objects and the statements of the recorder's body
abbrev pub recorder_objects : AddedNames → Span → PDecls
recorder_objects n s = decls_of (flags_declared n s n.gone ∷ flags_declared n s n.met ∷ [])

abbrev pub recorder_its : AddedNames → Span → List ℕ → PBody
recorder_its n s header = body (stmt_then (header_put s header) (one (notes_taken n s))) no_handler

-- the head of its accept
abbrev pub note_head : AddedNames → Span → PHead
note_head n s = record { entry = word_at s n.note; index = None; formals = note_formals n s; span = s }

-- its alternatives
abbrev pub note_alts : AddedNames → Span → PAlts
note_alts n s = alt_then (alternative None (AAccept (note_accept n s) no_stmt) s) (alt_then (alternative None ATerminate s) no_alt)

-- The pieces: at the statements of the body stands d, and in the accept e; nothing stands deeper than 20.
pub record RecorderPieces {D : Type 0} (n : AddedNames) (s : Span) (header : List ℕ) (a : Asks D) (d : D) : Type 0 where
  pub some : (m : ℕ) → a.many (1 + m)
  pub handlers : a.handlers no_handler
  pub outer : (k : ℕ) → k ≤ 20 → a.outer d k s
  pub heading : a.plain d 1 (header_put s header)
  pub loop : a.loop d 2 None None
  pub wait : a.wait (a.looping d None None) 2 (note_alts n s) false s
  pub within : (k : ℕ) → k ≤ 20 → a.outer (a.looping d None None) k s
  pub head : a.head (a.looping d None None) 4 (note_head n s)
  -- in the accept
  pub taken : (k : ℕ) → k ≤ 20 → a.outer (a.accepting (a.looping d None None) (note_head n s)) k s
  pub answers : (k : ℕ) (b : Bool) → k ≤ 20 → a.plain (a.accepting (a.looping d None None) (note_head n s)) k (answered n s b)
  pub selects : a.selector (a.accepting (a.looping d None None) (note_head n s)) 6 (EName n.kind s) (arm_choices (branches n s)) true s
  pub chooses : (kind : ℕ) → kind ≤ 8 → a.choices (a.accepting (a.looping d None None) (note_head n s)) 6 (EName n.kind s) (record { first = number s kind; last = None } ∷ [])
  pub null : (k : ℕ) → k ≤ 20 → a.plain (a.accepting (a.looping d None None) (note_head n s)) k (SNull s)
  pub ends_line : (k : ℕ) → k ≤ 20 → a.plain (a.accepting (a.looping d None None) (note_head n s)) k (SNewLine s)
  pub words : (k : ℕ) (t : List ℕ) → IsStringContent t → k ≤ 20 → a.plain (a.accepting (a.looping d None None) (note_head n s)) k (put_words s t)
  pub subject : (k : ℕ) → k ≤ 20 → a.plain (a.accepting (a.looping d None None) (note_head n s)) k (put_number s n.subject)
  pub argument : (k : ℕ) → k ≤ 20 → a.plain (a.accepting (a.looping d None None) (note_head n s)) k (put_number s n.argument)
  pub index : (k : ℕ) → k ≤ 20 → a.plain (a.accepting (a.looping d None None) (note_head n s)) k (put_number s n.index)
  pub sets_gone : (k : ℕ) → k ≤ 20 → a.plain (a.accepting (a.looping d None None) (note_head n s)) k (flag_set s n.gone n.subject true)
  pub sets_met : (k : ℕ) (b : Bool) → k ≤ 20 → a.plain (a.accepting (a.looping d None None) (note_head n s)) k (flag_set s n.met n.subject b)
  pub is_gone : (k : ℕ) → k ≤ 20 → a.condition (a.accepting (a.looping d None None) (note_head n s)) k (flag_of s n.gone n.owner)
  pub not_met : (k : ℕ) → k ≤ 20 → a.condition (a.accepting (a.looping d None None) (note_head n s)) k (EUnary Not (flag_of s n.met n.subject) s)

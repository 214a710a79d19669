-- The local steps of the recorder that write nothing: it keeps what a note tells, and gives its answer.
use Rattle.std.proofs.Common.{◌≡◌, ℕ, ◌≤◌, Bool, List, [], ◌∷◌, Some, None, refl, ap, ◌∙◌, arith}
use Rattle.std.specs.Prelude.{pos, Ok}
use Rattle.ada_tree.specs.declared.naming.NameId.{NameId}
use Rattle.ada_tree.specs.PlainExpr.{EName}
use Rattle.ada_tree.specs.PlainStmt.{PStmts, no_stmt, stmt_then}
use Rattle.ada_value.specs.declared.values.Limits.{Limits}
use Rattle.ada_value.specs.declared.values.Value.{Value}
use Rattle.ada_value.specs.declared.values.Value.TheVariants.{Number, Truth}
use Rattle.ada_value.specs.Values.{truth_limits, integer_limits, checked}
use Rattle.ada_value.specs.Variables.{Variables}
use Rattle.ada_value.specs.Evaluating.{evaluated}
use Rattle.task_model.specs.Frames.{Around, Opened, PFrame, control, settled_in}
use Rattle.task_model.specs.Stands.{stepped}
use Rattle.normal_model.specs.Ranges.{word_at}
use Rattle.run_laws.specs.collecting.Notes.{flagged}
use Rattle.collect_model.specs.Noting.{number}
use Rattle.collect_model.specs.Recording.{truth, flag_set, answered}
use Rattle.collect_runs.specs.recorder.Telling.{Spelled}
use Rattle.collect_runs.proofs.recorder.Finding.{truth-checked}
use Rattle.collect_model.specs.aborts.Recording.{entry_set, stands_now}
use Rattle.run_laws.specs.aborts.Notes.{Book, numbered_so}
use Rattle.collect_runs.specs.aborts.recorder.Recorders.{Recorder, names_of, last_of, IsRecorder}
use Rattle.collect_runs.specs.aborts.recorder.States.{note_variables, formal_object, note_parameters, turn_frame, behind_loop, hearing}
use Rattle.collect_runs.proofs.aborts.recorder.Stepping.{assigns, whole-assigned, entry-assigned}
use Rattle.collect_runs.proofs.aborts.recorder.Valuing.{literal-is, number-fits}
use Rattle.collect_runs.proofs.aborts.recorder.Finding.{with_gone, with_met, with_acceptor, reply-named, acceptors-named, met-named, gone-named, truth-is, subject-is}
use Rattle.collect_runs.proofs.aborts.recorder.Finding.{owner-is, reply-set, acceptor-set, met-set, gone-set}

-- what the accept body stands in
abbrev pub body_around : Recorder → ℕ → Around
body_around k c = Opened c (note_parameters k) None

abbrev pub around_body : Recorder → List PFrame
around_body k = turn_frame k ∷ behind_loop ∷ []

-- nothing is left early there
pub body-holds : (k : Recorder) (c : ℕ) (rest : PStmts) (vars : Variables) → settled_in (around_body k) rest (body_around k c) vars ≡ control rest (body_around k c) (around_body k) vars
body-holds k c no_stmt vars = refl
body-holds k c (stmt_then s rest) vars = refl

module _ (k : Recorder) (note : ℕ) (h : IsRecorder k note) (c : ℕ) (s : Spelled) (g : Value) (b : Book) (rest : PStmts) (output : List ℕ) where
  abbrev V : Variables
  V = note_variables k s g b

  pub answer-given : (v : Bool) → stepped (hearing k c (stmt_then (answered (names_of k) k.span v) rest) V output) ≡ hearing k c rest (note_variables k s (Truth v) b) output
  answer-given v =
      assigns k (body_around k c) (around_body k) (body-holds k c) (record { name = word_at k.span (names_of k).reply; index = None }) (truth k.span v) k.span rest V
      (note_variables k s (Truth v) b) output
      (whole-assigned k (body_around k c) (around_body k) (body-holds k c) (stmt_then (answered (names_of k) k.span v) rest) V (note_variables k s (Truth v) b) output (names_of k).reply
      (formal_object k (names_of k).reply 3 g) (truth k.span v) (Truth v) k.span (reply-named k note h s g b) (truth-is k note h s g b v)
      (ap (λ (l : Limits). checked l (Truth v)) h.of_truth ∙ truth-checked v) (reply-set k note h s g b (Truth v)))

  module _ (task : NameId) (u : ℕ) (at : evaluated k.setting.types V (EName task k.span) ≡ Ok (Number (pos u))) (l : u ≤ last_of k) where
    pub met-kept : (m : ℕ) → m ≤ 2147483647 →
        stepped (hearing k c (stmt_then (stands_now (names_of k) k.span task m) rest) V output) ≡ hearing k c rest (note_variables k s g (with_met b (numbered_so b.met u m))) output
    met-kept m few =
        let after : Variables = note_variables k s g (with_met b (numbered_so b.met u m)) in
        assigns k (body_around k c) (around_body k) (body-holds k c) (record { name = word_at k.span (names_of k).met; index = Some (EName task k.span) })
        (number k.span m) k.span rest V after output
        (entry-assigned k (body_around k c) (around_body k) (body-holds k c) (stmt_then (stands_now (names_of k) k.span task m) rest) V after output (names_of k).met task integer_limits
        (λ t. Number (pos (b.met t))) u (number k.span m) (Number (pos m)) k.span (met-named k note h s g b) at l (literal-is k V m few) (number-fits m few) (met-set k note h s g b u m l))

    pub gone-kept : (v : Bool) →
        stepped (hearing k c (stmt_then (flag_set k.span (names_of k).gone task v) rest) V output) ≡ hearing k c rest (note_variables k s g (with_gone b (flagged b.gone u v))) output
    gone-kept v =
        let after : Variables = note_variables k s g (with_gone b (flagged b.gone u v)) in
        assigns k (body_around k c) (around_body k) (body-holds k c) (record { name = word_at k.span (names_of k).gone; index = Some (EName task k.span) })
        (truth k.span v) k.span rest V after output
        (entry-assigned k (body_around k c) (around_body k) (body-holds k c) (stmt_then (flag_set k.span (names_of k).gone task v) rest) V after output (names_of k).gone task truth_limits
        (λ t. Truth (b.gone t)) u (truth k.span v) (Truth v) k.span (gone-named k note h s g b) at l (truth-is k note h s g b v) (truth-checked v) (gone-set k note h s g b u v l))

  -- the acceptor of the caller that the note is about is the owner
  pub acceptor-kept : s.subject ≤ last_of k → s.owner ≤ last_of k →
      stepped (hearing k c (stmt_then (entry_set k.span k.teller.acceptors (names_of k).subject (EName (names_of k).owner k.span)) rest) V output)
      ≡ hearing k c rest (note_variables k s g (with_acceptor b (numbered_so b.acceptor s.subject s.owner))) output
  acceptor-kept l within =
      let after : Variables = note_variables k s g (with_acceptor b (numbered_so b.acceptor s.subject s.owner)) in
      let few : s.owner ≤ 2147483647 = omega (arith, within, h.few) in
      assigns k (body_around k c) (around_body k) (body-holds k c) (record { name = word_at k.span k.teller.acceptors; index = Some (EName (names_of k).subject k.span) })
      (EName (names_of k).owner k.span) k.span rest V after output
      (entry-assigned k (body_around k c) (around_body k) (body-holds k c)
      (stmt_then (entry_set k.span k.teller.acceptors (names_of k).subject (EName (names_of k).owner k.span)) rest) V after output
      k.teller.acceptors (names_of k).subject integer_limits (λ t. Number (pos (b.acceptor t))) s.subject (EName (names_of k).owner k.span) (Number (pos s.owner)) k.span
      (acceptors-named k note h s g b) (subject-is k note h s g b) l (owner-is k note h s g b) (number-fits s.owner few) (acceptor-set k note h s g b s.subject s.owner l))

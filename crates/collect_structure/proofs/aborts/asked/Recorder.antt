-- The recorder's body in a text with abort statements is as asked, from its pieces.
use Rattle.std.proofs.Common.{ℕ, ◌+◌, ◌≤◌, true, false, List, [], ◌∷◌, codes, length, None, Some, arith}
use Rattle.std.specs.List.{AllByRecursion}
use Rattle.ada_tree.specs.declared.naming.Span.{Span}
use Rattle.ada_tree.specs.PlainExpr.{EName}
use Rattle.syn_event.specs.declared.numbering.TaskInfo.{TaskInfo}
use Rattle.task_model.specs.Frames.{in_front}
use Rattle.normal_model.specs.Making.{one}
use Rattle.normal_model.specs.Ranges.{word_at}
use Rattle.task_laws.specs.legal.asked.Asked.{Asks, AskedStmt, AskedStmts, AskedSome, AskedCaseArms, AskedBody}
use Rattle.normal_laws.specs.structure.asked.Pieces.{named}
use Rattle.normal_laws.proofs.structure.asked.Lists.{asked-join, asked-some}
use Rattle.collect_model.specs.declared.AddedNames.{AddedNames}
use Rattle.collect_model.specs.Lines.{put_words, task_line, delay_line, call_line}
use Rattle.collect_model.specs.Recording.{on_else, on_delay, on_other_part, on_end, answered}
use Rattle.collect_structure.specs.asked.Recorder.{note_head}
use Rattle.collect_model.specs.aborts.AbortTeller.{AbortTeller}
use Rattle.collect_model.specs.aborts.Recording.{met_before, stands_now, on_before_call, on_begun, on_finish, acceptor_line, on_back, callers_lost, aborts_from, abort_made, on_abort, branches, note_taken}
use Rattle.collect_structure.specs.aborts.asked.Recorder.{recorder_its, abortable, each_task, RecorderPieces}
use Rattle.collect_structure.proofs.asked.Recorder.{letter}

module _ {D : Type 0} (x : AbortTeller) (s : Span) (header : List ℕ) (a : Asks D) (d : D)
    (P : RecorderPieces x s header a d (a.accepting (a.looping d None None) (note_head x.teller.added s))
    (a.looping (a.accepting (a.looping d None None) (note_head x.teller.added s)) None (Some (each_task x s)))) where
  abbrev e : D
  e = a.accepting (a.looping d None None) (note_head x.teller.added s)

  abbrev n : AddedNames
  n = x.teller.added

  -- ---- lines

  blank : (k : ℕ) → k ≤ 20 → a.plain e k (put_words s (codes " "))
  blank k le = P.words k (codes " ") (letter 32 (omega arith) (omega arith)) le

  task-line : (k b : ℕ) → 32 ≤ b → b ≤ 126 → k ≤ 20 → AskedStmts a e k (task_line n s (b ∷ []))
  task-line k b low high le = (P.words k (b ∷ []) (letter b low high) le, (blank k le, (P.subject k le, (P.ends_line k le, tt))))

  delay-line : (k b : ℕ) → 32 ≤ b → b ≤ 126 → k ≤ 20 → AskedStmts a e k (delay_line n s (b ∷ []))
  delay-line k b low high le = (P.words k (b ∷ []) (letter b low high) le, (blank k le, (P.subject k le, (blank k le, (P.argument k le, (P.ends_line k le, tt))))))

  call-line : (k b : ℕ) → 32 ≤ b → b ≤ 126 → k ≤ 20 → AskedStmts a e k (call_line n s (b ∷ []))
  call-line k b low high le =
      (P.words k (b ∷ []) (letter b low high) le, (blank k le, (P.subject k le, (blank k le, (P.argument k le, (blank k le, (P.index k le, (P.ends_line k le, tt))))))))

  acceptor-line : (k : ℕ) → k ≤ 20 → AskedStmts a e k (acceptor_line x s)
  acceptor-line k le = (P.words k (codes "E") (letter 69 (omega arith) (omega arith)) le, (blank k le, (P.acceptor k le, (P.ends_line k le, tt))))

  -- ---- by the kinds of notes

  before-call : AskedSome a e 6 (on_before_call n s)
  before-call = (P.some 0, P.subject_stands 6 0 (omega arith) (omega arith), tt)

  begun : AskedSome a e 6 (on_begun x s)
  begun = (
    P.some 0,
    (
      P.taken 6 (omega arith),
      P.some 0,
      (P.subject_is_gone 7 (omega arith), (P.some 0, P.answers 7 true (omega arith), tt), tt),
      (P.some 9, P.subject_stands 7 1 (omega arith) (omega arith), (P.accepted_by 7 (omega arith), call-line 7 82 (omega arith) (omega arith) (omega arith))),
    ),
    tt,
  )

  -- a line, and then how a call stands
  finished : AskedSome a e 6 (on_finish x s)
  finished = (
    P.some 0,
    (
      P.taken 6 (omega arith),
      P.some 0,
      (
        P.meets 7 (omega arith),
        asked-some a P.some e 7 (in_front (task_line n s (codes "E")) (one (stands_now n s n.argument met_before))) tt
            (asked-join a e 7 (task_line n s (codes "E")) (one (stands_now n s n.argument met_before)) (task-line 7 69 (omega arith) (omega arith) (omega arith))
            (P.argument_stands 7 2 (omega arith) (omega arith), tt)),
        tt,
      ),
      tt,
    ),
    tt,
  )

  at-end : AskedSome a e 6 (on_end n s)
  at-end = (P.some 4, P.subject_gone 6 (omega arith), task-line 6 88 (omega arith) (omega arith) (omega arith))

  -- the line F, and the answer TRUE
  failed : AskedSome a e 7 (in_front (call_line n s (codes "F")) (one (answered n s true)))
  failed =
      asked-some a P.some e 7 (in_front (call_line n s (codes "F")) (one (answered n s true))) tt
      (asked-join a e 7 (call_line n s (codes "F")) (one (answered n s true)) (call-line 7 70 (omega arith) (omega arith) (omega arith)) (P.answers 7 true (omega arith), tt))

  other-part : (b : ℕ) → 32 ≤ b → b ≤ 126 → AskedSome a e 6 (on_other_part n s (b ∷ []))
  other-part b low high =
      (P.some 0, (P.taken 6 (omega arith), P.some 0, (P.owner_is_gone 7 (omega arith), failed, tt), asked-some a P.some e 7 (call_line n s (b ∷ [])) tt (call-line 7 b low high (omega arith))), tt)

  back : AskedSome a e 6 (on_back x s)
  back = (
    P.some 0,
    (
      P.taken 6 (omega arith),
      P.some 2,
      (
        P.subject_at 7 1 (omega arith) (omega arith),
        asked-some a P.some e 7 (in_front (acceptor_line x s) (one (stands_now n s n.subject met_before))) tt
            (asked-join a e 7 (acceptor_line x s) (one (stands_now n s n.subject met_before)) (acceptor-line 7 (omega arith)) (P.subject_stands 7 2 (omega arith) (omega arith), tt)),
        (
          P.subject_at 7 3 (omega arith) (omega arith),
          (P.some 0, P.answers 7 true (omega arith), tt),
          (P.unaccepted 7 (omega arith), failed, tt),
        ),
      ),
      tt,
    ),
    tt,
  )

  -- ---- aborts

  lost-asked : AskedStmt a e 6 (callers_lost x s)
  lost-asked = (
    P.taken 6 (omega arith),
    P.goes_through 7 (omega arith),
    (
      P.some 0,
      (
        P.within_loop 7 (omega arith),
        P.some 0,
        (P.has_lost 8 (omega arith), (P.some 0, P.loses 8 (omega arith), tt), tt),
        tt,
      ),
      tt,
    ),
  )

  aborts-asked : (infos : List TaskInfo) (u : ℕ) → u + length infos ≤ 1 + length (abortable x) →
      AllByRecursion (λ (info : TaskInfo). a.aborts e 8 (named (word_at s info.name) ∷ []) × a.callee e 8 (named (word_at s info.name))) infos → AskedCaseArms a e 7
      (EName n.argument s) (aborts_from s u infos)
  aborts-asked [] u few h = tt
  aborts-asked (info ∷ infos) u few h =
      (P.chooses_task u (omega (arith, few)), (P.some 0, (P.taken 7 (omega arith), h.0.0, (h.0.1, tt)), tt), aborts-asked infos (u + 1) (omega (arith, few)) h.1)

  made-asked : AskedStmt a e 6 (abort_made x s)
  made-asked = (P.taken 6 (omega arith), P.selects_task, aborts-asked (abortable x) 1 (omega arith) P.aborts, (P.some 0, P.null 7 (omega arith), tt))

  aborted : AskedSome a e 6 (on_abort x s)
  aborted = (
    P.some 8,
    P.words 6 (codes "B") (letter 66 (omega arith) (omega arith)) (omega arith),
    (
      blank 6 (omega arith),
      (P.subject 6 (omega arith), (blank 6 (omega arith), (P.argument 6 (omega arith), (P.ends_line 6 (omega arith), (P.argument_gone 6 (omega arith), (lost-asked, (made-asked, tt))))))),
    ),
  )

  -- ---- the whole

  arms : AskedCaseArms a e 6 (EName n.kind s) (branches x s)
  arms = (
    P.chooses 0 (omega arith),
    before-call,
    (
      P.chooses 1 (omega arith),
      begun,
      (
        P.chooses 2 (omega arith),
        finished,
        (
          P.chooses 3 (omega arith),
          asked-some a P.some e 6 (on_else n s) tt (task-line 6 83 (omega arith) (omega arith) (omega arith)),
          (
            P.chooses 4 (omega arith),
            asked-some a P.some e 6 (on_delay n s) tt (delay-line 6 68 (omega arith) (omega arith) (omega arith)),
            (
              P.chooses 5 (omega arith),
              other-part 67 (omega arith) (omega arith),
              (
                P.chooses 6 (omega arith),
                other-part 84 (omega arith) (omega arith),
                (P.chooses_back, back, (P.chooses 8 (omega arith), at-end, (P.chooses 9 (omega arith), aborted, tt))),
              ),
            ),
          ),
        ),
      ),
    ),
  )

  taken : AskedSome a e 5 (note_taken x s)
  taken = (P.some 1, P.answers 5 false (omega arith), ((P.taken 5 (omega arith), P.selects, arms, (P.some 0, P.null 6 (omega arith), tt)), tt))

  -- The recorder's body is as asked.
  pub recorder-asked : AskedBody a d 1 (recorder_its x s header)
  recorder-asked = (
    (
      P.some 1,
      P.heading,
      (
        (
          P.outer 1 (omega arith),
          P.loop,
          (
            P.some 0,
            (
              P.within 2 (omega arith),
              P.some 1,
              P.wait,
              (P.within 3 (omega arith), tt, ((P.head, taken), tt), (P.within 3 (omega arith), tt, tt, tt)),
              tt,
            ),
            tt,
          ),
        ),
        tt,
      ),
    ),
    P.handlers,
    tt,
  )

-- The recorder's body is as asked, from its pieces.
use Rattle.std.proofs.Common.{ℕ, ◌≤◌, true, false, List, [], ◌∷◌, codes, None, arith}
use Rattle.std.proofs.lemmas.List.Elements.{All-from_recursion}
use Rattle.ada_tree.specs.declared.naming.Span.{Span}
use Rattle.ada_tree.specs.Lexical.{IsStringContent}
use Rattle.task_model.specs.Frames.{in_front}
use Rattle.normal_model.specs.Making.{one}
use Rattle.task_laws.specs.legal.asked.Asked.{Asks, AskedStmts, AskedSome, AskedCaseArms, AskedBody}
use Rattle.normal_laws.proofs.structure.asked.Lists.{asked-join, asked-some}
use Rattle.ada_tree.specs.PlainExpr.{EName}
use Rattle.collect_model.specs.declared.AddedNames.{AddedNames}
use Rattle.collect_model.specs.Lines.{put_words, task_line, delay_line, call_line}
use Rattle.collect_model.specs.Recording.{on_before_call, on_begun, on_finish, on_else, on_delay, on_other_part, on_failed, on_end, branches, answered, note_taken}
use Rattle.collect_structure.specs.asked.Recorder.{recorder_its, note_head, RecorderPieces}

-- a letter and a blank can stand in a string
pub letter : (b : ℕ) → 32 ≤ b → b ≤ 126 → IsStringContent (b ∷ [])
letter b low high = (All-from_recursion (λ (c : ℕ). (32 ≤ c) × (c ≤ 126)) (b ∷ []) ((low, high), tt), omega arith)

module _ {D : Type 0} (n : AddedNames) (s : Span) (header : List ℕ) (a : Asks D) (d : D) (P : RecorderPieces n s header a d) where
  abbrev e : D
  e = a.accepting (a.looping d None None) (note_head n s)

  -- ---- lines

  blank : (k : ℕ) → k ≤ 20 → a.plain e k (put_words s (codes " "))
  blank k le = P.words k (codes " ") (letter 32 (omega arith) (omega arith)) le

  task-line : (k b : ℕ) → 32 ≤ b → b ≤ 126 → k ≤ 20 → AskedStmts a e k (task_line n s (b ∷ []))
  task-line k b low high le = (P.words k (b ∷ []) (letter b low high) le, (blank k le, (P.subject k le, (P.ends_line k le, tt))))

  delay-line : (k b : ℕ) → 32 ≤ b → b ≤ 126 → k ≤ 20 → AskedStmts a e k (delay_line n s (b ∷ []))
  delay-line k b low high le = (P.words k (b ∷ []) (letter b low high) le, (blank k le, (P.subject k le, (blank k le, (P.argument k le, (P.ends_line k le, tt))))))

  call-line : (k b : ℕ) → 32 ≤ b → b ≤ 126 → k ≤ 20 → AskedStmts a e k (call_line n s (b ∷ []))
  call-line k b low high le =
      (P.words k (b ∷ []) (letter b low high) le, (blank k le, (P.subject k le, (blank k le, (P.argument k le, (blank k le, (P.index k le, (P.ends_line k le, tt))))))))

  -- ---- by the kinds of notes

  before-call : AskedSome a e 6 (on_before_call n s)
  before-call = (P.some 0, P.sets_met 6 false (omega arith), tt)

  begun : AskedSome a e 6 (on_begun n s)
  begun = (P.some 8, P.sets_met 6 true (omega arith), call-line 6 82 (omega arith) (omega arith) (omega arith))

  at-end : AskedSome a e 6 (on_end n s)
  at-end = (P.some 4, P.sets_gone 6 (omega arith), task-line 6 88 (omega arith) (omega arith) (omega arith))

  other-part : (b : ℕ) → 32 ≤ b → b ≤ 126 → AskedSome a e 6 (on_other_part n s (b ∷ []))
  other-part b low high = (
    P.some 0,
    (
      P.taken 6 (omega arith),
      P.some 0,
      (
        P.is_gone 7 (omega arith),
        asked-some a P.some e 7 (in_front (call_line n s (codes "F")) (one (answered n s true))) tt
            (asked-join a e 7 (call_line n s (codes "F")) (one (answered n s true)) (call-line 7 70 (omega arith) (omega arith) (omega arith)) (P.answers 7 true (omega arith), tt)),
        tt,
      ),
      asked-some a P.some e 7 (call_line n s (b ∷ [])) tt (call-line 7 b low high (omega arith)),
    ),
    tt,
  )

  failed : AskedSome a e 6 (on_failed n s)
  failed = (
    P.some 0,
    (
      P.taken 6 (omega arith),
      P.some 0,
      (P.not_met 7 (omega arith), asked-some a P.some e 7 (call_line n s (codes "F")) tt (call-line 7 70 (omega arith) (omega arith) (omega arith)), tt),
      tt,
    ),
    tt,
  )

  arms : AskedCaseArms a e 6 (EName n.kind s) (branches n s)
  arms = (
    P.chooses 0 (omega arith),
    before-call,
    (
      P.chooses 1 (omega arith),
      begun,
      (
        P.chooses 2 (omega arith),
        asked-some a P.some e 6 (on_finish n s) tt (task-line 6 69 (omega arith) (omega arith) (omega arith)),
        (
          P.chooses 3 (omega arith),
          asked-some a P.some e 6 (on_else n s) tt (task-line 6 83 (omega arith) (omega arith) (omega arith)),
          (
            P.chooses 4 (omega arith),
            asked-some a P.some e 6 (on_delay n s) tt (delay-line 6 68 (omega arith) (omega arith) (omega arith)),
            (
              P.chooses 5 (omega arith),
              other-part 67 (omega arith) (omega arith),
              (P.chooses 6 (omega arith), other-part 84 (omega arith) (omega arith), (P.chooses 7 (omega arith), failed, (P.chooses 8 (omega arith), at-end, tt))),
            ),
          ),
        ),
      ),
    ),
  )

  taken : AskedSome a e 5 (note_taken n s)
  taken = (P.some 1, P.answers 5 false (omega arith), ((P.taken 5 (omega arith), P.selects, arms, (P.some 0, P.null 6 (omega arith), tt)), tt))

  -- The recorder's body is as asked.
  pub recorder-asked : AskedBody a d 1 (recorder_its n s header)
  recorder-asked = (
    (
      P.some 1,
      P.heading,
      (
        (
          P.outer 1 (omega arith),
          P.loop,
          (
            P.some 0,
            (
              P.within 2 (omega arith),
              P.some 1,
              P.wait,
              (P.within 3 (omega arith), tt, ((P.head, taken), tt), (P.within 3 (omega arith), tt, tt, tt)),
              tt,
            ),
            tt,
          ),
        ),
        tt,
      ),
    ),
    P.handlers,
    tt,
  )

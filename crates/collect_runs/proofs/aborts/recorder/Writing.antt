-- How the recorder writes a line and ends it.
use Rattle.std.proofs.Common.{◌≡◌, ℕ, true, List, [], ◌∷◌, ◌++◌, Some, None, append-nil, append_assoc, refl, sym, ap, ◌∙◌, subst}
use Rattle.std.specs.Prelude.{Result, Ok}
use Rattle.std.specs.List.{concat}
use Rattle.event_machine.specs.declared.Event.{Event}
use Rattle.ada_tree.specs.declared.naming.Span.{Span}
use Rattle.ada_tree.specs.PlainStmt.{PPart, PWords, SPut, SNewLine, PStmts, stmt_then}
use Rattle.ada_value.specs.declared.values.Raised.{Raised}
use Rattle.ada_value.specs.declared.values.Value.{Value}
use Rattle.ada_value.specs.Values.{and_then, position_of}
use Rattle.ada_value.specs.Variables.{Variables}
use Rattle.ada_value.specs.Texts.{integer_text, parts_output}
use Rattle.task_model.specs.Tasks.{Task}
use Rattle.task_model.specs.Stands.{can_step, stepped}
use Rattle.task_model.specs.Steps.{line_end}
use Rattle.table_law.specs.States.{Comes}
use Rattle.run_laws.specs.collecting.Notes.{text, pieces}
use Rattle.collect_runs.specs.lines.Pieces.{front}
use Rattle.collect_runs.proofs.recorder.Ending.{text-behind}
use Rattle.run_laws.specs.aborts.Notes.{Note, Book, line_of}
use Rattle.collect_runs.specs.aborts.recorder.Recorders.{Recorder}
use Rattle.collect_runs.specs.aborts.recorder.States.{lines_of, written_of, hearing, IsLineEnded, IsWriting}
use Rattle.collect_runs.proofs.aborts.recorder.Stepping.{puts, line-ends}
use Rattle.collect_runs.proofs.aborts.recorder.Keeping.{body_around, around_body, body-holds}

-- ---- the texts of parts

-- a PUT for each of these parts, in front of other statements
abbrev pub parts_put : Span → List PPart → PStmts → PStmts
parts_put s [] rest = rest
parts_put s (p ∷ ps) rest = stmt_then (SPut (p ∷ []) s) (parts_put s ps rest)

-- the parts have these texts, one by one
abbrev pub HaveTexts : Recorder → Variables → List PPart → List (List ℕ) → Type 0
HaveTexts k vars [] [] = Unit {0}
HaveTexts k vars (p ∷ ps) (t ∷ ts) = (parts_output k.setting.program.names k.setting.types vars (p ∷ []) ≡ Ok t) × HaveTexts k vars ps ts
HaveTexts k vars ps ts = ⊥

pub words-text : (k : Recorder) (vars : Variables) (w : List ℕ) → parts_output k.setting.program.names k.setting.types vars (PWords w k.span ∷ []) ≡ Ok w
words-text k vars w = ap (λ (x : List ℕ). Ok x) (append-nil w)

pub value-text : (r : Result Value Raised) (v : Value) → r ≡ Ok v →
    and_then (and_then r (λ w. Ok (integer_text (position_of w)))) (λ a. and_then (Ok []) (λ b. Ok (a ++ b))) ≡ Ok (integer_text (position_of v))
value-text r v is =
    ap (λ (x : Result Value Raised). and_then (and_then x (λ w. Ok (integer_text (position_of w)))) (λ a. and_then (Ok []) (λ b. Ok (a ++ b)))) is
    ∙ ap (λ (x : List ℕ). Ok x) (append-nil (integer_text (position_of v)))

module _ (k : Recorder) (c : ℕ) (b : Book) (n : Note) where
  -- it comes from there to where the line has ended
  abbrev pub Ends : Task → Type 0
  Ends t = (u : Task) × Comes t u × IsLineEnded k c b n u

  -- ---- a line

  parts-written : (vars : Variables) (ps : List PPart) (ts : List (List ℕ)) (rest : PStmts) (done : List ℕ) → HaveTexts k vars ps ts →
      Ends (hearing k c rest vars ((written_of k b ++ (done ++ concat ts)) ++ line_end)) →
      IsWriting k c b n done ts (hearing k c (parts_put k.span ps (stmt_then (SNewLine k.span) rest)) vars (written_of k b ++ done))
  parts-written vars [] [] rest done texts after =
      let t : Task = hearing k c (stmt_then (SNewLine k.span) rest) vars (written_of k b ++ done) in
      let is : stepped t ≡ hearing k c rest vars ((written_of k b ++ (done ++ [])) ++ line_end) =
      line-ends k (body_around k c) (around_body k) (body-holds k c) k.span rest vars (written_of k b ++ done)
      ∙ ap (λ (x : List ℕ). hearing k c rest vars ((written_of k b ++ x) ++ line_end)) (sym (append-nil done)) in
      (refl, refl, subst Ends (sym is) after)
  parts-written vars (p ∷ ps) (t ∷ ts) rest done texts after =
      let more : PStmts = parts_put k.span ps (stmt_then (SNewLine k.span) rest) in
      let is : stepped (hearing k c (stmt_then (SPut (p ∷ []) k.span) more) vars (written_of k b ++ done)) ≡ hearing k c more vars (written_of k b ++ (done ++ t)) =
      puts k (body_around k c) (around_body k) (body-holds k c) (p ∷ []) t k.span more vars (written_of k b ++ done) texts.0
      ∙ ap (λ (x : List ℕ). hearing k c more vars x) (append_assoc (written_of k b) done t) in (
        refl,
        refl,
        subst (IsWriting k c b n (done ++ t) ts) (sym is)
            (parts-written vars ps ts rest (done ++ t) texts.1
            (subst (λ (x : List ℕ). Ends (hearing k c rest vars ((written_of k b ++ x) ++ line_end))) (sym (append_assoc done t (concat ts))) after)),
      )
  parts-written vars [] (t ∷ ts) rest done texts after = absurd texts
  parts-written vars (p ∷ ps) [] rest done texts after = absurd texts

  -- the line of an event, before its first piece
  pub event-written : (e : Event) (vars : Variables) (ps : List PPart) (rest : PStmts) → line_of b n ≡ Some e → HaveTexts k vars ps (front e) →
      Ends (hearing k c rest vars (text (lines_of k) (b.events ++ e ∷ []))) →
      IsWriting k c b n [] (pieces (lines_of k) (line_of b n)) (hearing k c (parts_put k.span ps (stmt_then (SNewLine k.span) rest)) vars (written_of k b))
  event-written e vars ps rest is texts after =
      let all : PStmts = parts_put k.span ps (stmt_then (SNewLine k.span) rest) in
      let whole : text (lines_of k) (b.events ++ e ∷ []) ≡ (written_of k b ++ concat (front e)) ++ line_end =
      text-behind (lines_of k) b.events e ∙ sym (append_assoc (written_of k b) (concat (front e)) line_end) in
      let there : IsWriting k c b n [] (front e) (hearing k c all vars (written_of k b ++ [])) =
      parts-written vars ps (front e) rest [] texts (subst (λ (x : List ℕ). Ends (hearing k c rest vars x)) whole after) in
      subst (λ (l : List (List ℕ)). IsWriting k c b n [] l (hearing k c all vars (written_of k b))) (ap (pieces (lines_of k)) (sym is))
      (subst (λ (x : List ℕ). IsWriting k c b n [] (front e) (hearing k c all vars x)) (append-nil (written_of k b)) there)

  -- ---- a note without a line

  pub no-line-written : (t : Task) → line_of b n ≡ None → t.output ≡ written_of k b → can_step t ≡ true → Ends (stepped t) → IsWriting k c b n [] (pieces (lines_of k) (line_of b n)) t
  no-line-written t none is can after =
      subst (λ (l : List (List ℕ)). IsWriting k c b n [] l t) (ap (pieces (lines_of k)) (sym none)) (is ∙ sym (append-nil (written_of k b)), can, after)

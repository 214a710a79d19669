-- The index of an entry's member: a task of the normal form and its image evaluate it to the same number of INTEGER.
use Rattle.std.proofs.Common.{◌≡◌, ℕ, ℤ, Bool, true, false, if◌then◌else◌, List, [], ◌∷◌, Option, Some, None, Result, Ok, Err, refl, sym, ap, ◌∙◌, true≢false}
use Rattle.common_lemmas.proofs.Truth.{and_both}
use Rattle.event_machine.specs.declared.Choice.TheVariants.{Accept}
use Rattle.event_machine.specs.declared.Event.{Event}
use Rattle.event_machine.specs.Offers.{Waits}
use Rattle.event_machine.proofs.Basics.{same_member-refl}
use Rattle.ada_tree.specs.declared.naming.Span.{Span}
use Rattle.ada_static_rules.specs.StaticValue.{is_static}
use Rattle.ada_tree.specs.PlainExpr.{PExpr}
use Rattle.ada_tree.specs.PlainStmt.{PHead, SAccept, PStmts, no_stmt, stmt_then, PMaybe, accepting}
use Rattle.ada_tree.specs.PlainProgram.{PProgram}
use Rattle.ada_value.specs.declared.values.Limits.{Limits}
use Rattle.ada_value.specs.declared.values.Raised.{Raised}
use Rattle.ada_value.specs.declared.values.Raised.TheVariants as raised
use Rattle.ada_value.specs.Values.{and_then, position_of, lies_in}
use Rattle.ada_value.specs.Variables.{Variables}
use Rattle.syn_event.specs.Numbering.{entry_at}
use Rattle.task_model.specs.Setting.{Setting, entry_of, family_limits, index_in, member_index}
use Rattle.task_model.specs.Frames.{Around, PFrame, control}
use Rattle.task_model.specs.Tasks.{Task, stmts_or_none}
use Rattle.task_model.specs.Waits.{Accepts, open_at, accepts_member, first_accepting, alternative_for}
use Rattle.task_model.specs.Stands.{wait_stand, steps_at, offered, can_step, offer_of}
use Rattle.task_laws.specs.translation.Translations.{Programs, types_before, types_after}
use Rattle.task_laws.specs.translation.Scopes.{AgreeOnTypes, SeeAlike}
use Rattle.task_laws.specs.translation.OldNames.{OldExpr, old_integer, old_name, old_index, old_attribute, old_attribute_of, old_paren, old_unary, old_binary}
use Rattle.task_laws.specs.translation.Fixed.{FixedExpr, fixed_integer, fixed_name, fixed_attribute, fixed_attribute_of, fixed_paren, fixed_unary, fixed_binary}
use Rattle.task_laws.specs.translation.Controls.{task_in}
use Rattle.task_laws.proofs.translation.Evaluating.{worth-same}
use Rattle.task_laws.proofs.translation.Fixed.{fixed-before, fixed-worth}
use Rattle.normal_laws.specs.existence.Laws.{IsLegalOriginal}
use Rattle.replay_runs.specs.controls.permits.Laws.{IndexIs, no_index, index_is}
use Rattle.replay_runs.specs.controls.translated.Laws.{form_and_text}
use Rattle.replay_runs.proofs.controls.translated.Tables.{legal_types_agree}
use Rattle.replay_runs.proofs.controls.meanings.Serving.{find-first}

-- ---- an index that has a value

-- the index of a member, where its position is z
abbrev pub checked_index : Limits → Option PExpr → ℤ → Result ℤ Raised
checked_index limits None z = Ok z
checked_index limits (Some e) z = index_in limits z

-- so it is by whatever numbers
pub member_checked : (g : Setting) (V : Variables) (e : ℕ) (o : Option PExpr) (z : ℤ) → IndexIs g.types V o z → member_index g V e o ≡ checked_index (family_limits (entry_at g.numbers e)) o z
member_checked g V e None z no_index = refl
member_checked g V e (Some x) z (index_is _ v worth fits) = ap (λ r. and_then r (λ a. index_in (family_limits (entry_at g.numbers e)) (position_of a))) worth

pub by-checked : {G : Type 0} (limits : Limits) (o : Option PExpr) (z : ℤ) → (checked_index limits o z ≡ Ok z → G) → (checked_index limits o z ≡ Err raised.Constraint → G) → G
by-checked limits None z good bad = good refl
by-checked {G} limits (Some e) z good bad = by_test (lies_in limits z) refl
  where
    by_test : (c : Bool) → lies_in limits z ≡ c → G
    by_test true k = good (ap (λ c. if c then Ok z else Err raised.Constraint) k)
    by_test false k = bad (ap (λ c. if c then Ok z else Err raised.Constraint) k)

-- ---- in both programs

module _ (p : PProgram) (events : List Event) (h : IsLegalOriginal p) where
  abbrev b : Programs
  b = form_and_text p events

  types : AgreeOnTypes b
  types = legal_types_agree p events h

  static-fixed : {e : PExpr} → OldExpr b e → is_static (types_before b) e ≡ true → FixedExpr b e
  static-fixed (old_integer n s) k = fixed_integer n s
  static-fixed (old_name id s old) k = fixed_name id s old k
  static-fixed (old_index w e s old j) k = absurd (true≢false (sym k))
  static-fixed (old_attribute m w s old) k = fixed_attribute m w s
  static-fixed (old_attribute_of m w e s old j) k = fixed_attribute_of m w e s (static-fixed j (and_both _ (is_static (types_before b) e) k).1)
  static-fixed (old_paren e s j) k = fixed_paren e s (static-fixed j k)
  static-fixed (old_unary op e s j) k = fixed_unary op e s (static-fixed j k)
  static-fixed (old_binary op l r s j i) k =
      let both = and_both (is_static (types_before b) l) (is_static (types_before b) r) k in fixed_binary op l r s (static-fixed j both.0) (static-fixed i both.1)

  -- a static index is worth at each place what it is worth without variables
  pub static_index_is : {V W : Variables} → SeeAlike b V W → (x : PExpr) → OldExpr b x → is_static (types_before b) x ≡ true → {z : ℤ} → IndexIs (types_before b) [] (Some x) z → IndexIs (types_before b) V (Some x) z
  static_index_is {V} see x old static (index_is _ v worth fits) = index_is x v (fixed-worth b (types_before b) V (fixed-before b see) (static-fixed old static) ∙ worth) fits

  -- an index that the task evaluates the image evaluates to the same
  pub index_there : {V W : Variables} → SeeAlike b V W → {x : PExpr} → OldExpr b x → {z : ℤ} → IndexIs (types_before b) V (Some x) z → IndexIs (types_after b) W (Some x) z
  index_there see {x} old (index_is _ v worth fits) = index_is x v (sym (worth-same b types see old) ∙ worth) fits

-- ---- an accept statement without a local step

-- the task waits for a call of this member alone
pub record WaitsFor (e : ℕ) (z : ℤ) (head : PHead) (m : PMaybe) (σ : Task) : Type 0 where
  pub worth : checked_index (family_limits (entry_at σ.setting.numbers e)) head.index z ≡ Ok z
  pub alternative : alternative_for σ e z ≡ Some (Accepts e z head (stmts_or_none m) no_stmt)
  pub offer : offer_of σ ≡ Waits (Accept e z ∷ [])

module _ (g : Setting) (t : ℕ) (i : List ℤ) (w : List ℕ) (head : PHead) (m : PMaybe) (s : Span) (r : PStmts) (q : Around) (o : List PFrame) (V : Variables) (e : ℕ) (z : ℤ) (named : entry_of g.numbers t head.entry.name ≡ e) (worth : IndexIs g.types V head.index z) where
  abbrev σ : Task
  σ = task_in g t i w (control (stmt_then (SAccept (accepting head m) s) r) q o V)

  abbrev result : Result ℤ Raised
  result = checked_index (family_limits (entry_at g.numbers e)) head.index z

  opened : open_at σ (SAccept (accepting head m) s) ≡ and_then (and_then result (λ j. Ok (Accepts e j head (stmts_or_none m) no_stmt))) (λ a. Ok (a ∷ []))
  opened =
      ap (λ k. and_then (and_then (member_index g V k head.index) (λ j. Ok (Accepts k j head (stmts_or_none m) no_stmt))) (λ a. Ok (a ∷ []))) named
      ∙ ap (λ k. and_then (and_then k (λ j. Ok (Accepts e j head (stmts_or_none m) no_stmt))) (λ a. Ok (a ∷ []))) (member_checked g V e head.index z worth)

  pub waits_for : can_step σ ≡ false → WaitsFor e z head m σ
  waits_for rests = by-checked (family_limits (entry_at g.numbers e)) head.index z
      (λ k.
      let all : open_at σ (SAccept (accepting head m) s) ≡ Ok (Accepts e z head (stmts_or_none m) no_stmt ∷ []) =
      opened ∙ ap (λ c. and_then (and_then c (λ j. Ok (Accepts e j head (stmts_or_none m) no_stmt))) (λ a. Ok (a ∷ []))) k in
      record {
        worth = k;
        alternative = ap (first_accepting e z) all ∙ find-first (accepts_member e z) (Accepts e z head (stmts_or_none m) no_stmt) [] (same_member-refl e z);
        offer = ap (λ c. offered (wait_stand false c)) all;
      })
      (λ k. absurd (true≢false (sym (ap (λ c. steps_at (wait_stand false c)) (opened ∙ ap (λ c. and_then (and_then c (λ j. Ok (Accepts e j head (stmts_or_none m) no_stmt))) (λ a. Ok (a ∷ []))) k)) ∙ rests)))

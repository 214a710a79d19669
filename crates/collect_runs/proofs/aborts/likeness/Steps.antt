-- Two tasks that are alike stand at the same, and are alike after a local step.
use Rattle.std.proofs.Common.{◌≡◌, ℕ, ℤ, Bool, true, false, if◌then◌else◌, List, [], ◌∷◌, ◌++◌, drop, Option, Some, None, Result, Ok, Err, refl, sym, ap, subst, ◌∙◌}
use Rattle.ada_tree.specs.declared.naming.Word.{Word}
use Rattle.ada_tree.specs.PlainExpr.{PExpr}
use Rattle.ada_tree.specs.PlainStmt.{PTarget, PPart, PScheme, LWhile, LFor, PStmt, SNull, SAssign, SDelay, SExit, SRaise, SAbort, SCall, SAccept, SWait, SConditional, STimed, SPut, SPutLine, SNewLine, SGet, SIf, SCase, SBlock, SLoop, PStmts, no_stmt, stmt_then, PMaybe, absent, present, accepting, PArms, no_arm, arm_then, arm, PCaseArms, no_case_arm, case_arm_then, case_arm, body}
use Rattle.event_machine.specs.declared.CallForm.TheVariants as call_form
use Rattle.ada_value.specs.declared.values.Value.{Value}
use Rattle.ada_value.specs.declared.values.Value.TheVariants.{Number}
use Rattle.ada_value.specs.declared.values.Raised.{Raised}
use Rattle.ada_value.specs.declared.values.Raised.TheVariants as raised
use Rattle.ada_value.specs.Values.{and_then, is_empty_range}
use Rattle.ada_value.specs.Variables.{Variables}
use Rattle.ada_value.specs.Evaluating.{evaluated, condition_of}
use Rattle.ada_value.specs.Texts.{parts_output}
use Rattle.task_model.specs.Setting.{entry_of}
use Rattle.task_model.specs.Frames.{Turns, Endless, While, Counting, Around, OwnBody, Block, Handling, Loop, Opened, PFrame, in_front, brought_by, brought}
use Rattle.task_model.specs.Tasks.{Task, with_input, with_text, with_vars, gone_to, stmts_or_none, entered, pushed, raised_there, or_raised}
use Rattle.task_model.specs.Steps as steps
use Rattle.task_model.specs.Waits.{Accepts, is_present}
use Rattle.task_model.specs.Stands.{Stand, Steps, Raises, At, stand_at, stand_with, stand_of, call_stand, wait_stand, name_stand, stepped_at, stepped_behind, stepped_with, stepped_by, stepped}
use Rattle.task_laws.proofs.invariants.Variables.{chain, ok_path}
use Rattle.collect_runs.specs.aborts.likeness.Likeness.{Ground, Goal, Beside, form, with_these, Near, Meet, AreCells, Always, SchemeAlike, Passes, PassesOne, PassesMaybe, PassesArms, PassesCase, SafePlace, SafeOuter, LikeAt, IsLike, is_like, FirstOld}
use Rattle.collect_runs.proofs.aborts.likeness.Near.{object-self}
use Rattle.collect_runs.proofs.aborts.likeness.Frames.{of-there, joined, at-settled, settles, at-exited, goes, goes-raised, goes-pushed}
use Rattle.collect_runs.proofs.aborts.likeness.Near.{near-drop}
use Rattle.replay_runs.proofs.controls.meanings.Pairs.{no-name}

-- ---- branches of a test

by-test : (A : Type 0) (r : Result Bool Raised) (here : Result A Raised) (there other : Result A Raised) → (r ≡ Ok false → other ≡ there) →
    and_then r (λ b. if b then here else other) ≡ and_then r (λ b. if b then here else there)
by-test A (Err a) here there other h = refl
by-test A (Ok true) here there other h = refl
by-test A (Ok false) here there other h = h refl

module _ (x : Ground) where
  -- ---- results

  pub goes-same : {A : Type 0} (f f' : A → Task) (t t' : Task) (r : Result A Raised) → ((e : Raised) → IsLike x (raised_there e t) (raised_there e t')) → ((a : A) → r ≡ Ok a → IsLike x (f a) (f' a)) →
      IsLike x (or_raised f t r) (or_raised f' t' r)
  goes-same f f' t t' (Ok a) h k = k a refl
  goes-same f f' t t' (Err e) h k = h e

  pub goes-or : {A : Type 0} (f f' : A → Task) (t t' : Task) (r r' : Result A Raised) → r' ≡ r → ((e : Raised) → IsLike x (raised_there e t) (raised_there e t')) → ((a : A) → r ≡ Ok a → IsLike x (f a) (f' a)) →
      IsLike x (or_raised f t r) (or_raised f' t' r')
  goes-or f f' t t' r r' e h k = subst (λ s. IsLike x (or_raised f t r) (or_raised f' t' s)) (sym e) (goes-same f f' t t' r h k)

  goes-meet : (f f' : Variables → Task) (t t' : Task) (r r' : Result Variables Raised) (K : Goal) → Meet x K r r' → ((e : Raised) → IsLike x (raised_there e t) (raised_there e t')) →
      ((V W : Variables) → Near x V W → K V W → IsLike x (f V) (f' W)) → IsLike x (or_raised f t r) (or_raised f' t' r')
  goes-meet f f' t t' (Ok V) (Ok W) K m h k = k V W m.0 m.1
  goes-meet f f' t t' (Err a) (Err b) K m h k = subst (λ e. IsLike x (raised_there a t) (raised_there e t')) (sym m) (h a)
  goes-meet f f' t t' (Ok V) (Err b) K m h k = absurd m
  goes-meet f f' t t' (Err a) (Ok W) K m h k = absurd m

  either : (b : Bool) {t t' u u' : Task} → (b ≡ true → IsLike x t t') → (b ≡ false → IsLike x u u') → IsLike x (if b then t else u) (if b then t' else u')
  either true h k = h refl
  either false h k = k refl

  pub of-maybe : (m : PMaybe) (K : Goal) (V W : Variables) → PassesMaybe x m K V W → Passes x (stmts_or_none m) K V W
  of-maybe absent K V W h = h
  of-maybe (present l) K V W h = h

  module _ (c : Beside) (V W : Variables) where
    abbrev t : Task
    t = with_these x c V

    abbrev t' : Task
    t' = with_these x c W

    -- ---- ifs and cases

    arms-same : (arms : PArms) (o : PMaybe) (K : Goal) (Otherwise : Type 0) → PassesArms x arms Otherwise K V W → steps.arm_taken t' arms o ≡ steps.arm_taken t arms o
    arms-same no_arm o K Otherwise h = refl
    arms-same (arm_then (arm e l) rest) o K Otherwise h =
        ap (λ r. and_then r (λ b. if b then Ok (present l) else steps.arm_taken t' rest o)) (h.same tt)
        ∙ by-test PMaybe (condition_of (form x).types V e) (Ok (present l)) (steps.arm_taken t rest o) (steps.arm_taken t' rest o) (λ q. arms-same rest o K Otherwise (h.beyond tt q))

    arms-enter : (arms : PArms) (o : PMaybe) (K : Goal) → PassesArms x arms (PassesMaybe x o K V W) K V W → (m : PMaybe) → steps.arm_taken t arms o ≡ Ok m → PassesMaybe x m K V W
    arms-enter no_arm o K h m q = subst (λ n. PassesMaybe x n K V W) (ok_path q) h
    arms-enter (arm_then (arm e l) rest) o K h m q =
        let d = chain (condition_of (form x).types V e) (λ b. if b then Ok (present l) else steps.arm_taken t rest o) m q in
        go d.value d.first d.rest (λ f. arms-enter rest o K (h.beyond tt f) m)
      where
        go : (b : Bool) → condition_of (form x).types V e ≡ Ok b → (if b then Ok (present l) else steps.arm_taken t rest o) ≡ Ok m →
            (condition_of (form x).types V e ≡ Ok false → steps.arm_taken t rest o ≡ Ok m → PassesMaybe x m K V W) → PassesMaybe x m K V W
        go true f r later = subst (λ n. PassesMaybe x n K V W) (ok_path r) (h.into tt f)
        go false f r later = later f r

    case-same : (v : Value) (arms : PCaseArms) (o : PMaybe) (K : Goal) (Others : Type 0) → PassesCase x v arms Others K V W → steps.case_taken t' v arms o ≡ steps.case_taken t v arms o
    case-same v no_case_arm o K Others h = refl
    case-same v (case_arm_then (case_arm cs l) rest) o K Others h =
        ap (λ r. and_then r (λ b. if b then Ok (present l) else steps.case_taken t' v rest o)) (h.same c)
        ∙ by-test PMaybe (steps.choices_fit t v cs) (Ok (present l)) (steps.case_taken t v rest o) (steps.case_taken t' v rest o) (λ q. case-same v rest o K Others (h.beyond c q))

    case-enter : (v : Value) (arms : PCaseArms) (o : PMaybe) (K : Goal) → PassesCase x v arms (PassesMaybe x o K V W) K V W → (m : PMaybe) → steps.case_taken t v arms o ≡ Ok m → PassesMaybe x m K V W
    case-enter v no_case_arm o K h m q = subst (λ n. PassesMaybe x n K V W) (ok_path q) h
    case-enter v (case_arm_then (case_arm cs l) rest) o K h m q =
        let d = chain (steps.choices_fit t v cs) (λ b. if b then Ok (present l) else steps.case_taken t v rest o) m q in
        go d.value d.first d.rest (λ f. case-enter v rest o K (h.beyond c f) m)
      where
        go : (b : Bool) → steps.choices_fit t v cs ≡ Ok b → (if b then Ok (present l) else steps.case_taken t v rest o) ≡ Ok m →
            (steps.choices_fit t v cs ≡ Ok false → steps.case_taken t v rest o ≡ Ok m → PassesMaybe x m K V W) → PassesMaybe x m K V W
        go true f r later = subst (λ n. PassesMaybe x n K V W) (ok_path r) (h.into c f)
        go false f r later = later f r

    case-value-same : (e : PExpr) (arms : PCaseArms) (o : PMaybe) (K : Goal) (Others : Type 0) → evaluated (form x).types W e ≡ evaluated (form x).types V e →
        ((v : Value) → evaluated (form x).types V e ≡ Ok v → PassesCase x v arms Others K V W) →
        and_then (evaluated (form x).types W e) (λ v. steps.case_taken t' v arms o) ≡ and_then (evaluated (form x).types V e) (λ v. steps.case_taken t v arms o)
    case-value-same e arms o K Others same h = ap (λ r. and_then r (λ v. steps.case_taken t' v arms o)) same ∙ go (evaluated (form x).types V e) refl
      where
        go : (r : Result Value Raised) → evaluated (form x).types V e ≡ r → and_then r (λ v. steps.case_taken t' v arms o) ≡ and_then r (λ v. steps.case_taken t v arms o)
        go (Ok v) q = case-same v arms o K Others (h v q)
        go (Err a) q = refl

    -- ---- a step

    module _ (near : Near x V W) (inside : SafePlace x c.place) (outside : SafeOuter x c.outer) where
      raises : (e : Raised) → IsLike x (raised_there e t) (raised_there e t')
      raises e = goes-raised x c.input c.output c.rest c.place c.outer e V W near inside outside

      on : (l : PStmts) → Passes x l (Near x) V W → IsLike x (gone_to l t) (gone_to l t')
      on l h = goes x c.input c.output c.rest c.place c.outer l V W near h inside outside

      enters : (m : PMaybe) (behind : PStmts) → PassesMaybe x m (Passes x behind (Near x)) V W → IsLike x (entered (stmts_or_none m) behind t) (entered (stmts_or_none m) behind t')
      enters m behind h = on (in_front (stmts_or_none m) behind) (joined x (stmts_or_none m) behind (Near x) V W (of-maybe m (Passes x behind (Near x)) V W h))

      puts : (parts : List PPart) (closing : List ℕ) (behind : PStmts) → parts_output (form x).program.names (form x).types W parts ≡ parts_output (form x).program.names (form x).types V parts → Passes x behind (Near x) V W →
          IsLike x (steps.put_step parts closing behind t) (steps.put_step parts closing behind t')
      puts parts closing behind e h =
          goes-or (λ text. gone_to behind (with_text t (text ++ closing))) (λ text. gone_to behind (with_text t' (text ++ closing))) t t' (parts_output (form x).program.names (form x).types V parts)
          (parts_output (form x).program.names (form x).types W parts) e raises
          (λ text q. goes x c.input (c.output ++ (text ++ closing)) c.rest c.place c.outer behind V W near h inside outside)

      gets : (target : PTarget) (behind : PStmts) (k : ℕ) (input : List ℤ) → ((d : Beside) (z : ℤ) → Meet x (Passes x behind (Near x)) (steps.stored (with_these x d V) target k (Number z)) (steps.stored (with_these x d W) target k (Number z))) →
          IsLike x (steps.got target behind t k input) (steps.got target behind t' k input)
      gets target behind k [] h = raises raised.End
      gets target behind k (z ∷ rest) h =
          goes-meet (λ vars. gone_to behind (with_vars (with_input t rest) vars)) (λ vars. gone_to behind (with_vars (with_input t' rest) vars)) (with_input t rest) (with_input t' rest)
          (steps.stored (with_input t rest) target k (Number z)) (steps.stored (with_input t' rest) target k (Number z)) (Passes x behind (Near x))
          (h (record { input = rest; output = c.output; rest = c.rest; place = c.place; outer = c.outer }) z)
          (λ e. goes-raised x rest c.output c.rest c.place c.outer e V W near inside outside)
          (λ V1 W1 n p. goes x rest c.output c.rest c.place c.outer behind V1 W1 n p inside outside)

      -- the first turn of a loop
      pushes : (name : Option Word) (turns : Turns) (l behind : PStmts) (V1 W1 : Variables) → Near x V1 W1 → SafePlace x (Loop name turns l) → Always x (Passes x behind (Near x)) →
          IsLike x (pushed l (Loop name turns l) V1 behind t) (pushed l (Loop name turns l) W1 behind t')
      pushes name turns l behind V1 W1 n p b = goes-pushed x c.input c.output c.rest c.place c.outer l (Loop name turns l) behind V W V1 W1 n (p.0 V1 W1 n) p b inside outside

      begins : (name : Option Word) (scheme : Option PScheme) (l behind : PStmts) → SchemeAlike x scheme → Always x (Passes x l (Near x)) → Passes x behind (Near x) V W → Always x (Passes x behind (Near x)) →
          IsLike x (steps.loop_step name scheme l behind t) (steps.loop_step name scheme l behind t')
      begins name None l behind a safe h b = pushes name Endless l behind V W near (safe, tt) b
      begins name (Some (LWhile e)) l behind a safe h b =
          goes-or (λ d. if d then pushed l (Loop name (While e) l) V behind t else gone_to behind t) (λ d. if d then pushed l (Loop name (While e) l) W behind t' else gone_to behind t') t t'
          (condition_of (form x).types V e) (condition_of (form x).types W e) (a V W near) raises
          (λ d q. either d (λ f. pushes name (While e) l behind V W near (safe, a) b) (λ f. on behind h))
      begins name (Some (LFor w backwards range)) l behind a safe h b =
          goes-or (λ r. steps.counting_begun name w backwards l behind t r) (λ r. steps.counting_begun name w backwards l behind t' r) t t' (steps.counted_range t range) (steps.counted_range t' range) (a.1 c V W near) raises
          (λ r q. either (is_empty_range r) (λ f. on behind h)
          (λ f. pushes name (Counting backwards (if backwards then r.first else r.last)) l behind (steps.loop_parameter t w r.kind (if backwards then r.last else r.first) ∷ V)
          (steps.loop_parameter t' w r.kind (if backwards then r.last else r.first) ∷ W) (object-self x (steps.loop_parameter t w r.kind (if backwards then r.last else r.first)) a.0, near) (safe, tt) b))

      meant-same : (w : Option Word) → steps.exception_meant w t' ≡ steps.exception_meant w t
      meant-same None = refl
      meant-same (Some w) = refl

      step-at : (s : PStmt) (behind : PStmts) → stand_at t s ≡ Steps → PassesOne x s (Passes x behind (Near x)) V W → IsLike x t t' → IsLike x (stepped_at s behind t) (stepped_at s behind t')
      step-at (SNull s) behind e h self = on behind h
      step-at (SAssign target e s) behind st h self =
          goes-meet (λ vars. gone_to behind (with_vars t vars)) (λ vars. gone_to behind (with_vars t' vars)) t t' (steps.assigned t target e) (steps.assigned t' target e) (Passes x behind (Near x)) (h c) raises
          (λ V1 W1 n p. goes x c.input c.output c.rest c.place c.outer behind V1 W1 n p inside outside)
      step-at (SDelay d s) behind e h self = on behind h
      step-at (SExit w test s) behind e h self =
          goes-or (λ b. if b then steps.exited w t else gone_to behind t) (λ b. if b then steps.exited w t' else gone_to behind t') t t' (steps.exit_test t test) (steps.exit_test t' test) (h.0 c) raises
          (λ b q. either b (λ f. of-there x c.input c.output (settles x (at-exited x w c.outer c.place V W near inside outside))) (λ f. on behind h.1))
      step-at (SRaise w s) behind e h self = subst (λ e. IsLike x (raised_there (steps.exception_meant w t) t) (raised_there e t')) (sym (meant-same w)) (raises (steps.exception_meant w t))
      step-at (SAbort [] s) behind e h self = on behind h
      step-at (SAbort (d ∷ ds) s) behind e h self = absurd (no-name _ e)
      step-at (SPut parts s) behind e h self = puts parts [] behind h.0 h.1
      step-at (SPutLine parts s) behind e h self = puts parts steps.line_end behind h.0 h.1
      step-at (SNewLine s) behind e h self = puts [] steps.line_end behind refl h
      step-at (SGet target s) behind e h self =
          goes-or (λ k. steps.got target behind t k t.input) (λ k. steps.got target behind t' k t'.input) t t' (steps.aim_of t target) (steps.aim_of t' target) (h.0 c) raises
          (λ k q. gets target behind k c.input (λ d z. h.1 d k z))
      step-at (SIf arms o s) behind e h self =
          goes-or (λ m. entered (stmts_or_none m) behind t) (λ m. entered (stmts_or_none m) behind t') t t' (steps.arm_taken t arms o) (steps.arm_taken t' arms o) (arms-same arms o (Passes x behind (Near x)) _ h) raises
          (λ m q. enters m behind (arms-enter arms o (Passes x behind (Near x)) h m q))
      step-at (SCase e arms o s) behind st h self =
          goes-or (λ m. entered (stmts_or_none m) behind t) (λ m. entered (stmts_or_none m) behind t') t t' (and_then (evaluated (form x).types V e) (λ v. steps.case_taken t v arms o))
          (and_then (evaluated (form x).types W e) (λ v. steps.case_taken t' v arms o)) (case-value-same e arms o (Passes x behind (Near x)) _ h.0 h.1) raises
          (λ m q. let d = chain (evaluated (form x).types V e) (λ v. steps.case_taken t v arms o) m q in
          enters m behind (case-enter d.value arms o (Passes x behind (Near x)) (h.1 d.value d.first) m d.rest))
      step-at (SBlock (body l hs) s) behind e h self = goes-pushed x c.input c.output c.rest c.place c.outer l (Block hs) behind V W V W near h.0 h.1.0 h.1.1 inside outside
      step-at (SLoop name scheme l s) behind e h self = begins name scheme l behind h.0.0 h.0.1 h.1.0 h.1.1
      step-at (SCall d s) behind e h self = self
      step-at (SAccept a s) behind e h self = self
      step-at (SWait alts o s) behind e h self = self
      step-at (SConditional d l m s) behind e h self = self
      step-at (STimed d l n m s) behind e h self = self

      -- ---- turns of loops

      left : (turns : Turns) (o : List PFrame) → SafeOuter x o → IsLike x t t' → IsLike x (steps.left_in turns o V t) (steps.left_in turns o W t')
      left turns [] s self = self
      left turns (part ∷ parts) s self =
          let n = near-drop x (brought_by turns) V W near in
          of-there x c.input c.output (at-settled x parts part.rest part.place (drop (brought_by turns) V) (drop (brought_by turns) W)
          (record { near = n; passes = s.0 (drop (brought_by turns) V) (drop (brought_by turns) W) n; inside = s.1.0; outside = s.1.1 }))

      -- the loop parameter is the same to both
      abbrev IsCounted : ℕ → Type 0
      IsCounted n = FirstOld x n V

      counts : (backwards : Bool) (last : ℤ) (l : PStmts) → Always x (Passes x l (Near x)) → IsCounted 1 → IsLike x (steps.loop_left (Counting backwards last) t) (steps.loop_left (Counting backwards last) t') →
          IsLike x (steps.turn_step (Counting backwards last) l t) (steps.turn_step (Counting backwards last) l t')
      counts backwards last l safe old gone = go V W near old gone
        where
          go : (V1 W1 : Variables) → Near x V1 W1 → FirstOld x 1 V1 →
              IsLike x (steps.loop_left (Counting backwards last) t) (steps.loop_left (Counting backwards last) t') →
              IsLike x (if steps.has_turn backwards last (steps.counted_so_far V1) then gone_to l (with_vars t (steps.counted_on t backwards V1)) else steps.loop_left (Counting backwards last) t)
              (if steps.has_turn backwards last (steps.counted_so_far W1) then gone_to l (with_vars t' (steps.counted_on t' backwards W1)) else steps.loop_left (Counting backwards last) t')
          go [] [] n k g = either (steps.has_turn backwards last (steps.counted_so_far [])) (λ f. goes x c.input c.output c.rest c.place c.outer l [] [] n (safe [] [] n) inside outside) (λ f. g)
          go (o ∷ V1) (p ∷ W1) n k g =
              subst (λ q. IsLike x (if steps.has_turn backwards last (steps.counted_so_far (o ∷ V1)) then gone_to l (with_vars t (steps.counted_on t backwards (o ∷ V1))) else steps.loop_left (Counting backwards last) t)
              (if steps.has_turn backwards last (steps.counted_so_far (q ∷ W1)) then gone_to l (with_vars t' (steps.counted_on t' backwards (q ∷ W1))) else steps.loop_left (Counting backwards last) t'))
              (sym (n.0.old k.0))
              (either (steps.has_turn backwards last (steps.counted_so_far (o ∷ V1)))
              (λ f. let m : Near x (steps.counted_on t backwards (o ∷ V1)) (steps.counted_on t' backwards (o ∷ W1)) = (object-self x _ n.0.free, n.1) in
              goes x c.input c.output c.rest c.place c.outer l (steps.counted_on t backwards (o ∷ V1)) (steps.counted_on t' backwards (o ∷ W1)) m (safe _ _ m) inside outside) (λ f. g))
          go [] (p ∷ W1) n k g = absurd n
          go (o ∷ V1) [] n k g = absurd n

      turns : (name : Option Word) (how : Turns) (l : PStmts) → SafePlace x (Loop name how l) → IsCounted (brought_by how) → IsLike x t t' → IsLike x (steps.turn_step how l t) (steps.turn_step how l t')
      turns name Endless l p k self = on l (p.0 V W near)
      turns name (While e) l p k self =
          goes-or (λ b. if b then gone_to l t else steps.loop_left (While e) t) (λ b. if b then gone_to l t' else steps.loop_left (While e) t') t t'
          (condition_of (form x).types V e) (condition_of (form x).types W e) (p.1 V W near) raises
          (λ b q. either b (λ f. on l (p.0 V W near)) (λ f. left (While e) c.outer outside self))
      turns name (Counting backwards last) l p k self = counts backwards last l p.0 k (left (Counting backwards last) c.outer outside self)

    -- ---- where they stand

    module _ (like : LikeAt x c.rest c.place c.outer V W) (cells : AreCells x V) where
      stands-at : (s : PStmt) (K : Goal) → PassesOne x s K V W → stand_at t' s ≡ stand_at t s
      stands-at (SNull s) K h = refl
      stands-at (SAssign target e s) K h = refl
      stands-at (SDelay d s) K h = refl
      stands-at (SExit w test s) K h = refl
      stands-at (SRaise w s) K h = refl
      stands-at (SAbort [] s) K h = refl
      stands-at (SAbort (d ∷ ds) s) K h = ap (λ r. name_stand r) h.0
      stands-at (SPut parts s) K h = refl
      stands-at (SPutLine parts s) K h = refl
      stands-at (SNewLine s) K h = refl
      stands-at (SGet target s) K h = refl
      stands-at (SIf arms o s) K h = refl
      stands-at (SCase e arms o s) K h = refl
      stands-at (SBlock b s) K h = refl
      stands-at (SLoop name scheme l s) K h = refl
      stands-at (SCall d s) K h = ap (λ r. call_stand call_form.Plain r) h.same
      stands-at (SConditional d l m s) K h = ap (λ r. call_stand call_form.Conditional r) h.0.same
      stands-at (STimed d l n m s) K h = ap (λ r. call_stand call_form.Timed r) h.0.same
      stands-at (SAccept (accepting head o) s) K h = ap (λ r. wait_stand false (and_then (and_then r (λ i. Ok (Accepts (entry_of (form x).numbers x.number head.entry.name) i head (stmts_or_none o) no_stmt))) (λ a. Ok (a ∷ [])))) h.0.0
      stands-at (SWait alts o s) K h = ap (λ r. wait_stand (is_present o) r) (h.0 c)

      stands-with : (r : PStmts) → Passes x r (Near x) V W → stand_with t' r c.place ≡ stand_with t r c.place
      stands-with no_stmt h = refl
      stands-with (stmt_then s behind) h = stands-at s (Passes x behind (Near x)) (h.0 cells)

      pub stands-same : stand_of t' ≡ stand_of t
      stands-same = stands-with c.rest like.passes

      self-like : IsLike x t t'
      self-like = is_like c.input c.output c.rest c.place c.outer V W like

      step-with : (r : PStmts) → stand_with t r c.place ≡ Steps → Passes x r (Near x) V W → FirstOld x (brought c.place) V →
          IsLike x (stepped_with r c.place t) (stepped_with r c.place t')
      step-with (stmt_then s behind) st h k = step-at like.near like.inside like.outside s behind st (h.0 cells) self-like
      step-with no_stmt st h k = behind c.place like.inside k
        where
          behind : (q : Around) → SafePlace x q → FirstOld x (brought q) V →
              IsLike x (stepped_behind q t) (stepped_behind q t')
          behind (OwnBody handlers taken) p k = self-like
          behind (Block handlers) p k = self-like
          behind (Handling e) p k = self-like
          behind (Opened caller formals pending) p k = self-like
          behind (Loop name how l) p k = turns like.near like.inside like.outside name how l p k self-like

      pub step-like : FirstOld x (brought c.place) V → IsLike x (stepped t) (stepped t')
      step-like k = subst (λ st. IsLike x (stepped t) (stepped_by st t')) (sym stands-same) (go (stand_of t) refl)
        where
          go : (st : Stand) → stand_of t ≡ st → IsLike x (stepped_by st t) (stepped_by st t')
          go Steps e = step-with c.rest e like.passes k
          go (Raises a) e = raises like.near like.inside like.outside a
          go (At offer) e = self-like

-- Local steps of an image leave the variables of its places alone: what they assign to, open and leave has old names.
use Rattle.std.proofs.Common.{true≢false, ◌≡◌, ℕ, ℤ, Bool, true, false, cond, ◌==◌, if◌then◌else◌, List, [], ◌∷◌, Option, Some, None, Result, Ok, Err, refl, sym, ap, ◌∙◌}
use Rattle.std.proofs.lemmas.Bool.{eqb-true}
use Rattle.ada_tree.specs.declared.naming.NameId.{NameId}
use Rattle.ada_tree.specs.declared.naming.Word.{Word}
use Rattle.ada_tree.specs.PlainExpr.{PExpr}
use Rattle.ada_tree.specs.PlainStmt.{PTarget, PPart, PScheme, PStmt, SNull, SAssign, SDelay, SExit, SRaise, SAbort, SPut, SPutLine, SNewLine, SGet, SIf, SCase, SBlock, SLoop, PStmts, no_stmt, stmt_then, body}
use Rattle.ada_value.specs.declared.values.Value.{Value}
use Rattle.ada_value.specs.declared.values.Value.TheVariants.{Number}
use Rattle.ada_value.specs.declared.values.Raised.{Raised}
use Rattle.ada_value.specs.declared.values.Raised.TheVariants as raised
use Rattle.ada_value.specs.declared.values.Limits.{Limits}
use Rattle.ada_value.specs.Values.{and_then, position_of, is_empty_range}
use Rattle.ada_value.specs.Variables.{Object, Variables, object_named, value_there, checked_for, set_value}
use Rattle.task_model.specs.Frames.{Endless, While, Counting, Around, OwnBody, Block, Handling, Loop, Opened, PFrame, Control, control, in_front, settled_in, handler_for, block_with, raised_in, is_left, exited_in}
use Rattle.task_model.specs.Tasks.{Task, rest_of, place_of, vars_of, with_vars, value_of, gone_to, stmts_or_none, pushed, raised_there, or_raised}
use Rattle.task_model.specs.Steps as steps
use Rattle.task_model.specs.Stands.{stepped}
use Rattle.task_laws.specs.translation.Translations.{Translation, IsOld}
use Rattle.task_laws.specs.translation.OldNames.{OldTarget, OldScheme, old_endless, old_while, old_for}
use Rattle.task_laws.specs.translation.Images.{ImageStmt, image_null, image_assign, image_delay, image_exit, image_raise, image_no_abort, image_put, image_put_line, image_new_line, image_get, image_if, image_case, image_block, image_loop, ImageList, image_list, IsEmpty, nothing_there}
use Rattle.task_laws.specs.translation.Controls.{frame, task_in, Under, on_floor, in_block, in_handler, in_endless, in_while, in_count, LeavesLoop, leaves_this, leaves_outer, leaves_from_block, leaves_from_handler, IsAtLocal, at_statement, at_turn, IsExit, is_exit, ExitsLoop, AreInside, are_inside}
use Rattle.task_laws.specs.translation.Floors.{AreClosed, IsTranslation}
use Rattle.normal_laws.proofs.runs.floors.Cells.{named-set_other}

-- ---- leaving frames

-- what is settled has the same variables
pub settled-vars : (o : List PFrame) (r : PStmts) (q : Around) (V : Variables) → (settled_in o r q V).vars ≡ V
settled-vars o (stmt_then s r) q V = refl
settled-vars [] no_stmt (OwnBody hs taken) V = refl
settled-vars [] no_stmt (Block hs) V = refl
settled-vars [] no_stmt (Handling x) V = refl
settled-vars [] no_stmt (Loop name turns l) V = refl
settled-vars [] no_stmt (Opened caller formals pending) V = refl
settled-vars (part ∷ parts) no_stmt (OwnBody hs taken) V = refl
settled-vars (part ∷ parts) no_stmt (Block hs) V = settled-vars parts part.rest part.place V
settled-vars (part ∷ parts) no_stmt (Handling x) V = settled-vars parts part.rest part.place V
settled-vars (part ∷ parts) no_stmt (Loop name turns l) V = refl
settled-vars (part ∷ parts) no_stmt (Opened caller formals pending) V = refl

-- a block's handler, where it has one, begins with the variables of the block
pub block-vars : (h : Option PStmts) (e : Raised) (o : List PFrame) (V : Variables) (c : Control) → c.vars ≡ V → (block_with h e o V c).vars ≡ V
block-vars None e o V c is = is
block-vars (Some l) e o V c is = refl

module _ (y : Translation) (laws : IsTranslation y) (shut : AreClosed y)
    (floor-raised : (e : Raised) (q q' : Around) (o o' : List PFrame) (V V' : Variables) → y.floor q o V q' o' V' → (raised_in e o' q' V').vars ≡ V')
    (id : NameId) (fresh : y.text.programs.is_old id.0 ≡ false) where
  -- what the name means in these variables
  abbrev means : Variables → Option Object
  means V = object_named V id

  -- ---- names

  -- an old name is another one
  pub old-other : (name : NameId) → IsOld y.text.programs name → (name.0 == id.0) ≡ false
  old-other name old = by_test (name.0 == id.0) refl
    where
      by_test : (c : Bool) → (name.0 == id.0) ≡ c → c ≡ false
      by_test false e = refl
      by_test true e = absurd (true≢false (sym old ∙ ap y.text.programs.is_old (eqb-true name.0 id.0 e) ∙ fresh))

  pub named-behind : (o : Object) → IsOld y.text.programs o.name → (V : Variables) → object_named (o ∷ V) id ≡ object_named V id
  named-behind o old V = ap (λ c. cond c (Some o) (object_named V id)) (old-other o.name old)

  -- ---- where the task goes

  goes : (n : ℕ) (i : List ℤ) (w : List ℕ) (r q : PStmts) (p : Around) (o : List PFrame) (V : Variables) →
      means (vars_of (gone_to q (task_in y.text.programs.made n i w (control r p o V)))) ≡ means V
  goes n i w r q p o V = ap means (settled-vars o q p V)

  pushes : (n : ℕ) (i : List ℤ) (w : List ℕ) (r l q : PStmts) (a p : Around) (o : List PFrame) (V W : Variables) →
      means (vars_of (pushed l a W q (task_in y.text.programs.made n i w (control r p o V)))) ≡ means W
  pushes n i w r l q a p o V W = ap means (settled-vars (frame q p ∷ o) l a W)

  block-kept : (h : Option PStmts) (e : Raised) (o : List PFrame) (V : Variables) (c : Control) → means c.vars ≡ means V →
      means (block_with h e o V c).vars ≡ means V
  block-kept None e o V c is = is
  block-kept (Some l) e o V c is = refl

  raised-in-kept : (e : Raised) {p p' : Around} {o o' : List PFrame} {V V' : Variables} → Under y p o V p' o' V' → means (raised_in e o' p' V').vars ≡ means V'
  raised-in-kept e (on_floor f) = ap means (floor-raised e _ _ _ _ _ _ f)
  raised-in-kept e (in_block hs hs' r r' h im u) = block-kept (handler_for e hs') e _ _ _ (raised-in-kept e u)
  raised-in-kept e (in_handler x r r' im u) = raised-in-kept e u
  raised-in-kept e (in_endless name l l' r r' h im u) = raised-in-kept e u
  raised-in-kept e (in_while name x l l' r r' old h im u) = raised-in-kept e u
  raised-in-kept e (in_count {V' = V'} name backwards last l l' r r' b old known h im u) = raised-in-kept e u ∙ sym (named-behind b old V')

  -- an exception
  pub raises : (e : Raised) (n : ℕ) (i : List ℤ) (w : List ℕ) (r : PStmts) {p p' : Around} {o o' : List PFrame} {V V' : Variables} → Under y p o V p' o' V' →
      object_named (vars_of (raised_there e (task_in y.text.programs.made n i w (control r p' o' V')))) id ≡ object_named V' id
  raises e n i w r {p' = p'} {o' = o'} {V' = V'} u =
      let c : Control = raised_in e o' p' V' in ap means (settled-vars c.outer c.top.rest c.top.place c.vars) ∙ raised-in-kept e u

  -- an exit that leaves a loop, or goes on to one outside of it
  either-kept : (b : Bool) (c d : Control) (W : Variables) → means c.vars ≡ means W → means d.vars ≡ means W → means (if b then c else d).vars ≡ means W
  either-kept true c d W h k = h
  either-kept false c d W h k = k

  left-kept : (b : Bool) (c d : Control) (W : Variables) → means c.vars ≡ means W → b ≡ true → means (if b then c else d).vars ≡ means W
  left-kept true c d W h e = h
  left-kept false c d W h e = absurd (true≢false (sym e))

  exited-kept : (w : Option Word) {p p' : Around} {o o' : List PFrame} {V V' : Variables} → Under y p o V p' o' V' → LeavesLoop w p o →
      means (exited_in w o' p' V').vars ≡ means V'
  exited-kept w (on_floor f) at = absurd (shut.closed w _ _ _ _ _ _ f at)
  exited-kept w (in_block hs hs' r r' h im u) (leaves_from_block hs1 part parts at) = exited-kept w u at
  exited-kept w (in_handler x r r' im u) (leaves_from_handler e part parts at) = exited-kept w u at
  exited-kept w (in_endless {V' = V'} name l l' r r' h im u) (leaves_this name1 turns l1 part parts e) = left-kept (is_left w name) _ _ V' refl e
  exited-kept w (in_endless {V' = V'} name l l' r r' h im u) (leaves_outer name1 turns l1 part parts at) = either-kept (is_left w name) _ _ V' refl
      (exited-kept w u at)
  exited-kept w (in_while {V' = V'} name x l l' r r' old h im u) (leaves_this name1 turns l1 part parts e) = left-kept (is_left w name) _ _ V' refl e
  exited-kept w (in_while {V' = V'} name x l l' r r' old h im u) (leaves_outer name1 turns l1 part parts at) = either-kept (is_left w name) _ _ V' refl
      (exited-kept w u at)
  exited-kept w (in_count {V' = V'} name backwards last l l' r r' b old known h im u) (leaves_this name1 turns l1 part parts e) =
      left-kept (is_left w name) _ _ (b ∷ V') (sym (named-behind b old V')) e
  exited-kept w (in_count {V' = V'} name backwards last l l' r r' b old known h im u) (leaves_outer name1 turns l1 part parts at) =
      either-kept (is_left w name) _ _ (b ∷ V') (sym (named-behind b old V')) (exited-kept w u at ∙ sym (named-behind b old V'))

  -- ---- what comes out, or an exception

  module _ (t : Task) (V : Variables) (raise : (e : Raised) → means (vars_of (raised_there e t)) ≡ means V) where
    either : {A : Type 0} (f : A → Task) (r : Result A Raised) → ((a : A) → means (vars_of (f a)) ≡ means V) → means (vars_of (or_raised f t r)) ≡ means V
    either f (Ok a) h = h a
    either f (Err e) h = raise e

    either-then : {A B : Type 0} (f : B → Task) (r : Result A Raised) (g : A → Result B Raised) → ((a : A) → means (vars_of (or_raised f t (g a))) ≡ means V) →
        means (vars_of (or_raised f t (and_then r g))) ≡ means V
    either-then f (Ok a) g h = h a
    either-then f (Err e) g h = raise e

  branch-kept : (b : Bool) (σ τ : Task) (V : Variables) → means (vars_of σ) ≡ means V → means (vars_of τ) ≡ means V →
      means (vars_of (if b then σ else τ)) ≡ means V
  branch-kept true σ τ V h k = h
  branch-kept false σ τ V h k = k

  -- ---- statements

  module _ (n : ℕ) (i : List ℤ) (w : List ℕ) {p p' : Around} {o o' : List PFrame} {V V' : Variables} (u : Under y p o V p' o' V') where
    abbrev at : PStmts → Task
    at r = task_in y.text.programs.made n i w (control r p' o' V')

    stores : (i' : List ℤ) (r q : PStmts) (t : PTarget) → OldTarget y.text.programs t → (k : ℕ) (v : Value) →
        means (vars_of (or_raised (λ vars. gone_to q (with_vars (task_in y.text.programs.made n i' w (control r p' o' V')) vars))
        (task_in y.text.programs.made n i' w (control r p' o' V'))
        (steps.stored (at r) t k v))) ≡ means V'
    stores i' r q t old k v =
        either-then (task_in y.text.programs.made n i' w (control r p' o' V')) V' (λ e. raises e n i' w r u)
        (λ vars. gone_to q (with_vars (task_in y.text.programs.made n i' w (control r p' o' V')) vars)) (checked_for (steps.target_object (at r) t) v)
        (λ z. Ok (set_value V' t.name.name k z))
        (λ z. goes n i' w r q p' o' (set_value V' t.name.name k z) ∙ named-set_other V' t.name.name k z id (old-other t.name.name old.name))

    assigns : (r q : PStmts) (t : PTarget) (e : PExpr) → OldTarget y.text.programs t → means (vars_of (steps.assign_step t e q (at r))) ≡ means V'
    assigns r q t e old =
        either-then (at r) V' (λ x. raises x n i w r u) (λ vars. gone_to q (with_vars (at r) vars)) (steps.aim_of (at r) t)
        (λ k. and_then (value_of (at r) e) (λ v. steps.stored (at r) t k v))
        (λ k. either-then (at r) V' (λ x. raises x n i w r u) (λ vars. gone_to q (with_vars (at r) vars)) (value_of (at r) e) (λ v. steps.stored (at r) t k v)
        (λ v. stores i r q t old k v))

    gets : (r q : PStmts) (t : PTarget) → OldTarget y.text.programs t → (zs : List ℤ) (k : ℕ) → means (vars_of (steps.got t q (at r) k zs)) ≡ means V'
    gets r q t old [] k = raises raised.End n i w r u
    gets r q t old (z ∷ rest) k = stores rest r q t old k (Number z)

    puts : (r q : PStmts) (ps : List PPart) (closing : List ℕ) → means (vars_of (steps.put_step ps closing q (at r))) ≡ means V'
    puts r q ps closing = either (at r) V' (λ e. raises e n i w r u) _ _ (λ text. goes n i w r q p' o' V')

    exits : (r q : PStmts) (name : Option Word) (test : Option PExpr) → LeavesLoop name p o → means (vars_of (steps.exit_step name test q (at r))) ≡ means V'
    exits r q name test leaves = either (at r) V' (λ e. raises e n i w r u) _ _ by_test
      where
        by_test : (b : Bool) → means (vars_of (if b then steps.exited name (at r) else gone_to q (at r))) ≡ means V'
        by_test true = let c : Control = exited_in name o' p' V' in ap means (settled-vars c.outer c.top.rest c.top.place c.vars) ∙ exited-kept name u leaves
        by_test false = goes n i w r q p' o' V'

    loops : (r q l : PStmts) (name : Option Word) {c : Option PScheme} → OldScheme y.text.programs c →
        means (vars_of (steps.loop_step name c l q (at r))) ≡ means V'
    loops r q l name old_endless = pushes n i w r l q (Loop name Endless l) p' o' V' V'
    loops r q l name (old_while e h) =
        either (at r) V' (λ x. raises x n i w r u) _ _
        (λ b. branch-kept b (pushed l (Loop name (While e) l) V' q (at r)) (gone_to q (at r)) V' (pushes n i w r l q (Loop name (While e) l) p' o' V' V')
        (goes n i w r q p' o' V'))
    loops r q l name (old_for c backwards range old free h) =
        either (at r) V' (λ x. raises x n i w r u) _ (steps.counted_range (at r) range)
        (λ (z : Limits). branch-kept (is_empty_range z) (gone_to q (at r))
        (pushed l (Loop name (Counting backwards (if backwards then z.first else z.last)) l)
        (steps.loop_parameter (at r) c z.kind (if backwards then z.last else z.first) ∷ V') q (at r)) V'
        (goes n i w r q p' o' V')
        (pushes n i w r l q (Loop name (Counting backwards (if backwards then z.first else z.last)) l) p' o' V'
        (steps.loop_parameter (at r) c z.kind (if backwards then z.last else z.first) ∷ V')
        ∙ named-behind (steps.loop_parameter (at r) c z.kind (if backwards then z.last else z.first)) old V'))

    at-row : {s s' : PStmt} (q q' : PStmts) → ((name : Option Word) → IsExit name (stmt_then s q) → LeavesLoop name p o) → ImageStmt y.text s s' →
        means (vars_of (stepped (at (stmt_then s' q')))) ≡ means V'
    at-row q q' leaves (image_null s) = goes n i w (stmt_then (SNull s) q') q' p' o' V'
    at-row q q' leaves (image_assign t e s ht he) = assigns (stmt_then (SAssign t e s) q') q' t e ht
    at-row q q' leaves (image_delay d s) = goes n i w (stmt_then (SDelay d s) q') q' p' o' V'
    at-row q q' leaves (image_exit name test s h) = exits (stmt_then (SExit name test s) q') q' name test (leaves name (is_exit test s q))
    at-row q q' leaves (image_raise name s) = raises (steps.exception_meant name (at (stmt_then (SRaise name s) q'))) n i w (stmt_then (SRaise name s) q') u
    at-row q q' leaves (image_no_abort s) = goes n i w (stmt_then (SAbort [] s) q') q' p' o' V'
    at-row q q' leaves (image_put ps s h) = puts (stmt_then (SPut ps s) q') q' ps []
    at-row q q' leaves (image_put_line ps s h) = puts (stmt_then (SPutLine ps s) q') q' ps steps.line_end
    at-row q q' leaves (image_new_line s) = puts (stmt_then (SNewLine s) q') q' [] steps.line_end
    at-row q q' leaves (image_get t s h) =
        either (at (stmt_then (SGet t s) q')) V' (λ e. raises e n i w (stmt_then (SGet t s) q') u) _ (steps.aim_of (at (stmt_then (SGet t s) q')) t)
        (λ k. gets (stmt_then (SGet t s) q') q' t h i k)
    at-row q q' leaves (image_if arms arms' c d s h k) =
        either (at (stmt_then (SIf arms' d s) q')) V' (λ e. raises e n i w (stmt_then (SIf arms' d s) q') u) _
        (steps.arm_taken (at (stmt_then (SIf arms' d s) q')) arms' d)
        (λ branch. goes n i w (stmt_then (SIf arms' d s) q') (in_front (stmts_or_none branch) q') p' o' V')
    at-row q q' leaves (image_case e arms arms' c d s old h k) =
        either (at (stmt_then (SCase e arms' d s) q')) V' (λ x. raises x n i w (stmt_then (SCase e arms' d s) q') u) _
        (and_then (value_of (at (stmt_then (SCase e arms' d s) q')) e) (λ v. steps.case_taken (at (stmt_then (SCase e arms' d s) q')) v arms' d))
        (λ branch. goes n i w (stmt_then (SCase e arms' d s) q') (in_front (stmts_or_none branch) q') p' o' V')
    at-row q q' leaves (image_block l l' hs hs' s iml h) = pushes n i w (stmt_then (SBlock (body l' hs') s) q') l' q' (Block hs') p' o' V' V'
    at-row q q' leaves (image_loop name c l l' s h iml) = loops (stmt_then (SLoop name c l' s) q') q' l' name h

  -- ---- turns

  at-turn-end : (n : ℕ) (i : List ℤ) (w : List ℕ) {p p' : Around} {o o' : List PFrame} {V V' : Variables} → IsAtLocal no_stmt p → Under y p o V p' o' V' →
      means (vars_of (stepped (task_in y.text.programs.made n i w (control no_stmt p' o' V')))) ≡ means V'
  at-turn-end n i w (at_turn name turns l) (on_floor f) = absurd (laws.floors.apart name turns l _ _ _ _ _ f)
  at-turn-end n i w (at_turn name turns l) (in_endless {p' = p'} {o' = o'} {V' = V'} name1 l1 l1' r r' h im u) =
      goes n i w no_stmt l1' (Loop name1 Endless l1') (frame r' p' ∷ o') V'
  at-turn-end n i w (at_turn name turns l) (in_while {p' = p'} {o' = o'} {V' = V'} name1 e l1 l1' r r' old h im u) =
      either κ V' (λ x. raises x n i w no_stmt (in_while name1 e l1 l1' r r' old h im u)) _ _
      (λ b. branch-kept b (gone_to l1' κ) (steps.loop_left (While e) κ) V' (goes n i w no_stmt l1' (Loop name1 (While e) l1') (frame r' p' ∷ o') V')
      (ap means (settled-vars o' r' p' V')))
    where
      κ : Task
      κ = task_in y.text.programs.made n i w (control no_stmt (Loop name1 (While e) l1') (frame r' p' ∷ o') V')
  at-turn-end n i w (at_turn name turns l) (in_count {p' = p'} {o' = o'} {V' = V'} name1 backwards last l1 l1' r r' b old known h im u) =
      branch-kept (steps.has_turn backwards last (position_of (value_there b 0))) _ _ (b ∷ V')
      (ap means (settled-vars (frame r' p' ∷ o') l1' (Loop name1 (Counting backwards last) l1') (steps.counted_on κ backwards (b ∷ V'))) ∙ named-behind _ old V'
      ∙ sym (named-behind b old V'))
      (ap means (settled-vars o' r' p' V') ∙ sym (named-behind b old V'))
    where
      κ : Task
      κ = task_in y.text.programs.made n i w (control no_stmt (Loop name1 (Counting backwards last) l1') (frame r' p' ∷ o') (b ∷ V'))

  -- ---- each local step

  at-list : (n : ℕ) (i : List ℤ) (w : List ℕ) {p p' : Around} {o o' : List PFrame} {V V' : Variables} → Under y p o V p' o' V' → {s : PStmt} {q r' : PStmts} →
      ((name : Option Word) → IsExit name (stmt_then s q) → LeavesLoop name p o) → ImageList y.text s q r' →
      means (vars_of (stepped (task_in y.text.programs.made n i w (control r' p' o' V')))) ≡ means V'
  at-list n i w u leaves (image_list t t' rest rest' h im) = at-row n i w u rest rest' leaves h

  at-empty : (n : ℕ) (i : List ℤ) (w : List ℕ) {r' : PStmts} {p p' : Around} {o o' : List PFrame} {V V' : Variables} → IsAtLocal no_stmt p → IsEmpty r' →
      Under y p o V p' o' V' →
      means (vars_of (stepped (task_in y.text.programs.made n i w (control r' p' o' V')))) ≡ means V'
  at-empty n i w at nothing_there u = at-turn-end n i w at u

  -- at a statement that does not synchronize, or at the end of a loop's statements
  at-local : (n : ℕ) (i : List ℤ) (w : List ℕ) {r r' : PStmts} {p p' : Around} {o o' : List PFrame} {V V' : Variables} → IsAtLocal r p → y.text.image r r' →
      Under y p o V p' o' V' →
      ((name : Option Word) → IsExit name r → LeavesLoop name p o) → means
      (vars_of (stepped (task_in y.text.programs.made n i w (control r' p' o' V')))) ≡ means V'
  at-local n i w {r' = r'} (at_statement s q p loc) im u leaves = at-list n i w u leaves (laws.images.local s q r' loc im)
  at-local n i w {r' = r'} (at_turn name turns l) im u leaves = at-empty n i w (at_turn name turns l) (laws.images.nothing r' im) u

  pub steps-keep : (σ κ : Task) → AreInside y σ κ → IsAtLocal (rest_of σ) (place_of σ) → ExitsLoop σ →
      object_named (vars_of (stepped κ)) id ≡ object_named (vars_of κ) id
  steps-keep σ κ (are_inside n i w r r' im u) at stays = at-local n i w at im u stays

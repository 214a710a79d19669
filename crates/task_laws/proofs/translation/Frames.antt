-- Frames alike: ends, exceptions, exits, names and variables, down to a floor.
use Rattle.std.proofs.Common.{◌≡◌, ℕ, Bool, true, false, cond, ◌==◌, if◌then◌else◌, List, ◌∷◌, Option, Some, refl, sym, ap, ◌∙◌, true≢false}
use Rattle.std.proofs.lemmas.Bool.{eqb-true}
use Rattle.ada_tree.specs.declared.naming.NameId.{NameId}
use Rattle.ada_tree.specs.declared.naming.Word.{Word}
use Rattle.ada_tree.specs.PlainStmt.{PStmt, PStmts, no_stmt, stmt_then}
use Rattle.ada_value.specs.declared.values.Value.{Value}
use Rattle.ada_value.specs.declared.values.Raised.{Raised}
use Rattle.ada_value.specs.Variables.{Object, Variables, object_named, with_value, set_value}
use Rattle.task_model.specs.Frames.{Counting, Around, Loop, PFrame, Control, control, block_with, raised_in, is_left, exited_in}
use Rattle.task_laws.specs.translation.Translations.{Translation, IsOld, IsKnown}
use Rattle.task_laws.specs.translation.Scopes.{HasKnown, SameObject, same_object, SeeAlike}
use Rattle.task_laws.specs.translation.Images.{IsEmpty, nothing_there, IsSomething, something_there}
use Rattle.task_laws.specs.translation.Controls.{LeavesLoop, leaves_this, leaves_outer, leaves_from_block, leaves_from_handler, frame, Under, on_floor, in_block, in_handler, in_endless, in_while, in_count, inside, Settle}
use Rattle.task_laws.specs.translation.Floors.{handled_around, AreExits, AreClosed, IsTranslation}
use Rattle.task_laws.proofs.translation.Handlers.{Taken, not_taken, taken, handler-alike}
use Rattle.task_laws.proofs.translation.Evaluating.{known-with}

module _ (x : Translation) (laws : IsTranslation x) where
  -- ---- ends

  at_something : {p p' : Around} {o o' : List PFrame} {V V' : Variables} (s : PStmt) (l : PStmts) {r' : PStmts} → IsSomething r' → x.text.image (stmt_then s l) r' → Under x p o V p' o' V' →
      Settle x (control (stmt_then s l) p o V) (control r' p' o' V')
  at_something s l (something_there s' l') im u = record { follows = inside (stmt_then s l) (stmt_then s' l') im u }

  at_none : {p p' : Around} {o o' : List PFrame} {V V' : Variables} {r' : PStmts} → IsEmpty r' → Settle x (control no_stmt p o V) (control no_stmt p' o' V') →
      Settle x (control no_stmt p o V) (control r' p' o' V')
  at_none nothing_there end = end

  settle_by : {p p' : Around} {o o' : List PFrame} {V V' : Variables} (r r' : PStmts) → x.text.image r r' → Under x p o V p' o' V' → Settle x (control no_stmt p o V) (control no_stmt p' o' V') →
      Settle x (control r p o V) (control r' p' o' V')
  settle_by no_stmt r' im u end = at_none (laws.images.nothing r' im) end
  settle_by (stmt_then s l) r' im u end = at_something s l (laws.images.something s l r' im) im u

  -- the end of a frame's statements
  pub settle-end : {p p' : Around} {o o' : List PFrame} {V V' : Variables} → Under x p o V p' o' V' → Settle x (control no_stmt p o V) (control no_stmt p' o' V')
  settle-end (on_floor f) = laws.floors.over _ _ _ _ _ _ f
  settle-end (in_block hs hs' r r' h im u) = record { follows = (settle_by r r' im u (settle-end u)).follows }
  settle-end (in_handler e r r' im u) = record { follows = (settle_by r r' im u (settle-end u)).follows }
  settle-end (in_endless name l l' r r' h im u) = record { follows = inside no_stmt no_stmt laws.images.empty (in_endless name l l' r r' h im u) }
  settle-end (in_while name e l l' r r' old h im u) = record { follows = inside no_stmt no_stmt laws.images.empty (in_while name e l l' r r' old h im u) }
  settle-end (in_count name backwards last l l' r r' b old known h im u) =
      record { follows = inside no_stmt no_stmt laws.images.empty (in_count name backwards last l l' r r' b old known h im u) }

  -- statements in frames that go together
  pub settle : {p p' : Around} {o o' : List PFrame} {V V' : Variables} (r r' : PStmts) → x.text.image r r' → Under x p o V p' o' V' → Settle x (control r p o V) (control r' p' o' V')
  settle r r' im u = settle_by r r' im u (settle-end u)

  -- ---- exceptions

  block-alike : {p p' : Around} {o o' : List PFrame} {V V' : Variables} (e : Raised) (r r' : PStmts) {t t' : Option PStmts} {c d : Control} → Taken x.text t t' → x.text.image r r' →
      Under x p o V p' o' V' → Settle x c d → Settle x (block_with t e (frame r p ∷ o) V c) (block_with t' e (frame r' p' ∷ o') V' d)
  block-alike e r r' not_taken im u k = k
  block-alike e r r' (taken l l' h) im u k = settle l l' h (in_handler e r r' im u)

  pub raised-alike : (e : Raised) {p p' : Around} {o o' : List PFrame} {V V' : Variables} → Under x p o V p' o' V' → Settle x (raised_in e o p V) (raised_in e o' p' V')
  raised-alike e (on_floor f) = laws.floors.raised e _ _ _ _ _ _ f
  raised-alike e (in_block hs hs' r r' h im u) = block-alike e r r' (handler-alike x.text e h) im u (raised-alike e u)
  raised-alike e (in_handler y r r' im u) = raised-alike e u
  raised-alike e (in_endless name l l' r r' h im u) = raised-alike e u
  raised-alike e (in_while name y l l' r r' old h im u) = raised-alike e u
  raised-alike e (in_count name backwards last l l' r r' b old known h im u) = raised-alike e u

  -- ---- exits

  either-settles : (b : Bool) {c d c' d' : Control} → Settle x c c' → Settle x d d' → Settle x (if b then c else d) (if b then c' else d')
  either-settles true h k = h
  either-settles false h k = k

  pub exited-alike : AreExits x → (w : Option Word) {p p' : Around} {o o' : List PFrame} {V V' : Variables} → Under x p o V p' o' V' → Settle x (exited_in w o p V) (exited_in w o' p' V')
  exited-alike exits w (on_floor f) = exits.exited w _ _ _ _ _ _ f
  exited-alike exits w (in_block hs hs' r r' h im u) = exited-alike exits w u
  exited-alike exits w (in_handler y r r' im u) = exited-alike exits w u
  exited-alike exits w (in_endless name l l' r r' h im u) = either-settles (is_left w name) (settle r r' im u) (exited-alike exits w u)
  exited-alike exits w (in_while name y l l' r r' old h im u) = either-settles (is_left w name) (settle r r' im u) (exited-alike exits w u)
  exited-alike exits w (in_count name backwards last l l' r r' b old known h im u) = either-settles (is_left w name) (settle r r' im u) (exited-alike exits w u)

  -- an exit that leaves this loop, or goes on to one outside of it
  loop-settles : (b : Bool) {c c' : Control} (d d' : Control) → Settle x c c' → b ≡ true → Settle x (if b then c else d) (if b then c' else d')
  loop-settles true d d' h e = h
  loop-settles false d d' h e = absurd (true≢false (sym e))

  -- an exit that leaves a loop comes to no floor
  pub exited-inside : AreClosed x → (w : Option Word) {p p' : Around} {o o' : List PFrame} {V V' : Variables} → Under x p o V p' o' V' → LeavesLoop w p o → Settle x (exited_in w o p V) (exited_in w o' p' V')
  exited-inside shut w (on_floor f) at = absurd (shut.closed w _ _ _ _ _ _ f at)
  exited-inside shut w (in_block hs hs' r r' h im u) (leaves_from_block hs1 part parts at) = exited-inside shut w u at
  exited-inside shut w (in_handler y r r' im u) (leaves_from_handler e part parts at) = exited-inside shut w u at
  exited-inside shut w (in_endless name l l' r r' h im u) (leaves_this name1 turns l1 part parts e) = loop-settles (is_left w name) _ _ (settle r r' im u) e
  exited-inside shut w (in_endless name l l' r r' h im u) (leaves_outer name1 turns l1 part parts at) = either-settles (is_left w name) (settle r r' im u) (exited-inside shut w u at)
  exited-inside shut w (in_while name y l l' r r' old h im u) (leaves_this name1 turns l1 part parts e) = loop-settles (is_left w name) _ _ (settle r r' im u) e
  exited-inside shut w (in_while name y l l' r r' old h im u) (leaves_outer name1 turns l1 part parts at) = either-settles (is_left w name) (settle r r' im u) (exited-inside shut w u at)
  exited-inside shut w (in_count name backwards last l l' r r' b old known h im u) (leaves_this name1 turns l1 part parts e) = loop-settles (is_left w name) _ _ (settle r r' im u) e
  exited-inside shut w (in_count name backwards last l l' r r' b old known h im u) (leaves_outer name1 turns l1 part parts at) = either-settles (is_left w name) (settle r r' im u) (exited-inside shut w u at)

  -- ---- the innermost handler

  pub handled-alike : {p p' : Around} {o o' : List PFrame} {V V' : Variables} → Under x p o V p' o' V' → handled_around p o ≡ handled_around p' o'
  handled-alike (on_floor f) = laws.scopes.handled _ _ _ _ _ _ f
  handled-alike (in_block hs hs' r r' h im u) = handled-alike u
  handled-alike (in_handler y r r' im u) = refl
  handled-alike (in_endless name l l' r r' h im u) = handled-alike u
  handled-alike (in_while name y l l' r r' old h im u) = handled-alike u
  handled-alike (in_count name backwards last l l' r r' b old known h im u) = handled-alike u

  -- ---- variables

  in_front-sees : (b : Object) → HasKnown x.text.programs b → {V V' : Variables} → SeeAlike x.text.programs V V' → SeeAlike x.text.programs (b ∷ V) (b ∷ V')
  in_front-sees b known {V} {V'} see = record { named = λ id old. go id (b.name.0 == id.0) (see.named id old) }
    where
      go : (id : NameId) (t : Bool) → SameObject x.text.programs (object_named V id) (object_named V' id) → SameObject x.text.programs (cond t (Some b) (object_named V id)) (cond t (Some b) (object_named V' id))
      go id true h = same_object b known
      go id false h = h

  pub sees-alike : {p p' : Around} {o o' : List PFrame} {V V' : Variables} → Under x p o V p' o' V' → SeeAlike x.text.programs V V'
  sees-alike (on_floor f) = laws.scopes.sees _ _ _ _ _ _ f
  sees-alike (in_block hs hs' r r' h im u) = sees-alike u
  sees-alike (in_handler y r r' im u) = sees-alike u
  sees-alike (in_endless name l l' r r' h im u) = sees-alike u
  sees-alike (in_while name y l l' r r' old h im u) = sees-alike u
  sees-alike (in_count name backwards last l l' r r' b old known h im u) = in_front-sees b known (sees-alike u)

  -- the same value goes to an old name on both sides
  pub set-alike : (id : NameId) (k : ℕ) (v : Value) → IsOld x.text.programs id → IsKnown x.text.programs v → {p p' : Around} {o o' : List PFrame} {V V' : Variables} → Under x p o V p' o' V' →
      Under x p o (set_value V id k v) p' o' (set_value V' id k v)
  set-alike id k v old known (on_floor f) = on_floor (laws.scopes.set _ _ _ _ _ _ id k v old known f)
  set-alike id k v old known (in_block hs hs' r r' h im u) = in_block hs hs' r r' h im (set-alike id k v old known u)
  set-alike id k v old known (in_handler y r r' im u) = in_handler y r r' im (set-alike id k v old known u)
  set-alike id k v old known (in_endless name l l' r r' h im u) = in_endless name l l' r r' h im (set-alike id k v old known u)
  set-alike id k v old known (in_while name y l l' r r' w h im u) = in_while name y l l' r r' w h im (set-alike id k v old known u)
  set-alike id k v old known (in_count {p = p} {p' = p'} {o = o} {o' = o'} {V = V} {V' = V'} name backwards last l l' r r' b w given h im u) = go (b.name.0 == id.0) (set-alike id k v old known u)
    where
      go : (t : Bool) → Under x p o (set_value V id k v) p' o' (set_value V' id k v) →
          Under x (Loop name (Counting backwards last) l) (frame r p ∷ o) (if t then with_value b k v ∷ V else b ∷ set_value V id k v)
          (Loop name (Counting backwards last) l') (frame r' p' ∷ o') (if t then with_value b k v ∷ V' else b ∷ set_value V' id k v)
      go true ih = in_count name backwards last l l' r r' (with_value b k v) w (known-with x.text.programs laws.types b k v known given) h im u
      go false ih = in_count name backwards last l l' r r' b w given h im ih

  -- a value goes to an added name of the image
  pub add-alike : (id : NameId) (k : ℕ) (v : Value) → x.text.programs.is_old id.0 ≡ false → {p p' : Around} {o o' : List PFrame} {V V' : Variables} → Under x p o V p' o' V' →
      Under x p o V p' o' (set_value V' id k v)
  add-alike id k v new (on_floor f) = on_floor (laws.scopes.add _ _ _ _ _ _ id k v new f)
  add-alike id k v new (in_block hs hs' r r' h im u) = in_block hs hs' r r' h im (add-alike id k v new u)
  add-alike id k v new (in_handler y r r' im u) = in_handler y r r' im (add-alike id k v new u)
  add-alike id k v new (in_endless name l l' r r' h im u) = in_endless name l l' r r' h im (add-alike id k v new u)
  add-alike id k v new (in_while name y l l' r r' w h im u) = in_while name y l l' r r' w h im (add-alike id k v new u)
  add-alike id k v new (in_count {p = p} {p' = p'} {o = o} {o' = o'} {V = V} {V' = V'} name backwards last l l' r r' b w given h im u) = go (b.name.0 == id.0) refl (add-alike id k v new u)
    where
      go : (t : Bool) → (b.name.0 == id.0) ≡ t → Under x p o V p' o' (set_value V' id k v) →
          Under x (Loop name (Counting backwards last) l) (frame r p ∷ o) (b ∷ V)
          (Loop name (Counting backwards last) l') (frame r' p' ∷ o') (if t then with_value b k v ∷ V' else b ∷ set_value V' id k v)
      go true e ih = absurd (true≢false (sym w ∙ ap x.text.programs.is_old (eqb-true b.name.0 id.0 e) ∙ new))
      go false e ih = in_count name backwards last l l' r r' b w given h im ih

-- Two tasks that are alike are so after frames are left, entered or raised through.
use Rattle.std.proofs.Common.{◌≡◌, ℕ, ℤ, Bool, true, false, if◌then◌else◌, List, [], ◌∷◌, drop, Option, Some, None, refl, sym, ap, subst}
use Rattle.ada_tree.specs.declared.naming.Word.{Word}
use Rattle.ada_tree.specs.PlainStmt.{PStmts, no_stmt, stmt_then, PHandlers, no_handler, handler_then, handler}
use Rattle.ada_value.specs.declared.values.Raised.{Raised}
use Rattle.ada_value.specs.Variables.{Variables}
use Rattle.task_model.specs.Frames.{Around, OwnBody, Block, Handling, Loop, Opened, PFrame, Control, control, in_front, settled_in, settled, brought_by, is_for, handler_for, unit_with, block_with, raised_in, is_left, exited_in}
use Rattle.task_model.specs.Tasks.{Task, gone_to, raised_there, pushed}
use Rattle.task_laws.specs.translation.Controls.{task_in, frame}
use Rattle.collect_runs.specs.aborts.likeness.Likeness.{Ground, Goal, form, AreCells, Near, Always, Skipped, Passes, PassesOne, AreSafe, SafePlace, SafeOuter, LikeAt, IsLike, is_like}
use Rattle.collect_runs.proofs.aborts.likeness.Near.{near-drop}

module _ (x : Ground) where
  -- where both stand
  pub data LikeThere : Control → Control → Type 0 where
    like_there : (r : PStmts) (q : Around) (o : List PFrame) (V W : Variables) → LikeAt x r q o V W → LikeThere (control r q o V) (control r q o W)

  pub of-there : (i : List ℤ) (w : List ℕ) {c d : Control} → LikeThere c d → IsLike x (task_in (form x) x.number i w c) (task_in (form x) x.number i w d)
  of-there i w (like_there r q o V W h) = is_like i w r q o V W h

  -- a row in front of another is gone through first
  pub joined : (a b : PStmts) (K : Goal) (V W : Variables) → Passes x a (Passes x b K) V W → Passes x (in_front a b) K V W
  joined a b K V W h = subst (λ (P : Goal). P V W) (sym (joined-is a)) h
    where
      joined-is : (a : PStmts) → Passes x (in_front a b) K ≡ Passes x a (Passes x b K)
      joined-is no_stmt = refl
      joined-is (stmt_then s more) = ap {B = Goal} (λ (P : Goal) V W. (AreCells x V → PassesOne x s P V W) × Skipped x P) (joined-is more)

  pub at-settled : (o : List PFrame) (r : PStmts) (q : Around) (V W : Variables) → LikeAt x r q o V W → LikeThere (settled_in o r q V) (settled_in o r q W)
  at-settled o (stmt_then s r) q V W h = like_there _ _ _ _ _ h
  at-settled [] no_stmt q V W h = like_there _ _ _ _ _ h
  at-settled (part ∷ parts) no_stmt (Block handlers) V W h =
      at-settled parts part.rest part.place V W (record { near = h.near; passes = h.outside.0 V W h.near; inside = h.outside.1.0; outside = h.outside.1.1 })
  at-settled (part ∷ parts) no_stmt (Handling e) V W h =
      at-settled parts part.rest part.place V W (record { near = h.near; passes = h.outside.0 V W h.near; inside = h.outside.1.0; outside = h.outside.1.1 })
  at-settled (part ∷ parts) no_stmt (OwnBody handlers taken) V W h = like_there _ _ _ _ _ h
  at-settled (part ∷ parts) no_stmt (Loop name turns stmts) V W h = like_there _ _ _ _ _ h
  at-settled (part ∷ parts) no_stmt (Opened caller formals pending) V W h = like_there _ _ _ _ _ h

  pub settles : {c d : Control} → LikeThere c d → LikeThere (settled c) (settled d)
  settles (like_there r q o V W h) = at-settled o r q V W h

  -- ---- exceptions

  abbrev SafeOption : Option PStmts → Type 0
  SafeOption None = Unit {0}
  SafeOption (Some stmts) = Always x (Passes x stmts (Near x))

  of-handler : (e : Raised) (handlers : PHandlers) → AreSafe x handlers → SafeOption (handler_for e handlers)
  of-handler e no_handler h = tt
  of-handler e (handler_then (handler names stmts s) rest) h = by_test (is_for e names) (of-handler e rest h.1)
    where
      by_test : (b : Bool) → SafeOption (handler_for e rest) → SafeOption (if b then Some stmts else handler_for e rest)
      by_test true later = h.0
      by_test false later = later

  in-unit : (f : Option PStmts) (e : Raised) (handlers : PHandlers) (o : List PFrame) (V W : Variables) → SafeOption f → AreSafe x handlers → SafeOuter x o → Near x V W →
      LikeThere (unit_with f e handlers o V) (unit_with f e handlers o W)
  in-unit None e handlers o V W i p s h = like_there _ _ _ _ _ (record { near = h; passes = h; inside = p; outside = s })
  in-unit (Some stmts) e handlers o V W i p s h = like_there _ _ _ _ _ (record { near = h; passes = i V W h; inside = p; outside = s })

  in-block : (f : Option PStmts) (e : Raised) (o : List PFrame) (V W : Variables) (c d : Control) → SafeOption f → SafeOuter x o → Near x V W → LikeThere c d →
      LikeThere (block_with f e o V c) (block_with f e o W d)
  in-block None e o V W c d i s h k = k
  in-block (Some stmts) e o V W c d i s h k = like_there _ _ _ _ _ (record { near = h; passes = i V W h; inside = tt; outside = s })

  pub at-raised : (e : Raised) (o : List PFrame) (q : Around) (V W : Variables) → Near x V W → SafePlace x q → SafeOuter x o → LikeThere (raised_in e o q V) (raised_in e o q W)
  at-raised e o (OwnBody handlers None) V W h p s = in-unit (handler_for e handlers) e handlers o V W (of-handler e handlers p) p s h
  at-raised e o (OwnBody handlers (Some y)) V W h p s = like_there _ _ _ _ _ (record { near = h; passes = h; inside = p; outside = s })
  at-raised e o (Opened caller formals pending) V W h p s = like_there _ _ _ _ _ (record { near = h; passes = h; inside = tt; outside = s })
  at-raised e [] (Block handlers) V W h p s = like_there _ _ _ _ _ (record { near = h; passes = h; inside = p; outside = s })
  at-raised e [] (Handling y) V W h p s = like_there _ _ _ _ _ (record { near = h; passes = h; inside = p; outside = s })
  at-raised e [] (Loop name turns stmts) V W h p s = like_there _ _ _ _ _ (record { near = h; passes = h; inside = p; outside = s })
  at-raised e (part ∷ parts) (Block handlers) V W h p s =
      in-block (handler_for e handlers) e (part ∷ parts) V W (raised_in e parts part.place V) (raised_in e parts part.place W) (of-handler e handlers p) s h (at-raised e parts part.place V W h s.1.0 s.1.1)
  at-raised e (part ∷ parts) (Handling y) V W h p s = at-raised e parts part.place V W h s.1.0 s.1.1
  at-raised e (part ∷ parts) (Loop name turns stmts) V W h p s =
      at-raised e parts part.place (drop (brought_by turns) V) (drop (brought_by turns) W) (near-drop x (brought_by turns) V W h) s.1.0 s.1.1

  -- ---- exits

  either-there : (b : Bool) {c d c' d' : Control} → LikeThere c d → LikeThere c' d' → LikeThere (if b then c else c') (if b then d else d')
  either-there true h k = h
  either-there false h k = k

  stays-there : (o : List PFrame) (q : Around) (V W : Variables) → Near x V W → SafePlace x q → SafeOuter x o → LikeThere (control no_stmt q o V) (control no_stmt q o W)
  stays-there o q V W h p s = like_there _ _ _ _ _ (record { near = h; passes = h; inside = p; outside = s })

  pub at-exited : (w : Option Word) (o : List PFrame) (q : Around) (V W : Variables) → Near x V W → SafePlace x q → SafeOuter x o → LikeThere (exited_in w o q V) (exited_in w o q W)
  at-exited w [] (OwnBody handlers taken) V W h p s = stays-there [] (OwnBody handlers taken) V W h p s
  at-exited w [] (Opened caller formals pending) V W h p s = stays-there [] (Opened caller formals pending) V W h p s
  at-exited w [] (Block handlers) V W h p s = stays-there [] (Block handlers) V W h p s
  at-exited w [] (Handling e) V W h p s = stays-there [] (Handling e) V W h p s
  at-exited w [] (Loop name turns stmts) V W h p s = stays-there [] (Loop name turns stmts) V W h p s
  at-exited w (part ∷ parts) (Block handlers) V W h p s = at-exited w parts part.place V W h s.1.0 s.1.1
  at-exited w (part ∷ parts) (Handling e) V W h p s = at-exited w parts part.place V W h s.1.0 s.1.1
  at-exited w (part ∷ parts) (Loop name turns stmts) V W h p s =
      let k = near-drop x (brought_by turns) V W h in
      either-there (is_left w name)
      (like_there _ _ _ _ _ (record { near = k; passes = s.0 (drop (brought_by turns) V) (drop (brought_by turns) W) k; inside = s.1.0; outside = s.1.1 }))
      (at-exited w parts part.place (drop (brought_by turns) V) (drop (brought_by turns) W) k s.1.0 s.1.1)
  at-exited w (part ∷ parts) (OwnBody handlers taken) V W h p s = stays-there (part ∷ parts) (OwnBody handlers taken) V W h p s
  at-exited w (part ∷ parts) (Opened caller formals pending) V W h p s = stays-there (part ∷ parts) (Opened caller formals pending) V W h p s

  -- ---- tasks

  -- the two tasks with these variables
  module _ (i : List ℤ) (w : List ℕ) (r : PStmts) (q : Around) (o : List PFrame) where
    abbrev pub placed : Variables → Task
    placed V = task_in (form x) x.number i w (control r q o V)

    pub goes : (l : PStmts) (V W : Variables) → Near x V W → Passes x l (Near x) V W → SafePlace x q → SafeOuter x o → IsLike x (gone_to l (placed V)) (gone_to l (placed W))
    goes l V W h k p s = of-there i w (at-settled o l q V W (record { near = h; passes = k; inside = p; outside = s }))

    pub goes-raised : (e : Raised) (V W : Variables) → Near x V W → SafePlace x q → SafeOuter x o → IsLike x (raised_there e (placed V)) (raised_there e (placed W))
    goes-raised e V W h p s = of-there i w (settles (at-raised e o q V W h p s))

    pub goes-pushed : (l : PStmts) (q' : Around) (behind : PStmts) (V W V' W' : Variables) → Near x V' W' → Passes x l (Near x) V' W' → SafePlace x q' → Always x (Passes x behind (Near x)) → SafePlace x q → SafeOuter x o →
        IsLike x (pushed l q' V' behind (placed V)) (pushed l q' W' behind (placed W))
    goes-pushed l q' behind V W V' W' h k p' b p s =
        of-there i w (at-settled (frame behind q ∷ o) l q' V' W' (record { near = h; passes = k; inside = p'; outside = (b, (p, s)) }))

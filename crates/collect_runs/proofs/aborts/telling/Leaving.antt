-- Frames that are left, as their statements are over or an exception is raised: who is served then.
use Rattle.std.proofs.Common.{◌≡◌, ℕ, ℤ, List, [], ◌∷◌, ◌++◌, Option, Some, None, refl, ◌∙◌}
use Rattle.ada_tree.specs.PlainStmt.{PStmts, no_stmt, stmt_then, PHandlers}
use Rattle.ada_value.specs.declared.values.Raised.{Raised}
use Rattle.ada_value.specs.Variables.{Variables}
use Rattle.task_model.specs.declared.parameters.FormalParameter.{FormalParameter}
use Rattle.task_model.specs.Setting.{Setting}
use Rattle.task_model.specs.Frames.{Around, OwnBody, Block, Handling, Loop, Opened, PFrame, Control, control, settled, settled_in, handler_for, unit_with, block_with, raised_in, caller_at, callers_among, callers_in}
use Rattle.task_model.specs.Rendezvous.{finished}
use Rattle.task_laws.specs.translation.Controls.{frame, task_in}
use Rattle.collect_runs.proofs.telling.Ending.{callers_of}

pub settled-callers : (o : List PFrame) (r : PStmts) (q : Around) (V : Variables) → callers_in (settled_in o r q V) ≡ caller_at q ++ callers_among o
settled-callers o (stmt_then s r) q V = refl
settled-callers [] no_stmt q V = refl
settled-callers (part ∷ parts) no_stmt (Block hs) V = settled-callers parts part.rest part.place V
settled-callers (part ∷ parts) no_stmt (Handling x) V = settled-callers parts part.rest part.place V
settled-callers (part ∷ parts) no_stmt (OwnBody hs taken) V = refl
settled-callers (part ∷ parts) no_stmt (Loop name turns l) V = refl
settled-callers (part ∷ parts) no_stmt (Opened caller formals pending) V = refl

unit-callers : (t : Option PStmts) (e : Raised) (hs : PHandlers) (o : List PFrame) (V : Variables) → callers_in (unit_with t e hs o V) ≡ callers_among o
unit-callers None e hs o V = refl
unit-callers (Some l) e hs o V = refl

block-callers : (t : Option PStmts) (e : Raised) (o : List PFrame) (V : Variables) (c : Control) → callers_in c ≡ callers_among o → callers_in (block_with t e o V c) ≡ callers_among o
block-callers None e o V c h = h
block-callers (Some l) e o V c h = refl

raised-callers : (e : Raised) (o : List PFrame) (q : Around) (V : Variables) → callers_in (raised_in e o q V) ≡ callers_of q o
raised-callers e o (OwnBody hs None) V = unit-callers (handler_for e hs) e hs o V
raised-callers e o (OwnBody hs (Some y)) V = refl
raised-callers e o (Opened c fs pending) V = refl
raised-callers e [] (Block hs) V = refl
raised-callers e [] (Handling y) V = refl
raised-callers e [] (Loop name turns l) V = refl
raised-callers e (part ∷ parts) (Block hs) V = block-callers (handler_for e hs) e (part ∷ parts) V (raised_in e parts part.place V) (raised-callers e parts part.place V)
raised-callers e (part ∷ parts) (Handling y) V = raised-callers e parts part.place V
raised-callers e (part ∷ parts) (Loop name turns l) V = raised-callers e parts part.place _

-- Behind its rendezvous an acceptor serves the callers whose accept bodies stand around.
pub finished-callers : (g : Setting) (n : ℕ) (i : List ℤ) (w : List ℕ) (row rest : PStmts) (q : Around) (o : List PFrame) (c : ℕ) (fs : List FormalParameter)
    (pending : Option Raised) (V : Variables) →
    callers_in (finished (task_in g n i w (control rest (Opened c fs pending) (frame row q ∷ o) V))).control ≡ callers_of q o
finished-callers g n i w row rest q o c fs None V = settled-callers o row q _
finished-callers g n i w row rest q o c fs (Some e) V = go (raised_in e o q _) (raised-callers e o q _)
  where
    go : (d : Control) → callers_in d ≡ callers_of q o → callers_in (settled d) ≡ callers_of q o
    go d h = settled-callers d.outer d.top.rest d.top.place d.vars ∙ h

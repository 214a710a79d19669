-- The handler of an exception and its image.
use Rattle.std.proofs.Common.{Bool, true, false, if◌then◌else◌, Option, Some, None}
use Rattle.ada_tree.specs.PlainStmt.{PStmts, PHandlers}
use Rattle.ada_value.specs.declared.values.Raised.{Raised}
use Rattle.task_model.specs.Frames.{handler_for, is_for}
use Rattle.task_laws.specs.translation.Translations.{Rewriting}
use Rattle.task_laws.specs.translation.Images.{ImageHandlers, image_no_handler, image_handler}

-- statements that are taken on both sides, or none
pub data Taken (x : Rewriting) : Option PStmts → Option PStmts → Type 0 where
  not_taken : Taken x None None
  taken : (l l' : PStmts) → x.image l l' → Taken x (Some l) (Some l')

pub handler-alike : (x : Rewriting) (e : Raised) {hs hs' : PHandlers} → ImageHandlers x hs hs' → Taken x (handler_for e hs) (handler_for e hs')
handler-alike x e image_no_handler = not_taken
handler-alike x e (image_handler ws l l' s s' rest rest' im h) = go (is_for e ws) (handler-alike x e h)
  where
    go : (b : Bool) → Taken x (handler_for e rest) (handler_for e rest') → Taken x (if b then Some l else handler_for e rest) (if b then Some l' else handler_for e rest')
    go true t = taken l l' im
    go false t = t

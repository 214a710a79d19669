-- Translations of the same rows whose floors, and whose places beyond, lie one in the other: what stands on the one stands on the other.
use Rattle.std.proofs.Common.{List}
use Rattle.ada_value.specs.Variables.{Variables}
use Rattle.task_model.specs.Frames.{Around, PFrame, Control}
use Rattle.task_laws.specs.translation.Translations.{Standing, Rewriting, Translation}
use Rattle.task_laws.specs.translation.Controls.{Under, on_floor, in_block, in_handler, in_endless, in_while, in_count, Follows, inside, behind, Settle}

-- the translation of these rows with these floors
abbrev pub floored : Rewriting → Standing → (Control → Control → Type 0) → Translation
floored t F B = record { text = t; floor = F; beyond = B }

module _ (t : Rewriting) (F G : Standing) (B C : Control → Control → Type 0) (lies : (p p' : Around) (o o' : List PFrame) (V V' : Variables) → F p o V p' o' V' → G p o V p' o' V') (also : (c d : Control) → B c d → C c d) where
  pub under-map : {p p' : Around} {o o' : List PFrame} {V V' : Variables} → Under (floored t F B) p o V p' o' V' → Under (floored t G C) p o V p' o' V'
  under-map (on_floor f) = on_floor (lies _ _ _ _ _ _ f)
  under-map (in_block hs hs' r r' h im u) = in_block hs hs' r r' h im (under-map u)
  under-map (in_handler e r r' im u) = in_handler e r r' im (under-map u)
  under-map (in_endless name l l' r r' h im u) = in_endless name l l' r r' h im (under-map u)
  under-map (in_while name e l l' r r' old h im u) = in_while name e l l' r r' old h im (under-map u)
  under-map (in_count name backwards last l l' r r' b old known h im u) = in_count name backwards last l l' r r' b old known h im (under-map u)

  follows-map : {c d : Control} → Follows (floored t F B) c d → Follows (floored t G C) c d
  follows-map (inside r r' im u) = inside r r' im (under-map u)
  follows-map (behind c d h) = behind c d (also c d h)

  pub settle-map : {c d : Control} → Settle (floored t F B) c d → Settle (floored t G C) c d
  settle-map h = record { follows = follows-map h.follows }

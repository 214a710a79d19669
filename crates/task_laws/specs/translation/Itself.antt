-- The plainest translation: the program is made from itself, and each row of statements is its own image (this project's rule). By it the demands on
-- a translation are met.
use Rattle.std.specs.Prelude.{ℕ, true, false, List, Option}
use Rattle.ada_tree.specs.PlainStmt.{PStmts, PHandlers}
use Rattle.ada_value.specs.declared.values.Raised.{Raised}
use Rattle.ada_value.specs.Variables.{Variables}
use Rattle.task_model.specs.declared.parameters.FormalParameter.{FormalParameter}
use Rattle.task_model.specs.Setting.{Setting}
use Rattle.task_model.specs.Frames.{Around, OwnBody, Opened, PFrame, Control}
use Rattle.task_laws.specs.translation.Translations.{Translation}

-- a row is its own image
pub data SameList : PStmts → PStmts → Type 0 where
  same_list : (r : PStmts) → SameList r r

-- the unit's own body and each accept body is a floor, with all that stands outside of it
pub data SameFloor : Around → List PFrame → Variables → Around → List PFrame → Variables → Type 0 where
  same_whole : (hs : PHandlers) (taken : Option Raised) (o : List PFrame) (V : Variables) → SameFloor (OwnBody hs taken) o V (OwnBody hs taken) o V
  same_opened : (caller : ℕ) (formals : List FormalParameter) (pending : Option Raised) (o : List PFrame) (V : Variables) →
      SameFloor (Opened caller formals pending) o V (Opened caller formals pending) o V

-- nothing stands beyond a floor
pub data Nowhere : Control → Control → Type 0 where

-- The translation of a program into itself.
abbrev pub itself : Setting → Translation
itself g = record {
  text = record { programs = record { original = g; made = g; is_old = λ id. true; is_fixed = λ id. false; is_known = λ k. true }; image = SameList };
  floor = SameFloor;
  beyond = Nowhere;
}

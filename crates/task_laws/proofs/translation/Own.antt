-- Each program is a translation of itself.
use Rattle.std.proofs.Common.{◌≡◌, ℕ, ℤ, List, [], ◌∷◌, Option, Some, None, refl, true≢false}
use Rattle.ada_tree.specs.declared.naming.NameId.{NameId}
use Rattle.ada_tree.specs.declared.naming.Word.{Word}
use Rattle.ada_tree.specs.PlainExpr.{PExpr, EInteger, EName, EIndex, EAttribute, EAttributeOf, EParen, EUnary, EBinary, PBounds, PDrange, RGiven, RMarked}
use Rattle.ada_tree.specs.PlainStmt.{PTarget, PPart, PWords, PValue, PChoice, PScheme, LWhile, LFor, PStmt, PStmts, no_stmt, stmt_then, PMaybe, absent, present, PArms, no_arm, arm_then, arm, PCaseArms, no_case_arm, case_arm_then, case_arm, body, PHandlers, no_handler, handler_then, handler}
use Rattle.ada_value.specs.declared.values.Value.{Value}
use Rattle.ada_value.specs.declared.values.Raised.{Raised}
use Rattle.ada_value.specs.Variables.{Object, Variables, object_named, set_value}
use Rattle.task_model.specs.Setting.{Setting}
use Rattle.task_model.specs.Frames.{Turns, Around, Loop, PFrame, control, in_front, handler_for, unit_with, raised_in, exited_in}
use Rattle.task_model.specs.Starting.{Unit as TaskUnit, started_in, unit_of}
use Rattle.task_laws.specs.translation.OldNames.{OldExpr, old_integer, old_name, old_index, old_attribute, old_attribute_of, old_paren, old_unary, old_binary, OldOption, old_none, old_some, OldBounds, old_unbounded, old_bounded, OldRange, old_given, old_marked, OldTarget, OldParts, old_no_part, old_words, old_value, OldChoices, old_no_choice, old_choice, OldScheme, old_endless, old_while, old_for}
use Rattle.task_laws.specs.translation.Scopes.{AgreeOnTypes, SameObject, no_object, same_object, SeeAlike}
use Rattle.task_laws.specs.translation.Images.{ImageMaybe, image_absent, image_present, ImageArms, image_no_arm, image_arm, ImageCaseArms, image_no_case_arm, image_case_arm, ImageHandlers, image_no_handler, image_handler, ImageStmt, image_null, image_assign, image_delay, image_exit, image_raise, image_no_abort, image_put, image_put_line, image_new_line, image_get, image_if, image_case, image_block, image_loop, ImageList, image_list, IsLocal, local_null, local_assign, local_delay, local_exit, local_raise, local_no_abort, local_put, local_put_line, local_new_line, local_get, local_if, local_case, local_block, local_loop, IsEmpty, nothing_there, IsSomething, something_there, AreImages}
use Rattle.task_laws.specs.translation.Controls.{on_floor, inside, Settle, LeavesLoop, AreInside, are_inside}
use Rattle.task_laws.specs.translation.Floors.{handled_around, AreScopes, AreFloors, AreExits, AreClosed}
use Rattle.task_laws.specs.translation.Itself.{SameList, same_list, SameFloor, same_whole, same_opened, itself}
use Rattle.task_laws.specs.translation.Laws.{MetByItself}

module _ (g : Setting) where
  -- ---- every name is old

  own-expr : (e : PExpr) → OldExpr (itself g).text.programs e
  own-expr (EInteger n s) = old_integer n s
  own-expr (EName id s) = old_name id s refl
  own-expr (EIndex w e s) = old_index w e s refl (own-expr e)
  own-expr (EAttribute m w s) = old_attribute m w s refl
  own-expr (EAttributeOf m w e s) = old_attribute_of m w e s refl (own-expr e)
  own-expr (EParen e s) = old_paren e s (own-expr e)
  own-expr (EUnary op e s) = old_unary op e s (own-expr e)
  own-expr (EBinary op l r s) = old_binary op l r s (own-expr l) (own-expr r)

  own-option : (o : Option PExpr) → OldOption (itself g).text.programs o
  own-option None = old_none
  own-option (Some e) = old_some e (own-expr e)

  own-bounds : (b : Option PBounds) → OldBounds (itself g).text.programs b
  own-bounds None = old_unbounded
  own-bounds (Some b) = old_bounded b (own-expr b.first) (own-expr b.last)

  own-range : (r : PDrange) → OldRange (itself g).text.programs r
  own-range (RGiven b) = old_given b (own-expr b.first) (own-expr b.last)
  own-range (RMarked m) = old_marked m refl refl (own-bounds m.bounds)

  own-target : (t : PTarget) → OldTarget (itself g).text.programs t
  own-target t = record { name = refl; index = own-option t.index }

  own-parts : (ps : List PPart) → OldParts (itself g).text.programs ps
  own-parts [] = old_no_part
  own-parts (PWords text s ∷ rest) = old_words text s rest (own-parts rest)
  own-parts (PValue e ∷ rest) = old_value e rest (own-expr e) (own-parts rest)

  own-choices : (cs : List PChoice) → OldChoices (itself g).text.programs cs
  own-choices [] = old_no_choice
  own-choices (c ∷ rest) = old_choice c rest (own-expr c.first) (own-option c.last) (own-choices rest)

  own-scheme : (c : Option PScheme) → OldScheme (itself g).text.programs c
  own-scheme None = old_endless
  own-scheme (Some (LWhile e)) = old_while e (own-expr e)
  own-scheme (Some (LFor w backwards range)) = old_for w backwards range refl refl (own-range range)

  -- ---- images

  own-maybe : (o : PMaybe) → ImageMaybe (itself g).text o o
  own-maybe absent = image_absent
  own-maybe (present l) = image_present l l (same_list l)

  own-arms : (a : PArms) → ImageArms (itself g).text a a
  own-arms no_arm = image_no_arm
  own-arms (arm_then (arm e l) rest) = image_arm e l l rest rest (own-expr e) (same_list l) (own-arms rest)

  own-case_arms : (a : PCaseArms) → ImageCaseArms (itself g).text a a
  own-case_arms no_case_arm = image_no_case_arm
  own-case_arms (case_arm_then (case_arm cs l) rest) = image_case_arm cs l l rest rest (own-choices cs) (same_list l) (own-case_arms rest)

  own-handlers : (hs : PHandlers) → ImageHandlers (itself g).text hs hs
  own-handlers no_handler = image_no_handler
  own-handlers (handler_then (handler ws l s) rest) = image_handler ws l l s s rest rest (same_list l) (own-handlers rest)

  own-stmt : {s : PStmt} → IsLocal s → ImageStmt (itself g).text s s
  own-stmt (local_null s) = image_null s
  own-stmt (local_assign t e s) = image_assign t e s (own-target t) (own-expr e)
  own-stmt (local_delay d s) = image_delay d s
  own-stmt (local_exit w test s) = image_exit w test s (own-option test)
  own-stmt (local_raise w s) = image_raise w s
  own-stmt (local_no_abort s) = image_no_abort s
  own-stmt (local_put ps s) = image_put ps s (own-parts ps)
  own-stmt (local_put_line ps s) = image_put_line ps s (own-parts ps)
  own-stmt (local_new_line s) = image_new_line s
  own-stmt (local_get t s) = image_get t s (own-target t)
  own-stmt (local_if arms o s) = image_if arms arms o o s (own-arms arms) (own-maybe o)
  own-stmt (local_case e arms o s) = image_case e arms arms o o s (own-expr e) (own-case_arms arms) (own-maybe o)
  own-stmt (local_block (body l hs) s) = image_block l l hs hs s (same_list l) (own-handlers hs)
  own-stmt (local_loop w c l s) = image_loop w c l l s (own-scheme c) (same_list l)

  own-nothing : {r : PStmts} → SameList no_stmt r → IsEmpty r
  own-nothing (same_list t) = nothing_there

  own-something : {s : PStmt} {rest r : PStmts} → SameList (stmt_then s rest) r → IsSomething r
  own-something {s} {rest} (same_list t) = something_there s rest

  own-local : {s : PStmt} {rest r : PStmts} → IsLocal s → SameList (stmt_then s rest) r → ImageList (itself g).text s rest r
  own-local {s} {rest} h (same_list t) = image_list s s rest rest (own-stmt h) (same_list rest)

  own-joined : {a a' b b' : PStmts} → SameList a a' → SameList b b' → SameList (in_front a b) (in_front a' b')
  own-joined (same_list a) (same_list b) = same_list (in_front a b)

  own-images : AreImages (itself g).text
  own-images = record {
    empty = same_list no_stmt;
    nothing = λ r h. own-nothing h;
    something = λ s rest r h. own-something h;
    local = λ s rest r h k. own-local h k;
    joined = λ a a' b b' h k. own-joined h k;
  }

  -- ---- floors

  own-over : {p p' : Around} {o o' : List PFrame} {V V' : Variables} → SameFloor p o V p' o' V' → Settle (itself g) (control no_stmt p o V) (control no_stmt p' o' V')
  own-over (same_whole hs taken [] V) = record { follows = inside no_stmt no_stmt (same_list no_stmt) (on_floor (same_whole hs taken [] V)) }
  own-over (same_whole hs taken (part ∷ parts) V) = record { follows = inside no_stmt no_stmt (same_list no_stmt) (on_floor (same_whole hs taken (part ∷ parts) V)) }
  own-over (same_opened caller formals pending [] V) = record { follows = inside no_stmt no_stmt (same_list no_stmt) (on_floor (same_opened caller formals pending [] V)) }
  own-over (same_opened caller formals pending (part ∷ parts) V) =
      record { follows = inside no_stmt no_stmt (same_list no_stmt) (on_floor (same_opened caller formals pending (part ∷ parts) V)) }

  own-settles : (r : PStmts) {p p' : Around} {o o' : List PFrame} {V V' : Variables} → SameFloor p o V p' o' V' → Settle (itself g) (control r p o V) (control r p' o' V')
  own-settles no_stmt f = own-over f
  own-settles (stmt_then s rest) f = record { follows = inside (stmt_then s rest) (stmt_then s rest) (same_list (stmt_then s rest)) (on_floor f) }

  own-handled : (t : Option PStmts) (e : Raised) (hs : PHandlers) (o : List PFrame) (V : Variables) → Settle (itself g) (unit_with t e hs o V) (unit_with t e hs o V)
  own-handled None e hs o V = own-settles no_stmt (same_whole hs None o V)
  own-handled (Some l) e hs o V = own-settles l (same_whole hs (Some e) o V)

  own-raised : (e : Raised) {p p' : Around} {o o' : List PFrame} {V V' : Variables} → SameFloor p o V p' o' V' → Settle (itself g) (raised_in e o p V) (raised_in e o' p' V')
  own-raised e (same_whole hs None o V) = own-handled (handler_for e hs) e hs o V
  own-raised e (same_whole hs (Some y) o V) = own-settles no_stmt (same_whole hs (Some y) o V)
  own-raised e (same_opened caller formals pending o V) = own-settles no_stmt (same_opened caller formals (Some e) o V)

  own-exited : (w : Option Word) {p p' : Around} {o o' : List PFrame} {V V' : Variables} → SameFloor p o V p' o' V' → Settle (itself g) (exited_in w o p V) (exited_in w o' p' V')
  own-exited w (same_whole hs taken [] V) = own-settles no_stmt (same_whole hs taken [] V)
  own-exited w (same_whole hs taken (part ∷ parts) V) = own-settles no_stmt (same_whole hs taken (part ∷ parts) V)
  own-exited w (same_opened caller formals pending [] V) = own-settles no_stmt (same_opened caller formals pending [] V)
  own-exited w (same_opened caller formals pending (part ∷ parts) V) = own-settles no_stmt (same_opened caller formals pending (part ∷ parts) V)

  own-apart : {name : Option Word} {turns : Turns} {l : PStmts} {p' : Around} {o o' : List PFrame} {V V' : Variables} → SameFloor (Loop name turns l) o V p' o' V' → ⊥
  own-apart f = elim f [ ]

  own-floors : AreFloors (itself g)
  own-floors = record {
    apart = λ name turns l p' o o' V V' f. own-apart f;
    over = λ p p' o o' V V' f. own-over f;
    raised = λ e p p' o o' V V' f. own-raised e f;
  }

  own-exits : AreExits (itself g)
  own-exits = record { exited = λ w p p' o o' V V' f. own-exited w f }

  own-shut : (w : Option Word) {p p' : Around} {o o' : List PFrame} {V V' : Variables} → SameFloor p o V p' o' V' → LeavesLoop w p o → ⊥
  own-shut w (same_whole hs taken o V) at = elim at [ ]
  own-shut w (same_opened caller formals pending o V) at = elim at [ ]

  own-closed : AreClosed (itself g)
  own-closed = record { closed = λ w p p' o o' V V' f at. own-shut w f at }

  -- ---- names

  own-object : (o : Option Object) → SameObject (itself g).text.programs o o
  own-object None = no_object
  own-object (Some o) = same_object o (λ k. refl, refl)

  own-sees : {p p' : Around} {o o' : List PFrame} {V V' : Variables} → SameFloor p o V p' o' V' → SeeAlike (itself g).text.programs V V'
  own-sees (same_whole hs taken o V) = record { named = λ id old. own-object (object_named V id) }
  own-sees (same_opened caller formals pending o V) = record { named = λ id old. own-object (object_named V id) }

  own-set : (id : NameId) (k : ℕ) (v : Value) {p p' : Around} {o o' : List PFrame} {V V' : Variables} → SameFloor p o V p' o' V' → SameFloor p o (set_value V id k v) p' o' (set_value V' id k v)
  own-set id k v (same_whole hs taken o V) = same_whole hs taken o (set_value V id k v)
  own-set id k v (same_opened caller formals pending o V) = same_opened caller formals pending o (set_value V id k v)

  own-around : {p p' : Around} {o o' : List PFrame} {V V' : Variables} → SameFloor p o V p' o' V' → handled_around p o ≡ handled_around p' o'
  own-around (same_whole hs taken o V) = refl
  own-around (same_opened caller formals pending o V) = refl

  own-scopes : AreScopes (itself g)
  own-scopes = record {
    sees = λ p p' o o' V V' f. own-sees f;
    set = λ p p' o o' V V' id k v old known f. own-set id k v f;
    add = λ p p' o o' V V' id k v new f. absurd (true≢false new);
    handled = λ p p' o o' V V' f. own-around f;
  }

  own-types : AgreeOnTypes (itself g).text.programs
  own-types = record {
    marks = λ id old. refl;
    fixed = λ id old. refl;
    fixed_known = λ id old. refl;
    values = λ k z. refl;
    values_known = λ k z. refl;
    bases = λ k z. refl;
    kinds = λ k known. refl;
    integers = refl;
    truths = refl;
    texts = λ v. refl;
  }

  own-start : (n : ℕ) (unit : TaskUnit) (input : List ℤ) → AreInside (itself g) (started_in g n unit input) (started_in g n unit input)
  own-start n unit input = are_inside n input [] _ _ (same_list _) (on_floor (same_whole _ None [] _))

pub met_by_itself : MetByItself
met_by_itself g = record {
  translates = record { types = own-types g; images = own-images g; scopes = own-scopes g; floors = own-floors g };
  exits = own-exits g;
  closed = own-closed g;
  starts = λ inputs t. own-start g t (unit_of g.program g.numbers t) _;
}

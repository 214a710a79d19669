-- The widest wait among the members of a list, and in a statement by its parts.
use Rattle.std.specs.Prelude.{◌≡◌, ◌<◌, ◌≤◌, ◌+◌, ℕ, suc, max, List, [], ◌∷◌, length, drop, map, refl}
use Rattle.std.proofs.Common.{◌∙◌, ap, get_or, arith}
use Rattle.std.proofs.lemmas.List.{drop_all}
use Rattle.ada_tree.specs.declared.statements.Alt.{Alt}
use Rattle.ada_tree.specs.declared.statements.Arm.{Arm, out-Arm}
use Rattle.ada_tree.specs.declared.statements.CaseArm.{CaseArm, out-CaseArm}
use Rattle.ada_tree.specs.declared.statements.Handler.{Handler, out-Handler}
use Rattle.ada_tree.specs.declared.statements.Stmt.{Stmt}
use Rattle.ada_tree.specs.PlainStmt.{PStmt, SNull, SAssign, SDelay, SExit, SRaise, SAbort, SCall, SAccept, SWait, SConditional, STimed, SPut, SPutLine, SNewLine, SGet, SIf, SCase, SBlock, SLoop, arm_then, case_arm_then, handler_then, plain_alt, plain_alt_kind, plain_arm, plain_case_arm, plain_handler, plain_stmt, alts_of, arms_of, case_arms_of, handlers_of, seen}
use Rattle.ada_tree.proofs.Rows.{plain_arm-out, plain_case_arm-out, plain_handler-out}
use Rattle.task_waits.specs.Room.{alternatives_in, room_at, widest_stmt, widest_stmts, widest_kind, widest_alts, widest_arms, widest_case_arms, widest_handlers}
use Rattle.task_waits.specs.inner.Widths.{inner_width, rest_width}
use Rattle.common_lemmas.proofs.Lists.{rest_at}

-- a width over a list, by the width of each member
pub record IsWidth {X : Type 0} (one : X → ℕ) (all : List X → ℕ) : Type 0 where
  pub of_none : all [] ≡ 0
  pub of_more : (x : X) (xs : List X) → all (x ∷ xs) ≡ max (one x) (all xs)

pub width_more : {X : Type 0} (one : X → ℕ) (all : List X → ℕ) → IsWidth one all → (xs : List X) (i : ℕ) (x : X) (width found now whole : ℕ)
    → i < length xs → x ≡ get_or xs i x → found ≡ one x → now ≡ max width found
    → max width (all (drop i xs)) ≡ whole → max now (all (drop (i + 1) xs)) ≡ whole
width_more one all is_width xs i x width found now whole h is finds grows before =
    let here : all (drop i xs) ≡ max (one x) (all (drop (i + 1) xs)) = ap all (rest_at xs i x x h is) ∙ is_width.of_more x (drop (i + 1) xs) in
    omega (arith, here)

pub width_end : {X : Type 0} (one : X → ℕ) (all : List X → ℕ) → IsWidth one all → (xs : List X) (i width whole : ℕ)
    → length xs ≤ i → max width (all (drop i xs)) ≡ whole → width ≡ whole
width_end one all is_width xs i width whole h before =
    let none : all (drop i xs) ≡ 0 = ap all (drop_all i xs h) ∙ is_width.of_none in
    omega (arith, none)

-- ---- the lists of the tree

abbrev pub stmt_one : Stmt → ℕ
stmt_one x = widest_stmt (plain_stmt x)

abbrev pub stmt_all : List Stmt → ℕ
stmt_all xs = widest_stmts (seen xs)

pub stmt_widths : IsWidth stmt_one stmt_all
stmt_widths = record { of_none = refl; of_more = λ x xs. refl }

abbrev pub alt_one : Alt → ℕ
alt_one x = widest_kind (plain_alt_kind x.kind)

abbrev pub alt_all : List Alt → ℕ
alt_all xs = widest_alts (alts_of (map plain_alt xs))

pub alt_widths : IsWidth alt_one alt_all
alt_widths = record { of_none = refl; of_more = λ x xs. refl }

abbrev pub arm_one : Arm → ℕ
arm_one x = widest_stmts (seen (out-Arm x).stmts.items)

abbrev pub arm_all : List Arm → ℕ
arm_all xs = widest_arms (arms_of (map plain_arm xs))

pub arm_widths : IsWidth arm_one arm_all
arm_widths = record { of_none = refl; of_more = λ x xs. ap (λ a. widest_arms (arm_then a (arms_of (map plain_arm xs)))) (plain_arm-out x) }

abbrev pub case_arm_one : CaseArm → ℕ
case_arm_one x = widest_stmts (seen (out-CaseArm x).stmts.items)

abbrev pub case_arm_all : List CaseArm → ℕ
case_arm_all xs = widest_case_arms (case_arms_of (map plain_case_arm xs))

pub case_arm_widths : IsWidth case_arm_one case_arm_all
case_arm_widths = record { of_none = refl; of_more = λ x xs. ap (λ a. widest_case_arms (case_arm_then a (case_arms_of (map plain_case_arm xs)))) (plain_case_arm-out x) }

abbrev pub handler_one : Handler → ℕ
handler_one x = widest_stmts (seen (out-Handler x).stmts.items)

abbrev pub handler_all : List Handler → ℕ
handler_all xs = widest_handlers (handlers_of (map plain_handler xs))

pub handler_widths : IsWidth handler_one handler_all
handler_widths = record { of_none = refl; of_more = λ x xs. ap (λ a. widest_handlers (handler_then a (handlers_of (map plain_handler xs)))) (plain_handler-out x) }

-- ---- a statement by its parts

pub stmt_width : (s : PStmt) → max (max (room_at s) (inner_width s)) (rest_width s) ≡ widest_stmt s
stmt_width (SNull s) = refl
stmt_width (SAssign t e s) = refl
stmt_width (SDelay d s) = refl
stmt_width (SExit w e s) = refl
stmt_width (SRaise w s) = refl
stmt_width (SAbort cs s) = refl
stmt_width (SCall c s) = refl
stmt_width (SAccept a s) = omega arith
stmt_width (SWait alts otherwise s) = omega arith
stmt_width (SConditional c more otherwise s) = omega arith
stmt_width (STimed c more d after s) = omega arith
stmt_width (SPut ps s) = refl
stmt_width (SPutLine ps s) = refl
stmt_width (SNewLine s) = refl
stmt_width (SGet t s) = refl
stmt_width (SIf arms otherwise s) = omega arith
stmt_width (SCase e arms others s) = omega arith
stmt_width (SBlock b s) = omega arith
stmt_width (SLoop w scheme stmts s) = omega arith

pub widest_of : (s : PStmt) (own inner rest both whole : ℕ) → own ≡ room_at s → inner ≡ inner_width s → rest ≡ rest_width s → both ≡ max own inner → whole ≡ max both rest
    → whole ≡ widest_stmt s
widest_of s own inner rest both whole a b c d e = omega (arith, stmt_width s)

-- how many alternatives there are
pub alternatives_are : (alts : List Alt) → length alts ≡ alternatives_in (alts_of (map plain_alt alts))
alternatives_are [] = refl
alternatives_are (a ∷ alts) = ap suc (alternatives_are alts)

-- The forms of a table's value and of the loop, where there is more than one operation, and where there is one.
use Rattle.std.proofs.Common.{◌≡◌, ℕ, zero, suc, List, [], ◌∷◌, length, map, get_or, Result, Ok, Err, IfOk, Vec, Global, refl, sym, ap, ◌∙◌, arith}
use Rattle.ada_tree.specs.declared.declarations.Init.{Init}
use Rattle.ada_tree.specs.declared.expressions.Expr.{Expr}
use Rattle.ada_tree.specs.declared.naming.Span.{Span}
use Rattle.ada_tree.specs.declared.shortage.Memory.{Memory}
use Rattle.ada_tree.specs.PlainExpr.{PExpr, plain_expr}
use Rattle.ada_tree.specs.PlainDecl.{PInit, IList, IOthers, plain_init}
use Rattle.ada_stmt_copy.specs.expressions.Parts.{OkWith}
use Rattle.syn_event.specs.declared.numbering.TaskInfo.{TaskInfo}
use Rattle.control_script.specs.declared.Op.{Op}
use Rattle.normal_model.specs.Members.{integer_literal}
use Rattle.replay_model.specs.declared.tables.columns.Column.{Column}
use Rattle.replay_model.specs.declared.tables.names.ControlNames.{ControlNames}
use Rattle.replay_model.specs.tables.Columns.{says}
use Rattle.replay_model.specs.tables.Tables.{table_value}
use Rattle.replay_model.specs.tables.ControlBodies.{loop_over, loops}

-- over some operations there is a loop
pub one-loop : (n : ControlNames) (infos : List TaskInfo) (s : Span) (count : ℕ) → (count ≡ 0 → ⊥) → loop_over n infos s count ∷ [] ≡ loops n infos s count
one-loop n infos s zero some = absurd (some refl)
one-loop n infos s (suc count) some = refl

-- the literals of what a table says
literals : (s : Span) (column : Column) (ops : List Op) → map (integer_literal s) (map (says column) ops) ≡ map (λ op. integer_literal s (says column op)) ops
literals s column [] = refl
literals s column (op ∷ ops) = ap (λ es. integer_literal s (says column op) ∷ es) (literals s column ops)

-- the value of a table of not just one operation
listed : (s : Span) (column : Column) (ops : List Op) → (length ops ≡ 1 → ⊥) → IList (map (λ op. integer_literal s (says column op)) ops) s ≡ table_value s (map (says column) ops)
listed s column [] other = refl
listed s column (op ∷ []) other = absurd (other refl)
listed s column (op ∷ more ∷ ops) other = ap (λ es. IList es s) (sym (literals s column (op ∷ more ∷ ops)))

pub value-listed :
    (s : Span) (column : Column) (ops : List Op) (parts : Result (Vec Expr Global) Memory) (r : Result Init Memory) →
    (length ops ≡ 1 → ⊥) →
    IfOk r (λ made. OkWith parts (λ es. plain_init made ≡ IList (map plain_expr es.items) s)) →
    IfOk parts (λ es. map plain_expr es.items ≡ map (λ op. integer_literal s (says column op)) ops) →
    IfOk r (λ made. plain_init made ≡ table_value s (map (says column) ops))
value-listed s column ops parts (Err e) other made are = tt
value-listed s column ops (Err e) (Ok value) other made are = absurd made
value-listed s column ops (Ok es) (Ok value) other made are = made ∙ ap (λ ps. IList ps s) are ∙ listed s column ops other

-- the value of a table of one operation
others : (s : Span) (column : Column) (ops : List Op) (d : Op) → length ops ≡ 1 → IOthers (integer_literal s (says column (get_or ops 0 d))) s ≡ table_value s (map (says column) ops)
others s column [] d one = absurd (omega (arith, one))
others s column (op ∷ []) d one = refl
others s column (op ∷ more ∷ ops) d one = absurd (omega (arith, one))

pub value-others :
    (s : Span) (column : Column) (ops : List Op) (d : Op) (part : Result Expr Memory) (r : Result Init Memory) →
    length ops ≡ 1 →
    IfOk r (λ made. OkWith part (λ e. plain_init made ≡ IOthers (plain_expr e) s)) →
    IfOk part (λ e. plain_expr e ≡ integer_literal s (says column (get_or ops 0 d))) →
    IfOk r (λ made. plain_init made ≡ table_value s (map (says column) ops))
value-others s column ops d part (Err e) one made is = tt
value-others s column ops d (Err e) (Ok value) one made is = absurd made
value-others s column ops d (Ok e) (Ok value) one made is = made ∙ ap (λ x. IOthers x s) is ∙ others s column ops d one

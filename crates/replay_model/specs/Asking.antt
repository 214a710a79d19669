-- Permits in a text: how a task asks for one, what it tests of it, and how it says that it is done (this project's rule). Written in the program's own language: entry calls (9.5) and the variables of the permit.
use Rattle.std.specs.Prelude.{ℕ, List, [], ◌∷◌, Option, Some, None, slice_get}
use Rattle.ada_tree.specs.declared.naming.Span.{Span}
use Rattle.ada_tree.specs.declared.static_types.Kind.{Kind}
use Rattle.ada_tree.specs.declared.static_types.Kind.TheVariants as kind
use Rattle.ada_tree.specs.declared.expressions.BinaryOp.TheVariants.{And, Equal, NotEqual}
use Rattle.ada_tree.specs.TypeTable.{TypeTable}
use Rattle.ada_tree.specs.PlainExpr.{PExpr, EInteger, EName, EAttributeOf, EBinary, PDrange}
use Rattle.ada_tree.specs.PlainStmt.{PArgs, PStmt, SCall, SIf, PStmts, stmt_then, absent, present, arm, PArms, no_arm, arm_then}
use Rattle.task_model.specs.Setting.{Setting}
use Rattle.normal_model.specs.Ranges.{word_at, kind_of_range, kind_name, family_range}
use Rattle.normal_model.specs.Making.{one}
use Rattle.normal_model.specs.RewrittenUnit.{RewrittenUnit}
use Rattle.replay_model.specs.Names.{kind_text, argument_text, index_text, control_text, go_text, done_text, idle_text, stop_text, added_id, added_word}

-- ---- calls of the added tasks

-- a call of an added task's entry with these lists
abbrev pub added_call : RewrittenUnit → Span → List ℕ → List ℕ → Option PArgs → PStmt
added_call u s task entry args =
    SCall
    (record { task = record { name = added_word u.setting.program s task; index = None }; entry = added_word u.setting.program s entry; args = args })
    s

-- a variable of the permit
abbrev pub permit_part : RewrittenUnit → Span → List ℕ → PExpr
permit_part u s text = EName (added_id u.setting.program text) s

-- `DED_CONTROL.GO(t)(DED_K, DED_A, DED_I);` The task t asks for a permit.
abbrev pub ask : RewrittenUnit → Span → PStmt
ask u s =
    added_call u s control_text go_text
    (Some (record {
      first = EInteger u.task s ∷ [];
      second = Some (permit_part u s kind_text ∷ permit_part u s argument_text ∷ permit_part u s index_text ∷ []);
    }))

-- `DED_CONTROL.DONE(t);` It says that it has done what the permit was for.
abbrev pub done : RewrittenUnit → Span → PStmt
done u s = added_call u s control_text done_text (Some (record { first = EInteger u.task s ∷ []; second = None }))

-- `DED_IDLE.STOP;` It has a permit that it cannot use, and stops for ever.
abbrev pub stop : RewrittenUnit → Span → PStmt
stop u s = added_call u s idle_text stop_text None

-- ---- tests

-- `a and b`
abbrev pub both : Span → PExpr → PExpr → PExpr
both s a b = EBinary And a b s

-- `DED_K = k`
abbrev pub permit_is_kind : RewrittenUnit → Span → ℕ → PExpr
permit_is_kind u s k = EBinary Equal (permit_part u s kind_text) (EInteger k s) s

-- `DED_K = k and DED_A = a`
abbrev pub permit_is_for : RewrittenUnit → Span → ℕ → ℕ → PExpr
permit_is_for u s k a = both s (permit_is_kind u s k) (EBinary Equal (permit_part u s argument_text) (EInteger a s) s)

-- an index as a number: that of an integer is itself, and that of another type its position, `T'POS(x)`, where T is the type's own name (3.5.5)
abbrev pub as_number : TypeTable → Span → ℕ → Option Kind → PExpr → PExpr
as_number types s k (Some kind.Integer) x = x
as_number types s k _ x = EAttributeOf (word_at s (kind_name types k)) (word_at s record { 0 = 20 }) x s

abbrev pub number_in : TypeTable → Span → Option PDrange → PExpr → PExpr
number_in types s None x = x
number_in types s (Some r) x = as_number types s (kind_of_range types r) (slice_get types.kinds (kind_of_range types r)) x

-- The member of the entry e as a number: `0` of a plain entry, and the index of a family's member.
abbrev pub member_number : Setting → Span → ℕ → Option PExpr → PExpr
member_number g s e None = EInteger 0 s
member_number g s e (Some x) = number_in g.types s (family_range g e) x

-- `DED_K = k and DED_A = e and DED_I = x` The permit is for an event of that kind at this member of the entry e.
abbrev pub permit_is_at : RewrittenUnit → Span → ℕ → ℕ → Option PExpr → PExpr
permit_is_at u s k e index = both s (permit_is_for u s k e) (EBinary Equal (permit_part u s index_text) (member_number u.setting s e index) s)

-- ---- statements

-- `if DED_K /= k then STOP end if;`
abbrev pub only : RewrittenUnit → Span → ℕ → PStmt
only u s k = SIf (arm_then (arm (EBinary NotEqual (permit_part u s kind_text) (EInteger k s) s) (one (stop u s))) no_arm) absent s

-- The task asks, and goes on only with a permit of this kind.
abbrev pub ask_only : RewrittenUnit → Span → ℕ → PStmts
ask_only u s k = stmt_then (ask u s) (one (only u s k))

-- The task asks, takes the first branch whose permit it has, and stops where there is none.
abbrev pub ask_which : RewrittenUnit → Span → PArms → PStmts
ask_which u s arms = stmt_then (ask u s) (one (SIf arms (present (one (stop u s))) s))

-- a branch in front of others
abbrev pub branch : PExpr → PStmts → PArms → PArms
branch test stmts rest = arm_then (arm test stmts) rest

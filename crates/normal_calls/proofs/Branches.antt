-- The branches of a case statement over the members of an array.
use Rattle.std.proofs.Common.{◌≡◌, ℕ, ◌+◌, List, [], ◌∷◌, ◌++◌, map, Result, Ok, Err, IfOk, OnOk, Vec, Global, refl, sym, ap, ◌∙◌}
use Rattle.ada_tree.specs.declared.shortage.Memory.{Memory}
use Rattle.ada_tree.specs.declared.statements.CaseArm.{CaseArm}
use Rattle.ada_stmt_copy.specs.expressions.Parts.{OkWith}
use Rattle.ada_tree.specs.declared.naming.Span.{Span}
use Rattle.ada_tree.specs.declared.naming.Word.{Word}
use Rattle.ada_tree.specs.PlainStmt.{PCallee, PStmts, SCase, SNull, PCaseArm, case_arms_of, plain_case_arm, plain_stmt, present}
use Rattle.ada_tree.specs.declared.statements.Stmt.{Stmt}
use Rattle.task_model.specs.Setting.{Setting}
use Rattle.normal_model.specs.Making.{one, variable}
use Rattle.normal_model.specs.Members.{by_member, member_arm, members_of}
use Rattle.normal_lookups.specs.declared.pieces.meanings.Member.{Member}
use Rattle.normal_lookups.specs.pieces.Seen.{member_meant, member_seen}
use Rattle.normal_calls.specs.inner.CallForms.{arm_for}

map-seen : {A B C : Type 0} (f : A → B) (h : B → C) (xs : List A) → map (λ x. h (f x)) xs ≡ map h (map f xs)
map-seen f h [] = refl
map-seen f h (x ∷ xs) = ap (λ l. h (f x) ∷ l) (map-seen f h xs)

-- the branches of members are those of the tasks that they are
arms-meant :
    (g : Setting) (s : Span) (callee : PCallee) (what : Word → PStmts) (members : List Member) →
    map (member_seen s) members ≡ map (member_meant g s callee.name.name) (members_of g callee.name.name) →
    map (λ x. arm_for callee.name.span what (member_seen s x)) members ≡ map (member_arm g s callee what) (members_of g callee.name.name)
arms-meant g s callee what members meant =
    map-seen (member_seen s) (arm_for callee.name.span what) members
    ∙ ap (map (arm_for callee.name.span what)) meant
    ∙ sym (map-seen (member_meant g s callee.name.name) (arm_for callee.name.span what) (members_of g callee.name.name))

-- the case statement of these branches
pub case-meant :
    (g : Setting) (s : Span) (callee : PCallee) (k : ℕ) (what : Word → PStmts) (members : List Member) (arms : List PCaseArm) →
    map (member_seen s) members ≡ map (member_meant g s callee.name.name) (members_of g callee.name.name) →
    arms ≡ map (λ x. arm_for callee.name.span what (member_seen s x)) members →
    SCase (variable g s k) (case_arms_of arms) (present (one (SNull s))) s ≡ by_member g s callee k what
case-meant g s callee k what members arms meant is =
    ap (λ l. SCase (variable g s k) (case_arms_of l) (present (one (SNull s))) s) (is ∙ arms-meant g s callee what members meant)

-- a whole of one part is what it would be of what the part is known to be
pub carried :
    {A M E F X W : Type 0} (f : A → X) (k : M → W) (whole : X → W) (x : X) (r : Result M E) (a : Result A F) →
    IfOk r (λ m. OkWith a (λ u. k m ≡ whole (f u))) →
    IfOk a (λ u. f u ≡ x) →
    IfOk r (λ m. k m ≡ whole x)
carried f k whole x (Err e) a h p = tt
carried f k whole x (Ok m) (Err e) h p = absurd h
carried f k whole x (Ok m) (Ok u) h p = h ∙ ap whole p

-- a case statement whose branches were filled and kept
pub case-kept :
    {A : Type 0} (g : Setting) (s : Span) (callee : PCallee) (k : ℕ) (what : Word → PStmts) (members : List Member) (start filled : List CaseArm) (done : Result A Memory) (arms : Result (Vec CaseArm Global) Memory) (r : Result Stmt Memory) →
    map (member_seen s) members ≡ map (member_meant g s callee.name.name) (members_of g callee.name.name) →
    start ≡ [] →
    OnOk done (map plain_case_arm filled ≡ map plain_case_arm start ++ map (λ x. arm_for callee.name.span what (member_seen s x)) members) →
    IfOk arms (λ a. OkWith done (λ _. a.items ≡ filled)) →
    IfOk r (λ x. OkWith arms (λ a. plain_stmt x ≡ SCase (variable g s k) (case_arms_of (map plain_case_arm a.items)) (present (one (SNull s))) s)) →
    IfOk r (λ x. plain_stmt x ≡ by_member g s callee k what)
case-kept g s callee k what members start filled done arms (Err e) meant none step kept made = tt
case-kept g s callee k what members start filled done (Err e) (Ok x) meant none step kept made = absurd made
case-kept g s callee k what members start filled (Err e) (Ok a) (Ok x) meant none step kept made = absurd kept
case-kept g s callee k what members start filled (Ok u) (Ok a) (Ok x) meant none step kept made =
    made ∙ case-meant g s callee k what members (map plain_case_arm a.items) meant (ap (map plain_case_arm) kept ∙ step ∙ ap (λ l. map plain_case_arm l ++ map (λ x. arm_for callee.name.span what (member_seen s x)) members) none)

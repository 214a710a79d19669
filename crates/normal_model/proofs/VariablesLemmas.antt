-- The variables of a unit are kept: whatever is gone through, those that were made before stay in front, and more may come behind them. So the variable of a number is the one that was declared when the number was taken.
use Rattle.std.proofs.Common.{◌≡◌, List, [], ◌++◌, refl, sym, ap, ◌∙◌}
use Rattle.std.proofs.lemmas.List.{append_assoc, append-nil}
use Rattle.ada_tree.specs.PlainStmt.{PStmt, SNull, SAssign, SDelay, SExit, SRaise, SAbort, SCall, SAccept, SWait, SConditional, STimed, SPut, SPutLine, SNewLine, SGet, SIf, SCase, SBlock, SLoop, PStmts, no_stmt, stmt_then, PMaybe, absent, present, PAccept, accepting, PAlt, alternative, PAltKind, AAccept, ADelay, ATerminate, PAlts, no_alt, alt_then, PArms, no_arm, arm_then, arm, PCaseArms, no_case_arm, case_arm_then, case_arm, PBody, body, PHandlers, no_handler, handler_then, handler}
use Rattle.ada_tree.specs.PlainDecl.{PDecl}
use Rattle.normal_model.specs.Walk.{Rewriter, after_parts, after_stmts, after_maybe, after_accept, after_kind, after_alts, after_arms, after_case_arms, after_body, after_handlers}
use Rattle.normal_model.specs.RewrittenUnit.{RewrittenUnit}
use Rattle.normal_model.specs.Variables.{statement_variables}
use Rattle.normal_model.specs.NormalStmts.{normal_rewriter}

-- the second list begins with the first
pub record Begins {A : Type 0} (xs ys : List A) : Type 0 where
  pub more : List A
  pub joined : ys ≡ xs ++ more

pub begins-refl : {A : Type 0} (xs : List A) → Begins xs xs
begins-refl xs = record { more = []; joined = sym (append-nil xs) }

pub begins-more : {A : Type 0} (xs ys : List A) → Begins xs (xs ++ ys)
begins-more xs ys = record { more = ys; joined = refl }

pub begins-trans : {A : Type 0} {xs ys zs : List A} → Begins xs ys → Begins ys zs → Begins xs zs
begins-trans {xs = xs} b c = record { more = b.more ++ c.more; joined = c.joined ∙ ap (λ l. l ++ c.more) b.joined ∙ append_assoc xs b.more c.more }

-- a rewriter that keeps lists and only adds to them
pub record OnlyAdds {A : Type 0} (r : Rewriter (List A)) : Type 0 where
  pub entered_stmt : (t : List A) (x : PStmt) → Begins t (r.entered_stmt t x)
  pub entered_alternative : (t : List A) (x : PAlt) → Begins t (r.entered_alternative t x)

module _ {A : Type 0} (r : Rewriter (List A)) (adds : OnlyAdds r) where
  mutual
    pub parts-begin : (x : PStmt) (t : List A) → Begins t (after_parts r x t)
    parts-begin (SAccept a s) t = accept-begins a t
    parts-begin (SWait x o s) t = begins-trans (alts-begin x t) (maybe-begins o _)
    parts-begin (SConditional c b o s) t = begins-trans (stmts-begin b t) (stmts-begin o _)
    parts-begin (STimed c b d a s) t = begins-trans (stmts-begin b t) (stmts-begin a _)
    parts-begin (SIf x o s) t = begins-trans (arms-begin x t) (maybe-begins o _)
    parts-begin (SCase e x o s) t = begins-trans (case_arms-begin x t) (maybe-begins o _)
    parts-begin (SBlock b s) t = body-begins b t
    parts-begin (SLoop w c l s) t = stmts-begin l t
    parts-begin (SNull s) t = begins-refl t
    parts-begin (SAssign x e s) t = begins-refl t
    parts-begin (SDelay d s) t = begins-refl t
    parts-begin (SExit w e s) t = begins-refl t
    parts-begin (SRaise w s) t = begins-refl t
    parts-begin (SAbort cs s) t = begins-refl t
    parts-begin (SCall c s) t = begins-refl t
    parts-begin (SPut ps s) t = begins-refl t
    parts-begin (SPutLine ps s) t = begins-refl t
    parts-begin (SNewLine s) t = begins-refl t
    parts-begin (SGet x s) t = begins-refl t

    pub stmts-begin : (l : PStmts) (t : List A) → Begins t (after_stmts r l t)
    stmts-begin no_stmt t = begins-refl t
    stmts-begin (stmt_then x l) t = begins-trans (adds.entered_stmt t x) (begins-trans (parts-begin x _) (stmts-begin l _))

    pub maybe-begins : (o : PMaybe) (t : List A) → Begins t (after_maybe r o t)
    maybe-begins absent t = begins-refl t
    maybe-begins (present l) t = stmts-begin l t

    pub accept-begins : (a : PAccept) (t : List A) → Begins t (after_accept r a t)
    accept-begins (accepting h o) t = maybe-begins o t

    pub kind-begins : (k : PAltKind) (t : List A) → Begins t (after_kind r k t)
    kind-begins (AAccept a l) t = begins-trans (accept-begins a t) (stmts-begin l _)
    kind-begins (ADelay d l) t = stmts-begin l t
    kind-begins ATerminate t = begins-refl t

    pub alts-begin : (l : PAlts) (t : List A) → Begins t (after_alts r l t)
    alts-begin no_alt t = begins-refl t
    alts-begin (alt_then (alternative g k s) l) t = begins-trans (adds.entered_alternative t (alternative g k s)) (begins-trans (kind-begins k _) (alts-begin l _))

    pub arms-begin : (l : PArms) (t : List A) → Begins t (after_arms r l t)
    arms-begin no_arm t = begins-refl t
    arms-begin (arm_then (arm e l) rest) t = begins-trans (stmts-begin l t) (arms-begin rest _)

    pub case_arms-begin : (l : PCaseArms) (t : List A) → Begins t (after_case_arms r l t)
    case_arms-begin no_case_arm t = begins-refl t
    case_arms-begin (case_arm_then (case_arm cs l) rest) t = begins-trans (stmts-begin l t) (case_arms-begin rest _)

    pub body-begins : (b : PBody) (t : List A) → Begins t (after_body r b t)
    body-begins (body l hs) t = begins-trans (stmts-begin l t) (handlers-begin hs _)

    pub handlers-begin : (l : PHandlers) (t : List A) → Begins t (after_handlers r l t)
    handlers-begin no_handler t = begins-refl t
    handlers-begin (handler_then (handler ws l s) rest) t = begins-trans (stmts-begin l t) (handlers-begin rest _)

-- ---- the normal form

-- a statement adds its variables behind those that are there
statement-adds : (u : RewrittenUnit) (t : List PDecl) (x : PStmt) → Begins t (statement_variables u t x)
statement-adds u t (SCall c s) = begins-more t _
statement-adds u t (SConditional c b o s) = begins-more t _
statement-adds u t (STimed c b d a s) = begins-more t _
statement-adds u t (SAccept a s) = begins-more t _
statement-adds u t (SAbort cs s) = begins-more t _
statement-adds u t (SWait x o s) = begins-refl t
statement-adds u t (SNull s) = begins-refl t
statement-adds u t (SAssign x e s) = begins-refl t
statement-adds u t (SDelay d s) = begins-refl t
statement-adds u t (SExit w e s) = begins-refl t
statement-adds u t (SRaise w s) = begins-refl t
statement-adds u t (SPut ps s) = begins-refl t
statement-adds u t (SPutLine ps s) = begins-refl t
statement-adds u t (SNewLine s) = begins-refl t
statement-adds u t (SGet x s) = begins-refl t
statement-adds u t (SIf x o s) = begins-refl t
statement-adds u t (SCase e x o s) = begins-refl t
statement-adds u t (SBlock b s) = begins-refl t
statement-adds u t (SLoop w c l s) = begins-refl t

-- an alternative does too
alternative-adds : (u : RewrittenUnit) (t : List PDecl) (x : PAlt) → Begins t ((normal_rewriter u).entered_alternative t x)
alternative-adds u t x = begins-more t _

pub normal-adds : (u : RewrittenUnit) → OnlyAdds (normal_rewriter u)
normal-adds u = record { entered_stmt = statement-adds u; entered_alternative = alternative-adds u }

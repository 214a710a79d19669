-- What holds of each name that statements and entries declare and name, where it obeys a rule, holds of all of them: the one induction over statements for
-- predicates of what is declared and named.
use Rattle.std.proofs.Common.{ℕ, Bool, false, ◌+◌, List, [], ◌∷◌, ◌++◌, Option, Some, None, IfSome, All}
use Rattle.std.specs.List.{AllByRecursion}
use Rattle.std.proofs.lemmas.List.Elements.{recursion_from_All}
use Rattle.common_lemmas.proofs.Lists.{all_joined}
use Rattle.ada_tree.specs.declared.naming.Word.{Word}
use Rattle.ada_tree.specs.PlainStmt.{PFormal, PScheme, LWhile, LFor, PStmt, SNull, SAssign, SDelay, SExit, SRaise, SAbort, SCall, SAccept, SWait, SConditional, STimed, SPut, SPutLine, SNewLine, SGet, SIf, SCase, SBlock, SLoop, PStmts, no_stmt, stmt_then, PMaybe, absent, present, PAccept, accepting, alternative, PAltKind, AAccept, ADelay, ATerminate, PAlts, no_alt, alt_then, PArms, no_arm, arm_then, arm, PCaseArms, no_case_arm, case_arm_then, case_arm, PBody, body, PHandlers, no_handler, handler_then, handler}
use Rattle.ada_tree.specs.PlainDecl.{PEntry}
use Rattle.ada_tree.specs.Every.{Rules, EveryWord, EveryFormal, EveryScheme, EveryStmt, EveryStmts, EverySome, EveryMaybe, EveryAccept, EveryAltKind, EveryAlts, EveryArms, EveryCaseArms, EveryBody, EveryHandlers, EveryEntry}
use Rattle.ada_static_rules.specs.Sites.{all_names, with_words}
use Rattle.ada_decl_rules.specs.declared.duplicates.namings_in_order.Naming.{Naming}
use Rattle.ada_decl_rules.specs.declared.duplicates.namings_in_order.Naming.TheVariants.{Declares, Labels, Once}
use Rattle.ada_decl_rules.specs.duplicates.NamingsInOrder.{declared, named_once}
use Rattle.normal_laws.specs.structure.once.Names.{label_names, scheme_names, stmt_names, stmts_names, maybe_names, accept_names, alts_names, kind_names, arms_names, case_arms_names, body_names, handlers_names, entries_names}
use Rattle.normal_laws.proofs.existence.walked_statements.Walk.{words-all}

-- what is declared in an inner scope, given to a loop, or named is so, where its word obeys the rule
pub record HoldsNamed (r : Rules) (P : Naming → Type 0) : Type 0 where
  pub declares : (again : Bool) (w : Word) → EveryWord r w → P (Declares false again w)
  pub labels : (w : Word) → EveryWord r w → P (Labels w)
  pub once : (again : Bool) (w : Word) → EveryWord r w → P (Once again w)

module _ (r : Rules) (P : Naming → Type 0) (N : HoldsNamed r P) where
  pub declared-hold : (here : List ℕ) (ws : List Word) → AllByRecursion (EveryWord r) ws → AllByRecursion P (declared false here ws)
  declared-hold here [] h = tt
  declared-hold here (w ∷ ws) h = (N.declares _ w h.0, declared-hold (w.name.0 ∷ here) ws h.1)

  once-hold : (here : List ℕ) (ws : List Word) → AllByRecursion (EveryWord r) ws → AllByRecursion P (named_once here ws)
  once-hold here [] h = tt
  once-hold here (w ∷ ws) h = (N.once _ w h.0, once-hold (w.name.0 ∷ here) ws h.1)

  formals-hold : (fs : List PFormal) → All (EveryFormal r) fs → AllByRecursion P (declared false [] (all_names fs))
  formals-hold fs h = declared-hold [] (all_names fs) (words-all r fs (recursion_from_All (EveryFormal r) fs h))

  label-hold : (o : Option Word) → IfSome o (EveryWord r) → AllByRecursion P (label_names o)
  label-hold (Some w) h = (N.labels w h, tt)
  label-hold None h = tt

  scheme-hold : (k : ℕ) (o : Option PScheme) → IfSome o (EveryScheme r k) → AllByRecursion P (scheme_names o)
  scheme-hold k (Some (LFor w b x)) h = (N.declares false w h.0, tt)
  scheme-hold k (Some (LWhile e)) h = tt
  scheme-hold k None h = tt

  mutual
    stmt-hold : (k : ℕ) (x : PStmt) → EveryStmt r k x → AllByRecursion P (stmt_names x)
    stmt-hold k (SAccept a s) h = accept-hold k a h
    stmt-hold k (SWait x o s) h = all_joined P (alts_names x) (maybe_names o) (alts-hold (k + 1) x h.2) (maybe-hold (k + 1) o h.3)
    stmt-hold k (SConditional c b o s) h = all_joined P (stmts_names b) (stmts_names o) (stmts-hold (k + 1) b h.3) (some-hold (k + 1) o h.4)
    stmt-hold k (STimed c b d a s) h = all_joined P (stmts_names b) (stmts_names a) (stmts-hold (k + 1) b h.3) (stmts-hold (k + 1) a h.5)
    stmt-hold k (SIf x o s) h = all_joined P (arms_names x) (maybe_names o) (arms-hold (k + 1) x h.2) (maybe-hold (k + 1) o h.3)
    stmt-hold k (SCase e x o s) h = all_joined P (case_arms_names x) (maybe_names o) (case-arms-hold (k + 1) x h.2) (maybe-hold (k + 1) o h.3)
    stmt-hold k (SBlock b s) h = body-hold (k + 1) b h.1
    stmt-hold k (SLoop w c l s) h =
        all_joined P (label_names w) (scheme_names c ++ stmts_names l) (label-hold w h.1)
        (all_joined P (scheme_names c) (stmts_names l) (scheme-hold (k + 1) c h.2) (some-hold (k + 1) l h.3))
    stmt-hold k (SNull s) h = tt
    stmt-hold k (SAssign x e s) h = tt
    stmt-hold k (SDelay d s) h = tt
    stmt-hold k (SExit w e s) h = tt
    stmt-hold k (SRaise w s) h = tt
    stmt-hold k (SAbort cs s) h = tt
    stmt-hold k (SCall c s) h = tt
    stmt-hold k (SPut ps s) h = tt
    stmt-hold k (SPutLine ps s) h = tt
    stmt-hold k (SNewLine s) h = tt
    stmt-hold k (SGet x s) h = tt

    stmts-hold : (k : ℕ) (l : PStmts) → EveryStmts r k l → AllByRecursion P (stmts_names l)
    stmts-hold k no_stmt h = tt
    stmts-hold k (stmt_then x l) h = all_joined P (stmt_names x) (stmts_names l) (stmt-hold k x h.0) (stmts-hold k l h.1)

    some-hold : (k : ℕ) (l : PStmts) → EverySome r k l → AllByRecursion P (stmts_names l)
    some-hold k no_stmt h = tt
    some-hold k (stmt_then x l) h = all_joined P (stmt_names x) (stmts_names l) (stmt-hold k x h.1) (stmts-hold k l h.2)

    maybe-hold : (k : ℕ) (o : PMaybe) → EveryMaybe r k o → AllByRecursion P (maybe_names o)
    maybe-hold k absent h = tt
    maybe-hold k (present l) h = some-hold k l h

    accept-hold : (k : ℕ) (a : PAccept) → EveryAccept r k a → AllByRecursion P (accept_names a)
    accept-hold k (accepting x o) h =
        all_joined P (declared false [] (all_names x.formals)) (maybe_names o) (formals-hold x.formals h.1.2) (maybe-hold (k + 1) o h.2)

    alts-hold : (k : ℕ) (x : PAlts) → EveryAlts r k x → AllByRecursion P (alts_names x)
    alts-hold k no_alt h = tt
    alts-hold k (alt_then (alternative g x s) l) h = all_joined P (kind_names x) (alts_names l) (kind-hold (k + 1) x h.0.2) (alts-hold k l h.1)

    kind-hold : (k : ℕ) (x : PAltKind) → EveryAltKind r k x → AllByRecursion P (kind_names x)
    kind-hold k (AAccept a l) h = all_joined P (accept_names a) (stmts_names l) (accept-hold k a h.0) (stmts-hold k l h.1)
    kind-hold k (ADelay d l) h = stmts-hold k l h.2
    kind-hold k ATerminate h = tt

    arms-hold : (k : ℕ) (x : PArms) → EveryArms r k x → AllByRecursion P (arms_names x)
    arms-hold k no_arm h = tt
    arms-hold k (arm_then (arm e l) rest) h = all_joined P (stmts_names l) (arms_names rest) (some-hold k l h.0.1) (arms-hold k rest h.1)

    case-arms-hold : (k : ℕ) (x : PCaseArms) → EveryCaseArms r k x → AllByRecursion P (case_arms_names x)
    case-arms-hold k no_case_arm h = tt
    case-arms-hold k (case_arm_then (case_arm cs l) rest) h =
        all_joined P (stmts_names l) (case_arms_names rest) (some-hold k l h.0.2) (case-arms-hold k rest h.1)

    pub body-hold : (k : ℕ) (b : PBody) → EveryBody r k b → AllByRecursion P (body_names b)
    body-hold k (body l hs) h = all_joined P (stmts_names l) (handlers_names [] hs) (some-hold k l h.0) (handlers-hold k [] hs h.2)

    handlers-hold : (k : ℕ) (here : List ℕ) (hs : PHandlers) → EveryHandlers r k hs → AllByRecursion P (handlers_names here hs)
    handlers-hold k here no_handler h = tt
    handlers-hold k here (handler_then (handler ws l s) rest) h =
        all_joined P (named_once here ws) (stmts_names l ++ handlers_names (with_words here ws) rest)
        (once-hold here ws (recursion_from_All (EveryWord r) ws h.0.1))
        (all_joined P (stmts_names l) (handlers_names (with_words here ws) rest) (some-hold (k + 1) l h.0.2) (handlers-hold k (with_words here ws) rest h.1))

  pub entries-hold : (here : List ℕ) (es : List PEntry) → AllByRecursion (EveryEntry r) es → AllByRecursion P (entries_names here es)
  entries-hold here [] h = tt
  entries-hold here (e ∷ es) h = (
    N.once _ e.name h.0.1,
    all_joined P (declared false [] (all_names e.formals)) (entries_names (e.name.name.0 ∷ here) es)
        (formals-hold e.formals h.0.3) (entries-hold (e.name.name.0 ∷ here) es h.1),
  )

-- What is named at the places of statements, put together from what is named at those of their parts.
use Rattle.std.specs.Prelude.{◌≡◌, ◌<◌, ◌≤◌, ◌+◌, ◌==◌, ℕ, Bool, true, false, if◌then◌else◌, List, [], ◌∷◌, ◌++◌, length, map, flat_map, drop, Option, Some, None, option_map, refl}
use Rattle.std.proofs.Common.{sym, ap, ◌∙◌, subst, get_or, append_assoc, Vec, Global}
use Rattle.std.proofs.lemmas.List.{append-nil}
use Rattle.std.proofs.lemmas.Bool.{false≢true}
use Rattle.std.proofs.Math.ListN.{drop_of_length-le}
use Rattle.ada_tree.specs.declared.naming.Span.{Span}
use Rattle.ada_tree.specs.declared.naming.Word.{Word}
use Rattle.ada_tree.specs.declared.statements.Formal.{Formal}
use Rattle.ada_tree.specs.declared.statements.Scheme.{Scheme}
use Rattle.ada_tree.specs.declared.statements.Stmt.{Stmt}
use Rattle.ada_tree.specs.declared.statements.Alt.{Alt}
use Rattle.ada_tree.specs.declared.statements.Accept.{Accept, out-Accept}
use Rattle.ada_tree.specs.declared.statements.Arm.{Arm, out-Arm}
use Rattle.ada_tree.specs.declared.statements.CaseArm.{CaseArm, out-CaseArm}
use Rattle.ada_tree.specs.declared.statements.Handler.{Handler, out-Handler}
use Rattle.ada_tree.specs.declared.statements.Body.{Body, out-Body}
use Rattle.ada_tree.proofs.Rows.{plain_accept-out, plain_arm-out, plain_case_arm-out, plain_handler-out, plain_body-out}
use Rattle.ada_tree.specs.declared.statements.ParMode.{ParMode}
use Rattle.ada_tree.specs.declared.statements.ParMode.TheVariants.{Take, Give, Both}
use Rattle.ada_tree.specs.PlainExpr.{PExpr, plain_expr, EInteger, EName, EIndex, EAttribute, EAttributeOf, EParen, EUnary, EBinary, PBounds, PSubind, PDrange, RGiven, RMarked}
use Rattle.ada_tree.specs.PlainStmt.{PTarget, PCallee, PArgs, PCall, PFormal, PPart, PWords, PValue, PChoice, PScheme, LWhile, LFor, PHead, PStmt, SNull, SAssign, SDelay, SExit, SRaise, SAbort, SCall, SAccept, SWait, SConditional, STimed, SPut, SPutLine, SNewLine, SGet, SIf, SCase, SBlock, SLoop, PStmts, PMaybe, PAlts, PArms, PCaseArms, PAccept, accepting, PAlt, alternative, PAltKind, PArm, arm, PCaseArm, case_arm, PHandler, handler, alts_of, arms_of, case_arms_of, handlers_of, seen, seen_maybe, plain_formal, plain_choice, plain_scheme, plain_accept, plain_alt, plain_alt_kind, plain_arm, plain_case_arm, plain_handler, plain_body}
use Rattle.ada_static_rules.specs.Scope.{Scope, Range, Family, single, family, unclear, EntryPart, FormalPart, marking, scalar_kind, meaning, entry_named}
use Rattle.ada_static_rules.specs.ExprTypes.{nodes, kind_of}
use Rattle.ada_static_rules.specs.Demand.{MarkUse, scalar_only, Demand, node, must_be_static, must_be_of, must_be_alike, must_not_be_empty, must_lie_in, accepts, calls, chooses, labels, is_written, Site}
use Rattle.ada_static_rules.specs.Declaring.{with_formals, inner_scope}
use Rattle.ada_static_rules.specs.RuleTextUse.{is_image_of}
use Rattle.ada_static_rules.specs.RuleDuplicate.{is_among}
use Rattle.ada_static_rules.specs.RuleArgCount.{called_entry}
use Rattle.ada_static_rules.specs.RuleChoiceBad.{selected_range}
use Rattle.ada_static_rules.specs.Sites.{site, if_there, expr_sites, expr_of, static_of, static_if, bounds_sites, constraint_sites, mark_sites, subind_sites, drange_sites, target_sites, callee_sites, written_actual_sites, actual_sites, actuals_sites, free_args_sites, args_sites, call_sites, accept_index_sites, head_sites, formals_sites, formal_mark_sites, all_names, names_sites, part_nodes, plain_part_sites, part_sites, condition_sites, choice_sites, arm_choices, is_present, handler_names_sites, with_words, scheme_sites, loop_scope, stmt_sites, stmts_sites, maybe_sites, accept_sites, alts_sites, alt_sites, arms_sites, case_arms_sites, handlers_sites, body_sites}
use Rattle.ada_decl_rules.specs.duplicates.inner.Noted.{alt_places, arm_places, case_arm_places, handler_places, handler_words}
use Rattle.ada_decl_rules.specs.duplicates.NamingsInOrder.{naming_in, and_then, namings_of, Named, declared, named_once}
use Rattle.ada_decl_rules.specs.declared.duplicates.namings_in_order.Naming.{Naming}
use Rattle.ada_decl_rules.specs.declared.duplicates.namings_in_order.Naming.TheVariants.{Declares, Labels, Once}
use Rattle.std.proofs.lemmas.List.{drop_more}

-- ---- one list behind the other

naming_append : (o : Option Naming) (xs ys : List Naming) → and_then o (xs ++ ys) ≡ and_then o xs ++ ys
naming_append None xs ys = refl
naming_append (Some n) xs ys = refl

pub namings_append : (xs ys : List Site) → namings_of (xs ++ ys) ≡ namings_of xs ++ namings_of ys
unfolding namings_of
namings_append [] ys = refl
namings_append (s ∷ xs) ys = ap (and_then (naming_in s.scope s.demand)) (namings_append xs ys) ∙ naming_append (naming_in s.scope s.demand) (namings_of xs) (namings_of ys)

pub named_then : (a b c : List Naming) (f g : Scope → List Site) → Named a b f → Named b c g → Named a c (λ s. f s ++ g s)
unfolding Named
named_then a b c f g p q = λ s. q s ∙ ap (λ l. l ++ namings_of (g s)) (p s) ∙ append_assoc a (namings_of (f s)) (namings_of (g s)) ∙ ap (λ l. a ++ l) (sym (namings_append (f s) (g s)))

-- places at which nothing is named
abbrev pub IsQuiet : (Scope → List Site) → Type 0
IsQuiet f = (s : Scope) → namings_of (f s) ≡ []

pub named_quiet : (a : List Naming) (f : Scope → List Site) → IsQuiet f → Named a a f
unfolding Named
named_quiet a f q = λ s. sym (append-nil a) ∙ ap (λ l. a ++ l) (sym (q s))

pub named_behind : (a b : List Naming) (f g : Scope → List Site) → IsQuiet f → Named a b g → Named a b (λ s. f s ++ g s)
named_behind a b f g q p = named_then a a b f g (named_quiet a f q) p

pub named_before : (a b : List Naming) (f g : Scope → List Site) → Named a b f → IsQuiet g → Named a b (λ s. f s ++ g s)
named_before a b f g p q = named_then a b b f g p (named_quiet b g q)

-- whatever else can be used at the places
pub named_in : (a b : List Naming) (f : Scope → List Site) (h : Scope → Scope) → Named a b f → Named a b (λ s. f (h s))
unfolding Named
named_in a b f h p = λ s. p (h s)

-- ---- quiet places

pub quiet_none : namings_of [] ≡ []
unfolding namings_of
quiet_none = refl

pub quiet_site : (scope : Scope) (d : Demand) (rest : List Site) → naming_in scope d ≡ None → namings_of rest ≡ [] → namings_of (site scope d ∷ rest) ≡ []
unfolding namings_of
quiet_site scope d rest h q = ap (λ o. and_then o (namings_of rest)) h ∙ q

pub quiet_one : (scope : Scope) (d : Demand) → naming_in scope d ≡ None → namings_of (site scope d ∷ []) ≡ []
quiet_one scope d h = quiet_site scope d [] h quiet_none

pub quiet_append : (xs ys : List Site) → namings_of xs ≡ [] → namings_of ys ≡ [] → namings_of (xs ++ ys) ≡ []
quiet_append xs ys p q = namings_append xs ys ∙ ap (λ l. l ++ namings_of ys) p ∙ q

pub quiet_there : {A : Type 0} (f : A → List Site) (o : Option A) → ((x : A) → namings_of (f x) ≡ []) → namings_of (if_there f o) ≡ []
quiet_there f (Some x) q = q x
quiet_there f None q = quiet_none

pub quiet_flat : {A : Type 0} (f : A → List Site) (xs : List A) → ((x : A) → namings_of (f x) ≡ []) → namings_of (flat_map f xs) ≡ []
quiet_flat f [] q = quiet_none
quiet_flat f (x ∷ xs) q = quiet_append (f x) (flat_map f xs) (q x) (quiet_flat f xs q)

pub quiet_nodes : (scope : Scope) (es : List PExpr) → namings_of (map (λ n. site scope (node false n)) es) ≡ []
quiet_nodes scope [] = quiet_none
quiet_nodes scope (e ∷ es) = quiet_site scope (node false e) (map (λ n. site scope (node false n)) es) refl (quiet_nodes scope es)

pub quiet_expr : (scope : Scope) (e : PExpr) → namings_of (expr_sites scope e) ≡ []
quiet_expr scope e = quiet_site scope _ (map (λ n. site scope (node false n)) (nodes e)) refl (quiet_nodes scope (nodes e))

pub quiet_of : (scope : Scope) (k : Option ℕ) (e : PExpr) → namings_of (expr_of scope k e) ≡ []
quiet_of scope k e = quiet_append (expr_sites scope e) (site scope (must_be_of e k) ∷ []) (quiet_expr scope e) (quiet_one scope (must_be_of e k) refl)

pub quiet_static : (scope : Scope) (k : Option ℕ) (e : PExpr) → namings_of (static_of scope k e) ≡ []
quiet_static scope k e = quiet_append (expr_of scope k e) (site scope (must_be_static e) ∷ []) (quiet_of scope k e) (quiet_one scope (must_be_static e) refl)

pub quiet_static_if : (static : Bool) (scope : Scope) (e : PExpr) → namings_of (static_if static scope e) ≡ []
quiet_static_if true scope e = quiet_one scope (must_be_static e) refl
quiet_static_if false scope e = quiet_none

pub quiet_bounds : (static : Bool) (scope : Scope) (b : PBounds) → namings_of (bounds_sites static scope b) ≡ []
quiet_bounds static scope b =
    quiet_append (expr_sites scope b.first ++ static_if static scope b.first ++ expr_sites scope b.last ++ static_if static scope b.last) (site scope (must_not_be_empty b.first b.last) ∷ [])
    (quiet_append (expr_sites scope b.first ++ static_if static scope b.first ++ expr_sites scope b.last) (static_if static scope b.last)
    (quiet_append (expr_sites scope b.first ++ static_if static scope b.first) (expr_sites scope b.last)
    (quiet_append (expr_sites scope b.first) (static_if static scope b.first) (quiet_expr scope b.first) (quiet_static_if static scope b.first))
    (quiet_expr scope b.last))
    (quiet_static_if static scope b.last))
    (quiet_one scope (must_not_be_empty b.first b.last) refl)

pub quiet_constraint : (static : Bool) (scope : Scope) (k : Option ℕ) (b : PBounds) → namings_of (constraint_sites static scope k b) ≡ []
quiet_constraint static scope k b =
    quiet_append (bounds_sites static scope b) (site scope (must_be_of b.first k) ∷ site scope (must_be_of b.last k) ∷ []) (quiet_bounds static scope b)
    (quiet_site scope (must_be_of b.first k) (site scope (must_be_of b.last k) ∷ []) refl (quiet_one scope (must_be_of b.last k) refl))

pub quiet_subind : (static : Bool) (allowed : MarkUse) (scope : Scope) (x : PSubind) → namings_of (subind_sites static allowed scope x) ≡ []
quiet_subind static allowed scope x =
    quiet_append (mark_sites allowed scope x.mark) (if_there (constraint_sites static scope (scalar_kind (marking scope x.mark.name))) x.bounds)
    (quiet_one scope _ refl)
    (quiet_there (constraint_sites static scope (scalar_kind (marking scope x.mark.name))) x.bounds (quiet_constraint static scope (scalar_kind (marking scope x.mark.name))))

pub quiet_drange : (static : Bool) (scope : Scope) (x : PDrange) → namings_of (drange_sites static scope x) ≡ []
quiet_drange static scope (RGiven b) = quiet_append (bounds_sites static scope b) (site scope (must_be_alike b.first b.last) ∷ []) (quiet_bounds static scope b) (quiet_one scope (must_be_alike b.first b.last) refl)
quiet_drange static scope (RMarked x) = quiet_subind static scalar_only scope x

pub quiet_target : (scope : Scope) (t : PTarget) → namings_of (target_sites scope t) ≡ []
quiet_target scope t = quiet_site scope _ (if_there (expr_sites scope) t.index) refl (quiet_there (expr_sites scope) t.index (quiet_expr scope))

pub quiet_callee : (scope : Scope) (c : PCallee) → namings_of (callee_sites scope c) ≡ []
quiet_callee scope c = quiet_site scope _ (if_there (expr_sites scope) c.index) refl (quiet_there (expr_sites scope) c.index (quiet_expr scope))

pub quiet_written : (scope : Scope) (mode : ParMode) (e : PExpr) → namings_of (written_actual_sites scope mode e) ≡ []
quiet_written scope mode (EName id s) = quiet_one scope _ refl
quiet_written scope mode (EInteger n s) = quiet_site scope _ (expr_sites scope (EInteger n s)) refl (quiet_expr scope (EInteger n s))
quiet_written scope mode (EIndex w e s) = quiet_site scope _ (expr_sites scope (EIndex w e s)) refl (quiet_expr scope (EIndex w e s))
quiet_written scope mode (EAttribute m w s) = quiet_site scope _ (expr_sites scope (EAttribute m w s)) refl (quiet_expr scope (EAttribute m w s))
quiet_written scope mode (EAttributeOf m w e s) = quiet_site scope _ (expr_sites scope (EAttributeOf m w e s)) refl (quiet_expr scope (EAttributeOf m w e s))
quiet_written scope mode (EParen e s) = quiet_site scope _ (expr_sites scope (EParen e s)) refl (quiet_expr scope (EParen e s))
quiet_written scope mode (EUnary op e s) = quiet_site scope _ (expr_sites scope (EUnary op e s)) refl (quiet_expr scope (EUnary op e s))
quiet_written scope mode (EBinary op l r s) = quiet_site scope _ (expr_sites scope (EBinary op l r s)) refl (quiet_expr scope (EBinary op l r s))

pub quiet_actual : (scope : Scope) (mode : ParMode) (e : PExpr) → namings_of (actual_sites scope mode e) ≡ []
quiet_actual scope Take e = quiet_expr scope e
quiet_actual scope Give e = quiet_written scope Give e
quiet_actual scope Both e = quiet_written scope Both e

pub quiet_actuals : (scope : Scope) (formals : List FormalPart) (es : List PExpr) → namings_of (actuals_sites scope formals es) ≡ []
quiet_actuals scope formals [] = quiet_none
quiet_actuals scope [] (e ∷ es) = quiet_append (expr_sites scope e) (actuals_sites scope [] es) (quiet_expr scope e) (quiet_actuals scope [] es)
quiet_actuals scope (f ∷ fs) (e ∷ es) =
    quiet_append (actual_sites scope f.mode e) (site scope (must_be_of e f.kind) ∷ actuals_sites scope fs es) (quiet_actual scope f.mode e)
    (quiet_site scope (must_be_of e f.kind) (actuals_sites scope fs es) refl (quiet_actuals scope fs es))

pub quiet_free : (scope : Scope) (args : PArgs) → namings_of (free_args_sites scope args) ≡ []
quiet_free scope args =
    quiet_append (flat_map (expr_sites scope) args.first) (if_there (flat_map (expr_sites scope)) args.second) (quiet_flat (expr_sites scope) args.first (quiet_expr scope))
    (quiet_there (flat_map (expr_sites scope)) args.second (λ es. quiet_flat (expr_sites scope) es (quiet_expr scope)))

pub quiet_args : (scope : Scope) (entry : EntryPart) (f : Family) (args : PArgs) → namings_of (args_sites scope (Some record { name = entry.name; family = f; formals = entry.formals }) args) ≡ []
quiet_args scope entry single args =
    quiet_append (actuals_sites scope entry.formals args.first) (if_there (flat_map (expr_sites scope)) args.second) (quiet_actuals scope entry.formals args.first)
    (quiet_there (flat_map (expr_sites scope)) args.second (λ es. quiet_flat (expr_sites scope) es (quiet_expr scope)))
quiet_args scope entry (family range) args =
    quiet_append (flat_map (expr_of scope (Some range.kind)) args.first) (if_there (actuals_sites scope entry.formals) args.second) (quiet_flat (expr_of scope (Some range.kind)) args.first (quiet_of scope (Some range.kind)))
    (quiet_there (actuals_sites scope entry.formals) args.second (quiet_actuals scope entry.formals))
quiet_args scope entry unclear args = quiet_free scope args

pub quiet_lists : (scope : Scope) (o : Option EntryPart) (args : PArgs) → namings_of (args_sites scope o args) ≡ []
quiet_lists scope (Some entry) args = quiet_args scope entry entry.family args
quiet_lists scope None args = quiet_free scope args

pub quiet_call : (scope : Scope) (c : PCall) → namings_of (call_sites scope c) ≡ []
quiet_call scope c =
    let entry = called_entry (meaning scope c.task.name.name) c.entry.name in
    quiet_append (callee_sites scope c.task) (site scope (calls c) ∷ if_there (args_sites scope entry) c.args) (quiet_callee scope c.task)
    (quiet_site scope (calls c) (if_there (args_sites scope entry) c.args) refl (quiet_there (args_sites scope entry) c.args (quiet_lists scope entry)))

pub quiet_range_index : (scope : Scope) (entry : EntryPart) (f : Family) (e : PExpr) → namings_of (accept_index_sites scope (Some record { name = entry.name; family = f; formals = entry.formals }) e) ≡ []
quiet_range_index scope entry single e = quiet_expr scope e
quiet_range_index scope entry (family range) e = quiet_append (expr_of scope (Some range.kind) e) (site scope (must_lie_in e (Some range)) ∷ []) (quiet_of scope (Some range.kind) e) (quiet_one scope (must_lie_in e (Some range)) refl)
quiet_range_index scope entry unclear e = quiet_expr scope e

pub quiet_index : (scope : Scope) (o : Option EntryPart) (e : PExpr) → namings_of (accept_index_sites scope o e) ≡ []
quiet_index scope (Some entry) e = quiet_range_index scope entry entry.family e
quiet_index scope None e = quiet_expr scope e

pub quiet_plain_test : (scope : Scope) (e : PExpr) (b : Bool) → namings_of (if b then [] else site scope (must_be_of e (Some 0)) ∷ []) ≡ []
quiet_plain_test scope e true = quiet_none
quiet_plain_test scope e false = quiet_one scope (must_be_of e (Some 0)) refl

pub quiet_plain_part : (scope : Scope) (alone : Bool) (e : PExpr) → namings_of (plain_part_sites scope alone e) ≡ []
quiet_plain_part scope true e = quiet_plain_test scope e (is_image_of e)
quiet_plain_part scope false e = quiet_none

pub quiet_written_nodes : (scope : Scope) (e : PExpr) → namings_of (part_nodes scope e) ≡ []
quiet_written_nodes scope (EInteger n s) = quiet_one scope _ refl
quiet_written_nodes scope (EName id s) = quiet_one scope _ refl
quiet_written_nodes scope (EIndex w e s) = quiet_site scope _ (map (λ n. site scope (node false n)) (nodes e)) refl (quiet_nodes scope (nodes e))
quiet_written_nodes scope (EAttribute m w s) = quiet_one scope _ refl
quiet_written_nodes scope (EAttributeOf m w e s) = quiet_site scope _ (map (λ n. site scope (node false n)) (nodes e)) refl (quiet_nodes scope (nodes e))
quiet_written_nodes scope (EParen e s) = quiet_site scope _ (map (λ n. site scope (node false n)) (nodes e)) refl (quiet_nodes scope (nodes e))
quiet_written_nodes scope (EUnary op e s) = quiet_site scope _ (map (λ n. site scope (node false n)) (nodes e)) refl (quiet_nodes scope (nodes e))
quiet_written_nodes scope (EBinary op l r s) = quiet_site scope _ (map (λ n. site scope (node false n)) (nodes l ++ nodes r)) refl (quiet_nodes scope (nodes l ++ nodes r))

pub quiet_part : (scope : Scope) (alone : Bool) (p : PPart) → namings_of (part_sites scope alone p) ≡ []
quiet_part scope alone (PWords text s) = quiet_none
quiet_part scope alone (PValue e) =
    quiet_site scope _ (part_nodes scope e ++ site scope (is_written alone e) ∷ plain_part_sites scope alone e) refl
    (quiet_append (part_nodes scope e) (site scope (is_written alone e) ∷ plain_part_sites scope alone e) (quiet_written_nodes scope e)
    (quiet_site scope (is_written alone e) (plain_part_sites scope alone e) refl (quiet_plain_part scope alone e)))

pub quiet_last : (scope : Scope) (k : Option ℕ) (range : Option Range) (first e : PExpr) → namings_of (static_of scope k e ++ site scope (must_lie_in e range) ∷ site scope (must_not_be_empty first e) ∷ []) ≡ []
quiet_last scope k range first e =
    quiet_append (static_of scope k e) (site scope (must_lie_in e range) ∷ site scope (must_not_be_empty first e) ∷ []) (quiet_static scope k e)
    (quiet_site scope (must_lie_in e range) (site scope (must_not_be_empty first e) ∷ []) refl (quiet_one scope (must_not_be_empty first e) refl))

pub quiet_choice : (scope : Scope) (k : Option ℕ) (range : Option Range) (c : PChoice) → namings_of (choice_sites scope k range c) ≡ []
quiet_choice scope k range c =
    let last : PExpr → List Site = λ e. static_of scope k e ++ site scope (must_lie_in e range) ∷ site scope (must_not_be_empty c.first e) ∷ [] in
    quiet_append (static_of scope k c.first) (site scope (must_lie_in c.first range) ∷ if_there last c.last) (quiet_static scope k c.first)
    (quiet_site scope (must_lie_in c.first range) (if_there last c.last) refl (quiet_there last c.last (quiet_last scope k range c.first)))

-- ---- statements

-- a statement in which no other one and no scope stands
abbrev pub is_leaf : PStmt → Bool
is_leaf (SAccept a s) = false
is_leaf (SWait x o s) = false
is_leaf (SConditional c b o s) = false
is_leaf (STimed c b d a s) = false
is_leaf (SIf x o s) = false
is_leaf (SCase e x o s) = false
is_leaf (SBlock b s) = false
is_leaf (SLoop w c l s) = false
is_leaf _ = true

pub quiet_leaf : (x : PStmt) → is_leaf x ≡ true → (scope : Scope) → namings_of (stmt_sites scope x) ≡ []
quiet_leaf (SNull s) h scope = quiet_none
quiet_leaf (SAssign t e s) h scope = quiet_append (target_sites scope t) (expr_of scope _ e) (quiet_target scope t) (quiet_of scope _ e)
quiet_leaf (SDelay d s) h scope = quiet_none
quiet_leaf (SExit w e s) h scope = quiet_there (condition_sites scope) e (quiet_of scope (Some 1))
quiet_leaf (SRaise w s) h scope = quiet_there _ w (λ x. quiet_one scope _ refl)
quiet_leaf (SAbort cs s) h scope = quiet_flat (callee_sites scope) cs (quiet_callee scope)
quiet_leaf (SCall c s) h scope = quiet_call scope c
quiet_leaf (SPut ps s) h scope = quiet_flat (part_sites scope (length ps == 1)) ps (quiet_part scope (length ps == 1))
quiet_leaf (SPutLine ps s) h scope = quiet_flat (part_sites scope false) ps (quiet_part scope false)
quiet_leaf (SNewLine s) h scope = quiet_none
quiet_leaf (SGet t s) h scope = quiet_append (target_sites scope t) (site scope _ ∷ []) (quiet_target scope t) (quiet_one scope _ refl)
quiet_leaf (SAccept a s) h scope = absurd (false≢true h)
quiet_leaf (SWait x o s) h scope = absurd (false≢true h)
quiet_leaf (SConditional c b o s) h scope = absurd (false≢true h)
quiet_leaf (STimed c b d a s) h scope = absurd (false≢true h)
quiet_leaf (SIf x o s) h scope = absurd (false≢true h)
quiet_leaf (SCase e x o s) h scope = absurd (false≢true h)
quiet_leaf (SBlock b s) h scope = absurd (false≢true h)
quiet_leaf (SLoop w c l s) h scope = absurd (false≢true h)

pub leaf_named : (x : PStmt) (a : List Naming) → is_leaf x ≡ true → Named a a (λ s. stmt_sites s x)
leaf_named x a h = named_quiet a (λ s. stmt_sites s x) (quiet_leaf x h)

-- ---- names of one scope

pub declared_are : (fixed : Bool) (s : Scope) (here : List ℕ) (ws : List Word) → namings_of (names_sites fixed (record s { here = here }) ws) ≡ declared fixed here ws
unfolding namings_of
declared_are fixed s here [] = refl
declared_are fixed s here (w ∷ ws) = ap (λ l. Declares fixed (is_among here w.name.0) w ∷ l) (declared_are fixed s (w.name.0 ∷ here) ws)

pub once_are : (s : Scope) (names : List ℕ) (ws : List Word) → namings_of (handler_names_sites s names ws) ≡ named_once names ws
unfolding namings_of
once_are s names [] = refl
once_are s names (w ∷ ws) = ap (λ l. Once (is_among names w.name.0) w ∷ l) (once_are s (w.name.0 ∷ names) ws)

pub declared_append : (fixed : Bool) (here : List ℕ) (xs ys : List Word) → declared fixed here (xs ++ ys) ≡ declared fixed here xs ++ declared fixed (with_words here xs) ys
declared_append fixed here [] ys = refl
declared_append fixed here (w ∷ ws) ys = ap (λ l. Declares fixed (is_among here w.name.0) w ∷ l) (declared_append fixed (w.name.0 ∷ here) ws ys)

pub quiet_formal_marks : (scope : Scope) (formals : List PFormal) → namings_of (formal_mark_sites scope formals) ≡ []
quiet_formal_marks scope formals = quiet_flat (λ f. mark_sites scalar_only scope f.mark) formals (λ f. quiet_one scope _ refl)

pub formals_named : (a b : List Naming) (formals : List PFormal) → b ≡ a ++ declared false [] (all_names formals) → Named a b (λ s. formals_sites s formals)
unfolding Named
formals_named a b formals h = λ s.
    h
    ∙ ap (λ l. a ++ l) (sym (append-nil (declared false [] (all_names formals))))
    ∙ ap (λ l. a ++ (l ++ [])) (sym (declared_are false s [] (all_names formals)))
    ∙ ap (λ l. a ++ (namings_of (names_sites false (inner_scope s) (all_names formals)) ++ l)) (sym (quiet_formal_marks s formals))
    ∙ ap (λ l. a ++ l) (sym (namings_append (names_sites false (inner_scope s) (all_names formals)) (formal_mark_sites s formals)))

pub exceptions_named : (a b : List Naming) (names : List ℕ) (ws : List Word) → b ≡ a ++ named_once names ws → Named a b (λ s. handler_names_sites s names ws)
unfolding Named
exceptions_named a b names ws h = λ s. h ∙ ap (λ l. a ++ l) (sym (once_are s names ws))

pub label_named : (a : List Naming) (w : Word) → Named a (a ++ Labels w ∷ []) (λ s. site s (labels w) ∷ [])
unfolding Named namings_of
label_named a w = λ s. refl

pub none_named : (a : List Naming) → Named a a (λ s. [])
none_named a = named_quiet a (λ s. []) (λ s. quiet_none)

pub parameter_named : (a : List Naming) (w : Word) → Named a (a ++ Declares false false w ∷ []) (λ s. names_sites false (inner_scope s) (w ∷ []))
unfolding Named namings_of
parameter_named a w = λ s. refl

pub counted_named : (a : List Naming) (w : Word) (r : Bool) (x : PDrange) → Named a (a ++ Declares false false w ∷ []) (λ s. scheme_sites s (LFor w r x))
counted_named a w r x =
    named_before a (a ++ Declares false false w ∷ []) (λ s. names_sites false (inner_scope s) (w ∷ [])) (λ s. drange_sites false s x) (parameter_named a w) (λ s. quiet_drange false s x)

pub while_named : (a : List Naming) (e : PExpr) → Named a a (λ s. scheme_sites s (LWhile e))
while_named a e = named_quiet a (λ s. scheme_sites s (LWhile e)) (λ s. quiet_of s (Some 1) e)

-- ---- compound statements

pub accept_named : (a b c : List Naming) (h : PHead) (o : PMaybe) → Named a b (λ s. formals_sites s h.formals) → Named b c (λ s. maybe_sites s o) → Named a c (λ s. accept_sites s (accepting h o))
accept_named a b c h o p q =
    named_then a b c (λ s. head_sites s h) (λ s. maybe_sites (with_formals (inner_scope s) h.formals) o)
    (named_behind a b (λ s. site s (accepts h) ∷ if_there (accept_index_sites s (entry_named s.own h.entry.name)) h.index) (λ s. formals_sites s h.formals)
    (λ s. quiet_site s (accepts h) (if_there (accept_index_sites s (entry_named s.own h.entry.name)) h.index) refl (quiet_there (accept_index_sites s (entry_named s.own h.entry.name)) h.index (quiet_index s (entry_named s.own h.entry.name)))) p)
    (named_in b c (λ s. maybe_sites s o) (λ s. with_formals (inner_scope s) h.formals) q)

pub wait_named : (a b c : List Naming) (x : PAlts) (o : PMaybe) → Named a b (λ s. alts_sites s x) → Named b c (λ s. maybe_sites s o) → Named a c (λ s. alts_sites s x ++ maybe_sites s o)
wait_named a b c x o p q = named_then a b c (λ s. alts_sites s x) (λ s. maybe_sites s o) p q

pub if_named : (a b c : List Naming) (x : PArms) (o : PMaybe) → Named a b (λ s. arms_sites s x) → Named b c (λ s. maybe_sites s o) → Named a c (λ s. arms_sites s x ++ maybe_sites s o)
if_named a b c x o p q = named_then a b c (λ s. arms_sites s x) (λ s. maybe_sites s o) p q

pub branches_named : (a b c : List Naming) (call : PCall) (x y : PStmts) → Named a b (λ s. stmts_sites s x) → Named b c (λ s. stmts_sites s y) → Named a c (λ s. call_sites s call ++ stmts_sites s x ++ stmts_sites s y)
branches_named a b c call x y p q =
    named_then a b c (λ s. call_sites s call ++ stmts_sites s x) (λ s. stmts_sites s y) (named_behind a b (λ s. call_sites s call) (λ s. stmts_sites s x) (λ s. quiet_call s call) p) q

case_inside : (a b : List Naming) (e : PExpr) (x : PCaseArms) → ((k : Option ℕ) (range : Option Range) → Named a b (λ s. case_arms_sites s k range x)) → Named a b (λ s. case_arms_sites s (kind_of s e) (selected_range s e) x)
unfolding Named
case_inside a b e x p = λ s. p (kind_of s e) (selected_range s e) s

pub case_named : (a b c : List Naming) (e : PExpr) (x : PCaseArms) (o : PMaybe) (all : Demand) → ((s : Scope) → naming_in s all ≡ None) → ((k : Option ℕ) (range : Option Range) → Named a b (λ s. case_arms_sites s k range x)) → Named b c (λ s. maybe_sites s o)
    → Named a c (λ s. site s all ∷ expr_sites s e ++ case_arms_sites s (kind_of s e) (selected_range s e) x ++ maybe_sites s o)
case_named a b c e x o all h p q =
    named_then a b c (λ s. site s all ∷ expr_sites s e ++ case_arms_sites s (kind_of s e) (selected_range s e) x) (λ s. maybe_sites s o)
    (named_behind a b (λ s. site s all ∷ expr_sites s e) (λ s. case_arms_sites s (kind_of s e) (selected_range s e) x) (λ s. quiet_site s all (expr_sites s e) (h s) (quiet_expr s e)) (case_inside a b e x p)) q

pub loop_named : (a b c d : List Naming) (w : Option Word) (scheme : Option PScheme) (l : PStmts) → Named a b (λ s. if_there (λ x. site s (labels x) ∷ []) w) → Named b c (λ s. if_there (scheme_sites s) scheme) → Named c d (λ s. stmts_sites s l)
    → Named a d (λ s. if_there (λ x. site s (labels x) ∷ []) w ++ if_there (scheme_sites s) scheme ++ stmts_sites (loop_scope s scheme) l)
loop_named a b c d w scheme l p q r =
    named_then a c d (λ s. if_there (λ x. site s (labels x) ∷ []) w ++ if_there (scheme_sites s) scheme) (λ s. stmts_sites (loop_scope s scheme) l)
    (named_then a b c (λ s. if_there (λ x. site s (labels x) ∷ []) w) (λ s. if_there (scheme_sites s) scheme) p q)
    (named_in c d (λ s. stmts_sites s l) (λ s. loop_scope s scheme) r)

-- ---- lists

-- a member, and those behind it
pub member_named : {X P : Type 0} (plain : X → P) (each : Scope → List Site) (all rest : Scope → List P → List Site) (xs : List X) (i : ℕ) (x : X) → i < length xs → x ≡ get_or xs i x
    → ((s : Scope) (ps : List P) → all s (plain x ∷ ps) ≡ each s ++ rest s ps)
    → (a b c : List Naming) → Named a b each → Named b c (λ s. rest s (map plain (drop (i + 1) xs))) → Named a c (λ s. all s (map plain (drop i xs)))
unfolding Named
member_named plain each all rest xs i x h is law a b c p q = λ s.
    named_then a b c each (λ t. rest t (map plain (drop (i + 1) xs))) p q s
    ∙ ap (λ l. a ++ namings_of l) (sym (law s (map plain (drop (i + 1) xs))))
    ∙ ap (λ y. a ++ namings_of (all s (map plain (y ∷ drop (i + 1) xs)))) is
    ∙ ap (λ l. a ++ namings_of (all s (map plain l))) (sym (drop_more xs i x h))

pub members_over : {X P : Type 0} (plain : X → P) (whole : Scope → List P → List Site) (xs : List X) (i : ℕ) → length xs ≤ i → ((s : Scope) → whole s [] ≡ []) → (a : List Naming) → Named a a (λ s. whole s (map plain (drop i xs)))
members_over plain whole xs i h law a = named_quiet a (λ s. whole s (map plain (drop i xs))) (λ s. ap (λ l. namings_of (whole s (map plain l))) (drop_of_length-le xs h) ∙ ap namings_of (law s) ∙ quiet_none)

-- ---- words, one after the other

pub word_more : (fixed : Bool) (now grown total : List Naming) (here here' : List ℕ) (ws : List Word) (i : ℕ) (d : Word) → i < length ws
    → grown ≡ now ++ declared fixed here (get_or ws i d ∷ []) → here' ≡ (get_or ws i d).name.0 ∷ here
    → now ++ declared fixed here (drop i ws) ≡ total → grown ++ declared fixed here' (drop (i + 1) ws) ≡ total
word_more fixed now grown total here here' ws i d h g e before =
    ap (λ l. l ++ declared fixed here' (drop (i + 1) ws)) g
    ∙ ap (λ l. (now ++ declared fixed here (get_or ws i d ∷ [])) ++ declared fixed l (drop (i + 1) ws)) e
    ∙ append_assoc now (declared fixed here (get_or ws i d ∷ [])) (declared fixed ((get_or ws i d).name.0 ∷ here) (drop (i + 1) ws))
    ∙ ap (λ l. now ++ declared fixed here l) (sym (drop_more ws i d h))
    ∙ before

pub once_more : (now grown total : List Naming) (names names' : List ℕ) (ws : List Word) (i : ℕ) (d : Word) → i < length ws
    → grown ≡ now ++ named_once names (get_or ws i d ∷ []) → names' ≡ (get_or ws i d).name.0 ∷ names
    → now ++ named_once names (drop i ws) ≡ total → grown ++ named_once names' (drop (i + 1) ws) ≡ total
once_more now grown total names names' ws i d h g e before =
    ap (λ l. l ++ named_once names' (drop (i + 1) ws)) g
    ∙ ap (λ l. (now ++ named_once names (get_or ws i d ∷ [])) ++ named_once l (drop (i + 1) ws)) e
    ∙ append_assoc now (named_once names (get_or ws i d ∷ [])) (named_once ((get_or ws i d).name.0 ∷ names) (drop (i + 1) ws))
    ∙ ap (λ l. now ++ named_once names l) (sym (drop_more ws i d h))
    ∙ before

pub words_more : (here here' total : List ℕ) (ws : List Word) (i : ℕ) (d : Word) → i < length ws → here' ≡ (get_or ws i d).name.0 ∷ here → with_words here (drop i ws) ≡ total → with_words here' (drop (i + 1) ws) ≡ total
words_more here here' total ws i d h e before = ap (λ l. with_words l (drop (i + 1) ws)) e ∙ ap (with_words here) (sym (drop_more ws i d h)) ∙ before

pub declared_over : (fixed : Bool) (now total : List Naming) (here : List ℕ) (ws : List Word) (i : ℕ) → length ws ≤ i → now ++ declared fixed here (drop i ws) ≡ total → now ≡ total
declared_over fixed now total here ws i h before = sym (append-nil now) ∙ ap (λ l. now ++ declared fixed here l) (sym (drop_of_length-le ws h)) ∙ before

pub once_over : (now total : List Naming) (names : List ℕ) (ws : List Word) (i : ℕ) → length ws ≤ i → now ++ named_once names (drop i ws) ≡ total → now ≡ total
once_over now total names ws i h before = sym (append-nil now) ∙ ap (λ l. now ++ named_once names l) (sym (drop_of_length-le ws h)) ∙ before

pub words_over : (here total : List ℕ) (ws : List Word) (i : ℕ) → length ws ≤ i → with_words here (drop i ws) ≡ total → here ≡ total
words_over here total ws i h before = ap (with_words here) (sym (drop_of_length-le ws h)) ∙ before

-- the formals, one declaration after the other
pub formal_more : (now grown total : List Naming) (here here' : List ℕ) (fs : List Formal) (i : ℕ) (f : Formal) (ws : List Word) → i < length fs → f ≡ get_or fs i f → ws ≡ f.names.items
    → grown ≡ now ++ declared false here ws → here' ≡ with_words here ws
    → now ++ declared false here (all_names (map plain_formal (drop i fs))) ≡ total → grown ++ declared false here' (all_names (map plain_formal (drop (i + 1) fs))) ≡ total
formal_more now grown total here here' fs i f ws h is are g e before =
    let rest : List Word = all_names (map plain_formal (drop (i + 1) fs)) in
    ap (λ l. l ++ declared false here' rest) g
    ∙ ap (λ l. (now ++ declared false here ws) ++ declared false l rest) e
    ∙ append_assoc now (declared false here ws) (declared false (with_words here ws) rest)
    ∙ ap (λ l. now ++ l) (sym (declared_append false here ws rest))
    ∙ ap (λ l. now ++ declared false here (l ++ rest)) are
    ∙ ap (λ x. now ++ declared false here (all_names (map plain_formal (x ∷ drop (i + 1) fs)))) is
    ∙ ap (λ l. now ++ declared false here (all_names (map plain_formal l))) (sym (drop_more fs i f h))
    ∙ before

pub formals_over : (now total : List Naming) (here : List ℕ) (fs : List Formal) (i : ℕ) → length fs ≤ i → now ++ declared false here (all_names (map plain_formal (drop i fs))) ≡ total → now ≡ total
formals_over now total here fs i h before = sym (append-nil now) ∙ ap (λ l. now ++ declared false here (all_names (map plain_formal l))) (sym (drop_of_length-le fs h)) ∙ before

-- ---- the tree of the code

pub labelled : (a b : List Naming) (o : Option Word) (w : Word) → o ≡ Some w → b ≡ a ++ Labels w ∷ [] → Named a b (λ s. if_there (λ x. site s (labels x) ∷ []) o)
labelled a b o w h g =
    subst (λ l. Named a l (λ s. if_there (λ x. site s (labels x) ∷ []) o)) (sym g)
    (subst (λ y. Named a (a ++ Labels w ∷ []) (λ s. if_there (λ x. site s (labels x) ∷ []) y)) (sym h) (label_named a w))

pub unlabelled : (a : List Naming) (o : Option Word) → o ≡ None → Named a a (λ s. if_there (λ x. site s (labels x) ∷ []) o)
unlabelled a o h = subst (λ y. Named a a (λ s. if_there (λ x. site s (labels x) ∷ []) y)) (sym h) (none_named a)

pub with_scheme : (a b : List Naming) (o : Option Scheme) (x : Scheme) (p : PScheme) → o ≡ Some x → plain_scheme x ≡ p → Named a b (λ s. scheme_sites s p) → Named a b (λ s. if_there (scheme_sites s) (option_map plain_scheme o))
with_scheme a b o x p h g n =
    subst (λ y. Named a b (λ s. if_there (scheme_sites s) (option_map plain_scheme y))) (sym h) (subst (λ q. Named a b (λ s. scheme_sites s q)) (sym g) n)

pub counted_scheme : (a b : List Naming) (o : Option Scheme) (x : Scheme) (w : Word) (r : Bool) (d : PDrange) → o ≡ Some x → plain_scheme x ≡ LFor w r d → b ≡ a ++ Declares false false w ∷ [] → Named a b (λ s. if_there (scheme_sites s) (option_map plain_scheme o))
counted_scheme a b o x w r d h g n = with_scheme a b o x (LFor w r d) h g (subst (λ l. Named a l (λ s. scheme_sites s (LFor w r d))) (sym n) (counted_named a w r d))

pub without_scheme : (a : List Naming) (o : Option Scheme) → o ≡ None → Named a a (λ s. if_there (scheme_sites s) (option_map plain_scheme o))
without_scheme a o h = subst (λ y. Named a a (λ s. if_there (scheme_sites s) (option_map plain_scheme y))) (sym h) (none_named a)

-- statements that may be left out
pub with_list : (a b : List Naming) (o : Option (Vec Stmt Global)) (v : Vec Stmt Global) (l : List Stmt) → o ≡ Some v → l ≡ v.items → Named a b (λ s. stmts_sites s (seen l)) → Named a b (λ s. maybe_sites s (seen_maybe o))
with_list a b o v l h g n =
    subst (λ y. Named a b (λ s. maybe_sites s (seen_maybe y))) (sym h) (subst (λ x. Named a b (λ s. stmts_sites s (seen x))) g n)

pub without_list : (a : List Naming) (o : Option (Vec Stmt Global)) → o ≡ None → Named a a (λ s. maybe_sites s (seen_maybe o))
without_list a o h = subst (λ y. Named a a (λ s. maybe_sites s (seen_maybe y))) (sym h) (none_named a)

pub accept_of : (a b c : List Naming) (x : Accept) (fs : List Formal) → fs ≡ (out-Accept x).formals.items → Named a b (λ s. formals_sites s (map plain_formal fs)) → Named b c (λ s. maybe_sites s (seen_maybe (out-Accept x).stmts)) → Named a c (λ s. accept_sites s (plain_accept x))
accept_of a b c x fs h p q =
    subst (λ y. Named a c (λ s. accept_sites s y)) (sym (plain_accept-out x))
    (accept_named a b c _ (seen_maybe (out-Accept x).stmts) (subst (λ l. Named a b (λ s. formals_sites s (map plain_formal l))) h p) q)

-- an alternative, an arm and a handler
pub alt_of : (a b : List Naming) (x : Alt) → Named a b (λ s. alt_sites s (plain_alt_kind x.kind)) → Named a b (λ s. alt_places s (plain_alt x))
alt_of a b x p =
    named_behind a b (λ s. if_there (condition_sites s) (option_map plain_expr x.guard)) (λ s. alt_sites s (plain_alt_kind x.kind)) (λ s. quiet_there (condition_sites s) (option_map plain_expr x.guard) (quiet_of s (Some 1))) p

pub arm_of : (a b : List Naming) (x : Arm) (l : List Stmt) → l ≡ (out-Arm x).stmts.items → Named a b (λ s. stmts_sites s (seen l)) → Named a b (λ s. arm_places s (plain_arm x))
arm_of a b x l h p =
    subst (λ y. Named a b (λ s. arm_places s y)) (sym (plain_arm-out x))
    (named_behind a b (λ s. condition_sites s (plain_expr (out-Arm x).test)) (λ s. stmts_sites s (seen (out-Arm x).stmts.items)) (λ s. quiet_of s (Some 1) (plain_expr (out-Arm x).test))
    (subst (λ y. Named a b (λ s. stmts_sites s (seen y))) h p))

pub case_arm_of : (a b : List Naming) (k : Option ℕ) (range : Option Range) (x : CaseArm) (l : List Stmt) → l ≡ (out-CaseArm x).stmts.items → Named a b (λ s. stmts_sites s (seen l)) → Named a b (λ s. case_arm_places k range s (plain_case_arm x))
case_arm_of a b k range x l h p =
    subst (λ y. Named a b (λ s. case_arm_places k range s y)) (sym (plain_case_arm-out x))
    (named_behind a b (λ s. flat_map (choice_sites s k range) (map plain_choice (out-CaseArm x).choices.items)) (λ s. stmts_sites s (seen (out-CaseArm x).stmts.items)) (λ s. quiet_flat (choice_sites s k range) (map plain_choice (out-CaseArm x).choices.items) (quiet_choice s k range))
    (subst (λ y. Named a b (λ s. stmts_sites s (seen y))) h p))

pub handler_of : (a b c : List Naming) (names : List ℕ) (x : Handler) (ws : List Word) (l : List Stmt) → ws ≡ (out-Handler x).names.items → l ≡ (out-Handler x).stmts.items → b ≡ a ++ named_once names ws → Named b c (λ s. stmts_sites s (seen l)) → Named a c (λ s. handler_places s names (plain_handler x))
handler_of a b c names x ws l g h n p =
    subst (λ y. Named a c (λ s. handler_places s names y)) (sym (plain_handler-out x))
    (named_then a b c (λ s. handler_names_sites s names (out-Handler x).names.items) (λ s. stmts_sites s (seen (out-Handler x).stmts.items))
    (exceptions_named a b names (out-Handler x).names.items (n ∙ ap (λ y. a ++ named_once names y) g))
    (subst (λ y. Named b c (λ s. stmts_sites s (seen y))) h p))

pub words_of : (names : List ℕ) (x : Handler) (ws : List Word) → ws ≡ (out-Handler x).names.items → with_words names ws ≡ with_words names (handler_words (plain_handler x))
words_of names x ws g = ap (with_words names) g ∙ ap (λ y. with_words names (handler_words y)) (sym (plain_handler-out x))

pub body_of : (a b c : List Naming) (x : Body) (l : List Stmt) (hs : List Handler) → l ≡ (out-Body x).stmts.items → hs ≡ (out-Body x).handlers.items → Named a b (λ s. stmts_sites s (seen l)) → Named b c (λ s. handlers_sites s [] (handlers_of (map plain_handler hs))) → Named a c (λ s. body_sites s (plain_body x))
body_of a b c x l hs g h p q =
    subst (λ y. Named a c (λ s. body_sites s y)) (sym (plain_body-out x))
    (named_then a b c (λ s. stmts_sites s (seen (out-Body x).stmts.items)) (λ s. handlers_sites s [] (handlers_of (map plain_handler (out-Body x).handlers.items)))
    (subst (λ y. Named a b (λ s. stmts_sites s (seen y))) g p)
    (subst (λ y. Named b c (λ s. handlers_sites s [] (handlers_of (map plain_handler y)))) h q))

-- a list from its first member on
pub alts_law : (p : PAlt) (s : Scope) (ps : List PAlt) → alts_sites s (alts_of (p ∷ ps)) ≡ alt_places s p ++ alts_sites s (alts_of ps)
alts_law (alternative g x sp) s ps = refl

pub arms_law : (p : PArm) (s : Scope) (ps : List PArm) → arms_sites s (arms_of (p ∷ ps)) ≡ arm_places s p ++ arms_sites s (arms_of ps)
arms_law (arm e l) s ps = refl

pub case_arms_law : (k : Option ℕ) (range : Option Range) (p : PCaseArm) (s : Scope) (ps : List PCaseArm) → case_arms_sites s k range (case_arms_of (p ∷ ps)) ≡ case_arm_places k range s p ++ case_arms_sites s k range (case_arms_of ps)
case_arms_law k range (case_arm choices l) s ps = refl

pub handlers_law : (names : List ℕ) (p : PHandler) (s : Scope) (ps : List PHandler) → handlers_sites s names (handlers_of (p ∷ ps)) ≡ handler_places s names p ++ handlers_sites s (with_words names (handler_words p)) (handlers_of ps)
handlers_law names (handler ws l sp) s ps = refl

pub kind_of_accept : (a b c : List Naming) (x : PAccept) (v : List Stmt) (l : List Stmt) → l ≡ v → Named a b (λ s. accept_sites s x) → Named b c (λ s. stmts_sites s (seen l)) → Named a c (λ s. accept_sites s x ++ stmts_sites s (seen v))
kind_of_accept a b c x v l h p q = named_then a b c (λ s. accept_sites s x) (λ s. stmts_sites s (seen v)) p (subst (λ y. Named b c (λ s. stmts_sites s (seen y))) h q)

-- a statement whose tree, seen plainly, is known
pub stmt_is : (a b : List Naming) (x y : PStmt) → x ≡ y → Named a b (λ s. stmt_sites s y) → Named a b (λ s. stmt_sites s x)
stmt_is a b x y h p = subst (λ z. Named a b (λ s. stmt_sites s z)) (sym h) p

pub alt_is : (a b : List Naming) (x y : PAltKind) → x ≡ y → Named a b (λ s. alt_sites s y) → Named a b (λ s. alt_sites s x)
alt_is a b x y h p = subst (λ z. Named a b (λ s. alt_sites s z)) (sym h) p

pub list_is : (a b : List Naming) (l m : List Stmt) → l ≡ m → Named a b (λ s. stmts_sites s (seen l)) → Named a b (λ s. stmts_sites s (seen m))
list_is a b l m h p = subst (λ y. Named a b (λ s. stmts_sites s (seen y))) h p

pub loop_is : (a b : List Naming) (w : Option Word) (scheme : Option PScheme) (l m : List Stmt) → l ≡ m
    → Named a b (λ s. if_there (λ x. site s (labels x) ∷ []) w ++ if_there (scheme_sites s) scheme ++ stmts_sites (loop_scope s scheme) (seen l))
    → Named a b (λ s. if_there (λ x. site s (labels x) ∷ []) w ++ if_there (scheme_sites s) scheme ++ stmts_sites (loop_scope s scheme) (seen m))
loop_is a b w scheme l m h p = subst (λ y. Named a b (λ s. if_there (λ x. site s (labels x) ∷ []) w ++ if_there (scheme_sites s) scheme ++ stmts_sites (loop_scope s scheme) (seen y))) h p

pub alts_are : (a b : List Naming) (l m : List Alt) → l ≡ m → Named a b (λ s. alts_sites s (alts_of (map plain_alt l))) → Named a b (λ s. alts_sites s (alts_of (map plain_alt m)))
alts_are a b l m h p = subst (λ y. Named a b (λ s. alts_sites s (alts_of (map plain_alt y)))) h p

pub arms_are : (a b : List Naming) (l m : List Arm) → l ≡ m → Named a b (λ s. arms_sites s (arms_of (map plain_arm l))) → Named a b (λ s. arms_sites s (arms_of (map plain_arm m)))
arms_are a b l m h p = subst (λ y. Named a b (λ s. arms_sites s (arms_of (map plain_arm y)))) h p

pub case_arms_are : (a b : List Naming) (l m : List CaseArm) → l ≡ m → ((k : Option ℕ) (range : Option Range) → Named a b (λ s. case_arms_sites s k range (case_arms_of (map plain_case_arm l)))) → (k : Option ℕ) (range : Option Range) → Named a b (λ s. case_arms_sites s k range (case_arms_of (map plain_case_arm m)))
case_arms_are a b l m h p k range = subst (λ y. Named a b (λ s. case_arms_sites s k range (case_arms_of (map plain_case_arm y)))) h (p k range)

pub case_of : (a b c : List Naming) (e : PExpr) (x : PCaseArms) (o : PMaybe) (sp : Span) → ((k : Option ℕ) (range : Option Range) → Named a b (λ s. case_arms_sites s k range x)) → Named b c (λ s. maybe_sites s o) → Named a c (λ s. stmt_sites s (SCase e x o sp))
case_of a b c e x o sp p q = case_named a b c e x o (chooses e (arm_choices x) (is_present o) sp) (λ s. refl) p q

-- What is refused first in a list, as it is gone through.
use Rattle.std.specs.Prelude.{◌≡◌, ℕ, ◌+◌, ◌≤◌, List, [], ◌∷◌, ◌++◌, length, map, flat_map, take, Option, Some, None, option_map, Vec, Bool, true, false, refl, ◌<◌}
use Rattle.std.specs.declared.alloc.Global.{Global}
use Rattle.std.proofs.Common.{sym, ap, ◌∙◌, get_or}
use Rattle.std.proofs.lemmas.List.{append-nil}
use Rattle.ada_static_rules.specs.Refusals.{Refusal}
use Rattle.ada_tree.specs.declared.naming.Word.{Word}
use Rattle.ada_tree.specs.declared.naming.Span.{Span}
use Rattle.ada_tree.specs.declared.statements.Stmt.{Stmt}
use Rattle.ada_tree.specs.declared.statements.Formal.{Formal}
use Rattle.ada_tree.specs.declared.statements.CaseArm.{CaseArm}
use Rattle.ada_tree.specs.declared.statements.Arm.{Arm, out-Arm}
use Rattle.ada_tree.specs.declared.statements.Handler.{Handler, out-Handler}
use Rattle.ada_tree.specs.declared.statements.Accept.{Accept, out-Accept}
use Rattle.ada_tree.proofs.Rows.{plain_arm-out, plain_handler-out, plain_accept-out}
use Rattle.ada_static_rules.specs.ExprTypes.{kind_of}
use Rattle.ada_static_rules.specs.RuleChoiceBad.{selected_range}
use Rattle.ada_scopes.specs.Entries.{plain_range}
use Rattle.ada_types.specs.declared.statements.CaseHead.{CaseHead}
use Rattle.ada_tree.specs.PlainExpr.{PExpr, plain_expr}
use Rattle.ada_tree.specs.PlainStmt.{PCall, PHead, SCase, accepting, absent, present, maybe_of, plain_stmt, plain_formal, plain_accept, plain_arm, plain_case_arm, plain_handler, PStmt, PAlt, alternative, PArm, arm, PCaseArm, case_arm, PHandler, handler, stmts_of, alts_of, arms_of, case_arms_of, handlers_of}
use Rattle.ada_static_rules.specs.Scope.{Scope, Range}
use Rattle.ada_static_rules.specs.Declaring.{inner_scope, with_formals}
use Rattle.ada_static_rules.specs.Demand.{Site, names_exception, handles, chooses}
use Rattle.ada_static_rules.specs.Sites.{expr_sites, arm_choices, head_sites, accept_sites, call_sites, site, if_there, condition_sites, stmt_sites, stmts_sites, alt_sites, alts_sites, arms_sites, choice_sites, case_arms_sites, handler_names_sites, handlers_sites, with_words}
use Rattle.ada_static_rules.specs.RefusedFirst.{refused_first, refused_first_at}
use Rattle.ada_static_rules.specs.Sooner.{sooner}
use Rattle.ada_types.specs.inner.SitesOfMembers.{each_alt, each_arm, each_case_arm, exception_sites, each_handler, IsCaseHead}
use Rattle.ada_static_rules.proofs.Meeting.{joined, met_cons, met_one, met_append}
use Rattle.ada_static_rules.proofs.Listing.{met_more, taken}

-- ---- lists of the tree, by the places of each member

pub stmts_flat : (scope : Scope) (xs : List PStmt) → stmts_sites scope (stmts_of xs) ≡ flat_map (stmt_sites scope) xs
stmts_flat scope [] = refl
stmts_flat scope (x ∷ xs) = ap (λ l. stmt_sites scope x ++ l) (stmts_flat scope xs)

pub alts_flat : (scope : Scope) (xs : List PAlt) → alts_sites scope (alts_of xs) ≡ flat_map (each_alt scope) xs
alts_flat scope [] = refl
alts_flat scope (alternative g x s ∷ xs) = ap (λ l. (if_there (condition_sites scope) g ++ alt_sites scope x) ++ l) (alts_flat scope xs)

pub arms_flat : (scope : Scope) (xs : List PArm) → arms_sites scope (arms_of xs) ≡ flat_map (each_arm scope) xs
arms_flat scope [] = refl
arms_flat scope (arm e l ∷ xs) = ap (λ r. (condition_sites scope e ++ stmts_sites scope l) ++ r) (arms_flat scope xs)

pub case_arms_flat : (scope : Scope) (k : Option ℕ) (range : Option Range) (xs : List PCaseArm) → case_arms_sites scope k range (case_arms_of xs) ≡ flat_map (each_case_arm scope k range) xs
case_arms_flat scope k range [] = refl
case_arms_flat scope k range (case_arm choices l ∷ xs) = ap (λ r. (flat_map (choice_sites scope k range) choices ++ stmts_sites scope l) ++ r) (case_arms_flat scope k range xs)

-- ---- handlers, of which the names before have no part in these rules

map_same : {A : Type 0} (xs : List A) → map (λ x. x) xs ≡ xs
map_same [] = refl
map_same (x ∷ xs) = ap (λ l. x ∷ l) (map_same xs)

pub exceptions_more : (scope : Scope) (ws : List Word) (i : ℕ) (d : Word) (o p : Option Refusal) → i < length ws → o ≡ refused_first (flat_map (exception_sites scope) (take i ws)) → p ≡ refused_first_at scope (names_exception (get_or ws i d))
    → sooner o p ≡ refused_first (flat_map (exception_sites scope) (take (i + 1) ws))
exceptions_more scope ws i d o p inner_scope before here =
    met_more (exception_sites scope) (λ w. w) ws i (get_or ws i d) d o p inner_scope refl
    (before ∙ ap (λ l. refused_first (flat_map (exception_sites scope) l)) (sym (map_same (take i ws))))
    (here ∙ sym (met_one scope (names_exception (get_or ws i d))))
    ∙ ap (λ l. refused_first (flat_map (exception_sites scope) l)) (map_same (take (i + 1) ws))

pub exceptions_flat : (scope : Scope) (names : List ℕ) (ws : List Word) → refused_first (handler_names_sites scope names ws) ≡ refused_first (flat_map (exception_sites scope) ws)
exceptions_flat scope names [] = refl
exceptions_flat scope names (w ∷ ws) =
    met_cons scope (names_exception w) (site scope (handles names w) ∷ handler_names_sites scope (w.name.0 ∷ names) ws)
    ∙ ap (sooner (refused_first_at scope (names_exception w))) (met_cons scope (handles names w) (handler_names_sites scope (w.name.0 ∷ names) ws) ∙ exceptions_flat scope (w.name.0 ∷ names) ws)
    ∙ sym (met_cons scope (names_exception w) (flat_map (exception_sites scope) ws))

pub exceptions_all : (scope : Scope) (before : List ℕ) (ws : List Word) (i : ℕ) (o : Option Refusal) → length ws ≤ i → o ≡ refused_first (flat_map (exception_sites scope) (take i ws)) → o ≡ refused_first (handler_names_sites scope before ws)
exceptions_all scope before ws i o done told = told ∙ ap (λ l. refused_first (flat_map (exception_sites scope) l)) (taken ws i done) ∙ sym (exceptions_flat scope before ws)

pub handlers_flat : (scope : Scope) (names : List ℕ) (xs : List PHandler) → refused_first (handlers_sites scope names (handlers_of xs)) ≡ refused_first (flat_map (each_handler scope) xs)
handlers_flat scope names [] = refl
handlers_flat scope names (handler ws l s ∷ xs) =
    met_append (handler_names_sites scope names ws ++ stmts_sites scope l) (handlers_sites scope (with_words names ws) (handlers_of xs))
    ∙ ap (sooner (refused_first (handler_names_sites scope names ws ++ stmts_sites scope l))) (handlers_flat scope (with_words names ws) xs)
    ∙ ap (λ o. sooner o (refused_first (flat_map (each_handler scope) xs))) (met_append (handler_names_sites scope names ws) (stmts_sites scope l) ∙ ap (λ o. sooner o (refused_first (stmts_sites scope l))) (exceptions_flat scope names ws) ∙ sym (met_append (flat_map (exception_sites scope) ws) (stmts_sites scope l)))
    ∙ sym (met_append (flat_map (exception_sites scope) ws ++ stmts_sites scope l) (flat_map (each_handler scope) xs))

-- ---- statements that hold others, by what is told of their parts

pub arm_told : (s : Scope) (x : Arm) (list : List Stmt) (r a b : Option Refusal) → r ≡ sooner a b → list ≡ (out-Arm x).stmts.items → a ≡ refused_first (condition_sites s (plain_expr (out-Arm x).test)) → b ≡ refused_first (stmts_sites s (stmts_of (map plain_stmt list)))
    → r ≡ refused_first (each_arm s (plain_arm x))
arm_told s x list r a b is same p q =
    is
    ∙ joined (condition_sites s (plain_expr (out-Arm x).test)) (stmts_sites s (stmts_of (map plain_stmt (out-Arm x).stmts.items))) a b p (q ∙ ap (λ l. refused_first (stmts_sites s (stmts_of (map plain_stmt l)))) same)
    ∙ ap (λ y. refused_first (each_arm s y)) (sym (plain_arm-out x))

pub handler_told : (s : Scope) (x : Handler) (names : List Word) (list : List Stmt) (r a b : Option Refusal) → r ≡ sooner a b → names ≡ (out-Handler x).names.items → list ≡ (out-Handler x).stmts.items
    → a ≡ refused_first (handler_names_sites s [] names) → b ≡ refused_first (stmts_sites s (stmts_of (map plain_stmt list))) → r ≡ refused_first (each_handler s (plain_handler x))
handler_told s x names list r a b is named same p q =
    is
    ∙ joined (flat_map (exception_sites s) (out-Handler x).names.items) (stmts_sites s (stmts_of (map plain_stmt (out-Handler x).stmts.items))) a b
    (p ∙ exceptions_flat s [] names ∙ ap (λ ws. refused_first (flat_map (exception_sites s) ws)) named)
    (q ∙ ap (λ l. refused_first (stmts_sites s (stmts_of (map plain_stmt l)))) same)
    ∙ ap (λ y. refused_first (each_handler s y)) (sym (plain_handler-out x))

abbrev head_with : Accept → List Formal → PHead
head_with x formals = record { entry = (out-Accept x).entry; index = option_map plain_expr (out-Accept x).index; formals = map plain_formal formals; span = (out-Accept x).span }

pub accept_told : (s : Scope) (x : Accept) (v : Vec Stmt Global) (heads formals : List Formal) (list : List Stmt) (r a b : Option Refusal) → (out-Accept x).stmts ≡ Some v → r ≡ sooner a b
    → heads ≡ (out-Accept x).formals.items → formals ≡ (out-Accept x).formals.items → list ≡ v.items
    → a ≡ refused_first (head_sites s (head_with x heads)) → b ≡ refused_first (stmts_sites (with_formals (inner_scope s) (map plain_formal formals)) (stmts_of (map plain_stmt list))) → r ≡ refused_first (accept_sites s (plain_accept x))
accept_told s x v heads formals list r a b some is h f l p q =
    is
    ∙ joined (head_sites s (head_with x (out-Accept x).formals.items)) (stmts_sites (with_formals (inner_scope s) (map plain_formal (out-Accept x).formals.items)) (stmts_of (map plain_stmt v.items))) a b
    (p ∙ ap (λ y. refused_first (head_sites s (head_with x y))) h)
    (q ∙ ap (λ y. refused_first (stmts_sites (with_formals (inner_scope s) (map plain_formal y)) (stmts_of (map plain_stmt list)))) f ∙ ap (λ y. refused_first (stmts_sites (with_formals (inner_scope s) (map plain_formal (out-Accept x).formals.items)) (stmts_of (map plain_stmt y)))) l)
    ∙ ap (λ o. refused_first (accept_sites s (accepting (head_with x (out-Accept x).formals.items) (maybe_of (option_map (λ w. map plain_stmt w.items) o))))) (sym some)
    ∙ ap (λ y. refused_first (accept_sites s y)) (sym (plain_accept-out x))

pub head_told : (s : Scope) (x : Accept) (heads : List Formal) (a : Option Refusal) → (out-Accept x).stmts ≡ None → heads ≡ (out-Accept x).formals.items → a ≡ refused_first (head_sites s (head_with x heads)) → a ≡ refused_first (accept_sites s (plain_accept x))
head_told s x heads a none h p =
    p
    ∙ ap (λ y. refused_first (head_sites s (head_with x y))) h
    ∙ ap refused_first (sym (append-nil (head_sites s (head_with x (out-Accept x).formals.items))))
    ∙ ap (λ o. refused_first (accept_sites s (accepting (head_with x (out-Accept x).formals.items) (maybe_of (option_map (λ w. map plain_stmt w.items) o))))) (sym none)
    ∙ ap (λ y. refused_first (accept_sites s y)) (sym (plain_accept-out x))

pub branches_told : (s now : Scope) (x : PCall) (behind other vb vo : List Stmt) (r ab a b c : Option Refusal) → r ≡ sooner ab c → ab ≡ sooner a b → now ≡ s → vb ≡ behind → vo ≡ other → a ≡ refused_first (call_sites s x)
    → b ≡ refused_first (stmts_sites s (stmts_of (map plain_stmt vb))) → c ≡ refused_first (stmts_sites now (stmts_of (map plain_stmt vo)))
    → r ≡ refused_first (call_sites s x ++ stmts_sites s (stmts_of (map plain_stmt behind)) ++ stmts_sites s (stmts_of (map plain_stmt other)))
branches_told s now x behind other vb vo r ab a b c is inner same is_b is_o p q w =
    is
    ∙ joined (call_sites s x ++ stmts_sites s (stmts_of (map plain_stmt behind))) (stmts_sites s (stmts_of (map plain_stmt other))) ab c
    (inner ∙ joined (call_sites s x) (stmts_sites s (stmts_of (map plain_stmt behind))) a b p (q ∙ ap (λ l. refused_first (stmts_sites s (stmts_of (map plain_stmt l)))) is_b))
    (w ∙ ap (λ z. refused_first (stmts_sites z (stmts_of (map plain_stmt vo)))) same ∙ ap (λ l. refused_first (stmts_sites s (stmts_of (map plain_stmt l)))) is_o)

-- the places of a case before its others
abbrev case_before : Scope → PExpr → List CaseArm → Bool → Span → List Site
case_before s e arms others span =
    (site s (chooses e (arm_choices (case_arms_of (map plain_case_arm arms))) others span) ∷ expr_sites s e)
    ++ case_arms_sites s (kind_of s e) (selected_range s e) (case_arms_of (map plain_case_arm arms))

case_told : (s : Scope) (e : PExpr) (arms va vb : List CaseArm) (given others : Bool) (span : Span) (h : CaseHead) (r inner : Option Refusal) → r ≡ sooner h.refusal inner → va ≡ arms → vb ≡ arms → given ≡ others
    → IsCaseHead (site s (chooses e (arm_choices (case_arms_of (map plain_case_arm va))) given span) ∷ expr_sites s e) s e h
    → inner ≡ refused_first (case_arms_sites s h.kind (option_map plain_range h.values) (case_arms_of (map plain_case_arm vb)))
    → r ≡ refused_first (case_before s e arms others span)
case_told s e arms va vb given others span h r inner is is_a is_b is_o head q =
    is
    ∙ joined (site s (chooses e (arm_choices (case_arms_of (map plain_case_arm arms))) others span) ∷ expr_sites s e) (case_arms_sites s (kind_of s e) (selected_range s e) (case_arms_of (map plain_case_arm arms))) h.refusal inner
    (head.refusal_is
    ∙ ap (λ l. refused_first (site s (chooses e (arm_choices (case_arms_of (map plain_case_arm l))) given span) ∷ expr_sites s e)) is_a
    ∙ ap (λ b. refused_first (site s (chooses e (arm_choices (case_arms_of (map plain_case_arm arms))) b span) ∷ expr_sites s e)) is_o)
    (q
    ∙ ap (λ l. refused_first (case_arms_sites s h.kind (option_map plain_range h.values) (case_arms_of (map plain_case_arm l)))) is_b
    ∙ ap (λ k. refused_first (case_arms_sites s k (option_map plain_range h.values) (case_arms_of (map plain_case_arm arms)))) head.kind_is
    ∙ ap (λ v. refused_first (case_arms_sites s (kind_of s e) v (case_arms_of (map plain_case_arm arms)))) head.values_are)

pub case_alone : (s : Scope) (e : PExpr) (arms va vb : List CaseArm) (given : Bool) (span : Span) (h : CaseHead) (r inner : Option Refusal) → r ≡ sooner h.refusal inner → va ≡ arms → vb ≡ arms → given ≡ false
    → IsCaseHead (site s (chooses e (arm_choices (case_arms_of (map plain_case_arm va))) given span) ∷ expr_sites s e) s e h
    → inner ≡ refused_first (case_arms_sites s h.kind (option_map plain_range h.values) (case_arms_of (map plain_case_arm vb)))
    → r ≡ refused_first (stmt_sites s (SCase e (case_arms_of (map plain_case_arm arms)) absent span))
case_alone s e arms va vb given span h r inner is is_a is_b is_o head q =
    case_told s e arms va vb given false span h r inner is is_a is_b is_o head q ∙ ap refused_first (sym (append-nil (case_before s e arms false span)))

pub case_others : (s now : Scope) (e : PExpr) (arms va vb : List CaseArm) (list vl : List Stmt) (given : Bool) (span : Span) (h : CaseHead) (r hi inner rest : Option Refusal) → r ≡ sooner hi rest → hi ≡ sooner h.refusal inner
    → va ≡ arms → vb ≡ arms → vl ≡ list → given ≡ true → now ≡ s
    → IsCaseHead (site s (chooses e (arm_choices (case_arms_of (map plain_case_arm va))) given span) ∷ expr_sites s e) s e h
    → inner ≡ refused_first (case_arms_sites s h.kind (option_map plain_range h.values) (case_arms_of (map plain_case_arm vb)))
    → rest ≡ refused_first (stmts_sites now (stmts_of (map plain_stmt vl)))
    → r ≡ refused_first (stmt_sites s (SCase e (case_arms_of (map plain_case_arm arms)) (present (stmts_of (map plain_stmt list))) span))
case_others s now e arms va vb list vl given span h r hi inner rest is his is_a is_b is_l is_o same head q w =
    is
    ∙ joined (case_before s e arms true span) (stmts_sites s (stmts_of (map plain_stmt list))) hi rest
    (case_told s e arms va vb given true span h hi inner his is_a is_b is_o head q)
    (w ∙ ap (λ z. refused_first (stmts_sites z (stmts_of (map plain_stmt vl)))) same ∙ ap (λ l. refused_first (stmts_sites s (stmts_of (map plain_stmt l)))) is_l)

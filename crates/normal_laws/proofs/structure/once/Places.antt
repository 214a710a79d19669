-- What is named at the places of statements and entries is what their text names, whatever can be used there.
use Rattle.std.proofs.Common.{◌≡◌, ℕ, true, false, flat_map, List, [], ◌∷◌, ◌++◌, Option, Some, None, refl, ap, ap₂, ◌∙◌}
use Rattle.std.proofs.lemmas.List.{append_assoc}
use Rattle.ada_tree.specs.declared.naming.Word.{Word}
use Rattle.ada_tree.specs.PlainExpr.{PExpr}
use Rattle.ada_tree.specs.PlainStmt.{PFormal, PScheme, LWhile, LFor, PHead, PStmt, SNull, SAssign, SDelay, SExit, SRaise, SAbort, SCall, SAccept, SWait, SConditional, STimed, SPut, SPutLine, SNewLine, SGet, SIf, SCase, SBlock, SLoop, PStmts, no_stmt, stmt_then, PMaybe, absent, present, PAccept, accepting, alternative, PAltKind, AAccept, ADelay, ATerminate, PAlts, no_alt, alt_then, arm, PArms, no_arm, arm_then, case_arm, PCaseArms, no_case_arm, case_arm_then, PBody, body, handler, PHandlers, no_handler, handler_then}
use Rattle.ada_tree.specs.PlainDecl.{PEntry}
use Rattle.ada_static_rules.specs.ExprTypes.{kind_of}
use Rattle.ada_static_rules.specs.Scope.{Scope, Range, entry_named}
use Rattle.ada_static_rules.specs.Demand.{accepts, chooses, declares_entry, labels, Site}
use Rattle.ada_static_rules.specs.Declaring.{inner_scope, with_formals}
use Rattle.ada_static_rules.specs.RuleDuplicate.{is_among}
use Rattle.ada_static_rules.specs.RuleChoiceBad.{selected_range}
use Rattle.ada_static_rules.specs.Sites.{site, if_there, expr_sites, drange_sites, call_sites, accept_index_sites, head_sites, formals_sites, formal_mark_sites, all_names, names_sites, condition_sites, choice_sites, arm_choices, is_present, handler_names_sites, with_words, scheme_sites, loop_scope, stmt_sites, stmts_sites, maybe_sites, accept_sites, alts_sites, alt_sites, arms_sites, case_arms_sites, handlers_sites, body_sites, entry_sites, entries_sites}
use Rattle.ada_decl_rules.proofs.duplicates.Noting.{quiet_site, quiet_there, quiet_flat, quiet_expr, quiet_of, quiet_drange, quiet_call, quiet_index, quiet_choice, quiet_leaf, quiet_formal_marks, declared_are, namings_append, once_are, quiet_none}
use Rattle.ada_decl_rules.specs.duplicates.NamingsInOrder.{namings_of, declared}
use Rattle.ada_decl_rules.specs.declared.duplicates.namings_in_order.Naming.{Naming}
use Rattle.ada_decl_rules.specs.declared.duplicates.namings_in_order.Naming.TheVariants.{Declares, Once}
use Rattle.normal_laws.specs.structure.once.Names.{label_names, scheme_names, stmt_names, stmts_names, maybe_names, accept_names, alts_names, kind_names, arms_names, case_arms_names, body_names, handlers_names, entries_names}
use Rattle.ada_decl_rules.proofs.duplicates.Behind.{then_quiet}

-- ---- lists

-- two lists of places
both : (xs ys : List Site) (a b : List Naming) → namings_of xs ≡ a → namings_of ys ≡ b → namings_of (xs ++ ys) ≡ a ++ b
both xs ys a b p q = namings_append xs ys ∙ ap₂ (λ (l m : List Naming). l ++ m) p q

-- quiet places in front of others
front-quiet : (xs ys : List Site) (b : List Naming) → namings_of xs ≡ [] → namings_of ys ≡ b → namings_of (xs ++ ys) ≡ b
front-quiet xs ys b p q = both xs ys [] b p q

-- three lists, of which the first two stand together
three : (xs ys zs : List Site) (a b c : List Naming) → namings_of xs ≡ a → namings_of ys ≡ b → namings_of zs ≡ c → namings_of (xs ++ ys ++ zs) ≡ a ++ (b ++ c)
three xs ys zs a b c p q r = both (xs ++ ys) zs (a ++ b) c (both xs ys a b p q) r ∙ append_assoc a b c

-- ---- parts of statements

formals-are : (scope : Scope) (formals : List PFormal) → namings_of (formals_sites scope formals) ≡ declared false [] (all_names formals)
formals-are scope formals =
    then_quiet (names_sites false (inner_scope scope) (all_names formals)) (formal_mark_sites scope formals) (declared false [] (all_names formals))
    (declared_are false scope [] (all_names formals)) ((quiet_formal_marks scope formals))

head-is : (scope : Scope) (h : PHead) → namings_of (head_sites scope h) ≡ declared false [] (all_names h.formals)
head-is scope h =
    let index : PExpr → List Site = accept_index_sites scope (entry_named scope.own h.entry.name) in
    front-quiet (site scope (accepts h) ∷ if_there index h.index) (formals_sites scope h.formals) (declared false [] (all_names h.formals))
    ((quiet_site scope (accepts h) (if_there index h.index) refl (quiet_there index h.index (quiet_index scope (entry_named scope.own h.entry.name))))) (formals-are scope h.formals)

label-is : (scope : Scope) (w : Option Word) → namings_of (if_there (λ x. site scope (labels x) ∷ []) w) ≡ label_names w
unfolding namings_of
label-is scope (Some w) = refl
label-is scope None = refl

parameter-is : (scope : Scope) (w : Word) → namings_of (names_sites false (inner_scope scope) (w ∷ [])) ≡ Declares false false w ∷ []
unfolding namings_of
parameter-is scope w = refl

scheme-is : (scope : Scope) (c : Option PScheme) → namings_of (if_there (scheme_sites scope) c) ≡ scheme_names c
scheme-is scope (Some (LFor w r x)) =
    then_quiet (names_sites false (inner_scope scope) (w ∷ [])) (drange_sites false scope x) (Declares false false w ∷ []) (parameter-is scope w) ((quiet_drange false scope x))
scheme-is scope (Some (LWhile e)) = (quiet_of scope (Some 1) e)
scheme-is scope None = quiet_none

-- ---- statements

mutual
  stmt-is : (scope : Scope) (x : PStmt) → namings_of (stmt_sites scope x) ≡ stmt_names x
  stmt-is scope (SNull s) = quiet_leaf (SNull s) refl scope
  stmt-is scope (SAssign x e s) = quiet_leaf (SAssign x e s) refl scope
  stmt-is scope (SDelay d s) = quiet_leaf (SDelay d s) refl scope
  stmt-is scope (SExit w e s) = quiet_leaf (SExit w e s) refl scope
  stmt-is scope (SRaise w s) = quiet_leaf (SRaise w s) refl scope
  stmt-is scope (SAbort cs s) = quiet_leaf (SAbort cs s) refl scope
  stmt-is scope (SCall c s) = quiet_leaf (SCall c s) refl scope
  stmt-is scope (SPut ps s) = quiet_leaf (SPut ps s) refl scope
  stmt-is scope (SPutLine ps s) = quiet_leaf (SPutLine ps s) refl scope
  stmt-is scope (SNewLine s) = quiet_leaf (SNewLine s) refl scope
  stmt-is scope (SGet x s) = quiet_leaf (SGet x s) refl scope
  stmt-is scope (SAccept a s) = accept-is scope a
  stmt-is scope (SWait x o s) = both (alts_sites scope x) (maybe_sites scope o) _ _ (alts-are scope x) (maybe-is scope o)
  stmt-is scope (SConditional c b o s) = three (call_sites scope c) (stmts_sites scope b) (stmts_sites scope o) [] (stmts_names b) (stmts_names o) ((quiet_call scope c)) (stmts-are scope b) (stmts-are scope o)
  stmt-is scope (STimed c b d a s) = three (call_sites scope c) (stmts_sites scope b) (stmts_sites scope a) [] (stmts_names b) (stmts_names a) ((quiet_call scope c)) (stmts-are scope b) (stmts-are scope a)
  stmt-is scope (SIf x o s) = both (arms_sites scope x) (maybe_sites scope o) _ _ (arms-are scope x) (maybe-is scope o)
  stmt-is scope (SCase e x o s) =
      both (site scope (chooses e (arm_choices x) (is_present o) s) ∷ expr_sites scope e ++ case_arms_sites scope (kind_of scope e) (selected_range scope e) x) (maybe_sites scope o) (case_arms_names x) (maybe_names o)
      (front-quiet (site scope (chooses e (arm_choices x) (is_present o) s) ∷ expr_sites scope e) (case_arms_sites scope (kind_of scope e) (selected_range scope e) x) (case_arms_names x)
      ((quiet_site scope (chooses e (arm_choices x) (is_present o) s) (expr_sites scope e) refl (quiet_expr scope e)))
      (case-arms-are scope (kind_of scope e) (selected_range scope e) x))
      (maybe-is scope o)
  stmt-is scope (SBlock b s) = body-is scope b
  stmt-is scope (SLoop w c l s) =
      three (if_there (λ x. site scope (labels x) ∷ []) w) (if_there (scheme_sites scope) c) (stmts_sites (loop_scope scope c) l) (label_names w) (scheme_names c) (stmts_names l)
      (label-is scope w) (scheme-is scope c) (stmts-are (loop_scope scope c) l)

  pub stmts-are : (scope : Scope) (l : PStmts) → namings_of (stmts_sites scope l) ≡ stmts_names l
  stmts-are scope no_stmt = quiet_none
  stmts-are scope (stmt_then x l) = both (stmt_sites scope x) (stmts_sites scope l) (stmt_names x) (stmts_names l) (stmt-is scope x) (stmts-are scope l)

  maybe-is : (scope : Scope) (o : PMaybe) → namings_of (maybe_sites scope o) ≡ maybe_names o
  maybe-is scope absent = quiet_none
  maybe-is scope (present l) = stmts-are scope l

  accept-is : (scope : Scope) (a : PAccept) → namings_of (accept_sites scope a) ≡ accept_names a
  accept-is scope (accepting h o) = both (head_sites scope h) (maybe_sites (with_formals (inner_scope scope) h.formals) o) (declared false [] (all_names h.formals)) (maybe_names o) (head-is scope h) (maybe-is (with_formals (inner_scope scope) h.formals) o)

  alts-are : (scope : Scope) (x : PAlts) → namings_of (alts_sites scope x) ≡ alts_names x
  alts-are scope no_alt = quiet_none
  alts-are scope (alt_then (alternative g x s) l) =
      three (if_there (condition_sites scope) g) (alt_sites scope x) (alts_sites scope l) [] (kind_names x) (alts_names l) ((quiet_there (condition_sites scope) g (quiet_of scope (Some 1)))) (kind-is scope x) (alts-are scope l)

  kind-is : (scope : Scope) (x : PAltKind) → namings_of (alt_sites scope x) ≡ kind_names x
  kind-is scope (AAccept a l) = both (accept_sites scope a) (stmts_sites scope l) (accept_names a) (stmts_names l) (accept-is scope a) (stmts-are scope l)
  kind-is scope (ADelay d l) = stmts-are scope l
  kind-is scope ATerminate = quiet_none

  arms-are : (scope : Scope) (x : PArms) → namings_of (arms_sites scope x) ≡ arms_names x
  arms-are scope no_arm = quiet_none
  arms-are scope (arm_then (arm e l) rest) = three (condition_sites scope e) (stmts_sites scope l) (arms_sites scope rest) [] (stmts_names l) (arms_names rest) ((quiet_of scope (Some 1) e)) (stmts-are scope l) (arms-are scope rest)

  case-arms-are : (scope : Scope) (k : Option ℕ) (range : Option Range) (x : PCaseArms) → namings_of (case_arms_sites scope k range x) ≡ case_arms_names x
  case-arms-are scope k range no_case_arm = quiet_none
  case-arms-are scope k range (case_arm_then (case_arm cs l) rest) =
      three (flat_map (choice_sites scope k range) cs) (stmts_sites scope l) (case_arms_sites scope k range rest) [] (stmts_names l) (case_arms_names rest) ((quiet_flat (choice_sites scope k range) cs (quiet_choice scope k range))) (stmts-are scope l) (case-arms-are scope k range rest)

  pub body-is : (scope : Scope) (b : PBody) → namings_of (body_sites scope b) ≡ body_names b
  body-is scope (body l hs) = both (stmts_sites scope l) (handlers_sites scope [] hs) (stmts_names l) (handlers_names [] hs) (stmts-are scope l) (handlers-are scope [] hs)

  handlers-are : (scope : Scope) (names : List ℕ) (hs : PHandlers) → namings_of (handlers_sites scope names hs) ≡ handlers_names names hs
  handlers-are scope names no_handler = quiet_none
  handlers-are scope names (handler_then (handler ws l s) rest) =
      three (handler_names_sites scope names ws) (stmts_sites scope l) (handlers_sites scope (with_words names ws) rest) _ (stmts_names l) (handlers_names (with_words names ws) rest)
      (once_are scope names ws) (stmts-are scope l) (handlers-are scope (with_words names ws) rest)

-- ---- entries

entry-named : (scope : Scope) (names : List ℕ) (w : Word) (rest : List Site) (l : List Naming) → namings_of rest ≡ l → namings_of (site scope (declares_entry names w) ∷ rest) ≡ Once (is_among names w.name.0) w ∷ l
unfolding namings_of
entry-named scope names w rest l e = ap (λ m. Once (is_among names w.name.0) w ∷ m) e

pub entries-are : (scope : Scope) (names : List ℕ) (es : List PEntry) → namings_of (entries_sites scope names es) ≡ entries_names names es
entries-are scope names [] = quiet_none
entries-are scope names (e ∷ es) =
    both (entry_sites scope names e) (entries_sites scope (e.name.name.0 ∷ names) es) (Once (is_among names e.name.name.0) e.name ∷ declared false [] (all_names e.formals)) (entries_names (e.name.name.0 ∷ names) es)
    (entry-named scope names e.name (if_there (drange_sites true scope) e.family ++ formals_sites scope e.formals) (declared false [] (all_names e.formals))
    (front-quiet (if_there (drange_sites true scope) e.family) (formals_sites scope e.formals) (declared false [] (all_names e.formals)) ((quiet_there (drange_sites true scope) e.family (quiet_drange true scope))) (formals-are scope e.formals)))
    (entries-are scope (e.name.name.0 ∷ names) es)

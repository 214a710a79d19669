-- Statements declare no name for all of main.
use Rattle.std.proofs.Common.{◌≡◌, ℕ, false, List, [], ◌∷◌, ◌++◌, Option, Some, None, refl, ap₂, ◌∙◌}
use Rattle.std.proofs.lemmas.Grind.{flat_map-append}
use Rattle.ada_tree.specs.declared.naming.Word.{Word}
use Rattle.ada_tree.specs.PlainStmt.{PScheme, LWhile, LFor, PStmt, SNull, SAssign, SDelay, SExit, SRaise, SAbort, SCall, SAccept, SWait, SConditional, STimed, SPut, SPutLine, SNewLine, SGet, SIf, SCase, SBlock, SLoop, PStmts, no_stmt, stmt_then, PMaybe, absent, present, PAccept, accepting, alternative, AAccept, ADelay, ATerminate, PAlts, no_alt, alt_then, PArms, no_arm, arm_then, arm, PCaseArms, no_case_arm, case_arm_then, case_arm, PBody, body, PHandlers, no_handler, handler_then, handler}
use Rattle.ada_static_rules.specs.Sites.{all_names, with_words}
use Rattle.ada_decl_rules.specs.declared.duplicates.namings_in_order.Naming.{Naming}
use Rattle.ada_decl_rules.specs.duplicates.NamingsInOrder.{declared, named_once}
use Rattle.normal_laws.specs.structure.once.Apart.{fixed_name, fixed_names}
use Rattle.normal_laws.specs.structure.once.Names.{label_names, scheme_names, stmt_names, stmts_names, maybe_names, accept_names, alts_names, arms_names, case_arms_names, body_names, handlers_names}
use Rattle.replay_structure.proofs.declares_once.Grown.{declared-loose}

both-loose : (A B : List Naming) → fixed_names A ≡ [] → fixed_names B ≡ [] → fixed_names (A ++ B) ≡ []
both-loose A B h k = flat_map-append fixed_name A B ∙ ap₂ (λ (a b : List ℕ). a ++ b) h k

once-loose : (names : List ℕ) (ws : List Word) → fixed_names (named_once names ws) ≡ []
once-loose names [] = refl
once-loose names (w ∷ ws) = once-loose (w.name.0 ∷ names) ws

label-loose : (w : Option Word) → fixed_names (label_names w) ≡ []
label-loose None = refl
label-loose (Some w) = refl

scheme-loose : (c : Option PScheme) → fixed_names (scheme_names c) ≡ []
scheme-loose None = refl
scheme-loose (Some (LWhile e)) = refl
scheme-loose (Some (LFor w r x)) = refl

mutual
  stmt : (x : PStmt) → fixed_names (stmt_names x) ≡ []
  stmt (SNull s) = refl
  stmt (SAssign x y s) = refl
  stmt (SDelay m s) = refl
  stmt (SExit w y s) = refl
  stmt (SRaise w s) = refl
  stmt (SPut ps s) = refl
  stmt (SPutLine ps s) = refl
  stmt (SNewLine s) = refl
  stmt (SGet x s) = refl
  stmt (SAbort xs s) = refl
  stmt (SCall x s) = refl
  stmt (SAccept x s) = accept x
  stmt (SWait x o s) = both-loose (alts_names x) (maybe_names o) (alts x) (maybe o)
  stmt (SConditional x l o s) = both-loose (stmts_names l) (stmts_names o) (stmts l) (stmts o)
  stmt (STimed x l m o s) = both-loose (stmts_names l) (stmts_names o) (stmts l) (stmts o)
  stmt (SIf x o s) = both-loose (arms_names x) (maybe_names o) (arms x) (maybe o)
  stmt (SCase y x o s) = both-loose (case_arms_names x) (maybe_names o) (case_arms x) (maybe o)
  stmt (SBlock x s) = body-loose x
  stmt (SLoop w c l s) = both-loose (label_names w) (scheme_names c ++ stmts_names l) (label-loose w) (both-loose (scheme_names c) (stmts_names l) (scheme-loose c) (stmts l))

  stmts : (l : PStmts) → fixed_names (stmts_names l) ≡ []
  stmts no_stmt = refl
  stmts (stmt_then x l) = both-loose (stmt_names x) (stmts_names l) (stmt x) (stmts l)

  maybe : (o : PMaybe) → fixed_names (maybe_names o) ≡ []
  maybe absent = refl
  maybe (present l) = stmts l

  accept : (x : PAccept) → fixed_names (accept_names x) ≡ []
  accept (accepting i o) = both-loose (declared false [] (all_names i.formals)) (maybe_names o) (declared-loose [] (all_names i.formals)) (maybe o)

  alts : (x : PAlts) → fixed_names (alts_names x) ≡ []
  alts no_alt = refl
  alts (alt_then (alternative g (AAccept a l) s) rest) = both-loose (accept_names a ++ stmts_names l) (alts_names rest) (both-loose (accept_names a) (stmts_names l) (accept a) (stmts l)) (alts rest)
  alts (alt_then (alternative g (ADelay m l) s) rest) = both-loose (stmts_names l) (alts_names rest) (stmts l) (alts rest)
  alts (alt_then (alternative g ATerminate s) rest) = alts rest

  arms : (x : PArms) → fixed_names (arms_names x) ≡ []
  arms no_arm = refl
  arms (arm_then (arm e l) rest) = both-loose (stmts_names l) (arms_names rest) (stmts l) (arms rest)

  case_arms : (x : PCaseArms) → fixed_names (case_arms_names x) ≡ []
  case_arms no_case_arm = refl
  case_arms (case_arm_then (case_arm cs l) rest) = both-loose (stmts_names l) (case_arms_names rest) (stmts l) (case_arms rest)

  -- A body does so neither.
  pub body-loose : (x : PBody) → fixed_names (body_names x) ≡ []
  body-loose (body l hs) = both-loose (stmts_names l) (handlers_names [] hs) (stmts l) (handlers [] hs)

  handlers : (names : List ℕ) (x : PHandlers) → fixed_names (handlers_names names x) ≡ []
  handlers names no_handler = refl
  handlers names (handler_then (handler ws l s) rest) =
      both-loose (named_once names ws) (stmts_names l ++ handlers_names (with_words names ws) rest) (once-loose names ws)
      (both-loose (stmts_names l) (handlers_names (with_words names ws) rest) (stmts l) (handlers (with_words names ws) rest))

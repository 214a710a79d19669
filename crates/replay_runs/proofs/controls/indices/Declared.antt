-- The loops and accepts of a normal form declare plain names alone.
use Rattle.std.proofs.Common.{◌≡◌, ℕ, zero, suc, ◌+◌, ◌==◌, Bool, true, false, if◌then◌else◌, List, [], Option, Some, None, unwrap_or, sym, subst, arith}
use Rattle.std.specs.List.{filter}
use Rattle.std.proofs.lemmas.Bool.{ne_eqb}
use Rattle.std.proofs.lemmas.List.Elements.{All-from_recursion}
use Rattle.ada_tree.specs.declared.naming.NameId.{NameId}
use Rattle.ada_tree.specs.PlainStmt.{LWhile, LFor, PStmt, SNull, SAssign, SDelay, SExit, SRaise, SAbort, SCall, SAccept, SWait, SConditional, STimed, SPut, SPutLine, SNewLine, SGet, SIf, SCase, SBlock, SLoop, PAccept, accepting, alternative, PAltKind, AAccept, ADelay, ATerminate, PAlts, no_alt, alt_then}
use Rattle.ada_tree.specs.PlainExpr.{PExpr}
use Rattle.ada_tree.specs.declared.naming.Span.{Span}
use Rattle.ada_tree.specs.PlainDecl.{PDecl, DNumber, DObject, DEnumeration, DArray, DSubtype, DException, DIntIo, DPragma, DTask, DTaskBody, PDecls, no_decl, decl_then}
use Rattle.ada_tree.specs.PlainProgram.{PProgram}
use Rattle.ada_static_rules.specs.Scope.{Scope}
use Rattle.ada_static_rules.specs.Declaring.{inner_scope, after_objects, after_decl, in_body}
use Rattle.syn_event.specs.declared.numbering.TaskInfo.{TaskInfo}
use Rattle.syn_event.specs.Numbering.{task_at}
use Rattle.syn_event.specs.DeclaredTasks.{decl_list}
use Rattle.seq_file.specs.Known.{is_known}
use Rattle.task_model.specs.Setting.{Setting}
use Rattle.task_model.specs.Starting.{unit_among, unit_of_info, unit_of}
use Rattle.task_laws.specs.statements.Each.{Loops, InBody}
use Rattle.task_laws.specs.statements.variables.Held.{InAccept, InKind, InAlternatives, DeclaresInner}
use Rattle.task_laws.specs.legal.asked.Asked.{AskedStmt, AskedAccept, AskedKind, AskedAlts}
use Rattle.normal_laws.specs.runs.forms.Normalisable.{numbers_of, setting_for, made_for}
use Rattle.normal_laws.specs.existence.Laws.{IsLegalOriginal}
use Rattle.normal_laws.proofs.existence.statements.Asked.{body-each}
use Rattle.normal_model.specs.NormalTree.{first_decls, main_variables}
use Rattle.replay_model.specs.ReplayTree.{is_body, script_of}
use Rattle.replay_structure.specs.scopes.Form.{BodyForms, IsForm, tasked, last}
use Rattle.replay_structure.specs.scopes.Names.{old_name}
use Rattle.replay_structure.specs.typed.ScopeOf.{form_asks}
use Rattle.replay_structure.specs.legal.names.form_units.Inner.{inner_name}
use Rattle.replay_structure.proofs.legal.names.Form.{legal_normal_is_form}
use Rattle.replay_runs.specs.starts.Laws.{form_in}

module _ (old inner : ℕ → Bool) where
  -- ---- one statement

  of-accept : (x : PAccept) (c : Unit {0} × Scope) (k : ℕ) → AskedAccept (form_asks old inner) c k x → InAccept inner x
  of-accept (accepting head o) c k h = h.0.1.2

  of-kind : (what : PAltKind) (g : Option PExpr) (s : Span) (c : Unit {0} × Scope) (k : ℕ) → AskedKind (form_asks old inner) c k g s what → InKind inner what
  of-kind (AAccept x l) g s c k h = of-accept x c k h.0
  of-kind (ADelay d l) g s c k h = tt
  of-kind ATerminate g s c k h = tt

  of-alts : (x : PAlts) (c : Unit {0} × Scope) (k : ℕ) → AskedAlts (form_asks old inner) c k x → InAlternatives inner x
  of-alts no_alt c k h = tt
  of-alts (alt_then (alternative g what s) rest) c k h = (of-kind what g s c (k + 1) h.2, of-alts rest c k h.3)

  asked-each : (x : PStmt) (c : Unit {0} × Scope) (k : ℕ) (loops : Loops) → AskedStmt (form_asks old inner) c k x → DeclaresInner inner loops x
  asked-each (SLoop w None l s) c k loops h = tt
  asked-each (SLoop w (Some (LWhile e)) l s) c k loops h = tt
  asked-each (SLoop w (Some (LFor v backwards x)) l s) c k loops h = h.1.1.1
  asked-each (SAccept x s) c k loops h = of-accept x c k h
  asked-each (SWait x o s) c k loops h = of-alts x c (k + 1) h.3
  asked-each (SNull s) c k loops h = tt
  asked-each (SAssign t e s) c k loops h = tt
  asked-each (SDelay d s) c k loops h = tt
  asked-each (SExit w e s) c k loops h = tt
  asked-each (SRaise w s) c k loops h = tt
  asked-each (SAbort xs s) c k loops h = tt
  asked-each (SCall x s) c k loops h = tt
  asked-each (SConditional x l o s) c k loops h = tt
  asked-each (STimed x l d o s) c k loops h = tt
  asked-each (SPut ps s) c k loops h = tt
  asked-each (SPutLine ps s) c k loops h = tt
  asked-each (SNewLine s) c k loops h = tt
  asked-each (SGet t s) c k loops h = tt
  asked-each (SIf x o s) c k loops h = tt
  asked-each (SCase e x o s) c k loops h = tt
  asked-each (SBlock b s) c k loops h = tt

  -- ---- the bodies of declarations

  of-name : (g : Setting) (ds : PDecls) (c : Scope) (name : NameId) → BodyForms g old inner c (filter is_body (decl_list ds)) → InBody (DeclaresInner inner) [] (unit_among ds name).body
  of-name g no_decl c name h = (tt, tt)
  of-name g (decl_then (DTaskBody w objects its s) rest) c name h = by_test (w.name.0 == name.0) (of-name g rest (after_decl c (DTaskBody w objects its s)) name h.1)
    where
      by_test : (b : Bool) → InBody (DeclaresInner inner) [] (unit_among rest name).body →
          InBody (DeclaresInner inner) [] (unwrap_or (if b then Some record { in_main = false; decls = objects; body = its } else None) (unit_among rest name)).body
      by_test false later = later
      by_test true later = body-each (form_asks old inner) (DeclaresInner inner) asked-each its (tt, inner_scope (after_objects (in_body c w) objects)) 1 [] h.0.asked
  of-name g (decl_then (DObject ws constant shape init s) rest) c name h = of-name g rest c name h
  of-name g (decl_then (DNumber n e s) rest) c name h = of-name g rest c name h
  of-name g (decl_then (DEnumeration n ws s) rest) c name h = of-name g rest c name h
  of-name g (decl_then (DArray n index x s) rest) c name h = of-name g rest c name h
  of-name g (decl_then (DSubtype n x s) rest) c name h = of-name g rest c name h
  of-name g (decl_then (DException ws s) rest) c name h = of-name g rest c name h
  of-name g (decl_then (DIntIo n s) rest) c name h = of-name g rest c name h
  of-name g (decl_then (DPragma e s) rest) c name h = of-name g rest c name h
  of-name g (decl_then (DTask t s) rest) c name h = of-name g rest c name h

module _ (p : PProgram) (legal : IsLegalOriginal p) where
  abbrev before : List PDecl
  before = decl_list (first_decls [] p.decls)

  abbrev vars : List PDecl
  vars = main_variables (setting_for p)

  form : IsForm (form_in p) (old_name (made_for p)) (inner_name p) (script_of (numbers_of p) []) before vars
  form = legal_normal_is_form p [] legal (record { each = All-from_recursion (λ e. is_known (numbers_of p) e ≡ true) [] tt; few = omega arith })

  of-info : (info : Option TaskInfo) → InBody (DeclaresInner (inner_name p)) [] (unit_of_info (made_for p) info).body
  of-info None = (tt, tt)
  of-info (Some info) = of-name (old_name (made_for p)) (inner_name p) (form_in p) (made_for p).decls (tasked (made_for p) before vars) info.unit form.bodies

  pub bodies-inner : (t : ℕ) → InBody (DeclaresInner (inner_name p)) [] (unit_of (made_for p) (form_in p).numbers t).body
  bodies-inner zero = body-each (form_asks (old_name (made_for p)) (inner_name p)) (DeclaresInner (inner_name p)) (asked-each (old_name (made_for p)) (inner_name p)) (made_for p).body (tt, inner_scope (last (made_for p) before vars)) 1 [] form.asked
  bodies-inner (suc t) =
      subst (λ b. InBody (DeclaresInner (inner_name p)) [] (if b then record { in_main = true; decls = (made_for p).decls; body = (made_for p).body } else unit_of_info (made_for p) (task_at (form_in p).numbers (suc t))).body)
      (sym (ne_eqb (suc t) 0 (λ e. omega (arith, e)))) (of-info (task_at (form_in p).numbers (suc t)))

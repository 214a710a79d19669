-- A wait of a legal program's normal form has few alternatives.
use Rattle.std.proofs.Common.{◌≡◌, ◌≤◌, ◌+◌, ◌==◌, ◌&&◌, nat_le, nat_lt, arith, ℕ, zero, suc, Bool, true, false, if◌then◌else◌, List, [], unwrap_or}
use Rattle.std.proofs.Common.{Option, Some, None, refl, sym, subst, true≢false}
use Rattle.std.specs.List.{AllByRecursion}
use Rattle.std.proofs.lemmas.Bool.{ne_eqb}
use Rattle.std.proofs.lemmas.Bool.Decides.{nat_tests}
use Rattle.common_lemmas.proofs.Lists.{all_back, all_front, all_first, all_second}
use Rattle.ada_tree.specs.declared.naming.NameId.{NameId}
use Rattle.ada_tree.specs.declared.naming.Span.{Span}
use Rattle.ada_tree.specs.Every.{alts_count}
use Rattle.ada_tree.specs.PlainStmt.{PStmt, SNull, SAssign, SDelay, SExit, SRaise, SAbort, SCall, SAccept, SWait, SConditional, STimed, SPut}
use Rattle.ada_tree.specs.PlainStmt.{SPutLine, SNewLine, SGet, SIf, SCase, SBlock, SLoop, PBody, alternative, PAlts, no_alt, alt_then}
use Rattle.ada_tree.specs.PlainDecl.{DTaskBody, PDecls, no_decl, decl_then}
use Rattle.ada_tree.specs.PlainProgram.{PProgram}
use Rattle.syn_event.specs.declared.numbering.Mode.TheVariants.{Any}
use Rattle.syn_event.specs.declared.numbering.TaskInfo.{TaskInfo}
use Rattle.syn_event.specs.declared.limits.What.TheVariants.{Alternatives}
use Rattle.syn_event.specs.CheckScope.{CheckScope, CheckSite}
use Rattle.syn_event.specs.CheckSites as check
use Rattle.syn_event.specs.RuleLimit.{limit_passed}
use Rattle.syn_event.specs.Numbering.{task_at}
use Rattle.syn_event.proofs.Nothing.{test_fails}
use Rattle.task_model.specs.Starting.{unit_among, unit_of_info, unit_of, started}
use Rattle.task_laws.specs.statements.Each.{Loops, InBody, HoldsOf}
use Rattle.task_laws.specs.statements.Laws.{StaysSo}
use Rattle.task_laws.proofs.statements.Carried.{starts-so, stays-so}
use Rattle.task_laws.specs.legal.asked.Asked.{AskedStmt}
use Rattle.task_laws.specs.legal.asked.Kinds.{check_asks}
use Rattle.task_laws.specs.legal.sites.Met.{IsCheckMet}
use Rattle.task_laws.proofs.legal.sites.Meeting.{all_check_met}
use Rattle.task_laws.proofs.legal.asked.Checked.{checked_asked}
use Rattle.normal_laws.specs.runs.forms.Normalisable.{made_for}
use Rattle.normal_laws.specs.existence.Laws.{IsLegalOriginal}
use Rattle.normal_laws.proofs.existence.statements.Asked.{body-each}
use Rattle.normal_laws.proofs.legality.Legal.{normal_is_legal}
use Rattle.replay_runs.specs.starts.Laws.{form_in}
use Rattle.replay_runs.specs.starts.Formals.{form_setting}
use Rattle.task_model.specs.Tasks.{Task}
use Rattle.std.specs.Prelude.{ℤ}
use Rattle.collect_runs.specs.aborts.forms.Tasks.{HasFewParts}

module _ (names : List (List ℕ)) (c : CheckScope) where
  abbrev M : CheckSite → Type 0
  M x = IsCheckMet Any names x

  within : (n : ℕ) (s : Span) → n ≤ 33 → limit_passed Alternatives (Some 33) n 1 s ≡ [] → n + 1 ≤ 33
  within n s start h = split (nat_le n 33) (nat_lt 33 (n + 1)) refl refl (test_fails (nat_le n 33 && nat_lt 33 (n + 1)) _ h)
    where
      split : (x y : Bool) → nat_le n 33 ≡ x → nat_lt 33 (n + 1) ≡ y → (x && y) ≡ false → n + 1 ≤ 33
      split true false ex ey f = grind (arith, nat_tests)
      split true true ex ey f = absurd (true≢false f)
      split false y ex ey f = absurd (true≢false (grind (arith, nat_tests)))

  few-places : (x : PAlts) (n : ℕ) → n ≤ 33 → AllByRecursion M (check.numbered c Alternatives n (check.alt_places x)) → n + alts_count x ≤ 33
  few-places no_alt n start m = omega (arith, start)
  few-places (alt_then (alternative guard what s) rest) n start m =
      let here : n + 1 ≤ 33 = within n s start m.0.limits in
      let more : n + 1 + alts_count rest ≤ 33 = few-places rest (n + 1) here m.1 in
      omega (arith, more)

  few-parts : (k : ℕ) (x : PStmt) (loops : Loops) → AskedStmt (check_asks M) c k x → HasFewParts loops x
  few-parts k (SWait x o s) loops h = let few : 0 + alts_count x ≤ 33 = few-places x 0 (omega arith) h.2.1 in omega (arith, few)
  few-parts k (SNull s) loops h = tt
  few-parts k (SAssign t e s) loops h = tt
  few-parts k (SDelay d s) loops h = tt
  few-parts k (SExit w e s) loops h = tt
  few-parts k (SRaise w s) loops h = tt
  few-parts k (SAbort xs s) loops h = tt
  few-parts k (SCall x s) loops h = tt
  few-parts k (SAccept a s) loops h = tt
  few-parts k (SConditional x l o s) loops h = tt
  few-parts k (STimed x l d o s) loops h = tt
  few-parts k (SPut ps s) loops h = tt
  few-parts k (SPutLine ps s) loops h = tt
  few-parts k (SNewLine s) loops h = tt
  few-parts k (SGet t s) loops h = tt
  few-parts k (SIf x o s) loops h = tt
  few-parts k (SCase e x o s) loops h = tt
  few-parts k (SBlock b s) loops h = tt
  few-parts k (SLoop w x l s) loops h = tt

module _ (p : PProgram) (h : IsLegalOriginal p) where
  abbrev q : PProgram
  q = made_for p

  abbrev P : CheckSite → Type 0
  P x = IsCheckMet Any (made_for p).names x

  abbrev c0 : CheckScope
  c0 = check.around_program q

  -- a body whose places meet the rules
  body-few : (c : CheckScope) (its : PBody) → AllByRecursion P (check.body_sites c 1 its) → InBody HasFewParts [] its
  body-few c its m = body-each (check_asks P) HasFewParts (λ x d k loops a. few-parts q.names d k x loops a) its c 1 [] (checked_asked P c 1 its m)

  of-name : (bodies : List ℕ) (ds : PDecls) (c : CheckScope) (name : NameId) → AllByRecursion P (check.decls_sites c bodies ds) →
      InBody HasFewParts [] (unit_among ds name).body
  of-name bodies no_decl c name m = (tt, tt)
  of-name bodies (decl_then (DTaskBody w objects its s) rest) c name m =
      by_test (w.name.0 == name.0)
      (of-name bodies rest (check.after_decl c (DTaskBody w objects its s)) name
      (all_back P (check.decl_sites c bodies (DTaskBody w objects its s)) (check.decls_sites (check.after_decl c (DTaskBody w objects its s)) bodies rest) m))
    where
      here : AllByRecursion P (check.decl_sites c bodies (DTaskBody w objects its s))
      here = all_front P (check.decl_sites c bodies (DTaskBody w objects its s)) (check.decls_sites (check.after_decl c
          (DTaskBody w objects its s)) bodies rest) m

      by_test : (b : Bool) → InBody HasFewParts [] (unit_among rest name).body →
          InBody HasFewParts [] (unwrap_or (if b then Some record { in_main = false; decls = objects; body = its } else None) (unit_among rest name)).body
      by_test true k = body-few _ its (all_back P (check.own_sites (check.in_body c w) objects) (check.body_sites (check.after_own
          (check.in_body c w) objects) 1 its) here)
      by_test false k = k
  of-name bodies (decl_then d rest) c name m = of-name bodies rest (check.after_decl c d) name (all_back P (check.decl_sites c bodies d)
      (check.decls_sites (check.after_decl c d) bodies rest) m)

  met : AllByRecursion P (check.decls_sites c0 (check.body_names q.decls) q.decls) × AllByRecursion P (check.body_sites (check.after_decls c0 q.decls) 1 q.body)
  met =
      let all = all_check_met q Any (normal_is_legal p h).check_rules in (
        all_first P (check.decls_sites c0 (check.body_names q.decls) q.decls) (check.body_sites (check.after_decls c0 q.decls) 1 q.body)
            (check.counted_sites c0 q) all.1,
        all_second P (check.decls_sites c0 (check.body_names q.decls) q.decls) (check.body_sites (check.after_decls c0 q.decls) 1 q.body)
            (check.counted_sites c0 q) all.1,
      )

  of-info : (info : Option TaskInfo) → InBody HasFewParts [] (unit_of_info q info).body
  of-info None = (tt, tt)
  of-info (Some info) = of-name (check.body_names q.decls) q.decls c0 info.unit met.0

  pub bodies-few : (t : ℕ) → InBody HasFewParts [] (unit_of q (form_in p).numbers t).body
  bodies-few zero = body-few (check.after_decls c0 q.decls) q.body met.1
  bodies-few (suc t) =
      subst (λ c. InBody HasFewParts [] (if c then record { in_main = true; decls = q.decls; body = q.body } else unit_of_info q (task_at
      (form_in p).numbers (suc t))).body)
      (sym (ne_eqb (suc t) 0 (λ e. omega (arith, e)))) (of-info (task_at (form_in p).numbers (suc t)))

  -- so each task starts
  pub starts-few : (inputs : List (List ℤ)) (t : ℕ) → HoldsOf HasFewParts (started (form_setting p) inputs t)
  starts-few inputs t = starts-so HasFewParts (form_setting p) inputs t (bodies-few t)

-- and stays
pub few-stays : (σ : Task) → HoldsOf HasFewParts σ → StaysSo HasFewParts σ
few-stays σ h = stays-so HasFewParts (λ loops c d cs s i. tt) σ h

-- Each wait of a body that meets the rules 13 to 23 has an accept (9.7.1).
use Rattle.std.proofs.Common.{◌≡◌, ℕ, ◌==◌, Bool, true, false, ◌||◌, nat_lt, [], count_by, refl, true≢false}
use Rattle.ada_tree.specs.declared.naming.Span.{Span}
use Rattle.ada_tree.specs.PlainStmt.{PAlts, no_alt, alt_then, alternative, AAccept, ADelay, ATerminate, PBody}
use Rattle.syn_event.specs.CheckScope.{CheckScope, CheckSite, waits}
use Rattle.syn_event.specs.CheckSites as check
use Rattle.syn_event.specs.RuleSelectForm.{alt_kinds, is_accept, is_terminate, kinds_count, is_malformed, select_form}
use Rattle.task_laws.specs.legal.asked.Asked.{AskedBody}
use Rattle.task_laws.specs.legal.asked.Kinds.{check_asks}
use Rattle.replay_structure.specs.typed.ScopeOf.{has_accept}
use Rattle.replay_structure.proofs.scopes.Weaker.{AsksLess, asked_less}
use Rattle.replay_structure.proofs.scopes.Asked.{wait_asks}
use Rattle.task_laws.proofs.legal.sites.Around.{test-fails}

some-accept : (x : PAlts) → (count_by is_accept (alt_kinds x) == 0) ≡ false → has_accept x ≡ true
some-accept no_alt e = absurd (true≢false e)
some-accept (alt_then (alternative g (AAccept a l) s) rest) e = refl
some-accept (alt_then (alternative g (ADelay n l) s) rest) e = some-accept rest e
some-accept (alt_then (alternative g ATerminate s) rest) e = some-accept rest e

first-of : (a b c : Bool) → (a || b || c) ≡ false → a ≡ false
first-of true b c e = e
first-of false b c e = refl

-- a wait that is not malformed has an accept
pub wait-accepts : (c : CheckScope) (x : PAlts) (others : Bool) (s : Span) → select_form c (waits x others s) ≡ [] → has_accept x ≡ true
wait-accepts c x others s h =
    some-accept x
    (first-of (count_by is_accept (alt_kinds x) == 0) (nat_lt 1 (count_by is_terminate (alt_kinds x))) (nat_lt 1 (kinds_count (alt_kinds x) others)) (test-fails (is_malformed (alt_kinds x) others) s h))

module _ (P : CheckSite → Type 0) (told : (c : CheckScope) (x : PAlts) (others : Bool) (s : Span) → P (check.site c (waits x others s)) → select_form c (waits x others s) ≡ []) where
  abbrev R : CheckScope → Prim.Unit {0} → Type 0
  R c d = Prim.Unit {0}

  less : AsksLess (check_asks P) wait_asks R
  less = record {
    outer = λ c d k s r h. tt;
    many = λ n h. tt;
    duration = λ n h. tt;
    plain = λ c d k x r h. tt;
    callee = λ c d k x r h. tt;
    call = λ c d k x r h. tt;
    aborts = λ c d k xs r h. tt;
    condition = λ c d k e r h. tt;
    selector = λ c d k e xs others s r h. tt;
    choices = λ c d k e xs r h. tt;
    loop = λ c d k w x r h. tt;
    head = λ c d k h r i. tt;
    wait = λ c d k x others s r h. wait-accepts c x others s (told c x others s h.0);
    delay = λ c d k e s r h. tt;
    handlers = λ hs h. tt;
    handler = λ c d k names ws r h. tt;
    accepting = λ c d h r. tt;
    looping = λ c d w x r. tt;
    handling = λ c d r. tt;
  }

  -- So its waits are as asked.
  pub waits-asked : (c : CheckScope) (k : ℕ) (x : PBody) → AskedBody (check_asks P) c k x → AskedBody wait_asks tt k x
  waits-asked c k x h = asked_less (check_asks P) wait_asks R less c tt k x tt h

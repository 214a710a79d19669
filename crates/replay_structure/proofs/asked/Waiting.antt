-- The waits for one alternative in a replay text are as asked, from their pieces; and what is known of the delay alternatives of a wait.
use Rattle.std.proofs.Common.{ℕ, ◌+◌, ◌*◌, ◌<◌, ◌≤◌, ◌==◌, Bool, true, false, List, [], ◌∷◌, length, Option, None, IfSome, arith}
use Rattle.std.specs.List.{AllByRecursion}
use Rattle.ada_tree.specs.declared.naming.Span.{Span}
use Rattle.ada_tree.specs.PlainExpr.{PExpr}
use Rattle.ada_tree.specs.PlainStmt.{SNull, PAltKind, PMaybe, absent, present, alternative, AAccept, ADelay, ATerminate, PAlts, no_alt, alt_then}
use Rattle.ada_tree.specs.Every.{alts_count}
use Rattle.ada_static_rules.specs.Sites.{is_present}
use Rattle.normal_model.specs.Making.{one}
use Rattle.normal_model.specs.RewrittenUnit.{RewrittenUnit}
use Rattle.task_laws.specs.legal.asked.Asked.{Asks, AskedStmt, AskedMaybe, AskedAlts, AskedKind}
use Rattle.replay_model.specs.Waiting.{Pause, pauses_of, never_alt, select_of, only_pause, pausing, never_or_terminate, passing}
use Rattle.replay_structure.specs.asked.Pieces.{pause_guard, IsAlternative, first_alternative, later_alternative, Pieces}

-- ---- alternatives

module _ {C : Type 0} (b : Asks C) where
  -- an alternative is as asked where all are
  pub alternative-asked : (c : C) (k : ℕ) (g : Option PExpr) (y : PAltKind) (s : Span) (x : PAlts) → IsAlternative (alternative g y s) x → AskedAlts b c k x →
      b.outer c k s × IfSome g (b.condition c (k + 1)) × AskedKind b c (k + 1) g s y
  alternative-asked c k g y s x (first_alternative l) h = (h.0, h.1, h.2)
  alternative-asked c k g y s x (later_alternative (alternative f z p) l i) h = alternative-asked c k g y s l i h.3

  -- a delay alternative is as asked: its guard, and its duration
  abbrev pub IsAsked : C → ℕ → Pause → Type 0
  IsAsked c k x = IfSome x.guard (b.condition c k) × b.duration x.duration

  -- the guards of alternatives stand one deeper than these
  pub pauses-asked : (c : C) (k : ℕ) (x : PAlts) → AskedAlts b c k x → AllByRecursion (IsAsked c (k + 1)) (pauses_of x)
  pauses-asked c k no_alt h = tt
  pauses-asked c k (alt_then (alternative g (AAccept y l) s) rest) h = pauses-asked c k rest h.3
  pauses-asked c k (alt_then (alternative g (ADelay n l) s) rest) h = ((h.1, h.2.1), pauses-asked c k rest h.3)
  pauses-asked c k (alt_then (alternative g ATerminate s) rest) h = pauses-asked c k rest h.3

-- they are no more than the alternatives
pub few-pauses : (x : PAlts) → length (pauses_of x) ≤ alts_count x
few-pauses no_alt = omega arith
few-pauses (alt_then (alternative g (AAccept y l) s) rest) = omega (arith, few-pauses rest)
few-pauses (alt_then (alternative g (ADelay n l) s) rest) = omega (arith, few-pauses rest)
few-pauses (alt_then (alternative g ATerminate s) rest) = omega (arith, few-pauses rest)

-- ---- waits

module _ {C D : Type 0} (u : RewrittenUnit) (H : ℕ → Type 0) (b : Asks C) (a : Asks D) (R : C → D → Type 0) (P : Pieces u H b a R) where
  -- the wait of the normal form, with the nesting k
  module _ (c : C) (d : D) (k : ℕ) (s : Span) (rel : R c d) (h : H k) (x : PAlts) (others : Bool) (t : Span) (w : b.wait c k x others t) (i : AskedAlts b c (k + 1) x) where
    select-asked : (n : ℕ) (y : PAlts) (o : PMaybe) → n < 4 * k + 4 → a.wait d n (alt_then (never_alt u s) y) (is_present o) s → AskedAlts a d (n + 1) y → AskedMaybe a d (n + 1) o → AskedStmt a d n (select_of u s y o)
    select-asked n y o le v f g = (
      P.outer c d k n s rel h (omega (arith, le)),
      P.some (alts_count y),
      v,
      (P.outer c d k (n + 1) s rel h (omega (arith, le)), tt, ((P.never c d k ((n + 1) + 1) x others t s rel h w i (omega (arith, le)), tt), tt), f),
      g,
    )

    shut-guard : (n : ℕ) (taken : Bool) → n < 4 * k + 8 → IfSome (pause_guard s taken) (a.condition d n)
    shut-guard n true le = tt
    shut-guard n false le = P.shut c d k n s rel h le

    only-pause-asked : (n place : ℕ) (ps : List Pause) (j : ℕ) → n < 4 * k + 5 → AllByRecursion (IsAsked b c ((k + 1) + 1)) ps → AskedAlts a d n (only_pause s place ps j)
    only-pause-asked n place [] j le q = tt
    only-pause-asked n place (p ∷ ps) j le q = (
      P.outer c d k n s rel h (omega (arith, le)),
      shut-guard (n + 1) (j == place) (omega (arith, le)),
      (P.delay c d k (n + 1) s (j == place) rel h (omega (arith, le)), P.duration p.duration q.0.1, tt),
      only-pause-asked n place ps (j + 1) le q.1,
    )

    pub pausing-asked : (n place : ℕ) → n < 4 * k + 4 → AskedStmt a d n (pausing u s (pauses_of x) place)
    pausing-asked n place le =
        select-asked n (only_pause s place (pauses_of x) 1) absent le (P.pausing c d k n x others t s place rel h w i (omega (arith, le)))
        (only-pause-asked (n + 1) place (pauses_of x) 1 (omega (arith, le)) (pauses-asked b c (k + 1) x i)) tt

    pub ending-asked : (n : ℕ) → n < 4 * k + 4 → AskedStmt a d n (never_or_terminate u s)
    ending-asked n le =
        select-asked n (alt_then (alternative None ATerminate s) no_alt) absent le (P.ending c d k n x others t s rel h w i (omega (arith, le)))
        (P.outer c d k (n + 1) s rel h (omega (arith, le)), tt, tt, tt) tt

  pub passing-asked : (c : C) (d : D) (k n : ℕ) (s : Span) (x : PAlts) (t : Span) → R c d → H k → b.wait c k x true t → AskedAlts b c (k + 1) x → n < 4 * k + 4 → AskedStmt a d n (passing u s)
  passing-asked c d k n s x t rel h w i le =
      select-asked c d k s rel h x true t w i n no_alt (present (one (SNull s))) le (P.passing c d k n x t s rel h w i (omega (arith, le))) tt (P.some 0, P.null c d k (n + 1) s rel h (omega (arith, le)), tt)

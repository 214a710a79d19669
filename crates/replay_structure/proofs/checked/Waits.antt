-- What is known of a selective wait of a normal form that meets the rules 13 to 23, and that each wait for one alternative is of a right form.
use Rattle.std.proofs.Common.{◌≡◌, ℕ, ◌+◌, ◌≤◌, ◌==◌, Bool, true, false, not, ◌&&◌, ◌||◌, nat_le, nat_lt, cond, if◌then◌else◌, List, [], ◌∷◌, length, count_by, None, refl, sym, ap, ◌∙◌, true≢false, arith}
use Rattle.std.specs.List.{AllByRecursion}
use Rattle.std.proofs.lemmas.Bool.{ltb-false, le-leb}
use Rattle.std.proofs.lemmas.List.Sums.{sum_by-cons}
use Rattle.common_lemmas.proofs.Numbers.{zero_more}
use Rattle.ada_tree.specs.declared.naming.NameId.{NameId}
use Rattle.ada_tree.specs.declared.naming.Span.{Span}
use Rattle.ada_tree.specs.PlainStmt.{accepting, absent, no_stmt, alternative, PAltKind, AAccept, ADelay, ATerminate, PAlts, no_alt, alt_then}
use Rattle.ada_tree.specs.PlainProgram.{PProgram}
use Rattle.ada_tree.specs.Every.{alts_count}
use Rattle.syn_event.specs.declared.limits.What.TheVariants.{Alternatives}
use Rattle.syn_event.specs.CheckScope.{CheckScope, CheckSite}
use Rattle.syn_event.specs.CheckSites as check
use Rattle.syn_event.specs.RuleAcceptPlace.{is_among, is_own_entry}
use Rattle.syn_event.specs.RuleSelectForm.{alt_kinds, is_accept, is_delay, is_terminate, some, is_malformed}
use Rattle.syn_event.specs.RuleSameEntryTwice.{accept_heads}
use Rattle.syn_event.proofs.Nothing.{test_fails}
use Rattle.task_laws.specs.legal.asked.Asked.{Asks, AskedAlts}
use Rattle.task_laws.specs.legal.asked.Kinds.{place_asks, check_asks, both}
use Rattle.normal_model.specs.RewrittenUnit.{RewrittenUnit}
use Rattle.replay_model.specs.Names.{never_text, added_word}
use Rattle.replay_model.specs.Waiting.{Pause, pauses_of, never_alt, only_pause}
use Rattle.replay_structure.specs.checked.Around.{kept_names, form_asks}
use Rattle.replay_structure.proofs.checked.Stays.{IsFormMet}

-- ---- counts of alternatives

count-on : (p : PAltKind → Bool) (x : PAltKind) (xs : List PAltKind) → count_by p (x ∷ xs) ≡ cond (p x) 1 0 + count_by p xs
count-on p x xs = sum_by-cons (λ z. cond (p z) 1 0) x xs

-- the alternatives that are no delays are the others
pub pauses-fewer : (x : PAlts) → length (pauses_of x) + count_by is_accept (alt_kinds x) ≤ alts_count x
pauses-fewer no_alt = omega arith
pauses-fewer (alt_then (alternative g (AAccept a l) s) rest) =
    let h : length (pauses_of rest) + count_by is_accept (alt_kinds rest) ≤ alts_count rest = pauses-fewer rest in
    let e : count_by is_accept (AAccept a l ∷ alt_kinds rest) ≡ 1 + count_by is_accept (alt_kinds rest) = count-on is_accept (AAccept a l) (alt_kinds rest) in
    omega (arith, h, e)
pauses-fewer (alt_then (alternative g (ADelay n l) s) rest) =
    let h : length (pauses_of rest) + count_by is_accept (alt_kinds rest) ≤ alts_count rest = pauses-fewer rest in
    let e : count_by is_accept (ADelay n l ∷ alt_kinds rest) ≡ 0 + count_by is_accept (alt_kinds rest) = count-on is_accept (ADelay n l) (alt_kinds rest) in
    omega (arith, h, e)
pauses-fewer (alt_then (alternative g ATerminate s) rest) =
    let h : length (pauses_of rest) + count_by is_accept (alt_kinds rest) ≤ alts_count rest = pauses-fewer rest in
    let e : count_by is_accept (ATerminate ∷ alt_kinds rest) ≡ 0 + count_by is_accept (alt_kinds rest) = count-on is_accept ATerminate (alt_kinds rest) in
    omega (arith, h, e)

-- ---- a wait for one delay

pub delays-none : (s : Span) (k : ℕ) (xs : List Pause) (n : ℕ) → accept_heads (alt_kinds (only_pause s k xs n)) ≡ []
delays-none s k [] n = refl
delays-none s k (x ∷ xs) n = delays-none s k xs (n + 1)

-- the alternatives are all delays
delays-count : (p : PAltKind → Bool) → ((d : ℕ) → p (ADelay d no_stmt) ≡ false) → (s : Span) (k : ℕ) (xs : List Pause) (n : ℕ) → count_by p (alt_kinds (only_pause s k xs n)) ≡ 0
delays-count p h s k [] n = refl
delays-count p h s k (x ∷ xs) n =
    count-on p (ADelay x.duration no_stmt) (alt_kinds (only_pause s k xs (n + 1))) ∙ ap (λ b. cond b 1 0 + count_by p (alt_kinds (only_pause s k xs (n + 1)))) (h x.duration)
    ∙ ap (λ m. 0 + m) (delays-count p h s k xs (n + 1))

-- and one accept
pub delays-alone : (u : RewrittenUnit) (s : Span) (k : ℕ) (xs : List Pause) (n : ℕ) → is_malformed (alt_kinds (alt_then (never_alt u s) (only_pause s k xs n))) false ≡ false
delays-alone u s k xs n =
    let never : PAltKind = AAccept (accepting (record { entry = added_word u.setting.program s never_text; index = None; formals = []; span = s }) absent) no_stmt in
    let rest : List PAltKind = alt_kinds (only_pause s k xs n) in
    ap (λ m. (m == 0) || nat_lt 1 (count_by is_terminate (never ∷ rest)) || nat_lt 1 (some (count_by is_terminate (never ∷ rest)) + some (count_by is_delay (never ∷ rest)) + 0)) (count-on is_accept never rest ∙ ap (λ m. 1 + m) (delays-count is_accept (λ d. refl) s k xs n))
    ∙ ap (λ m. false || nat_lt 1 m || nat_lt 1 (some m + some (count_by is_delay (never ∷ rest)) + 0)) (count-on is_terminate never rest ∙ ap (λ m. 0 + m) (delays-count is_terminate (λ d. refl) s k xs n))
    ∙ few (count_by is_delay (never ∷ rest))
  where
    few : (m : ℕ) → nat_lt 1 (0 + some m + 0) ≡ false
    few m = go (m == 0)
      where
        go : (b : Bool) → nat_lt 1 (0 + (if b then 0 else 1) + 0) ≡ false
        go true = refl
        go false = refl

-- ---- the wait of the normal form

-- a wait that is well formed has an accept
pub some-accept : (x : PAlts) (others : Bool) (s : Span) → (if is_malformed (alt_kinds x) others then s ∷ [] else []) ≡ [] → (count_by is_accept (alt_kinds x) == 0) ≡ false
some-accept x others s h = first (count_by is_accept (alt_kinds x) == 0) _ (first _ _ (test_fails (is_malformed (alt_kinds x) others) s h))
  where
    first : (a b : Bool) → (a || b) ≡ false → a ≡ false
    first true b e = absurd (true≢false e)
    first false b e = refl

-- what is asked of the statements of a normal form: its names are kept ones, the rules 13 to 23 are met, and nothing stands too deep
abbrev pub asks : PProgram → Asks (Prim.Unit {0} × (CheckScope × Prim.Unit {0}))
asks q = both (place_asks (kept_names q)) (both (check_asks (IsFormMet q)) form_asks)

module _ (q : PProgram) (c : CheckScope) where
  abbrev M : CheckSite → Type 0
  M = IsFormMet q

  one-more : (n : ℕ) → n ≤ 33 → (nat_le n 33 && nat_lt 33 (n + 1)) ≡ false → n + 1 ≤ 33
  one-more n le e = ltb-false 33 (n + 1) (right (nat_le n 33) (nat_lt 33 (n + 1)) (le-leb n 33 le) e)
    where
      right : (a b : Bool) → a ≡ true → (a && b) ≡ false → b ≡ false
      right true b f g = g
      right false b f g = absurd (true≢false (sym f))

  pub few-alternatives : (x : PAlts) (n : ℕ) → n ≤ 33 → AllByRecursion M (check.numbered c Alternatives n (check.alt_places x)) → n + alts_count x ≤ 33
  few-alternatives no_alt n le m = omega (arith, le)
  few-alternatives (alt_then (alternative g what s) l) n le m =
      let e : (nat_le n 33 && nat_lt 33 (n + 1)) ≡ false = test_fails (nat_le n 33 && nat_lt 33 (n + 1)) _ m.0.limits in
      let h : n + 1 + alts_count l ≤ 33 = few-alternatives l (n + 1) (one-more n le e) m.1 in
      omega (arith, h)

  -- an entry of the own task, where a wait has an accept
  pub record HasOwn : Type 0 where
    pub id : NameId
    pub is : is_own_entry c.own id ≡ true

  pub own-entry : (x : PAlts) (k : ℕ) (y z : Prim.Unit {0}) → AskedAlts (asks q) (y, (c, z)) k x → (count_by is_accept (alt_kinds x) == 0) ≡ false → HasOwn
  own-entry no_alt k y z h e = absurd (true≢false e)
  own-entry (alt_then (alternative g (AAccept (accepting i o) l) s) rest) k y z h e = record { id = i.entry.name; is = go (is_own_entry c.own i.entry.name) (test_fails (not (is_own_entry c.own i.entry.name) || is_among c.accepting i.entry.name) i.span h.2.0.0.1.0.1.0.accepts) }
    where
      go : (b : Bool) → (not b || is_among c.accepting i.entry.name) ≡ false → b ≡ true
      go true f = refl
      go false f = absurd (true≢false f)
  own-entry (alt_then (alternative g (ADelay n l) s) rest) k y z h e = own-entry rest k y z h.3 (sym (ap (λ m. m == 0) (count-on is_accept (ADelay n l) (alt_kinds rest) ∙ zero_more (count_by is_accept (alt_kinds rest)))) ∙ e)
  own-entry (alt_then (alternative g ATerminate s) rest) k y z h e = own-entry rest k y z h.3 (sym (ap (λ m. m == 0) (count-on is_accept ATerminate (alt_kinds rest) ∙ zero_more (count_by is_accept (alt_kinds rest)))) ∙ e)

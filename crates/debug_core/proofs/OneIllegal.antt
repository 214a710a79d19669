-- A program that is refused is refused for one thing, and one that meets all static rules for none.
use Rattle.std.proofs.Common.{◌≡◌, ◌<◌, ◌≤◌, ℕ, Bool, true, false, cond, List, [], ◌∷◌, Option, Some, None, inl, inr, refl, sym, ap, subst, ◌∙◌, arith}
use Rattle.std.specs.Prelude.{◌⊎◌, ◌++◌, nat_eq, if◌then◌else◌, flat_map, option_map, IfSome, All, Contains}
use Rattle.std.proofs.lemmas.List.Elements.{All-nil, All-cons, All-append, All-map, All-contains}
use Rattle.ada_lexer.specs.Places.{line_at, column_at}
use Rattle.ada_tree.specs.declared.naming.Span.{Span}
use Rattle.ada_tree.specs.PlainProgram.{PProgram}
use Rattle.ada_tree.specs.TypeTable.{TypeTable}
use Rattle.ada_static_rules.specs.Refusals as typing
use Rattle.ada_static_rules.specs.declared.errors.TypeError.TheVariants as types
use Rattle.ada_static_rules.specs.declared.refusals.Rule.TheVariants as typed
use Rattle.ada_check_rules.specs.declared.rules.refusals.Rule.TheVariants as checked
use Rattle.ada_static_rules.specs.Telling as telling
use Rattle.ada_check.specs.declared.errors.CheckError.{CheckError}
use Rattle.ada_check.specs.declared.errors.CheckError.TheVariants as check
use Rattle.ada_check.specs.Telling as tells
use Rattle.ada_check.specs.Verdicts.{TellsWhy}
use Rattle.syn_event.specs.declared.numbering.Mode.{Mode}
use Rattle.syn_event.specs.declared.limits.What.{What}
use Rattle.syn_event.specs.declared.limits.What.TheVariants as counted
use Rattle.syn_event.specs.CheckRefusals.{CheckRefusal, IsFirstCheckRefusal, ComesFirst, over_order, by_rule, refused_at, check_refusals}
use Rattle.syn_event.specs.Limits.{limit_of, what_order}
use Rattle.syn_event.specs.Legal.{Legal}
use Rattle.syn_event.specs.Numbering.{Numbering}
use Rattle.syn_event.specs.RuleLimit.{OverAt, limit_passed, over_limit}
use Rattle.syn_event.specs.RuleSharedVariable.{shared_variable}
use Rattle.syn_event.specs.RuleAcceptPlace.{accept_place}
use Rattle.syn_event.specs.RuleSelectForm.{select_form}
use Rattle.syn_event.specs.RuleSameEntryTwice.{same_entry_twice}
use Rattle.syn_event.specs.RuleReservedName.{reserved_name}
use Rattle.syn_event.specs.RuleMainEntry.{main_entry}
use Rattle.syn_event.specs.RuleAbortOrder.{abort_order}
use Rattle.syn_event.specs.RuleBodyMissing.{body_missing}
use Rattle.syn_event.specs.RuleExitPlace.{exit_place}
use Rattle.syn_event.specs.RuleRaisePlace.{raise_place}
use Rattle.syn_event.specs.CheckSites.{check_sites}
use Rattle.syn_event.specs.CheckScope.{CheckSite, CheckDemand, declares, counts}
use Rattle.debug_outcome.specs.Coming.{IsRefusal}
use Rattle.debug_outcome.specs.Outcomes.{Outcome}
use Rattle.debug_outcome.specs.declared.refusal.Refusal.{Refusal}
use Rattle.debug_outcome.specs.declared.refusal.Refusal.TheVariants.{BadProgram}
use Rattle.debug_outcome.specs.declared.refusal.Rule.{Rule}
use Rattle.debug_outcome.specs.declared.refusal.Rule.TheVariants.{OfTypes, OfCheck}
use Rattle.debug_outcome.specs.declared.refusal.RuleFault.TheVariants.{Broken, Passed}
use Rattle.debug_outcome.proofs.Comings.{one_refusal}
use Rattle.debug_core.specs.RuleFaults.{IsIllegal, refusal_of_error}

-- ---- a refusal is told by the number of its rule, the order of its limit and where it starts

abbrev rule_named : ℕ → Rule
rule_named n =
    if nat_eq n 1 then OfTypes typed.Unknown else (if nat_eq n 2 then OfTypes typed.Duplicate else (if nat_eq n 3 then OfTypes typed.Mismatch else (if nat_eq n 4 then OfTypes typed.NotStatic else
    (if nat_eq n 5 then OfTypes typed.RangeBad else (if nat_eq n 6 then OfTypes typed.NotVariable else (if nat_eq n 7 then OfTypes typed.ReadOut else (if nat_eq n 8 then OfTypes typed.ArgCount else
    (if nat_eq n 9 then OfTypes typed.ChoiceBad else (if nat_eq n 10 then OfTypes typed.ArrayUse else (if nat_eq n 11 then OfTypes typed.TextUse else (if nat_eq n 12 then OfTypes typed.NotException else
    (if nat_eq n 13 then OfCheck checked.SharedVariable else (if nat_eq n 14 then OfCheck checked.AcceptPlace else (if nat_eq n 15 then OfCheck checked.SelectForm else (if nat_eq n 16 then OfCheck checked.SameEntryTwice else
    (if nat_eq n 17 then OfCheck checked.ReservedName else (if nat_eq n 18 then OfCheck checked.MainEntry else (if nat_eq n 19 then OfCheck checked.AbortOrder else (if nat_eq n 20 then OfCheck checked.BodyMissing else
    (if nat_eq n 21 then OfCheck checked.ExitPlace else OfCheck checked.RaisePlace))))))))))))))))))))

abbrev what_at : ℕ → What
what_at n =
    if nat_eq n 0 then counted.Name else (if nat_eq n 1 then counted.Nesting else (if nat_eq n 2 then counted.Tasks else (if nat_eq n 3 then counted.Entries else
    (if nat_eq n 4 then counted.Members else (if nat_eq n 5 then counted.Components else (if nat_eq n 6 then counted.Alternatives else (if nat_eq n 7 then counted.Formals else counted.Copies)))))))

what_is : (w : What) → what_at (what_order w) ≡ w
what_is counted.Name = refl
what_is counted.Nesting = refl
what_is counted.Tasks = refl
what_is counted.Entries = refl
what_is counted.Members = refl
what_is counted.Components = refl
what_is counted.Alternatives = refl
what_is counted.Formals = refl
what_is counted.Copies = refl

abbrev passing : What → ℕ → Refusal
passing what limit = BadProgram (Passed what limit)

abbrev told_for : List ℕ → Mode → ℕ → ℕ → ℕ → Option Refusal
told_for text m n order start =
    if nat_eq n 23 then option_map (passing (what_at order)) (limit_of m (what_at order)) else Some (BadProgram (Broken (rule_named n) (line_at text start) (column_at text start)))

-- ---- the limit that a refusal tells is that of what it counts

abbrev Fits : Mode → CheckRefusal → Type 0
Fits m r = IfSome r.over (λ o. limit_of m o.what ≡ Some o.limit)

abbrev IsLimit : Mode → OverAt → Type 0
IsLimit m o = limit_of m o.over.what ≡ Some o.over.limit

maybe_fits : (m : Mode) (b : Bool) (o : OverAt) → IsLimit m o → All (IsLimit m) (cond b (o ∷ []) [])
maybe_fits m true o h = All-cons (IsLimit m) o [] h (All-nil (IsLimit m))
maybe_fits m false o h = All-nil (IsLimit m)

passed_fits : (m : Mode) (what : What) (limit : Option ℕ) (before here : ℕ) (s : Span) → limit_of m what ≡ limit → All (IsLimit m) (limit_passed what limit before here s)
passed_fits m what (Some limit) before here s h = maybe_fits m _ (record { over = record { what = what; limit = limit }; span = s }) h
passed_fits m what None before here s h = All-nil (IsLimit m)

limits_fit : (m : Mode) (names : List (List ℕ)) (asked : CheckDemand) → All (IsLimit m) (over_limit m names asked)
limits_fit m names (declares w) = passed_fits m counted.Name (limit_of m counted.Name) 0 _ w.span refl
limits_fit m names (counts what before here s) = passed_fits m what (limit_of m what) before here s refl
limits_fit m names _ = All-nil (IsLimit m)

rules_fit : (m : Mode) (n : ℕ) (spans : List Span) → All (Fits m) (by_rule n spans)
rules_fit m n spans = All-map (Fits m) (λ (s : Span). record { rule = n; over = None; span = s }) spans (λ k d less. tt)

site_fits : (m : Mode) (names : List (List ℕ)) (x : CheckSite) → All (Fits m) (refused_at m names x)
site_fits m names x =
    two _ _ (two _ _ (two _ _ (two _ _ (two _ _ (two _ _ (two _ _ (two _ _ (two _ _ (two _ _ (rules_fit m 13 (shared_variable x.scope x.demand))
    (rules_fit m 14 (accept_place x.scope x.demand)))
    (rules_fit m 15 (select_form x.scope x.demand)))
    (rules_fit m 16 (same_entry_twice x.scope x.demand)))
    (rules_fit m 17 (reserved_name m names x.demand)))
    (rules_fit m 18 (main_entry x.scope x.demand)))
    (rules_fit m 19 (abort_order x.scope x.demand)))
    (rules_fit m 20 (body_missing x.demand)))
    (rules_fit m 21 (exit_place x.scope x.demand)))
    (rules_fit m 22 (raise_place x.scope x.demand)))
    (All-map (Fits m) (λ (o : OverAt). record { rule = 23; over = Some o.over; span = o.span }) (over_limit m names x.demand) (limits_fit m names x.demand))
  where
    two : (xs ys : List CheckRefusal) → All (Fits m) xs → All (Fits m) ys → All (Fits m) (xs ++ ys)
    two xs ys h k = All-append (Fits m) xs ys h k

sites_fit : (m : Mode) (names : List (List ℕ)) (xs : List CheckSite) → All (Fits m) (flat_map (refused_at m names) xs)
sites_fit m names [] = All-nil (Fits m)
sites_fit m names (x ∷ xs) = All-append (Fits m) (refused_at m names x) (flat_map (refused_at m names) xs) (site_fits m names x) (sites_fit m names xs)

first_fits : (p : PProgram) (m : Mode) (r : CheckRefusal) → IsFirstCheckRefusal p m r → Fits m r
first_fits p m r h = All-contains (Fits m) (check_refusals p m) r (sites_fit m p.names (check_sites p)) h.is_one

-- ---- what an error tells

-- it tells the first refusal of the first twelve rules, or of the others where those are met, or nothing
Tells : PProgram → Mode → List ℕ → Option Refusal → Type 0
Tells p m text x =
    ((r : typing.Refusal) × typing.IsFirstRefusal p r × (x ≡ told_for text m r.rule 0 r.span.start))
    ⊎ (((r : CheckRefusal) × typing.MeetsTypeRules p × IsFirstCheckRefusal p m r × (x ≡ told_for text m r.rule (over_order r.over) r.span.start)) ⊎ (x ≡ None))

told_limit : (text : List ℕ) (m : Mode) (what : What) (limit start : ℕ) → limit_of m what ≡ Some limit → Some (passing what limit) ≡ told_for text m 23 (what_order what) start
told_limit text m what limit start h =
    sym (ap (λ (w : What). option_map (passing w) (limit_of m w)) (what_is what) ∙ ap (λ (o : Option ℕ). option_map (passing what) o) h)

module _ (p : PProgram) (m : Mode) (text : List ℕ) where
  why_told : (e : CheckError) → TellsWhy p m e → Tells p m text (refusal_of_error text e)
  unfolding Tells
  why_told (check.Rule (types.Unknown s)) h = inl (telling.refusal 1 s, h, refl)
  why_told (check.Rule (types.Duplicate s)) h = inl (telling.refusal 2 s, h, refl)
  why_told (check.Rule (types.Mismatch s)) h = inl (telling.refusal 3 s, h, refl)
  why_told (check.Rule (types.NotStatic s)) h = inl (telling.refusal 4 s, h, refl)
  why_told (check.Rule (types.RangeBad s)) h = inl (telling.refusal 5 s, h, refl)
  why_told (check.Rule (types.NotVariable s)) h = inl (telling.refusal 6 s, h, refl)
  why_told (check.Rule (types.ReadOut s)) h = inl (telling.refusal 7 s, h, refl)
  why_told (check.Rule (types.ArgCount s)) h = inl (telling.refusal 8 s, h, refl)
  why_told (check.Rule (types.ChoiceBad s)) h = inl (telling.refusal 9 s, h, refl)
  why_told (check.Rule (types.ArrayUse s)) h = inl (telling.refusal 10 s, h, refl)
  why_told (check.Rule (types.TextUse s)) h = inl (telling.refusal 11 s, h, refl)
  why_told (check.Rule (types.NotException s)) h = inl (telling.refusal 12 s, h, refl)
  why_told (check.Rule types.Memory) h = absurd h
  why_told (check.SharedVariable s) h = inr (inl (tells.refusal 13 None s, h.0, h.1, refl))
  why_told (check.AcceptPlace s) h = inr (inl (tells.refusal 14 None s, h.0, h.1, refl))
  why_told (check.SelectForm s) h = inr (inl (tells.refusal 15 None s, h.0, h.1, refl))
  why_told (check.SameEntryTwice s) h = inr (inl (tells.refusal 16 None s, h.0, h.1, refl))
  why_told (check.ReservedName s) h = inr (inl (tells.refusal 17 None s, h.0, h.1, refl))
  why_told (check.MainEntry s) h = inr (inl (tells.refusal 18 None s, h.0, h.1, refl))
  why_told (check.AbortOrder s) h = inr (inl (tells.refusal 19 None s, h.0, h.1, refl))
  why_told (check.BodyMissing s) h = inr (inl (tells.refusal 20 None s, h.0, h.1, refl))
  why_told (check.ExitPlace s) h = inr (inl (tells.refusal 21 None s, h.0, h.1, refl))
  why_told (check.RaisePlace s) h = inr (inl (tells.refusal 22 None s, h.0, h.1, refl))
  why_told (check.Limit what limit s) h =
      inr (inl (tells.refusal 23 (Some (record { what = what; limit = limit })) s, h.0, h.1, told_limit text m what limit s.start (first_fits p m (tells.refusal 23 (Some (record { what = what; limit = limit })) s) h.1)))
  why_told check.Memory h = inr (inr refl)

  -- ---- and that is one thing

  nothing_there : {A : Type 0} (xs : List A) (x : A) → xs ≡ [] → Contains xs x → ⊥
  nothing_there xs x none h = All-contains (λ y. ⊥) [] x (All-nil (λ y. ⊥)) (subst (λ ys. Contains ys x) none h)

  same_start : (a b x y : ℕ) → (a < b) ⊎ ((a ≡ b) × (x ≤ y)) → (b < a) ⊎ ((b ≡ a) × (y ≤ x)) → a ≡ b
  same_start a b x y h k = grind arith

  same_rule : (a b x y : ℕ) → (a < b) ⊎ ((a ≡ b) × (x ≤ y)) → (b < a) ⊎ ((b ≡ a) × (y ≤ x)) → x ≡ y
  same_rule a b x y h k = grind arith

  one_typed : (r q : typing.Refusal) → typing.IsFirstRefusal p r → typing.IsFirstRefusal p q → told_for text m r.rule 0 r.span.start ≡ told_for text m q.rule 0 q.span.start
  one_typed r q h k =
      let rq : typing.ComesFirst r q = All-contains (typing.ComesFirst r) (typing.refusals p) q h.is_first k.is_one in
      let qr : typing.ComesFirst q r = All-contains (typing.ComesFirst q) (typing.refusals p) r k.is_first h.is_one in
      ap (λ n. told_for text m n 0 r.span.start) (same_rule r.span.start q.span.start r.rule q.rule rq qr) ∙ ap (λ n. told_for text m q.rule 0 n) (same_start r.span.start q.span.start r.rule q.rule rq qr)

  first_start : (a b x y u v : ℕ) → (a < b) ⊎ ((a ≡ b) × ((x < y) ⊎ ((x ≡ y) × (u ≤ v)))) → (b < a) ⊎ ((b ≡ a) × ((y < x) ⊎ ((y ≡ x) × (v ≤ u)))) → a ≡ b
  first_start a b x y u v h k = grind arith

  first_rule : (a b x y u v : ℕ) → (a < b) ⊎ ((a ≡ b) × ((x < y) ⊎ ((x ≡ y) × (u ≤ v)))) → (b < a) ⊎ ((b ≡ a) × ((y < x) ⊎ ((y ≡ x) × (v ≤ u)))) → x ≡ y
  first_rule a b x y u v h k = grind arith

  first_order : (a b x y u v : ℕ) → (a < b) ⊎ ((a ≡ b) × ((x < y) ⊎ ((x ≡ y) × (u ≤ v)))) → (b < a) ⊎ ((b ≡ a) × ((y < x) ⊎ ((y ≡ x) × (v ≤ u)))) → u ≡ v
  first_order a b x y u v h k = grind arith

  one_checked : (r q : CheckRefusal) → IsFirstCheckRefusal p m r → IsFirstCheckRefusal p m q → told_for text m r.rule (over_order r.over) r.span.start ≡ told_for text m q.rule (over_order q.over) q.span.start
  one_checked r q h k =
      let rq = All-contains (ComesFirst r) (check_refusals p m) q h.is_first k.is_one in
      let qr = All-contains (ComesFirst q) (check_refusals p m) r k.is_first h.is_one in
      ap (λ n. told_for text m n (over_order r.over) r.span.start) (first_rule r.span.start q.span.start r.rule q.rule (over_order r.over) (over_order q.over) rq qr)
      ∙ ap (λ n. told_for text m q.rule n r.span.start) (first_order r.span.start q.span.start r.rule q.rule (over_order r.over) (over_order q.over) rq qr)
      ∙ ap (λ n. told_for text m q.rule (over_order q.over) n) (first_start r.span.start q.span.start r.rule q.rule (over_order r.over) (over_order q.over) rq qr)

  told_once : (x y : Option Refusal) (o q : Outcome) → Tells p m text x → Tells p m text y → IsRefusal x o → IsRefusal y q → o ≡ q
  unfolding Tells
  told_once x y o q (inl (r, h, is)) (inl (s, k, that)) t u = one_refusal y o q (subst (λ z. IsRefusal z o) (is ∙ one_typed r s h k ∙ sym that) t) u
  told_once x y o q (inl (r, h, is)) (inr (inl (s, none, k, that))) t u = absurd (nothing_there (typing.refusals p) r none h.is_one)
  told_once x y o q (inr (inl (r, none, h, is))) (inl (s, k, that)) t u = absurd (nothing_there (typing.refusals p) s none k.is_one)
  told_once x y o q (inr (inl (r, none, h, is))) (inr (inl (s, none', k, that))) t u = one_refusal y o q (subst (λ z. IsRefusal z o) (is ∙ one_checked r s h k ∙ sym that) t) u
  told_once x y o q (inr (inr is)) b t u = absurd (subst (λ z. IsRefusal z o) is t)
  told_once x y o q a (inr (inr that)) t u = absurd (subst (λ z. IsRefusal z q) that u)

  pub one_illegal : (o q : Outcome) → IsIllegal p m text o → IsIllegal p m text q → o ≡ q
  one_illegal o q h k = told_once (refusal_of_error text h.error) (refusal_of_error text k.error) o q (why_told h.error h.refused) (why_told k.error k.refused) h.told k.told

  legal_told : (types : TypeTable) (numbers : Numbering) (x : Option Refusal) (o : Outcome) → Legal p types numbers m → Tells p m text x → IsRefusal x o → ⊥
  unfolding Tells
  legal_told types numbers x o legal (inl (r, h, is)) t = nothing_there (typing.refusals p) r legal.type_rules h.is_one
  legal_told types numbers x o legal (inr (inl (r, none, h, is))) t = nothing_there (check_refusals p m) r legal.check_rules h.is_one
  legal_told types numbers x o legal (inr (inr is)) t = subst (λ z. IsRefusal z o) is t

  pub legal_or_illegal : (types : TypeTable) (numbers : Numbering) (o : Outcome) → Legal p types numbers m → IsIllegal p m text o → ⊥
  legal_or_illegal types numbers o legal h = legal_told types numbers (refusal_of_error text h.error) o legal (why_told h.error h.refused) h.told

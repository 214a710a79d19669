-- Two accepts of a wait clash where what they are for may be one caller's.
use Rattle.std.specs.Prelude.{◌≡◌, ℕ, ℤ, ◌+◌, ◌<◌, ◌≤◌, ◌==◌, Bool, true, false, not, ◌||◌, ◌&&◌, cond, if◌then◌else◌, List, [], ◌∷◌, ◌++◌, length, map, take, drop, reverse, get_or, Option, Some, None, is_some, Result, Ok, Err, IfOk, OnOk, refl}
use Rattle.std.specs.List.{list_any}
use Rattle.std.specs.Result.{result_ok}
use Rattle.std.specs.Ordering.{int_eq}
use Rattle.std.proofs.Common.{sym, ap, ◌∙◌}
use Rattle.std.proofs.lemmas.List.{drop_all, map_more, reverse-append, append-nil}
use Rattle.ada_tree.specs.declared.naming.Span.{Span}
use Rattle.ada_tree.specs.declared.statements.Alt.{Alt}
use Rattle.ada_tree.specs.TypeTable.{TypeTable}
use Rattle.ada_tree.specs.PlainExpr.{PExpr}
use Rattle.ada_tree.specs.PlainStmt.{PHead, PMaybe, PStmts, accepting, PAltKind, AAccept, ADelay, ATerminate, plain_alt, plain_alt_kind, alts_of}
use Rattle.ada_static_rules.specs.StaticValue.{is_static, value_of}
use Rattle.ada_static_rules.specs.ExprTypes.{expr_place}
use Rattle.ada_scopes.specs.values.StaticAnswer.{if_static, static_answer}
use Rattle.syn_event.specs.Extents.{fixed, unraised_value}
use Rattle.syn_event.specs.CheckRefusals.{CheckRefusal}
use Rattle.syn_event.specs.RuleAcceptPlace.{is_among}
use Rattle.syn_event.specs.RuleSelectForm.{alt_kinds}
use Rattle.syn_event.specs.RuleSameEntryTwice.{accept_heads, are_other_values, differ, clash, clashing}
use Rattle.ada_check_rules.specs.rules.Sooner.{sooner, found}
use Rattle.scoped_names.specs.name_sets.Numbers.{id_of}
use Rattle.ada_check_places.specs.parts.inner.Claiming.{index_value, claim_of, meets, is_for, is_whole, is_value, is_member, same_member, AreClaims, IsAccepted, IsClaimed}
use Rattle.ada_check_places.specs.declared.parts.claims.Claim.{Claim}
use Rattle.ada_check_places.specs.declared.parts.claims.Claims.{Claims}
use Rattle.ada_check_places.specs.declared.parts.claims.Member.{Member}
use Rattle.ada_check_rules.proofs.rules.SoonerLaws.{sooner_none, found_append}
use Rattle.ada_check_rules.proofs.rules.Listing.{cut, gone}

-- ---- the value of an index

fixed_test : (b : Bool) (s : Span) (r : Result ℤ Span) → result_ok (if_static b s r) ≡ (if b then unraised_value r else None)
fixed_test true s (Ok z) = refl
fixed_test true s (Err e) = refl
fixed_test false s r = refl

pub fixed_is : (types : TypeTable) (e : PExpr) → result_ok (static_answer types e) ≡ fixed types e
fixed_is types e = fixed_test (is_static types e) (expr_place e) (value_of types e)

-- ---- when two accepts clash

no_other : (o : Option ℤ) → false ≡ are_other_values o None
no_other None = refl
no_other (Some z) = refl

differ_is : (types : TypeTable) (i j : Option PExpr) → differ types i j ≡ are_other_values (index_value types i) (index_value types j)
differ_is types None j = refl
differ_is types (Some e) None = no_other (fixed types e)
differ_is types (Some e) (Some f) = refl

pub clash_is : (types : TypeTable) (h : PHead) (before : List PHead) → list_any (clash types h) before ≡ list_any (meets (claim_of types h)) (map (claim_of types) before)
clash_is types h [] = refl
clash_is types h (g ∷ before) =
    ap (λ b. ((g.entry.name.0 == h.entry.name.0) && not b) || list_any (clash types h) before) (differ_is types g.index h.index)
    ∙ ap (λ b. meets (claim_of types h) (claim_of types g) || b) (clash_is types h before)

-- ---- one alternative after the other

abbrev kind_of : Alt → PAltKind
kind_of a = plain_alt_kind a.kind

abbrev kinds_in : List Alt → List PAltKind
kinds_in xs = alt_kinds (alts_of (map plain_alt xs))

kinds_are : (xs : List Alt) → kinds_in xs ≡ map kind_of xs
kinds_are [] = refl
kinds_are (x ∷ xs) = ap (λ l. kind_of x ∷ l) (kinds_are xs)

heads_append : (xs ys : List PAltKind) → accept_heads (xs ++ ys) ≡ accept_heads xs ++ accept_heads ys
heads_append [] ys = refl
heads_append (AAccept (accepting h o) l ∷ xs) ys = ap (λ r. h ∷ r) (heads_append xs ys)
heads_append (ADelay d l ∷ xs) ys = heads_append xs ys
heads_append (ATerminate ∷ xs) ys = heads_append xs ys

-- the accepts of the alternatives so far, the latest first
abbrev pub heads_before : List Alt → ℕ → List PHead
heads_before xs i = reverse (accept_heads (kinds_in (take i xs)))

turned : (x : PAltKind) → reverse (accept_heads (x ∷ [])) ≡ accept_heads (x ∷ [])
turned (AAccept (accepting h o) l) = refl
turned (ADelay d l) = refl
turned ATerminate = refl

pub heads_more : (xs : List Alt) (i : ℕ) (x : Alt) → i < length xs → x ≡ get_or xs i x → heads_before xs (i + 1) ≡ accept_heads (kind_of x ∷ []) ++ heads_before xs i
heads_more xs i x h is_x =
    let before = accept_heads (map kind_of (take i xs)) in
    ap (λ l. reverse (accept_heads l)) (kinds_are (take (i + 1) xs) ∙ map_more kind_of xs i x h)
    ∙ ap (λ y. reverse (accept_heads (map kind_of (take i xs) ++ kind_of y ∷ []))) (sym is_x)
    ∙ ap reverse (heads_append (map kind_of (take i xs)) (kind_of x ∷ []))
    ∙ reverse-append before (accept_heads (kind_of x ∷ []))
    ∙ ap (λ l. l ++ reverse before) (turned (kind_of x))
    ∙ ap (λ l. accept_heads (kind_of x ∷ []) ++ reverse (accept_heads l)) (sym (kinds_are (take i xs)))

clashing_more : (types : TypeTable) (before : List PHead) (x : PAltKind) (xs : List PAltKind)
    → clashing types before (accept_heads (x ∷ xs)) ≡ clashing types before (accept_heads (x ∷ [])) ++ clashing types (accept_heads (x ∷ []) ++ before) (accept_heads xs)
clashing_more types before (AAccept (accepting h o) l) xs =
    ap (λ r. r ++ clashing types (h ∷ before) (accept_heads xs)) (sym (append-nil (if list_any (clash types h) before then h.span ∷ [] else [])))
clashing_more types before (ADelay d l) xs = refl
clashing_more types before ATerminate xs = refl

pub claims_told : (types : TypeTable) (xs : List Alt) (i : ℕ) (x : Alt) (a b c all : Option CheckRefusal) → i < length xs → x ≡ get_or xs i x
    → sooner a (found 16 (clashing types (heads_before xs i) (accept_heads (kinds_in (drop i xs))))) ≡ all
    → b ≡ found 16 (clashing types (heads_before xs i) (accept_heads (kind_of x ∷ [])))
    → c ≡ sooner a b
    → sooner c (found 16 (clashing types (heads_before xs (i + 1)) (accept_heads (kinds_in (drop (i + 1) xs))))) ≡ all
claims_told types xs i x a b c all h is_x before is_b is_c =
    let seen = heads_before xs i in
    let here = accept_heads (kind_of x ∷ []) in
    let left = accept_heads (kinds_in (drop (i + 1) xs)) in
    ap (λ o. sooner o (found 16 (clashing types (heads_before xs (i + 1)) left))) is_c
    ∙ ap (λ l. sooner (sooner a b) (found 16 (clashing types l left))) (heads_more xs i x h is_x)
    ∙ gone a b all (found 16 (clashing types (here ++ seen) left)) (found 16 (clashing types seen (accept_heads (kinds_in (drop i xs)))))
    (ap (λ l. found 16 (clashing types seen (accept_heads (kinds_in l)))) (cut xs i x h is_x)
    ∙ ap (found 16) (clashing_more types seen (kind_of x) (kinds_in (drop (i + 1) xs)))
    ∙ found_append 16 (clashing types seen here) (clashing types (here ++ seen) left)
    ∙ ap (λ o. sooner o (found 16 (clashing types (here ++ seen) left))) (sym is_b))
    before

pub claims_end : (types : TypeTable) (xs : List Alt) (i : ℕ) (a all : Option CheckRefusal) → length xs ≤ i
    → sooner a (found 16 (clashing types (heads_before xs i) (accept_heads (kinds_in (drop i xs))))) ≡ all → a ≡ all
claims_end types xs i a all h before =
    sym (sooner_none a) ∙ ap (λ l. sooner a (found 16 (clashing types (heads_before xs i) (accept_heads (kinds_in l))))) (sym (drop_all i xs h)) ∙ before

-- an alternative that is an accept, and another one
pub accepted : (types : TypeTable) (before : List PHead) (h : PHead) (o : PMaybe) (l : PStmts) (claims : Claims) (r : Option CheckRefusal) → IsAccepted types before h claims r → IsClaimed types before (AAccept (accepting h o) l) claims r
accepted types before h o l claims r is = record {
  refusal_is = is.refusal_is ∙ ap (found 16) (sym (append-nil (if list_any (clash types h) before then h.span ∷ [] else [])));
  claims_are = is.claims_are;
}

pub accepted_if : (types : TypeTable) (before : List PHead) (h : PHead) (o : PMaybe) (l : PStmts) (claims : Claims) {E : Type 0} (r : Result (Option CheckRefusal) E) → IfOk r (IsAccepted types before h claims) → IfOk r (IsClaimed types before (AAccept (accepting h o) l) claims)
accepted_if types before h o l claims (Ok x) is = accepted types before h o l claims x is
accepted_if types before h o l claims (Err e) is = is

-- ---- by what is kept

twice : (b : Bool) → not (not b) ≡ b
twice true = refl
twice false = refl

whole_or_member : (same : Bool) (v : ℤ) (o : Option ℤ) → (same && not (are_other_values o (Some v))) ≡ ((same && not (is_some o)) || (same && is_value v o))
whole_or_member true v None = refl
whole_or_member true v (Some z) = twice (int_eq z v)
whole_or_member false v o = refl

or_turn : (a b c d : Bool) → ((a || b) || (c || d)) ≡ ((a || c) || (b || d))
or_turn true b c d = refl
or_turn false true true d = refl
or_turn false true false d = refl
or_turn false false c d = refl

-- a member of a family that an accept with a static index is for
abbrev member : Claim → ℤ → Member
member c v = record { entry = c.entry.0; index = v }

with_index : (c : Claim) (v : ℤ) (before : List Claim) → c.index ≡ Some v → (list_any (is_whole c.entry.0) before || list_any (is_member (member c v)) before) ≡ list_any (meets c) before
with_index c v [] h = refl
with_index c v (d ∷ ds) h =
    or_turn (is_whole c.entry.0 d) (list_any (is_whole c.entry.0) ds) (is_member (member c v) d) (list_any (is_member (member c v)) ds)
    ∙ ap (λ b. b || (list_any (is_whole c.entry.0) ds || list_any (is_member (member c v)) ds))
    (sym (whole_or_member (d.entry.0 == c.entry.0) v d.index) ∙ ap (λ o. (d.entry.0 == c.entry.0) && not (are_other_values d.index o)) (sym h))
    ∙ ap (λ b. meets c d || b) (with_index c v ds h)

and_true : (b : Bool) → b ≡ (b && true)
and_true true = refl
and_true false = refl

without : (c : Claim) (before : List Claim) → c.index ≡ None → list_any (is_for c.entry.0) before ≡ list_any (meets c) before
without c [] h = refl
without c (d ∷ ds) h =
    ap (λ b. b || list_any (is_for c.entry.0) ds)
    (and_true (d.entry.0 == c.entry.0)
    ∙ ap (λ b. (d.entry.0 == c.entry.0) && not b) (no_other d.index)
    ∙ ap (λ o. (d.entry.0 == c.entry.0) && not (are_other_values d.index o)) (sym h))
    ∙ ap (λ b. meets c d || b) (without c ds h)

pub meets_index : (before : List Claim) (claims : Claims) (c : Claim) (v : ℤ) (a b : Bool) → AreClaims before claims → c.index ≡ Some v → a ≡ is_among claims.whole c.entry → b ≡ list_any (same_member (member c v)) claims.members.keys
    → (a || b) ≡ list_any (meets c) before
meets_index before claims c v a b kept h is_a is_b =
    ap (λ x. x || b) (is_a ∙ kept.whole_are c.entry.0)
    ∙ ap (λ x. list_any (is_whole c.entry.0) before || x) (is_b ∙ kept.members_are (member c v))
    ∙ with_index c v before h

pub meets_entry : (before : List Claim) (claims : Claims) (c : Claim) (a : Bool) → AreClaims before claims → c.index ≡ None → a ≡ is_among claims.entries c.entry → a ≡ list_any (meets c) before
meets_entry before claims c a kept h is_a = is_a ∙ kept.entries_are c.entry.0 ∙ without c before h

-- ---- one accept more

and_false : (b x : Bool) → x ≡ ((b && false) || x)
and_false true x = refl
and_false false x = refl

cond_or : (b x : Bool) → cond b true x ≡ (b || x)
cond_or true x = refl
cond_or false x = refl

pub added_index : (before : List Claim) (old new : Claims) (c : Claim) (v : ℤ) → AreClaims before old → c.index ≡ Some v → new.entries ≡ c.entry ∷ old.entries → new.whole ≡ old.whole
    → ((m : Member) → list_any (same_member m) new.members.keys ≡ cond (same_member (member c v) m) true (list_any (same_member m) old.members.keys))
    → AreClaims (c ∷ before) new
added_index before old new c v kept h entries whole members = record {
  entries_are = λ name. ap (λ l. is_among l (id_of name)) entries ∙ ap (λ b. (c.entry.0 == name) || b) (kept.entries_are name);
  whole_are = λ name.
      ap (λ l. is_among l (id_of name)) whole
      ∙ kept.whole_are name
      ∙ and_false (c.entry.0 == name) (list_any (is_whole name) before)
      ∙ ap (λ o. ((c.entry.0 == name) && not (is_some o)) || list_any (is_whole name) before) (sym h);
  members_are = λ m.
      members m
      ∙ cond_or (same_member (member c v) m) (list_any (same_member m) old.members.keys)
      ∙ ap (λ b. same_member (member c v) m || b) (kept.members_are m)
      ∙ ap (λ o. ((c.entry.0 == m.entry) && is_value m.index o) || list_any (is_member m) before) (sym h);
}

pub added_entry : (before : List Claim) (old new : Claims) (c : Claim) → AreClaims before old → c.index ≡ None → new.entries ≡ c.entry ∷ old.entries → new.whole ≡ c.entry ∷ old.whole → new.members ≡ old.members
    → AreClaims (c ∷ before) new
added_entry before old new c kept h entries whole members = record {
  entries_are = λ name. ap (λ l. is_among l (id_of name)) entries ∙ ap (λ b. (c.entry.0 == name) || b) (kept.entries_are name);
  whole_are = λ name.
      ap (λ l. is_among l (id_of name)) whole
      ∙ ap (λ b. (c.entry.0 == name) || b) (kept.whole_are name)
      ∙ ap (λ b. b || list_any (is_whole name) before) (and_true (c.entry.0 == name))
      ∙ ap (λ o. ((c.entry.0 == name) && not (is_some o)) || list_any (is_whole name) before) (sym h);
  members_are = λ m.
      ap (λ k. list_any (same_member m) k.keys) members
      ∙ kept.members_are m
      ∙ and_false (c.entry.0 == m.entry) (list_any (is_member m) before)
      ∙ ap (λ o. ((c.entry.0 == m.entry) && is_value m.index o) || list_any (is_member m) before) (sym h);
}

pub onward : {A E : Type 0} (P Q : Type 0) (r : Result A E) → (P → Q) → OnOk r P → OnOk r Q
onward P Q (Ok x) f h = f h
onward P Q (Err e) f h = h

-- The program in which a variable chooses a member is as the law asks.
use Rattle.std.proofs.Common.{◌≡◌, ◌⊎◌, ⊎_elim, ℕ, ℤ, zero, suc, ◌-◌, ◌<◌, ◌^◌, pos, negsuc, Bool, true, false, ◌==◌, ◌&&◌, if◌then◌else◌, List, [], ◌∷◌, length, Option, Some, None, Result, Ok, Err, refl, inl, inr, sym, ap, subst, ◌∙◌, arith, slice_get, slice_index_or, true≢false, All}
use Rattle.std.specs.Prelude.{IsSomeAnd, position, ok_or, is_ok, int_le}
use Rattle.std.specs.Fmt.{digits}
use Rattle.std.specs.List.{AllByRecursion}
use Rattle.std.proofs.Math.Bool.{and-false}
use Rattle.std.proofs.lemmas.Bool.{ne_eqb, lt-leb}
use Rattle.std.proofs.lemmas.Bool.Decides.{Decides-int_eq}
use Rattle.std.proofs.lemmas.List.{get_or_past}
use Rattle.std.proofs.lemmas.List.Elements.{All-nil, All-cons}
use Rattle.std.proofs.lemmas.List.Quantifiers.{position-Some}
use Rattle.ada_tree.specs.declared.naming.NameId.{NameId}
use Rattle.ada_tree.specs.declared.naming.Span.{Span}
use Rattle.ada_tree.specs.Every.{Rules, no_rules, EveryWord, EveryFormal, EveryEntry, EveryPriority, EveryCallee, EveryDecls, EveryBody}
use Rattle.ada_tree.specs.WellPlaced.{HasTokens}
use Rattle.ada_tree.specs.Lexical.{IsIdentifier, IsInteger, IsDuration, IsStringContent}
use Rattle.ada_static_rules.specs.Refusals.{types_in}
use Rattle.ada_tree.specs.PlainStmt.{no_stmt, no_handler}
use Rattle.ada_value.specs.declared.values.Raised.{Raised}
use Rattle.ada_value.specs.declared.values.Raised.TheVariants as raised
use Rattle.ada_value.specs.declared.values.Value.TheVariants.{Number}
use Rattle.ada_value.specs.Values.{kind_of_value, integer_limits}
use Rattle.ada_value.specs.Variables.{Object, value_there}
use Rattle.syn_event.specs.declared.numbering.TaskInfo.{TaskInfo}
use Rattle.syn_event.specs.declared.numbering.Mode.TheVariants as mode
use Rattle.syn_event.specs.CheckRefusals.{check_refusals}
use Rattle.syn_event.specs.Numbering.{Numbering, task_at, task_named, entry_at}
use Rattle.task_laws.specs.invariants.AcceptHeads.{InBody}
use Rattle.task_laws.specs.invariants.Holding.{LowersFit}
use Rattle.task_laws.specs.invariants.Worlds.{Conforms}
use Rattle.task_model.specs.Setting.{is_member, member_named, entry_of, is_family, is_family_in, family_limits, parameters_of, formals_of_info, entry_parameters}
use Rattle.task_model.specs.Starting.{no_unit, unit_of_info, unit_of, objects_of}
use Rattle.normal_model.specs.Names.{task_name_at}
use Rattle.normal_model.specs.Ranges.{subtype_of_range, array_range, family_range}
use Rattle.normal_model.specs.Members.{kind_of_index, members_of}
use Rattle.normal_model.specs.Calls.{entry_called}
use Rattle.normal_model.specs.RewrittenUnit.{RewrittenUnit}
use Rattle.normal_model.specs.NormalStmts.{unit_variables}
use Rattle.task_laws.specs.legal.rewritten_values.Values.{is_known}
use Rattle.normal_laws.specs.structure.types.Own.{own_name}
use Rattle.normal_laws.specs.structure.types.Laws.{IsOrdered, AreOwn}
use Rattle.task_laws.specs.translation.Fixed.{fixed_integer}
use Rattle.task_laws.specs.translation.Translations.{Programs, types_before, types_after, IsKnown}
use Rattle.task_laws.specs.translation.OldNames.{OldExpr, old_name, old_none, old_some}
use Rattle.task_laws.specs.translation.OldTexts.{OldBody, old_body, old_stmt, old_no_stmt, old_call, old_abort, old_callee, old_no_callee, old_accept, old_absent, old_no_handler, old_no_formal, old_no_args}
use Rattle.normal_laws.specs.runs.floors.Suited.{SameRange, declared_limits, AreMarked, none_marked, IsMeant, is_named, is_member as is_member_of, IsLiteral, HasLiteral, IsCallee, no_lists, none_copied, AreTwins, IsCall, IsHead, asked_of}
use Rattle.normal_laws.specs.runs.runs.Premises.{Rewrite, programs_of, unit_at, unit_before, objects_before}
use Rattle.normal_laws.specs.runs.runs.Example.{word}
use Rattle.normal_laws.specs.runs.forms.Normalisable.{numbers_of, setting_for, made_for, first_task, variables_of, normal_rewrite, NamesTell, IsScalar, IsPlain, IsNormalisable}
use Rattle.normal_laws.specs.runs.forms.Choosing.{indices, entry, index, member, the_call, head, main_body, task_body, choosing}
use Rattle.common_lemmas.proofs.Numbers.{next_not_zero}

abbrev rewrite : Rewrite
rewrite = normal_rewrite choosing []

abbrev b : Programs
b = programs_of rewrite

abbrev numbers : Numbering
numbers = numbers_of choosing

-- It is legal.
is-checked : check_refusals choosing mode.Original ≡ []
unfolding digits
is-checked = refl

-- ---- entries

-- only the two members' entries are there
entry-none : (e : ℕ) → entry_at numbers (suc (suc (suc e))) ≡ None
entry-none e =
    let q : suc (suc (suc e)) - 1 ≡ suc (suc e) = omega arith in
    ap (λ t. if t then None else slice_get numbers.entries (suc (suc (suc e)) - 1)) (ne_eqb (suc (suc (suc e))) 0 (λ h. omega (arith, h))) ∙ ap (slice_get numbers.entries) q

marks : (e : ℕ) → AreMarked b (formals_of_info b.original (entry_at numbers e))
unfolding digits
marks zero = none_marked
marks (suc zero) = none_marked
marks (suc (suc zero)) = none_marked
marks (suc (suc (suc e))) = subst (λ q. AreMarked b (formals_of_info b.original q)) (sym (entry-none e)) none_marked

families : (e : ℕ) → is_family numbers e ≡ true → (s : Span) → SameRange (family_limits (entry_at numbers e)) (declared_limits (types_after b) (subtype_of_range (types_before b) s (family_range b.original e)))
unfolding digits
families zero h s z = cc
families (suc zero) h s z = cc
families (suc (suc zero)) h s z = cc
families (suc (suc (suc e))) h s z = absurd (true≢false (sym h ∙ ap is_family_in (entry-none e)))

-- ---- members

abbrev array : NameId
array = record { 0 = 28 }

-- the task is the member at this index
abbrev test : ℤ → TaskInfo → Bool
test z info = (info.name.0 == 28) && is_member z info.member

abbrev nobody : TaskInfo
nobody = record { name = record { 0 = 0 }; added = false; unit = record { 0 = 0 }; member = None }

ok-number : (x y : ℕ) → ◌≡◌ {A = Result ℕ Raised} (Ok x) (Ok y) → x ≡ y
ok-number x y e = cc

err-number : (x : Raised) (y : ℕ) → ◌≡◌ {A = Result ℕ Raised} (Err x) (Ok y) → ⊥
err-number x y e = let k : ◌≡◌ {A = Result ℕ Raised} (Err x) (Ok y) = e in cc

-- a task at which the test passes is the first member, at the index 1, or the second, at the index 2
passes : (z : ℤ) (t : ℕ) → t < 3 → test z (slice_index_or numbers.tasks t nobody) ≡ true → ((t ≡ 1) × (z ≡ pos 1)) ⊎ ((t ≡ 2) × (z ≡ pos 2))
unfolding digits
passes z zero l h = absurd (true≢false (sym h))
passes z (suc zero) l h = inl (refl, (Decides-int_eq z (pos 1)).0 h)
passes z (suc (suc zero)) l h = inr (refl, (Decides-int_eq z (pos 2)).0 h)
passes z (suc (suc (suc t))) l h = absurd (omega (arith, l))

found : (z : ℤ) (o : Option ℕ) → position (test z) numbers.tasks ≡ o → (t : ℕ) → ok_or o raised.Constraint ≡ Ok t → ((t ≡ 1) × (z ≡ pos 1)) ⊎ ((t ≡ 2) × (z ≡ pos 2))
unfolding digits
found z None q t h = absurd (err-number raised.Constraint t h)
found z (Some i) q t h =
    let k = position-Some (test z) numbers.tasks i nobody q in
    subst (λ n. ((n ≡ 1) × (z ≡ pos 1)) ⊎ ((n ≡ 2) × (z ≡ pos 2))) (ok-number i t h) (passes z i k.0 k.1)

-- The members are the tasks 1 and 2, at the indices 1 and 2.
members : (z : ℤ) (t : ℕ) → member_named numbers array z ≡ Ok t → ((t ≡ 1) × (z ≡ pos 1)) ⊎ ((t ≡ 2) × (z ≡ pos 2))
members z t h = found z (position (test z) numbers.tasks) refl t h

-- at another index there is none
none-there : (z : ℤ) → (z ≡ pos 1 → ⊥) → (z ≡ pos 2 → ⊥) → is_ok (member_named numbers array z) ≡ false
none-there z not-one not-two = go (member_named numbers array z) refl
  where
    go : (r : Result ℕ Raised) → member_named numbers array z ≡ r → is_ok r ≡ false
    go (Err x) q = refl
    go (Ok t) q = ⊎_elim (λ k. absurd (not-one k.1)) (λ k. absurd (not-two k.1)) (members z t q)

pos-is : (x y : ℕ) → pos x ≡ pos y → x ≡ y
pos-is x y e = cc

pos-never : (x y : ℕ) → negsuc x ≡ pos y → ⊥
pos-never x y e = let k : negsuc x ≡ pos y = e in cc

-- the array has a member at each index of its range, and at no other
ranges : (z : ℤ) → (int_le (pos 1) z && int_le z (pos 2)) ≡ is_ok (member_named numbers array z)
unfolding digits
ranges (pos zero) = refl
ranges (pos (suc zero)) = refl
ranges (pos (suc (suc zero))) = refl
ranges (pos (suc (suc (suc n)))) =
    ap (λ q. int_le (pos 1) (pos (suc (suc (suc n)))) && q) (lt-leb (suc (suc (suc n))) 2 (omega arith))
    ∙ and-false (int_le (pos 1) (pos (suc (suc (suc n)))))
    ∙ sym (none-there (pos (suc (suc (suc n)))) (λ e. let k = pos-is (suc (suc (suc n))) 1 e in omega (arith, k)) (λ e. let k = pos-is (suc (suc (suc n))) 2 e in omega (arith, k)))
ranges (negsuc n) = sym (none-there (negsuc n) (pos-never n 1) (pos-never n 2))

some-is : (i j : ℤ) → ◌≡◌ {A = Option ℤ} (Some i) (Some j) → i ≡ j
some-is i j e = cc

-- the literal of each member's index is worth it
literal : (s : Span) (n : ℕ) (i : ℤ) → IsLiteral b (kind_of_index (types_before b) (Some indices)) s (pos n) → ◌≡◌ {A = Option ℤ} (Some (pos n)) (Some i) → IsLiteral b (kind_of_index (types_before b) (Some indices)) s i
literal s n i is e = subst (IsLiteral b (kind_of_index (types_before b) (Some indices)) s) (some-is (pos n) i e) is

literals : (s : Span) → AllByRecursion (HasLiteral b (kind_of_index (types_before b) (array_range choosing array)) s) (members_of b.original array)
unfolding digits
literals s = (
  λ i e. literal s 1 i (record { fixed = fixed_integer 1 s; value = Number (pos 1); worth = refl; position = refl }) e,
  (λ i e. literal s 2 i (record { fixed = fixed_integer 2 s; value = Number (pos 2); worth = refl; position = refl }) e, tt),
)

-- a task that the callee can come to is the one member or the other
meant : (P : ℕ → Type 0) → P 1 → P 2 → (t : ℕ) → IsMeant b member t → P t
unfolding digits
meant P one two t (is_named e f) = cc
meant P one two t (is_member_of e z f q) = ⊎_elim (λ k. subst P (sym k.0) one) (λ k. subst P (sym k.0) two) (members z t q)

callee : IsCallee b member
unfolding digits
callee = record {
  known = λ e. cc;
  named = meant (λ t. task_named b.made.numbers (task_name_at b.original t) ≡ Some t) refl refl;
  range = λ e f s z. ranges z;
  literals = λ e f s. literals s;
}

call : IsCall b the_call
unfolding digits
call = record {
  callee = callee;
  index = None;
  actuals = [];
  lists = no_lists;
  copies = none_copied;
  entries = meant (λ t. AreTwins b.original (entry_called b.original the_call) (entry_of numbers t the_call.entry.name)) (record { family = refl; range = refl; formals = refl }) (record { family = refl; range = refl; formals = refl });
}

-- ---- the statements

index-old : OldExpr b index
index-old = old_name record { 0 = 29 } _ refl

main-old : OldBody (asked_of (unit_at rewrite 0)) main_body
main-old =
    old_body _ no_handler
    (old_stmt _ _ (old_call the_call _ (record { member = old_some index index-old; args = old_no_args }) call)
    (old_stmt _ no_stmt (old_abort (member ∷ []) _ (old_callee member [] (old_some index index-old) callee old_no_callee)) old_no_stmt)) old_no_handler

task-old : (t : ℕ) → IsHead b 1 t head → OldBody (asked_of (record { programs = b; first = 1; number = t; vars = [] })) task_body
task-old t fits = old_body _ no_handler (old_stmt _ no_stmt (old_accept head _ _ (record { index = old_none; formals = old_no_formal }) fits old_absent) old_no_stmt) old_no_handler

head-fits : (t : ℕ) → family_range b.original (entry_of numbers 1 (word 27).name) ≡ family_range b.original (entry_of numbers t (word 27).name) → IsHead b 1 t head
head-fits t e = record { family = λ x f. cc; range = e; known = λ f. (pos 0, refl) }

text : (t : ℕ) → t < 3 → OldBody (asked_of (unit_at rewrite t)) (unit_before rewrite t).body
unfolding digits
text zero l = main-old
text (suc zero) l = task-old 1 (head-fits 1 refl)
text (suc (suc zero)) l = task-old 2 (head-fits 2 refl)
text (suc (suc (suc t))) l = absurd (omega (arith, l))

-- ---- every part of the program

-- the rules hold in the declarations, where they ask of names and integers alone
module _ (name : NameId → Type 0) (integer : ℕ → Type 0) (words : List ℕ → Type 0) (duration : ℕ → Type 0)
    (n0 : name record { 0 = 0 }) (n26 : name record { 0 = 26 }) (n27 : name record { 0 = 27 }) (n28 : name record { 0 = 28 }) (n29 : name record { 0 = 29 }) (one : integer 1) (two : integer 2) where
  abbrev rules : Rules
  rules = record no_rules { name = name; integer = integer; words = words; duration = duration }

  one-name : (k : ℕ) → name record { 0 = k } → All (EveryWord rules) (word k ∷ [])
  one-name k h = All-cons (EveryWord rules) (word k) [] h (All-nil (EveryWord rules))

  pub in-decls : EveryDecls rules choosing.decls
  in-decls = (
    (tt, (n26, All-cons (EveryEntry rules) entry [] (tt, n27, tt, All-nil (EveryFormal rules)) (All-nil (EveryEntry rules)), All-nil (EveryPriority rules), tt)),
    (
      (tt, (tt, one-name 28 n28), ((tt, (tt, one), (tt, two)), (n26, tt)), tt, tt),
      (
        (tt, (tt, one-name 29 n29), (n0, tt), tt, (tt, one)),
        ((tt, n26, tt, tt, ((tt, (tt, (n27, tt, All-nil (EveryFormal rules)), tt), tt), tt, tt)), tt),
      ),
    ),
  )

  pub in-body : EveryBody rules 1 main_body
  in-body = (
    (tt, (tt, ((n28, (tt, n29)), n27, tt)), ((tt, tt, All-cons (EveryCallee rules 2) member [] (n28, (tt, n29)) (All-nil (EveryCallee rules 2))), tt)),
    tt,
    tt,
  )

abbrev pub Named : ℕ → Type 0
Named k = IsSomeAnd (slice_get choosing.names k) IsIdentifier

pub n0 : Named 0
n0 = (refl, omega arith, refl)

pub n25 : Named 25
n25 = (refl, omega arith, refl)

pub n26 : Named 26
n26 = (refl, omega arith, refl)

pub n27 : Named 27
n27 = (refl, omega arith, refl)

pub n28 : Named 28
n28 = (refl, omega arith, refl)

pub n29 : Named 29
n29 = (refl, omega arith, refl)

has-tokens : HasTokens choosing
has-tokens = (
  n25,
  tt,
  in-decls (λ id. Named id.0) IsInteger IsStringContent IsDuration n0 n26 n27 n28 n29 (omega arith) (omega arith),
  in-body (λ id. Named id.0) IsInteger IsStringContent IsDuration n0 n26 n27 n28 n29 (omega arith) (omega arith),
)

abbrev Unasked : {A : Type 0} → A → Type 0
Unasked a = Unit {0}

own : AreOwn choosing choosing.decls
own = in-decls (λ id. own_name choosing id.0 ≡ true) Unasked Unasked Unasked refl refl refl refl refl tt tt

ordered : IsOrdered choosing
unfolding digits
ordered = record { rules = refl; last = tt }

tell : NamesTell (setting_for choosing)
unfolding digits
tell = (((λ e. refl), ((λ e. refl), tt)), (((λ e. refl), ((λ e. refl), tt)), tt))

-- ---- numbers, variables and objects

nothing-runs : (t : ℕ) → unit_of choosing numbers (suc (suc (suc t))) ≡ no_unit
unfolding digits
nothing-runs t = ap (λ q. if q then record { in_main = true; decls = choosing.decls; body = choosing.body } else unit_of_info choosing (task_at numbers (suc (suc (suc t))))) (next_not_zero (suc (suc t)))

conforms : (t : ℕ) → InBody (Conforms (setting_for choosing) t) (unit_of choosing numbers t).body
unfolding digits
conforms zero = ((tt, (tt, tt)), tt)
conforms (suc zero) = (((tt, tt), tt), tt)
conforms (suc (suc zero)) = (((tt, tt), tt), tt)
conforms (suc (suc (suc t))) = subst (λ u. InBody (Conforms (setting_for choosing) (suc (suc (suc t)))) u.body) (sym (nothing-runs t)) (tt, tt)

lowers : (e : ℕ) → LowersFit (types_in choosing) (entry_parameters (setting_for choosing) e)
unfolding digits
lowers zero = tt
lowers (suc zero) = tt
lowers (suc (suc zero)) = tt
lowers (suc (suc (suc e))) = subst (λ q. LowersFit (types_in choosing) (parameters_of (types_in choosing) (formals_of_info (setting_for choosing) q))) (sym (entry-none e)) tt

abbrev at : ℕ → RewrittenUnit
at t = record { setting = setting_for choosing; task = first_task choosing (suc (suc (suc t))) }

pub two_variables : length (variables_of choosing 0) ≡ 2
unfolding digits
two_variables = refl

few : (t : ℕ) → length (variables_of choosing t) < 2 ^ 64
unfolding digits
few zero = omega (arith, two_variables)
few (suc zero) = let e : length (variables_of choosing 1) ≡ 0 = refl in omega (arith, e)
few (suc (suc zero)) = let e : length (variables_of choosing 2) ≡ 0 = refl in omega (arith, e)
few (suc (suc (suc t))) =
    let e : length (unit_variables (at t) no_unit.body) ≡ 0 = refl in
    subst (λ u. length (unit_variables (at t) u.body) < 2 ^ 64) (sym (nothing-runs t)) (omega (arith, e))

scalar : (t : ℕ) → AllByRecursion (IsScalar (types_in (made_for choosing))) (variables_of choosing t)
unfolding digits
scalar zero = ((_, refl), ((_, refl), tt))
scalar (suc zero) = tt
scalar (suc (suc zero)) = tt
scalar (suc (suc (suc t))) = subst (λ u. AllByRecursion (IsScalar (types_in (made_for choosing))) (unit_variables (at t) u.body)) (sym (nothing-runs t)) tt

-- the values of I
values-known : (o : Object) → o.values ≡ Number (pos 1) ∷ [] → (k : ℕ) → IsKnown b (value_there o k)
unfolding digits
values-known o e zero = ap (λ vs. is_known (types_in choosing) (kind_of_value (slice_index_or vs 0 (Number (pos 0))))) e
values-known o e (suc k) =
    ap (λ vs. is_known (types_in choosing) (kind_of_value (slice_index_or vs (suc k) (Number (pos 0))))) e
    ∙ ap (λ a. is_known (types_in choosing) (kind_of_value a)) (get_or_past (Number (pos 1) ∷ []) (suc k) (Number (pos 0)) (omega arith))

plain : (t : ℕ) → AllByRecursion (IsPlain b) (objects_before rewrite t)
unfolding digits
plain zero = ((refl, (values-known (record { name = record { 0 = 29 }; limits = integer_limits; index = None; values = Number (pos 1) ∷ [] }) refl, refl)), tt)
plain (suc zero) = tt
plain (suc (suc zero)) = tt
plain (suc (suc (suc t))) = subst (λ u. AllByRecursion (IsPlain b) (objects_of (types_in choosing) u.in_main u.decls [])) (sym (nothing-runs t)) tt

pub chooses : IsNormalisable choosing []
unfolding digits
chooses = record {
  ordered = ordered;
  tokens = has-tokens;
  own = own;
  tell = tell;
  few = few;
  marks = marks;
  families = families;
  truths = λ s z. refl;
  integers = λ s z. refl;
  scalar = scalar;
  well = record { conforms = conforms; lowers = lowers };
  plain = plain;
  text = text;
}

-- The entries and the bodies of the example are as the law asks, whichever names count as old, as long as its own do.
use Rattle.std.proofs.Common.{◌≡◌, ℕ, zero, suc, Bool, ◌-◌, pos, true, if◌then◌else◌, [], ◌∷◌, Some, None, Ok, refl, sym, ap, subst, ◌∙◌, arith, slice_get, true≢false}
use Rattle.std.specs.Fmt.{digits}
use Rattle.std.proofs.lemmas.Bool.{ne_eqb}
use Rattle.ada_tree.specs.declared.naming.Span.{Span}
use Rattle.ada_value.specs.Values.{and_then}
use Rattle.syn_event.specs.Numbering.{task_named, entry_at}
use Rattle.task_model.specs.Machine.{setting_of}
use Rattle.task_model.specs.Setting.{callee_task, entry_of, is_family, is_family_in, family_limits, formals_of_info}
use Rattle.normal_model.specs.Names.{task_name_at}
use Rattle.normal_model.specs.Ranges.{subtype_of_range, family_range}
use Rattle.normal_model.specs.Calls.{entry_called}
use Rattle.ada_tree.specs.PlainStmt.{no_stmt, no_handler, no_alt}
use Rattle.task_laws.specs.translation.Translations.{Programs, types_before, types_after}
use Rattle.task_laws.specs.translation.OldNames.{OldExpr, old_integer, old_name, old_none, old_some}
use Rattle.task_laws.specs.translation.OldTexts.{OldBody, old_body, old_stmt, old_no_stmt, old_assign, old_call, old_wait, old_absent, old_present, old_no_alt, old_alt, old_accepts, old_terminates, old_no_handler, OldFormals, old_formal, old_no_formal, old_word, old_no_word, old_args, old_expr, old_no_expr, old_list}
use Rattle.normal_laws.specs.runs.floors.Suited.{SameRange, declared_limits, AreMarked, none_marked, marked_then, IsMeant, is_named, is_member, IsCallee, family_lists, both_ways, none_copied, copied_then, AreTwins, IsCall, IsHead, has_alternative, asked_of}
use Rattle.normal_model.specs.NormalNumbers.{normal_numbers}
use Rattle.normal_laws.specs.runs.runs.Example.{word, formal, v, yes, the_call, head, main_body, task_body, numbers, after, setting, rewrite}

-- only the first entry is there
pub entry-none : (e : ℕ) → entry_at numbers (suc (suc e)) ≡ None
entry-none e =
    let q : suc (suc e) - 1 ≡ suc e = omega arith in
    ap (λ t. if t then None else slice_get numbers.entries (suc (suc e) - 1)) (ne_eqb (suc (suc e)) 0 (λ h. omega (arith, h))) ∙ ap (slice_get numbers.entries) q

ok-number : (a c : ℕ) → and_then {A = ℕ} {B = ℕ} (Ok a) (λ n. Ok n) ≡ Ok c → a ≡ c
ok-number a c e = cc

module _ (is_old is_known : ℕ → Bool) (old0 : is_old 0 ≡ true) (old5 : is_old 5 ≡ true) (old28 : is_old 28 ≡ true) (old29 : is_old 29 ≡ true) where
  -- the example and its normal form
  abbrev b : Programs
  b = record {
    original = setting;
    made = setting_of after (normal_numbers after.program numbers);
    is_old = is_old;
    is_fixed = rewrite.is_fixed;
    is_known = is_known;
  }

  pub formals-same : (e : ℕ) → formals_of_info b.original (entry_at b.original.numbers e) ≡ formals_of_info b.made (entry_at b.original.numbers e)
  unfolding digits
  formals-same zero = refl
  formals-same (suc zero) = refl
  formals-same (suc (suc e)) = ap (formals_of_info b.original) (entry-none e) ∙ sym (ap (formals_of_info b.made) (entry-none e))

  pub marks : (e : ℕ) → AreMarked b (formals_of_info b.original (entry_at b.original.numbers e))
  unfolding digits
  marks zero = none_marked
  marks (suc zero) = marked_then formal [] old0 refl none_marked
  marks (suc (suc e)) = subst (λ q. AreMarked b (formals_of_info b.original q)) (sym (entry-none e)) none_marked

  pub families : (e : ℕ) → is_family b.original.numbers e ≡ true → (s : Span) → SameRange (family_limits (entry_at b.original.numbers e)) (declared_limits (types_after b) (subtype_of_range (types_before b) s (family_range b.original e)))
  unfolding digits
  families zero h s z = cc
  families (suc zero) h s z = refl
  families (suc (suc e)) h s z = absurd (true≢false (sym h ∙ ap is_family_in (entry-none e)))

  -- ---- the statements

  v-old : OldExpr b v
  v-old = old_name record { 0 = 29 } _ old29

  yes-old : OldExpr b yes
  yes-old = old_name record { 0 = 5 } _ old5

  -- the callee is the task T
  one-task : (t : ℕ) → callee_task b.original [] the_call.task ≡ Ok t → 1 ≡ t
  one-task t e = ok-number 1 t e

  formals-old : OldFormals b (formal ∷ [])
  formals-old = old_formal formal [] (old_word (word 28) [] old28 refl old_no_word) old0 old_no_formal

  callee : IsCallee b the_call.task
  unfolding digits
  callee = record {
    known = λ e. (1, refl);
    named = λ t m. named t m;
    range = λ e f s z. cc;
    literals = λ e f s. cc;
  }
    where
      named : (t : ℕ) → IsMeant b the_call.task t → task_named b.made.numbers (task_name_at b.original t) ≡ Some t
      named t (is_named e f) = subst (λ k. task_named b.made.numbers (task_name_at b.original k) ≡ Some k) (one-task t f) refl
      named t (is_member e z f q) = cc

  call : IsCall b the_call
  unfolding digits
  call = record {
    callee = callee;
    index = Some yes;
    actuals = v ∷ [];
    lists = family_lists yes (Some (v ∷ []));
    copies = copied_then _ [] v [] (both_ways record { 0 = 29 } _ old29) none_copied;
    entries = λ t m. entries t m;
  }
    where
      entries : (t : ℕ) → IsMeant b the_call.task t → AreTwins b.original (entry_called b.original the_call) (entry_of b.original.numbers t the_call.entry.name)
      entries t (is_named e f) = subst (λ k. AreTwins b.original 1 (entry_of b.original.numbers k the_call.entry.name)) (one-task t f) (record { family = refl; range = refl; formals = refl })
      entries t (is_member e z f q) = cc

  pub main-old : OldBody (asked_of (record { programs = b; first = 0; number = 0; vars = [] })) main_body
  main-old =
      old_body _ no_handler
      (old_stmt _ no_stmt (old_call the_call _ (record { member = old_none; args = old_args _ (old_expr yes [] yes-old old_no_expr) (old_list (v ∷ []) (old_expr v [] v-old old_no_expr)) }) call) old_no_stmt) old_no_handler

  head-fits : IsHead b 1 1 head
  head-fits = record { family = λ e f. refl; range = refl; known = λ f. (pos 1, refl) }

  pub task-old : OldBody (asked_of (record { programs = b; first = 1; number = 1; vars = [] })) task_body
  task-old =
      old_body _ no_handler
      (old_stmt _ no_stmt
      (old_wait _ _ _ (has_alternative _ _)
      (old_alt (Some yes) _ _ _ (old_some yes yes-old)
      (old_accepts head _ no_stmt (record { index = old_some yes yes-old; formals = formals-old }) head-fits
      (old_present _ (old_stmt _ no_stmt (old_assign _ _ _ (record { name = old28; index = old_none }) (old_integer 1 _)) old_no_stmt)) old_no_stmt)
      (old_alt None _ _ no_alt old_none old_terminates old_no_alt)) old_absent) old_no_stmt) old_no_handler

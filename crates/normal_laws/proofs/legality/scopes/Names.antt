-- The names that the normal form adds are apart: those of variables and of members are no plain names of the program, and no variable has the name of a task.
use Rattle.std.proofs.Common.{◌≡◌, ℕ, suc, ◌<◌, ℤ, Bool, true, false, not, ◌&&◌, ◌||◌, ◌==◌, nat_lt, nat_eq, List, [], ◌∷◌, length, slice_get, unwrap_or, codes, Option, Some, None, refl, sym, ap, ◌∙◌, true≢false, arith}
use Rattle.std.specs.List.{starts_with}
use Rattle.std.specs.Str.{bytes_eq}
use Rattle.std.proofs.lemmas.Option.{slice_get_within}
use Rattle.common_lemmas.proofs.Truth.{and_left, and_right, or_left, not_true}
use Rattle.common_lemmas.proofs.Numbers.{unequal, lt_is}
use Rattle.common_lemmas.proofs.Options.{some_same, not_missing}
use Rattle.ada_tree.specs.PlainProgram.{PProgram}
use Rattle.syn_event.specs.declared.numbering.TaskInfo.{TaskInfo}
use Rattle.syn_event.specs.AddedNames.{is_added_name}
use Rattle.syn_event.specs.DeclaredTasks.{text_of}
use Rattle.syn_event.specs.RuleReservedName.{has_mark, is_reserved}
use Rattle.task_model.specs.Setting.{Setting}
use Rattle.normal_model.specs.Names.{name_of_member, member_texts, variable_text, with_members, normal_names, variable_name, task_name}
use Rattle.normal_model.proofs.VariablesLemmas.{Begins}
use Rattle.task_laws.proofs.legal.rewritten_values.Saying.{place-within}
use Rattle.normal_laws.specs.structure.types.Own.{own_name}
use Rattle.normal_laws.proofs.structure.types.Names.{variables-begin, added_names_are_new, variable-there, fold-begins}
use Rattle.normal_laws.proofs.existence.units.TaskNames.{member-reserved}
use Rattle.normal_laws.proofs.existence.units.TasksApart.{full_text, IsNamed}
use Rattle.normal_laws.specs.legality.scopes.Plain.{plain_name}
use Rattle.common_lemmas.proofs.Lists.{first_same, rest_same}

-- ---- plain names

-- a plain name is one of the program's own
pub plain-own : (p : PProgram) (n : ℕ) → plain_name p n ≡ true → own_name p n ≡ true
plain-own p n h =
    let within = and_left (nat_lt n (length p.names)) (not (is_reserved (text_of p.names record { 0 = n }))) h in
    let free = not_true _ (and_right (nat_lt n (length p.names)) (not (is_reserved (text_of p.names record { 0 = n }))) h) in
    ap (λ b. b && not (is_added_name p.names record { 0 = n })) within
    ∙ ap not (or_left (starts_with nat_eq (text_of p.names record { 0 = n }) (codes "DED_")) (has_mark (text_of p.names record { 0 = n }) || bytes_eq (text_of p.names record { 0 = n }) (codes "DED")) free)

pub plain-free : (p : PProgram) (n : ℕ) → plain_name p n ≡ true → is_reserved (text_of p.names record { 0 = n }) ≡ false
plain-free p n h = not_true _ (and_right (nat_lt n (length p.names)) (not (is_reserved (text_of p.names record { 0 = n }))) h)

pub plain-within : (p : PProgram) (n : ℕ) → plain_name p n ≡ true → n < length p.names
plain-within p n h = lt_is n (length p.names) (and_left (nat_lt n (length p.names)) (not (is_reserved (text_of p.names record { 0 = n }))) h)

-- what is not own is not plain
not-plain : (p : PProgram) (n : ℕ) → own_name p n ≡ false → plain_name p n ≡ false
not-plain p n h = by_test (plain_name p n) refl
  where
    by_test : (b : Bool) → plain_name p n ≡ b → b ≡ false
    by_test false e = refl
    by_test true e = absurd (true≢false (sym (plain-own p n e) ∙ h))

-- no variable has a plain name
pub variable-new : (g : Setting) (k : ℕ) → plain_name g.program (variable_name g k).0 ≡ false
variable-new g k = not-plain g.program (variable_name g k).0 (added_names_are_new g k)

-- ---- tasks

-- a task with a plain name is no member, and has that name in the program
pub plain-task : (g : Setting) (info : TaskInfo) → IsNamed g info → plain_name g.program (task_name g info).0 ≡ true → info.member ≡ None
plain-task g info n h = by_member info.member refl
  where
    id : ℕ
    id = (task_name g info).0

    starts : Begins g.program.names (with_members g)
    starts = fold-begins (member_texts g.program.names g.numbers.tasks) g.program.names

    -- the text is there among the program's names
    text-there : text_of g.program.names (task_name g info) ≡ full_text n.text info.member
    text-there =
        ap (λ o. unwrap_or o [])
        (sym (place-within g.program.names starts.more id (plain-within g.program id h)) ∙ ap (λ l. slice_get l id) (sym starts.joined) ∙ n.found)

    by_member : (o : Option ℤ) → info.member ≡ o → o ≡ None
    by_member None e = refl
    by_member (Some i) e = absurd (true≢false (sym (member-reserved n.text i) ∙ ap (λ o. is_reserved (full_text n.text o)) (sym e) ∙ ap is_reserved (sym text-there) ∙ plain-free g.program id h))

-- so a member has no plain name
pub member-new : (g : Setting) (info : TaskInfo) → IsNamed g info → (z : ℤ) → info.member ≡ Some z → plain_name g.program (task_name g info).0 ≡ false
member-new g info n z e = by_test (plain_name g.program (task_name g info).0) refl
  where
    by_test : (b : Bool) → plain_name g.program (task_name g info).0 ≡ b → b ≡ false
    by_test false f = refl
    by_test true f = absurd (not_missing z (sym (plain-task g info n f) ∙ e))

-- ---- variables and tasks

-- the text of a member is none of a variable
member-other : (a : List ℕ) (i : ℤ) (k : ℕ) → is_reserved a ≡ false → name_of_member a i ≡ variable_text k → ⊥
member-other [] i k free e = let q : 95 ≡ 68 = first_same e in omega (arith, q)
member-other (x ∷ []) i k free e = let q : 95 ≡ 69 = first_same (rest_same e) in omega (arith, q)
member-other (x ∷ y ∷ []) i k free e = let q : 95 ≡ 68 = first_same (rest_same (rest_same e)) in omega (arith, q)
member-other (x ∷ y ∷ z ∷ []) i k free e = true≢false (sym (ap is_reserved same) ∙ free)
  where
    same : x ∷ y ∷ z ∷ [] ≡ codes "DED"
    same = let a : x ≡ 68 = first_same e in let b : y ≡ 69 = first_same (rest_same e) in let c : z ≡ 68 = first_same (rest_same (rest_same e)) in λ j. a j ∷ b j ∷ c j ∷ []
member-other (x ∷ y ∷ z ∷ w ∷ a) i k free e = true≢false (sym (ap is_reserved same) ∙ free)
  where
    same : x ∷ y ∷ z ∷ w ∷ a ≡ 68 ∷ 69 ∷ 68 ∷ 95 ∷ a
    same =
        let q : x ≡ 68 = first_same e in let b : y ≡ 69 = first_same (rest_same e) in let c : z ≡ 68 = first_same (rest_same (rest_same e)) in let d : w ≡ 95 = first_same (rest_same (rest_same (rest_same e))) in
        λ j. q j ∷ b j ∷ c j ∷ d j ∷ a

full-other : (a : List ℕ) (o : Option ℤ) (k : ℕ) → is_reserved a ≡ false → full_text a o ≡ variable_text k → ⊥
full-other a None k free e = true≢false (sym (ap is_reserved e) ∙ free)
full-other a (Some i) k free e = member-other a i k free e

-- no variable has the name of a task
pub variable-task : (g : Setting) (info : TaskInfo) (k : ℕ) → IsNamed g info → ((variable_name g k).0 == (task_name g info).0) ≡ false
variable-task g info k n = unequal (variable_name g k).0 (task_name g info).0 differ
  where
    more : Begins (with_members g) (normal_names g (suc k))
    more = variables-begin (with_members g) (suc k)

    there : slice_get (normal_names g (suc k)) (task_name g info).0 ≡ Some (full_text n.text info.member)
    there =
        ap (λ l. slice_get l (task_name g info).0) more.joined
        ∙ place-within (with_members g) more.more (task_name g info).0 (slice_get_within (with_members g) (task_name g info).0 (full_text n.text info.member) n.found) ∙ n.found

    differ : (variable_name g k).0 ≡ (task_name g info).0 → ⊥
    differ e = full-other n.text info.member k n.free (some_same (sym there ∙ ap (slice_get (normal_names g (suc k))) (sym e) ∙ (variable-there g k).0))

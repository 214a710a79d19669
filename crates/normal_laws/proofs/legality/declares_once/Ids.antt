-- The names that the normal form adds differ from those of the program, from the predefined ones, and those of members from those of variables.
use Rattle.std.proofs.Common.{◌≡◌, ℕ, zero, suc, ◌+◌, ◌/◌, ◌%◌, ◌<◌, ℤ, Bool, true, false, ◌||◌, ◌&&◌, ◌==◌, nat_lt, nat_eq, if◌then◌else◌, List, [], ◌∷◌, ◌++◌, length, drop, slice_get, get_or, unwrap_or, codes, Option, Some, None, refl, sym, ap, ◌∙◌, true≢false, append_assoc, arith}
use Rattle.std.specs.Fmt.{digits, digits_onto, digit_glyph}
use Rattle.std.specs.Option.{IsSomeAnd}
use Rattle.std.specs.List.{AllByRecursion, starts_with}
use Rattle.std.proofs.lemmas.Bool.{lt-ltb, ltb-true, ne_eqb, eqb-true, eq-eqb}
use Rattle.std.proofs.lemmas.List.{take-append-drop}
use Rattle.std.proofs.lemmas.Option.{slice_get-get_or, slice_get_within}
use Rattle.common_lemmas.proofs.Options.{some_same}
use Rattle.ada_tree.specs.NameList.{predefined, AreNames}
use Rattle.ada_tree.specs.Lexical.{IsIdentifier}
use Rattle.ada_static_rules.specs.RuleDuplicate.{is_predefined}
use Rattle.syn_event.specs.declared.numbering.TaskInfo.{TaskInfo}
use Rattle.syn_event.specs.DeclaredTasks.{text_of}
use Rattle.syn_event.specs.RuleReservedName.{has_mark, is_reserved}
use Rattle.task_model.specs.Setting.{Setting}
use Rattle.task_laws.proofs.legal.rewritten_types.Lookups.{place-all}
use Rattle.task_laws.proofs.legal.rewritten_values.Saying.{place-within}
use Rattle.normal_model.specs.Names.{name_of_member, variable_text, member_texts, with_members, normal_names, variable_name, task_name}
use Rattle.normal_model.proofs.VariablesLemmas.{Begins}
use Rattle.normal_laws.proofs.structure.types.Names.{fold-begins, variables-begin, names-begin, variable-there}
use Rattle.normal_laws.proofs.structure.placed.Names.{first-named}
use Rattle.normal_laws.proofs.existence.units.TaskNames.{mark-there, member-reserved}
use Rattle.normal_laws.proofs.existence.units.TasksApart.{full_text, IsNamed}
use Rattle.normal_laws.proofs.existence.units.DeclaredNames.{IsGood}

-- ---- texts of variables

-- no mark stands in digits
digit-line : (d : ℕ) → d < 10 → (95 == digit_glyph false d) ≡ false
digit-line d l = ap (λ (b : Bool). 95 == (if b then 48 + d else 87 + d)) (lt-ltb d 10 l) ∙ ne_eqb 95 (48 + d) (λ e. omega (arith, l, e))

one-unmarked : (d : ℕ) (acc : List ℕ) → (95 == d) ≡ false → has_mark acc ≡ false → has_mark (d ∷ acc) ≡ false
one-unmarked d acc e h = ap (λ (b : Bool). (b && starts_with nat_eq acc (codes "DED_")) || has_mark acc) e ∙ h

onto-unmarked : (k n : ℕ) (acc : List ℕ) → has_mark acc ≡ false → has_mark (digits_onto k 10 false n acc) ≡ false
onto-unmarked zero n acc h = h
onto-unmarked (suc k) n acc h = by_test (n / 10 == 0) (onto-unmarked k (n / 10) (digit_glyph false (n % 10) ∷ acc) (one-unmarked (digit_glyph false (n % 10)) acc (digit-line (n % 10) (omega arith)) h))
  where
    by_test : (b : Bool) → has_mark (digits_onto k 10 false (n / 10) (digit_glyph false (n % 10) ∷ acc)) ≡ false →
        has_mark (if b then digit_glyph false (n % 10) ∷ acc else digits_onto k 10 false (n / 10) (digit_glyph false (n % 10) ∷ acc)) ≡ false
    by_test true g = one-unmarked (digit_glyph false (n % 10)) acc (digit-line (n % 10) (omega arith)) h
    by_test false g = g

variable-unmarked : (k : ℕ) → has_mark (variable_text k) ≡ false
unfolding digits
variable-unmarked k = onto-unmarked 64 (k + 1) [] refl

texts-differ : (t : List ℕ) (i : ℤ) (k : ℕ) → name_of_member t i ≡ variable_text k → ⊥
texts-differ t i k e = true≢false (sym (ap has_mark (append_assoc t (codes "_DED_") _) ∙ mark-there t _) ∙ ap has_mark e ∙ variable-unmarked k)

-- ---- new names

-- an id that has a reserved text behind the program's names
pub record IsNew (names : List (List ℕ)) (x : ℕ) : Type 0 where
  pub all : List (List ℕ)
  pub begins : Begins names all
  pub text : List ℕ
  pub there : slice_get all x ≡ Some text
  pub reserved : is_reserved text ≡ true

abbrev pub IsGoodId : List (List ℕ) → ℕ → Type 0
IsGoodId names x = IsGood names record { 0 = x }

module _ (names : List (List ℕ)) where
  -- a name of the program is no new one
  pub good-new : (x y : ℕ) → IsGoodId names x → IsNew names y → (x == y) ≡ false
  good-new x y g n = by_test (x == y) refl
    where
      differ : x ≡ y → (o : Option (List ℕ)) → slice_get names x ≡ o → IsSomeAnd o IsIdentifier → ⊥
      differ e None f i = i
      differ e (Some t) f i =
          let q : slice_get n.all y ≡ Some t = ap (slice_get n.all) (sym e) ∙ ap (λ l. slice_get l x) n.begins.joined ∙ place-within names n.begins.more x (slice_get_within names x t f) ∙ f in
          let same : t ≡ n.text = some_same (sym q ∙ n.there) in
          true≢false (sym n.reserved ∙ ap is_reserved (sym same) ∙ ap (λ (o : Option (List ℕ)). is_reserved (unwrap_or o [])) (sym f) ∙ g.free)

      by_test : (b : Bool) → (x == y) ≡ b → b ≡ false
      by_test false e = refl
      by_test true e = absurd (differ (eqb-true x y e) (slice_get names x) refl g.there)

  pub new-good : (x y : ℕ) → IsNew names x → IsGoodId names y → (x == y) ≡ false
  new-good x y n g = by_test (x == y) refl
    where
      by_test : (b : Bool) → (x == y) ≡ b → b ≡ false
      by_test false e = refl
      by_test true e = absurd (true≢false (sym (eq-eqb y x (sym (eqb-true x y e))) ∙ good-new y x g n))

  -- ---- predefined names

  module _ (are : AreNames names) where
    first-text : (k : ℕ) → k < 25 → slice_get names k ≡ slice_get predefined k
    first-text k l =
        ap (λ ts. slice_get ts k) (sym (ap (λ (ts : List (List ℕ)). ts ++ drop (length predefined) names) (sym are.begins) ∙ take-append-drop (length predefined) names))
        ∙ place-within predefined (drop (length predefined) names) k l

    predefined-free : AllByRecursion (λ t. is_reserved t ≡ false) predefined
    predefined-free = (refl, (refl, (refl, (refl, (refl, (refl, (refl, (refl, (refl, (refl, (refl, (refl, (refl, (refl, (refl, (refl, (refl, (refl, (refl, (refl, (refl, (refl, (refl, (refl, (refl, tt)))))))))))))))))))))))))

    pub first-free : (k : ℕ) → k < 25 → is_reserved (text_of names record { 0 = k }) ≡ false
    first-free k l =
        ap (λ (o : Option (List ℕ)). is_reserved (unwrap_or o [])) (first-text k l ∙ slice_get-get_or predefined k [] l)
        ∙ place-all (λ t. is_reserved t ≡ false) predefined k (get_or predefined k []) predefined-free (slice_get-get_or predefined k [] l)

    pub new-not-predefined : (x : ℕ) → IsNew names x → is_predefined x ≡ false
    new-not-predefined x n = by_test (nat_lt x 18) refl
      where
        good : x < 18 → IsGoodId names x
        good l = record { there = first-named names are x (omega (arith, l)); free = first-free x (omega (arith, l)) }

        by_test : (b : Bool) → nat_lt x 18 ≡ b → b ≡ false
        by_test false e = refl
        by_test true e = absurd (true≢false (sym (eq-eqb x x refl) ∙ good-new x x (good (ltb-true x 18 e)) n))

-- ---- the names of variables and members

module _ (g : Setting) where
  abbrev names : List (List ℕ)
  names = g.program.names

  pub variable-new : (k : ℕ) → IsNew names (variable_name g k).0
  variable-new k = record { all = normal_names g (suc k); begins = names-begin g (suc k); text = variable_text k; there = (variable-there g k).0; reserved = refl }

  pub member-new : (info : TaskInfo) → IsNamed g info → (i : ℤ) → info.member ≡ Some i → IsNew names (task_name g info).0
  member-new info n i e = record {
    all = with_members g;
    begins = fold-begins (member_texts names g.numbers.tasks) names;
    text = name_of_member n.text i;
    there = n.found ∙ ap (λ (m : Option ℤ). Some (full_text n.text m)) e;
    reserved = member-reserved n.text i;
  }

  -- no member has the name of a variable
  pub member-variable : (info : TaskInfo) → IsNamed g info → (i : ℤ) → info.member ≡ Some i → (k : ℕ) → ((task_name g info).0 == (variable_name g k).0) ≡ false
  member-variable info n i e k = by_test ((task_name g info).0 == (variable_name g k).0) refl
    where
      there : slice_get (with_members g) (task_name g info).0 ≡ Some (name_of_member n.text i)
      there = n.found ∙ ap (λ (m : Option ℤ). Some (full_text n.text m)) e

      begins : Begins (with_members g) (normal_names g (suc k))
      begins = variables-begin (with_members g) (suc k)

      later : slice_get (normal_names g (suc k)) (task_name g info).0 ≡ Some (name_of_member n.text i)
      later =
          ap (λ l. slice_get l (task_name g info).0) begins.joined
          ∙ place-within (with_members g) begins.more (task_name g info).0 (slice_get_within (with_members g) (task_name g info).0 (name_of_member n.text i) there) ∙ there

      by_test : (b : Bool) → ((task_name g info).0 == (variable_name g k).0) ≡ b → b ≡ false
      by_test false f = refl
      by_test true f =
          absurd (texts-differ n.text i k (some_same (sym later ∙ ap (slice_get (normal_names g (suc k))) (eqb-true (task_name g info).0 (variable_name g k).0 f) ∙ (variable-there g k).0)))

-- The texts of a normal form's names: none has two ids, and none of those that are declared or named is added by a replay text.
use Rattle.std.proofs.Common.{◌≡◌, ℕ, suc, ◌+◌, ◌<◌, ◌-◌, ℤ, Bool, true, false, ◌||◌, nat_eq, List, [], ◌∷◌, ◌++◌, slice_get, unwrap_or, codes, Option, Some, None, IsSomeAnd, refl, sym, ap, ◌∙◌, subst, true≢false, arith}
use Rattle.std.specs.List.{AllByRecursion, list_any, starts_with}
use Rattle.std.specs.Str.{bytes_eq}
use Rattle.std.proofs.lemmas.Bool.{or_from}
use Rattle.std.proofs.lemmas.List.{append_assoc}
use Rattle.std.proofs.lemmas.Option.{slice_get_within}
use Rattle.std.proofs.lemmas.Slice.Eq.{bytes_eq-Decides}
use Rattle.common_lemmas.proofs.Truth.{and_false, false_behind, and_both, both_true}
use Rattle.common_lemmas.proofs.Lists.{all_weaker}
use Rattle.ada_tree.specs.Lexical.{IsIdentifier}
use Rattle.syn_event.specs.RuleReservedName.{has_mark, is_reserved}
use Rattle.syn_event.specs.declared.numbering.TaskInfo.{TaskInfo}
use Rattle.task_model.specs.Setting.{Setting}
use Rattle.normal_model.specs.Names.{index_text, variable_text, with_members, normal_names, variable_name, task_name}
use Rattle.normal_model.proofs.VariablesLemmas.{Begins}
use Rattle.normal_laws.proofs.structure.types.Names.{variables-begin, names-begin, variable-there}
use Rattle.task_laws.proofs.legal.rewritten_values.Saying.{place-within}
use Rattle.normal_laws.proofs.existence.units.TaskNames.{mark-there}
use Rattle.normal_laws.proofs.existence.units.TasksApart.{full_text, IsNamed}
use Rattle.normal_laws.proofs.legality.declares_once.Ids.{IsGoodId}
use Rattle.replay_structure.specs.declares_once.Names.{declared_texts, is_added_text}
use Rattle.replay_structure.proofs.declares_once.Ids.{IsOwn}
use Rattle.normal_laws.proofs.runs.forms.Names.{more-begin}

-- ---- texts

starts-front : (t a b : List ℕ) → starts_with nat_eq t (a ++ b) ≡ true → starts_with nat_eq t a ≡ true
starts-front [] [] b h = refl
starts-front (x ∷ t) [] b h = refl
starts-front [] (y ∷ a) b h = h
starts-front (x ∷ t) (y ∷ a) b h =
    let r = and_both (nat_eq y x) (starts_with nat_eq t (a ++ b)) h in
    both_true (nat_eq y x) (starts_with nat_eq t a) r.0 (starts-front t a b r.1)

-- a text that passes a test that these texts fail is none of them
other-text : (f : List ℕ → Bool) (t u : List ℕ) → f u ≡ true → f t ≡ false → bytes_eq t u ≡ false
other-text f t u p q = by_test (bytes_eq t u) refl
  where
    by_test : (b : Bool) → bytes_eq t u ≡ b → b ≡ false
    by_test false e = refl
    by_test true e = absurd (true≢false (sym p ∙ ap f (sym ((bytes_eq-Decides t u).0 e)) ∙ q))

-- none of these is the text
pub none-equal : (t : List ℕ) (us : List (List ℕ)) → AllByRecursion (λ u. bytes_eq t u ≡ false) us → list_any (bytes_eq t) us ≡ false
none-equal t [] h = refl
none-equal t (u ∷ us) h = or_from (bytes_eq t u) (list_any (bytes_eq t) us) h.0 (none-equal t us h.1)

none-added : (t : List ℕ) → AllByRecursion (λ u. bytes_eq t u ≡ false) declared_texts → starts_with nat_eq t (codes "DED_S_") ≡ false → is_added_text t ≡ false
none-added t h s = or_from (list_any (bytes_eq t) declared_texts) (starts_with nat_eq t (codes "DED_S_")) (none-equal t declared_texts h) s

abbrev pub begins_ded : List ℕ → Bool
begins_ded t = starts_with nat_eq t (codes "DED_")

pub no-ded : (t : List ℕ) → is_reserved t ≡ false → begins_ded t ≡ false
no-ded t h = by_test (begins_ded t) h
  where
    by_test : (b : Bool) → (b || (has_mark t || bytes_eq t (codes "DED"))) ≡ false → b ≡ false
    by_test false e = refl
    by_test true e = absurd (true≢false e)

-- a text of an original
pub original-text : (t : List ℕ) → is_reserved t ≡ false → is_added_text t ≡ false
original-text t h =
    let n : begins_ded t ≡ false = no-ded t h in
    none-added t (all_weaker (λ u. begins_ded u ≡ true) (λ u. bytes_eq t u ≡ false) declared_texts (λ u e. other-text begins_ded t u e n) all_begin) (by_test (starts_with nat_eq t (codes "DED_S_")) refl n)
  where
    all_begin : AllByRecursion (λ u. begins_ded u ≡ true) declared_texts
    all_begin = (refl, (refl, (refl, (refl, (refl, (refl, (refl, (refl, (refl, (refl, (refl, (refl, (refl, tt)))))))))))))

    by_test : (b : Bool) → starts_with nat_eq t (codes "DED_S_") ≡ b → begins_ded t ≡ false → b ≡ false
    by_test false e n = refl
    by_test true e n = absurd (true≢false (sym (starts-front t (codes "DED_") (codes "S_") e) ∙ n))

-- the text of a variable
pub variable-text : (k : ℕ) → is_added_text (variable_text k) ≡ false
variable-text k =
    none-added (variable_text k) (all_weaker (λ (u : List ℕ). starts_with nat_eq u (codes "DED_V") ≡ false) (λ u. bytes_eq (variable_text k) u ≡ false) declared_texts differs none_begins) refl
  where
    none_begins : AllByRecursion (λ (u : List ℕ). starts_with nat_eq u (codes "DED_V") ≡ false) declared_texts
    none_begins = (refl, (refl, (refl, (refl, (refl, (refl, (refl, (refl, (refl, (refl, (refl, (refl, (refl, tt)))))))))))))

    differs : (u : List ℕ) → starts_with nat_eq u (codes "DED_V") ≡ false → bytes_eq (variable_text k) u ≡ false
    differs u n = by_test (bytes_eq (variable_text k) u) refl
      where
        by_test : (b : Bool) → bytes_eq (variable_text k) u ≡ b → b ≡ false
        by_test false e = refl
        by_test true e = absurd (true≢false (ap (λ (t : List ℕ). starts_with nat_eq t (codes "DED_V")) ((bytes_eq-Decides (variable_text k) u).0 e) ∙ n))

-- the text of a member of an array
pub marked-text : (t u : List ℕ) → begins_ded t ≡ false → is_added_text (t ++ (codes "_DED_" ++ u)) ≡ false
marked-text t u n =
    let m : List ℕ = t ++ (codes "_DED_" ++ u) in
    none-added m (all_weaker (λ v. has_mark v ≡ false) (λ v. bytes_eq m v ≡ false) declared_texts differs none_marked) (front t n)
  where
    none_marked : AllByRecursion (λ v. has_mark v ≡ false) declared_texts
    none_marked = (refl, (refl, (refl, (refl, (refl, (refl, (refl, (refl, (refl, (refl, (refl, (refl, (refl, tt)))))))))))))

    differs : (v : List ℕ) → has_mark v ≡ false → bytes_eq (t ++ (codes "_DED_" ++ u)) v ≡ false
    differs v k = by_test (bytes_eq (t ++ (codes "_DED_" ++ u)) v) refl
      where
        by_test : (b : Bool) → bytes_eq (t ++ (codes "_DED_" ++ u)) v ≡ b → b ≡ false
        by_test false e = refl
        by_test true e = absurd (true≢false (sym (mark-there t u) ∙ ap has_mark ((bytes_eq-Decides (t ++ (codes "_DED_" ++ u)) v).0 e) ∙ k))

    -- DED_S_ stands not in front
    front : (x : List ℕ) → begins_ded x ≡ false → starts_with nat_eq (x ++ (codes "_DED_" ++ u)) (codes "DED_S_") ≡ false
    front [] k = refl
    front (a ∷ []) k = and_false (nat_eq 68 a)
    front (a ∷ b ∷ []) k = false_behind (nat_eq 68 a) _ (and_false (nat_eq 69 b))
    front (a ∷ b ∷ c ∷ []) k = false_behind (nat_eq 68 a) _ (false_behind (nat_eq 69 b) _ (and_false (nat_eq 68 c)))
    front (a ∷ b ∷ c ∷ d ∷ x) k = by_test (starts_with nat_eq (a ∷ b ∷ c ∷ d ∷ (x ++ (codes "_DED_" ++ u))) (codes "DED_S_")) refl
      where
        by_test : (e : Bool) → starts_with nat_eq (a ∷ b ∷ c ∷ d ∷ (x ++ (codes "_DED_" ++ u))) (codes "DED_S_") ≡ e → e ≡ false
        by_test false e = refl
        by_test true e = absurd (true≢false (sym (starts-front (a ∷ b ∷ c ∷ d ∷ (x ++ (codes "_DED_" ++ u))) (codes "DED_") (codes "S_") e) ∙ k))

-- ---- ids in the normal form

module _ (g : Setting) (count : ℕ) where
  abbrev names : List (List ℕ)
  names = g.program.names

  abbrev all : List (List ℕ)
  all = normal_names g count

  own-by : (ts : List (List ℕ)) → Begins ts all → (x : ℕ) (t : List ℕ) → slice_get ts x ≡ Some t → is_added_text t ≡ false → IsOwn all x
  own-by ts b x t e n =
      let there : slice_get all x ≡ Some t = ap (λ (l : List (List ℕ)). slice_get l x) b.joined ∙ place-within ts b.more x (slice_get_within ts x t e) ∙ e in
      subst (λ (o : Option (List ℕ)). IsSomeAnd o (λ s. is_added_text s ≡ false)) (sym there) n

  pub good-own : (x : ℕ) → IsGoodId names x → IsOwn all x
  good-own x good = by_place (slice_get names x) refl good.there
    where
      by_place : (o : Option (List ℕ)) → slice_get names x ≡ o → IsSomeAnd o IsIdentifier → IsOwn all x
      by_place None e k = absurd k
      by_place (Some t) e k = own-by names (names-begin g count) x t e (original-text t (ap (λ (o : Option (List ℕ)). is_reserved (unwrap_or o [])) (sym e) ∙ good.free))

  pub variable-own : (k : ℕ) → k < count → IsOwn all (variable_name g k).0
  variable-own k l =
      let d : ℕ = count - suc k in
      let e : suc k + d ≡ count = omega (arith, l) in
      own-by (normal_names g (suc k)) (subst (λ n. Begins (normal_names g (suc k)) (normal_names g n)) e (more-begin (with_members g) (suc k) d)) (variable_name g k).0 (variable_text k) (variable-there g k).0 (variable-text k)

  pub task-own : (info : TaskInfo) → IsNamed g info → IsOwn all (task_name g info).0
  task-own info n = own-by (with_members g) (variables-begin (with_members g) count) (task_name g info).0 (full_text n.text info.member) n.found (by_member info.member)
    where
      by_member : (m : Option ℤ) → is_added_text (full_text n.text m) ≡ false
      by_member None = original-text n.text n.free
      by_member (Some i) = ap is_added_text (append_assoc n.text (codes "_DED_") (index_text i)) ∙ marked-text n.text (index_text i) (no-ded n.text n.free)

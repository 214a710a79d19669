-- The names of a normal form that its collecting text does not add: those of the program, its variables, and its tasks. They are kept there.
use Rattle.std.proofs.Common.{◌≡◌, ℕ, suc, ◌+◌, ◌<◌, ◌-◌, ℤ, ◌&&◌, not, Bool, true, false, List, [], ◌∷◌, ◌++◌, length, slice_get, unwrap_or, codes, Option, Some, None, IsSomeAnd, refl, sym, ap, ap₂, ◌∙◌, subst, true≢false, arith}
use Rattle.std.specs.List.{AllByRecursion, list_any}
use Rattle.std.specs.Str.{bytes_eq}
use Rattle.std.proofs.lemmas.Bool.{or_from}
use Rattle.std.proofs.lemmas.List.{append_assoc}
use Rattle.std.proofs.lemmas.Option.{slice_get_within}
use Rattle.std.proofs.lemmas.Slice.Eq.{bytes_eq-Decides}
use Rattle.common_lemmas.proofs.Numbers.{lt_true}
use Rattle.ada_tree.specs.Lexical.{IsIdentifier}
use Rattle.ada_tree.specs.declared.naming.NameId.{NameId}
use Rattle.ada_tree.specs.PlainProgram.{PProgram}
use Rattle.ada_static_rules.specs.Refusals.{types_in}
use Rattle.syn_event.specs.RuleReservedName.{has_mark, is_reserved}
use Rattle.syn_event.specs.declared.numbering.TaskInfo.{TaskInfo}
use Rattle.syn_event.specs.DeclaredTasks.{text_of}
use Rattle.task_model.specs.Setting.{Setting}
use Rattle.normal_model.specs.Names.{index_text, variable_text, with_members, normal_names, variable_name, task_name}
use Rattle.normal_model.specs.NormalTree.{variables_needed}
use Rattle.normal_model.proofs.VariablesLemmas.{Begins}
use Rattle.normal_laws.specs.structure.types.Own.{own_name}
use Rattle.normal_laws.proofs.structure.types.Names.{variables-begin, names-begin, variable-there}
use Rattle.normal_laws.proofs.structure.numbers.Named.{text-longer, own-within, own-not-added, begins-within}
use Rattle.normal_laws.proofs.structure.numbers.TaskNames.{normal-begins}
use Rattle.task_laws.proofs.legal.rewritten_values.Saying.{place-within}
use Rattle.normal_laws.specs.runs.forms.Normalisable.{numbers_of, setting_for, made_for}
use Rattle.normal_laws.proofs.runs.forms.Names.{more-begin}
use Rattle.normal_laws.proofs.existence.units.TaskNames.{mark-there}
use Rattle.normal_laws.proofs.existence.units.TasksApart.{full_text, IsNamed}
use Rattle.normal_laws.proofs.legality.declares_once.Ids.{IsGoodId}
use Rattle.collect_structure.specs.Names.{new_texts, IsOwn, kept_name}
use Rattle.replay_structure.proofs.declares_once.Texts.{begins_ded, no-ded}
use Rattle.replay_structure.proofs.legal.Keeping.{IsKeeping}

-- ---- texts

-- a text that passes no test that these pass is none of them
pub none-by : (f : List ℕ → Bool) (t : List ℕ) (us : List (List ℕ)) → AllByRecursion (λ u. f u ≡ true) us → f t ≡ false → list_any (bytes_eq t) us ≡ false
none-by f t [] i n = refl
none-by f t (u ∷ us) i n = or_from (bytes_eq t u) (list_any (bytes_eq t) us) (by_test (bytes_eq t u) refl) (none-by f t us i.1 n)
  where
    by_test : (b : Bool) → bytes_eq t u ≡ b → b ≡ false
    by_test false e = refl
    by_test true e = absurd (true≢false (sym i.0 ∙ ap f (sym ((bytes_eq-Decides t u).0 e)) ∙ n))

-- a text that does not begin with DED_
pub plain-text : (t : List ℕ) → begins_ded t ≡ false → list_any (bytes_eq t) new_texts ≡ false
plain-text t n = none-by begins_ded t new_texts (refl, (refl, (refl, (refl, (refl, (refl, (refl, (refl, (refl, (refl, (refl, (refl, (refl, (refl, tt)))))))))))))) n

-- a text of an original
original-text : (t : List ℕ) → is_reserved t ≡ false → list_any (bytes_eq t) new_texts ≡ false
original-text t h = plain-text t (no-ded t h)

-- the text of a variable
variable-text : (k : ℕ) → list_any (bytes_eq (variable_text k)) new_texts ≡ false
variable-text k = refl

-- the text of a member of an array
marked-text : (t u : List ℕ) → list_any (bytes_eq (t ++ (codes "_DED_" ++ u))) new_texts ≡ false
marked-text t u = none-by (λ x. not (has_mark x)) (t ++ (codes "_DED_" ++ u)) new_texts (refl, (refl, (refl, (refl, (refl, (refl, (refl, (refl, (refl, (refl, (refl, (refl, (refl, (refl, tt)))))))))))))) (ap not (mark-there t u))

-- ---- ids in the normal form

module _ (g : Setting) (count : ℕ) where
  abbrev names : List (List ℕ)
  names = g.program.names

  abbrev all : List (List ℕ)
  all = normal_names g count

  -- What holds of each text that is not reserved, of those of variables and of those of members holds of the text of each such name.
  module _ (P : List ℕ → Type 0) where
    text-by : (ts : List (List ℕ)) → Begins ts all → (x : ℕ) (t : List ℕ) → slice_get ts x ≡ Some t → P t → IsSomeAnd (slice_get all x) P
    text-by ts b x t e n =
        let there : slice_get all x ≡ Some t = ap (λ (l : List (List ℕ)). slice_get l x) b.joined ∙ place-within ts b.more x (slice_get_within ts x t e) ∙ e in
        subst (λ (o : Option (List ℕ)). IsSomeAnd o P) (sym there) n

    pub good-text : ((t : List ℕ) → is_reserved t ≡ false → P t) → (x : ℕ) → IsGoodId names x → IsSomeAnd (slice_get all x) P
    good-text own x good = by_place (slice_get names x) refl good.there
      where
        by_place : (o : Option (List ℕ)) → slice_get names x ≡ o → IsSomeAnd o IsIdentifier → IsSomeAnd (slice_get all x) P
        by_place None e k = absurd k
        by_place (Some t) e k = text-by names (names-begin g count) x t e (own t (ap (λ (o : Option (List ℕ)). is_reserved (unwrap_or o [])) (sym e) ∙ good.free))

    pub text-of-variable : ((k : ℕ) → P (variable_text k)) → (k : ℕ) → k < count → IsSomeAnd (slice_get all (variable_name g k).0) P
    text-of-variable own k l =
        let d : ℕ = count - suc k in
        let e : suc k + d ≡ count = omega (arith, l) in
        text-by (normal_names g (suc k)) (subst (λ n. Begins (normal_names g (suc k)) (normal_names g n)) e (more-begin (with_members g) (suc k) d))
        (variable_name g k).0 (variable_text k) (variable-there g k).0 (own k)

    pub text-of-task : ((t : List ℕ) → is_reserved t ≡ false → P t) → ((t u : List ℕ) → is_reserved t ≡ false → P (t ++ (codes "_DED_" ++ u))) →
        (info : TaskInfo) → IsNamed g info → IsSomeAnd (slice_get all (task_name g info).0) P
    text-of-task own member info n = text-by (with_members g) (variables-begin (with_members g) count) (task_name g info).0 (full_text n.text info.member) n.found (by_member info.member)
      where
        by_member : (m : Option ℤ) → P (full_text n.text m)
        by_member None = own n.text n.free
        by_member (Some i) = subst P (sym (append_assoc n.text (codes "_DED_") (index_text i))) (member n.text (index_text i) n.free)

  abbrev IsOther : List ℕ → Type 0
  IsOther t = list_any (bytes_eq t) new_texts ≡ false

  pub good-own : (x : ℕ) → IsGoodId names x → IsOwn all x
  good-own = good-text IsOther original-text

  pub variable-own : (k : ℕ) → k < count → IsOwn all (variable_name g k).0
  variable-own = text-of-variable IsOther variable-text

  pub task-own : (info : TaskInfo) → IsNamed g info → IsOwn all (task_name g info).0
  task-own = text-of-task IsOther original-text (λ t u f. marked-text t u)

-- ---- kept names

-- an own name is kept
pub own-is-kept : (q : PProgram) (x : ℕ) → IsOwn q.names x → kept_name q x ≡ true
own-is-kept q x o = by_place (slice_get q.names x) refl o
  where
    by_place : (s : Option (List ℕ)) → slice_get q.names x ≡ s → IsSomeAnd s (λ t. list_any (bytes_eq t) new_texts ≡ false) → kept_name q x ≡ true
    by_place None e k = absurd k
    by_place (Some t) e k =
        ap₂ (λ (a b : Bool). a && not b) (lt_true x (length q.names) (slice_get_within q.names x t e)) (ap (λ (s : Option (List ℕ)). list_any (bytes_eq (unwrap_or s [])) new_texts) e ∙ k)

-- the program's own names
pub own-kept : (p : PProgram) (k : ℕ) → own_name p k ≡ true → kept_name (made_for p) k ≡ true
own-kept p k h =
    let n : PProgram = made_for p in
    let id : NameId = record { 0 = k } in
    let l : k < length p.names = own-within p k h in
    let b : Begins p.names n.names = normal-begins p (types_in p) (numbers_of p) in
    ap₂ (λ (a c : Bool). a && not c) (lt_true k (length n.names) (begins-within p.names n.names k b l))
    (ap (λ t. list_any (bytes_eq t) new_texts) (text-longer p.names n.names id b l) ∙ plain-text (text_of p.names id) (own-not-added p id h))

-- Kept names are so.
pub kept-keeping : (p : PProgram) → IsKeeping p (kept_name (made_for p))
kept-keeping p =
    let g : Setting = setting_for p in
    let count : ℕ = variables_needed g in
    record {
      old = own-kept p;
      good = λ x k. own-is-kept (made_for p) x (good-own g count x k);
      variable = λ k l. own-is-kept (made_for p) (variable_name g k).0 (variable-own g count k l);
      task = λ info n. own-is-kept (made_for p) (task_name g info).0 (task-own g count info n);
    }

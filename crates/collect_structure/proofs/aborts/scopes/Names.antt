-- The names of a normal form that it does not add to the text are kept there: those of the program, its variables, and its tasks. No name that the text adds is a kept one.
use Rattle.std.proofs.Common.{◌≡◌, ℕ, ◌&&◌, not, nat_eq, Bool, true, false, ◌||◌, List, [], ◌∷◌, ◌++◌, get_or, slice_get, unwrap_or, codes, Option, Some, None, IsSomeAnd, refl, ap, ap₂, ◌∙◌, true≢false}
use Rattle.std.specs.List.{list_any, starts_with}
use Rattle.std.specs.Str.{bytes_eq}
use Rattle.ada_tree.specs.PlainProgram.{PProgram}
use Rattle.ada_static_rules.specs.Refusals.{types_in}
use Rattle.syn_event.specs.RuleReservedName.{has_mark, is_reserved}
use Rattle.syn_event.specs.DeclaredTasks.{text_of}
use Rattle.task_model.specs.Setting.{Setting}
use Rattle.normal_model.specs.Names.{variable_text, variable_name, task_name}
use Rattle.normal_model.specs.NormalTree.{variables_needed}
use Rattle.normal_laws.specs.structure.types.Own.{own_name}
use Rattle.normal_laws.specs.runs.forms.Normalisable.{numbers_of, setting_for, made_for}
use Rattle.normal_laws.proofs.structure.numbers.Named.{text-longer, own-within, own-not-added}
use Rattle.normal_laws.proofs.structure.numbers.TaskNames.{normal-begins}
use Rattle.collect_structure.proofs.kept.Names as plain
use Rattle.replay_structure.proofs.legal.Keeping.{IsKeeping}
use Rattle.collect_structure.specs.Names as collect
use Rattle.collect_structure.specs.aborts.Names.{is_further, kept_name}
use Rattle.common_lemmas.proofs.Truth.{and_false}

-- ---- texts

-- what does not begin with DED_ is none of these texts
not-begun : (t : List ℕ) → starts_with nat_eq t (codes "DED_") ≡ false → is_further t ≡ false
not-begun t e = ap (λ b. b && list_any (nat_eq (get_or t 4 0)) (codes "AUQR")) e

-- a text of an original does not
original-begins : (t : List ℕ) → is_reserved t ≡ false → starts_with nat_eq t (codes "DED_") ≡ false
original-begins t h = by_test (starts_with nat_eq t (codes "DED_")) h
  where
    by_test : (b : Bool) → (b || (has_mark t || bytes_eq t (codes "DED"))) ≡ false → b ≡ false
    by_test false e = refl
    by_test true e = absurd (true≢false e)

original-text : (t : List ℕ) → is_reserved t ≡ false → is_further t ≡ false
original-text t h = not-begun t (original-begins t h)

variable-further : (k : ℕ) → is_further (variable_text k) ≡ false
variable-further k = refl

-- the text of a member of an array
member-text : (t u : List ℕ) → is_reserved t ≡ false → is_further (t ++ (codes "_DED_" ++ u)) ≡ false
member-text [] u h = and_false (starts_with nat_eq (codes "_DED_" ++ u) (codes "DED_"))
member-text (a ∷ []) u h = and_false (starts_with nat_eq (a ∷ codes "_DED_" ++ u) (codes "DED_"))
member-text (a ∷ b ∷ []) u h = and_false (starts_with nat_eq (a ∷ b ∷ codes "_DED_" ++ u) (codes "DED_"))
member-text (a ∷ b ∷ c ∷ []) u h = and_false (starts_with nat_eq (a ∷ b ∷ c ∷ codes "_DED_" ++ u) (codes "DED_"))
member-text (a ∷ b ∷ c ∷ d ∷ t) u h = not-begun (a ∷ b ∷ c ∷ d ∷ t ++ (codes "_DED_" ++ u)) (original-begins (a ∷ b ∷ c ∷ d ∷ t) h)

-- ---- ids in the normal form

module _ (p : PProgram) where
  abbrev g : Setting
  g = setting_for p

  abbrev q : PProgram
  q = made_for p

  abbrev count : ℕ
  count = variables_needed g

  abbrev IsNone : List ℕ → Type 0
  IsNone t = is_further t ≡ false

  together : (x : ℕ) → collect.kept_name q x ≡ true → IsNone (text_of q.names record { 0 = x }) → kept_name q x ≡ true
  together x a b = ap₂ (λ (y z : Bool). y && not z) a b

  of-text : (x : ℕ) → IsSomeAnd (slice_get q.names x) IsNone → IsNone (text_of q.names record { 0 = x })
  of-text x h = by_place (slice_get q.names x) h
    where
      by_place : (o : Option (List ℕ)) → IsSomeAnd o IsNone → IsNone (unwrap_or o [])
      by_place None k = absurd k
      by_place (Some t) k = k

  -- the program's own names
  own-none : (x : ℕ) → own_name p x ≡ true → IsNone (text_of q.names record { 0 = x })
  own-none x o =
      ap is_further (text-longer p.names q.names record { 0 = x } (normal-begins p (types_in p) (numbers_of p)) (own-within p x o))
      ∙ not-begun (text_of p.names record { 0 = x }) (own-not-added p record { 0 = x } o)

  -- Kept names are so.
  pub kept-keeping : IsKeeping p (kept_name q)
  kept-keeping =
      let k = plain.kept-keeping p in
      record {
        old = λ x o. together x (k.old x o) (own-none x o);
        good = λ x i. together x (k.good x i) (of-text x (plain.good-text g count IsNone original-text x i));
        variable = λ n l. together (variable_name g n).0 (k.variable n l) (of-text (variable_name g n).0 (plain.text-of-variable g count IsNone variable-further n l));
        task = λ info i. together (task_name g info).0 (k.task info i) (of-text (task_name g info).0 (plain.text-of-task g count IsNone original-text member-text info i));
      }

-- Variables that are declared behind others have the subtypes of their declarations.
use Rattle.std.proofs.Common.{◌≡◌, ℕ, ◌+◌, ◌≤◌, List, [], ◌∷◌, ◌++◌, length, map, Option, Some, None, slice_get, refl, sym, ap, subst, ◌∙◌, arith, length-append}
use Rattle.std.proofs.lemmas.List.{append_assoc, append-nil}
use Rattle.ada_tree.specs.declared.naming.Span.{Span}
use Rattle.ada_tree.specs.PlainExpr.{PExpr, PSubind}
use Rattle.ada_tree.specs.PlainDecl.{PDecl}
use Rattle.normal_model.specs.Making.{kept_if}
use Rattle.normal_model.specs.Variables.{variable_declared, variables_declared}
use Rattle.task_laws.specs.translation.Translations.{Programs}
use Rattle.normal_laws.specs.runs.floors.Suited.{Rewritten}
use Rattle.normal_laws.specs.runs.floors.NormalLists.{Begin}
use Rattle.normal_laws.specs.runs.floors.Preludes.{Added}
use Rattle.normal_laws.specs.runs.floors.Declared.{AreDeclared, HaveSubtypes, no_subtype, subtype_then, dues_of}
use Rattle.common_lemmas.proofs.Lists.{seam_there}

module _ (w : Rewritten) (added : Added w.programs w.programs.original) (declared : AreDeclared w added) where
  pub declared-behind : (s : Span) (xs : List PSubind) (pre more : List PDecl) → w.vars ≡ (pre ++ variables_declared w.programs.original s xs (length pre)) ++ more →
      HaveSubtypes w.programs added xs (length pre)
  declared-behind s [] pre more e =
      let a : length w.vars ≡ length ((pre ++ []) ++ more) = ap length e in
      let b : length ((pre ++ []) ++ more) ≡ length (pre ++ []) + length more = length-append (pre ++ []) more in
      let c : length (pre ++ []) ≡ length pre = ap length (append-nil pre) in
      let d : added.count ≡ length w.vars = declared.count in
      no_subtype (length pre) (omega arith)
  declared-behind s (x ∷ xs) pre more e =
      let d : PDecl = variable_declared w.programs.original s x (length pre) in
      let rest : List PDecl = variables_declared w.programs.original s xs (length pre + 1) in
      let f : w.vars ≡ pre ++ d ∷ (rest ++ more) = e ∙ append_assoc pre (d ∷ rest) more in
      let a : length w.vars ≡ length (pre ++ d ∷ (rest ++ more)) = ap length f in
      let b : length (pre ++ d ∷ (rest ++ more)) ≡ length pre + length (d ∷ (rest ++ more)) = length-append pre (d ∷ (rest ++ more)) in
      let c : added.count ≡ length w.vars = declared.count in
      let l : length (pre ++ d ∷ []) ≡ length pre + 1 = length-append pre (d ∷ []) in
      subtype_then x xs (length pre) (omega arith)
      (declared.bounds (length pre) s x (ap (λ l1. slice_get l1 (length pre)) f ∙ seam_there pre d (rest ++ more)))
      (subst (λ k. HaveSubtypes w.programs added xs k) l
      (declared-behind s xs (pre ++ d ∷ []) more
      (f ∙ sym (append_assoc pre (d ∷ []) (rest ++ more)) ∙ sym (append_assoc (pre ++ d ∷ []) rest more)
      ∙ ap (λ k. ((pre ++ d ∷ []) ++ variables_declared w.programs.original s xs k) ++ more) (sym l))))

  -- variables that are made behind others, among the unit's first ones
  pub begun-subtypes : (s : Span) (xs : List PSubind) (pre : List PDecl) → Begin (pre ++ variables_declared w.programs.original s xs (length pre)) w.vars → HaveSubtypes w.programs added xs (length pre)
  begun-subtypes s xs pre b = declared-behind s xs pre b.0 b.1

module _ (b : Programs) (added : Added b b.original) where
  pub subtypes-fit : {xs : List PSubind} {k : ℕ} → HaveSubtypes b added xs k → k + length xs ≤ added.count
  subtypes-fit (no_subtype k l) = omega arith
  subtypes-fit (subtype_then x xs k l e h) = let m : (k + 1) + length xs ≤ added.count = subtypes-fit h in omega arith

  pub subtypes-first : (xs ys : List PSubind) (k : ℕ) → HaveSubtypes b added (xs ++ ys) k → HaveSubtypes b added xs k
  subtypes-first [] ys k h = let m : k + length ys ≤ added.count = subtypes-fit h in no_subtype k (omega arith)
  subtypes-first (x ∷ xs) ys k (subtype_then x1 l1 k1 l e h) = subtype_then x xs k l e (subtypes-first xs ys (k + 1) h)

  pub subtypes-second : (xs ys : List PSubind) (k : ℕ) → HaveSubtypes b added (xs ++ ys) k → HaveSubtypes b added ys (k + length xs)
  subtypes-second [] ys k h = let e : k ≡ k + 0 = omega arith in subst (HaveSubtypes b added ys) e h
  subtypes-second (x ∷ xs) ys k (subtype_then x1 l1 k1 l e h) =
      let f : (k + 1) + length xs ≡ k + length (x ∷ xs) = omega arith in subst (HaveSubtypes b added ys) f (subtypes-second xs ys (k + 1) h)

-- ---- values that are kept

pub kept-dues : (x : PSubind) (o : Option PExpr) → map (λ k. Some k.value) (kept_if x o) ≡ dues_of o
kept-dues x None = refl
kept-dues x (Some e) = refl

pub kept-length : (x : PSubind) (o : Option PExpr) → length (kept_if x o) ≡ length (dues_of o)
kept-length x None = refl
kept-length x (Some e) = refl

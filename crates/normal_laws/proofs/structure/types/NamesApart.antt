-- The names of a normal form as texts: none has two ids, and the predefined ones stay in front.
use Rattle.std.proofs.Common.{◌≡◌, ℕ, zero, suc, ◌+◌, ◌<◌, ◌≤◌, Bool, true, false, nat_lt, if◌then◌else◌, List, [], ◌∷◌, ◌++◌, length, take, drop, slice_get, Some, refl, sym, ap, ◌∙◌, length-append, arith}
use Rattle.std.specs.List.{list_any, fold}
use Rattle.std.specs.Str.{bytes_eq}
use Rattle.std.proofs.lemmas.Bool.{ltb-true, ltb-false}
use Rattle.std.proofs.lemmas.List.{append_assoc, take-append-drop}
use Rattle.std.proofs.lemmas.Option.{slice_get_within}
use Rattle.common_lemmas.proofs.Options.{some_same}
use Rattle.common_lemmas.proofs.Lists.{last_at}
use Rattle.ada_tree.specs.NameList.{predefined, interned}
use Rattle.ada_tree.proofs.Interning.{nowhere}
use Rattle.task_model.specs.Setting.{Setting}
use Rattle.normal_model.specs.Names.{member_texts, variable_text, with_members, with_variables, normal_names}
use Rattle.normal_model.proofs.VariablesLemmas.{Begins}
use Rattle.task_laws.proofs.legal.rewritten_values.Saying.{place-within}

-- ---- no text has two ids

abbrev pub IsApart : List (List ℕ) → Type 0
IsApart ts = (t : List ℕ) (i j : ℕ) → slice_get ts i ≡ Some t → slice_get ts j ≡ Some t → i ≡ j

-- where a text stands in a list with one more
record StandsIn (ts : List (List ℕ)) (new t : List ℕ) (i : ℕ) : Type 0 where
  within : i < length ts → slice_get ts i ≡ Some t
  last : length ts ≤ i → (i ≡ length ts) × (t ≡ new)

stands-in : (ts : List (List ℕ)) (new t : List ℕ) (i : ℕ) → slice_get (ts ++ new ∷ []) i ≡ Some t → StandsIn ts new t i
stands-in ts new t i e = record {
  within = λ l. sym (place-within ts (new ∷ []) i l) ∙ e;
  last = λ l.
      let w : i < length (ts ++ new ∷ []) = slice_get_within (ts ++ new ∷ []) i t e in
      let n : length (ts ++ new ∷ []) ≡ length ts + 1 = length-append ts (new ∷ []) in
      let k : i ≡ length ts = omega (arith, l, w, n) in
      (k, sym (some_same (sym (last_at ts new) ∙ ap (slice_get (ts ++ new ∷ [])) (sym k) ∙ e)));
}

interned-apart : (ts : List (List ℕ)) (t : List ℕ) → IsApart ts → IsApart (interned ts t)
interned-apart ts new a = by_test (list_any (bytes_eq new) ts) refl
  where
    by_test : (b : Bool) → list_any (bytes_eq new) ts ≡ b → IsApart (if b then ts else ts ++ new ∷ [])
    by_test true e t i j h k = a t i j h k
    by_test false e t i j h k = places (nat_lt i (length ts)) (nat_lt j (length ts)) refl refl
      where
        p : StandsIn ts new t i
        p = stands-in ts new t i h

        r : StandsIn ts new t j
        r = stands-in ts new t j k

        places : (b c : Bool) → nat_lt i (length ts) ≡ b → nat_lt j (length ts) ≡ c → i ≡ j
        places true true f g = a t i j (p.within (ltb-true i (length ts) f)) (r.within (ltb-true j (length ts) g))
        places true false f g =
            let w = p.within (ltb-true i (length ts) f) in
            let l = r.last (ltb-false j (length ts) g) in
            absurd (nowhere new ts i e (w ∙ ap Some l.1))
        places false true f g =
            let w = r.within (ltb-true j (length ts) g) in
            let l = p.last (ltb-false i (length ts) f) in
            absurd (nowhere new ts j e (w ∙ ap Some l.1))
        places false false f g = (p.last (ltb-false i (length ts) f)).0 ∙ sym (r.last (ltb-false j (length ts) g)).0

fold-apart : (new ts : List (List ℕ)) → IsApart ts → IsApart (fold interned ts new)
fold-apart [] ts a = a
fold-apart (t ∷ new) ts a = fold-apart new (interned ts t) (interned-apart ts t a)

variables-apart : (ts : List (List ℕ)) (n : ℕ) → IsApart ts → IsApart (with_variables ts n)
variables-apart ts zero a = a
variables-apart ts (suc n) a = interned-apart (with_variables ts n) (variable_text n) (variables-apart ts n a)

pub normal-apart : (g : Setting) (n : ℕ) → IsApart g.program.names → IsApart (normal_names g n)
normal-apart g n a = variables-apart (with_members g) n (fold-apart (member_texts g.program.names g.numbers.tasks) g.program.names a)

-- ---- the predefined names stay in front

pub front-kept : (names all : List (List ℕ)) → Begins names all → take (length predefined) names ≡ predefined → take (length predefined) all ≡ predefined
front-kept names all b e =
    let whole : names ≡ predefined ++ drop (length predefined) names = sym (take-append-drop (length predefined) names) ∙ ap (λ (l : List (List ℕ)). l ++ drop (length predefined) names) e in
    ap (take (length predefined)) (b.joined ∙ ap (λ (l : List (List ℕ)). l ++ b.more) whole ∙ append_assoc predefined (drop (length predefined) names) b.more)

-- Tasks told one after the other, each with what is seen of it.
use Rattle.std.proofs.Common.{◌≡◌, ℕ, zero, suc, ◌+◌, ◌<◌, ◌≤◌, List, [], ◌∷◌, ◌++◌, All, Option, Result, Ok, Err, length, take, drop, get_or, refl, sym, ap, ◌∙◌, subst, arith, add-one, append_assoc, inl, inr}
use Rattle.std.specs.Prelude.{Contains}
use Rattle.std.proofs.lemmas.Bool.{cases_eq}
use Rattle.std.proofs.lemmas.List.Elements.{All-contains, Contains-push, Contains-append_left}
use Rattle.std.proofs.lemmas.List.{take_more}
use Rattle.std.proofs.Math.Seq.{split_at}
use Rattle.ded_io.specs.Written.{◌⧺◌, each_text, Wrote}
use Rattle.ded_io.proofs.Members.{each_text-append, each_text-one}
use Rattle.ded_io.proofs.Writes.{wrote_all, wrote_none, wrote_then, wrote_stop}
use Rattle.task_model.specs.Machine.{Tasks}
use Rattle.task_machine.specs.Conditions.{tasks_to}
use Rattle.task_machine.specs.Views as view
use Rattle.feasible.specs.declared.showing.TaskView.{TaskView}
use Rattle.feasible.specs.declared.showing.TaskView.TheVariants.{Closed, Busy, At}
use Rattle.feasible.specs.Keeping.{IsSettled}
use Rattle.feasible.specs.Shown.{Shows}
use Rattle.divergence.specs.inner.Below.{tasks_below}
use Rattle.divergence.specs.inner.Shown.{shown_lines}
use Rattle.divergence.specs.ViewText.{offer_lines, view_lines}

-- what is shown of a view has the lines of that view
shown_is : (v : view.View) (shown : TaskView) → Shows v shown → shown_lines shown ≡ view_lines v
shown_is view.Completed shown e = ap shown_lines e
shown_is view.Abnormal shown e = ap shown_lines e
shown_is view.Busy shown e = ap shown_lines e
shown_is (view.At offer) Closed e = absurd e
shown_is (view.At offer) Busy e = absurd e
shown_is (view.At offer) (At shown) e = ap offer_lines e

pub wrote_seen : (A E : Type 0) (r : Result A E) (old new : Option (List ℕ)) (v : view.View) (shown : TaskView) → Wrote r old new (shown_lines shown) → Shows v shown → Wrote r old new (view_lines v)
wrote_seen A E r old new v shown wrote shows =
    let P : List ℕ → Type 0 = λ t. Wrote r old new t in subst P (shown_is v shown shows) wrote

pub ruleset seen = (wrote_seen)

-- a task up to the last is one of them
contains_to : (n t : ℕ) → t ≤ n → Contains (tasks_to n) t
contains_to zero zero le = Contains-push [] 0
contains_to zero (suc t) le = absurd (omega arith)
contains_to (suc n) t le = elim (cases_eq t (suc n)) [
  | inl e ↦ (let P : ℕ → Type 0 = λ u. Contains (tasks_to (suc n)) u in subst P (sym e) (Contains-push (tasks_to n) (suc n)))
  | inr other ↦ Contains-append_left (tasks_to n) (suc n ∷ []) t (contains_to n t (omega arith))
]

pub settled_at : (tasks : Tasks) (n t : ℕ) → All (IsSettled tasks) (tasks_to n) → t ≤ n → IsSettled tasks t
settled_at tasks n t all le = All-contains (IsSettled tasks) (tasks_to n) t all (contains_to n t le)

-- all tasks are those before the last, and the last
pub tasks_to-last : (n : ℕ) → tasks_to n ≡ tasks_below n ++ n ∷ []
tasks_to-last zero = refl
tasks_to-last (suc n) = ap (λ ts. ts ++ suc n ∷ []) (tasks_to-last n)

-- the tasks before another one come first
below_split : (n t : ℕ) → t < n → (rest : List ℕ) × (tasks_below n ≡ tasks_below t ++ t ∷ rest)
below_split zero t less = absurd (omega arith)
below_split (suc n) t less = elim (cases_eq t n) [
  | inl e ↦ ([], ap (λ u. tasks_below u ++ u ∷ []) (sym e))
  | inr other ↦
      (let before = below_split n t (omega arith) in
      (before.0 ++ n ∷ [], ap (λ ts. ts ++ n ∷ []) before.1 ∙ append_assoc (tasks_below t) (t ∷ before.0) (n ∷ [])))
]

text-next : (text : ℕ → List ℕ) (t : ℕ) → each_text text (tasks_below (t + 1)) ≡ each_text text (tasks_below t) ⧺ text t
text-next text t =
    ap (λ n. each_text text (tasks_below n)) (add-one t)
    ∙ each_text-append ℕ text (tasks_below t) (t ∷ [])
    ∙ ap (λ s. each_text text (tasks_below t) ⧺ s) (each_text-one ℕ text t)

-- one more task is told
pub told_next : (A B C E F G : Type 0) (text : ℕ → List ℕ) (t : ℕ) (x : A) (y : B) (z : C) (old mid new : Option (List ℕ)) → Wrote {E = E} (Ok x) old mid (each_text text (tasks_below t)) → Wrote {E = F} (Ok y) mid new (text t) → Wrote {E = G} (Ok z) old new (each_text text (tasks_below (t + 1)))
told_next A B C E F G text t x y z old mid new done turn =
    let both : Wrote {E = G} (Ok z) old new (each_text text (tasks_below t) ⧺ text t)
    = wrote_all B C F G y z old new _ (wrote_then A B E F x (Ok y) old mid new _ (text t) done turn)
    in
    let P : List ℕ → Type 0 = λ s. Wrote {E = G} (Ok z) old new s in
    subst P (sym (text-next text t)) both

-- a task could not be told whole
pub told_stop : (A B C E F G : Type 0) (text : ℕ → List ℕ) (n t : ℕ) (x : A) (y : F) (z : G) (old mid new : Option (List ℕ)) → t < n → Wrote {E = E} (Ok x) old mid (each_text text (tasks_below t)) → Wrote {A = B} (Err y) mid new (text t) → Wrote {A = C} (Err z) old new (each_text text (tasks_below n))
told_stop A B C E F G text n t x y z old mid new less done turn =
    let parts = below_split n t less in
    let rest : List ℕ = each_text text parts.0 in
    let both : Wrote {A = C} (Err z) old new (each_text text (tasks_below t) ⧺ (text t ⧺ rest))
    = wrote_then A C E G x (Err z) old mid new _ (text t ⧺ rest) done (wrote_stop B C F G y z mid new (text t) rest turn)
    in
    let P : List ℕ → Type 0 = λ s. Wrote {A = C} (Err z) old new s in
    subst P (sym (ap (each_text text) parts.1 ∙ each_text-append ℕ text (tasks_below t) (t ∷ parts.0))) both

-- nothing is told yet, and all before the last are
pub told_none : (A E : Type 0) (x : A) (text : ℕ → List ℕ) (old : Option (List ℕ)) → Wrote {E = E} (Ok x) old old (each_text text (tasks_below 0))
told_none A E x text old = wrote_none A E x old

pub told_all : (A B E F : Type 0) (text : ℕ → List ℕ) (n t : ℕ) (x : A) (y : B) (old new : Option (List ℕ)) → t ≡ n → Wrote {E = E} (Ok x) old new (each_text text (tasks_below t)) → Wrote {E = F} (Ok y) old new (each_text text (tasks_below n))
told_all A B E F text n t x y old new e done =
    let P : ℕ → Type 0 = λ k. Wrote {E = F} (Ok y) old new (each_text text (tasks_below k)) in
    subst P e (wrote_all A B E F x y old new _ done)

-- the last is told behind those before it
pub told_last : (A E : Type 0) (r : Result A E) (text : ℕ → List ℕ) (n : ℕ) (old new : Option (List ℕ)) → Wrote r old new (each_text text (tasks_below n) ⧺ text n) → Wrote r old new (each_text text (tasks_to n))
told_last A E r text n old new wrote =
    let P : List ℕ → Type 0 = λ s. Wrote r old new s in
    subst P
    (sym (ap (each_text text) (tasks_to-last n)
    ∙ each_text-append ℕ text (tasks_below n) (n ∷ [])
    ∙ ap (λ s. each_text text (tasks_below n) ⧺ s) (each_text-one ℕ text n)))
    wrote

pub ruleset telling = (told_none, told_next, told_stop, told_all, told_last)

-- one more member of a list is told, or could not be told whole
pub listed_next : (X A B C E F G : Type 0) (text : X → List ℕ) (xs : List X) (i : ℕ) (d : X) (x : A) (y : B) (z : C) (old mid new : Option (List ℕ)) → i < length xs → Wrote {E = E} (Ok x) old mid (each_text text (take i xs)) → Wrote {E = F} (Ok y) mid new (text (get_or xs i d)) → Wrote {E = G} (Ok z) old new (each_text text (take (i + 1) xs))
listed_next X A B C E F G text xs i d x y z old mid new within done turn =
    let both : Wrote {E = G} (Ok z) old new (each_text text (take i xs) ⧺ text (get_or xs i d))
    = wrote_all B C F G y z old new _ (wrote_then A B E F x (Ok y) old mid new _ (text (get_or xs i d)) done turn)
    in
    let P : List ℕ → Type 0 = λ s. Wrote {E = G} (Ok z) old new s in
    subst P
    (sym (ap (each_text text) (take_more xs i d within)
    ∙ each_text-append X text (take i xs) (get_or xs i d ∷ [])
    ∙ ap (λ s. each_text text (take i xs) ⧺ s) (each_text-one X text (get_or xs i d))))
    both

pub listed_stop : (X A B C E F G : Type 0) (text : X → List ℕ) (xs : List X) (i : ℕ) (d : X) (x : A) (y : F) (z : G) (old mid new : Option (List ℕ)) → i < length xs → Wrote {E = E} (Ok x) old mid (each_text text (take i xs)) → Wrote {A = B} (Err y) mid new (text (get_or xs i d)) → Wrote {A = C} (Err z) old new (each_text text xs)
listed_stop X A B C E F G text xs i d x y z old mid new within done turn =
    let rest : List ℕ = each_text text (drop (i + 1) xs) in
    let both : Wrote {A = C} (Err z) old new (each_text text (take i xs) ⧺ (text (get_or xs i d) ⧺ rest))
    = wrote_then A C E G x (Err z) old mid new _ (text (get_or xs i d) ⧺ rest) done (wrote_stop B C F G y z mid new (text (get_or xs i d)) rest turn)
    in
    let P : List ℕ → Type 0 = λ s. Wrote {A = C} (Err z) old new s in
    let parts : xs ≡ take i xs ++ (get_or xs i d ∷ drop (i + 1) xs) = split_at xs i d within ∙ ap (λ n. take i xs ++ (get_or xs i d ∷ drop n xs)) (sym (add-one i)) in
    subst P (sym (ap (each_text text) parts ∙ each_text-append X text (take i xs) (get_or xs i d ∷ drop (i + 1) xs))) both

-- Lists that grow by the elements that pass a test.
use Rattle.std.proofs.Common.{◌≡◌, ℕ, ◌+◌, Bool, List, [], ◌∷◌, ◌++◌, filter, take, ap, sym, ◌∙◌, add-one, append_assoc, refl, Option, Some, None}
use Rattle.std.specs.Prelude.{option_to_list}
use Rattle.std.specs.List.{filter_map}
use Rattle.std.proofs.lemmas.List.Elements.{filter-append, filter_map-append}
use Rattle.event_machine.specs.declared.Action.{Action}
use Rattle.event_machine.specs.States.{Seen}
use Rattle.event_machine.specs.Applying.{actions_of, actions_below}
use Rattle.task_model.specs.Tasks.{Task}
use Rattle.task_model.specs.TaskOps.{task_ops}

-- two pieces, one after the other
pub filter_two : {A : Type 0} (p : A → Bool) (old mid new xs ys : List A) → mid ≡ old ++ filter p xs → new ≡ mid ++ filter p ys → new ≡ old ++ filter p (xs ++ ys)
filter_two p old mid new xs ys e f =
    f
    ∙ ap (λ zs. zs ++ filter p ys) e
    ∙ append_assoc old (filter p xs) (filter p ys)
    ∙ ap (λ zs. old ++ zs) (sym (filter-append p xs ys))

-- three pieces
pub filter_three : {A : Type 0} (p : A → Bool) (old mid next new xs ys zs : List A) → mid ≡ old ++ filter p xs → next ≡ mid ++ filter p ys → new ≡ next ++ filter p zs → new ≡ old ++ filter p (xs ++ (ys ++ zs))
filter_three p old mid next new xs ys zs e f g =
    filter_two p old mid new xs (ys ++ zs) e (filter_two p mid next new ys zs f g)

filter_map_one : {A B : Type 0} (h : A → Option B) (o : Option B) (x : A) → h x ≡ o → filter_map h (x ∷ []) ≡ option_to_list (h x)
filter_map_one h None x e = rw e refl
filter_map_one h (Some y) x e = rw e refl

-- one more element whose image is listed
pub filter_map_more : {A B : Type 0} (p : B → Bool) (h : A → Option B) (old mid new : List B) (xs : List A) (i : ℕ) (x : A) →
    take (i + 1) xs ≡ take i xs ++ x ∷ [] → mid ≡ old ++ filter p (filter_map h (take i xs)) → new ≡ mid ++ filter p (option_to_list (h x)) →
    new ≡ old ++ filter p (filter_map h (take (i + 1) xs))
filter_map_more p h old mid new xs i x t e f =
    filter_two p old mid new (filter_map h (take i xs)) (option_to_list (h x)) e f
    ∙ ap (λ zs. old ++ filter p zs)
    (ap (λ ys. filter_map h (take i xs) ++ ys) (sym (filter_map_one h (h x) x refl))
    ∙ sym (filter_map-append h (take i xs) (x ∷ []))
    ∙ ap (λ ys. filter_map h ys) (sym t))

-- the actions of one more task
pub actions_more : (p : Action → Bool) (s : Seen Task) (old mid new : List Action) (t : ℕ) → mid ≡ old ++ filter p (actions_below task_ops s t) → new ≡ mid ++ filter p (actions_of task_ops s t) →
    new ≡ old ++ filter p (actions_below task_ops s (t + 1))
actions_more p s old mid new t e f =
    filter_two p old mid new (actions_below task_ops s t) (actions_of task_ops s t) e f
    ∙ ap (λ n. old ++ filter p (actions_below task_ops s n)) (sym (add-one t))

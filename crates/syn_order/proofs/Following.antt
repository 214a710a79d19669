-- Events followed one by one.
use Rattle.std.proofs.Common.{◌≡◌, ℕ, ◌+◌, ◌-◌, ◌<◌, Bool, true, false, if◌then◌else◌, List, [], ◌∷◌, ◌++◌, length, get_or, take, refl, sym, ap, ◌∙◌, subst, true≢false, arith}
use Rattle.std.proofs.lemmas.List.{take_more}
use Rattle.event_machine.specs.declared.Event.{Event}
use Rattle.event_machine.specs.progress.Known.{Known, known_at_start, known, known_from, admits, advanced, touches}
use Rattle.event_machine.proofs.progress.Moves.{known_last}
use Rattle.event_machine.proofs.progress.Parties.{idle_length}
use Rattle.control_script.proofs.Writing.{as_many}
use Rattle.syn_order.specs.Orders.{AreAdmitted, split}
use Rattle.syn_order.specs.Refusals.{IsFirstRefused}

-- ---- one event more

pub admitted_last : (owner : ℕ → ℕ) (k : Known) (xs : List Event) (e : Event) → AreAdmitted owner k xs → admits owner (known_from owner k xs) e ≡ true → AreAdmitted owner k (xs ++ e ∷ [])
admitted_last owner k [] e a h = (h, tt)
admitted_last owner k (x ∷ xs) e a h = (a.0, admitted_last owner (advanced owner k x) xs e a.1 h)

refused_last : (owner : ℕ → ℕ) (k : Known) (xs : List Event) (e : Event) → admits owner (known_from owner k xs) e ≡ false → AreAdmitted owner k (xs ++ e ∷ []) → ⊥
refused_last owner k [] e h a = true≢false (sym a.0 ∙ h)
refused_last owner k (x ∷ xs) e h a = refused_last owner (advanced owner k x) xs e h a.1

pub split_last : (owner : ℕ → ℕ) (k : Known) (xs : List Event) (e : Event) (t : ℕ) →
    split owner k (xs ++ e ∷ []) t ≡ split owner k xs t ++ (if touches owner (known_from owner k xs) e t then e ∷ [] else [])
split_last owner k [] e t = refl
split_last owner k (x ∷ xs) e t = ap (λ zs. if touches owner k x t then x ∷ zs else zs) (split_last owner (advanced owner k x) xs e t) ∙ go (touches owner k x t)
  where
    go : (b : Bool) → (if b then x ∷ (split owner (advanced owner k x) xs t ++ (if touches owner (known_from owner (advanced owner k x) xs) e t then e ∷ [] else []))
        else (split owner (advanced owner k x) xs t ++ (if touches owner (known_from owner (advanced owner k x) xs) e t then e ∷ [] else []))) ≡
        (if b then x ∷ split owner (advanced owner k x) xs t else split owner (advanced owner k x) xs t) ++ (if touches owner (known_from owner (advanced owner k x) xs) e t then e ∷ [] else [])
    go true = refl
    go false = refl

-- ---- one place further in a list of events

module _ (owner : ℕ → ℕ) (n : ℕ) (events : List Event) (i : ℕ) (d : Event) (within : i < length events) (k : Known) (is_known : k ≡ known owner n (take i events))
    (before : AreAdmitted owner (known_at_start n) (take i events)) where
  next : take (i + 1) events ≡ take i events ++ get_or events i d ∷ []
  next = take_more events i d within

  pub admitted_further : admits owner k (get_or events i d) ≡ true → AreAdmitted owner (known_at_start n) (take (i + 1) events)
  admitted_further h = subst (AreAdmitted owner (known_at_start n)) (sym next)
      (admitted_last owner (known_at_start n) (take i events) (get_or events i d) before (ap (λ m. admits owner m (get_or events i d)) (sym is_known) ∙ h))

  pub known_further : (m : Known) → m ≡ advanced owner k (get_or events i d) → m ≡ known owner n (take (i + 1) events)
  known_further m h =
      h ∙ ap (λ v. advanced owner v (get_or events i d)) is_known
      ∙ sym (ap (known_from owner (known_at_start n)) next ∙ known_last owner (known_at_start n) (take i events) (get_or events i d))

  pub refused_there : admits owner k (get_or events i d) ≡ false → IsFirstRefused owner n events (i + 1)
  refused_there h = record {
    from_one = omega arith;
    within = omega (arith, within);
    before = subst (λ j. AreAdmitted owner (known_at_start n) (take j events)) same before;
    refused = λ a. refused_last owner (known_at_start n) (take i events) (get_or events i d) (ap (λ m. admits owner m (get_or events i d)) (sym is_known) ∙ h)
        (subst (AreAdmitted owner (known_at_start n)) next a);
  }
    where
      same : i ≡ i + 1 - 1
      same = omega arith

-- as many tasks are known as before
pub known_length : (owner : ℕ → ℕ) (k : Known) (xs : List Event) → length (known_from owner k xs).parties ≡ length k.parties
known_length owner k [] = refl
known_length owner k (x ∷ xs) = known_length owner (advanced owner k x) xs ∙ as_many owner k x

pub known_tasks : (owner : ℕ → ℕ) (n : ℕ) (xs : List Event) (k : Known) → k ≡ known owner n xs → length k.parties ≡ n
known_tasks owner n xs k q = ap (λ (m : Known). length m.parties) q ∙ known_length owner (known_at_start n) xs ∙ idle_length n

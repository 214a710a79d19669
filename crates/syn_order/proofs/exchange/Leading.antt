-- Lists that are alike lead to the same bases, by the very same steps.
use Rattle.std.proofs.Common.{◌≡◌, ℕ, Bool, true, List, [], ◌∷◌, ◌++◌, refl, sym, subst}
use Rattle.event_machine.specs.declared.Event.{Event}
use Rattle.event_machine.specs.Lawful.{IsLawful}
use Rattle.event_machine.specs.Programs.{Program}
use Rattle.event_machine.specs.Worlds.{World}
use Rattle.event_machine.specs.Settling.{Leads}
use Rattle.event_machine.specs.progress.Known.{Known, advanced, known_from}
use Rattle.event_machine.proofs.Bases.{IsBase, base_fires}
use Rattle.event_machine.proofs.progress.Telling.{Tells}
use Rattle.syn_order.specs.Apart.{AreAlike, same, first_same, exchanged, further}
use Rattle.syn_order.specs.exchange.Steps.{LeadsBy}
use Rattle.syn_order.proofs.Apart.{apart_turned}
use Rattle.syn_order.proofs.exchange.Swapping.{tells_fires, between, f_first, e_second, f_steps, e_steps}

-- ---- lists that are alike

module _ (owner : ℕ → ℕ) (n : ℕ) where
  pub alike_turned : (k : Known) (xs ys : List Event) → AreAlike owner n k xs ys → AreAlike owner n k ys xs
  alike_turned m us vs (same k events) = same k events
  alike_turned m us vs (first_same k e xs ys alike) = first_same k e ys xs (alike_turned (advanced owner k e) xs ys alike)
  alike_turned m us vs (exchanged k e f events apart) = exchanged k f e events (apart_turned owner n k e f apart)
  alike_turned m us vs (further k xs zs ys a b) = further k ys zs xs (alike_turned k zs ys b) (alike_turned k xs zs a)

  -- behind the same events
  pub alike_behind : (k : Known) (before xs ys : List Event) → AreAlike owner n (known_from owner k before) xs ys → AreAlike owner n k (before ++ xs) (before ++ ys)
  alike_behind k [] xs ys alike = alike
  alike_behind k (e ∷ before) xs ys alike = first_same k e (before ++ xs) (before ++ ys) (alike_behind (advanced owner k e) before xs ys alike)

module _ {L : Type 0} (p : Program L) where
  -- ---- with a test, and without one

  pub leads_any : (test : Event → ℕ → ℕ → Bool) (events : List Event) (w last : World L) → LeadsBy test p w events last → Leads p w events last
  leads_any test [] w last h = h
  leads_any test (e ∷ events) w last (next, fires, passes, h) = (next, fires, leads_any test events next last h)

  pub leads_all : (events : List Event) (w last : World L) → Leads p w events last → LeadsBy (λ e t n. true) p w events last
  leads_all [] w last h = h
  leads_all (e ∷ events) w last (next, fires, h) = (next, fires, (λ t. refl), leads_all events next last h)

  -- one list behind the other
  pub by_split : (test : Event → ℕ → ℕ → Bool) (xs ys : List Event) (w last : World L) → LeadsBy test p w (xs ++ ys) last →
      (v : World L) × Leads p w xs v × LeadsBy test p v ys last
  by_split test [] ys w last h = (w, refl, h)
  by_split test (x ∷ xs) ys w last (next, fires, passes, h) = let (v, there, more) = by_split test xs ys next last h in (v, (next, fires, there), more)

  module _ (IsProper : L → Type 0) (lawful : IsLawful p.ops IsProper) (test : Event → ℕ → ℕ → Bool) where
    pub alike_leads : (k : Known) (xs ys : List Event) → AreAlike p.owner p.size k xs ys → (w last : World L) → IsBase p IsProper lawful w → Tells p.ops k w.tasks →
        LeadsBy test p w xs last → LeadsBy test p w ys last
    alike_leads m us vs (same k events) w last base tells h = h
    alike_leads m us vs (first_same k e xs ys alike) w last base tells (next, fires, passes, h) =
        (next, fires, passes, alike_leads (advanced p.owner k e) xs ys alike next last (base_fires p IsProper lawful fires base) (tells_fires p IsProper lawful k w base tells fires) h)
    alike_leads m us vs (exchanged k e f events apart) w last base tells (v, first, passes, (u, second, passes_too, h)) = (
      between p IsProper lawful k w base tells e f apart first second,
      f_first p IsProper lawful k w base tells e f apart first second,
      subst (λ (steps : ℕ → ℕ). (t : ℕ) → test f t (steps t) ≡ true) (sym (f_steps p IsProper lawful k w base tells e f apart first second)) passes_too,
      (
        u,
        e_second p IsProper lawful k w base tells e f apart first second,
        subst (λ (steps : ℕ → ℕ). (t : ℕ) → test e t (steps t) ≡ true) (sym (e_steps p IsProper lawful k w base tells e f apart first second)) passes,
        h,
      ),
    )
    alike_leads m us vs (further k xs zs ys a b) w last base tells h =
        alike_leads k zs ys b w last base tells (alike_leads k xs zs a w last base tells h)

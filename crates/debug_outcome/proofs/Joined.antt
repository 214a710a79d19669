-- What came of the loading of files, from that of the first ones and of those behind them.
use Rattle.std.proofs.Common.{◌≡◌, ◌≤◌, ℕ, List, [], ◌∷◌, ◌++◌, Option, inl, inr, refl, sym, subst}
use Rattle.ded_io.specs.Told.{ToldFile}
use Rattle.ded_io.proofs.Counted.{rose_behind}
use Rattle.debug_outcome.specs.Coming.{Stops}
use Rattle.debug_outcome.specs.Loads.{IsUnloaded, AreLoaded, AreUnloaded, WereLoaded, all_gave}
use Rattle.debug_outcome.specs.Outcomes.{Outcome}
use Rattle.debug_outcome.specs.Traces.{Wanted, Load, Led, HasLoads}
use Rattle.debug_outcome.specs.declared.stopping.Stop.{Stop}
use Rattle.debug_outcome.proofs.Comings.{stops_more}

-- ---- the loads

led_joined : {F : Type 0} (leads : F → Load → F → Type 0) (old between new : F) (loads more : List Load) → Led leads old loads between → Led leads between more new → Led leads old (loads ++ more) new
led_joined {F} leads old between new [] more first then = subst (λ (f : F). Led leads f more new) first then
led_joined leads old between new (load ∷ loads) more first then = (first.0, first.1, led_joined leads first.0 between new loads more first.2 then)

-- ---- the files

module _ (told : Option (List ToldFile)) where
  -- one of the first files was not loaded
  unloaded_in_front : (faults faults' : ℕ) (files more : List Wanted) (loads : List Load) (o : Outcome) → AreUnloaded told faults faults' files loads o → AreUnloaded told faults faults' (files ++ more) loads o
  unloaded_in_front faults faults' [] more loads o h = absurd h
  unloaded_in_front faults faults' (file ∷ files) more loads o (inl h) = inl h
  unloaded_in_front faults faults' (file ∷ files) more loads o (inr h) =
      inr (record { bytes = h.bytes; loaded = h.loaded; rest = h.rest; were = h.were; later = unloaded_in_front faults faults' files more h.rest o h.later })

  -- what a later load refuses, as seen from an earlier count
  unloaded_since : (faults mid faults' : ℕ) (file : Wanted) (loads : List Load) (o : Outcome) → faults ≤ mid → IsUnloaded told mid faults' file loads o → IsUnloaded told faults faults' file loads o
  unloaded_since faults mid faults' file loads o le (inl h) = inl (record {
    were = h.were;
    cause = elim h.cause [ inl lacks ↦ inl lacks | inr rose ↦ inr (rose_behind faults mid faults' le rose) ];
    is = h.is;
  })
  unloaded_since faults mid faults' file loads o le (inr longer) = inr longer

  all_unloaded_since : (faults mid faults' : ℕ) (files : List Wanted) (loads : List Load) (o : Outcome) → faults ≤ mid → AreUnloaded told mid faults' files loads o → AreUnloaded told faults faults' files loads o
  all_unloaded_since faults mid faults' [] loads o le h = absurd h
  all_unloaded_since faults mid faults' (file ∷ files) loads o le (inl h) = inl (unloaded_since faults mid faults' file loads o le h)
  all_unloaded_since faults mid faults' (file ∷ files) loads o le (inr h) =
      inr (record { bytes = h.bytes; loaded = h.loaded; rest = h.rest; were = h.were; later = all_unloaded_since faults mid faults' files h.rest o le h.later })

  -- the first files were loaded, and one behind them was not
  unloaded_behind : (faults faults' : ℕ) (files more : List Wanted) (contents : List (List ℕ)) (loads : List Load) (o : Outcome) → AreLoaded told files contents → AreUnloaded told faults faults' more loads o →
      AreUnloaded told faults faults' (files ++ more) (all_gave files contents ++ loads) o
  unloaded_behind faults faults' [] more [] loads o h k = k
  unloaded_behind faults faults' [] more (bytes ∷ contents) loads o h k = absurd h
  unloaded_behind faults faults' (file ∷ files) more [] loads o h k = absurd h
  unloaded_behind faults faults' (file ∷ files) more (bytes ∷ contents) loads o h k =
      inr (record { bytes = bytes; loaded = h.0; rest = all_gave files contents ++ loads; were = refl; later = unloaded_behind faults faults' files more contents loads o h.1 k })

-- ---- both together

module _ {F : Type 0} (leads : F → Load → F → Type 0) (old new : F) (told : Option (List ToldFile)) (files more : List Wanted) where
  -- one of the first was not
  pub first_unloaded : (faults faults' : ℕ) (stop : Stop) → HasLoads leads old new (λ loads. Stops (AreUnloaded told faults faults' files loads) stop) →
      HasLoads leads old new (λ loads. Stops (AreUnloaded told faults faults' (files ++ more) loads) stop)
  first_unloaded faults faults' stop made = record {
    loads = made.loads;
    led = made.led;
    is_so =
        stops_more (AreUnloaded told faults faults' files made.loads) (AreUnloaded told faults faults' (files ++ more) made.loads) stop
        (λ o bad. unloaded_in_front told faults faults' files more made.loads o bad) made.is_so;
  }

  -- one behind them was not
  pub later_unloaded : (between : F) (contents : List (List ℕ)) (told' : Option (List ToldFile)) (faults mid faults' : ℕ) (stop : Stop) → told' ≡ told → faults ≤ mid → HasLoads leads old between (WereLoaded told files contents) →
      HasLoads leads between new (λ loads. Stops (AreUnloaded told' mid faults' more loads) stop) → HasLoads leads old new (λ loads. Stops (AreUnloaded told faults faults' (files ++ more) loads) stop)
  later_unloaded between contents told' faults mid faults' stop same le first made = record {
    loads = first.loads ++ made.loads;
    led = led_joined leads old between new first.loads made.loads first.led made.led;
    is_so =
        stops_more (AreUnloaded told' mid faults' more made.loads) (AreUnloaded told faults faults' (files ++ more) (first.loads ++ made.loads)) stop
        (λ o bad.
        subst (λ (ls : List Load). AreUnloaded told faults faults' (files ++ more) (ls ++ made.loads) o) (sym first.is_so.were)
        (unloaded_behind told faults faults' files more contents made.loads o first.is_so.are (all_unloaded_since told faults mid faults' more made.loads o le (subst (λ (t : Option (List ToldFile)). AreUnloaded t mid faults' more made.loads o) same bad))))
        made.is_so;
  }

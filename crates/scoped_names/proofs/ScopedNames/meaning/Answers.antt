use Rattle.std.proofs.Common.{◌≡◌, ◌∙◌, sym, arith, reverse, Some, None}
use Rattle.std.proofs.lemmas.Grind.{common_steps}
use Rattle.scoped_names.specs.inner.Places.{latest_in}
use Rattle.scoped_names.proofs.Linking.{slot_shows, slot_within, no_slot, no_gap}
use Rattle.scoped_names.proofs.ScopedNames.meaning.Goals as goal

pub returns-in-Some-get : goal.returns-in-Some-get
returns-in-Some-get g c =
    let is : latest_in (reverse c.self.inside.slots.items) c.args.name ≡ Some c.in-Some.place.now = sym (c.self.invariant.found c.args.name) ∙ sym c.in-Some.ensures.value in
    let shows = slot_shows c.in-Some-get.slot.now c.self.inside.slots.items c.args.name c.in-Some.place.now is in
    rw (← c.self.view_is) (grind (arith, common_steps, shows))

pub returns-in-None-get : goal.returns-in-None-get
returns-in-None-get g c =
    let is : latest_in (reverse c.self.inside.slots.items) c.args.name ≡ Some c.in-Some.place.now = sym (c.self.invariant.found c.args.name) ∙ sym c.in-Some.ensures.value in
    absurd (no_gap c.self.inside.slots.items c.deref.result.now c.in-Some.place.now c.deref.ensures.value (slot_within c.self.inside.slots.items c.args.name c.in-Some.place.now is) c.in-None-get.ensures.lookup.0)

pub returns-in-None : goal.returns-in-None
returns-in-None g c =
    let is : latest_in (reverse c.self.inside.slots.items) c.args.name ≡ None = sym (c.self.invariant.found c.args.name) ∙ sym c.in-None.ensures.value in
    rw (← c.self.view_is) (sym (no_slot c.self.inside.slots.items c.args.name is))

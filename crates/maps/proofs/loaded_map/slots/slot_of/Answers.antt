use Rattle.std.proofs.Common.{◌*◌, length, sym, arith}
use Rattle.std.proofs.lemmas.Option.{slice_get_past}
use Rattle.maps.specs.Tree.{wanted_at, requirement_slots}
use Rattle.maps.specs.Places.{masks_of}
use Rattle.maps.specs.Slots.{slots_more}
use Rattle.maps.proofs.Slots.{slot_stands}
use Rattle.maps.proofs.loaded_map.slots.slot_of.Goals as goal

pub loop-slot-preserved : goal.loop-slot-preserved
loop-slot-preserved c = grind (arith, slots_more)

pub returns-then-left-eq0 : goal.returns-then-left-eq0
returns-then-left-eq0 c =
    slot_stands (wanted_at (masks_of c.args.places.now)) (3 * length c.args.places.now) c.args.requirement c.loop-slot.slot c.loop-slot-test.true
    (sym c.if-is_wanted.ensures) (omega arith)

pub returns : goal.returns
returns c = sym (slice_get_past (requirement_slots (length c.args.places.now) (masks_of c.args.places.now)) c.args.requirement (grind arith))

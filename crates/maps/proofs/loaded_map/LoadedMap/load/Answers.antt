use Rattle.maps.proofs.Loading.{accepted, as_many, same_itself}
use Rattle.maps.proofs.loaded_map.LoadedMap.load.Goals as goal

pub invariant_of-self : goal.invariant_of-self
invariant_of-self c =
    let a = accepted c.args.locations c.args.parents.now c.args.masks.now c.in_ok-check_arrays.ensures in
    let p = c.paired-places.ensures in
    let n = as_many c.paired-places.result.items c.args.parents.now c.args.locations p.parents a.parents in
    record { some = rw n a.some; few = rw n a.few; falls = rw (n, p.parents) a.falls; asks = rw (n, p.masks) a.asks }

pub returns-clause-holds : goal.returns-clause-holds
returns-clause-holds c =
    let a = accepted c.args.locations c.args.parents.now c.args.masks.now c.in_ok-check_arrays.ensures in
    let p = c.paired-places.ensures in
    let n = as_many c.paired-places.result.items c.args.parents.now c.args.locations p.parents a.parents in
    rw (n, p.parents, p.masks) (same_itself _)

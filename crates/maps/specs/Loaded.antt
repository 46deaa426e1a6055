-- What a loaded map tells.
use Rattle.std.specs.Prelude.{length}
use Rattle.maps.specs.declared.loaded_map.LoadedMap.{LoadedMap}
use Rattle.maps.specs.Market.{Market}
use Rattle.maps.specs.Tree.{loaded_market}
use Rattle.maps.specs.Places.{parents_of, masks_of}

abbrev pub market_of : LoadedMap → Market
market_of m = loaded_market (length m.places.items) (parents_of m.places.items) (masks_of m.places.items)

-- Lists of pointers, taken.
use Rattle.std.proofs.Common.{◌≡◌, ◌-◌, List, map, length, take}
use Rattle.std.proofs.lemmas.List.{length-map, take-map}

-- all but the last of what is pointed to
pub front_map : {X Y : Type 0} (f : X → Y) (xs : List X) →
    take (length (map f xs) - 1) (map f xs) ≡ map f (take (length xs - 1) xs)
front_map f xs = rw (length-map xs) (take-map f (length xs - 1) xs)

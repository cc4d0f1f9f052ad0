use Rattle.std.proofs.Common.{◌≡◌, ℕ, List, [], ◌∷◌, Option, Some, ap, arith, length, map, sym, ◌∙◌}
use Rattle.std.specs.List.{AllZip}
use Rattle.std.proofs.lemmas.List.{length-map, take_all}
use Rattle.hayagriva.specs.Library.{from_entries, key_of}
use Rattle.hayagriva.specs.Query.{hit_entry}
use Rattle.hayagriva.specs.declared.query.Hit.{Hit}
use Rattle.haya_source.specs.Elements.{entries_of}
use Rattle.haya_source.specs.Places.{part_for}
use Rattle.haya_source.proofs.Found.{from_entries-whole, same_length}
use Rattle.haya_source.proofs.order.parts_in_order.Goals as goal

-- what each of some is, one by one
each_is : {A S : Type 0} (f : A → Option (List ℕ)) (bytes : S → List ℕ) (xs : List A) (parts : List S)
    → map f xs ≡ map (λ s. Some (bytes s)) parts → AllZip (λ x part. f x ≡ Some part) xs (map bytes parts)
each_is f bytes [] [] same = tt
each_is f bytes [] (p ∷ ps) same = let no : ⊥ = cc (same) in absurd no
each_is f bytes (x ∷ xs) [] same = let no : ⊥ = cc (same) in absurd no
each_is f bytes (x ∷ xs) (p ∷ ps) same =
    let here : f x ≡ Some (bytes p) = cc (same) in
    let behind : map f xs ≡ map (λ s. Some (bytes s)) ps = cc (same) in
    (here, each_is f bytes xs ps behind)

pub returns : goal.returns
returns c = λ es parts library.
    let as_many : length (from_entries (entries_of es)) ≡ length (entries_of es) =
    omega (
      arith,
      c.if-parts-len.false,
      c.len.ensures,
      ap length library,
      same_length c.args.parts.now es parts,
      length-map es (λ e. e.1),
    ) in
    let f : Hit → Option (List ℕ) = (λ hit. part_for (key_of (hit_entry hit)) es) in
    each_is f (λ s. s.now) c.args.hits.now c.hits.found.items
    (ap (map f) (sym (take_all c.hits.hit-index c.args.hits.now c.hits-test.false))
    ∙ c.hits.invariant es parts (library ∙ from_entries-whole (entries_of es) as_many))

use Rattle.std.proofs.Common.{rules, ◌≡◌, List, ℕ, Option, Bor, map}
use Rattle.std.specs.Prelude.{find, option_map, reverse}
use Rattle.std.specs.Str.{bytes_eq}
use Rattle.std.proofs.lemmas.Iterator.Adapters.{YieldsList-from_rev_slice}
use Rattle.std.proofs.lemmas.Iterator.Search.{find_from_yields_List}
use Rattle.std.proofs.lemmas.Simd.{map-map}
use borrow.Author.Tests.{tests}
use Rattle.haya_entry.specs.declared.entry.Entry.{Entry}
use Rattle.haya_selectors.specs.Binds.{last_of}
use Rattle.haya_selectors.specs.Compiled.{name_of}
use Rattle.haya_selectors.specs.Evaluation.{EntryPairs, named_pairs}
use Rattle.haya_selectors.specs.Nodes.{slot_names}
use Rattle.haya_selectors.proofs.Lasts.{last_of-map}
use Rattle.haya_selectors.proofs.Options.{option_map-map}
use Rattle.haya_selectors.proofs.bindings.Bindings.last.Goals as goal

last_found : (q : List ℕ) (names : List (List ℕ)) (items : List (ℕ × Bor Entry)) (found : EntryPairs) (o : Option (Bor (ℕ × Bor Entry))) (r : Option (Bor Entry))
    → map (λ p. (p.0, p.1.now)) items ≡ found
    → option_map (λ y. y.now) o ≡ find (λ p. bytes_eq (name_of names p.0) q) (reverse items)
    → r ≡ option_map (λ y. y.now.1) o
    → option_map (λ e. e.now) r ≡ last_of q (named_pairs names found)
last_found q names items found o r m e h =
    rw (h, ← m, map-map, last_of-map q (λ p. name_of names p.0) (λ p. p.1.now) items, ← e, option_map-map, option_map-map)

pub returns : goal.returns
returns c =
    let q = c.args.name.now in
    let names = slot_names c.args.nodes.now in
    let items = c.self.inside.pairs.items in
    let e = find_from_yields_List (λ p. bytes_eq (name_of names p.0) q) _ _ c.find-pair.result c.find-pair.ensures.ran
    (YieldsList-from_rev_slice items (search rules)) (λ x b q k. search (rules, tests)) in
    last_found q names items c.args.self.now c.find-pair.result c.map.result c.self.view_is e (search rules)

use Rattle.std.proofs.Common.{◌≡◌, ◌<◌, ◌+◌, ◌-◌, ℕ, arith, refl, length, map, drop, nat_cmp, subst}
use Rattle.std.specs.BTreeMap.{get_by}
use Rattle.std.specs.Cmp.Lexicographic.{slice_cmp}
use Rattle.std.specs.Option.{option_map}
use Rattle.std.proofs.lemmas.Map.Text.{btree_map_updates_str}
use Rattle.haya_bibtex_inherited.specs.References.{position_of}
use Rattle.std.proofs.lemmas.List.{drop_all}
use Rattle.haya_bibtex_inherited.specs.Views.{entry_bytes}
use Rattle.haya_bibtex_inherited.proofs.Positions.{place_more, places_all}
use Rattle.haya_bibtex_inherited.proofs.source.key_positions.Goals as goal

pub entries-init : goal.entries-init
entries-init c = record {
  within = omega arith;
  places = λ key. rw (drop_all (length c.args.entries.now) c.args.entries.now (omega arith), c.new-positions.ensures.empty) refl;
}

pub returns : goal.returns
returns c = λ key. let z : c.entries.left ≡ 0 = omega (arith, c.entries-test.false) in
    places_all (map entry_bytes c.args.entries.now) key _ (rw z at c.entries.invariant.places key)

pub entries-preserved : goal.entries-preserved
entries-preserved c =
    let es = c.args.entries.now in
    let i = c.entries.left - 1 in
    let back : c.entries.left ≡ i + 1 = omega (arith, c.entries-test.true) in
    let l : i < length es = omega (arith, back, c.entries.invariant.within) in
    record {
      within = omega (arith, c.entries.invariant.within);
      places = λ key.
          let was = subst (λ (n : ℕ). get_by (λ k. slice_cmp nat_cmp key k.now) c.entries.positions ≡ option_map (λ k. k + n) (position_of (map entry_bytes (drop n es)) key)) back (c.entries.invariant.places key) in
          let next = btree_map_updates_str c.as_str.result.now c.entries.positions c.insert.new.self _ c.in_ok-insert.ensures.updates key in
          place_more es i c.index-entries-left.result key _ _ l c.index-entries-left.is was (rw (c.as_str.ensures.value, ← c.index-entries-left.is) at next);
    }

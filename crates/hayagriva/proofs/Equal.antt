-- What `==` of the maps of two libraries says.
use Rattle.std.proofs.Common.{◌≡◌, ℕ, Bool, true, false, List, [], ◌∷◌, Option, None, Some, refl, sym, ◌∙◌}
use Rattle.std.specs.Prelude.{String, string_bytes, option_map}
use Rattle.std.specs.Bool.{Decides}
use Rattle.std.specs.HashMap.{get}
use Rattle.std.specs.HashMap.Eq.{hash_map_eq_from_get, get_from_hash_map_eq}
use Rattle.std.specs.Map.{lookup}
use Rattle.std.specs.Str.{bytes_eq}
use Rattle.std.specs.String.{string_eq, string_eq_equiv}
use Rattle.std.specs.declared.alloc.Global.{Global}
use Rattle.std.proofs.lemmas.Slice.Eq.{bytes_eq-Decides}
use Rattle.indexmap.specs.IndexMap.{IndexMap, index_map_eq}
use Rattle.haya_entry.specs.declared.entry.Entry.{Entry}
use Rattle.haya_entry.specs.contracts.entry.EntryPartialEq.TheImpl as entry
use Rattle.haya_entry.specs.Tree.{Tree, view}
use Rattle.haya_entry.proofs.Equal.{entries-tell}
use Rattle.haya_text.proofs.Tells.{options-tell}
use Rattle.hayagriva.specs.Library.{get as library_get, AreEqual}
use Rattle.hayagriva.specs.Stored.{entries_of, Fits}
use Rattle.hayagriva.proofs.Maps.{get-lookup}

module _ {B : Type 0} where
  -- what a look-up by bytes finds is stored under a text of these bytes
  stored_text : (key : List ℕ) (es : List (String B × Entry)) (t : Tree) → option_map view (lookup (λ k. bytes_eq key (string_bytes k)) es) ≡ Some t
      → (k : String B) × (key ≡ string_bytes k)
  stored_text key [] t h = cc
  stored_text key (e ∷ es) t h = by (stored_text key es t) (bytes_eq key (string_bytes e.0)) refl
    where
      by : (option_map view (lookup (λ k. bytes_eq key (string_bytes k)) es) ≡ Some t → (k : String B) × (key ≡ string_bytes k))
          → (b : Bool) → bytes_eq key (string_bytes e.0) ≡ b → (k : String B) × (key ≡ string_bytes k)
      by rest true same = (e.0, (bytes_eq-Decides key (string_bytes e.0)).0 same)
      by rest false other = rest (rw other at h)

module _ {S : Type 0} (m n : IndexMap (String Global) Entry S) (fits_m : Fits m.entries) (fits_n : Fits n.entries) where
  abbrev one : List Tree
  one = entries_of m.entries

  abbrev other : List Tree
  other = entries_of n.entries

  agrees : index_map_eq string_eq entry.ghosts.eq m n ≡ true → AreEqual one other
  agrees e key = by (library_get key one) (library_get key other) refl refl
    where
      at : (k : String Global) → key ≡ string_bytes k → library_get key one ≡ library_get key other
      at k same =
          rw same (sym (get-lookup (string_bytes k) m.entries fits_m)
          ∙ (options-tell entry.ghosts.eq view entries-tell (get string_eq m k) (get string_eq n k)).0 (get_from_hash_map_eq string_eq entry.ghosts.eq string_eq_equiv m n e k)
          ∙ get-lookup (string_bytes k) n.entries fits_n)

      by : (o p : Option Tree) → library_get key one ≡ o → library_get key other ≡ p → library_get key one ≡ library_get key other
      by (Some s) p f g = let k = stored_text key m.entries s (get-lookup key m.entries fits_m ∙ f) in at k.0 k.1
      by None (Some t) f g = let k = stored_text key n.entries t (get-lookup key n.entries fits_n ∙ g) in at k.0 k.1
      by None None f g = f ∙ sym g

  pub maps-Decides : Decides (index_map_eq string_eq entry.ghosts.eq m n) (AreEqual one other)
  maps-Decides = (
    agrees,
    λ h. hash_map_eq_from_get string_eq entry.ghosts.eq m n (λ k. (options-tell entry.ghosts.eq view entries-tell (get string_eq m k) (get string_eq n k)).1
        (get-lookup (string_bytes k) m.entries fits_m ∙ h (string_bytes k) ∙ sym (get-lookup (string_bytes k) n.entries fits_n))),
  )

-- What the calls of a map do to a library.
use Rattle.std.proofs.Common.{◌≡◌, ℕ, Bool, true, false, List, [], ◌∷◌, ◌++◌, map, refl, sym, ap, ◌∙◌, subst}
use Rattle.std.specs.Prelude.{String, string_bytes, option_map}
use Rattle.std.specs.List.{AllByRecursion, IsDistinct, list_any}
use Rattle.std.specs.Map.{keys_of, values_of, lookup, remove_entry}
use Rattle.std.specs.Str.{bytes_eq}
use Rattle.std.specs.String.{string_eq}
use Rattle.std.proofs.lemmas.List.{map-id}
use Rattle.std.proofs.lemmas.Simd.{map-map}
use Rattle.std.proofs.lemmas.Map.Keys.{IsDistinct-head, IsDistinct-tail}
use Rattle.std.proofs.lemmas.Map.Made.{AllPairs-from_IsDistinct, IsDistinct-from_AllPairs}
use Rattle.std.proofs.lemmas.Slice.Eq.{bytes_eq-Decides}
use Rattle.haya_entry.specs.declared.entry.Entry.{Entry}
use Rattle.haya_entry.specs.Tree.{Tree, view}
use Rattle.indexmap.specs.IndexMap.{insert_entry}
use Rattle.haya_selectors.proofs.Options.{ap-cond}
use Rattle.hayagriva.specs.Library.{key_of, has_key, get, with_replacement, push, remove, AreDistinct}
use Rattle.hayagriva.specs.Stored.{keyed_entries, pairs_of, entries_of, texts_of, Fits}

-- ---- from entries beside their keys to the list of entries
pub distinct_keys : (ts : List Tree) → AreDistinct ts → IsDistinct bytes_eq (map key_of ts)
distinct_keys ts d = IsDistinct-from_AllPairs bytes_eq-Decides (map key_of ts) d

-- no entry has the key
abbrev Lacks : List ℕ → List Tree → Type 0
Lacks key ts = AllByRecursion (λ k. bytes_eq key k ≡ false) (map key_of ts)

remove-lacking : (key : List ℕ) (ts : List Tree) → Lacks key ts → remove key ts ≡ ts
remove-lacking key [] h = refl
remove-lacking key (t ∷ ts) h = rw (h.0, remove-lacking key ts h.1) refl

with_replacement-lacking : (t : Tree) (us : List Tree) → Lacks (key_of t) us → with_replacement t us ≡ us
with_replacement-lacking t [] h = refl
with_replacement-lacking t (u ∷ us) h = rw (h.0, with_replacement-lacking t us h.1) refl

lacks_later : (key : List ℕ) (t : Tree) (ts : List Tree) → IsDistinct bytes_eq (map key_of (t ∷ ts)) → bytes_eq key (key_of t) ≡ true → Lacks key ts
lacks_later key t ts d h =
    subst (λ k. Lacks k ts) (sym ((bytes_eq-Decides key (key_of t)).0 h)) (IsDistinct-head bytes_eq (key_of t) (map key_of ts) d)

lookup-keyed_entries : (key : List ℕ) (ts : List Tree) → lookup (bytes_eq key) (keyed_entries ts) ≡ get key ts
lookup-keyed_entries key [] = refl
lookup-keyed_entries key (t ∷ ts) = rw (lookup-keyed_entries key ts) refl

remove-keyed_entries : (key : List ℕ) (ts : List Tree) → IsDistinct bytes_eq (map key_of ts) → remove_entry (bytes_eq key) (keyed_entries ts) ≡ keyed_entries (remove key ts)
remove-keyed_entries key [] d = refl
remove-keyed_entries key (t ∷ ts) d = by (remove-keyed_entries key ts (IsDistinct-tail bytes_eq (key_of t) (map key_of ts) d)) (bytes_eq key (key_of t)) refl
  where
    by : remove_entry (bytes_eq key) (keyed_entries ts) ≡ keyed_entries (remove key ts) → (b : Bool) → bytes_eq key (key_of t) ≡ b → remove_entry (bytes_eq key) (keyed_entries (t ∷ ts)) ≡ keyed_entries (remove key (t ∷ ts))
    by rest true h = rw h (ap keyed_entries (sym (remove-lacking key ts (lacks_later key t ts d h))))
    by rest false h = rw (h, rest) refl

insert-keyed_entries : (t : Tree) (us : List Tree) → IsDistinct bytes_eq (map key_of us) → insert_entry bytes_eq (keyed_entries us) (key_of t) t ≡ keyed_entries (push t us)
insert-keyed_entries t [] d = refl
insert-keyed_entries t (u ∷ us) d = by (insert-keyed_entries t us (IsDistinct-tail bytes_eq (key_of u) (map key_of us) d)) (bytes_eq (key_of t) (key_of u)) refl
  where
    by : insert_entry bytes_eq (keyed_entries us) (key_of t) t ≡ keyed_entries (push t us) → (b : Bool) → bytes_eq (key_of t) (key_of u) ≡ b → insert_entry bytes_eq (keyed_entries (u ∷ us)) (key_of t) t ≡ keyed_entries (push t (u ∷ us))
    by rest true h =
        rw (h, with_replacement-lacking t us (lacks_later (key_of t) u us d h)) (ap (λ k. (k, t) ∷ keyed_entries us) (sym ((bytes_eq-Decides (key_of t) (key_of u)).0 h)))
    by rest false h = rw (h, rest) (ap keyed_entries (ap-cond (λ l. u ∷ l) (list_any (has_key (key_of t)) us) (with_replacement t us) (us ++ t ∷ [])))

-- ---- from a map to entries beside keys
module _ {B : Type 0} where
  lookup-pairs : (key : List ℕ) (es : List (String B × Entry)) → option_map view (lookup (λ k. bytes_eq key (string_bytes k)) es) ≡ lookup (bytes_eq key) (pairs_of es)
  lookup-pairs key [] = refl
  lookup-pairs key (e ∷ es) = rw (ap-cond (option_map view), lookup-pairs key es) refl

  remove-pairs : (key : List ℕ) (es : List (String B × Entry)) → pairs_of (remove_entry (λ k. bytes_eq key (string_bytes k)) es) ≡ remove_entry (bytes_eq key) (pairs_of es)
  remove-pairs key [] = refl
  remove-pairs key (e ∷ es) = rw (ap-cond pairs_of, remove-pairs key es) refl

  insert-pairs : (k : String B) (v : Entry) (es : List (String B × Entry)) → pairs_of (insert_entry string_eq es k v) ≡ insert_entry bytes_eq (pairs_of es) (string_bytes k) (view v)
  insert-pairs k v [] = refl
  insert-pairs k v (e ∷ es) = rw (ap-cond pairs_of, insert-pairs k v es) refl

  -- ---- the two joined
  pub get-lookup : (key : List ℕ) (es : List (String B × Entry)) → Fits es → option_map view (lookup (λ k. bytes_eq key (string_bytes k)) es) ≡ get key (entries_of es)
  get-lookup key es fits = lookup-pairs key es ∙ ap (lookup (bytes_eq key)) fits.own_keys ∙ lookup-keyed_entries key (entries_of es)

  apart : (k : String B) (ks : List (String B)) → AllByRecursion (λ y. string_eq k y ≡ false) ks → AllByRecursion (λ y. bytes_eq (string_bytes k) y ≡ false) (texts_of ks)
  apart k [] h = tt
  apart k (y ∷ ks) h = (h.0, apart k ks h.1)

  texts-distinct : (ks : List (String B)) → IsDistinct string_eq ks → IsDistinct bytes_eq (texts_of ks)
  unfolding IsDistinct
  texts-distinct [] d = tt
  texts-distinct (k ∷ ks) d = (apart k ks d.0, texts-distinct ks d.1)

  -- a map that holds these entries, each under its own key
  pub entries-keyed_entries : (es : List (String B × Entry)) (ts : List Tree) → pairs_of es ≡ keyed_entries ts → entries_of es ≡ ts
  entries-keyed_entries es ts h =
      sym (map-map (λ p. p.1) (λ e. (string_bytes e.0, view e.1)) es) ∙ ap values_of h ∙ map-map (λ p. p.1) (λ t. (key_of t, t)) ts ∙ map-id ts

  pub texts-keyed_entries : (es : List (String B × Entry)) (ts : List Tree) → pairs_of es ≡ keyed_entries ts → texts_of (keys_of es) ≡ map key_of ts
  texts-keyed_entries es ts h =
      map-map string_bytes (λ e. e.0) es ∙ sym (map-map (λ p. p.0) (λ e. (string_bytes e.0, view e.1)) es) ∙ ap keys_of h ∙ map-map (λ p. p.0) (λ t. (key_of t, t)) ts

  pub Fits-keyed_entries : (es : List (String B × Entry)) (ts : List Tree) → IsDistinct string_eq (keys_of es) → pairs_of es ≡ keyed_entries ts → Fits es
  Fits-keyed_entries es ts d h = let same = entries-keyed_entries es ts h in record {
    own_keys = h ∙ ap keyed_entries (sym same);
    distinct = rw same (AllPairs-from_IsDistinct bytes_eq-Decides (map key_of ts) (rw (← texts-keyed_entries es ts h) (texts-distinct (keys_of es) d)));
  }

  -- the calls
  pub pairs-insert : (k : String B) (v : Entry) (es : List (String B × Entry)) → string_bytes k ≡ key_of (view v) → Fits es
      → pairs_of (insert_entry string_eq es k v) ≡ keyed_entries (push (view v) (entries_of es))
  pairs-insert k v es h fits =
      insert-pairs k v es ∙ ap (λ (p : List (List ℕ × Tree) × List ℕ). insert_entry bytes_eq p.0 p.1 (view v)) (λ i. (fits.own_keys i, h i))
      ∙ insert-keyed_entries (view v) (entries_of es) (distinct_keys (entries_of es) fits.distinct)

  pub pairs-remove : (key : List ℕ) (es : List (String B × Entry)) → Fits es
      → pairs_of (remove_entry (λ k. bytes_eq key (string_bytes k)) es) ≡ keyed_entries (remove key (entries_of es))
  pairs-remove key es fits =
      remove-pairs key es ∙ ap (remove_entry (bytes_eq key)) fits.own_keys ∙ remove-keyed_entries key (entries_of es) (distinct_keys (entries_of es) fits.distinct)

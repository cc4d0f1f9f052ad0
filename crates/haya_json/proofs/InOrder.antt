-- Entries that are pushed in turn under distinct names are the library in order.
use Rattle.std.proofs.Common.{◌≡◌, inl, inr, List, [], ◌∷◌, None, Result, Ok, Err, map, refl, sym, ap, ◌∙◌, subst}
use Rattle.std.specs.Prelude.{fold, ◌≢◌}
use Rattle.std.specs.List.{AllPairs}
use Rattle.json.specs.Json as json
use Rattle.json.specs.Json.{Json, Members}
use Rattle.json.specs.Strict as names
use Rattle.json.specs.Strict.{HasUniqueKeys, keys}
use Rattle.haya_entry.specs.Tree.{Tree}
use Rattle.hayagriva.specs.Library.{AreDistinct, key_of, push, from_entries}
use Rattle.hayagriva.proofs.Parts.{from_entries-distinct}
use Rattle.haya_json.specs.declared.fault.ValueError.{ValueError}
use Rattle.haya_json.specs.Refusal.{Refusal, within, and_then, to_member, IsFaultOf}
use Rattle.haya_json.specs.Entries.{entry_of}
use Rattle.haya_json.specs.Libraries.{entries_of, entries_pushed, library_of}
use Rattle.haya_json.proofs.KeptKeys.{entry_key}

pub keys_of_entries : (ms : Members) (ts : List Tree) → entries_of ms ≡ Ok ts → map key_of ts ≡ keys ms
keys_of_entries json.no_members ts is = let same : [] ≡ ts = cc in ap (map key_of) (sym same)
keys_of_entries (json.member k j ms) ts is = by (keys_of_entries ms) (entry_of k None j) refl (entries_of ms) refl is
  where
    by : ((us : List Tree) → entries_of ms ≡ Ok us → map key_of us ≡ keys ms) → (r : Result Tree Refusal) → entry_of k None j ≡ r → (rs : Result (List Tree) Refusal) → entries_of ms ≡ rs
        → and_then (within (to_member k) r) (λ t. and_then rs (λ us. Ok (t ∷ us))) ≡ Ok ts → map key_of ts ≡ k ∷ keys ms
    by rest (Ok t) first (Ok us) others h =
        let same : t ∷ us ≡ ts = cc in
        ap (map key_of) (sym same) ∙ ap (λ x. x ∷ map key_of us) (entry_key k j t first) ∙ ap (λ xs. k ∷ xs) (rest us others)
    by rest (Ok t) first (Err e) others h = cc
    by rest (Err e) first rs others h = cc

-- so no key comes twice in a library that is read of JSON in which no object has a name twice
pub distinct_keys : (j : Json) (library : List Tree) → HasUniqueKeys j → library_of j ≡ Ok library → AreDistinct library
distinct_keys (json.object ms) library unique is = subst (AllPairs (λ a b. a ≢ b)) (sym (keys_of_entries ms library is)) unique.0
distinct_keys json.null library unique is = cc
distinct_keys (json.boolean b) library unique is = cc
distinct_keys (json.number s) library unique is = cc
distinct_keys (json.string s) library unique is = cc
distinct_keys (json.array js) library unique is = cc

-- ---- pushes are those of the whole list

push_all : List Tree → List Tree → List Tree
push_all done ts = fold (λ before t. push t before) done ts

pushed : (ms : Members) (done : List Tree) → entries_pushed done ms ≡ and_then (entries_of ms) (λ ts. Ok (push_all done ts))
unfolding push_all
pushed json.no_members done = refl
pushed (json.member k j ms) done = by (λ t. pushed ms (push t done)) (within (to_member k) (entry_of k None j))
  where
    more : (t : Tree) (rs : Result (List Tree) Refusal)
        → and_then rs (λ ts. Ok (push_all (push t done) ts)) ≡ and_then (and_then rs (λ ts. Ok (t ∷ ts))) (λ ts. Ok (push_all done ts))
    more t (Ok ts) = refl
    more t (Err e) = refl

    by : ((t : Tree) → entries_pushed (push t done) ms ≡ and_then (entries_of ms) (λ ts. Ok (push_all (push t done) ts))) → (r : Result Tree Refusal)
        → and_then r (λ t. entries_pushed (push t done) ms) ≡ and_then (and_then r (λ t. and_then (entries_of ms) (λ ts. Ok (t ∷ ts)))) (λ ts. Ok (push_all done ts))
    by rest (Ok t) = rest t ∙ more t (entries_of ms)
    by rest (Err e) = refl

-- the library that is pushed is the list of the entries
pub pushed_in_order : (ms : Members) (library : List Tree) → names.AreDistinct (keys ms) → entries_pushed [] ms ≡ Ok library → entries_of ms ≡ Ok library
unfolding push_all
pushed_in_order ms library distinct is = by (entries_of ms) refl (sym (pushed ms []) ∙ is)
  where
    by : (rs : Result (List Tree) Refusal) → entries_of ms ≡ rs → and_then rs (λ ts. Ok (push_all [] ts)) ≡ Ok library → entries_of ms ≡ Ok library
    by (Ok ts) all h =
        let stands : from_entries ts ≡ ts = from_entries-distinct ts (subst (AllPairs (λ a b. a ≢ b)) (sym (keys_of_entries ms ts all)) distinct) in
        let same : from_entries ts ≡ library = cc in
        all ∙ ap Ok (sym stands ∙ same)
    by (Err e) all h = cc

-- and what is refused of it is refused of the entries
pub pushed_fails : (ms : Members) (e : ValueError) → IsFaultOf (entries_pushed [] ms) e → IsFaultOf (entries_of ms) e
pushed_fails ms e (inl memory) = inl memory
pushed_fails ms e (inr is) = inr (by (entries_of ms) _ (sym (pushed ms []) ∙ is))
  where
    by : (rs : Result (List Tree) Refusal) (r : Refusal) → and_then rs (λ ts. Ok (push_all [] ts)) ≡ Err r → rs ≡ Err r
    by (Ok ts) r h = cc
    by (Err q) r h = h

-- Serial numbers by value, through the calls of a map.
use Rattle.std.proofs.Common.{◌≡◌, ◌≢◌, ◌==◌, ◌++◌, ℕ, Bool, true, false, true≢false, not, if◌then◌else◌, cond, List, [], ◌∷◌, Global, Option, None, Some, is_some, length, map, refl, sym, ap, ◌∙◌, arith}
use Rattle.std.specs.Prelude.{String, string_bytes, option_map}
use Rattle.std.specs.BTreeMap.{is_at, insert_entry}
use Rattle.std.specs.Cmp.Lexicographic.{slice_cmp}
use Rattle.std.specs.List.{AllZip}
use Rattle.std.specs.Map.{lookup}
use Rattle.std.specs.Option.{option_to_list}
use Rattle.std.specs.Ordering.{nat_cmp, match_ordering}
use Rattle.std.specs.declared.cmp.Ordering.{Ordering}
use Rattle.std.specs.declared.cmp.Ordering.TheVariants.{Less, Equal, Greater}
use Rattle.std.specs.Str.{bytes_eq}
use Rattle.std.proofs.lemmas.Bool.Decides.{nat_tests}
use Rattle.std.proofs.lemmas.Cmp.{nat_list_cmp_total, tied_itself}
use Rattle.std.proofs.lemmas.Map.Lookups.{exact_bytes}
use Rattle.std.proofs.lemmas.Map.Text.{is_eq-slice_cmp}
use Rattle.std.proofs.lemmas.Slice.Eq.{bytes_eq-Decides}
use Rattle.haya_entry.specs.declared.serial_number.SerialNumber.{SerialNumber}
use Rattle.haya_entry.specs.SerialNumber.{Serials, serial_entry, serial_text, serial_view, with_serial}

option_map-cond : {X Y : Type 0} (f : X → Y) (b : Bool) (x : X) (o : Option X) → option_map f (cond b (Some x) o) ≡ cond b (Some (f x)) (option_map f o)
option_map-cond f true x o = refl
option_map-cond f false x o = refl

pub lookup-entries : {B : Type 0} (key : List ℕ) (es : List (String B × String B))
    → lookup (bytes_eq key) (map serial_entry es) ≡ option_map string_bytes (lookup (is_at (λ k. slice_cmp nat_cmp key (string_bytes k))) es)
lookup-entries key [] = refl
lookup-entries key (e ∷ es) =
    rw (is_eq-slice_cmp key (string_bytes e.0), option_map-cond, lookup-entries key es) refl

map-ordered : {X Y : Type 0} (f : X → Y) (o : Ordering) (x y z : X) → f (match_ordering o x y z) ≡ match_ordering o (f x) (f y) (f z)
map-ordered f Less x y z = refl
map-ordered f _ x y z = refl

-- a text under the key of the first takes its place
pub same_key : (k v old : List ℕ) (rest : Serials) → insert_entry (slice_cmp nat_cmp) ((k, old) ∷ rest) k v ≡ (k, v) ∷ rest
same_key k v old rest = rw (tied_itself nat_list_cmp_total k) refl

-- a text under another key comes beside the first
pub two_keys : {B : Type 0} (k k' v v' : String B) → string_bytes k ≢ string_bytes k'
    → (length (insert_entry (λ a b. slice_cmp nat_cmp (string_bytes a) (string_bytes b)) ((k, v) ∷ []) k' v') == 1) ≡ false
two_keys {B} k k' v v' other = by (slice_cmp nat_cmp (string_bytes k') (string_bytes k)) refl
  where
    by : (o : Ordering) → slice_cmp nat_cmp (string_bytes k') (string_bytes k) ≡ o
        → (length {A = String B × String B} (match_ordering o ((k', v') ∷ (k, v) ∷ []) ((k, v') ∷ []) ((k, v) ∷ (k', v') ∷ [])) == 1) ≡ false
    by Less h = refl
    by Equal h = absurd (other (sym (exact_bytes (string_bytes k') (string_bytes k) h)))
    by Greater h = refl

none_mapped : {X Y : Type 0} (f : X → Y) (xs : List X) → map f xs ≡ [] → xs ≡ []
none_mapped f [] e = refl
none_mapped f (x ∷ xs) e = cc

-- there are none
pub no_serials : (s : SerialNumber) → serial_view s ≡ [] → (s.only ≡ None) × (s.several.entries ≡ [])
no_serials s e = by s.only refl
  where
    by : (o : Option (String Global × String Global)) → s.only ≡ o → (s.only ≡ None) × (s.several.entries ≡ [])
    by None is = (is, none_mapped serial_entry s.several.entries (rw is at e))
    by (Some x) is = let none = rw is at e in cc

-- the only one and the others are told from all of them
no_more : {X : Type 0} (xs : List X) → (length xs == 0) ≡ true → xs ≡ []
no_more [] e = refl
no_more (x ∷ xs) e = grind (arith, nat_tests)

not_one : {X Y : Type 0} (f : X → Y) (xs : List X) (y : Y) → not (length xs == 1) ≡ true → map f xs ≡ y ∷ [] → ⊥
not_one f [] y a e = cc
not_one f (x ∷ []) y a e = true≢false (sym a)
not_one f (x ∷ x' ∷ xs) y a e = cc

pub told_apart : {X Y : Type 0} (f : X → Y) (o p : Option X) (xs ys : List X)
    → (if is_some o then length xs == 0 else not (length xs == 1)) ≡ true → (if is_some p then length ys == 0 else not (length ys == 1)) ≡ true
    → option_to_list (option_map f o) ++ map f xs ≡ option_to_list (option_map f p) ++ map f ys → (option_map f o ≡ option_map f p) × (map f xs ≡ map f ys)
told_apart f None None xs ys a b e = (refl, e)
told_apart f (Some x) (Some y) xs ys a b e =
    let none : xs ≡ [] = no_more xs a in
    let none' : ys ≡ [] = no_more ys b in
    let same : f x ∷ [] ≡ f y ∷ [] = rw (none, none') at e in
    let one : f x ≡ f y = cc in
    (ap Some one, rw (none, none') refl)
told_apart f None (Some y) xs ys a b e = absurd (not_one f xs (f y) a (rw (no_more ys b) at e))
told_apart f (Some x) None xs ys a b e = absurd (not_one f ys (f x) b (sym (rw (no_more xs a) at e)))

-- an insertion
pub serials-insert : {B : Type 0} (k v : String B) (es : List (String B × String B))
    → map serial_entry (insert_entry (λ a b. slice_cmp nat_cmp (string_bytes a) (string_bytes b)) es k v) ≡ insert_entry (slice_cmp nat_cmp) (map serial_entry es) (string_bytes k) (string_bytes v)
serials-insert k v [] = refl
serials-insert k v (e ∷ es) =
    rw (map-ordered (map serial_entry) (slice_cmp nat_cmp (string_bytes k) (string_bytes e.0)), serials-insert k v es) refl

-- a copy: entries that are alike, place by place
pub serials-from_all_zip : {B : Type 0} (xs ys : List (String B × String B))
    → AllZip (λ p q. (string_bytes q.0 ≡ string_bytes p.0) × (string_bytes q.1 ≡ string_bytes p.1)) xs ys
    → map serial_entry ys ≡ map serial_entry xs
serials-from_all_zip [] [] h = refl
serials-from_all_zip [] (y ∷ ys) h = absurd h
serials-from_all_zip (x ∷ xs) [] h = absurd h
serials-from_all_zip (x ∷ xs) (y ∷ ys) h = rw (h.0.0, h.0.1, serials-from_all_zip xs ys h.1) refl

cond-twice : {X : Type 0} (b : Bool) (x y z : X) → cond b x z ≡ cond b x (cond b y z)
cond-twice true x y z = refl
cond-twice false x y z = refl

cond-swap : {X : Type 0} (a b : Bool) (x y z : X) → (a ≡ true → b ≡ true → ⊥) → cond b y (cond a x z) ≡ cond a x (cond b y z)
cond-swap true true x y z h = absurd (h refl refl)
cond-swap true false x y z h = refl
cond-swap false b x y z h = refl

lookup-insert_entry : (q k v : List ℕ) (es : Serials)
    → lookup (bytes_eq q) (insert_entry (slice_cmp nat_cmp) es k v) ≡ cond (bytes_eq q k) (Some v) (lookup (bytes_eq q) es)
lookup-insert_entry q k v [] = refl
lookup-insert_entry q k v (e ∷ es) = by (lookup-insert_entry q k v es) (slice_cmp nat_cmp k e.0) refl
  where
    apart : slice_cmp nat_cmp k e.0 ≡ Greater → bytes_eq q k ≡ true → bytes_eq q e.0 ≡ true → ⊥
    apart h a b =
        let same : k ≡ e.0 = sym ((bytes_eq-Decides q k).0 a) ∙ (bytes_eq-Decides q e.0).0 b in
        let equal = tied_itself nat_list_cmp_total e.0 in
        let greater = rw same at h in
        cc

    by : lookup (bytes_eq q) (insert_entry (slice_cmp nat_cmp) es k v) ≡ cond (bytes_eq q k) (Some v) (lookup (bytes_eq q) es)
        → (o : Ordering) → slice_cmp nat_cmp k e.0 ≡ o
        → lookup (bytes_eq q) (match_ordering o ((k, v) ∷ e ∷ es) ((e.0, v) ∷ es) (e ∷ insert_entry (slice_cmp nat_cmp) es k v)) ≡ cond (bytes_eq q k) (Some v) (lookup (bytes_eq q) (e ∷ es))
    by below Less h = refl
    by below Equal h = rw (exact_bytes k e.0 h) (cond-twice (bytes_eq q e.0) (Some v) (Some e.1) (lookup (bytes_eq q) es))
    by below Greater h =
        rw below (cond-swap (bytes_eq q k) (bytes_eq q e.0) (Some v) (Some e.1) (lookup (bytes_eq q) es) (apart h))

-- a look-up after a change
pub serial_text-with_serial : (other key text : List ℕ) (s : Option Serials)
    → serial_text other (Some (with_serial key text s)) ≡ cond (bytes_eq other key) (Some text) (serial_text other s)
serial_text-with_serial other key text None = refl
serial_text-with_serial other key text (Some serials) = lookup-insert_entry other key text serials

-- Names that are shorter than all of a table.
use Rattle.std.proofs.Common.{◌≡◌, ◌<◌, ℕ, Bool, true, false, List, [], ◌∷◌, None, length, map, refl, ap, arith}
use Rattle.std.proofs.lemmas.Bool.Decides.{nat_tests}
use Rattle.std.proofs.lemmas.List.{length-map}
use Rattle.std.proofs.lemmas.Slice.Eq.{bytes_eq-Decides}
use Rattle.std.specs.Char.{to_ascii_lowercase}
use Rattle.std.specs.List.{list_all}
use Rattle.std.specs.Prelude.{nat_lt, ◌&&◌}
use Rattle.std.specs.Str.{bytes_eq}
use Rattle.haya_bibtex_fields.specs.Languages.{language_tags, tag_of}
use Rattle.haya_bibtex_fields.specs.Tables.{Table, text_under}

both : (a b : Bool) → (a && b) ≡ true → (a ≡ true) × (b ≡ true)
both true true e = (refl, refl)
both true false e = cc
both false b e = cc

-- a name is no key that is longer
not_key : (n key : List ℕ) → length n < 4 → nat_lt 3 (length key) ≡ true → bytes_eq n key ≡ false
not_key n key s l =
    (elim (bytes_eq n key) as (λ b. bytes_eq n key ≡ b → b ≡ false) [
      | true ↦ λ q.
          let same : length n ≡ length key = ap length ((bytes_eq-Decides n key).0 q) in
          let long : 3 < length key = grind (arith, nat_tests) in
          absurd (omega arith)
      | false ↦ λ q. refl
    ])
    refl

none_short : (rows : Table) (n : List ℕ) → list_all (λ r. nat_lt 3 (length r.0)) rows ≡ true → length n < 4 →
    text_under rows n ≡ None
none_short [] n l s = refl
none_short (r ∷ rows) n l s =
    let p = both (nat_lt 3 (length r.0)) (list_all (λ r. nat_lt 3 (length r.0)) rows) l in
    rw (not_key n r.0 s p.0) (none_short rows n p.1 s)

all_long : list_all (λ r. nat_lt 3 (length r.0)) language_tags ≡ true
unfolding language_tags
all_long = refl

pub short_tag : (n : List ℕ) → length n < 4 → tag_of n ≡ None
short_tag n s =
    let e : length (map to_ascii_lowercase n) ≡ length n = length-map n to_ascii_lowercase in
    none_short language_tags (map to_ascii_lowercase n) all_long (omega arith)

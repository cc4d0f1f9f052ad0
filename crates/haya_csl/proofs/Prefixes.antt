-- The place behind a prefix, which ends in a character of ASCII, is between two characters.
use Rattle.std.proofs.Common.{◌≡◌, ℕ, ◌+◌, ◌-◌, ◌<◌, ◌≤◌, Bool, true, false, ◌&&◌, List, length, take, map, get_or, refl, sym, ap, subst, ◌∙◌, arith}
use Rattle.std.specs.Char.{to_ascii_lowercase}
use Rattle.std.specs.Prelude.{nat_le}
use Rattle.std.specs.Str.{IsCharBoundary, IsUtf8}
use Rattle.std.proofs.Math.ListN.{get_or-map}
use Rattle.std.proofs.lemmas.Bool.{leb-true}
use Rattle.std.proofs.lemmas.Bool.Decides.{nat_tests}
use Rattle.std.proofs.lemmas.List.{get_or-take}
use Rattle.std.proofs.lemmas.Slice.Eq.{bytes_eq-Decides}
use Rattle.std.proofs.lemmas.Str.{IsCharBoundary-after_ascii}
use Rattle.haya_csl.specs.Kinds.{begins_with}

both : (a b : Bool) → (a && b) ≡ true → (a ≡ true) × (b ≡ true)
both true b h = (refl, h)
both false b h = absurd (cc)

ascii_before : (c d : ℕ) → to_ascii_lowercase c ≡ to_ascii_lowercase d → d < 128 → c < 128
ascii_before c d e h = grind (arith, nat_tests)

last_ascii : (n : ℕ) (prefix text : List ℕ) → 0 < n → map to_ascii_lowercase (take n text) ≡ map to_ascii_lowercase prefix
    → get_or prefix (n - 1) 0 < 128 → get_or text (n - 1) 0 < 128
last_ascii n prefix text some e ascii =
    let inside : n - 1 < n = omega arith in
    let lower : to_ascii_lowercase (get_or (take n text) (n - 1) 0) ≡ to_ascii_lowercase (get_or prefix (n - 1) 0) =
    sym (get_or-map to_ascii_lowercase (take n text) (n - 1) 0) ∙ ap (λ l. get_or l (n - 1) 0) e ∙ get_or-map to_ascii_lowercase prefix (n - 1) 0 in
    let same : get_or (take n text) (n - 1) 0 ≡ get_or text (n - 1) 0 = get_or-take n text (n - 1) 0 inside in
    ascii_before _ _ (subst (λ k. to_ascii_lowercase k ≡ to_ascii_lowercase (get_or prefix (n - 1) 0)) same lower) ascii

pub boundary : (prefix text : List ℕ) → IsUtf8 text → 0 < length prefix → get_or prefix (length prefix - 1) 0 < 128
    → begins_with prefix text ≡ true → IsCharBoundary text (length prefix)
boundary prefix text utf8 some ascii h =
    let parts = both (nat_le (length prefix) (length text)) _ h in
    let fits : length prefix ≤ length text = leb-true _ _ parts.0 in
    let same = (bytes_eq-Decides (map to_ascii_lowercase (take (length prefix) text)) (map to_ascii_lowercase prefix)).0 parts.1 in
    let last : length prefix - 1 < length text = omega arith in
    let at : length prefix - 1 + 1 ≡ length prefix = omega arith in
    subst (λ k. IsCharBoundary text k) at
    (IsCharBoundary-after_ascii text (length prefix - 1) utf8 last (last_ascii (length prefix) prefix text some same ascii))

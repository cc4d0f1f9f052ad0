-- Places in a text where it may be cut.
use Rattle.std.proofs.Common.{◌≡◌, ℕ, zero, suc, ◌+◌, ◌<◌, ◌≤◌, List, length, get_or, Bool, true, arith}
use Rattle.std.specs.Str.{IsUtf8, IsCharBoundary}
use Rattle.std.proofs.lemmas.Str.{IsCharBoundary-start, IsCharBoundary-after_ascii}
use Rattle.std.proofs.lemmas.List.Sums.{prefix_len-le-length, prefix_len_passes}
use Rattle.haya_yaml_text.specs.Signs.{is_blank, blanks}

pub blank_is_ascii : (tabs : Bool) (c : ℕ) → is_blank tabs c ≡ true → c < 128
blank_is_ascii tabs c blank = grind arith

pub within_blanks : (tabs : Bool) (text : List ℕ) (n : ℕ) → IsUtf8 text → n ≤ blanks tabs text → IsCharBoundary text n
within_blanks tabs text zero utf8 e = IsCharBoundary-start text utf8
within_blanks tabs text (suc m) utf8 e =
    let most = prefix_len-le-length (is_blank tabs) text in
    let within : m < length text = omega (arith, e, most) in
    let blank : is_blank tabs (get_or text m 0) ≡ true = prefix_len_passes (is_blank tabs) text m 0 (omega (arith, e)) in
    let next : suc m ≡ m + 1 = omega arith in
    rw next (IsCharBoundary-after_ascii text m utf8 within (blank_is_ascii tabs (get_or text m 0) blank))

-- a text may be cut behind the blanks that begin it
pub behind_blanks : (tabs : Bool) (text : List ℕ) → IsUtf8 text → IsCharBoundary text (blanks tabs text)
behind_blanks tabs text utf8 = within_blanks tabs text (blanks tabs text) utf8 (omega arith)

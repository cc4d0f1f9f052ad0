-- The position behind the characters of a text that were taken.
use Rattle.std.proofs.Common.{◌≡◌, ◌+◌, ◌<◌, ◌≤◌, ◌^◌, ◌==◌, ℕ, Bool, true, false, List, [], length, refl, ap, sym, ◌∙◌, arith}
use Rattle.std.proofs.lemmas.Str.{encodes-chars, len_utf8_bounds}
use Rattle.std.specs.Prelude.{fold, if◌then◌else◌}
use Rattle.std.specs.Str.{IsUtf8, chars, encode_utf8_all}
use Rattle.haya_text.specs.Cursor.{IsPast, Left, text_len}
use Rattle.haya_json.specs.Position.{behind_char, position_behind, start}
use Rattle.haya_json.specs.declared.position.Position.{Position}

-- What is left leads from the position to that behind the whole text, and no number of it is greater
-- than the place and one.
pub record IsAt (text : List ℕ) (left : Left) (at : Position) : Type 0 where
  pub whole : fold behind_char at left.rest ≡ position_behind (chars text)
  pub line : at.line ≤ left.place + 1
  pub column : at.column ≤ left.place + 1
  pub size : text_len left ≡ length (encode_utf8_all (chars text))

pub at_start : (text : List ℕ) (left : Left) → left ≡ record { place = 0; rest = chars text } → IsAt text left start
at_start text left is = rw is (record { whole = refl; line = omega arith; column = omega arith; size = omega arith })

next_line : (at : Position) (c n : ℕ) → at.line + 1 ≤ n → (behind_char at c).line ≤ n
next_line at c n h = by (c == 10)
  where
    by : (b : Bool) → (let q : Position = if b then record { line = at.line + 1; column = 1 } else record { line = at.line; column = at.column + 1 } in q.line ≤ n)
    by true = h
    by false = omega arith

next_column : (at : Position) (c n : ℕ) → 1 ≤ n → at.column + 1 ≤ n → (behind_char at c).column ≤ n
next_column at c n one h = by (c == 10)
  where
    by : (b : Bool) → (let q : Position = if b then record { line = at.line + 1; column = 1 } else record { line = at.line; column = at.column + 1 } in q.column ≤ n)
    by true = one
    by false = h

pub at_next : (text : List ℕ) (c : ℕ) (old new : Left) (at : Position) → IsAt text old at → IsPast c old new → text_len new ≡ text_len old → IsAt text new (behind_char at c)
at_next text c old new at i p same =
    let some = (len_utf8_bounds c).0 in
    record {
      whole = ap (fold behind_char at) (sym p.rest) ∙ i.whole;
      line = next_line at c (new.place + 1) (omega (arith, i.line, p.place, some));
      column = next_column at c (new.place + 1) (omega arith) (omega (arith, i.column, p.place, some));
      size = same ∙ i.size;
    }

pub at_end : (text : List ℕ) (left : Left) (at : Position) → IsAt text left at → left.rest ≡ [] → at ≡ position_behind (chars text)
at_end text left at i none = ap (fold behind_char at) (sym none) ∙ i.whole

-- before a character there is room for one more line or column
pub has_room : (text : List ℕ) (c : ℕ) (old new : Left) (at : Position) → IsUtf8 text → IsAt text old at → IsPast c old new → text_len new ≡ text_len old → length text < 2 ^ 63
    → (at.line + 1 < 2 ^ 64) × (at.column + 1 < 2 ^ 64)
has_room text c old new at u i p same short =
    let size : length (encode_utf8_all (chars text)) ≡ length text = ap length (encodes-chars text u) in
    let some = (len_utf8_bounds c).0 in
    (omega (arith, i.line, i.size, p.place), omega (arith, i.column, i.size, p.place))

use Rattle.std.proofs.Common.{◌≡◌, ℕ, ◌+◌, ◌<◌, true, false, length, slice_index_or, [], ◌∷◌, ◌++◌, ◌∙◌, ap, sym, rules, arith}
use Rattle.std.proofs.lemmas.List.Elements.{recursion_from_All}
use Rattle.std.specs.Prelude.{slice_get, IfSome}
use Rattle.std.specs.Str.{chars, encode_utf8_all}
use Rattle.haya_text.specs.Cursor.{text_len}
use Rattle.haya_numbers.specs.Pieces.{is_separator}
use Rattle.haya_numbers.proofs.Places.{cut_at}
use Rattle.haya_numbers.proofs.PieceLemmas.{piece_cut, pieces-separator, pieces-run}
use Rattle.haya_numbers.proofs.page.pieces.split_piece.Goals as goal

pub split_at-requires : goal.split_at-requires
split_at-requires c =
    let one : chars c.args.text.now ≡ c.in_ok-first.first ∷ c.eat.new.self.rest = ap (λ l. l.rest) (sym c.new-cursor.ensures) ∙ c.in_ok-first.ensures.taken.rest in
    let len : c.place.result + length (encode_utf8_all c.eat.new.self.rest) ≡ length (encode_utf8_all (chars c.args.text.now)) = omega (arith, c.place.ensures, c.in_ok-first.ensures.same_text, ap text_len c.new-cursor.ensures) in
    (cut_at c.args.text.now (c.in_ok-first.first ∷ []) c.eat.new.self.rest c.place.result c.utf8.text one len).boundary

pub returns-then-is_separator : goal.returns-then-is_separator
returns-then-is_separator c =
    let one : chars c.args.text.now ≡ c.in_ok-first.first ∷ c.eat.new.self.rest = ap (λ l. l.rest) (sym c.new-cursor.ensures) ∙ c.in_ok-first.ensures.taken.rest in
    let len : c.place.result + length (encode_utf8_all c.eat.new.self.rest) ≡ length (encode_utf8_all (chars c.args.text.now)) = omega (arith, c.place.ensures, c.in_ok-first.ensures.same_text, ap text_len c.new-cursor.ensures) in
    rw (c.split_at.ensures.front, c.split_at.ensures.back) (piece_cut c.args.text.now (c.in_ok-first.first ∷ []) c.eat.new.self.rest c.place.result c.utf8.text one len (pieces-separator c.in_ok-first.first c.eat.new.self.rest (sym c.is_separator.ensures ∙ c.if-is_separator.true)))

pub split_at-requires-2 : goal.split_at-requires-2
split_at-requires-2 c =
    let all : chars c.args.text.now ≡ c.in_ok-first.first ∷ (chars c.eat_while.result.now ++ c.eat_while.new.self.rest) = ap (λ l. l.rest) (sym c.new-cursor.ensures) ∙ c.in_ok-first.ensures.taken.rest ∙ ap (λ l. c.in_ok-first.first ∷ l) c.eat_while.ensures.taken in
    let len : c.place-2.result + length (encode_utf8_all c.eat_while.new.self.rest) ≡ length (encode_utf8_all (chars c.args.text.now)) = omega (arith, c.place-2.ensures, c.eat_while.ensures.same_text, c.in_ok-first.ensures.same_text, ap text_len c.new-cursor.ensures) in
    (cut_at c.args.text.now (c.in_ok-first.first ∷ chars c.eat_while.result.now) c.eat_while.new.self.rest c.place-2.result c.utf8.text all len).boundary

pub returns : goal.returns
returns c =
    let all : chars c.args.text.now ≡ c.in_ok-first.first ∷ (chars c.eat_while.result.now ++ c.eat_while.new.self.rest) = ap (λ l. l.rest) (sym c.new-cursor.ensures) ∙ c.in_ok-first.ensures.taken.rest ∙ ap (λ l. c.in_ok-first.first ∷ l) c.eat_while.ensures.taken in
    let len : c.place-2.result + length (encode_utf8_all c.eat_while.new.self.rest) ≡ length (encode_utf8_all (chars c.args.text.now)) = omega (arith, c.place-2.ensures, c.eat_while.ensures.same_text, c.in_ok-first.ensures.same_text, ap text_len c.new-cursor.ensures) in
    let plain : (k d : ℕ) → k < length (chars c.eat_while.result.now) → is_separator (slice_index_or (chars c.eat_while.result.now) k d) ≡ false = λ k d lt. let h = c.eat_while.ensures.accepted k d lt in search (rules, h) in
    let stops : IfSome (slice_get c.eat_while.new.self.rest 0) (λ d. is_separator d ≡ true) = let h = c.eat_while.ensures.stops in search (rules, h) in
    rw (c.split_at-2.ensures.front, c.split_at-2.ensures.back) (piece_cut c.args.text.now (c.in_ok-first.first ∷ chars c.eat_while.result.now) c.eat_while.new.self.rest c.place-2.result c.utf8.text all len
    (pieces-run c.in_ok-first.first (chars c.eat_while.result.now) c.eat_while.new.self.rest (sym c.is_separator.ensures ∙ c.if-is_separator.false) (recursion_from_All (λ d. is_separator d ≡ false) (chars c.eat_while.result.now) plain) stops))

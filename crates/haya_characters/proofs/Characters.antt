-- Texts that grow by a character.
use Rattle.std.proofs.Common.{◌≡◌, ◌<◌, ℕ, ◌+◌, ◌≤◌, List, [], ◌∷◌, ◌++◌, length, take, drop, map, get_or, ap, sym, ◌∙◌, arith, append_assoc, append-nil, length-append}
use Rattle.std.proofs.Math.Seq.{drop-append_seam, take-append_seam}
use Rattle.std.proofs.lemmas.Str.{IsCharBoundary-from_take, encodes-chars, IsUtf8-drop, IsUtf8-string_bytes, IsUtf8-take, chars-append, chars-nil, chars_past_char}
use Rattle.std.proofs.lemmas.List.{map-append, take-append-drop, take_more}
use Rattle.std.specs.Char.{encode_utf8}
use Rattle.std.specs.Str.{IsCharBoundary, IsUtf8, chars}
use Rattle.std.specs.Prelude.{String, encode_utf8_all}
use Rattle.std.specs.String.{string_bytes}
use Rattle.std.specs.declared.alloc.Global.{Global}

-- what follows a text in a text is one
behind_utf8 : (xs ys : List ℕ) → IsUtf8 xs → IsUtf8 (xs ++ ys) → IsUtf8 ys
behind_utf8 xs ys u v =
    let front : IsUtf8 (take (length xs) (xs ++ ys)) = rw (take-append_seam xs ys) u in
    let within : length xs ≤ length (xs ++ ys) = omega (arith, length-append xs ys) in
    rw (drop-append_seam xs ys) at (IsUtf8-drop (xs ++ ys) (length xs) v (IsCharBoundary-from_take (xs ++ ys) (length xs) v within front))

chars-push : (old new : List ℕ) (c : ℕ) → IsUtf8 old → IsUtf8 new → new ≡ old ++ encode_utf8 c
    → chars new ≡ chars old ++ (c ∷ [])
chars-push old new c u v e =
    let one : IsUtf8 (encode_utf8 c) = behind_utf8 old (encode_utf8 c) u (rw e at v) in
    let alone : chars (encode_utf8 c) ≡ c ∷ [] = chars_past_char (encode_utf8 c) [] c one (sym (append-nil (encode_utf8 c))) ∙ ap (λ l. c ∷ l) chars-nil in
    ap chars e ∙ chars-append old (encode_utf8 c) u ∙ ap (λ l. chars old ++ l) alone

-- a character more
pub chars-more : (old new : String Global) (c : ℕ) → string_bytes new ≡ string_bytes old ++ encode_utf8 c
    → chars (string_bytes new) ≡ chars (string_bytes old) ++ (c ∷ [])
chars-more old new c e =
    chars-push (string_bytes old) (string_bytes new) c (IsUtf8-string_bytes old) (IsUtf8-string_bytes new) e

-- a text more
pub chars-joined : (old new : String Global) (more : List ℕ) → string_bytes new ≡ string_bytes old ++ more
    → chars (string_bytes new) ≡ chars (string_bytes old) ++ chars more
chars-joined old new more e =
    ap chars e ∙ chars-append (string_bytes old) more (IsUtf8-string_bytes old)

-- one more character of a list, as f makes it
pub map-take-more : (f : ℕ → ℕ) (before old new xs : List ℕ) (i c d : ℕ) → i < length xs → c ≡ get_or xs i c
    → d ≡ f c → old ≡ before ++ map f (take i xs) → new ≡ old ++ (d ∷ []) → new ≡ before ++ map f (take (i + 1) xs)
map-take-more f before old new xs i c d l at is so_far grown =
    let more : take (i + 1) xs ≡ take i xs ++ (c ∷ []) = take_more xs i c l ∙ ap (λ x. take i xs ++ (x ∷ [])) (sym at) in
    rw (grown, so_far, is, more, map-append f (take i xs) (c ∷ [])) (append_assoc before (map f (take i xs)) (f c ∷ []))

pub take-more : (before old new xs : List ℕ) (i c : ℕ) → i < length xs → c ≡ get_or xs i c
    → old ≡ before ++ take i xs → new ≡ old ++ (c ∷ []) → new ≡ before ++ take (i + 1) xs
take-more before old new xs i c l at so_far grown =
    let more : take (i + 1) xs ≡ take i xs ++ (c ∷ []) = take_more xs i c l ∙ ap (λ x. take i xs ++ (x ∷ [])) (sym at) in
    rw (grown, so_far, more) (append_assoc before (take i xs) (c ∷ []))

-- a text that is cut between two characters
pub chars-cut : (bs front back : List ℕ) (n : ℕ) → IsUtf8 bs → IsCharBoundary bs n → front ≡ take n bs → back ≡ drop n bs
    → chars bs ≡ chars front ++ chars back
chars-cut bs front back n u at f b =
    rw (f, b) (ap chars (sym (take-append-drop n bs)) ∙ chars-append (take n bs) (drop n bs) (IsUtf8-take bs n u at))

-- a text is the UTF-8 of its characters
pub spelled : (text : String Global) (xs : List ℕ) → chars (string_bytes text) ≡ xs → string_bytes text ≡ encode_utf8_all xs
spelled text xs e = sym (encodes-chars (string_bytes text) (IsUtf8-string_bytes text)) ∙ ap encode_utf8_all e

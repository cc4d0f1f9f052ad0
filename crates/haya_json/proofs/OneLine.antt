-- What is printed of JSON is one line: no byte of it is below 32.
use Rattle.std.proofs.Common.{◌≡◌, ℕ, ◌≤◌, ◌/◌, ◌%◌, Bool, true, false, cond, ◌&&◌, nat_lt, List, [], ◌∷◌, ◌++◌, refl, arith}
use Rattle.std.specs.Prelude.{All, nat_le}
use Rattle.std.specs.List.{list_all}
use Rattle.std.proofs.lemmas.List.Sums.{AllPass-from_list_all}
use Rattle.std.specs.Char.{digit_char}
use Rattle.std.proofs.lemmas.Bool.Decides.{nat_tests}
use Rattle.std.proofs.lemmas.List.Elements.{All-append, All-cons, All-nil, All-weaker}
use Rattle.json.specs.Token.{Token, begin_object, end_object, begin_array, end_array, key, string, number, boolean, null, bad}
use Rattle.json.specs.Json.{Json}
use Rattle.json.specs.Print.{ArePrintable, IsPrintable, begins, ends, escape, escape_byte, escape_letter, print, print_from, quoted, separator, token_text}
use Rattle.json.specs.Tree.{HasNumbers, json_tokens}
use Rattle.json.proofs.Printed.Trees.{ArePrintable-json_tokens}
use Rattle.haya_json.proofs.NumberBytes.{IsNumberByte, number_bytes}

-- no byte is below 32, as a line feed and a carriage return are
abbrev pub IsVisible : List ℕ → Type 0
IsVisible = All (λ b. 32 ≤ b)

-- no byte at all
none : IsVisible []
none = All-nil (λ b. 32 ≤ b)

-- one byte more
one : (b : ℕ) (bs : List ℕ) → 32 ≤ b → IsVisible bs → IsVisible (b ∷ bs)
one b bs = All-cons (λ c. 32 ≤ c) b bs

-- one text, and then another
both : (a b : List ℕ) → IsVisible a → IsVisible b → IsVisible (a ++ b)
both = All-append (λ b. 32 ≤ b)

-- so is a text that is written out, by computing
literal : (bs : List ℕ) → list_all (nat_le 32) bs ≡ true → IsVisible bs
literal bs h = All-weaker (λ b. nat_le 32 b ≡ true) (λ b. 32 ≤ b) (λ b is. grind (arith, nat_tests)) bs (AllPass-from_list_all (nat_le 32) bs h)

-- the letter of a short escape
letter_visible : (x : ℕ) → nat_lt 0 (escape_letter x) ≡ true → 32 ≤ escape_letter x
letter_visible x h = grind (arith, nat_tests)

-- a hexadecimal digit
digit_visible : (d : ℕ) → 32 ≤ digit_char d
digit_visible d = grind (arith, nat_tests)

-- what a string has for a byte
escape_byte_visible : (x : ℕ) → IsVisible (escape_byte x)
unfolding escape_byte
escape_byte_visible x = by (nat_lt 0 (escape_letter x)) (nat_lt x 32) refl refl
  where
    by : (a b : Bool) → nat_lt 0 (escape_letter x) ≡ a → nat_lt x 32 ≡ b
        → IsVisible (cond a (92 ∷ escape_letter x ∷ []) (cond b (92 ∷ 117 ∷ 48 ∷ 48 ∷ digit_char (x / 16) ∷ digit_char (x % 16) ∷ []) (x ∷ [])))
    by true b short e = one 92 (escape_letter x ∷ []) (omega arith) (one (escape_letter x) [] (letter_visible x short) none)
    by false true plain low =
        let digits : List ℕ = digit_char (x / 16) ∷ digit_char (x % 16) ∷ [] in
        both (92 ∷ 117 ∷ 48 ∷ 48 ∷ []) digits (literal (92 ∷ 117 ∷ 48 ∷ 48 ∷ []) refl)
        (one (digit_char (x / 16)) (digit_char (x % 16) ∷ []) (digit_visible (x / 16)) (one (digit_char (x % 16)) [] (digit_visible (x % 16)) none))
    by false false plain high = let visible : 32 ≤ x = grind (arith, nat_tests) in one x [] visible none

-- what stands there for a text
escape_visible : (s : List ℕ) → IsVisible (escape s)
escape_visible [] = none
escape_visible (x ∷ s) = both (escape_byte x) (escape s) (escape_byte_visible x) (escape_visible s)

-- a string in its quotes
quoted_visible : (s : List ℕ) → IsVisible (quoted s)
quoted_visible s = one 34 (escape s ++ 34 ∷ []) (omega arith) (both (escape s) (34 ∷ []) (escape_visible s) (literal (34 ∷ []) refl))

-- the text of a token
token_visible : (t : Token) → IsPrintable t → IsVisible (token_text t)
token_visible begin_object p = literal (123 ∷ []) refl
token_visible end_object p = literal (125 ∷ []) refl
token_visible begin_array p = literal (91 ∷ []) refl
token_visible end_array p = literal (93 ∷ []) refl
token_visible (key s) p = both (quoted s) (58 ∷ []) (quoted_visible s) (literal (58 ∷ []) refl)
token_visible (string s) p = quoted_visible s
token_visible (number s) p = All-weaker IsNumberByte (λ b. 32 ≤ b) (λ b is. omega arith) s (number_bytes s p)
token_visible (boolean true) p = literal (116 ∷ 114 ∷ 117 ∷ 101 ∷ []) refl
token_visible (boolean false) p = literal (102 ∷ 97 ∷ 108 ∷ 115 ∷ 101 ∷ []) refl
token_visible null p = literal (110 ∷ 117 ∷ 108 ∷ 108 ∷ []) refl
token_visible bad p = absurd p

-- a comma, or nothing
separator_visible : (after_value : Bool) (t : Token) → IsVisible (separator after_value t)
separator_visible after_value t = by (after_value && begins t)
  where
    by : (b : Bool) → IsVisible (cond b (44 ∷ []) [])
    by true = literal (44 ∷ []) refl
    by false = none

-- what is printed of tokens
printed_visible : (after_value : Bool) (ts : List Token) → ArePrintable ts → IsVisible (print_from after_value ts)
unfolding print_from ArePrintable
printed_visible after_value [] p = none
printed_visible after_value (t ∷ ts) p =
    both (separator after_value t) (token_text t ++ print_from (ends t) ts) (separator_visible after_value t)
    (both (token_text t) (print_from (ends t) ts) (token_visible t p.0) (printed_visible (ends t) ts p.1))

-- what is printed of JSON whose numbers are numbers
pub printed_json : (j : Json) → HasNumbers j → IsVisible (print (json_tokens j))
printed_json j numbers = printed_visible false (json_tokens j) (ArePrintable-json_tokens j numbers)

-- Keys as they are shown.
use Rattle.std.proofs.Common.{◌≡◌, ◌≢◌, ℕ, suc, ◌+◌, ◌<◌, Bool, true, false, cond, List, [], ◌∷◌, ◌++◌, Option, length, get_or, flat_map, refl, sym, ap, ◌∙◌, subst, append-nil, rules, tests, arith}
use Rattle.std.specs.Prelude.{◌==◌, All}
use Rattle.std.specs.Char.{encode_utf8}
use Rattle.std.proofs.lemmas.List.Elements.{All-append, All-cons, All-nil}
use Rattle.std.proofs.Math.Utf8.{encodes}
use Rattle.std.specs.Str.{IsUtf8, chars}
use Rattle.std.proofs.lemmas.Grind.{flat_map-append}
use Rattle.std.proofs.lemmas.Str.{encodes-chars, inside_one}
use Rattle.haya_hits.specs.Line.{IsLine, binding_text}
use Rattle.haya_hits.specs.Shown.{IsOneLine, backslash, shown_byte, shown_key}

-- ---- what is shown reads back

-- the byte that a letter behind a backslash shows
abbrev meant : ℕ → ℕ
meant c = cond (c == 116) 9 (cond (c == 110) 10 (cond (c == 114) 13 c))

-- the bytes that are shown, where the first may be behind a backslash
abbrev read : Bool → List ℕ → List ℕ
read behind [] = []
read true (b ∷ bs) = meant b ∷ read false bs
read false (b ∷ bs) = cond (b == backslash) (read true bs) (b ∷ read false bs)

backslash_read : (b : ℕ) (rest : List ℕ) → b ≡ 92 → read false (cond (b == 92) (92 ∷ 92 ∷ []) (b ∷ []) ++ rest) ≡ b ∷ read false rest
backslash_read b rest e = subst (λ n. read false (cond (n == 92) (92 ∷ 92 ∷ []) (n ∷ []) ++ rest) ≡ n ∷ read false rest) (sym e) refl

read-shown_byte : (b : ℕ) (rest : List ℕ) → read false (shown_byte b ++ rest) ≡ b ∷ read false rest
read-shown_byte b rest = by (b == 9) (b == 10) (b == 13) (b == 92) refl refl refl refl
  where
    by : (t f r s : Bool) → (b == 9) ≡ t → (b == 10) ≡ f → (b == 13) ≡ r → (b == 92) ≡ s → read false (shown_byte b ++ rest) ≡ b ∷ read false rest
    by true f r s is _ _ _ = let e : b ≡ 9 = search (rules, tests) in rw is (ap (λ x. x ∷ read false rest) (sym e))
    by false true r s n1 is _ _ = let e : b ≡ 10 = search (rules, tests) in rw (n1, is) (ap (λ x. x ∷ read false rest) (sym e))
    by false false true s n1 n2 is _ = let e : b ≡ 13 = search (rules, tests) in rw (n1, n2, is) (ap (λ x. x ∷ read false rest) (sym e))
    by false false false true n1 n2 n3 is = let e : b ≡ 92 = search (rules, tests) in rw (n1, n2, n3) (backslash_read b rest e)
    by false false false false n1 n2 n3 n4 = rw (n1, n2, n3, n4, n4) refl

read-shown : (key : List ℕ) → read false (shown_key key) ≡ key
read-shown [] = refl
read-shown (b ∷ key) = read-shown_byte b (shown_key key) ∙ ap (λ l. b ∷ l) (read-shown key)

pub shown-apart : (a b : List ℕ) → shown_key a ≡ shown_key b → a ≡ b
shown-apart a b same = sym (read-shown a) ∙ ap (read false) same ∙ read-shown b

-- ---- no line feed is shown
abbrev NoFeed : List ℕ → Type 0
NoFeed bs = All (λ b. b ≢ 10) bs

one : (b : ℕ) → b ≢ 10 → NoFeed (b ∷ [])
one b h = All-cons (λ b. b ≢ 10) b [] h (All-nil (λ b. b ≢ 10))

two : (b c : ℕ) → b ≢ 10 → c ≢ 10 → NoFeed (b ∷ c ∷ [])
two b c h i = All-cons (λ b. b ≢ 10) b (c ∷ []) h (one c i)

no_feed-byte : (b : ℕ) → NoFeed (shown_byte b)
no_feed-byte b = by (b == 9) (b == 10) (b == 13) (b == 92) refl refl refl refl
  where
    by : (t f r s : Bool) → (b == 9) ≡ t → (b == 10) ≡ f → (b == 13) ≡ r → (b == 92) ≡ s → NoFeed (shown_byte b)
    by true f r s is _ _ _ = rw is (two 92 116 (λ h. omega (arith, h)) (λ h. omega (arith, h)))
    by false true r s n1 is _ _ = rw (n1, is) (two 92 110 (λ h. omega (arith, h)) (λ h. omega (arith, h)))
    by false false true s n1 n2 is _ = rw (n1, n2, is) (two 92 114 (λ h. omega (arith, h)) (λ h. omega (arith, h)))
    by false false false true n1 n2 n3 is = rw (n1, n2, n3, is) (two 92 92 (λ h. omega (arith, h)) (λ h. omega (arith, h)))
    by false false false false n1 n2 n3 n4 = let other : b ≢ 10 = search (rules, tests) in rw (n1, n2, n3, n4) (one b other)

pub no_feed-key : (key : List ℕ) → All (λ b. b ≢ 10) (shown_key key)
no_feed-key [] = All-nil (λ b. b ≢ 10)
no_feed-key (b ∷ key) = All-append (λ b. b ≢ 10) (shown_byte b) (shown_key key) (no_feed-byte b) (no_feed-key key)

-- ---- the bytes of a character
plain_byte : (b : ℕ) → b ≢ 9 → b ≢ 10 → b ≢ 13 → b ≢ 92 → shown_byte b ≡ b ∷ []
plain_byte b n1 n2 n3 n4 =
    let f1 : (b == 9) ≡ false = search (rules, tests) in
    let f2 : (b == 10) ≡ false = search (rules, tests) in
    let f3 : (b == 13) ≡ false = search (rules, tests) in
    let f4 : (b == 92) ≡ false = search (rules, tests) in
    rw (f1, f2, f3, f4) refl

plain_bytes : (bs : List ℕ) → ((k : ℕ) → k < length bs → shown_byte (get_or bs k 0) ≡ get_or bs k 0 ∷ []) → shown_key bs ≡ bs
plain_bytes [] h = refl
plain_bytes (b ∷ bs) h = ap (λ l. l ++ shown_key bs) (h 0 (omega arith)) ∙ ap (λ l. b ∷ l) (plain_bytes bs (λ k d. h (suc k) (omega arith)))

-- those of one that is shown as it is
pub shown-char : (c : ℕ) → c ≢ 9 → c ≢ 10 → c ≢ 13 → c ≢ 92 → encode_utf8 c ≡ shown_key (encode_utf8 c)
shown-char c n1 n2 n3 n4 = sym (plain_bytes (encode_utf8 c) at)
  where
    other : (k n : ℕ) → k < length (encode_utf8 c) → n < 128 → c ≢ n → get_or (encode_utf8 c) k 0 ≢ n
    other k n d low differs is = differs (inside_one c [] (encode_utf8 c) k (sym (append-nil (encode_utf8 c))) d (omega (arith, is)) ∙ is)

    at : (k : ℕ) → k < length (encode_utf8 c) → shown_byte (get_or (encode_utf8 c) k 0) ≡ get_or (encode_utf8 c) k 0 ∷ []
    at k d = plain_byte (get_or (encode_utf8 c) k 0) (other k 9 d (omega arith) n1) (other k 10 d (omega arith) n2) (other k 13 d (omega arith) n3) (other k 92 d (omega arith) n4)

-- those of characters one after another
shown-chars : (cs : List ℕ) → flat_map (λ c. shown_key (encode_utf8 c)) cs ≡ shown_key (encodes cs)
shown-chars [] = refl
shown-chars (c ∷ cs) = ap (λ l. shown_key (encode_utf8 c) ++ l) (shown-chars cs) ∙ sym (flat_map-append shown_byte (encode_utf8 c) (encodes cs))

pub shown-text : (text : List ℕ) → IsUtf8 text → flat_map (λ c. shown_key (encode_utf8 c)) (chars text) ≡ shown_key text
shown-text text utf8 = shown-chars (chars text) ∙ ap shown_key (encodes-chars text utf8)

-- ---- the line of shown texts has one line feed
no_feed-binding : (p : List ℕ × List ℕ) → NoFeed (binding_text shown_key p)
no_feed-binding p =
    All-cons (λ b. b ≢ 10) 9 (shown_key p.0 ++ 61 ∷ shown_key p.1) (λ h. omega (arith, h))
    (All-append (λ b. b ≢ 10) (shown_key p.0) (61 ∷ shown_key p.1) (no_feed-key p.0) (All-cons (λ b. b ≢ 10) 61 (shown_key p.1) (λ h. omega (arith, h)) (no_feed-key p.1)))

no_feed-bindings : (names : List (List ℕ × List ℕ)) → NoFeed (flat_map (binding_text shown_key) names)
no_feed-bindings [] = All-nil (λ b. b ≢ 10)
no_feed-bindings (p ∷ names) =
    All-append (λ b. b ≢ 10) (binding_text shown_key p) (flat_map (binding_text shown_key) names) (no_feed-binding p) (no_feed-bindings names)

pub one_line : (key : List ℕ) (stands_for : List ℕ → Option (List ℕ)) (line : List ℕ) → IsLine shown_key key stands_for line → IsOneLine line
one_line key stands_for line is = record {
  before = shown_key key ++ flat_map (binding_text shown_key) is.names;
  ends = is.text;
  no_other = All-append (λ b. b ≢ 10) (shown_key key) (flat_map (binding_text shown_key) is.names) (no_feed-key key) (no_feed-bindings is.names);
}

-- The texts of JSON that is UTF-8 are UTF-8.
use Rattle.std.proofs.Common.{◌≡◌, ℕ, zero, suc, ◌+◌, ◌*◌, ◌<◌, ◌≤◌, Bool, true, false, cond, ◌&&◌, ◌||◌, ◌==◌, nat_lt, List, [], ◌∷◌, ◌++◌, length, get_or, Option, Some, None, option_and_then, inl, inr, refl, sym, ap, ◌∙◌, subst, arith, IsUtf8, ltb-true}
use Rattle.std.proofs.lemmas.Bool.{and_parts, cases_lt}
use Rattle.std.proofs.lemmas.Bool.Decides.{nat_tests}
use Rattle.std.proofs.lemmas.List.{append-nil, length-append}
use Rattle.std.proofs.lemmas.Str.{IsUtf8-append, IsUtf8-nil, IsUtf8-encode, IsUtf8-past_char, encode_ascii, inside_one, length-encode, len_utf8_bounds}
use Rattle.std.specs.Char.{digit_value, is_digit, encode_utf8}
use lib.Utf8.{scalar, scalars, encode, encodes, low_scalar}
use Rattle.json.specs.Text.{Within, plain, after_backslash, after_u, after_high, code_unit, short_escape, is_high_surrogate, is_low_surrogate, surrogate_pair, prepend, content}

pub one_utf8 : (x : ℕ) → x < 128 → IsUtf8 (x ∷ [])
one_utf8 x small = subst IsUtf8 (encode_ascii x small) (IsUtf8-encode x (low_scalar x (omega arith)))

-- what is behind an ASCII byte
pub tail_utf8 : (x : ℕ) (xs : List ℕ) → x < 128 → IsUtf8 (x ∷ xs) → IsUtf8 xs
tail_utf8 x xs small u = IsUtf8-past_char (x ∷ xs) xs x u (ap (λ l. l ++ xs) (sym (encode_ascii x small)))

-- a character that isn't ASCII, and what is behind it
record HasFirst (bs : List ℕ) : Type 0 where
  c : ℕ
  rest : List ℕ
  is_scalar : scalar c ≡ true
  joined : bs ≡ encode c ++ rest
  utf8 : IsUtf8 rest

first_char : (x : ℕ) (xs : List ℕ) → IsUtf8 (x ∷ xs) → HasFirst (x ∷ xs)
first_char x xs ([], (s, e)) = absurd (let f : ⊥ = cc in f)
first_char x xs (c ∷ cs, (s, e)) =
    let both = and_parts (scalar c) (scalars cs) s in
    record { c = c; rest = encodes cs; is_scalar = both.0; joined = sym e; utf8 = (cs, (both.1, refl)) }

-- bytes above ASCII stand for themselves
high_run : (bs rest : List ℕ) → ((k : ℕ) → k < length bs → 128 ≤ get_or bs k 0) → content plain (bs ++ rest) ≡ prepend bs (content plain rest)
unfolding content
high_run [] rest h = by (content plain rest)
  where
    by : (o : Option (List ℕ)) → o ≡ prepend [] o
    by None = refl
    by (Some s) = refl
high_run (b ∷ bs) rest h =
    let high : 128 ≤ b = h 0 (omega arith) in
    let quote : (b == 34) ≡ false = grind (arith, nat_tests) in
    let backslash : (b == 92) ≡ false = grind (arith, nat_tests) in
    let control : nat_lt b 32 ≡ false = grind (arith, nat_tests) in
    rw (quote, backslash, control, high_run bs rest (λ k below. h (suc k) (omega arith))) (by (content plain rest))
  where
    by : (o : Option (List ℕ)) → prepend (b ∷ []) (prepend bs o) ≡ prepend (b ∷ bs) o
    by None = refl
    by (Some s) = refl

high_bytes : (c : ℕ) → 128 ≤ c → (k : ℕ) → k < length (encode c) → 128 ≤ get_or (encode c) k 0
high_bytes c big k below = elim (cases_lt (get_or (encode c) k 0) 128) [
  | inl low ↦ absurd (omega (arith, inside_one c [] (encode c) k (sym (append-nil _)) below low))
  | inr h ↦ h
]

-- digits, and what they spell
hex_ascii : (c : ℕ) → is_digit c 16 ≡ true → c < 123
hex_ascii c h = elim (cases_lt c 123) [
  | inl low ↦ low
  | inr high ↦ absurd (none high)
]
  where
    none : 123 ≤ c → ⊥
    none high =
        let a : nat_lt c 48 ≡ false = grind (arith, nat_tests) in
        let b : nat_lt c 58 ≡ false = grind (arith, nat_tests) in
        let d : nat_lt c 65 ≡ false = grind (arith, nat_tests) in
        let e : nat_lt c 91 ≡ false = grind (arith, nat_tests) in
        let f : nat_lt c 97 ≡ false = grind (arith, nat_tests) in
        let g : nat_lt c 123 ≡ false = grind (arith, nat_tests) in
        let no : false ≡ true = rw (a, b, d, e, f, g) at h in cc

record Spelled (a b c d u : ℕ) : Type 0 where
  first : a < 128
  second : b < 128
  third : c < 128
  fourth : d < 128
  small : u < 65536

spelled : (a b c d u : ℕ) → code_unit a b c d ≡ Some u → Spelled a b c d u
unfolding code_unit
spelled a b c d u h = by (is_digit a 16 && is_digit b 16 && is_digit c 16 && is_digit d 16) refl h
  where
    by : (t : Bool) → (is_digit a 16 && is_digit b 16 && is_digit c 16 && is_digit d 16) ≡ t → cond t (Some (digit_value a * 4096 + digit_value b * 256 + digit_value c * 16 + digit_value d)) None ≡ Some u → Spelled a b c d u
    by false e k = cc
    by true e k =
        let p = and_parts (is_digit a 16 && is_digit b 16 && is_digit c 16) (is_digit d 16) e in
        let q = and_parts (is_digit a 16 && is_digit b 16) (is_digit c 16) p.0 in
        let r = and_parts (is_digit a 16) (is_digit b 16) q.0 in
        let same : digit_value a * 4096 + digit_value b * 256 + digit_value c * 16 + digit_value d ≡ u = cc in
        record {
          first = omega (arith, hex_ascii a r.0);
          second = omega (arith, hex_ascii b r.1);
          third = omega (arith, hex_ascii c q.1);
          fourth = omega (arith, hex_ascii d p.1);
          small = omega (arith, same, ltb-true (digit_value a) 16 r.0, ltb-true (digit_value b) 16 r.1, ltb-true (digit_value c) 16 q.1, ltb-true (digit_value d) 16 p.1);
        }

record Prepended (bytes : List ℕ) (o : Option (List ℕ)) (s : List ℕ) : Type 0 where
  rest : List ℕ
  read : o ≡ Some rest
  joined : s ≡ bytes ++ rest

prepended : (bytes : List ℕ) (o : Option (List ℕ)) (s : List ℕ) → prepend bytes o ≡ Some s → Prepended bytes o s
prepended bytes None s h = cc
prepended bytes (Some r) s h = let same : bytes ++ r ≡ s = cc in record { rest = r; read = refl; joined = sym same }

short_small : (x c : ℕ) → short_escape x ≡ Some c → (x < 128) × (c < 128)
unfolding short_escape
short_small x c h = by ((x == 34) || (x == 92) || (x == 47)) refl (x == 98) refl (x == 102) refl (x == 110) refl (x == 114) refl (x == 116) refl h
  where
    by : (a : Bool) → ((x == 34) || (x == 92) || (x == 47)) ≡ a → (b : Bool) → (x == 98) ≡ b → (d : Bool) → (x == 102) ≡ d → (e : Bool) → (x == 110) ≡ e → (f : Bool) → (x == 114) ≡ f → (g : Bool) → (x == 116) ≡ g
        → cond a (Some x) (cond b (Some 8) (cond d (Some 12) (cond e (Some 10) (cond f (Some 13) (cond g (Some 9) None))))) ≡ Some c → (x < 128) × (c < 128)
    by true p b q d r e s f t g u k =
        let same : x ≡ c = cc in
        let low : x < 128 = grind (arith, nat_tests) in
        (low, rw same at low)
    by false p true q d r e s f t g u k = let same : 8 ≡ c = cc in (grind (arith, nat_tests), omega arith)
    by false p false q true r e s f t g u k = let same : 12 ≡ c = cc in (grind (arith, nat_tests), omega arith)
    by false p false q false r true s f t g u k = let same : 10 ≡ c = cc in (grind (arith, nat_tests), omega arith)
    by false p false q false r false s true t g u k = let same : 13 ≡ c = cc in (grind (arith, nat_tests), omega arith)
    by false p false q false r false s false t true u k = let same : 9 ≡ c = cc in (grind (arith, nat_tests), omega arith)
    by false p false q false r false s false t false u k = cc

unit_scalar : (u : ℕ) → u < 65536 → is_high_surrogate u ≡ false → is_low_surrogate u ≡ false → scalar u ≡ true
unit_scalar u small h l = grind (arith, nat_tests)

pair_scalar : (h l : ℕ) → is_high_surrogate h ≡ true → is_low_surrogate l ≡ true → scalar (surrogate_pair h l) ≡ true
pair_scalar h l p q = grind (arith, nat_tests)

-- ---- the content of a string

-- what goes before the part that is read
abbrev pub Follows : Within → Type 0
Follows plain = Unit {0}
Follows after_backslash = Unit {0}
Follows after_u = Unit {0}
Follows (after_high h) = is_high_surrogate h ≡ true

put_first : (bytes rest s : List ℕ) → IsUtf8 bytes → IsUtf8 rest → s ≡ bytes ++ rest → IsUtf8 s
put_first bytes rest s u v e = subst IsUtf8 (sym e) (IsUtf8-append bytes rest u v)

four_tails : (a b c d u : ℕ) (xs : List ℕ) → Spelled a b c d u → IsUtf8 (a ∷ b ∷ c ∷ d ∷ xs) → IsUtf8 xs
four_tails a b c d u xs s w = tail_utf8 d xs s.fourth (tail_utf8 c (d ∷ xs) s.third (tail_utf8 b (c ∷ d ∷ xs) s.second (tail_utf8 a (b ∷ c ∷ d ∷ xs) s.first w)))

-- the same of fewer bytes
abbrev pub Content : ℕ → Type 0
Content n = (w : Within) (bs s : List ℕ) → length bs ≤ n → Follows w → IsUtf8 bs → content w bs ≡ Some s → IsUtf8 s

plain_utf8 : (n : ℕ) → Content n → (x : ℕ) (xs s : List ℕ) → length xs ≤ n → IsUtf8 (x ∷ xs) → content plain (x ∷ xs) ≡ Some s → IsUtf8 s
unfolding content
plain_utf8 n more x xs s l u h = elim (cases_lt x 128) [
  | inl small ↦ low small (x == 34) (x == 92) (nat_lt x 32) h
  | inr big ↦ high big (first_char x xs u)
]
  where
    low : x < 128 → (a b c : Bool) → cond a (Some []) (cond b (content after_backslash xs) (cond c None (prepend (x ∷ []) (content plain xs)))) ≡ Some s → IsUtf8 s
    low small true b c k = let none : [] ≡ s = cc in subst IsUtf8 none IsUtf8-nil
    low small false true c k = more after_backslash xs s l tt (tail_utf8 x xs small u) k
    low small false false true k = cc
    low small false false false k =
        let p = prepended (x ∷ []) (content plain xs) s k in
        put_first (x ∷ []) p.rest s (one_utf8 x small) (more plain xs p.rest l tt (tail_utf8 x xs small u) p.read) p.joined

    high : 128 ≤ x → HasFirst (x ∷ xs) → IsUtf8 s
    high big first =
        let above : 128 ≤ first.c = not_ascii first big in
        let read = sym (high_run (encode first.c) first.rest (high_bytes first.c above)) ∙ ap (content plain) (sym first.joined) ∙ h in
        let p = prepended (encode first.c) (content plain first.rest) s read in
        let shorter : length first.rest ≤ n = omega (arith, ap length first.joined, length-append (encode first.c) first.rest, length-encode first.c, len_utf8_bounds first.c) in
        put_first (encode first.c) p.rest s (IsUtf8-encode first.c first.is_scalar) (more plain first.rest p.rest shorter tt first.utf8 p.read) p.joined
      where
        not_ascii : (first : HasFirst (x ∷ xs)) → 128 ≤ x → 128 ≤ first.c
        not_ascii first big = elim (cases_lt first.c 128) [
          | inl small ↦ absurd (let same : x ∷ xs ≡ first.c ∷ first.rest = first.joined ∙ ap (λ l. l ++ first.rest) (encode_ascii first.c small) in let one : x ≡ first.c = cc in omega (arith, one))
          | inr above ↦ above
        ]

escape_utf8 : (n : ℕ) → Content n → (x : ℕ) (xs s : List ℕ) → length xs ≤ n → IsUtf8 (x ∷ xs) → content after_backslash (x ∷ xs) ≡ Some s → IsUtf8 s
unfolding content
escape_utf8 n more x xs s l u h = by (x == 117) refl h
  where
    short : (o : Option ℕ) → short_escape x ≡ o → option_and_then (λ c. prepend (c ∷ []) (content plain xs)) o ≡ Some s → IsUtf8 s
    short None e k = cc
    short (Some c) e k =
        let small = short_small x c e in
        let p = prepended (c ∷ []) (content plain xs) s k in
        put_first (c ∷ []) p.rest s (one_utf8 c small.1) (more plain xs p.rest l tt (tail_utf8 x xs small.0 u) p.read) p.joined

    by : (b : Bool) → (x == 117) ≡ b → cond b (content after_u xs) (option_and_then (λ c. prepend (c ∷ []) (content plain xs)) (short_escape x)) ≡ Some s → IsUtf8 s
    by true e k = let small : x < 128 = grind (arith, nat_tests) in more after_u xs s l tt (tail_utf8 x xs small u) k
    by false e k = short (short_escape x) refl k

unit_utf8 : (n : ℕ) → Content n → (a b c d : ℕ) (xs s : List ℕ) → length xs ≤ n → IsUtf8 (a ∷ b ∷ c ∷ d ∷ xs) → content after_u (a ∷ b ∷ c ∷ d ∷ xs) ≡ Some s → IsUtf8 s
unfolding content
unit_utf8 n more a b c d xs s l u h = by (code_unit a b c d) refl h
  where
    by : (o : Option ℕ) → code_unit a b c d ≡ o → option_and_then (λ u. cond (is_high_surrogate u) (content (after_high u) xs) (cond (is_low_surrogate u) None (prepend (encode_utf8 u) (content plain xs)))) o ≡ Some s → IsUtf8 s
    by None e k = cc
    by (Some v) e k = sort (is_high_surrogate v) refl (is_low_surrogate v) refl k
      where
        sort : (f : Bool) → is_high_surrogate v ≡ f → (g : Bool) → is_low_surrogate v ≡ g → cond f (content (after_high v) xs) (cond g None (prepend (encode_utf8 v) (content plain xs))) ≡ Some s → IsUtf8 s
        sort true p g q j = more (after_high v) xs s l p (four_tails a b c d v xs (spelled a b c d v e) u) j
        sort false p true q j = cc
        sort false p false q j =
            let o = prepended (encode_utf8 v) (content plain xs) s j in
            let it = spelled a b c d v e in
            put_first (encode_utf8 v) o.rest s (IsUtf8-encode v (unit_scalar v it.small p q)) (more plain xs o.rest l tt (four_tails a b c d v xs it u) o.read) o.joined

pair_utf8 : (n : ℕ) → Content n → (high x y a b c d : ℕ) (xs s : List ℕ) → length xs ≤ n → is_high_surrogate high ≡ true → IsUtf8 (x ∷ y ∷ a ∷ b ∷ c ∷ d ∷ xs) → content (after_high high) (x ∷ y ∷ a ∷ b ∷ c ∷ d ∷ xs) ≡ Some s → IsUtf8 s
unfolding content
pair_utf8 n more high x y a b c d xs s l g u h = by ((x == 92) && (y == 117)) refl h
  where
    two : (x == 92) && (y == 117) ≡ true → (x < 128) × (y < 128)
    two e = let p = and_parts (x == 92) (y == 117) e in (let one : (x == 92) ≡ true = p.0 in grind (arith, nat_tests), let other : (y == 117) ≡ true = p.1 in grind (arith, nat_tests))

    unit : (x < 128) × (y < 128) → (o : Option ℕ) → code_unit a b c d ≡ o → option_and_then (λ l. cond (is_low_surrogate l) (prepend (encode_utf8 (surrogate_pair high l)) (content plain xs)) None) o ≡ Some s → IsUtf8 s
    unit t None e k = cc
    unit t (Some v) e k = sort (is_low_surrogate v) refl k
      where
        sort : (f : Bool) → is_low_surrogate v ≡ f → cond f (prepend (encode_utf8 (surrogate_pair high v)) (content plain xs)) None ≡ Some s → IsUtf8 s
        sort true p j =
            let o = prepended (encode_utf8 (surrogate_pair high v)) (content plain xs) s j in
            let it = spelled a b c d v e in
            let behind = tail_utf8 y (a ∷ b ∷ c ∷ d ∷ xs) t.1 (tail_utf8 x (y ∷ a ∷ b ∷ c ∷ d ∷ xs) t.0 u) in
            put_first (encode_utf8 (surrogate_pair high v)) o.rest s (IsUtf8-encode (surrogate_pair high v) (pair_scalar high v g p)) (more plain xs o.rest l tt (four_tails a b c d v xs it behind) o.read) o.joined
        sort false p j = cc

    by : (t : Bool) → ((x == 92) && (y == 117)) ≡ t → cond t (option_and_then (λ l. cond (is_low_surrogate l) (prepend (encode_utf8 (surrogate_pair high l)) (content plain xs)) None) (code_unit a b c d)) None ≡ Some s → IsUtf8 s
    by true e k = unit (two e) (code_unit a b c d) refl k
    by false e k = cc

pub content_utf8 : (n : ℕ) → Content n
unfolding content
content_utf8 n plain [] s l f u h = cc
content_utf8 n after_backslash [] s l f u h = cc
content_utf8 n after_u [] s l f u h = cc
content_utf8 n after_u (a ∷ []) s l f u h = cc
content_utf8 n after_u (a ∷ b ∷ []) s l f u h = cc
content_utf8 n after_u (a ∷ b ∷ c ∷ []) s l f u h = cc
content_utf8 n (after_high g) [] s l f u h = cc
content_utf8 n (after_high g) (x ∷ []) s l f u h = cc
content_utf8 n (after_high g) (x ∷ y ∷ []) s l f u h = cc
content_utf8 n (after_high g) (x ∷ y ∷ a ∷ []) s l f u h = cc
content_utf8 n (after_high g) (x ∷ y ∷ a ∷ b ∷ []) s l f u h = cc
content_utf8 n (after_high g) (x ∷ y ∷ a ∷ b ∷ c ∷ []) s l f u h = cc
content_utf8 zero plain (x ∷ xs) s l f u h = absurd (omega arith)
content_utf8 zero after_backslash (x ∷ xs) s l f u h = absurd (omega arith)
content_utf8 zero after_u (a ∷ b ∷ c ∷ d ∷ xs) s l f u h = absurd (omega arith)
content_utf8 zero (after_high g) (x ∷ y ∷ a ∷ b ∷ c ∷ d ∷ xs) s l f u h = absurd (omega arith)
content_utf8 (suc n) plain (x ∷ xs) s l f u h = plain_utf8 n (content_utf8 n) x xs s (omega arith) u h
content_utf8 (suc n) after_backslash (x ∷ xs) s l f u h = escape_utf8 n (content_utf8 n) x xs s (omega arith) u h
content_utf8 (suc n) after_u (a ∷ b ∷ c ∷ d ∷ xs) s l f u h = unit_utf8 n (content_utf8 n) a b c d xs s (omega arith) u h
content_utf8 (suc n) (after_high g) (x ∷ y ∷ a ∷ b ∷ c ∷ d ∷ xs) s l f u h = pair_utf8 n (content_utf8 n) g x y a b c d xs s (omega arith) f u h

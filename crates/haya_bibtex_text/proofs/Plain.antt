-- Characters before the first brace of a text.
use Rattle.std.proofs.Common.{◌≡◌, ◌≤◌, ◌<◌, ℕ, ◌+◌, zero, suc, Bool, true, false, List, [], ◌∷◌, drop, refl, sym, ap, ◌∙◌, nat_lt, cond, arith}
use Rattle.std.proofs.Math.Nat.{suc-add, zero-add}
use Rattle.std.proofs.lemmas.Bool.Decides.{nat_tests}
use Rattle.std.specs.List.{prefix_len}
use Rattle.haya_bibtex_text.specs.Groups.{End, closed, end_in, end_later, end_of, nowhere, stray}
use Rattle.haya_bibtex_text.specs.Signs.{close_brace, open_brace}
use Rattle.haya_bibtex_text.proofs.Ends.{ends_later}

-- a character before both braces
abbrev pub is_plain : ℕ → Bool
is_plain c = nat_lt c open_brace

no_later : (e : End) → e ≡ ends_later 0 e
no_later (closed k) = ap closed (sym (zero-add k))
no_later (stray k) = ap stray (sym (zero-add k))
no_later nowhere = refl

one_later : (n : ℕ) (e : End) → end_later (ends_later n e) ≡ ends_later (suc n) e
one_later n (closed k) = ap closed (sym (suc-add n k))
one_later n (stray k) = ap stray (sym (suc-add n k))
one_later n nowhere = refl

plain_later : (c : ℕ) (cs : List ℕ) → is_plain c ≡ true
    → end_in close_brace 0 (c ∷ cs) ≡ end_later (end_in close_brace 0 cs)
plain_later c cs h = grind (arith, nat_tests)

-- one fewer of the rest
plain_rest : (n : ℕ) (b : Bool) (m : ℕ) → suc n ≤ cond b (1 + m) 0 → (b ≡ true) × (n ≤ m)
plain_rest n true m h = (refl, omega arith)
plain_rest n false m h = absurd (omega arith)

-- a text ends so many plain characters behind the rest
pub end_behind : (n : ℕ) (cs : List ℕ) → n ≤ prefix_len is_plain cs
    → end_of close_brace cs ≡ ends_later n (end_in close_brace 0 (drop n cs))
end_behind zero cs h = no_later (end_in close_brace 0 cs)
end_behind (suc n) [] h = absurd (omega arith)
end_behind (suc n) (c ∷ cs) h =
    let k : (is_plain c ≡ true) × (n ≤ prefix_len is_plain cs) = plain_rest n (is_plain c) (prefix_len is_plain cs) h in
    plain_later c cs k.0 ∙ ap end_later (end_behind n cs k.1) ∙ one_later n (end_in close_brace 0 (drop n cs))

-- four characters that are plain
pub four_plain : (a b c d : ℕ) (cs : List ℕ) → a < 123 → b < 123 → c < 123 → d < 123
    → prefix_len is_plain (a ∷ b ∷ c ∷ d ∷ cs) ≡ 4 + prefix_len is_plain cs
four_plain a b c d cs h i j k = grind (arith, nat_tests)

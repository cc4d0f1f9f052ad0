-- Signs that are passed over.
use Rattle.std.proofs.Common.{◌≡◌, ℕ, ◌+◌, ◌<◌, ◌≤◌, List, [], ◌∷◌, length, drop, get_or, Bool, true, false, Some, None, sym, ap, ◌∙◌, arith}
use Rattle.std.proofs.lemmas.List.{at_drop_more, drop_all, drop_more}
use Rattle.haya_yaml_text.specs.Signs.{passed, passed_if, passes}

pub passed_on : (inside apart next : Bool) (text : List ℕ) (n : ℕ) → n < length text → passes inside apart (get_or text n 0) ≡ Some next
    → passed inside apart (drop n text) ≡ passed next true (drop (n + 1) text)
unfolding passed
passed_on inside apart next text n within on =
    at_drop_more (passed inside apart) text n 0 within
    ∙ ap (λ o. passed_if o (get_or text n 0 ∷ drop (n + 1) text) (λ b. passed b true (drop (n + 1) text))) on

pub passed_stop : (inside apart : Bool) (text : List ℕ) (n : ℕ) → n < length text → passes inside apart (get_or text n 0) ≡ None
    → passed inside apart (drop n text) ≡ drop n text
unfolding passed
passed_stop inside apart text n within stop =
    at_drop_more (passed inside apart) text n 0 within
    ∙ ap (λ o. passed_if o (get_or text n 0 ∷ drop (n + 1) text) (λ b. passed b true (drop (n + 1) text))) stop
    ∙ sym (drop_more text n 0 within)

pub passed_end : (inside apart : Bool) (text : List ℕ) (n : ℕ) → length text ≤ n → passed inside apart (drop n text) ≡ []
unfolding passed
passed_end inside apart text n all = ap (passed inside apart) (drop_all n text all)

-- a sign behind which no comment is
pub passes_ascii : (inside apart : Bool) (c : ℕ) → passes inside apart c ≡ Some false → c < 128
passes_ascii true apart c e = grind (arith, e)
passes_ascii false apart c e = grind (arith, e)

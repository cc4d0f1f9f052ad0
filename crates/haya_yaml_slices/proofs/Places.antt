-- Places where a text is divided, and what it is divided to.
use Rattle.std.proofs.Common.{◌≡◌, ℕ, ◌+◌, ◌≤◌, inl, inr, List, [], ◌∷◌, ◌++◌, length, drop, get_or-drop, length-drop, sym, ap, ◌∙◌, append_assoc, append-nil, subst, arith}
use Rattle.std.specs.List.{concat}
use Rattle.std.specs.Str.{IsUtf8, IsCharBoundary}
use Rattle.std.proofs.lemmas.Str.{IsCharBoundary-start, IsCharBoundary-end, IsCharBoundary-after_ascii}
use Rattle.haya_yaml_slices.specs.Breaks.{IsBreak}
use Rattle.haya_yaml_slices.specs.Members.{IsDividedTo}

-- a place behind a place
pub break_more : (bytes : List ℕ) (at n : ℕ) → at ≤ length bytes → IsBreak bytes at → IsBreak (drop at bytes) n → IsBreak bytes (at + n)
break_more bytes at n within here (inl none) = let same : at ≡ at + n = omega (arith, none) in subst (IsBreak bytes) same here
break_more bytes at n within here (inr (inl all)) = inr (inl (omega (arith, all, within, length-drop at bytes)))
break_more bytes at n within here (inr (inr (m, is, feed))) = inr (inr (at + m, omega (arith, is), sym (get_or-drop at bytes m 0) ∙ feed))

-- a text may be divided there
pub break_boundary : (text : List ℕ) (n : ℕ) → IsUtf8 text → n ≤ length text → IsBreak text n → IsCharBoundary text n
break_boundary text n utf8 within (inl none) = subst (IsCharBoundary text) (sym none) (IsCharBoundary-start text utf8)
break_boundary text n utf8 within (inr (inl all)) = subst (IsCharBoundary text) (sym all) (IsCharBoundary-end text)
break_boundary text n utf8 within (inr (inr (m, is, feed))) =
    subst (IsCharBoundary text) (sym is) (IsCharBoundary-after_ascii text m utf8 (omega (arith, is, within)) (omega (arith, feed)))

-- a text is a front, these parts of it, and a rest
abbrev pub IsDividedUpTo : List ℕ → List (List ℕ) → List ℕ → Type 0
IsDividedUpTo text parts rest = (front : List ℕ) × (text ≡ front ++ (concat parts ++ rest))

concat_more : (parts : List (List ℕ)) (part rest : List ℕ) → concat (parts ++ part ∷ []) ++ rest ≡ concat parts ++ (part ++ rest)
concat_more [] part rest = ap (λ p. p ++ rest) (append-nil part)
concat_more (p ∷ ps) part rest =
    append_assoc p (concat (ps ++ part ∷ [])) rest ∙ ap (λ more. p ++ more) (concat_more ps part rest) ∙ sym (append_assoc p (concat ps) (part ++ rest))

-- one part more
pub one_more : (text : List ℕ) (parts : List (List ℕ)) (part rest more : List ℕ) → rest ≡ part ++ more → IsDividedUpTo text parts rest
    → IsDividedUpTo text (parts ++ part ∷ []) more
one_more text parts part rest more split (front, is) =
    (front, is ∙ ap (λ r. front ++ (concat parts ++ r)) split ∙ ap (λ r. front ++ r) (sym (concat_more parts part more)))

pub all_divided : (text : List ℕ) (parts : List (List ℕ)) (rest : List ℕ) → IsDividedUpTo text parts rest → IsDividedTo text parts
all_divided text parts rest (front, is) = record { front = front; back = rest; is = is }

-- a front, and in front of it another
pub none_yet : (text content rest front before : List ℕ) → text ≡ front ++ content → content ≡ before ++ rest → IsDividedUpTo text [] rest
none_yet text content rest front before first second = (front ++ before, first ∙ ap (λ t. front ++ t) second ∙ sym (append_assoc front before rest))

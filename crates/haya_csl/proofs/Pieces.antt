-- A text is separated at its opening brackets, one after another.
use Rattle.std.proofs.Common.{◌≡◌, ℕ, ◌+◌, ◌<◌, suc, Bool, true, false, cond, List, [], ◌∷◌, length, take, drop, Option, None, Some, refl, sym, ap, ◌∙◌, subst, append-nil, arith}
use Rattle.std.specs.Prelude.{◌==◌, nat_lt, option_map}
use Rattle.std.specs.List.{position_or_len}
use Rattle.std.proofs.lemmas.Bool.Decides.{nat_tests}
use Prim.Native.Nat.compare.{suc-suc}
use Rattle.haya_text.specs.Printing.{text_display}
use Rattle.haya_csl.specs.Markup.{cut, markup_read, pieces, pieces_read}

-- the pieces of a text are what stands before the first bracket, and those of what follows it
abbrev pub PiecesBy : Option (List ℕ × List ℕ) → List ℕ → Type 0
PiecesBy None text = pieces text ≡ text ∷ []
PiecesBy (Some p) text = (pieces text ≡ p.0 ∷ pieces p.1) × (length p.1 < length text)

abbrev placed : ℕ → Bool → List ℕ → Option (List ℕ × List ℕ)
placed n test text = cond {A = Option (List ℕ × List ℕ)} test (Some (take n text, drop (n + 1) text)) None

abbrev with_front : ℕ → Option (List ℕ × List ℕ) → Option (List ℕ × List ℕ)
with_front b r = option_map (λ p. (b ∷ p.0, p.1)) r

grown : (b : ℕ) (bs : List ℕ) (r : Option (List ℕ × List ℕ)) → (b == 60) ≡ false → PiecesBy r bs → PiecesBy (with_front b r) (b ∷ bs)
grown b bs None other h = rw (other, h) refl
grown b bs (Some p) other h = (rw (other, h.0) refl, omega (arith, h.1))

placed_behind : (b : ℕ) (bs : List ℕ) (n : ℕ) (test : Bool) → placed (suc n) test (b ∷ bs) ≡ with_front b (placed n test bs)
placed_behind b bs n true = let e : suc n + 1 ≡ suc (n + 1) = omega arith in rw e refl
placed_behind b bs n false = refl

cut_behind : (b : ℕ) (bs : List ℕ) → (b == 60) ≡ false → cut 60 (b ∷ bs) ≡ with_front b (cut 60 bs)
cut_behind b bs other =
    let n = position_or_len (λ c. c == 60) bs in
    let one : 1 + n ≡ suc n = omega arith in
    let test : nat_lt (suc n) (length (b ∷ bs)) ≡ nat_lt n (length bs) = rw suc-suc refl in
    rw (other, one) (rw test (placed_behind b bs n (nat_lt n (length bs))))

cut_here : (b : ℕ) (bs : List ℕ) → (b == 60) ≡ true → cut 60 (b ∷ bs) ≡ Some ([], bs)
cut_here b bs here =
    let test : nat_lt 0 (length (b ∷ bs)) ≡ true = grind (arith, nat_tests) in
    rw here (rw test refl)

pub pieces_cut : (text : List ℕ) → PiecesBy (cut 60 text) text
pieces_cut [] = refl
pieces_cut (b ∷ bs) = by (pieces_cut bs) (b == 60) refl
  where
    by : PiecesBy (cut 60 bs) bs → (first : Bool) → (b == 60) ≡ first → PiecesBy (cut 60 (b ∷ bs)) (b ∷ bs)
    by rest true h = subst (λ r. PiecesBy r (b ∷ bs)) (sym (cut_here b bs h)) (rw h refl, omega arith)
    by rest false h = subst (λ r. PiecesBy r (b ∷ bs)) (sym (cut_behind b bs h)) (grown b bs (cut 60 bs) h rest)

pub pieces_by : (text : List ℕ) (r : Option (List ℕ × List ℕ)) → r ≡ cut 60 text → PiecesBy r text
pieces_by text r is = subst (λ q. PiecesBy q text) (sym is) (pieces_cut text)

-- a text without a bracket is shown as it is
pub plain_whole : (text : List ℕ) → cut 60 text ≡ None → text_display (markup_read text) ≡ text
plain_whole text none = ap (λ ps. text_display (pieces_read ps).read) (pieces_by text None (sym none)) ∙ by text
  where
    by : (text : List ℕ) → text_display (pieces_read (text ∷ [])).read ≡ text
    by [] = refl
    by (b ∷ bs) = append-nil (b ∷ bs)

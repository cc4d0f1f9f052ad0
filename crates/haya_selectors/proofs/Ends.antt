-- Where the selector at the front of a text ends.
use Rattle.std.proofs.Common.{◌≡◌, ◌<◌, ◌∷◌, ◌++◌, List, ℕ, length, sym, ap, ◌∙◌, arith}
use Rattle.std.specs.Str.{chars}
use Rattle.std.proofs.lemmas.List.{append_cancel_right}
use Rattle.haya_selectors.specs.Grammar.{ExprForm, Reads}
use Rattle.haya_selectors.specs.Reading.{EndsAt, EndsBeforeLeft}
use Rattle.haya_selectors.specs.Syntax.{Syntax}
use Rattle.haya_selectors.specs.Token.{Token, AreTokens}
use Rattle.haya_selectors.proofs.Fronts.{reads_alone}
use Rattle.haya_selectors.proofs.OneCut.{only_cut}

-- what is left behind a form is the end of the tokens
pub taken_before : {text : List ℕ} {ts left : List Token} {s : Syntax} → AreTokens ts text → Reads ExprForm ts s left → (taken : List Token) × AreTokens (taken ++ left) text
taken_before are reads = let a = reads_alone reads in (a.first ∷ a.others, rw a.are at are)

pub ends_at : {text : List ℕ} {ts left : List Token} {s : Syntax} {end : ℕ} → AreTokens ts (chars text) → Reads ExprForm ts s left → EndsBeforeLeft left text end → EndsAt text s end
ends_at {text} {ts} {left} {s} {end} are reads e =
    let a = reads_alone reads in
    let all : ts ≡ e.taken ++ left = only_cut are ∙ sym (only_cut e.whole) in
    let same : a.first ∷ a.others ≡ e.taken = append_cancel_right (a.first ∷ a.others) e.taken left (sym a.are ∙ all) in
    let some : 0 < length e.taken = omega (arith, ap length same) in
    record {
      tokens = e.taken;
      left = left;
      whole = e.whole;
      reads = rw all at reads;
      boundary = e.boundary;
      front = e.front;
      alone = rw same at a.alone;
      tight = e.tight some;
      behind = e.behind;
    }

use Rattle.std.proofs.Common.{◌≡◌, ℕ, ◌<◌, true, false, length, slice_index_or, ◌∷◌, ◌++◌, ◌∙◌, ap, sym, rules}
use Rattle.std.proofs.lemmas.List.{append-nil}
use Rattle.std.proofs.lemmas.List.Splits.{slice_split_at, slice_split_none}
use Rattle.std.specs.Str.{chars}
use Rattle.haya_numbers.specs.Cuts.{is_dash}
use Rattle.haya_numbers.proofs.page.cuts.split_dash.Goals as goal

pub returns-in_err-eat : goal.returns-in_err-eat
returns-in_err-eat c =
    let plain : (k d : ℕ) → k < length (chars c.eat_while-start.result.now) → is_dash (slice_index_or (chars c.eat_while-start.result.now) k d) ≡ false = λ k d lt. let h = c.eat_while-start.ensures.accepted k d lt in search (rules, h) in
    let all : chars c.args.text.now ≡ chars c.eat_while-start.result.now = ap (λ l. l.rest) (sym c.new-cursor.ensures) ∙ c.eat_while-start.ensures.taken ∙ ap (λ l. chars c.eat_while-start.result.now ++ l) c.in_err-eat.ensures.taken.0 ∙ append-nil _ in
    rw c.from_residual.ensures (rw all (slice_split_none is_dash (chars c.eat_while-start.result.now) plain))

pub returns : goal.returns
returns c =
    let plain : (k d : ℕ) → k < length (chars c.eat_while-start.result.now) → is_dash (slice_index_or (chars c.eat_while-start.result.now) k d) ≡ false = λ k d lt. let h = c.eat_while-start.ensures.accepted k d lt in search (rules, h) in
    let first : c.eat_while-start.new.self.rest ≡ c.in_ok-eat.field-0 ∷ c.eat.new.self.rest = c.in_ok-eat.ensures.taken.rest in
    let dash : is_dash c.in_ok-eat.field-0 ≡ true = let h = rw first at c.eat_while-start.ensures.stops in search (rules, h) in
    let all : chars c.args.text.now ≡ chars c.eat_while-start.result.now ++ c.in_ok-eat.field-0 ∷ c.eat.new.self.rest = ap (λ l. l.rest) (sym c.new-cursor.ensures) ∙ c.eat_while-start.ensures.taken ∙ ap (λ l. chars c.eat_while-start.result.now ++ l) first in
    rw (all, c.rest.ensures) (slice_split_at is_dash (chars c.eat_while-start.result.now) c.in_ok-eat.field-0 c.eat.new.self.rest plain dash)

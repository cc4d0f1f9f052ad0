use Rattle.std.proofs.Common.{List, ℕ, Bor, sym, ap, ◌∙◌, Ok}
use Rattle.haya_people.specs.Reading.{person_of, texts}
use Rattle.haya_people.proofs.Parts.{none, one, two, three, many}
use Rattle.haya_people.proofs.person.Person.from_strings.Goals as goal

pub returns-in-empty : goal.returns-in-empty
unfolding person_of
returns-in-empty c = λ _. ap (λ xs. person_of (texts xs)) (sym c.as_slice.ensures.value) ∙ ap person_of (none (λ p. p.now) c.as_slice.result.now c.in-empty.len_below)

pub returns-in-len1 : goal.returns-in-len1
unfolding person_of
returns-in-len1 c =
    ap (λ xs. person_of (texts xs)) (sym c.as_slice.ensures.value)
    ∙ ap person_of (one (λ p. p.now) _ c.as_slice.result.now c.in-len1.len_at_least c.in-len1.len_below)
    ∙ ap (λ v. Ok v) (sym c.in_ok-person_with-in-len1.ensures)

pub returns-in-len2 : goal.returns-in-len2
unfolding person_of
returns-in-len2 c =
    ap (λ xs. person_of (texts xs)) (sym c.as_slice.ensures.value)
    ∙ ap person_of (two (λ p. p.now) _ c.as_slice.result.now c.in-len2.len_at_least c.in-len2.len_below)
    ∙ ap (λ v. Ok v) (sym c.in_ok-person_with-in-len2.ensures)

pub returns-in-len3 : goal.returns-in-len3
unfolding person_of
returns-in-len3 c =
    ap (λ xs. person_of (texts xs)) (sym c.as_slice.ensures.value)
    ∙ ap person_of (three (λ p. p.now) _ c.as_slice.result.now c.in-len3.len_at_least c.in-len3.len_below)
    ∙ ap (λ v. Ok v) (sym c.in_ok-person_with-in-len3.ensures)

pub returns : goal.returns
unfolding person_of
returns c =
    let parts = many (λ (p : Bor (List ℕ)). p.now) c.as_slice.result.now c.in_default.len_at_least in
    λ _. ap (λ xs. person_of (texts xs)) (sym c.as_slice.ensures.value) ∙ ap person_of parts.5

use Rattle.std.proofs.Common.{inl, inr, rules}
use Rattle.haya_selectors.proofs.NameSets.{cases_field}
use Rattle.haya_selectors.proofs.names.had_of.Goals as goal
use Rattle.haya_selectors.proofs.names.had_of.Goals.{then-not-has_field, else-not-has_field}

pub fields-preserved : goal.fields-preserved
fields-preserved c =
    let field = c.first_of-field.result in
    let left = c.without-left.ensures in
    let old = c.fields.invariant in
    elim c.if-not-has_field.branch [
      | then-not-has_field w ↦
          let had = w.without-had.ensures in
          rw w.had-is (
            λ f isin.
                elim (cases_field f field) [
                  | inl same ↦ absurd (left.this (rw same at isin))
                  | inr apart ↦ let o = old.0 f ((left.others f apart).0 isin) in (o.0, (had.others f apart).1 o.1)
                ],
            λ f isin gone.
                elim (cases_field f field) [
                  | inl same ↦ rw same (λ h. absurd (had.this h), λ h. absurd (search rules))
                  | inr apart ↦
                      let o = old.1 f isin (λ still. gone ((left.others f apart).1 still)) in
                      (λ h. o.0 ((had.others f apart).0 h), λ h. (had.others f apart).1 (o.1 h))
                ],
          )
      | else-not-has_field w ↦
          rw w.had-is (
            λ f isin.
                elim (cases_field f field) [
                  | inl same ↦ absurd (left.this (rw same at isin))
                  | inr apart ↦ old.0 f ((left.others f apart).0 isin)
                ],
            λ f isin gone.
                elim (cases_field f field) [
                  | inl same ↦ rw same (λ h. search rules, λ h. (old.0 field c.first_of-field.ensures).1)
                  | inr apart ↦ old.1 f isin (λ still. gone ((left.others f apart).1 still))
                ],
          )
    ]

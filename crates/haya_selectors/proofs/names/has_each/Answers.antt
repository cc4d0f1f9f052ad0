use Rattle.std.proofs.Common.{inl, inr, rules}
use Rattle.haya_selectors.proofs.NameSets.{cases_field}
use Rattle.haya_selectors.proofs.names.has_each.Goals as goal

pub fields-preserved : goal.fields-preserved
fields-preserved c =
    let old = c.fields.invariant in
    let left = c.without-left.ensures in (
      λ f isin.
          elim (cases_field f c.first_of-field.result) [
            | inl same ↦ absurd (left.this (rw same at isin))
            | inr apart ↦ old.0 f ((left.others f apart).0 isin)
          ],
      λ f isin gone.
          elim (cases_field f c.first_of-field.result) [
            | inl same ↦ rw same (search rules)
            | inr apart ↦ old.1 f isin (λ still. gone ((left.others f apart).1 still))
          ],
    )

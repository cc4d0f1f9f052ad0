use Rattle.std.proofs.Common.{◌≡◌, ℕ, true, List, Some, None, refl}
use Rattle.std.specs.Prelude.{is_some}
use Rattle.haya_assignment.specs.Assignment.{IsAssignment, least}
use Rattle.haya_selectors.specs.Holds.{table_of}
use Rattle.haya_selectors.proofs.laws.and_holds_where_assigned.Goals as goal

pub returns : goal.returns
returns c = λ members xs.
    let table = table_of members xs in (
      (elim (least table) as (λ o. least table ≡ o → is_some o ≡ true → (positions : List ℕ) × IsAssignment table positions) [
        | None ↦ λ e h. absurd (cc)
        | Some positions ↦ λ e h. (positions, (c.least_comes_first.ensures table positions e).0)
      ]) refl,
      λ a. (elim (least table) as (λ o. least table ≡ o → is_some o ≡ true) [
        | None ↦ λ e. absurd ((c.no_least.ensures table).0 e a.0 a.1)
        | Some positions ↦ λ e. refl
      ]) refl,
    )

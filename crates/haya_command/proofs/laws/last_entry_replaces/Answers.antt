use Rattle.std.proofs.Common.{◌∷◌, []}
use Rattle.std.proofs.lemmas.List.Sums.{fold-append}
use Rattle.hayagriva.specs.Library.{push}
use Rattle.haya_command.proofs.laws.last_entry_replaces.Goals as goal

pub returns : goal.returns
returns c = λ entries t. fold-append (λ done u. push u done) [] entries (t ∷ [])

use Rattle.std.proofs.Common.{◌≡◌, None, sym}
use Rattle.haya_bibtex_text.specs.Values.{behind_joint, last_piece}
use Rattle.haya_bibtex_text.proofs.values.read_one.Goals as goal

pub returns-in-None-clause-value : goal.returns-in-None-clause-value
returns-in-None-clause-value c =
    let joint : behind_joint c.in-Ok.read.1.now ≡ None =
    rw c.behind_blank-rest.ensures.left at (sym c.in-None.ensures.left) in
    last_piece c.in-Ok.ensures.ok joint c.behind_blank-rest.ensures.left

use Rattle.std.proofs.Common.{◌≡◌, fold}
use Rattle.hayagriva.specs.Library.{push}
use Rattle.haya_command.proofs.reading.push_all.Given as goal

-- the library so far, with the entries left pushed, is that with all of them
abbrev pub invariant-entries : goal.invariant-entries
invariant-entries l =
    fold (λ done t. push t done) l.library l.entry-iterator ≡ fold (λ done t. push t done) l.fn.library l.fn.more

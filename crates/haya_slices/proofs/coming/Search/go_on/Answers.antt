use Rattle.haya_slices.proofs.coming.Search.go_on.Goals as goal

pub returns-then-pass : goal.returns-then-pass
returns-then-pass c = c.ended.ensures _

use Rattle.std.proofs.Common.{arith}
use Rattle.haya_slices.specs.Coming.{HasSeen}
use Rattle.haya_slices.proofs.coming.Search.start.Goals as goal

pub returns-then-self-bytes-clause-coming : goal.returns-then-self-bytes-clause-coming
returns-then-self-bytes-clause-coming c = c.skip_white.ensures.seen c.args.brackets (record {
  within = c.requires.within;
  before = c.requires.before;
  passed = c.requires.passed;
  begins = c.requires.begins;
})

pub returns-then-may_begin-clause-seen : goal.returns-then-may_begin-clause-seen
returns-then-may_begin-clause-seen c = c.skip_white.ensures.seen c.args.brackets (record {
  within = c.requires.within;
  before = c.requires.before;
  passed = c.requires.passed;
  begins = c.requires.begins;
})

pub returns-else-may_begin-clause-coming : goal.returns-else-may_begin-clause-coming
returns-else-may_begin-clause-coming c =
    let seen : HasSeen c.args.brackets c.args.bytes.now c.skip_white.new.self =
    c.skip_white.ensures.seen c.args.brackets (record {
      within = c.requires.within;
      before = c.requires.before;
      passed = c.requires.passed;
      begins = c.requires.begins;
    }) in
    (omega (arith, seen.within), seen.before)

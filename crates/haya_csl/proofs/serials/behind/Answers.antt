use Rattle.std.proofs.Common.{◌≡◌, true}
use Rattle.haya_csl.specs.Kinds.{begins_with}
use Rattle.haya_csl.proofs.Prefixes.{boundary}
use Rattle.haya_csl.proofs.serials.behind.Goals as goal

pub range_from-requires : goal.range_from-requires
range_from-requires c =
    let begins : begins_with c.args.prefix.now c.args.text.now ≡ true = cc in
    λ _. boundary c.args.prefix.now c.args.text.now c.utf8.text c.requires.some c.requires.ascii begins

use Rattle.std.proofs.Common.{◌≡◌, [], Ok, rules}
use Rattle.json.specs.Value.{members_view}
use Rattle.haya_json.specs.Libraries.{entries_pushed}
use Rattle.haya_json.specs.Refusal.{IsFaultOf}
use Rattle.haya_json.proofs.InOrder.{pushed_in_order, pushed_fails}
use Rattle.haya_json.proofs.libraries.read_entries.Goals as goal

pub returns-in-Ok-clause-library : goal.returns-in-Ok-clause-library
returns-in-Ok-clause-library c =
    let ms = members_view c.args.members.items in
    let pushed : entries_pushed [] ms ≡ Ok c.in-Ok.library = search rules in
    λ distinct. pushed_in_order ms c.in-Ok.library distinct pushed

pub returns-in-Err-clause-fault : goal.returns-in-Err-clause-fault
returns-in-Err-clause-fault c =
    let ms = members_view c.args.members.items in
    let failed : IsFaultOf (entries_pushed [] ms) c.in-Err.fault = search rules in
    pushed_fails ms c.in-Err.fault failed

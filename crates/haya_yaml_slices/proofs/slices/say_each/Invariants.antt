use Rattle.std.proofs.Common.{◌-◌, ◌≤◌, length, take}
use Rattle.std.specs.List.{AllZip}
use Rattle.haya_yaml_slices.specs.Members.{SaysMember}
use Rattle.haya_yaml_slices.proofs.Pairs.{texts}
use Rattle.haya_yaml_slices.proofs.slices.say_each.Given as goal

abbrev pub invariant-parts : goal.invariant-parts
invariant-parts l = (l.at ≤ length l.parts) × AllZip SaysMember (texts (take l.at l.parts)) (texts (take l.at l.members))

abbrev pub decreases-parts : goal.decreases-parts
decreases-parts l = length l.parts - l.at

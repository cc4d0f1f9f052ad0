use Rattle.std.proofs.Common.{◌≡◌, map}
use Rattle.std.specs.Fmt.{HasWritten, IsPlainFormatter}
use Rattle.haya_people.proofs.Items.{joined_items, separator_behind}
use Rattle.haya_people.proofs.first_name.DelimitedDisplay.fmt.Given as goal

-- the items so far are written
abbrev pub invariant-loop-item : goal.invariant-loop-item
invariant-loop-item g l = record {
  written : IsPlainFormatter l.initial.f → HasWritten g.W.Write.write_str_gives l.initial.f (joined_items l.self.delimiter.now (map (λ t. t.now) l.yielded)) l.f;
  separator : l.separator ≡ separator_behind (map (λ t. t.now) l.yielded);
}

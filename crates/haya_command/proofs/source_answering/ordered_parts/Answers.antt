use Rattle.std.proofs.Common.{[]}
use Rattle.haya_command.proofs.source_answering.ordered_parts.Goals as goal

pub returns : goal.returns
returns c = λ es parts say library.
    c.kept_parts.ensures es (c.in_ok-add.ensures es [] parts say library c.new-places.ensures)

use Rattle.std.proofs.Common.{◌∙◌, ap, length, take, ◌-◌}
use Rattle.std.specs.Str.{trim_end}
use Rattle.haya_people.specs.Reading.{prefix_of}
use Rattle.haya_people.proofs.Families.{IsCharBoundary-name}
use Rattle.haya_people.proofs.reading.split_family.Goals as goal

pub split_at-requires : goal.split_at-requires
split_at-requires c = IsCharBoundary-name c.args.family.now _ c.name_of-name.utf8 c.name_of-name.ensures.end

pub returns-clause-prefix : goal.returns-clause-prefix
unfolding prefix_of
returns-clause-prefix c =
    c.trim_end.ensures.trim ∙ ap trim_end c.split_at.ensures.front
    ∙ ap (λ n. trim_end (take (length c.args.family.now - length n) c.args.family.now)) c.name_of-name.ensures.name

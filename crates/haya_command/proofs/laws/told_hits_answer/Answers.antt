use Rattle.haya_command.proofs.Streams.{all_answered, first_answered}
use Rattle.haya_command.proofs.laws.told_hits_answer.Goals as goal

pub returns-clause-all : goal.returns-clause-all
returns-clause-all c = λ options s entries hits printed found streamable reads are within told some.
    all_answered options s streamable reads entries hits printed found are within told some

pub returns-clause-first : goal.returns-clause-first
returns-clause-first c = λ options s entries hits others printed found streamable reads are within enough told some.
    first_answered options s streamable reads entries hits others printed found are within enough told some

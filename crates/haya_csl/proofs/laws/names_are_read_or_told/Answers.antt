use Rattle.haya_csl.proofs.NamesReadOrTold.{name_among, said_alone, told_at}
use Rattle.haya_csl.proofs.laws.names_are_read_or_told.Goals as goal

pub returns : goal.returns
returns c = record { person = name_among; lost = told_at; one = said_alone }

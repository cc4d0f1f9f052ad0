use Rattle.haya_formats.proofs.FirstBlock.{all_same, format_same}
use Rattle.haya_formats.proofs.laws.first_block_tells.Goals as goal

pub returns-clause-format : goal.returns-clause-format
returns-clause-format c = λ given first rest long. format_same first rest given long

pub returns-clause-foreign : goal.returns-clause-foreign
returns-clause-foreign c = λ given first rest long. all_same first rest given long

use Rattle.haya_json.proofs.LibraryRead.{read_again}
use Rattle.haya_json.proofs.laws.read_libraries_read_back.Goals as goal

pub returns : goal.returns
returns c = λ text library utf8 d shallow. read_again text library d (c.read_entries_are_readable.ensures.library text library utf8 d) shallow

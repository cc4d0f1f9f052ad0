use Rattle.haya_bibtex.proofs.Only.{describes, only_library, only_told, tells}
use Rattle.haya_bibtex.proofs.libraries.read_bibtex_with_hash_keys.Goals as goal

pub returns-in-Ok-library_of-clause-library : goal.returns-in-Ok-library_of-clause-library
returns-in-Ok-library_of-clause-library c =
    describes _ _ _ _ (record { reads = c.in-Ok.ensures.ok; only = c.in-Ok.ensures.only }) c.in-Ok-library_of.ensures

pub returns-in-Ok-library_of-clause-notes : goal.returns-in-Ok-library_of-clause-notes
returns-in-Ok-library_of-clause-notes c =
    tells _ _ _ _ (record { reads = c.in-Ok.ensures.ok; only = c.in-Ok.ensures.only }) c.in-Ok-library_of.ensures

pub returns-in-Ok-library_of-clause-only : goal.returns-in-Ok-library_of-clause-only
returns-in-Ok-library_of-clause-only c =
    only_library _ _ _ _ (record { reads = c.in-Ok.ensures.ok; only = c.in-Ok.ensures.only }) c.in-Ok-library_of.ensures

pub returns-in-Ok-library_of-clause-no_more : goal.returns-in-Ok-library_of-clause-no_more
returns-in-Ok-library_of-clause-no_more c =
    only_told _ _ _ _ (record { reads = c.in-Ok.ensures.ok; only = c.in-Ok.ensures.only }) c.in-Ok-library_of.ensures

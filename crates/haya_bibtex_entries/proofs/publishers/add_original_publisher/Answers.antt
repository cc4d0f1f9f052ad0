use Rattle.haya_bibtex_entries.proofs.publishers.add_original_publisher.Goals as goal

-- the texts are those of their fields
pub returns : goal.returns
returns c = rw (c.text_of-name.ensures, c.text_of-place.ensures) at c.add_publisher.ensures

use Rattle.haya_bibtex_entries.proofs.publishers.published_at.Goals as goal

-- both are those of their fields
pub returns : goal.returns
returns c = rw (c.has_field-has_url.ensures, c.text_of-text.ensures) at c.address_unless.ensures

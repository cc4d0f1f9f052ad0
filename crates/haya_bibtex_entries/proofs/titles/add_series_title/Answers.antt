use Rattle.haya_bibtex_entries.proofs.titles.add_series_title.Goals as goal

-- the texts are those of their fields
pub returns : goal.returns
returns c = rw (c.text_of-series.ensures, c.text_of-short.ensures) at c.add_series.ensures

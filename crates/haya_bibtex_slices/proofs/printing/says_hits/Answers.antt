use Rattle.haya_bibtex_slices.proofs.printing.says_hits.Goals as goal

pub returns : goal.returns
returns c so = record {
  library = _;
  describes = c.in-Ok.ensures.library;
  same = c.has_entries.ensures so;
}

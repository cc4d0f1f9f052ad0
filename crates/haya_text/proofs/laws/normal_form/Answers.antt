use Rattle.haya_text.specs.Chunks.{characters, chunks}
use Rattle.haya_text.proofs.Canonical.{characters-norm, IsNormal-runs, norm-normal}
use Rattle.haya_text.proofs.Pushes.{AllUtf8-chunks}
use Rattle.haya_text.proofs.laws.normal_form.Goals as goal

pub returns : goal.returns
returns c = record {
  characters = λ text. characters-norm (chunks text) (AllUtf8-chunks text.0.items);
  normal = λ text. IsNormal-runs (characters (chunks text));
  itself = λ text. norm-normal (chunks text) (AllUtf8-chunks text.0.items);
}

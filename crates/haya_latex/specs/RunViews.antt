-- Runs by value.
use Rattle.std.specs.Prelude.{ℕ, ◌<◌, List, string_bytes, string_len}
use Rattle.haya_latex.specs.Texts.{bytes_of}
use Rattle.haya_latex.specs.declared.kinds.Kind.{Kind}
use Rattle.haya_latex.specs.declared.runs.Run.{Run}

abbrev pub run_bytes : Run → List (ℕ × Kind)
run_bytes r = bytes_of r.kind (string_bytes r.text)

abbrev pub run_kind : Run → Kind
run_kind r = r.kind

abbrev pub HasText : Run → Type 0
HasText r = 0 < string_len r.text

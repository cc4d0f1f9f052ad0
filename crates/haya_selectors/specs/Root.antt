-- The selector that compiled nodes stand for.
use Rattle.haya_selectors.specs.Nodes.{syntax_at}
use Rattle.haya_selectors.specs.Syntax.{Syntax}
use Rattle.haya_selectors.specs.declared.compiled.Compiled.{Compiled}

abbrev pub compiled_syntax : Compiled → Syntax
compiled_syntax compiled = syntax_at compiled.nodes compiled.root

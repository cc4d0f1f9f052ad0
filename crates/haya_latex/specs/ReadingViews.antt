-- Readers by value.
use Rattle.std.specs.Prelude.{ℕ, ◌+◌, List, [], ◌∷◌, map, reverse, string_bytes}
use Rattle.haya_latex.specs.Reading.{Group, Reader}
use Rattle.haya_latex.specs.declared.readers.Group.{Group as RustGroup}
use Rattle.haya_latex.specs.declared.readers.Reader.{Reader as RustReader}

abbrev pub group_view : RustGroup → Group
group_view g = record { kind = g.kind; depth = g.depth; last = g.last }

abbrev pub reader_view : RustReader → Reader
reader_view s =
    record {
      chars = s.chars.items;
      counted = map string_bytes s.counted.items;
      inner = group_view s.inner;
      outer = reverse (map group_view s.outer.items);
      waiting = reverse s.waiting.items;
    }

-- how many braces are open that begin no group
abbrev pub opens : List Group → ℕ
opens [] = 0
opens (g ∷ gs) = g.depth + opens gs

abbrev pub braces : Reader → ℕ
braces s = s.inner.depth + opens s.outer

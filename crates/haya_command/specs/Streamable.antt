-- Runs whose hits can be answered one by one, as they come.
use Rattle.std.specs.Prelude.{◌==◌, ◌&&◌, Bool, length}
use Rattle.haya_asked.specs.Asked.{keeps_repeats}
use Rattle.haya_command.specs.declared.options.Options.{Options}

-- the hits aren't sorted, nor told from others that share their values
abbrev pub is_streamable : Options → Bool
is_streamable options =
    length options.questions.keys.items == 0 && keeps_repeats options.questions.repeats

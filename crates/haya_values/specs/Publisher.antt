-- Publishers by value.
use Rattle.std.specs.Prelude.{ℕ, List, Option, None, Some, option_map}
use Rattle.haya_text.specs.Texts.{TextView, text_read, text_view}
use Rattle.haya_values.specs.declared.publisher.Publisher.{Publisher}

pub record PublisherView : Type 0 where
  pub name : Option TextView
  pub location : Option TextView

abbrev pub publisher_view : Publisher → PublisherView
publisher_view p = record {
  name = option_map text_view p.name;
  location = option_map text_view p.location;
}

-- a publisher by its name alone
abbrev pub publisher_named : TextView → PublisherView
publisher_named name = record { name = Some name; location = None }

-- what a text reads as: the publisher of that name
abbrev pub publisher_read : List ℕ → Option PublisherView
publisher_read text = option_map publisher_named (text_read text)

-- Texts and publishers that are read from what is printed of them.
use Rattle.std.proofs.Common.{◌≡◌, List, Option, None, Some, Ok, refl}
use Rattle.std.specs.Prelude.{IfSome}
use Rattle.haya_text.specs.Chunks.{Chunk}
use Rattle.haya_text.specs.Texts.{TextView}
use Rattle.haya_values.specs.Publisher.{PublisherView}
use Rattle.haya_json.specs.Values.{format_of, chunks_of, publisher_of}
use Rattle.haya_json.specs.Printed.{format_json, publisher_json}
use Rattle.haya_json.specs.Readable.{AreReadable, IsReadableText, IsReadablePublisher}
use Rattle.haya_json.proofs.Solids.{solid, format_of_null}

pub format_back : (t : TextView) → IsReadableText t → format_of (format_json t) ≡ Ok t
unfolding format_of format_json chunks_of
format_back t back = by t.short back.short
  where
    by : (o : Option (List Chunk)) → IfSome o AreReadable → format_of (format_json (record { value = t.value; short = o })) ≡ Ok (record { value = t.value; short = o })
    by None h = rw back.value refl
    by (Some short) h = rw (back.value, h) refl

pub publisher_back : (p : PublisherView) → IsReadablePublisher p → publisher_of (publisher_json p) ≡ Ok p
unfolding publisher_of publisher_json
publisher_back p back = by p.name p.location back.name back.location
  where
    alone : (value : List Chunk) (short : Option (List Chunk)) → IsReadableText (record { value = value; short = short })
        → publisher_of (publisher_json (record { name = Some (record { value = value; short = short }); location = None })) ≡ Ok (record { name = Some (record { value = value; short = short }); location = None })
    alone value None back = rw back.value refl
    alone value (Some short) back =
        let t : TextView = record { value = value; short = Some short } in
        rw (solid format_of (format_json t) t format_of_null (format_back t back), format_back t back) refl

    by : (n l : Option TextView) → IfSome n IsReadableText → IfSome l IsReadableText
        → publisher_of (publisher_json (record { name = n; location = l })) ≡ Ok (record { name = n; location = l })
    by None None h k = refl
    by None (Some l) h k = rw (solid format_of (format_json l) l format_of_null (format_back l k), format_back l k) refl
    by (Some n) None h k = alone n.value n.short h
    by (Some n) (Some l) h k =
        rw (solid format_of (format_json n) n format_of_null (format_back n h), format_back n h, solid format_of (format_json l) l format_of_null (format_back l k), format_back l k) refl

use Rattle.std.proofs.Common.{subst, sym}
use Rattle.haya_source_stream.specs.Parts.{BeginParts}
use Rattle.haya_source_stream.proofs.streaming.ask_elements.Goals as goal

pub ask_parts-requires-clause-begin : goal.ask_parts-requires-clause-begin
ask_parts-requires-clause-begin g c = λ d taken held parts begins.
    subst (λ k. BeginParts k taken parts held) (sym c.in-Items.is) (d, begins)

pub ask_parts-requires-in-Members-clause-begin : goal.ask_parts-requires-in-Members-clause-begin
ask_parts-requires-in-Members-clause-begin g c = λ d taken held parts begins.
    subst (λ k. BeginParts k taken parts held) (sym c.in-Members.is) (d, begins)

pub ask_parts-requires-in-Lines-clause-begin : goal.ask_parts-requires-in-Lines-clause-begin
ask_parts-requires-in-Lines-clause-begin g c = λ d taken held parts begins.
    subst (λ k. BeginParts k taken parts held) (sym c.in-Lines.is) (d, begins)

-- A writer is a sink. Assumes nothing.
use Rattle.std.specs.Prelude.{ℕ, List, ◌++◌, Result, Ok, Err, ⊤}
use Rattle.std.proofs.Common.{sym, ap, ◌∙◌}
use Rattle.display.specs.declared.Full.{Full}
use Rattle.display.specs.declared.Writer.{Writer}
use Rattle.display.specs.Writing.{Writes}
use Rattle.display.specs.WritingLaws.{written_next, written_append, next_ok, next_full}
use Rattle.display.specs.Sink.{SinkLaws}

module _ (a b : Writer) (s t : List ℕ) where
  writer_more : (c : Writer) (x : ⊤) (r : Result ⊤ Full) → Writes a b (Ok x) s → Writes b c r t → Writes a c r (s ++ t)
  writer_more c x r p q = (q.0 ∙ p.0, q.1 ∙ sym (written_append a.buffer.now a.at s t ∙ ap (λ z. written_next z t) (sym p.1) ∙ next_ok x b.buffer.now b.at t))

  writer_stop : (x : Full) → Writes a b (Err x) s → Writes a b (Err x) (s ++ t)
  writer_stop x p = (p.0, sym (written_append a.buffer.now a.at s t ∙ ap (λ z. written_next z t) (sym p.1) ∙ next_full x (b.buffer.now, b.at) t))

pub writer_laws : SinkLaws Writer Writes
writer_laws = record {
  more = λ {a} {b} {c} {x} {r} {s} {t} p q. writer_more a b s t c x r p q;
  stop = λ {a} {b} {x} {s} t p. writer_stop a b s t x p;
}

-- What is told of a kernel.
use Rattle.std.specs.Prelude.{ℕ, List}
use Rattle.mm_kernel.specs.declared.{fact.Leak.Leak, form.Form.Form, thread.Origin.Origin}
use Rattle.mm_span.specs.Spans.{Span}

-- an origin of threads, and the runs of kept words that its threads read and write
pub record Party : Type 0 where
  pub origin : Origin
  pub reads : List Span
  pub writes : List Span

pub record Told : Type 0 where
  pub parties : List Party
  pub code : List Span
  pub cells : List (ℕ × Form)
  pub leaks : List Leak

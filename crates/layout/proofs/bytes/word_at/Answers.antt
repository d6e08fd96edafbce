-- `layout::bytes::word_at` meets its contract: what four bytes are worth is the word by definition. Assumes nothing.
use Rattle.std.proofs.Common.{ap, ◌∙◌, arith}
use Rattle.layout.specs.Bytes.{complement, word_at}
use Rattle.layout.proofs.bytes.word_at.Goals as goal

pub returns : goal.returns
unfolding word_at
returns c = record { is = ap complement (c.from.ensures ∙ c.from_le_bytes-w.ensures ∙ omega arith); fits = omega arith }

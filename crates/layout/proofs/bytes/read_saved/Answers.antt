-- `layout::bytes::read_saved` meets its contract: five words are the record. Assumes nothing.
use borrow.Author.Rules.{rules}
use Rattle.layout.specs.Bytes.{saved_at}
use Rattle.layout.proofs.bytes.read_saved.Goals as goal

pub returns : goal.returns
unfolding saved_at
returns c =
    record {
      is = cc;
      fits = search rules;
    }

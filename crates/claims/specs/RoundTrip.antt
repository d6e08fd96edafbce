-- A save whose list is long enough is accepted; what it wrote, loaded into a table that takes as many solids, is the same picture, and is saved again
-- as the same bytes. So for every lent table, and after every history. Assumes nothing.
use Rattle.std.specs.Prelude.{◌≡◌, List, ℕ, ◌+◌, ◌*◌, ◌≤◌, ℤ, pos, length, get_or}
use Rattle.std.proofs.Common.{SFits}
use Rattle.std.specs.Int.{w32}
use Rattle.ruler.specs.Ruler.{ruler_fits}
use Rattle.table.specs.Words.{WIDTH, LABEL, records_of, num}
use Rattle.table.specs.Sound.{SizeRight, capacity, solids_in}
use Rattle.layout.specs.Order.{LabelsFit}
use Rattle.layout.specs.Bytes.{SAVED}
use Rattle.ushanderi.specs.Answers.{accepted, without_cell}
use Rattle.ushanderi.specs.declared.answer.Answer.{Answer}
use Rattle.ushanderi.specs.declared.answer.MetAnswer.{MetAnswer}
use Rattle.ushanderi.specs.Promises.{Fit, SaveSays}
use Rattle.claims.specs.Allowed.{saves}
use Rattle.claims.specs.Terms.{SamePicture}

-- ---- save, then load
pub save_accepted : (t : List ℤ) (out out' : List ℕ) (a : Answer) → Fit t → SAVED * solids_in t ≤ length out → SaveSays t out out' a
    → a ≡ accepted (SAVED * solids_in t)
save_accepted t out out' a f h s = (saves t f out out' a h s).is

-- t is sound and its labels are words, the list takes the bytes of its solids, and u takes as many solids
pub record Between (t u : List ℤ) (out : List ℕ) : Type 0 where
  pub fit : Fit t
  pub labels : LabelsFit t
  pub list : SAVED * solids_in t ≤ length out
  pub size : SizeRight u
  pub room : solids_in t ≤ capacity (records_of u)

-- the table u after a load of what was saved of t, and its answer
pub record Restored (t u u' : List ℤ) (b : MetAnswer) : Type 0 where
  pub is : b ≡ without_cell (accepted (solids_in t))
  pub picture : SamePicture t u'
  pub fit : Fit u'
  pub size : length u' ≡ length u

-- ---- whose labels are words
-- a lent table's, every entry of which is a 32-bit word
pub lent_labels : (t : List ℤ) → ((n : ℕ) → SFits w32 (get_or t n (pos 0))) → LabelsFit t
unfolding num
lent_labels t w i s = ruler_fits (get_or t (WIDTH * i + LABEL) (pos 0)) (w (WIDTH * i + LABEL))

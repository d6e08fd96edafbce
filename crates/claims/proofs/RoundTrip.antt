-- A save whose list is long enough is accepted; what it wrote, loaded into a table that takes as many solids, is the same picture, and is saved again
-- as the same bytes. So for every lent table, and after every history. Assumes nothing.
use Rattle.std.specs.Prelude.{◌≡◌, List, ℕ, ◌*◌, ◌/◌, ℤ, length, take}
use Rattle.std.proofs.Common.{sym, ap, ◌∙◌, subst}
use Rattle.table.specs.Words.{records_of}
use Rattle.table.specs.Sound.{capacity, solids_in}
use Rattle.layout.specs.OneOrder.{order_length}
use Rattle.layout.specs.Bytes.{SAVED}
use Rattle.ushanderi.specs.Answers.{accepted, without_cell}
use Rattle.ushanderi.specs.declared.answer.Answer.{Answer}
use Rattle.ushanderi.specs.declared.answer.MetAnswer.{MetAnswer}
use Rattle.ushanderi.specs.Promises.{SaveSays, LoadSays}
use Rattle.claims.specs.HistoryKept.{built_kept}
use Rattle.claims.specs.Allowed.{saves}
use Rattle.claims.proofs.CleanFile.{built_length, clean_loads}
use Rattle.claims.specs.SavedFile.{saved_file, saved_number, saved_bytes, save_by_picture}
use Rattle.claims.proofs.SavedFile.{saved_clean, saved_picture}
use Rattle.claims.specs.RoundTrip.{Between, Restored}

pub round_trip : (t u u' : List ℤ) (out out' : List ℕ) (a : Answer) (b : MetAnswer) → Between t u out → SaveSays t out out' a
    → LoadSays u (take (SAVED * solids_in t) out') u' b → Restored t u u' b
round_trip t u u' out out' a b w s r =
    let v = (saves t w.fit out out' a w.list s).saves in
    let ks = v.solids in
    let file = saved_file t ks in
    let (e, d) = clean_loads u w.size file (saved_clean t w.fit w.labels ks v.lists (capacity (records_of u)) w.room) u' b
    (subst (λ bs. LoadSays u bs u' b) (saved_bytes t out out' (SAVED * solids_in t) v) r) in
    let k = built_kept u w.size file (length file / SAVED) u' d in
    record {
      is = e ∙ ap (λ n. without_cell (accepted n)) (saved_number t ks ∙ order_length t ks v.lists);
      picture = saved_picture t w.fit w.labels ks v.lists u' k;
      fit = record { size = k.size; sound = k.sound };
      size = built_length u w.size file (length file / SAVED) u' d;
    }

-- what was loaded is saved as the bytes that it was loaded from
pub saved_again : (t u u' : List ℤ) (out o o' : List ℕ) (a c : Answer) (b : MetAnswer) → Between t u out → SaveSays t out o a
    → LoadSays u (take (SAVED * solids_in t) o) u' b → SaveSays u' out o' c → (c ≡ a) × (o' ≡ o)
saved_again t u u' out o o' a c b w s r q =
    let k = round_trip t u u' out o a b w s r in
    let (e, d) = save_by_picture t u' w.fit k.fit k.picture out o o' a c s q in
    (sym e, sym d)

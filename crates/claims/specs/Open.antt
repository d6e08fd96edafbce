-- What 01 leaves open is open: a create may give its solid one record or another, so the promise allows two answers that differ. Assumes nothing.
use Rattle.std.specs.Prelude.{◌≡◌, refl, List, [], ◌∷◌, ℕ, ℤ, length}
use Rattle.std.proofs.Common.{sym, ◌∙◌, arith}
use mathlib.Core.List.Memᴰ
use Rattle.ruler.specs.Ruler.{ruler}
use Rattle.table.specs.Words.{num}
use Rattle.table.specs.Sound.{SolidIn}
use Rattle.table.specs.FreshSound.{fresh_no_solid}
use Rattle.ushanderi.specs.Answers.{accepted, without_cell}
use Rattle.ushanderi.specs.Edits.{Adds}
use Rattle.ushanderi.specs.Promises.{CreateDone, CreateSays}
use Rattle.claims.specs.AgreeChecks.{solid_used}
use Rattle.claims.specs.AgreePicture.{tile_once}
use Rattle.claims.specs.Draws.{draws_free}
use Rattle.claims.specs.Tables.{full_draws, full_next_draws}
use Rattle.claims.specs.ExamplesHold.{blank_draws}
use Rattle.claims.specs.Drawing.{W, Draws, area_of, full_next, full, blank}

adds_whole : (u : List ℤ) (k : ℕ) → Draws u (W ∷ []) → SolidIn u k → Adds blank u k W
adds_whole u k d s = record {
  new = s;
  is = Memᴰ.eq_of_singleton (d.each k s);
  was_none = λ o. Memᴰ.not-nil (blank_draws.each k o);
  kept = λ i o. absurd (Memᴰ.not-nil (blank_draws.each i o));
  only = λ i o n.
      absurd (n (tile_once u d.fit i k (solid_used u i o) (solid_used u k s)
      (Memᴰ.eq_of_singleton (d.each i o) ∙ sym (Memᴰ.eq_of_singleton (d.each k s)))));
}

whole_done : (u : List ℤ) (k : ℕ) → Draws u (W ∷ []) → SolidIn u k → length u ≡ 200 → CreateDone blank (area_of W) W.paint.label u k
unfolding ruler blank
whole_done u k d s l = record {
  allows = record {
    fit = blank_draws.fit;
    rect = omega arith;
    named = omega arith;
    free = λ x y h. draws_free blank [] x y blank_draws tt;
    few = omega (arith, fresh_no_solid 200 (omega arith) (omega arith));
  };
  edited = record { sound = d.fit.sound; size = l };
  adds = adds_whole u k d s;
}

-- the whole plane as one solid, drawn on a fresh plane: record 0 is allowed, and so is record 1
pub new_record_open : CreateSays blank (area_of W) W.paint.label full (without_cell (accepted 0))
    × CreateSays blank (area_of W) W.paint.label full_next (without_cell (accepted 1))
unfolding full full_next num ruler
new_record_open = (
  CreateSays.done 0 (whole_done full 0 full_draws (record { below = omega arith; kind = refl }) refl) refl,
  CreateSays.done 1 (whole_done full_next 1 full_next_draws (record { below = omega arith; kind = refl }) refl) refl,
)

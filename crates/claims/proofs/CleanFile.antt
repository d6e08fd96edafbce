-- A file that no check refuses is loaded whole. Assumes nothing.
use Rattle.std.specs.Prelude.{◌≡◌, List, ℕ, ◌/◌, ◌<◌, ℤ, length}
use Rattle.std.proofs.Common.{◌∙◌, subst, arith}
use Rattle.geometry.specs.Picture.{Has}
use Rattle.table.specs.Words.{records_of, tile_of}
use Rattle.table.specs.Sound.{SizeRight, capacity}
use Rattle.table.specs.FreshSound.{fresh_length}
use Rattle.seek.specs.Meaning.{FreeArea}
use Rattle.layout.specs.Bytes.{saved_at, SAVED}
use Rattle.ushanderi.specs.Answers.{accepted, without_cell}
use Rattle.ushanderi.specs.declared.answer.MetAnswer.{MetAnswer}
use Rattle.ushanderi.specs.Promises.{CreateAllows, area_in, Built, LoadStops, LoadSays}
use Rattle.claims.specs.AgreePicture.{shows}
use Rattle.claims.specs.History.{filed, filed_at, Kept}
use Rattle.claims.specs.HistoryAccount.{filed_length, among_filed}
use Rattle.claims.specs.HistoryKept.{built_kept}
use Rattle.claims.specs.Allowed.{never_refused}
use Rattle.claims.specs.Terms.{Clean}

module _ (t : List ℤ) (s : SizeRight t) (bs : List ℕ) where
  pub built_length : (n : ℕ) (u : List ℤ) → Built (length t) bs n u → length u ≡ length t
  built_length n u Built.none = fresh_length (length t) (omega (arith, s.least))
  built_length n u (Built.more {n = m} {u = w} b k c) = c.edited.size ∙ built_length m w b

  module _ (c : Clean bs (capacity (records_of t))) where
    next_free : (n : ℕ) (u : List ℤ) → n < length bs / SAVED → Kept u (filed bs n) → FreeArea u (area_in bs n)
    next_free n u h k x y a i o p =
        let (m, b, e) = among_filed bs n (tile_of u i) ((k.solids (tile_of u i)).1 (shows u i o)) in
        let q : Has (filed_at bs m) x y = subst (λ v. Has v x y) e p in
        c.apart m n x y b h (omega (arith, q)) a

    -- so no create is refused
    next_allowed : (n : ℕ) (u : List ℤ) → n < length bs / SAVED → Built (length t) bs n u → CreateAllows u (area_in bs n) (saved_at bs n).label
    next_allowed n u h b =
        let k = built_kept t s bs n u b in
        record {
          fit = record { size = k.size; sound = k.sound };
          rect = c.rect n h;
          named = c.label n h;
          free = next_free n u h k;
          few = omega (arith, c.few, k.number, filed_length bs n, built_length n u b);
        }

    pub clean_loads : (t' : List ℤ) (a : MetAnswer) → LoadSays t bs t' a
        → (a ≡ without_cell (accepted (length bs / SAVED))) × Built (length t) bs (length bs / SAVED) t'
    clean_loads t' a (LoadSays.size n e w) = absurd (n s)
    clean_loads t' a (LoadSays.file z n e w) = absurd (n c.whole)
    clean_loads t' a (LoadSays.stopped (LoadStops.stops z r n number u o h b d q e) w) = absurd (never_refused (next_allowed n u h b) d)
    clean_loads t' a (LoadSays.done z r b e) = (e, b)

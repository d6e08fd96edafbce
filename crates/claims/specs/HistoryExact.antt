-- A create within 01's limits is refused exactly for overlap or for N solids, never for want of a record; and every sound table has a free record.
-- Assumes nothing.
use Rattle.std.specs.Prelude.{◌≡◌, Bool, true, false, ◌≢◌, ◌↔◌, ◌⊎◌, List, ℕ, ◌+◌, ◌≤◌, ◌<◌, ℤ, pos, T}
use Rattle.std.proofs.Common.{sym, subst, inl, inr, ⊎_elim, arith}
use Rattle.geometry.specs.Sums.{sum_add, sum_mono, sum_const}
use Rattle.geometry.specs.Picture.{ZERO, SPACE, SOLID, Tile}
use Rattle.geometry.specs.Tiling.{Kinded, eq→eqb}
use Rattle.geometry.specs.Counting.{only, count}
use Rattle.table.specs.Words.{KIND, records_of, num, tile_of}
use Rattle.table.specs.Sound.{capacity, solid_at, space_at, solids_in, SolidIn}
use Rattle.table.proofs.Forms.{sound_three}
use Rattle.seek.specs.Meaning.{Area, RectRight, FreeArea}
use Rattle.ushanderi.specs.Answers.{DONE, OCCUPIED, FULL, ROOM}
use Rattle.ushanderi.specs.declared.answer.Answer.{Answer}
use Rattle.ushanderi.specs.declared.answer.MetAnswer.{MetAnswer}
use Rattle.ushanderi.specs.Edits.{NoRoom}
use Rattle.ushanderi.specs.Promises.{Unfit, Fit, CreateRefuses, CreateSays, DeleteRefuses, DeleteSays}
use Rattle.claims.specs.AgreeChecks.{not_fit, fit_forms, number_is, met_number, number_one, not_done}
use Rattle.claims.specs.AgreePicture.{shows}
use Rattle.claims.specs.History.{Among, Kept}
use Rattle.claims.specs.Terms.{Shares}

-- ---- create
-- some solid of t shares a cell with the rectangle
pub record Overlaps (t : List ℤ) (A : Area) : Type 0 where
  pub at : ℕ
  pub solid : SolidIn t at
  pub shares : Shares (tile_of t at) A

abbrev pub IsFull : List ℤ → Type 0
IsFull t = solids_in t ≡ capacity (records_of t)

pub record Exact (t : List ℤ) (A : Area) (a : MetAnswer) : Type 0 where
  pub refused : (a.number ≢ pos DONE) ↔ (Overlaps t A ⊎ IsFull t)
  pub occupied : (a.number ≡ pos OCCUPIED) ↔ Overlaps t A
  pub full : (a.number ≡ pos FULL) ↔ ((Overlaps t A → ⊥) × IsFull t)
  pub which : a.number ≢ pos DONE → (a.number ≡ pos OCCUPIED) ⊎ (a.number ≡ pos FULL)

free_apart : (t : List ℤ) (A : Area) → FreeArea t A → Overlaps t A → ⊥
free_apart t A f o = f o.shares.x o.shares.y o.shares.inside o.at o.solid o.shares.has

pub create_exact : (t : List ℤ) (A : Area) (label : ℕ) (t' : List ℤ) (a : MetAnswer) → Fit t → RectRight A → ZERO < label
    → CreateSays t A label t' a → Exact t A a
create_exact t A label t' a f r l (CreateSays.refuses (CreateRefuses.unfit b n e) w) = absurd (not_fit t b n f)
create_exact t A label t' a f r l (CreateSays.refuses (CreateRefuses.rect g n e) w) = absurd (n r)
create_exact t A label t' a f r l (CreateSays.refuses (CreateRefuses.label g s m e) w) = absurd (omega arith)
create_exact t A label t' a f r l (CreateSays.refuses (CreateRefuses.occupied g s m x y i h e) w) =
    let o : Overlaps t A = record { at = i; solid = h.solid; shares = record { x = x; y = y; inside = h.inside; has = h.has } } in
    record {
      refused = (λ n. inl o, λ h. not_done (met_number e) (λ e. omega arith));
      occupied = (λ n. o, λ o. met_number e);
      full = (λ n. absurd (omega (arith, number_one (met_number e) n)), λ p. absurd (p.0 o));
      which = λ n. inl (met_number e);
    }
create_exact t A label t' a f r l (CreateSays.refuses (CreateRefuses.full g s m h k e) w) =
    record {
      refused = (λ n. inr k, λ h. not_done (met_number e) (λ e. omega arith));
      occupied = (λ n. absurd (omega (arith, number_one (met_number e) n)), λ o. absurd (free_apart t A h o));
      full = (λ n. (free_apart t A h, k), λ p. met_number e);
      which = λ n. inr (met_number e);
    }
create_exact t A label t' a f r l (CreateSays.done i d e) =
    let b = d.allows in
    record {
      refused = (λ n. absurd (n (met_number e)), λ o. absurd (⊎_elim (free_apart t A b.free) (λ q. omega (arith, b.few)) o));
      occupied = (λ n. absurd (omega (arith, number_one (met_number e) n)), λ o. absurd (free_apart t A b.free o));
      full = (λ n. absurd (omega (arith, number_one (met_number e) n)), λ p. absurd (omega (arith, b.few, p.1)));
      which = λ n. absurd (n (met_number e));
    }

-- ---- the same by the account
-- some solid accepted and not deleted shares a cell with the rectangle
pub record Covers (S : List Tile) (A : Area) : Type 0 where
  pub tile : Tile
  pub among : Among S tile
  pub shares : Shares tile A

pub covers_overlaps : (t : List ℤ) (S : List Tile) (A : Area) → Kept t S → Covers S A → Overlaps t A
covers_overlaps t S A k c =
    let h = (k.solids c.tile).0 c.among in
    record { at = h.at; solid = h.solid; shares = subst (λ v. Shares v A) (sym h.is) c.shares }

pub overlaps_covers : (t : List ℤ) (S : List Tile) (A : Area) → Kept t S → Overlaps t A → Covers S A
overlaps_covers t S A k o =
    record { tile = tile_of t o.at; among = (k.solids (tile_of t o.at)).1 (shows t o.at o.solid); shares = o.shares }

-- ---- a free record
both_counts : (n : ℕ) (p q : ℕ → Bool) → ((k : ℕ) → k < n → T (p k) ⊎ T (q k)) → n ≤ count n p + count n q
unfolding count
both_counts n p q f =
    omega (
      arith,
      sum_const n 1,
      sum_add n (λ k. only (p k) 1) (λ k. only (q k) 1),
      sum_mono n {f = λ k. 1} {g = λ k. only (p k) 1 + only (q k) 1} (λ k h. go (p k) (q k) (f k h)),
    )
  where
    go : (b c : Bool) → T b ⊎ T c → 1 ≤ only b 1 + only c 1
    go true c s = omega arith
    go false true s = omega arith
    go false false s = absurd (⊎_elim (λ t. t) (λ t. t) s)

-- every sound table has a free record
pub never_room : (t : List ℤ) → Fit t → NoRoom t → ⊥
never_room t f n =
    let g = fit_forms t f in
    omega (
      arith,
      g.few,
      f.size.least,
      sound_three t f.size.most f.sound,
      both_counts (records_of t) (solid_at t) (space_at t) (λ i h. kind i (g.widest.kinded i (record { below = h; used = n i h }))),
    )
  where
    kind : (i : ℕ) → Kinded (tile_of t i) → T (solid_at t i) ⊎ T (space_at t i)
    kind i (Kinded.space p) = inr (eq→eqb (num t i KIND) SPACE p.kind)
    kind i (Kinded.solid p) = inl (eq→eqb (num t i KIND) SOLID p.kind)

-- so no delete answers ROOM
pub delete_never_room : (t : List ℤ) (x y : ℕ) (t' : List ℤ) (a : Answer) → DeleteSays t x y t' a → a.number ≢ pos ROOM
delete_never_room t x y t' a (DeleteSays.refuses (DeleteRefuses.unfit (Unfit.size n e)) w) h = omega (arith, number_one (number_is e) h)
delete_never_room t x y t' a (DeleteSays.refuses (DeleteRefuses.unfit (Unfit.unsound s n e)) w) h = omega (arith, number_one (number_is e) h)
delete_never_room t x y t' a (DeleteSays.refuses (DeleteRefuses.point f n e) w) h = omega (arith, number_one (number_is e) h)
delete_never_room t x y t' a (DeleteSays.refuses (DeleteRefuses.space f i m k e) w) h = omega (arith, number_one (number_is e) h)
delete_never_room t x y t' a (DeleteSays.refuses (DeleteRefuses.room f i m s n e) w) h = never_room t f n
delete_never_room t x y t' a (DeleteSays.done i d e) h = omega (arith, number_one (number_is e) h)

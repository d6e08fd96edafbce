-- The stitches: each stitch of a used record names its cell's tile. Assumes nothing.
use Rattle.std.specs.Prelude.{◌≡◌, ◌≢◌, Bool, List, ℕ, ◌-◌, ◌≤◌, ◌<◌, T, ℤ}
use Rattle.std.proofs.Common.{sym, ap, ◌∙◌, subst, arith, T_not}
use Rattle.geometry.specs.Cases.{T_of}
use Rattle.geometry.specs.Picture.{ZERO, FREE, InPlane, Has}
use Rattle.geometry.specs.Plane.{Formed}
use Rattle.table.specs.Words.{TR, RT, BL, LB, KIND, num, records_of, tile_of}
use Rattle.table.specs.Sound.{SizeRight, UsedIn, Named, Names, Stitched}
use Rattle.table.specs.Forms.{plane_in, link, link_below}
use Rattle.table.specs.Decide.{hasb, hasb_has, has_hasb}
use Rattle.table.specs.Reading.{Reads}
use Rattle.table.specs.declared.Record.{Record}
use Rattle.sound.specs.Records.{Well, AllWell, has_used}

-- ---- one stitch, by the record k that its bits number

module _ (t : List ℤ) (w x y k : ℕ) (few : records_of t ≤ 4016) (e : k ≡ link w) where
  pub named_at : Named t w x y → UsedIn t k × Has (tile_of t k) x y
  named_at n =
      let d : w - ZERO ≡ k = omega arith in
      (subst (UsedIn t) d n.used, subst (λ m. Has (tile_of t m) x y) d n.has)

  at_named : UsedIn t k → Has (tile_of t k) x y → Named t w x y
  at_named u h =
      let r = link_below w (omega arith) in
      let d : k ≡ w - ZERO = e ∙ sym r.number in
      record { from = r.from; used = subst (UsedIn t) d u; has = subst (λ m. Has (tile_of t m) x y) d h }

  pub held_names : AllWell t → k < records_of t → Has (tile_of t k) x y → Names t w x y
  held_names a h v =
      let u : UsedIn t k = record { below = h; used = has_used t k x y a h v } in
      let f = (a k h).formed u.used in
      record { inside = λ _. at_named u v; outside = λ n. absurd (n (omega arith)) }

  pub names_held : k < records_of t → Names t w x y → Has (tile_of t k) x y
  names_held h n =
      let here : Bool = hasb t k x y in
      hasb_has t k x y (T_of here (λ b. let o = n.outside (λ p. T_not here b (has_hasb t k x y (named_at (n.inside p)).1)) in omega arith))

  -- past the records: no tile is named
  pub past_outside : records_of t ≤ k → Names t w x y → InPlane x y → ⊥
  past_outside h n p = let u = (named_at (n.inside p)).0 in omega arith

-- ---- the four of a record

-- the same of the numbers that were read
pub record StitchedBy (t : List ℤ) (i : ℕ) (v : Record) : Type 0 where
  pub tr : Names t (num t i TR) v.right (v.top - 1)
  pub rt : Names t (num t i RT) (v.right - 1) v.top
  pub bl : Names t (num t i BL) (v.left - 1) v.bottom
  pub lb : Names t (num t i LB) v.left (v.bottom - 1)

names_at : (t : List ℤ) (w x x' y y' : ℕ) → x ≡ x' → y ≡ y' → Names t w x y → Names t w x' y'
names_at t w x x' y y' q r h = rw (q, r) at h

pub stitched_by : (t : List ℤ) (i : ℕ) (v : Record) → Reads t i v → StitchedBy t i v → Stitched t i
stitched_by t i v h s = record {
  tr = names_at t _ _ _ _ _ h.right (ap (λ n. n - 1) h.top) s.tr;
  rt = names_at t _ _ _ _ _ (ap (λ n. n - 1) h.right) h.top s.rt;
  bl = names_at t _ _ _ _ _ (ap (λ n. n - 1) h.left) h.bottom s.bl;
  lb = names_at t _ _ _ _ _ h.left (ap (λ n. n - 1) h.bottom) s.lb;
}

pub by_stitched : (t : List ℤ) (i : ℕ) (v : Record) → Reads t i v → Stitched t i → StitchedBy t i v
by_stitched t i v h s = record {
  tr = names_at t _ _ _ _ _ (sym h.right) (sym (ap (λ n. n - 1) h.top)) s.tr;
  rt = names_at t _ _ _ _ _ (sym (ap (λ n. n - 1) h.right)) (sym h.top) s.rt;
  bl = names_at t _ _ _ _ _ (sym (ap (λ n. n - 1) h.left)) (sym h.bottom) s.bl;
  lb = names_at t _ _ _ _ _ (sym h.left) (sym (ap (λ n. n - 1) h.bottom)) s.lb;
}

-- record i, if it is used
abbrev pub Linked : List ℤ → ℕ → Type 0
Linked t i = num t i KIND ≢ FREE → Stitched t i

abbrev pub AllStitched : List ℤ → Type 0
AllStitched t = (i : ℕ) → UsedIn t i → Stitched t i

-- what the test of record i went by
pub link_used : (t : List ℤ) (i : ℕ) (v : Record) → Reads t i v → v.kind ≢ FREE → Linked t i → StitchedBy t i v
link_used t i v h n l = by_stitched t i v h (l (λ e. n (h.kind ∙ e)))

pub all_stitched : (t : List ℤ) → ((i : ℕ) → i < records_of t → Linked t i) → AllStitched t
all_stitched t f i u = f i u.below u.used

pub stitched_all : (t : List ℤ) → AllStitched t → (i : ℕ) → i < records_of t → Linked t i
stitched_all t f i h n = f i (record { below = h; used = n })

-- ---- what the first pass finds of a record, and of all

pub record Ready (t : List ℤ) : Type 0 where
  pub size : SizeRight t
  pub well : AllWell t
  pub stitched : AllStitched t

pub ready_formed : (t : List ℤ) (i : ℕ) → Ready t → UsedIn t i → Formed (plane_in t) i
ready_formed t i g u = (g.well i u.below).formed u.used

-- The test of record i says yes only if it is well and, where all records are, its stitches are right; and says yes wherever all that holds of all.
pub record Tested (t : List ℤ) (i : ℕ) (r : Bool) : Type 0 where
  pub well : T r → Well t i
  pub linked : T r → AllWell t → Linked t i
  pub passes : Ready t → T r

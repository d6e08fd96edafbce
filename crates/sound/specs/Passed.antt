-- What the tests of the check say together, and that it is the form of a sound table: a table that passes them has it, and one that has it
-- passes each. Assumes nothing.
use Rattle.std.specs.Prelude.{◌≡◌, refl, ◌≢◌, not, List, ℕ, ◌-◌, ◌^◌, ◌≤◌, ◌<◌, T, eqb, ℤ}
use Rattle.std.proofs.Common.{sym, subst, arith, T_not, eqb→eq}
use Rattle.std.proofs.Math.Dec.{not_T, eqb_refl}
use Rattle.geometry.specs.Cases.{eq_cases}
use Rattle.geometry.specs.Picture.{LOW, HIGH, SPACE, SOLID, Has}
use Rattle.geometry.specs.Plane.{Holds, Held, WellFormed, Covered, Disjoint, area, cover_from_sides, exact_cover, exact_area}
use Rattle.geometry.specs.Strips.{Strips, Space, right_side}
use Rattle.geometry.specs.Stitches.{HoldsUp, on_top}
use Rattle.geometry.specs.Tiling.{solid_of, Kinded, space, solid, Widest}
use Rattle.table.specs.Words.{LEFT, BOTTOM, RIGHT, TOP, RT, KIND, num, records_of, tile_of}
use Rattle.table.specs.Sound.{SizeRight, capacity, solids_in, UsedIn}
use Rattle.table.specs.Forms.{plane_in, link, Forms, used_is, is_used, holds_has, has_holds}
use Rattle.table.proofs.Forms.{stitched_good, good_stitched}
use Rattle.sound.specs.Records.{KindRight, AllWell}
use Rattle.sound.specs.Links.{Ready, ready_formed, named_at}
use Rattle.sound.specs.Columns.{Lined, Rows, AllFit}

-- the right side of tile i: in each of its rows some tile begins there, a solid where i is space
abbrev pub Sided : List ℤ → ℕ → Type 0
Sided t i = num t i RIGHT < HIGH → Rows t (num t i RIGHT) (num t i KIND) (num t i BOTTOM) (num t i TOP)

-- k is a space tile of the span left to right
pub record Twin (t : List ℤ) (k left right : ℕ) : Type 0 where
  pub space : num t k KIND ≡ SPACE
  pub from : num t k LEFT ≡ left
  pub to : num t k RIGHT ≡ right

-- no space tile has at rt a space tile of the same span
abbrev pub Unstacked : List ℤ → ℕ → Type 0
Unstacked t i = num t i KIND ≡ SPACE → num t i TOP < HIGH → Twin t (link (num t i RT)) (num t i LEFT) (num t i RIGHT) → ⊥

pub record Passed (t : List ℤ) : Type 0 where
  pub ready : Ready t
  pub few : solids_in t ≤ capacity (records_of t)
  pub area : area (plane_in t) ≡ 2 ^ 50
  pub first : Rows t LOW SOLID LOW HIGH
  pub sided : (i : ℕ) → UsedIn t i → Sided t i
  pub unstacked : (i : ℕ) → UsedIn t i → Unstacked t i

-- ---- kinds

T_solid : (n : ℕ) → n ≡ SOLID → T (eqb n SOLID)
T_solid n e = subst (λ k. T (eqb k SOLID)) (sym e) (eqb_refl SOLID)

not_solid : (n : ℕ) → n ≡ SPACE → T (not (eqb n SOLID))
not_solid n e = not_T (eqb n SOLID) (λ h. let d = eqb→eq n SOLID h in omega arith)

kind_kinded : (t : List ℤ) (i : ℕ) → KindRight t i → Kinded (tile_of t i)
kind_kinded t i k =
    eq_cases (num t i KIND) SPACE (λ e. space (record { kind = e; label = k.space e })) (λ n. let e : num t i KIND ≡ SOLID = omega arith in solid (record { kind = e; label = k.solid e }))

pub kinded_kind : (t : List ℤ) (i : ℕ) → Kinded (tile_of t i) → KindRight t i
kinded_kind t i (space p) = record { least = omega (arith, p.kind); most = omega (arith, p.kind); space = λ _. p.label; solid = λ d. absurd (omega (arith, p.kind)) }
kinded_kind t i (solid p) = record { least = omega (arith, p.kind); most = omega (arith, p.kind); space = λ d. absurd (omega (arith, p.kind)); solid = λ _. p.label }

-- ---- a table that passes

module _ (t : List ℤ) (p : Passed t) where
  formed : WellFormed (plane_in t)
  formed i u = ready_formed t i p.ready (is_used t i u)

  lined_held : (x of y : ℕ) → Lined t x of y → Held (plane_in t) x y
  lined_held x of y l = (l.tile, has_holds t l.tile x y l.used l.has)

  covered : Covered (plane_in t)
  covered = cover_from_sides (plane_in t) (λ y h k. lined_held LOW SOLID y (p.first y h k))
      (λ i y u h b k. lined_held (num t i RIGHT) (num t i KIND) y (p.sided i (is_used t i u) h y b k))

  disjoint : Disjoint (plane_in t)
  disjoint = exact_cover (plane_in t) formed covered (omega (arith, p.area))

  -- a space tile of the plane is a used record of kind space
  space_kind : (i : ℕ) → Space (plane_in t) (solid_of (tile_of t)) i → num t i KIND ≡ SPACE
  space_kind i s =
      let u = is_used t i s.is in
      let k = (p.ready.well i u.below).kind u.used in
      let n : num t i KIND ≢ SOLID = λ e. T_not (eqb (num t i KIND) SOLID) s.space (T_solid (num t i KIND) e) in
      omega arith

  beside : (i j y : ℕ) → Space (plane_in t) (solid_of (tile_of t)) i → num t i BOTTOM ≤ y → y < num t i TOP
      → Holds (plane_in t) j (num t i RIGHT) y → T (eqb (num t j KIND) SOLID)
  beside i j y s b k h =
      let f = formed j h.is in
      let l = p.sided i (is_used t i s.is) (omega arith) y b k in
      let e = disjoint l.tile j (num t i RIGHT) y (has_holds t l.tile (num t i RIGHT) y l.used l.has) h in
      subst (λ m. T (eqb (num t m KIND) SOLID)) e (T_solid (num t l.tile KIND) (l.fit.kind (space_kind i s)))

  merged : (i j : ℕ) → Space (plane_in t) (solid_of (tile_of t)) i → Space (plane_in t) (solid_of (tile_of t)) j
      → num t i LEFT ≡ num t j LEFT → num t i RIGHT ≡ num t j RIGHT → num t i TOP ≡ num t j BOTTOM → ⊥
  merged i j s q el er et =
      let u = is_used t i s.is in
      let f = formed i s.is in
      let z = formed j q.is in
      let k = link (num t i RT) in
      let (v, o) = named_at t (num t i RT) _ _ k p.ready.size.most refl ((p.ready.stitched i u).rt.inside (omega arith)) in
      let h : Holds (plane_in t) j (num t i RIGHT - 1) (num t i TOP) = record { is = q.is; at = omega arith } in
      let e : k ≡ j = disjoint k j (num t i RIGHT - 1) (num t i TOP) (has_holds t k (num t i RIGHT - 1) (num t i TOP) v o) h in
      p.unstacked i u (space_kind i s) (omega arith) (subst (λ m. Twin t m (num t i LEFT) (num t i RIGHT)) (sym e)
      (record { space = space_kind j q; from = sym el; to = sym er }))

  widest : Widest (records_of t) (tile_of t)
  widest = record {
    kinded = λ i u. kind_kinded t i ((p.ready.well i u.below).kind u.used);
    strips = record { formed = formed; covered = covered; disjoint = disjoint; beside = beside; merged = merged };
  }

  pub passed_forms : SizeRight t → Forms t
  passed_forms s = record {
    zeros = λ i h. (p.ready.well i h).blank;
    widest = widest;
    good = stitched_good t s.most widest p.ready.stitched;
    few = p.few;
  }

-- ---- a table that has the form

module _ (t : List ℤ) (f : Forms t) where
  strips : Strips (plane_in t) (solid_of (tile_of t))
  strips = f.widest.strips

  forms_well : AllWell t
  forms_well i h = record {
    blank = f.zeros i h;
    formed = λ n. strips.formed i (used_is t i (record { below = h; used = n }));
    kind = λ n. kinded_kind t i (f.widest.kinded i (record { below = h; used = n }));
  }

  pub forms_ready : SizeRight t → Ready t
  forms_ready s = record { size = s; well = forms_well; stitched = good_stitched t s.most f.good }

  pub forms_area : area (plane_in t) ≡ 2 ^ 50
  forms_area = exact_area (plane_in t) strips.formed strips.covered strips.disjoint

  pub forms_first : AllFit t LOW SOLID LOW HIGH
  forms_first m y u h b k =
      let w = strips.formed m (used_is t m u) in
      record { left = omega arith; kind = λ e. absurd (omega arith) }

  space_in : (i : ℕ) → UsedIn t i → num t i KIND ≡ SPACE → Space (plane_in t) (solid_of (tile_of t)) i
  space_in i u e = record { is = used_is t i u; space = not_solid (num t i KIND) e }

  -- the plane's upper left cell is held
  pub forms_corner : (i : ℕ) × Has (tile_of t i) LOW (HIGH - 1) × (i < records_of t)
  forms_corner =
      let (i, h) = strips.covered LOW (HIGH - 1) (omega arith) in
      let (u, v) = holds_has t i LOW (HIGH - 1) h in
      (i, v, u.below)

  pub forms_side : (i : ℕ) → UsedIn t i → AllFit t (num t i RIGHT) (num t i KIND) (num t i BOTTOM) (num t i TOP)
  forms_side i u m y v h b k =
      let o = has_holds t m (num t i RIGHT) y v h in
      record {
        left = right_side (plane_in t) (solid_of (tile_of t)) strips i m y (used_is t i u) b k o;
        kind = λ e. eqb→eq (num t m KIND) SOLID (strips.beside i m y (space_in i u e) b k o);
      }

  pub forms_unstacked : Ready t → (i : ℕ) → UsedIn t i → Unstacked t i
  forms_unstacked r i u e h w =
      let g = strips.formed i (used_is t i u) in
      let k = link (num t i RT) in
      let (n, o) = named_at t (num t i RT) _ _ k r.size.most refl ((r.stitched i u).rt.inside (omega arith)) in
      let v : HoldsUp (plane_in t) k (num t i RIGHT) (num t i TOP) = record { is = used_is t k n; at = omega arith } in
      let d = on_top (plane_in t) strips.formed strips.disjoint i k (num t i RIGHT) (used_is t i u) v (omega arith) (omega arith) in
      strips.merged i k (space_in i u e) (space_in k n w.space) (sym w.from) (sym w.to) (sym d)

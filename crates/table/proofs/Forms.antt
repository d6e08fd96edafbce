-- A sound table has the form that proofs use, and a table of that form is sound: the theorems of specs/Forms. Assumes nothing.
use Rattle.std.specs.Prelude.{◌≡◌, List, ℕ, ◌+◌, ◌-◌, ◌*◌, ◌≤◌, ◌<◌, ℤ}
use Rattle.std.proofs.Common.{sym, ap, subst, arith}
use Rattle.geometry.specs.Cases.{lt_cases}
use Rattle.geometry.specs.Picture.{ZERO, LOW, HIGH}
use Rattle.geometry.specs.Tiling.{solids_of, Widest, bound}
use Rattle.geometry.specs.WidestDrawn.{widest_drawn}
use Rattle.geometry.specs.DrawnWidest.{drawn_widest, drawn_count}
use Rattle.geometry.specs.Stitches.{HoldsUp, HoldsDown, Up, Down, Good}
use Rattle.table.specs.Words.{LEFT, BOTTOM, RIGHT, TOP, TR, RT, BL, LB, records_of, num, tile_of, MOST}
use Rattle.table.specs.Sound.{UsedIn, Named, Names, Stitched, Sound, solids_in, spaces_in}
use Rattle.table.specs.Forms.{plane_in, none, link, stitches_in, Forms, link_below, none_link, used_is, is_used}

-- ---- a stitch by its word and cell, and by its number and point

module _ (t : List ℤ) (few : records_of t ≤ MOST) where
  -- the tile that a word names, up and left of (x, y) and down and right of it
  named_up : (w x y : ℕ) → LOW < x → Named t w (x - 1) y → HoldsUp (plane_in t) (link w) x y
  named_up w x y h n =
      let e : w - ZERO ≡ link w = omega arith in
      subst (λ k. HoldsUp (plane_in t) k x y) e (record { is = used_is t (w - ZERO) n.used; at = omega arith })

  named_down : (w x y : ℕ) → LOW < y → Named t w x (y - 1) → HoldsDown (plane_in t) (link w) x y
  named_down w x y h n =
      let e : w - ZERO ≡ link w = omega arith in
      subst (λ k. HoldsDown (plane_in t) k x y) e (record { is = used_is t (w - ZERO) n.used; at = omega arith })

  -- and what a number names
  up_named : (w x y : ℕ) → HoldsUp (plane_in t) (link w) x y → Named t w (x - 1) y
  up_named w x y h =
      let r = link_below w (omega arith) in
      let v : HoldsUp (plane_in t) (w - ZERO) x y = subst (λ k. HoldsUp (plane_in t) k x y) (sym r.number) h in
      record { from = r.from; used = is_used t (w - ZERO) v.is; has = omega arith }

  down_named : (w x y : ℕ) → HoldsDown (plane_in t) (link w) x y → Named t w x (y - 1)
  down_named w x y h =
      let r = link_below w (omega arith) in
      let v : HoldsDown (plane_in t) (w - ZERO) x y = subst (λ k. HoldsDown (plane_in t) k x y) (sym r.number) h in
      record { from = r.from; used = is_used t (w - ZERO) v.is; has = omega arith }

  pub names_up : (w x y : ℕ) → x ≤ HIGH → LOW ≤ y → Names t w (x - 1) y → Up (plane_in t) none (link w) x y
  names_up w x y hx hy n =
      record {
        inside = λ h k. named_up w x y h (n.inside (omega arith));
        left = λ h. ap link (n.outside (λ p. omega arith));
        over = λ h. ap link (n.outside (λ p. omega arith));
      }

  pub names_down : (w x y : ℕ) → LOW ≤ x → y ≤ HIGH → Names t w x (y - 1) → Down (plane_in t) none (link w) x y
  names_down w x y hx hy n =
      record {
        inside = λ h k. named_down w x y k (n.inside (omega arith));
        right = λ h. ap link (n.outside (λ p. omega arith));
        under = λ h. ap link (n.outside (λ p. omega arith));
      }

  pub up_names : (w x y : ℕ) → x ≤ HIGH → LOW ≤ y → Up (plane_in t) none (link w) x y → Names t w (x - 1) y
  up_names w x y hx hy u =
      record {
        inside = λ p. up_named w x y (u.inside (omega arith) (omega arith));
        outside = λ n. none_link w (lt_cases LOW x (λ h. u.over (lt_cases y HIGH (λ k. absurd (n (omega arith))) (λ k. k))) (λ h. u.left h));
      }

  pub down_names : (w x y : ℕ) → LOW ≤ x → y ≤ HIGH → Down (plane_in t) none (link w) x y → Names t w x (y - 1)
  down_names w x y hx hy d =
      record {
        inside = λ p. down_named w x y (d.inside (omega arith) (omega arith));
        outside = λ n. none_link w (lt_cases LOW y (λ h. d.right (lt_cases x HIGH (λ k. absurd (n (omega arith))) (λ k. k))) (λ h. d.under h));
      }

  pub stitched_good : Widest (records_of t) (tile_of t) → ((i : ℕ) → UsedIn t i → Stitched t i) → Good (plane_in t) (stitches_in t)
  stitched_good w s =
      let g = w.strips in
      record {
        formed = g.formed;
        covered = g.covered;
        disjoint = g.disjoint;
        none = omega arith;
        rt = λ i u. let f = g.formed i u in names_up (num t i RT) (num t i RIGHT) (num t i TOP) f.x_hi (omega arith) (s i (is_used t i u)).rt;
        bl = λ i u. let f = g.formed i u in names_up (num t i BL) (num t i LEFT) (num t i BOTTOM) (omega arith) f.y_lo (s i (is_used t i u)).bl;
        tr = λ i u. let f = g.formed i u in names_down (num t i TR) (num t i RIGHT) (num t i TOP) (omega arith) f.y_hi (s i (is_used t i u)).tr;
        lb = λ i u. let f = g.formed i u in names_down (num t i LB) (num t i LEFT) (num t i BOTTOM) f.x_lo (omega arith) (s i (is_used t i u)).lb;
      }

  pub good_stitched : Good (plane_in t) (stitches_in t) → (i : ℕ) → UsedIn t i → Stitched t i
  good_stitched g i v =
      let u = used_is t i v in
      let f = g.formed i u in
      record {
        tr = down_names (num t i TR) (num t i RIGHT) (num t i TOP) (omega arith) f.y_hi (g.tr i u);
        rt = up_names (num t i RT) (num t i RIGHT) (num t i TOP) f.x_hi (omega arith) (g.rt i u);
        bl = up_names (num t i BL) (num t i LEFT) (num t i BOTTOM) (omega arith) f.y_lo (g.bl i u);
        lb = down_names (num t i LB) (num t i LEFT) (num t i BOTTOM) f.x_lo (omega arith) (g.lb i u);
      }

  -- ---- the two forms are the same

  pub sound_forms : Sound t → Forms t
  sound_forms s =
      let f = s.for in
      let w = drawn_widest (records_of t) (tile_of t) s.solids f.apart f.drawn in
      record {
        zeros = f.free;
        widest = w;
        good = stitched_good w f.stitched;
        few = omega (arith, f.few, drawn_count (records_of t) (tile_of t) s.solids f.apart f.drawn);
      }

  pub forms_sound : Forms t → Sound t
  forms_sound f =
      let (a, d) = widest_drawn (records_of t) (tile_of t) f.widest in
      record {
        solids = solids_of (records_of t) (tile_of t);
        for = record { apart = a; few = f.few; drawn = d; stitched = good_stitched f.good; free = f.zeros };
      }

  -- at most 3 n + 1 space tiles
  pub sound_three : Sound t → spaces_in t ≤ 3 * solids_in t + 1
  sound_three s = bound (records_of t) (tile_of t) (sound_forms s).widest

-- Two sound tables of one length and one picture are one table but for the numbers of their records: the tiles agree, stitches name tiles that agree,
-- and the other records are as many, all zeros. What a reader must believe about the records that 01 leaves open. Assumes nothing.
use Rattle.std.specs.Prelude.{List, ℤ}
use Rattle.std.proofs.Common.{sym, ap, subst, subst₂, arith}
use Prim.Native.Nat.{ℕ, ◌-◌}
use Rattle.geometry.specs.Picture.{ZERO, Has}
use Rattle.table.specs.Words.{TR, RT, BL, LB, num, tile_of}
use Rattle.table.specs.Sound.{Named, Names}
use Rattle.claims.specs.AgreeChecks.{fit_finds_one}
use Rattle.claims.specs.AgreePicture.{space_agrees}
use Rattle.claims.specs.Pictures.{twin}
use Rattle.claims.specs.Terms.{Twins, SameStitch, SameStitches, Renumbered}
use Rattle.claims.specs.AgreeTables.{Alike, free_same, plane_cases}

module _ (u v : List ℤ) (l : Alike u v) where
  named_twins : (w z x y : ℕ) → Named u w x y → Named v z x y → Twins u v (w - ZERO) (z - ZERO)
  named_twins w z x y p q =
      let (j, o) = twin u v l.left l.right l.picture (w - ZERO) p.used in
      let h : Has (tile_of v j) x y = subst (λ a. Has a x y) (sym o.same) p.has in
      let e = fit_finds_one v l.right x y j (z - ZERO) (record { used = o.twin; has = h }) (record { used = q.used; has = q.has }) in
      subst (Twins u v (w - ZERO)) e o

  stitch_same : (w z x y : ℕ) → Names u w x y → Names v z x y → SameStitch u v w z
  stitch_same w z x y p q = plane_cases x y
      (λ h.
      let a = p.inside h in
      let b = q.inside h in
      SameStitch.tile (w - ZERO) (z - ZERO) (omega (arith, a.from)) (omega (arith, b.from)) (named_twins w z x y a b))
      (λ n. SameStitch.none (p.outside n) (q.outside n))

  stitches_same : (i j : ℕ) → Twins u v i j → SameStitches u v i j
  stitches_same i j t =
      let a = l.left.sound.for.stitched i t.used in
      let b = l.right.sound.for.stitched j t.twin in
      let left = ap (λ v. v.left) t.same in
      let right = ap (λ v. v.right) t.same in
      let bottom = ap (λ v. v.bottom) t.same in
      let top = ap (λ v. v.top) t.same in
      record {
        tr = stitch_same _ _ _ _ a.tr (subst₂ (λ x y. Names v (num v j TR) x (y - 1)) right top b.tr);
        rt = stitch_same _ _ _ _ a.rt (subst₂ (λ x y. Names v (num v j RT) (x - 1) y) right top b.rt);
        bl = stitch_same _ _ _ _ a.bl (subst₂ (λ x y. Names v (num v j BL) (x - 1) y) left bottom b.bl);
        lb = stitch_same _ _ _ _ a.lb (subst₂ (λ x y. Names v (num v j LB) x (y - 1)) left bottom b.lb);
      }

pub alike_renumbered : (u v : List ℤ) → Alike u v → Renumbered u v
alike_renumbered u v l = record {
  size = l.size;
  picture = l.picture;
  tiles = space_agrees u v l.left l.right l.picture;
  stitches = stitches_same u v l;
  free = free_same u v l;
  zeros = (l.left.sound.for.free, l.right.sound.for.free);
}
